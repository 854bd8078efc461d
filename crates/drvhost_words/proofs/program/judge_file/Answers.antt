use Rattle.std.proofs.Common.{◌≡◌, ◌⊎◌, ℕ, List, Option, inl, inr, refl}
use Rattle.cli.specs.declared.job.Judging.{Judging}
use Rattle.cli.specs.declared.job.Judging.TheVariants.{Check, CheckJson, Explain, ExplainJson}
use Rattle.drvhost_devices.specs.Device.{Supply}
use Rattle.drvhost_devices.specs.declared.coloring.Coloring.{Coloring}
use Rattle.drvhost_devices.specs.declared.extent.Extent.{Extent}
use Rattle.drvhost_many.specs.One.{IsJudgedFrom}
use Rattle.drvhost_words.specs.Program.{FileEnds, WorkEnds}
use Rattle.drvhost_words.proofs.Ending.{counted_alone, counted_as}
use Rattle.drvhost_words.proofs.Tasks.{work_ends}
use Rattle.drvhost_words.proofs.program.judge_file.Goals as goal

-- what is judged otherwise than in lines of text ends as work with a file does
as_work : (judging : Judging) (supply : List ℕ → Supply) (name : List ℕ)
    → (judging ≡ CheckJson) ⊎ (((extent : Extent) × (coloring : Coloring) × (judging ≡ Explain extent coloring))
    ⊎ ((extent : Extent) × (judging ≡ ExplainJson extent)))
    → (opened reads writes : ℕ) (before after : Option (List ℕ)) (status : ℕ) (told : List ℕ)
    → WorkEnds (IsJudgedFrom judging) supply name opened reads writes before after status told
    → FileEnds judging supply name opened reads writes before after status told
as_work Check supply name (inl is) opened reads writes before after status told ends = cc
as_work Check supply name (inr (inl (extent, coloring, is))) opened reads writes before after status told ends = cc
as_work Check supply name (inr (inr (extent, is))) opened reads writes before after status told ends = cc
as_work CheckJson supply name is opened reads writes before after status told ends = ends
as_work (Explain extent coloring) supply name is opened reads writes before after status told ends = ends
as_work (ExplainJson extent) supply name is opened reads writes before after status told ends =
    ends

pub returns-in-Check-clause-answers : goal.returns-in-Check-clause-answers
returns-in-Check-clause-answers g c =
    rw c.in-Check.is
    (counted_alone _ (λ n. n ≡ 1) 1 _ _ _ _ _ _ _ _ _ _ refl c.check_file.ensures.opened
    c.check_file.ensures.answers)

pub returns-in-CheckJson : goal.returns-in-CheckJson
returns-in-CheckJson g c =
    let judging = c.args.judging in
    let supply = g.F.Files.supply c.args.files.now in
    let name = c.args.set.now in
    record {
      answers =
          counted_as (WorkEnds (IsJudgedFrom judging) supply name) (FileEnds judging supply name)
          _ _ _ _ _ _ _ _ _ _
          (λ opened reads writes told ends.
          as_work judging supply name c.in-CheckJson.is opened reads writes _ _ _ told ends)
          (work_ends (IsJudgedFrom judging) supply name _ _ _ _ _ _ _ _ _ _ _ _ _
          c.answer_file.ensures.opened c.answer_file.ensures.answers);
      kept = c.answer_file.ensures.kept;
    }
