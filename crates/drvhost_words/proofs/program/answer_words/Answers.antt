use Rattle.std.proofs.Common.{◌∙◌, inl, inr, refl, sym}
use Rattle.drvhost_words.specs.Program.{EndsAtOnce, IsUsage, JobEnds, WordsEnd}
use Rattle.drvhost_words.proofs.Answering.{refused_status, refused_words}
use Rattle.drvhost_words.proofs.Ending.{counted_as}
use Rattle.drvhost_words.proofs.program.answer_words.Goals as goal

pub returns-in-Ok-clause-answers : goal.returns-in-Ok-clause-answers
returns-in-Ok-clause-answers g c =
    let around = c.args.setting.surroundings in
    let stands = g.F.Files.stands c.args.files.now in
    let supply = g.F.Files.supply c.args.files.now in
    counted_as (JobEnds around stands supply c.in-Ok.job) (WordsEnd around stands supply _)
    _ _ _ _ _ _ _ _ _ _
    (λ opened reads writes told ends. inl (c.in-Ok.job, c.in-Ok.ensures.task, ends))
    c.perform.ensures.answers

pub returns-in-Err-clause-answers : goal.returns-in-Err-clause-answers
returns-in-Err-clause-answers g c =
    let around = c.args.setting.surroundings in
    let stands = g.F.Files.stands c.args.files.now in
    let supply = g.F.Files.supply c.args.files.now in
    counted_as (EndsAtOnce (IsUsage _)) (WordsEnd around stands supply _)
    _ _ _ _ _ _ _ _ _ _ (λ opened reads writes told ends. inr ends)
    (refused_words _ c.in-Err.fault _ _ _ _ _ _ c.in-Err.ensures.refused
    c.refuse_words.ensures.status c.refuse_words.ensures.told)

pub returns-in-Ok-clause-stores : goal.returns-in-Ok-clause-stores
returns-in-Ok-clause-stores g c =
    inr (
      c.in-Ok.job,
      c.in-Ok.ensures.task,
      c.perform.ensures.stores,
    )

pub returns-in-Err-clause-stores : goal.returns-in-Err-clause-stores
returns-in-Err-clause-stores g c =
    inl (
      record { supply = refl; none = refl },
      λ zero. refused_status c.in-Err.fault (sym c.refuse_words.ensures.status ∙ zero),
    )
