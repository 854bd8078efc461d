use Rattle.std.proofs.Common.{inl, inr}
use Rattle.drvhost_many.specs.All.{EachEnds, width_of}
use Rattle.drvhost_words.specs.Program.{FileEnds, PathsEnd, settled_judging}
use Rattle.drvhost_words.proofs.Ending.{counted_as, counted_unfound}
use Rattle.drvhost_words.proofs.program.judge_paths.Goals as goal

pub returns-in-Some-clause-answers : goal.returns-in-Some-clause-answers
returns-in-Some-clause-answers g c =
    let stands = g.F.Files.stands c.args.files.now in
    let supply = g.F.Files.supply c.args.files.now in
    let judged = c.args.judged.now in
    let judging = settled_judging c.args.setting.surroundings judged.judging in
    counted_as (FileEnds judging supply c.in-Some.path.now)
    (PathsEnd stands supply judged.paths.items judging judged.jobs) _ _ _ _ _ _ _ _ _ _
    (λ opened reads writes told ends. inl (
      c.in-Ok.names.items,
      rw c.as_slice-paths.ensures.value at c.in-Ok.ensures,
      inl (
        c.in-Some.path.now,
        rw (c.as_slice-paths.ensures.value, c.as_slice.ensures.value) at c.in-Some.ensures.some,
        ends,
      ),
    ))
    (rw c.settled_judging-judging.ensures at c.judge_file.ensures.answers)

pub returns-in-Ok-clause-answers : goal.returns-in-Ok-clause-answers
returns-in-Ok-clause-answers g c =
    let stands = g.F.Files.stands c.args.files.now in
    let supply = g.F.Files.supply c.args.files.now in
    let judged = c.args.judged.now in
    let judging = settled_judging c.args.setting.surroundings judged.judging in
    counted_as (EachEnds judging (width_of c.job_count.result) supply c.in-Ok.names.items)
    (PathsEnd stands supply judged.paths.items judging judged.jobs) _ _ _ _ _ _ _ _ _ _
    (λ opened reads writes told ends. inl (
      c.in-Ok.names.items,
      rw c.as_slice-paths.ensures.value at c.in-Ok.ensures,
      inr (
        rw (c.as_slice-paths.ensures.value, c.as_slice.ensures.value) at c.in-None.ensures.none,
        c.job_count.result,
        c.job_count.ensures,
        ends,
      ),
    ))
    (rw (c.settled_judging-judging.ensures, c.as_slice-in-None.ensures.value)
    at c.answer_each.ensures.answers)

pub returns-clause-answers : goal.returns-clause-answers
returns-clause-answers g c =
    let stands = g.F.Files.stands c.args.files.now in
    let supply = g.F.Files.supply c.args.files.now in
    let judged = c.args.judged.now in
    counted_unfound
    (PathsEnd stands supply judged.paths.items
    (settled_judging c.args.setting.surroundings judged.judging) judged.jobs) _ _ _ _ _ _
    c.no_memory.ensures.status c.no_memory.ensures.told (λ unfound. inr unfound)
