use Rattle.std.proofs.Common.{◌≡◌, ◌∙◌, None, arith, ap, sym}
use Rattle.drvhost_words.specs.Program.{IsRunBy, verification_of}
use Rattle.drvhost_files.specs.Files.{failures_of}
use Rattle.drvhost_words.specs.Unread.{IsOneOf}
use Rattle.drvhost_many.proofs.Judged.{answers_rightly}
use Rattle.drvhost_words.proofs.Answering.{answers_unread, opens_for_run, unopened, way_known}
use Rattle.drvhost_words.proofs.running.run_files.Goals as goal

pub returns-clause-answers : goal.returns-clause-answers
returns-clause-answers g c =
    let set = c.args.running.names.set in
    let input = c.args.running.names.input in
    let reads = g.F.File.Source.failures in
    let named = g.F.Files.supply in
    let supply = g.F.File.Source.supply c.open-file.result in
    let known = named c.args.files.now set.now in
    let later = c.new-later.ensures in
    let scheduled =
    unopened g.F.File.Source.supply named _ _ _ _ _ later.files later.name later.unopened in
    let unread : failures_of reads c.new-later.result.file ≡ 0 =
    ap (failures_of reads) later.unopened in
    let read : failures_of reads c.run-status.new.input.file
    ≡ failures_of reads c.into_file-input.result =
    ap (failures_of reads) (sym c.into_file-input.ensures) in
    answers_rightly (IsRunBy c.args.running.way set input supply _)
    (IsRunBy c.args.running.way set input known (named c.args.files.now input.now))
    _ _ _ _ _ _ _ _ _ _
    (answers_unread _ _ _ _ _ _ _ (IsOneOf set.now input.now) _ _ _ _ _ _ _ _ _ _
    c.run-status.ensures.answers (rw c.failures-failures.ensures at c.tell_which_unread.ensures)
    (omega (arith, read, c.close_both.ensures.failures)))
    (way_known c.args.running.way set input known supply _ _ c.open-file.ensures.supply scheduled)
    (omega (arith, unread, read, c.open-file.ensures.unread, c.close_both.ensures.failures))

pub returns-clause-opened : goal.returns-clause-opened
returns-clause-opened g c =
    let supply = g.F.File.Source.supply c.open-file.result in
    let known = g.F.Files.supply c.args.files.now c.args.running.names.set.now in
    let left : (c.run-status.new.input ≡ c.new-later.result) → c.into_file-input.result ≡ None =
    λ same. (rw same at c.into_file-input.ensures) ∙ c.new-later.ensures.unopened in
    opens_for_run (verification_of c.args.running.way) known supply c.open-file.ensures.supply
    c.run-status.ensures.unread c.into_file-input.result left _ _
    (omega (arith, c.close_both.ensures.opened))
