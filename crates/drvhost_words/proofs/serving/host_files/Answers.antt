use Rattle.std.proofs.Common.{◌≡◌, ◌∙◌, None, arith, ap, sym}
use Rattle.drvhost_devices.specs.declared.verification.Verification.TheVariants.{Required}
use Rattle.drvhost_files.specs.Files.{failures_of}
use Rattle.drvhost_words.specs.Program.{AreWarningsBy, IsServedBy}
use Rattle.drvhost_words.specs.Unread.{IsOneOf}
use Rattle.drvhost_many.proofs.Judged.{answers_rightly}
use Rattle.drvhost_words.proofs.Answering.{answers_warned, opens_for_run, served_known, unopened, warned_known}
use Rattle.drvhost_words.proofs.serving.host_files.Goals as goal

pub returns-clause-answers : goal.returns-clause-answers
returns-clause-answers g c =
    let form = c.args.serving.now.form in
    let workers = c.args.serving.now.workers in
    let set = c.args.serving.now.names.set.now in
    let script = c.args.serving.now.names.input.now in
    let reads = g.F.File.Source.failures in
    let named = g.F.Files.supply in
    let supply = g.F.File.Source.supply c.open-file.result in
    let known = named c.args.files.now set in
    let later = c.new-later.ensures in
    let scheduled =
    unopened g.F.File.Source.supply named _ _ _ _ _ later.files later.name later.unopened in
    let unread : failures_of reads c.new-later.result.file ≡ 0 =
    ap (failures_of reads) later.unopened in
    let read : failures_of reads c.serve-status.new.script.file
    ≡ failures_of reads c.into_file-commands.result =
    ap (failures_of reads) (sym c.into_file-commands.ensures) in
    answers_rightly (IsServedBy form workers set script supply _)
    (IsServedBy form workers set script known (named c.args.files.now script))
    _ _ _ _ _ _ _ _ _ _
    (answers_warned _ _ _ _ _ _ _ _ (AreWarningsBy form known _)
    (IsOneOf set script) _ _ _ _ _ _ _ _ _ _
    c.serve-status.ensures.answers
    (warned_known form known supply c.open-file.ensures.supply _)
    (rw c.failures-failures.ensures at c.tell_which_unread.ensures)
    (omega (arith, read, c.close_both.ensures.failures)))
    (served_known form workers set script known supply _ _ c.open-file.ensures.supply scheduled)
    (omega (arith, unread, read, c.open-file.ensures.unread, c.close_both.ensures.failures))

pub returns-clause-opened : goal.returns-clause-opened
returns-clause-opened g c =
    let supply = g.F.File.Source.supply c.open-file.result in
    let known = g.F.Files.supply c.args.files.now c.args.serving.now.names.set.now in
    let left : (c.serve-status.new.script ≡ c.new-later.result)
    → c.into_file-commands.result ≡ None =
    λ same. (rw same at c.into_file-commands.ensures) ∙ c.new-later.ensures.unopened in
    opens_for_run Required known supply c.open-file.ensures.supply
    c.serve-status.ensures.unread c.into_file-commands.result left _ _
    (omega (arith, c.close_both.ensures.opened))
