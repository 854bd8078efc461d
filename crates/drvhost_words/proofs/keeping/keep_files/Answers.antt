use Rattle.std.proofs.Common.{◌≡◌, ◌∙◌, None, arith, ap, sym}
use Rattle.drvhost_devices.specs.declared.verification.Verification.TheVariants.{Required}
use Rattle.drvhost_files.specs.Files.{contents_of, failures_of}
use Rattle.answer_runs.specs.Keeping.{IsKeptOf, IsKeptWith}
use Rattle.answer_runs.specs.Readiness.{AreWarningsOf}
use Rattle.drvhost_words.specs.Unread.{IsOneOf}
use Rattle.drvhost_words.proofs.Answering.{answers_warned, opens_for_run, unopened}
use Rattle.drvhost_words.proofs.Kept.{keeping_known, keeps_history, kept_known, warnings_known}
use Rattle.drvhost_words.proofs.Mended.{answers_moved}
use Rattle.drvhost_words.proofs.Rewritten.{unopened_target}
use Rattle.drvhost_words.proofs.keeping.keep_files.Goals as goal

pub returns-clause-answers : goal.returns-clause-answers
returns-clause-answers g c =
    let workers = c.args.keeping.now.workers in
    let set = c.args.keeping.now.names.set.now in
    let script = c.args.keeping.now.names.input.now in
    let reads = g.F.File.Source.failures in
    let writes = g.F.Target.Sink.failures in
    let named = g.F.Files.supply in
    let supply = g.F.File.Source.supply c.open-file.result in
    let known = named c.args.files.now set in
    let later = c.new-later.ensures in
    let scheduled =
    unopened g.F.File.Source.supply named _ _ _ _ _ later.files later.name later.unopened in
    let unread : failures_of reads c.new-later.result.file ≡ 0 =
    ap (failures_of reads) later.unopened in
    let read : failures_of reads c.host_keeping-status.new.script.file
    ≡ failures_of reads c.into_file-commands.result =
    ap (failures_of reads) (sym c.into_file-commands.ensures) in
    let unwritten : failures_of writes c.new-pending.result.target ≡ 0 =
    ap (failures_of writes) c.new-pending.ensures.unopened in
    let written : failures_of writes c.host_keeping-status.new.target.target
    ≡ failures_of writes c.into_target-target.result =
    ap (failures_of writes) (sym c.into_target-target.ensures) in
    answers_moved (IsKeptOf workers supply _)
    (IsKeptOf workers known (named c.args.files.now script))
    _ _ _ _ _ _ _ _ _ _ _ _
    (answers_warned _ _ _ _ _ _ _ _ (AreWarningsOf known _)
    (IsOneOf set script) _ _ _ _ _ _ _ _ _ _
    (rw c.count-count.ensures.count at c.host_keeping-status.ensures.answers)
    (warnings_known known supply c.open-file.ensures.supply _)
    (rw c.failures-failures.ensures at c.tell_which_unread.ensures)
    (omega (
      arith,
      read,
      c.close_both.ensures.failures,
      c.keep_if_opened.ensures.failures,
    )))
    (keeping_known workers known supply _ _ c.open-file.ensures.supply scheduled)
    (omega (
      arith,
      unread,
      read,
      c.open-file.ensures.unread,
      c.close_both.ensures.failures,
      c.keep_if_opened.ensures.failures,
    ))
    (omega (
      arith,
      unwritten,
      written,
      c.close_both.ensures.unwritten,
      c.keep_if_opened.ensures.unwritten,
    ))

pub returns-clause-opened : goal.returns-clause-opened
returns-clause-opened g c =
    let supply = g.F.File.Source.supply c.open-file.result in
    let known = g.F.Files.supply c.args.files.now c.args.keeping.now.names.set.now in
    let left : (c.host_keeping-status.new.script ≡ c.new-later.result)
    → c.into_file-commands.result ≡ None =
    λ same. (rw same at c.into_file-commands.ensures) ∙ c.new-later.ensures.unopened in
    opens_for_run Required known supply c.open-file.ensures.supply
    c.host_keeping-status.ensures.unread c.into_file-commands.result left _ _
    (omega (
      arith,
      c.close_both.ensures.opened,
      c.keep_if_opened.ensures.opened,
    ))

pub returns-clause-stores : goal.returns-clause-stores
returns-clause-stores g c =
    let workers = c.args.keeping.now.workers in
    let set = c.args.keeping.now.names.set.now in
    let script = c.args.keeping.now.names.input.now in
    let contents = g.F.Target.Sink.contents in
    let named = g.F.Files.supply in
    let before = named c.args.files.now in
    let supply = g.F.File.Source.supply c.open-file.result in
    let known = before set in
    let later = c.new-later.ensures in
    let scheduled =
    unopened g.F.File.Source.supply named _ _ _ _ _ later.files later.name later.unopened in
    let pending = c.new-pending.ensures in
    let first =
    unopened_target contents named _ _ _ _ _ pending.files pending.name pending.unopened in
    let left : (c.host_keeping-status.new.target ≡ c.new-pending.result)
    → c.into_target-target.result ≡ None =
    λ same. (rw same at c.into_target-target.ensures) ∙ pending.unopened in
    keeps_history workers known (before script) c.args.keeping.now.output.now before
    (named c.keep_if_opened.new.files) (g.F.Files.created c.args.files.now)
    (g.F.Files.created c.keep_if_opened.new.files) c.host_keeping-status.result
    (IsKeptWith workers supply _)
    (kept_known workers known supply (before script) _ c.open-file.ensures.supply scheduled)
    _ _ _ _ first contents _ c.into_target-target.result left
    (rw c.count-count.ensures.count at c.host_keeping-status.ensures.touched)
    (ap (contents_of contents _) (sym c.into_target-target.ensures))
    (rw c.close_both.ensures.supply at c.keep_if_opened.ensures.stores)
    (omega (
      arith,
      c.close_both.ensures.created,
      c.keep_if_opened.ensures.created,
    ))
