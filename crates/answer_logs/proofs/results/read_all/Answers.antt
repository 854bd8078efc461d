use Rattle.std.proofs.Common.{◌+◌, ◌∙◌, arith, string_bytes}
use Rattle.std.proofs.lemmas.Result.{err_from_is_err_and}
use Rattle.answer_logs.proofs.Adding.{found_next, read_as, unfinished}
use Rattle.answer_logs.proofs.results.read_all.Goals as goal

pub returns-in_err-found-clause-reads : goal.returns-in_err-found-clause-reads
returns-in_err-found-clause-reads g c =
    let at = c.loop-name in
    let so = at.invariant.found in
    let p = err_from_is_err_and c.from_residual.result c.from_residual.ensures.1 in
    rw p.1
    (unfinished _ _ c.args.names.now at.name-index so.0 c.found_of.ensures.reads.reads _ _ _ _ _ _ _
    c.loop-name-test.true at.invariant.opened c.found_of.ensures.opened so.2
    c.found_of.ensures.reads.reads_are so.1 c.found_of.ensures.reads.few)

pub returns-in_err-add-clause-reads : goal.returns-in_err-add-clause-reads
returns-in_err-add-clause-reads g c =
    let at = c.loop-name in
    let so = at.invariant.found in
    let p = err_from_is_err_and c.from_residual-in_err-add.result
    c.from_residual-in_err-add.ensures.1 in
    rw p.1
    (unfinished _ _ c.args.names.now at.name-index so.0 c.found_of.ensures.reads.reads _ _ _ _ _ _ _
    c.loop-name-test.true at.invariant.opened c.found_of.ensures.opened so.2
    c.found_of.ensures.reads.reads_are so.1 c.found_of.ensures.reads.few)

pub loop-name-preserved : goal.loop-name-preserved
loop-name-preserved g c =
    let at = c.loop-name in
    let so = at.invariant.found in
    let logging = c.args.logging in
    let names = c.args.names.now in
    let one = c.name-item.result in
    let supply = g.F.Files.supply c.args.files.now in
    let read = c.found_of.ensures.reads in
    record {
      opened = omega (arith, c.found_of.ensures.opened, at.invariant.opened);
      supply = c.found_of.ensures.kept.supply ∙ at.invariant.supply;
      created = c.found_of.ensures.kept.created ∙ at.invariant.created;
      unwritten = c.found_of.ensures.kept.unwritten ∙ at.invariant.unwritten;
      found = (
        so.0 + read.reads,
        omega (arith, so.1, read.few),
        omega (arith, so.2, read.reads_are),
        found_next logging supply names at.name-index one so.0 read.reads _ _ _ _ c.in_ok-found.found
            c.loop-name-test.true c.name-item.is so.3
            (read_as logging supply (g.F.Files.supply at.files) (string_bytes one) c.as_str.result.now
            read.reads c.in_ok-found.found at.invariant.supply c.as_str.ensures.value
            (rw c.in_ok-found.was at read.found))
            c.in_ok-add.ensures.status c.in_ok-add.ensures.findings,
      );
    }
