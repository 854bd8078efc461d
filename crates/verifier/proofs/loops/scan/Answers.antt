use Rattle.std.proofs.Common.{◌<◌, ◌≡◌, length, slice_set, arith}
use Rattle.std.proofs.lemmas.List.{length-set}
use Rattle.verifier.proofs.Scans.{scanned_more, first_within}
use Rattle.verifier.proofs.loops.scan.Goals as goal

pub flag-requires-clause-innermost : goal.flag-requires-clause-innermost
flag-requires-clause-innermost c =
    let within : c.loop-at.at < length c.args.code.now = c.loop-at-test.true in
    let long : length c.loop-at.unclosed ≡ length c.args.code.now = c.loop-at.invariant.flagged.long
    in
    first_within c.args.code.now c.loop-at.at (length c.loop-at.unclosed) c.loop-at.innermost
    c.loop-at.invariant.first (omega arith)

pub open_next-innermost-requires : goal.open_next-innermost-requires
open_next-innermost-requires c =
    let within : c.loop-at.at < length c.args.code.now = c.loop-at-test.true in
    let long : length c.loop-at.opened ≡ length c.args.code.now = c.loop-at.invariant.table.long in
    let same : length (slice_set c.loop-at.opened c.loop-at.at c.loop-at.innermost)
    ≡ length c.loop-at.opened =
    length-set c.loop-at.opened c.loop-at.at c.loop-at.innermost
    in
    first_within c.args.code.now c.loop-at.at
    (length (slice_set c.loop-at.opened c.loop-at.at c.loop-at.innermost)) c.loop-at.innermost
    c.loop-at.invariant.first (omega arith)

pub loop-at-preserved : goal.loop-at-preserved
loop-at-preserved c =
    scanned_more c.args.code.now c.loop-at.at c.index-code-at.result c.loop-at.opened
    c.loop-at.unclosed c.flag.new.unclosed c.loop-at.innermost
    c.open_next-innermost.result c.loop-at.invariant c.loop-at-test.true c.index-code-at.is
    c.flag.ensures c.open_next-innermost.ensures
