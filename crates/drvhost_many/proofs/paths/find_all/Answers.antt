use Rattle.std.proofs.Common.{arith}
use Rattle.drvhost_many.proofs.Finding.{found_end, found_next}
use Rattle.drvhost_many.proofs.paths.find_all.Goals as goal

pub loop-path-preserved : goal.loop-path-preserved
loop-path-preserved g c =
    found_next (λ path. g.F.Files.stands c.args.files.now c.args.search.sought path.now) c.args.paths.now
    c.loop-path.path-index _ _ _ _ _ c.loop-path-test.true c.loop-path.invariant
    c.in_ok-found.ensures c.in_ok-append.ensures.items c.in_ok-append-2.ensures.items

pub returns : goal.returns
returns g c =
    found_end (λ path. g.F.Files.stands c.args.files.now c.args.search.sought path.now) c.args.paths.now
    c.loop-path.path-index _ (omega (arith, c.loop-path-test.false)) c.loop-path.invariant
