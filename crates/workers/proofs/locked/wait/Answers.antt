use Rattle.std.proofs.Common.{◌≡◌, ◌∙◌, ap, length, arith}
use Rattle.std.proofs.lemmas.List.FromFn.{length-range_with_len}
use Rattle.workers.proofs.Standstill.{one_marked, stand_still}
use Rattle.workers.proofs.locked.wait.Goals as goal

pub none_goes_on-requires : goal.none_goes_on-requires
none_goes_on-requires g c =
    let long : length c.args.seats.now ≡ length g.B.Beginning.takers = ap length c.requires.seats ∙ length-range_with_len 0 (length g.B.Beginning.takers) in
    record { few = omega (arith, long, c.requires.few) }

pub stuck-end-requires-clause-still : goal.stuck-end-requires-clause-still
stuck-end-requires-clause-still g c =
    stand_still c.args.core.now (length g.B.Beginning.takers) _ c.args.gone.now
    (one_marked c.args.core.now c.args.waiting.now c.args.number c.requires.marked c.requires.waits)
    c.args.seats.now c.requires.seats (c.none_goes_on.ensures.0 c.if-not-none_goes_on.false)

pub returns-then-not-none_goes_on-clause-marked : goal.returns-then-not-none_goes_on-clause-marked
returns-then-not-none_goes_on-clause-marked g c =
    one_marked c.args.core.now c.args.waiting.now c.args.number c.requires.marked c.requires.waits

pub returns-clause-marked : goal.returns-clause-marked
returns-clause-marked g c =
    one_marked c.args.core.now c.args.waiting.now c.args.number c.requires.marked c.requires.waits
