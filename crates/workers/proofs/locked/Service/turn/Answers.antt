use Rattle.std.proofs.Common.{◌≡◌, ◌+◌, ℕ, ap, length, subst, sym, ◌∙◌, arith}
use Rattle.std.proofs.Math.ListN.{length-set}
use Rattle.hostcore.specs.Core.{CoreState}
use Rattle.workers.specs.Kept.{Station}
use Rattle.workers.specs.Standing.{AreWaiting, IsWaiting}
use Rattle.workers.proofs.Standstill.{no_marks}
use Rattle.workers.proofs.Turning.{is_own_seat, its_queue, longer, seat_counts, seats_long, turn_entered, turn_met}
use Rattle.workers.proofs.locked.Service.turn.Goals as goal

pub index_mut-seat-requires : goal.index_mut-seat-requires
index_mut-seat-requires g c =
    let long = seats_long g.B.Beginning.core g.B.Beginning.takers _ c.self.invariant.0 in
    omega (arith, c.requires.number)

pub take_turn-requires : goal.take_turn-requires
take_turn-requires g c =
    record {
      queue = its_queue _ _ _ c.args.number c.index_mut-taker.result.now c.self.invariant.0
          c.requires.number c.index_mut-taker.ensures.value _ c.requires.takers;
    }

pub wait-requires-clause-waits : goal.wait-requires-clause-waits
wait-requires-clause-waits g c =
    let waits = c.in-Waits.ensures.turned.0 in
    let seat : c.index_mut-seat.result.now ≡ c.args.number = is_own_seat _ _ _ c.args.number c.self.invariant.0 c.requires.number c.index_mut-seat.result.now c.index_mut-seat.ensures.value in
    subst (λ (core : CoreState). IsWaiting core c.args.number)
    (sym c.in-Waits.ensures.turned.1)
    (subst (λ (t : ℕ). IsWaiting c.self.inside.core t) seat waits)

pub index-requires : goal.index-requires
index-requires g c =
    let long = seats_long g.B.Beginning.core g.B.Beginning.takers _ c.self.invariant.0 in
    let same = length-set c.self.inside.seats.items c.args.number c.take_turn.new.seat in
    omega (arith, long, same, c.requires.number)

pub invariant_of-self : goal.invariant_of-self
invariant_of-self g c = (
  turn_entered _ _ _ c.args.number c.index_mut-taker.result.now c.self.invariant.0
      c.requires.number c.index_mut-taker.ensures.value c.if-number-self.false c.if-self.false _ _
      c.index_mut-seat.result.now c.take_turn.new.seat c.index_mut-seat.ensures.value
      c.in-Entered.ensures.seat c.in-Entered.ensures.turned,
  c.self.invariant.1,
  no_marks _ 64,
)

pub invariant_of-self-in-Full : goal.invariant_of-self-in-Full
invariant_of-self-in-Full g c = (
  rw c.hold.ensures (turn_met _ _ _ c.args.number c.index_mut-taker.result.now
      c.self.invariant.0 c.requires.number c.index_mut-taker.ensures.value c.if-number-self.false
      c.if-self.false _ _ c.index_mut-seat.result.now c.take_turn.new.seat
      c.index_mut-seat.ensures.value c.in-Full.ensures.seat c.in-Full.taken
      c.in-Full.ensures.turned),
  c.self.invariant.1,
  subst (λ (core : CoreState). AreWaiting core c.self.inside.waiting)
      (sym c.in-Full.ensures.turned.1) c.self.invariant.2,
)

pub returns-in-Entered : goal.returns-in-Entered
returns-in-Entered g c = (
  longer _ _ _ _ _ c.in-Entered.ensures.turned
      ∙ ap (λ (s : Station). length s.core.history + 1) c.self.view_is,
  seat_counts _ _ _ c.args.number (turn_entered _ _ _ c.args.number
      c.index_mut-taker.result.now c.self.invariant.0 c.requires.number
      c.index_mut-taker.ensures.value c.if-number-self.false c.if-self.false _ _
      c.index_mut-seat.result.now c.take_turn.new.seat c.index_mut-seat.ensures.value
      c.in-Entered.ensures.seat c.in-Entered.ensures.turned) c.requires.number
      c.index.result.now c.counted.result c.index.ensures c.counted.ensures,
)

pub returns-in-Ended : goal.returns-in-Ended
returns-in-Ended g c = (
  c.in-Ended.ensures.turned.1 ∙ ap (λ (s : Station). s.core) c.self.view_is,
  c.in-Ended.ensures.turned.3
      ∙ is_own_seat _ _ _ c.args.number c.self.invariant.0 c.requires.number
      c.index_mut-seat.result.now c.index_mut-seat.ensures.value,
)
