use Rattle.std.proofs.Common.{◌≡◌, ◌<◌, ◌≤◌, arith, length, rules, subst, sym, true}
use Rattle.scenario_run.proofs.Alike.{room_at}
use Rattle.scenario_run.specs.Playing.{Playing, has_room}
use Rattle.scenario_run.proofs.playing.Playing.replayed.Goals as goal

pub apply-requires : goal.apply-requires
apply-requires c =
    let inside : c.loop-event.event-index < length c.args.events.now =
    omega (arith, c.loop-event-test.true) in
    let few : length c.args.events.now ≤ 1000000 = search rules in
    subst (λ (p : Playing). has_room p ≡ true) (sym c.loop-event.invariant)
    (room_at c.args.self.now c.args.events.now c.loop-event.event-index inside few)
