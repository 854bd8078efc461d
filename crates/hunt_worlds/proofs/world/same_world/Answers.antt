use Rattle.hunt_worlds.proofs.Alike.{one_world}
use Rattle.hunt_worlds.proofs.world.same_world.Goals as goal

pub returns-then-threads : goal.returns-then-threads
returns-then-threads c =
    one_world _ _ _ _ _ _ c.device_count-devices.ensures.count c.device_count-devices.ensures.sound
    c.device_count-others.ensures.count c.device_count-others.ensures.sound
    c.if-others-devices.false c.same_threads-threads.ensures c.if-threads.true
    c.same_reads-shared.ensures
