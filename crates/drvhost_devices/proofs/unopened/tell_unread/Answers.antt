use Rattle.drvhost_devices.proofs.Writing.{behind_more}
use Rattle.drvhost_devices.proofs.unopened.tell_unread.Goals as goal

pub returns : goal.returns
returns g c =
    behind_more _ _ _ _ _ _ _ _ _ (rw c.as_bytes.ensures.value at c.say_behind.ensures)
    (behind_more _ _ _ _ _ _ _ _ _ (rw c.as_bytes-2.ensures.value at c.say_behind-2.ensures)
    c.say_behind-3.ensures)
