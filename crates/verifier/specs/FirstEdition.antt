-- What keeps a set within the first edition: its device queue has no cancel routine, and so no
-- register ever holds a packet that stands there.
use Rattle.std.specs.Prelude.{ℕ, ◌≡◌, Bool, true, false}
use Rattle.std.specs.List.{list_any}
use Rattle.model.specs.declared.abs.Abs.{Abs}
use Rattle.model.specs.declared.abs.Kind.{Kind}
use Rattle.model.specs.declared.abs.Kind.TheVariants.{Blank, Num, Lower, New, Own, Queued, View}
use Rattle.model.specs.declared.set.QueueName.{QueueName}
use Rattle.model.specs.declared.set.QueueName.TheVariants.{Declared, DeviceQueue}
use Rattle.model.specs.Edition.{dequeues}
use Rattle.model.specs.Set.{Member, has_cancel}

-- what says of a register that it holds a packet of the device queue
abbrev pub is_waiting : QueueName → Bool
is_waiting (Declared q) = false
is_waiting DeviceQueue = true

abbrev pub waits : Kind → Bool
waits Blank = false
waits Num = false
waits Lower = false
waits New = false
waits Own = false
waits (Queued name stage) = is_waiting name
waits View = false

-- no register holds one
abbrev pub NoneWaits : Abs → Type 0
NoneWaits s = list_any waits s.kinds ≡ false

-- a routine that a set of the first edition may have
pub record IsOfFirst (m : Member) : Type 0 where
  pub uncancelled : has_cancel m.set m.driver DeviceQueue ≡ false
  pub plain : dequeues m.routine ≡ false
