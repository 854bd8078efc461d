-- The locks that are left behind: a thread owns them that has no frame.
use Rattle.std.specs.Prelude.{ℕ, ◌++◌, zero, suc, List, [], ◌∷◌, Option, None, Some, if◌then◌else◌}
use Rattle.model.specs.declared.event.Lock.{Lock}
use Rattle.model.specs.declared.event.Lock.TheVariants.{SystemCancel, Spin}
use Rattle.model.specs.declared.limits.TheConstants.{SPIN_LOCKS}
use Rattle.model.specs.View.{busy_at}
use Rattle.model.specs.World.{World, owner_of}
use Rattle.tell_audit.specs.declared.left.LeftLock.{LeftLock}

-- a lock, if it is left behind, by its owner, if there is such a lock and it has one
abbrev pub left_by : World → Lock → Option (Option ℕ) → List LeftLock
left_by w lock None = []
left_by w lock (Some None) = []
left_by w lock (Some (Some t)) =
    if busy_at w t then [] else record { lock = lock; thread = t } ∷ []

abbrev pub left_at : World → Lock → List LeftLock
left_at w lock = left_by w lock (owner_of w.shared.locks lock)

-- those of so many spin locks of a device, and of so many devices
abbrev pub left_below : World → ℕ → ℕ → List LeftLock
left_below w d zero = []
left_below w d (suc l) =
    left_below w d l ++ left_at w (Spin (record { device = d; number = l }))

abbrev pub left_before : World → ℕ → List LeftLock
left_before w zero = []
left_before w (suc d) = left_before w d ++ left_below w d SPIN_LOCKS

-- all of them: the system cancel spin lock first, and those of devices in order
abbrev pub left_locks : World → ℕ → List LeftLock
left_locks w devices = left_at w SystemCancel ++ left_before w devices
