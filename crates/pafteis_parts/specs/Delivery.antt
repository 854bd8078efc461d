-- How an answer comes into a buffer.
use Rattle.std.specs.Prelude.{ℕ, ◌≡◌, ◌++◌, drop, if◌then◌else◌, length, List, nat_le, Result, Ok, Err}
use Rattle.drvhost_devices.specs.Answer.{Answer}
use Rattle.model.specs.declared.memory.OutOfMemory.{OutOfMemory}
pub use Rattle.drvhost_devices.specs.Told.{bytes_of}
use Rattle.pafteis_parts.specs.declared.delivery.Delivered.{Delivered}

-- a buffer after bytes were put into its front, if they have room there
abbrev pub placed : List ℕ → List ℕ → List ℕ
placed bytes buffer =
    if nat_le (length bytes) (length buffer) then bytes ++ drop (length bytes) buffer else buffer

-- an answer was delivered into a buffer: its status, how many bytes it has, and those bytes where
-- they have room; or memory ran out, and the buffer is as it was
abbrev pub IsDelivered : Result Answer OutOfMemory → List ℕ → List ℕ → Delivered → Type 0
IsDelivered (Ok answer) before after d =
    (d.status ≡ answer.status) × (d.needed ≡ length (bytes_of answer))
    × (after ≡ placed (bytes_of answer) before)
IsDelivered (Err refused) before after d =
    (d.status ≡ 3) × (d.needed ≡ 0) × (after ≡ before)
