-- Events that are kept beside the bytes of steps, each in few bytes.
use Rattle.std.specs.Prelude.{◌≡◌, ℕ}
use Rattle.model.specs.declared.event.Event.{Event}
use Rattle.model.specs.declared.event.Event.TheVariants.{Cancel, Dpc, Interrupt, Issue, StartIo, Step}
use Rattle.model.specs.declared.status.Major.{Major}
use Rattle.model.specs.declared.status.Major.TheVariants.{Control, Read, Write}
use Rattle.interleave.specs.declared.kept.What.{What}
use Rattle.interleave.specs.declared.kept.What.TheVariants.{BeginsDpc, BeginsStartIo, Cancels, Controls, Interrupts, Reads, Steps, Writes}
use Rattle.interleave.specs.declared.read.Repeated.{Repeated}

-- once
abbrev pub once : Event → Repeated
once event = record { event = event; count = 1 }

-- what is kept: what happens, a thread or a device, a device or a level, and a number
abbrev pub repeated_of : What → ℕ → ℕ → ℕ → Repeated
repeated_of Steps first second number = record { event = Step first; count = number }
repeated_of Reads first second number = once (Issue first second Read number)
repeated_of Writes first second number = once (Issue first second Write number)
repeated_of Controls first second number = once (Issue first second Control number)
repeated_of Cancels first second number = once (Cancel first number second)
repeated_of Interrupts first second number = once (Interrupt first)
repeated_of BeginsDpc first second number = once (Dpc first second)
repeated_of BeginsStartIo first second number = once (StartIo first second)

-- what a request of a major function is
abbrev pub asking : Major → What
asking Read = Reads
asking Write = Writes
asking Control = Controls

-- an event other than a step happens so often
abbrev pub KeptAs : Event → ℕ → Type 0
KeptAs (Step thread) count = Unit {0}
KeptAs (Issue thread device major argument) count = count ≡ 1
KeptAs (Cancel thread packet level) count = count ≡ 1
KeptAs (Interrupt device) count = count ≡ 1
KeptAs (Dpc thread device) count = count ≡ 1
KeptAs (StartIo thread device) count = count ≡ 1

-- steps, or another event once
abbrev pub IsKept : Repeated → Type 0
IsKept r = KeptAs r.event r.count
