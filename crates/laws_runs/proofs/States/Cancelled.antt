-- The cancel routine that IoCancelIrp calls begins as one that a packet's cancel word names.
use Rattle.laws_runs.proofs.Prelude.{subst, Option, Some, slice_get, ℕ, ◌<◌, ◌≡◌, routine_of_device, Set, cancel_routine_named, Shared, entered, packet_of, Cancel, Armer, Packet, Ref}
use Rattle.laws_runs.proofs.States.Entering.{Begins, begins_cancelled}
use Rattle.laws_runs.proofs.States.Fits.{ArmerLeads, Fits, word_leads}
use Rattle.laws_runs.proofs.States.Frames.{IsGood}
use Rattle.laws_runs.specs.ArrivingStates.{States}

pub begins_called : (set : Set) (states : States) (s : Shared) → IsGood set states → Fits set s
    → (n : ℕ) (p : Packet) (armer : Armer) (number : ℕ) → n < s.issued → packet_of s n ≡ Some p
    → p.armer ≡ Some armer
    → cancel_routine_named set (routine_of_device (slice_get set.devices armer.device)) armer.queue
    ≡ Some number
    → Begins set states s.issued
    (entered (routine_of_device (slice_get set.devices armer.device)) number armer.device (Ref n))
    Cancel n
begins_called set states s good fits n p armer number low there is named =
    begins_cancelled set states good s.issued n low armer number
    (subst (λ (word : Option Armer). ArmerLeads set word) is (word_leads set s fits n p there))
    named
