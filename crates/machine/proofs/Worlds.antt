-- A step of a thread in its place.
use Rattle.std.proofs.Common.{◌≡◌, ◌-◌, ℕ, List, Option, None, Some, ap, length, refl, take}
use Rattle.std.specs.Prelude.{slice_get}
use Rattle.model.specs.declared.event.Reply.TheVariants.{Idle}
use Rattle.model.specs.Set.{Set}
use Rattle.machine_parts.proofs.FrameLists.{set_back}
use Rattle.laws_slots.specs.WordStep.{stays, thread_step, top_frame, top_step}
use Rattle.laws_slots.specs.Words.{WordFrame, WordThread, WordWorld}
use Rattle.laws_slots.specs.Slots.{SlotShared}
use Rattle.machine.specs.Threads.{placed, stepped_on, top_moves}

abbrev with_threads : SlotShared → List WordThread → WordWorld
with_threads s threads = record { threads = threads; shared = s }

module _ (set : Set) (v : WordWorld) (t : ℕ) where
  top_placed : (x : WordThread) → slice_get v.threads t ≡ Some x → (below : List WordFrame)
      → (o : Option WordFrame)
      → placed v t (top_moves set v.shared t x below o) ≡ top_step set v t x below o
  top_placed x found below None =
      ap (λ (threads : List WordThread). stays (with_threads v.shared threads) Idle)
      (set_back v.threads t x found)
  top_placed x found below (Some f) = refl

  pub steps_in_place : (o : Option WordThread) → slice_get v.threads t ≡ o
      → stepped_on set v t o ≡ thread_step set v t o
  steps_in_place None found = refl
  steps_in_place (Some x) found =
      top_placed x found (take (length x.frames - 1) x.frames) (top_frame x.frames)
