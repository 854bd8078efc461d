-- A step of a packet's completion on the packet table, and on what threads share.
use Rattle.std.proofs.Common.{◌≡◌, ◌<◌, ℕ, Bool, true, false, List, [], ◌∷◌, length, Option, None, Some, ap, refl, arith, inl, inr}
use Rattle.std.specs.Prelude.{nat_lt, remove}
use Rattle.std.proofs.lemmas.Bool.Decides.{eqb_tells}
use Rattle.model.specs.declared.world.Completion.{Completion}
use Rattle.model.specs.declared.world.Packet.{Packet}
use Rattle.model.specs.Queues.{unlinked}
use Rattle.model.specs.World.{completion_of, current_location, left_location}
use Rattle.iomgr.specs.declared.walk.WalkStep.{WalkStep}
use Rattle.iomgr.specs.declared.walk.WalkStep.TheVariants.{Missing, Runs, Ascends, TopsOut}
use Rattle.iomgr.specs.Numbers.{number_place}
use Rattle.iomgr.specs.Slots.{Holds, SlotTable}
use Rattle.iomgr.specs.Walk.{Stepped, steps_from, walked_at}
use Rattle.laws_slots.specs.Slots.{SlotShared}
use Rattle.machine_parts.specs.declared.shared.walking.Walked.{Walked}
use Rattle.machine_parts.specs.declared.shared.walking.Walked.TheVariants.{Runs as WalkedRuns, Ascends as WalkedAscends, TopsOut as WalkedOut}
use Rattle.machine_parts.specs.Walks.{WalkLeaves, walks, walks_from}

-- the first place of a key is where it is unlinked
pub unlinked_at : (order : List ℕ) (key : ℕ) → number_place order key < length order
    → unlinked order key ≡ remove order (number_place order key)
unlinked_at [] key there = absurd (omega (arith, there))
unlinked_at (first ∷ order) key there =
    elim (eqb_tells first key) [
      | inl e ↦ rw e.0 refl
      | inr e ↦
          let behind = rw e.0 at there in
          rw e.0
          (ap (λ (keys : List ℕ). first ∷ keys)
          (unlinked_at order key (omega (arith, behind))))
    ]

-- what threads share, with this table
abbrev pub with_table : SlotShared → SlotTable → SlotShared
with_table s t = record s { slots = t.live.lying; order = t.live.order; issued = t.issued }

-- what is told of a step, of the packet of a number
abbrev pub told_of : ℕ → WalkStep → Walked
told_of number Missing = WalkedAscends
told_of number (Runs c) = WalkedRuns c
told_of number (Ascends marked) = WalkedAscends
told_of number (TopsOut status info) = WalkedOut number status info

module _ (s : SlotShared) (t : SlotTable) (key : ℕ) (holds : Holds t.live key) where
  abbrev left_by : ℕ → Stepped → WalkLeaves
  left_by number w = record { shared = with_table s w.slots; done = told_of number w.step }

  from_left : (p : Packet) (c : Option Completion)
      → left_by p.number (steps_from t key p c) ≡ walks_from (with_table s t) key p c
  from_left p (Some c) = refl
  from_left p None = ends (nat_lt 1 p.depth) refl
    where
      ends : (rises : Bool) → nat_lt 1 p.depth ≡ rises
          → left_by p.number (steps_from t key p None) ≡ walks_from (with_table s t) key p None
      ends true is = rw is refl
      ends false is = rw (is, unlinked_at t.live.order key holds) refl

  pub walks_on : (p : Packet)
      → left_by (left_location p).number (walked_at t key p) ≡ walks (with_table s t) key p
  walks_on p = from_left (left_location p) (completion_of (current_location p))
