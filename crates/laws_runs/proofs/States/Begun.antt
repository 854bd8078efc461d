-- What the frame of a root is: that of a dispatch routine at PASSIVE_LEVEL, of a DPC or a StartIo
-- routine, or of IoCancelIrp; so it stands.
use Rattle.laws_runs.proofs.Prelude.{arith, refl, sym, ◌∙◌, List, Option, Some, [], false, ℕ, ⊤, ◌+◌, ◌<◌, ◌∷◌, ◌≡◌, Set, Entry, Shared, QueueName, Sort, Dispatch, Dpc, StartIo, Activation, Frame, Routine, Irql, Passive, Value, Blank, Ref}
use Rattle.laws_runs.specs.ArrivingStates.{States}
use Rattle.laws_runs.proofs.Lists.{Each}
use Rattle.laws_runs.proofs.Past.Packets.{Tells, found, found_lt}
use Rattle.laws_runs.proofs.Runs.Roots.{Root, Beside, TakesFirst, issues, takes_dpc, takes_first, takes_nothing, begins_cancelling}
use Rattle.laws_runs.proofs.States.Entering.{Begins, Enters, IsOfSort, begins_dpc, begins_request, begins_startio, first_state, startio_activation}
use Rattle.laws_runs.proofs.States.Fits.{Fits}
use Rattle.laws_runs.proofs.States.Frames.{IsGood}
use Rattle.laws_runs.proofs.States.Roots.{Low}
use Rattle.laws_runs.proofs.States.Stacks.{Stacked}
use Rattle.laws_runs.proofs.States.StartsFit.{first_low, start_issued}

-- the sorts of routines that are roots, at their levels
abbrev pub IsRoot : Irql → Sort → Type 0
IsRoot level Dispatch = level ≡ Passive
IsRoot level StartIo = ⊤
IsRoot level Dpc = ⊤
IsRoot level _ = ⊥

pub root_free : (level : Irql) (sort : Sort) (name : Option QueueName) → IsRoot level sort
    → (first_state sort name).cancel ≡ false
root_free level Dispatch name root = refl
root_free level StartIo name root = refl
root_free level Dpc name root = refl
root_free level _ name root = absurd root

root_low_sort : (set : Set) (a : Activation) (level : Irql) (sort : Sort) → IsRoot level sort
    → IsOfSort set a sort → IsOfSort set a Dispatch → level ≡ Passive
root_low_sort set a level Dispatch root of is = root
root_low_sort set a level StartIo root of is =
    let no : StartIo ≡ Dispatch = sym of ∙ is in cc
root_low_sort set a level Dpc root of is = let no : Dpc ≡ Dispatch = sym of ∙ is in cc
root_low_sort set a level _ root of is = absurd root

module _ (set : Set) (states : States) where
  pub data RootFrame (issued : ℕ) (level : Irql) : Frame → Type 0 where
    root_enters : (a : Activation) (sort : Sort) (first : Value) → IsRoot level sort
        → Enters set states issued a sort first → RootFrame issued level (Routine a)
    root_cancels : (n : ℕ) → n < issued → RootFrame issued level (begins_cancelling n)

  pub root_stands : {issued : ℕ} {level : Irql} {f : Frame} → RootFrame issued level f
      → Stacked set states issued (f ∷ [])
  root_stands (root_enters a sort first root enters) = enters.ready
  root_stands (root_cancels n low) = low

  pub root_low : {issued : ℕ} {level : Irql} {f : Frame} → RootFrame issued level f
      → Each (Low set level) (f ∷ [])
  root_low {level = level} (root_enters a sort first root enters) =
      (root_low_sort set a level sort root enters.of_sort, tt)
  root_low (root_cancels n low) = (tt, tt)

module _ (set : Set) (states : States) (good : IsGood set states) (s : Shared) (fits : Fits set s)
  where
    -- a StartIo routine begins for the first packet of its start list
    pub startio_enters : (h : TakesFirst set s)
        → Begins set states s.issued (startio_activation set h.d h.routine h.n) StartIo h.n
    startio_enters h =
        begins_startio set states good s.issued h.d h.routine h.n
        (first_low s.issued h.start (start_issued set s h.d h.start h.has fits.starts) h.n h.first)
        h.there

    pub root_frame : (past : List Entry) → Tells s past → (root : Root) → Beside set s root
        → RootFrame set states root.shared.issued root.level root.frame
    root_frame past tells root (issues h) =
        root_enters _ Dispatch (Ref s.issued) refl
        (begins_request set states good (s.issued + 1) s.issued (omega arith) h.d h.device h.major
        h.there)
    root_frame past tells root (takes_dpc d routine there) =
        root_enters _ Dpc Blank tt (begins_dpc set states good s.issued d routine there)
    root_frame past tells root (takes_first h) =
        root_enters _ StartIo (Ref h.n) tt (startio_enters h)
    root_frame past tells root (takes_nothing n level p there) =
        root_cancels n (found_lt s n p tells.rises (found s n (Some p) there))
