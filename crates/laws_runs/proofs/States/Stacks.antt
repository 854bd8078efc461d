-- Frames on frames: how a frame stands that is the top one, or that stands below another; and that
-- frames in place of one stand as they should.
use Rattle.laws_runs.proofs.Prelude.{append-nil, arith, subst, sym, ◌-◌, List, None, Option, Some, [], false, ℕ, ⊤, ◌++◌, ◌<◌, ◌∷◌, ◌≡◌, ◌≤◌, answered, answered_in, operand_of, told_to, holds_lock, Set, instruction_at, Sort, Dispatch, Status, Activation, Frame, CancelFrame, Routine, Walk}
use Rattle.laws_runs.proofs.Lists.{Each}
use Rattle.laws_runs.proofs.Past.Walks.{WalkIssued}
use Rattle.laws_runs.proofs.States.Entering.{IsOfSort, IsCompleting}
use Rattle.laws_runs.proofs.States.Frames.{Ready, state_of}
use Rattle.laws_runs.proofs.States.Kinds.{kinds_later}
use Rattle.laws_runs.specs.ArrivingStates.{States}
use Rattle.laws_runs.proofs.States.Told.{told_frame, told_last, told_is}

-- a frame that is told is still of its routine
pub answered_in_sort : (set : Set) (a : Activation) (status : Status) (r : Option ℕ) (sort : Sort)
    → IsOfSort set a sort
    → IsOfSort set (answered_in a status r) sort
answered_in_sort set a status None sort h = h
answered_in_sort set a status (Some r) sort h = h

answered_sort : (set : Set) (a : Activation) (status : Status) (sort : Sort) → IsOfSort set a sort
    → IsOfSort set (answered set a status) sort
answered_sort set a status sort h =
    answered_in_sort set a status
    (operand_of (instruction_at set a.driver a.routine (a.position - 1))) sort h

answered_in_completing : (set : Set) (a : Activation) (status : Status) (r : Option ℕ)
    → IsCompleting set a → IsCompleting set (answered_in a status r)
answered_in_completing set a status None h = h
answered_in_completing set a status (Some r) h = h

answered_completing : (set : Set) (a : Activation) (status : Status) → IsCompleting set a
    → IsCompleting set (answered set a status)
answered_completing set a status h =
    answered_in_completing set a status
    (operand_of (instruction_at set a.driver a.routine (a.position - 1))) h

module _ (set : Set) (states : States) where
  -- a frame, and the one that stands on it. A routine's frame goes on whatever status it is told by
  -- the dispatch routine on it; the I/O manager's has a completion routine on it, or nothing. What
  -- stands below holds no lock. A frame of IoCancelIrp stands alone
  abbrev pub Stands : ℕ → Option Frame → Frame → Type 0
  Stands issued None (Routine a) = Ready set states issued a
  Stands issued None (Walk n) = n < issued
  Stands issued None (CancelFrame c) = c.packet < issued
  Stands issued (Some (Walk n)) (Routine a) = Ready set states issued a
      × (holds_lock (state_of states a) ≡ false)
  Stands issued (Some (Routine b)) (Routine a) =
      IsOfSort set b Dispatch × (holds_lock (state_of states a) ≡ false)
      × ((status : Status) → Ready set states issued (answered set a status))
  Stands issued (Some (Routine b)) (Walk n) = IsCompleting set b × (n < issued)
  Stands issued (Some (Walk m)) (Walk n) = ⊥
  Stands issued (Some (Routine b)) (CancelFrame c) = ⊥
  Stands issued (Some (Walk m)) (CancelFrame c) = ⊥
  Stands issued (Some (CancelFrame c)) f = ⊥

  -- the frames of a thread, the lowest first
  abbrev pub Stacked : ℕ → List Frame → Type 0
  Stacked issued [] = ⊤
  Stacked issued (f ∷ []) = Stands issued None f
  Stacked issued (f ∷ g ∷ frames) = Stands issued (Some g) f × Stacked issued (g ∷ frames)

  -- frames stand in place of one: what stood below that stands below them, and is told what it is
  -- to know
  abbrev pub Replaces : ℕ → Frame → Option Status → List Frame → Type 0
  Replaces issued f told [] = (g : Frame) → Stands issued (Some f) g
      → Stands issued None (told_frame set told g)
  Replaces issued f told (h ∷ frames) =
      (told ≡ None) × Stacked issued (h ∷ frames)
      × ((g : Frame) → Stands issued (Some f) g → Stands issued (Some h) g)

  module _ (issued : ℕ) where
    pub top_stands : (below : List Frame) (f : Frame) → Stacked issued (below ++ f ∷ [])
        → Stands issued None f
    top_stands [] f h = h
    top_stands (g ∷ []) f h = h.1
    top_stands (g ∷ e ∷ below) f h = top_stands (e ∷ below) f h.1

    -- the I/O manager completes packets that were issued
    walk_stands : (above : Option Frame) (f : Frame) → Stands issued above f → WalkIssued issued f
    walk_stands above (Routine a) h = tt
    walk_stands above (CancelFrame c) h = tt
    walk_stands None (Walk n) h = h
    walk_stands (Some (Routine b)) (Walk n) h = h.1
    walk_stands _ (Walk n) h = absurd h

    pub walks_stand : (frames : List Frame) → Stacked issued frames
        → Each (WalkIssued issued) frames
    walks_stand [] h = tt
    walks_stand (f ∷ []) h = (walk_stands None f h, tt)
    walks_stand (f ∷ g ∷ frames) h = (walk_stands (Some g) f h.0, walks_stand (g ∷ frames) h.1)

    under_told : (g e : Frame) (told : Option Status) → Stands issued (Some e) g
        → Stands issued (Some (told_frame set told e)) g
    under_told g (Routine b) None h = h
    under_told g (Walk n) None h = h
    under_told g (Walk n) (Some status) h = h
    under_told g (CancelFrame c) told h = absurd h
    under_told (CancelFrame c) (Routine b) (Some status) h = absurd h
    under_told (Routine a) (Routine b) (Some status) h =
        (answered_sort set b status Dispatch h.0, h.1, h.2)
    under_told (Walk n) (Routine b) (Some status) h = (answered_completing set b status h.0, h.1)

    replaced_last : (below : List Frame) (f : Frame) (told : Option Status)
        → Stacked issued (below ++ f ∷ [])
        → Replaces issued f told [] → Stacked issued (told_last set told below)
    replaced_last [] f told h to = tt
    replaced_last (g ∷ []) f told h to = to g h.0
    replaced_last (g ∷ e ∷ []) f told h to =
        (under_told g e told h.0, replaced_last (e ∷ []) f told h.1 to)
    replaced_last (g ∷ e ∷ c ∷ below) f told h to =
        (h.0, replaced_last (e ∷ c ∷ below) f told h.1 to)

    replaced_on : (below : List Frame) (f e : Frame) (frames : List Frame)
        → Stacked issued (below ++ f ∷ [])
        → Replaces issued f None (e ∷ frames) → Stacked issued (below ++ e ∷ frames)
    replaced_on [] f e frames h to = to.1
    replaced_on (g ∷ []) f e frames h to = (to.2 g h.0, to.1)
    replaced_on (g ∷ c ∷ below) f e frames h to = (h.0, replaced_on (c ∷ below) f e frames h.1 to)

    replaced_told : (below : List Frame) (f e : Frame) (told : Option Status) (frames : List Frame)
        → told ≡ None
        → Stacked issued (below ++ f ∷ []) → Replaces issued f told (e ∷ frames)
        → Stacked issued (told_to set below told ++ e ∷ frames)
    replaced_told below f e None frames none h to = replaced_on below f e frames h to
    replaced_told below f e (Some status) frames none h to = cc

    pub replaced : (below : List Frame) (f : Frame) (told : Option Status) (frames : List Frame)
        → Stacked issued (below ++ f ∷ []) → Replaces issued f told frames
        → Stacked issued (told_to set below told ++ frames)
    replaced below f told [] h to =
        subst (λ (all : List Frame). Stacked issued all) (sym (append-nil (told_to set below told)))
        (subst (λ (all : List Frame). Stacked issued all) (sym (told_is set below told))
        (replaced_last below f told h to))
    replaced below f told (e ∷ frames) h to = replaced_told below f e told frames to.0 h to

    -- a completion routine and the I/O manager's frame under it are gone
    walk_uncovered : (g : Frame) (n : ℕ) → Stands issued (Some (Walk n)) g → Stands issued None g
    walk_uncovered (Routine a) n h = h.0
    walk_uncovered _ n h = absurd h

    pub walk_taken : (others : List Frame) (n : ℕ) (f : Frame)
        → Stacked issued (others ++ Walk n ∷ f ∷ []) → Stacked issued others
    walk_taken [] n f h = tt
    walk_taken (g ∷ []) n f h = walk_uncovered g n h.0
    walk_taken (g ∷ e ∷ others) n f h = (h.0, walk_taken (e ∷ others) n f h.1)

  -- more packets were issued
  module _ (issued more : ℕ) (le : issued ≤ more) where
    ready_later : (a : Activation) → Ready set states issued a → Ready set states more a
    ready_later a h = (
      h.0,
      record {
        is_of = h.1.is_of;
        serves = h.1.serves;
        within = h.1.within;
        nested = h.1.nested;
        kinds = kinds_later issued more (state_of states a).kinds a.registers le h.1.kinds;
        eight = h.1.eight;
        sixteen = h.1.sixteen;
      },
    )

    stands_later : (above : Option Frame) (f : Frame) → Stands issued above f → Stands more above f
    stands_later None (Routine a) h = ready_later a h
    stands_later None (Walk n) h = let l : n < issued = h in omega arith
    stands_later (Some (Walk n)) (Routine a) h = (ready_later a h.0, h.1)
    stands_later (Some (Routine b)) (Routine a) h =
        (h.0, h.1, λ status. ready_later (answered set a status) (h.2 status))
    stands_later (Some (Routine b)) (Walk n) h = (h.0, let l : n < issued = h.1 in omega arith)
    stands_later (Some (Walk m)) (Walk n) h = absurd h
    stands_later None (CancelFrame c) h = let l : c.packet < issued = h in omega arith
    stands_later _ _ h = absurd h

    pub stacked_later : (frames : List Frame) → Stacked issued frames → Stacked more frames
    stacked_later [] h = tt
    stacked_later (f ∷ []) h = stands_later None f h
    stacked_later (f ∷ g ∷ frames) h = (stands_later (Some g) f h.0, stacked_later (g ∷ frames) h.1)
