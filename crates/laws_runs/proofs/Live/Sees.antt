-- Which packets the frames of a thread see: a completion routine's registers refer to the packet of
-- the I/O manager's frame below it, where they refer to one on its way up, and every other routine
-- is a dispatch routine, or a deferred one: a DPC, a StartIo or a cancel routine.
use Rattle.laws_runs.proofs.Common.{ap, inl, inr, refl, subst, sym, zero, ◌-◌, ◌∙◌, cases_Bool, List, None, Option, Some, [], nat_lt, replicate, slice_get, suc, true, ℕ, ⊤, ◌++◌, ◌∷◌, ◌≡◌, ◌⊎◌, answered_in, operand_of, told_to, is_new, is_view, kind_of, Set, instruction_at, sort_of, Shared, packet_in, register, BlankKind, Sort, Dispatch, Hold, Propagate, Status, Activation, Frame, CancelFrame, Routine, Walk, Value, Blank, Ref, StatusValue, States, Begins, IsOfSort, state_of, HoldOf, hold_get, hold_none, hold_told, handed_news, handed_views, is_deferred, last_under, told_frame, told_is, told_last}
use Rattle.laws_runs.proofs.Holders.Walking.{under_at}
use Rattle.laws_runs.proofs.States.Stacks.{answered_in_sort}
use Rattle.laws_runs.proofs.Steps.Comes.{Reads}

abbrev pub RefersTo : ℕ → Value → Type 0
RefersTo m (Ref n) = n ≡ m
RefersTo m _ = ⊤

pub reads_to : (m : ℕ) (s : Shared) (v : Value) (n : ℕ) → RefersTo m v → packet_in s v ≡ Some n
    → n ≡ m
reads_to m s (Ref k) n refers h =
    elim (cases_Bool (nat_lt k s.issued)) [
      | inl l ↦ let same : Some k ≡ Some n = rw l at h in let one : k ≡ n = cc in sym one ∙ refers
      | inr l ↦ let no : None ≡ Some n = rw l at h in cc
    ]
reads_to m s _ n refers h = cc

-- the packets on their way up in an activation's registers are one
abbrev pub Views : States → ℕ → Activation → Type 0
Views states m a = HoldOf is_view (RefersTo m) (state_of states a).kinds a.registers

-- and so are those that it was lent
abbrev pub News : States → ℕ → Activation → Type 0
News states m a = HoldOf is_new (RefersTo m) (state_of states a).kinds a.registers

-- so each packet that such a register is read for is that one
pub view_refers : (states : States) (m : ℕ) (a : Activation) → Views states m a → (r : ℕ)
    → is_view (kind_of (state_of states a) r) ≡ true → RefersTo m (register a r)
view_refers states m a views r is =
    hold_get is_view handed_views (RefersTo m) (state_of states a).kinds a.registers r tt views is

pub reads_view : (states : States) (m : ℕ) (s : Shared) (a : Activation) → Views states m a
    → (r n : ℕ)
    → is_view (kind_of (state_of states a) r) ≡ true → Reads s a r n → n ≡ m
reads_view states m s a views r n is reads =
    reads_to m s (register a r) n (view_refers states m a views r is) reads

-- a completion routine that begins sees the packet that it is handed
pub begins_views : (set : Set) (states : States) (issued : ℕ) (a : Activation) (n : ℕ)
    → Begins set states issued a Propagate n → Views states n a
begins_views set states issued a n begins =
    rw (begins.start, begins.registers) (
      (λ is. refl),
      hold_none is_view handed_views (RefersTo n) (replicate 15 BlankKind) (replicate 15 Blank)
          refl,
    )

-- one that lets the completion go on has none that it was lent, and one that is lent its packet
-- none on its way up
pub propagate_sees : (set : Set) (states : States) (issued : ℕ) (a : Activation) (n : ℕ)
    → Begins set states issued a Propagate n → Views states n a × News states n a
propagate_sees set states issued a n begins = (
  begins_views set states issued a n begins,
  rw (begins.start, begins.registers) (
    (λ is. refl),
    hold_none is_new handed_news (RefersTo n) (replicate 15 BlankKind) (replicate 15 Blank) refl,
  ),
)

pub hold_sees : (set : Set) (states : States) (issued : ℕ) (a : Activation) (n : ℕ)
    → Begins set states issued a Hold n → Views states n a × News states n a
hold_sees set states issued a n begins = (
  rw (begins.start, begins.registers) (
    (λ is. refl),
    hold_none is_view handed_views (RefersTo n) (replicate 15 BlankKind) (replicate 15 Blank) refl,
  ),
  rw (begins.start, begins.registers) (
    (λ is. refl),
    hold_none is_new handed_news (RefersTo n) (replicate 15 BlankKind) (replicate 15 Blank) refl,
  ),
)

refers_only : (k m : ℕ) (v : Value) → v ≡ Ref k → RefersTo m v → k ≡ m
refers_only k m v is refers = subst (λ (x : Value). RefersTo m x) is refers

pub lent_refers : (set : Set) (states : States) (n : ℕ) (a : Activation) → News states n a
    → (r k : ℕ) → is_new (kind_of (state_of states a) r) ≡ true → register a r ≡ Ref k → k ≡ n
lent_refers set states n a news r k new is =
    refers_only k n (register a r) is
    (hold_get is_new handed_news (RefersTo n) (state_of states a).kinds a.registers r tt news new)

-- a deferred routine: a DPC, a StartIo or a cancel routine
abbrev pub IsDeferred : Set → Activation → Type 0
IsDeferred set a = is_deferred (sort_of set a.driver a.routine) ≡ true

pub deferred_sort : (set : Set) (a : Activation) (sort : Sort) → IsOfSort set a sort
    → is_deferred sort ≡ true → IsDeferred set a
deferred_sort set a sort is deferred = ap is_deferred is ∙ deferred

pub answered_in_deferred : (set : Set) (a : Activation) (status : Status) (r : Option ℕ)
    → IsDeferred set a → IsDeferred set (answered_in a status r)
answered_in_deferred set a status r is =
    deferred_sort set (answered_in a status r) (sort_of set a.driver a.routine)
    (answered_in_sort set a status r (sort_of set a.driver a.routine) refl) is

module _ (set : Set) (states : States) where
  abbrev pub Seen : Option Frame → Frame → Type 0
  Seen None (Routine a) = IsOfSort set a Dispatch ⊎ IsDeferred set a
  Seen None (Walk n) = ⊤
  Seen (Some (Routine b)) (Routine a) = IsOfSort set a Dispatch
  Seen (Some (Routine b)) (Walk n) = ⊤
  Seen (Some (Walk m)) (Routine a) = Views states m a × News states m a
  Seen (Some (Walk m)) (Walk n) = ⊤
  Seen (Some (CancelFrame c)) (Routine a) = ⊥
  Seen (Some (CancelFrame c)) (Walk n) = ⊤
  Seen None (CancelFrame c) = ⊤
  Seen (Some g) (CancelFrame c) = ⊥

  -- frames on another one, or on none, the lowest first
  abbrev pub AllSeen : Option Frame → List Frame → Type 0
  AllSeen under [] = ⊤
  AllSeen under (f ∷ frames) = Seen under f × AllSeen (Some f) frames

  pub seen_append : (under : Option Frame) (below frames : List Frame) → AllSeen under below
      → AllSeen (last_under under below) frames → AllSeen under (below ++ frames)
  seen_append under [] frames h other = other
  seen_append under (f ∷ below) frames h other = (h.0, seen_append (Some f) below frames h.1 other)

  pub seen_below : (under : Option Frame) (below frames : List Frame)
      → AllSeen under (below ++ frames)
      → AllSeen under below
  seen_below under [] frames h = tt
  seen_below under (f ∷ below) frames h = (h.0, seen_below (Some f) below frames h.1)

  pub seen_top : (under : Option Frame) (below frames : List Frame)
      → AllSeen under (below ++ frames)
      → AllSeen (last_under under below) frames
  seen_top under [] frames h = h
  seen_top under (f ∷ below) frames h = seen_top (Some f) below frames h.1

  -- a frame at a place sees what it should of the one under it
  pub seen_at : (under : Option Frame) (frames : List Frame) (k : ℕ) (f : Frame)
      → AllSeen under frames → slice_get frames k ≡ Some f → Seen (under_at under frames k) f
  seen_at under [] k f h there = cc
  seen_at under (g ∷ frames) zero f h there =
      let same : g ≡ f = cc in subst (λ (e : Frame). Seen under e) same h.0
  seen_at under (g ∷ frames) (suc k) f h there = seen_at (Some g) frames k f h.1 there

  -- a frame that is told a status sees the same
  answered_views : (m : ℕ) (a : Activation) (status : Status) (r : Option ℕ) → Views states m a
      → Views states m (answered_in a status r)
  answered_views m a status None h = h
  answered_views m a status (Some r) h =
      hold_told is_view handed_views (RefersTo m) (state_of states a).kinds a.registers r
      (StatusValue status) tt h

  answered_news : (m : ℕ) (a : Activation) (status : Status) (r : Option ℕ) → News states m a
      → News states m (answered_in a status r)
  answered_news m a status None h = h
  answered_news m a status (Some r) h =
      hold_told is_new handed_news (RefersTo m) (state_of states a).kinds a.registers r
      (StatusValue status) tt h

  frame_seen : (under : Option Frame) (told : Option Status) (f : Frame) → Seen under f
      → Seen under (told_frame set told f)
  frame_seen under None (Routine a) h = h
  frame_seen under None (Walk n) h = h
  frame_seen under (Some status) (Walk n) h = h
  frame_seen under None (CancelFrame c) h = h
  frame_seen under (Some status) (CancelFrame c) h = h
  frame_seen (Some (CancelFrame c)) (Some status) (Routine a) h = h
  frame_seen None (Some status) (Routine a) h =
      let r : Option ℕ = operand_of (instruction_at set a.driver a.routine (a.position - 1)) in
      elim h [
        | inl is ↦ inl (answered_in_sort set a status r Dispatch is)
        | inr is ↦ inr (answered_in_deferred set a status r is)
      ]
  frame_seen (Some (Routine b)) (Some status) (Routine a) h =
      answered_in_sort set a status
      (operand_of (instruction_at set a.driver a.routine (a.position - 1))) Dispatch h
  frame_seen (Some (Walk m)) (Some status) (Routine a) h =
      let r : Option ℕ = operand_of (instruction_at set a.driver a.routine (a.position - 1)) in
      (answered_views m a status r h.0, answered_news m a status r h.1)

  last_seen : (under : Option Frame) (told : Option Status) (below : List Frame)
      → AllSeen under below
      → AllSeen under (told_last set told below)
  last_seen under told [] h = tt
  last_seen under told (f ∷ []) h = (frame_seen under told f h.0, tt)
  last_seen under told (f ∷ g ∷ below) h = (h.0, last_seen (Some f) told (g ∷ below) h.1)

  pub told_seen : (under : Option Frame) (told : Option Status) (below : List Frame)
      → AllSeen under below
      → AllSeen under (told_to set below told)
  told_seen under told below h =
      subst (λ (frames : List Frame). AllSeen under frames) (sym (told_is set below told))
      (last_seen under told below h)
