-- How many marks a packet's completion routines have still to carry up: at most one for each of the
-- I/O manager's frames of the packet that isn't the top one and isn't lent, and what a step changes
-- of it.
use Rattle.laws_runs.proofs.Common.{ap, arith, cond, inl, inr, refl, subst, zero, ◌-◌, ◌∙◌, cases_Bool, eq-eqb, eqb_tells, Bool, List, None, Option, Some, [], false, if◌then◌else◌, slice_get, slice_set, suc, true, ℕ, ⊤, ◌++◌, ◌+◌, ◌∷◌, ◌≡◌, ◌≤◌, answered_in, operand_of, told_to, is_hold, Set, instruction_at, sort_of, World, Settled, NeedMark, Open, SettledMark, Status, Activation, Frame, CancelFrame, Routine, Walk, Packet, Thread, States, all_walking, frame_walks, is_lent, walking, Each, last_under, told_frame, told_is, told_last, if_none}
use Rattle.laws_runs.proofs.Holders.Sums.{Held, held}
use Rattle.laws_runs.proofs.Past.LivePackets.{find}
use Rattle.laws_runs.proofs.Uses.Fates.{late_in, late_mark, late_marks, late_on}

-- at most one for each of the packet's frames
late_one : (returned : Bool) (carried : Settled) → late_mark returned carried ≤ 1
late_one true Open = omega arith
late_one false Open = omega arith
late_one returned NeedMark = omega arith
late_one returned SettledMark = omega arith

abbrev walks_under : Option Frame → ℕ → ℕ
walks_under None n = 0
walks_under (Some f) n = frame_walks f n

held_one : (o : Option Packet) → held o ≤ 1
held_one None = omega arith
held_one (Some p) =
    elim p.completing as (λ b. (if b then 1 else 0) ≤ 1)
    [ true ↦ omega arith | false ↦ omega arith ]

module _ (states : States) (returned : Bool) (n : ℕ) where
  -- of a frame over another one, of frames, and of all threads
  abbrev late : Option Frame → Frame → ℕ
  late under f = late_on states returned n under f

  abbrev lates : Option Frame → List Frame → ℕ
  lates under frames = late_in states returned n under frames

  abbrev all_late : List Thread → ℕ
  all_late threads = late_marks states returned n threads

  pub late_append : (under : Option Frame) (xs ys : List Frame) → lates under (xs ++ ys)
      ≡ lates under xs + lates (last_under under xs) ys
  late_append under [] ys = omega arith
  late_append under (f ∷ xs) ys =
      omega (arith, late_append (Some f) xs ys)

  -- the I/O manager's frame carries no mark late
  pub late_walk : (under : Option Frame) (m : ℕ) → late under (Walk m) ≡ 0
  late_walk None m = refl
  late_walk (Some (Routine a)) m = refl
  late_walk (Some (Walk k)) m = refl
  late_walk (Some (CancelFrame c)) m = refl

  -- a frame that is told a status counts as before
  answered_late : (under : Option Frame) (a : Activation) (status : Status)
      (r : Option ℕ) → late under (Routine (answered_in a status r)) ≡ late under (Routine a)
  answered_late under a status None = refl
  answered_late None a status (Some r) = refl
  answered_late (Some (Routine b)) a status (Some r) = refl
  answered_late (Some (Walk m)) a status (Some r) = refl
  answered_late (Some (CancelFrame c)) a status (Some r) = refl

  told_late : (set : Set) (under : Option Frame) (told : Option Status)
      (f : Frame) → late under (told_frame set told f) ≡ late under f
  told_late set under None (Routine a) = refl
  told_late set under None (Walk m) = refl
  told_late set under None (CancelFrame c) = refl
  told_late set under (Some status) (Walk m) = refl
  told_late set under (Some status) (CancelFrame c) = refl
  told_late set under (Some status) (Routine a) =
      answered_late under a status
      (operand_of (instruction_at set a.driver a.routine (a.position - 1)))

  told_under : (set : Set) (told : Option Status) (g f : Frame)
      → late (Some (told_frame set told g)) f ≡ late (Some g) f
  told_under set None (Routine a) f = refl
  told_under set None (Walk m) f = refl
  told_under set None (CancelFrame c) f = refl
  told_under set (Some status) (Walk m) f = refl
  told_under set (Some status) (CancelFrame c) f = refl
  told_under set (Some status) (Routine a) (Routine b) = refl
  told_under set (Some status) (Routine a) (Walk m) = refl
  told_under set (Some status) (Routine a) (CancelFrame c) = refl

  on_told : (set : Set) (told : Option Status) (g : Frame)
      (frames : List Frame) → lates (Some (told_frame set told g)) frames ≡ lates (Some g) frames
  on_told set told g [] = refl
  on_told set told g (f ∷ frames) =
      omega (arith, told_under set told g f)

  last_late : (set : Set) (under : Option Frame) (told : Option Status)
      (below frames : List Frame) → lates under (told_last set told below ++ frames)
      ≡ lates under below + lates (last_under under below) frames
  last_late set under told [] frames = omega arith
  last_late set under told (g ∷ []) frames =
      omega (arith, told_late set under told g, on_told set told g frames)
  last_late set under told (g ∷ e ∷ below) frames =
      omega (arith, last_late set (Some g) told (e ∷ below) frames)

  pub told_to_late : (set : Set) (under : Option Frame)
      (told : Option Status) (below frames : List Frame)
      → lates under (told_to set below told ++ frames)
      ≡ lates under below + lates (last_under under below) frames
  told_to_late set under told below frames =
      ap (λ (all : List Frame). lates under (all ++ frames)) (told_is set below told)
      ∙ last_late set under told below frames

  pub late_under : (under : Option Frame) (f : Frame) → late under f ≤ walks_under under n
  late_under None f = omega arith
  late_under (Some (Routine b)) f = omega arith
  late_under (Some (CancelFrame c)) f = omega arith
  late_under (Some (Walk k)) (Walk m) =
      let none : late (Some (Walk k)) (Walk m) ≡ 0 = refl in omega arith
  late_under (Some (Walk k)) (CancelFrame c) =
      let none : late (Some (Walk k)) (CancelFrame c) ≡ 0 = refl in omega arith
  late_under (Some (Walk k)) (Routine a) =
      elim (eqb_tells k n) [
        | inl e ↦ rw e.0 (late_one returned (states a.driver a.routine a.position).settled)
        | inr e ↦ rw e.0 (omega arith)
      ]

  -- other frames on a thread
  pub late_set : (threads : List Thread) (t : ℕ) (thread after : Thread)
      → slice_get threads t ≡ Some thread
      → all_late (slice_set threads t after) + lates None thread.frames.items
      ≡ all_late threads + lates None after.frames.items
  late_set [] t thread after found = cc
  late_set (x ∷ threads) zero thread after found = let one : x ≡ thread = cc in rw one (omega arith)
  late_set (x ∷ threads) (suc t) thread after found =
      omega (arith, late_set threads t thread after found)

  -- frames in place of the top one
  pub late_replaced : (set : Set) (threads : List Thread) (t : ℕ)
      (thread after : Thread) (below : List Frame) (f : Frame) (told : Option Status)
      (frames : List Frame)
      → slice_get threads t ≡ Some thread → thread.frames.items ≡ below ++ f ∷ []
      → after.frames.items ≡ told_to set below told ++ frames
      → all_late (slice_set threads t after) + late (last_under None below) f
      ≡ all_late threads + lates (last_under None below) frames
  late_replaced set threads t thread after below f told frames found items now =
      let old : lates None thread.frames.items ≡ lates None below + lates (last_under None below)
      (f ∷ []) =
      ap (λ (all : List Frame). lates None all) items ∙ late_append None below (f ∷ []) in
      let new : lates None after.frames.items ≡ lates None below
      + lates (last_under None below) frames =
      ap (λ (all : List Frame). lates None all) now ∙ told_to_late set None told below frames in
      omega (arith, late_set threads t thread after found)

  -- the top frame is gone with the I/O manager's frame below it, and had nothing to carry up
  pub late_stopped : (threads : List Thread) (t : ℕ) (thread after : Thread) (others : List Frame)
      (m : ℕ) (f : Frame)
      → slice_get threads t ≡ Some thread → thread.frames.items ≡ (others ++ Walk m ∷ []) ++ f ∷ []
      → after.frames.items ≡ others
      → late (last_under None (others ++ Walk m ∷ [])) f ≡ 0
      → all_late (slice_set threads t after) ≡ all_late threads
  late_stopped threads t thread after others m f found items now none =
      let old : lates None thread.frames.items ≡ lates None (others ++ Walk m ∷ [])
      + lates (last_under None (others ++ Walk m ∷ [])) (f ∷ []) =
      ap (λ (all : List Frame). lates None all) items
      ∙ late_append None (others ++ Walk m ∷ []) (f ∷ []) in
      let new : lates None after.frames.items ≡ lates None others =
      ap (λ (all : List Frame). lates None all) now in
      omega (
        arith,
        late_set threads t thread after found,
        late_append None others (Walk m ∷ []),
        late_walk (last_under None others) m,
      )

  -- the top frame's is among them
  late_thread : (threads : List Thread) (t : ℕ) (thread : Thread)
      → slice_get threads t ≡ Some thread
      → lates None thread.frames.items ≤ all_late threads
  late_thread [] t thread found = cc
  late_thread (x ∷ threads) zero thread found = let one : x ≡ thread = cc in rw one (omega arith)
  late_thread (x ∷ threads) (suc t) thread found =
      omega (arith, late_thread threads t thread found)

  pub late_top : (threads : List Thread) (t : ℕ) (thread : Thread)
      (below : List Frame) (f : Frame) → slice_get threads t ≡ Some thread
      → thread.frames.items ≡ below ++ f ∷ []
      → late (last_under None below) f ≤ all_late threads
  late_top threads t thread below f found items =
      let parts : lates None thread.frames.items ≡ lates None below + lates (last_under None below)
      (f ∷ []) =
      ap (λ (frames : List Frame). lates None frames) items ∙ late_append None below (f ∷ []) in
      omega (arith, late_thread threads t thread found)

-- a routine that is lent a packet has none to carry up
abbrev pub Carried : Set → States → Frame → Type 0
Carried set states (Routine a) =
    is_hold (sort_of set a.driver a.routine) ≡ true
    → (states a.driver a.routine a.position).settled ≡ SettledMark
Carried set states (Walk n) = ⊤
Carried set states (CancelFrame c) = ⊤

-- on all threads
abbrev pub AllCarried : Set → States → List Thread → Type 0
AllCarried set states threads =
    (t : ℕ) (thread : Thread) → slice_get threads t ≡ Some thread
    → Each (Carried set states) thread.frames.items

-- so at most one for each of the I/O manager's frames whose packet isn't lent
module _ (set : Set) (states : States) (returned : Bool) (n : ℕ) where
  abbrev lates_on : Option Frame → List Frame → ℕ
  lates_on under frames = late_in states returned n under frames

  -- 0 or 1 for the frame below, if it isn't lent
  abbrev unlent_under : List Frame → Option Frame → ℕ
  unlent_under frames under = if is_lent set frames then 0 else walks_under under n

  settled_none : (under : Option Frame) (a : Activation)
      → (states a.driver a.routine a.position).settled ≡ SettledMark
      → late_on states returned n under (Routine a) ≡ 0
  settled_none None a is = refl
  settled_none (Some (Routine b)) a is = refl
  settled_none (Some (CancelFrame c)) a is = refl
  settled_none (Some (Walk m)) a is =
      elim (eqb_tells m n) [ inl e ↦ rw (e.0, is) refl | inr e ↦ rw e.0 refl ]

  late_unlent : (under : Option Frame) (f : Frame) (frames : List Frame) → Carried set states f
      → late_on states returned n under f ≤ unlent_under (f ∷ frames) under
  late_unlent under (Walk m) frames carried = late_under states returned n under (Walk m)
  late_unlent under (CancelFrame c) frames carried =
      late_under states returned n under (CancelFrame c)
  late_unlent under (Routine a) frames carried =
      elim (cases_Bool (is_hold (sort_of set a.driver a.routine))) [
        | inl lent ↦
            let none : late_on states returned n under (Routine a) ≡ 0 =
            settled_none under a (carried lent) in
            rw (lent, none) (omega arith)
        | inr free ↦ rw free (late_under states returned n under (Routine a))
      ]

  late_few : (under : Option Frame) (frames : List Frame) → Each (Carried set states) frames
      → lates_on under frames ≤ unlent_under frames under + walking set frames n
  late_few under [] carried = omega arith
  late_few under (f ∷ frames) carried =
      let walks : walking set (f ∷ frames) n ≡ unlent_under frames (Some f) + walking set frames n =
      refl in
      let parts : lates_on under (f ∷ frames)
      ≡ late_on states returned n under f + lates_on (Some f) frames = refl in
      omega (arith, late_unlent under f frames carried.0, late_few (Some f) frames carried.1)

  late_first : (frames : List Frame) → Each (Carried set states) frames
      → lates_on None frames ≤ walking set frames n
  late_first frames carried =
      omega (arith, late_few None frames carried, if_none (is_lent set frames))

  late_threads : (threads : List Thread) → AllCarried set states threads
      → late_marks states returned n threads ≤ all_walking set threads n
  late_threads [] carried = omega arith
  late_threads (thread ∷ threads) carried =
      let here : lates_on None thread.frames.items ≤ walking set thread.frames.items n =
      late_first thread.frames.items (carried 0 thread refl) in
      omega (arith, late_threads threads (λ t other there. carried (suc t) other there))

  -- and none for the top one
  late_below : (under : Option Frame) (below : List Frame)
      → Each (Carried set states) (below ++ Walk n ∷ [])
      → lates_on under (below ++ Walk n ∷ []) + 1
      ≤ unlent_under (below ++ Walk n ∷ []) under + walking set (below ++ Walk n ∷ []) n
  late_below under [] carried =
      let own : walking set (Walk n ∷ []) n ≡ 1 = rw (eq-eqb n n refl) refl in
      let parts : lates_on under (Walk n ∷ []) ≡ late_on states returned n under (Walk n)
      + 0 = refl in
      omega (arith, late_walk states returned n under n)
  late_below under (f ∷ below) carried =
      let walks : walking set (f ∷ below ++ Walk n ∷ []) n
      ≡ unlent_under (below ++ Walk n ∷ []) (Some f) + walking set (below ++ Walk n ∷ []) n =
      refl in
      let parts : lates_on under (f ∷ below ++ Walk n ∷ [])
      ≡ late_on states returned n under f + lates_on (Some f) (below ++ Walk n ∷ []) = refl in
      omega (
        arith,
        below ++ Walk n ∷ [],
        late_unlent under f (below ++ Walk n ∷ []) carried.0,
        late_below (Some f) below carried.1,
      )

  late_less : (threads : List Thread) (t : ℕ) (thread : Thread) → slice_get threads t ≡ Some thread
      → AllCarried set states threads
      → lates_on None thread.frames.items + 1 ≤ walking set thread.frames.items n
      → late_marks states returned n threads + 1 ≤ all_walking set threads n
  late_less [] t thread found carried h = cc
  late_less (x ∷ threads) zero thread found carried h =
      let one : x ≡ thread = cc in
      rw one (omega (arith, late_threads threads (λ t other there. carried (suc t) other there)))
  late_less (x ∷ threads) (suc t) thread found carried h =
      let here : lates_on None x.frames.items ≤ walking set x.frames.items n =
      late_first x.frames.items (carried 0 x refl) in
      omega (
        arith,
        late_less threads t thread found (λ k other there. carried (suc k) other there) h,
      )

-- where the I/O manager's frame of a packet is a top one, none is late
pub no_late_walk : (set : Set) (states : States) (w : World) (t n : ℕ) (thread : Thread)
    (below : List Frame) (returned : Bool)
    → Held set states w → AllCarried set states w.threads → slice_get w.threads t ≡ Some thread
    → thread.frames.items ≡ below ++ Walk n ∷ []
    → late_marks states returned n w.threads ≡ 0
no_late_walk set states w t n thread below returned kept carried found frames =
    let each : Each (Carried set states) (below ++ Walk n ∷ []) =
    subst (λ (items : List Frame). Each (Carried set states) items) frames (carried t thread found)
    in
    let under : late_in states returned n None (below ++ Walk n ∷ []) + 1
    ≤ cond {A = ℕ} (is_lent set (below ++ Walk n ∷ [])) 0 0 + walking set (below ++ Walk n ∷ []) n =
    late_below set states returned n None below each in
    let none : cond {A = ℕ} (is_lent set (below ++ Walk n ∷ [])) 0 0 ≡ 0 =
    if_none (is_lent set (below ++ Walk n ∷ [])) in
    let less : late_marks states returned n w.threads + 1 ≤ all_walking set w.threads n =
    late_less set states returned n w.threads t thread found carried (rw frames (omega arith)) in
    omega (arith, kept.walks n, held_one (find w.shared.packets n))

-- nor of a packet that the I/O manager doesn't have
pub no_late_free : (set : Set) (states : States) (w : World) (n : ℕ) (returned : Bool)
    → Held set states w → AllCarried set states w.threads
    → held (find w.shared.packets n) ≡ 0 → late_marks states returned n w.threads ≡ 0
no_late_free set states w n returned kept carried free =
    omega (arith, late_threads set states returned n w.threads carried, kept.walks n)
