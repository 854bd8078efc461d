-- Sums of the I/O manager's frames that aren't lent to the completion routine on them: over the
-- frames of a thread, and over all threads. Only the last of the frames below looks at those above.
use Rattle.laws_runs.proofs.Common.{ap, arith, refl, sym, zero, ◌-◌, ◌∙◌, eq-eqb, Bool, List, None, Option, Some, [], false, if◌then◌else◌, length, replicate, slice_get, slice_set, suc, ℕ, ◌++◌, ◌+◌, ◌∷◌, ◌≡◌, ◌≤◌, answered_in, operand_of, top_of, is_hold, frames_of, frames_on, Set, instruction_at, sort_of, World, idle_thread, Status, Activation, Frame, CancelFrame, Routine, Walk, Thread, all_walking, frame_walks, is_lent, walking, get_at_length, last_under, told_frame, told_last, if_none}

-- the I/O manager's frame that stands under another one, if any
abbrev pub walks_under : Option Frame → ℕ → ℕ
walks_under None n = 0
walks_under (Some f) n = frame_walks f n

-- the sum over frames that stand on one, with that one's own
abbrev pub walking_from : Set → Option Frame → List Frame → ℕ → ℕ
walking_from set under frames n =
    (if is_lent set frames then 0 else walks_under under n) + walking set frames n

pub lent_first : (set : Set) (f : Frame) (frames : List Frame)
    → is_lent set (f ∷ frames) ≡ is_lent set (f ∷ [])
lent_first set (Routine a) frames = refl
lent_first set (Walk n) frames = refl
lent_first set (CancelFrame c) frames = refl

pub walking_on : (set : Set) (below frames : List Frame) (n : ℕ)
    → walking set (below ++ frames) n + walks_under (top_of below) n
    ≡ walking set below n + walking_from set (top_of below) frames n
walking_on set [] frames n =
    omega (arith, if_none (is_lent set frames))
walking_on set (g ∷ []) frames n = omega arith
walking_on set (g ∷ e ∷ below) frames n =
    let first : (if is_lent set (e ∷ (below ++ frames)) then 0 else frame_walks g n)
    ≡ (if is_lent set (e ∷ below) then 0 else frame_walks g n) =
    ap (λ (b : Bool). if b then 0 else frame_walks g n)
    (lent_first set e (below ++ frames) ∙ sym (lent_first set e below)) in
    let others : walking set ((e ∷ below) ++ frames) n + walks_under (top_of (e ∷ below)) n
    ≡ walking set (e ∷ below) n + walking_from set (top_of (e ∷ below)) frames n =
    walking_on set (e ∷ below) frames n in
    let last : length (g ∷ e ∷ below) - 1 ≡ suc (length (e ∷ below) - 1) = omega arith in
    let top : walks_under (top_of (g ∷ e ∷ below)) n ≡ walks_under (top_of (e ∷ below)) n =
    ap (λ (i : ℕ). walks_under (slice_get (g ∷ e ∷ below) i) n) last in
    let from : walking_from set (top_of (g ∷ e ∷ below)) frames n
    ≡ walking_from set (top_of (e ∷ below)) frames n =
    ap (λ (walks : ℕ). (if is_lent set frames then 0 else walks) + walking set frames n) top in
    omega arith

-- a routine's frame counts nothing
pub pushed_walks : (set : Set) (a : Activation) (f : Frame) (n : ℕ) → frame_walks f n ≡ 0
    → walking set (Routine a ∷ f ∷ []) n ≡ walking set (Routine a ∷ []) n
pushed_walks set a f n none =
    omega (arith, if_none (is_lent set (f ∷ [])))

-- the frame that is told a status counts as it did
pub told_lent : (set : Set) (told : Option Status) (g : Frame) (frames : List Frame)
    → is_lent set (told_frame set told g ∷ frames) ≡ is_lent set (g ∷ frames)
told_lent set None (Routine a) frames = refl
told_lent set None (Walk n) frames = refl
told_lent set None (CancelFrame c) frames = refl
told_lent set (Some status) (Walk n) frames = refl
told_lent set (Some status) (CancelFrame c) frames = refl
told_lent set (Some status) (Routine a) frames =
    by_operand (operand_of (instruction_at set a.driver a.routine (a.position - 1)))
  where
    by_operand : (r : Option ℕ)
        → is_lent set (Routine (answered_in a status r) ∷ frames) ≡ is_lent set (Routine a ∷ frames)
    by_operand None = refl
    by_operand (Some r) = refl

pub told_walks : (set : Set) (told : Option Status) (g : Frame) (n : ℕ)
    → frame_walks (told_frame set told g) n ≡ frame_walks g n
told_walks set None (Routine a) n = refl
told_walks set None (Walk m) n = refl
told_walks set None (CancelFrame c) n = refl
told_walks set (Some status) (Walk m) n = refl
told_walks set (Some status) (CancelFrame c) n = refl
told_walks set (Some status) (Routine a) n = refl

last_lent : (set : Set) (told : Option Status) (e : Frame) (below frames : List Frame)
    → is_lent set (told_last set told (e ∷ below) ++ frames) ≡ is_lent set (e ∷ (below ++ frames))
last_lent set told e [] frames = told_lent set told e frames
last_lent set told e (h ∷ below) frames =
    lent_first set e (told_last set told (h ∷ below) ++ frames)
    ∙ sym (lent_first set e ((h ∷ below) ++ frames))

pub last_walking : (set : Set) (told : Option Status) (below frames : List Frame) (n : ℕ)
    → walking set (told_last set told below ++ frames) n ≡ walking set (below ++ frames) n
last_walking set told [] frames n = refl
last_walking set told (g ∷ []) frames n =
    ap (λ (walks : ℕ). (if is_lent set frames then 0 else walks) + walking set frames n)
    (told_walks set told g n)
last_walking set told (g ∷ e ∷ below) frames n =
    let first : (if is_lent set (told_last set told (e ∷ below) ++ frames) then 0
    else frame_walks g n)
    ≡ (if is_lent set (e ∷ (below ++ frames)) then 0 else frame_walks g n) =
    ap (λ (b : Bool). if b then 0 else frame_walks g n) (last_lent set told e below frames) in
    omega (arith, last_walking set told (e ∷ below) frames n)

-- one thread's frames in place of others
pub walking_set : (set : Set) (threads : List Thread) (t : ℕ) (thread after : Thread) (n : ℕ)
    → slice_get threads t ≡ Some thread
    → all_walking set (slice_set threads t after) n + walking set thread.frames.items n
    ≡ all_walking set threads n + walking set after.frames.items n
walking_set set [] t thread after n found = cc
walking_set set (x ∷ threads) zero thread after n found =
    let one : x ≡ thread = cc in rw one (omega arith)
walking_set set (x ∷ threads) (suc t) thread after n found =
    omega (arith, walking_set set threads t thread after n found)

-- those of one thread are among all, and the top one isn't lent
pub walking_le : (set : Set) (threads : List Thread) (t : ℕ) (thread : Thread) (n : ℕ)
    → slice_get threads t ≡ Some thread
    → walking set thread.frames.items n ≤ all_walking set threads n
walking_le set [] t thread n found = cc
walking_le set (x ∷ threads) zero thread n found =
    let one : x ≡ thread = cc in rw one (omega arith)
walking_le set (x ∷ threads) (suc t) thread n found =
    omega (arith, walking_le set threads t thread n found)

pub walking_last : (set : Set) (below : List Frame) (f : Frame) (n : ℕ)
    → frame_walks f n ≤ walking set (below ++ f ∷ []) n
walking_last set [] f n = omega arith
walking_last set (g ∷ below) f n =
    omega (arith, walking_last set below f n)

pub walking_top : (set : Set) (threads : List Thread) (t : ℕ) (thread : Thread)
    (below : List Frame) (f : Frame) (n : ℕ)
    → slice_get threads t ≡ Some thread → thread.frames.items ≡ below ++ f ∷ []
    → frame_walks f n ≤ all_walking set threads n
walking_top set threads t thread below f n found frames =
    let same : walking set thread.frames.items n ≡ walking set (below ++ f ∷ []) n =
    ap (λ (items : List Frame). walking set items n) frames in
    omega (arith, walking_le set threads t thread n found, walking_last set below f n)

-- one frame on a thread that had none
pub first_walking : (set : Set) (threads : List Thread) (t : ℕ) (thread after : Thread)
    (f : Frame) (n : ℕ)
    → slice_get threads t ≡ Some thread → thread.frames.items ≡ [] → after.frames.items ≡ f ∷ []
    → all_walking set (slice_set threads t after) n ≡ frame_walks f n + all_walking set threads n
first_walking set threads t thread after f n found idle items =
    let none : walking set thread.frames.items n ≡ 0 =
    ap (λ (frames : List Frame). walking set frames n) idle in
    let one : walking set after.frames.items n ≡ frame_walks f n + 0 =
    ap (λ (frames : List Frame). walking set frames n) items in
    omega (arith, walking_set set threads t thread after n found)

-- before the first event
pub none_walking : (set : Set) (threads n : ℕ)
    → all_walking set (replicate threads idle_thread) n ≡ 0
none_walking set zero n = refl
none_walking set (suc threads) n =
    omega (arith, none_walking set threads n)

-- the frame under the one at a place, where frames stand on another one or on none
abbrev pub under_at : Option Frame → List Frame → ℕ → Option Frame
under_at under [] k = None
under_at under (f ∷ frames) zero = under
under_at under (f ∷ frames) (suc k) = under_at (Some f) frames k

-- the I/O manager's frame under a routine that isn't lent its packet is counted
walking_at : (set : Set) (under : Option Frame) (frames : List Frame) (k n : ℕ) (a : Activation)
    → slice_get frames k ≡ Some (Routine a) → under_at under frames k ≡ Some (Walk n)
    → is_hold (sort_of set a.driver a.routine) ≡ false → 1 ≤ walking_from set under frames n
walking_at set under [] k n a there is free = cc
walking_at set under (f ∷ frames) zero n a there is free =
    let same : f ≡ Routine a = cc in rw (same, free, is, eq-eqb n n refl) (omega arith)
walking_at set under (f ∷ frames) (suc k) n a there is free =
    omega (arith, walking_at set (Some f) frames k n a there is free)

walking_in : (set : Set) (threads : List Thread) (t k n : ℕ) (a : Activation) (o : Option Thread)
    → slice_get threads t ≡ o → slice_get (frames_of o) k ≡ Some (Routine a)
    → under_at None (frames_of o) k ≡ Some (Walk n)
    → is_hold (sort_of set a.driver a.routine) ≡ false → 1 ≤ all_walking set threads n
walking_in set threads t k n a None found there is free = cc
walking_in set threads t k n a (Some thread) found there is free =
    let frames : List Frame = thread.frames.items in
    omega (
      arith,
      walking_at set None frames k n a there is free,
      if_none (is_lent set frames),
      walking_le set threads t thread n found,
    )

pub walking_there : (set : Set) (w : World) (t k n : ℕ) (a : Activation)
    → slice_get (frames_on w t) k ≡ Some (Routine a)
    → under_at None (frames_on w t) k ≡ Some (Walk n)
    → is_hold (sort_of set a.driver a.routine) ≡ false → 1 ≤ all_walking set w.threads n
walking_there set w t k n a there is free =
    walking_in set w.threads t k n a (slice_get w.threads t) refl there is free

-- where it stands under the top one
pub under_last : (under : Option Frame) (below : List Frame) (f : Frame)
    → under_at under (below ++ f ∷ []) (length below) ≡ last_under under below
under_last under [] f = refl
under_last under (g ∷ below) f = under_last (Some g) below f

pub walking_under : (set : Set) (threads : List Thread) (t : ℕ) (thread : Thread)
    (below : List Frame) (a : Activation) (n : ℕ)
    → slice_get threads t ≡ Some thread → thread.frames.items ≡ below ++ Routine a ∷ []
    → last_under None below ≡ Some (Walk n) → is_hold (sort_of set a.driver a.routine) ≡ false
    → 1 ≤ all_walking set threads n
walking_under set threads t thread below a n found frames is free =
    walking_in set threads t (length below) n a (Some thread) found
    (ap (λ (items : List Frame). slice_get items (length below)) frames
    ∙ get_at_length below (Routine a))
    (ap (λ (items : List Frame). under_at None items (length below)) frames
    ∙ under_last None below (Routine a) ∙ is) free
