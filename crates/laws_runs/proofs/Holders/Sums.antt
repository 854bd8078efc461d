-- Sums of rights and of the I/O manager's frames over threads, and what they are by the packet:
-- each live packet has one right, or one frame of the I/O manager.
use Rattle.laws_runs.proofs.Common.{ap, arith, cond, refl, zero, ◌∙◌, Bool, List, None, Option, Some, [], false, if◌then◌else◌, slice_get, slice_set, suc, true, ℕ, ◌++◌, ◌+◌, ◌∷◌, ◌≡◌, ◌≢◌, ◌≤◌, frames_of, frames_on, Set, World, Status, Frame, Packet, Thread, States, all_walking, frame_rights, stack_sum, thread_sum, times_waiting, sum_le, told_frame, told_last}
use Rattle.laws_runs.proofs.Past.LivePackets.{find}

-- a live packet that isn't completing, and one that is
abbrev pub unheld : Option Packet → ℕ
unheld None = 0
unheld (Some p) = if p.completing then 0 else 1

abbrev pub held : Option Packet → ℕ
held None = 0
held (Some p) = if p.completing then 1 else 0

-- the packets that are held by a register or wait in a list, a slot or by their cancel word, and
-- those that the I/O manager has
pub record Held (set : Set) (states : States) (w : World) : Type 0 where
  pub rights : (n : ℕ)
      → thread_sum (λ f. frame_rights states f n) w.threads + times_waiting set w.shared n
      ≡ unheld (find w.shared.packets n)
  pub walks : (n : ℕ) → all_walking set w.threads n ≡ held (find w.shared.packets n)

-- sums over frames and threads
pub stack_append : (count : Frame → ℕ) (xs ys : List Frame) → stack_sum count (xs ++ ys)
    ≡ stack_sum count xs + stack_sum count ys
stack_append count [] ys = omega arith
stack_append count (f ∷ xs) ys =
    omega (arith, stack_append count xs ys)

pub thread_set : (count : Frame → ℕ) (threads : List Thread) (t : ℕ) (thread after : Thread)
    → slice_get threads t
    ≡ Some thread
    → thread_sum count (slice_set threads t after) + stack_sum count thread.frames.items
    ≡ thread_sum count threads + stack_sum count after.frames.items
thread_set count [] t thread after found = cc
thread_set count (x ∷ threads) zero thread after found =
    let one : x ≡ thread = cc in rw one (omega arith)
thread_set count (x ∷ threads) (suc t) thread after found =
    omega (arith, thread_set count threads t thread after found)

-- one frame on a thread that had none
pub first_frame : (count : Frame → ℕ) (threads : List Thread) (t : ℕ) (thread after : Thread)
    (f : Frame)
    → slice_get threads t ≡ Some thread → thread.frames.items ≡ [] → after.frames.items ≡ f ∷ []
    → thread_sum count (slice_set threads t after) ≡ count f + thread_sum count threads
first_frame count threads t thread after f found idle items =
    let none : stack_sum count thread.frames.items ≡ 0 = ap (stack_sum count) idle in
    let one : stack_sum count after.frames.items ≡ count f + 0 = ap (stack_sum count) items in
    omega (arith, thread_set count threads t thread after found)

-- the frame that is told a status counts as it did
pub last_sum : (set : Set) (count : Frame → ℕ) (told : Option Status)
    → ((g : Frame) → count (told_frame set told g) ≡ count g) → (below : List Frame)
    → stack_sum count (told_last set told below) ≡ stack_sum count below
last_sum set count told same [] = refl
last_sum set count told same (g ∷ []) =
    omega (arith, same g)
last_sum set count told same (g ∷ e ∷ below) =
    ap (λ (sum : ℕ). count g + sum) (last_sum set count told same (e ∷ below))

pub stack_le : (count : Frame → ℕ) (threads : List Thread) (t : ℕ) (thread : Thread)
    → slice_get threads t ≡ Some thread
    → stack_sum count thread.frames.items ≤ thread_sum count threads
stack_le count [] t thread found = cc
stack_le count (x ∷ threads) zero thread found = let one : x ≡ thread = cc in rw one (omega arith)
stack_le count (x ∷ threads) (suc t) thread found =
    omega (arith, stack_le count threads t thread found)

pub top_le : (count : Frame → ℕ) (threads : List Thread) (t : ℕ) (thread : Thread)
    (below : List Frame) (f : Frame)
    → slice_get threads t ≡ Some thread
    → thread.frames.items ≡ below ++ f ∷ [] → count f ≤ thread_sum count threads
top_le count threads t thread below f found frames =
    let parts : stack_sum count thread.frames.items ≡ stack_sum count below
    + stack_sum count (f ∷ []) =
    ap (stack_sum count) frames ∙ stack_append count below (f ∷ [])
    in
    omega (arith, stack_le count threads t thread found)

-- one frame of a thread, on top or below, is counted among all
frame_in : (count : Frame → ℕ) (threads : List Thread) (t k : ℕ) (f : Frame) (o : Option Thread)
    → slice_get threads t ≡ o → slice_get (frames_of o) k ≡ Some f
    → count f ≤ thread_sum count threads
frame_in count threads t k f None found there = cc
frame_in count threads t k f (Some thread) found there =
    let here : count f ≤ stack_sum count thread.frames.items =
    sum_le count (stack_sum count) (λ g frames. refl) thread.frames.items k f there in
    omega (arith, stack_le count threads t thread found)

pub frame_le : (count : Frame → ℕ) (w : World) (t k : ℕ) (f : Frame)
    → slice_get (frames_on w t) k ≡ Some f → count f ≤ thread_sum count w.threads
frame_le count w t k f there =
    frame_in count w.threads t k f (slice_get w.threads t) refl there

-- at most one right to a packet, and none where the I/O manager has it
free_one : (b : Bool) → (if b then 0 else 1) ≤ 1
free_one true = omega arith
free_one false = omega arith

pub unheld_one : (o : Option Packet) → unheld o ≤ 1
unheld_one None = omega arith
unheld_one (Some p) = free_one p.completing

bit_apart : (b : Bool) → 1 ≤ (if b then 1 else 0) → cond {A = ℕ} b 0 1 ≡ 0
bit_apart true h = refl
bit_apart false h = absurd (omega arith)

pub held_apart : (o : Option Packet) → 1 ≤ held o → unheld o ≡ 0
held_apart None h = absurd (omega arith)
held_apart (Some p) h = bit_apart p.completing h

-- two threads
pub two_le : (count : Frame → ℕ) (threads : List Thread) (t k : ℕ) (one other : Thread)
    → slice_get threads t
    ≡ Some one → slice_get threads k ≡ Some other → t ≢ k
    → stack_sum count one.frames.items + stack_sum count other.frames.items
    ≤ thread_sum count threads
two_le count [] t k one other found there apart = cc
two_le count (x ∷ threads) zero zero one other found there apart = absurd (apart refl)
two_le count (x ∷ threads) zero (suc k) one other found there apart =
    let same : x ≡ one = cc in
    rw same (omega (arith, stack_le count threads k other there))
two_le count (x ∷ threads) (suc t) zero one other found there apart =
    let same : x ≡ other = cc in
    rw same (omega (arith, stack_le count threads t one found))
two_le count (x ∷ threads) (suc t) (suc k) one other found there apart =
    omega (arith, two_le count threads t k one other found there (λ e. apart (ap suc e)))

-- the packet that a right is to, and the one that is on its way up
own_bit : (p : Packet) (b : Bool) → p.completing ≡ b → 1 ≤ (if b then 0 else 1) → (q : Packet)
    × (Some p ≡ Some q) ×
    (q.completing ≡ false)
own_bit p true is h = absurd (omega arith)
own_bit p false is h = (p, refl, is)

walked_bit : (p : Packet) (b : Bool) → p.completing ≡ b → 1 ≤ (if b then 1 else 0)
    → (q : Packet) × (Some p ≡ Some q) × (q.completing ≡ true)
walked_bit p true is h = (p, refl, is)
walked_bit p false is h = absurd (omega arith)

pub own_if : (o : Option Packet) → 1 ≤ unheld o → (p : Packet) × (o ≡ Some p)
    × (p.completing ≡ false)
own_if None h = absurd (omega arith)
own_if (Some p) h = own_bit p p.completing refl h

pub walked_if : (o : Option Packet) → 1 ≤ held o → (p : Packet) × (o ≡ Some p)
    × (p.completing ≡ true)
walked_if None h = absurd (omega arith)
walked_if (Some p) h = walked_bit p p.completing refl h
