-- Other frames: where they have the right to a packet, the frame that steps has none, and doesn't
-- complete it.
use Rattle.laws_runs.proofs.Common.{ap, arith, refl, ◌∙◌, Bool, List, None, Option, Some, [], false, if◌then◌else◌, slice_get, true, ℕ, ◌+◌, ◌∷◌, ◌≡◌, ◌≢◌, ◌≤◌, frames_of, frames_on, Set, Entry, Shared, World, Frame, Packet, Thread, States, frame_rights, frame_walks, stack_sum, thread_sum, times_waiting, Standing}
use Rattle.laws_runs.proofs.Holders.Runs.{top_holding}
use Rattle.laws_runs.proofs.Holders.Sums.{unheld, held, Held, stack_append, stack_le, two_le}
use Rattle.laws_runs.proofs.Past.LivePackets.{find, find_above}
use Rattle.laws_runs.proofs.Runs.Events.{StepsFrame}

-- a packet that a register holds, and a frame that has nothing to do with it
pub record IsApart (states : States) (s : Shared) (f : Frame) (n : ℕ) : Type 0 where
  pub some : 1 ≤ unheld (find s.packets n)
  pub right : frame_rights states f n ≡ 0
  pub walk : frame_walks f n ≡ 0

-- sums over the frames of one thread, and over those of two
thread_le : (count : Frame → ℕ) (threads : List Thread) (k : ℕ) (o : Option Thread)
    → slice_get threads k ≡ o
    → stack_sum count (frames_of o) ≤ thread_sum count threads
thread_le count threads k None found = omega arith
thread_le count threads k (Some thread) found = stack_le count threads k thread found

threads_le : (count : Frame → ℕ) (threads : List Thread) (t k : ℕ) (thread : Thread)
    (o : Option Thread)
    → slice_get threads t ≡ Some thread → slice_get threads k ≡ o → t ≢ k
    → stack_sum count (frames_of o) + stack_sum count thread.frames.items ≤ thread_sum count threads
threads_le count threads t k thread None found there apart =
    omega (arith, stack_le count threads t thread found)
threads_le count threads t k thread (Some other) found there apart =
    omega (arith, two_le count threads t k thread other found there apart)

held_bit : (b : Bool) → (if b then 0 else 1) + (if b then 1 else 0) ≤ 1
held_bit true = omega arith
held_bit false = omega arith

one_held : (o : Option Packet) → unheld o + held o ≤ 1
one_held None = omega arith
one_held (Some p) = held_bit p.completing

module _ (set : Set) (states : States) (w : World) (past : List Entry)
    (stands : Standing set states w past)
    (kept : Held set states w) where
  abbrev rights_in : ℕ → List Frame → ℕ
  rights_in n frames = stack_sum (λ g. frame_rights states g n) frames

  module _ (t : ℕ) (h : StepsFrame set w t) (n : ℕ) where
    apart_of : (more : ℕ) → 1 ≤ more
        → more + frame_rights states h.frame n
        ≤ thread_sum (λ f. frame_rights states f n) w.threads + times_waiting set w.shared n
        → IsApart states w.shared h.frame n
    apart_of more some both =
        let all : thread_sum (λ f. frame_rights states f n) w.threads + times_waiting set w.shared n
        ≡ unheld (find w.shared.packets n) =
        kept.rights n in
        let one : unheld (find w.shared.packets n) + held (find w.shared.packets n) ≤ 1 =
        one_held (find w.shared.packets n) in
        let walk : frame_walks h.frame n ≤ held (find w.shared.packets n) =
        (top_holding set states w past stands kept t h).walks n in
        record { some = omega arith; right = omega arith; walk = omega arith }

    parts : rights_in n h.thread.frames.items ≡ rights_in n h.below + rights_in n (h.frame ∷ [])
    parts =
        ap (stack_sum (λ g. frame_rights states g n)) h.frames
        ∙ stack_append (λ g. frame_rights states g n) h.below (h.frame ∷ [])

    pub apart_below : 1 ≤ rights_in n h.below → IsApart states w.shared h.frame n
    apart_below some =
        let le : rights_in n h.thread.frames.items
        ≤ thread_sum (λ f. frame_rights states f n) w.threads =
        stack_le (λ g. frame_rights states g n) w.threads t h.thread h.found in
        let split : rights_in n h.thread.frames.items ≡ rights_in n h.below + rights_in n
        (h.frame ∷ []) = parts in
        apart_of (rights_in n h.below) some (omega arith)

    pub apart_other : (k : ℕ) → t ≢ k → 1 ≤ rights_in n (frames_on w k)
        → IsApart states w.shared h.frame n
    apart_other k apart some =
        let le : rights_in n (frames_on w k) + rights_in n h.thread.frames.items
        ≤ thread_sum (λ f. frame_rights states f n) w.threads =
        threads_le (λ g. frame_rights states g n) w.threads t k h.thread (slice_get w.threads k)
        h.found refl apart in
        let split : rights_in n h.thread.frames.items ≡ rights_in n h.below + rights_in n
        (h.frame ∷ []) = parts in
        apart_of (rights_in n (frames_on w k)) some (omega arith)

  -- no packet that isn't issued yet waits in a list or slot, and no frame has the right to one
  nobody_yet : (n : ℕ) → w.shared.issued ≡ n
      → thread_sum (λ f. frame_rights states f n) w.threads + times_waiting set w.shared n ≡ 0
  nobody_yet n same =
      let none : find w.shared.packets n ≡ None =
      find_above 0 w.shared.packets w.shared.issued n stands.tells.rises (omega arith) in
      kept.rights n ∙ ap unheld none

  pub waiting_not_yet : (n : ℕ) → 1 ≤ times_waiting set w.shared n → w.shared.issued ≢ n
  waiting_not_yet n some same =
      let nobody : thread_sum (λ f. frame_rights states f n) w.threads
      + times_waiting set w.shared n ≡ 0 = nobody_yet n same in
      absurd (omega arith)

  pub not_yet : (k n : ℕ) → 1 ≤ rights_in n (frames_on w k) → w.shared.issued ≢ n
  not_yet k n some same =
      let le : rights_in n (frames_on w k) ≤ thread_sum (λ f. frame_rights states f n) w.threads =
      thread_le (λ g. frame_rights states g n) w.threads k (slice_get w.threads k) refl in
      let nobody : thread_sum (λ f. frame_rights states f n) w.threads
      + times_waiting set w.shared n ≡ 0 = nobody_yet n same in
      absurd (omega arith)
