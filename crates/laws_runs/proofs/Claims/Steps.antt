-- A step keeps the balance of claims: how the numbers of claims change where one register's packet
-- becomes of another kind, and what the other frames have.
use Rattle.laws_runs.proofs.Common.{ap, arith, inl, inr, refl, subst, sym, ◌-◌, ◌∙◌, Bool, List, None, Option, Some, [], false, if◌then◌else◌, nat_eq, true, ℕ, ◌++◌, ◌+◌, ◌∷◌, ◌≡◌, ◌≤◌, Outcome, answered_in, operand_of, standing, with_stack, with_thread, is_at, frames_on, Set, instruction_at, Entry, World, Kind, QueueName, Declared, DeviceQueue, Status, Activation, Frame, CancelFrame, Routine, Walk, Ref, States, named_as, stack_sum, thread_sum, times_listed, Each, each_after, each_append, each_before, StepLeaves, IsGood, Ready, state_of, Replaces, Stacked, Stands, Standing, stands_there, last_same, told_frame, told_is, told_last, stood}
use Rattle.std.proofs.Common.{eq-eqb}
use Rattle.laws_runs.proofs.Claims.Balance.{KindTurns, Same, at_kind, at_swapped, balanced_less}
use Rattle.laws_runs.proofs.Claims.Changed.{changed}
use Rattle.laws_runs.proofs.Claims.Names.{KeepsNames, OfQueues, TurnsNames, at_queues, names, queue_packets, was_queues}
use Rattle.laws_runs.proofs.Claims.Quiet.{Quiet, apart_keeps}
use Rattle.laws_runs.proofs.Claims.Sums.{Balanced, Claimed, FrameApart, frame_names, names_on, numbers, takes_in, was_taken, is_declared, is_cancelable, times_of, list_of}
use Rattle.laws_runs.proofs.Holders.Rights.{named_told}
use Rattle.laws_runs.proofs.Holders.Sums.{top_le}
use Rattle.laws_runs.proofs.Runs.Events.{StepsFrame}
use Rattle.laws_runs.proofs.Runs.Threads.{of_steps, each_frames}

if_sums : (b : Bool) (one two three four : ℕ) → one + two ≡ three + four
    → (if b then one else 0) + (if b then two else 0) ≡ (if b then three else 0)
    + (if b then four else 0)
if_sums true one two three four h = h
if_sums false one two three four h = refl

pub frame_turns : (states : States) (a b : Activation) (j k : Kind) (m : ℕ)
    → TurnsNames states a b j k m → b.device ≡ a.device → (g : Kind → Bool) → OfQueues g
    → (on : ℕ → Bool) (n : ℕ)
    → frame_names states g on n (Routine b) + at_kind g on a.device j m n
    ≡ frame_names states g on n (Routine a) + at_kind g on a.device k m n
frame_turns states a b j k m turns device g queues on n =
    let here : frame_names states g on n (Routine b)
    ≡ (if on a.device then names states g b n else 0) =
    ap (λ (d : ℕ). if on d then names states g b n else 0) device in
    omega (
      arith,
      if_sums (on a.device) (names states g b n) (named_as g j (Ref m) n) (names states g a n) (named_as g k (Ref m) n) (turns g queues n),
      at_swapped (g j) (on a.device) (if nat_eq m n then 1 else 0),
      at_swapped (g k) (on a.device) (if nat_eq m n then 1 else 0),
    )

-- in a frame that is told a status packets are as apart as before
told_keeps : (set : Set) (states : States) (issued : ℕ) (a : Activation) (status : Status)
    (r : Option ℕ)
    → Ready set states issued (answered_in a status r)
    → KeepsNames states a (answered_in a status r)
told_keeps set states issued a status None h g queues n = refl
told_keeps set states issued a status (Some r) h g queues n =
    named_told g (queue_packets g queues) issued (state_of states a).kinds a.registers r status n
    h.1.kinds

module _ (set : Set) (states : States) (issued : ℕ) where
  told_apart : (told : Option Status) (g : Frame) → Stands set states issued None
      (told_frame set told g)
      → FrameApart states g → FrameApart states (told_frame set told g)
  told_apart None (Routine a) stands h = h
  told_apart None (Walk m) stands h = h
  told_apart (Some status) (Walk m) stands h = h
  told_apart None (CancelFrame c) stands h = h
  told_apart (Some status) (CancelFrame c) stands h = h
  told_apart (Some status) (Routine a) stands h =
      let r : Option ℕ = operand_of (instruction_at set a.driver a.routine (a.position - 1)) in
      apart_keeps states a (answered_in a status r)
      (told_keeps set states issued a status r stands) h

  last_apart : (below : List Frame) (f : Frame) (told : Option Status)
      → Stacked set states issued (below ++ f ∷ []) → Replaces set states issued f told []
      → Each (FrameApart states) below → Each (FrameApart states) (told_last set told below)
  last_apart [] f told stacked to h = tt
  last_apart (g ∷ []) f told stacked to h = (told_apart told g (to g stacked.0) h.0, tt)
  last_apart (g ∷ e ∷ below) f told stacked to h =
      (h.0, last_apart (e ∷ below) f told stacked.1 to h.1)

  after_apart : (below : List Frame) (f : Frame) (told : Option Status) (frames : List Frame)
      → Stacked set states issued (below ++ f ∷ []) → Replaces set states issued f told frames
      → Each (FrameApart states) below → Each (FrameApart states) (told_last set told below)
  after_apart below f told [] stacked to h = last_apart below f told stacked to h
  after_apart below f None (e ∷ frames) stacked to h =
      subst (λ (xs : List Frame). Each (FrameApart states) xs) (sym (last_same set below)) h
  after_apart below f (Some status) (e ∷ frames) stacked to h =
      let no : Some status ≡ None = to.0 in cc

declared_same : (set : Set) (v w : World) → w.shared.queues ≡ v.shared.queues → (d : ℕ)
    (q : QueueName) (n : ℕ) → is_declared q ≡ true
    → times_of (list_of w.shared d q) n ≡ times_of (list_of v.shared d q) n
declared_same set v w queues d (Declared q) n is = rw queues refl
declared_same set v w queues d DeviceQueue n is = cc

entries_less : (set : Set) (v w : World) → w.shared.queues ≡ v.shared.queues
    → ((d n : ℕ) → is_cancelable set d DeviceQueue ≡ true
    → times_of (list_of w.shared d DeviceQueue) n ≤ times_of (list_of v.shared d DeviceQueue) n)
    → (d : ℕ) (q : QueueName) (n : ℕ) → is_cancelable set d q ≡ true
    → times_of (list_of w.shared d q) n ≤ times_of (list_of v.shared d q) n
entries_less set v w queues waiting d (Declared q) n is =
    omega (arith, declared_same set v w queues d (Declared q) n refl)
entries_less set v w queues waiting d DeviceQueue n is = waiting d n is

-- frames name as many packets of queues with a cancel routine as before, words and queues are as
-- they were, and no packet stands in two lists
pub same_balance : (set : Set) (states : States) (v w : World) → Balanced set (numbers states v)
    → ((g : Kind → Bool) → OfQueues g → (on : ℕ → Bool) (n : ℕ)
    → thread_sum (frame_names states g on n) w.threads
    ≡ thread_sum (frame_names states g on n) v.threads)
    → Same (numbers states v).word (numbers states w).word
    → w.shared.queues ≡ v.shared.queues
    → ((d n : ℕ) → is_cancelable set d DeviceQueue ≡ true
    → times_of (list_of w.shared d DeviceQueue) n ≤ times_of (list_of v.shared d DeviceQueue) n)
    → ((n : ℕ) → takes_in states n v.threads + times_listed w.shared n ≤ 1)
    → Balanced set (numbers states w)
same_balance set states v w balanced same words queues waiting once =
    balanced_less set (numbers states v) (numbers states w) balanced
    (λ n.
    omega (arith, same was_taken was_queues (λ e. true) n, once n))
    (λ stage claim d q n. omega (
      arith,
      same (is_at stage q) (at_queues stage q) (λ e. nat_eq e d) n,
    ))
    (λ stage right d q n. same (is_at stage q) (at_queues stage q) (λ e. nat_eq e d) n)
    words
    (λ d q n is. declared_same set v w queues d q n is)
    (λ d q n is. entries_less set v w queues waiting d q n is)

module _ (set : Set) (states : States) (w : World) (past : List Entry) (good : IsGood set states)
    (stands : Standing set states w past) (c : Claimed set states w) (t : ℕ)
    (h : StepsFrame set w t)
    (leaves : StepLeaves set states w.shared h.frame h.outcome) where
  abbrev pub after : World
  after = with_thread w t h.outcome.shared (with_stack h.thread (standing set h.below h.outcome))

  apart_there : Each (FrameApart states) (h.below ++ h.frame ∷ [])
  apart_there = of_steps w t (Each (FrameApart states)) h (c.apart t)

  pub apart_here : FrameApart states h.frame
  apart_here = (each_after (FrameApart states) h.below (h.frame ∷ []) apart_there).0

  -- packets are apart in every frame after the step, where they are in those in place of the one
  -- that ran
  stood_apart : Each (FrameApart states) h.outcome.frames
      → Each (FrameApart states) (standing set h.below h.outcome)
  stood_apart new =
      let o : Outcome = h.outcome in
      let below : Each (FrameApart states) h.below =
      each_before (FrameApart states) h.below (h.frame ∷ []) apart_there in
      elim (stood set w.shared t h.below h.frame o h.comes) [
        | inl is ↦
            subst (λ (xs : List Frame). Each (FrameApart states) xs)
            (sym (is ∙ ap (λ (xs : List Frame). xs ++ o.frames) (told_is set h.below o.told)))
            (each_append (FrameApart states) (told_last set o.told h.below) o.frames
            (after_apart set states w.shared.issued h.below h.frame o.told o.frames
            (stands_there set states w past good stands t h) leaves.stands below) new)
        | inr stops ↦
            subst (λ (xs : List Frame). Each (FrameApart states) xs) (sym stops.stands)
            (each_before (FrameApart states) stops.others (Walk stops.n ∷ [])
            (subst (λ (xs : List Frame). Each (FrameApart states) xs) stops.below_is below))
      ]

  pub all_apart : Each (FrameApart states) h.outcome.frames
      → (k : ℕ) → Each (FrameApart states) (frames_on after k)
  all_apart new =
      each_frames w t h.outcome.shared (with_stack h.thread (standing set h.below h.outcome))
      (λ k frames. Each (FrameApart states) frames) h.thread h.found (stood_apart new)
      (λ k apart. c.apart k)

  -- the sums where the frames name as much as the one that ran
  pub same_sums : (g : Kind → Bool) → OfQueues g → (on : ℕ → Bool) (n : ℕ)
      → stack_sum (frame_names states g on n) h.outcome.frames ≡ frame_names states g on n h.frame
      → thread_sum (frame_names states g on n) after.threads
      ≡ thread_sum (frame_names states g on n) w.threads
  same_sums g queues on n same =
      omega (arith, changed set states g queues on n w past good stands t h leaves)

  -- or less
  pub less_sums : (g : Kind → Bool) → OfQueues g → (on : ℕ → Bool) (n : ℕ)
      → stack_sum (frame_names states g on n) h.outcome.frames ≤ frame_names states g on n h.frame
      → thread_sum (frame_names states g on n) after.threads
      ≤ thread_sum (frame_names states g on n) w.threads
  less_sums g queues on n less =
      omega (arith, changed set states g queues on n w past good stands t h leaves)

  -- or one register's packet became of another kind
  module _ (a b : Activation) (j k : Kind) (m : ℕ) (frame : h.frame ≡ Routine a)
      (frames : h.outcome.frames ≡ Routine b ∷ []) (device : b.device ≡ a.device)
      (turns : TurnsNames states a b j k m) where
    turned_sums : (g : Kind → Bool) → OfQueues g → (on : ℕ → Bool) (n : ℕ)
        → thread_sum (frame_names states g on n) after.threads + at_kind g on a.device j m n
        ≡ thread_sum (frame_names states g on n) w.threads + at_kind g on a.device k m n
    turned_sums g queues on n =
        let was : frame_names states g on n h.frame ≡ frame_names states g on n (Routine a) =
        ap (frame_names states g on n) frame in
        let now : stack_sum (frame_names states g on n) h.outcome.frames
        ≡ frame_names states g on n (Routine b) + 0 =
        ap (stack_sum (frame_names states g on n)) frames in
        omega (
          arith,
          changed set states g queues on n w past good stands t h leaves,
          frame_turns states a b j k m turns device g queues on n,
        )

    pub kind_turns : KindTurns (numbers states w) (numbers states after) j k a.device m
    kind_turns =
        record {
          staged = λ stage d q n.
              turned_sums (is_at stage q) (at_queues stage q) (λ e. nat_eq e d) n;
          takes = turned_sums was_taken was_queues (λ e. true);
        }

  -- a frame's names are among all
  pub names_among : (a : Activation) (g : Kind → Bool) (n : ℕ) → h.frame ≡ Routine a
      → names states g a n ≤ names_on states g a.device n w.threads
  names_among a g n frame =
      let same : frame_names states g (λ e. nat_eq e a.device) n h.frame ≡ names states g a n =
      ap (frame_names states g (λ e. nat_eq e a.device) n) frame
      ∙ (rw (eq-eqb a.device a.device refl) refl) in
      omega (
        arith,
        top_le (frame_names states g (λ e. nat_eq e a.device) n) w.threads t h.thread h.below h.frame h.found h.frames,
      )

  -- quiet steps
  pub quiet_claims : Quiet states w.shared h.frame h.outcome → Claimed set states after
  quiet_claims q =
      record {
        balanced = same_balance set states w after c.balanced
            (λ g of on n. same_sums g of on n (q.names g of on n)) (λ d p n. q.words n d p) q.queues
            (λ d n is. rw (q.starts) (omega arith))
            (λ n.
            let lists : times_listed h.outcome.shared n ≡ times_listed w.shared n =
            rw (q.queues, q.starts) refl in
            omega (arith, c.balanced.once n));
        apart = all_apart (q.apart apart_here);
      }
