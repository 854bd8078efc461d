-- What the holders of packets say of claims: a register at the stage Listed or Cancelling, one of
-- kind Own, and a cancel word that isn't empty hold the packet, and it has one holder.
use Rattle.laws_runs.proofs.Common.{ap, arith, refl, Bool, List, None, Option, Some, [], false, if◌then◌else◌, is_some, nat_eq, true, ℕ, ◌+◌, ◌∷◌, ◌≡◌, ◌≤◌, is_at, is_right, Set, World, packet_of, Kind, Own, Queued, Armed, Cancelling, Listed, Taken, QueueName, Declared, DeviceQueue, Armer, Frame, CancelFrame, Routine, Walk, Packet, Thread, Value, States, frame_rights, named_as, named_in, stack_sum, thread_sum, times_listed, times_named, times_queued, times_to_start, times_waiting, state_of}
use Rattle.std.proofs.Common.{eq-eqb}
use Rattle.laws_runs.specs.Holder.{names as value_names}
use Rattle.laws_runs.proofs.Claims.Names.{names}
use Rattle.laws_runs.proofs.Claims.Queues.{queued_zero, to_start_zero}
use Rattle.laws_runs.proofs.Claims.Sums.{Balanced, frame_names, names_on, numbers, takes_in, times_of, was_taken, word_at, word_for, is_cancelable, list_of}
use Rattle.laws_runs.proofs.Holders.Sums.{Held, unheld, unheld_one}
use Rattle.laws_runs.proofs.Past.LivePackets.{find, find_place}
use Rattle.laws_runs.proofs.Claims.Balance.{name_same}

-- sums over frames, and over threads
pub stack_most : (few more : Frame → ℕ) → ((f : Frame) → few f ≤ more f) → (frames : List Frame)
    → stack_sum few frames ≤ stack_sum more frames
stack_most few more h [] = omega arith
stack_most few more h (f ∷ frames) =
    omega (arith, h f, stack_most few more h frames)

pub thread_most : (few more : Frame → ℕ) → ((f : Frame) → few f ≤ more f) → (threads : List Thread)
    → thread_sum few threads ≤ thread_sum more threads
thread_most few more h [] = omega arith
thread_most few more h (thread ∷ threads) =
    omega (arith, stack_most few more h thread.frames.items, thread_most few more h threads)

stack_three : (one two three all : Frame → ℕ) → ((f : Frame) → one f + two f + three f ≤ all f)
    → (frames : List Frame)
    → stack_sum one frames + stack_sum two frames + stack_sum three frames ≤ stack_sum all frames
stack_three one two three all h [] = omega arith
stack_three one two three all h (f ∷ frames) =
    omega (arith, h f, stack_three one two three all h frames)

thread_three : (one two three all : Frame → ℕ) → ((f : Frame) → one f + two f + three f ≤ all f)
    → (threads : List Thread)
    → thread_sum one threads + thread_sum two threads + thread_sum three threads
    ≤ thread_sum all threads
thread_three one two three all h [] = omega arith
thread_three one two three all h (thread ∷ threads) =
    omega (
      arith,
      stack_three one two three all h thread.frames.items,
      thread_three one two three all h threads,
    )

-- a packet that is the routine's own
abbrev pub is_own : Kind → Bool
is_own Own = true
is_own _ = false

some_le : (b : Bool) (m : ℕ) → (if b then m else 0) ≤ m
some_le true m = omega arith
some_le false m = omega arith

kind_three : (name : QueueName) (k : Kind) (v : Value) (n : ℕ)
    → named_as (is_at Listed name) k v n + named_as (is_at Cancelling name) k v n
    + named_as is_own k v n
    ≤ named_as is_right k v n
kind_three name (Queued other Listed) v n =
    omega (arith, some_le (is_at Listed name (Queued other Listed)) (value_names v n))
kind_three name (Queued other Cancelling) v n =
    omega (arith, some_le (is_at Cancelling name (Queued other Cancelling)) (value_names v n))
kind_three name _ v n = omega arith

kinds_three : (name : QueueName) (kinds : List Kind) (values : List Value) (n : ℕ)
    → named_in (is_at Listed name) kinds values n + named_in (is_at Cancelling name) kinds values n
    + named_in is_own kinds values n ≤ named_in is_right kinds values n
kinds_three name [] values n = omega arith
kinds_three name (k ∷ kinds) [] n = omega arith
kinds_three name (k ∷ kinds) (v ∷ values) n =
    omega (arith, kind_three name k v n, kinds_three name kinds values n)

-- packets that are routines' own, over all frames
abbrev pub owns_in : States → ℕ → List Thread → ℕ
owns_in states n threads = thread_sum (frame_names states is_own (λ device. true) n) threads

three_if : (b : Bool) (one two three all : ℕ) → one + two + three ≤ all
    → (if b then one else 0) + (if b then two else 0) + three ≤ all
three_if true one two three all h = h
three_if false one two three all h = omega arith

module _ (states : States) (d : ℕ) (q : QueueName) (n : ℕ) where
  rights_three : (f : Frame)
      → frame_names states (is_at Listed q) (λ e. nat_eq e d) n f
      + frame_names states (is_at Cancelling q) (λ e. nat_eq e d) n f
      + frame_names states is_own (λ e. true) n f ≤ frame_rights states f n
  rights_three (Routine a) =
      three_if (nat_eq a.device d) (names states (is_at Listed q) a n)
      (names states (is_at Cancelling q) a n) (names states is_own a n)
      (frame_rights states (Routine a) n)
      (kinds_three q (state_of states a).kinds a.registers n)
  rights_three _ = omega arith

  pub rights_cover : (threads : List Thread)
      → names_on states (is_at Listed q) d n threads
      + names_on states (is_at Cancelling q) d n threads
      + owns_in states n threads ≤ thread_sum (λ f. frame_rights states f n) threads
  rights_cover threads =
      thread_three (frame_names states (is_at Listed q) (λ e. nat_eq e d) n)
      (frame_names states (is_at Cancelling q) (λ e. nat_eq e d) n)
      (frame_names states is_own (λ e. true) n) (λ f. frame_rights states f n) rights_three threads

-- what a cancel word names, one word names
named_word : (o : Option Armer) (d : ℕ) (q : QueueName)
    → word_for o d q ≤ (if is_some o then 1 else 0)
named_word None d q = omega arith
named_word (Some armer) d q = some_le _ 1

word_named : (o : Option Packet) (d : ℕ) (q : QueueName) → word_at o d q ≤ times_named o
word_named None d q = omega arith
word_named (Some p) d q = named_word p.armer d q

-- a packet that no register at the stage Taken for a queue names is named by none
kind_takes : (k : Kind) (v : Value) (n : ℕ) → ((q : QueueName) → named_as (is_at Taken q) k v n ≡ 0)
    → named_as was_taken k v n ≡ 0
kind_takes (Queued q Taken) v n none =
    let one : named_as (is_at Taken q) (Queued q Taken) v n ≡ 0 = none q in
    rw (name_same q) at one
kind_takes _ v n none = refl

kinds_takes : (kinds : List Kind) (values : List Value) (n : ℕ)
    → ((q : QueueName) → named_in (is_at Taken q) kinds values n ≡ 0)
    → named_in was_taken kinds values n ≡ 0
kinds_takes [] values n none = refl
kinds_takes (k ∷ kinds) [] n none = refl
kinds_takes (k ∷ kinds) (v ∷ values) n none =
    let one : named_as was_taken k v n ≡ 0 =
    kind_takes k v n (λ q.
    omega (arith, none q)) in
    let others : named_in was_taken kinds values n ≡ 0 =
    kinds_takes kinds values n (λ q.
    omega (arith, none q)) in
    omega arith

frame_no_takes : (states : States) (n : ℕ) (f : Frame)
    → ((d : ℕ) (q : QueueName) → frame_names states (is_at Taken q) (λ e. nat_eq e d) n f ≡ 0)
    → frame_names states was_taken (λ e. true) n f ≡ 0
frame_no_takes states n (Walk m) none = refl
frame_no_takes states n (CancelFrame c) none = refl
frame_no_takes states n (Routine a) none =
    kinds_takes (state_of states a).kinds a.registers n (λ q.
    let one : frame_names states (is_at Taken q) (λ e. nat_eq e a.device) n (Routine a)
    ≡ 0 =
    none a.device q in
    let same : nat_eq a.device a.device ≡ true = eq-eqb a.device a.device refl in
    rw same at one)

stack_no_takes : (states : States) (n : ℕ) (frames : List Frame)
    → ((d : ℕ) (q : QueueName)
    → stack_sum (frame_names states (is_at Taken q) (λ e. nat_eq e d) n) frames
    ≡ 0)
    → stack_sum (frame_names states was_taken (λ e. true) n) frames ≡ 0
stack_no_takes states n [] none = refl
stack_no_takes states n (f ∷ frames) none =
    let one : frame_names states was_taken (λ e. true) n f ≡ 0 =
    frame_no_takes states n f (λ d q.
    omega (arith, none d q)) in
    let others : stack_sum (frame_names states was_taken (λ e. true) n) frames ≡ 0 =
    stack_no_takes states n frames (λ d q.
    omega (arith, none d q)) in
    omega arith

no_takes : (states : States) (n : ℕ) (threads : List Thread)
    → ((d : ℕ) (q : QueueName) → names_on states (is_at Taken q) d n threads ≡ 0)
    → takes_in states n threads ≡ 0
no_takes states n [] none = refl
no_takes states n (thread ∷ threads) none =
    let one : stack_sum (frame_names states was_taken (λ e. true) n) thread.frames.items ≡ 0 =
    stack_no_takes states n thread.frames.items (λ d q.
    omega (arith, none d q)) in
    let others : takes_in states n threads ≡ 0 =
    no_takes states n threads (λ d q.
    omega (arith, none d q)) in
    omega arith

module _ (set : Set) (states : States) (w : World) (kept : Held set states w) (n : ℕ) where
  -- the holders of a packet are one
  pub one_holder : (d : ℕ) (q : QueueName)
      → names_on states (is_at Listed q) d n w.threads
      + names_on states (is_at Cancelling q) d n w.threads
      + owns_in states n w.threads
      + times_waiting set w.shared n ≤ 1
  one_holder d q =
      omega (
        arith,
        kept.rights n,
        unheld_one (find w.shared.packets n),
        rights_cover states d q n w.threads,
      )

  -- and its cancel word, where it isn't empty, is one
  pub word_holds : (d : ℕ) (q : QueueName) → word_at (find w.shared.packets n) d q
      ≤ times_waiting set w.shared n
  word_holds d q =
      let same : word_at (packet_of w.shared n) d q ≡ word_at (find w.shared.packets n) d q =
      ap (λ (o : Option Packet). word_at o d q) (find_place w.shared.packets n) in
      omega (arith, word_named (packet_of w.shared n) d q)

  -- a packet that has none of these holders stands in no list, and was taken off none
  pub none_alone : Balanced set (numbers states w)
      → ((d : ℕ) (q : QueueName)
      → names_on states (is_at Listed q) d n w.threads
      + names_on states (is_at Cancelling q) d n w.threads
      + times_waiting set w.shared n ≡ 0)
      → takes_in states n w.threads + times_listed w.shared n ≡ 0
  none_alone b nothing =
      let waiting : times_waiting set w.shared n ≡ 0 =
      (let none : names_on states (is_at Listed DeviceQueue) 0 n w.threads
      + names_on states (is_at Cancelling DeviceQueue) 0 n w.threads
      + times_waiting set w.shared n ≡ 0 = nothing 0 DeviceQueue in omega arith) in
      let takes : takes_in states n w.threads ≡ 0 =
      no_takes states n w.threads (λ d q.
      let none : names_on states (is_at Listed q) d n w.threads
      + names_on states (is_at Cancelling q) d n w.threads
      + times_waiting set w.shared n ≡ 0 = nothing d q in
      let word : word_at (find w.shared.packets n) d q
      ≤ times_waiting set w.shared n = word_holds d q in
      let backed : names_on states (is_at Armed q) d n w.threads
      + names_on states (is_at Taken q) d n w.threads
      ≤ word_at (find w.shared.packets n) d q
      + names_on states (is_at Cancelling q) d n w.threads = b.backed d q n in
      omega arith) in
      let empty : (d : ℕ) (q : QueueName) → is_cancelable set d q ≡ true
      → times_of (list_of w.shared d q) n ≡ 0 =
      λ d q may.
      let none : names_on states (is_at Listed q) d n w.threads
      + names_on states (is_at Cancelling q) d n w.threads
      + times_waiting set w.shared n ≡ 0 = nothing d q in
      let word : word_at (find w.shared.packets n) d q
      ≤ times_waiting set w.shared n = word_holds d q in
      let entered : times_of (list_of w.shared d q) n
      ≤ word_at (find w.shared.packets n) d q
      + names_on states (is_at Cancelling q) d n w.threads
      + names_on states (is_at Listed q) d n w.threads = b.entered d q n may in
      omega arith in
      let queued : times_queued w.shared.queues n ≡ 0 =
      queued_zero set w.shared n (omega arith) (λ d q may. empty d (Declared q) may) in
      let to_start : times_to_start w.shared.starts n ≡ 0 =
      to_start_zero set w.shared n (omega arith) (λ d may. empty d DeviceQueue may) in
      omega arith

  -- nor does one that is a routine's own
  pub own_alone : Balanced set (numbers states w) → 1 ≤ owns_in states n w.threads
      → takes_in states n w.threads + times_listed w.shared n ≡ 0
  own_alone b own =
      none_alone b (λ d q.
      omega (arith, one_holder d q))

  -- one whose word names a queue, which its cancel routine was called for or which is listed, is
  -- live
  pub holder_lives : (d : ℕ) (q : QueueName) (count : ℕ)
      → count ≤ word_at (find w.shared.packets n) d q
      + names_on states (is_at Cancelling q) d n w.threads
      + names_on states (is_at Listed q) d n w.threads
      → count ≤ unheld (find w.shared.packets n)
  holder_lives d q count le =
      omega (arith, kept.rights n, rights_cover states d q n w.threads, word_holds d q)
