-- An instruction that starts packets keeps claims where packets that wait can be cancelled: one
-- that has to wait goes into the device queue with its cancel routine set, and the next one that is
-- started leaves it without one.
use Rattle.laws_runs.proofs.Common.{ap, arith, refl, subst, Bool, List, None, Option, Some, [], if◌then◌else◌, is_some, nat_eq, true, ℕ, ◌+◌, ◌∷◌, ◌≡◌, ◌≤◌, armer_waiting, is_at, kind_of, StartState, head_of, next_of, next_started, started, Set, Entry, Shared, World, next, packet_of, register, start_of, with_armer, with_packet, with_start, Kind, BlankKind, Own, Armed, Taken, Next, Start, DeviceQueue, Activation, Armer, Routine, Packet, States, stack_sum, thread_sum, times_in, times_listed, times_named, times_queued, times_to_start, StepLeaves, IsGood, Runs, state_of, inserts_right, first_none, Standing}
use Rattle.laws_runs.proofs.Claims.Balance.{KindTurns, balanced_starts, balanced_waits, once_turned}
use Rattle.laws_runs.proofs.Claims.Held.{one_holder}
use Rattle.laws_runs.proofs.Claims.Names.{KeepsNames, OfQueues, TurnsNames, at_queues, kinds_names, next_turns, was_queues}
use Rattle.laws_runs.proofs.Claims.Queues.{Puts, entries_fewer, entries_more, puts_waiting}
use Rattle.laws_runs.proofs.Claims.QueueSteps.{once_put, own_there, owned_here}
use Rattle.laws_runs.proofs.Claims.Quiet.{apart_keeps, frame_keeps}
use Rattle.laws_runs.proofs.Claims.Steps.{after, all_apart, apart_here, kind_turns, same_sums}
use Rattle.laws_runs.proofs.Claims.Sums.{Claimed, FrameApart, frame_names, names_on, numbers, takes_in, was_taken}
use Rattle.laws_runs.proofs.Claims.Waiting.{to_start_put}
use Rattle.laws_runs.proofs.Claims.WordSteps.{IsFor, no_armer, word_emptied, word_filled}
use Rattle.laws_runs.proofs.Claims.Working.{apart_down}
use Rattle.laws_runs.proofs.Holders.Counts.{reads_ref}
use Rattle.laws_runs.proofs.Holders.Queued.{times_pushed}
use Rattle.laws_runs.proofs.Holders.Started.{waits_given, waits_next}
use Rattle.laws_runs.proofs.Holders.Sums.{Held}
use Rattle.laws_runs.proofs.Runs.Events.{StepsFrame}
use Rattle.laws_runs.proofs.Steps.Comes.{Reads}

-- the next one leaves the device queue; where none waits it stays as it is
next_fewer : (start : StartState) (waiting : List ℕ) (m n : ℕ) → head_of waiting ≡ Some m
    → times_in (next_of start waiting).device_queue n + (if nat_eq m n then 1 else 0)
    ≡ times_in waiting n
next_fewer start [] m n first = cc
next_fewer start (k ∷ waiting) m n first =
    let same : k ≡ m = cc in rw same (omega arith)

next_less : (start : StartState) (waiting : List ℕ) (n : ℕ) → start.device_queue ≡ waiting
    → times_in (next_of start waiting).device_queue n ≤ times_in waiting n
next_less start [] n is = rw is (omega arith)
next_less start (k ∷ waiting) n is = omega arith

pub next_loses : (start : StartState) (n : ℕ)
    → times_in (next_started start).device_queue n ≤ times_in start.device_queue n
next_loses start n = next_less start start.device_queue n refl

module _ (set : Set) (states : States) (w : World) (past : List Entry) (good : IsGood set states)
    (stands : Standing set states w past) (c : Claimed set states w) (t : ℕ)
    (h : StepsFrame set w t)
    (leaves : StepLeaves set states w.shared h.frame h.outcome) (kept : Held set states w)
    (a : Activation) (frame : h.frame ≡ Routine a) where
  abbrev to : World
  to = after set states w past good stands c t h leaves

  apart_a : FrameApart states (Routine a)
  apart_a = subst (FrameApart states) frame (apart_here set states w past good stands c t h leaves)

  -- what the shared state becomes: the packet's word, and what the device has for StartIo
  abbrev changed : ℕ → Packet → Option Armer → StartState → Shared
  changed m p armer start =
      record (with_packet w.shared m (with_armer p armer)) {
        starts = (with_start w.shared a.device start).starts;
      }

  -- a packet that has to wait
  module _ (r m : ℕ) (p : Packet) (start : StartState) (run : Runs set states w.shared a (Start r))
      (reads : Reads w.shared a r m) (has : start_of w.shared a.device ≡ Some start)
      (busy : start.busy ≡ true) (there : packet_of w.shared m ≡ Some p)
      (frames : h.outcome.frames ≡ Routine (next a) ∷ [])
      (shared : h.outcome.shared ≡ changed m p (Some (armer_waiting a)) (started start m)) where
    own : kind_of (state_of states a) r ≡ Own
    own = inserts_right (kind_of (state_of states a) r) (first_none _ _ run.obeys)

    turns : TurnsNames states a (next a) Own BlankKind m
    turns =
        next_turns set states w.shared a (Start r) run r Own BlankKind m refl refl own
        (reads_ref w.shared (register a r) m reads)

    empty : p.armer ≡ None
    empty =
        let named : times_named (packet_of w.shared m) ≡ (if is_some p.armer then 1 else 0) =
        ap times_named there in
        no_armer p.armer
        (omega (
          arith,
          owned_here set states w past good stands c t h leaves kept a frame (Start r) r m run own
              reads,
          one_holder set states w kept m 0 DeviceQueue,
        ))

    waits_more : (n : ℕ) → times_listed h.outcome.shared n
        ≡ times_listed w.shared n + (if nat_eq m n then 1 else 0)
    waits_more n =
        let now : times_listed h.outcome.shared n
        ≡ times_queued w.shared.queues n
        + times_to_start (with_start w.shared a.device (started start m)).starts n =
        ap (λ (x : Shared). times_listed x n) shared in
        omega (
          arith,
          to_start_put w.shared.starts a.device start (started start m) n has,
          waits_given start m n,
        )

    put : Puts w.shared to.shared a.device DeviceQueue start.device_queue
        (started start m).device_queue
    put =
        puts_waiting w.shared to.shared a.device start (started start m) has
        (ap (λ (x : Shared). x.queues) shared) (ap (λ (x : Shared). x.starts) shared)

    pub waits_claims : Claimed set states to
    waits_claims =
        let changes : KindTurns (numbers states w) (numbers states to) Own BlankKind a.device m =
        kind_turns set states w past good stands c t h leaves a (next a) Own BlankKind m frame
        frames refl turns in
        record {
          balanced = balanced_waits set (numbers states w) (numbers states to) c.balanced
              (once_turned (numbers states w) (numbers states to) Own BlankKind a.device m changes
              refl
              (once_put set states w past good stands c t h leaves kept a frame m
              (own_there set states w past good stands c t h leaves kept a frame (Start r) r m run
              own reads) waits_more))
              a.device DeviceQueue m changes
              (λ d l n. rw shared (word_filled w.shared m a.device DeviceQueue p there
              (armer_waiting a) (refl, refl) empty d l n))
              (λ d l n. entries_more w.shared to.shared a.device DeviceQueue m start.device_queue
              (started start m).device_queue put
              (λ k. rw busy (times_pushed start.device_queue m k)) d l n);
          apart = all_apart set states w past good stands c t h leaves
              (rw frames (
                apart_down states a (next a) Own BlankKind m turns (λ p. (refl, refl, refl))
                    apart_a,
                tt,
              ));
        }

  -- the next one is started
  module _ (m : ℕ) (p : Packet) (start : StartState) (run : Runs set states w.shared a Next)
      (has : start_of w.shared a.device ≡ Some start) (first : head_of start.device_queue ≡ Some m)
      (there : packet_of w.shared m ≡ Some p) (armer : Armer) (is : p.armer ≡ Some armer)
      (its : IsFor armer a.device DeviceQueue)
      (no_armed : names_on states (is_at Armed DeviceQueue) a.device m w.threads ≡ 0)
      (no_taken : names_on states (is_at Taken DeviceQueue) a.device m w.threads ≡ 0)
      (frames : h.outcome.frames ≡ Routine (next a) ∷ [])
      (shared : h.outcome.shared ≡ changed m p None (next_started start)) where
    keeps : KeepsNames states a (next a)
    keeps = kinds_names set states w.shared a Next run refl refl

    same : (g : Kind → Bool) → OfQueues g → (on : ℕ → Bool) (n : ℕ)
        → thread_sum (frame_names states g on n) to.threads
        ≡ thread_sum (frame_names states g on n) w.threads
    same g of on n =
        same_sums set states w past good stands c t h leaves g of on n
        (let was : frame_names states g on n h.frame ≡ frame_names states g on n (Routine a) =
        ap (frame_names states g on n) frame in
        let now : stack_sum (frame_names states g on n) h.outcome.frames
        ≡ frame_names states g on n (Routine (next a)) + 0 =
        ap (stack_sum (frame_names states g on n)) frames in
        omega (arith, frame_keeps states a (next a) keeps refl g of on n))

    next_once : (n : ℕ) → takes_in states n to.threads + times_listed to.shared n ≤ 1
    next_once n =
        let now : times_listed h.outcome.shared n
        ≡ times_queued w.shared.queues n
        + times_to_start (with_start w.shared a.device (next_started start)).starts n =
        ap (λ (x : Shared). times_listed x n) shared in
        omega (
          arith,
          to_start_put w.shared.starts a.device start (next_started start) n has,
          waits_next start n,
          same was_taken was_queues (λ e. true) n,
          c.balanced.once n,
        )

    left : Puts w.shared to.shared a.device DeviceQueue start.device_queue
        (next_started start).device_queue
    left =
        puts_waiting w.shared to.shared a.device start (next_started start) has
        (ap (λ (x : Shared). x.queues) shared) (ap (λ (x : Shared). x.starts) shared)

    pub starts_claims : Claimed set states to
    starts_claims =
        record {
          balanced = balanced_starts set (numbers states w) (numbers states to) c.balanced next_once
              a.device DeviceQueue m refl no_armed no_taken
              (λ stage d q n. same (is_at stage q) (at_queues stage q) (λ e. nat_eq e d) n)
              (λ d l n. rw shared (word_emptied w.shared m a.device DeviceQueue p there armer its is
              d l n))
              (λ d l n. entries_fewer w.shared to.shared a.device DeviceQueue m start.device_queue
              (next_started start).device_queue left
              (λ k. next_fewer start start.device_queue m k first) d l n);
          apart = all_apart set states w past good stands c t h leaves
              (rw frames (apart_keeps states a (next a) keeps apart_a, tt));
        }
