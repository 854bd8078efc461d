-- The steps of IoCancelIrp keep claims, and so does a packet that tops out: the cancel routine that
-- is called has the right that the word had.
use Rattle.laws_runs.proofs.Common.{ap, arith, cond, inl, inr, refl, subst, sym, ◌∙◌, eqb_tells, Bool, List, None, Option, Some, [], false, if◌then◌else◌, nat_eq, slice_get, true, ℕ, ◌+◌, ◌<◌, ◌∷◌, ◌≡◌, ◌≤◌, Outcome, routine_of_device, is_at, is_name, Set, cancel_routine_named, cancels_for, Entry, Shared, World, entered, packet_of, with_armer, with_packet, without_packet, Abs, Kind, BlankKind, Queued, Armed, Cancelling, Taken, QueueName, Cancel, Activation, Armer, Canceller, Frame, CancelFrame, Routine, Walk, Packet, Ref, States, frame_rights, named_as, named_in, stack_sum, thread_sum, times_waiting, Each, Begins, begins_cancelled, first_state, StepLeaves, ArmerLeads, word_leads, IsGood, Standing}
use Rattle.laws_runs.proofs.Claims.Balance.{KindTurns, at_kind, at_swapped, balanced_calls, once_turned}
use Rattle.laws_runs.proofs.Claims.Held.{word_holds}
use Rattle.laws_runs.proofs.Claims.Names.{OfQueues, at_queues, names, was_queues, queue_packets}
use Rattle.laws_runs.proofs.Claims.Quiet.{Quiet}
use Rattle.laws_runs.proofs.Claims.Steps.{after, all_apart}
use Rattle.laws_runs.proofs.Claims.Sums.{Claimed, FrameApart, frame_names, numbers, was_taken, word_at}
use Rattle.laws_runs.proofs.Holders.Counts.{Holding, walk_taken}
use Rattle.laws_runs.proofs.Holders.Rights.{handed_names}
use Rattle.laws_runs.proofs.Holders.Sums.{Held, unheld}
use Rattle.laws_runs.proofs.Past.LivePackets.{find, find_remove}
use Rattle.laws_runs.proofs.Runs.Events.{StepsFrame}
use Rattle.laws_runs.proofs.Past.Packets.{found}
use Rattle.laws_runs.proofs.Claims.Changed.{changed}
use Rattle.laws_runs.proofs.Claims.WordSteps.{word_emptied}
use Rattle.laws_runs.proofs.States.Entering.{cancelled_name}

one_name : (one other : Bool) → cond {A = ℕ} one (cond {A = ℕ} other 1 0) 0 ≤ 1
one_name true true = omega arith
one_name true false = omega arith
one_name false other = omega arith

module _ (set : Set) (states : States) (w : World) (past : List Entry) (good : IsGood set states)
    (stands : Standing set states w past) (c : Claimed set states w) (t : ℕ)
    (h : StepsFrame set w t)
    (leaves : StepLeaves set states w.shared h.frame h.outcome) where
  abbrev to : World
  to = after set states w past good stands c t h leaves

  -- the cancel routine begins
  module _ (cancel : Canceller) (n : ℕ) (p : Packet) (armer : Armer) (routine : ℕ)
      (frame : h.frame ≡ CancelFrame cancel) (low : n < w.shared.issued)
      (there : packet_of w.shared n ≡ Some p) (is_set : p.armer ≡ Some armer)
      (named : cancel_routine_named set (routine_of_device (slice_get set.devices armer.device))
      armer.queue ≡ Some routine)
      (frames : h.outcome.frames
      ≡ Routine (entered (routine_of_device (slice_get set.devices armer.device)) routine
      armer.device
      (Ref n)) ∷ [])
      (shared : h.outcome.shared ≡ with_packet w.shared n (with_armer p None)) where
    abbrev called : Activation
    called =
        entered (routine_of_device (slice_get set.devices armer.device)) routine armer.device
        (Ref n)

    called_begins : Begins set states w.shared.issued called Cancel n
    called_begins =
        begins_cancelled set states good w.shared.issued n low armer routine
        (subst (ArmerLeads set) is_set (word_leads set w.shared stands.fits n p there)) named

    called_names : (g : Kind → Bool) → OfQueues g → (m : ℕ)
        → names states g called m ≡ named_as g (Queued armer.queue Cancelling) (Ref n) m
    called_names g of m =
        let only : cancels_for set called.driver called.routine ≡ Some armer.queue =
        cancelled_name set called.driver called.routine armer.queue
        (cancels_for set called.driver called.routine) named refl
        (called_begins.named called_begins.of_sort) in
        ap (λ (state : Abs). named_in g state.kinds called.registers m) called_begins.start
        ∙ ap (λ (name : Option QueueName). named_in g (first_state Cancel name).kinds
        called.registers m)
        only
        ∙ handed_names g (queue_packets g of) (Queued armer.queue Cancelling) (Ref n) m

    called_sums : (g : Kind → Bool) → OfQueues g → (on : ℕ → Bool) (m : ℕ)
        → thread_sum (frame_names states g on m) to.threads + 0
        ≡ thread_sum (frame_names states g on m) w.threads
        + at_kind g on armer.device (Queued armer.queue Cancelling) n m
    called_sums g of on m =
        let was : frame_names states g on m h.frame ≡ 0 = ap (frame_names states g on m) frame in
        let now : stack_sum (frame_names states g on m) h.outcome.frames
        ≡ frame_names states g on m (Routine called) + 0 =
        ap (stack_sum (frame_names states g on m)) frames in
        let its : frame_names states g on m (Routine called)
        ≡ at_kind g on armer.device (Queued armer.queue Cancelling) n m =
        ap (λ (sum : ℕ). if on armer.device then sum else 0) (called_names g of m)
        ∙ at_swapped (g (Queued armer.queue Cancelling)) (on armer.device)
        (if nat_eq n m then 1 else 0) in
        omega (arith, changed set states g of on m w past good stands t h leaves)

    pub calls_claims : Claimed set states to
    calls_claims =
        let changes : KindTurns (numbers states w) (numbers states to) BlankKind
        (Queued armer.queue Cancelling) armer.device n =
        record {
          staged = λ stage d l.
              called_sums (is_at stage l) (at_queues stage l) (λ e. nat_eq e d);
          takes = called_sums was_taken was_queues (λ e. true);
        } in
        record {
          balanced = balanced_calls set (numbers states w) (numbers states to) c.balanced
              (once_turned (numbers states w) (numbers states to) BlankKind
              (Queued armer.queue Cancelling) armer.device n changes refl
              (λ m. rw shared (c.balanced.once m)))
              armer.device armer.queue n changes
              (λ d l m. rw shared
              (word_emptied w.shared n armer.device armer.queue p there armer (refl, refl)
              is_set
              d l m))
              (λ d l m. rw shared refl);
          apart = all_apart set states w past good stands c t h leaves
              (rw frames (
                (λ l m.
                    omega (
                      arith,
                      called_names (is_at Armed l) (at_queues Armed l) m,
                      called_names (is_at Taken l) (at_queues Taken l) m,
                      called_names (is_at Cancelling l) (at_queues Cancelling l) m,
                      one_name (is_name armer.queue l) (nat_eq n m),
                    )),
                tt,
              ));
        }

module _ (states : States) (s : Shared) where
  -- IoCancelIrp goes on, or ends
  pub cancel_quiet : (cancel : Canceller) (frames : List Frame) (o : Outcome) → o.frames ≡ frames
      → ((g : Kind → Bool) → OfQueues g → (on : ℕ → Bool) (m : ℕ)
      → stack_sum (frame_names states g on m) frames ≡ 0)
      → Each (FrameApart states) frames
      → ((m d : ℕ) (q : QueueName)
      → word_at (find o.shared.packets m) d q ≡ word_at (find s.packets m) d q)
      → o.shared.queues ≡ s.queues → o.shared.starts ≡ s.starts
      → Quiet states s (CancelFrame cancel) o
  cancel_quiet cancel frames o is none others words queues starts =
      record {
        names = λ g of on m. rw is (none g of on m);
        apart = λ h. rw is others;
        words = words;
        queues = queues;
        starts = starts;
      }

  -- a packet that tops out has an empty word
  module _ (set : Set) (w : World) (past : List Entry) (n : ℕ) (p : Packet) where
    pub tops_quiet : (o : Outcome) → w.shared ≡ s → Held set states w
        → Holding set states s past (Walk n) → packet_of s n ≡ Some p → o.frames ≡ []
        → o.shared ≡ without_packet s n → Quiet states s (Walk n) o
    tops_quiet o is kept holding there frames shared =
        let done : p.completing ≡ true = walk_taken set states s past n holding p there in
        let all : thread_sum (λ f. frame_rights states f n) w.threads + times_waiting set w.shared n
        ≡ unheld (find w.shared.packets n) = kept.rights n in
        let its : unheld (find w.shared.packets n) ≡ 0 =
        ap (λ (x : Shared). unheld (find x.packets n)) is
        ∙ (rw (found s n (Some p) there, done) refl) in
        record {
          names = λ g of on m. rw frames refl;
          apart = λ h. rw frames tt;
          words = λ m d q.
              let word : word_at (find w.shared.packets n) d q ≤ times_waiting set w.shared n =
              word_holds set states w kept n d q in
              let same : word_at (find w.shared.packets n) d q ≡ word_at (find s.packets n) d q =
              ap (λ (x : Shared). word_at (find x.packets n) d q) is in
              let empty : word_at (find s.packets n) d q ≡ 0 = omega arith in
              let removed : find (without_packet s n).packets m
              ≡ (if nat_eq n m then None else find s.packets m) =
              find_remove 0 s.packets s.issued n holding.tells.rises m in
              rw (shared, removed) (elim (eqb_tells n m) [
                | inl here ↦ rw (here.0, ← here.1) (sym empty)
                | inr other ↦ rw other.0 refl
              ]);
          queues = rw shared refl;
          starts = rw shared refl;
        }
