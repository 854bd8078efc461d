-- What the instructions about queues do to a routine's frame: it goes on to the next position, with
-- the first packet of a queue or the one in the current slot in a register where one was taken, or
-- to a label where there was none.
use Rattle.laws_runs.proofs.Prelude.{refl, subst, Bool, List, None, Option, Some, false, slice_set, true, ℕ, ◌<◌, ◌∷◌, Action, kind_removed, StartState, dequeued, inserted, next_started, started, unlinked, with_slot, Set, cancel_routine_of, Shared, next, Own, Instr, Begin, Dequeue, Insert, Next, Remove, Start, Take, Unlink, Declared, Activation, Armer, Ref}
use Rattle.laws_runs.proofs.Lists.{each_push}
use Rattle.laws_runs.proofs.Past.Packets.{named}
use Rattle.laws_runs.proofs.States.Fits.{AllQueuesFit, queue_issued, queue_put_fits}
use Rattle.laws_runs.proofs.States.Frames.{Moved, Runs, state_of}
use Rattle.laws_runs.proofs.States.Kinds.{kinds_set, removed_suits}
use Rattle.laws_runs.proofs.States.Moves.{moved_label, moved_next, moved_on, onto}
use Rattle.laws_runs.specs.ArrivingStates.{States}
use Rattle.laws_runs.proofs.States.StartsFit.{AllStartsFit, SlotFits, StartFits, WereIssued, next_started_fits, slot_put_fits, start_issued, start_put_fits, started_fits}
use Rattle.laws_runs.proofs.Steps.Comes.{Queued, inserts, removes, removes_none, puts_in, starts_next, starts_packet, takes_none, takes_out, unlinks}
use Rattle.laws_runs.proofs.States.StartsFit.{each_without, dequeued_fits}
use Rattle.laws_runs.proofs.Steps.Comes.{Waits, arms_waiting, disarms_next, starts_gone, dequeues_packet}

-- where the frame goes on
pub record MovedOn (set : Set) (states : States) (s : Shared) (a : Activation) (i : Instr)
    (b : Activation)
    (queues : List (List (List ℕ))) (lists : List StartState) : Type 0 where
  pub jumped : Bool
  pub moved : Moved set states s.issued a b (onto set a.driver (state_of states a) i jumped)
  pub fits : AllQueuesFit set queues s.issued
  pub starts : AllStartsFit set lists s.issued

pub queue_moves : (set : Set) (states : States) (s : Shared) (a : Activation) (i : Instr)
    → Runs set states s a i
    → {b : Activation} {queues : List (List (List ℕ))} {lists : List StartState}
    {actions : List Action} {full : Bool} → Queued set s a i b queues lists actions full
    → MovedOn set states s a i b queues lists
queue_moves set states s a i h (inserts r q n entries reads there) =
    record {
      jumped = false;
      moved = moved_on set states s a (Insert r q) h refl refl refl;
      fits = queue_put_fits set s a.device q entries (inserted entries n) there
          (each_push (λ (m : ℕ). m < s.issued) entries n
          (queue_issued set s a.device q entries there h.fits.queued) (named s _ n reads))
          h.fits.queued;
      starts = h.fits.starts;
    }
queue_moves set states s a i h (removes r q label n entries there) =
    let all : WereIssued s.issued (n ∷ entries) =
    queue_issued set s a.device q (n ∷ entries) there h.fits.queued in
    record {
      jumped = false;
      moved = moved_next set states s a (Remove r q label) h refl (slice_set a.registers r (Ref n))
          (kinds_set s.issued (state_of states a).kinds a.registers r
          (kind_removed (cancel_routine_of set a.driver q) (Declared q)) (Ref n) h.stays.kinds
          (removed_suits s.issued (cancel_routine_of set a.driver q) (Declared q) (Ref n)
          (n, refl, all.0)));
      fits = queue_put_fits set s a.device q (n ∷ entries) entries there all.1 h.fits.queued;
      starts = h.fits.starts;
    }
queue_moves set states s a i h (removes_none r q label there) =
    record {
      jumped = true;
      moved = moved_label set states s a (Remove r q label) h label refl;
      fits = h.fits.queued;
      starts = h.fits.starts;
    }
queue_moves set states s a i h (unlinks r q n entries reads there) =
    record {
      jumped = false;
      moved = moved_on set states s a (Unlink r q) h refl refl refl;
      fits = queue_put_fits set s a.device q entries (unlinked entries n) there
          (each_without (λ (m : ℕ). m < s.issued) entries n
          (queue_issued set s a.device q entries there h.fits.queued))
          h.fits.queued;
      starts = h.fits.starts;
    }
queue_moves set states s a i h (starts_packet r n start reads there plain) =
    record {
      jumped = false;
      moved = moved_on set states s a (Start r) h refl refl refl;
      fits = h.fits.queued;
      starts = start_put_fits set s a.device (started start n)
          (started_fits s.issued start (start_issued set s a.device start there h.fits.starts) n
          (named s _ n reads))
          h.fits.starts;
    }
queue_moves set states s a i h (takes_out r label n start there slot) =
    let fits : StartFits s.issued start = start_issued set s a.device start there h.fits.starts in
    let low : n < s.issued = subst (SlotFits s.issued) slot fits.slot in
    record {
      jumped = false;
      moved = moved_next set states s a (Take r label) h refl (slice_set a.registers r (Ref n))
          (kinds_set s.issued (state_of states a).kinds a.registers r Own (Ref n) h.stays.kinds
          (n, refl, low));
      fits = h.fits.queued;
      starts = start_put_fits set s a.device (with_slot start None)
          (slot_put_fits s.issued start fits None tt) h.fits.starts;
    }
queue_moves set states s a i h (takes_none r label start there slot) =
    record {
      jumped = true;
      moved = moved_label set states s a (Take r label) h label refl;
      fits = h.fits.queued;
      starts = h.fits.starts;
    }
queue_moves set states s a i h (puts_in r n start reads there) =
    record {
      jumped = false;
      moved = moved_on set states s a (Begin r) h refl refl refl;
      fits = h.fits.queued;
      starts = start_put_fits set s a.device (with_slot start (Some n))
          (slot_put_fits s.issued start (start_issued set s a.device start there h.fits.starts)
          (Some n)
          (named s _ n reads))
          h.fits.starts;
    }
queue_moves set states s a i h (starts_next start there none) =
    record {
      jumped = false;
      moved = moved_on set states s a Next h refl refl refl;
      fits = h.fits.queued;
      starts = start_put_fits set s a.device (next_started start)
          (next_started_fits s.issued start (start_issued set s a.device start there h.fits.starts))
          h.fits.starts;
    }
queue_moves set states s a i h (starts_gone n start there first gone) =
    record {
      jumped = false;
      moved = moved_on set states s a Next h refl refl refl;
      fits = h.fits.queued;
      starts = start_put_fits set s a.device (next_started start)
          (next_started_fits s.issued start (start_issued set s a.device start there h.fits.starts))
          h.fits.starts;
    }
queue_moves set states s a i h (dequeues_packet r n start reads there) =
    record {
      jumped = false;
      moved = moved_on set states s a (Dequeue r) h refl refl refl;
      fits = h.fits.queued;
      starts = start_put_fits set s a.device (dequeued start n)
          (dequeued_fits s.issued start (start_issued set s a.device start there h.fits.starts) n)
          h.fits.starts;
    }

-- where the cancel routine of a packet in the device queue is exchanged too
pub waits_move : (set : Set) (states : States) (s : Shared) (a : Activation) (i : Instr)
    → Runs set states s a i
    → {starts : List StartState} {n : ℕ} {armer : Option Armer} {full : Bool}
    → Waits set s a i starts n armer full → MovedOn set states s a i (next a) s.queues starts
waits_move set states s a i h (arms_waiting r n start reads there armed) =
    record {
      jumped = false;
      moved = moved_on set states s a (Start r) h refl refl refl;
      fits = h.fits.queued;
      starts = start_put_fits set s a.device (started start n)
          (started_fits s.issued start (start_issued set s a.device start there h.fits.starts) n
          (named s _ n reads))
          h.fits.starts;
    }
waits_move set states s a i h (disarms_next n start there first) =
    record {
      jumped = false;
      moved = moved_on set states s a Next h refl refl refl;
      fits = h.fits.queued;
      starts = start_put_fits set s a.device (next_started start)
          (next_started_fits s.issued start (start_issued set s a.device start there h.fits.starts))
          h.fits.starts;
    }
