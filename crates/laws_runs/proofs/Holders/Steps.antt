-- A step keeps the count of rights: what a register loses another one gets, or the packet's cancel
-- word, or the I/O manager's frame, or the packet tops out. So no packet is completed that its
-- routine has no right to, and none whose cancel word isn't empty.
use Rattle.laws_runs.proofs.Common.{ap, arith, inl, inr, refl, subst, sym, ◌∙◌, list_any, Bool, List, None, Option, Some, [], false, if◌then◌else◌, is_some, nat_eq, slice_get, slice_set, true, ℕ, ◌++◌, ◌+◌, ◌<◌, ◌∷◌, ◌≡◌, ◌≤◌, Action, Outcome, completes_with, dispatched, is_walk, routine_of_device, set_by, turned, armed, completing, topped, is_new, is_right, given_down, gives_back, is_dropped, is_hold, kind_of, marked, StartState, head_of, Set, cancel_routine_named, flow_of, has_cancel, lower_of, sort_of, Actor, Entry, Shared, asked_of, cancelled, completed, current_location, left_location, mark_current, moved_up, next, packet_of, register, sent_down, shared_with, with_armer, with_info, with_loops, with_packet, Abs, Kind, BlankKind, Instr, Call, Complete, End, Loop, Mark, Pass, Put, Ret, Return, Continue, Stop, Void, DeviceQueue, Sort, Cancel, Dispatch, Hold, Propagate, Status, Activation, Armer, CancelStep, Exchange, Frame, CancelFrame, Routine, Walk, Packet, Value, Ref, States, frame_rights, is_lent, right, rights, stack_sum, times_named, times_waiting, walking, Begins, IsOfSort, begins_back, begins_cancelled, begins_lent, begins_lower, ArmerLeads, word_leads, IsGood, Moved, Runs, state_of, moved_end, has_next, SendsDown, completes_one, returns_by, sends_down, OnTop, runs, head_low, start_issued, Cancels, Comes, Exchanged, Executing, GoesTo, Waits, arms_waiting, awaits_cancel, awaits_lock, calls_cancel, calls_down, cancels, carries_up, completes_gone, completes_packet, computes, disarms_next, ends_cancel, ends_dpc, ends_startio, errs, exchanges, exchanges_gone, finds_empty, finds_none, flags_gone, frees_lock, lends_to, lets_go, lets_walk, looks_at, marks_packet, opens_loop, pages, passes_down, queued_to, resumes_gone, resumes_none, resumes_walk, retakes_cancel, retakes_lock, returns_status, sets_flag, starts_gone, stops_none, stops_walk, takes_cancel, takes_lock, tops_out, touches_gone, turns_loop, waited_to, walks_gone, walks_to, walks_up, works_on_queues, works_on_waiting, writes_info, fault_among, first_only, is_touch, topped_faults, freed_word, taken_word, SameRoutine, goes_same, turned_registers, turned_same, is_gone, queued_same, queued_touches, Forwarding, packet_operand, work_of}
use Rattle.model.specs.Fault.{completion_fault}
use Rattle.laws_runs.proofs.Holders.Counts.{Holding, unheld_set, held_set, unheld_taken, held_taken, unheld_removed, held_removed, reads_ref, right_free, right_lives, walk_taken, walk_lives, waits_set, right_unarmed, unheld_lent, held_lent, waits_lost, walk_unarmed, waits_removed, waits_won}
use Rattle.laws_runs.proofs.Holders.Exchanges.{exchange_rights}
use Rattle.laws_runs.proofs.Holders.Lent.{IsLent, back_rights, back_unheld, hold_sort, stops_hold, walk_same}
use Rattle.laws_runs.proofs.Holders.Onward.{given_rights, goes_rights, lock_rights, mark_rights, next_state_rights, still_rights}
use Rattle.laws_runs.proofs.Holders.Rights.{rights_turn, no_rights, begun_rights}
use Rattle.laws_runs.proofs.Holders.Sums.{unheld, held, own_if}
use Rattle.laws_runs.proofs.Holders.Waits.{FreesSlot, queued_rights}
use Rattle.laws_runs.proofs.Holders.Walking.{pushed_walks, walking_from, walks_under}
use Rattle.laws_runs.proofs.Past.LivePackets.{find}
use Rattle.laws_runs.proofs.Past.Packets.{found, named, numbered, untopped, gone_topped}
use Rattle.laws_runs.proofs.States.Fits.{Fits}
use Rattle.laws_runs.proofs.States.Obeyed.{never_back}
use Rattle.laws_runs.proofs.Steps.Comes.{Queued, Reads}
use Rattle.laws_runs.proofs.Steps.Faults.{is_completion}
use Rattle.laws_runs.proofs.Holders.Waits.{NextArmed}
use Rattle.laws_runs.proofs.Holders.Waits.{OwnsLive, waited_rights, first_both}

-- the rights before and after a step, those of the packets that are gone or came included; and the
-- I/O manager's frames that aren't lent, where the frame below stays
pub record HoldStep (set : Set) (states : States) (s : Shared) (under : Option Frame) (f : Frame)
    (o : Outcome) : Type 0 where
  pub rights : (n : ℕ)
      → stack_sum (λ g. frame_rights states g n) o.frames + times_waiting set o.shared n
      + unheld (find s.packets n)
      ≡ frame_rights states f n + times_waiting set s n + unheld (find o.shared.packets n)
  pub walks : o.taken_below ≡ false → (n : ℕ)
      → walking_from set under o.frames n + held (find s.packets n)
      ≡ walking_from set under (f ∷ []) n + held (find o.shared.packets n)

pub named_right : (k : Kind) (v : Value) (n m : ℕ) → is_right k ≡ true → v ≡ Ref n
    → right k v m ≡ (if nat_eq n m then 1 else 0)
named_right k v n m is refers = rw (is, refers) refl

-- a completion routine that stops the completion gives nothing back
stop_keeps : (sort : Sort) → gives_back sort Stop ≡ false
stop_keeps Hold = refl
stop_keeps _ = refl

-- a routine that goes on is lent a packet where it was lent one before
lent_same : (set : Set) (a b : Activation) → SameRoutine a b
    → is_lent set (Routine b ∷ []) ≡ is_lent set (Routine a ∷ [])
lent_same set a b same = rw (same.0, same.1) refl

-- every step
module _ (set : Set) (states : States) (s : Shared) (past : List Entry) (actor : Actor) where
  module _ (under : Option Frame) where
    -- the frames have the same rights, the lists, slots and words are as before, and so is each
    -- packet, live and completing or not
    even : (f : Frame) (o : Outcome) → ((n : ℕ) → times_waiting set o.shared n
        ≡ times_waiting set s n)
        → ((n : ℕ) → stack_sum (λ g. frame_rights states g n) o.frames ≡ frame_rights states f n)
        → ((n : ℕ) → walking_from set under o.frames n ≡ walking_from set under (f ∷ []) n)
        → ((n : ℕ) → unheld (find o.shared.packets n) ≡ unheld (find s.packets n))
        → ((n : ℕ) → held (find o.shared.packets n) ≡ held (find s.packets n))
        → HoldStep set states s under f o
    even f o waits rights_same walks_same unheld_same held_same =
        record {
          rights = λ n. rw (rights_same n, unheld_same n, waits n) refl;
          walks = λ stays n. rw (walks_same n, held_same n) refl;
        }

    -- the frame goes on, and the packets stay with who has them
    kept : (a b : Activation) (o : Outcome)
        → ((n : ℕ) → times_waiting set o.shared n ≡ times_waiting set s n)
        → o.frames ≡ Routine b ∷ []
        → is_lent set (Routine b ∷ []) ≡ is_lent set (Routine a ∷ [])
        → ((n : ℕ) → frame_rights states (Routine b) n ≡ frame_rights states (Routine a) n)
        → ((n : ℕ) → unheld (find o.shared.packets n) ≡ unheld (find s.packets n))
        → ((n : ℕ) → held (find o.shared.packets n) ≡ held (find s.packets n))
        → HoldStep set states s under (Routine a) o
    kept a b o waits frames lent same unheld_same held_same =
        even (Routine a) o waits
        (λ n. rw frames (omega (arith, same n)))
        (λ n. ap (λ (above : List Frame). walking_from set under above n) frames
        ∙ ap (λ (b : Bool). (if b then 0 else walks_under under n)
        + (if is_lent set [] then 0 else 0)) lent)
        unheld_same held_same

    -- a packet that the frame works on changes, but neither its cancel word nor who has it
    works_on : (a b : Activation) (n : ℕ) (p q : Packet) (o : Outcome) → packet_of s n ≡ Some p
        → q.number ≡ p.number → is_some q.armer ≡ is_some p.armer → q.completing ≡ p.completing
        → o.shared ≡ with_packet s n q → o.frames ≡ Routine b ∷ []
        → is_lent set (Routine b ∷ []) ≡ is_lent set (Routine a ∷ [])
        → ((m : ℕ) → frame_rights states (Routine b) m ≡ frame_rights states (Routine a) m)
        → HoldStep set states s under (Routine a) o
    works_on a b n p q o there number word same shared frames lent rights =
        let at : find s.packets n ≡ Some p = found s n (Some p) there in
        let its : q.number ≡ n = number ∙ numbered s n p there in
        kept a b o (λ m. rw shared (waits_set s n p at q its set word m)) frames lent rights
        (λ m. rw shared (unheld_set s n p at q its same m))
        (λ m. rw shared (held_set s n p at q its same m))

    -- a packet is sent down: the right goes from the register to the routine that begins
    sends : (a : Activation) (i : Instr) (h : Runs set states s a i) (r lower n : ℕ) (p q : Packet)
        (o : Outcome)
        → work_of i ≡ Forwarding → packet_operand i ≡ Some r → has_next (flow_of i) ≡ true
        → Reads s a r n
        → packet_of s n ≡ Some p → lower_of set a.device ≡ Some lower → q.number ≡ p.number
        → is_some q.armer ≡ is_some p.armer
        → q.completing ≡ p.completing → o.shared ≡ with_packet s n q
        → o.frames ≡ Routine (next a)
        ∷ Routine (dispatched set lower (slice_get set.devices lower)
        (asked_of (current_location p))
        n) ∷ []
        → HoldStep set states s under (Routine a) o
    sends a i h r lower n p q o is operand on reads there below number word same shared frames =
        let b : Activation =
        dispatched set lower (slice_get set.devices lower) (asked_of (current_location p)) n in
        let k : Kind = kind_of (state_of states a) r in
        let down : SendsDown (state_of states a) (sort_of set a.driver a.routine) set a.driver i r =
        sends_down (state_of states a) (sort_of set a.driver a.routine) set a.driver i r h.obeys is
        operand in
        let at : find s.packets n ≡ Some p = found s n (Some p) there in
        let its : q.number ≡ n = number ∙ numbered s n p there in
        even (Routine a) o (λ m. rw shared (waits_set s n p at q its set word m))
        (λ m.
        let now : frame_rights states (Routine (next a)) m
        ≡ rights (given_down (state_of states a) r k).kinds a.registers m =
        next_state_rights set states s a i h on m
        ∙ ap (λ (state : Abs). rights state.kinds a.registers m) down.after in
        rw frames (omega (
          arith,
          given_rights s.issued (state_of states a) a.registers r k m h.stays.kinds down.right down.unqueued,
          named_right k (register a r) n m down.right (reads_ref s (register a r) n reads),
          begun_rights set states s.issued b Dispatch n m (begins_lower set states h.good s.issued n (named s (register a r) n reads) a.device lower (asked_of (current_location p)) below),
        )))
        (λ m. ap (λ (above : List Frame). walking_from set under above m) frames
        ∙ ap (λ (walks : ℕ). (if is_lent set (Routine a ∷ []) then 0 else walks_under under m)
        + walks)
        (pushed_walks set (next a) (Routine b) m refl))
        (λ m. rw shared (unheld_set s n p at q its same m))
        (λ m. rw shared (held_set s n p at q its same m))

    -- a routine returns: it has no right any more
    returned_rights : (a : Activation) (form : Return)
        → gives_back (sort_of set a.driver a.routine) form ≡ false → Runs set states s a (Ret form)
        → (n : ℕ) → frame_rights states (Routine a) n ≡ 0
    returned_rights a form keeps h n =
        let left : list_any (is_dropped false) (state_of states a).kinds ≡ false =
        ap (λ (back : Bool). list_any (is_dropped back) (state_of states a).kinds) (sym keeps)
        ∙ (returns_by (state_of states a) (sort_of set a.driver a.routine) set a.driver form
        h.obeys).nothing_left in
        no_rights (state_of states a).kinds a.registers n left

    returns : (a : Activation) (form : Return) (o : Outcome)
        → is_hold (sort_of set a.driver a.routine) ≡ false → Runs set states s a (Ret form)
        → o.shared ≡ s
        → o.frames ≡ [] → HoldStep set states s under (Routine a) o
    returns a form o lends h shared frames =
        even (Routine a) o (λ m. rw shared refl)
        (λ n. rw frames (sym (returned_rights a form
        (never_back (sort_of set a.driver a.routine) form lends)
        h n)))
        (λ n. rw (frames, lends) refl) (λ n. rw shared refl) (λ n. rw shared refl)

    -- the I/O manager's frame goes up with its packet, under a routine that has no right or under
    -- none
    goes_up : (n : ℕ) (p q : Packet) (above : List Frame) (o : Outcome) → packet_of s n ≡ Some p
        → q.number ≡ p.number → is_some q.armer ≡ is_some p.armer → q.completing ≡ p.completing
        → o.shared ≡ with_packet s n q
        → o.frames ≡ Walk n ∷ above → is_lent set above ≡ false
        → ((m : ℕ) → stack_sum (λ g. frame_rights states g m) above ≡ 0)
        → ((m : ℕ) → walking set above m ≡ 0) → HoldStep set states s under (Walk n) o
    goes_up n p q above o there number word same shared frames unlent no_rights_above
        no_walks_above =
        let at : find s.packets n ≡ Some p = found s n (Some p) there in
        let its : q.number ≡ n = number ∙ numbered s n p there in
        even (Walk n) o (λ m. rw shared (waits_set s n p at q its set word m))
        (λ m. rw frames (omega (arith, no_rights_above m)))
        (λ m. rw (frames, unlent, no_walks_above m) refl)
        (λ m. rw shared (unheld_set s n p at q its same m))
        (λ m. rw shared (held_set s n p at q its same m))

    -- a packet goes to a list or slot, or comes from one
    queues_hold : (a : Activation) (i : Instr) (b : Activation) (queues : List (List (List ℕ)))
        (lists : List StartState) (actions : List Action) (full : Bool) → Runs set states s a i
        → FreesSlot states s (Routine a) → OwnsLive states s a
        → (queued : Queued set s a i b queues lists actions full) → is_gone queued ≡ false
        → HoldStep set states s under (Routine a) (queued_to s b queues lists actions full)
    queues_hold a i b queues lists actions full h frees live queued stays =
        record {
          rights = λ n.
              omega (arith, queued_rights set states s a i h frees live queued stays n);
          walks = λ stays n. rw (lent_same set a b (queued_same queued)) refl;
        }

    -- the word of the next one that is started is set
    held_word : (a : Activation) (i : Instr) (starts : List StartState) (n : ℕ) (p : Packet)
        (armer : Option Armer) (full : Bool) → packet_of s n ≡ Some p
        → Waits set s a i starts n armer full → Executing set a i → NextArmed set s (Routine a)
        → is_some armer ≡ false → is_some p.armer ≡ true
    held_word a i starts n p armer full there
        (arms_waiting r m start reads is armed) at ready free =
        cc
    held_word a i starts n p armer full there (disarms_next m start is first) at ready free =
        let word : (armer : Armer) × (p.armer ≡ Some armer) × (armer.device ≡ a.device)
        × (armer.queue ≡ DeviceQueue) = ready n start p at is first there in
        ap is_some word.1

    -- it waits in a device queue with its cancel word, or is started from there without one
    waiting_hold : (a : Activation) (i : Instr) (starts : List StartState) (n : ℕ) (p : Packet)
        (armer : Option Armer) (full : Bool) → Runs set states s a i
        → Holding set states s past (Routine a) → packet_of s n ≡ Some p
        → Waits set s a i starts n armer full → Executing set a i → NextArmed set s (Routine a)
        → HoldStep set states s under (Routine a) (waited_to s a starts n p armer full)
    waiting_hold a i starts n p armer full h holding there waits at_next ready =
        let at : find s.packets n ≡ Some p = found s n (Some p) there in
        let its : p.number ≡ n = numbered s n p there in
        let q : Packet = with_armer p armer in
        record {
          rights = λ m.
              let packets : unheld (find (with_packet s n q).packets m)
              ≡ unheld (find s.packets m) = unheld_set s n p at q its refl m in
              omega (
                arith,
                waited_rights set states s a i h waits p
                    (λ r own reads. right_unarmed set states s past a holding h.stays.kinds r n own
                    reads p there)
                    (λ free. held_word a i starts n p armer full there waits at_next ready free)
                    (λ k. times_named (packet_of (with_packet s n q) k))
                    (λ k was now. omega (arith, waits_won s n p at q its set was now k))
                    (λ k was now. omega (arith, waits_lost s n p at q its set was now k)) m,
              );
          walks = λ stays m.
              let packets : held (find (with_packet s n q).packets m) ≡ held (find s.packets m) =
              held_set s n p at q its refl m in
              rw packets refl;
        }

    -- its cancel word is exchanged
    exchanges_hold : (a : Activation) (i : Instr) (b : Activation) (jumped : Bool) (r n : ℕ)
        (p : Packet)
        (armer : Option Armer) (o : Outcome) → Runs set states s a i
        → Holding set states s past (Routine a) → GoesTo a i b jumped → packet_operand i ≡ Some r
        → Reads s a r n → packet_of s n ≡ Some p → Exchanged set a p i jumped armer
        → o.shared ≡ with_packet s n (with_armer p armer) → o.frames ≡ Routine b ∷ []
        → HoldStep set states s under (Routine a) o
    exchanges_hold a i b jumped r n p armer o h holding goes operand reads there how shared frames =
        let at : find s.packets n ≡ Some p = found s n (Some p) there in
        let its : p.number ≡ n = numbered s n p there in
        record {
          rights = λ m.
              let packets : unheld (find (with_packet s n (with_armer p armer)).packets m)
              ≡ unheld (find s.packets m) = unheld_set s n p at (with_armer p armer) its refl m in
              rw (shared, frames) (omega (
                arith,
                exchange_rights set states s past a holding n p there i r b jumped armer h goes operand reads how m,
              ));
          walks = λ stays m.
              rw (
                shared,
                frames,
                lent_same set a b (goes_same a i b jumped goes),
                held_set s n p at (with_armer p armer) its refl m,
              ) refl;
        }

    completes : (a : Activation) (r : ℕ) (status : Status) (n : ℕ) (p : Packet) (o : Outcome)
        → Runs set states s a (Complete r status) → Holding set states s past (Routine a)
        → Reads s a r n
        → packet_of s n ≡ Some p → o.shared ≡ with_packet s n (completed p status)
        → o.frames ≡ Routine (next a) ∷ Walk n ∷ [] → HoldStep set states s under (Routine a) o
    completes a r status n p o h holding reads there shared frames =
        let is : is_right (kind_of (state_of states a) r) ≡ true =
        (completes_one (state_of states a) (sort_of set a.driver a.routine) set a.driver r status
        h.obeys).right in
        let at : find s.packets n ≡ Some p = found s n (Some p) there in
        let its : p.number ≡ n = numbered s n p there in
        let free : p.completing ≡ false =
        right_free set states s past a holding h.stays.kinds r n is reads p there in
        record {
          rights = λ m.
              let now : frame_rights states (Routine (next a)) m
              ≡ rights (slice_set (state_of states a).kinds r BlankKind) a.registers m =
              next_state_rights set states s a (Complete r status) h refl m in
              let packets : unheld (find (with_packet s n (completed p status)).packets m)
              + (if nat_eq n m then 1 else 0) ≡ unheld (find s.packets m) =
              unheld_taken s n p at (completed p status) its free refl m in
              let waits : times_waiting set (with_packet s n (completed p status)) m
              ≡ times_waiting set s m = waits_set s n p at (completed p status) its set refl m in
              rw (shared, frames) (omega (
                arith,
                rights_turn s.issued (state_of states a).kinds a.registers r BlankKind m h.stays.kinds,
                named_right (kind_of (state_of states a) r) (register a r) n m is (reads_ref s (register a r) n reads),
              ));
          walks = λ stays m.
              let packets : held (find (with_packet s n (completed p status)).packets m)
              ≡ (if nat_eq n m then 1 else 0) + held (find s.packets m) =
              held_taken s n p at (completed p status) its free refl m in
              rw (shared, frames) (omega arith);
        }

    -- a packet is lent to a completion routine, and given back
    lends : (n : ℕ) (p q : Packet) (b : Activation) (o : Outcome)
        → Holding set states s past (Walk n)
        → packet_of s n ≡ Some p → q.number ≡ p.number → is_some q.armer ≡ is_some p.armer
        → q.completing ≡ false → Begins set states s.issued b Hold n
        → o.shared ≡ with_packet s n q → o.frames ≡ Walk n ∷ Routine b ∷ []
        → HoldStep set states s under (Walk n) o
    lends n p q b o holding there number word free begins shared frames =
        let at : find s.packets n ≡ Some p = found s n (Some p) there in
        let its : q.number ≡ n = number ∙ numbered s n p there in
        let done : p.completing ≡ true = walk_taken set states s past n holding p there in
        let lent : is_lent set (Routine b ∷ []) ≡ true = ap is_hold begins.of_sort in
        record {
          rights = λ m.
              rw (shared, frames) (omega (
                arith,
                begun_rights set states s.issued b Hold n m begins,
                unheld_lent s n p at q its done free m,
                waits_set s n p at q its set word m,
              ));
          walks = λ stays m.
              rw (shared, frames, lent) (omega (arith, held_lent s n p at q its done free m));
        }

    gives : (a : Activation) (n : ℕ) (p : Packet) (o : Outcome)
        → Holding set states s past (Routine a)
        → Runs set states s a (Ret Continue) → IsOfSort set a Hold
        → ((r k : ℕ) → is_new (kind_of (state_of states a) r) ≡ true → register a r ≡ Ref k → k ≡ n)
        → under ≡ Some (Walk n) → packet_of s n ≡ Some p
        → o.shared ≡ with_packet s n (record p { completing = true }) → o.frames ≡ []
        → HoldStep set states s under (Routine a) o
    gives a n p o holding h is to below there shared frames =
        let at : find s.packets n ≡ Some p = found s n (Some p) there in
        let its : p.number ≡ n = numbered s n p there in
        let q : Packet = record p { completing = true } in
        let own : (x : Packet) × (find s.packets n ≡ Some x) × (x.completing ≡ false) =
        own_if (find s.packets n) (back_unheld set states s past a holding h is n to) in
        let both : Some own.0 ≡ Some p = sym own.1 ∙ at in
        let same : own.0 ≡ p = cc in
        let free : p.completing ≡ false = ap (λ (x : Packet). x.completing) (sym same) ∙ own.2 in
        let lent : is_lent set (Routine a ∷ []) ≡ true = ap is_hold is in
        record {
          rights = λ m.
              let packets : unheld (find (with_packet s n q).packets m)
              + (if nat_eq n m then 1 else 0) ≡ unheld (find s.packets m) =
              unheld_taken s n p at q its free refl m in
              let waits : times_waiting set (with_packet s n q) m ≡ times_waiting set s m =
              waits_set s n p at q its set refl m in
              rw (shared, frames) (omega (
                arith,
                back_rights set states s past a holding h is n to m,
              ));
          walks = λ stays m.
              let packets : held (find (with_packet s n q).packets m)
              ≡ (if nat_eq n m then 1 else 0) + held (find s.packets m) =
              held_taken s n p at q its free refl m in
              rw (shared, frames, below, lent) (omega arith);
        }

    -- IoCancelIrp: its frame has no packet, and the cancel routine that it calls gets what the word
    -- had
    abbrev canceller : ℕ → CancelStep → Frame
    canceller n step = CancelFrame (record { packet = n; next = step })

    cancel_changes : (n : ℕ) (step : CancelStep) (p q : Packet) (o : Outcome)
        → packet_of s n ≡ Some p
        → q.number ≡ p.number → is_some q.armer ≡ is_some p.armer → q.completing ≡ p.completing
        → ((m : ℕ) → times_waiting set o.shared m ≡ times_waiting set (with_packet s n q) m)
        → o.shared.packets ≡ (with_packet s n q).packets
        → ((m : ℕ) → stack_sum (λ g. frame_rights states g m) o.frames ≡ 0)
        → ((m : ℕ) → walking_from set under o.frames m
        ≡ walking_from set under (canceller n step ∷ []) m)
        → HoldStep set states s under (canceller n step) o
    cancel_changes n step p q o there number word same waits packets none walks =
        let at : find s.packets n ≡ Some p = found s n (Some p) there in
        let its : q.number ≡ n = number ∙ numbered s n p there in
        even (canceller n step) o (λ m. waits m ∙ waits_set s n p at q its set word m) none walks
        (λ m. ap (λ (all : List Packet). unheld (find all m)) packets
        ∙ unheld_set s n p at q its same m)
        (λ m. ap (λ (all : List Packet). held (find all m)) packets
        ∙ held_set s n p at q its same m)

    cancel_calls : (n : ℕ) (p : Packet) (b : Activation) (o : Outcome) → packet_of s n ≡ Some p
        → is_some p.armer ≡ true → Begins set states s.issued b Cancel n
        → o.shared ≡ with_packet s n (with_armer p None) → o.frames ≡ Routine b ∷ []
        → HoldStep set states s under (canceller n Exchange) o
    cancel_calls n p b o there armed begins shared frames =
        let at : find s.packets n ≡ Some p = found s n (Some p) there in
        let its : p.number ≡ n = numbered s n p there in
        let q : Packet = with_armer p None in
        let unlent : is_lent set (Routine b ∷ []) ≡ false = ap is_hold begins.of_sort in
        record {
          rights = λ m.
              let packets : unheld (find (with_packet s n q).packets m)
              ≡ unheld (find s.packets m) =
              unheld_set s n p at q its refl m in
              let waits : times_waiting set (with_packet s n q) m + (if nat_eq n m then 1 else 0)
              ≡ times_waiting set s m = waits_lost s n p at q its set armed refl m in
              rw (shared, frames) (omega (
                arith,
                begun_rights set states s.issued b Cancel n m begins,
              ));
          walks = λ stays m.
              let packets : held (find (with_packet s n q).packets m) ≡ held (find s.packets m) =
              held_set s n p at q its refl m in
              rw (shared, frames, unlent, packets) refl;
        }

    cancels_hold : (n : ℕ) (step : CancelStep) (o : Outcome) → IsGood set states → Fits set s
        → n < s.issued → Cancels set s actor.thread n step o
        → HoldStep set states s under (canceller n step) o
    cancels_hold n step o good fits low (takes_cancel free) =
        even (canceller n step) o (λ m. refl) (λ m. refl) (λ m. refl) (λ m. refl) (λ m. refl)
    cancels_hold n step o good fits low (retakes_cancel its) =
        even (canceller n step) o (λ m. refl) (λ m. refl) (λ m. refl) (λ m. refl) (λ m. refl)
    cancels_hold n step o good fits low (awaits_cancel owner owned other) =
        even (canceller n step) o (λ m. refl) (λ m. refl) (λ m. refl) (λ m. refl) (λ m. refl)
    cancels_hold n step o good fits low (flags_gone gone) =
        even (canceller n step) o (λ m. refl) (λ m. refl) (λ m. refl) (λ m. refl) (λ m. refl)
    cancels_hold n step o good fits low (sets_flag p there) =
        cancel_changes n step p (cancelled p) o there refl refl refl (λ m. refl) refl (λ m. refl)
        (λ m. refl)
    cancels_hold n step o good fits low (exchanges_gone gone) =
        even (canceller n step) o (λ m. refl) (λ m. refl) (λ m. refl) (λ m. refl) (λ m. refl)
    cancels_hold n step o good fits low (finds_empty p there empty) =
        cancel_changes n step p (with_armer p None) o there refl (ap is_some (sym empty)) refl
        (λ m. refl) refl (λ m. refl) (λ m. refl)
    cancels_hold n step o good fits low (finds_none p armer there armed none) =
        let leads : ArmerLeads set (Some armer) =
        subst (ArmerLeads set) armed (word_leads set s fits n p there) in
        let driver : routine_of_device (slice_get set.devices armer.device) ≡ leads.0.driver =
        ap routine_of_device leads.1 in
        let no : None ≡ Some leads.2 =
        sym none ∙ ap (λ (d : ℕ). cancel_routine_named set d armer.queue) driver ∙ leads.3 in
        cc
    cancels_hold n step o good fits low (calls_cancel p armer routine there armed named) =
        cancel_calls n p _ o there (ap is_some armed)
        (begins_cancelled set states good s.issued n low armer routine
        (subst (ArmerLeads set) armed (word_leads set s fits n p there)) named)
        refl refl

  pub hold : (under : Option Frame) (f : Frame) (o : Outcome) → OnTop set states s f
      → Holding set states s past f → FreesSlot states s f → IsLent set states under f
      → NextArmed set s f
      → Comes set s actor.thread under f o → fault_among is_touch past actor o.actions ≡ None
      → HoldStep set states s under f o
  hold under f o top holding slot lent ready (errs a lacks) quiet =
      kept under a a o (λ n. refl) refl refl (λ n. refl) (λ n. refl) (λ n. refl)
  hold under f o top holding slot lent ready
      (awaits_lock a i lock owner at takes owned other) quiet =
      kept under a a o (λ n. refl) refl refl (λ n. refl) (λ n. refl) (λ n. refl)
  hold under f o top holding slot lent ready (computes a i b jumped cells at is goes long) quiet =
      kept under a b o (λ n. refl) refl (lent_same set a b (goes_same a i b jumped goes))
      (goes_rights set states s a i (runs set states s a i top at) b jumped (rw is refl) goes)
      (λ n. refl) (λ n. refl)
  hold under f o top holding slot lent ready (opens_loop a turns at room) quiet =
      kept under a (next (with_loops a
      (a.loops.items ++ record { start = a.position + 1; turns = turns } ∷ []))) o (λ n. refl) refl
      refl
      (still_rights set states s a (Loop turns) (runs set states s a (Loop turns) top at) refl refl
      refl)
      (λ n. refl) (λ n. refl)
  hold under f o top holding slot lent ready (turns_loop a loop at there) quiet =
      let ends : Moved set states s.issued a (turned a loop) (state_of states a) =
      moved_end set states s a (runs set states s a End top at) loop there in
      kept under a (turned a loop) o (λ n. refl) refl
      (lent_same set a (turned a loop) (turned_same a loop))
      (λ n. ap (λ (state : Abs). rights state.kinds (turned a loop).registers n) ends.arrives
      ∙ ap (λ (values : List Value). rights (state_of states a).kinds values n)
      (turned_registers a loop))
      (λ n. refl) (λ n. refl)
  hold under f o top holding slot lent ready (pages a i b cell cells at is goes long) quiet =
      kept under a b o (λ n. refl) refl (lent_same set a b (goes_same a i b false goes))
      (goes_rights set states s a i (runs set states s a i top at) b false (rw is refl) goes)
      (λ n. refl) (λ n. refl)
  hold under f o top holding slot lent ready
      (touches_gone a i r n at is on operand reads gone) quiet =
      absurd (topped_faults past n
      (gone_topped s past n holding.tells (named s (register a r) n reads) gone) quiet)
  hold under f o top holding slot lent ready
      (looks_at a i b jumped r n p at is goes operand reads there jumps) quiet =
      kept under a b o (λ n. refl) refl (lent_same set a b (goes_same a i b jumped goes))
      (goes_rights set states s a i (runs set states s a i top at) b jumped (rw is refl) goes)
      (λ m. refl) (λ m. refl)
  hold under f o top holding slot lent ready
      (writes_info a q r n p info at reads there number) quiet =
      works_on under a (next a) n p (with_info p info) o there refl refl refl refl refl refl
      (still_rights set states s a (Put q r) (runs set states s a (Put q r) top at) refl refl refl)
  hold under f o top holding slot lent ready (marks_packet a r n p at reads there) quiet =
      let h : Runs set states s a (Mark r) = runs set states s a (Mark r) top at in
      works_on under a (next a) n p (mark_current p) o there refl refl refl refl refl refl
      (λ m. next_state_rights set states s a (Mark r) h refl m
      ∙ mark_rights s.issued (state_of states a) a.registers r (kind_of (state_of states a) r) m
      h.stays.kinds refl)
  hold under f o top holding slot lent ready
      (exchanges a i b jumped r n p armer at is goes operand reads there how) quiet =
      exchanges_hold under a i b jumped r n p armer o (runs set states s a i top at) holding goes
      operand
      reads there how refl refl
  hold under f o top holding slot lent ready (takes_lock a i lock at takes free) quiet =
      kept under a (next a) o (λ n. refl) refl refl
      (lock_rights set states s a i (runs set states s a i top at) (taken_word a i lock takes))
      (λ n. refl) (λ n. refl)
  hold under f o top holding slot lent ready (retakes_lock a i lock at takes its) quiet =
      kept under a (next a) o (λ n. refl) refl refl
      (lock_rights set states s a i (runs set states s a i top at) (taken_word a i lock takes))
      (λ n. refl) (λ n. refl)
  hold under f o top holding slot lent ready (frees_lock a i lock owner at frees there) quiet =
      kept under a (next a) o (λ n. refl) refl refl
      (lock_rights set states s a i (runs set states s a i top at) (freed_word a i lock frees))
      (λ n. refl) (λ n. refl)
  hold under f o top holding slot lent ready
      (works_on_queues a i b queues starts actions full at (starts_gone n start there first gone))
      quiet =
      let low : n < s.issued =
      head_low s.issued start (start_issued set s a.device start there top.fits.starts)
      start.device_queue n
      (start_issued set s a.device start there top.fits.starts).device_queue
      (first_both (has_cancel set a.driver DeviceQueue) (head_of start.device_queue) n first).1 in
      absurd (topped_faults past n (gone_topped s past n holding.tells low gone) quiet)
  hold under f o top holding slot lent ready
      (works_on_queues a i b queues starts actions full at queued) quiet =
      queues_hold under a i b queues starts actions full (runs set states s a i top at) slot
      (λ r n own reads gone. right_lives set states s past a holding
      (runs set states s a i top at).stays.kinds r n own reads gone) queued refl
  hold under f o top holding slot lent ready
      (works_on_waiting a i starts n p armer full at there waits) quiet =
      waiting_hold under a i starts n p armer full
      (runs set states s a i top at) holding there waits
      at ready
  hold under f o top holding slot lent ready
      (completes_packet a r status n p at reads there) quiet =
      completes under a r status n p o (runs set states s a (Complete r status) top at) holding
      reads
      there refl refl
  hold under f o top holding slot lent ready (completes_gone a r status n at reads gone) quiet =
      let h : Runs set states s a (Complete r status) = runs set states s a (Complete r status) top
      at in
      absurd (right_lives set states s past a holding h.stays.kinds r n
      (completes_one (state_of states a) (sort_of set a.driver a.routine) set a.driver r status
      h.obeys).right reads gone)
  hold under f o top holding slot lent ready
      (passes_down a r n p lower at reads there below) quiet =
      sends under a (Pass r) (runs set states s a (Pass r) top at) r lower n p (shared_with p lower)
      o
      refl refl refl
      reads there below refl refl refl refl refl
  hold under f o top holding slot lent ready
      (calls_down a r g n p lower at reads there below) quiet =
      sends under a (Call r g) (runs set states s a (Call r g) top at) r lower n p
      (sent_down p lower (set_by a g)) o
      refl refl refl reads there below refl refl refl refl refl
  hold under f o top holding slot lent ready (returns_status a form status at is told) quiet =
      returns under a form o (ap is_hold is) (runs set states s a (Ret form) top at) refl refl
  hold under f o top holding slot lent ready (lets_go a at is walk) quiet =
      returns under a Continue o (ap is_hold is) (runs set states s a (Ret Continue) top at) refl
      refl
  hold under f o top holding slot lent ready (lets_walk a n at is) quiet =
      returns under a Continue o (ap is_hold is) (runs set states s a (Ret Continue) top at) refl
      refl
  hold under f o top holding slot lent ready (resumes_walk a n p at is there) quiet =
      let to : (k : ℕ) × (Some (Walk n) ≡ Some (Walk k))
      × ((r j : ℕ) → is_new (kind_of (state_of states a) r) ≡ true → register a r ≡ Ref j → j ≡ k) =
      lent is in
      let same : to.0 ≡ n = walk_same to.0 n to.1 in
      gives under a n p o holding (runs set states s a (Ret Continue) top at) is
      (λ r j new refers. to.2 r j new refers ∙ same) refl there refl refl
  hold under f o top holding slot lent ready (resumes_gone a n at is gone) quiet =
      let to : (k : ℕ) × (Some (Walk n) ≡ Some (Walk k))
      × ((r j : ℕ) → is_new (kind_of (state_of states a) r) ≡ true → register a r ≡ Ref j → j ≡ k) =
      lent is in
      let same : to.0 ≡ n = walk_same to.0 n to.1 in
      let some : 1 ≤ unheld (find s.packets n) =
      back_unheld set states s past a holding (runs set states s a (Ret Continue) top at) is n
      (λ r j new refers. to.2 r j new refers ∙ same) in
      let none : unheld (find s.packets n) ≡ 0 = ap unheld (found s n None gone) in
      absurd (omega arith)
  hold under f o top holding slot lent ready (resumes_none a at is walk) quiet =
      let to : (k : ℕ) × (under ≡ Some (Walk k))
      × ((r j : ℕ) → is_new (kind_of (state_of states a) r) ≡ true → register a r ≡ Ref j → j ≡ k) =
      lent is in
      let no : true ≡ false = ap is_walk (sym to.1) ∙ walk in
      cc
  hold under f o top holding slot lent ready (stops_walk a n at is) quiet =
      let none : (m : ℕ) → frame_rights states (Routine a) m ≡ 0 =
      returned_rights under a Stop (stop_keeps (sort_of set a.driver a.routine))
      (runs set states s a (Ret Stop) top at) in
      record { rights = λ m. rw (none m) refl; walks = λ stays m. cc }
  hold under f o top holding slot lent ready (stops_none a at is walk) quiet =
      let h : Runs set states s a (Ret Stop) = runs set states s a (Ret Stop) top at in
      let to : (k : ℕ) × (under ≡ Some (Walk k))
      × ((r j : ℕ) → is_new (kind_of (state_of states a) r) ≡ true → register a r ≡ Ref j → j ≡ k) =
      lent (hold_sort (sort_of set a.driver a.routine)
      (stops_hold (sort_of set a.driver a.routine) is
      (returns_by (state_of states a) (sort_of set a.driver a.routine) set a.driver Stop
      h.obeys).of_form)) in
      let no : true ≡ false = ap is_walk (sym to.1) ∙ walk in
      cc
  hold under f o top holding slot lent ready (ends_cancel a at is) quiet =
      returns under a Void o (ap is_hold is) (runs set states s a (Ret Void) top at) refl refl
  hold under f o top holding slot lent ready (ends_startio a at is) quiet =
      returns under a Void o (ap is_hold is) (runs set states s a (Ret Void) top at) refl refl
  hold under f o top holding slot lent ready (ends_dpc a at is) quiet =
      returns under a Void o (ap is_hold is) (runs set states s a (Ret Void) top at) refl refl
  hold under f o top holding slot lent ready (walks_gone n gone) quiet =
      absurd (walk_lives set states s past n holding gone)
  hold under f o top holding slot lent ready (walks_to n p c there set_there free) quiet =
      let b : Activation = completes_with set c n in
      let begins : Begins set states s.issued b Propagate n =
      begins_back set states s top.good top.fits n p c top.stands there set_there free in
      goes_up under n p (moved_up (left_location p)) (Routine b ∷ []) o there refl refl refl refl
      refl
      (ap is_hold begins.of_sort)
      (λ m. omega (arith, begun_rights set states s.issued b Propagate n m begins))
      (λ m. refl)
  hold under f o top holding slot lent ready (lends_to n p c there set_there its) quiet =
      lends under n p (record (moved_up (left_location p)) { completing = false })
      (completes_with set c n) o holding there refl refl refl
      (begins_lent set states s top.good top.fits n p c top.stands there set_there its) refl refl
  hold under f o top holding slot lent ready (cancels n step o_after moves) quiet =
      cancels_hold under n step o_after top.good top.fits top.stands moves
  hold under f o top holding slot lent ready (walks_up n p there without deep unmarked) quiet =
      goes_up under n p (moved_up (left_location p)) [] o there refl refl refl refl refl refl
      (λ m. refl) (λ m. refl)
  hold under f o top holding slot lent ready (carries_up n p there without deep marked) quiet =
      goes_up under n p (mark_current (moved_up (left_location p))) [] o there refl refl refl refl
      refl
      refl (λ m. refl) (λ m. refl)
  hold under f o top holding slot lent ready (tops_out n p there without first) quiet =
      let at : find s.packets n ≡ Some p = found s n (Some p) there in
      let done : p.completing ≡ true = walk_taken set states s past n holding p there in
      let free : is_some p.armer ≡ false = walk_unarmed set states s past n holding p there in
      record {
        rights = λ m.
            omega (
              arith,
              unheld_removed s n p at holding.tells.rises done m,
              waits_removed s n p at holding.tells.rises done set free m,
            );
        walks = λ stays m.
            omega (arith, held_removed s n p at holding.tells.rises done m);
      }

  -- no packet is completed twice, nor one that has a cancel routine: its word would have it too
  completion_fault_none : (n : ℕ) → topped past n ≡ false → completing past n ≡ false
      → armed past n ≡ false
      → completion_fault past n ≡ None
  completion_fault_none n there free unarmed = rw (there, free, unarmed) refl

  cancel_completes : (n : ℕ) (step : CancelStep) (o : Outcome)
      → Cancels set s actor.thread n step o → fault_among is_completion past actor o.actions ≡ None
  cancel_completes n step o (takes_cancel free) = refl
  cancel_completes n step o _ = refl

  pub completion_faults : (under : Option Frame) (f : Frame) (o : Outcome)
      → OnTop set states s f → Holding set states s past f → Comes set s actor.thread under f o
      → fault_among is_completion past actor o.actions ≡ None
  completion_faults under f o top holding (completes_packet a r status n p at reads there) =
      let h : Runs set states s a (Complete r status) = runs set states s a (Complete r status) top
      at in
      let its : find s.packets n ≡ Some p = found s n (Some p) there in
      let own : is_right (kind_of (state_of states a) r) ≡ true =
      (completes_one (state_of states a) (sort_of set a.driver a.routine) set a.driver r status
      h.obeys).right in
      let free : p.completing ≡ false =
      right_free set states s past a holding h.stays.kinds r n own reads p there in
      let empty : is_some p.armer ≡ false =
      right_unarmed set states s past a holding h.stays.kinds r n own reads p there in
      first_only (completion_fault past n)
      (completion_fault_none n (untopped s past n p holding.tells its)
      ((holding.tells.live n p its).taken ∙ free)
      ((holding.tells.live n p its).armed ∙ empty))
  completion_faults under f o top holding (completes_gone a r status n at reads gone) =
      let h : Runs set states s a (Complete r status) = runs set states s a (Complete r status) top
      at in
      absurd (right_lives set states s past a holding h.stays.kinds r n
      (completes_one (state_of states a) (sort_of set a.driver a.routine) set a.driver r status
      h.obeys).right reads gone)
  completion_faults under f o top holding
      (works_on_queues a i b queues starts actions full at queued) =
      elim (queued_touches queued) [ inl none ↦ rw none refl | inr one ↦ rw one.1 refl ]
  completion_faults under f o top holding (cancels n step made moves) =
      cancel_completes n step made moves
  completion_faults under f o top holding _ = refl
