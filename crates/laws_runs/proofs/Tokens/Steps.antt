-- A step keeps the tokens of devices: one goes from what a device has for StartIo to the routine
-- that takes its packet, and back where the routine begins another, or starts the next one.
use Rattle.laws_runs.proofs.Common.{ap, arith, inl, inr, refl, sym, ◌-◌, ◌∙◌, cases_eq, cond_both, eq-eqb, ne_eqb, length-append, Bool, List, None, Option, Some, [], false, if◌then◌else◌, slice_get, slice_set, true, ℕ, ◌+◌, ◌∷◌, ◌≡◌, ◌≢◌, ◌≤◌, Action, Outcome, answered_in, completes_with, dispatched, operand_of, routine_of_device, turned, broken_if, form_fault, given_down, gives_back, handed, handed_at_label, holds_spin_lock, kept_fault, kind_of, least_of, marked, refuses, settled_fault, StartState, dequeued, next_of, next_started, started, with_slot, Set, cancels_for, flow_of, instruction_at, lower_of, sort_of, Shared, asked_of, current_location, entered, next, register, start_of, with_start, Abs, Kind, New, CancelSpinLock, SpinLock, Token, Instr, Begin, Call, Complete, Dequeue, End, Insert, Loop, Mark, Next, Pass, Put, Remove, Ret, Start, Take, Unlink, Return, Continue, Stop, Void, QueueName, Sort, Cancel, Status, Activation, Armer, CancelStep, Frame, CancelFrame, Routine, Walk, Packet, Value, Ref, States, stack_sum, frame_tokens, slot_tokens, start_tokens, set_other, set_same, begins_called, Enters, begins_back, begins_lent, begins_lower, first_state, Moved, Runs, state_of, moved_end, arrives, arrives_next, falls_next, has_next, onto, OnTop, runs, first_none, granted, second_none, unbroken, told_frame, Cancels, Comes, GoesTo, Waits, arms_waiting, awaits_lock, calls_cancel, calls_down, cancels, carries_up, completes_gone, completes_packet, computes, dequeues_packet, disarms_next, ends_cancel, ends_dpc, ends_startio, errs, exchanges, frees_lock, inserts, jumping, lends_to, lets_go, lets_walk, looks_at, marks_packet, opens_loop, pages, passes_down, puts_in, removes, removes_none, resumes_gone, resumes_none, resumes_walk, retakes_lock, returns_status, starts_gone, starts_next, starts_packet, stops_none, stops_walk, takes_lock, takes_none, takes_out, tops_out, touches_gone, turns_loop, unlinks, walks_gone, walks_to, walks_up, works_on_queues, works_on_waiting, writes_info, LockWord, freed_word, taken_word, goes_device, Work, is_touching, work_of, and_false, if_one}
use Rattle.model.specs.LocalRule.{left_packet}
use Rattle.laws_runs.proofs.Past.Packets.{named}
use Rattle.laws_runs.proofs.Steps.Comes.{Queued, Reads}
use Rattle.laws_runs.proofs.Steps.Words.{Queueing}
use Rattle.laws_runs.proofs.Tokens.Sums.{FewTokens, own_token}

-- the tokens of a device with a frame and in what it has for StartIo, before and after a step, and
-- whether it is busy
pub record EvenFor (states : States) (s : Shared) (f : Frame) (frames : List Frame) (d : ℕ)
    (after : StartState) : Type 0 where
  pub start : StartState
  pub has : start_of s d ≡ Some start
  pub even : stack_sum (λ g. frame_tokens states d g) frames + start_tokens after
      + (if start.busy then 1 else 0)
      ≡ frame_tokens states d f + start_tokens start + (if after.busy then 1 else 0)
  pub idle : (start.busy ≡ false → start.device_queue ≡ []) → after.busy ≡ false
      → after.device_queue ≡ []

abbrev pub TokenStep : States → Shared → Frame → Outcome → Type 0
TokenStep states s f o =
    (d : ℕ) (after : StartState) → start_of o.shared d ≡ Some after
    → EvenFor states s f o.frames d after

-- the tokens of a frame: of its own device, of another one, and without one
module _ (states : States) (a : Activation) (d : ℕ) where
  pub own_tokens : a.device ≡ d
      → frame_tokens states d (Routine a) ≡ (if (state_of states a).token then 1 else 0)
  own_tokens same = rw (eq-eqb a.device d same) refl

  pub other_tokens : a.device ≢ d → frame_tokens states d (Routine a) ≡ 0
  other_tokens apart = rw (ne_eqb a.device d apart) refl

  pub no_tokens : (state_of states a).token ≡ false → frame_tokens states d (Routine a) ≡ 0
  no_tokens none = rw (none, and_false) refl

  same_tokens : (b : Activation) → b.device ≡ a.device
      → (state_of states b).token ≡ (state_of states a).token
      → frame_tokens states d (Routine b) ≡ frame_tokens states d (Routine a)
  same_tokens b device token = rw (device, token) refl

pub cancel_without : (name : Option QueueName) → (first_state Cancel name).token ≡ false
cancel_without None = refl
cancel_without (Some list) = refl

-- a routine that begins has none, unless StartIo begins
pub begun_tokens : {set : Set} {states : States} {issued : ℕ} {a : Activation} {sort : Sort}
    {first : Value} → Enters set states issued a sort first
    → (first_state sort (cancels_for set a.driver a.routine)).token ≡ false
    → (d : ℕ) → frame_tokens states d (Routine a) ≡ 0
begun_tokens {states = states} {a = a} begins none d =
    no_tokens states a d (ap (λ (state : Abs). state.token) begins.start ∙ none)

-- a frame that is told a status has the same
told_tokens : (states : States) (d : ℕ) (a : Activation) (status : Status) (r : Option ℕ)
    → frame_tokens states d (Routine (answered_in a status r)) ≡ frame_tokens states d (Routine a)
told_tokens states d a status None = refl
told_tokens states d a status (Some r) = refl

pub frame_told_tokens : (set : Set) (states : States) (d : ℕ) (told : Option Status) (g : Frame)
    → frame_tokens states d (told_frame set told g) ≡ frame_tokens states d g
frame_told_tokens set states d None (Routine a) = refl
frame_told_tokens set states d None (Walk m) = refl
frame_told_tokens set states d (Some status) (Walk m) = refl
frame_told_tokens set states d None (CancelFrame c) = refl
frame_told_tokens set states d (Some status) (CancelFrame c) = refl
frame_told_tokens set states d (Some status) (Routine a) =
    told_tokens states d a status
    (operand_of (instruction_at set a.driver a.routine (a.position - 1)))

-- only what works on queues changes the token of the state
abbrev leaves_token : Work → Bool
leaves_token Queueing = false
leaves_token _ = true

touching_leaves : (k : Work) → is_touching k ≡ true → leaves_token k ≡ true
touching_leaves Queueing h = cc
touching_leaves _ h = refl

marked_token : (s : Abs) (r : ℕ) (k : Kind) → (marked s r k).token ≡ s.token
marked_token s r New = refl
marked_token s r _ = refl

given_token : (s : Abs) (r : ℕ) (k : Kind) → (given_down s r k).token ≡ s.token
given_token s r New = refl
given_token s r _ = refl

handed_token : (set : Set) (driver : ℕ) (s : Abs) (i : Instr) → leaves_token (work_of i) ≡ true
    → (handed set driver s i).token ≡ s.token
handed_token set driver s (Mark r) h = marked_token s r (kind_of s r)
handed_token set driver s (Pass r) h = given_token s r (kind_of s r)
handed_token set driver s (Call r f) h = given_token s r (kind_of s r)
handed_token set driver s (Take r label) h = cc
handed_token set driver s (Begin r) h = cc
handed_token set driver s Next h = cc
handed_token set driver s _ h = refl

label_token : (s : Abs) (i : Instr) → (handed_at_label s i).token ≡ s.token
label_token s (Remove r q label) = refl
label_token s _ = refl

onto_token : (set : Set) (driver : ℕ) (s : Abs) (i : Instr) (jumped : Bool)
    → leaves_token (work_of i) ≡ true
    → (onto set driver s i jumped).token ≡ s.token
onto_token set driver s i false h = handed_token set driver s i h
onto_token set driver s i true h = label_token s i

-- what an instruction that breaks no rule says of the token before it
module _ (s : Abs) (sort : Sort) (set : Set) (driver : ℕ) where
  pub begin_token : (r : ℕ) → refuses s (Begin r) sort set driver ≡ None → s.token ≡ true
  begin_token r h = granted s.token _ (second_none _ _ h)

  pub next_token : refuses s Next sort set driver ≡ None → s.token ≡ true
  next_token h = granted s.token _ (second_none _ _ h)

  pub take_token : (r label : ℕ) → refuses s (Take r label) sort set driver ≡ None → s.token ≡ false
  take_token r label h = unbroken s.token _ (first_none _ _ (first_none _ _ h))

  pub return_token : (form : Return) → refuses s (Ret form) sort set driver ≡ None → s.token ≡ false
  return_token form h =
      let back : Bool = gives_back sort form in
      let rest : least_of (kept_fault s back)
      (least_of (form_fault sort form) (settled_fault sort s form)) ≡ None =
      second_none _ _ h in
      let kept : kept_fault s back ≡ None = first_none _ _ rest in
      unbroken s.token Token
      (second_none (left_packet s back) _ (second_none (broken_if (holds_spin_lock s) SpinLock) _
      (second_none (broken_if s.cancel CancelSpinLock) _ kept)))

-- IoStartPacket: a token more, where the device was idle
started_even : (start : StartState) (n : ℕ)
    → start_tokens (started start n) + (if start.busy then 1 else 0)
    ≡ start_tokens start + (if (started start n).busy then 1 else 0)
started_even start n =
    cond_both start.busy _ _
    (λ (new : StartState). start_tokens new + (if start.busy then 1 else 0)
    ≡ start_tokens start + (if new.busy then 1 else 0))
    (λ busy. refl)
    (λ free. rw free (omega (arith, length-append start.start_list (n ∷ []))))

started_idle : (start : StartState) (n : ℕ) → (started start n).busy ≡ false
    → (started start n).device_queue ≡ []
started_idle start n =
    cond_both start.busy _ _ (λ (new : StartState). new.busy ≡ false → new.device_queue ≡ [])
    (λ busy free. let no : true ≡ false = sym busy ∙ free in cc) (λ free no. cc)

-- IoStartNextPacket: a token more in the start list, or the device is idle from now on
next_even : (start : StartState) (waiting : List ℕ) → start.busy ≡ true
    → start_tokens (next_of start waiting) + (if start.busy then 1 else 0)
    ≡ 1 + start_tokens start + (if (next_of start waiting).busy then 1 else 0)
next_even start [] busy = rw busy (omega arith)
next_even start (n ∷ waiting) busy =
    rw busy (omega (arith, length-append start.start_list (n ∷ [])))

next_idle : (start : StartState) (waiting : List ℕ) → start.device_queue ≡ waiting
    → start.busy ≡ true → (next_of start waiting).busy ≡ false
    → (next_of start waiting).device_queue ≡ []
next_idle start [] is busy free = is
next_idle start (n ∷ waiting) is busy free = let no : true ≡ false = sym busy ∙ free in cc

dequeued_idle : (start : StartState) (n : ℕ) → start.device_queue ≡ []
    → (dequeued start n).device_queue ≡ []
dequeued_idle start n empty = rw empty refl

is_busy : (b : Bool) → 1 ≤ (if b then 1 else 0) → b ≡ true
is_busy true h = refl
is_busy false h = absurd (omega arith)

-- every step
module _ (set : Set) (states : States) (s : Shared) where
  -- what the devices have is as before, and the frames have as many
  same_starts : (f : Frame) (o : Outcome) → o.shared.starts ≡ s.starts
      → ((d : ℕ) → stack_sum (λ g. frame_tokens states d g) o.frames ≡ frame_tokens states d f)
      → TokenStep states s f o
  same_starts f o starts same d after there =
      record {
        start = after;
        has = ap (λ (lists : List StartState). slice_get lists d) (sym starts) ∙ there;
        even = rw (same d) refl;
        idle = λ before free. before free;
      }

  -- a frame goes on
  goes_with : (a b : Activation) (o : Outcome) → o.shared.starts ≡ s.starts
      → o.frames ≡ Routine b ∷ [] → b.device ≡ a.device
      → (state_of states b).token ≡ (state_of states a).token
      → TokenStep states s (Routine a) o
  goes_with a b o starts frames device token =
      same_starts (Routine a) o starts
      (λ d. rw frames (omega (arith, same_tokens states a d b device token)))

  -- beside a frame that has none
  goes_below : (a b : Activation) (g : Frame) (o : Outcome) → o.shared.starts ≡ s.starts
      → o.frames ≡ Routine b ∷ g ∷ []
      → b.device ≡ a.device → (state_of states b).token ≡ (state_of states a).token
      → ((d : ℕ) → frame_tokens states d g ≡ 0) → TokenStep states s (Routine a) o
  goes_below a b g o starts frames device token none =
      same_starts (Routine a) o starts
      (λ d. rw frames (omega (arith, same_tokens states a d b device token, none d)))

  module _ (a : Activation) (i : Instr) (h : Runs set states s a i) where
    goes_token : (b : Activation) (jumped : Bool) → leaves_token (work_of i) ≡ true
        → GoesTo a i b jumped
        → (state_of states b).token ≡ (state_of states a).token
    goes_token b jumped is to =
        ap (λ (state : Abs). state.token) (arrives set states s a i h b jumped to)
        ∙ onto_token set a.driver (state_of states a) i jumped is

    goes_tokens : (b : Activation) (jumped : Bool) (o : Outcome) → leaves_token (work_of i) ≡ true
        → GoesTo a i b jumped → o.shared.starts ≡ s.starts → o.frames ≡ Routine b ∷ []
        → TokenStep states s (Routine a) o
    goes_tokens b jumped o is to starts frames =
        goes_with a b o starts frames (goes_device a i b jumped to) (goes_token b jumped is to)

    pub state_next : has_next (flow_of i) ≡ true
        → (states a.driver a.routine (a.position + 1)).token
        ≡ (handed set a.driver (state_of states a) i).token
    state_next leads = ap (λ (state : Abs). state.token) (arrives_next set states s a i h leads)

    next_token_same : leaves_token (work_of i) ≡ true → has_next (flow_of i) ≡ true
        → (states a.driver a.routine (a.position + 1)).token ≡ (state_of states a).token
    next_token_same is leads =
        state_next leads ∙ handed_token set a.driver (state_of states a) i is

    next_tokens : (o : Outcome) → leaves_token (work_of i) ≡ true → has_next (flow_of i) ≡ true
        → o.shared.starts ≡ s.starts → o.frames ≡ Routine (next a) ∷ []
        → TokenStep states s (Routine a) o
    next_tokens o is leads starts frames =
        goes_with a (next a) o starts frames refl (next_token_same is leads)

  lock_tokens : (a : Activation) (i : Instr) (o : Outcome) → Runs set states s a i → LockWord i
      → o.shared.starts ≡ s.starts → o.frames ≡ Routine (next a) ∷ []
      → TokenStep states s (Routine a) o
  lock_tokens a i o h word starts frames =
      next_tokens a i h o (ap leaves_token word.work) (falls_next (flow_of i) word.on) starts frames

  -- a routine returns without one
  returns : (a : Activation) (form : Return) (o : Outcome) → Runs set states s a (Ret form)
      → o.shared.starts ≡ s.starts → o.frames ≡ [] → TokenStep states s (Routine a) o
  returns a form o h starts frames =
      same_starts (Routine a) o starts
      (λ d. rw frames (sym (no_tokens states a d
      (return_token (state_of states a) _ set a.driver form h.obeys))))

  -- something else in place of what the frame's device has
  put_starts : (a b : Activation) (start new : StartState) → start_of s a.device ≡ Some start
      → b.device ≡ a.device
      → (if (state_of states b).token then 1 else 0) + start_tokens new
      + (if start.busy then 1 else 0)
      ≡ (if (state_of states a).token then 1 else 0) + start_tokens start
      + (if new.busy then 1 else 0)
      → ((start.busy ≡ false → start.device_queue ≡ []) → new.busy ≡ false → new.device_queue ≡ [])
      → (d : ℕ) (after : StartState) → slice_get (slice_set s.starts a.device new) d ≡ Some after
      → EvenFor states s (Routine a) (Routine b ∷ []) d after
  put_starts a b start new there device even idle d after found =
      elim (cases_eq a.device d) [
        | inl same ↦ here same
        | inr apart ↦ elsewhere apart
      ]
    where
      elsewhere : a.device ≢ d → EvenFor states s (Routine a) (Routine b ∷ []) d after
      elsewhere apart =
          let before : frame_tokens states d (Routine a) ≡ 0 = other_tokens states a d apart in
          let now : frame_tokens states d (Routine b) ≡ 0 =
          other_tokens states b d (λ same. apart (sym device ∙ same)) in
          record {
            start = after;
            has = sym (set_other s.starts a.device d new apart) ∙ found;
            even = omega arith;
            idle = λ kept free. kept free;
          }

      here : a.device ≡ d → EvenFor states s (Routine a) (Routine b ∷ []) d after
      here same =
          let put : slice_get (slice_set s.starts a.device new) d ≡ Some new =
          rw (← same) (set_same s.starts a.device start new there) in
          let both : Some new ≡ Some after = sym put ∙ found in
          let is : new ≡ after = cc in
          let before : frame_tokens states d (Routine a)
          ≡ (if (state_of states a).token then 1 else 0) =
          own_tokens states a d same in
          let now : frame_tokens states d (Routine b)
          ≡ (if (state_of states b).token then 1 else 0) =
          own_tokens states b d (device ∙ same) in
          let had : start_of s d ≡ Some start = rw (← same) there in
          rw (← is) (record { start = start; has = had; even = omega arith; idle = idle })

  -- an instruction about queues
  module _ (a : Activation) (few : FewTokens states s (Routine a)) where
    -- a routine with the token: nothing is in the slot of its device, which is busy
    beside : (start : StartState) → start_of s a.device ≡ Some start
        → (state_of states a).token ≡ true → 1 + start_tokens start ≤ (if start.busy then 1 else 0)
    beside start there has =
        omega (arith, own_token states a has, few a.device start there)

    slot_empty : (start : StartState) → start_of s a.device ≡ Some start
        → (state_of states a).token ≡ true → slot_tokens start.slot ≡ 0
    slot_empty start there has =
        omega (arith, beside start there has, if_one start.busy)

    busy_with : (start : StartState) → start_of s a.device ≡ Some start
        → (state_of states a).token ≡ true → start.busy ≡ true
    busy_with start there has =
        let all : 1 + start_tokens start ≤ (if start.busy then 1 else 0) = beside start there has in
        is_busy start.busy (omega arith)

    leaves_starts : (b : Activation) → b.device ≡ a.device
        → (state_of states b).token ≡ (state_of states a).token
        → (d : ℕ) (after : StartState) → slice_get s.starts d ≡ Some after
        → EvenFor states s (Routine a) (Routine b ∷ []) d after
    leaves_starts b device token d after there =
        let one : frame_tokens states d (Routine b) ≡ frame_tokens states d (Routine a) =
        same_tokens states a d b device token in
        record { start = after; has = there; even = omega arith; idle = λ kept free. kept free }

    next_starts_tokens : Runs set states s a Next → (start : StartState)
        → start_of s a.device ≡ Some start
        → (d : ℕ) (after : StartState)
        → slice_get (with_start s a.device (next_started start)).starts d ≡ Some after
        → EvenFor states s (Routine a) (Routine (next a) ∷ []) d after
    next_starts_tokens h start there =
        let has : (state_of states a).token ≡ true =
        next_token (state_of states a) (sort_of set a.driver a.routine) set a.driver h.obeys in
        let none : (states a.driver a.routine (a.position + 1)).token ≡ false =
        state_next a Next h refl in
        let busy : start.busy ≡ true = busy_with start there has in
        let even : start_tokens (next_of start start.device_queue) + (if start.busy then 1 else 0)
        ≡ 1 + start_tokens start + (if (next_of start start.device_queue).busy then 1 else 0) =
        next_even start start.device_queue busy in
        put_starts a (next a) start (next_of start start.device_queue) there refl
        (rw (none, has) (omega arith))
        (λ kept. next_idle start start.device_queue refl busy)

    start_tokens_given : (r n : ℕ) → Runs set states s a (Start r) → (start : StartState)
        → start_of s a.device ≡ Some start → (d : ℕ) (after : StartState)
        → slice_get (with_start s a.device (started start n)).starts d ≡ Some after
        → EvenFor states s (Routine a) (Routine (next a) ∷ []) d after
    start_tokens_given r n h start there =
        let same : (state_of states (next a)).token ≡ (state_of states a).token =
        state_next a (Start r) h refl in
        let even : start_tokens (started start n) + (if start.busy then 1 else 0)
        ≡ start_tokens start + (if (started start n).busy then 1 else 0) = started_even start n in
        put_starts a (next a) start (started start n) there refl (rw same (omega arith))
        (λ kept. started_idle start n)

    queued_tokens : (i : Instr) → Runs set states s a i → {b : Activation}
        {queues : List (List (List ℕ))} {lists : List StartState} {actions : List Action}
        {full : Bool}
        → Queued set s a i b queues lists actions full → (d : ℕ) (after : StartState)
        → slice_get lists d ≡ Some after → EvenFor states s (Routine a) (Routine b ∷ []) d after
    queued_tokens i h (inserts r q n entries reads there) =
        leaves_starts (next a) refl (state_next a (Insert r q) h refl)
    queued_tokens i h (removes r q label n entries there) =
        leaves_starts _ refl (state_next a (Remove r q label) h refl)
    queued_tokens i h (removes_none r q label there) =
        leaves_starts _ refl
        (ap (λ (state : Abs). state.token)
        (arrives set states s a (Remove r q label) h _ true (jumping label refl)))
    queued_tokens i h (takes_none r label start there slot) =
        leaves_starts _ refl
        (ap (λ (state : Abs). state.token)
        (arrives set states s a (Take r label) h _ true (jumping label refl)))
    queued_tokens i h (unlinks r q n entries reads there) =
        leaves_starts (next a) refl (state_next a (Unlink r q) h refl)
    queued_tokens i h (starts_packet r n start reads there plain) =
        start_tokens_given r n h start there
    queued_tokens i h (takes_out r label n start there slot) =
        let none : (state_of states a).token ≡ false =
        take_token (state_of states a) (sort_of set a.driver a.routine) set a.driver r label
        h.obeys in
        let has : (states a.driver a.routine (a.position + 1)).token ≡ true =
        state_next a (Take r label) h refl in
        let full : slot_tokens start.slot ≡ 1 = ap slot_tokens slot in
        put_starts a _ start (with_slot start None) there refl (rw (none, has) (omega arith))
        (λ kept. kept)
    queued_tokens i h (puts_in r n start reads there) =
        let has : (state_of states a).token ≡ true =
        begin_token (state_of states a) (sort_of set a.driver a.routine) set a.driver r h.obeys in
        let none : (states a.driver a.routine (a.position + 1)).token ≡ false =
        state_next a (Begin r) h refl in
        let empty : slot_tokens start.slot ≡ 0 = slot_empty start there has in
        put_starts a (next a) start (with_slot start (Some n)) there refl
        (rw (none, has) (omega arith)) (λ kept. kept)
    queued_tokens i h (starts_next start there none) = next_starts_tokens h start there
    queued_tokens i h (starts_gone n start there first gone) = next_starts_tokens h start there
    queued_tokens i h (dequeues_packet r n start reads there) =
        let same : (state_of states (next a)).token ≡ (state_of states a).token =
        state_next a (Dequeue r) h refl in
        put_starts a (next a) start (dequeued start n) there refl (rw same (omega arith))
        (λ kept free. dequeued_idle start n (kept free))

    waits_tokens : (i : Instr) → Runs set states s a i
        → {starts : List StartState} {n : ℕ} {armer : Option Armer} {full : Bool}
        → Waits set s a i starts n armer full → (d : ℕ) (after : StartState)
        → slice_get starts d ≡ Some after
        → EvenFor states s (Routine a) (Routine (next a) ∷ []) d after
    waits_tokens i h (arms_waiting r n start reads there armed) =
        start_tokens_given r n h start there
    waits_tokens i h (disarms_next n start there first) = next_starts_tokens h start there

  -- a packet is sent down to a routine that begins
  sends : (t : ℕ) (a : Activation) (i : Instr) (o : Outcome) (r n lower : ℕ) (p : Packet)
      → Runs set states s a i → leaves_token (work_of i) ≡ true → has_next (flow_of i) ≡ true
      → Reads s a r n → lower_of set a.device ≡ Some lower → o.shared.starts ≡ s.starts
      → o.frames ≡ Routine (next a)
      ∷ Routine (dispatched set lower (slice_get set.devices lower)
      (asked_of (current_location p)) n)
      ∷ []
      → TokenStep states s (Routine a) o
  sends t a i o r n lower p h leaves leads reads below starts frames =
      goes_below a (next a)
      (Routine (dispatched set lower (slice_get set.devices lower)
      (asked_of (current_location p)) n))
      o starts frames refl (next_token_same a i h leaves leads)
      (begun_tokens (begins_lower set states h.good s.issued n (named s (register a r) n reads)
      a.device lower (asked_of (current_location p)) below) refl)

  -- IoCancelIrp has none, nor does the cancel routine that begins
  cancel_tokens : (t n : ℕ) (step : CancelStep) (o : Outcome)
      → OnTop set states s (CancelFrame (record { packet = n; next = step }))
      → Cancels set s t n step o
      → TokenStep states s (CancelFrame (record { packet = n; next = step })) o
  cancel_tokens t n step o top (calls_cancel p armer routine there is named) =
      same_starts (CancelFrame (record { packet = n; next = step })) o refl
      (λ d. let none : frame_tokens states d
      (Routine (entered (routine_of_device (slice_get set.devices armer.device)) routine
      armer.device
      (Ref n))) ≡ 0 =
      begun_tokens
      (begins_called set states s top.good top.fits n p armer routine top.stands there is named)
      (cancel_without _) d in
      omega arith)
  cancel_tokens t n step o top _ =
      same_starts (CancelFrame (record { packet = n; next = step })) o refl (λ d. refl)

  pub token_step : (t : ℕ) (under : Option Frame) (f : Frame) (o : Outcome) → OnTop set states s f
      → FewTokens states s f → Comes set s t under f o → TokenStep states s f o
  token_step t under f o top few (errs a lacks) = goes_with a a o refl refl refl refl
  token_step t under f o top few (awaits_lock a i lock owner at takes owned other) =
      goes_with a a o refl refl refl refl
  token_step t under f o top few (computes a i b jumped cells at is goes long) =
      goes_tokens a i (runs set states s a i top at) b jumped o (ap leaves_token is) goes refl refl
  token_step t under f o top few (opens_loop a turns at room) =
      goes_with a _ o refl refl refl
      (next_token_same a (Loop turns) (runs set states s a (Loop turns) top at) refl refl)
  token_step t under f o top few (turns_loop a loop at there) =
      let ends : Moved set states s.issued a (turned a loop) (state_of states a) =
      moved_end set states s a (runs set states s a End top at) loop there in
      goes_with a (turned a loop) o refl refl ends.device
      (ap (λ (state : Abs). state.token) ends.arrives)
  token_step t under f o top few (pages a i b cell cells at is goes long) =
      goes_tokens a i (runs set states s a i top at) b false o (ap leaves_token is) goes refl refl
  token_step t under f o top few (touches_gone a i r n at is on operand reads gone) =
      next_tokens a i (runs set states s a i top at) o (touching_leaves (work_of i) is)
      (falls_next (flow_of i) on) refl refl
  token_step t under f o top few (looks_at a i b jumped r n p at is goes operand reads there on) =
      goes_tokens a i (runs set states s a i top at) b jumped o (ap leaves_token is) goes refl refl
  token_step t under f o top few (writes_info a q r n p info at reads there number) =
      next_tokens a (Put q r) (runs set states s a (Put q r) top at) o refl refl refl refl
  token_step t under f o top few (marks_packet a r n p at reads there) =
      next_tokens a (Mark r) (runs set states s a (Mark r) top at) o refl refl refl refl
  token_step t under f o top few
      (exchanges a i b jumped r n p armer at is goes operand reads there how) =
      goes_tokens a i (runs set states s a i top at) b jumped o (ap leaves_token is) goes refl refl
  token_step t under f o top few (takes_lock a i lock at takes free) =
      lock_tokens a i o (runs set states s a i top at) (taken_word a i lock takes) refl refl
  token_step t under f o top few (retakes_lock a i lock at takes its) =
      lock_tokens a i o (runs set states s a i top at) (taken_word a i lock takes) refl refl
  token_step t under f o top few (frees_lock a i lock owner at frees there) =
      lock_tokens a i o (runs set states s a i top at) (freed_word a i lock frees) refl refl
  token_step t under f o top few (works_on_queues a i b queues starts actions full at queued) =
      queued_tokens a few i (runs set states s a i top at) queued
  token_step t under f o top few (works_on_waiting a i starts n p armer full at there waits) =
      waits_tokens a few i (runs set states s a i top at) waits
  token_step t under f o top few (completes_packet a r status n p at reads there) =
      goes_below a (next a) (Walk n) o refl refl refl
      (next_token_same a (Complete r status) (runs set states s a (Complete r status) top at)
      refl refl)
      (λ d. refl)
  token_step t under f o top few (completes_gone a r status n at reads gone) =
      next_tokens a (Complete r status) (runs set states s a (Complete r status) top at) o refl refl
      refl refl
  token_step t under f o top few (passes_down a r n p lower at reads there below) =
      sends t a (Pass r) o r n lower p (runs set states s a (Pass r) top at) refl refl reads below
      refl refl
  token_step t under f o top few (calls_down a r g n p lower at reads there below) =
      sends t a (Call r g) o r n lower p (runs set states s a (Call r g) top at) refl refl reads
      below refl refl
  token_step t under f o top few (returns_status a form status at is told) =
      returns a form o (runs set states s a (Ret form) top at) refl refl
  token_step t under f o top few (lets_go a at is walk) =
      returns a Continue o (runs set states s a (Ret Continue) top at) refl refl
  token_step t under f o top few (lets_walk a n at is) =
      returns a Continue o (runs set states s a (Ret Continue) top at) refl refl
  token_step t under f o top few (resumes_walk a n p at is there) =
      returns a Continue o (runs set states s a (Ret Continue) top at) refl refl
  token_step t under f o top few (resumes_gone a n at is gone) =
      returns a Continue o (runs set states s a (Ret Continue) top at) refl refl
  token_step t under f o top few (resumes_none a at is walk) =
      returns a Continue o (runs set states s a (Ret Continue) top at) refl refl
  token_step t under f o top few (stops_walk a n at is) =
      returns a Stop o (runs set states s a (Ret Stop) top at) refl refl
  token_step t under f o top few (stops_none a at is walk) =
      returns a Stop o (runs set states s a (Ret Stop) top at) refl refl
  token_step t under f o top few (ends_cancel a at is) =
      returns a Void o (runs set states s a (Ret Void) top at) refl refl
  token_step t under f o top few (ends_startio a at is) =
      returns a Void o (runs set states s a (Ret Void) top at) refl refl
  token_step t under f o top few (ends_dpc a at is) =
      returns a Void o (runs set states s a (Ret Void) top at) refl refl
  token_step t under f o top few (walks_to n p c there set_there lends) =
      same_starts (Walk n) o refl
      (λ d. let none : frame_tokens states d (Routine (completes_with set c n)) ≡ 0 =
      begun_tokens (begins_back set states s top.good top.fits n p c top.stands there set_there
      lends)
      refl d in
      omega arith)
  token_step t under f o top few (lends_to n p c there set_there lends) =
      same_starts (Walk n) o refl
      (λ d. let none : frame_tokens states d (Routine (completes_with set c n)) ≡ 0 =
      begun_tokens (begins_lent set states s top.good top.fits n p c top.stands there set_there
      lends)
      refl d in
      omega arith)
  token_step t under f o top few (cancels n step made moves) = cancel_tokens t n step made top moves
  token_step t under f o top few (walks_gone n gone) = same_starts (Walk n) o refl (λ d. refl)
  token_step t under f o top few (walks_up n p there without deep unmarked) =
      same_starts (Walk n) o refl (λ d. refl)
  token_step t under f o top few (carries_up n p there without deep marked) =
      same_starts (Walk n) o refl (λ d. refl)
  token_step t under f o top few (tops_out n p there without first) =
      same_starts (Walk n) o refl (λ d. refl)
