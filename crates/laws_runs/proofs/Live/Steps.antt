-- Each step keeps what frames see, and touches live packets alone: a register that has a packet has
-- the right to it, or refers to the packet of the I/O manager's frame below, and that frame holds
-- its packet.
use Rattle.laws_runs.proofs.Common.{ap, arith, inl, inr, refl, subst, sym, ◌∙◌, cases_Bool, eq-eqb, Bool, List, None, Option, Some, false, slice_get, true, ℕ, ⊤, ◌+◌, ◌<◌, ◌∷◌, ◌≡◌, ◌≤◌, ◌⊎◌, Action, Executes, Touches, Outcome, asks, completes_with, routine_of_device, turned, bug_if, fault_of, is_claim, is_exchanged, is_new, is_packet, is_right, is_view, is_hold, kind_of, Arrives, StartState, head_of, Set, flow_of, has_cancel, lower_of, member, routine_of, sort_of, Actor, Entry, Shared, asked_of, current_location, entered, next, packet_in, packet_of, register, Kind, QueuedKind, View, IrqlNotLessOrEqual, PacketSubject, Instr, Begin, Call, Complete, Dequeue, End, Insert, Loop, Mark, Next, Pass, Put, Ret, Start, Unlink, Continue, QueueName, Declared, DeviceQueue, RoutineOf, Sort, Cancel, Dispatch, Hold, Activation, Armer, CancelStep, Frame, CancelFrame, Routine, Walk, Packet, Value, Ref, States, times_in, begins_called, IsOfSort, begins_back, begins_lent, begins_lower, sort_there, Runs, state_of, goes_hold, keeps_copies, next_hold, queued_hold, packet_wanted, never_lacks, moved_end, moved_loop, falls_next, has_next, deferred_no_view, dispatch_no_view, handed_news, handed_views, hold_no_view, no_view_at, OnTop, runs, value_suits, MovedOn, queue_moves, Cancels, Comes, Executing, GoesTo, Waits, arms_waiting, awaits_cancel, awaits_lock, calls_cancel, calls_down, cancels, carries_up, completes_gone, completes_packet, computes, dequeues_packet, disarms_next, ends_cancel, ends_dpc, ends_startio, errs, exchanges, frees_lock, inserts, lends_to, lets_go, lets_walk, looks_at, marks_packet, opens_loop, pages, passes_down, puts_in, removes, removes_none, resumes_gone, resumes_none, resumes_walk, retakes_cancel, retakes_lock, returns_status, sets_flag, starts_gone, starts_next, starts_packet, stops_none, stops_walk, takes_cancel, takes_lock, takes_none, takes_out, tops_out, touches_gone, turns_loop, unlinks, walks_gone, walks_to, walks_up, works_on_queues, works_on_waiting, writes_info, fault_among, first_only, is_touch, LockWord, freed_word, taken_word, SameRoutine, goes_same, turned_registers, turned_same, packet_operand, not_false}
use Rattle.laws_runs.proofs.Claims.Next.{head_counts}
use Rattle.laws_runs.proofs.Holders.Lent.{back_unheld, hold_sort}
use Rattle.std.proofs.Common.{Continue}
use Rattle.laws_runs.proofs.Holders.Counts.{Holding, right_lives, walk_lives}
use Rattle.laws_runs.proofs.Live.Sees.{view_refers, Views, RefersTo, Seen, AllSeen, IsDeferred, News, propagate_sees, hold_sees, lent_refers, deferred_sort}
use Rattle.laws_runs.proofs.States.NoViews.{HasNoView}
use Rattle.laws_runs.proofs.Past.Packets.{Tells, found, named, untopped}
use Rattle.laws_runs.proofs.States.Kinds.{packet_ref}
use Rattle.laws_runs.proofs.Steps.Comes.{Queued, Reads}
use Rattle.laws_runs.proofs.States.HandedOver.{touching_copies, copies}
use Rattle.laws_runs.proofs.Holders.Sums.{own_if, unheld}
use Rattle.laws_runs.proofs.Past.LivePackets.{find}
use Rattle.laws_runs.proofs.Claims.Sums.{list_of}
use Rattle.laws_runs.proofs.Holders.Waits.{first_both}

-- a routine that goes on sees what it saw
goes_seen : (set : Set) (states : States) (under : Option Frame) (a b : Activation)
    → b.driver ≡ a.driver → b.routine ≡ a.routine
    → ((m : ℕ) → Views states m a → Views states m b)
    → ((m : ℕ) → News states m a → News states m b)
    → Seen set states under (Routine a) → Seen set states under (Routine b)
goes_seen set states None a b driver routine views news h =
    elim h [ inl is ↦ inl (rw (driver, routine) is) | inr is ↦ inr (rw (driver, routine) is) ]
goes_seen set states (Some (Routine c)) a b driver routine views news h = rw (driver, routine) h
goes_seen set states (Some (Walk m)) a b driver routine views news h = (views m h.0, news m h.1)
goes_seen set states (Some (CancelFrame c)) a b driver routine views news h = h

walk_seen : (set : Set) (states : States) (under : Option Frame) (n : ℕ)
    → Seen set states under (Walk n)
walk_seen set states None n = tt
walk_seen set states (Some (Routine a)) n = tt
walk_seen set states (Some (Walk m)) n = tt
walk_seen set states (Some (CancelFrame c)) n = tt

module _ (set : Set) (states : States) (s : Shared) where
  next_seen : (under : Option Frame) (a : Activation) (i : Instr) → Runs set states s a i
      → has_next (flow_of i) ≡ true → copies i ≡ false → Seen set states under (Routine a)
      → Seen set states under (Routine (next a))
  next_seen under a i run leads plain h =
      goes_seen set states under a (next a) refl refl
      (λ m views. next_hold is_view handed_views (RefersTo m) set states s a tt i run leads plain
      views)
      (λ m news. next_hold is_new handed_news (RefersTo m) set states s a tt i run leads plain news)
      h

  moves_seen : (under : Option Frame) (a : Activation) (i : Instr) (b : Activation) (jumped : Bool)
      → Runs set states s a i → GoesTo a i b jumped
      → Seen set states under (Routine a) → Seen set states under (Routine b)
  moves_seen under a i b jumped run goes h =
      let same : SameRoutine a b = goes_same a i b jumped goes in
      goes_seen set states under a b same.0 same.1
      (λ m views. goes_hold is_view handed_views (RefersTo m) set states s a tt i b jumped run goes
      views)
      (λ m news. goes_hold is_new handed_news (RefersTo m) set states s a tt i b jumped run goes
      news) h

  -- the same values in registers of the same kinds
  same_seen : (under : Option Frame) (a b : Activation) → b.driver ≡ a.driver
      → b.routine ≡ a.routine
      → state_of states b ≡ state_of states a → b.registers ≡ a.registers
      → Seen set states under (Routine a) → Seen set states under (Routine b)
  same_seen under a b driver routine state registers h =
      goes_seen set states under a b driver routine (λ m views. rw (state, registers) views)
      (λ m news. rw (state, registers) news) h

  lock_seen : (under : Option Frame) (a : Activation) (i : Instr) → OnTop set states s (Routine a)
      → Executing set a i → LockWord i → Seen set states under (Routine a)
      → Seen set states under (Routine (next a))
  lock_seen under a i h at word sees =
      next_seen under a i (runs set states s a i h at) (falls_next (flow_of i) word.on)
      (keeps_copies i word.keeps) sees

  asks_seen : (under : Option Frame) (a : Activation) (i : Instr) (lower n : ℕ) (p : Packet)
      → OnTop set states s (Routine a) → Executing set a i → has_next (flow_of i) ≡ true
      → copies i ≡ false
      → n < s.issued → lower_of set a.device ≡ Some lower → Seen set states under (Routine a)
      → AllSeen set states under (asks set a lower p n)
  asks_seen under a i lower n p h at leads plain low below seen = (
    next_seen under a i (runs set states s a i h at) leads plain seen,
    (
      (begins_lower set states h.good s.issued n low a.device lower (asked_of (current_location p))
          below).of_sort,
      tt,
    ),
  )

  -- a step of IoCancelIrp: its frame stands on none, and a cancel routine's in its place
  cancels_seen : (t : ℕ) (under : Option Frame) (n : ℕ) (step : CancelStep) (o : Outcome)
      → OnTop set states s (CancelFrame (record { packet = n; next = step }))
      → Seen set states under (CancelFrame (record { packet = n; next = step }))
      → Cancels set s t n step o → AllSeen set states under o.frames
  cancels_seen t (Some g) n step o h sees moves = absurd sees
  cancels_seen t None n step o h sees (calls_cancel p armer routine there word named) = (
    inr (deferred_sort set
        (entered (routine_of_device (slice_get set.devices armer.device)) routine armer.device
        (Ref n))
        Cancel
        (begins_called set states s h.good h.fits n p armer routine h.stands there word
        named).of_sort
        refl),
    tt,
  )
  cancels_seen t None n step o h sees (takes_cancel free) = (tt, tt)
  cancels_seen t None n step o h sees (retakes_cancel its) = (tt, tt)
  cancels_seen t None n step o h sees (awaits_cancel owner owned other) = (tt, tt)
  cancels_seen t None n step o h sees (sets_flag p there) = (tt, tt)
  cancels_seen t None n step o h sees _ = tt

  -- every shape
  waits_seen : (under : Option Frame) (a : Activation) (i : Instr) → Runs set states s a i
      → {starts : List StartState} {n : ℕ} {armer : Option Armer} {full : Bool}
      → Waits set s a i starts n armer full → Seen set states under (Routine a)
      → Seen set states under (Routine (next a))
  waits_seen under a i run (arms_waiting r n start reads there armed) sees =
      next_seen under a (Start r) run refl refl sees
  waits_seen under a i run (disarms_next n start there first) sees =
      next_seen under a Next run refl refl sees

  pub seen : (t : ℕ) (under top : Option Frame) (f : Frame) (o : Outcome) → OnTop set states s f
      → Seen set states under f
      → Comes set s t top f o → AllSeen set states under o.frames
  seen t under top f o h sees (errs a lacks) = absurd (never_lacks set states s a h lacks)
  seen t under top f o h sees (awaits_lock a i lock owner at taken owned apart) = (sees, tt)
  seen t under top f o h sees (computes a i b jumped cells at work goes long) =
      (moves_seen under a i b jumped (runs set states s a i h at) goes sees, tt)
  seen t under top f o h sees (opens_loop a turns at few) = (
    same_seen under a _ refl refl
        (moved_loop set states s a turns (runs set states s a (Loop turns) h at)).arrives refl sees,
    tt,
  )
  seen t under top f o h sees (turns_loop a l at inner) =
      let same : SameRoutine a (turned a l) = turned_same a l in (
        same_seen under a (turned a l) same.0 same.1
            (moved_end set states s a (runs set states s a End h at) l inner).arrives
            (turned_registers a l) sees,
        tt,
      )
  seen t under top f o h sees (pages a i b cell cells at work goes long) =
      (moves_seen under a i b false (runs set states s a i h at) goes sees, tt)
  seen t under top f o h sees (looks_at a i b jumped r n p at work goes operand reads there jumps) =
      (moves_seen under a i b jumped (runs set states s a i h at) goes sees, tt)
  seen t under top f o h sees (touches_gone a i r n at touching on operand reads gone) = (
    next_seen under a i (runs set states s a i h at) (falls_next (flow_of i) on)
        (touching_copies i touching) sees,
    tt,
  )
  seen t under top f o h sees (writes_info a q r n p info at reads there is) =
      (next_seen under a (Put q r) (runs set states s a (Put q r) h at) refl refl sees, tt)
  seen t under top f o h sees (marks_packet a r n p at reads there) =
      (next_seen under a (Mark r) (runs set states s a (Mark r) h at) refl refl sees, tt)
  seen t under top f o h sees
      (exchanges a i b jumped r n p armer at work goes operand reads there how) =
      (moves_seen under a i b jumped (runs set states s a i h at) goes sees, tt)
  seen t under top f o h sees (works_on_waiting a i starts n p armer full at there waits) =
      (waits_seen under a i (runs set states s a i h at) waits sees, tt)
  seen t under top f o h sees (takes_lock a i lock at taken free) =
      (lock_seen under a i h at (taken_word a i lock taken) sees, tt)
  seen t under top f o h sees (retakes_lock a i lock at taken owned) =
      (lock_seen under a i h at (taken_word a i lock taken) sees, tt)
  seen t under top f o h sees (frees_lock a i lock owner at freed owned) =
      (lock_seen under a i h at (freed_word a i lock freed) sees, tt)
  seen t under top f o h sees (works_on_queues a i b queues starts actions full at queued) =
      let run : Runs set states s a i = runs set states s a i h at in
      let on : MovedOn set states s a i b queues starts =
      queue_moves set states s a i run queued in (
        goes_seen set states under a b on.moved.driver on.moved.routine
            (λ m views. queued_hold is_view handed_views (RefersTo m) set states s a i tt run queued
            views)
            (λ m news. queued_hold is_new handed_news (RefersTo m) set states s a i tt run queued
            news)
            sees,
        tt,
      )
  seen t under top f o h sees (completes_packet a r status n p at reads there) = (
    next_seen under a (Complete r status) (runs set states s a (Complete r status) h at) refl refl
        sees,
    (tt, tt),
  )
  seen t under top f o h sees (completes_gone a r status n at reads gone) = (
    next_seen under a (Complete r status) (runs set states s a (Complete r status) h at) refl refl
        sees,
    tt,
  )
  seen t under top f o h sees (passes_down a r n p lower at reads there below) =
      asks_seen under a (Pass r) lower n p h at refl refl (named s (register a r) n reads) below
      sees
  seen t under top f o h sees (calls_down a r completion n p lower at reads there below) =
      asks_seen under a (Call r completion) lower n p h at refl refl
      (named s (register a r) n reads) below sees
  seen t under top f o h sees (returns_status a form status at sort is) = tt
  seen t under top f o h sees (lets_go a at sort free) = tt
  seen t under top f o h sees (lets_walk a n at sort) = tt
  seen t under top f o h sees (resumes_walk a n p at sort there) = tt
  seen t under top f o h sees (resumes_gone a n at sort gone) = tt
  seen t under top f o h sees (resumes_none a at sort free) = tt
  seen t under top f o h sees (stops_walk a n at sort) = tt
  seen t under top f o h sees (stops_none a at sort free) = tt
  seen t under top f o h sees (ends_cancel a at sort) = tt
  seen t under top f o h sees (ends_startio a at sort) = tt
  seen t under top f o h sees (ends_dpc a at sort) = tt
  seen t under top f o h sees (walks_gone n gone) = tt
  seen t under top f o h sees (walks_to n p c there set_there lends) = (
    walk_seen set states under n,
    (
      propagate_sees set states s.issued (completes_with set c n) n
          (begins_back set states s h.good h.fits n p c h.stands there set_there lends),
      tt,
    ),
  )
  seen t under top f o h sees (lends_to n p c there set_there lends) = (
    walk_seen set states under n,
    (
      hold_sees set states s.issued (completes_with set c n) n
          (begins_lent set states s h.good h.fits n p c h.stands there set_there lends),
      tt,
    ),
  )
  seen t under top f o h sees (cancels n step made moves) =
      cancels_seen t under n step o h sees moves
  seen t under top f o h sees (walks_up n p there none more unmarked) =
      (walk_seen set states under n, tt)
  seen t under top f o h sees (carries_up n p there none more marked) =
      (walk_seen set states under n, tt)
  seen t under top f o h sees (tops_out n p there none last) = tt

-- a packet in a register that has no right to it is on its way up, or may be cancelled
pub only_view : (k : Kind) → is_packet k ≡ true → is_right k ≡ false
    → (is_view k ≡ true) ⊎ (is_exchanged k ≡ true)
only_view View is free = inl refl
only_view (QueuedKind name stage) is free = inr (not_false (is_claim stage) free)
only_view _ is free = cc

-- one that may be cancelled is live, and so is one that stands in a queue
abbrev pub ClaimsLive : States → Shared → Frame → Type 0
ClaimsLive states s (Routine a) =
    (r n : ℕ) → is_exchanged (kind_of (state_of states a) r) ≡ true → register a r ≡ Ref n
    → 1 ≤ unheld (find s.packets n)
ClaimsLive states s (Walk n) = ⊤
ClaimsLive states s (CancelFrame c) = ⊤

abbrev pub EntriesLive : Shared → Type 0
EntriesLive s =
    (d : ℕ) (q : QueueName) (n : ℕ) (entries : List ℕ) → list_of s d q ≡ Some entries
    → 1 ≤ times_in entries n
    → 1 ≤ unheld (find s.packets n)

-- the packet of the I/O manager's frame below, if it is one that didn't lend it, is live
abbrev pub UnderLives : Set → Shared → Option Frame → Frame → Type 0
UnderLives set s (Some (Walk n)) (Routine a) =
    is_hold (sort_of set a.driver a.routine) ≡ false → packet_of s n ≡ None → ⊥
UnderLives set s _ f = ⊤

module _ (set : Set) (states : States) (s : Shared) (past : List Entry) where
  module _ (a : Activation) (routine : RoutineOf)
      (is_of : routine_of set a.driver a.routine ≡ Some routine)
      (arrives : Arrives (member set a.driver a.routine routine) a.position (state_of states a))
    where
      none_views : (r : ℕ) → HasNoView (state_of states a)
          → is_view (kind_of (state_of states a) r) ≡ true → ⊥
      none_views r none view =
          let no : true ≡ false = sym view ∙ no_view_at (state_of states a).kinds r none in cc

      sort_is : (sort : Sort) → IsOfSort set a sort → routine.sort ≡ sort
      sort_is sort is = sym (sort_there set a.driver a.routine routine is_of) ∙ is

      dispatch_views : (r : ℕ) → IsOfSort set a Dispatch
          → is_view (kind_of (state_of states a) r) ≡ true → ⊥
      dispatch_views r is view =
          none_views r
          (dispatch_no_view (member set a.driver a.routine routine) a.position (state_of states a)
          (sort_is Dispatch is) arrives) view

      deferred_views : (r : ℕ) → IsDeferred set a
          → is_view (kind_of (state_of states a) r) ≡ true → ⊥
      deferred_views r is view =
          none_views r
          (deferred_no_view (member set a.driver a.routine routine) a.position (state_of states a)
          (sort_of set a.driver a.routine) (sort_is (sort_of set a.driver a.routine) refl) is
          arrives) view

      hold_views : (r : ℕ) → IsOfSort set a Hold
          → is_view (kind_of (state_of states a) r) ≡ true → ⊥
      hold_views r is view =
          none_views r
          (hold_no_view (member set a.driver a.routine routine) a.position (state_of states a)
          (sort_is Hold is) arrives) view

      refers_same : (m n : ℕ) (v : Value) → v ≡ Ref n → RefersTo m v → n ≡ m
      refers_same m n v is refers = subst (λ (x : Value). RefersTo m x) is refers

      -- a packet on its way up is that of the I/O manager's frame below
      pub view_lives : (under : Option Frame) (r n : ℕ) → Seen set states under (Routine a)
          → UnderLives set s under (Routine a) → is_view (kind_of (state_of states a) r) ≡ true
          → register a r ≡ Ref n → packet_of s n ≡ None → ⊥
      view_lives None r n seen live view refers gone =
          elim seen [
            | inl is ↦ dispatch_views r is view
            | inr is ↦ deferred_views r is view
          ]
      view_lives (Some (Routine b)) r n seen live view refers gone = dispatch_views r seen view
      view_lives (Some (Walk m)) r n seen live view refers gone =
          let same : n ≡ m =
          refers_same m n (register a r) refers (view_refers states m a seen.0 r view) in
          elim (cases_Bool (is_hold (sort_of set a.driver a.routine))) [
            | inl holds ↦
                absurd (hold_views r (hold_sort (sort_of set a.driver a.routine) holds) view)
            | inr free ↦ live free (ap (packet_of s) (sym same) ∙ gone)
          ]
      view_lives (Some (CancelFrame c)) r n seen live view refers gone = seen

  pub unheld_lives : (n : ℕ) → 1 ≤ unheld (find s.packets n) → packet_of s n ≡ None → ⊥
  unheld_lives n some gone =
      let own : (p : Packet) × (find s.packets n ≡ Some p) × (p.completing ≡ false) =
      own_if (find s.packets n) some in
      let no : None ≡ Some own.0 = sym (found s n None gone) ∙ own.1 in
      cc

  -- the packet that an instruction works on
  operand_lives : (under : Option Frame) (a : Activation) (i : Instr) (r n : ℕ) (b : Bool)
      → OnTop set states s (Routine a) → Holding set states s past (Routine a) → Executing set a i
      → Seen set states under (Routine a) → UnderLives set s under (Routine a)
      → ClaimsLive states s (Routine a) → packet_operand i ≡ Some r → Reads s a r n
      → is_right (kind_of (state_of states a) r) ≡ b → packet_of s n ≡ None → ⊥
  operand_lives under a i r n true h holding at seen live claims operand reads right gone =
      right_lives set states s past a holding (runs set states s a i h at).stays.kinds r n right
      reads gone
  operand_lives under a i r n false h holding at seen live claims operand reads right gone =
      let run : Runs set states s a i = runs set states s a i h at in
      let packet : is_packet (kind_of (state_of states a) r) ≡ true =
      packet_wanted (state_of states a) _ set a.driver i r run.obeys operand in
      let ref : (m : ℕ) × (register a r ≡ Ref m) × (packet_in s (register a r) ≡ Some m) =
      packet_ref s (kind_of (state_of states a) r) (register a r) packet
      (value_suits set states s a i r run) in
      let both : Some ref.0 ≡ Some n = sym ref.2 ∙ reads in
      let same : ref.0 ≡ n = cc in
      let refers : register a r ≡ Ref n = ref.1 ∙ ap (λ (m : ℕ). Ref m) same in
      elim (only_view (kind_of (state_of states a) r) packet right) [
        | inl view ↦
            view_lives a run.routine run.stays.is_of
            (run.known.follows.arrives a.position run.stays.within) under r n seen live view refers
            gone
        | inr claimed ↦ unheld_lives n (claims r n claimed refers) gone
      ]

  -- a packet that is there hasn't topped out
  touched_one : (actor : Actor) (n : ℕ) (p : Packet) → Tells s past → packet_of s n ≡ Some p
      → fault_of past actor (Touches n) ≡ None
  touched_one actor n p tells there =
      ap (λ (gone : Bool). bug_if gone IrqlNotLessOrEqual (PacketSubject n))
      (untopped s past n p tells (found s n (Some p) there))

  under_one : (actor : Actor) (n : ℕ) (o : Option Packet) → Tells s past → packet_of s n ≡ o
      → (packet_of s n ≡ None → ⊥) → fault_of past actor (Touches n) ≡ None
  under_one actor n None tells there lives = absurd (lives there)
  under_one actor n (Some p) tells there lives = touched_one actor n p tells there

  -- the packet that goes to a queue, or comes from one
  queued_lives : (n : ℕ) → Tells s past → 1 ≤ unheld (find s.packets n) → (actor : Actor)
      → fault_of past actor (Touches n) ≡ None
  queued_lives n tells some actor =
      let own : (p : Packet) × (find s.packets n ≡ Some p) × (p.completing ≡ false) =
      own_if (find s.packets n) some in
      ap (λ (gone : Bool). bug_if gone IrqlNotLessOrEqual (PacketSubject n))
      (untopped s past n own.0 tells own.1)

  queued_faults : (actor : Actor) (under : Option Frame) (a : Activation) (i : Instr)
      → OnTop set states s (Routine a) → Holding set states s past (Routine a)
      → Seen set states under (Routine a) → UnderLives set s under (Routine a)
      → ClaimsLive states s (Routine a) → EntriesLive s → Executing set a i
      → {b : Activation} {queues : List (List (List ℕ))} {lists : List StartState}
      {actions : List Action} {full : Bool} → Queued set s a i b queues lists actions full
      → fault_among is_touch past actor (Executes ∷ actions) ≡ None
  queued_faults actor under a i h holding seen live claims entries_live at
      (inserts r q n entries reads there) =
      first_only _ (under_one actor n (packet_of s n) holding.tells refl
      (operand_lives under a (Insert r q) r n _ h holding at seen live claims refl reads refl))
  queued_faults actor under a i h holding seen live claims entries_live at
      (removes r q label n entries there) =
      let one : times_in (n ∷ entries) n ≡ 1 + times_in entries n = rw (eq-eqb n n refl) refl in
      first_only _ (queued_lives n holding.tells
      (entries_live a.device (Declared q) n (n ∷ entries) there (omega arith)) actor)
  queued_faults actor under a i h holding seen live claims entries_live at
      (removes_none r q label there) = refl
  queued_faults actor under a i h holding seen live claims entries_live at
      (unlinks r q n entries reads there) =
      first_only _ (under_one actor n (packet_of s n) holding.tells refl
      (operand_lives under a (Unlink r q) r n _ h holding at seen live claims refl reads refl))
  queued_faults actor under a i h holding seen live claims entries_live at
      (starts_packet r n start reads there plain) =
      first_only _ (under_one actor n (packet_of s n) holding.tells refl
      (operand_lives under a (Start r) r n _ h holding at seen live claims refl reads refl))
  queued_faults actor under a i h holding seen live claims entries_live at
      (takes_out r label n start there slot) = refl
  queued_faults actor under a i h holding seen live claims entries_live at
      (takes_none r label start there slot) = refl
  queued_faults actor under a i h holding seen live claims entries_live at
      (puts_in r n start reads there) =
      first_only _ (under_one actor n (packet_of s n) holding.tells refl
      (operand_lives under a (Begin r) r n _ h holding at seen live claims refl reads refl))
  queued_faults actor under a i h holding seen live claims entries_live at
      (starts_next start there none) =
      refl
  queued_faults actor under a i h holding seen live claims entries_live at
      (starts_gone n start there first gone) =
      let its : list_of s a.device DeviceQueue ≡ Some start.device_queue = rw there refl in
      first_only _ (queued_lives n holding.tells
      (entries_live a.device DeviceQueue n start.device_queue its
      (head_counts start.device_queue n
      (first_both (has_cancel set a.driver DeviceQueue) (head_of start.device_queue) n first).1))
      actor)
  queued_faults actor under a i h holding seen live claims entries_live at
      (dequeues_packet r n start reads there) =
      first_only _ (under_one actor n (packet_of s n) holding.tells refl
      (operand_lives under a (Dequeue r) r n _ h holding at seen live claims refl reads refl))

  -- a step of IoCancelIrp touches none
  cancel_touches : (actor : Actor) (n : ℕ) (step : CancelStep) (o : Outcome)
      → Cancels set s actor.thread n step o → fault_among is_touch past actor o.actions ≡ None
  cancel_touches actor n step o (takes_cancel free) = refl
  cancel_touches actor n step o _ = refl

  -- so no step touches one that has
  pub touch_faults : (actor : Actor) (under : Option Frame) (f : Frame) (o : Outcome) → Tells s past
      → OnTop set states s f → Holding set states s past f → Seen set states under f
      → UnderLives set s under f
      → ClaimsLive states s f → EntriesLive s
      → Comes set s actor.thread under f o → fault_among is_touch past actor o.actions ≡ None
  touch_faults actor under f o tells h holding seen live claims entries_live
      (touches_gone a i r n at touching on operand reads gone) =
      absurd (operand_lives under a i r n _ h holding at seen live claims operand reads refl gone)
  touch_faults actor under f o tells h holding seen live claims entries_live
      (looks_at a i b jumped r n p at work goes operand reads there jumps) =
      first_only _ (touched_one actor n p tells there)
  touch_faults actor under f o tells h holding seen live claims entries_live
      (writes_info a q r n p info at reads there is) =
      first_only _ (touched_one actor n p tells there)
  touch_faults actor under f o tells h holding seen live claims entries_live
      (marks_packet a r n p at reads there) =
      first_only _ (touched_one actor n p tells there)
  touch_faults actor under f o tells h holding seen live claims entries_live
      (exchanges a i b jumped r n p armer at work goes operand reads there how) =
      first_only _ (touched_one actor n p tells there)
  touch_faults actor under f o tells h holding seen live claims entries_live
      (works_on_waiting a i starts n p armer full at there waits) =
      first_only _ (touched_one actor n p tells there)
  touch_faults actor under f o tells h holding seen live claims entries_live
      (resumes_walk a n p at sort there) =
      first_only _ (touched_one actor n p tells there)
  touch_faults actor under f o tells h holding seen live claims entries_live
      (resumes_gone a n at sort gone) =
      absurd (unheld_lives n (back_unheld set states s past a holding
      (runs set states s a (Ret Continue) h at) sort n (lent_refers set states n a seen.1)) gone)
  touch_faults actor under f o tells h holding seen live claims entries_live
      (lends_to n p c there set_there lends) =
      first_only _ (touched_one actor n p tells there)
  touch_faults actor under f o tells h holding seen live claims entries_live
      (cancels n step made moves) =
      cancel_touches actor n step o moves
  touch_faults actor under f o tells h holding seen live claims entries_live
      (passes_down a r n p lower at reads there below) =
      first_only _ (touched_one actor n p tells there)
  touch_faults actor under f o tells h holding seen live claims entries_live
      (calls_down a r completion n p lower at reads there below) =
      first_only _ (touched_one actor n p tells there)
  touch_faults actor under f o tells h holding seen live claims entries_live
      (lets_walk a n at sort) =
      first_only _ (under_one actor n (packet_of s n) tells refl (live (ap is_hold sort)))
  touch_faults actor under f o tells h holding seen live claims entries_live (walks_gone n gone) =
      absurd (walk_lives set states s past n holding gone)
  touch_faults actor under f o tells h holding seen live claims entries_live
      (walks_to n p c there set_there lends) =
      first_only _ (touched_one actor n p tells there)
  touch_faults actor under f o tells h holding seen live claims entries_live
      (walks_up n p there none more unmarked) =
      first_only _ (touched_one actor n p tells there)
  touch_faults actor under f o tells h holding seen live claims entries_live
      (carries_up n p there none more marked) =
      first_only _ (touched_one actor n p tells there)
  touch_faults actor under f o tells h holding seen live claims entries_live
      (tops_out n p there none last) =
      first_only _ (touched_one actor n p tells there)
  touch_faults actor under f o tells h holding seen live claims entries_live
      (works_on_queues a i b queues starts actions full at queued) =
      queued_faults actor under a i h holding seen live claims entries_live at queued
  touch_faults actor under f o tells h holding seen live claims entries_live _ = refl
