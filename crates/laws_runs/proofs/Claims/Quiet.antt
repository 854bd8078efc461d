-- Steps that leave the claims to packets as they are: the frames in place of the one that ran name
-- the same packets of queues with a cancel routine, and cancel words and queues are as before.
use Rattle.laws_runs.proofs.Common.{ap, arith, inl, inr, refl, sym, ◌-◌, ◌∙◌, cond_both, eqb_tells, list_any, Bool, List, None, Option, Some, [], false, if◌then◌else◌, nat_eq, replicate, slice_get, true, ℕ, ⊤, ◌++◌, ◌+◌, ◌∷◌, ◌≡◌, Outcome, completes_with, dispatched, set_by, turned, is_at, complete_kind, gives_back, handed, is_dropped, kind_of, Set, cancels_for, flow_of, lower_of, sort_of, Actor, Entry, Shared, asked_of, completed, current_location, left_location, mark_current, moved_up, next, packet_of, register, sent_down, shared_with, with_info, with_loops, with_packet, Abs, Kind, BlankKind, New, Own, Queued, View, Armed, Cancelling, Taken, Lock, Instr, Acquire, AcquireCancel, Call, Complete, End, Loop, Mark, Pass, Put, Ret, Return, Continue, Stop, Void, REGISTERS, QueueName, Sort, Cancel, Dispatch, Dpc, Hold, Propagate, StartIo, Activation, Frame, Routine, Walk, Packet, Value, Blank, States, named_in, stack_sum, Each, Enters, begins_back, begins_lent, begins_lower, first_state, Moved, Runs, state_of, never_lacks, moved_end, moved_loop, has_next, SendsDown, completes_one, returns_by, sends_down, OnTop, runs, first_none, Comes, awaits_lock, calls_down, cancels, carries_up, completes_gone, completes_packet, computes, ends_cancel, ends_dpc, ends_startio, errs, exchanges, frees_lock, lends_to, lets_go, lets_walk, looks_at, marks_packet, opens_loop, pages, passes_down, resumes_gone, resumes_none, resumes_walk, retakes_lock, returns_status, stops_none, stops_walk, takes_lock, tops_out, touches_gone, turns_loop, walks_gone, walks_to, walks_up, works_on_queues, works_on_waiting, writes_info, fault_among, is_touch, topped_faults, goes_device, turned_device, turned_registers, Forwarding, lock_taken, packet_operand, work_of, or_left, or_right}
use Rattle.laws_runs.proofs.Claims.Names.{KeepsNames, OfQueues, at_queues, given_names, goes_names, kinds_names, mark_names, names, next_names, queue_packets, unqueued_turn}
use Rattle.laws_runs.proofs.Claims.Sums.{FrameApart, frame_names, word_at, word_for}
use Rattle.laws_runs.proofs.Holders.Counts.{Holding, right_lives, walk_lives}
use Rattle.laws_runs.proofs.Holders.Rights.{handed_names, named_none, named_nowhere}
use Rattle.laws_runs.proofs.Past.LivePackets.{find, find_set}
use Rattle.laws_runs.proofs.Past.Packets.{found, gone_topped, named, numbered}
use Rattle.laws_runs.proofs.States.NoViews.{is_queued}
use Rattle.laws_runs.proofs.Steps.Comes.{Reads}

pub record Quiet (states : States) (s : Shared) (f : Frame) (o : Outcome) : Type 0 where
  pub names : (g : Kind → Bool) → OfQueues g → (on : ℕ → Bool) (n : ℕ)
      → stack_sum (frame_names states g on n) o.frames ≡ frame_names states g on n f
  pub apart : FrameApart states f → Each (FrameApart states) o.frames
  pub words : (n d : ℕ) (q : QueueName)
      → word_at (find o.shared.packets n) d q ≡ word_at (find s.packets n) d q
  pub queues : o.shared.queues ≡ s.queues
  pub starts : o.shared.starts ≡ s.starts

-- a packet with another cancel word, or with the one that it had
module _ (s : Shared) (n : ℕ) (p q : Packet) (there : packet_of s n ≡ Some p)
    (number : q.number ≡ p.number) where
  pub word_put : (m d : ℕ) (l : QueueName) → word_at (find (with_packet s n q).packets m) d l
      ≡ (if nat_eq n m then word_for q.armer d l else word_at (find s.packets m) d l)
  word_put m d l =
      let its : q.number ≡ n = number ∙ numbered s n p there in
      rw (find_set s.packets n p q (found s n (Some p) there) its m) (elim (eqb_tells n m) [
        | inl here ↦ rw here.0 refl
        | inr other ↦ rw other.0 refl
      ])

  pub word_kept : q.armer ≡ p.armer → (m d : ℕ) (l : QueueName)
      → word_at (find (with_packet s n q).packets m) d l ≡ word_at (find s.packets m) d l
  word_kept same m d l =
      word_put m d l ∙ (elim (eqb_tells n m) [
        | inl here ↦ rw (here.0, ← here.1, found s n (Some p) there, same) refl
        | inr other ↦ rw other.0 refl
      ])

module _ (states : States) (a b : Activation) (keeps : KeepsNames states a b) where
  pub frame_keeps : b.device ≡ a.device → (g : Kind → Bool) → OfQueues g → (on : ℕ → Bool) (n : ℕ)
      → frame_names states g on n (Routine b) ≡ frame_names states g on n (Routine a)
  frame_keeps device g queues on n =
      ap (λ (d : ℕ). if on d then names states g b n else 0) device
      ∙ ap (λ (sum : ℕ). if on a.device then sum else 0) (keeps g queues n)

  pub apart_keeps : FrameApart states (Routine a) → FrameApart states (Routine b)
  apart_keeps h q n =
      omega (
        arith,
        keeps (is_at Armed q) (at_queues Armed q) n,
        keeps (is_at Taken q) (at_queues Taken q) n,
        keeps (is_at Cancelling q) (at_queues Cancelling q) n,
        h q n,
      )

-- an activation that names none
abbrev pub NamesNone : States → Activation → Type 0
NamesNone states a = (g : Kind → Bool) → OfQueues g → (n : ℕ) → names states g a n ≡ 0

module _ (states : States) (a : Activation) (none : NamesNone states a) where
  pub frame_none : (g : Kind → Bool) → OfQueues g → (on : ℕ → Bool) (n : ℕ)
      → frame_names states g on n (Routine a) ≡ 0
  frame_none g queues on n =
      cond_both (on a.device) (names states g a n) 0 (λ (sum : ℕ). sum ≡ 0)
      (λ its. none g queues n) (λ other. refl)

  pub apart_none : FrameApart states (Routine a)
  apart_none q n =
      omega (
        arith,
        none (is_at Armed q) (at_queues Armed q) n,
        none (is_at Taken q) (at_queues Taken q) n,
        none (is_at Cancelling q) (at_queues Cancelling q) n,
      )

-- a routine begins, but for a cancel routine
abbrev pub BeginsPlain : Sort → Type 0
BeginsPlain Cancel = ⊥
BeginsPlain _ = ⊤

begun_none : (g : Kind → Bool) → OfQueues g → (sort : Sort) → BeginsPlain sort
    → (name : Option QueueName) (v : Value) (n : ℕ)
    → named_in g (first_state sort name).kinds (v ∷ replicate (REGISTERS - 1) Blank) n ≡ 0
begun_none g queues Dispatch plain name v n =
    handed_names g (queue_packets g queues) New v n ∙ named_none g New v n (queues New refl)
begun_none g queues StartIo plain name v n =
    handed_names g (queue_packets g queues) Own v n ∙ named_none g Own v n (queues Own refl)
begun_none g queues Dpc plain name v n =
    handed_names g (queue_packets g queues) BlankKind v n
    ∙ named_none g BlankKind v n (queues BlankKind refl)
begun_none g queues Propagate plain name v n =
    handed_names g (queue_packets g queues) View v n ∙ named_none g View v n (queues View refl)
begun_none g queues Hold plain name v n =
    handed_names g (queue_packets g queues) New v n ∙ named_none g New v n (queues New refl)
begun_none g queues Cancel plain name v n = absurd plain

pub begins_none : (set : Set) (states : States) (issued : ℕ) (a : Activation) (sort : Sort)
    (v : Value)
    → BeginsPlain sort → Enters set states issued a sort v → NamesNone states a
begins_none set states issued a sort v plain enters g queues n =
    let name : Option QueueName = cancels_for set a.driver a.routine in
    ap (λ (state : Abs). named_in g state.kinds a.registers n) enters.start
    ∙ ap (λ (values : List Value). named_in g (first_state sort name).kinds values n)
    enters.registers
    ∙ begun_none g queues sort plain name v n

-- a routine that returns leaves none behind
not_dropped : (back : Bool) (k : Kind) → is_dropped back k ≡ false → is_queued k ≡ false
not_dropped true (Queued name stage) h = cc
not_dropped false (Queued name stage) h = cc
not_dropped back _ h = refl

none_dropped : (g : Kind → Bool) → OfQueues g → (back : Bool) (kinds : List Kind)
    → list_any (is_dropped back) kinds ≡ false → list_any g kinds ≡ false
none_dropped g queues back [] h = refl
none_dropped g queues back (k ∷ kinds) h =
    rw (
      queues k (not_dropped back k (or_left (is_dropped back k) (list_any (is_dropped back) kinds)
          h)),
      none_dropped g queues back kinds (or_right (is_dropped back k)
          (list_any (is_dropped back) kinds) h),
    )
    refl

completed_unqueued : (k : Kind) → complete_kind k ≡ None → is_queued k ≡ false
completed_unqueued New h = refl
completed_unqueued Own h = refl
completed_unqueued _ h = cc

-- the shapes that change a claim, a word or a queue
abbrev pub is_loud : {set : Set} {s : Shared} {t : ℕ} {under : Option Frame} {f : Frame}
    {o : Outcome}
    → Comes set s t under f o → Bool
is_loud (exchanges a i b jumped r n p armer at is goes operand reads there how) = true
is_loud (frees_lock a i lock owner at frees there) = true
is_loud (works_on_queues a i b queues starts actions full at queued) = true
is_loud (works_on_waiting a i starts n p armer full at there waits) = true
is_loud (tops_out n p there none last) = true
is_loud (cancels n step made moves) = true
is_loud _ = false

module _ (set : Set) (states : States) (s : Shared) (past : List Entry) (actor : Actor) where
  -- the frame goes on, with others on it that name none
  goes_quiet : (a b : Activation) (above : List Frame) (o : Outcome) → KeepsNames states a b
      → b.device ≡ a.device → o.frames ≡ Routine b ∷ above
      → ((g : Kind → Bool) → OfQueues g → (on : ℕ → Bool) (n : ℕ)
      → stack_sum (frame_names states g on n) above ≡ 0)
      → Each (FrameApart states) above
      → ((n d : ℕ) (q : QueueName)
      → word_at (find o.shared.packets n) d q ≡ word_at (find s.packets n) d q)
      → o.shared.queues ≡ s.queues → o.shared.starts ≡ s.starts → Quiet states s (Routine a) o
  goes_quiet a b above o keeps device frames none others words queues starts =
      record {
        names = λ g of on n.
            rw frames (omega (
              arith,
              frame_keeps states a b keeps device g of on n,
              none g of on n,
            ));
        apart = λ h. rw frames (apart_keeps states a b keeps h, others);
        words = words;
        queues = queues;
        starts = starts;
      }

  pub on_quiet : (a b : Activation) (o : Outcome) → KeepsNames states a b → b.device ≡ a.device
      → o.frames ≡ Routine b ∷ []
      → ((n d : ℕ) (q : QueueName)
      → word_at (find o.shared.packets n) d q ≡ word_at (find s.packets n) d q)
      → o.shared.queues ≡ s.queues → o.shared.starts ≡ s.starts → Quiet states s (Routine a) o
  on_quiet a b o keeps device frames words queues starts =
      goes_quiet a b [] o keeps device frames (λ g of on n. refl) tt words queues starts

  -- a routine returns
  returns_quiet : (a : Activation) (form : Return) (o : Outcome) → Runs set states s a (Ret form)
      → o.frames ≡ []
      → ((n d : ℕ) (q : QueueName)
      → word_at (find o.shared.packets n) d q ≡ word_at (find s.packets n) d q)
      → o.shared.queues ≡ s.queues → o.shared.starts ≡ s.starts → Quiet states s (Routine a) o
  returns_quiet a form o h frames words queues starts =
      let back : Bool = gives_back (sort_of set a.driver a.routine) form in
      let left : list_any (is_dropped back) (state_of states a).kinds ≡ false =
      (returns_by (state_of states a) (sort_of set a.driver a.routine) set a.driver form
      h.obeys).nothing_left in
      record {
        names = λ g of on n. rw frames (sym (frame_none states a
            (λ f queues m. named_nowhere f (state_of states a).kinds a.registers m
            (none_dropped f queues back (state_of states a).kinds left)) g of on n));
        apart = λ h. rw frames tt;
        words = words;
        queues = queues;
        starts = starts;
      }

  -- the I/O manager's frame, under others that name none
  walk_quiet : (n : ℕ) (frames : List Frame) (o : Outcome) → o.frames ≡ frames
      → ((g : Kind → Bool) → OfQueues g → (on : ℕ → Bool) (m : ℕ)
      → stack_sum (frame_names states g on m) frames ≡ 0)
      → Each (FrameApart states) frames
      → ((m d : ℕ) (q : QueueName)
      → word_at (find o.shared.packets m) d q ≡ word_at (find s.packets m) d q)
      → o.shared.queues ≡ s.queues → o.shared.starts ≡ s.starts → Quiet states s (Walk n) o
  walk_quiet n frames o is none others words queues starts =
      record {
        names = λ g of on m. rw is (none g of on m);
        apart = λ h. rw is others;
        words = words;
        queues = queues;
        starts = starts;
      }

  taken_kinds : (a : Activation) (i : Instr) (lock : Lock) → lock_taken a i ≡ Some lock
      → ((handed set a.driver (state_of states a) i).kinds ≡ (state_of states a).kinds)
      × (has_next (flow_of i) ≡ true)
  taken_kinds a (Acquire l) lock is = (refl, refl)
  taken_kinds a AcquireCancel lock is = (refl, refl)
  taken_kinds a _ lock is = cc

  -- a packet is sent down
  sends_quiet : (a : Activation) (i : Instr) (r n lower : ℕ) (p q : Packet) (o : Outcome)
      → Runs set states s a i
      → work_of i ≡ Forwarding → packet_operand i ≡ Some r → has_next (flow_of i) ≡ true
      → Reads s a r n
      → packet_of s n ≡ Some p → lower_of set a.device ≡ Some lower → q.number ≡ p.number
      → q.armer ≡ p.armer → o.shared ≡ with_packet s n q
      → o.frames ≡ Routine (next a)
      ∷ Routine (dispatched set lower (slice_get set.devices lower) (asked_of (current_location p))
      n) ∷ []
      → Quiet states s (Routine a) o
  sends_quiet a i r n lower p q o h is operand on reads there below number word shared frames =
      let b : Activation =
      dispatched set lower (slice_get set.devices lower) (asked_of (current_location p)) n in
      let down : SendsDown (state_of states a) (sort_of set a.driver a.routine) set a.driver i r =
      sends_down (state_of states a) (sort_of set a.driver a.routine) set a.driver i r h.obeys is
      operand in
      let none : (g : Kind → Bool) → OfQueues g → (m : ℕ) → names states g b m ≡ 0 =
      begins_none set states s.issued b Dispatch _ tt
      (begins_lower set states h.good s.issued n (named s (register a r) n reads) a.device lower
      (asked_of (current_location p)) below) in
      goes_quiet a (next a) (Routine b ∷ []) o
      (λ g of m. next_names set states s a i h on g m
      ∙ ap (λ (state : Abs). named_in g state.kinds a.registers m) down.after
      ∙ given_names g of s.issued (state_of states a) a.registers r (kind_of (state_of states a) r)
      m
      h.stays.kinds refl)
      refl frames
      (λ g of on m. omega (arith, frame_none states b none g of on m))
      (apart_none states b none, tt)
      (λ m d l. rw shared (word_kept s n p q there number word m d l))
      (rw shared refl) (rw shared refl)

  pub quiet_step : (under : Option Frame) (f : Frame) (o : Outcome) → OnTop set states s f
      → Holding set states s past f
      → (c : Comes set s actor.thread under f o) → is_loud c ≡ false
      → fault_among is_touch past actor o.actions ≡ None → Quiet states s f o
  quiet_step under f o top holding (errs a lacks) loud quiet =
      absurd (never_lacks set states s a top lacks)
  quiet_step under f o top holding (awaits_lock a i lock owner at takes owned other) loud quiet =
      on_quiet a a o (λ g of n. refl) refl refl (λ n d q. refl) refl refl
  quiet_step under f o top holding (computes a i b jumped cells at is goes long) loud quiet =
      on_quiet a b o (goes_names set states s a i (runs set states s a i top at) b jumped
      (rw is refl) (rw is refl) goes) (goes_device a i b jumped goes) refl (λ n d q. refl) refl refl
  quiet_step under f o top holding (opens_loop a turns at room) loud quiet =
      on_quiet a (next (with_loops a
      (a.loops.items ++ record { start = a.position + 1; turns = turns } ∷ []))) o
      (λ g of n. ap (λ (state : Abs). named_in g state.kinds a.registers n)
      (moved_loop set states s a turns (runs set states s a (Loop turns) top at)).arrives)
      refl refl (λ n d q. refl) refl refl
  quiet_step under f o top holding (turns_loop a loop at there) loud quiet =
      let ends : Moved set states s.issued a (turned a loop) (state_of states a) =
      moved_end set states s a (runs set states s a End top at) loop there in
      on_quiet a (turned a loop) o
      (λ g of n. ap (λ (state : Abs). named_in g state.kinds (turned a loop).registers n)
      ends.arrives
      ∙ ap (λ (values : List Value). named_in g (state_of states a).kinds values n)
      (turned_registers a loop))
      (turned_device a loop) refl (λ n d q. refl) refl refl
  quiet_step under f o top holding (pages a i b cell cells at is goes long) loud quiet =
      on_quiet a b o (goes_names set states s a i (runs set states s a i top at) b false
      (rw is refl) (rw is refl) goes) (goes_device a i b false goes) refl (λ n d q. refl) refl refl
  quiet_step under f o top holding (touches_gone a i r n at is on operand reads gone) loud quiet =
      absurd (topped_faults past n
      (gone_topped s past n holding.tells (named s (register a r) n reads) gone) quiet)
  quiet_step under f o top holding
      (looks_at a i b jumped r n p at is goes operand reads there jumps) loud quiet =
      on_quiet a b o (goes_names set states s a i (runs set states s a i top at) b jumped
      (rw is refl) (rw is refl) goes) (goes_device a i b jumped goes) refl (λ n d q. refl) refl refl
  quiet_step under f o top holding (writes_info a q r n p info at reads there number) loud quiet =
      on_quiet a (next a) o
      (kinds_names set states s a (Put q r) (runs set states s a (Put q r) top at) refl refl)
      refl refl (word_kept s n p (with_info p info) there refl refl) refl refl
  quiet_step under f o top holding (marks_packet a r n p at reads there) loud quiet =
      let h : Runs set states s a (Mark r) = runs set states s a (Mark r) top at in
      on_quiet a (next a) o
      (λ g of m. next_names set states s a (Mark r) h refl g m
      ∙ mark_names g of s.issued (state_of states a) a.registers r (kind_of (state_of states a) r) m
      h.stays.kinds refl)
      refl refl (word_kept s n p (mark_current p) there refl refl) refl refl
  quiet_step under f o top holding
      (exchanges a i b jumped r n p armer at is goes operand reads there how) loud quiet = cc
  quiet_step under f o top holding (takes_lock a i lock at takes free) loud quiet =
      let kinds : ((handed set a.driver (state_of states a) i).kinds ≡ (state_of states a).kinds)
      × (has_next (flow_of i) ≡ true) = taken_kinds a i lock takes in
      on_quiet a (next a) o
      (kinds_names set states s a i (runs set states s a i top at) kinds.1 kinds.0) refl refl
      (λ n d q. refl) refl refl
  quiet_step under f o top holding (retakes_lock a i lock at takes its) loud quiet =
      let kinds : ((handed set a.driver (state_of states a) i).kinds ≡ (state_of states a).kinds)
      × (has_next (flow_of i) ≡ true) = taken_kinds a i lock takes in
      on_quiet a (next a) o
      (kinds_names set states s a i (runs set states s a i top at) kinds.1 kinds.0) refl refl
      (λ n d q. refl) refl refl
  quiet_step under f o top holding (frees_lock a i lock owner at frees there) loud quiet = cc
  quiet_step under f o top holding
      (works_on_queues a i b queues starts actions full at queued) loud quiet = cc
  quiet_step under f o top holding
      (works_on_waiting a i starts n p armer full at there waits) loud quiet = cc
  quiet_step under f o top holding (completes_packet a r status n p at reads there) loud quiet =
      let h : Runs set states s a (Complete r status) = runs set states s a (Complete r status) top
      at in
      let was : is_queued (kind_of (state_of states a) r) ≡ false =
      completed_unqueued (kind_of (state_of states a) r) (first_none _ _ h.obeys) in
      goes_quiet a (next a) (Walk n ∷ []) o
      (λ g of m. next_names set states s a (Complete r status) h refl g m
      ∙ unqueued_turn g s.issued (state_of states a).kinds a.registers r BlankKind m
      h.stays.kinds
      (of (kind_of (state_of states a) r) was) (of BlankKind refl))
      refl refl (λ g of on m. refl) (tt, tt)
      (word_kept s n p (completed p status) there refl refl) refl refl
  quiet_step under f o top holding (completes_gone a r status n at reads gone) loud quiet =
      let h : Runs set states s a (Complete r status) = runs set states s a (Complete r status) top
      at in
      absurd (right_lives set states s past a holding h.stays.kinds r n
      (completes_one (state_of states a) (sort_of set a.driver a.routine) set a.driver r status
      h.obeys).right reads gone)
  quiet_step under f o top holding (passes_down a r n p lower at reads there below) loud quiet =
      sends_quiet a (Pass r) r n lower p (shared_with p lower) o
      (runs set states s a (Pass r) top at) refl refl refl reads there below refl refl refl refl
  quiet_step under f o top holding (calls_down a r g n p lower at reads there below) loud quiet =
      sends_quiet a (Call r g) r n lower p (sent_down p lower (set_by a g)) o
      (runs set states s a (Call r g) top at) refl refl refl reads there below refl refl refl refl
  quiet_step under f o top holding (returns_status a form status at is told) loud quiet =
      returns_quiet a form o (runs set states s a (Ret form) top at) refl (λ n d q. refl) refl refl
  quiet_step under f o top holding (lets_go a at is walk) loud quiet =
      returns_quiet a Continue o (runs set states s a (Ret Continue) top at) refl (λ n d q. refl)
      refl refl
  quiet_step under f o top holding (lets_walk a n at is) loud quiet =
      returns_quiet a Continue o (runs set states s a (Ret Continue) top at) refl (λ n d q. refl)
      refl refl
  quiet_step under f o top holding (resumes_walk a n p at is there) loud quiet =
      returns_quiet a Continue o (runs set states s a (Ret Continue) top at) refl
      (word_kept s n p (record p { completing = true }) there refl refl) refl refl
  quiet_step under f o top holding (resumes_gone a n at is gone) loud quiet =
      returns_quiet a Continue o (runs set states s a (Ret Continue) top at) refl (λ n d q. refl)
      refl refl
  quiet_step under f o top holding (resumes_none a at is walk) loud quiet =
      returns_quiet a Continue o (runs set states s a (Ret Continue) top at) refl (λ n d q. refl)
      refl refl
  quiet_step under f o top holding (stops_walk a n at is) loud quiet =
      returns_quiet a Stop o (runs set states s a (Ret Stop) top at) refl (λ n d q. refl) refl refl
  quiet_step under f o top holding (stops_none a at is walk) loud quiet =
      returns_quiet a Stop o (runs set states s a (Ret Stop) top at) refl (λ n d q. refl) refl refl
  quiet_step under f o top holding (ends_cancel a at is) loud quiet =
      returns_quiet a Void o (runs set states s a (Ret Void) top at) refl (λ n d q. refl) refl refl
  quiet_step under f o top holding (ends_startio a at is) loud quiet =
      returns_quiet a Void o (runs set states s a (Ret Void) top at) refl (λ n d q. refl) refl refl
  quiet_step under f o top holding (ends_dpc a at is) loud quiet =
      returns_quiet a Void o (runs set states s a (Ret Void) top at) refl (λ n d q. refl) refl refl
  quiet_step under f o top holding (walks_gone n gone) loud quiet =
      absurd (walk_lives set states s past n holding gone)
  quiet_step under f o top holding (walks_to n p c there set_there free) loud quiet =
      let b : Activation = completes_with set c n in
      let none : (g : Kind → Bool) → OfQueues g → (m : ℕ) → names states g b m ≡ 0 =
      begins_none set states s.issued b Propagate _ tt
      (begins_back set states s top.good top.fits n p c top.stands there set_there free) in
      walk_quiet n (Walk n ∷ Routine b ∷ []) o refl
      (λ g of on m. omega (arith, frame_none states b none g of on m))
      (tt, (apart_none states b none, tt))
      (word_kept s n p (moved_up (left_location p)) there refl refl) refl refl
  quiet_step under f o top holding (lends_to n p c there set_there lends) loud quiet =
      let b : Activation = completes_with set c n in
      let none : (g : Kind → Bool) → OfQueues g → (m : ℕ) → names states g b m ≡ 0 =
      begins_none set states s.issued b Hold _ tt
      (begins_lent set states s top.good top.fits n p c top.stands there set_there lends) in
      walk_quiet n (Walk n ∷ Routine b ∷ []) o refl
      (λ g of on m. omega (arith, frame_none states b none g of on m))
      (tt, (apart_none states b none, tt))
      (word_kept s n p (record (moved_up (left_location p)) { completing = false }) there refl refl)
      refl refl
  quiet_step under f o top holding (walks_up n p there without deep unmarked) loud quiet =
      walk_quiet n (Walk n ∷ []) o refl (λ g of on m. refl) (tt, tt)
      (word_kept s n p (moved_up (left_location p)) there refl refl) refl refl
  quiet_step under f o top holding (carries_up n p there without deep marked) loud quiet =
      walk_quiet n (Walk n ∷ []) o refl (λ g of on m. refl) (tt, tt)
      (word_kept s n p (mark_current (moved_up (left_location p))) there refl refl) refl refl
  quiet_step under f o top holding _ loud quiet = cc
