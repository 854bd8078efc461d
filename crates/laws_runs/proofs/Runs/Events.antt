-- What an event can be: nothing happens, the top frame of a thread steps, a root begins on an idle
-- one, or a DPC is queued; and what a run answers to it.
use Rattle.laws_runs.proofs.Prelude.{refl, take, ◌-◌, Bool, List, None, Option, Some, [], false, if◌then◌else◌, length, nat_eq, nat_lt, not, slice_get, true, ℕ, ⊤, ◌&&◌, ◌++◌, ◌∷◌, ◌≡◌, Outcome, frame_effect, top_of, Change, can_issue, effect, interrupt_on, interrupted, is_idle, issue_on, issued, settled, step_thread, top_effect, unchanged, first_fault, StartState, head_of, Answered, Run, actor_on, goes, refused, step, thread_of, Set, dpc_of, startio_of, Entry, recorded, World, is_queued, packet_of, start_of, Bug, Event, CancelEvent, Interrupt, Issue, StartIoEvent, Step, Place, Reply, BugCheckReply, Idle, Refused, Wrong, Device, Major, Frame, Irql, Packet, Thread}
use Rattle.std.proofs.lemmas.Bool.{eqb-true}
use Rattle.model.specs.declared.event.Event.TheVariants.{Dpc}
use Rattle.model.specs.declared.event.Reply.TheVariants.{Finished}
use Rattle.model.specs.Events.{irql_of, cancel_of, cancel_on, dpc_begun, dpc_on, startio_for, startio_from, startio_on}
use Rattle.model.specs.Run.{stops, unless_wrong, unless_fault, answered_on}
use Rattle.laws_runs.proofs.Lists.{last_split}
use Rattle.laws_runs.proofs.Runs.Roots.{Root, Beside, issues, takes_dpc, takes_first, takes_nothing, IdleThread, root_begun, request_root, dpc_root, startio_root, cancel_root}
use Rattle.laws_runs.proofs.Steps.Comes.{Comes}
use Rattle.laws_runs.proofs.Steps.Walk.{comes}

-- a reply with which a run stops
abbrev pub stops_run : Reply → Bool
stops_run (BugCheckReply bug) = true
stops_run (Wrong place) = true
stops_run _ = false

-- one that tells that nothing happened
abbrev pub says_nothing : Reply → Bool
says_nothing Finished = true
says_nothing Idle = true
says_nothing Refused = true
says_nothing _ = false

pub nothing_stops : (reply : Reply) → says_nothing reply ≡ true → stops_run reply ≡ false
nothing_stops (BugCheckReply bug) right = cc
nothing_stops (Wrong place) right = cc
nothing_stops _ right = refl

-- the top frame of a thread does a step
pub record StepsFrame (set : Set) (w : World) (t : ℕ) : Type 0 where
  pub thread : Thread
  pub below : List Frame
  pub frame : Frame
  pub outcome : Outcome
  pub found : slice_get w.threads t ≡ Some thread
  pub frames : thread.frames.items ≡ below ++ frame ∷ []
  pub comes : Comes set w.shared t (top_of below) frame outcome

-- what an event on a thread can be, with the change that it makes
pub data Happens (set : Set) (w : World) (t : ℕ) : Change → Type 0 where
  nothing : (reply : Reply) → says_nothing reply ≡ true → Happens set w t (unchanged w reply)
  steps : (h : StepsFrame set w t)
      → Happens set w t (settled set w t h.thread h.below h.outcome)
  begins : (i : IdleThread w t) (root : Root) → Beside set w.shared root
      → Happens set w t (root_begun w t i.thread root)

-- what one about no thread can be
pub data Sets (set : Set) (w : World) : Change → Type 0 where
  sets_nothing : (reply : Reply) → says_nothing reply ≡ true → Sets set w (unchanged w reply)
  queues : (d : ℕ) → Sets set w (interrupted w d)

-- an event is about a thread, or about none
pub data Concerns (set : Set) (w : World) (e : Event) : Type 0 where
  a_thread : (t : ℕ) → thread_of e ≡ Some t → Happens set w t (effect set w e)
      → Concerns set w e
  no_thread : thread_of e ≡ None → Sets set w (effect set w e) → Concerns set w e

module _ (set : Set) (w : World) (t : ℕ) where
  happens_top : (thread : Thread) (o : Option Frame) → slice_get w.threads t ≡ Some thread
      → slice_get thread.frames.items (length thread.frames.items - 1) ≡ o
      → Happens set w t
      (top_effect set w t thread (take (length thread.frames.items - 1) thread.frames.items) o)
  happens_top thread None found there = nothing Idle refl
  happens_top thread (Some f) found there =
      steps (record {
        thread = thread;
        below = take (length thread.frames.items - 1) thread.frames.items;
        frame = f;
        outcome = frame_effect set w.shared t
            (top_of (take (length thread.frames.items - 1) thread.frames.items)) f;
        found = found;
        frames = last_split thread.frames.items f there;
        comes = comes set w.shared t
            (top_of (take (length thread.frames.items - 1) thread.frames.items)) f;
      })

  pub happens_step : (o : Option Thread) → slice_get w.threads t ≡ o
      → Happens set w t (step_thread set w t o)
  happens_step None found = nothing Refused refl
  happens_step (Some thread) found =
      happens_top thread (slice_get thread.frames.items (length thread.frames.items - 1)) found refl

-- the threads are both there, and are idle both or neither
abbrev pub SameIdle : Option Thread → Option Thread → Type 0
SameIdle None None = ⊤
SameIdle (Some x) (Some y) = is_idle x ≡ is_idle y
SameIdle _ _ = ⊥

module _ (set : Set) (w : World) (others : List Thread) (t : ℕ) where
  -- another world, whose threads share what those of this one do
  abbrev v : World
  v = record { threads = others; shared = w.shared }

  -- what an event but a step can be on a thread of both: nothing, or the same root begins
  pub data Both : Change → Change → Type 0 where
    both_nothing : (reply : Reply) → says_nothing reply ≡ true
        → Both (unchanged v reply) (unchanged w reply)
    both_begin : (x : Thread) (i : IdleThread w t) (root : Root) → Beside set w.shared root
        → Both (root_begun v t x root) (root_begun w t i.thread root)

  none_of_length : (frames : List Frame) → nat_eq (length frames) 0 ≡ true → frames ≡ []
  none_of_length [] h = refl
  none_of_length (f ∷ frames) h = let no : length (f ∷ frames) ≡ 0 =
      eqb-true (length (f ∷ frames)) 0 h in cc

  module _ (x y : Thread) (found : slice_get w.threads t ≡ Some y) (same : is_idle x ≡ is_idle y)
    where
      abbrev Two : (World → Thread → Change) → Type 0
      Two c = Both (c v x) (c w y)

      begin_both : (root : Root) → is_idle y ≡ true → Beside set w.shared root
          → Two (λ u z. root_begun u t z root)
      begin_both root is beside =
          both_begin x (record {
            thread = y;
            found = found;
            idle = none_of_length y.frames.items is;
          }) root beside

      when_both : (b : Bool) (c e : World → Thread → Change) → (b ≡ true → Two c) → Two e
          → Two (λ u z. if b then c u z else e u z)
      when_both true c e first second = first refl
      when_both false c e first second = second

      idle_both : (c : World → Thread → Bool → Change) (idle : Bool) → is_idle y ≡ idle
          → Two (λ u z. c u z false) → (is_idle y ≡ true → Two (λ u z. c u z true))
          → Two (λ u z. c u z idle)
      idle_both c true is busy free = free is
      idle_both c false is busy free = busy

      when_idle : (c : World → Thread → Bool → Change) → Two (λ u z. c u z false)
          → (is_idle y ≡ true → Two (λ u z. c u z true)) → Two (λ u z. c u z (is_idle z))
      when_idle c busy free = rw same (idle_both c (is_idle y) refl busy free)

      issue_both : (d : ℕ) (major : Major) (argument : ℕ) (o : Option Device)
          → slice_get set.devices d ≡ o
          → Two (λ u z. issue_on set u t d major argument (Some z) o)
      issue_both d major argument None there = both_nothing Refused refl
      issue_both d major argument (Some device) there =
          when_idle (λ u z idle. if idle && can_issue u.shared
          then issued set u t d z device major argument else unchanged u Refused)
          (both_nothing Refused refl)
          (λ is. when_both (can_issue w.shared) (λ u z. issued set u t d z device major argument)
          (λ u z. unchanged u Refused)
          (λ room. begin_both (request_root set w.shared d device major argument) is
          (issues (record {
            d = d;
            device = device;
            major = major;
            argument = argument;
            there = there;
            room = room;
          }))) (both_nothing Refused refl))

      dpc_both : (d : ℕ) (o : Option ℕ) → dpc_of set d ≡ o
          → Two (λ u z. dpc_on set u t d (Some z) o)
      dpc_both d None there = both_nothing Refused refl
      dpc_both d (Some routine) there =
          when_idle (λ u z idle. if not idle then unchanged u Refused else
          (if is_queued u.shared d then dpc_begun set u t d z routine else unchanged u Idle))
          (both_nothing Refused refl)
          (λ is. when_both (is_queued w.shared d) (λ u z. dpc_begun set u t d z routine)
          (λ u z. unchanged u Idle)
          (λ queued. begin_both (dpc_root set w.shared d routine) is
          (takes_dpc d routine there))
          (both_nothing Idle refl))

      first_both : (d routine : ℕ) (start : StartState) (o : Option ℕ)
          → startio_of set d ≡ Some routine → start_of w.shared d ≡ Some start
          → head_of start.start_list ≡ o → is_idle y ≡ true
          → Two (λ u z. startio_for set u t d z routine start o)
      first_both d routine start None there has first is = both_nothing Idle refl
      first_both d routine start (Some n) there has first is =
          begin_both (startio_root set w.shared d routine n start) is (takes_first (record {
            d = d;
            routine = routine;
            start = start;
            n = n;
            there = there;
            has = has;
            first = first;
          }))

      start_both : (d routine : ℕ) (o : Option StartState) → startio_of set d ≡ Some routine
          → start_of w.shared d ≡ o → is_idle y ≡ true
          → Two (λ u z. startio_from set u t d z routine o)
      start_both d routine None there has is = both_nothing Refused refl
      start_both d routine (Some start) there has is =
          first_both d routine start (head_of start.start_list) there has refl is

      startio_both : (d : ℕ) (o : Option ℕ) → startio_of set d ≡ o
          → Two (λ u z. startio_on set u t d (Some z) o)
      startio_both d None there = both_nothing Refused refl
      startio_both d (Some routine) there =
          when_idle (λ u z idle. if idle then startio_from set u t d z routine (start_of u.shared d)
          else unchanged u Refused) (both_nothing Refused refl)
          (λ is. start_both d routine (start_of w.shared d) there refl is)

      live_both : (n : ℕ) (level : Irql) (o : Option Packet) → packet_of w.shared n ≡ o
          → is_idle y ≡ true → Two (λ u z. cancel_of u t n level z o)
      live_both n level None there is = both_nothing Finished refl
      live_both n level (Some p) there is =
          begin_both (cancel_root w.shared n level) is
          (takes_nothing n level p there)

      cancel_both : (n : ℕ) (level : Option Irql) → Two (λ u z. cancel_on u t n level (Some z))
      cancel_both n None = both_nothing Refused refl
      cancel_both n (Some level) =
          when_idle (λ u z idle. if idle && nat_lt n u.shared.issued
          then cancel_of u t n level z (packet_of u.shared n) else unchanged u Refused)
          (both_nothing Refused refl)
          (λ is. when_both (nat_lt n w.shared.issued)
          (λ u z. cancel_of u t n level z (packet_of w.shared n)) (λ u z. unchanged u Refused)
          (λ low. live_both n level (packet_of w.shared n) refl is) (both_nothing Refused refl))

  -- an event about a thread that is there in both or in neither
  thread_both : (c : World → Option Thread → Change) (o p : Option Thread)
      → slice_get w.threads t ≡ p → SameIdle o p → Both (c v None) (c w None)
      → ((x y : Thread) → slice_get w.threads t ≡ Some y → is_idle x ≡ is_idle y
      → Both (c v (Some x)) (c w (Some y)))
      → Both (c v o) (c w p)
  thread_both c None None found same none some = none
  thread_both c (Some x) (Some y) found same none some = some x y found same
  thread_both c _ _ found same none some = absurd same

  module _ (same : SameIdle (slice_get others t) (slice_get w.threads t)) where
    pub request_both : (d : ℕ) (major : Major) (argument : ℕ)
        → Both (effect set v (Issue t d major argument)) (effect set w (Issue t d major argument))
    request_both d major argument =
        thread_both (λ u o. issue_on set u t d major argument o (slice_get set.devices d))
        (slice_get others t) (slice_get w.threads t) refl same (both_nothing Refused refl)
        (λ x y found idle. issue_both x y found idle d major argument (slice_get set.devices d)
        refl)

    pub deferred_both : (d : ℕ) → Both (effect set v (Dpc t d)) (effect set w (Dpc t d))
    deferred_both d =
        thread_both (λ u o. dpc_on set u t d o (dpc_of set d)) (slice_get others t)
        (slice_get w.threads t) refl same (both_nothing Refused refl)
        (λ x y found idle. dpc_both x y found idle d (dpc_of set d) refl)

    pub started_both : (d : ℕ)
        → Both (effect set v (StartIoEvent t d)) (effect set w (StartIoEvent t d))
    started_both d =
        thread_both (λ u o. startio_on set u t d o (startio_of set d)) (slice_get others t)
        (slice_get w.threads t) refl same (both_nothing Refused refl)
        (λ x y found idle. startio_both x y found idle d (startio_of set d) refl)

    pub cancelled_both : (n level : ℕ)
        → Both (effect set v (CancelEvent t n level)) (effect set w (CancelEvent t n level))
    cancelled_both n level =
        thread_both (λ u o. cancel_on u t n (irql_of level) o) (slice_get others t)
        (slice_get w.threads t) refl same (both_nothing Refused refl)
        (λ x y found idle. cancel_both x y found idle n (irql_of level))

sets_if : (set : Set) (w : World) (d : ℕ) (queued : Bool)
    → Sets set w (if queued then unchanged w Idle else interrupted w d)
sets_if set w d true = sets_nothing Idle refl
sets_if set w d false = queues d

sets_interrupt : (set : Set) (w : World) (d : ℕ) (routine : Option ℕ)
    → Sets set w (interrupt_on w d routine)
sets_interrupt set w d None = sets_nothing Refused refl
sets_interrupt set w d (Some routine) = sets_if set w d (is_queued w.shared d)

module _ (set : Set) (w : World) where
  happens_one : (t : ℕ) (c d : Change) → Both set w w.threads t c d → Happens set w t d
  happens_one t c d (both_nothing reply right) = nothing reply right
  happens_one t c d (both_begin x i root beside) = begins i root beside

  itself_idle : (o : Option Thread) → SameIdle o o
  itself_idle None = tt
  itself_idle (Some x) = refl

  alone : (t : ℕ) → SameIdle (slice_get w.threads t) (slice_get w.threads t)
  alone t = itself_idle (slice_get w.threads t)

  pub concerns : (e : Event) → Concerns set w e
  concerns (Issue t d major argument) =
      a_thread t refl
      (happens_one t _ _ (request_both set w w.threads t (alone t) d major argument))
  concerns (CancelEvent t n level) =
      a_thread t refl (happens_one t _ _ (cancelled_both set w w.threads t (alone t) n level))
  concerns (Interrupt d) = no_thread refl (sets_interrupt set w d (dpc_of set d))
  concerns (Dpc t d) =
      a_thread t refl (happens_one t _ _ (deferred_both set w w.threads t (alone t) d))
  concerns (StartIoEvent t d) =
      a_thread t refl (happens_one t _ _ (started_both set w w.threads t (alone t) d))
  concerns (Step t) = a_thread t refl (happens_step set w t (slice_get w.threads t) refl)

-- what a run does with a change that an event would make on a thread
abbrev pub past_with : Run → ℕ → Change → List Entry
past_with r t c = recorded r.past (actor_on r t) c.actions

abbrev pub fault_with : Run → ℕ → Change → Option Bug
fault_with r t c = first_fault r.past (actor_on r t) c.actions

-- it refuses it, it goes on, or a bug check or a wrong operand stops it
pub data Answers (set : Set) (r : Run) (t : ℕ) (c : Change) : Answered → Type 0 where
  refuses_stopped : r.stopped ≡ true → Answers set r t c (refused r)
  refuses_over : r.stopped ≡ false → fault_with r t c ≡ None → c.over ≡ true
      → Answers set r t c (refused r)
  goes_on_with : r.stopped ≡ false → fault_with r t c ≡ None → c.over ≡ false
      → Answers set r t c (goes set r t (past_with r t c) c)
  stops_for : (bug : Bug) → r.stopped ≡ false → fault_with r t c ≡ Some bug
      → Answers set r t c (stops r (past_with r t c) (BugCheckReply bug))
  stops_wrong : (place : Place) → r.stopped ≡ false → c.reply ≡ Wrong place
      → Answers set r t c (stops r (past_with r t c) (Wrong place))

module _ (set : Set) (r : Run) (t : ℕ) (c : Change) where
  answers_if : (over : Bool) → r.stopped ≡ false → fault_with r t c ≡ None → c.over ≡ over
      → Answers set r t c (if over then refused r else goes set r t (past_with r t c) c)
  answers_if true on quiet over = refuses_over on quiet over
  answers_if false on quiet over = goes_on_with on quiet over

  answers_wrong : (reply : Reply) → r.stopped ≡ false → fault_with r t c ≡ None → c.reply ≡ reply
      → Answers set r t c (unless_wrong set r t (past_with r t c) c reply)
  answers_wrong (Wrong place) on quiet h = stops_wrong place on h
  answers_wrong _ on quiet h = answers_if c.over on quiet refl

  answers_fault : (o : Option Bug) → r.stopped ≡ false → fault_with r t c ≡ o
      → Answers set r t c (unless_fault set r t (past_with r t c) c o)
  answers_fault (Some bug) on fault = stops_for bug on fault
  answers_fault None on quiet = answers_wrong c.reply on quiet refl

  answers_unless : (o : Option ℕ) (stopped : Bool) → o ≡ Some t → r.stopped ≡ stopped
      → Answers set r t c (if stopped then refused r else answered_on set r c o)
  answers_unless o true on_it on = refuses_stopped on
  answers_unless o false on_it on = rw on_it (answers_fault (fault_with r t c) on refl)

pub answers : (set : Set) (r : Run) (t : ℕ) (e : Event) → thread_of e ≡ Some t
    → Answers set r t (effect set r.world e) (step set r e)
answers set r t e is = answers_unless set r t (effect set r.world e) (thread_of e) r.stopped is refl

-- an event about no thread goes on in its world
abbrev pub set_in : Run → Change → Answered
set_in r c = record { run = record r { world = c.world }; reply = c.reply }

pub answers_none : (set : Set) (r : Run) (e : Event) → thread_of e ≡ None
    → step set r e ≡ (if r.stopped then refused r else set_in r (effect set r.world e))
answers_none set r e is = rw is refl
