-- An event on the machine and on the run: both end with the same world and the same reply.
use Rattle.std.proofs.Common.{◌≡◌, ◌≤◌, ◌<◌, ◌+◌, ◌-◌, ℕ, suc, List, [], ◌∷◌, ◌++◌, Option, None, Some, Bool, true, false, cond, length, take, refl, ap, sym, ◌∙◌, inl, inr, arith, length-append, length-take}
use Rattle.std.specs.Prelude.{◌&&◌, ◌||◌, not, nat_lt, slice_get}
use Rattle.std.proofs.lemmas.Bool.Decides.{leb_tells}
use Rattle.model.specs.declared.limits.TheConstants.{MAX_FRAMES}
use Rattle.model.specs.declared.world.Frame.{Frame}
use Rattle.model.specs.declared.world.Frame.TheVariants.{Routine, Walk, Cancel as CancelFrame}
use Rattle.model.specs.declared.world.Irql.{Irql}
use Rattle.model.specs.declared.world.Packet.{Packet}
use Rattle.model.specs.declared.world.Thread.{Thread}
use Rattle.model.specs.declared.status.Major.{Major}
use Rattle.model.specs.declared.status.Status.{Status}
use Rattle.model.specs.declared.set.Device.{Device}
use Rattle.model.specs.declared.event.Event.{Event}
use Rattle.model.specs.declared.event.Event.TheVariants.{Issue, Cancel, Interrupt, Dpc, StartIo, Step}
use Rattle.model.specs.declared.event.Bug.{Bug}
use Rattle.model.specs.declared.event.Reply.{Reply}
use Rattle.model.specs.declared.event.Reply.TheVariants.{Stepped, Finished, Idle, Refused, Bug as BugCheckReply, Wrong}
use Rattle.model.specs.Effect.{Outcome, frame_effect, answered, top_of, told_top, told_to, kept_below}
use Rattle.model.specs.Events.{Change, finished_or, with_stack, with_thread, standing, settled, top_effect, step_thread, unchanged, issued, issue_on, irql_of, cancel_of, cancel_on, interrupted, interrupt_on, dpc_begun, dpc_on, startio_begun, startio_for, startio_from, startio_on, is_idle, can_issue, effect}
use Rattle.model.specs.Run.{Run, Answered, goes, refused, stops, unless_wrong, unless_fault, judged as run_judged, actor_on, answered_on, root_of, tags_on, thread_of, top_tag}
use Rattle.model.specs.Fault.{first_fault}
use Rattle.model.specs.Queues.{StartState, head_of}
use Rattle.model.specs.Set.{Set, dpc_of, startio_of}
use Rattle.model.specs.Trace.{Entry, recorded}
use Rattle.model.specs.World.{Shared, World, is_queued, packet_of, start_of}
use Rattle.checked_parts.specs.declared.ran.Runner.{Runner}
use Rattle.checked.specs.Step.{Ended, moved_by, runner, top_now, step_ended, step_now, ended, event_now, is_stop}
use Rattle.checked_parts.specs.Left.{Left, first_now, stays, unless_full, unless_wrong as wrong_left, left_by, fits, bounded}
use Rattle.checked_parts.proofs.Lists.{set_back}
use Rattle.checked.proofs.Stacks.{finished_more, root_more}
use Rattle.checked.proofs.Known.{known, runs}
use Rattle.checked.proofs.Effects.{Fine, is_bug, fine_frame}
use Rattle.irql_locks.specs.Owns.{OwningTells}
use Rattle.laws_runs.specs.PastTells.{PastTells}
use Rattle.laws_runs.proofs.Lists.{last_split}

-- the run answers as the machine ends
pub record Same (a : Answered) (e : Ended) : Type 0 where
  pub world : a.run.world ≡ e.world
  pub reply : a.reply ≡ e.reply
  pub stopped : a.run.stopped ≡ is_stop e.reply

-- a frame stands on the top of a thread's others, in a run that goes on
record Stands (r : Run) (t : ℕ) (thread : Thread) (below : List Frame) (f : Frame) : Type 0 where
  there : slice_get r.world.threads t ≡ Some thread
  split : thread.frames.items ≡ below ++ f ∷ []
  few : length thread.frames.items ≤ MAX_FRAMES
  on : r.stopped ≡ false

-- that a thread has finished is told in place of a step alone
goes_finished : (frames : List Frame) (reply : Reply) → is_stop reply ≡ false
    → is_stop (finished_or frames reply) ≡ false
goes_finished [] Stepped h = refl
goes_finished [] reply h = h
goes_finished (f ∷ frames) reply h = h

stops_finished : (frames : List Frame) (reply : Reply) → is_stop reply ≡ true
    → finished_or frames reply ≡ reply
stops_finished [] Stepped h = cc
stops_finished [] reply h = refl
stops_finished (f ∷ frames) reply h = refl

-- the frame below is told a status, and no frame is more or less
told_frames : (set : Set) (below : List Frame) (status : Status) (o : Option Frame)
    → top_of below ≡ o →
    length (told_top set below status o) ≡ length below
told_frames set below status None h = refl
told_frames set below status (Some (Walk n)) h = refl
told_frames set below status (Some (CancelFrame c)) h = refl
told_frames set below status (Some (Routine a)) h =
    let last : List Frame = Routine (answered set a status) ∷ [] in
    let split : below ≡ take (length below - 1) below ++ Routine a ∷ [] =
    last_split below (Routine a) h in
    let before : length below ≡ length (take (length below - 1) below) + 1 =
    ap length split ∙ length-append (take (length below - 1) below) (Routine a ∷ []) in
    length-append (take (length below - 1) below) last ∙ sym before

told_count : (set : Set) (below : List Frame) (o : Option Status)
    → length (told_to set below o) ≡ length below
told_count set below None = refl
told_count set below (Some status) = told_frames set below status (top_of below) refl

kept_few : (below : List Frame) (taken : Bool) → length (kept_below below taken) ≤ length below
kept_few below true = rw (length-take (length below - 1) below) (omega arith)
kept_few below false = omega arith

not_more : (a b : ℕ) → b ≤ a → nat_lt a b ≡ false
not_more a b few =
    elim (leb_tells (suc a) b) [
      | inl l ↦ let more : a < b =
          l.1 in absurd (omega arith)
      | inr l ↦ l.0
    ]

-- a frame of a thread is put back
stack_back : (thread : Thread) (below : List Frame) (f : Frame)
    → thread.frames.items ≡ below ++ f ∷ [] →
    with_stack thread (below ++ f ∷ []) ≡ thread
stack_back thread below f split = rw (root_more thread.root below f [], ← split) refl

abbrev with_threads : Shared → List Thread → World
with_threads s threads = record { threads = threads; shared = s }

pub put_back : (w : World) (t : ℕ) (thread : Thread) → slice_get w.threads t ≡ Some thread
    → with_thread w t w.shared thread ≡ w
put_back w t thread there = ap (with_threads w.shared) (set_back w.threads t thread there)

-- a step that goes on, or is refused
abbrev Goes : Set → Run → ℕ → List Entry → Change → Bool → Answered
Goes set r t past c over = cond {A = Answered} over (refused r) (goes set r t past c)

unless_plain : (set : Set) (r : Run) (t : ℕ) (past : List Entry) (c : Change) (reply : Reply)
    → is_stop reply ≡ false →
    unless_wrong set r t past c reply ≡ Goes set r t past c c.over
unless_plain set r t past c (Wrong place) h = cc
unless_plain set r t past c reply h = refl

compare_goes : (set : Set) (r : Run) (t : ℕ) (past : List Entry) (c : Change) (over : Bool)
    → over ≡ false → is_stop c.reply ≡ false →
    Same (Goes set r t past c over) (ended c)
compare_goes set r t past c over h plain =
    rw h (record { world = refl; reply = refl; stopped = sym plain })

-- a step of the frame on the top
module _ (set : Set) (r : Run) (t : ℕ) (past : List Entry) (thread : Thread) (below : List Frame)
    (f : Frame)
    (stands : Stands r t thread below f) where
  abbrev s : Shared
  s = r.world.shared

  -- what the machine ends with
  abbrev ends_with : Left → Ended
  ends_with left = step_ended r.world t (moved_by set thread below left)

  abbrev whole : Outcome → Left
  whole o = record {
    shared = o.shared;
    frames = o.frames;
    reply = o.reply;
    taken_below =
        o.taken_below;
    told = o.told;
  }

  plain_left : (o : Outcome) (reply : Reply) → is_stop reply ≡ false
      → wrong_left s f o reply ≡ unless_full s f o
  plain_left o (Wrong place) h = cc
  plain_left o reply h = refl

  -- nothing changes
  same_world : r.world ≡ with_thread r.world t s (with_stack thread (below ++ f ∷ []))
  same_world = rw (stack_back thread below f stands.split)
      (sym (put_back r.world t thread stands.there))

  compare_stop : (reply : Reply) → is_stop reply ≡ true
      → Same (stops r past reply) (ends_with (stays s f reply))
  compare_stop reply stop =
      record {
        world = same_world;
        reply = sym (finished_more below f [] reply);
        stopped = rw (finished_more below f [] reply) (sym stop);
      }

  compare_refusal : Same (refused r) (ends_with (stays s f Refused))
  compare_refusal =
      record {
        world = same_world;
        reply = sym (finished_more below f [] Refused);
        stopped = rw (finished_more below f [] Refused) stands.on;
      }

  -- how many frames stand after it
  stand_count : (o : Outcome)
      → length (standing set below o) ≡ length (kept_below below o.taken_below) + length o.frames
  stand_count o =
      let kept : List Frame = kept_below below o.taken_below in
      let count : length (told_to set kept o.told) ≡ length kept = told_count set kept o.told in
      length-append (told_to set kept o.told) o.frames ∙ rw count refl

  -- it goes on
  compare_few : (o : Outcome) → is_stop o.reply ≡ false → length o.frames ≤ 1 →
      Same (Goes set r t past (settled set r.world t thread below o)
      (nat_lt MAX_FRAMES (length (standing set below o))))
      (ends_with (whole o))
  compare_few o plain one =
      let count : length (standing set below o) ≡ length (kept_below below o.taken_below) + length
      o.frames = stand_count o in
      let kept : length (kept_below below o.taken_below) ≤ length below =
      kept_few below o.taken_below in
      let all : length thread.frames.items ≡ length below + 1 = ap length stands.split
      ∙ length-append below (f ∷ []) in
      let few : length thread.frames.items ≤ MAX_FRAMES = stands.few in
      let within : length (standing set below o) ≤ MAX_FRAMES = omega arith in
      compare_goes set r t past (settled set r.world t thread below o) _
      (not_more MAX_FRAMES (length (standing set below o)) within)
      (goes_finished (standing set below o) o.reply plain)

  -- it goes on, or would leave too many frames
  compare_over : (o : Outcome) (over : Bool) → is_stop o.reply ≡ false →
      Same (Goes set r t past (settled set r.world t thread below o) over)
      (ends_with (cond {A = Left} over (stays s f Refused) (whole o)))
  compare_over o true plain = compare_refusal
  compare_over o false plain =
      compare_goes set r t past (settled set r.world t thread below o) false refl
      (goes_finished (standing set below o) o.reply plain)

  compare_frames : (o : Outcome) (frames : List Frame) → o.frames ≡ frames
      → is_stop o.reply ≡ false →
      Same (Goes set r t past (settled set r.world t thread below o)
      (nat_lt MAX_FRAMES (length (standing set below o))))
      (ends_with (fits (length (kept_below below o.taken_below)) s f (whole o) frames))
  compare_frames o [] is plain = compare_few o plain (rw is (omega arith))
  compare_frames o (g ∷ []) is plain = compare_few o plain (rw is (omega arith))
  compare_frames o (g ∷ h ∷ frames) is plain =
      let count : length (standing set below o) ≡ length (kept_below below o.taken_below) + length
      (g ∷ h ∷ frames) =
      stand_count o ∙ ap (λ (xs : List Frame). length (kept_below below o.taken_below) + length xs)
      is in
      rw (ap (nat_lt MAX_FRAMES) count) (compare_over o _ plain)

  -- it would give a list too many entries, or not
  compare_full : (o : Outcome) (full : Bool) → o.full ≡ full → is_stop o.reply ≡ false →
      Same (Goes set r t past (settled set r.world t thread below o)
      (full || nat_lt MAX_FRAMES (length (standing set below o))))
      (ends_with (bounded below s f (cond {A = Left} full (stays s f Refused) (whole o))))
  compare_full o true is plain = compare_refusal
  compare_full o false is plain = compare_frames o o.frames refl plain

  -- it has no bug check
  compare_plain : (o : Outcome) (reply : Reply) → o.reply ≡ reply → is_stop reply ≡ false →
      Same (unless_wrong set r t past (settled set r.world t thread below o)
      (finished_or (standing set below o) reply))
      (ends_with (bounded below s f (wrong_left s f o reply)))
  compare_plain o reply is plain =
      rw (
        plain_left o reply plain,
        unless_plain set r t past (settled set r.world t thread below o)
            (finished_or (standing set below o) reply)
            (goes_finished (standing set below o) reply plain),
      )
      (compare_full o o.full refl (rw is plain))

  compare_reply : (o : Outcome) (reply : Reply) → o.reply ≡ reply → is_bug reply ≡ false →
      Same (unless_wrong set r t past (settled set r.world t thread below o)
      (finished_or (standing set below o) reply))
      (ends_with (bounded below s f (wrong_left s f o reply)))
  compare_reply o (Wrong place) is calm =
      rw (stops_finished (standing set below o) (Wrong place) refl)
      (compare_stop (Wrong place) refl)
  compare_reply o (BugCheckReply bug) is calm = cc
  compare_reply o reply is calm = compare_plain o reply is refl

  compare_fault : (o : Outcome) (fault : Option Bug) → is_bug o.reply ≡ false →
      Same (unless_fault set r t past (settled set r.world t thread below o) fault)
      (ends_with (bounded below s f (left_by s f o fault)))
  compare_fault o None calm = compare_reply o o.reply refl calm
  compare_fault o (Some bug) calm = compare_stop (BugCheckReply bug) refl

-- what a run knows before an event
module _ (set : Set) (r : Run) (t : ℕ) (on : r.stopped ≡ false) (tells : PastTells r)
    (owning : OwningTells) where
  compare_refused : Same (run_judged set r (actor_on r t) (unchanged r.world Refused))
      (ended (unchanged r.world Refused))
  compare_refused = compare_goes set r t r.past (unchanged r.world Refused) false refl refl

  compare_top : (thread : Thread) (o : Option Frame)
      → slice_get thread.frames.items (length thread.frames.items - 1) ≡ o →
      slice_get r.world.threads t ≡ Some thread → length thread.frames.items ≤ MAX_FRAMES →
      Same (run_judged set r (actor_on r t)
      (top_effect set r.world t thread
      (take (length thread.frames.items - 1) thread.frames.items) o))
      (step_ended r.world t
      (top_now set r.world.shared t thread
      (take (length thread.frames.items - 1) thread.frames.items) o))
  compare_top thread None e there few =
      rw (put_back r.world t thread there)
      (compare_goes set r t r.past (unchanged r.world Idle) false refl refl)
  compare_top thread (Some f) e there few =
      let below : List Frame = take (length thread.frames.items - 1) thread.frames.items in
      let o : Outcome = frame_effect set r.world.shared t (top_of below) f in
      let fine : Fine r.past (actor_on r t) r.world.shared (known r tells owning) o =
      fine_frame r.past (actor_on r t) r.world.shared (known r tells owning) set (top_of below) f in
      let stands : Stands r t thread below f =
      record { there = there; split = last_split thread.frames.items f e; few = few; on = on } in
      let who : runs (actor_on r t) ≡ runner t thread =
      ap (λ (x : Option Thread).
      runs (record { thread = t; root = root_of x; tag = top_tag (tags_on r t) })) there in
      let same : first_fault r.past (actor_on r t) o.actions ≡ first_now r.world.shared
      (runner t thread) o.actions =
      fine.0 ∙ ap (λ (x : Runner). first_now r.world.shared x o.actions) who in
      rw same
      (compare_fault set r t (recorded r.past (actor_on r t) o.actions) thread below f stands o
      (first_now r.world.shared (runner t thread) o.actions) fine.1)

  compare_step : (o : Option Thread) → slice_get r.world.threads t ≡ o →
      Same (run_judged set r (actor_on r t) (step_thread set r.world t o))
      (step_now set r.world t o)
  compare_step None there = compare_refused
  compare_step (Some thread) there =
      let few : length thread.frames.items ≤ MAX_FRAMES = rw there at (tells.few t) in
      compare_top thread (slice_get thread.frames.items (length thread.frames.items - 1)) refl there
      few

  compare_issued : (d : ℕ) (thread : Thread) (device : Device) (major : Major) (argument : ℕ)
      (b : Bool) →
      Same (run_judged set r (actor_on r t)
      (cond {A = Change} b (issued set r.world t d thread device major argument)
      (unchanged r.world Refused)))
      (ended (cond {A = Change} b (issued set r.world t d thread device major argument)
      (unchanged r.world Refused)))
  compare_issued d thread device major argument true =
      compare_goes set r t _ (issued set r.world t d thread device major argument) false refl refl
  compare_issued d thread device major argument false = compare_refused

  compare_issue : (d : ℕ) (major : Major) (argument : ℕ) (o : Option Thread)
      (device : Option Device) →
      Same (run_judged set r (actor_on r t) (issue_on set r.world t d major argument o device))
      (ended (issue_on set r.world t d major argument o device))
  compare_issue d major argument None device = compare_refused
  compare_issue d major argument (Some thread) None = compare_refused
  compare_issue d major argument (Some thread) (Some device) =
      compare_issued d thread device major argument (is_idle thread && can_issue r.world.shared)

  compare_begun : (d : ℕ) (thread : Thread) (routine : ℕ) (queued : Bool) →
      Same (run_judged set r (actor_on r t)
      (cond {A = Change} queued (dpc_begun set r.world t d thread routine)
      (unchanged r.world Idle)))
      (ended (cond {A = Change} queued (dpc_begun set r.world t d thread routine)
      (unchanged r.world Idle)))
  compare_begun d thread routine true =
      compare_goes set r t r.past (dpc_begun set r.world t d thread routine) false refl refl
  compare_begun d thread routine false =
      compare_goes set r t r.past (unchanged r.world Idle) false refl refl

  compare_free : (d : ℕ) (thread : Thread) (routine : ℕ) (busy : Bool) →
      Same (run_judged set r (actor_on r t)
      (cond {A = Change} busy (unchanged r.world Refused)
      (cond {A = Change} (is_queued r.world.shared d) (dpc_begun set r.world t d thread routine)
      (unchanged r.world Idle))))
      (ended (cond {A = Change} busy (unchanged r.world Refused)
      (cond {A = Change} (is_queued r.world.shared d) (dpc_begun set r.world t d thread routine)
      (unchanged r.world Idle))))
  compare_free d thread routine true = compare_refused
  compare_free d thread routine false =
      compare_begun d thread routine (is_queued r.world.shared d)

  compare_dpc : (d : ℕ) (o : Option Thread) (routine : Option ℕ) →
      Same (run_judged set r (actor_on r t) (dpc_on set r.world t d o routine))
      (ended (dpc_on set r.world t d o routine))
  compare_dpc d None routine = compare_refused
  compare_dpc d (Some thread) None = compare_refused
  compare_dpc d (Some thread) (Some routine) =
      compare_free d thread routine (not (is_idle thread))

-- the start of IoCancelIrp
module _ (set : Set) (r : Run) (t : ℕ) (on : r.stopped ≡ false) (tells : PastTells r)
    (owning : OwningTells) where
  compare_begins : (n : ℕ) (level : Irql) (thread : Thread) (o : Option Packet) →
      Same (run_judged set r (actor_on r t) (cancel_of r.world t n level thread o))
      (ended (cancel_of r.world t n level thread o))
  compare_begins n level thread None =
      compare_goes set r t r.past (unchanged r.world Finished) false refl refl
  compare_begins n level thread (Some p) =
      compare_goes set r t r.past (cancel_of r.world t n level thread (Some p)) false refl refl

  compare_allowed : (n : ℕ) (level : Irql) (thread : Thread) (b : Bool) →
      Same (run_judged set r (actor_on r t)
      (cond {A = Change} b (cancel_of r.world t n level thread (packet_of r.world.shared n))
      (unchanged r.world Refused)))
      (ended (cond {A = Change} b
      (cancel_of r.world t n level thread (packet_of r.world.shared n))
      (unchanged r.world Refused)))
  compare_allowed n level thread true =
      compare_begins n level thread (packet_of r.world.shared n)
  compare_allowed n level thread false = compare_refused set r t on tells owning

  compare_cancel : (n : ℕ) (level : Option Irql) (o : Option Thread) →
      Same (run_judged set r (actor_on r t) (cancel_on r.world t n level o))
      (ended (cancel_on r.world t n level o))
  compare_cancel n level None = compare_refused set r t on tells owning
  compare_cancel n None (Some thread) = compare_refused set r t on tells owning
  compare_cancel n (Some level) (Some thread) =
      compare_allowed n level thread (is_idle thread && nat_lt n r.world.shared.issued)

-- the start of a StartIo routine
module _ (set : Set) (r : Run) (t : ℕ) (on : r.stopped ≡ false) (tells : PastTells r)
    (owning : OwningTells) where
  compare_first : (d : ℕ) (thread : Thread) (routine : ℕ) (start : StartState) (n : Option ℕ) →
      Same (run_judged set r (actor_on r t) (startio_for set r.world t d thread routine start n))
      (ended (startio_for set r.world t d thread routine start n))
  compare_first d thread routine start None =
      compare_goes set r t r.past (unchanged r.world Idle) false refl refl
  compare_first d thread routine start (Some n) =
      compare_goes set r t r.past (startio_begun set r.world t d thread routine n start) false refl
      refl

  compare_from : (d : ℕ) (thread : Thread) (routine : ℕ) (o : Option StartState) →
      Same (run_judged set r (actor_on r t) (startio_from set r.world t d thread routine o))
      (ended (startio_from set r.world t d thread routine o))
  compare_from d thread routine None = compare_refused set r t on tells owning
  compare_from d thread routine (Some start) =
      compare_first d thread routine start (head_of start.start_list)

  compare_idle : (d : ℕ) (thread : Thread) (routine : ℕ) (idle : Bool) →
      Same (run_judged set r (actor_on r t)
      (cond {A = Change} idle
      (startio_from set r.world t d thread routine (start_of r.world.shared d))
      (unchanged r.world Refused)))
      (ended (cond {A = Change} idle
      (startio_from set r.world t d thread routine (start_of r.world.shared d))
      (unchanged r.world Refused)))
  compare_idle d thread routine true =
      compare_from d thread routine (start_of r.world.shared d)
  compare_idle d thread routine false = compare_refused set r t on tells owning

  compare_startio : (d : ℕ) (o : Option Thread) (routine : Option ℕ) →
      Same (run_judged set r (actor_on r t) (startio_on set r.world t d o routine))
      (ended (startio_on set r.world t d o routine))
  compare_startio d None routine = compare_refused set r t on tells owning
  compare_startio d (Some thread) None = compare_refused set r t on tells owning
  compare_startio d (Some thread) (Some routine) = compare_idle d thread routine (is_idle thread)

-- an interrupt
compare_queued : (set : Set) (r : Run) → r.stopped ≡ false → (d : ℕ) (queued : Bool) →
    Same (answered_on set r
    (cond {A = Change} queued (unchanged r.world Idle) (interrupted r.world d)) None)
    (ended (cond {A = Change} queued (unchanged r.world Idle) (interrupted r.world d)))
compare_queued set r on d true = record { world = refl; reply = refl; stopped = on }
compare_queued set r on d false = record { world = refl; reply = refl; stopped = on }

compare_interrupt : (set : Set) (r : Run) → r.stopped ≡ false → (d : ℕ) (routine : Option ℕ) →
    Same (answered_on set r (interrupt_on r.world d routine) None)
    (ended (interrupt_on r.world d routine))
compare_interrupt set r on d None = record { world = refl; reply = refl; stopped = on }
compare_interrupt set r on d (Some routine) =
    compare_queued set r on d (is_queued r.world.shared d)

-- every event
pub compare_event : (set : Set) (r : Run) (e : Event) → r.stopped ≡ false → PastTells r
    → OwningTells →
    Same (answered_on set r (effect set r.world e) (thread_of e)) (event_now set r.world e)
compare_event set r (Issue t d major argument) on tells owning =
    compare_issue set r t on tells owning d major argument (slice_get r.world.threads t)
    (slice_get set.devices d)
compare_event set r (Cancel t n level) on tells owning =
    compare_cancel set r t on tells owning n (irql_of level) (slice_get r.world.threads t)
compare_event set r (Interrupt d) on tells owning = compare_interrupt set r on d (dpc_of set d)
compare_event set r (Dpc t d) on tells owning =
    compare_dpc set r t on tells owning d (slice_get r.world.threads t) (dpc_of set d)
compare_event set r (StartIo t d) on tells owning =
    compare_startio set r t on tells owning d (slice_get r.world.threads t) (startio_of set d)
compare_event set r (Step t) on tells owning =
    compare_step set r t on tells owning (slice_get r.world.threads t) refl
