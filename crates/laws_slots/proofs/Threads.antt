-- A step of a thread of a world of slots, and of what it means, with the shared part of a run's
-- world that can't be told from that: the thread's top frame finds what it looks for, and takes no
-- lock that its thread owns.
use Rattle.std.proofs.Common.{◌≡◌, ℕ, ◌-◌, true, false, List, [], ◌∷◌, ◌++◌, length, take, Option, None, Some, refl, sym, ◌∙◌, ap, subst, map, is_some}
use Rattle.std.specs.Prelude.{option_map, slice_get}
use Rattle.model.specs.declared.event.Lock.{Lock}
use Rattle.model.specs.declared.event.Lock.TheVariants.{SystemCancel}
use Rattle.model.specs.declared.event.Reply.{Reply}
use Rattle.model.specs.declared.event.Reply.TheVariants.{Bug as BugCheckReply, Idle, Refused}
use Rattle.model.specs.declared.instr.Instr.{Instr}
use Rattle.model.specs.declared.instr.Instr.TheVariants.{Acquire, AcquireCancel}
use Rattle.model.specs.declared.world.Activation.{Activation}
use Rattle.model.specs.declared.world.CancelStep.{CancelStep}
use Rattle.model.specs.declared.world.CancelStep.TheVariants.{Acquire as AcquireStep}
use Rattle.model.specs.declared.world.Canceller.{Canceller}
use Rattle.model.specs.declared.world.Frame.{Frame}
use Rattle.model.specs.declared.world.Frame.TheVariants.{Routine, Walk, Cancel as CancelFrame}
use Rattle.model.specs.declared.world.Thread.{Thread}
use Rattle.model.specs.Effect.{Outcome, frame_effect, routine_effect, top_of, next_disarmed}
use Rattle.model.specs.Events.{Change, finished_or, standing, step_thread, top_effect, unchanged}
use Rattle.model.specs.Sound.{OperandFits}
use Rattle.model.specs.Set.{Set, instruction_at, sort_of, has_cancel}
use Rattle.model.specs.Trace.{Entry}
use Rattle.model.specs.World.{Shared, World, completion_of, current_location, owner_of, packet_of, start_of}
use Rattle.laws_runs.proofs.Accepted.Keeps.{Keeps}
use Rattle.laws_runs.proofs.Alike.Frames.{AlikeActivation, AlikeFrame, AlikeFrames}
use Rattle.laws_runs.proofs.Alike.Lives.{touches_live}
use Rattle.laws_runs.proofs.Alike.Routines.{TouchesLive, live_of}
use Rattle.laws_runs.proofs.Alike.Stacks.{AlikeAt, AlikeThread, AlikeThreads, AlikeTops, alike_at, tops}
use Rattle.laws_runs.proofs.Lists.{all_at, last_of}
use Rattle.laws_runs.proofs.Locks.Says.{cancelling_says, frame_says, taken, top_says}
use Rattle.laws_runs.proofs.Past.Owners.{owned_held}
use Rattle.laws_runs.proofs.Runs.Events.{StepsFrame, stops_run}
use Rattle.laws_runs.proofs.Runs.Threads.{frames_there}
use Rattle.laws_runs.proofs.States.Frames.{IsGood, Runs, state_of}
use Rattle.laws_runs.proofs.States.OnTop.{OnTop, runs}
use Rattle.laws_runs.proofs.States.Standing.{on_top}
use Rattle.laws_runs.proofs.Steps.Comes.{walks_gone}
use Rattle.laws_runs.proofs.Steps.Walk.{comes}
use Rattle.laws_runs.proofs.Steps.Words.{lock_taken}
use Rattle.laws_runs.specs.ArrivingStates.{States}
use Rattle.laws_slots.specs.Rep.{CancelStands, EachThread, MeansShared, Ordered, meant_frame, meant_routine, meant_thread, named, meant_start}
use Rattle.laws_slots.specs.Slots.{SlotCancel, SlotFrame, SlotRoutine, SlotShared, SlotThread, SlotWalk, SlotWorld, slot_start}
use Rattle.laws_slots.specs.SlotStep.{frame_step, routine_step, slot_step, stays, thread_step, top_frame, top_step}
use Rattle.laws_slots.proofs.Executing.{executes}
use Rattle.laws_slots.proofs.Keys.{Found, Keyed, found_low}
use Rattle.laws_slots.proofs.Left.{Left, left_of}
use Rattle.laws_slots.proofs.Managing.{cancels_packet}
use Rattle.laws_slots.proofs.Outcomes.{GoesRight}
use Rattle.laws_slots.proofs.Stacks.{MeansChange, before_meant, each_at, each_take, settles, threads_at, top_meant}
use Rattle.laws_slots.proofs.Topping.{walks}
use Rattle.laws_slots.proofs.Words.{map_get}
use Rattle.model.specs.Queues.{StartState, head_of}
use Rattle.model.specs.declared.set.QueueName.TheVariants.{DeviceQueue}
use Rattle.laws_slots.proofs.Lists.{head_meant, start_meant}
use Rattle.laws_runs.proofs.States.StartsFit.{StartFits, head_low, start_issued}
use Rattle.laws_runs.proofs.Holders.Waits.{first_both}

-- a step that isn't wrong
right_of : (frames : List Frame) (reply : Reply) → stops_run (finished_or frames reply) ≡ false
    → stops_run reply ≡ false
right_of [] (BugCheckReply bug) h = h
right_of [] _ h = h
right_of (f ∷ frames) reply h = h

-- the lock that an instruction takes is told by the device
pub lock_same : (a b : Activation) → a.device ≡ b.device → (i : Instr)
    → lock_taken a i ≡ lock_taken b i
lock_same a b is (Acquire lock) = rw is refl
lock_same a b is AcquireCancel = refl
lock_same a b is _ = refl

top_said : (states : States) (below : List Frame) (f : Frame) (l : Lock)
    → top_says states (below ++ f ∷ []) l ≡ frame_says states f l
top_said states [] f l = refl
top_said states (g ∷ []) f l = refl
top_said states (g ∷ e ∷ below) f l = top_said states (e ∷ below) f l

-- a top frame, and the one that can't be told from it
record TopAlike (set : Set) (states : States) (s : Shared) (g : Frame) (ys : List Frame) : Type 0
  where
    below : List Frame
    frame : Frame
    frames : ys ≡ below ++ frame ∷ []
    alike : AlikeFrame set states s None g frame

top_alike : (set : Set) (states : States) (s : Shared) (xs ys : List Frame) (g : Frame)
    → AlikeFrames set states s None xs ys → top_of xs ≡ Some g → TopAlike set states s g ys
top_alike set states s [] ys g alike is = cc
top_alike set states s (x ∷ xs) [] g alike is = absurd alike
top_alike set states s (x ∷ xs) (y ∷ ys) g alike is =
    let on : AlikeTops set states s None (x ∷ xs) (y ∷ ys) =
    tops set states s None x xs y ys alike in
    let same : Some on.one ≡ Some g =
    sym (ap top_of on.left_is ∙ last_of on.left on.one) ∙ is in
    let one : on.one ≡ g = cc in
    record {
      below = on.right;
      frame = on.other;
      frames = on.right_is;
      alike = subst (λ (f : Frame). AlikeFrame set states s None f on.other) one on.top;
    }

module _ (set : Set) (states : States) (threads : ℕ) (w : World) (past : List Entry)
    (good : IsGood set states) (keeps : Keeps set states threads w past) (v : SlotWorld)
    (means : MeansShared (named v.shared) v.shared w.shared) (order : Ordered v.shared)
    (cancels : EachThread (CancelStands v.shared) v.threads)
    (alike : AlikeThreads set states w.shared (map (meant_thread (named v.shared)) v.threads)
    w.threads) (t : ℕ) where
  abbrev name : ℕ → ℕ
  name = named v.shared

  abbrev s : SlotShared
  s = v.shared

  abbrev r : Shared
  r = w.shared

  abbrev pub meant_world : World
  meant_world = record { threads = map (meant_thread name) v.threads; shared = w.shared }

  pub keyed : Keyed name s r
  keyed =
      record { means = means; order = order; rises = keeps.stands.tells.rises; names = λ k. refl }

  -- the thread's top frame in the run
  module _ (h : StepsFrame set w t) where
    says : (l : Lock) → owner_of r.locks l ≡ Some (Some t) → frame_says states h.frame l ≡ true
    says l its =
        sym (top_said states h.below h.frame l)
        ∙ ap (λ (frames : List Frame). top_says states frames l)
        (sym (frames_there w t h.thread h.found ∙ h.frames))
        ∙ sym (keeps.locks t l) ∙ owned_held r.locks past t l keeps.told.locks its

    pub walk_live : (n : ℕ) → h.frame ≡ Walk n → is_some (packet_of r n) ≡ true
    walk_live n is =
        let top : OnTop set states r (Walk n) =
        subst (λ (f : Frame). OnTop set states r f) is
        (on_top set states w past good keeps.stands t h) in
        let lives : TouchesLive set r t (top_of h.below) (Walk n) =
        subst (λ (f : Frame). TouchesLive set r t (top_of h.below) f) is
        (touches_live set states threads w past good keeps t h) in
        live_of (packet_of r n)
        (λ gone. lives n _ (walks_gone n gone) refl top.stands gone)

  -- what is known of it
  pub record Tops (g : Frame) : Type 0 where
    pub top : OnTop set states r g
    pub says : (l : Lock) → owner_of r.locks l ≡ Some (Some t) → frame_says states g l ≡ true
    pub lives : (n : ℕ) → g ≡ Walk n → is_some (packet_of r n) ≡ true

  pub tops_at : (h : StepsFrame set w t) → Tops h.frame
  tops_at h =
      record {
        top = on_top set states w past good keeps.stands t h;
        says = says h;
        lives = walk_live h;
      }

  module _ (under : Option SlotFrame) where
    abbrev below_it : Option Frame
    below_it = option_map (meant_frame name) under

    -- it takes no lock that the thread owns
    pub takes_free : (a c : Activation) → AlikeActivation set states None (meant_routine name a) c
        → Tops (Routine c) → (i : Instr)
        → instruction_at set a.driver a.routine a.position ≡ Some i → (lock : Lock)
        → lock_taken a i ≡ Some lock → owner_of r.locks lock ≡ Some (Some t) → ⊥
    takes_free a c like tops i at lock takes own =
        let there : instruction_at set c.driver c.routine c.position ≡ Some i =
        sym (ap (λ (x : Activation). instruction_at set x.driver x.routine x.position) like.is)
        ∙ at in
        let h : Runs set states r c i = runs set states r c i tops.top there in
        let device : a.device ≡ c.device = ap (λ (x : Activation). x.device) like.is in
        let free : frame_says states (Routine c) lock ≡ false =
        (taken (state_of states c) c (sort_of set c.driver c.routine) set h.stays.eight i lock
        (sym (lock_same a c device i) ∙ takes)
        (all_at OperandFits h.routine.code c.position i h.known.operands h.here) h.obeys).before in
        let no : true ≡ false = sym (tops.says lock own) ∙ free in
        cc

    -- the next packet of a device queue was issued
    next_found : (a c : Activation) → Tops (Routine c) → (start : StartState) (k : ℕ)
        → slot_start s a.device ≡ Some start → next_disarmed set a start ≡ Some k
        → Found s r k (name k)
    next_found a c tops start k there first =
        let meant : start_of r a.device ≡ Some (meant_start name start) =
        sym (start_meant name s r means a.device)
        ∙ ap (λ (o : Option StartState). option_map (meant_start name) o) there in
        let fits : StartFits r.issued (meant_start name start) =
        start_issued set r a.device (meant_start name start) meant tops.top.fits.starts in
        let both : (has_cancel set a.driver DeviceQueue ≡ true)
        × (head_of start.device_queue ≡ Some k) =
        first_both (has_cancel set a.driver DeviceQueue) (head_of start.device_queue) k first in
        found_low name s r keyed k (name k) refl
        (head_low r.issued (meant_start name start) fits (map name start.device_queue) (name k)
        fits.device_queue
        (head_meant name s r keyed a start.device_queue
        ∙ ap (λ (o : Option ℕ). option_map name o) both.1))

    routine_left : (a c : Activation) → AlikeActivation set states None (meant_routine name a) c
        → Tops (Routine c) → (o : Option Instr)
        → instruction_at set a.driver a.routine a.position ≡ o
        → GoesRight (routine_effect set r t below_it (meant_routine name a) o)
        → Left name s (routine_step set s t under a o)
        (routine_effect set r t below_it (meant_routine name a) o)
    routine_left a c like tops None at right = cc
    routine_left a c like tops (Some i) at right =
        left_of name s r keyed _ _
        (executes name s r keyed set t a under i (takes_free a c like tops i at)
        (next_found a c tops) right)

    walk_left : (k n : ℕ) → (is_some (packet_of r n) ≡ true → name k ≡ n) → Tops (Walk n)
        → Left name s (frame_step set s t under (SlotWalk k))
        (frame_effect set r t below_it (Walk (name k)))
    walk_left k n like tops =
        let is : name k ≡ n = like (tops.lives n refl) in
        let found : Found s r k (name k) =
        found_low name s r keyed k (name k) refl (rw is tops.top.stands) in
        walks name s r keyed k (name k) found set
        (completion_of (current_location found.packet)) refl

    cancel_left : (k n : ℕ) (step : CancelStep) (c : Canceller)
        → CancelStands s (SlotCancel k n step) → record { packet = n; next = step } ≡ c
        → Tops (CancelFrame c)
        → Left name s (frame_step set s t under (SlotCancel k n step))
        (frame_effect set r t below_it (meant_frame name (SlotCancel k n step)))
    cancel_left k n step c stands like tops =
        left_of name s r keyed _ _
        (cancels_packet name s r keyed set t k n step stands
        (λ first own.
        (let says : frame_says states (CancelFrame c) SystemCancel ≡ true =
        tops.says SystemCancel (ap (λ (o : Option ℕ). Some o) own) in
        let next : c.next ≡ AcquireStep =
        sym (ap (λ (x : Canceller). x.next) like) ∙ first in
        let no : frame_says states (CancelFrame c) SystemCancel ≡ false =
        ap (λ (x : CancelStep). cancelling_says x SystemCancel) next in
        let both : true ≡ false = sym says ∙ no in
        cc)))

    frame_left : (f : SlotFrame) (g : Frame) → CancelStands s f
        → AlikeFrame set states r None (meant_frame name f) g → Tops g
        → GoesRight (frame_effect set r t below_it (meant_frame name f))
        → Left name s (frame_step set s t under f)
        (frame_effect set r t below_it (meant_frame name f))
    frame_left (SlotRoutine a) (Routine c) stands like tops right =
        routine_left a c like tops (instruction_at set a.driver a.routine a.position) refl right
    frame_left (SlotWalk k) (Walk n) stands like tops right = walk_left k n like tops
    frame_left (SlotCancel k n step) (CancelFrame c) stands like tops right =
        cancel_left k n step c stands like tops
    frame_left (SlotRoutine a) (Walk n) stands like tops right = absurd like
    frame_left (SlotRoutine a) (CancelFrame c) stands like tops right = absurd like
    frame_left (SlotWalk k) (Routine a) stands like tops right = absurd like
    frame_left (SlotWalk k) (CancelFrame c) stands like tops right = absurd like
    frame_left (SlotCancel k n step) (Routine a) stands like tops right = absurd like
    frame_left (SlotCancel k n step) (Walk m) stands like tops right = absurd like

  -- a thread without frames, or with a top frame
  same_world : (reply : Reply) → MeansChange name (stays v reply) (unchanged meant_world reply)
  same_world reply =
      record {
        threads = refl;
        shared = means;
        reply = refl;
        live = λ j live. refl;
        order = order;
        cancels = cancels;
      }

  module _ (x : SlotThread) (y : Thread) (found : slice_get v.threads t ≡ Some x)
      (there : slice_get w.threads t ≡ Some y)
      (like : AlikeThread set states r (meant_thread name x) y) where
    abbrev below : List SlotFrame
    below = take (length x.frames - 1) x.frames

    abbrev meant_below : List Frame
    meant_below = map (meant_frame name) below

    pub steps_frame : (f : SlotFrame) → top_frame x.frames ≡ Some f
        → (h : StepsFrame set w t)
        × AlikeFrame set states r None (meant_frame name f) h.frame
    steps_frame f is =
        let top : TopAlike set states r (meant_frame name f) y.frames.items =
        top_alike set states r (map (meant_frame name) x.frames) y.frames.items (meant_frame name f)
        like.frames
        (top_meant name x.frames
        ∙ ap (λ (o : Option SlotFrame). option_map (meant_frame name) o) is)
        in (
          record {
            thread = y;
            below = top.below;
            frame = top.frame;
            outcome = frame_effect set r t (top_of top.below) top.frame;
            found = there;
            frames = top.frames;
            comes = comes set r t (top_of top.below) top.frame;
          },
          top.alike,
        )

    top_left : (f : SlotFrame) → top_frame x.frames ≡ Some f → (o : Option Frame)
        → option_map (meant_frame name) (top_frame below) ≡ o
        → GoesRight (frame_effect set r t o (meant_frame name f))
        → Left name s (frame_step set s t (top_frame below) f)
        (frame_effect set r t o (meant_frame name f))
    top_left f is o under right =
        let h : (h : StepsFrame set w t)
        × AlikeFrame set states r None (meant_frame name f) h.frame = steps_frame f is in
        subst (λ (p : Option Frame). GoesRight (frame_effect set r t p (meant_frame name f))
        → Left name s (frame_step set s t (top_frame below) f)
        (frame_effect set r t p (meant_frame name f))) under
        (frame_left (top_frame below) f h.0.frame
        (each_at (CancelStands s) x.frames (length x.frames - 1) f
        (threads_at (CancelStands s) v.threads t x cancels found) is) h.1 (tops_at h.0)) right

    top_means : (o : Option SlotFrame) → top_frame x.frames ≡ o
        → stops_run (top_effect set meant_world t (meant_thread name x) meant_below
        (option_map (meant_frame name) o)).reply ≡ false
        → MeansChange name (top_step set v t x below o)
        (top_effect set meant_world t (meant_thread name x) meant_below
        (option_map (meant_frame name) o))
    top_means None is right = same_world Idle
    top_means (Some f) is right =
        let effect : Outcome = frame_effect set r t (top_of meant_below) (meant_frame name f) in
        settles name set v meant_world t x refl cancels found below
        (frame_step set s t (top_frame below) f) effect
        (top_left f is (top_of meant_below) (sym (top_meant name below))
        (right_of (standing set meant_below effect) effect.reply right))
        (each_take (CancelStands s) (length x.frames - 1) x.frames
        (threads_at (CancelStands s) v.threads t x cancels found))

    thread_is : (o : Option SlotFrame) → top_frame x.frames ≡ o
        → step_thread set meant_world t (Some (meant_thread name x))
        ≡ top_effect set meant_world t (meant_thread name x) meant_below
        (option_map (meant_frame name) o)
    thread_is o is =
        ap (λ (frames : List Frame). top_effect set meant_world t (meant_thread name x) frames
        (top_of (map (meant_frame name) x.frames))) (before_meant name x.frames)
        ∙ ap (top_effect set meant_world t (meant_thread name x) meant_below)
        (top_meant name x.frames
        ∙ ap (λ (p : Option SlotFrame). option_map (meant_frame name) p) is)

    one_means : stops_run (step_thread set meant_world t (Some (meant_thread name x))).reply ≡ false
        → MeansChange name (thread_step set v t (Some x))
        (step_thread set meant_world t (Some (meant_thread name x)))
    one_means right =
        let is : step_thread set meant_world t (Some (meant_thread name x))
        ≡ top_effect set meant_world t (meant_thread name x) meant_below
        (option_map (meant_frame name) (top_frame x.frames)) =
        thread_is (top_frame x.frames) refl in
        subst (λ (c : Change). MeansChange name (thread_step set v t (Some x)) c) (sym is)
        (top_means (top_frame x.frames) refl
        (sym (ap (λ (c : Change). stops_run c.reply) is) ∙ right))

  thread_means : (o : Option SlotThread) (p : Option Thread) → slice_get v.threads t ≡ o
      → slice_get w.threads t ≡ p
      → AlikeAt set states r (option_map (meant_thread name) o) p
      → stops_run (step_thread set meant_world t (option_map (meant_thread name) o)).reply ≡ false
      → MeansChange name (thread_step set v t o)
      (step_thread set meant_world t (option_map (meant_thread name) o))
  thread_means None p found there like right = same_world Refused
  thread_means (Some x) (Some y) found there like right = one_means x y found there like right
  thread_means (Some x) None found there like right = absurd like

  pub step_means : stops_run (step_thread set meant_world t (slice_get meant_world.threads t)).reply
      ≡ false
      → MeansChange name (slot_step set v t)
      (step_thread set meant_world t (slice_get meant_world.threads t))
  step_means right =
      let is : slice_get meant_world.threads t
      ≡ option_map (meant_thread name) (slice_get v.threads t) =
      map_get (meant_thread name) v.threads t in
      subst (λ (o : Option Thread). stops_run (step_thread set meant_world t o).reply ≡ false
      → MeansChange name (slot_step set v t) (step_thread set meant_world t o)) (sym is)
      (thread_means (slice_get v.threads t) (slice_get w.threads t) refl refl
      (subst (λ (o : Option Thread). AlikeAt set states r o (slice_get w.threads t)) is
      (alike_at set states r meant_world.threads w.threads t alike))) right
