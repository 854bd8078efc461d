-- Each entry of the trace says who acts, or which use its action is about; and each frame's tag
-- says whose it is.
use Rattle.laws_runs.proofs.Common.{ap, arith, drop, inl, inr, refl, subst, sym, zero, ◌∙◌, eq-eqb, ltb-true, All, List, None, Option, Some, [], false, if◌then◌else◌, length, nat_eq, nat_lt, slice_get, slice_index_or, suc, true, ℕ, ◌<◌, ◌∷◌, ◌≡◌, ◌≤◌, Outcome, top_of, Change, is_completion, top_tag, Set, sort_of, Activated, Actor, Entry, Managing, Serving, Tag, current_use, recorded, uses, World, packet_of, Dispatch, Activation, CancelStep, Frame, CancelFrame, Routine, Walk, Packet, States, Each, IsCompleting, is_deferred, Stacked, Stands, last_under, Cancels, Comes, awaits_cancel, awaits_lock, calls_down, cancels, carries_up, computes, ends_cancel, ends_dpc, ends_startio, errs, exchanges, finds_empty, finds_none, lends_to, lets_go, marks_packet, opens_loop, resumes_gone, resumes_none, resumes_walk, returns_status, sets_flag, stops_none, stops_walk, tops_out, turns_loop, walks_gone, walks_to, walks_up, works_on_queues, works_on_waiting, queued_touches}
use Rattle.laws_runs.specs.NothingSkipped.{HasLocation, HasUses, IsActivation, RoutineTag, SaysWho, ServesUse}
use Rattle.laws_runs.proofs.Past.Packets.{found}
use Rattle.laws_runs.proofs.Pending.Events.{Attends}
use Rattle.laws_runs.proofs.Pending.Serving.{AllServe, FrameServes, MustServe, TagNames, UnderServes, first_served, served}
use Rattle.laws_runs.proofs.Pending.Threads.{TagOf, Tagged, TopServes, tagged_all, top_serves}
use Rattle.laws_runs.proofs.Runs.Events.{Happens, nothing, steps, begins}
use Rattle.laws_runs.proofs.Runs.Roots.{root_told}
use Rattle.laws_runs.proofs.Runs.Threads.{of_steps}
use Rattle.laws_runs.proofs.Uses.Events.{KnownWorld, known_top}
use Rattle.laws_runs.proofs.Uses.Fates.{PacketUses, UsesTell}
use Rattle.laws_runs.proofs.Uses.RoutineSteps.{OnWalk}
use Rattle.laws_runs.proofs.Uses.TopFrames.{FrameOn}
use Rattle.laws_runs.proofs.Certificates.Kept.{top_is}

abbrev pub EntriesSay : List Entry → Type 0
EntriesSay past = Each (λ (e : Entry). SaysWho e.action e) past

pub all_say : (past : List Entry) → EntriesSay past → All (λ (e : Entry). SaysWho e.action e) past
all_say [] h k d within = absurd (omega arith)
all_say (e ∷ past) h zero d within = h.0
all_say (e ∷ past) h (suc k) d within = all_say past h.1 k d (omega arith)

-- tags
names_activation : (driver routine : ℕ) (tag : Tag) → TagNames driver routine tag → IsActivation tag
names_activation driver routine Managing h = h
names_activation driver routine (Activated g d r v) h = tt

must_serve : (set : Set) (states : States) (w : World) (past : List Entry) (a : Activation)
    (over : Option Serving)
    (tag : Tag) → MustServe set states w past a over (served tag) → ServesUse tag
must_serve set states w past a over Managing h = h
must_serve set states w past a over (Activated g d r None) h = absurd h
must_serve set states w past a over (Activated g d r (Some v)) h = tt

dispatch_serves_use : (set : Set) (states : States) (w : World) (past : List Entry)
    (under : Option Frame)
    (a : Activation) (over : Option Serving) (tag : Tag) → OnWalk set under a
    → UnderServes set states w past under a over (served tag)
    → sort_of set a.driver a.routine ≡ Dispatch
    → ServesUse tag
dispatch_serves_use set states w past None a over tag on h is =
    elim h [
      | inl must ↦ must_serve set states w past a over tag must
      | inr deferred ↦ let no : true ≡ false = sym deferred ∙ ap is_deferred is in cc
    ]
dispatch_serves_use set states w past (Some (Routine b)) a over tag on h is =
    must_serve set states w past a over tag h
dispatch_serves_use set states w past (Some (Walk m)) a over tag on h is =
    let no : true ≡ false = sym on ∙ ap is_completion is in cc
dispatch_serves_use set states w past (Some (CancelFrame c)) a over tag on h is = absurd h

-- uses of a live packet
first_there : (used : List ℕ) → 1 ≤ length used → HasLocation (slice_get used 0)
first_there [] some = absurd (omega arith)
first_there (u ∷ upper) some = tt

second_there : (used : List ℕ) → 1 < length used → HasLocation (slice_get (drop 1 used) 0)
second_there (u ∷ v ∷ upper) some = tt
second_there _ some = absurd (omega arith)

module _ (set : Set) (states : States) (w : World) (past : List Entry) (actor : Actor)
    (told : UsesTell w past) where
  used_there : (n : ℕ) (p : Packet) → packet_of w.shared n ≡ Some p
      → HasLocation (current_use past n)
  used_there n p there =
      let used : PacketUses past n p = told.live n p (found w.shared n (Some p) there) in
      let deep : length (uses past n) ≡ p.depth = used.deep in
      let some : 1 ≤ p.depth = used.some in
      first_there (uses past n) (omega arith)

  above_there : (n : ℕ) (p : Packet) → packet_of w.shared n ≡ Some p → nat_lt 1 p.depth ≡ true
      → HasLocation (slice_get (if nat_eq n n then drop 1 (uses past n) else uses past n) 0)
  above_there n p there deep =
      let used : PacketUses past n p = told.live n p (found w.shared n (Some p) there) in
      let count : length (uses past n) ≡ p.depth = used.deep in
      let more : 1 < p.depth = ltb-true 1 p.depth deep in
      rw (eq-eqb n n refl) (second_there (uses past n) (omega arith))

  -- a routine's step
  routine_says : (under below : Option Frame) (a : Activation) (o : Outcome) → OnWalk set under a
      → FrameServes set states w past under None (Routine a) actor.tag
      → Comes set w.shared actor.thread below (Routine a) o
      → EntriesSay past → EntriesSay (recorded past actor o.actions)
  routine_says under below a o on serves (errs b lacks) h = (tt, h)
  routine_says under below a o on serves (awaits_lock b i lock owner at taken owned other) h = h
  routine_says under below a o on serves (computes b i c jumped cells at work goes long) h =
      (names_activation a.driver a.routine actor.tag serves.0, h)
  routine_says under below a o on serves (opens_loop b turns at room) h =
      (names_activation a.driver a.routine actor.tag serves.0, h)
  routine_says under below a o on serves (turns_loop b l at there) h =
      (names_activation a.driver a.routine actor.tag serves.0, h)
  routine_says under below a o on serves (marks_packet b r n p at reads there) h =
      (used_there n p there, (tt, (names_activation a.driver a.routine actor.tag serves.0, h)))
  routine_says under below a o on serves (calls_down b r f n p lower at reads there under_it) h =
      (tt, (tt, (names_activation a.driver a.routine actor.tag serves.0, h)))
  routine_says under below a o on serves (returns_status b form status at sort there) h = (
    dispatch_serves_use set states w past under a None actor.tag on serves.1 sort,
    (names_activation a.driver a.routine actor.tag serves.0, h),
  )
  routine_says under below a o on serves
      (works_on_queues b i c queues starts actions full at queued) h =
      elim (queued_touches queued) [
        | inl none ↦ rw none (names_activation a.driver a.routine actor.tag serves.0, h)
        | inr one ↦ rw one.1 (tt, (names_activation a.driver a.routine actor.tag serves.0, h))
      ]
  routine_says under below a o on serves (ends_startio b at sort) h =
      (names_activation a.driver a.routine actor.tag serves.0, h)
  routine_says under below a o on serves (ends_dpc b at sort) h =
      (names_activation a.driver a.routine actor.tag serves.0, h)
  routine_says under below a o on serves (ends_cancel b at sort) h =
      (names_activation a.driver a.routine actor.tag serves.0, h)
  routine_says under below a o on serves (lets_go b at sort bare) h =
      (names_activation a.driver a.routine actor.tag serves.0, h)
  routine_says under below a o on serves (resumes_none b at sort bare) h =
      (names_activation a.driver a.routine actor.tag serves.0, h)
  routine_says under below a o on serves (stops_walk b n at sort) h =
      (names_activation a.driver a.routine actor.tag serves.0, h)
  routine_says under below a o on serves (stops_none b at sort bare) h =
      (names_activation a.driver a.routine actor.tag serves.0, h)
  routine_says under below a o on serves
      (exchanges b i c jumped r n p armer at work goes operand reads there how) h =
      (tt, (tt, (names_activation a.driver a.routine actor.tag serves.0, h)))
  routine_says under below a o on serves
      (works_on_waiting b i starts n p armer full at there waits) h =
      (tt, (tt, (names_activation a.driver a.routine actor.tag serves.0, h)))
  routine_says under below a o on serves (resumes_walk b n p at sort there) h =
      (tt, (tt, (names_activation a.driver a.routine actor.tag serves.0, h)))
  routine_says under below a o on serves (resumes_gone b n at sort gone) h =
      (tt, (tt, (names_activation a.driver a.routine actor.tag serves.0, h)))
  routine_says under below a o on serves _ h =
      (tt, (names_activation a.driver a.routine actor.tag serves.0, h))

  -- the I/O manager's
  walk_says : (below : Option Frame) (n : ℕ) (o : Outcome)
      → Comes set w.shared actor.thread below (Walk n) o
      → EntriesSay past → EntriesSay (recorded past actor o.actions)
  walk_says below n o (walks_gone m gone) h = (tt, h)
  walk_says below n o (walks_to m p c there routed lends) h = (tt, (used_there n p there, (tt, h)))
  walk_says below n o (lends_to m p c there routed lends) h =
      (tt, (tt, (used_there n p there, (tt, h))))
  walk_says below n o (walks_up m p there unrouted deep unmarked) h =
      (tt, (used_there n p there, (tt, h)))
  walk_says below n o (carries_up m p there unrouted deep marked) h =
      (above_there n p there deep, (tt, (used_there n p there, (tt, h))))
  walk_says below n o (tops_out m p there unrouted last) h = (tt, (used_there n p there, (tt, h)))

  -- IoCancelIrp's
  cancel_says : (n : ℕ) (step : CancelStep) (o : Outcome)
      → Cancels set w.shared actor.thread n step o
      → EntriesSay past → EntriesSay (recorded past actor o.actions)
  cancel_says n step o (awaits_cancel owner owned other) h = h
  cancel_says n step o (sets_flag p there) h = h
  cancel_says n step o (finds_empty p there none) h = (tt, (tt, h))
  cancel_says n step o (finds_none p armer there is none) h = (tt, (tt, h))
  cancel_says n step o _ h = (tt, h)

  frame_says : (under below : Option Frame) (f : Frame) (o : Outcome) → FrameOn set under f
      → FrameServes set states w past under None f actor.tag
      → Comes set w.shared actor.thread below f o
      → EntriesSay past → EntriesSay (recorded past actor o.actions)
  frame_says under below (Routine a) o on serves comes h =
      routine_says under below a o on serves comes h
  frame_says under below (Walk n) o on serves comes h = walk_says below n o comes h
  frame_says under below (CancelFrame c) o on serves (cancels n step made moves) h =
      cancel_says n step made moves h

  -- an event's
  pub entries_event : (tags : List (List Tag)) (c : Change) → KnownWorld set states w past
      → Attends set states w past tags → Happens set w actor.thread c
      → actor.tag ≡ top_tag (slice_index_or tags actor.thread []) → EntriesSay past
      → EntriesSay (recorded past actor c.actions)
  entries_event tags c known attends (nothing reply right) acts h = h
  entries_event tags c known attends (begins i root beside) acts h =
      root_told set w.shared (λ actions. EntriesSay (recorded past actor actions)) h
      (λ n stack. (tt, h)) root beside
  entries_event tags c known attends (steps i) acts h =
      let row : List Tag = slice_index_or tags actor.thread [] in
      let top : TopServes set states w past None i.below i.frame row =
      top_serves set states w past None i.below i.frame row
      (of_steps w actor.thread (λ all. AllServe set states w past None all row) i
      (attends.serves_all actor.thread)) in
      let under : Option Frame = last_under None i.below in
      frame_says under (top_of i.below) i.frame i.outcome
      (known_top set states w past known actor.thread i).on
      (subst (λ (tag : Tag). FrameServes set states w past under None i.frame tag)
      (sym (acts ∙ top_is row top.tags top.tag top.is)) top.top) i.comes h

-- standing frames
module _ (set : Set) (states : States) (w : World) (past : List Entry) where
  pub as_many : (under : Option Frame) (frames : List Frame) (tags : List Tag)
      → AllServe set states w past under frames tags → length tags ≡ length frames
  as_many under [] [] h = refl
  as_many under (f ∷ frames) (tag ∷ tags) h =
      omega (arith, as_many (Some f) frames tags h.1)
  as_many under _ _ h = absurd h

  tag_of : (a : Activation) (tag : Tag) (tags : List Tag) → TagNames a.driver a.routine tag
      → (sort_of set a.driver a.routine ≡ Dispatch → ServesUse tag)
      → RoutineTag set (tag ∷ tags) 0 a
  tag_of a Managing tags names serves = absurd names
  tag_of a (Activated g driver routine serving) tags names serves =
      record { number = g; serving = serving; there = rw (names.0, names.1) refl; serves = serves }

  pub routine_tag : (issued : ℕ) (under : Option Frame) (frames : List Frame) (tags : List Tag)
      (k : ℕ)
      (a : Activation) → AllServe set states w past under frames tags
      → Stacked set states issued frames
      → ((b : Activation) → slice_get frames 0 ≡ Some (Routine b) → OnWalk set under b)
      → slice_get frames k ≡ Some (Routine a) → RoutineTag set tags k a
  routine_tag issued under [] tags k a h stacked on there = cc
  routine_tag issued under (f ∷ frames) [] k a h stacked on there = absurd h
  routine_tag issued under (f ∷ frames) (tag ∷ tags) zero a h stacked on there =
      let is : f ≡ Routine a = cc in
      let serves : FrameServes set states w past under (first_served tags) (Routine a) tag =
      subst (λ (g : Frame). FrameServes set states w past under (first_served tags) g tag) is h.0 in
      tag_of a tag tags serves.0
      (λ sort. dispatch_serves_use set states w past under a (first_served tags) tag
      (on a (ap (λ (g : Frame). Some g) is)) serves.1 sort)
  routine_tag issued under (f ∷ []) (tag ∷ tags) (suc k) a h stacked on there = cc
  routine_tag issued under (f ∷ g ∷ frames) (tag ∷ tags) (suc k) a h stacked on there =
      let later : RoutineTag set tags k a =
      routine_tag issued (Some f) (g ∷ frames) tags k a h.1 stacked.1 (on_next f g stacked.0) there
      in
      record {
        number = later.number;
        serving = later.serving;
        there = later.there;
        serves = later.serves;
      }
    where
      on_next : (f g : Frame) → Stands set states issued (Some g) f → (b : Activation)
          → Some g ≡ Some (Routine b)
          → OnWalk set (Some f) b
      on_next (Routine c) g stands b is = tt
      on_next (Walk n) (Routine c) stands b is =
          let same : c ≡ b =
          cc in subst (λ (x : Activation). IsCompleting set x) same
          stands.0
      on_next (Walk n) _ stands b is = cc
      on_next (CancelFrame c) g stands b is = tt

  -- a frame that isn't a routine's
  pub manager_tag : (under : Option Frame) (frames : List Frame) (tags : List Tag) (k : ℕ)
      (g : Frame)
      → ((tag : Tag) → TagOf g tag → tag ≡ Managing)
      → AllServe set states w past under frames tags → slice_get frames k ≡ Some g
      → slice_get tags k ≡ Some Managing
  manager_tag under frames tags k g manages h there =
      tag_there frames tags k g manages (tagged_all set states w past under frames tags h) there
    where
      tag_there : (frames : List Frame) (tags : List Tag) (k : ℕ) (g : Frame)
          → ((tag : Tag) → TagOf g tag → tag ≡ Managing)
          → Tagged frames tags → slice_get frames k ≡ Some g → slice_get tags k ≡ Some Managing
      tag_there [] tags k g manages h there = cc
      tag_there (f ∷ frames) [] k g manages h there = absurd h
      tag_there (f ∷ frames) (tag ∷ tags) zero g manages h there =
          let is : f ≡ g = cc in
          ap (λ (x : Tag). Some x) (manages tag (subst (λ (x : Frame). TagOf x tag) is h.0))
      tag_there (f ∷ frames) (tag ∷ tags) (suc k) g manages h there =
          tag_there frames tags k g manages h.1 there

-- a live packet has as many uses as it is deep
pub has_uses : (w : World) (past : List Entry) → UsesTell w past → (n : ℕ) (p : Packet)
    → packet_of w.shared n ≡ Some p → HasUses past n p
has_uses w past told n p there =
    let used : PacketUses past n p = told.live n p (found w.shared n (Some p) there) in
    record { count = used.deep; some = used.some }
