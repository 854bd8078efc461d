-- What an event does to each packet and its uses; so it keeps what live packets and the trace tell
-- of each other, what was agreed on for a use, and that a use waits for the one below it.
use Rattle.laws_runs.proofs.Common.{ap, arith, inl, inr, refl, subst, sym, ◌-◌, ◌∙◌, eqb_tells, Bool, List, None, Option, Some, [], nat_lt, slice_get, slice_set, ℕ, ◌++◌, ◌+◌, ◌∷◌, ◌≡◌, Outcome, answered, answered_in, operand_of, top_of, Change, standing, with_stack, first_fault, frames_on, Set, instruction_at, member, sort_of, Actor, Entry, Managing, Serving, recorded, uses, World, new_packet, Stop, Status, Success, Activation, Canceller, Frame, CancelFrame, Routine, Walk, Passive, Packet, Thread, States, Each, sort_there, IsGood, Ready, state_of, IsKnown, Stacked, Stands, Standing, on_top, stands_there, last_under, StopsBelow, stood, Comes, cancels}
use Rattle.laws_runs.proofs.Holders.Lent.{hold_sort}
use Rattle.laws_runs.proofs.Holders.Runs.{top_holding}
use Rattle.laws_runs.proofs.Holders.Sums.{Held}
use Rattle.laws_runs.proofs.Past.LivePackets.{find, find_above, find_push}
use Rattle.laws_runs.proofs.Runs.Events.{Happens, StepsFrame, nothing, steps, begins}
use Rattle.laws_runs.proofs.Runs.Roots.{Root, Beside, IdleThread, issues, root_begun, with_root}
use Rattle.laws_runs.proofs.Runs.Threads.{of_steps, frames_there}
use Rattle.laws_runs.proofs.Live.Sees.{AllSeen, seen_top}
use Rattle.laws_runs.proofs.Uses.AgreedStays.{AgreedIn, agreed_turns}
use Rattle.laws_runs.proofs.Uses.Becomes.{Turns, comes_in, uses_turns}
use Rattle.laws_runs.proofs.Uses.Fates.{Agreed, Linked, UsesTell, fate_in, late_in, late_marks, late_on}
use Rattle.laws_runs.proofs.Uses.LateMarks.{AllCarried, Carried, late_replaced, late_set, late_stopped, late_top, no_late_free, no_late_walk}
use Rattle.laws_runs.proofs.Uses.LinkedStays.{LinkedIn, linked_turns}
use Rattle.laws_runs.proofs.Uses.Steps.{UseStep, apart_becomes, late_of, turn_recorded}
use Rattle.laws_runs.proofs.Uses.RoutineSteps.{OnWalk, none_on, routine_used}
use Rattle.laws_runs.proofs.Uses.CancelSteps.{cancel_used}
use Rattle.laws_runs.proofs.Uses.HoldRoutines.{hold_settled}
use Rattle.laws_runs.proofs.Uses.WalkSteps.{walk_used}
use Rattle.laws_runs.proofs.Room.Marked.{LentMarked}
use Rattle.laws_runs.proofs.Uses.TopFrames.{FrameOn, KnownTop, steps_routine, steps_walk}
use Rattle.laws_runs.proofs.Uses.Traced.{same_recorded, same_uses, traced_begun, traced_recorded}

-- the marks of a packet that have still to be carried up in a world
abbrev pub late_in_world : States → World → ℕ → ℕ
late_in_world states w n =
    late_of (λ returned. late_marks states returned n w.threads) (find w.shared.packets n)

-- what becomes of a packet from one world to another
abbrev pub WorldTurns : States → World → World → List Entry → List Entry → ℕ → Type 0
WorldTurns states w after past later n =
    Turns past later n (find w.shared.packets n) (find after.shared.packets n)
    (late_in_world states w n)
    (late_in_world states after n)

-- a completion routine stands over the I/O manager's frame
module _ (set : Set) (states : States) (issued : ℕ) where
  on_walk : (under : Option Frame) (g : Frame) (below : List Frame) (a : Activation)
      → Stacked set states issued (g ∷ below ++ Routine a ∷ [])
      → OnWalk set (last_under under (g ∷ below)) a
  on_walk under (Walk n) [] a h = h.0.0
  on_walk under (Routine b) [] a h = tt
  on_walk under (CancelFrame c) [] a h = tt
  on_walk under g (e ∷ below) a h = on_walk (Some g) e below a h.1

  cancel_alone : (g : Frame) (below : List Frame) (c : Canceller)
      → Stacked set states issued (g ∷ below ++ CancelFrame c ∷ []) → ⊥
  cancel_alone (Routine b) [] c h = h.0
  cancel_alone (Walk n) [] c h = h.0
  cancel_alone (CancelFrame d) [] c h = h.0
  cancel_alone g (e ∷ below) c h = cancel_alone e below c h.1

  frame_on : (below : List Frame) (f : Frame) → Stacked set states issued (below ++ f ∷ [])
      → FrameOn set (last_under None below) f
  frame_on below (Walk n) h = tt
  frame_on [] (CancelFrame c) h = refl
  frame_on (g ∷ below) (CancelFrame c) h = absurd (cancel_alone g below c h)
  frame_on [] (Routine a) h = tt
  frame_on (g ∷ below) (Routine a) h = on_walk None g below a h

-- what is known of a world and its past: its frames stand, each packet has one holder, frames see
-- what they should, and a location is marked under which a packet will be lent
pub record KnownWorld (set : Set) (states : States) (w : World) (past : List Entry) : Type 0 where
  pub good : IsGood set states
  pub stands : Standing set states w past
  pub kept : Held set states w
  pub sees : (t : ℕ) → AllSeen set states None (frames_on w t)
  pub lends : (n : ℕ) (p : Packet) → find w.shared.packets n ≡ Some p → LentMarked set p

-- routines that are lent a packet have nothing to carry up, on all threads
module _ (set : Set) (states : States) (good : IsGood set states) (issued : ℕ) where
  ready_carried : (a : Activation) → Ready set states issued a → Carried set states (Routine a)
  ready_carried a h is =
      let known : IsKnown (member set a.driver a.routine h.0) (states a.driver a.routine) =
      good.led.known a.driver a.routine h.0 h.1.is_of in
      hold_settled (member set a.driver a.routine h.0) a.position (state_of states a)
      (sym (sort_there set a.driver a.routine h.0 h.1.is_of)
      ∙ hold_sort (sort_of set a.driver a.routine) is)
      (known.follows.arrives a.position h.1.within)

  told_carried : (a : Activation) (status : Status) (r : Option ℕ)
      → Carried set states (Routine (answered_in a status r)) → Carried set states (Routine a)
  told_carried a status None h = h
  told_carried a status (Some r) h = h

  stands_carried : (above : Option Frame) (f : Frame) → Stands set states issued above f
      → Carried set states f
  stands_carried above (Walk n) h = tt
  stands_carried above (CancelFrame c) h = tt
  stands_carried None (Routine a) h = ready_carried a h
  stands_carried (Some (Walk n)) (Routine a) h = ready_carried a h.0
  stands_carried (Some (Routine b)) (Routine a) h =
      told_carried a Success (operand_of (instruction_at set a.driver a.routine (a.position - 1)))
      (ready_carried (answered set a Success) (h.2 Success))
  stands_carried (Some (CancelFrame c)) (Routine a) h = absurd h

  stacked_carried : (frames : List Frame) → Stacked set states issued frames
      → Each (Carried set states) frames
  stacked_carried [] h = tt
  stacked_carried (f ∷ []) h = (stands_carried None f h, tt)
  stacked_carried (f ∷ g ∷ frames) h =
      (stands_carried (Some g) f h.0, stacked_carried (g ∷ frames) h.1)

pub all_carried : (set : Set) (states : States) (w : World) (past : List Entry)
    → KnownWorld set states w past → AllCarried set states w.threads
all_carried set states w past known t thread found =
    stacked_carried set states known.good w.shared.issued thread.frames.items
    (subst (λ (frames : List Frame). Stacked set states w.shared.issued frames)
    (frames_there w t thread found) (known.stands.frames t))

module _ (set : Set) (states : States) (w : World) (past : List Entry)
    (known : KnownWorld set states w past) where
  pub known_top : (t : ℕ) (h : StepsFrame set w t)
      → KnownTop set states w.shared past (last_under None h.below) h.frame
  known_top t h =
      record {
        top = on_top set states w past known.good known.stands t h;
        holding = top_holding set states w past known.stands known.kept t h;
        seen = (seen_top set states None h.below (h.frame ∷ [])
            (of_steps w t (AllSeen set states None) h (known.sees t))).0;
        on = frame_on set states w.shared.issued h.below h.frame
            (stands_there set states w past known.good known.stands t h);
        lends = known.lends;
      }

  cancel_turns : (actor : Actor) (below : Option Frame) (c : Canceller) (o : Outcome)
      → Comes set w.shared actor.thread below (CancelFrame c) o
      → UseStep states w.shared past actor None (CancelFrame c) o
  cancel_turns actor below c o (cancels n step made moves) =
      cancel_used set states w.shared past actor actor.thread n step made moves

  frame_used : (actor : Actor) (under below : Option Frame) (f : Frame) (o : Outcome)
      → KnownTop set states w.shared past under f → Comes set w.shared actor.thread below f o
      → first_fault past actor o.actions ≡ None → UseStep states w.shared past actor under f o
  frame_used actor under below (Routine a) o h comes quiet =
      routine_used set states w.shared past actor actor.thread under a
      (steps_routine set states w.shared past under a h) below o comes quiet
  frame_used actor under below (Walk n) o h comes quiet =
      walk_used set states w.shared past actor actor.thread under n
      (steps_walk set states w.shared past actor under n h) below o comes
  frame_used actor under below (CancelFrame c) o h comes quiet =
      subst (λ (u : Option Frame). UseStep states w.shared past actor u (CancelFrame c) o)
      (sym h.on)
      (cancel_turns actor below c o comes)

  -- one that stops the completion had nothing to carry up
  stopped_late : (t : ℕ) (h : StepsFrame set w t) (n : ℕ) (returned : Bool)
      → StopsBelow set w.shared h.below h.frame h.outcome
      → late_on states returned n (last_under None h.below) h.frame ≡ 0
  stopped_late t h n returned stops =
      let under : Option Frame = last_under None h.below in
      let top : KnownTop set states w.shared past under (Routine stops.a) =
      subst (λ (f : Frame). KnownTop set states w.shared past under f) stops.frame (known_top t h)
      in
      subst (λ (f : Frame). late_on states returned n under f ≡ 0) (sym stops.frame)
      (none_on set states w.shared past (record { thread = t; tag = Managing; root = Passive }) t
      under
      stops.a (steps_routine set states w.shared past under stops.a top) Stop stops.at returned n
      under
      top.on)

  stopped_even : (t : ℕ) (h : StepsFrame set w t) (n : ℕ) (returned : Bool)
      → StopsBelow set w.shared h.below h.frame h.outcome
      → late_marks states returned n
      (slice_set w.threads t (with_stack h.thread (standing set h.below h.outcome)))
      + late_on states returned n (last_under None h.below) h.frame
      ≡ late_marks states returned n w.threads
      + late_in states returned n (last_under None h.below) h.outcome.frames
  stopped_even t h n returned stops =
      let after : Thread = with_stack h.thread (standing set h.below h.outcome) in
      let none : late_on states returned n (last_under None h.below) h.frame ≡ 0 =
      stopped_late t h n returned stops in
      let same : late_marks states returned n (slice_set w.threads t after)
      ≡ late_marks states returned n w.threads =
      late_stopped states returned n w.threads t h.thread after stops.others stops.n h.frame h.found
      (h.frames ∙ ap (λ (below : List Frame). below ++ h.frame ∷ []) stops.below_is) stops.stands
      (subst (λ (below : List Frame). late_on states returned n (last_under None below) h.frame ≡ 0)
      stops.below_is none) in
      let empty : late_in states returned n (last_under None h.below) h.outcome.frames ≡ 0 =
      ap (λ (frames : List Frame). late_in states returned n (last_under None h.below) frames)
      stops.frames in
      omega arith

  frame_turns : (actor : Actor) (h : StepsFrame set w actor.thread)
      → first_fault past actor h.outcome.actions ≡ None → (n : ℕ) → WorldTurns states w
      (record {
        threads = slice_set w.threads actor.thread
            (with_stack h.thread (standing set h.below h.outcome));
        shared = h.outcome.shared;
      }) past (recorded past actor h.outcome.actions) n
  frame_turns actor h quiet n =
      let o : Outcome = h.outcome in
      let t : ℕ = actor.thread in
      let under : Option Frame = last_under None h.below in
      let after : Thread = with_stack h.thread (standing set h.below o) in
      let threads : List Thread = slice_set w.threads t after in
      let carried : AllCarried set states w.threads = all_carried set states w past known in
      frame_used actor under (top_of h.below) h.frame o (known_top t h) h.comes quiet n
      (λ returned. late_marks states returned n w.threads)
      (λ returned. late_marks states returned n threads)
      (record {
        even = λ returned. elim (stood set w.shared t h.below h.frame o h.comes) [
          | inl on ↦
              late_replaced states returned n set w.threads t h.thread after h.below
              h.frame o.told
              o.frames h.found h.frames on
          | inr stops ↦ stopped_even t h n returned stops
        ];
        own = λ returned. late_top states returned n w.threads t h.thread h.below h.frame h.found
            h.frames;
        free = λ free returned. no_late_free set states w n returned known.kept carried free;
        walked = λ is returned. no_late_walk set states w t n h.thread h.below returned known.kept
            carried h.found
            (subst (λ (f : Frame). h.thread.frames.items ≡ h.below ++ f ∷ []) is h.frames);
      })

  -- a frame that begins on an idle thread has marked nothing late
  root_late : (t : ℕ) (thread after : Thread) (f : Frame) (n : ℕ)
      → slice_get w.threads t ≡ Some thread
      → thread.frames.items ≡ [] → after.frames.items ≡ f ∷ [] → (returned : Bool)
      → late_marks states returned n (slice_set w.threads t after)
      ≡ late_marks states returned n w.threads
  root_late t thread after f n found idle begun returned =
      let none : late_in states returned n None thread.frames.items ≡ 0 =
      ap (λ (frames : List Frame). late_in states returned n None frames) idle in
      let new : late_in states returned n None after.frames.items ≡ 0 =
      ap (λ (frames : List Frame). late_in states returned n None frames) begun in
      omega (arith, late_set states returned n w.threads t thread after found)

  -- a root begins: a packet is new, or all are as before
  quiet_turns : (actor : Actor) (i : IdleThread w actor.thread) (root : Root)
      → root.shared.packets ≡ w.shared.packets → (n : ℕ)
      → WorldTurns states w (root_begun w actor.thread i.thread root).world past
      (recorded past actor []) n
  quiet_turns actor i root packets n =
      turn_recorded past actor [] n (find w.shared.packets n) (find root.shared.packets n)
      (late_in_world states w n)
      (late_in_world states (root_begun w actor.thread i.thread root).world n)
      (apart_becomes past past n (find w.shared.packets n) (find root.shared.packets n)
      (λ returned. late_marks states returned n w.threads)
      (λ returned. late_marks states returned n
      (slice_set w.threads actor.thread (with_root i.thread root)))
      (same_uses past n) (ap (λ (ps : List Packet). find ps n) packets)
      (λ p there. root_late actor.thread i.thread (with_root i.thread root) root.frame n i.found
      i.idle refl p.pending_returned))

  root_turns : (actor : Actor) (i : IdleThread w actor.thread) (root : Root)
      → Beside set w.shared root → (n : ℕ)
      → WorldTurns states w (root_begun w actor.thread i.thread root).world past
      (recorded past actor root.actions) n
  root_turns actor i root (issues h) n =
      let m : ℕ = w.shared.issued in
      let p : Packet = new_packet m h.d h.major h.argument h.device.stack in
      let thread : Thread = with_root i.thread root in
      let packets : List Packet = w.shared.packets ++ p ∷ [] in
      let threads : List Thread = slice_set w.threads actor.thread thread in
      let before : Option Packet = find w.shared.packets n in
      let late : Bool → ℕ = λ returned. late_marks states returned n w.threads in
      let lately : Bool → ℕ = λ returned. late_marks states returned n threads in
      let same : (returned : Bool) → lately returned ≡ late returned =
      root_late actor.thread i.thread thread root.frame n i.found i.idle refl in
      let push : find packets n ≡ _ = find_push 0 w.shared.packets m p known.stands.tells.rises refl
      n in
      turn_recorded past actor root.actions n before (find packets n) (late_of late before)
      (late_of lately (find packets n))
      (elim (eqb_tells m n) [
        | inl e ↦
            let here : m ≡ n = e.1 in
            comes_in (record {
              device = h.d;
              major = h.major;
              argument = h.argument;
              stack = h.device.stack;
              was = find_above 0 w.shared.packets m n known.stands.tells.rises (omega arith);
              now = push ∙ rw (e.0, ← here) refl;
              used = rw e.0 refl;
              marked = λ u. refl;
              left = λ u. refl;
              sized = rw e.0 refl;
            })
        | inr e ↦
            apart_becomes past (recorded past actor root.actions) n before (find packets n) late
            lately
            (same_recorded past actor root.actions n (rw e.0 refl)) (push ∙ rw e.0 refl)
            (λ q there. same q.pending_returned)
      ])
  root_turns actor i root _ n = quiet_turns actor i root refl n

  -- an event
  pub event_turns : (actor : Actor) (c : Change) → Happens set w actor.thread c
      → first_fault past actor c.actions ≡ None
      → (n : ℕ) → WorldTurns states w c.world past (recorded past actor c.actions) n
  event_turns actor c (nothing reply right) quiet n =
      turn_recorded past actor [] n (find w.shared.packets n) (find w.shared.packets n)
      (late_in_world states w n)
      (late_in_world states w n)
      (apart_becomes past past n (find w.shared.packets n) (find w.shared.packets n)
      (λ returned. late_marks states returned n w.threads)
      (λ returned. late_marks states returned n w.threads)
      (same_uses past n) refl (λ p there. refl))
  event_turns actor c (steps h) quiet n = frame_turns actor h quiet n
  event_turns actor c (begins i root beside) quiet n = root_turns actor i root beside n

-- what is agreed on in a world, in the words of the turns
module _ (states : States) (w : World) (past : List Entry) where
  late_there : (n : ℕ) (p : Packet) → find w.shared.packets n ≡ Some p
      → late_in_world states w n ≡ late_marks states p.pending_returned n w.threads
  late_there n p there = ap (late_of (λ returned. late_marks states returned n w.threads)) there

  agreed_in : (v : Serving) (b : Bool) → Agreed states w past v b
      → AgreedIn past v (find w.shared.packets v.packet) (late_in_world states w v.packet) b
  agreed_in v b h =
      record {
        opened = h.opened;
        left = h.left;
        stands = λ p marked there is. h.stands p marked there
            (subst (λ (late : ℕ). fate_in (uses past v.packet) p.locations.items (nat_lt 0 late)
            v.«use» ≡ Some marked)
            (late_there v.packet p there) is);
      }

  agreed_out : (v : Serving) (b : Bool)
      → AgreedIn past v (find w.shared.packets v.packet) (late_in_world states w v.packet) b
      → Agreed states w past v b
  agreed_out v b h =
      record {
        opened = h.opened;
        left = h.left;
        stands = λ p marked there is. h.stands p marked there
            (subst (λ (late : ℕ). fate_in (uses past v.packet) p.locations.items (nat_lt 0 late)
            v.«use» ≡ Some marked)
            (sym (late_there v.packet p there)) is);
      }

  linked_out : (v lower : Serving)
      → LinkedIn past v lower (find w.shared.packets v.packet) (late_in_world states w v.packet)
      → Linked states w past v lower
  linked_out v lower (inl waits) =
      inr (inl (record {
        packet = waits.packet;
        live = waits.live;
        there = waits.there;
        above = waits.above;
      }))
  linked_out v lower (inr followed) =
      inr (inr (record {
        marked = followed.marked;
        turn = followed.turn;
        left = followed.left;
        agreed = agreed_out v followed.marked followed.agreed;
      }))

-- what is kept, as each packet's uses turn
module _ (states : States) (w after : World) (past later : List Entry) (told : UsesTell w past)
    (turns : (n : ℕ) → WorldTurns states w after past later n) where
  pub agreed_by : (v : Serving) (b : Bool) → Agreed states w past v b
      → Agreed states after later v b
  agreed_by v b h =
      agreed_out states after later v b
      (agreed_turns past later v (find w.shared.packets v.packet)
      (find after.shared.packets v.packet)
      (late_in_world states w v.packet) (late_in_world states after v.packet) b told.traced
      (told.live v.packet)
      (turns v.packet) (agreed_in states w past v b h))

  linked_turned : (v lower : Serving)
      → LinkedIn past v lower (find w.shared.packets v.packet) (late_in_world states w v.packet)
      → Linked states after later v lower
  linked_turned v lower h =
      linked_out states after later v lower
      (linked_turns past later v lower (find w.shared.packets v.packet)
      (find after.shared.packets v.packet)
      (late_in_world states w v.packet) (late_in_world states after v.packet) told.traced
      (told.live v.packet)
      (turns v.packet) h)

  pub linked_by : (v lower : Serving) → Linked states w past v lower
      → Linked states after later v lower
  linked_by v lower (inl same) = inl same
  linked_by v lower (inr (inl waits)) =
      linked_turned v lower
      (inl (record {
        packet = waits.packet;
        live = waits.live;
        there = waits.there;
        above = waits.above;
      }))
  linked_by v lower (inr (inr followed)) =
      linked_turned v lower
      (inr (record {
        marked = followed.marked;
        turn = followed.turn;
        left = followed.left;
        agreed = agreed_in states w past v followed.marked followed.agreed;
      }))

-- before the first event
pub uses_begun : (w : World) → w.shared.packets ≡ [] → UsesTell w []
uses_begun w none =
    record {
      traced = traced_begun;
      live = λ n p there. (let no : None ≡ Some p = sym (ap (λ (ps : List Packet). find ps n) none)
          ∙ there in cc);
    }

-- an event keeps what live packets and the trace tell of each other
pub uses_event : (set : Set) (states : States) (w : World) (past : List Entry) (actor : Actor)
    (c : Change)
    → KnownWorld set states w past → UsesTell w past → Happens set w actor.thread c
    → first_fault past actor c.actions ≡ None → UsesTell c.world (recorded past actor c.actions)
uses_event set states w past actor c known told happens quiet =
    record {
      traced = traced_recorded past actor c.actions told.traced;
      live = λ n. uses_turns past (recorded past actor c.actions) n (find w.shared.packets n)
          (find c.world.shared.packets n) (late_in_world states w n)
          (late_in_world states c.world n) told.traced
          (told.live n) (event_turns set states w past known actor c happens quiet n);
    }
