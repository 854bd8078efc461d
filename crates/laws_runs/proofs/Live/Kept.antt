-- In every run of an accepted set frames see what they should, and no packet is touched after it
-- has topped out.
use Rattle.laws_runs.proofs.Common.{ap, arith, inl, inr, refl, subst, sym, ◌-◌, ◌∙◌, List, None, Option, Some, [], false, length, slice_get, suc, true, ℕ, ◌++◌, ◌∷◌, ◌≡◌, ◌≤◌, ◌⊎◌, Outcome, told_to, top_of, Change, standing, with_stack, with_thread, begun, frames_on, Set, Actor, Entry, Shared, World, Dispatch, Dpc, Hold, StartIo, Status, CancelStep, Frame, CancelFrame, Routine, Walk, Irql, Packet, Thread, States, all_walking, RootFrame, root_cancels, root_enters, IsGood, is_deferred, Standing, on_top, root_there, last_under, stood, Cancels, Comes, cancels, returns_status, takes_cancel, fault_among, is_touch}
use Rattle.laws_runs.proofs.Holders.Walking.{walking_under}
use Rattle.laws_runs.proofs.Holders.Lent.{IsLent}
use Rattle.laws_runs.proofs.Holders.Counts.{Holding}
use Rattle.laws_runs.proofs.Holders.Sums.{Held, held, walked_if}
use Rattle.laws_runs.proofs.Live.Sees.{deferred_sort, Seen, AllSeen, seen_append, seen_below, seen_top, told_seen, lent_refers}
use Rattle.laws_runs.proofs.Live.Steps.{UnderLives, seen, touch_faults, ClaimsLive, EntriesLive}
use Rattle.laws_runs.proofs.Past.LivePackets.{find}
use Rattle.laws_runs.proofs.Past.Packets.{found}
use Rattle.laws_runs.proofs.Runs.Events.{StepsFrame, Happens, nothing, steps, begins}
use Rattle.laws_runs.proofs.Runs.Roots.{with_root}
use Rattle.laws_runs.proofs.Runs.Threads.{of_steps, each_frames, idle_frames}

-- the frames of every thread see what they should
abbrev pub Sees : Set → States → World → Type 0
Sees set states w = (t : ℕ) → AllSeen set states None (frames_on w t)

pub sees_begun : (set : Set) (states : States) (threads : ℕ)
    → Sees set states (begun set threads).world
sees_begun set states threads =
    λ t. subst (λ (frames : List Frame). AllSeen set states None frames)
    (sym (idle_frames threads t)) tt

-- the frame below is the last one of those below
last_is : (f : Frame) (below : List Frame) → last_under (Some f) below ≡ top_of (f ∷ below)
last_is f [] = refl
last_is f (g ∷ below) =
    let place : suc (suc (length below)) - 1 ≡ suc (suc (length below) - 1) = omega arith in
    last_is g below ∙ sym (ap (λ (i : ℕ). slice_get (f ∷ g ∷ below) i) place)

pub last_is_top : (below : List Frame) → last_under None below ≡ top_of below
last_is_top [] = refl
last_is_top (f ∷ below) = last_is f below

-- the packet of the I/O manager's frame below is live, if it isn't lent
under_lives : (set : Set) (states : States) (w : World) (t : ℕ) (thread : Thread)
    (below : List Frame) (f : Frame) (o : Option Frame) → Held set states w
    → slice_get w.threads t ≡ Some thread → thread.frames.items ≡ below ++ f ∷ []
    → top_of below ≡ o → UnderLives set w.shared o f
under_lives set states w t thread below (Routine a) (Some (Walk n)) kept there frames top =
    λ free gone.
    let some : 1 ≤ all_walking set w.threads n =
    walking_under set w.threads t thread below a n there frames (last_is_top below ∙ top) free in
    let all : all_walking set w.threads n ≡ held (find w.shared.packets n) = kept.walks n in
    let its : (p : Packet) × (find w.shared.packets n ≡ Some p) × _ =
    walked_if (find w.shared.packets n) (omega arith) in
    let no : None ≡ Some its.0 = sym (found w.shared n None gone) ∙ its.1 in
    cc
under_lives set states w t thread below (Routine a) None kept there frames top = tt
under_lives set states w t thread below (Routine a) (Some (Routine b)) kept there frames top = tt
under_lives set states w t thread below (Routine a) (Some (CancelFrame c)) kept there frames top =
    tt
under_lives set states w t thread below (Walk m) None kept there frames top = tt
under_lives set states w t thread below (Walk m) (Some (Routine b)) kept there frames top = tt
under_lives set states w t thread below (Walk m) (Some (Walk n)) kept there frames top = tt
under_lives set states w t thread below (Walk m) (Some (CancelFrame c)) kept there frames top = tt
under_lives set states w t thread below (CancelFrame c) None kept there frames top = tt
under_lives set states w t thread below (CancelFrame c) (Some (Routine b)) kept there frames top =
    tt
under_lives set states w t thread below (CancelFrame c) (Some (Walk n)) kept there frames top = tt
under_lives set states w t thread below (CancelFrame c) (Some (CancelFrame d)) kept there frames
    top =
    tt

-- where something is told, no frame stands in place of the one that ran; IoCancelIrp tells nothing
cancel_tells : (set : Set) (s : Shared) (t n : ℕ) (step : CancelStep) (o : Outcome)
    → Cancels set s t n step o → o.told ≡ None
cancel_tells set s t n step o (takes_cancel free) = refl
cancel_tells set s t n step o _ = refl

told_or_on : (set : Set) (s : Shared) (t : ℕ) (under : Option Frame) (f : Frame) (o : Outcome)
    → Comes set s t under f o
    → (o.told ≡ None) ⊎ (o.frames ≡ [])
told_or_on set s t under f o (returns_status a form status at sort is) = inr refl
told_or_on set s t under f o (cancels n step made moves) =
    inl (cancel_tells set s t n step made moves)
told_or_on set s t under f o _ = inl refl

frames_seen : (set : Set) (states : States) (below : List Frame) (told : Option Status)
    (frames : List Frame)
    → (told ≡ None) ⊎ (frames ≡ []) → AllSeen set states None below
    → AllSeen set states (last_under None below) frames
    → AllSeen set states None (told_to set below told ++ frames)
frames_seen set states below told frames (inl none) h new =
    rw none (seen_append set states None below frames h new)
frames_seen set states below told frames (inr none) h new =
    rw none (seen_append set states None (told_to set below told) []
    (told_seen set states None told below h) tt)

module _ (set : Set) (states : States) (w : World) (past : List Entry) (good : IsGood set states)
    (stands : Standing set states w past) (sees : Sees set states w) where
  -- the frame that steps sees what it stands on
  top_seen : (t : ℕ) (h : StepsFrame set w t) → AllSeen set states None (h.below ++ h.frame ∷ [])
  top_seen t h = of_steps w t (AllSeen set states None) h (sees t)

  sees_put : (t : ℕ) (s : Shared) (thread after : Thread) → slice_get w.threads t ≡ Some thread
      → AllSeen set states None after.frames.items → Sees set states (with_thread w t s after)
  sees_put t s thread after there new =
      each_frames w t s after (λ k frames. AllSeen set states None frames) thread there new
      (λ k apart. sees k)

  root_seen : {issued : ℕ} {level : Irql} {f : Frame} → RootFrame set states issued level f
      → AllSeen set states None (f ∷ [])
  root_seen (root_enters a Dispatch first root enters) = (inl enters.of_sort, tt)
  root_seen (root_enters a StartIo first root enters) =
      (inr (deferred_sort set a StartIo enters.of_sort refl), tt)
  root_seen (root_enters a Dpc first root enters) =
      (inr (deferred_sort set a Dpc enters.of_sort refl), tt)
  root_seen (root_enters a _ first root enters) = absurd root
  root_seen (root_cancels n low) = (tt, tt)

  -- an event keeps it
  pub sees_event : (t : ℕ) (c : Change) → Happens set w t c → Sees set states c.world
  sees_event t c (nothing reply right) = sees
  sees_event t c (steps h) =
      let o : Outcome = h.outcome in
      let here : AllSeen set states None (h.below ++ h.frame ∷ []) = top_seen t h in
      let new : AllSeen set states (last_under None h.below) o.frames =
      seen set states w.shared t (last_under None h.below) (top_of h.below) h.frame o
      (on_top set states w past good stands t h) (seen_top set states None h.below (h.frame ∷ [])
      here).0
      h.comes in
      sees_put t o.shared h.thread (with_stack h.thread (standing set h.below o)) h.found
      (elim (stood set w.shared t h.below h.frame o h.comes) [
        | inl is ↦
            subst (λ (frames : List Frame). AllSeen set states None frames) (sym is)
            (frames_seen set states h.below o.told o.frames
            (told_or_on set w.shared t (top_of h.below) h.frame o h.comes)
            (seen_below set states None h.below (h.frame ∷ []) here) new)
        | inr stops ↦
            subst (λ (frames : List Frame). AllSeen set states None frames) (sym stops.stands)
            (seen_below set states None stops.others (Walk stops.n ∷ [])
            (subst (λ (frames : List Frame). AllSeen set states None frames) stops.below_is
            (seen_below set states None h.below (h.frame ∷ []) here)))
      ])
  sees_event t c (begins i root beside) =
      sees_put t root.shared i.thread (with_root i.thread root) i.found
      (root_seen (root_there set states w past good stands root beside))

  -- and touches live packets alone
  pub touches_none : (actor : Actor) (h : StepsFrame set w actor.thread) → Held set states w
      → Holding set states w.shared past h.frame → ClaimsLive states w.shared h.frame
      → EntriesLive w.shared → fault_among is_touch past actor h.outcome.actions ≡ None
  touches_none actor h kept holding claims entries_live =
      touch_faults set states w.shared past actor (top_of h.below) h.frame h.outcome stands.tells
      (on_top set states w past good stands actor.thread h) holding
      (subst (λ (under : Option Frame). Seen set states under h.frame) (last_is_top h.below)
      (seen_top set states None h.below (h.frame ∷ []) (top_seen actor.thread h)).0)
      (under_lives set states w actor.thread h.thread h.below h.frame (top_of h.below) kept h.found
      h.frames refl)
      claims entries_live h.comes

-- a completion routine that is lent a packet was handed that of the I/O manager's frame below it
module _ (set : Set) (states : States) where
  seen_lent : (under : Option Frame) (f : Frame) → Seen set states under f
      → IsLent set states under f
  seen_lent under (Walk n) h = tt
  seen_lent under (CancelFrame c) h = tt
  seen_lent None (Routine a) h =
      λ is. absurd (elim h [
        | inl other ↦ let no : Hold ≡ Dispatch = sym is ∙ other in cc
        | inr deferred ↦ let no : false ≡ true = sym (ap is_deferred is) ∙ deferred in cc
      ])
  seen_lent (Some (Routine b)) (Routine a) h =
      λ is. (let no : Hold ≡ Dispatch = sym is ∙ h in cc)
  seen_lent (Some (Walk n)) (Routine a) h = λ is. (n, refl, lent_refers set states n a h.1)
  seen_lent (Some (CancelFrame c)) (Routine a) h = absurd h

  pub top_lent : (w : World) → Sees set states w → (t : ℕ) (h : StepsFrame set w t)
      → IsLent set states (top_of h.below) h.frame
  top_lent w sees t h =
      subst (λ (under : Option Frame). IsLent set states under h.frame) (last_is_top h.below)
      (seen_lent (last_under None h.below) h.frame
      (seen_top set states None h.below (h.frame ∷ [])
      (of_steps w t (AllSeen set states None) h (sees t))).0)
