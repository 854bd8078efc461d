-- The step of a thread's top frame, whatever it is: what it leaves serves on, and what it tells is
-- of a packet that no other frame has.
use Rattle.laws_runs.proofs.Common.{ap, arith, inl, inr, refl, subst, sym, ◌∙◌, eqb_tells, list_any, Bool, List, None, Option, Some, [], false, true, ℕ, ◌∷◌, ◌≡◌, ◌≤◌, ◌⊎◌, Outcome, first_fault, is_new, is_right, is_view, kind_of, tags_after, Set, sort_of, Actor, Entry, Managing, Serving, Tag, recorded, World, register, New, View, Hold, Propagate, Status, Activation, Canceller, Frame, CancelFrame, Routine, Walk, States, frame_rights, IsOfSort, state_of, hold_get, handed_news, is_deferred, runs, Comes}
use Rattle.laws_runs.proofs.Holders.Sums.{held, held_apart, unheld}
use Rattle.laws_runs.proofs.Past.LivePackets.{find}
use Rattle.laws_runs.proofs.Pending.CompletionSteps.{deferred_works, Cancelled, IsCancelling, Works, IsOver, Looks, Manages, completion_looks, frame_cancels, IsAlone, is_managing, walk_manages}
use Rattle.laws_runs.proofs.Pending.DispatchSteps.{dispatch_does}
use Rattle.laws_runs.proofs.Pending.DispatchServes.{Does, OnRoutine, ReturnsFrom, StepServes, does_spare, dispatch_serves}
use Rattle.laws_runs.proofs.Pending.Returned.{silent_about, silent_returns, AllAgree, agree_kept, beyond_returns, beyond_uses, tells_beyond}
use Rattle.laws_runs.proofs.Pending.Serving.{Agreeing, AllServe, FrameServes, MustServe, TagNames, UnderServes, first_served, served}
use Rattle.laws_runs.proofs.Pending.Threads.{SameOver}
use Rattle.laws_runs.proofs.Pending.TopDispatch.{steps_dispatch}
use Rattle.laws_runs.proofs.Pending.UsesServed.{Settles}
use Rattle.laws_runs.proofs.Live.Sees.{IsDeferred, RefersTo, reads_to, reads_view, Seen}
use Rattle.laws_runs.proofs.Steps.Comes.{Reads}
use Rattle.laws_runs.proofs.Uses.Fates.{late_marks}
use Rattle.laws_runs.proofs.Uses.RoutineSteps.{OnWalk, completion_sort}
use Rattle.laws_runs.proofs.Uses.TopFrames.{lent_views, stays, steps_routine, deferred_views, deferred_news, KnownTop}
use Rattle.laws_runs.proofs.Uses.Traced.{SameUses, same_recorded}
use Rattle.laws_runs.proofs.Pending.Duties.{fresh_rights, Dutiful}

pub same_over : (under : Option Frame) (x y : Option Serving) → x ≡ y → SameOver under x y
same_over None x y h = tt
same_over (Some (Routine b)) x y h = h
same_over _ x y h = tt

module _ (set : Set) (states : States) (w later_w : World) (past : List Entry) (actor : Actor)
    (number : ℕ)
    (under : Option Frame) (o : Outcome) where
  abbrev later : List Entry
  later = recorded past actor o.actions

  abbrev new_tags : Frame → List Tag
  new_tags f = tags_after set later number (f ∷ []) (actor.tag ∷ []) o.frames

  -- the step of a frame that stands on another one, or on none
  pub record Turned (f : Frame) : Type 0 where
    pub serve : AllServe set states later_w later under o.frames (new_tags f)
    pub goes : ((o.told ≡ None) × SameOver under (served actor.tag) (first_served (new_tags f)))
        ⊎ ((status : Status) × (o.told ≡ Some status) × (o.frames ≡ [])
        × Agreeing states later_w later under (served actor.tag) status)
    pub agree : AllAgree states later_w later
    pub spares : (n : ℕ) → 1 ≤ unheld (find w.shared.packets n) → frame_rights states f n ≡ 0
        → SameUses past later n

  -- what is known when the top frame of a thread takes a step
  pub record Turning (f : Frame) : Type 0 where
    pub known : KnownTop set states w.shared past under f
    pub quiet : first_fault past actor o.actions ≡ None
    pub walked : (m : ℕ) (a : Activation) → f ≡ Routine a → IsOfSort set a Propagate
        → under ≡ Some (Walk m) → 1 ≤ held (find w.shared.packets m)
    pub own : (m : ℕ) → f ≡ Walk m → 1 ≤ held (find w.shared.packets m)
    pub shared : later_w.shared ≡ o.shared
    pub settles : Settles states w past later_w later
    pub agree : AllAgree states w past
    pub late : (b : Activation) (n : ℕ) → o.frames ≡ Routine b ∷ Walk n ∷ [] → (returned : Bool)
        → late_marks states returned n later_w.threads ≡ 0

  -- a step that tells of the packet on its way up alone
  beyond_spares : (m : ℕ) → list_any (tells_beyond m) o.actions ≡ false
      → 1 ≤ held (find w.shared.packets m)
      → (n : ℕ) → 1 ≤ unheld (find w.shared.packets n) → SameUses past later n
  beyond_spares m silent has n some =
      beyond_uses past actor o.actions m n silent
      (elim (eqb_tells m n) [
        | inl e ↦
            let none : unheld (find w.shared.packets m)
            ≡ 0 = held_apart (find w.shared.packets m) has in
            let same : unheld (find w.shared.packets n) ≡ 0 = rw e.1 at none in
            absurd (omega arith)
        | inr e ↦ e.0
      ])

  -- the I/O manager's frame
  managing_serves : (n : ℕ) (frames : List Frame) → is_managing frames ≡ true
      → AllServe set states later_w later under frames
      (tags_after set later number (Walk n ∷ []) (actor.tag ∷ []) frames)
  managing_serves n [] h = tt
  managing_serves n (Walk m ∷ []) h = (refl, tt)
  managing_serves n (Walk m ∷ Routine b ∷ []) h = (refl, (((refl, refl), tt), tt))
  managing_serves n _ h = cc

  managing_over : (n : ℕ) (frames : List Frame) → is_managing frames ≡ true
      → None ≡ first_served (tags_after set later number (Walk n ∷ []) (actor.tag ∷ []) frames)
  managing_over n [] h = refl
  managing_over n (Walk m ∷ frames) h = refl
  managing_over n _ h = cc

  walk_turned : (n : ℕ) → actor.tag ≡ Managing → Manages n o → Turning (Walk n) → Turned (Walk n)
  walk_turned n tag manages h =
      record {
        serve = managing_serves n o.frames manages.managing;
        goes = inl (
          manages.told,
          same_over under (served actor.tag) (first_served (new_tags (Walk n)))
              (ap served tag ∙ managing_over n o.frames manages.managing),
        );
        agree = agree_kept states w later_w past actor o.actions h.settles.keeps
            (beyond_returns n o.actions manages.silent) h.agree;
        spares = λ m some none. beyond_spares n manages.silent (h.own n refl) m some;
      }

  -- a completion routine
  alone_serves : (m : ℕ) (a : Activation) (frames : List Frame) → IsAlone a frames
      → TagNames a.driver a.routine actor.tag
      → AllServe set states later_w later (Some (Walk m)) frames
      (tags_after set later number (Routine a ∷ []) (actor.tag ∷ []) frames)
  alone_serves m a [] same names = tt
  alone_serves m a (Routine b ∷ []) same names = ((rw (same.0, same.1) names, tt), tt)
  alone_serves m a _ same names = absurd same

  lent_spare : (m : ℕ) (a : Activation) → list_any (tells_beyond m) o.actions ≡ false
      → ((r : ℕ) × (Reads w.shared a r m)
      × ((kind_of (state_of states a) r ≡ New) ⊎ (kind_of (state_of states a) r ≡ View)))
      → IsOfSort set a Hold → Turning (Routine a) → (n : ℕ)
      → frame_rights states (Routine a) n ≡ 0 → SameUses past later n
  lent_spare m a silent told holds h n none =
      elim told.2 [
        | inl new ↦
            let own : 1 ≤ frame_rights states (Routine a) m =
            (steps_routine set states w.shared past under a h.known).owns told.0 m
            (ap is_right new) told.1 in
            beyond_uses past actor o.actions m n silent
            (elim (eqb_tells m n) [
              | inl e ↦
                  let same : frame_rights states (Routine a) m ≡ frame_rights states (Routine a) n =
                  ap (λ (k : ℕ). frame_rights states (Routine a) k) e.1 in
                  absurd (omega arith)
              | inr e ↦ e.0
            ])
        | inr view ↦
            let no : true ≡ false =
            sym (ap is_view view) ∙ lent_views set states w.shared past under a h.known holds told.0
            in cc
      ]

  -- what it tells is of its packet alone: one on its way up, or one that it was lent and has the
  -- right to
  looks_spare : (m : ℕ) (a : Activation) → under ≡ Some (Walk m) → Looks states w.shared m a o
      → Turning (Routine a) → (n : ℕ) → 1 ≤ unheld (find w.shared.packets n)
      → frame_rights states (Routine a) n ≡ 0 → SameUses past later n
  looks_spare m a on looks h n some none =
      elim looks.by [
        | inl silent ↦ same_recorded past actor o.actions n (silent_about n o.actions silent)
        | inr told ↦
            elim (completion_sort (sort_of set a.driver a.routine)
            (subst (λ (u : Option Frame). OnWalk set u a) on h.known.on)) [
              | inl propagates ↦
                  beyond_spares m looks.silent (h.walked m a refl propagates on) n some
              | inr holds ↦ lent_spare m a looks.silent told holds h n none
            ]
      ]

  completion_turned : (m : ℕ) (a : Activation) → under ≡ Some (Walk m)
      → TagNames a.driver a.routine actor.tag
      → Looks states w.shared m a o → Turning (Routine a) → Turned (Routine a)
  completion_turned m a on names looks h =
      record {
        serve = subst
            (λ (u : Option Frame). AllServe set states later_w later u o.frames
            (new_tags (Routine a))) (sym on)
            (alone_serves m a o.frames looks.alone names);
        goes = inl (
          looks.told,
          subst (λ (u : Option Frame). SameOver u (served actor.tag)
              (first_served (new_tags (Routine a)))) (sym on) tt,
        );
        agree = agree_kept states w later_w past actor o.actions h.settles.keeps
            (beyond_returns m o.actions looks.silent) h.agree;
        spares = looks_spare m a on looks h;
      }

  -- a deferred routine, which nothing stands under
  deferred_serves : (a : Activation) (frames : List Frame) → IsOver a frames
      → TagNames a.driver a.routine actor.tag → IsDeferred set a
      → AllServe set states later_w later None frames
      (tags_after set later number (Routine a ∷ []) (actor.tag ∷ []) frames)
  deferred_serves a [] same names is = tt
  deferred_serves a (Routine b ∷ []) same names is =
      ((rw (same.0, same.1) names, inr (rw (same.0, same.1) is)), tt)
  deferred_serves a (Routine b ∷ Walk n ∷ []) same names is =
      ((rw (same.0, same.1) names, inr (rw (same.0, same.1) is)), (refl, tt))
  deferred_serves a _ same names is = absurd same

  deferred_turned : (a : Activation) → under ≡ None → TagNames a.driver a.routine actor.tag
      → IsDeferred set a → Works a o → Turning (Routine a) → Turned (Routine a)
  deferred_turned a on names is works h =
      record {
        serve = subst
            (λ (u : Option Frame). AllServe set states later_w later u o.frames
            (new_tags (Routine a))) (sym on)
            (deferred_serves a o.frames works.over names is);
        goes = inl (
          works.told,
          subst (λ (u : Option Frame). SameOver u (served actor.tag)
              (first_served (new_tags (Routine a)))) (sym on) tt,
        );
        agree = agree_kept states w later_w past actor o.actions h.settles.keeps
            (silent_returns o.actions works.silent) h.agree;
        spares = λ n some none. same_recorded past actor o.actions n
            (silent_about n o.actions works.silent);
      }

  -- a dispatch routine: what it leaves, by its tag
  dispatch_goes : (u : Option Frame) (v : Serving) (a : Activation) → OnRoutine u
      → served actor.tag ≡ Some v
      → ((o.told ≡ None) × (first_served (new_tags (Routine a)) ≡ Some v))
      ⊎ ReturnsFrom set states w later_w past actor number u v a o
      → ((o.told ≡ None) × SameOver u (served actor.tag) (first_served (new_tags (Routine a))))
      ⊎ ((status : Status) × (o.told ≡ Some status) × (o.frames ≡ [])
      × Agreeing states later_w later u (served actor.tag) status)
  dispatch_goes u v a on tagged (inl still) =
      inl (
        still.0,
        same_over u (served actor.tag) (first_served (new_tags (Routine a)))
            (tagged ∙ sym still.1),
      )
  dispatch_goes None v a on tagged (inr returns) =
      inr (returns.status, returns.is, returns.none, tt)
  dispatch_goes (Some (Routine b)) v a on tagged (inr returns) =
      inr (
        returns.status,
        returns.is,
        returns.none,
        subst (λ (x : Option Serving). Agreeing states later_w later (Some (Routine b)) x
            returns.status) (sym tagged)
            returns.agreed,
      )
  dispatch_goes _ v a on tagged (inr returns) = absurd on

  dispatch_turned : (a : Activation) (x : Option Serving) → served actor.tag ≡ x → OnRoutine under
      → TagNames a.driver a.routine actor.tag → MustServe set states w past a None x
      → Does set states a o
      → Dutiful (state_of states a) → Turning (Routine a) → Turned (Routine a)
  dispatch_turned a None tagged on names serves does dutiful h = absurd serves
  dispatch_turned a (Some v) tagged on names serves does dutiful h =
      let step : StepServes set states w later_w past actor number under v a o =
      dispatch_serves set states w later_w past actor number under v a o does
      (record {
        on = on;
        names = names;
        tagged = tagged;
        shared = h.shared;
        serves_use = serves;
        settles = h.settles;
        agree = h.agree;
        owns = λ m fresh refers.
            fresh_rights (state_of states a) a.registers w.shared.issued m dutiful fresh
            (stays set states w.shared past under a h.known).kinds refers;
        late = h.late;
      })
      in
      record {
        serve = step.serve;
        goes = dispatch_goes under v a on tagged step.goes;
        agree = step.agree;
        spares = λ n some none. same_recorded past actor o.actions n
            (does_spare set states a o does n none);
      }

  -- by what a routine stands on
  routine_turned : (u below : Option Frame) (a : Activation) → under ≡ u
      → Seen set states u (Routine a)
      → OnWalk set u a
      → UnderServes set states w past u a None (served actor.tag)
      → TagNames a.driver a.routine actor.tag
      → Comes set w.shared actor.thread below (Routine a) o → Turning (Routine a)
      → Turned (Routine a)
  routine_turned None below a is seen on serves names comes h =
      elim seen [
        | inl sort ↦
            elim serves [
              | inl must ↦
                  dispatch_turned a (served actor.tag) refl (rw is tt) names must
                  (dispatch_does set states w.shared past actor actor.thread under a
                  (steps_dispatch set states w.shared past under a h.known sort) below o comes
                  h.quiet)
                  (steps_dispatch set states w.shared past under a h.known sort).arrived.dutiful h
              | inr deferred ↦ let no : true ≡ false = sym deferred ∙ ap is_deferred sort in cc
            ]
        | inr deferred ↦
            deferred_turned a is names deferred
            (deferred_works set states w.shared actor.thread below a o
            (λ i at. (runs set states w.shared a i h.known.top at).obeys) deferred
            (deferred_news set states w.shared past under a h.known deferred)
            (deferred_views set states w.shared past under a h.known deferred) comes) h
      ]
  routine_turned (Some (Routine b)) below a is seen on serves names comes h =
      dispatch_turned a (served actor.tag) refl (rw is tt) names serves
      (dispatch_does set states w.shared past actor actor.thread under a
      (steps_dispatch set states w.shared past under a h.known seen) below o comes h.quiet)
      (steps_dispatch set states w.shared past under a h.known seen).arrived.dutiful h
  routine_turned (Some (Walk m)) below a is seen on serves names comes h =
      completion_turned m a is names
      (completion_looks m set states w.shared actor.thread below a o
      (λ i at. (runs set states w.shared a i h.known.top at).obeys) on
      (λ r n new reads. reads_to m w.shared (register a r) n
      (hold_get is_new handed_news (RefersTo m) (state_of states a).kinds a.registers r tt seen.1
      new)
      reads)
      (reads_view states m w.shared a seen.0)
      comes) h
  routine_turned (Some (CancelFrame c)) below a is seen on serves names comes h = absurd serves

  -- a frame of IoCancelIrp, which nothing stands under: it goes on, is gone, or is a cancel routine
  cancelling_serves : (c : Canceller) (frames : List Frame) → IsCancelling set frames
      → AllServe set states later_w later None frames
      (tags_after set later number (CancelFrame c ∷ []) (actor.tag ∷ []) frames)
  cancelling_serves c [] h = tt
  cancelling_serves c (CancelFrame d ∷ []) h = (refl, tt)
  cancelling_serves c (Routine b ∷ []) h = (((refl, refl), inr h), tt)
  cancelling_serves c _ h = absurd h

  cancel_serves : (c : Canceller) → under ≡ None → Cancelled set o → Turning (CancelFrame c)
      → Turned (CancelFrame c)
  cancel_serves c on cancelled h =
      record {
        serve = subst
            (λ (u : Option Frame). AllServe set states later_w later u o.frames
            (new_tags (CancelFrame c))) (sym on)
            (cancelling_serves c o.frames cancelled.over);
        goes = inl (
          cancelled.told,
          subst (λ (u : Option Frame). SameOver u (served actor.tag)
              (first_served (new_tags (CancelFrame c)))) (sym on) tt,
        );
        agree = agree_kept states w later_w past actor o.actions h.settles.keeps
            (silent_returns o.actions cancelled.silent) h.agree;
        spares = λ n some none. same_recorded past actor o.actions n
            (silent_about n o.actions cancelled.silent);
      }

  -- every frame
  pub frame_turned : (below : Option Frame) (f : Frame)
      → FrameServes set states w past under None f actor.tag
      → Comes set w.shared actor.thread below f o → Turning f → Turned f
  frame_turned below (Routine a) serves comes h =
      routine_turned under below a refl h.known.seen h.known.on serves.1 serves.0 comes h
  frame_turned below (Walk n) serves comes h =
      walk_turned n serves (walk_manages set w.shared actor.thread below n o comes) h
  frame_turned below (CancelFrame c) serves comes h =
      cancel_serves c h.known.on
      (frame_cancels set states w.shared actor.thread below c o h.known.top comes) h
