-- What is known of a thread's top frame that steps, over another frame or none: it stands as it
-- should, its rights are to live packets, and what it sees and stands on is as its sort says.
use Rattle.laws_runs.proofs.Common.{ap, arith, inl, inr, refl, sym, ◌∙◌, List, None, Option, Some, false, true, ℕ, ⊤, ◌≡◌, is_new, is_view, kind_of, Set, member, sort_of, Actor, Entry, Shared, register, Abs, SettledMark, End, Sort, Dispatch, Hold, Activation, Frame, CancelFrame, Routine, Walk, Packet, States, IsOfSort, begins_back, begins_lent, sort_there, state_of, IsKnown, moved_end, HasNone, deferred_no_view, dispatch_no_view, hold_no_view, no_view_at, OnTop, runs}
use Rattle.laws_runs.proofs.Holders.Counts.{Holding, reads_ref, walk_taken}
use Rattle.laws_runs.proofs.Holders.Rights.{one_right, right_le}
use Rattle.laws_runs.proofs.Past.LivePackets.{find, find_place}
use Rattle.laws_runs.proofs.Room.Marked.{LentMarked}
use Rattle.laws_runs.proofs.Uses.HoldRoutines.{hold_settled}
use Rattle.laws_runs.proofs.States.Frames.{Stays}
use Rattle.laws_runs.proofs.States.NoViews.{deferred_no_new}
use Rattle.laws_runs.proofs.Steps.Comes.{Reads}
use Rattle.laws_runs.proofs.Live.Sees.{IsDeferred, reads_view, Seen}
use Rattle.laws_runs.proofs.Uses.RoutineSteps.{OnWalk, StepsRoutine}
use Rattle.laws_runs.proofs.Uses.WalkSteps.{StepsWalk}

-- what stands under a frame: nothing under one of IoCancelIrp
abbrev pub FrameOn : Set → Option Frame → Frame → Type 0
FrameOn set under (Routine a) = OnWalk set under a
FrameOn set under (Walk n) = ⊤
FrameOn set under (CancelFrame c) = under ≡ None

pub record KnownTop (set : Set) (states : States) (s : Shared) (past : List Entry)
    (under : Option Frame) (f : Frame)
    : Type 0 where
  pub top : OnTop set states s f
  pub holding : Holding set states s past f
  pub seen : Seen set states under f
  pub on : FrameOn set under f
  pub lends : (n : ℕ) (p : Packet) → find s.packets n ≡ Some p → LentMarked set p

module _ (set : Set) (states : States) (s : Shared) (past : List Entry) (under : Option Frame)
    (a : Activation)
    (h : KnownTop set states s past under (Routine a)) where
  pub stays : Stays set states s.issued h.top.stands.0 a
  stays = h.top.stands.1

  pub known : IsKnown (member set a.driver a.routine h.top.stands.0) (states a.driver a.routine)
  known = h.top.good.led.known a.driver a.routine h.top.stands.0 stays.is_of

  pub sort_is : (sort : Sort) → IsOfSort set a sort → h.top.stands.0.sort ≡ sort
  sort_is sort is = sym (sort_there set a.driver a.routine h.top.stands.0 stays.is_of) ∙ is

  pub unseen : IsOfSort set a Dispatch → (r : ℕ) → is_view (kind_of (state_of states a) r) ≡ false
  unseen is r =
      no_view_at (state_of states a).kinds r
      (dispatch_no_view (member set a.driver a.routine h.top.stands.0) a.position
      (state_of states a)
      (sort_is Dispatch is) (known.follows.arrives a.position stays.within))

  never_views : IsOfSort set a Dispatch → (r : ℕ) → is_view (kind_of (state_of states a) r) ≡ true
      → ⊥
  never_views is r views = let no : false ≡ true = sym (unseen is r) ∙ views in cc

  pub deferred_views : IsDeferred set a → (r : ℕ)
      → is_view (kind_of (state_of states a) r) ≡ true → ⊥
  deferred_views is r views =
      let sort : Sort = sort_of set a.driver a.routine in
      let none : is_view (kind_of (state_of states a) r) ≡ false =
      no_view_at (state_of states a).kinds r
      (deferred_no_view (member set a.driver a.routine h.top.stands.0) a.position
      (state_of states a)
      sort (sort_is sort refl) is (known.follows.arrives a.position stays.within)) in
      let no : false ≡ true = sym none ∙ views in cc

  -- a deferred routine and a completion routine have no packet that was handed over
  pub deferred_news : IsDeferred set a → HasNone is_new (state_of states a)
  deferred_news is =
      let sort : Sort = sort_of set a.driver a.routine in
      deferred_no_new (member set a.driver a.routine h.top.stands.0) a.position (state_of states a)
      sort (sort_is sort refl) is (known.follows.arrives a.position stays.within)

  -- a completion routine that is lent a packet has nothing to carry up, and none on its way up
  pub lent_settled : IsOfSort set a Hold → (state_of states a).settled ≡ SettledMark
  lent_settled is =
      hold_settled (member set a.driver a.routine h.top.stands.0) a.position (state_of states a)
      (sort_is Hold is) (known.follows.arrives a.position stays.within)

  pub lent_views : IsOfSort set a Hold → (r : ℕ) → is_view (kind_of (state_of states a) r) ≡ false
  lent_views is r =
      no_view_at (state_of states a).kinds r
      (hold_no_view (member set a.driver a.routine h.top.stands.0) a.position (state_of states a)
      (sort_is Hold is) (known.follows.arrives a.position stays.within))

  views_under : (u : Option Frame) → Seen set states u (Routine a) → (r n : ℕ)
      → is_view (kind_of (state_of states a) r) ≡ true → Reads s a r n → u ≡ Some (Walk n)
  views_under None seen r n views reads =
      elim seen [
        | inl is ↦ absurd (never_views is r views)
        | inr is ↦ absurd (deferred_views is r views)
      ]
  views_under (Some (Routine b)) seen r n views reads = absurd (never_views seen r views)
  views_under (Some (Walk m)) seen r n views reads =
      ap (λ (k : ℕ). Some (Walk k)) (sym (reads_view states m s a seen.0 r n views reads))
  views_under (Some (CancelFrame c)) seen r n views reads = absurd seen

  pub steps_routine : StepsRoutine set states s past under a
  steps_routine =
      record {
        tells = h.holding.tells;
        runs = λ i at. runs set states s a i h.top at;
        ends = λ l at there.
            (moved_end set states s a (runs set states s a End h.top at) l there).arrives;
        rights = h.holding.rights;
        owns = λ r n is reads.
            omega (
              arith,
              one_right (kind_of (state_of states a) r) (register a r) n is (reads_ref s (register a r) n reads),
              right_le s.issued (state_of states a).kinds a.registers r n stays.kinds,
            );
        views = views_under under h.seen;
        on = h.on;
        lent = lent_settled;
      }

pub steps_walk : (set : Set) (states : States) (s : Shared) (past : List Entry) (actor : Actor)
    (under : Option Frame)
    (n : ℕ) → KnownTop set states s past under (Walk n) → StepsWalk set states s n
steps_walk set states s past actor under n h =
    record {
      rises = h.holding.tells.rises;
      done = λ p at. walk_taken set states s past n h.holding p (find_place s.packets n ∙ at);
      starts = λ p c there routed free.
          ap (λ (state : Abs). state.settled)
          (begins_back set states s h.top.good h.top.fits n p c h.top.stands there routed
          free).start;
      lent = λ p c there routed holds.
          ap (λ (state : Abs). state.settled)
          (begins_lent set states s h.top.good h.top.fits n p c h.top.stands there routed
          holds).start;
      lends = h.lends n;
    }
