-- Plays that cover steps, with one step more.
use Rattle.std.proofs.Common.{◌≡◌, ◌∙◌, ◌<◌, ◌++◌, ℕ, zero, suc, Bool, true, List, [], ◌∷◌, Option, None, Some, ap, append_assoc, append-nil, arith, get_or, inl, inr, length, refl, slice_get, subst, sym}
use Rattle.std.proofs.lemmas.Option.{slice_get-get_or, slice_get_within}
use Rattle.checked.specs.SameWorlds.{SameWorldsGoOnAlike}
use Rattle.model.specs.declared.event.Event.{Event}
use Rattle.model.specs.declared.event.Event.TheVariants.{Step as StepEvent}
use Rattle.model.specs.Set.{Set}
use Rattle.model.specs.Sound.{IsSound}
use Rattle.scenario_run.proofs.Alike.{alike_in_turn, go_alike}
use Rattle.scenario_run.specs.Acting.{acted, passes}
use Rattle.scenario_run.specs.Alike.{GoAlike}
use Rattle.scenario_run.specs.declared.playing.Outcome.{Outcome}
use Rattle.scenario_run.specs.Playing.{Playing}
use Rattle.scenario_steps.specs.declared.scenario.Step.{Step}
use Rattle.scenario_together.proofs.Alike.{fails_same, may_same, turned}
use Rattle.scenario_together.proofs.Ways.{WentAlike, acted_alike}
use Rattle.scenario_together.specs.Interleaving.{IsEnd, LeadAlike, MeetFew, behind, fails_with, may_step, steps_of}
use Rattle.scenario_together.specs.Joining.{ActedOn, Covers, HasLike, IsAmong, JoinedOn, Known, Moves}
use Rattle.scenario_together.specs.Likeness.{IsLike, SameWay, same_way}
use Rattle.scenario_steps.specs.Steps.{together_of}
use Rattle.scenario_together.specs.Plays.{AllPass, Comes, FailsAt, FailsSo, Leads, LeadsBy, Passes, PassesBy, worlds_of}
use Rattle.scenario_together.specs.Together.{GoWell}
use Rattle.tell_uses.specs.Pending.{AcceptedRunsShowNoDisagreement}
use Rattle.hunt_walks.specs.Walks.{IsMet, IsWalk, goes, rests}

-- with one step more at the end
pass_more : (p : Playing) (before : List Step) (step : Step) → AllPass p before
    → ((q : Playing) → Comes p before q → Passes q step) → AllPass p (before ++ step ∷ [])
pass_more p [] step all each = (each p refl, λ q leads. tt)
pass_more p (s ∷ before) step all each = (
  all.0,
  λ q leads. pass_more q before step (all.1 q leads) (λ r comes. each r (q, leads, comes)),
)

comes_more : (p : Playing) (before : List Step) (step : Step) (q r : Playing) → Comes p before q
    → Leads q step r → Comes p (before ++ step ∷ []) r
comes_more p [] step q r comes leads =
    (r, subst (λ (x : Playing). Leads x step r) comes leads, refl)
comes_more p (s ∷ before) step q r comes leads =
    (comes.0, comes.1, comes_more comes.0 before step q r comes.2 leads)

-- the play before the last step
record Last (p : Playing) (before : List Step) (step : Step) (r : Playing) : Type 0 where
  play : Playing
  comes : Comes p before play
  leads : Leads play step r

comes_less : (p : Playing) (before : List Step) (step : Step) (r : Playing)
    → Comes p (before ++ step ∷ []) r → Last p before step r
comes_less p [] step r comes =
    record {
      play = p;
      comes = refl;
      leads = subst (λ (x : Playing). Leads p step x) (sym comes.2) comes.1;
    }
comes_less p (s ∷ before) step r comes =
    let last : Last comes.0 before step r = comes_less comes.0 before step r comes.2 in
    record { play = last.play; comes = (comes.0, comes.1, last.comes); leads = last.leads }

pub fails_there : (more : Bool) (p : Playing) (before after : List Step) (step : Step)
    (q now : Playing) → AllPass p before → Comes p before q → FailsSo more q step now
    → FailsAt more p (before ++ step ∷ after) step now
fails_there more p before after step q now pass comes fails =
    record {
      before = before;
      later = after;
      parts = refl;
      pass = pass;
      play = q;
      comes = comes;
      fails = fails;
    }

-- before the first step
single : (p q : Playing) (k : ℕ) → slice_get (p ∷ []) k ≡ Some q → q ≡ p
single p q zero at = let same : p ≡ q = cc in sym same
single p q (suc k) at = cc

pub covers_begun : (merges : Bool) (p : Playing) → Covers merges p [] (p ∷ [])
covers_begun merges p =
    record {
      pass = tt;
      sound = λ q among. single p q among.number among.there;
      all = λ q comes.
          record { like = p; among = record { number = 0; there = refl }; same = inl (sym comes) };
    }

-- likeness
way_by : (p : Playing) (others : List Event) → GoAlike p.set p.threads p.events others
    → (r : Playing) → SameWay (record p { events = others }) r → SameWay p r
way_by p others alike _ (same_way _ more later) =
    same_way p more (alike_in_turn p.set p.threads p.events others more alike later)

way_on : (p q r : Playing) → SameWay p q → SameWay q r → SameWay p r
way_on _ _ r (same_way p others alike) way = way_by p others alike r way

like_on : (merges : Bool) (p q r : Playing) → IsLike merges p q → IsLike merges q r
    → IsLike merges p r
like_on merges p q r (inl is) later = subst (λ (x : Playing). IsLike merges x r) (sym is) later
like_on merges p q r (inr way) (inl is) =
    inr (way.0, subst (λ (x : Playing). SameWay p x) is way.1)
like_on merges p q r (inr way) (inr more) = inr (way.0, way_on p q r way.1 more.1)

-- behind the same threads plays go the same way, if they did
go_behind : SameWorldsGoOnAlike → (set : Set) → IsSound set → (threads : ℕ) (path : List ℕ)
    (a b : List Event) → GoAlike set threads a b
    → GoAlike set threads (a ++ steps_of path) (b ++ steps_of path)
go_behind law set sound threads [] a b alike =
    subst (λ (es : List Event). GoAlike set threads es (b ++ [])) (sym (append-nil a))
    (subst (λ (es : List Event). GoAlike set threads a es) (sym (append-nil b)) alike)
go_behind law set sound threads (t ∷ path) a b alike =
    let e : Event = StepEvent t in
    let on : GoAlike set threads ((a ++ e ∷ []) ++ steps_of path)
    ((b ++ e ∷ []) ++ steps_of path) =
    go_behind law set sound threads path (a ++ e ∷ []) (b ++ e ∷ [])
    (go_alike law set sound threads a b e alike) in
    subst (λ (es : List Event). GoAlike set threads es (b ++ e ∷ steps_of path))
    (append_assoc a (e ∷ []) (steps_of path))
    (subst (λ (es : List Event). GoAlike set threads ((a ++ e ∷ []) ++ steps_of path) es)
    (append_assoc b (e ∷ []) (steps_of path)) on)

walk_too : (may ill can fail : List ℕ → ℕ → Bool)
    → ((path : List ℕ) (t : ℕ) → may path t ≡ can path t)
    → ((path : List ℕ) (t : ℕ) → ill path t ≡ fail path t) → (path : List ℕ) → IsWalk may ill path
    → IsWalk can fail path
walk_too may ill can fail mays ills path rests = rests
walk_too may ill can fail mays ills path (goes before t walk is well) =
    goes before t (walk_too may ill can fail mays ills before walk) (sym (mays before t) ∙ is)
    (sym (ills before t) ∙ well)

module _ (law : SameWorldsGoOnAlike) (named : List Bool) (p : Playing) (others : List Event)
    (sound : IsSound p.set) (alike : GoAlike p.set p.threads p.events others) where
  abbrev other : Playing
  other = record p { events = others }

  behind_alike : (path : List ℕ)
      → GoAlike p.set p.threads (behind p path).events (behind other path).events
  behind_alike path = go_behind law p.set sound p.threads path p.events others alike

  mays : (path : List ℕ) (t : ℕ) → may_step named p path t ≡ may_step named other path t
  mays path t =
      may_same law named p sound t (behind p path).events (behind other path).events
      (behind_alike path)

  ills : (path : List ℕ) (t : ℕ) → fails_with p path t ≡ fails_with other path t
  ills path t =
      fails_same law named p sound t (behind p path).events (behind other path).events
      (behind_alike path)

  way_behind : (path : List ℕ) → SameWay (behind p path) (behind other path)
  way_behind path = same_way (behind p path) (behind other path).events (behind_alike path)

  well_too : GoWell named p → GoWell named other
  well_too well path t walk may =
      sym (ills path t)
      ∙ well path t
      (walk_too (may_step named other) (fails_with other) (may_step named p) (fails_with p)
      (λ path t. sym (mays path t)) (λ path t. sym (ills path t)) path walk)
      (mays path t ∙ may)

  lead_too : (a b : List ℕ) → LeadAlike p a b → LeadAlike other a b
  lead_too a b alike_there =
      alike_in_turn p.set p.threads (behind other a).events (behind p a).events
      (behind other b).events
      (turned p.set p.threads (behind p a).events (behind other a).events (behind_alike a))
      (alike_in_turn p.set p.threads (behind p a).events (behind p b).events
      (behind other b).events alike_there (behind_alike b))

  met_too : (paths : List (List ℕ)) (path : List ℕ) → IsMet (LeadAlike p) paths path
      → IsMet (LeadAlike other) paths path
  met_too paths path met =
      record {
        number = met.number;
        other = met.other;
        kept = met.kept;
        same =
            elim met.same [
              | inl is ↦ inl is
              | inr there ↦ inr (lead_too path met.other there)
            ];
      }

  few_too : (worlds : ℕ) → MeetFew named worlds p → MeetFew named worlds other
  few_too worlds meet =
      record {
        paths = meet.paths;
        few = meet.few;
        met = λ path walk.
            met_too meet.paths path
            (meet.met path
            (walk_too (may_step named other) (fails_with other) (may_step named p) (fails_with p)
            (λ path t. sym (mays path t)) (λ path t. sym (ills path t)) path walk));
      }

  end_too : (path : List ℕ) → IsEnd named other path → IsEnd named p path
  end_too path end =
      record {
        walk = walk_too (may_step named other) (fails_with other) (may_step named p)
            (fails_with p) (λ path t. sym (mays path t)) (λ path t. sym (ills path t)) path
            end.walk;
        rests = λ t. mays path t ∙ end.rests t;
      }

-- what a play led to, and what is like it
record LeadsLike (merges : Bool) (step : Step) (o : Option (List Bool)) (r q : Playing) : Type 0
  where
    play : Playing
    leads : LeadsBy r step o play
    like : IsLike merges play q

module _ (law : SameWorldsGoOnAlike) (agreed : AcceptedRunsShowNoDisagreement) (merges : Bool)
    (step : Step) where
  went_like : (r q : Playing) → Known merges step r → merges ≡ true → SameWay r q
      → WentAlike (acted r step.action) (acted q step.action)
  went_like r q known on way =
      acted_alike law agreed step.action r q known.sound way (known.typable on)

  pass_way : (o : Option (List Bool)) (r q : Playing) → Known merges step r → merges ≡ true
      → SameWay r q → PassesBy r step o → PassesBy q step o
  pass_way None r q known on way pass =
      ap (λ (x : Outcome). passes step.may x) (sym (went_like r q known on way).outcome) ∙ pass
  pass_way (Some named) _ _ known on (same_way p others alike) pass = (
    pass.0,
    well_too law named p others known.sound alike pass.1,
    few_too law named p others known.sound alike (worlds_of step.action) pass.2,
  )

  pass_like : (r q : Playing) → Known merges step r → IsLike merges r q → Passes r step
      → Passes q step
  pass_like r q known (inl is) pass = subst (λ (x : Playing). Passes x step) is pass
  pass_like r q known (inr way) pass =
      pass_way (together_of step.action) r q known way.0 way.1 pass

  lead_way : (o : Option (List Bool)) (r q s : Playing) → Known merges step r → merges ≡ true
      → SameWay r q → LeadsBy q step o s → LeadsLike merges step o r s
  lead_way None r q s known on way leads =
      let went : WentAlike (acted r step.action) (acted q step.action) =
      went_like r q known on way in
      record {
        play = (acted r step.action).now;
        leads = (
          ap (λ (x : Outcome). passes step.may x) went.outcome ∙ leads.0,
          refl,
        );
        like = inr (
          on,
          subst (λ (x : Playing). SameWay (acted r step.action).now x) (sym leads.1) went.now,
        );
      }
  lead_way (Some named) _ _ s known on (same_way p others alike) leads =
      record {
        play = behind p leads.0;
        leads = (leads.0, end_too law named p others known.sound alike leads.0 leads.1, refl);
        like = inr (
          on,
          subst (λ (x : Playing). SameWay (behind p leads.0) x) (sym leads.2)
              (way_behind law named p others known.sound alike leads.0),
        );
      }

  lead_like : (r q s : Playing) → Known merges step r → IsLike merges r q → Leads q step s
      → LeadsLike merges step (together_of step.action) r s
  lead_like r q s known (inl is) leads =
      record {
        play = s;
        leads = subst (λ (x : Playing). Leads x step s) (sym is) leads;
        like = inl refl;
      }
  lead_like r q s known (inr way) leads =
      lead_way (together_of step.action) r q s known way.0 way.1 leads

  -- plays that cover steps, and what one step more leads them to
  module _ (p : Playing) (steps : List Step) (plays next : List Playing)
      (covers : Covers merges p steps plays) (moves : Moves merges step plays next)
      (known : (r : Playing) → IsAmong plays r → Known merges step r) where
    each_passes : (q : Playing) → Comes p steps q → Passes q step
    each_passes q comes =
        let has : HasLike merges plays q = covers.all q comes in
        pass_like has.like q (known has.like has.among) has.same (moves.pass has.like has.among)

    sound_more : (q : Playing) → IsAmong next q → Comes p (steps ++ step ∷ []) q
    sound_more q among =
        let from : (r : Playing) × IsAmong plays r × Leads r step q = moves.sound q among in
        comes_more p steps step from.0 q (covers.sound from.0 from.1) from.2

    all_more : (q : Playing) → Comes p (steps ++ step ∷ []) q → HasLike merges next q
    all_more q comes =
        let last : Last p steps step q = comes_less p steps step q comes in
        let has : HasLike merges plays last.play = covers.all last.play last.comes in
        let led : LeadsLike merges step (together_of step.action) has.like q =
        lead_like has.like last.play q (known has.like has.among) has.same last.leads in
        let found : HasLike merges next led.play =
        moves.all has.like led.play has.among led.leads in
        record {
          like = found.like;
          among = found.among;
          same = like_on merges found.like led.play q found.same led.like;
        }

    pub covers_on : Covers merges p (steps ++ step ∷ []) next
    covers_on =
        record {
          pass = pass_more p steps step covers.pass each_passes;
          sound = sound_more;
          all = all_more;
        }

-- what each play did by itself
among_or : (plays : List Playing) (k : ℕ) (d : Playing) → k < length plays
    → IsAmong plays (get_or plays k d)
among_or plays k d inside = record { number = k; there = slice_get-get_or plays k d inside }

one_of_two : {A : Type 0} (o : Option A) (x y : A) → o ≡ Some x → o ≡ Some y → x ≡ y
one_of_two o x y h g = cc

module _ (merges : Bool) (step : Step) (plays next : List Playing)
    (alone : together_of step.action ≡ None) (acts : ActedOn step plays next) where
  leads_to : (r : Playing) → IsAmong plays r → Leads r step (acted r step.action).now
  leads_to r among =
      subst (λ (o : Option (List Bool)). LeadsBy r step o (acted r step.action).now) (sym alone)
      (acts.pass r among, refl)

  from_one : (q : Playing) → IsAmong next q → (r : Playing) × IsAmong plays r × Leads r step q
  from_one q among =
      let inside : among.number < length next =
      slice_get_within next among.number q among.there in
      let within : among.number < length plays = omega (arith, inside, acts.long) in
      let r : Playing = get_or plays among.number q in
      let there : IsAmong plays r = among_or plays among.number q within in
      let same : (acted r step.action).now ≡ q =
      one_of_two (slice_get next among.number) (acted r step.action).now q
      (acts.acted_on among.number r (slice_get-get_or plays among.number q within))
      among.there in
      (r, there, subst (λ (x : Playing). Leads r step x) same (leads_to r there))

  to_one : (r q : Playing) → IsAmong plays r → Leads r step q → HasLike merges next q
  to_one r q among leads =
      let by : LeadsBy r step None q =
      subst (λ (o : Option (List Bool)). LeadsBy r step o q) alone leads in
      record {
        like = (acted r step.action).now;
        among = record {
          number = among.number;
          there = acts.acted_on among.number r among.there;
        };
        same = inl (sym by.1);
      }

  pub moves_alone : Moves merges step plays next
  moves_alone =
      record {
        pass = λ r among.
            subst (λ (o : Option (List Bool)). PassesBy r step o) (sym alone)
            (acts.pass r among);
        sound = from_one;
        all = to_one;
      }

-- and what they came to together
module _ (merges : Bool) (step : Step) (named : List Bool) (plays ends : List Playing)
    (crew : together_of step.action ≡ Some named)
    (joins : JoinedOn merges named (worlds_of step.action) plays ends) where
  pub moves_together : Moves merges step plays ends
  moves_together =
      record {
        pass = λ r among.
            subst (λ (o : Option (List Bool)). PassesBy r step o) (sym crew)
            (joins.there r among, joins.well r among, joins.few r among);
        sound = λ q among.
            let from = joins.sound q among in (
              from.0,
              from.1,
              subst (λ (o : Option (List Bool)). LeadsBy from.0 step o q) (sym crew)
                  (from.2, from.3, from.4),
            );
        all = λ r q among leads.
            let by : LeadsBy r step (Some named) q =
            subst (λ (o : Option (List Bool)). LeadsBy r step o q) crew leads in
            subst (λ (x : Playing). HasLike merges ends x) (sym by.2)
            (joins.all r by.0 among by.1);
      }
