-- Threads that run together from several plays.
use Rattle.std.proofs.Common.{◌≡◌, ◌∙◌, ◌<◌, ◌≤◌, ◌+◌, ◌++◌, ◌⊎◌, ℕ, zero, suc, Bool, true, false, List, [], ◌∷◌, Option, None, Some, Result, Ok, Err, IfOk, ap, get_or, inl, inr, length, refl, slice_get, subst, sym, take}
use Rattle.std.proofs.lemmas.List.{take_all, take_more}
use Rattle.std.proofs.lemmas.Option.{slice_get-get_or, slice_get_within}
use Rattle.std.specs.Global.{Vec}
use Rattle.model.specs.declared.event.Event.{Event}
use Rattle.model.specs.Set.{Set}
use Rattle.scenario_run.specs.Acting.{acted}
use Rattle.scenario_run.specs.Alike.{GoAlike}
use Rattle.scenario_run.specs.Playing.{Playing}
use Rattle.scenario_steps.specs.declared.scenario.Step.{Step}
use Rattle.scenario_together.proofs.Alike.{turned}
use Rattle.scenario_together.proofs.Covering.{moves_alone, moves_together}
use Rattle.std.specs.Prelude.{option_map}
use Rattle.scenario_steps.specs.declared.scenario.Action.{Action}
use Rattle.scenario_together.specs.declared.play.Crew.{Crew}
use Rattle.scenario_together.specs.declared.play.Joined.{Joined}
use Rattle.scenario_together.specs.declared.play.Played.{Played}
use Rattle.scenario_together.specs.declared.play.Joined.TheVariants as joined
use Rattle.scenario_together.specs.declared.together.Together.{Together}
use Rattle.scenario_together.specs.declared.together.Together.TheVariants as together
use Rattle.scenario_together.specs.Interleaving.{AreMany, IsEnd, LeadIf, MeetFew, behind}
use Rattle.scenario_together.specs.Joining.{ActedAll, ActedOn, FailsIn, FailsJoined, HasLike, IsAmong, JoinedAll, JoinedOn, JoinedOne, Leaves, Moves, StopsAt, StopsIn}
use Rattle.scenario_together.specs.Likeness.{IsLike, same_way}
use Rattle.scenario_steps.specs.Steps.{together_of}
use Rattle.scenario_together.specs.Plays.{AreThere, FailsBy, MeetsBy, worlds_of}
use Rattle.scenario_together.specs.Together.{AreEnds, GoWell, IsReached, IsTogether}

-- one more at the end of some
either : (plays : List Playing) (p q : Playing) (k : ℕ)
    → slice_get (plays ++ p ∷ []) k ≡ Some q → IsAmong plays q ⊎ (q ≡ p)
either [] p q zero at = let same : p ≡ q = cc in inr (sym same)
either [] p q (suc k) at = cc
either (x ∷ plays) p q zero at = inl (record { number = 0; there = at })
either (x ∷ plays) p q (suc k) at =
    elim (either plays p q k at) [
      | inl old ↦ inl (record { number = suc old.number; there = old.there })
      | inr new ↦ inr new
    ]

among_either : (plays : List Playing) (p q : Playing) → IsAmong (plays ++ p ∷ []) q
    → IsAmong plays q ⊎ (q ≡ p)
among_either plays p q among = either plays p q among.number among.there

-- and some at the end of others
among_two : (ours its : List Playing) (q : Playing) (k : ℕ)
    → slice_get (ours ++ its) k ≡ Some q → IsAmong ours q ⊎ IsAmong its q
among_two [] its q k at = inr (record { number = k; there = at })
among_two (x ∷ ours) its q zero at = inl (record { number = 0; there = at })
among_two (x ∷ ours) its q (suc k) at =
    elim (among_two ours its q k at) [
      | inl old ↦ inl (record { number = suc old.number; there = old.there })
      | inr new ↦ inr new
    ]

among_left : (ours its : List Playing) (q : Playing) (k : ℕ) → slice_get ours k ≡ Some q
    → IsAmong (ours ++ its) q
among_left [] its q k at = cc
among_left (x ∷ ours) its q zero at = record { number = 0; there = at }
among_left (x ∷ ours) its q (suc k) at =
    let later : IsAmong (ours ++ its) q = among_left ours its q k at in
    record { number = suc later.number; there = later.there }

among_right : (ours its : List Playing) (q : Playing) → IsAmong its q → IsAmong (ours ++ its) q
among_right [] its q among = among
among_right (x ∷ ours) its q among =
    let later : IsAmong (ours ++ its) q = among_right ours its q among in
    record { number = suc later.number; there = later.there }

-- before the first play, and with one more
no_play : (q : Playing) → IsAmong [] q → ⊥
no_play q among =
    let no : None ≡ Some q = among.there in cc

pub joined_none : (merges : Bool) (named : List Bool) (worlds : ℕ)
    → JoinedOn merges named worlds [] []
joined_none merges named worlds =
    record {
      there = λ p among. absurd (no_play p among);
      well = λ p among. absurd (no_play p among);
      few = λ p among. absurd (no_play p among);
      sound = λ q among. absurd (no_play q among);
      all = λ p path among end. absurd (no_play p among);
    }

like_by : (merges : Bool) (p : Playing) (path other : List ℕ)
    → (path ≡ other) ⊎ LeadIf merges p path other
    → IsLike merges (behind p other) (behind p path)
like_by merges p path other (inl is) = inl (ap (λ (x : List ℕ). behind p x) (sym is))
like_by true p path other (inr alike) =
    inr (
      refl,
      same_way (behind p other) (behind p path).events (turned p.set p.threads
          (behind p path).events (behind p other).events alike),
    )
like_by false p path other (inr alike) = absurd alike

reached_like : (merges : Bool) (p : Playing) (plays : List Playing) (path : List ℕ)
    → IsReached merges p plays path → HasLike merges plays (behind p path)
reached_like merges p plays path reached =
    record {
      like = behind p reached.other;
      among = record { number = reached.number; there = reached.kept };
      same = like_by merges p path reached.other reached.same;
    }

module _ (merges : Bool) (named : List Bool) (worlds : ℕ) (plays before ends : List Playing)
    (p : Playing) (so_far : JoinedOn merges named worlds plays before) (here : AreThere named p)
    (more : AreEnds merges named p ends) (meet : MeetFew named worlds p) where
  like_more : (q : Playing) → HasLike merges before q → HasLike merges (before ++ ends) q
  like_more q has =
      record {
        like = has.like;
        among = among_left before ends has.like has.among.number has.among.there;
        same = has.same;
      }

  like_new : (q : Playing) → HasLike merges ends q → HasLike merges (before ++ ends) q
  like_new q has =
      record {
        like = has.like;
        among = among_right before ends has.like has.among;
        same = has.same;
      }

  pub joined_more : JoinedOn merges named worlds (plays ++ p ∷ []) (before ++ ends)
  joined_more =
      record {
        there = λ q among.
            elim (among_either plays p q among) [
              | inl old ↦ so_far.there q old
              | inr new ↦ subst (λ (x : Playing). AreThere named x) (sym new) here
            ];
        well = λ q among.
            elim (among_either plays p q among) [
              | inl old ↦ so_far.well q old
              | inr new ↦ subst (λ (x : Playing). GoWell named x) (sym new) more.well
            ];
        few = λ q among.
            elim (among_either plays p q among) [
              | inl old ↦ so_far.few q old
              | inr new ↦ subst (λ (x : Playing). MeetFew named worlds x) (sym new) meet
            ];
        sound = λ q among.
            elim (among_two before ends q among.number among.there) [
              | inl old ↦
                  let from = so_far.sound q old in (
                    from.0,
                    among_left plays (p ∷ []) from.0 from.1.number from.1.there,
                    from.2,
                    from.3,
                    from.4,
                  )
              | inr new ↦
                  let end = more.sound new.number q new.there in (
                    p,
                    among_right plays (p ∷ []) p (record { number = 0; there = refl }),
                    end.0,
                    end.1,
                    end.2,
                  )
            ];
        all = λ q path among end.
            elim (among_either plays p q among) [
              | inl old ↦ like_more (behind q path) (so_far.all q path old end)
              | inr new ↦
                  subst (λ (x : Playing). HasLike merges (before ++ ends) (behind x path))
                  (sym new)
                  (like_new (behind p path)
                  (reached_like merges p ends path
                  (more.all path (subst (λ (x : Playing). IsEnd named x path) new end))))
            ];
      }

-- so far, by a place
pub joined_next : (merges : Bool) (named : List Bool) (worlds : ℕ)
    (plays before ends after : List Playing) (i : ℕ) (p : Playing) → i < length plays
    → p ≡ get_or plays i p → JoinedOn merges named worlds (take i plays) before
    → AreThere named p × AreEnds merges named p ends × MeetFew named worlds p
    → after ≡ before ++ ends → JoinedOn merges named worlds (take (i + 1) plays) after
joined_next merges named worlds plays before ends after i p inside is so_far here grown =
    let further : take (i + 1) plays ≡ take i plays ++ p ∷ [] =
    take_more plays i p inside ∙ ap (λ (x : Playing). take i plays ++ x ∷ []) (sym is) in
    subst (λ (qs : List Playing). JoinedOn merges named worlds (take (i + 1) plays) qs) (sym grown)
    (subst (λ (xs : List Playing). JoinedOn merges named worlds xs (before ++ ends)) (sym further)
    (joined_more merges named worlds (take i plays) before ends p so_far here.0 here.1 here.2))

pub joined_all : (merges : Bool) (named : List Bool) (worlds : ℕ) (plays ends : List Playing)
    (i : ℕ) → length plays ≤ i → JoinedOn merges named worlds (take i plays) ends
    → JoinedOn merges named worlds plays ends
joined_all merges named worlds plays ends i all so_far =
    subst (λ (xs : List Playing). JoinedOn merges named worlds xs ends) (take_all i plays all)
    so_far

-- or not so far
at_place : (plays : List Playing) (i : ℕ) (p : Playing) → i < length plays → p ≡ get_or plays i p
    → IsAmong plays p
at_place plays i p inside is =
    record {
      number = i;
      there = slice_get-get_or plays i p inside ∙ ap (λ (x : Playing). Some x) (sym is);
    }

pub failing_in : (merges : Bool) (named : List Bool) (worlds : ℕ) (step : Step)
    (plays : List Playing) (i : ℕ) (p now : Playing) (one : Joined) → i < length plays
    → p ≡ get_or plays i p → JoinedOne merges named worlds p one → one ≡ joined.Fails now
    → FailsJoined named step plays now
failing_in merges named worlds step plays i p now one inside is so fails =
    record {
      play = p;
      among = at_place plays i p inside is;
      fails = subst (λ (j : Joined). JoinedOne merges named worlds p j) fails so;
    }

pub ends_in : (merges : Bool) (named : List Bool) (worlds : ℕ) (p : Playing) (ends : Vec Playing)
    (one : Joined) → JoinedOne merges named worlds p one → one ≡ joined.Ends ends
    → AreThere named p × AreEnds merges named p ends.items × MeetFew named worlds p
ends_in merges named worlds p ends one so is =
    subst (λ (j : Joined). JoinedOne merges named worlds p j) is so

pub more_in : (merges : Bool) (named : List Bool) (worlds : ℕ) (plays : List Playing) (i : ℕ)
    (p now : Playing) (one : Joined) → i < length plays → p ≡ get_or plays i p
    → JoinedOne merges named worlds p one → one ≡ joined.More now
    → IsAmong plays now × AreMany named worlds now
more_in merges named worlds plays i p now one inside is so more =
    let many : AreMany named worlds p × (now ≡ p) =
    subst (λ (j : Joined). JoinedOne merges named worlds p j) more so in (
      subst (λ (x : Playing). IsAmong plays x) (sym many.1) (at_place plays i p inside is),
      subst (λ (x : Playing). AreMany named worlds x) (sym many.1) many.0,
    )

-- what comes of one play
pub joined_ends : (merges : Bool) (named : List Bool) (worlds : ℕ) (p home : Playing)
    (ends : Vec Playing) (found : Together) → AreThere named p → home ≡ p
    → IsTogether merges named worlds home found → found ≡ together.Ends ends
    → JoinedOne merges named worlds p (joined.Ends ends)
joined_ends merges named worlds p home ends found there same so is =
    let here : IsTogether merges named worlds p found =
    subst (λ (q : Playing). IsTogether merges named worlds q found) same so in
    let both : IsTogether merges named worlds p (together.Ends ends) =
    subst (λ (t : Together). IsTogether merges named worlds p t) is here in
    (there, both.0, both.1)

pub joined_beyond : (merges : Bool) (named : List Bool) (worlds : ℕ) (p home now : Playing)
    (found : Together) → home ≡ p → now ≡ p → IsTogether merges named worlds home found
    → found ≡ together.More → JoinedOne merges named worlds p (joined.More now)
joined_beyond merges named worlds p home now found same again so is =
    let here : IsTogether merges named worlds p found =
    subst (λ (q : Playing). IsTogether merges named worlds q found) same so in (
      subst (λ (t : Together). IsTogether merges named worlds p t) is here,
      again,
    )

-- what a step leaves
pub left_ends : (merges : Bool) (step : Step) (named : List Bool) (plays ends : List Playing)
    → together_of step.action ≡ Some named
    → JoinedOn merges named (worlds_of step.action) plays ends
    → Moves merges step plays ends
left_ends merges step named plays ends crew joins =
    moves_together merges step named plays ends crew joins

pub left_fails : (step : Step) (named : List Bool) (plays : List Playing) (now : Playing)
    → together_of step.action ≡ Some named → FailsJoined named step plays now
    → StopsIn false step plays now
left_fails step named plays now crew fails =
    record {
      play = fails.play;
      among = fails.among;
      fails = subst (λ (o : Option (List Bool)). FailsBy fails.play step o now) (sym crew)
          fails.fails;
    }

pub left_more : (step : Step) (named : List Bool) (plays : List Playing) (now : Playing)
    → together_of step.action ≡ Some named
    → IsAmong plays now × AreMany named (worlds_of step.action) now
    → StopsIn true step plays now
left_more step named plays now crew more =
    record {
      play = now;
      among = more.0;
      fails = subst (λ (o : Option (List Bool)). MeetsBy now step o now) (sym crew)
          (more.1, refl);
    }

pub left_alone : (merges : Bool) (step : Step) (plays next : List Playing)
    → together_of step.action ≡ None → ActedOn step plays next → Moves merges step plays next
left_alone merges step plays next alone acts = moves_alone merges step plays next alone acts

one_of_two : {A : Type 0} (o : Option A) (x y : A) → o ≡ Some x → o ≡ Some y → x ≡ y
one_of_two o x y h g = cc

pub left_one : (step : Step) (plays next : List Playing) (place : ℕ) (now : Playing)
    → together_of step.action ≡ None → FailsIn step plays next place
    → slice_get next place ≡ Some now → StopsIn false step plays now
left_one step plays next place now alone fails at =
    record {
      play = fails.play;
      among = record { number = place; there = fails.there };
      fails = subst (λ (o : Option (List Bool)). FailsBy fails.play step o now) (sym alone) (
        fails.fails,
        one_of_two (slice_get next place) now (acted fails.play step.action).now at
            fails.now,
      );
    }

pub over_by : (step : Step) (plays : List Playing) (played : Played) (now : Playing) (more : Bool)
    → played ≡ record { now = now; failed = Some (record { step = step; more = more }) }
    → StopsIn more step plays now → StopsAt step plays played.now played.failed
over_by step plays played now more is stops =
    subst (λ (x : Played). StopsAt step plays x.now x.failed) (sym is) (refl, stops)

pub joined_is : (merges : Bool) (named : List Bool) (worlds : ℕ) (step : Step)
    (plays : List Playing) (all one : Joined) → JoinedAll merges named worlds step plays all
    → all ≡ one → JoinedAll merges named worlds step plays one
joined_is merges named worlds step plays all one so is =
    subst (λ (j : Joined). JoinedAll merges named worlds step plays j) is so

pub joined_so : (merges : Bool) (named : List Bool) (worlds most : ℕ) (step : Step)
    (plays : List Playing) (all : Joined) → worlds ≡ most
    → JoinedAll merges named worlds step plays all → JoinedAll merges named most step plays all
joined_so merges named worlds most step plays all is so =
    subst (λ (n : ℕ). JoinedAll merges named n step plays all) is so

pub acted_is : (step : Step) (before after : List Playing) (place : Option ℕ)
    → ActedAll step before after place → place ≡ None → ActedOn step before after
acted_is step before after place acts none =
    subst (λ (o : Option ℕ). ActedAll step before after o) none acts

pub crew_is : (action : Action) (found : Option Crew) (crew : Crew)
    → together_of action ≡ option_map (λ (c : Crew). c.threads) found → found ≡ Some crew
    → together_of action ≡ Some crew.threads
crew_is action found crew is at =
    is ∙ ap (λ (o : Option Crew). option_map (λ (c : Crew). c.threads) o) at

-- where it fails in one
pub acted_in : (step : Step) (before after : List Playing) (found : Option ℕ) (place : ℕ)
    → ActedAll step before after found → found ≡ Some place → FailsIn step before after place
acted_in step before after found place acts at =
    subst (λ (o : Option ℕ). ActedAll step before after o) at acts

pub fails_inside : (step : Step) (before after : List Playing) (place : ℕ)
    → FailsIn step before after place → place < length after
fails_inside step before after place fails =
    slice_get_within after place (acted fails.play step.action).now fails.now

-- the play at a place, taken out
pub taken_at : (plays : List Playing) (place : ℕ) (taken : Playing) → place < length plays
    → taken ≡ get_or plays place taken → slice_get plays place ≡ Some taken
taken_at plays place taken inside is =
    slice_get-get_or plays place taken inside ∙ ap (λ (x : Playing). Some x) (sym is)

-- whatever is taken for one
pub each_merges : {E : Type 0} (merges : Bool) (step : Step) (plays next : List Playing)
    (result : Result (Option Played) E)
    → IfOk result (λ over. (all : Bool) → Leaves all step plays next over)
    → IfOk result (Leaves merges step plays next)
each_merges merges step plays next (Ok over) h = h merges
each_merges merges step plays next (Err e) h = h
