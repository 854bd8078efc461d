-- Interleavings that lead to one world go on alike.
use Rattle.std.proofs.Common.{◌≡◌, ◌∙◌, ◌++◌, ◌&&◌, ◌<◌, ◌≤◌, ◌+◌, ℕ, Bool, true, false, not, List, [], ◌∷◌, append_assoc, ap, get_or, length, nat_lt, refl, subst, sym, take, if◌then◌else◌}
use Rattle.std.proofs.lemmas.List.{take_all, take_more}
use Rattle.checked.specs.SameWorlds.{SameWorldsGoOnAlike}
use Rattle.model.specs.declared.event.Event.{Event}
use Rattle.model.specs.declared.event.Event.TheVariants.{Step}
use Rattle.model.specs.declared.event.Reply.{Reply}
use Rattle.model.specs.declared.event.Reply.TheVariants.{Refused}
use Rattle.model.specs.Set.{Set}
use Rattle.model.specs.Sound.{IsSound}
use Rattle.model.specs.World.{World}
use Rattle.scenario_run.proofs.Alike.{alike_in_turn, go_alike, reply_alike}
use Rattle.scenario_run.specs.Acting.{passes}
use Rattle.scenario_run.specs.Alike.{GoAlike}
use Rattle.scenario_run.specs.Playing.{Playing, one, outcome_of, reply_in, run_of, world_of}
use Rattle.scenario_together.specs.Interleaving.{LeadAlike, LeadIf, behind, fails_with, goes_on, is_named, may_step, steps_of}
use Rattle.hunt_walks.specs.Walks.{AreAlike}
use Rattle.scenario_world.specs.Going.{goes_on as goes_on_in}

-- what goes alike does so the other way round
pub turned : (set : Set) (threads : ℕ) (a b : List Event) → GoAlike set threads a b
    → GoAlike set threads b a
turned set threads a b alike =
    record {
      long = sym alike.long;
      stand = record { world = sym alike.stand.world; stopped = sym alike.stand.stopped };
      tell = record { tops = λ n. sym (alike.tell.tops n); bugs = λ n. sym (alike.tell.bugs n) };
    }

-- with one step more
steps_more : (path : List ℕ) (t : ℕ) → steps_of (path ++ t ∷ []) ≡ steps_of path ++ Step t ∷ []
steps_more [] t = refl
steps_more (u ∷ path) t = ap (λ (es : List Event). Step u ∷ es) (steps_more path t)

pub steps_added : (before events more : List Event) (threads : List ℕ) (i d : ℕ)
    → i < length threads → events ≡ before ++ steps_of (take i threads)
    → more ≡ events ++ Step (get_or threads i d) ∷ []
    → more ≡ before ++ steps_of (take (i + 1) threads)
steps_added before events more threads i d inside was now =
    let e : Event = Step (get_or threads i d) in
    now
    ∙ ap (λ (es : List Event). es ++ e ∷ []) was
    ∙ append_assoc before (steps_of (take i threads)) (e ∷ [])
    ∙ ap (λ (es : List Event). before ++ es)
    (sym (steps_more (take i threads) (get_or threads i d)))
    ∙ ap (λ (ts : List ℕ). before ++ steps_of ts) (sym (take_more threads i d inside))

pub steps_all : (before events : List Event) (threads : List ℕ) (i : ℕ) → length threads ≤ i
    → events ≡ before ++ steps_of (take i threads) → events ≡ before ++ steps_of threads
steps_all before events threads i all was =
    was ∙ ap (λ (ts : List ℕ). before ++ steps_of ts) (take_all i threads all)

pub events_more : (p : Playing) (path : List ℕ) (t : ℕ)
    → (behind p (path ++ t ∷ [])).events ≡ (behind p path).events ++ Step t ∷ []
events_more p path t =
    ap (λ (es : List Event). p.events ++ es) (steps_more path t)
    ∙ sym (append_assoc p.events (steps_of path) (Step t ∷ []))

module _ (law : SameWorldsGoOnAlike) (named : List Bool) (p : Playing) (sound : IsSound p.set)
  where
    abbrev may_by : ℕ → World → Bool → Bool
    may_by t w stopped =
        is_named named t
        && (not stopped && goes_on_in p.set w t)

    pub may_same : (t : ℕ) (a b : List Event) → GoAlike p.set p.threads a b
        → (is_named named t && goes_on (record p { events = a }) t)
        ≡ (is_named named t && goes_on (record p { events = b }) t)
    may_same t a b alike =
        ap (λ (w : World). may_by t w (run_of (record p { events = a })).stopped) alike.stand.world
        ∙ ap (λ (s : Bool). may_by t (world_of (record p { events = b })) s) alike.stand.stopped

    abbrev fails_by : ℕ → Reply → Bool
    fails_by n reply =
        not (passes false (outcome_of (if nat_lt n 1000000 then reply else Refused)))

    pub fails_same : (t : ℕ) (a b : List Event) → GoAlike p.set p.threads a b
        → not (passes false (one (record p { events = a }) (Step t)).outcome)
        ≡ not (passes false (one (record p { events = b }) (Step t)).outcome)
    fails_same t a b alike =
        ap (λ (n : ℕ). fails_by n (reply_in (record p { events = a }) (Step t))) alike.long
        ∙ ap (λ (r : Reply). fails_by (length b) r)
        (reply_alike law p.set sound p.threads a b (Step t) alike)

    may_alike : (a b : List ℕ) (t : ℕ) → LeadAlike p a b → may_step named p a t ≡ may_step named p b t
    may_alike a b t alike = may_same t (behind p a).events (behind p b).events alike

    fails_alike : (a b : List ℕ) (t : ℕ) → LeadAlike p a b → may_step named p a t ≡ true
        → fails_with p a t ≡ fails_with p b t
    fails_alike a b t alike may = fails_same t (behind p a).events (behind p b).events alike

    goes_alike : (a b : List ℕ) (t : ℕ) → LeadAlike p a b → may_step named p a t ≡ true
        → fails_with p a t ≡ false → LeadAlike p (a ++ t ∷ []) (b ++ t ∷ [])
    goes_alike a b t alike may well =
        subst (λ (es : List Event). GoAlike p.set p.threads es (behind p (b ++ t ∷ [])).events)
        (sym (events_more p a t))
        (subst (λ (es : List Event). GoAlike p.set p.threads ((behind p a).events ++ Step t ∷ []) es)
        (sym (events_more p b t))
        (go_alike law p.set sound p.threads (behind p a).events (behind p b).events (Step t) alike))

    lead_so : AreAlike (may_step named p) (fails_with p) (LeadAlike p)
    lead_so =
        record {
          joins = λ a b c ab bc.
              alike_in_turn p.set p.threads (behind p a).events (behind p b).events
              (behind p c).events ab bc;
          may_too = may_alike;
          fails_too = fails_alike;
          goes_too = goes_alike;
        }

    pub lead_alike : (merges : Bool) → AreAlike (may_step named p) (fails_with p) (LeadIf merges p)
    lead_alike true = lead_so
    lead_alike false =
        record {
          joins = λ a b c ab bc. absurd ab;
          may_too = λ a b t ab. absurd ab;
          fails_too = λ a b t ab may. absurd ab;
          goes_too = λ a b t ab may well. absurd ab;
        }
