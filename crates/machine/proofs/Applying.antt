-- An event that is carried out on words is applied to what they show.
use Rattle.std.proofs.Common.{◌≢◌, ℕ, List, [], ◌∷◌, ◌++◌, refl, sym, subst, ap, ◌∙◌}
use Rattle.model.specs.declared.event.Event.{Event}
use Rattle.model.specs.declared.event.Reply.{Reply}
use Rattle.model.specs.declared.event.Reply.TheVariants.{Refused}
use Rattle.model.specs.Machine.{Applies, Shows, reply_to}
use Rattle.model.specs.Run.{run}
use Rattle.model.specs.Set.{Set}
use Rattle.model.specs.Sound.{IsSound}
use Rattle.model.specs.Typable.{IsTypable}
use Rattle.machine.specs.Runs.{GoesOn, IsMeant, StepsThreads}
use Rattle.laws_runs.specs.NeverStops.{LetsGoOn}
use Rattle.laws_runs.specs.Rules.{AcceptedRunsKeepTheRules}
use Rattle.laws_slots.specs.WordsDone.{WordEventsShowRuns, WordEventDone, WordsMeanAfter}
use Rattle.laws_slots.specs.WordsFit.{WordEventFits, WordEventsFit}
use Rattle.laws_slots.specs.ShownWords.{WordsMeanWhatTheyShow, WordsShowWhatTheyMean, shown_words}
use Rattle.laws_slots.specs.WordStep.{WordAnswer}
use Rattle.laws_slots.specs.Words.{WordWorld}

-- what an event left, and the reply
abbrev pub answered : WordWorld → Reply → WordAnswer
answered v reply = record { world = v; reply = reply }

-- the event finds what it looks for
pub fits : WordEventsFit → (set : Set) → IsTypable set → IsSound set → (v : WordWorld) (e : Event)
    → IsMeant set v → WordEventFits set v e
fits law set typable sound v e is = law set typable sound is.threads is.events v e is.means

module _ (law : WordEventsShowRuns) (same : WordsMeanWhatTheyShow) (set : Set)
    (typable : IsTypable set) (sound : IsSound set)
    (before after : WordWorld) (e : Event) (reply : Reply) (is : IsMeant set before)
    (done : WordEventDone set before e (answered after reply)) where
  -- of some run whose world is meant, and of every run that is shown
  pub meant_after : IsMeant set after
  meant_after =
      record {
        threads = is.threads;
        events = is.events ++ e ∷ [];
        means =
            (law set typable sound is.threads is.events before e (answered after reply) is.means
            done).means;
      }

  shown_after : (threads : ℕ) (events : List Event) → Shows (shown_words set before) threads events
      → WordsMeanAfter set threads events e (answered after reply)
  shown_after threads events shows =
      law set typable sound threads events before e (answered after reply)
      (same set typable sound is.threads threads is.events events before is.means shows) done

  pub applies_shown : WordsShowWhatTheyMean
      → Applies (shown_words set before) e (shown_words set after) reply
  applies_shown show =
      record {
        set = refl;
        shows = λ threads events shows.
            show set after (run set threads (events ++ e ∷ [])).world
            (shown_after threads events shows).means;
        replies = λ threads events shows. (shown_after threads events shows).reply;
      }

  -- the reply is neither a bug check nor that something went wrong
  pub goes_on : AcceptedRunsKeepTheRules → GoesOn (shown_words set before) reply
  goes_on rules =
      λ threads events shows.
      subst (λ (r : Reply). LetsGoOn r) (sym (shown_after threads events shows).reply)
      ((rules set typable sound threads events).lasting.replies e)

  -- and a step of a thread is not refused
  pub steps_threads : AcceptedRunsKeepTheRules → StepsThreads (shown_words set before) e reply
  steps_threads rules =
      λ threads events t shows within is_step.
      subst (λ (r : Reply). r ≢ Refused)
      (sym ((shown_after threads events shows).reply
      ∙ ap (λ (x : Event). reply_to set threads events x) is_step))
      ((rules set typable sound threads events).lasting.stepped t within)
