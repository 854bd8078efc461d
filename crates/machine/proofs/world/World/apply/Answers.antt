use Rattle.std.proofs.Common.{[], ◌∷◌, ◌++◌, subst, sym}
use Rattle.model.specs.Machine.{Applies}
use Rattle.model.specs.Set.{Set}
use Rattle.model.specs.Shown.{Shown}
use Rattle.laws_slots.specs.WordsFit.{WordEventFits}
use Rattle.laws_slots.specs.WordsDone.{WordEventDone}
use Rattle.laws_slots.specs.ShownWords.{shown_words}
use Rattle.machine.proofs.Applying.{answered, applies_shown, fits, goes_on, meant_after, steps_threads}
use Rattle.machine.specs.Runs.{GoesOn, RestKept, RulesKept, StepsThreads}
use Rattle.machine.proofs.world.World.apply.Goals as goal

-- the event was carried out on the words of the accepted set
done : (c : goal.After-apply)
    → WordEventDone c.self.inside.accepted c.self.inside.slots c.args.event.now
    (answered c.apply.new.self c.apply.result)
done c =
    subst (λ (s : Set). WordEventDone s c.self.inside.slots c.args.event.now
    (answered c.apply.new.self c.apply.result)) c.set.ensures.same c.apply.ensures

pub apply-requires : goal.apply-requires
apply-requires c =
    subst (λ (s : Set). WordEventFits s c.self.inside.slots c.args.event.now)
    (sym c.set.ensures.same)
    (fits c.word_events_fit.ensures c.self.inside.accepted c.self.invariant.0 c.self.invariant.1.0
    c.self.inside.slots c.args.event.now c.self.invariant.1.1)

pub invariant_of-self : goal.invariant_of-self
invariant_of-self c = (
  c.self.invariant.0,
  (
    c.self.invariant.1.0,
    meant_after c.word_events_show_runs.ensures
        c.words_mean_what_they_show.ensures c.self.inside.accepted c.self.invariant.0
        c.self.invariant.1.0 c.self.inside.slots c.apply.new.self c.args.event.now c.apply.result
        c.self.invariant.1.1 (done c),
  ),
)

pub returns-clause-applies : goal.returns-clause-applies
returns-clause-applies c =
    subst (λ (m : Shown). Applies m c.args.event.now
    (shown_words c.self.inside.accepted c.apply.new.self) c.apply.result) c.self.view_is
    (applies_shown c.word_events_show_runs.ensures
    c.words_mean_what_they_show.ensures c.self.inside.accepted c.self.invariant.0
    c.self.invariant.1.0 c.self.inside.slots c.apply.new.self c.args.event.now c.apply.result
    c.self.invariant.1.1 (done c)
    c.words_show_what_they_mean.ensures)

pub returns-clause-rules : goal.returns-clause-rules
returns-clause-rules c =
    subst (λ (m : Shown). RulesKept m c.args.event.now) c.self.view_is
    (λ threads events shows. c.accepted_runs_keep_the_rules.ensures c.self.inside.accepted
    c.self.invariant.0 c.self.invariant.1.0 threads (events ++ c.args.event.now ∷ []))

pub returns-clause-rests : goal.returns-clause-rests
returns-clause-rests c =
    subst (λ (m : Shown). RestKept m c.args.event.now) c.self.view_is
    (λ threads events shows. c.accepted_runs_come_to_rest.ensures c.self.inside.accepted
    c.self.invariant.0 c.self.invariant.1.0 threads (events ++ c.args.event.now ∷ []))

pub returns-clause-goes_on : goal.returns-clause-goes_on
returns-clause-goes_on c =
    subst (λ (m : Shown). GoesOn m c.apply.result) c.self.view_is
    (goes_on c.word_events_show_runs.ensures
    c.words_mean_what_they_show.ensures c.self.inside.accepted c.self.invariant.0
    c.self.invariant.1.0 c.self.inside.slots c.apply.new.self c.args.event.now c.apply.result
    c.self.invariant.1.1 (done c)
    c.accepted_runs_keep_the_rules.ensures)

pub returns-clause-steps : goal.returns-clause-steps
returns-clause-steps c =
    subst (λ (m : Shown). StepsThreads m c.args.event.now c.apply.result) c.self.view_is
    (steps_threads c.word_events_show_runs.ensures
    c.words_mean_what_they_show.ensures c.self.inside.accepted c.self.invariant.0
    c.self.invariant.1.0 c.self.inside.slots c.apply.new.self c.args.event.now c.apply.result
    c.self.invariant.1.1 (done c)
    c.accepted_runs_keep_the_rules.ensures)
