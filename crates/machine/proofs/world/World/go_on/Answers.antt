use Rattle.std.proofs.Common.{◌≡◌, ◌<◌, ℕ, subst, sym}
use Rattle.model.specs.declared.event.Event.TheVariants.{Step}
use Rattle.model.specs.declared.event.Reply.TheVariants.{Stepped}
use Rattle.model.specs.Set.{Set}
use Rattle.model.specs.Shown.{Shown}
use Rattle.laws_slots.specs.WordsFit.{WordEventFits}
use Rattle.laws_slots.specs.ShownWords.{shown_words}
use Rattle.laws_slots.specs.Words.{WordWorld}
use Rattle.machine.specs.GoingOn.{after, reply_after}
use Rattle.machine.proofs.Stepping.{none_made}
use Rattle.machine.proofs.GoingOn.{all_fit, steps_made, still_meant}
use Rattle.machine.specs.Runs.{IsMeant}
use Rattle.machine.specs.Steps.{Stepping}
use Rattle.machine.proofs.world.World.go_on.Goals as goal

pub go_on-requires : goal.go_on-requires
go_on-requires c =
    subst (λ (s : Set). (k : ℕ) → WordEventFits s (after s c.self.inside.slots c.args.thread k)
    (Step c.args.thread)) (sym c.set.ensures.same)
    (all_fit c.word_events_show_runs.ensures
    c.words_mean_what_they_show.ensures c.self.inside.accepted c.self.invariant.0
    c.self.invariant.1.0 c.self.inside.slots c.args.thread c.self.invariant.1.1
    c.word_events_fit.ensures)

-- the words are those after so many steps of the accepted set
made : (c : goal.After-go_on)
    → c.go_on.new.self ≡ after c.self.inside.accepted c.self.inside.slots c.args.thread c.go_on.result
made c =
    subst (λ (s : Set). c.go_on.new.self
    ≡ after s c.self.inside.slots c.args.thread c.go_on.result) c.set.ensures.same
    c.go_on.ensures.world

replied : (c : goal.After-go_on) (k : ℕ) → k < c.go_on.result
    → reply_after c.self.inside.accepted c.self.inside.slots c.args.thread k ≡ Stepped
replied c =
    subst (λ (s : Set). (k : ℕ) → k < c.go_on.result
    → reply_after s c.self.inside.slots c.args.thread k ≡ Stepped) c.set.ensures.same
    c.go_on.ensures.replies

pub invariant_of-self : goal.invariant_of-self
invariant_of-self c = (
  c.self.invariant.0,
  (
    c.self.invariant.1.0,
    subst (λ (v : WordWorld). IsMeant c.self.inside.accepted v) (sym (made c))
        (still_meant c.word_events_show_runs.ensures
        c.words_mean_what_they_show.ensures c.self.inside.accepted c.self.invariant.0
        c.self.invariant.1.0 c.self.inside.slots c.args.thread c.self.invariant.1.1
        c.go_on.result),
  ),
)

pub returns-clause-steps : goal.returns-clause-steps
returns-clause-steps c =
    subst (λ (m : Shown). Stepping m c.args.thread c.go_on.result
    (shown_words c.self.inside.accepted c.go_on.new.self)) c.self.view_is
    (subst (λ (v : WordWorld). Stepping (shown_words c.self.inside.accepted c.self.inside.slots)
    c.args.thread c.go_on.result (shown_words c.self.inside.accepted v)) (sym (made c))
    (steps_made c.word_events_show_runs.ensures
    c.words_mean_what_they_show.ensures c.self.inside.accepted c.self.invariant.0
    c.self.invariant.1.0 c.self.inside.slots c.args.thread c.self.invariant.1.1
    c.words_show_what_they_mean.ensures c.go_on.result (replied c)))

pub returns-then-count-lt-ENOUGH_STEPS-clause-steps : goal.returns-then-count-lt-ENOUGH_STEPS-clause-steps
returns-then-count-lt-ENOUGH_STEPS-clause-steps c = none_made c.args.self.now c.args.thread
