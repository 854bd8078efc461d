use Rattle.std.proofs.Common.{◌∙◌, List, [], ap, length, subst}
use Rattle.model.specs.declared.set.Device.{Device}
use Rattle.model.specs.Run.{run}
use Rattle.model.specs.Set.{Set}
use Rattle.model.specs.Sound.{IsSound}
use Rattle.laws_slots.specs.Reads.{WordsMean}
use Rattle.laws_slots.specs.WordEvents.{opening_words}
use Rattle.machine.proofs.Whole.{begun_meant, opening_meant}
use Rattle.machine.proofs.world.World.new.Goals as goal

-- the words mean the world before the first event
begun : (c : goal.In-Ok) → WordsMean c.args.accepted c.in-Ok.slots
    (run c.args.accepted c.args.threads []).world
begun c =
    opening_meant c.free_words_mean_the_beginning.ensures c.args.accepted c.set.result.now
    c.in-Ok.slots c.args.threads c.set.ensures.same
    (c.in-Ok.ensures
    ∙ ap (λ (devices : List Device). opening_words (length devices) c.args.threads 0)
    c.devices-devices.ensures.devices)

pub invariant_of-result : goal.invariant_of-result
invariant_of-result c = (
  c.set.ensures.typable,
  (
    subst (λ (s : Set). IsSound s) c.set.ensures.same c.devices-devices.ensures.sound,
    begun_meant c.args.accepted c.in-Ok.slots c.args.threads (begun c),
  ),
)

pub returns-in-Ok-clause-shows : goal.returns-in-Ok-clause-shows
returns-in-Ok-clause-shows c =
    c.words_show_what_they_mean.ensures c.args.accepted c.in-Ok.slots
    (run c.args.accepted c.args.threads []).world (begun c)

pub returns-in-Ok-clause-rests : goal.returns-in-Ok-clause-rests
returns-in-Ok-clause-rests c = λ events.
    c.accepted_runs_come_to_rest.ensures c.args.accepted c.set.ensures.typable
    (subst (λ (s : Set). IsSound s) c.set.ensures.same c.devices-devices.ensures.sound)
    c.args.threads events

pub returns-in-Ok-clause-rules : goal.returns-in-Ok-clause-rules
returns-in-Ok-clause-rules c = λ events.
    c.accepted_runs_keep_the_rules.ensures c.args.accepted c.set.ensures.typable
    (subst (λ (s : Set). IsSound s) c.set.ensures.same c.devices-devices.ensures.sound)
    c.args.threads events
