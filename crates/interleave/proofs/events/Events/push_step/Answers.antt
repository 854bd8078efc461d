use Rattle.std.proofs.Common.{[], ◌∷◌, ap, arith, length, length-append, refl}
use Rattle.std.proofs.lemmas.Bool.{ne_eqb}
use Rattle.model.specs.declared.event.Event.TheVariants.{Step}
use Rattle.interleave.specs.Events.{listed}
use Rattle.interleave.proofs.Bytes.{steps_added}
use Rattle.interleave.proofs.events.Events.push_step.Goals as goal

pub invariant_of-self-2 : goal.invariant_of-self-2
invariant_of-self-2 c =
    let was = c.self.inside in
    let added = steps_added was.bytes.items c.push.new.self.items was.others.items c.args.thread 1
    (Step c.args.thread) c.self.invariant.1
    (ne_eqb c.args.thread 255 (λ e. omega (arith, e, c.requires.thread))) refl
    c.in_ok-push.ensures.items in (
      omega (
        arith,
        c.self.invariant.0,
        ap (λ events. length events) added.1,
        length-append (listed was.bytes.items was.others.items) (Step c.args.thread ∷ []),
      ),
      added.0,
    )

pub returns : goal.returns
returns c =
    let was = c.self.inside in
    let added = steps_added was.bytes.items c.push.new.self.items was.others.items c.args.thread 1
    (Step c.args.thread) c.self.invariant.1
    (ne_eqb c.args.thread 255 (λ e. omega (arith, e, c.requires.thread))) refl
    c.in_ok-push.ensures.items in
    rw (← c.self.view_is) added.1
