use Rattle.std.proofs.Common.{◌≡◌, ◌≤◌, arith, inl, inr}
use Rattle.std.proofs.lemmas.Bool.{cases_lt}
use Rattle.model.specs.declared.event.Event.TheVariants.{Step}
use Rattle.answer_runs.proofs.Repeating.{settles, single, stepped}
use Rattle.answer_runs.proofs.running.step.Goals as goal

pub returns-then-steps-gt1-clause-repeats : goal.returns-then-steps-gt1-clause-repeats
returns-then-steps-gt1-clause-repeats c =
    stepped c.args.world.now c.steps-steps.new.self c.args.thread c.steps-steps.result.made
    c.steps-steps.result.last c.steps-steps.ensures.makes (omega (arith, c.if-steps-gt1.true))

pub returns-clause-repeats : goal.returns-clause-repeats
returns-clause-repeats c =
    let made = c.steps-steps.result.made in
    let some : 1 ≤ made =
    elim (cases_lt 0 made) [
      | inl some ↦ omega (arith, some)
      | inr none ↦ (let zero : made ≡ 0 = omega (arith, none) in
          absurd (c.steps-steps.ensures.all (omega (arith, zero, c.requires))
          (c.steps-steps.ensures.none zero)))
    ] in
    let one : made ≡ 1 = omega (arith, some, c.if-steps-gt1.false) in
    rw c.settled.ensures
    (settles c.args.world.now c.steps-steps.new.self (Step c.args.thread)
    c.steps-steps.result.last
    (single c.args.world.now c.steps-steps.new.self c.args.thread made c.steps-steps.result.last
    c.steps-steps.ensures.makes one)
    c.waiting_changes_nothing.ensures c.args.count c.requires)
