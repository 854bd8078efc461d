use Rattle.std.proofs.Common.{◌∙◌, refl, subst, sym}
use Rattle.scenario_run.specs.Going.{Strides, halts}
use Rattle.scenario_run.proofs.Striding.{other_strides, spot_strides}
use Rattle.scenario_run.proofs.walking.stride.Goals as goal

pub returns-then-pause-gt0-clause-goes : goal.returns-then-pause-gt0-clause-goes
returns-then-pause-gt0-clause-goes c = halts

pub returns-in-None-clause-goes : goal.returns-in-None-clause-goes
returns-in-None-clause-goes c = halts

pub returns-in-Some-clause-goes : goal.returns-in-Some-clause-goes
returns-in-Some-clause-goes c =
    subst (λ until. Strides until c.args.thread c.args.runner.now.machine c.go_up_to.result
    c.go_up_to.new.self) (sym c.in-At.is)
    (spot_strides c.in-At.spot c.in-Some.place c.in-Some.ensures.some c.args.thread
    c.args.runner.now.machine c.go_up_to.result c.go_up_to.new.self c.go_up_to.ensures.short)

pub returns-in_default : goal.returns-in_default
returns-in_default c =
    record {
      few = c.go_on.ensures.few;
      goes =
          other_strides c.args.until c.args.thread c.args.runner.now.machine c.in_default.not-At
          (sym c.wakes.ensures ∙ c.if-wakes.false) c.go_on.result c.go_on.new.self
          c.go_on.ensures.goes;
      ledger = refl;
      keeping = refl;
    }
