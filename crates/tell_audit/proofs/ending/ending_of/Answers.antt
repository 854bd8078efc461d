use Rattle.std.proofs.Common.{IfOk, Option, subst}
use Rattle.std.proofs.lemmas.Result.{IfOk-weaker}
use Rattle.tell_audit.specs.declared.amiss.Amiss.{Amiss}
use Rattle.tell_audit.specs.Ends.{EndsAs, EndsSo, Rehearsed}
use Rattle.tell_audit.proofs.Finishing.{ends_so_there}
use Rattle.tell_audit.proofs.ending.ending_of.Goals as goal
use Rattle.model.specs.Machine.{Machine}

pub returns : goal.returns
returns c =
    let set = c.args.set.now in
    let amiss : Option Amiss = c.in_ok-ended.ended.amiss in
    let run : Rehearsed = c.in_ok-ended.ended.run in
    IfOk-weaker c.ending_at.result (λ ending. EndsAs amiss run.machine.world ending)
    (λ ending. EndsSo set c.args.threads c.args.before.now c.args.last.now ending)
    (λ ending ends. ends_so_there set c.args.threads c.args.before.now c.args.last.now run amiss
    ending c.in_ok-ended.ensures.shows c.in_ok-ended.ensures.amiss ends)
    (subst (λ (machine : Machine). IfOk c.ending_at.result (EndsAs amiss machine.world))
    c.machine.ensures c.ending_at.ensures)
