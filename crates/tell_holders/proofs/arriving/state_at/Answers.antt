use Rattle.std.proofs.Common.{◌≢◌, ◌<◌, ◌∙◌, Option, length, rules, subst, sym}
use Rattle.std.specs.Prelude.{IfSome}
use Rattle.verifier_evidence.specs.declared.trail.Path.{Path}
use Rattle.verifier_evidence.specs.Path.{IsPathTo}
use Rattle.model.specs.Set.{default_number}
use Rattle.tell_holders.proofs.Arrived.{fine_before, found_state, no_state}
use Rattle.tell_holders.proofs.arriving.state_at.Goals as goal

pub path_to-requires-clause-fine : goal.path_to-requires-clause-fine
path_to-requires-clause-fine c =
    let within : c.args.position < length c.in-Some.subject.routine.code = search rules in
    fine_before c.args.set.now c.args.driver c.args.routine c.in-Some.subject
    (sym c.of.ensures ∙ c.in-Some.is) c.requires c.args.position within

pub returns-in-Some-2 : goal.returns-in-Some-2
returns-in-Some-2 c =
    let within : c.args.position < length c.in-Some.subject.routine.code = search rules in
    let other : c.args.routine ≢ default_number = search rules in
    found_state c.args.set.now c.args.driver c.args.routine c.in-Some.subject
    (sym c.of.ensures ∙ c.in-Some.is) other c.args.position within c.in-Some-2.path
    (subst (λ (o : Option Path). IfSome o (IsPathTo c.in-Some.subject c.args.position))
    c.in-Some-2.is (c.in_ok-path.ensures {u = tt}).path)

pub returns-in-None : goal.returns-in-None
returns-in-None c =
    let within : c.args.position < length c.in-Some.subject.routine.code = search rules in
    let other : c.args.routine ≢ default_number = search rules in
    no_state c.args.set.now c.args.driver c.args.routine c.in-Some.subject
    (sym c.of.ensures ∙ c.in-Some.is) other c.args.position within
    ((c.in_ok-path.ensures {u = tt}).none c.in-None.is)
