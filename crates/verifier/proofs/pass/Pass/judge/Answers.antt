use Rattle.std.proofs.Common.{◌∙◌, ◌<◌, length, sym, subst, ap}
use Rattle.model.specs.declared.abs.Rule.TheVariants.{Unreachable, StatesDiffer}
use Rattle.model.specs.Typable.{IsFaultAt}
use Rattle.verifier.specs.declared.seen.Arrivals.{Arrivals}
use Rattle.verifier.specs.Pass.{Progress, IsPassed}
use Rattle.verifier.specs.Table.{seen_of}
use Rattle.verifier.proofs.Closing.{here_read, alone_there}
use Rattle.verifier.proofs.Fields.{member_of, within_fields, alike_fields, unlike_fields}
use Rattle.verifier.proofs.Judging.{formed_read, unreachable_there, several_there, unlike_fault, passed_there, broken_there}
use Rattle.verifier.proofs.pass.Pass.judge.Goals as goal

pub returns-in-Missing-clause-fault : goal.returns-in-Missing-clause-fault
returns-in-Missing-clause-fault c =
    let within : c.self.inside.at < length c.self.inside.routine.now.code =
    within_fields c.self.inside c.args.self.now c.self.view_is c.requires.within in
    subst (λ (g : Progress). IsFaultAt g.member g.at Unreachable) c.self.view_is
    (unreachable_there (member_of c.self.inside) c.self.inside.at
    (seen_of c.self.inside.arrivals c.self.inside.state) c.self.inside.table
    c.self.invariant.known within
    (formed_read c.self.inside.routine.now.code c.as_slice-code.result.now c.self.inside.at
    c.is_malformed.result c.as_slice-code.ensures
    c.is_malformed.ensures c.if-is_malformed.false)
    (ap (λ (arrivals : Arrivals). seen_of arrivals c.self.inside.state) c.in-Missing.is))

pub returns-in-Differing-clause-fault : goal.returns-in-Differing-clause-fault
returns-in-Differing-clause-fault c =
    let within : c.self.inside.at < length c.self.inside.routine.now.code =
    within_fields c.self.inside c.args.self.now c.self.view_is c.requires.within in
    subst (λ (g : Progress). IsFaultAt g.member g.at StatesDiffer) c.self.view_is
    (several_there (member_of c.self.inside) c.self.inside.at
    (seen_of c.self.inside.arrivals c.self.inside.state) c.self.inside.table
    c.self.invariant.known within
    (formed_read c.self.inside.routine.now.code c.as_slice-code.result.now c.self.inside.at
    c.is_malformed.result c.as_slice-code.ensures
    c.is_malformed.ensures c.if-is_malformed.false)
    (ap (λ (arrivals : Arrivals). seen_of arrivals c.self.inside.state) c.in-Differing.is))

pub returns-then-not-closes_alike-clause-fault : goal.returns-then-not-closes_alike-clause-fault
returns-then-not-closes_alike-clause-fault c =
    let within : c.self.inside.at < length c.self.inside.routine.now.code =
    within_fields c.self.inside c.args.self.now c.self.view_is c.requires.within in
    subst (λ (g : Progress). IsFaultAt g.member g.at StatesDiffer) c.self.view_is
    (unlike_fault (member_of c.self.inside) c.self.inside.at
    (seen_of c.self.inside.arrivals c.self.inside.state) c.self.inside.table
    c.self.inside.state
    c.self.invariant.known within
    (formed_read c.self.inside.routine.now.code c.as_slice-code.result.now c.self.inside.at
    c.is_malformed.result c.as_slice-code.ensures
    c.is_malformed.ensures c.if-is_malformed.false)
    (ap (λ (arrivals : Arrivals). seen_of arrivals c.self.inside.state) c.in-Alone.is)
    (unlike_fields c.self.inside c.args.self.now c.self.inside.state c.self.view_is
    (c.closes_alike.ensures.unlike c.if-not-closes_alike.true)))

pub returns-in-Some-clause-fault : goal.returns-in-Some-clause-fault
returns-in-Some-clause-fault c =
    let within : c.self.inside.at < length c.self.inside.routine.now.code =
    within_fields c.self.inside c.args.self.now c.self.view_is c.requires.within in
    subst (λ (g : Progress). IsFaultAt g.member g.at c.in-Some.rule) c.self.view_is
    (broken_there (member_of c.self.inside) c.self.inside.at c.index-code-self.result
    c.self.inside.state c.in-Some.rule
    (sym c.broken_rule.ensures ∙ c.in-Some.is) within
    (formed_read c.self.inside.routine.now.code c.as_slice-code.result.now c.self.inside.at
    c.is_malformed.result c.as_slice-code.ensures
    c.is_malformed.ensures c.if-is_malformed.false)
    (here_read c.self.inside.routine.now.code c.as_slice-code.result.now c.self.inside.at _
    c.index-code-self.result c.as_slice-code.ensures within
    (sym c.index-code-self.is))
    (alone_there (member_of c.self.inside) c.self.inside.at
    (seen_of c.self.inside.arrivals c.self.inside.state) c.self.inside.table
    c.self.inside.state
    c.self.invariant.known within
    (ap (λ (arrivals : Arrivals). seen_of arrivals c.self.inside.state) c.in-Alone.is))
    (alike_fields c.self.inside c.args.self.now c.self.inside.state c.self.view_is
    (c.closes_alike.ensures.alike c.if-not-closes_alike.false)))

pub returns-in-None-clause-passed : goal.returns-in-None-clause-passed
returns-in-None-clause-passed c =
    let within : c.self.inside.at < length c.self.inside.routine.now.code =
    within_fields c.self.inside c.args.self.now c.self.view_is c.requires.within in
    subst (λ (g : Progress). IsPassed g.member g.at) c.self.view_is
    (passed_there (member_of c.self.inside) c.self.inside.at c.index-code-self.result
    c.self.inside.state (sym c.broken_rule.ensures ∙ c.in-None.is)
    (formed_read c.self.inside.routine.now.code c.as_slice-code.result.now c.self.inside.at
    c.is_malformed.result c.as_slice-code.ensures
    c.is_malformed.ensures c.if-is_malformed.false)
    (here_read c.self.inside.routine.now.code c.as_slice-code.result.now c.self.inside.at _
    c.index-code-self.result c.as_slice-code.ensures within
    (sym c.index-code-self.is))
    (alone_there (member_of c.self.inside) c.self.inside.at
    (seen_of c.self.inside.arrivals c.self.inside.state) c.self.inside.table
    c.self.inside.state
    c.self.invariant.known within
    (ap (λ (arrivals : Arrivals). seen_of arrivals c.self.inside.state) c.in-Alone.is))
    (alike_fields c.self.inside c.args.self.now c.self.inside.state c.self.view_is
    (c.closes_alike.ensures.alike c.if-not-closes_alike.false)))
