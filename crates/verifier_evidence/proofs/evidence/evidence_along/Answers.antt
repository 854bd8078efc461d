use Rattle.std.proofs.Common.{◌∙◌, ◌≤◌, ◌+◌, List, arith, sym, subst, ap}
use Rattle.model.specs.declared.instr.Instr.{Instr}
use Rattle.model.specs.declared.abs.Rule.{Rule}
use Rattle.model.specs.Typable.{IsFaultAt}
use Rattle.model.specs.declared.limits.TheConstants.{MAX_CERTIFICATE}
use Rattle.model.specs.Certificate.{certificate_to}
use Rattle.verifier_evidence.proofs.Cases.{IsArrivedAt, arrived_of, broken_of, differing_of}
use Rattle.verifier_evidence.proofs.Known.{known_covered}
use Rattle.verifier_evidence.proofs.Showing.{fine_short, shown_broken, shown_long, shown_path}
use Rattle.verifier_evidence.proofs.evidence.evidence_along.Goals as goal

pub path_to-requires-clause-covered : goal.path_to-requires-clause-covered
path_to-requires-clause-covered c =
    known_covered c.args.subject c.args.at c.args.at c.in_ok-table.table.items
    (c.in_ok-table.ensures {u = tt}) (omega arith)
    (arrived_of c.args.subject c.args.at c.args.rule c.requires.formed c.requires.reached
    c.requires.entered c.requires.first.fault).within

pub unreachable-requires : goal.unreachable-requires
unreachable-requires c =
    let there : IsArrivedAt c.args.subject c.args.at =
    arrived_of c.args.subject c.args.at c.args.rule c.requires.formed c.requires.reached
    c.requires.entered c.requires.first.fault in
    (c.in_ok-path.ensures {u = tt}).none c.in_default.is there.state there.arrives

pub differing-requires-clause-differ : goal.differing-requires-clause-differ
differing-requires-clause-differ c =
    differing_of c.args.subject c.args.at
    (subst (λ (r : Rule). IsFaultAt c.args.subject c.args.at r) c.in-StatesDiffer.is
    c.requires.first.fault)

pub certificate_through-requires-clause-short : goal.certificate_through-requires-clause-short
certificate_through-requires-clause-short c = λ p low.
    subst (λ (code : List Instr). certificate_to code p ≤ MAX_CERTIFICATE)
    (sym c.code-code.ensures.code)
    (fine_short c.args.subject c.args.at p c.requires.first.before low)

pub returns-in-TooLong : goal.returns-in-TooLong
returns-in-TooLong c =
    shown_long c.args.subject c.args.at c.in_ok-count-in-TooLong.count c.args.rule c.in-Some.path
    (shown_path c.args.subject c.args.at c.in_ok-path.field-0 c.in-Some.path c.in-Some.is
    (c.in_ok-path.ensures {u = tt}).path)
    c.in-TooLong.is c.requires.first.fault
    (c.in_ok-count-in-TooLong.ensures {u = tt}
    ∙ ap (λ (code : List Instr). certificate_to code (c.args.at + 1)) c.code-code.ensures.code)

pub returns : goal.returns
returns c =
    shown_broken c.args.subject c.args.at c.args.rule c.in-Some.path
    (shown_path c.args.subject c.args.at c.in_ok-path.field-0 c.in-Some.path c.in-Some.is
    (c.in_ok-path.ensures {u = tt}).path)
    (broken_of c.args.subject c.args.at c.args.rule c.requires.formed c.requires.reached
    c.in_default-rule.not-StatesDiffer c.in_default-rule.not-TooLong c.requires.entered
    c.requires.first.fault)
