use Rattle.std.proofs.Common.{rules, ◌-◌, ◌≡◌, ◌∙◌, ◌≤◌, List, length, Option, Some, ap, sym, arith}
use Rattle.std.specs.Prelude.{slice_get}
use Rattle.model.specs.declared.instr.Instr.{Instr}
use Rattle.verifier_evidence.specs.declared.arrivals.Arrival.{Arrival}
use Rattle.verifier_evidence.specs.Table.{AreKnown}
use Rattle.verifier_evidence.proofs.Walked.{read_at}
use Rattle.verifier_orders.proofs.Finding.{all_fine, done_routine, instruction_at, none_routine, position_none, position_reached, position_some}
use Rattle.verifier_orders.proofs.edges.add_routine.Goals as goal

pub returns-in_default : goal.returns-in_default
returns-in_default c =
    none_routine c.args.set.now c.requires.typable c.args.driver c.args.number
    c.args.edges.now.items (sym c.of.ensures ∙ c.in_default.is) c.requires.before

pub returns-then-is_empty : goal.returns-then-is_empty
returns-then-is_empty c =
    let empty : length c.code-code.result.now ≡ 0 = search rules in
    let none : length c.in-Some.subject.routine.code ≤ 0 =
    omega (arith, empty, ap (λ (xs : List Instr). length xs) c.code-code.ensures.code) in
    done_routine c.args.set.now c.requires.typable c.args.driver c.args.number c.in-Some.subject
    c.requires.own (sym c.of.ensures ∙ c.in-Some.is) 0 c.args.edges.now.items none c.requires.before

pub arrivals_to-requires-clause-fine : goal.arrivals_to-requires-clause-fine
arrivals_to-requires-clause-fine c = λ p low.
    all_fine c.args.set.now c.requires.typable c.args.driver c.args.number c.in-Some.subject
    c.requires.own (sym c.of.ensures ∙ c.in-Some.is) p
    (omega (arith, low, ap (λ (xs : List Instr). length xs) c.code-code.ensures.code))

pub loop-at-preserved-in_default-taken_by : goal.loop-at-preserved-in_default-taken_by
loop-at-preserved-in_default-taken_by c =
    position_none c.args.set.now c.requires.typable c.args.driver c.args.number c.in-Some.subject
    c.requires.own (sym c.of.ensures ∙ c.in-Some.is) c.loop-at.at c.index-code-at.result
    (ap (λ (xs : List Instr). slice_get xs c.loop-at.at) (sym c.code-code.ensures.code)
    ∙ instruction_at c.code-code.result.now c.loop-at.at c.index-code-at.result
    c.loop-at-test.true c.index-code-at.is)
    c.loop-at.edges.items c.loop-at.invariant
    (sym c.taken_by.ensures.taken ∙ c.in_default-taken_by.is)

pub unreachable-requires : goal.unreachable-requires
unreachable-requires c =
    let known : AreKnown c.in-Some.subject (length c.code-code.result.now - 1)
    c.in_ok-table.table.items = c.in_ok-table.ensures {u = tt} in
    let same : length c.code-code.result.now ≡ length c.in-Some.subject.routine.code =
    ap (λ (xs : List Instr). length xs) c.code-code.ensures.code in
    position_reached c.args.set.now c.requires.typable c.args.driver c.args.number c.in-Some.subject
    c.requires.own (sym c.of.ensures ∙ c.in-Some.is) c.loop-at.at c.index-code-at.result
    (ap (λ (xs : List Instr). slice_get xs c.loop-at.at) (sym c.code-code.ensures.code)
    ∙ instruction_at c.code-code.result.now c.loop-at.at c.index-code-at.result
    c.loop-at-test.true c.index-code-at.is)
    c.loop-at.edges.items c.loop-at.invariant c.in_ok-table.table.items
    (rw same at known)
    (read_at c.in_ok-table.table.items c.loop-at.at c.index.result.now
    (omega (arith, known.long, same, c.loop-at-test.true)) c.index.ensures
    ∙ ap (λ (r : Option Arrival). Some r) c.in_default-index.is)

pub loop-at-preserved : goal.loop-at-preserved
loop-at-preserved c =
    let known : AreKnown c.in-Some.subject (length c.code-code.result.now - 1)
    c.in_ok-table.table.items = c.in_ok-table.ensures {u = tt} in
    let same : length c.code-code.result.now ≡ length c.in-Some.subject.routine.code =
    ap (λ (xs : List Instr). length xs) c.code-code.ensures.code in
    position_some c.args.set.now c.requires.typable c.args.driver c.args.number c.in-Some.subject
    c.requires.own (sym c.of.ensures ∙ c.in-Some.is) c.loop-at.at c.index-code-at.result
    (ap (λ (xs : List Instr). slice_get xs c.loop-at.at) (sym c.code-code.ensures.code)
    ∙ instruction_at c.code-code.result.now c.loop-at.at c.index-code-at.result
    c.loop-at-test.true c.index-code-at.is)
    c.loop-at.edges.items c.loop-at.invariant c.in_ok-table.table.items
    (rw same at known) c.in-Some-index.arrival c.in-Some-taken_by.taken
    (read_at c.in_ok-table.table.items c.loop-at.at c.index.result.now
    (omega (arith, known.long, same, c.loop-at-test.true)) c.index.ensures
    ∙ ap (λ (r : Option Arrival). Some r) c.in-Some-index.is)
    (sym c.taken_by.ensures.taken ∙ c.in-Some-taken_by.is) (search rules)
    c.add_from.new.edges.items (c.in_ok-add_from.ensures {u = tt})

pub returns : goal.returns
returns c =
    done_routine c.args.set.now c.requires.typable c.args.driver c.args.number c.in-Some.subject
    c.requires.own (sym c.of.ensures ∙ c.in-Some.is) c.loop-at.at c.loop-at.edges.items
    (omega (arith, c.loop-at-test.false, ap (λ (xs : List Instr). length xs) c.code-code.ensures.code))
    c.loop-at.invariant
