use Rattle.std.proofs.Common.{rules, ◌≤◌, ℕ, ◌≡◌, ◌∙◌, ◌<◌, ◌+◌, length, List, Option, ◌++◌, take, arith, sym, subst, ap}
use Rattle.std.specs.Prelude.{drop}
use Rattle.verifier_evidence.specs.declared.arrivals.Arrival.{Arrival}
use Rattle.verifier_evidence.specs.Table.{passed_on, AreKnown}
use Rattle.verifier_evidence.proofs.Known.{known_more}
use Rattle.verifier_evidence.proofs.Lists.{lent_back}
use Rattle.verifier_evidence.proofs.arrivals.arrivals_to.Goals as goal

pub loop-at-preserved : goal.loop-at-preserved
loop-at-preserved c =
    let table : List (Option Arrival) = c.loop-at.table.items in
    let within : c.args.place < length c.args.subject.now.routine.code = c.requires.within in
    let low : c.loop-at.at < c.args.place = c.loop-at-test.true in
    let known : AreKnown c.args.subject.now (c.loop-at.at + 1)
    (passed_on c.args.subject.now c.loop-at.at table) =
    known_more c.args.subject.now c.loop-at.at table c.loop-at.invariant
    (c.requires.fine c.loop-at.at low) (omega arith)
    in
    let told : c.pass_on.new.table ≡ passed_on c.args.subject.now c.loop-at.at table =
    c.pass_on.ensures
    ∙ ap (λ (t : List (Option Arrival)). passed_on c.args.subject.now c.loop-at.at t)
    c.deref_mut.ensures.value in
    let same : length c.pass_on.new.table
    ≡ length (passed_on c.args.subject.now c.loop-at.at table) =
    ap (λ (t : List (Option Arrival)). length t) told in
    let long : length (passed_on c.args.subject.now c.loop-at.at table)
    ≡ length c.args.subject.now.routine.code = known.long in
    let was : length table ≡ length c.args.subject.now.routine.code = c.loop-at.invariant.long in
    let lent : length c.deref_mut.result.now ≡ c.loop-at.table.len = c.deref_mut.ensures.len in
    let items : length c.deref_mut.result.now ≡ length table =
    ap (λ (t : List (Option Arrival)). length t) c.deref_mut.ensures.value in
    let whole : take c.loop-at.table.len
    (c.pass_on.new.table ++ drop (length c.pass_on.new.table) table) ≡ c.pass_on.new.table =
    lent_back table c.pass_on.new.table c.loop-at.table.len (omega arith) (omega arith)
    in
    subst (λ (t : List (Option Arrival)). AreKnown c.args.subject.now (c.loop-at.at + 1) t)
    (sym (whole ∙ told)) known

pub returns : goal.returns
returns c =
    let most : c.loop-at.at ≤ c.args.place = search rules in
    let least : c.args.place ≤ c.loop-at.at = search rules in
    let same : c.loop-at.at ≡ c.args.place = omega arith in
    subst (λ (p : ℕ). AreKnown c.args.subject.now p c.loop-at.table.items) same c.loop-at.invariant
