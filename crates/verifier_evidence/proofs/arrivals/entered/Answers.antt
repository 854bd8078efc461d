use Rattle.model.specs.LocalRule.{entry_state}
use Rattle.std.proofs.Common.{rules, arith, ◌≡◌, ◌∙◌, length, None, Some, List, Option, ◌++◌, take, replicate, sym, subst, ap}
use Rattle.std.specs.Prelude.{drop}
use Rattle.verifier_evidence.specs.declared.arrivals.Arrival.{Arrival}
use Rattle.verifier_evidence.specs.Table.{noted, AreKnown}
use Rattle.verifier_evidence.proofs.Known.{at_entry, known_entered}
use Rattle.verifier_evidence.proofs.Lists.{lent_back}
use Rattle.verifier_evidence.proofs.Table.{noted_grown}
use Rattle.verifier_evidence.proofs.arrivals.entered.Goals as goal

pub returns : goal.returns
returns c =
    let table : List (Option Arrival) = c.in_ok-table.table.items in
    let told : c.note.new.table ≡ noted table 0 (at_entry c.in-Some.state) =
    c.note.ensures
    ∙ ap (λ (t : List (Option Arrival)). noted t 0 (at_entry c.in-Some.state))
    c.deref_mut.ensures.value in
    let long : length c.note.new.table ≡ length table =
    ap (λ (t : List (Option Arrival)). length t) told
    ∙ (noted_grown table 0 (at_entry c.in-Some.state)).long in
    let lent : length c.deref_mut.result.now ≡ c.in_ok-table.table.len = c.deref_mut.ensures.len in
    let items : length c.deref_mut.result.now ≡ length table =
    ap (λ (t : List (Option Arrival)). length t) c.deref_mut.ensures.value in
    let whole : take c.in_ok-table.table.len
    (c.note.new.table ++ drop (length c.note.new.table) table) ≡ c.note.new.table =
    lent_back table c.note.new.table c.in_ok-table.table.len (omega arith) long
    in
    let blank : table ≡ replicate (length c.args.subject.now.routine.code) None = search rules in
    let entered : entry_state c.args.subject.now ≡ Some c.in-Some.state =
    sym c.entry.ensures ∙ c.in-Some.is in
    subst (λ (t : List (Option Arrival)). AreKnown c.args.subject.now 0 t)
    (sym (whole ∙ told ∙ ap (λ (t : List (Option Arrival)). noted t 0 (at_entry c.in-Some.state))
    blank))
    (known_entered c.args.subject.now c.in-Some.state entered c.requires)
