use Rattle.std.proofs.Common.{Ok, Err, refl}
use Rattle.verifier_evidence.proofs.Others.{handed_none}
use Rattle.verifier_evidence.proofs.differing.other_from.Goals as goal

pub returns-in-Ok-clause-none : goal.returns-in-Ok-clause-none
returns-in-Ok-clause-none c = λ none.
    handed_none c.args.arrivals.now.subject c.args.arrivals.now.table.items c.args.from c.args.at
    c.index.result.now c.in-Some.arrival c.code.result.now c.index-code-from.result
    c.label.result (Ok c.in-Ok.outs) c.transfer.result c.args.state.now c.requires.within
    c.requires.long c.index.ensures c.in-Some.is c.code.ensures.code c.index-code-from.is
    c.transfer.ensures c.in-Ok.is c.label.ensures (c.other_handed.ensures.none none)

pub returns-in-Err-clause-none : goal.returns-in-Err-clause-none
returns-in-Err-clause-none c = λ none.
    handed_none c.args.arrivals.now.subject c.args.arrivals.now.table.items c.args.from c.args.at
    c.index.result.now c.in-Some.arrival c.code.result.now c.index-code-from.result
    _ (Err c.in-Err.field-0) c.transfer.result c.args.state.now c.requires.within
    c.requires.long c.index.ensures c.in-Some.is c.code.ensures.code c.index-code-from.is
    c.transfer.ensures c.in-Err.is refl (λ s h. absurd h)
