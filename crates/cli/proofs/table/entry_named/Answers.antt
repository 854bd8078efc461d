use Rattle.std.proofs.Common.{◌∙◌, sym}
use Rattle.cli.proofs.Looking.{word_behind, word_here}
use Rattle.cli.proofs.table.entry_named.Goals as goal

pub returns-then-eq : goal.returns-then-eq
returns-then-eq c =
    sym (word_here c.args.entries.now _ c.args.name.now c.loop-entry.entry-index c.loop-entry-test.true
    (sym c.eq.ensures ∙ c.if-eq.true))
    ∙ c.loop-entry.invariant

pub loop-entry-preserved : goal.loop-entry-preserved
loop-entry-preserved c =
    word_behind c.args.entries.now _ c.args.name.now c.loop-entry.entry-index c.loop-entry-test.true
    (sym c.eq.ensures ∙ c.if-eq.false)
    ∙ c.loop-entry.invariant
