use Rattle.std.proofs.Common.{◌≡◌, drop, map}
use Rattle.cli.specs.Choices.{named_in}
use Rattle.cli.specs.Table.{word_for}
use Rattle.cli.proofs.table.entry_named.Given as goal

-- the name is none of those before
abbrev pub invariant-loop-entry : goal.invariant-loop-entry
invariant-loop-entry l =
    named_in (map word_for (drop l.entry-index l.entries)) l.name
    ≡ named_in (map word_for l.entries) l.name
