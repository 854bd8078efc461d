use Rattle.std.proofs.Common.{◌≡◌, ◌++◌, drop}
use Rattle.mend_edits.specs.Lines.{edited, edited_from}
use Rattle.mend_edits.proofs.lines.edited.Given as goal

-- what is made and what the edits that are left make is the whole
abbrev pub invariant-loop-edit : goal.invariant-loop-edit
invariant-loop-edit l =
    l.made.items ++ edited_from l.next l.left (drop l.edit-index l.edits)
    ≡ edited l.fn.text l.edits
