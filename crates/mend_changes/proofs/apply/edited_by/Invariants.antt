use Rattle.std.proofs.Common.{◌≡◌, drop}
use Rattle.mend_changes.specs.Edited.{edited_by, IsStopped}
use Rattle.mend_changes.proofs.apply.edited_by.Given as goal

-- the edits that are left make of what was made what all make of the set, and one of them makes
-- nothing exactly where one of all does
abbrev pub invariant-loop-edit : goal.invariant-loop-edit
invariant-loop-edit l =
    (edited_by l.made (drop l.edit-index l.edits) ≡ edited_by l.fn.set l.fn.edits)
    × (IsStopped l.made (drop l.edit-index l.edits) → IsStopped l.fn.set l.fn.edits)
    × (IsStopped l.fn.set l.fn.edits → IsStopped l.made (drop l.edit-index l.edits))
