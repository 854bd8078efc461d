use Rattle.std.proofs.Common.{◌≡◌, ◌++◌, map}
use Rattle.std.specs.Vec.Iter.{into_iter_items}
use Rattle.asm.specs.Outline.{finished}
use Rattle.asm.proofs.draft.Draft.finished_routines.Given as goal

-- the routines so far are finished, and with those that are left they are all
abbrev pub invariant-loop-routine : goal.invariant-loop-routine
invariant-loop-routine l = goal.iterator-loop-routine.can_next l.routine-iterator
    × goal.iterator-loop-routine.is_finite l.routine-iterator
    × (l.routines.items ++ map (finished l.self) (into_iter_items l.routine-iterator)
    ≡ map (finished l.self) l.fn.closed.items)
