use Rattle.std.specs.Prelude.{◌≡◌, ◌++◌, take, drop}
use Rattle.model.specs.Kinds.{all_let_go}
use Rattle.absstate.proofs.cancel.all_let_go.Given as goal

-- the registers below the index are let go
abbrev pub invariant-loop-kind : goal.invariant-loop-kind
invariant-loop-kind l =
    take l.kind-index l.kinds ++ all_let_go l.set l.driver l.lock (drop l.kind-index l.kinds)
    ≡ all_let_go l.set l.driver l.lock l.initial.kinds
