use Rattle.std.proofs.Common.{◌≡◌, List, ℕ, true}
use Rattle.hunt_walks.specs.Ends.{is_rest}
use Rattle.hunt_walks.proofs.ends.is_rest.Given as goal

abbrev pub invariant-loop-number : goal.invariant-loop-number
invariant-loop-number g l =
    (home : g.row.W.Denot) (path : List ℕ) → g.W.Walker.stands home path l.place
    → is_rest (g.W.Walker.may home) path l.number ≡ true
