-- An interleaving stands behind steps of threads from where another one began.
use Rattle.std.specs.Prelude.{ℕ, ◌≡◌, Bool, List}
use Rattle.scenario_run.specs.Playing.{Playing}
use Rattle.scenario_together.specs.Interleaving.{behind}

pub record Stands (named : List Bool) (merges : Bool) (p : Playing) (path : List ℕ)
    (its_named : List Bool) (its_merges : Bool) (q : Playing) : Type 0 where
  pub named_so : its_named ≡ named
  pub merges_so : its_merges ≡ merges
  pub there : q ≡ behind p path
