-- The ends of interleavings among those that are kept.
use Rattle.std.specs.Prelude.{ℕ, ◌++◌, Bool, List, [], ◌∷◌, if◌then◌else◌}
use Rattle.scenario_run.specs.Playing.{Playing}
use Rattle.scenario_together.specs.Interleaving.{behind, may_step}
use Rattle.hunt_walks.specs.Ends.{is_rest}

-- the play behind an interleaving, if that has come to its end
abbrev pub end_if : Playing → List ℕ → Bool → List Playing
end_if p path rests = if rests then behind p path ∷ [] else []

abbrev pub end_of : List Bool → Playing → List ℕ → List Playing
end_of named p path = end_if p path (is_rest (may_step named p) path 64)

-- those of several
abbrev pub ends_of : List Bool → Playing → List (List ℕ) → List Playing
ends_of named p [] = []
ends_of named p (path ∷ paths) = end_of named p path ++ ends_of named p paths
