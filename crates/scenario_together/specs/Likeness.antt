-- Plays that go on the same way: they differ in nothing but events that lead to one world.
use Rattle.std.specs.Prelude.{◌≡◌, ◌⊎◌, Bool, true, List}
use Rattle.model.specs.declared.event.Event.{Event}
use Rattle.scenario_run.specs.Alike.{GoAlike}
use Rattle.scenario_run.specs.Playing.{Playing}

pub data SameWay : Playing → Playing → Type 0 where
  same_way : (p : Playing) (others : List Event) → GoAlike p.set p.threads p.events others
      → SameWay p (record p { events = others })

-- one is the other, or goes the same way, where such are taken for one
abbrev pub IsLike : Bool → Playing → Playing → Type 0
IsLike merges p q = (p ≡ q) ⊎ ((merges ≡ true) × SameWay p q)
