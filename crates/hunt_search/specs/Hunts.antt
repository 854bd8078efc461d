-- What a search answers.
use Rattle.std.specs.Prelude.{⊤, Bool, true, false, Some}
use Rattle.tell_audit.specs.declared.ending.Ending.{Ending}
use Rattle.tell_audit.specs.declared.ending.Ending.TheVariants.{Fails, Stuck}
use Rattle.tell_audit.specs.Ends.{EndsSo}
use Rattle.hunt_facts.specs.declared.bounds.Bounds.{Bounds}
use Rattle.hunt_search.specs.declared.search.Find.{Find}
use Rattle.hunt_facts.specs.declared.bounds.Goal.{Goal}
use Rattle.hunt_facts.specs.declared.bounds.Goal.TheVariants.{Amiss, AmissOrStuck}
use Rattle.hunt_search.specs.declared.search.Hunted.{Hunted}
use Rattle.hunt_search.specs.declared.search.Hunted.TheVariants.{Found, All, More}
use Rattle.model.specs.Set.{Set}
use Rattle.model.specs.Typable.{IsTypable}

-- such an end is looked for: one at which nothing is amiss only where this is asked
abbrev pub IsWanted : Goal → Ending → Type 0
IsWanted goal (Fails amiss) = ⊤
IsWanted Amiss (Stuck standing) = ⊥
IsWanted AmissOrStuck (Stuck standing) = ⊤

-- a run on the threads of a hunt ends as is told, and such an end is looked for
pub record IsFind (set : Set) (bounds : Bounds) (find : Find) : Type 0 where
  pub ends : EndsSo set bounds.threads find.before.items find.last (Some find.ending)
  pub wanted : IsWanted bounds.goal find.ending

-- what is answered: of a run that was found, how it ends
abbrev pub IsHunted : Set → Bounds → Hunted → Type 0
IsHunted set bounds (Found find) = IsFind set bounds find
IsHunted set bounds (All worlds) = ⊤
IsHunted set bounds (More worlds events) = ⊤

-- whether a set is refused
abbrev pub TellsRefused : Set → Bool → Type 0
TellsRefused set true = IsTypable set → ⊥
TellsRefused set false = IsTypable set
