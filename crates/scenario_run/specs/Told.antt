-- What the replies of a run told, as far as a scenario asks for it: the last one, bug checks, and how
-- packets topped out.
use Rattle.std.specs.Prelude.{ℕ, ◌≡◌, ◌<◌, ◌-◌, ◌++◌, List, ◌∷◌, [], length, nat_eq, Option, None, Some, slice_get, vec_len}
use Rattle.std.specs.List.{list_any}
use Rattle.std.specs.Vec.{vec_capacity}
use Rattle.indexmap.specs.IndexMap.{spare}
use Rattle.model.specs.declared.event.Reply.{Reply}
use Rattle.model.specs.declared.event.Reply.TheVariants.{Started, Stepped, Finished, Topped, Waited, Idle, Refused, Bug, Wrong}
use Rattle.model.specs.Words.{bug_check_code}
use Rattle.scenario_run.specs.declared.told.Told.{Told}
use Rattle.scenario_run.specs.Holding.{is_bug}
use Rattle.scenario_run.specs.Tops.{AreTops}

-- the last of these
abbrev pub last_of : List Reply → Option Reply
last_of told = slice_get told (length told - 1)

-- the number of the bug check that a reply tells, if it does
abbrev pub bug_told : Reply → Option ℕ
bug_told (Bug bug) = Some (bug_check_code bug.check)
bug_told (Started packet) = None
bug_told Stepped = None
bug_told Finished = None
bug_told (Topped packet status info) = None
bug_told Waited = None
bug_told Idle = None
bug_told Refused = None
bug_told (Wrong place) = None

-- these are the numbers of all bug checks that they tell
abbrev pub AreBugs : List ℕ → List Reply → Type 0
AreBugs bugs told = (n : ℕ) → list_any (λ b. nat_eq b n) bugs ≡ list_any (is_bug n) told

-- whatever replies it had them by, it has them by one reply more
abbrev pub AddsBug : List ℕ → Reply → List ℕ → Type 0
AddsBug before reply after =
    (told : List Reply) → AreBugs before told → AreBugs after (told ++ reply ∷ [])

-- this is what these replies told
pub record AreTold (t : Told) (told : List Reply) : Type 0 where
  pub last : t.last ≡ last_of told
  pub bugs : AreBugs t.bugs.items told
  pub tops : AreTops t.tops told

-- whatever replies told it, these more tell the other
abbrev pub Adds : Told → List Reply → Told → Type 0
Adds before more after =
    (told : List Reply) → AreTold before told → AreTold after (told ++ more)

-- there is room for what one more tells
pub record HasRoom (t : Told) : Type 0 where
  pub bugs : vec_len t.bugs < vec_capacity t.bugs
  pub tops : 0 < spare t.tops
