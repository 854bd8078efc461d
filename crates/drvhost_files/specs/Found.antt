-- The files that a path stands for.
use Rattle.std.specs.Prelude.{ℕ, ◌≡◌, ◌⊎◌, List, [], ◌∷◌, Bool, true, false, ◌||◌, IsTrue, All, String, codes, map, nat_eq, string_bytes}
use Rattle.std.specs.List.{ends_with}
use Rattle.std.specs.List.Sorted.{IsSorted}
use Rattle.std.specs.String.{string_cmp}
use Rattle.drvhost_files.specs.declared.find.Found.{Found}
use Rattle.drvhost_files.specs.declared.sought.Sought.{Sought}
use Rattle.drvhost_files.specs.declared.sought.Sought.TheVariants.{Sets, Scenarios}

-- a path ends as that of a file which is sought: of a driver text or an image, or of a scenario
abbrev pub is_name_of : Sought → List ℕ → Bool
is_name_of Sets path =
    ends_with nat_eq path (codes ".drv") || ends_with nat_eq path (codes ".image")
is_name_of Scenarios path = ends_with nat_eq path (codes ".scenario")

-- each of these paths does
abbrev pub AreNamed : {A : Type 0} → Sought → List (String A) → Type 0
AreNamed sought paths = All (λ path. IsTrue (is_name_of sought (string_bytes path))) paths

-- this path alone
abbrev pub IsAlone : {A : Type 0} → List ℕ → List (String A) → Type 0
IsAlone path paths = map string_bytes paths ≡ path ∷ []

-- what may be found for a path: where it is no folder that path alone, and else files that are
-- sought; in order
abbrev pub IsFound : Sought → List ℕ → Found → Type 0
IsFound sought path found =
    (((found.is_folder ≡ false) × IsAlone path found.files.items × (found.unread.items ≡ []))
    ⊎ ((found.is_folder ≡ true) × AreNamed sought found.files.items))
    × IsSorted string_cmp found.files.items × IsSorted string_cmp found.unread.items
