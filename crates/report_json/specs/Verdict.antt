-- The objects of the verdict on the set of a file: the data of the lines of `report.specs.Verdict`.
use Rattle.std.specs.Prelude.{ℕ, List, [], ◌∷◌, codes, decimal, string_bytes, Option, None, Some, String}
use Rattle.json.specs.Json.{Json, null, number, string, array, object, Items, no_items, item, Members, no_members, member}
use Rattle.model.specs.declared.abs.Refusal.{Refusal}
use Rattle.model.specs.Words.{rule_word, sort_text}
use Rattle.report.specs.Rule.{rule_name}
use Rattle.report_json.specs.declared.verdict.CertifiedRoutine.{CertifiedRoutine}

-- the name of the shape, and its edition
abbrev pub verdict_format : List ℕ
verdict_format = codes "pafteis.verdict/1"

-- the name of a routine: of an image's there is none
abbrev pub name_json : {A : Type 0} → Option (String A) → Json
name_json None = null
name_json (Some name) = string (string_bytes name)

-- the members of a routine of an accepted set, before others
abbrev pub routine_members : CertifiedRoutine → Members → Members
routine_members routine others =
    member (codes "driver") (number (decimal routine.driver))
    (member (codes "routine") (number (decimal routine.routine))
    (member (codes "name") (name_json routine.name)
    (member (codes "sort") (string (sort_text routine.sort))
    (member (codes "certificate") (number (decimal routine.certificate))
    others))))

-- such a routine
abbrev pub routine_json : CertifiedRoutine → Json
routine_json routine = object (routine_members routine no_members)

abbrev pub routines_json : List CertifiedRoutine → Items
routines_json [] = no_items
routines_json (routine ∷ routines) = item (routine_json routine) (routines_json routines)

-- an accepted set, with its routines
abbrev pub acceptance_json : List ℕ → List CertifiedRoutine → Json
acceptance_json file routines =
    object
    (member (codes "format") (string verdict_format)
    (member (codes "file") (string file)
    (member (codes "verdict") (string (codes "accepted"))
    (member (codes "routines") (array (routines_json routines))
    no_members))))

-- the rule that a set breaks first, and where, before other members
abbrev pub place_before : Refusal → Members → Members
place_before refusal members =
    member (codes "rule") (string (rule_word refusal.rule))
    (member (codes "rule_name") (string (rule_name refusal.rule))
    (member (codes "driver") (number (decimal refusal.driver))
    (member (codes "routine") (number (decimal refusal.routine))
    (member (codes "position") (number (decimal refusal.at))
    members))))

-- a refused set
abbrev pub refusal_json : List ℕ → Refusal → Json
refusal_json file refusal =
    object
    (member (codes "format") (string verdict_format)
    (member (codes "file") (string file)
    (member (codes "verdict") (string (codes "refused"))
    (place_before refusal no_members))))
