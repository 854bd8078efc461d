-- The lines that use a name.
use Rattle.std.specs.Prelude.{ℕ, Bool, false, min, List, Option, Some, None, option_map, option_and_then, if◌then◌else◌}
use Rattle.asm.specs.NameTable.{is_among, number_of}
use Rattle.asm.specs.declared.names.Use.{Use}

-- there is a label, and it is one of these
abbrev pub is_known_label : List (List ℕ) → Option (List ℕ) → Bool
is_known_label labels None = false
is_known_label labels (Some label) = is_among labels label

-- the line of a use of a name, where the name isn't among these
abbrev pub missed : List (List ℕ) → Option Use → Option ℕ
missed names None = None
missed names (Some u) = if is_among names u.name then None else Some u.line

-- the lesser of two lines
abbrev pub earliest : Option ℕ → Option ℕ → Option ℕ
earliest None b = b
earliest (Some a) None = Some a
earliest (Some a) (Some b) = Some (min a b)

-- the number of a name that is used, if one is
abbrev pub number_used : List (List ℕ) → Option Use → Option ℕ
number_used names u = option_and_then (λ u. number_of names u.name) u

-- the use of a name in a line, if there is one
abbrev pub used_at : ℕ → Option (List ℕ) → Option Use
used_at n name = option_map (λ name. record { line = n; name = name }) name

-- the place of the use of a name, if there is one, among those of its kind, which were so many
abbrev pub use_place : ℕ → Option (List ℕ) → Option ℕ
use_place count name = option_map (λ name. count) name
