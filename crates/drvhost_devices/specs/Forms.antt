-- Which part of a line is painted, by the line's form.
use Rattle.std.specs.Prelude.{ℕ, ◌-◌, ◌||◌, Bool, false, if◌then◌else◌, List, [], ◌∷◌, Option, None, Some, codes, is_some, length, nat_eq, option_map}
use Rattle.std.specs.List.{ends_with, starts_with}
use Rattle.drvhost_devices.specs.declared.form.Span.{Span}
use Rattle.drvhost_devices.specs.declared.paint.Color.{Color}
use Rattle.drvhost_devices.specs.declared.paint.Color.TheVariants.{Good, Bad, Warning, Place}

-- how long the first of these words are with which a line begins
abbrev pub beginning_in : List ℕ → List (List ℕ) → Option ℕ
beginning_in line [] = None
beginning_in line (words ∷ rest) =
    if starts_with nat_eq line words then Some (length words) else beginning_in line rest

-- words stand in a line
abbrev pub has_part : List ℕ → List ℕ → Bool
has_part words [] = false
has_part words (byte ∷ rest) = starts_with nat_eq (byte ∷ rest) words || has_part words rest

abbrev pub has_any : List ℕ → List (List ℕ) → Bool
has_any line [] = false
has_any line (words ∷ rest) = has_part words line || has_any line rest

-- the words with which lines begin that are painted whole: of what went well, and of what went wrong
abbrev pub good_beginnings : List (List ℕ)
good_beginnings = codes "accepted" ∷ codes "nothing is amiss" ∷ []

abbrev pub bad_beginnings : List (List ℕ)
bad_beginnings =
    codes "refused " ∷ codes "text fault " ∷ codes "image fault " ∷ codes "schedule fault "
    ∷ codes "  > " ∷ codes "the run was stopped" ∷ []

-- words behind the number of an event, or in a remark of an audit
abbrev pub bad_parts : List (List ℕ)
bad_parts =
    codes " bug 0x" ∷ codes " wrong " ∷ codes " is lost: " ∷ codes " is left behind: "
    ∷ codes " waits in a ring" ∷ []

abbrev pub doubtful_parts : List (List ℕ)
doubtful_parts =
    codes " refused " ∷ codes " is still to be cancelled: " ∷ codes " was refused: " ∷ []

-- words with which a line begins that are painted alone
abbrev pub heads : List (List ℕ)
heads =
    codes "why:" ∷ codes "see:" ∷ codes "mend it:" ∷ codes "show it:" ∷ codes "at fault:"
    ∷ codes "a path there:" ∷ codes "one path there:" ∷ codes "another path there:"
    ∷ codes "what differs:" ∷ codes "what is known where it arrives:" ∷ codes "audit" ∷ []

-- the colour of a line that is painted whole
abbrev pub color_within : List ℕ → Option Color
color_within line =
    if has_any line bad_parts then Some Bad else
    (if has_any line doubtful_parts then Some Warning else None)

abbrev pub color_of : List ℕ → Option Color
color_of line =
    if is_some (beginning_in line good_beginnings) then Some Good else
    (if is_some (beginning_in line bad_beginnings) then Some Bad else
    (if starts_with nat_eq line (codes "in ") then Some Place else
    (if starts_with nat_eq line (codes " ") then None else color_within line)))

-- how long a line is without its end
abbrev pub up_to_end : List ℕ → ℕ
up_to_end line = if ends_with nat_eq line (10 ∷ []) then length line - 1 else length line

-- the part of a line that is painted, from its start: all of it, or the words with which it begins
abbrev pub span_by : List ℕ → Option Color → Option Span
span_by line (Some color) = Some (record { end = up_to_end line; color = color })
span_by line None =
    option_map (λ end. record { end = end; color = Place }) (beginning_in line heads)

abbrev pub span_of : List ℕ → Option Span
span_of line = span_by line (color_of line)
