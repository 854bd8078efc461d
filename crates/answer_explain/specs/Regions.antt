-- Where the lines of a text stand, as regions of SARIF.
use Rattle.std.specs.Prelude.{ℕ, ◌+◌, ◌-◌, Bool, false, if◌then◌else◌, length, min, nat_eq, nat_lt, List, [], ◌∷◌, Option, None, Some, slice_get, take}
use Rattle.std.specs.Option.{option_and_then, option_map}
use Rattle.asm_places.specs.Source.{instruction_lines}
use Rattle.model.specs.declared.abs.Refusal.{Refusal}
use Rattle.report_sarif.specs.declared.log.Place.{Place}
use Rattle.report_sarif.specs.declared.log.Region.{Region}
use Rattle.text.specs.Cut.{is_blank, lines_of}
use Rattle.drvhost_devices.specs.Answer.{is_image}

-- how many units of UTF-16 the character takes that a byte of UTF-8 begins: none, where the byte
-- begins none
abbrev pub units_of_byte : ℕ → ℕ
units_of_byte b =
    if nat_lt b 0x80 then 1 else (if nat_lt b 0xC0 then 0 else (if nat_lt b 0xF0 then 1 else 2))

abbrev pub units : List ℕ → ℕ
units [] = 0
units (b ∷ bs) = units_of_byte b + units bs

-- how many blanks a line begins with
abbrev pub indent : List ℕ → ℕ
indent [] = 0
indent (b ∷ bs) = if is_blank b then 1 + indent bs else 0

-- a line without the CR before its LF, with which it ends a line (3.14.26)
abbrev pub is_cr : Option ℕ → Bool
is_cr None = false
is_cr (Some b) = nat_eq b 13

abbrev pub ends_with_cr : List ℕ → Bool
ends_with_cr raw = is_cr (slice_get raw (length raw - 1))

abbrev pub without_cr : List ℕ → List ℕ
without_cr raw = if ends_with_cr raw then take (length raw - 1) raw else raw

-- a line from its first byte that is no blank to its end (3.30)
abbrev pub region_of : ℕ → List ℕ → Region
region_of number line = record { line = number; start = 1 + indent line; end = 1 + units line }

abbrev pub region_on : ℕ → List ℕ → Region
region_on number raw = region_of number (without_cr raw)

-- that of the line of a number of a text, from 1, if there is one
abbrev pub region_at : List ℕ → ℕ → Option Region
region_at text number = option_map (region_on number) (slice_get (lines_of text) (number - 1))

-- where a fault is that is told of the line of a number: on the last line, where it is told of the
-- one behind
abbrev pub fault_region : List ℕ → ℕ → Option Region
fault_region text number = region_at text (min number (length (lines_of text)))

-- where a text ends: on the line behind its last LF, behind all that stands there
abbrev pub passed : ℕ → Place → Place
passed b place =
    if nat_eq b 10 then record { line = place.line + 1; column = 1 }
    else record { line = place.line; column = place.column + units_of_byte b }

abbrev pub end_from : Place → List ℕ → Place
end_from place [] = place
end_from place (b ∷ bs) = end_from (passed b place) bs

abbrev pub text_end : List ℕ → Place
text_end text = end_from (record { line = 1; column = 1 }) text

-- the numbers of the lines of a routine's instructions in the bytes of a file: an image has none
abbrev pub position_lines : List ℕ → ℕ → ℕ → List ℕ
position_lines bytes driver routine =
    if is_image bytes then [] else instruction_lines driver routine bytes

-- where the instruction of a position of a routine is, and where a refusal is
abbrev pub position_region : List ℕ → ℕ → ℕ → ℕ → Option Region
position_region bytes driver routine at =
    option_and_then (region_at bytes) (slice_get (position_lines bytes driver routine) at)

abbrev pub refusal_region : List ℕ → Refusal → Option Region
refusal_region bytes refusal =
    position_region bytes refusal.driver refusal.routine refusal.at
