-- How bytes stand in a report: all in printable ASCII, so that none ends a line, and none is taken
-- for the report's own words.
use Rattle.std.specs.Prelude.{ℕ, Bool, ◌&&◌, ◌++◌, List, [], ◌∷◌, Option, None, Some, codes, flat_map, if◌then◌else◌, nat_eq, nat_le, not}
use Rattle.percent_encoding.specs.Percent.{percent_encode_byte}
use Rattle.drvhost_tests.specs.declared.written.Mark.{Mark}
use Rattle.drvhost_tests.specs.declared.written.Place.{Place}
use Rattle.drvhost_tests.specs.declared.written.Place.TheVariants.{Description, Comment, Xml}

-- what is written in place of a byte that means something where it stands: in a description of TAP,
-- where `#` would begin a directive, it and `\` stand behind a `\`; in XML markup is written as its
-- entities
abbrev pub marks_of : Place → List (ℕ × List ℕ)
marks_of Description = (35, 92 ∷ 35 ∷ []) ∷ (92, 92 ∷ 92 ∷ []) ∷ []
marks_of Comment = []
marks_of Xml =
    (34, codes "&quot;") ∷ (38, codes "&amp;") ∷ (60, codes "&lt;") ∷ (62, codes "&gt;") ∷ []

-- what a table has for a byte
abbrev pub mark_in : List (ℕ × List ℕ) → ℕ → Option (List ℕ)
mark_in [] b = None
mark_in (mark ∷ marks) b = if nat_eq b mark.0 then Some mark.1 else mark_in marks b

abbrev pub mark_for : Mark → ℕ × List ℕ
mark_for mark = (mark.byte, mark.text.now)

-- a byte that stands for itself where it has no mark: what is printable in ASCII, but for `%`
abbrev pub is_plain : ℕ → Bool
is_plain b = nat_le 32 b && nat_le b 126 && not (nat_eq b 37)

-- any other is `%` and its two hexadecimal digits, as in a URI (RFC 3986): so what differs is
-- written otherwise
abbrev pub written_by : Option (List ℕ) → ℕ → List ℕ
written_by (Some mark) b = mark
written_by None b = if is_plain b then b ∷ [] else percent_encode_byte b

abbrev pub written_byte : Place → ℕ → List ℕ
written_byte place b = written_by (mark_in (marks_of place) b) b

-- bytes, each by itself
abbrev pub written : Place → List ℕ → List ℕ
written place bytes = flat_map (written_byte place) bytes

-- lines, each behind these words
abbrev pub lines_written : Place → List ℕ → List (List ℕ) → List ℕ
lines_written place before [] = []
lines_written place before (line ∷ lines) =
    before ++ (written place line ++ (codes "\n" ++ lines_written place before lines))
