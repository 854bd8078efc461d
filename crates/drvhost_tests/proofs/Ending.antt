-- Where the lines of a report end: no byte of a name or of an answer ends one.
use Rattle.std.proofs.Common.{◌≡◌, ◌∙◌, ◌+◌, ◌/◌, ◌%◌, ◌++◌, ◌==◌, ℕ, zero, suc, Bool, true, false, List, [], ◌∷◌, Option, Some, None, ap, append-nil, append_assoc, arith, codes, decimal, if◌then◌else◌, length, nat_eq, nat_lt, refl, subst, sym, true≢false}
use Rattle.std.proofs.lemmas.Bool.{eqb-true, false_from_ne_true}
use Rattle.std.specs.Bool.{⊤}
use Rattle.std.specs.Fmt.{digit_glyph, digits, digits_onto}
use Rattle.percent_encoding.specs.Percent.{percent_encode_byte}
use Rattle.drvhost_devices.specs.Answer.{Answer}
use Rattle.text.specs.Cut.{lines_from, lines_of}
use Rattle.drvhost_tests.specs.declared.written.Place.{Place}
use Rattle.drvhost_tests.specs.declared.written.Place.TheVariants.{Description, Comment, Xml}
use Rattle.drvhost_tests.specs.Reports.{comment_lines, commented, comments, point_line, point_lines, tap, tap_lines, test_points, verdict}
use Rattle.drvhost_tests.specs.Test.{Test}
use Rattle.drvhost_tests.specs.Written.{is_plain, lines_written, mark_in, marks_of, written, written_by, written_byte}

-- bytes of which none is a line feed
abbrev Whole : List ℕ → Type 0
Whole [] = ⊤
Whole (b ∷ bytes) = (nat_eq b 10 ≡ false) × Whole bytes

abbrev is_whole : List ℕ → Bool
is_whole [] = true
is_whole (b ∷ bytes) = if nat_eq b 10 then false else is_whole bytes

-- which the test of them shows
whole_of : (bytes : List ℕ) → is_whole bytes ≡ true → Whole bytes
whole_of [] so = tt
whole_of (b ∷ bytes) so = by (nat_eq b 10) refl (λ e. whole_of bytes e)
  where
    by : (t : Bool) → nat_eq b 10 ≡ t → (is_whole bytes ≡ true → Whole bytes) → Whole (b ∷ bytes)
    by true is others =
        absurd (true≢false (sym so ∙ ap (λ (t : Bool). if t then false else is_whole bytes) is))
    by false isnt others =
        (isnt, others (sym (ap (λ (t : Bool). if t then false else is_whole bytes) isnt) ∙ so))

whole_both : (first later : List ℕ) → Whole first → Whole later → Whole (first ++ later)
whole_both [] later w v = v
whole_both (b ∷ first) later (apart, w) v = (apart, whole_both first later w v)

whole_if : (t : Bool) (first other : List ℕ) → Whole first → Whole other
    → Whole (if t then first else other)
whole_if true first other w v = w
whole_if false first other w v = v

-- digits are others
other : (b : ℕ) → (b ≡ 10 → ⊥) → nat_eq b 10 ≡ false
other b isnt = false_from_ne_true (nat_eq b 10) (λ e. isnt (eqb-true b 10 e))

other_if : (t : Bool) (b d : ℕ) → nat_eq b 10 ≡ false → nat_eq d 10 ≡ false
    → nat_eq (if t then b else d) 10 ≡ false
other_if true b d apart isnt = apart
other_if false b d apart isnt = isnt

glyph : (upper : Bool) (d : ℕ) → nat_eq (digit_glyph upper d) 10 ≡ false
glyph upper d =
    other_if (nat_lt d 10) (48 + d) (if upper then 55 + d else 87 + d)
    (other (48 + d) (λ e. omega (arith, e)))
    (other_if upper (55 + d) (87 + d) (other (55 + d) (λ e. omega (arith, e)))
    (other (87 + d) (λ e. omega (arith, e))))

digits_whole : (k base n : ℕ) (upper : Bool) (behind : List ℕ) → Whole behind
    → Whole (digits_onto k base upper n behind)
digits_whole zero base n upper behind w = w
digits_whole (suc k) base n upper behind w =
    let more : List ℕ = digit_glyph upper (n % base) ∷ behind in
    let so : Whole more = (glyph upper (n % base), w) in
    whole_if (n / base == 0) more (digits_onto k base upper (n / base) more) so
    (digits_whole k base (n / base) upper more so)

decimal_whole : (n : ℕ) → Whole (decimal n)
unfolding digits
decimal_whole n = digits_whole 64 10 n false [] tt

-- and so is what stands in place of a byte
percent_whole : (b : ℕ) → Whole (percent_encode_byte b)
unfolding percent_encode_byte
percent_whole b = (refl, (glyph true (b / 16 % 16), (glyph true (b % 16), tt)))

plain : (b : ℕ) → is_plain b ≡ true → nat_eq b 10 ≡ false
plain b so = other b (λ (e : b ≡ 10). true≢false (sym so ∙ ap is_plain e))

unmarked : (b : ℕ) → Whole (written_by None b)
unmarked b = by (is_plain b) refl
  where
    by : (t : Bool) → is_plain b ≡ t → Whole (if t then b ∷ [] else percent_encode_byte b)
    by true so = (plain b so, tt)
    by false isnt = percent_whole b

marked_if : (t : Bool) (mark : List ℕ) (others : Option (List ℕ)) (b : ℕ) → Whole mark
    → Whole (written_by others b) → Whole (written_by (if t then Some mark else others) b)
marked_if true mark others b w v = w
marked_if false mark others b w v = v

abbrev AreWhole : List (ℕ × List ℕ) → Type 0
AreWhole [] = ⊤
AreWhole (mark ∷ marks) = Whole mark.1 × AreWhole marks

marked : (marks : List (ℕ × List ℕ)) (b : ℕ) → AreWhole marks
    → Whole (written_by (mark_in marks b) b)
marked [] b are = unmarked b
marked (mark ∷ marks) b (w, are) =
    marked_if (nat_eq b mark.0) mark.1 (mark_in marks b) b w (marked marks b are)

tables : (place : Place) → AreWhole (marks_of place)
tables Description = (whole_of (codes "\\#") refl, (whole_of (codes "\\\\") refl, tt))
tables Comment = tt
tables Xml = (
  whole_of (codes "&quot;") refl,
  (
    whole_of (codes "&amp;") refl,
    (whole_of (codes "&lt;") refl, (whole_of (codes "&gt;") refl, tt)),
  ),
)

written_whole : (place : Place) (bytes : List ℕ) → Whole (written place bytes)
written_whole place [] = tt
written_whole place (b ∷ bytes) =
    whole_both (written_byte place b) (written place bytes)
    (marked (marks_of place) b (tables place)) (written_whole place bytes)

-- so a line ends where it is to
part_read : (held part more : List ℕ) → Whole part
    → lines_from held (part ++ more) ≡ lines_from (held ++ part) more
part_read held [] more w = ap (λ (h : List ℕ). lines_from h more) (sym (append-nil held))
part_read held (b ∷ part) more (apart, w) =
    ap (λ (t : Bool). if t then held ∷ lines_from [] (part ++ more)
    else lines_from (held ++ b ∷ []) (part ++ more)) apart
    ∙ part_read (held ++ b ∷ []) part more w
    ∙ ap (λ (h : List ℕ). lines_from h more) (append_assoc held (b ∷ []) part)

-- a text of whole lines
abbrev ReadsAs : List ℕ → List (List ℕ) → Type 0
ReadsAs text lines = (rest : List ℕ) → lines_of (text ++ rest) ≡ lines ++ lines_of rest

line_read : (line more : List ℕ) (lines : List (List ℕ)) → Whole line → ReadsAs more lines
    → ReadsAs (line ++ (codes "\n" ++ more)) (line ∷ lines)
line_read line more lines w so rest =
    ap (λ (t : List ℕ). lines_of t) (append_assoc line (codes "\n" ++ more) rest)
    ∙ part_read [] line (codes "\n" ++ (more ++ rest)) w
    ∙ ap (λ (others : List (List ℕ)). line ∷ others) (so rest)

both_read : (first later : List ℕ) (lines others : List (List ℕ)) → ReadsAs first lines
    → ReadsAs later others → ReadsAs (first ++ later) (lines ++ others)
both_read first later lines others one so rest =
    ap (λ (t : List ℕ). lines_of t) (append_assoc first later rest)
    ∙ one (later ++ rest)
    ∙ ap (λ (ls : List (List ℕ)). lines ++ ls) (so rest)
    ∙ sym (append_assoc lines others (lines_of rest))

if_read : (t : Bool) (text : List ℕ) (lines : List (List ℕ)) → ReadsAs text lines
    → ReadsAs (if t then [] else text) (if t then [] else lines)
if_read true text lines so rest = refl
if_read false text lines so rest = so rest

lines_read : (lines : List (List ℕ))
    → ReadsAs (lines_written Comment (codes "# drvhost: ") lines) (commented lines)
lines_read [] = λ rest. refl
lines_read (line ∷ lines) =
    let before : List ℕ = codes "# drvhost: " in
    let here : List ℕ = written Comment line in
    let more : List ℕ = lines_written Comment before lines in
    let w = whole_of before refl in
    subst (λ (t : List ℕ). ReadsAs t ((before ++ here) ∷ commented lines))
    (append_assoc before here (codes "\n" ++ more))
    (line_read (before ++ here) more (commented lines)
    (whole_both before here w (written_whole Comment line)) (lines_read lines))

comments_read : (answer : Answer) → ReadsAs (comments answer) (comment_lines answer)
comments_read answer =
    let before : List ℕ = codes "# drvhost: " in
    if_read (nat_eq answer.status 0)
    (lines_written Comment before (lines_of answer.output)
    ++ lines_written Comment before (lines_of answer.told))
    (commented (lines_of answer.output) ++ commented (lines_of answer.told))
    (both_read (lines_written Comment before (lines_of answer.output))
    (lines_written Comment before (lines_of answer.told)) (commented (lines_of answer.output))
    (commented (lines_of answer.told)) (lines_read (lines_of answer.output))
    (lines_read (lines_of answer.told)))

point_whole : (number : ℕ) (test : Test) → Whole (point_line number test)
point_whole number test =
    let name : List ℕ = written Description test.name in
    let rest : List ℕ = codes " - " ++ name in
    whole_both (verdict test.answer) (decimal number ++ rest)
    (whole_if (nat_eq test.answer.status 0) (codes "ok ") (codes "not ok ")
    (whole_of (codes "ok ") refl) (whole_of (codes "not ok ") refl))
    (whole_both (decimal number) rest (decimal_whole number)
    (whole_both (codes " - ") name (whole_of (codes " - ") refl) (written_whole Description test.name)))

points_read : (number : ℕ) (tests : List Test)
    → ReadsAs (test_points number tests) (point_lines number tests)
points_read number [] = λ rest. refl
points_read number (test ∷ tests) =
    let line : List ℕ = point_line number test in
    let words : List ℕ = comments test.answer in
    both_read (line ++ (codes "\n" ++ words)) (test_points (number + 1) tests)
    (line ∷ comment_lines test.answer) (point_lines (number + 1) tests)
    (line_read line words (comment_lines test.answer) (point_whole number test)
    (comments_read test.answer)) (points_read (number + 1) tests)

-- the lines of a report in TAP
pub tap_read : (text : List ℕ) (version : ℕ) (tests : List Test) → text ≡ tap version tests
    → lines_of text ≡ tap_lines version tests
tap_read text version tests is =
    let points : List ℕ = test_points 1 tests in
    let count : List ℕ = decimal (length tests) in
    let last : lines_of points ≡ point_lines 1 tests =
    ap (λ (t : List ℕ). lines_of t) (sym (append-nil points))
    ∙ points_read 1 tests []
    ∙ append-nil (point_lines 1 tests) in
    ap (λ (t : List ℕ). lines_of t) is
    ∙ part_read (codes "TAP version ") (decimal version) (codes "\n1.." ++ (count ++ (codes "\n" ++ points)))
    (decimal_whole version)
    ∙ ap (λ (ls : List (List ℕ)). (codes "TAP version " ++ decimal version) ∷ ls)
    (part_read (codes "1..") count (codes "\n" ++ points) (decimal_whole (length tests))
    ∙ ap (λ (ls : List (List ℕ)). (codes "1.." ++ count) ∷ ls) last)
