-- What a unified diff makes of a text. A diff is hunks, one behind another. The head of a hunk
-- tells which lines of both texts it shows: the number of the first, and how many. Each line of its
-- body has a sign before it: a space where the line stays, `-` where it is taken out, `+` where it
-- is put in. A line ends with LF, unless a remark stands behind it, which begins with `\`: then
-- none ends it. Lines that no hunk shows stay as they are.
use Rattle.std.specs.Prelude.{ℕ, zero, suc, ◌+◌, ◌-◌, ◌&&◌, ◌++◌, Bool, true, false, List, length}
use Rattle.std.specs.Prelude.{if◌then◌else◌, [], ◌∷◌, nat_eq, nat_lt, bytes_eq, codes, take, drop}
use Rattle.std.specs.Prelude.{Option, Some, None}
use Rattle.std.specs.List.{position}
use Rattle.text.specs.Cut.{lines_of, tokens_of}
use Rattle.text.specs.Number.{numbered_in}
use Rattle.text.specs.declared.number.Numeral.{Numeral}
use Rattle.text.specs.declared.number.Numeral.TheVariants.{Other, TooLarge, Number}
use Rattle.mend_edits.specs.declared.head.Head.{Head}
use Rattle.mend_edits.specs.declared.head.Range.{Range}
use Rattle.mend_edits.specs.Patch.{ended}

-- `-FIRST,COUNT` or `+FIRST,COUNT`
abbrev pub range_of : Numeral → Numeral → Option Range
range_of (Number first) (Number count) = Some (record { first = first; count = count })
range_of (Number first) Other = None
range_of (Number first) TooLarge = None
range_of Other count = None
range_of TooLarge count = None

abbrev pub range_parted : ℕ → List ℕ → Option ℕ → Option Range
range_parted sign token None = None
range_parted sign token (Some comma) =
    range_of (numbered_in sign (take comma token)) (numbered_in 44 (drop comma token))

abbrev pub range_in : ℕ → List ℕ → Option Range
range_in sign token = range_parted sign token (position (λ b. nat_eq b 44) token)

-- `@@ -FIRST,COUNT +FIRST,COUNT @@`
abbrev pub head_of : Option Range → Option Range → Option Head
head_of (Some old) (Some new) = Some (record { old = old; new = new })
head_of (Some old) None = None
head_of None new = None

abbrev pub head_parted : List (List ℕ) → Option Head
head_parted (opening ∷ old ∷ new ∷ closing ∷ []) =
    if bytes_eq opening (codes "@@") && bytes_eq closing (codes "@@")
    then head_of (range_in 45 old) (range_in 43 new)
    else None
head_parted (opening ∷ old ∷ new ∷ closing ∷ further ∷ parts) = None
head_parted (opening ∷ old ∷ new ∷ []) = None
head_parted (opening ∷ old ∷ []) = None
head_parted (opening ∷ []) = None
head_parted [] = None

abbrev pub head_in : List ℕ → Option Head
head_in line = head_parted (tokens_of line)

-- how many lines stand before those of a range; an empty one has the number of the line before it
abbrev pub before : Range → ℕ
before range = if nat_eq range.count 0 then range.first else range.first - 1

-- how many bytes the next line of a text has, its LF among them
abbrev pub size_to : Option ℕ → List ℕ → ℕ
size_to None text = length text
size_to (Some place) text = place + 1

abbrev pub line_size : List ℕ → ℕ
line_size text = size_to (position (λ b. nat_eq b 10) text) text

-- how far a diff has been followed: what of the text is left, and how many lines were passed; what
-- was made so far, and of how many lines; and how many lines of both texts its hunk still shows
pub record Progress : Type 0 where
  pub left : List ℕ
  pub passed : ℕ
  pub written : List ℕ
  pub made : ℕ
  pub old : ℕ
  pub new : ℕ

-- the next line stays, outside of hunks
abbrev pub kept_of : ℕ → Progress → Option Progress
kept_of size p =
    if nat_lt 0 size
    then Some (record p {
      left = drop size p.left;
      passed = p.passed + 1;
      written = p.written ++ take size p.left;
      made = p.made + 1;
    })
    else None

abbrev pub kept : Option Progress → Option Progress
kept None = None
kept (Some p) = kept_of (line_size p.left) p

abbrev pub kept_times : ℕ → Option Progress → Option Progress
kept_times zero p = p
kept_times (suc count) p = kept_times count (kept p)

-- a hunk begins: lines stay up to it, and what its head tells of both texts is so
abbrev pub begun : Head → Option Progress → Option Progress
begun head None = None
begun head (Some p) =
    if nat_eq p.passed (before head.old) && nat_eq p.made (before head.new)
    then Some (record p { old = head.old.count; new = head.new.count })
    else None

abbrev pub opened : Option Head → Progress → Option Progress
opened None p = None
opened (Some head) p = begun head (kept_times (before head.old - p.passed) (Some p))

-- what stands behind these bytes, where a text begins with them
abbrev pub behind : List ℕ → List ℕ → Option (List ℕ)
behind bytes text =
    if bytes_eq (take (length bytes) text) bytes then Some (drop (length bytes) text) else None

-- what stands behind the LF that ends a line; or nothing, where the line is bare: none ends it
abbrev pub passed_end : Bool → List ℕ → Option (List ℕ)
passed_end true [] = Some []
passed_end true (byte ∷ text) = None
passed_end false [] = None
passed_end false (byte ∷ text) = if nat_eq byte 10 then Some text else None

abbrev pub end_behind : Bool → Option (List ℕ) → Option (List ℕ)
end_behind bare None = None
end_behind bare (Some text) = passed_end bare text

-- what stands behind a line, where it is the next of a text
abbrev pub line_behind : List ℕ → Bool → List ℕ → Option (List ℕ)
line_behind line bare text = end_behind bare (behind line text)

-- a line of the text, which the hunk shows
abbrev pub taken_to : Option (List ℕ) → Progress → Option Progress
taken_to None p = None
taken_to (Some left) p = Some (record p { left = left; passed = p.passed + 1; old = p.old - 1 })

abbrev pub taken : List ℕ → Bool → Progress → Option Progress
taken line bare p =
    if nat_lt 0 p.old then taken_to (line_behind line bare p.left) p else None

-- a line with its LF, unless it is bare
abbrev pub bytes_of : List ℕ → Bool → List ℕ
bytes_of line true = line
bytes_of line false = ended line

-- a line that is made, which the hunk shows
abbrev pub put : List ℕ → Bool → Option Progress → Option Progress
put line bare None = None
put line bare (Some p) =
    if nat_lt 0 p.new
    then Some (record p {
      written = p.written ++ bytes_of line bare;
      made = p.made + 1;
      new = p.new - 1;
    })
    else None

-- a line of a hunk, by its sign
abbrev pub shown : List ℕ → Bool → Progress → Option Progress
shown [] bare p = None
shown (sign ∷ line) bare p =
    if nat_eq sign 32 then put line bare (taken line bare p) else
    (if nat_eq sign 45 then taken line bare p else
    (if nat_eq sign 43 then put line bare (Some p) else None))

-- every line of the hunk was shown, or there is none
abbrev pub is_between : Progress → Bool
is_between p = nat_eq p.old 0 && nat_eq p.new 0

-- a remark, which says that no LF ends the line before it
abbrev pub is_remark : List ℕ → Bool
is_remark [] = false
is_remark (byte ∷ line) = nat_eq byte 92

-- the line before these lines of a diff is bare
abbrev pub is_bare : List (List ℕ) → Bool
is_bare [] = false
is_bare (line ∷ lines) = is_remark line

-- a line of a diff, and lines of it one after another; a remark is passed
abbrev pub line_followed : List ℕ → Bool → Option Progress → Option Progress
line_followed line bare None = None
line_followed line bare (Some p) =
    if is_remark line then Some p else
    (if is_between p then opened (head_in line) p else shown line bare p)

abbrev pub followed : List (List ℕ) → Option Progress → Option Progress
followed [] p = p
followed (line ∷ lines) p = followed lines (line_followed line (is_bare lines) p)

-- nothing of a text has been passed
abbrev pub at_start : List ℕ → Progress
at_start text = record { left = text; passed = 0; written = []; made = 0; old = 0; new = 0 }

-- at the end of a diff its last hunk is shown whole, and what is left of the text stays
abbrev pub finished : Option Progress → Option (List ℕ)
finished None = None
finished (Some p) = if is_between p then Some (p.written ++ p.left) else None

-- what a diff makes of a text, if it fits it
abbrev pub made_by : List ℕ → List ℕ → Option (List ℕ)
made_by diff text = finished (followed (lines_of diff) (Some (at_start text)))
