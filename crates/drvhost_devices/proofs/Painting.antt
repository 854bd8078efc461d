-- How the painting of a text goes on.
use Rattle.std.proofs.Common.{◌≡◌, ◌∙◌, ◌==◌, ◌+◌, ◌<◌, ◌≤◌, ◌⊎◌, ℕ, Bool, true, false, ◌||◌, List, [], ◌∷◌, ◌++◌, Option, None, Some, if◌then◌else◌, ap, append_assoc, arith, codes, drop, inl, inr, length, get_or, min, refl, sym, subst, suc, take, zero}
use Rattle.memchr.specs.Find.{is_byte, NoneBefore, Nowhere, Passes}
use Rattle.std.proofs.lemmas.Bool.{eqb-true, ne_eqb}
use Rattle.std.proofs.lemmas.List.{append-nil, drop_all, take-append-drop, take_all, take_more}
use Rattle.std.specs.List.{list_any}
use Rattle.drvhost_devices.specs.declared.paint.Color.{Color}
use Rattle.drvhost_devices.specs.declared.paint.Color.TheVariants.{Good, Bad, Warning, Place}
use Rattle.drvhost_devices.specs.declared.form.Span.{Span}
use Rattle.drvhost_devices.specs.Forms.{span_of}
use Rattle.drvhost_devices.specs.Painted.{AddsLine, AddsPainted, AddsText, HasNoEscape, IsFirstLine, IsPainted, Paints, begins, behind_sequence, painted_behind, painted_by, painted_line, painted_text, unpainted}

or_none : (a b : Bool) → a || b ≡ false → (a ≡ false) × (b ≡ false)
or_none true b h = cc
or_none false b h = (refl, h)

-- parts of a text without an escape have none
pub none_parts : (text more : List ℕ) → HasNoEscape (text ++ more)
    → HasNoEscape text × HasNoEscape more
none_parts [] more none = (refl, none)
none_parts (byte ∷ text) more none =
    let here = or_none (byte == 27) (list_any (λ b. b == 27) (text ++ more)) none in
    let there = none_parts text more here.1 in
    (ap (λ (b : Bool). b || list_any (λ b. b == 27) text) here.0 ∙ there.0, there.1)

paints_more : (text more painted added : List ℕ) → Paints text painted → Paints more added
    → Paints (text ++ more) (painted ++ added)
paints_more text more painted added first second later =
    ap unpainted (append_assoc painted added later) ∙ first (added ++ later)
    ∙ ap (λ x. text ++ x) (second later) ∙ sym (append_assoc text more (unpainted later))

-- sequences are taken out
paints_begin : (color : Color) → Paints [] (begins color)
paints_begin Good later = refl
paints_begin Bad later = refl
paints_begin Warning later = refl
paints_begin Place later = refl

-- and bytes that are no escape stay
paints_plain : (text : List ℕ) → HasNoEscape text → Paints text text
paints_plain [] none later = refl
paints_plain (byte ∷ text) none later =
    let here = or_none (byte == 27) (list_any (λ b. b == 27) text) none in
    ap (λ (b : Bool). if b then behind_sequence (text ++ later) else byte ∷ unpainted (text ++ later))
    here.0
    ∙ ap (λ x. byte ∷ x) (paints_plain text here.1 later)

-- so texts are added
adds_more : (text more before middle after : List ℕ) → AddsPainted text before middle
    → AddsPainted more middle after → AddsPainted (text ++ more) before after
adds_more text more before middle after (painted, paints, is) (added, adds, its) = (
  painted ++ added,
  paints_more text more painted added paints adds,
  its ∙ ap (λ x. x ++ added) is ∙ append_assoc before painted added,
)

pub adds_plain : (text before after : List ℕ) → HasNoEscape text → after ≡ before ++ text
    → AddsPainted text before after
adds_plain text before after none is = (text, paints_plain text none, is)

adds_begin : (color : Color) (before after : List ℕ) → after ≡ before ++ begins color
    → AddsPainted [] before after
adds_begin color before after is = (begins color, paints_begin color, is)

adds_end : (before after : List ℕ) → after ≡ before ++ (27 ∷ codes "[0m")
    → AddsPainted [] before after
adds_end before after is = (27 ∷ codes "[0m", λ later. refl, is)

-- a list in two parts
pub split_whole : (n : ℕ) (xs front back : List ℕ) → front ≡ take n xs → back ≡ drop n xs
    → xs ≡ front ++ back
split_whole n xs front back first second = rw (first, second) (sym (take-append-drop n xs))

-- a line was, with a part of it between sequences
pub span_added : (color : Color) (line part tail b1 b2 b3 b4 b5 : List ℕ)
    → HasNoEscape line → line ≡ part ++ tail → b2 ≡ b1 ++ begins color → b3 ≡ b2 ++ part
    → b4 ≡ b3 ++ (27 ∷ codes "[0m") → b5 ≡ b4 ++ tail → AddsPainted line b1 b5
span_added color line part tail b1 b2 b3 b4 b5 none is begun inner ended last =
    let split : HasNoEscape (part ++ tail) = subst (λ x. HasNoEscape x) is none in
    let ends = none_parts part tail split in
    subst (λ x. AddsPainted x b1 b5) (sym is)
    (adds_more [] (part ++ tail) b1 b2 b5 (adds_begin color b1 b2 begun)
    (adds_more part tail b2 b3 b5 (adds_plain part b2 b3 ends.0 inner)
    (adds_more [] tail b3 b4 b5 (adds_end b3 b4 ended) (adds_plain tail b4 b5 ends.1 last))))

-- a line with nothing to paint
pub plain_line : (line before after : List ℕ) → HasNoEscape line → span_of line ≡ None
    → after ≡ before ++ line → AddsLine line before after
plain_line line before after none form is =
    record {
      is = is ∙ ap (λ s. before ++ painted_by line s) (sym form);
      adds = adds_plain line before after none is;
    }

-- and one with a part that is painted
pub span_line : (span : Span) (line part tail b1 b2 b3 b4 b5 : List ℕ) (n : ℕ) → HasNoEscape line
    → span_of line ≡ Some span → n ≡ min span.end (length line) → part ≡ take n line
    → tail ≡ drop n line → b2 ≡ b1 ++ begins span.color
    → b3 ≡ b2 ++ part → b4 ≡ b3 ++ (27 ∷ codes "[0m") → b5 ≡ b4 ++ tail → AddsLine line b1 b5
span_line span line part tail b1 b2 b3 b4 b5 n none form at first second begun inner ended last =
    let front = first ∙ ap (λ k. take k line) at in
    let back = second ∙ ap (λ k. drop k line) at in
    let end : List ℕ = 27 ∷ codes "[0m" in
    let whole : b5 ≡ b1 ++ (begins span.color ++ (part ++ (end ++ tail))) =
    last ∙ ap (λ x. x ++ tail) (ended ∙ ap (λ x. x ++ end) (inner ∙ ap (λ x. x ++ part) begun))
    ∙ append_assoc ((b1 ++ begins span.color) ++ part) end tail
    ∙ append_assoc (b1 ++ begins span.color) part (end ++ tail)
    ∙ append_assoc b1 (begins span.color) (part ++ (end ++ tail)) in
    let shown : begins span.color ++ (part ++ (end ++ tail)) ≡ painted_by line (Some span) =
    ap (λ x. begins span.color ++ (x ++ (end ++ tail))) front
    ∙ ap (λ x. begins span.color ++ (take (min span.end (length line)) line ++ (end ++ x))) back in
    record {
      is = whole ∙ ap (λ x. b1 ++ x) shown ∙ ap (λ s. b1 ++ painted_by line s) (sym form);
      adds = span_added span.color line part tail b1 b2 b3 b4 b5 none
          (split_whole (min span.end (length line)) line part tail front back) begun inner ended last;
    }

-- a line is painted alone, whatever began it
line_feed : (line words rest : List ℕ) → list_any (λ byte. byte == 10) words ≡ false
    → painted_behind line (words ++ 10 ∷ rest)
    ≡ painted_line (line ++ (words ++ 10 ∷ [])) ++ painted_text rest
line_feed line [] rest plain = refl
line_feed line (byte ∷ words) rest plain =
    let here = or_none (byte == 10) (list_any (λ b. b == 10) words) plain in
    ap (λ (b : Bool). if b then painted_line (line ++ byte ∷ []) ++ painted_text (words ++ 10 ∷ rest)
    else painted_behind (line ++ byte ∷ []) (words ++ 10 ∷ rest)) here.0
    ∙ line_feed (line ++ byte ∷ []) words rest here.1
    ∙ ap (λ x. painted_line x ++ painted_text rest) (append_assoc line (byte ∷ []) (words ++ 10 ∷ []))

last_line : (line words : List ℕ) → list_any (λ byte. byte == 10) words ≡ false
    → painted_behind line words ≡ painted_line (line ++ words)
last_line line [] plain = ap painted_line (sym (append-nil line))
last_line line (byte ∷ words) plain =
    let here = or_none (byte == 10) (list_any (λ b. b == 10) words) plain in
    ap (λ (b : Bool). if b then painted_line (line ++ byte ∷ []) ++ painted_text words
    else painted_behind (line ++ byte ∷ []) words) here.0
    ∙ last_line (line ++ byte ∷ []) words here.1
    ∙ ap painted_line (append_assoc line (byte ∷ []) words)

first_line : (line rest : List ℕ) → IsFirstLine line rest
    → painted_text (line ++ rest) ≡ painted_line line ++ painted_text rest
first_line line rest first = by_end first.ends
  where
    by_end : (line ≡ first.words ++ 10 ∷ []) ⊎ ((line ≡ first.words) × (rest ≡ []))
        → painted_text (line ++ rest) ≡ painted_line line ++ painted_text rest
    by_end (inl is) =
        ap (λ x. painted_text (x ++ rest)) is
        ∙ ap painted_text (append_assoc first.words (10 ∷ []) rest)
        ∙ line_feed [] first.words rest first.plain
        ∙ ap (λ x. painted_line x ++ painted_text rest) (sym is)
    by_end (inr (is, none)) =
        ap (λ x. painted_text (line ++ x)) none ∙ ap painted_text (append-nil line ∙ is)
        ∙ last_line [] first.words first.plain ∙ ap painted_line (sym is)
        ∙ sym (append-nil (painted_line line))
        ∙ ap (λ x. painted_line line ++ painted_text x) (sym none)

-- a text was painted, but for what stands behind it
pub record SoFar (text rest before after : List ℕ) : Type 0 where
  pub none : HasNoEscape rest
  pub taken : List ℕ
  pub split : text ≡ taken ++ rest
  pub adds : AddsPainted taken before after
  pub is : after ++ painted_text rest ≡ before ++ painted_text text

pub lines_begin : (text before : List ℕ) → HasNoEscape text → SoFar text text before before
lines_begin text before none =
    record {
      none = none;
      taken = [];
      split = refl;
      adds = ([], λ later. refl, sym (append-nil before));
      is = refl;
    }

pub lines_more : (text whole line rest before middle after : List ℕ)
    → SoFar text whole before middle → whole ≡ line ++ rest → IsFirstLine line rest
    → AddsLine line middle after → SoFar text rest before after
lines_more text whole line rest before middle after so parts first more =
    record {
      none = (none_parts line rest (subst HasNoEscape parts so.none)).1;
      taken = so.taken ++ line;
      split = so.split ∙ ap (λ x. so.taken ++ x) parts ∙ sym (append_assoc so.taken line rest);
      adds = adds_more so.taken line before middle after so.adds more.adds;
      is = ap (λ x. x ++ painted_text rest) more.is
          ∙ append_assoc middle (painted_line line) (painted_text rest)
          ∙ ap (λ x. middle ++ x) (sym (first_line line rest first))
          ∙ ap (λ x. middle ++ painted_text x) (sym parts) ∙ so.is;
    }

pub lines_end : (text rest before after : List ℕ) → SoFar text rest before after → rest ≡ []
    → AddsText text before after
lines_end text rest before after so none =
    record {
      is = sym (append-nil after) ∙ ap (λ x. after ++ painted_text x) (sym none) ∙ so.is;
      adds = subst (λ x. AddsPainted x before after)
          (sym (so.split ∙ ap (λ x. so.taken ++ x) none ∙ append-nil so.taken)) so.adds;
    }

-- a whole text was painted, or wasn't since it has an escape
pub painted_whole : (text after : List ℕ) → HasNoEscape text → AddsText text [] after
    → IsPainted text after
painted_whole text after none added =
    let (bytes, paints, is) = added.adds in
    record {
      is = added.is
          ∙ ap (λ (b : Bool). if b then text else painted_text text) (sym none);
      unpainted_is = λ plain.
          ap unpainted (is ∙ sym (append-nil bytes)) ∙ paints [] ∙ append-nil text;
    }

pub unpainted_whole : (text after : List ℕ) → list_any (λ byte. byte == 27) text ≡ true
    → after ≡ text → IsPainted text after
unpainted_whole text after some is =
    record {
      is = is ∙ ap (λ (b : Bool). if b then text else painted_text text) (sym some);
      unpainted_is = λ plain. let both : true ≡ false = sym some ∙ plain in cc;
    }

-- no byte of the first k is an LF
none_behind : (words : List ℕ) (byte : ℕ) → list_any (λ byte. byte == 10) words ≡ false
    → (byte == 10) ≡ false → list_any (λ byte. byte == 10) (words ++ byte ∷ []) ≡ false
none_behind [] byte plain other = ap (λ (b : Bool). b || false) other
none_behind (first ∷ words) byte plain other =
    let here = or_none (first == 10) (list_any (λ b. b == 10) words) plain in
    ap (λ (b : Bool). b || list_any (λ b. b == 10) (words ++ byte ∷ [])) here.0
    ∙ none_behind words byte here.1 other

none_until : (text : List ℕ) (k : ℕ) → k ≤ length text → Nowhere (Passes (is_byte 10) text) 0 k
    → list_any (λ byte. byte == 10) (take k text) ≡ false
none_until text zero within none = refl
none_until text (suc k) within none =
    let before = none_until text k (omega (arith, within)) (λ j low high. none j low (omega arith)) in
    let other : (get_or text k 0 == 10) ≡ false =
    ne_eqb (get_or text k 0) 10 (λ is. none k (omega arith) (omega arith) (rw is refl)) in
    let next : suc k ≡ k + 1 = omega arith in
    rw (next, take_more text k 0 (omega (arith, within)))
    (none_behind (take k text) (get_or text k 0) before other)

-- the first line of a text, which ends at the first LF, or without one is all of it
pub ended_line : (text line rest : List ℕ) (i : ℕ)
    → NoneBefore (Passes (is_byte 10) text) 0 (length text) i → Passes (is_byte 10) text i
    → line ≡ take (i + 1) text → IsFirstLine line rest
ended_line text line rest i first is front =
    record {
      words = take i text;
      plain = none_until text i (omega (arith, first.high)) first.before;
      ends = inl (front ∙ take_more text i 0 first.high
          ∙ ap (λ b. take i text ++ b ∷ []) (eqb-true (get_or text i 0) 10 is));
    }

pub open_line : (text line rest : List ℕ) (n : ℕ)
    → Nowhere (Passes (is_byte 10) text) 0 (length text) → n ≡ length text → line ≡ take n text
    → rest ≡ drop n text → IsFirstLine line rest
open_line text line rest n none all front back =
    let plain = none_until text (length text) (omega arith) none in
    let whole = take_all (length text) text (omega arith) in
    record {
      words = text;
      plain = rw whole at plain;
      ends = inr (
        front ∙ ap (λ k. take k text) all ∙ whole,
        back ∙ ap (λ k. drop k text) all ∙ drop_all (length text) text (omega arith),
      );
    }

-- nothing is left
pub none_left : (rest : List ℕ) → (length rest == 0) ≡ true → rest ≡ []
none_left [] is = refl
none_left (byte ∷ rest) is = let never = eqb-true (length (byte ∷ rest)) 0 is in absurd (omega (arith, never))
