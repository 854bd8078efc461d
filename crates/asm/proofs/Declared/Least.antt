-- The kind that is given for a line is the least that it has.
use Rattle.std.proofs.Common.{◌≡◌, ℕ, ◌<◌, Bool, true, false, not, List, Option, Some, None, refl, subst, arith}
use Rattle.std.specs.Prelude.{Err, if◌then◌else◌}
use Rattle.std.specs.Option.{ok_or}
use Rattle.text.specs.Lexical.{is_lexical}
use Rattle.text.specs.Cut.{tokens_of}
use Rattle.asm.specs.declared.fault.AsmKind.{AsmKind}
use Rattle.asm.specs.declared.fault.AsmKind.TheVariants.{Lex, UnknownWord, DuplicateName, UnknownName, OutOfRange, Unclosed, OverLimit, Memory}
use Rattle.asm_line.specs.declared.line.Line.{Line}
use Rattle.asm_line.specs.declared.line.LineFault.TheVariants as unread
use Rattle.asm_line.specs.Line.{line_of}
use Rattle.asm.specs.Parts.{place_after}
use Rattle.asm.specs.Faults.{has_room, is_again, is_out_of_range, stands}
use Rattle.asm.specs.Reading.{fitted, placed}
use Rattle.asm.specs.Laws.{is_line, is_unknown, kind_number, shows, IsLeastKind}
use Rattle.asm_line.specs.Line.{read_line}

-- the first of five tests that passes, and what each kind's test says
abbrev chosen : Bool → Bool → Bool → Bool → Bool → Option AsmKind
chosen a b c d e =
    if a then Some Lex
    else (if b then Some UnknownWord
    else (if c then Some DuplicateName
    else (if d then Some OutOfRange else (if e then Some OverLimit else None))))

abbrev tested : Bool → Bool → Bool → Bool → Bool → AsmKind → Bool
tested a b c d e Lex = a
tested a b c d e UnknownWord = b
tested a b c d e DuplicateName = c
tested a b c d e OutOfRange = d
tested a b c d e OverLimit = e
tested a b c d e _ = false

record Chosen (a b c d e : Bool) (kind : AsmKind) : Type 0 where
  shown : tested a b c d e kind ≡ true
  least : (j : AsmKind) → kind_number j < kind_number kind → tested a b c d e j ≡ false

before_unknown : (b c d e : Bool) (j : AsmKind) → kind_number j < 1 → tested true b c d e j ≡ false
before_unknown b c d e Lex less = absurd (omega arith)
before_unknown b c d e _ less = absurd (omega arith)

before_word : (b c d e : Bool) (j : AsmKind) → kind_number j < 2 → tested false b c d e j ≡ false
before_word b c d e Lex less = refl
before_word b c d e _ less = absurd (omega arith)

before_duplicate : (c d e : Bool) (j : AsmKind) → kind_number j < 3
    → tested false false c d e j ≡ false
before_duplicate c d e Lex less = refl
before_duplicate c d e UnknownWord less = refl
before_duplicate c d e _ less = absurd (omega arith)

before_range : (d e : Bool) (j : AsmKind) → kind_number j < 5
    → tested false false false d e j ≡ false
before_range d e Lex less = refl
before_range d e UnknownWord less = refl
before_range d e DuplicateName less = refl
before_range d e UnknownName less = refl
before_range d e _ less = absurd (omega arith)

before_limit : (e : Bool) (j : AsmKind) → kind_number j < 7
    → tested false false false false e j ≡ false
before_limit e OverLimit less = absurd (omega arith)
before_limit e Memory less = refl
before_limit e Lex less = refl
before_limit e UnknownWord less = refl
before_limit e DuplicateName less = refl
before_limit e UnknownName less = refl
before_limit e OutOfRange less = refl
before_limit e Unclosed less = refl

least_chosen : (a b c d e : Bool) (k : AsmKind) → chosen a b c d e ≡ Some k → Chosen a b c d e k
least_chosen true b c d e k h =
    let is : Lex ≡ k = cc in
    subst (Chosen true b c d e) is (record { shown = refl; least = before_unknown b c d e })
least_chosen false true c d e k h =
    let is : UnknownWord ≡ k = cc in
    subst (Chosen false true c d e) is (record { shown = refl; least = before_word true c d e })
least_chosen false false true d e k h =
    let is : DuplicateName ≡ k = cc in
    subst (Chosen false false true d e) is
    (record { shown = refl; least = before_duplicate true d e })
least_chosen false false false true e k h =
    let is : OutOfRange ≡ k = cc in
    subst (Chosen false false false true e) is
    (record { shown = refl; least = before_range true e })
least_chosen false false false false true k h =
    let is : OverLimit ≡ k = cc in
    subst (Chosen false false false false true) is
    (record { shown = refl; least = before_limit true })
least_chosen false false false false false k h = cc

-- what a kind's test says of a line
tests : (before : List Line) (raw : List ℕ) (k : AsmKind)
    → shows before raw k ≡ tested (shows before raw Lex) (shows before raw UnknownWord) (shows before raw DuplicateName)
    (shows before raw OutOfRange) (shows before raw OverLimit) k
tests before raw Lex = refl
tests before raw UnknownWord = refl
tests before raw DuplicateName = refl
tests before raw UnknownName = refl
tests before raw OutOfRange = refl
tests before raw Unclosed = refl
tests before raw OverLimit = refl
tests before raw Memory = refl

-- a line's kind is that of the first test that passes: here for a line of some form
fitted_choice : (a b c d : Bool) (k : AsmKind) (l : Line)
    → fitted l
    (if not a then Some UnknownWord
    else (if b then Some DuplicateName
    else (if c then Some OutOfRange else (if not d then Some OverLimit else None)))) ≡ Err k
    → chosen false (not a) b c (not d) ≡ Some k
fitted_choice false b c d k l h = cc
fitted_choice true true c d k l h = cc
fitted_choice true false true d k l h = cc
fitted_choice true false false false k l h = cc
fitted_choice true false false true k l h = cc

line_choice : (before : List Line) (clean : Bool) (read : Option Line) (k : AsmKind)
    → placed before (if clean then ok_or read unread.UnknownWord else Err unread.Lex) ≡ Err k
    → chosen (not clean) (is_unknown before read) (is_line (λ l. is_again before l.label l.body) read)
    (is_line (λ l. is_out_of_range l.body) read) (is_line (λ l. not (has_room before l.body)) read)
    ≡ Some k
line_choice before false read k h = cc
line_choice before true None k h = cc
line_choice before true (Some l) k h =
    fitted_choice (stands (place_after before) l.body) (is_again before l.label l.body)
    (is_out_of_range l.body) (has_room before l.body) k l h

-- so the kind is the least
pub least_kind : (before : List Line) (raw : List ℕ) (k : AsmKind)
    → placed before (read_line raw) ≡ Err k → IsLeastKind before raw k
least_kind before raw k h =
    let first = line_choice before (is_lexical raw) (line_of (tokens_of raw)) k h in
    let all = least_chosen (shows before raw Lex) (shows before raw UnknownWord) (shows before raw DuplicateName)
    (shows before raw OutOfRange) (shows before raw OverLimit) k first in
    record {
      shown = rw (tests before raw k) all.shown;
      least = λ j less. rw (tests before raw j) (all.least j less);
    }
