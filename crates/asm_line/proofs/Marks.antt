-- The positions that instructions jump to, marked one instruction after another.
use Rattle.std.proofs.Common.{◌≡◌, ◌≢◌, ℕ, ◌+◌, ◌<◌, Bool, true, false, ◌||◌, ◌⊎◌, inl, inr, List, [], ◌∷◌, get_or, take, length, ap, sym, ◌∙◌, arith, set}
use Rattle.std.proofs.Math.Bool.{or-false, or-true}
use Rattle.std.proofs.lemmas.List.{get_or-set_same, get_or-set_other, length-set, take_more}
use Rattle.std.proofs.lemmas.List.Folds.{list_any-append}
use Rattle.std.proofs.lemmas.Bool.Decides.{eqb_tells}
use Rattle.std.specs.Prelude.{Option, Some, None, nat_eq}
use Rattle.std.specs.List.{list_any}
use Rattle.model.specs.declared.instr.Instr.{Instr}
use Rattle.model.specs.Set.{label_of}
use Rattle.asm_line.specs.Listing.{is_position, jumps_to, AreMarks}

-- an instruction more
any_more : (p : Instr → Bool) (code : List Instr) (i : ℕ) (d : Instr) → i < length code
    → list_any p (take (i + 1) code) ≡ (list_any p (take i code) || p (get_or code i d))
any_more p code i d inside =
    ap (λ (xs : List Instr). list_any p xs) (take_more code i d inside)
    ∙ list_any-append p (take i code) (get_or code i d ∷ [])
    ∙ ap (λ (b : Bool). list_any p (take i code) || b) (or-false (p (get_or code i d)))

-- one that jumps nowhere leaves the marks
pub marks_left : (count : ℕ) (code : List Instr) (marks : List Bool) (i : ℕ) (d : Instr)
    → i < length code → AreMarks count (take i code) marks
    → label_of (get_or code i d) ≡ None
    → AreMarks count (take (i + 1) code) marks
marks_left count code marks i d inside h none = record {
  many = h.many;
  told = λ position within.
      h.told position within
      ∙ sym (any_more (jumps_to position) code i d inside
      ∙ ap (λ (o : Option ℕ). list_any (jumps_to position) (take i code) || is_position position o)
      none
      ∙ or-false (list_any (jumps_to position) (take i code)));
}

-- one that jumps to a position marks it
pub marks_on : (count : ℕ) (code : List Instr) (marks : List Bool) (i : ℕ) (d : Instr) (label : ℕ)
    → i < length code → label < count → AreMarks count (take i code) marks
    → label_of (get_or code i d) ≡ Some label
    → AreMarks count (take (i + 1) code) (set marks label true)
marks_on count code marks i d label inside there h some = record {
  many = length-set marks label true ∙ h.many;
  told = λ position within.
      by position within (eqb_tells label position)
      ∙ sym (any_more (jumps_to position) code i d inside
      ∙ ap (λ (o : Option ℕ). list_any (jumps_to position) (take i code) || is_position position o)
      some);
}
  where
    by : (position : ℕ) → position < count
        → ((nat_eq label position ≡ true) × (label ≡ position))
        ⊎ ((nat_eq label position ≡ false) × (label ≢ position))
        → get_or (set marks label true) position false
        ≡ (list_any (jumps_to position) (take i code) || nat_eq label position)
    by position within (inl same) =
        let inside : label < length marks = omega (arith, there, h.many) in
        ap (λ (p : ℕ). get_or (set marks label true) p false) (sym same.1)
        ∙ get_or-set_same marks label true false inside
        ∙ sym (ap (λ (b : Bool). list_any (jumps_to position) (take i code) || b) same.0
        ∙ or-true (list_any (jumps_to position) (take i code)))
    by position within (inr other) =
        get_or-set_other marks label position true false (λ is. other.1 (sym is))
        ∙ h.told position within
        ∙ sym (ap (λ (b : Bool). list_any (jumps_to position) (take i code) || b) other.0
        ∙ or-false (list_any (jumps_to position) (take i code)))
