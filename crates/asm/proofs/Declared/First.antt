-- The fault of a text is that of the first line that has one, or that the text ends early.
use Rattle.std.proofs.Common.{◌≡◌, ℕ, ◌+◌, ◌⊎◌, inl, inr, true, false, List, [], ◌∷◌, refl, ap, sym, ◌∙◌, subst, arith}
use Rattle.std.specs.Prelude.{Option, Some, None, Result, Ok, Err}
use Rattle.text.specs.Cut.{lines_of}
use Rattle.model.specs.Set.{Set}
use Rattle.asm.specs.declared.draft.Place.{Place}
use Rattle.asm.specs.declared.draft.Place.TheVariants.{Outside, InDriver, InRoutine}
use Rattle.asm.specs.declared.fault.AsmFault.{AsmFault}
use Rattle.asm.specs.declared.fault.AsmKind.{AsmKind}
use Rattle.asm.specs.declared.fault.AsmKind.TheVariants.{UnknownName, Unclosed}
use Rattle.asm_line.specs.declared.line.Line.{Line}
use Rattle.asm_line.specs.declared.line.LineFault.{LineFault}
use Rattle.asm_line.specs.Line.{read_line}
use Rattle.asm.specs.Parts.{around, place_after}
use Rattle.asm.specs.Faults.{misfit, unknown_from}
use Rattle.asm.specs.Reading.{after_line, ended, fitted, named, placed, reading, resolved}
use Rattle.asm.specs.Laws.{shows, AreFine, FaultIsFirst, IsEndFault, IsFaultless, IsFirst, IsLineFault, IsOfItsLines, IsRead, NamedIsFaultless, SetIsOfItsLines}
use Rattle.asm.specs.Said.{set_of}
use Rattle.asm.proofs.Declared.Least.{least_kind}

-- a line without a fault
pub record Fine (before : List Line) (raw : List ℕ) (l : Line) : Type 0 where
  pub form : read_line raw ≡ Ok l
  pub fits : misfit before l ≡ None

fitted_fine : (before : List Line) (raw : List ℕ) (l next : Line) (m : Option AsmKind)
    → read_line raw ≡ Ok l → misfit before l ≡ m → fitted l m ≡ Ok next → Fine before raw next
fitted_fine before raw l next None form fits h =
    let same : l ≡ next = cc in
    subst (λ (x : Line). Fine before raw x) same (record { form = form; fits = fits })
fitted_fine before raw l next (Some kind) form fits h = cc

placed_fine : (before : List Line) (raw : List ℕ) (next : Line) (r : Result Line LineFault)
    → read_line raw ≡ r → placed before r ≡ Ok next → Fine before raw next
placed_fine before raw next (Ok l) form h =
    fitted_fine before raw l next (misfit before l) form refl h
placed_fine before raw next (Err fault) form h = cc

fault_later : (behind : List Line) (l : Line) (n : ℕ) (raw : List ℕ) (raws : List (List ℕ))
    (fault : AsmFault) → Fine behind raw l
    → IsLineFault (l ∷ behind) (n + 1) raws fault ⊎ IsEndFault (l ∷ behind) (n + 1) raws fault
    → IsLineFault behind n (raw ∷ raws) fault ⊎ IsEndFault behind n (raw ∷ raws) fault
fault_later behind l n raw raws fault one (inl f) = inl (record {
  before = raw ∷ f.before;
  raw = f.raw;
  after = f.after;
  lines = l ∷ f.lines;
  split = ap (λ rest. raw ∷ rest) f.split;
  read = (one.form, (one.fits, f.read));
  line = omega (arith, f.line);
  kind = f.kind;
})
fault_later behind l n raw raws fault one (inr f) = inr (record {
  lines = l ∷ f.lines;
  read = (one.form, (one.fits, f.read));
  unclosed = f.unclosed;
  line = omega (arith, f.line);
  kind = f.kind;
})

fault_here : (behind : List Line) (n : ℕ) (raw : List ℕ) (raws : List (List ℕ)) (kind : AsmKind)
    (fault : AsmFault) → placed behind (read_line raw) ≡ Err kind
    → record { line = n; kind = kind } ≡ fault → IsLineFault behind n (raw ∷ raws) fault
fault_here behind n raw raws kind fault h is = record {
  before = [];
  raw = raw;
  after = raws;
  lines = [];
  split = refl;
  read = tt;
  line = let same : n ≡ fault.line = ap (λ (f : AsmFault). f.line) is in omega (arith, same);
  kind = rw (← ap (λ (f : AsmFault). f.kind) is) (least_kind behind raw kind h);
}

end_fault : (behind : List Line) (n : ℕ) (fault : AsmFault)
    → (place_after behind ≡ Outside → ⊥)
    → record { line = n; kind = Unclosed } ≡ fault → IsEndFault behind n [] fault
end_fault behind n fault unclosed is = record {
  lines = [];
  read = tt;
  unclosed = unclosed;
  line = let same : n ≡ fault.line = ap (λ (f : AsmFault). f.line) is in omega (arith, same);
  kind = cc;
}

ended_fault : (behind : List Line) (n : ℕ) (p : Place) (fault : AsmFault)
    → place_after behind ≡ p → ended behind n p ≡ Err fault → IsEndFault behind n [] fault
ended_fault behind n Outside fault is h = cc
ended_fault behind n InDriver fault is h = end_fault behind n fault (λ at. cc) cc
ended_fault behind n InRoutine fault is h = end_fault behind n fault (λ at. cc) cc

after_fault : (behind : List Line) (n : ℕ) (raw : List ℕ) (raws : List (List ℕ))
    (fault : AsmFault)
    → ((l : Line) → reading (l ∷ behind) (n + 1) raws ≡ Err fault
    → IsLineFault (l ∷ behind) (n + 1) raws fault ⊎ IsEndFault (l ∷ behind) (n + 1) raws fault)
    → (r : Result Line AsmKind) → placed behind (read_line raw) ≡ r
    → after_line n r (λ l. reading (l ∷ behind) (n + 1) raws) ≡ Err fault
    → IsLineFault behind n (raw ∷ raws) fault ⊎ IsEndFault behind n (raw ∷ raws) fault
after_fault behind n raw raws fault later (Ok l) is h =
    fault_later behind l n raw raws fault (placed_fine behind raw l (read_line raw) refl is)
    (later l h)
after_fault behind n raw raws fault later (Err kind) is h =
    inl (fault_here behind n raw raws kind fault is cc)

reading_fault : (behind : List Line) (n : ℕ) (raws : List (List ℕ)) (fault : AsmFault)
    → reading behind n raws ≡ Err fault
    → IsLineFault behind n raws fault ⊎ IsEndFault behind n raws fault
reading_fault behind n [] fault h =
    inr (ended_fault behind n (place_after behind) fault refl h)
reading_fault behind n (raw ∷ raws) fault h =
    after_fault behind n raw raws fault (λ l. reading_fault (l ∷ behind) (n + 1) raws fault)
    (placed behind (read_line raw)) refl h

-- all lines are read
record ReadTo (behind : List Line) (raws : List (List ℕ)) (all : List Line) : Type 0 where
  lines : List Line
  whole : all ≡ around behind lines
  read : AreFine behind raws lines
  closed : place_after (around lines behind) ≡ Outside

ended_read : (behind all : List Line) (n : ℕ) (p : Place) → place_after behind ≡ p
    → ended behind n p ≡ Ok all → ReadTo behind [] all
ended_read behind all n Outside is h =
    record { lines = []; whole = let same : around behind [] ≡ all = cc in sym same; read = tt; closed = is }
ended_read behind all n InDriver is h = cc
ended_read behind all n InRoutine is h = cc

after_read : (behind all : List Line) (n : ℕ) (raw : List ℕ) (raws : List (List ℕ))
    → ((l : Line) → reading (l ∷ behind) (n + 1) raws ≡ Ok all → ReadTo (l ∷ behind) raws all)
    → (r : Result Line AsmKind) → placed behind (read_line raw) ≡ r
    → after_line n r (λ l. reading (l ∷ behind) (n + 1) raws) ≡ Ok all
    → ReadTo behind (raw ∷ raws) all
after_read behind all n raw raws later (Ok l) is h =
    let one = placed_fine behind raw l (read_line raw) refl is in
    let rest = later l h in
    record {
      lines = l ∷ rest.lines;
      whole = rest.whole;
      read = (one.form, (one.fits, rest.read));
      closed = rest.closed;
    }
after_read behind all n raw raws later (Err kind) is h = cc

reading_ends : (behind all : List Line) (n : ℕ) (raws : List (List ℕ))
    → reading behind n raws ≡ Ok all → ReadTo behind raws all
reading_ends behind all n [] h = ended_read behind all n (place_after behind) refl h
reading_ends behind all n (raw ∷ raws) h =
    after_read behind all n raw raws (λ l. reading_ends (l ∷ behind) all (n + 1) raws)
    (placed behind (read_line raw)) refl h

pub all_read : (text : List ℕ) (ls : List Line) → reading [] 1 (lines_of text) ≡ Ok ls
    → (all : IsRead text) × (all.lines ≡ ls)
all_read text ls is =
    let to = reading_ends [] ls 1 (lines_of text) is in
    (record { lines = to.lines; read = to.read; closed = to.closed }, sym to.whole)

-- a text that names a set has no fault
named_resolved : (text : List ℕ) (set : Set) (ls : List Line) (unknown : Option ℕ)
    → reading [] 1 (lines_of text) ≡ Ok ls → unknown_from [] 1 ls ≡ unknown
    → resolved ls unknown ≡ Ok set → IsFaultless text
named_resolved text set ls None is none h =
    let all = all_read text ls is in
    (all.0, ap (λ (x : List Line). unknown_from [] 1 x) all.1 ∙ none)
named_resolved text set ls (Some line) is some h = cc

named_read : (text : List ℕ) (set : Set) (r : Result (List Line) AsmFault)
    → reading [] 1 (lines_of text) ≡ r → named r ≡ Ok set → IsFaultless text
named_read text set (Ok ls) is h = named_resolved text set ls (unknown_from [] 1 ls) is refl h
named_read text set (Err fault) is h = cc

pub named_is_faultless : NamedIsFaultless
named_is_faultless text set h = named_read text set (reading [] 1 (lines_of text)) refl h

-- and the set is that of its lines
resolved_lines : (text : List ℕ) (set : Set) (ls : List Line) (unknown : Option ℕ)
    → reading [] 1 (lines_of text) ≡ Ok ls → resolved ls unknown ≡ Ok set → IsOfItsLines text set
resolved_lines text set ls None is h =
    let all = all_read text ls is in
    let same : set_of ls ≡ set = cc in (all.0, sym same ∙ ap set_of (sym all.1))
resolved_lines text set ls (Some line) is h = cc

lines_named : (text : List ℕ) (set : Set) (r : Result (List Line) AsmFault)
    → reading [] 1 (lines_of text) ≡ r → named r ≡ Ok set → IsOfItsLines text set
lines_named text set (Ok ls) is h = resolved_lines text set ls (unknown_from [] 1 ls) is h
lines_named text set (Err fault) is h = cc

pub set_is_of_its_lines : SetIsOfItsLines
set_is_of_its_lines text set h = lines_named text set (reading [] 1 (lines_of text)) refl h

-- no line has the kind of an unknown name in the first reading
never_unknown : (behind : List Line) (n : ℕ) (raws : List (List ℕ)) (fault : AsmFault)
    → IsLineFault behind n raws fault ⊎ IsEndFault behind n raws fault → fault.kind ≡ UnknownName
    → ⊥
never_unknown behind n raws fault (inl f) is = let bad : false ≡ true =
    subst (λ (k : AsmKind). shows (around f.lines behind) f.raw k ≡ true) is f.kind.shown in cc
never_unknown behind n raws fault (inr f) is =
    let bad : Unclosed ≡ UnknownName = sym f.kind ∙ is in cc

first_resolved : (text : List ℕ) (fault : AsmFault) (ls : List Line) (unknown : Option ℕ)
    → reading [] 1 (lines_of text) ≡ Ok ls → unknown_from [] 1 ls ≡ unknown
    → resolved ls unknown ≡ Err fault → IsFirst text fault
first_resolved text fault ls None is none h = cc
first_resolved text fault ls (Some line) is some h =
    let same : record { line = line; kind = UnknownName } ≡ fault = cc in
    let kind : UnknownName ≡ fault.kind = ap (λ (f : AsmFault). f.kind) same in
    let here : line ≡ fault.line = ap (λ (f : AsmFault). f.line) same in
    let all = all_read text ls is in
    record {
      other = λ different. absurd (different (sym kind));
      unknown = λ same_kind. (
        all.0,
        ap (λ (x : List Line). unknown_from [] 1 x) all.1 ∙ some
            ∙ ap (λ (n : ℕ). Some n) here,
      );
    }

first_read : (text : List ℕ) (fault : AsmFault) (r : Result (List Line) AsmFault)
    → reading [] 1 (lines_of text) ≡ r → named r ≡ Err fault → IsFirst text fault
first_read text fault (Ok ls) is h = first_resolved text fault ls (unknown_from [] 1 ls) is refl h
first_read text fault (Err other) is h =
    let same : reading [] 1 (lines_of text) ≡ Err fault = cc in
    let found = reading_fault [] 1 (lines_of text) fault same in
    record {
      other = λ different. found;
      unknown = λ kind. absurd (never_unknown [] 1 (lines_of text) fault found kind);
    }

pub fault_is_first : FaultIsFirst
fault_is_first text fault h = first_read text fault (reading [] 1 (lines_of text)) refl h
