-- What is read with outlines is what a text names, or its first fault.
use Rattle.std.proofs.Common.{◌≡◌, ℕ, ◌+◌, List, [], ◌∷◌, Option, Some, None, refl, ap, sym, ◌∙◌, subst}
use Rattle.std.specs.Prelude.{Result, Ok, Err}
use Rattle.text.specs.Cut.{lines_of}
use Rattle.model.specs.Set.{Set}
use Rattle.asm.specs.declared.draft.Place.{Place}
use Rattle.asm.specs.declared.draft.Place.TheVariants.{Outside, InDriver, InRoutine}
use Rattle.asm.specs.declared.fault.AsmFault.{AsmFault}
use Rattle.asm.specs.declared.fault.AsmKind.{AsmKind}
use Rattle.asm_line.specs.declared.line.Line.{Line}
use Rattle.asm_line.specs.declared.line.LineFault.{LineFault}
use Rattle.asm_line.specs.declared.line.LineFault.TheVariants.{Lex, UnknownWord}
use Rattle.asm_line.specs.Line.{read_line}
use Rattle.asm.specs.Outline.{Outline, noted, nothing_read, draft_misfit}
use Rattle.asm.specs.Drafting.{draft_after_line, draft_ended, draft_fitted, draft_named, draft_placed, draft_reading, draft_resolved, draft_set_in}
use Rattle.asm.proofs.Scopes.{Reads, nothing_named}
use Rattle.asm.specs.Parts.{around}
use Rattle.asm.specs.Faults.{unknown_from}
use Rattle.asm.specs.Said.{set_of}
use Rattle.asm.specs.Reading.{after_line, ended, fitted, named, placed, reading, resolved, set_in}
use Rattle.asm.proofs.Fitting.{fitting}
use Rattle.asm.proofs.Tidy.{IsTidy, nothing_tidy, tidy_on}
use Rattle.asm.proofs.Unknown.Lines.{unknown_is}
use Rattle.asm.proofs.Written.Devices.{devices_read}
use Rattle.asm.proofs.Written.Lines.{drivers_read}
use Rattle.asm.proofs.Declared.Behind.{IsBehind, behind_on, misfit_same, nothing_behind}
use Rattle.asm.proofs.Declared.Known.{nothing_scoped, unknown_same}

-- the lines that were read, behind those lines
pub record AllRead (o : Outline) (before : List Line) (n : ℕ) (raws : List (List ℕ))
    (end : Outline) (ls : List Line) : Type 0 where
  pub lines : List Line
  pub all : ls ≡ around before lines
  pub read : Reads o n raws lines end
  pub closed : end.place ≡ Outside

-- two answers agree: on a fault, or on what was read
abbrev pub Agree : Outline → List Line → ℕ → List (List ℕ) → Result Outline AsmFault
    → Result (List Line) AsmFault → Type 0
Agree o before n raws (Ok end) (Ok ls) = AllRead o before n raws end ls
Agree o before n raws (Err fault) (Err other) = fault ≡ other
Agree o before n raws _ _ = ⊥

ended_agree : (o : Outline) (before : List Line) (n : ℕ) (p : Place) → o.place ≡ p
    → Agree o before n [] (draft_ended o n p) (ended before n p)
ended_agree o before n Outside at =
    record { lines = []; all = refl; read = refl; closed = at }
ended_agree o before n InDriver at = refl
ended_agree o before n InRoutine at = refl

more_agree : (o next : Outline) (before : List Line) (n : ℕ) (raw : List ℕ) (raws : List (List ℕ))
    (l : Line) (a : Result Outline AsmFault) (b : Result (List Line) AsmFault)
    → read_line raw ≡ Ok l → draft_misfit o l ≡ None → noted o n l.label l.body ≡ next
    → Agree next (l ∷ before) (n + 1) raws a b → Agree o before n (raw ∷ raws) a b
more_agree o next before n raw raws l (Ok end) (Ok ls) form fits is h = record {
  lines = l ∷ h.lines;
  all = h.all;
  read = (form, (fits, rw is h.read));
  closed = h.closed;
}
more_agree o next before n raw raws l (Err fault) (Err other) form fits is h = h
more_agree o next before n raw raws l (Ok end) (Err other) form fits is h = absurd h
more_agree o next before n raw raws l (Err fault) (Ok ls) form fits is h = absurd h

-- one line
abbrev Later : List Line → ℕ → List (List ℕ) → Outline → Line → Type 0
Later before n raws next l = Agree next (l ∷ before) (n + 1) raws
    (draft_reading next (n + 1) raws) (reading (l ∷ before) (n + 1) raws)

fitted_agree : (o : Outline) (before : List Line) (n : ℕ) (raw : List ℕ) (raws : List (List ℕ))
    (l : Line) (m : Option AsmKind) → read_line raw ≡ Ok l → draft_misfit o l ≡ m
    → (draft_misfit o l ≡ None → Later before n raws (noted o n l.label l.body) l)
    → Agree o before n (raw ∷ raws)
    (draft_after_line n (draft_fitted o n l m) (λ next. draft_reading next (n + 1) raws))
    (after_line n (fitted l m) (λ l. reading (l ∷ before) (n + 1) raws))
fitted_agree o before n raw raws l None form fits later =
    let next = noted o n l.label l.body in
    more_agree o next before n raw raws l (draft_reading next (n + 1) raws)
    (reading (l ∷ before) (n + 1) raws) form fits refl (later fits)
fitted_agree o before n raw raws l (Some kind) form fits later = refl

placed_agree : (o : Outline) (before : List Line) (n : ℕ) (raw : List ℕ) (raws : List (List ℕ))
    (r : Result Line LineFault) → read_line raw ≡ r → IsBehind o before
    → ((l : Line) → draft_misfit o l ≡ None
    → Later before n raws (noted o n l.label l.body) l)
    → Agree o before n (raw ∷ raws)
    (draft_after_line n (draft_placed o n r) (λ next. draft_reading next (n + 1) raws))
    (after_line n (placed before r) (λ l. reading (l ∷ before) (n + 1) raws))
placed_agree o before n raw raws (Ok l) form h later =
    rw (← misfit_same o before l h)
    (fitted_agree o before n raw raws l (draft_misfit o l) form refl (later l))
placed_agree o before n raw raws (Err Lex) form h later = refl
placed_agree o before n raw raws (Err UnknownWord) form h later = refl

pub reading_agree : (o : Outline) (before : List Line) (n : ℕ) (raws : List (List ℕ))
    → IsBehind o before → IsTidy o
    → Agree o before n raws (draft_reading o n raws) (reading before n raws)
reading_agree o before n [] h tidy =
    subst (λ (p : Place). Agree o before n [] (draft_ended o n o.place) (ended before n p))
    h.place (ended_agree o before n o.place refl)
reading_agree o before n (raw ∷ raws) h tidy =
    placed_agree o before n raw raws (read_line raw) refl h (λ l fits.
    let all = fitting o l fits in
    reading_agree (noted o n l.label l.body) (l ∷ before) (n + 1) raws
    (behind_on o n l.label l.body before all.standing all.in_range tidy h)
    (tidy_on o n l.label l.body all.standing tidy))

-- the set of the lines that were read
lines_set : (raws : List (List ℕ)) (ls : List Line) (end : Outline) → Reads nothing_read 1 raws ls end
    → end.place ≡ Outside → record { drivers = end.drivers; devices = end.devices } ≡ set_of ls
lines_set raws ls end read closed =
    rw (
      drivers_read nothing_read 1 Outside raws ls end read closed refl nothing_tidy,
      devices_read nothing_read 1 raws ls end [] read (record { drivers = refl; devices = refl }),
    ) refl

unknown_read : (raws : List (List ℕ)) (ls : List Line) (end : Outline)
    → Reads nothing_read 1 raws ls end → end.place ≡ Outside → end.unknown ≡ unknown_from [] 1 ls
unknown_read raws ls end read closed =
    unknown_is raws ls end read closed
    ∙ unknown_same nothing_read 1 raws ls end [] nothing_named read nothing_behind nothing_tidy
    (nothing_scoped ls)

resolved_same : (end : Outline) (ls : List Line) (unknown : Option ℕ)
    → record { drivers = end.drivers; devices = end.devices } ≡ set_of ls
    → draft_resolved end unknown ≡ resolved ls unknown
resolved_same end ls None h = ap (λ (set : Set). Ok set) h
resolved_same end ls (Some line) h = refl

answer_same : (raws : List (List ℕ)) (a : Result Outline AsmFault)
    (b : Result (List Line) AsmFault) → Agree nothing_read [] 1 raws a b
    → draft_named a ≡ named b
answer_same raws (Ok end) (Ok ls) h =
    rw (h.all, ← unknown_read raws h.lines end h.read h.closed)
    (resolved_same end h.lines end.unknown (lines_set raws h.lines end h.read h.closed))
answer_same raws (Err fault) (Err other) h = rw h refl
answer_same raws (Ok end) (Err other) h = absurd h
answer_same raws (Err fault) (Ok ls) h = absurd h

-- both give the same answer
pub set_same : (text : List ℕ) → draft_set_in text ≡ set_in text
set_same text =
    answer_same (lines_of text) (draft_reading nothing_read 1 (lines_of text))
    (reading [] 1 (lines_of text))
    (reading_agree nothing_read [] 1 (lines_of text) nothing_behind nothing_tidy)

-- a draft that was read to its end has the answer, and so has a fault
pub draft_read : (text : List ℕ) (end : Outline)
    → draft_reading nothing_read 1 (lines_of text) ≡ Ok end
    → set_in text ≡ draft_resolved end end.unknown
draft_read text end h = sym (set_same text) ∙ ap draft_named h

pub draft_refused : (text : List ℕ) (fault : AsmFault)
    → draft_reading nothing_read 1 (lines_of text) ≡ Err fault → set_in text ≡ Err fault
draft_refused text fault h = sym (set_same text) ∙ ap draft_named h
