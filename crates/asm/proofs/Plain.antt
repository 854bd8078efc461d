-- A line of an instruction that has no label and uses no name.
use Rattle.std.proofs.Common.{◌≡◌, ℕ, List, Some, Ok, Err, refl, sym, subst}
use Rattle.std.proofs.lemmas.List.{append-nil}
use Rattle.model.specs.declared.instr.Instr.{Instr}
use Rattle.asm_line.specs.Line.{read_line, BodyFits}
use Rattle.asm_line.specs.Plain.{blank_line, plain_line}
use Rattle.asm.specs.declared.fault.AsmKind.{AsmKind}
use Rattle.asm.specs.Outline.{Outline, draft_misfit, noted, IsOrderly}
use Rattle.asm.specs.Plain.{IsPlainOn}
use Rattle.asm.specs.Drafting.{read_on}
use Rattle.asm.proofs.Fitting.{fitting}
use Rattle.asm.proofs.Orderly.Lines.{orderly_on}

-- what is read with it
plain_noted : (o next : Outline) (n : ℕ) (i : Instr) → IsPlainOn o i next
    → next ≡ noted o n (plain_line i).label (plain_line i).body
plain_noted o next n i is =
    rw (
      is.added,
      append-nil o.labels,
      append-nil o.positions,
      append-nil o.calls,
      append-nil o.queue_uses,
    ) refl

pub plain_read : (o next : Outline) (n : ℕ) (raw : List ℕ) (i : Instr)
    → read_line raw ≡ Ok (plain_line i) → IsPlainOn o i next → read_on o n raw ≡ Ok next
plain_read o next n raw i line is =
    rw (line, is.fits, plain_noted o next n i is) refl

pub plain_refused : (o : Outline) (n : ℕ) (raw : List ℕ) (i : Instr) (kind : AsmKind)
    → read_line raw ≡ Ok (plain_line i) → draft_misfit o (plain_line i) ≡ Some kind
    → read_on o n raw ≡ Err kind
plain_refused o n raw i kind line misfits = rw (line, misfits) refl

pub plain_orderly : (o next : Outline) (i : Instr) → BodyFits (plain_line i).body
    → IsPlainOn o i next → IsOrderly o → IsOrderly next
plain_orderly o next i fits is h =
    subst IsOrderly (sym (plain_noted o next 0 i is))
    (orderly_on o 0 (plain_line i) (fitting o (plain_line i) is.fits) fits h)

-- a line that says nothing leaves what was read
pub blank_read : (o : Outline) (n : ℕ) (raw : List ℕ) → read_line raw ≡ Ok blank_line
    → read_on o n raw ≡ Ok o
blank_read o n raw line = rw line refl
