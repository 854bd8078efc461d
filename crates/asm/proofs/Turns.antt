-- One turn of the reading.
use Rattle.std.proofs.Common.{◌≡◌, ℕ, ◌+◌, List, ◌∷◌, refl}
use Rattle.std.specs.Prelude.{Ok, Err}
use Rattle.asm.specs.declared.fault.AsmKind.{AsmKind}
use Rattle.asm.specs.Outline.{Outline}
use Rattle.asm.specs.Drafting.{read_on, draft_reading}

-- a line that is read leaves the rest to read
pub line_read : (raws rest : List (List ℕ)) (raw : List ℕ) (o next : Outline) (n : ℕ)
    → raws ≡ raw ∷ rest → read_on o n raw ≡ Ok next
    → draft_reading o n raws ≡ draft_reading next (n + 1) rest
line_read raws rest raw o next n split read = rw (split, read) refl

-- a line that is refused ends the reading
pub line_refused : (raws rest : List (List ℕ)) (raw : List ℕ) (o : Outline) (kind : AsmKind) (n : ℕ)
    → raws ≡ raw ∷ rest → read_on o n raw ≡ Err kind
    → draft_reading o n raws ≡ Err (record { line = n; kind = kind })
line_refused raws rest raw o kind n split read = rw (split, read) refl
