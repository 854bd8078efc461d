-- The bytes of an answer behind a handle.
use Rattle.std.specs.Prelude.{ℕ, ◌≡◌, ◌++◌, ◌-◌, Bool, true, false, List, Option, None, Some, drop, length, min, take}
use Rattle.pafteis_world.specs.declared.kept.Kept.{Kept}

-- the bytes that a handle has, if they are there
abbrev pub bytes_if : Bool → List ℕ → Option (List ℕ)
bytes_if true bytes = Some bytes
bytes_if false bytes = None

abbrev pub bytes_in : Kept → Option (List ℕ)
bytes_in kept = bytes_if kept.live kept.bytes

-- bytes are kept; or memory ran out, and the handle is as it was
abbrev pub Keeps : List ℕ → Kept → Kept → Bool → Type 0
Keeps bytes before after true = bytes_in after ≡ Some bytes
Keeps bytes before after false = after ≡ before

-- of bytes those from a place on were put into the front of a buffer, so many as there are or as
-- have room
pub record IsPiece (bytes : List ℕ) (from : ℕ) (before after : List ℕ) (count : ℕ) : Type 0 where
  pub many : count ≡ min (length bytes - from) (length before)
  pub put : after ≡ take count (drop from bytes) ++ drop count before

-- a piece of what a handle has was read; nothing where it has nothing
abbrev pub ReadsOf : Option (List ℕ) → ℕ → List ℕ → List ℕ → Option ℕ → Type 0
ReadsOf None from before after None = after ≡ before
ReadsOf (Some bytes) from before after (Some count) = IsPiece bytes from before after count
ReadsOf None from before after (Some count) = ⊥
ReadsOf (Some bytes) from before after None = ⊥

abbrev pub Reads : ℕ → Kept → Kept → List ℕ → List ℕ → Option ℕ → Type 0
Reads from old new before after count =
    (bytes_in new ≡ bytes_in old) × ReadsOf (bytes_in old) from before after count
