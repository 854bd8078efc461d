-- The words of major functions.
use Rattle.std.specs.Prelude.{ℕ, List, Option, Some, None, bytes_eq, codes, if◌then◌else◌}
use Rattle.model.specs.declared.status.Major.{Major}
use Rattle.model.specs.declared.status.Major.TheVariants.{Read, Write, Control}

-- the major function that a token names
abbrev pub major_of : List ℕ → Option Major
major_of t =
    if bytes_eq t (codes "READ") then Some Read else
    (if bytes_eq t (codes "WRITE") then Some Write else
    (if bytes_eq t (codes "CONTROL") then Some Control else None))

-- the word of a major function
abbrev pub major_text : Major → List ℕ
major_text Read = codes "READ"
major_text Write = codes "WRITE"
major_text Control = codes "CONTROL"
