-- The usual form of an instruction's line: words that each stand after one space.
use Rattle.std.specs.Prelude.{◌≡◌, ℕ, true, List, [], ◌∷◌, ◌++◌, Some, None}
use Rattle.model.specs.declared.instr.Instr.{Instr}
use Rattle.model.specs.declared.status.Status.{Status}
use Rattle.text.specs.Class.{is_name, label_name}
use Rattle.text.specs.Spaced.{spaced, ArePlain, IsPlain}
use Rattle.asm_line.specs.Cursor.{Reading, so_far}
use Rattle.asm_line.specs.Line.{body_of, labelled}
use Rattle.asm_line.specs.Plain.{unnamed}
use Rattle.asm_line.specs.Words.{status_text}
use Rattle.asm_line.specs.declared.cursor.Cursor.{Cursor}
use Rattle.asm_line.specs.declared.line.Body.{Body}
use Rattle.asm_line.specs.declared.line.UsedNames.{UsedNames}

-- before these tokens, with all numbers in range and these names noted
abbrev pub at : List (List ℕ) → UsedNames → Cursor
at tokens used = record { tokens = tokens; in_range = true; used = used }

-- what an operand adds to the names that are noted: nothing, a label, a queue, a routine
abbrev pub same : UsedNames → UsedNames
same used = used

abbrev pub with_label : List ℕ → UsedNames → UsedNames
with_label name used = record used { label = Some name }

abbrev pub with_queue : List ℕ → UsedNames → UsedNames
with_queue name used = record used { queue = Some name }

abbrev pub with_routine : List ℕ → UsedNames → UsedNames
with_routine name used = record used { routine = Some name }

-- a space and a word stand before the rest, and of the word the exact reading reads this operand
pub record Takes {A : Type 0} (read : Cursor → Reading A) (note : UsedNames → UsedNames)
    (bytes : List ℕ) (operand : A) (rest : List ℕ) : Type 0 where
  pub word : List ℕ
  pub parts : bytes ≡ 32 ∷ word ++ rest
  pub plain : IsPlain word
  pub reads : (tokens : List (List ℕ)) (used : UsedNames)
      → read (at (word ∷ tokens) used) ≡ so_far operand (at tokens (note used))

-- a space and a name stand before the rest
pub record TakesName (bytes : List ℕ) (name : List ℕ) (rest : List ℕ) : Type 0 where
  pub parts : bytes ≡ 32 ∷ name ++ rest
  pub named : is_name name ≡ true

-- a space and the word of the status stand before the rest
abbrev pub TakesStatus : List ℕ → Status → List ℕ → Type 0
TakesStatus bytes status rest = bytes ≡ 32 ∷ status_text status ++ rest

-- behind the word stands this operand, and nothing else
pub record HasOne {A : Type 0} (read : Cursor → Reading A) (word bytes : List ℕ) (operand : A)
    : Type 0 where
  pub operands : List ℕ
  pub rest : List ℕ
  pub parts : bytes ≡ word ++ operands
  pub first : Takes read same operands operand rest
  pub done : rest ≡ []

-- behind the word stand these two operands, of which the second may note a name, and nothing else
pub record HasTwo {A B : Type 0} (read : Cursor → Reading A) (next : Cursor → Reading B)
    (note : UsedNames → UsedNames) (word bytes : List ℕ) (operand : A) (other : B)
    : Type 0 where
  pub operands : List ℕ
  pub between : List ℕ
  pub rest : List ℕ
  pub parts : bytes ≡ word ++ operands
  pub first : Takes read same operands operand between
  pub second : Takes next note between other rest
  pub done : rest ≡ []

-- the bytes are operands of which the exact reading makes this instruction
pub record Reads (reading : Cursor → Reading Instr) (bytes : List ℕ) (instr : Instr)
    (used : UsedNames) : Type 0 where
  pub words : List (List ℕ)
  pub parts : bytes ≡ spaced words
  pub plain : ArePlain words
  pub says : reading (at words unnamed) ≡ so_far instr (at [] used)

-- the bytes are a word and operands of which the exact reading makes this step
pub record ReadsStep (bytes : List ℕ) (step : Body) : Type 0 where
  pub word : List ℕ
  pub words : List (List ℕ)
  pub parts : bytes ≡ word ++ spaced words
  pub first : IsPlain word
  pub plain : ArePlain words
  pub says : body_of (word ∷ words) ≡ Some step
  pub unlabelled : label_name word ≡ None
  pub labelled : (label : List ℕ) → labelled label step
      ≡ Some (record { label = Some label; body = step })
