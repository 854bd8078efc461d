-- The words of the lines of a listing.
use Rattle.std.specs.Prelude.{ℕ, List, [], ◌∷◌, ◌++◌, Option, Some, None, codes, drop, take}
use Rattle.std.specs.Fmt.{decimal}
use Rattle.model.specs.declared.instr.Instr.{Instr}
use Rattle.model.specs.declared.instr.Return.{Return}
use Rattle.model.specs.declared.instr.Return.TheVariants.{WithStatus, Lower, Continue, Stop, Void}
use Rattle.model.specs.InstructionForm.{Operand, ARegister, ACell, APagedCell, ASpinLock, AConstant, ATurns, AField, AStatus, AQueue, ALabel, ARoutine, AReturn, Form, ValueOf, Values, by_form}
pub use Rattle.asm_line.specs.Words.{field_text, status_text}
pub use Rattle.model.specs.Words.{sort_text}
pub use Rattle.text.specs.Major.{major_text}
pub use Rattle.text.specs.Spaced.{spaced}
use Rattle.asm_line.specs.declared.entry.Entry.{Entry}
use Rattle.asm_line.specs.declared.entry.Entry.TheVariants as line
use Rattle.asm_line.specs.declared.listed_instruction.Token.{Token}
use Rattle.asm_line.specs.declared.listed_instruction.Token.TheVariants.{Nothing, Spelled, Lettered}

-- a letter and a number: an operand, or a name
abbrev pub numbered : ℕ → ℕ → List ℕ
numbered letter number = letter ∷ decimal number

-- the operands
abbrev pub register : ℕ → List ℕ
register r = numbered 114 r

abbrev pub spin_lock : ℕ → List ℕ
spin_lock lock = numbered 108 lock

abbrev pub cell : ℕ → List ℕ
cell c = numbered 99 c

abbrev pub paged_cell : ℕ → List ℕ
paged_cell c = numbered 112 c

-- the names
abbrev pub driver : ℕ → List ℕ
driver number = numbered 100 number

abbrev pub routine : ℕ → List ℕ
routine number = numbered 102 number

abbrev pub queue : ℕ → List ℕ
queue number = numbered 113 number

abbrev pub device : ℕ → List ℕ
device number = numbered 118 number

abbrev pub label : ℕ → List ℕ
label position = numbered 97 position

-- the word of a number, if there is one
abbrev pub optional : (ℕ → List ℕ) → Option ℕ → List (List ℕ)
optional word None = []
optional word (Some number) = word number ∷ []

-- what `ret` returns
abbrev pub returned_words : Return → List (List ℕ)
returned_words (WithStatus status) = status_text status ∷ []
returned_words (Lower r) = codes "lower" ∷ register r ∷ []
returned_words Continue = codes "continue" ∷ []
returned_words Stop = codes "stop" ∷ []
returned_words Void = codes "void" ∷ []

-- the words of an operand
abbrev pub operand_words : (operand : Operand) → ValueOf operand → List (List ℕ)
operand_words ARegister r = register r ∷ []
operand_words ACell c = cell c ∷ []
operand_words APagedCell c = paged_cell c ∷ []
operand_words ASpinLock lock = spin_lock lock ∷ []
operand_words AConstant n = decimal n ∷ []
operand_words ATurns turns = decimal turns ∷ []
operand_words AField field = field_text field ∷ []
operand_words AStatus status = status_text status ∷ []
operand_words AQueue q = queue q ∷ []
operand_words ALabel to = label to ∷ []
operand_words ARoutine f = optional routine f
operand_words AReturn form = returned_words form

abbrev pub operands_words : (operands : List Operand) → Values operands → List (List ℕ)
operands_words [] values = []
operands_words (operand ∷ operands) values =
    operand_words operand values.0 ++ operands_words operands values.1

-- the words of an instruction
abbrev pub form_words : (form : Form) → Values form.operands → List (List ℕ)
form_words form values = form.word ∷ operands_words form.operands values

abbrev pub instruction_words : Instr → List (List ℕ)
instruction_words i = by_form form_words i

-- the word that an instruction's line begins with
abbrev pub word_text : Instr → List ℕ
word_text i = by_form (λ form values. form.word) i

-- what stands at a place behind that word, if anything does
abbrev pub place_words : ℕ → Instr → List (List ℕ)
place_words place i = take 1 (drop place (instruction_words i))

abbrev pub token_words : Token → List (List ℕ)
token_words Nothing = []
token_words (Spelled word) = word.now ∷ []
token_words (Lettered letters number) = (letters.now ++ decimal number) ∷ []

-- a label before its instruction, if there is one
abbrev pub label_words : Option ℕ → List (List ℕ)
label_words None = []
label_words (Some position) = (label position ++ 58 ∷ []) ∷ []

-- the words of a line
abbrev pub words_of : Entry → List (List ℕ)
words_of (line.Driver number) = codes "driver" ∷ driver number ∷ []
words_of (line.Queue number q) =
    codes "queue" ∷ queue number ∷ spin_lock q.guard ∷ optional routine q.cancel
words_of (line.Handler major number) =
    codes "dispatch" ∷ major_text major ∷ routine number ∷ []
words_of (line.StartIo number cancel) =
    codes "startio" ∷ routine number ∷ optional routine cancel
words_of (line.Dpc number) = codes "dpc" ∷ routine number ∷ []
words_of (line.Routine number sort) =
    codes "routine" ∷ routine number ∷ sort_text sort ∷ []
words_of (line.Step position i) = label_words position ++ instruction_words i
words_of line.EndRoutine = codes "endr" ∷ []
words_of line.EndDriver = codes "endd" ∷ []
words_of (line.Device number d) =
    codes "device" ∷ device number ∷ driver d.driver ∷ decimal d.stack ∷ optional device d.lower

-- words with one space between them
abbrev pub joined : List (List ℕ) → List ℕ
joined [] = []
joined (word ∷ words) = word ++ spaced words

-- an instruction and the end of its line
abbrev pub instruction_text : Instr → List ℕ
instruction_text i = joined (instruction_words i) ++ 10 ∷ []

-- a line, with its LF
abbrev pub line_text : Entry → List ℕ
line_text entry = joined (words_of entry) ++ 10 ∷ []
