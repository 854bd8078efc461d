-- The operands of a line, read one after another.
use Rattle.std.specs.Prelude.{ℕ, ◌≡◌, ◌^◌, ◌-◌, ◌&&◌, nat_lt, nat_le, false, true, List, [], ◌∷◌, bytes_eq, codes, Option, Some, None, MatchOption, option_and_then, if◌then◌else◌}
use Rattle.text.specs.Class.{is_name}
use Rattle.text.specs.Major.{major_of}
use Rattle.text.specs.Number.{number_in, numbered_in}
use Rattle.text.specs.declared.number.Numeral.{Numeral}
use Rattle.text.specs.declared.number.Numeral.TheVariants.{Other, TooLarge, Number}
use Rattle.model.specs.declared.instr.Field.{Field}
use Rattle.model.specs.declared.instr.Return.{Return}
use Rattle.model.specs.declared.instr.Return.TheVariants.{WithStatus, Lower, Continue, Stop, Void}
use Rattle.model.specs.declared.limits.TheConstants.{CELLS, MAX_TURNS, REGISTERS, SPIN_LOCKS}
use Rattle.model.specs.declared.set.Sort.{Sort}
use Rattle.model.specs.declared.status.Major.{Major}
use Rattle.model.specs.declared.status.Status.{Status}
use Rattle.asm_line.specs.Words.{field_of, sort_of, status_of}
use Rattle.asm_line.specs.declared.cursor.Cursor.{Cursor}

-- before the first operand
abbrev pub beginning : List (List ℕ) → Cursor
beginning tokens =
    record {
      tokens = tokens;
      in_range = true;
      used = record { label = None; routine = None; queue = None };
    }

-- what was read, and the cursor behind it; nothing where the tokens are of another form
abbrev pub Reading : Type 0 → Type 0
Reading A = Option (A × Cursor)

-- this was read, up to this cursor
abbrev pub so_far : {A : Type 0} → A → Cursor → Reading A
so_far a c = Some (a, c)

-- a call answers what is read, and leaves the cursor behind it
abbrev pub Reads : {A : Type 0} → Option A → Cursor → Reading A → Type 0
Reads result after reading = MatchOption result (reading ≡ None) (λ a. reading ≡ so_far a after)

-- one reading, and then another
abbrev pub then_read : {A B : Type 0} → Reading A → (A → Cursor → Reading B) → Reading B
then_read None next = None
then_read (Some read) next = next read.0 read.1

-- what is made of one operand, of two, of three
abbrev pub one : {A X : Type 0} → (A → X) → (Cursor → Reading A) → Cursor → Reading X
one f first c = then_read (first c) (λ a rest. so_far (f a) rest)

abbrev pub two : {A B X : Type 0} → (A → B → X) → (Cursor → Reading A) → (Cursor → Reading B)
    → Cursor → Reading X
two f first second c = then_read (first c) (λ a rest. one (f a) second rest)

abbrev pub three : {A B C X : Type 0} → (A → B → C → X) → (Cursor → Reading A)
    → (Cursor → Reading B) → (Cursor → Reading C) → Cursor → Reading X
three f first second third c = then_read (first c) (λ a rest. two (f a) second third rest)

-- the next token
abbrev pub next_of : List (List ℕ) → Cursor → Reading (List ℕ)
next_of [] c = None
next_of (t ∷ ts) c = so_far t (record c { tokens = ts })

abbrev pub token : Cursor → Reading (List ℕ)
token c = next_of c.tokens c

-- a token that says something
abbrev pub word : {A : Type 0} → (List ℕ → Option A) → Cursor → Reading A
word meaning c = then_read (token c) (λ t rest. option_and_then (λ a. so_far a rest) (meaning t))

abbrev pub major : Cursor → Reading Major
major c = word major_of c

abbrev pub field : Cursor → Reading Field
field c = word field_of c

abbrev pub sort : Cursor → Reading Sort
sort c = word sort_of c

abbrev pub status : Cursor → Reading Status
status c = word status_of c

-- a name
abbrev pub name_of : List ℕ → Option (List ℕ)
name_of t = if is_name t then Some t else None

abbrev pub name : Cursor → Reading (List ℕ)
name c = word name_of c

-- a name, or nothing where no token is left
abbrev pub name_or_end : List (List ℕ) → Cursor → Reading (Option (List ℕ))
name_or_end [] c = so_far None c
name_or_end _ c = one (λ n. Some n) name c

abbrev pub optional_name : Cursor → Reading (Option (List ℕ))
optional_name c = name_or_end c.tokens c

-- a label, by its name, which is noted: it stands for 0 until the labels of its routine are known
abbrev pub label : Cursor → Reading ℕ
label c =
    then_read (name c)
    (λ n rest. so_far 0 (record rest { used = record rest.used { label = Some n } }))

-- the routine that a `call` sets, if there is one, by its name, which is noted: it stands for none
-- until the routines of its driver are known
abbrev pub called : Cursor → Reading (Option ℕ)
called c =
    then_read (optional_name c)
    (λ n rest. so_far None (record rest { used = record rest.used { routine = n } }))

-- a queue, by its name, which is noted: it stands for 0 until the queues of its driver are known
abbrev pub queue : Cursor → Reading ℕ
queue c =
    then_read (name c)
    (λ n rest. so_far 0 (record rest { used = record rest.used { queue = Some n } }))

-- a number of a token; one that has more than 64 bits is as far out of range as the largest that
-- has not
abbrev pub capped : Numeral → Option ℕ
capped Other = None
capped TooLarge = Some (2 ^ 64 - 1)
capped (Number n) = Some n

-- a number: decimal, or hexadecimal after `0x`
abbrev pub number : Cursor → Reading ℕ
number c = word (λ t. capped (number_in t)) c

-- a letter and a decimal number
abbrev pub numbered : ℕ → Cursor → Reading ℕ
numbered letter c = word (λ t. capped (numbered_in letter t)) c

-- a register by its number, if there is one
abbrev pub register_of : ℕ → Option ℕ
register_of n = if nat_lt n REGISTERS then Some n else None

-- a spin lock by its number, if there is one
abbrev pub lock_of : ℕ → Option ℕ
lock_of n = if nat_lt n SPIN_LOCKS then Some n else None

-- a cell by its number, if there is one
abbrev pub cell_of : ℕ → Option ℕ
cell_of n = if nat_lt n CELLS then Some n else None

-- a constant: a number of 32 bits
abbrev pub constant_of : ℕ → Option ℕ
constant_of n = if nat_lt n (2 ^ 32) then Some n else None

-- a count of turns, if a loop may have it
abbrev pub turns_of : ℕ → Option ℕ
turns_of n = if nat_le 1 n && nat_le n MAX_TURNS then Some n else None

-- What is out of range is noted, and another number stands in for it, since an operand behind it
-- may be of no form, which is the lesser fault.
abbrev pub ranged : ℕ → Option ℕ → Cursor → Reading ℕ
ranged stand_in None c = so_far stand_in (record c { in_range = false })
ranged stand_in (Some n) c = so_far n c

-- a register: `r` and its number
abbrev pub register : Cursor → Reading ℕ
register c = then_read (numbered 114 c) (λ n rest. ranged 0 (register_of n) rest)

-- a spin lock: `l` and its number
abbrev pub spin_lock : Cursor → Reading ℕ
spin_lock c = then_read (numbered 108 c) (λ n rest. ranged 0 (lock_of n) rest)

-- a number cell: `c` and its number
abbrev pub cell : Cursor → Reading ℕ
cell c = then_read (numbered 99 c) (λ n rest. ranged 0 (cell_of n) rest)

-- a paged cell: `p` and its number
abbrev pub paged_cell : Cursor → Reading ℕ
paged_cell c = then_read (numbered 112 c) (λ n rest. ranged 0 (cell_of n) rest)

-- a constant
abbrev pub constant : Cursor → Reading ℕ
constant c = then_read (number c) (λ n rest. ranged 0 (constant_of n) rest)

-- the turns of a loop
abbrev pub turns : Cursor → Reading ℕ
turns c = then_read (number c) (λ n rest. ranged 1 (turns_of n) rest)

-- what `ret` returns: a lower driver's status, the word to continue or to stop, nothing, or a
-- status of its own
abbrev pub returned_by : List ℕ → Cursor → Reading Return
returned_by t c =
    if bytes_eq t (codes "lower") then one (λ r. Lower r) register c else
    (if bytes_eq t (codes "continue") then so_far Continue c else
    (if bytes_eq t (codes "stop") then so_far Stop c else
    (if bytes_eq t (codes "void") then so_far Void c else
    option_and_then (λ s. so_far (WithStatus s) c) (status_of t))))

abbrev pub returned : Cursor → Reading Return
returned c = then_read (token c) returned_by
