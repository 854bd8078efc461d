-- The tokens of a line that is read are of a form, but for those that are too long for a name.
use Rattle.std.proofs.Common.{⊎_elim, ◌∙◌, sym, ◌≡◌, ℕ, ◌≤◌, ◌+◌, Bool, true, false, ◌||◌, not, List, [], ◌∷◌, ◌++◌, length, refl, arith, length-append, length-take}
use Rattle.std.specs.Prelude.{⊤, bytes_eq, codes, nat_eq, nat_le, nat_lt, is_some, Option, Some, None, Ok, option_map, option_and_then, if◌then◌else◌}
use Rattle.std.specs.Char.{is_ascii_digit, is_digit}
use Rattle.std.specs.Str.Parse.{digits_value}
use Rattle.std.specs.List.{list_all}
use Rattle.std.specs.Option.{ok_or}
use Rattle.std.proofs.lemmas.Bool.{and_from, and_parts, cond_both, eqb-true, or_cases, or_left, or_right, true≢false}
use Rattle.std.proofs.lemmas.Bool.Decides.{nat_tests}
use Rattle.std.proofs.lemmas.List.Folds.{list_all-append}
use Rattle.std.proofs.lemmas.Slice.Eq.{bytes_eq-Decides}
use Rattle.text.specs.Class.{begins_name, is_name, is_name_byte, is_name_start, is_number, is_numeral, is_token, is_word, label_name}
use Rattle.text.specs.Cut.{before, closed, code_of, comment_at, is_blank, parts_from, tokens_of}
use Rattle.text.specs.Major.{major_of}
use Rattle.text.specs.Number.{number_in, number_value, numbered_in, sized}
use Rattle.text.specs.declared.number.Numeral.TheVariants.{Other}
use Rattle.text.specs.declared.class.TheConstants.{MAX_NAME}
use Rattle.model.specs.declared.instr.Return.TheVariants.{WithStatus, Lower}
use Rattle.asm_line.specs.Cursor.{Reading, beginning, called, capped, cell, cell_of, constant, constant_of, field, label, lock_of, major, name, name_of, name_or_end, next_of, number, numbered, one, optional_name, paged_cell, queue, ranged, register, register_of, returned, returned_by, so_far, sort, spin_lock, status, then_read, three, token, turns, turns_of, two, word}
use Rattle.model.specs.InstructionForm.{Operand, ARegister, ACell, APagedCell, ASpinLock, AConstant, ATurns, AField, AStatus, AQueue, ALabel, ARoutine, AReturn, Form, Makes, forms}
use Rattle.asm_line.specs.Instruction.{in_forms, instruction, made, operand}
use Rattle.asm_line.specs.Line.{body, body_of, device, ended, if_ended, if_in_range, labelled, line_of, line_with, queue as queue_line, step}
use Rattle.asm_line.specs.Words.{field_of, sort_of, status_of}
use Rattle.asm_line.specs.declared.cursor.Cursor.{Cursor}
use Rattle.asm_line.specs.declared.line.Body.{Body}
use Rattle.asm_line.specs.declared.line.Body.TheVariants.{OpenDriver, AddQueue, Handle, HandleStartIo, HandleDpc, OpenRoutine, AddDevice, Step}
use Rattle.asm_line.specs.declared.line.Line.{Line}
use Rattle.asm_line.specs.declared.line.LineFault.TheVariants.{UnknownWord}

-- of a form, or too long for a name
abbrev pub is_usual : List ℕ → Bool
is_usual t = is_token t || nat_lt MAX_NAME (length t)

abbrev pub are_usual : List (List ℕ) → Bool
are_usual ts = list_all is_usual ts

-- where the tokens behind what was read are usual, these are
abbrev pub Tells : {A : Type 0} → List (List ℕ) → Reading A → Type 0
Tells ts None = ⊤
Tells ts (Some read) = are_usual read.1.tokens ≡ true → are_usual ts ≡ true

-- so it is wherever it reads
record Telling {A : Type 0} (read : Cursor → Reading A) : Type 0 where
  tells : (c : Cursor) → Tells c.tokens (read c)

-- a token that says something is usual
abbrev pub Names : {A : Type 0} → List ℕ → Option A → Type 0
Names {A} t meaning = (a : A) → meaning ≡ Some a → is_usual t ≡ true

by_name : (t : List ℕ) → is_name t ≡ true → is_usual t ≡ true
by_name t h = rw h refl

by_number : (t : List ℕ) → is_number t ≡ true → is_usual t ≡ true
by_number t h = or_left _ _ (or_left _ _ (or_right (is_name t || is_word t) (is_number t) h))

by_label : (t : List ℕ) → is_some (label_name t) ≡ true → is_usual t ≡ true
by_label t h =
    or_left _ _ (or_right (is_name t || is_word t || is_number t) (is_some (label_name t)) h)

-- one reading, and then another
after : {B : Type 0} (ts : List (List ℕ)) (c : Cursor) (r : Reading B)
    → (are_usual c.tokens ≡ true → are_usual ts ≡ true) → Tells c.tokens r → Tells ts r
after ts c None first later = tt
after ts c (Some read) first later = λ h. first (later h)

then_tells : {A B : Type 0} (ts : List (List ℕ)) (r : Reading A) (next : A → Cursor → Reading B)
    → Tells ts r → ((a : A) → Telling (next a)) → Tells ts (then_read r next)
then_tells ts None next first later = tt
then_tells ts (Some read) next first later =
    after ts read.1 (next read.0 read.1) first ((later read.0).tells read.1)

then_usual : {A B : Type 0} {read : Cursor → Reading A} (next : A → Cursor → Reading B)
    → Telling read → ((a : A) → Telling (next a)) → Telling (λ c. then_read (read c) next)
then_usual {read = read} next first later =
    record { tells = λ c. then_tells c.tokens (read c) next (first.tells c) later }

kept : {A : Type 0} (a : A) → Telling (so_far a)
kept a = record { tells = λ c h. h }

one_usual : {A X : Type 0} (f : A → X) {first : Cursor → Reading A} → Telling first
    → Telling (one f first)
one_usual f tells = then_usual (λ a. so_far (f a)) tells (λ a. kept (f a))

two_usual : {A B X : Type 0} (f : A → B → X) {first : Cursor → Reading A}
    {second : Cursor → Reading B} → Telling first → Telling second → Telling (two f first second)
two_usual f {second = second} tells more =
    then_usual (λ a. one (f a) second) tells (λ a. one_usual (f a) more)

three_usual : {A B C X : Type 0} (f : A → B → C → X) {first : Cursor → Reading A}
    {second : Cursor → Reading B} {third : Cursor → Reading C}
    → Telling first → Telling second → Telling third → Telling (three f first second third)
three_usual f {second = second} {third} tells more last =
    then_usual (λ a. two (f a) second third) tells (λ a. two_usual (f a) more last)

-- a token that says something
said : {A X : Type 0} (f : A → X) (t : List ℕ) (c : Cursor) (m : Option A) → Names t m
    → Tells (t ∷ c.tokens) (option_and_then (λ a. so_far (f a) c) m)
said f t c None known = tt
said f t c (Some a) known = λ h. and_from (is_usual t) (are_usual c.tokens) (known a refl) h

from_token : {A : Type 0} (next : List ℕ → Cursor → Reading A)
    → ((t : List ℕ) (c : Cursor) → Tells (t ∷ c.tokens) (next t c))
    → (ts : List (List ℕ)) (c : Cursor) → Tells ts (then_read (next_of ts c) next)
from_token next tells [] c = tt
from_token next tells (t ∷ ts) c = tells t (record c { tokens = ts })

token_usual : {A : Type 0} (next : List ℕ → Cursor → Reading A)
    → ((t : List ℕ) (c : Cursor) → Tells (t ∷ c.tokens) (next t c))
    → Telling (λ c. then_read (token c) next)
token_usual next tells = record { tells = λ c. from_token next tells c.tokens c }

word_usual : {A : Type 0} (meaning : List ℕ → Option A) → ((t : List ℕ) → Names t (meaning t))
    → Telling (word meaning)
word_usual meaning known =
    token_usual (λ t rest. option_and_then (λ a. so_far a rest) (meaning t))
    (λ t rest. said (λ a. a) t rest (meaning t) (known t))

-- one of some words
same_usual : (t w : List ℕ) → bytes_eq t w ≡ true → is_usual w ≡ true → is_usual t ≡ true
same_usual t w is known = let same : t ≡ w = (bytes_eq-Decides t w).0 is in rw same known

named : {A : Type 0} (t w : List ℕ) (x y : Option A) → is_usual w ≡ true → Names t y
    → Names t (if bytes_eq t w then x else y)
named t w x y known later =
    cond_both (bytes_eq t w) x y (Names t) (λ is a h. same_usual t w is known) (λ other. later)

major_of_named : (t : List ℕ) → Names t (major_of t)
major_of_named t =
    named t (codes "READ") _ _ refl
    (named t (codes "WRITE") _ _ refl
    (named t (codes "CONTROL") _ _ refl (λ a h. cc)))

field_of_named : (t : List ℕ) → Names t (field_of t)
field_of_named t =
    named t (codes "MAJOR") _ _ refl
    (named t (codes "ARG") _ _ refl
    (named t (codes "INFO") _ _ refl (λ a h. cc)))

sort_of_named : (t : List ℕ) → Names t (sort_of t)
sort_of_named t =
    named t (codes "dispatch") _ _ refl
    (named t (codes "startio") _ _ refl
    (named t (codes "dpc") _ _ refl
    (named t (codes "propagate") _ _ refl
    (named t (codes "hold") _ _ refl
    (named t (codes "cancel") _ _ refl (λ a h. cc))))))

status_of_named : (t : List ℕ) → Names t (status_of t)
status_of_named t =
    named t (codes "SUCCESS") _ _ refl
    (named t (codes "PENDING") _ _ refl
    (named t (codes "BUSY") _ _ refl
    (named t (codes "UNSUCCESSFUL") _ _ refl
    (named t (codes "INVALID_PARAMETER") _ _ refl
    (named t (codes "INVALID_DEVICE_REQUEST") _ _ refl
    (named t (codes "CANCELLED") _ _ refl (λ a h. cc)))))))

name_of_named : (t : List ℕ) → Names t (name_of t)
name_of_named t =
    cond_both (is_name t) (Some t) None (Names t) (λ is a h. by_name t is) (λ other a h. cc)

number_named : (t : List ℕ) → Names t (capped (number_in t))
number_named t =
    cond_both (is_number t) (sized (number_value t)) Other (λ n. Names t (capped n))
    (λ is a h. by_number t is) (λ other a h. cc)

-- a letter and digits are a name, unless they are too long for one
digit_is_name_byte : (b : ℕ) → is_digit b 10 ≡ true → is_name_byte b ≡ true
digit_is_name_byte b h =
    let digit : is_ascii_digit b ≡ true = grind (arith, nat_tests) in
    or_right (is_name_start b) (is_ascii_digit b) digit

pub digits_are_name_bytes : (bs : List ℕ) → list_all (λ b. is_digit b 10) bs ≡ true
    → list_all is_name_byte bs ≡ true
digits_are_name_bytes [] h = refl
digits_are_name_bytes (b ∷ bs) h =
    let parts = and_parts (is_digit b 10) (list_all (λ b. is_digit b 10) bs) h in
    and_from (is_name_byte b) (list_all is_name_byte bs) (digit_is_name_byte b parts.0)
    (digits_are_name_bytes bs parts.1)

name_or_long : (t : List ℕ) (b : Bool) → nat_le (length t) MAX_NAME ≡ b → begins_name t ≡ true
    → list_all is_name_byte t ≡ true → is_usual t ≡ true
name_or_long t true fits begins all = by_name t (rw (begins, fits, all) refl)
name_or_long t false fits begins all =
    let long : nat_lt MAX_NAME (length t) ≡ true = grind (arith, nat_tests) in
    or_right (is_token t) (nat_lt MAX_NAME (length t)) long

letter_and_digits : (b : ℕ) (bs : List ℕ) → is_name_start b ≡ true → is_numeral 10 bs ≡ true
    → is_usual (b ∷ bs) ≡ true
letter_and_digits b bs start digits =
    let parts = and_parts (not (nat_eq (length bs) 0)) (list_all (λ b. is_digit b 10) bs) digits in
    let first : is_name_byte b ≡ true = rw start refl in
    name_or_long (b ∷ bs) (nat_le (length (b ∷ bs)) MAX_NAME) refl start
    (and_from (is_name_byte b) (list_all is_name_byte bs) first
    (digits_are_name_bytes bs parts.1))

numbered_named : (letter : ℕ) → is_name_start letter ≡ true → (t : List ℕ)
    → Names t (capped (numbered_in letter t))
numbered_named letter start [] = λ a h. cc
numbered_named letter start (b ∷ bs) =
    let number = if is_numeral 10 bs then sized (digits_value 10 bs) else Other in
    cond_both (nat_eq b letter) number Other (λ n. Names (b ∷ bs) (capped n))
    (λ same. let is : b ≡ letter = eqb-true b letter same in
    cond_both (is_numeral 10 bs) (sized (digits_value 10 bs)) Other
    (λ n. Names (b ∷ bs) (capped n))
    (λ digits a h. letter_and_digits b bs (rw is start) digits) (λ other a h. cc))
    (λ other a h. cc)

-- the operands
major_usual : Telling major
major_usual = word_usual major_of major_of_named

field_usual : Telling field
field_usual = word_usual field_of field_of_named

sort_usual : Telling sort
sort_usual = word_usual sort_of sort_of_named

status_usual : Telling status
status_usual = word_usual status_of status_of_named

name_usual : Telling name
name_usual = word_usual name_of name_of_named

optional_from : (ts : List (List ℕ)) (c : Cursor) → Tells c.tokens (name_or_end ts c)
optional_from [] c = λ h. h
optional_from (t ∷ ts) c = (one_usual (λ n. Some n) name_usual).tells c

optional_name_usual : Telling optional_name
optional_name_usual = record { tells = λ c. optional_from c.tokens c }

label_usual : Telling label
label_usual =
    then_usual
    (λ n rest. so_far 0 (record rest { used = record rest.used { label = Some n } })) name_usual
    (λ n. record { tells = λ rest h. h })

called_usual : Telling called
called_usual =
    then_usual
    (λ n rest. so_far None (record rest { used = record rest.used { routine = n } }))
    optional_name_usual (λ n. record { tells = λ rest h. h })

queue_usual : Telling queue
queue_usual =
    then_usual
    (λ n rest. so_far 0 (record rest { used = record rest.used { queue = Some n } })) name_usual
    (λ n. record { tells = λ rest h. h })

number_usual : Telling number
number_usual = word_usual (λ t. capped (number_in t)) number_named

numbered_usual : (letter : ℕ) → is_name_start letter ≡ true → Telling (numbered letter)
numbered_usual letter start =
    word_usual (λ t. capped (numbered_in letter t)) (numbered_named letter start)

ranged_tells : (stand_in : ℕ) (m : Option ℕ) (c : Cursor) → Tells c.tokens (ranged stand_in m c)
ranged_tells stand_in None c = λ h. h
ranged_tells stand_in (Some n) c = λ h. h

-- a number that has to be in a range
bounded_usual : (stand_in : ℕ) (of : ℕ → Option ℕ) {read : Cursor → Reading ℕ} → Telling read
    → Telling (λ c. then_read (read c) (λ n rest. ranged stand_in (of n) rest))
bounded_usual stand_in of tells =
    then_usual (λ n. ranged stand_in (of n)) tells
    (λ n. record { tells = ranged_tells stand_in (of n) })

register_usual : Telling register
register_usual = bounded_usual 0 register_of (numbered_usual 114 refl)

spin_lock_usual : Telling spin_lock
spin_lock_usual = bounded_usual 0 lock_of (numbered_usual 108 refl)

cell_usual : Telling cell
cell_usual = bounded_usual 0 cell_of (numbered_usual 99 refl)

paged_cell_usual : Telling paged_cell
paged_cell_usual = bounded_usual 0 cell_of (numbered_usual 112 refl)

constant_usual : Telling constant
constant_usual = bounded_usual 0 constant_of number_usual

turns_usual : Telling turns
turns_usual = bounded_usual 1 turns_of number_usual

-- a word, and what stands behind it
begun : {X : Type 0} (t : List ℕ) (ts : List (List ℕ)) (r : Reading X) → is_usual t ≡ true
    → Tells ts r → Tells (t ∷ ts) r
begun t ts None known first = tt
begun t ts (Some read) known first = λ h. and_from (is_usual t) (are_usual ts) known (first h)

pick : {X : Type 0} (t w : List ℕ) (c : Cursor) (read : Cursor → Reading X) (other : Reading X)
    → is_usual w ≡ true → Telling read → Tells (t ∷ c.tokens) other
    → Tells (t ∷ c.tokens) (if bytes_eq t w then read c else other)
pick t w c read other known first later =
    cond_both (bytes_eq t w) (read c) other (Tells (t ∷ c.tokens))
    (λ is. begun t c.tokens (read c) (same_usual t w is known) (first.tells c)) (λ other. later)

returned_by_usual : (t : List ℕ) (c : Cursor) → Tells (t ∷ c.tokens) (returned_by t c)
returned_by_usual t c =
    pick t (codes "lower") c _ _ refl (one_usual (λ r. Lower r) register_usual)
    (pick t (codes "continue") c _ _ refl (kept _)
    (pick t (codes "stop") c _ _ refl (kept _)
    (pick t (codes "void") c _ _ refl (kept _)
    (said (λ s. WithStatus s) t c (status_of t) (status_of_named t)))))

returned_usual : Telling returned
returned_usual = token_usual returned_by returned_by_usual

operand_usual : (first : Operand) → Telling (operand first)
operand_usual ARegister = register_usual
operand_usual ACell = cell_usual
operand_usual APagedCell = paged_cell_usual
operand_usual ASpinLock = spin_lock_usual
operand_usual AConstant = constant_usual
operand_usual ATurns = turns_usual
operand_usual AField = field_usual
operand_usual AStatus = status_usual
operand_usual AQueue = queue_usual
operand_usual ALabel = label_usual
operand_usual ARoutine = called_usual
operand_usual AReturn = returned_usual

made_usual : (operands : List Operand) (makes : Makes operands) → Telling (made operands makes)
made_usual [] makes = kept makes
made_usual (first ∷ operands) makes =
    then_usual (λ value. made operands (makes value)) (operand_usual first)
    (λ value. made_usual operands (makes value))

forms_usual : (t : List ℕ) (c : Cursor) (fs : List Form)
    → list_all (λ (form : Form). is_usual form.word) fs ≡ true
    → Tells (t ∷ c.tokens) (in_forms fs t c)
forms_usual t c [] known = tt
forms_usual t c (form ∷ fs) known =
    let parts = and_parts (is_usual form.word) (list_all (λ (form : Form). is_usual form.word) fs)
    known in
    pick t form.word c (made form.operands form.makes) (in_forms fs t c) parts.0
    (made_usual form.operands form.makes) (forms_usual t c fs parts.1)

instruction_usual : (t : List ℕ) (c : Cursor) → Tells (t ∷ c.tokens) (instruction t c)
instruction_usual t c = forms_usual t c forms refl

-- a line
device_usual : Telling device
device_usual =
    then_usual (λ n. three (AddDevice n) name number optional_name) name_usual
    (λ n. three_usual (AddDevice n) name_usual number_usual optional_name_usual)

queue_line_usual : Telling queue_line
queue_line_usual =
    then_usual
    (λ n rest. then_read (spin_lock rest)
    (λ lock rest. one (AddQueue n (if_in_range rest.in_range lock)) optional_name rest))
    name_usual
    (λ n. then_usual
    (λ lock rest. one (AddQueue n (if_in_range rest.in_range lock)) optional_name rest)
    spin_lock_usual
    (λ lock. record {
      tells = λ rest.
          (one_usual (AddQueue n (if_in_range rest.in_range lock)) optional_name_usual).tells rest;
    }))

step_usual : (t : List ℕ) (c : Cursor) → Tells (t ∷ c.tokens) (step t c)
step_usual t c =
    then_tells (t ∷ c.tokens) (instruction t c)
    (λ i rest. so_far (Step (if_in_range rest.in_range i) rest.used) rest) (instruction_usual t c)
    (λ i. record { tells = λ rest h. h })

body_usual : (t : List ℕ) (c : Cursor) → Tells (t ∷ c.tokens) (body t c)
body_usual t c =
    pick t (codes "driver") c _ _ refl (one_usual OpenDriver name_usual)
    (pick t (codes "endd") c _ _ refl (kept _)
    (pick t (codes "queue") c _ _ refl queue_line_usual
    (pick t (codes "dispatch") c _ _ refl (two_usual Handle major_usual name_usual)
    (pick t (codes "startio") c _ _ refl (two_usual HandleStartIo name_usual optional_name_usual)
    (pick t (codes "dpc") c _ _ refl (one_usual HandleDpc name_usual)
    (pick t (codes "routine") c _ _ refl (two_usual OpenRoutine name_usual sort_usual)
    (pick t (codes "endr") c _ _ refl (kept _)
    (pick t (codes "device") c _ _ refl device_usual (step_usual t c)))))))))

at_end : (ts : List (List ℕ)) (said b : Body) → if_ended ts said ≡ Some b → are_usual ts ≡ true
at_end [] said b h = refl
at_end (t ∷ ts) said b h = cc

ended_usual : (ts : List (List ℕ)) (r : Reading Body) (b : Body) → Tells ts r → ended r ≡ Some b
    → are_usual ts ≡ true
ended_usual ts None b tells h = cc
ended_usual ts (Some read) b tells h = tells (at_end read.1.tokens read.0 b h)

body_of_usual : (ts : List (List ℕ)) (b : Body) → body_of ts ≡ Some b → are_usual ts ≡ true
body_of_usual [] b h = cc
body_of_usual (t ∷ ts) b h =
    ended_usual (t ∷ ts) (body t (beginning ts)) b (body_usual t (beginning ts)) h

from_body : (made : Option Body → Option Line) → made None ≡ None → (ts : List (List ℕ)) (l : Line)
    (m : Option Body) → body_of ts ≡ m → made m ≡ Some l → are_usual ts ≡ true
from_body made none ts l None is h = let never = rw none at h in cc
from_body made none ts l (Some b) is h = body_of_usual ts b is

with_usual : (t : List ℕ) (ts : List (List ℕ)) (l : Line) (m : Option (List ℕ))
    → label_name t ≡ m → line_with (t ∷ ts) m ts ≡ Some l → are_usual (t ∷ ts) ≡ true
with_usual t ts l (Some name) is h =
    and_from (is_usual t) (are_usual ts) (by_label t (rw is refl))
    (from_body (option_and_then (labelled name)) refl ts l (body_of ts) refl h)
with_usual t ts l None is h =
    from_body (option_map (λ b. record { label = None; body = b })) refl (t ∷ ts) l
    (body_of (t ∷ ts)) refl h

line_usual : (ts : List (List ℕ)) (l : Line) → line_of ts ≡ Some l → are_usual ts ≡ true
line_usual [] l h = refl
line_usual (t ∷ ts) l h = with_usual t ts l (label_name t) refl h

-- a token is no longer than its line
abbrev pub is_short : List ℕ → Bool
is_short t = nat_le (length t) MAX_NAME

closed_short : (held : List ℕ) → length held ≤ MAX_NAME → list_all is_short (closed held) ≡ true
closed_short [] h = refl
closed_short (b ∷ bs) h =
    let here : nat_le (length (b ∷ bs)) MAX_NAME ≡ true = grind (arith, nat_tests) in
    and_from (is_short (b ∷ bs)) true here refl

parts_short : (held bytes : List ℕ) → length held + length bytes ≤ MAX_NAME
    → list_all is_short (parts_from held bytes) ≡ true
parts_short held [] h = closed_short held (omega (arith, h))
parts_short held (b ∷ bs) h =
    let blank : list_all is_short (closed held ++ parts_from [] bs) ≡ true =
    rw (list_all-append is_short (closed held) (parts_from [] bs))
    (and_from (list_all is_short (closed held)) (list_all is_short (parts_from [] bs))
    (closed_short held (omega (arith, h))) (parts_short [] bs (omega (arith, h)))) in
    let on = parts_short (held ++ b ∷ []) bs (omega (arith, h, length-append held (b ∷ []))) in
    cond_both (is_blank b) (closed held ++ parts_from [] bs) (parts_from (held ++ b ∷ []) bs)
    (λ parts. list_all is_short parts ≡ true) (λ is. blank) (λ other. on)

before_short : (o : Option ℕ) (line : List ℕ) → length (before o line) ≤ length line
before_short None line = omega arith
before_short (Some n) line = omega (arith, length-take n line)

of_form : (t : List ℕ) → is_usual t ≡ true → is_short t ≡ true → is_token t ≡ true
of_form t known short =
    let fits : nat_lt MAX_NAME (length t) ≡ false = grind (arith, nat_tests) in
    ⊎_elim (λ is. is) (λ long. absurd (true≢false (sym long ∙ fits)))
    (or_cases (is_token t) (nat_lt MAX_NAME (length t)) known)

all_of_form : (ts : List (List ℕ)) → are_usual ts ≡ true → list_all is_short ts ≡ true
    → list_all is_token ts ≡ true
all_of_form [] known short = refl
all_of_form (t ∷ ts) known short =
    let usual = and_parts (is_usual t) (are_usual ts) known in
    let fits = and_parts (is_short t) (list_all is_short ts) short in
    and_from (is_token t) (list_all is_token ts) (of_form t usual.0 fits.0)
    (all_of_form ts usual.1 fits.1)

-- the tokens of a line that is read are of a form, if it is no longer than a name may be
read_of_form : (raw : List ℕ) (l : Line) (m : Option Line) → line_of (tokens_of raw) ≡ m
    → ok_or m UnknownWord ≡ Ok l → length raw ≤ MAX_NAME → list_all is_token (tokens_of raw) ≡ true
read_of_form raw l None is h short = cc
read_of_form raw l (Some read) is h short =
    all_of_form (tokens_of raw) (line_usual (tokens_of raw) read is)
    (parts_short [] (code_of raw) (omega (arith, short, before_short (comment_at raw) raw)))

pub read_is_of_form : (raw : List ℕ) (l : Line) → ok_or (line_of (tokens_of raw)) UnknownWord ≡ Ok l
    → length raw ≤ MAX_NAME → list_all is_token (tokens_of raw) ≡ true
read_is_of_form raw l h short = read_of_form raw l (line_of (tokens_of raw)) refl h short
