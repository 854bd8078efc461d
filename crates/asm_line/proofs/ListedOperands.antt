-- The operands of a listing's lines are read back.
use Rattle.std.proofs.Common.{◌≡◌, ℕ, ◌^◌, ◌<◌, ◌≤◌, true, List, [], ◌∷◌, refl, ap, ◌∙◌, arith}
use Rattle.std.specs.Prelude.{nat_eq, nat_lt, nat_le, if◌then◌else◌, Option, Some, None, IfSome, option_map, option_and_then}
use Rattle.std.specs.Fmt.{decimal}
use Rattle.std.proofs.lemmas.Bool.Decides.{nat_tests}
use Rattle.text.specs.Class.{is_name_start}
use Rattle.model.specs.Sound.{FormFits, IsCell, IsRegister, IsSpinLock}
use Rattle.model.specs.declared.instr.Field.{Field}
use Rattle.model.specs.declared.instr.Field.TheVariants.{Major as MajorField, Argument, Info}
use Rattle.model.specs.declared.instr.Return.{Return}
use Rattle.model.specs.declared.instr.Return.TheVariants.{WithStatus, Lower, Continue, Stop, Void}
use Rattle.model.specs.declared.set.Sort.{Sort}
use Rattle.model.specs.declared.set.Sort.TheVariants.{Dispatch, StartIo, Dpc, Propagate, Hold, Cancel}
use Rattle.model.specs.declared.status.Major.{Major}
use Rattle.model.specs.declared.status.Major.TheVariants.{Read, Write, Control}
use Rattle.model.specs.declared.status.Status.{Status}
use Rattle.model.specs.declared.status.Status.TheVariants.{Success, Pending, Busy, Unsuccessful, InvalidParameter, InvalidDeviceRequest, Cancelled}
use Rattle.asm_line.specs.Cursor as reads
use Rattle.asm_line.specs.Cursor.{Reading, capped, cell_of, constant_of, lock_of, one, ranged, register_of, so_far, then_read, three, turns_of, two}
use Rattle.asm_line.specs.declared.cursor.Cursor.{Cursor}
use Rattle.asm_line.specs.ListedWords.{cell, field_text, label, major_text, numbered, optional, paged_cell, queue, register, returned_words, routine, sort_text, spin_lock, status_text}
use Rattle.asm_line.proofs.Digits.{named, number_back, numeral_back, IsSmall}

-- the cursor with these tokens behind it
abbrev pub at : List (List ℕ) → Cursor → Cursor
at tokens c = record c { tokens = tokens }

-- one reading after another
pub one_read : {A X : Type 0} (f : A → X) (first : Cursor → Reading A) (c c1 : Cursor) (a : A)
    → first c ≡ so_far a c1 → one f first c ≡ so_far (f a) c1
one_read f first c c1 a h =
    ap (λ (r : Reading _). then_read r (λ a rest. so_far (f a) rest)) h

pub two_read : {A B X : Type 0} (f : A → B → X) (first : Cursor → Reading A)
    (second : Cursor → Reading B) (c c1 c2 : Cursor) (a : A) (b : B)
    → first c ≡ so_far a c1 → second c1 ≡ so_far b c2 → two f first second c ≡ so_far (f a b) c2
two_read f first second c c1 c2 a b h k =
    ap (λ (r : Reading _). then_read r (λ a rest. one (f a) second rest)) h
    ∙ one_read (f a) second c1 c2 b k

pub three_read : {A B C X : Type 0} (f : A → B → C → X) (first : Cursor → Reading A)
    (second : Cursor → Reading B) (third : Cursor → Reading C) (c c1 c2 c3 : Cursor)
    (a : A) (b : B) (d : C) → first c ≡ so_far a c1 → second c1 ≡ so_far b c2
    → third c2 ≡ so_far d c3 → three f first second third c ≡ so_far (f a b d) c3
three_read f first second third c c1 c2 c3 a b d h k l =
    ap (λ (r : Reading _). then_read r (λ a rest. two (f a) second third rest)) h
    ∙ two_read (f a) second third c1 c2 c3 b d k l

-- a name
pub name_back : (letter n : ℕ) (ts : List (List ℕ)) (c : Cursor) → is_name_start letter ≡ true
    → IsSmall n → reads.name (at (numbered letter n ∷ ts) c) ≡ so_far (numbered letter n) (at ts c)
name_back letter n ts c start small = rw (named letter n start small) refl

pub label_back : (n : ℕ) (ts : List (List ℕ)) (c : Cursor) → IsSmall n
    → reads.label (at (label n ∷ ts) c)
    ≡ so_far 0 (at ts (record c { used = record c.used { label = Some (label n) } }))
label_back n ts c small = rw (named 97 n refl small) refl

pub queue_back : (n : ℕ) (ts : List (List ℕ)) (c : Cursor) → IsSmall n
    → reads.queue (at (queue n ∷ ts) c)
    ≡ so_far 0 (at ts (record c { used = record c.used { queue = Some (queue n) } }))
queue_back n ts c small = rw (named 113 n refl small) refl

-- a name at the end of a line, if there is one
pub optional_back : (letter : ℕ) (n : Option ℕ) (c : Cursor) → is_name_start letter ≡ true
    → IfSome n IsSmall → reads.optional_name (at (optional (numbered letter) n) c)
    ≡ so_far (option_map (numbered letter) n) (at [] c)
optional_back letter None c start small = refl
optional_back letter (Some n) c start small = rw (named letter n start small) refl

pub called_back : (n : Option ℕ) (c : Cursor) → IfSome n IsSmall
    → reads.called (at (optional routine n) c)
    ≡ so_far None (at [] (record c { used = record c.used { routine = option_map routine n } }))
called_back None c small = refl
called_back (Some n) c small = rw (named 102 n refl small) refl

-- numbers
pub decimal_back : (n : ℕ) (ts : List (List ℕ)) (c : Cursor) → IsSmall n
    → reads.number (at (decimal n ∷ ts) c) ≡ so_far n (at ts c)
decimal_back n ts c small =
    ap (λ m. then_read (so_far (decimal n) (at ts c))
    (λ t rest. option_and_then (λ a. so_far a rest) (capped m))) (number_back n small)

in_range : (f : ℕ → Option ℕ) (stand_in n : ℕ) (c : Cursor) → f n ≡ Some n
    → ranged stand_in (f n) c ≡ so_far n c
in_range f stand_in n c h = ap (λ (o : Option ℕ). ranged stand_in o c) h

ranged_back : (letter : ℕ) (f : ℕ → Option ℕ) (stand_in n : ℕ) (ts : List (List ℕ)) (c : Cursor)
    → nat_eq letter letter ≡ true → IsSmall n → f n ≡ Some n
    → then_read (reads.numbered letter (at (numbered letter n ∷ ts) c))
    (λ n rest. ranged stand_in (f n) rest) ≡ so_far n (at ts c)
ranged_back letter f stand_in n ts c same small fits =
    rw same (ap (λ m. then_read (option_and_then (λ a. so_far a (at ts c)) (capped m))
    (λ n rest. ranged stand_in (f n) rest)) (numeral_back n small)
    ∙ in_range f stand_in n (at ts c) fits)

-- a letter and a number below a count
below_back : (letter count n : ℕ) (ts : List (List ℕ)) (c : Cursor) → nat_eq letter letter ≡ true
    → count ≤ 1024 → n < count → then_read (reads.numbered letter (at (numbered letter n ∷ ts) c))
    (λ n rest. ranged 0 (if nat_lt n count then Some n else None) rest) ≡ so_far n (at ts c)
below_back letter count n ts c same few fits =
    let test : nat_lt n count ≡ true = grind (arith, nat_tests) in
    ranged_back letter (λ n. if nat_lt n count then Some n else None) 0 n ts c same
    (omega (arith, few, fits)) (rw test refl)

pub register_back : (r : ℕ) (ts : List (List ℕ)) (c : Cursor) → IsRegister r
    → reads.register (at (register r ∷ ts) c) ≡ so_far r (at ts c)
register_back r ts c fits = below_back 114 16 r ts c refl (omega arith) fits

pub spin_lock_back : (l : ℕ) (ts : List (List ℕ)) (c : Cursor) → IsSpinLock l
    → reads.spin_lock (at (spin_lock l ∷ ts) c) ≡ so_far l (at ts c)
spin_lock_back l ts c fits = below_back 108 8 l ts c refl (omega arith) fits

pub cell_back : (n : ℕ) (ts : List (List ℕ)) (c : Cursor) → IsCell n
    → reads.cell (at (cell n ∷ ts) c) ≡ so_far n (at ts c)
cell_back n ts c fits = below_back 99 16 n ts c refl (omega arith) fits

pub paged_cell_back : (n : ℕ) (ts : List (List ℕ)) (c : Cursor) → IsCell n
    → reads.paged_cell (at (paged_cell n ∷ ts) c) ≡ so_far n (at ts c)
paged_cell_back n ts c fits = below_back 112 16 n ts c refl (omega arith) fits

pub constant_back : (n : ℕ) (ts : List (List ℕ)) (c : Cursor) → n < 2 ^ 32
    → reads.constant (at (decimal n ∷ ts) c) ≡ so_far n (at ts c)
constant_back n ts c fits =
    let test : nat_lt n (2 ^ 32) ≡ true = grind (arith, nat_tests) in
    ap (λ r. then_read r (λ n rest. ranged 0 (constant_of n) rest))
    (decimal_back n ts c (omega (arith, fits)))
    ∙ in_range constant_of 0 n (at ts c) (rw test refl)

pub turns_back : (n : ℕ) (ts : List (List ℕ)) (c : Cursor) → 1 ≤ n → n ≤ 1000
    → reads.turns (at (decimal n ∷ ts) c) ≡ so_far n (at ts c)
turns_back n ts c some few =
    let low : nat_le 1 n ≡ true = grind (arith, nat_tests) in
    let high : nat_le n 1000 ≡ true = grind (arith, nat_tests) in
    ap (λ r. then_read r (λ n rest. ranged 1 (turns_of n) rest))
    (decimal_back n ts c (omega (arith, few)))
    ∙ in_range turns_of 1 n (at ts c) (rw (low, high) refl)

-- words
pub field_back : (f : Field) (ts : List (List ℕ)) (c : Cursor)
    → reads.field (at (field_text f ∷ ts) c) ≡ so_far f (at ts c)
field_back MajorField ts c = refl
field_back Argument ts c = refl
field_back Info ts c = refl

pub major_back : (m : Major) (ts : List (List ℕ)) (c : Cursor)
    → reads.major (at (major_text m ∷ ts) c) ≡ so_far m (at ts c)
major_back Read ts c = refl
major_back Write ts c = refl
major_back Control ts c = refl

pub sort_back : (s : Sort) (ts : List (List ℕ)) (c : Cursor)
    → reads.sort (at (sort_text s ∷ ts) c) ≡ so_far s (at ts c)
sort_back Dispatch ts c = refl
sort_back StartIo ts c = refl
sort_back Dpc ts c = refl
sort_back Propagate ts c = refl
sort_back Hold ts c = refl
sort_back Cancel ts c = refl

pub status_back : (s : Status) (ts : List (List ℕ)) (c : Cursor)
    → reads.status (at (status_text s ∷ ts) c) ≡ so_far s (at ts c)
status_back Success ts c = refl
status_back Pending ts c = refl
status_back Busy ts c = refl
status_back Unsuccessful ts c = refl
status_back InvalidParameter ts c = refl
status_back InvalidDeviceRequest ts c = refl
status_back Cancelled ts c = refl

pub returned_back : (form : Return) (c : Cursor) → FormFits form
    → reads.returned (at (returned_words form) c) ≡ so_far form (at [] c)
returned_back (WithStatus Success) c fits = refl
returned_back (WithStatus Pending) c fits = refl
returned_back (WithStatus Busy) c fits = refl
returned_back (WithStatus Unsuccessful) c fits = refl
returned_back (WithStatus InvalidParameter) c fits = refl
returned_back (WithStatus InvalidDeviceRequest) c fits = refl
returned_back (WithStatus Cancelled) c fits = refl
returned_back (Lower r) c fits =
    one_read (λ r. Lower r) reads.register (at (register r ∷ []) c) (at [] c) r
    (register_back r [] c fits)
returned_back Continue c fits = refl
returned_back Stop c fits = refl
returned_back Void c fits = refl
