-- What is read at the front of bytes is spelled there.
use Rattle.std.proofs.Common.{◌≡◌, ℕ, zero, suc, ◌+◌, ◌<◌, ◌≤◌, Bool, true, false, cond, eqb, ltb, List, [], ◌∷◌, ◌++◌, length, get_or, take, drop, Option, Result, Ok, Err, refl, sym, ap, subst, ◌∙◌, append_assoc, arith, inl, inr}
use Rattle.std.specs.Int.{w16, w32, from_le_bytes, to_le_bytes}
use Rattle.std.specs.List.{flat_map}
use Rattle.std.proofs.lemmas.Bool.{cases_lt, eqb-true, ltb-false}
use Rattle.std.proofs.lemmas.List.{append-nil, nil_from_length, take-append-drop, length-take, get_or-drop, get_or-take, get_or_past}
use Rattle.std.proofs.lemmas.List.Concat.{flat_map-cons}
use Rattle.std.proofs.lemmas.Nat.{le_bytes_2, le_bytes_4}
use Rattle.image.specs.declared.edition.Edition.{Edition}
use Rattle.image.specs.declared.edition.Edition.TheVariants.{Former, Current}
use Rattle.image.specs.declared.fault.ImageFault.{ImageFault}
use Rattle.image.specs.declared.fault.ImageFault.TheVariants.{Trailing, Truncated}
use Rattle.image.specs.declared.reading.Scope.{Scope}
use Rattle.image.specs.declared.word.Word.{Word}
use Rattle.image.specs.Reading.{◌>>=◌, all_at, at_most, byte_at, count_at, scoped, device_at, driver_at, field_at, instruction_at, instruction_in, letter, letters_at, lock_in, none_or_below, queue_at, routine_at, set_at, set_in, word_at, word_in, Read}
use Rattle.image.specs.Spelling.{device_bytes, driver_bytes, edition_digit, instruction_bytes, or_none, queue_bytes, routine_bytes, sort_number, spelling, waiting_byte, word_bytes, HasSpelling, Spells, SpellsIn}
use Rattle.image.proofs.Numbers.{IsInverse, at_most_inverse, below_inverse, bind_ok, edition_inverse, letter_inverse, none_or_below_inverse, ok_is, one_ok, passed, sort_inverse, stack_inverse, unused_inverse, waiting_inverse}
use Rattle.image.proofs.Fields.{driver_lists, set_lists}
use Rattle.image.proofs.OfEdition.{set_lists_had}
use Rattle.image.proofs.Words.{instruction_takes}
use Rattle.model.specs.declared.instr.Instr.{Instr}
use Rattle.model.specs.declared.limits.TheConstants.{MAX_DEVICES, MAX_DRIVERS, MAX_INSTRUCTIONS, MAX_QUEUES, MAX_ROUTINES, SPIN_LOCKS}
use Rattle.model.specs.declared.set.Driver.{Driver}
use Rattle.model.specs.declared.set.Sort.{Sort}
use Rattle.model.specs.declared.set.Routine.{Routine}
use Rattle.model.specs.Set.{Set}

abbrev pub IsBytes : List ℕ → Type 0
IsBytes bytes = (i : ℕ) → get_or bytes i 0 < 256

IsBytes-drop : (n : ℕ) (bytes : List ℕ) → IsBytes bytes → IsBytes (drop n bytes)
IsBytes-drop n bytes h i = rw get_or-drop (h (n + i))

IsBytes-take : (n : ℕ) (bytes : List ℕ) → IsBytes bytes → IsBytes (take n bytes)
IsBytes-take n bytes h i =
    elim (cases_lt i n) [
      | inl lt ↦ rw (get_or-take n bytes i 0 lt) (h i)
      | inr le ↦ rw (get_or_past (take n bytes) i 0
          (omega (arith, length-take n bytes))) (omega arith)
    ]

IsBytes-rest : (b : ℕ) (bytes : List ℕ) → IsBytes (b ∷ bytes) → IsBytes bytes
IsBytes-rest b bytes h i = h (suc i)

-- what a reader took from the front
pub record Takes (bytes text rest : List ℕ) : Type 0 where
  pub parts : bytes ≡ text ++ rest
  pub behind : IsBytes rest

-- one thing, and then another
then_takes : (a x b y c : List ℕ) → Takes a x b → Takes b y c → Takes a (x ++ y) c
then_takes a x b y c p q =
    record {
      parts = p.parts ∙ ap (λ t. x ++ t) q.parts ∙ sym (append_assoc x y c);
      behind = q.behind;
    }

-- a field of one byte
byte_takes : {A : Type 0} {reads : ℕ → Result A ImageFault} {by : A → ℕ}
    (inverse : IsInverse reads by)
    (bytes : List ℕ) (x : A × List ℕ) → IsBytes bytes → byte_at reads bytes ≡ Ok x
    → Takes bytes (by x.0 ∷ []) x.1
byte_takes inverse [] x fits e = absurd cc
byte_takes {A} {reads} {by} inverse (b ∷ bytes) x fits e =
    let a = one_ok (λ a. (a, bytes)) (reads b) x e in
    subst (λ y. Takes (b ∷ bytes) (by y.0 ∷ []) y.1) a.2
    (record {
      parts = ap (λ n. n ∷ bytes) (inverse b a.0 a.1);
      behind = IsBytes-rest b bytes fits;
    })

-- a field of more
record TakesField (size : ℕ) (bytes front rest : List ℕ) : Type 0 where
  parts : bytes ≡ front ++ rest
  size_is : length front ≡ size
  fits : IsBytes front
  behind : IsBytes rest

field_takes : (size : ℕ) (bytes : List ℕ) (x : List ℕ × List ℕ) → IsBytes bytes
    → field_at size bytes ≡ Ok x → TakesField size bytes x.0 x.1
field_takes size bytes x fits e = decided (ltb (length bytes) size) refl e
  where
    decided : (b : Bool) → ltb (length bytes) size ≡ b
        → cond b (Err Truncated) (Ok (take size bytes, drop size bytes)) ≡ Ok x
        → TakesField size bytes x.0 x.1
    decided true long e = absurd cc
    decided false long e =
        let enough : size ≤ length bytes = ltb-false _ _ long in
        subst (λ y. TakesField size bytes y.0 y.1) (ok_is (take size bytes, drop size bytes) x e)
        (record {
          parts = sym (take-append-drop size bytes);
          size_is = omega (arith, length-take size bytes);
          fits = IsBytes-take size bytes fits;
          behind = IsBytes-drop size bytes fits;
        })

count_takes : (bytes : List ℕ) (x : ℕ × List ℕ) → IsBytes bytes → count_at bytes ≡ Ok x
    → Takes bytes (to_le_bytes w16 x.0) x.1
count_takes bytes x fits e =
    let a = bind_ok (field_at 2 bytes) _ x e in
    let field = field_takes 2 bytes a.0 fits a.1 in
    let n = one_ok (λ n. (n, a.0.1)) (at_most MAX_INSTRUCTIONS (from_le_bytes w16 a.0.0)) x a.2 in
    let same = at_most_inverse MAX_INSTRUCTIONS (from_le_bytes w16 a.0.0) n.0 n.1 in
    let back = le_bytes_2 a.0.0 n.0 field.size_is field.fits (sym same) in
    subst (λ y. Takes bytes (to_le_bytes w16 y.0) y.1) n.2
    (record { parts = field.parts ∙ ap (λ t. t ++ a.0.1) (sym back); behind = field.behind })

-- a word is spelled by its bytes
word_again : (field : List ℕ) → length field ≡ 8 → IsBytes field
    → word_bytes (word_in field) ≡ field
word_again [] size fits = absurd cc
word_again (a ∷ []) size fits = absurd cc
word_again (a ∷ b ∷ []) size fits = absurd cc
word_again (a ∷ b ∷ c ∷ []) size fits = absurd cc
word_again (a ∷ b ∷ c ∷ d ∷ last) size fits =
    let back = le_bytes_4 last (from_le_bytes w32 last) (omega arith)
    (λ i. fits (suc (suc (suc (suc i))))) refl in
    ap (λ t. a ∷ b ∷ c ∷ d ∷ t) back

word_takes : (bytes : List ℕ) (x : Word × List ℕ) → IsBytes bytes → word_at bytes ≡ Ok x
    → Takes bytes (word_bytes x.0) x.1
word_takes bytes x fits e =
    let a = one_ok (λ field. (word_in field.0, field.1)) (field_at 8 bytes) x e in
    let field = field_takes 8 bytes a.0 fits a.1 in
    subst (λ y. Takes bytes (word_bytes y.0) y.1) a.2
    (record {
      parts = field.parts ∙ ap (λ t. t ++ a.0.1) (sym (word_again a.0.0 field.size_is field.fits));
      behind = field.behind;
    })

read_takes : (scope : Scope) (bytes : List ℕ) (x : Instr × List ℕ) → IsBytes bytes
    → instruction_at scope bytes ≡ Ok x → Takes bytes (instruction_bytes x.0) x.1
read_takes scope bytes x fits e =
    let a = bind_ok (word_at bytes) _ x e in
    let i = one_ok (λ i. (i, a.0.1)) (instruction_in scope a.0.0) x a.2 in
    let taken = word_takes bytes a.0 fits a.1 in
    subst (λ y. Takes bytes (instruction_bytes y.0) y.1) i.2
    (subst (λ w. Takes bytes (word_bytes w) a.0.1)
    (sym (instruction_takes scope a.0.0 i.0 i.1)) taken)

-- so many things of one kind
abbrev EachTakes : {A : Type 0} → (ℕ → List ℕ → Read A) → (A → List ℕ) → Type 0
EachTakes {A} item by = (number : ℕ) (bytes : List ℕ) (x : A × List ℕ) → IsBytes bytes
    → item number bytes ≡ Ok x → Takes bytes (by x.0) x.1

all_take : {A : Type 0} (item : ℕ → List ℕ → Read A) (by : A → List ℕ) → EachTakes item by
    → (number count : ℕ) (bytes : List ℕ) (x : List A × List ℕ) → IsBytes bytes
    → all_at item number count bytes ≡ Ok x
    → Takes bytes (flat_map by x.0) x.1 × (length x.0 ≡ count)
unfolding all_at
all_take {A} item by each number zero bytes x fits e =
    subst (λ (y : List A × List ℕ). Takes bytes (flat_map by y.0) y.1 × (length y.0 ≡ 0))
    (ok_is ([], bytes) x e)
    (record { parts = refl; behind = fits }, refl)
all_take {A} item by each number (suc count) bytes x fits e =
    let a = bind_ok (item number bytes) _ x e in
    let b = bind_ok (all_at item (suc number) count a.0.1) _ x a.2 in
    let first = each number bytes a.0 fits a.1 in
    let others = all_take item by each (suc number) count a.0.1 b.0 first.behind b.1 in
    let both = then_takes bytes (by a.0.0) a.0.1 (flat_map by b.0.0) b.0.1 first others.0 in
    let made : List A × List ℕ = (a.0.0 ∷ b.0.0, b.0.1) in
    subst (λ (y : List A × List ℕ). Takes bytes (flat_map by y.0) y.1 × (length y.0 ≡ suc count))
    (ok_is made x b.2)
    (rw flat_map-cons both, ap suc others.1)

queue_takes : (routines : ℕ) → EachTakes (λ _. queue_at routines) queue_bytes
unfolding queue_at
queue_takes routines number bytes x fits e =
    let a = bind_ok (byte_at lock_in bytes) _ x e in
    let b = bind_ok (byte_at (none_or_below routines) a.0.1) _ x a.2 in
    let first = byte_takes (below_inverse SPIN_LOCKS) bytes a.0 fits a.1 in
    let second = byte_takes (none_or_below_inverse routines) a.0.1 b.0 first.behind b.1 in
    subst (λ y. Takes bytes (queue_bytes y.0) y.1) (ok_is _ x b.2)
    (then_takes bytes (a.0.0 ∷ []) a.0.1 (or_none b.0.0 ∷ []) b.0.1 first second)

-- one field, and then what follows from it
byte_then : {A X P : Type 0} {reads : ℕ → Result A ImageFault} {by : A → ℕ}
    (inverse : IsInverse reads by) (bytes : List ℕ) (f : A × List ℕ → Result X ImageFault) (x : X)
    → IsBytes bytes → (byte_at reads bytes >>= f) ≡ Ok x
    → ((a : A) (rest : List ℕ) → bytes ≡ by a ∷ rest → IsBytes rest → f (a, rest) ≡ Ok x → P) → P
byte_then {reads = reads} inverse bytes f x fits e next =
    let a = bind_ok (byte_at reads bytes) f x e in
    let taken = byte_takes inverse bytes a.0 fits a.1 in
    next a.0.0 a.0.1 taken.parts taken.behind a.2

-- so many things, and then what follows from them
all_then : {A X P : Type 0} (item : ℕ → List ℕ → Read A) (by : A → List ℕ)
    (each : EachTakes item by) (number count : ℕ) (bytes : List ℕ)
    (f : List A × List ℕ → Result X ImageFault) (x : X)
    → IsBytes bytes → (all_at item number count bytes >>= f) ≡ Ok x
    → ((all : List A) (rest : List ℕ) → bytes ≡ flat_map by all ++ rest → length all ≡ count
    → IsBytes rest → f (all, rest) ≡ Ok x → P) → P
all_then item by each number count bytes f x fits e next =
    let a = bind_ok (all_at item number count bytes) f x e in
    let taken = all_take item by each number count bytes a.0 fits a.1 in
    next a.0.0 a.0.1 taken.0.parts taken.1 taken.0.behind a.2

-- the code of a routine behind its sort and a zero
routine_rest : (edition : Edition) (routines queues : ℕ) (sort : Sort) (bytes behind : List ℕ)
    (x : Routine × List ℕ)
    → bytes ≡ sort_number sort ∷ 0 ∷ behind → IsBytes behind
    → (count_at behind >>= λ count.
    all_at (λ _. instruction_at (scoped edition routines queues count.0)) 0 count.0 count.1
    >>= λ code.
    Ok (record { sort = sort; code = code.0 }, code.1)) ≡ Ok x
    → Takes bytes (routine_bytes x.0) x.1
routine_rest edition routines queues sort bytes behind x front fits e =
    let c = bind_ok (count_at behind) _ x e in
    let scope = scoped edition routines queues c.0.0 in
    let taken = count_takes behind c.0 fits c.1 in
    all_then (λ _. instruction_at scope) instruction_bytes (λ n. read_takes scope) 0 c.0.0 c.0.1 _
    x taken.behind c.2
    (λ code rest parts long last e_last.
    let back : behind ≡ to_le_bytes w16 c.0.0 ++ (flat_map instruction_bytes code ++ rest) =
    taken.parts ∙ ap (λ t. to_le_bytes w16 c.0.0 ++ t) parts in
    subst (λ y. Takes bytes (routine_bytes y.0) y.1) (ok_is _ x e_last)
    (record {
      parts = rw long (front ∙ ap (λ t. sort_number sort ∷ 0 ∷ t)
          (back ∙ sym (append_assoc (to_le_bytes w16 c.0.0)
          (flat_map instruction_bytes code) rest)));
      behind = last;
    }))

routine_takes : (edition : Edition) (routines queues : ℕ)
    → EachTakes (λ _. routine_at edition routines queues) routine_bytes
unfolding routine_at
routine_takes edition routines queues number bytes x fits e =
    byte_then sort_inverse bytes _ x fits e (λ sort r0 p0 f0 e0.
    byte_then unused_inverse r0 _ x f0 e0 (λ blank r1 p1 f1 e1.
    let front : bytes ≡ sort_number sort ∷ 0 ∷ r1 = cc in
    routine_rest edition routines queues sort bytes r1 x front f1 e1))

device_takes : (drivers : ℕ) → EachTakes (device_at drivers) device_bytes
unfolding device_at
device_takes drivers number bytes x fits e =
    byte_then (below_inverse drivers) bytes _ x fits e (λ driver r0 p0 f0 e0.
    byte_then stack_inverse r0 _ x f0 e0 (λ stack r1 p1 f1 e1.
    byte_then (none_or_below_inverse number) r1 _ x f1 e1 (λ lower r2 p2 f2 e2.
    byte_then unused_inverse r2 _ x f2 e2 (λ blank r3 p3 f3 e3.
    let whole : bytes ≡ driver ∷ stack ∷ or_none lower ∷ 0 ∷ r3 = cc in
    subst (λ y. Takes bytes (device_bytes y.0) y.1) (ok_is _ x e3)
    (record { parts = whole; behind = f3 })))))

-- two lists of things behind a head
lists_are : (bytes head first second middle rest : List ℕ) → bytes ≡ head ++ middle
    → middle ≡ first ++ (second ++ rest) → bytes ≡ (head ++ (first ++ second)) ++ rest
lists_are bytes head first second middle rest front back =
    front ∙ ap (λ t. head ++ t) (back ∙ sym (append_assoc first second rest))
    ∙ sym (append_assoc head (first ++ second) rest)

-- the lists of a driver behind its first eight fields
driver_rest : (edition : Edition) (routines queues : ℕ)
    (read write control startio dpc waiting : Option ℕ) (bytes behind : List ℕ)
    (x : Driver × List ℕ)
    → bytes ≡ (routines ∷ queues ∷ or_none read ∷ or_none write ∷ or_none control
    ∷ or_none startio ∷ or_none dpc ∷ waiting_byte edition waiting ∷ []) ++ behind
    → IsBytes behind
    → driver_lists edition routines queues read write control startio dpc waiting behind ≡ Ok x
    → Takes bytes (driver_bytes edition x.0) x.1
driver_rest edition routines queues read write control startio dpc waiting bytes behind x front fits
    e =
    all_then (λ _. queue_at routines) queue_bytes (queue_takes routines) 0 queues behind _ x fits e
    (λ listed r0 p0 l0 f0 e0.
    all_then (λ _. routine_at edition routines queues) routine_bytes
    (routine_takes edition routines queues) 0 routines r0 _ x f0 e0
    (λ coded r1 p1 l1 f1 e1.
    let back : behind ≡ flat_map queue_bytes listed ++ (flat_map routine_bytes coded ++ r1) =
    p0 ∙ ap (λ t. flat_map queue_bytes listed ++ t) p1 in
    subst (λ y. Takes bytes (driver_bytes edition y.0) y.1) (ok_is _ x e1)
    (record {
      parts = rw (l0, l1) (lists_are bytes
          (routines ∷ queues ∷ or_none read ∷ or_none write ∷ or_none control ∷ or_none startio
          ∷ or_none dpc ∷ waiting_byte edition waiting ∷ [])
          (flat_map queue_bytes listed) (flat_map routine_bytes coded) behind r1 front back);
      behind = f1;
    })))

driver_takes : (edition : Edition) → EachTakes (λ _. driver_at edition) (driver_bytes edition)
unfolding driver_at
driver_takes edition number bytes x fits e =
    byte_then (at_most_inverse MAX_ROUTINES) bytes _ x fits e (λ n r0 p0 f0 e0.
    byte_then (at_most_inverse MAX_QUEUES) r0 _ x f0 e0 (λ m r1 p1 f1 e1.
    byte_then (none_or_below_inverse n) r1 _ x f1 e1 (λ read r2 p2 f2 e2.
    byte_then (none_or_below_inverse n) r2 _ x f2 e2 (λ write r3 p3 f3 e3.
    byte_then (none_or_below_inverse n) r3 _ x f3 e3 (λ control r4 p4 f4 e4.
    byte_then (none_or_below_inverse n) r4 _ x f4 e4 (λ startio r5 p5 f5 e5.
    byte_then (none_or_below_inverse n) r5 _ x f5 e5 (λ dpc r6 p6 f6 e6.
    byte_then (waiting_inverse edition n) r6 _ x f6 e6 (λ waiting r7 p7 f7 e7.
    let front : bytes ≡ n ∷ m ∷ or_none read ∷ or_none write ∷ or_none control ∷ or_none startio
    ∷ or_none dpc ∷ waiting_byte edition waiting ∷ r7 = cc in
    driver_rest edition n m read write control startio dpc waiting bytes r7 x front f7 e7))))))))

letters_take : (bytes : List ℕ) (x : Edition × List ℕ) → IsBytes bytes → letters_at bytes ≡ Ok x
    → Takes bytes (0x44 ∷ 0x56 ∷ 0x42 ∷ edition_digit x.0 ∷ []) x.1
unfolding letters_at
letters_take bytes x fits e =
    let a0 = bind_ok (byte_at (letter 0x44) bytes) _ x e in
    let a1 = bind_ok (byte_at (letter 0x56) a0.0.1) _ x a0.2 in
    let a2 = bind_ok (byte_at (letter 0x42) a1.0.1) _ x a1.2 in
    let t0 = byte_takes (letter_inverse 0x44) bytes a0.0 fits a0.1 in
    let t1 = byte_takes (letter_inverse 0x56) a0.0.1 a1.0 t0.behind a1.1 in
    let t2 = byte_takes (letter_inverse 0x42) a1.0.1 a2.0 t1.behind a2.1 in
    let digit = edition_digit x.0 in
    let t3 = byte_takes edition_inverse a2.0.1 x t2.behind a2.2 in
    let u2 = then_takes a1.0.1 (0x42 ∷ []) a2.0.1 (digit ∷ []) x.1 t2 t3 in
    let u1 = then_takes a0.0.1 (0x56 ∷ []) a1.0.1 (0x42 ∷ digit ∷ []) x.1 t1 u2 in
    then_takes bytes (0x44 ∷ []) a0.0.1 (0x56 ∷ 0x42 ∷ digit ∷ []) x.1 t0 u1

-- the lists of a set behind its first eight fields
set_rest : (edition : Edition) (drivers devices : ℕ) (bytes behind : List ℕ) (x : Set × List ℕ)
    → bytes ≡ (0x44 ∷ 0x56 ∷ 0x42 ∷ edition_digit edition ∷ drivers ∷ devices ∷ 0 ∷ 0 ∷ [])
    ++ behind
    → IsBytes behind
    → set_lists edition drivers devices behind ≡ Ok x
    → Takes bytes (spelling edition x.0) x.1
set_rest edition drivers devices bytes behind x front fits e =
    all_then (λ _. driver_at edition) (driver_bytes edition) (driver_takes edition) 0 drivers behind
    _ x fits e
    (λ first r0 p0 l0 f0 e0.
    all_then (device_at drivers) device_bytes (device_takes drivers) 0 devices r0 _ x f0 e0
    (λ second r1 p1 l1 f1 e1.
    let back : behind ≡ flat_map (driver_bytes edition) first
    ++ (flat_map device_bytes second ++ r1) =
    p0 ∙ ap (λ t. flat_map (driver_bytes edition) first ++ t) p1 in
    subst (λ y. Takes bytes (spelling edition y.0) y.1) (ok_is _ x e1)
    (record {
      parts = rw (l0, l1) (lists_are bytes
          (0x44 ∷ 0x56 ∷ 0x42 ∷ edition_digit edition ∷ drivers ∷ devices ∷ 0 ∷ 0 ∷ [])
          (flat_map (driver_bytes edition) first) (flat_map device_bytes second) behind r1 front
          back);
      behind = f1;
    })))

set_takes : (bytes : List ℕ) (x : Set × List ℕ) → IsBytes bytes → set_at bytes ≡ Ok x
    → (edition : Edition) × HasSpelling edition x.0 × Takes bytes (spelling edition x.0) x.1
unfolding set_at
set_takes bytes x fits e =
    let a = bind_ok (letters_at bytes) _ x e in
    let letters = letters_take bytes a.0 fits a.1 in
    let edition = a.0.0 in
    byte_then (at_most_inverse MAX_DRIVERS) a.0.1 _ x letters.behind a.2 (λ n r0 p0 f0 e0.
    byte_then (at_most_inverse MAX_DEVICES) r0 _ x f0 e0 (λ m r1 p1 f1 e1.
    byte_then unused_inverse r1 _ x f1 e1 (λ blank r2 p2 f2 e2.
    byte_then unused_inverse r2 _ x f2 e2 (λ blank_too r3 p3 f3 e3.
    let front : a.0.1 ≡ n ∷ m ∷ 0 ∷ 0 ∷ r3 = cc in (
      edition,
      set_lists_had edition n m r3 x e3,
      set_rest edition n m bytes r3 x
          (letters.parts ∙ ap (λ t. (0x44 ∷ 0x56 ∷ 0x42 ∷ edition_digit edition ∷ []) ++ t) front)
          f3 e3,
    )))))

spells_in : (edition : Edition) (bytes : List ℕ) (set : Set) → SpellsIn edition bytes set
    → Spells bytes set
spells_in Former bytes set h = inl h
spells_in Current bytes set h = inr h

-- bytes whose fields name a set spell it
pub spelled : (bytes : List ℕ) (set : Set) → IsBytes bytes → set_in bytes ≡ Ok set
    → Spells bytes set
spelled bytes set fits e =
    let a = bind_ok (set_at bytes) _ set e in
    let none = passed (eqb (length a.0.1) 0) Trailing a.0.0 set a.2 in
    let empty : a.0.1 ≡ [] = nil_from_length a.0.1 (eqb-true _ _ none.0) in
    let taken = set_takes bytes a.0 fits a.1 in
    let text = spelling taken.0 a.0.0 in
    subst (Spells bytes) none.1
    (spells_in taken.0 bytes a.0.0
    (taken.1, taken.2.parts ∙ ap (λ rest. text ++ rest) empty ∙ append-nil text))
