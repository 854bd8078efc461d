-- A number that was read is the number that was spelled.
use Rattle.std.proofs.Common.{◌≡◌, ℕ, ◌<◌, ◌≤◌, Bool, true, false, cond, eqb, ltb, leb, Option, Some, None, Result, Ok, Err, refl, subst, arith}
use Rattle.std.specs.Prelude.{IfSome}
use Rattle.std.proofs.lemmas.Bool.{eqb-true, le-leb, lt-ltb, ne_eqb}
use Rattle.image.specs.declared.edition.Edition.{Edition}
use Rattle.image.specs.declared.edition.Edition.TheVariants.{Former, Current}
use Rattle.image.specs.declared.fault.ImageFault.{ImageFault}
use Rattle.image.specs.declared.fault.ImageFault.TheVariants.{BadOpcode, OverLimit, Magic}
use Rattle.image.specs.Reading.{◌>>=◌, one, at_most, below, edition_in, field_in, letter, none_or_below, ranged, sort_in, stack_in, status_in, turns_in, unused, waiting_in}
use Rattle.image.specs.Spelling.{edition_digit, field_number, or_none, sort_number, status_number, waiting_byte}
use Rattle.model.specs.declared.instr.Field.{Field}
use Rattle.model.specs.declared.instr.Field.TheVariants.{Major, Argument, Info}
use Rattle.model.specs.declared.limits.TheConstants.{MAX_STACK, MAX_TURNS}
use Rattle.model.specs.declared.set.Sort.{Sort}
use Rattle.model.specs.declared.set.Sort.TheVariants.{Dispatch, StartIo, Dpc, Cancel, Propagate, Hold}
use Rattle.model.specs.declared.status.Status.{Status}
use Rattle.model.specs.declared.status.Status.TheVariants.{Success, Pending, Busy, Unsuccessful, InvalidParameter, InvalidDeviceRequest, Cancelled}

-- what a reader makes of a number has that number
abbrev pub IsInverse : {A : Type 0} → (ℕ → Result A ImageFault) → (A → ℕ) → Type 0
IsInverse {A} reads number = (n : ℕ) (a : A) → reads n ≡ Ok a → n ≡ number a

-- the value of a step that did not fail
pub bind_ok : {A B : Type 0} (r : Result A ImageFault) (f : A → Result B ImageFault) (y : B)
    → (r >>= f) ≡ Ok y → (x : A) × (r ≡ Ok x) × (f x ≡ Ok y)
bind_ok (Ok x) f y e = (x, refl, e)
bind_ok (Err fault) f y e = absurd cc

abbrev done : {A : Type 0} → A → Result A ImageFault
done x = Ok x

pub ok_is : {A : Type 0} (x y : A) → done x ≡ done y → x ≡ y
ok_is x y e = cc

pub one_ok : {A X : Type 0} (f : A → X) (r : Result A ImageFault) (x : X) → one f r ≡ Ok x
    → (a : A) × (r ≡ Ok a) × (f a ≡ x)
one_ok f (Ok a) x e = (a, refl, ok_is (f a) x e)
one_ok f (Err fault) x e = absurd cc

-- a row of a table by numbers
pub row_is : {A P : Type 0} (n k : ℕ) (x y : Result A ImageFault) (a : A)
    → cond (eqb n k) x y ≡ Ok a → (n ≡ k → x ≡ Ok a → P) → (y ≡ Ok a → P) → P
row_is n k x y a e this other = decided (eqb n k) x y a e (λ t. this (eqb-true n k t)) other
  where
    decided : {A P : Type 0} (b : Bool) (x y : Result A ImageFault) (a : A) → cond b x y ≡ Ok a
        → (b ≡ true → x ≡ Ok a → P) → (y ≡ Ok a → P) → P
    decided true x y a e this other = this refl e
    decided false x y a e this other = other e

-- a test that was passed
pub passed : {A : Type 0} (b : Bool) (fault : ImageFault) (x y : A)
    → cond b (Ok x) (Err fault) ≡ Ok y
    → (b ≡ true) × (x ≡ y)
passed true fault x y e = (refl, ok_is x y e)
passed false fault x y e = absurd cc

pub ranged_is : (fits : Bool) (n a : ℕ) → ranged fits n ≡ Ok a → n ≡ a
ranged_is fits n a e = (passed fits OverLimit n a e).1

pub below_inverse : (count : ℕ) → IsInverse (below count) (λ n. n)
below_inverse count n a e = ranged_is (ltb n count) n a e

pub at_most_inverse : (most : ℕ) → IsInverse (at_most most) (λ n. n)
at_most_inverse most n a e = ranged_is (leb n most) n a e

pub turns_inverse : IsInverse turns_in (λ n. n)
turns_inverse n a e = ranged_is _ n a e

pub stack_inverse : IsInverse stack_in (λ n. n)
stack_inverse n a e = ranged_is _ n a e

pub unused_inverse : IsInverse unused (λ _. 0)
unused_inverse n a e = eqb-true n 0 (passed (eqb n 0) BadOpcode 0 a e).0

pub letter_inverse : (wanted : ℕ) → IsInverse (letter wanted) (λ _. wanted)
letter_inverse wanted n a e = eqb-true n wanted (passed (eqb n wanted) Magic n a e).0

pub none_or_below_inverse : (count : ℕ) → IsInverse (none_or_below count) or_none
none_or_below_inverse count n a e =
    row_is n 0xFF _ _ a e
    (λ is said. subst (λ x. n ≡ or_none x) (ok_is None a said) is)
    (λ said.
    let some = one_ok (λ m. Some m) (below count n) a said in
    subst (λ x. n ≡ or_none x) some.2 (below_inverse count n some.0 some.1))

pub waiting_inverse : (edition : Edition) (routines : ℕ)
    → IsInverse (waiting_in edition routines) (waiting_byte edition)
waiting_inverse Former routines n a e = eqb-true n 0 (passed (eqb n 0) BadOpcode None a e).0
waiting_inverse Current routines n a e = none_or_below_inverse routines n a e

pub edition_inverse : IsInverse edition_in edition_digit
edition_inverse n a e =
    row_is n 0x31 _ _ a e
    (λ is said. subst (λ x. n ≡ edition_digit x) (ok_is Former a said) is)
    (λ e1.
    row_is n 0x32 _ _ a e1
    (λ is said. subst (λ x. n ≡ edition_digit x) (ok_is Current a said) is)
    (λ e2.
    absurd cc))

pub field_inverse : IsInverse field_in field_number
field_inverse n a e =
    row_is n 0 _ _ a e
    (λ is said. subst (λ x. n ≡ field_number x) (ok_is Major a said) is)
    (λ e1.
    row_is n 1 _ _ a e1
    (λ is said. subst (λ x. n ≡ field_number x) (ok_is Argument a said) is)
    (λ e2.
    row_is n 2 _ _ a e2
    (λ is said. subst (λ x. n ≡ field_number x) (ok_is Info a said) is)
    (λ e3.
    absurd cc)))

pub sort_inverse : IsInverse sort_in sort_number
sort_inverse n a e =
    row_is n 0 _ _ a e
    (λ is said. subst (λ x. n ≡ sort_number x) (ok_is Dispatch a said) is)
    (λ e1.
    row_is n 1 _ _ a e1
    (λ is said. subst (λ x. n ≡ sort_number x) (ok_is StartIo a said) is)
    (λ e2.
    row_is n 2 _ _ a e2
    (λ is said. subst (λ x. n ≡ sort_number x) (ok_is Dpc a said) is)
    (λ e3.
    row_is n 3 _ _ a e3
    (λ is said. subst (λ x. n ≡ sort_number x) (ok_is Cancel a said) is)
    (λ e4.
    row_is n 4 _ _ a e4
    (λ is said. subst (λ x. n ≡ sort_number x) (ok_is Propagate a said) is)
    (λ e5.
    row_is n 5 _ _ a e5
    (λ is said. subst (λ x. n ≡ sort_number x) (ok_is Hold a said) is)
    (λ e6.
    absurd cc))))))

pub status_inverse : IsInverse status_in status_number
status_inverse n a e =
    row_is n 0 _ _ a e
    (λ is said. subst (λ x. n ≡ status_number x) (ok_is Success a said) is)
    (λ e1.
    row_is n 1 _ _ a e1
    (λ is said. subst (λ x. n ≡ status_number x) (ok_is Pending a said) is)
    (λ e2.
    row_is n 2 _ _ a e2
    (λ is said. subst (λ x. n ≡ status_number x) (ok_is Busy a said) is)
    (λ e3.
    row_is n 3 _ _ a e3
    (λ is said. subst (λ x. n ≡ status_number x) (ok_is Unsuccessful a said) is)
    (λ e4.
    row_is n 4 _ _ a e4
    (λ is said. subst (λ x. n ≡ status_number x) (ok_is InvalidParameter a said) is)
    (λ e5.
    row_is n 5 _ _ a e5
    (λ is said. subst (λ x. n ≡ status_number x) (ok_is InvalidDeviceRequest a said) is)
    (λ e6.
    row_is n 6 _ _ a e6
    (λ is said. subst (λ x. n ≡ status_number x) (ok_is Cancelled a said) is)
    (λ e7.
    absurd cc)))))))

-- a number that was tested to be zero
pub zero_test : (n : ℕ) → eqb n 0 ≡ true → n ≡ 0
zero_test n e = eqb-true n 0 e

-- ---- a number that was spelled is read again

pub below_again : (count n : ℕ) → n < count → below count n ≡ Ok n
below_again count n lt = rw (lt-ltb n count lt) refl

pub at_most_again : (most n : ℕ) → n ≤ most → at_most most n ≡ Ok n
at_most_again most n le = rw (le-leb n most le) refl

pub turns_again : (n : ℕ) → 1 ≤ n → n ≤ MAX_TURNS → turns_in n ≡ Ok n
turns_again n low high = rw (le-leb 1 n low, le-leb n MAX_TURNS high) refl

pub stack_again : (n : ℕ) → 1 ≤ n → n ≤ MAX_STACK → stack_in n ≡ Ok n
stack_again n low high = rw (le-leb 1 n low, le-leb n MAX_STACK high) refl

pub none_or_below_again : (count : ℕ) → count ≤ 255 → (o : Option ℕ) → IfSome o (λ n. n < count)
    → none_or_below count (or_none o) ≡ Ok o
none_or_below_again count few None h = refl
none_or_below_again count few (Some n) h =
    rw (ne_eqb n 0xFF (λ e. omega arith), below_again count n h) refl

pub edition_again : (edition : Edition) → edition_in (edition_digit edition) ≡ Ok edition
edition_again Former = refl
edition_again Current = refl

pub field_again : (field : Field) → field_in (field_number field) ≡ Ok field
field_again Major = refl
field_again Argument = refl
field_again Info = refl

pub sort_again : (sort : Sort) → sort_in (sort_number sort) ≡ Ok sort
sort_again Dispatch = refl
sort_again StartIo = refl
sort_again Dpc = refl
sort_again Cancel = refl
sort_again Propagate = refl
sort_again Hold = refl

pub status_again : (status : Status) → status_in (status_number status) ≡ Ok status
status_again Success = refl
status_again Pending = refl
status_again Busy = refl
status_again Unsuccessful = refl
status_again InvalidParameter = refl
status_again InvalidDeviceRequest = refl
status_again Cancelled = refl
