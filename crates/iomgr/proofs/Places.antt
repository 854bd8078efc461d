-- Where a number stands in a list that rises, and how that list goes on.
use Rattle.std.proofs.Common.{◌≡◌, ◌≢◌, ◌≤◌, ◌+◌, ℕ, zero, suc, List, [], ◌∷◌, ◌++◌, Some, Bool, true, false, cond, nat_eq, length, ap, refl, arith}
use Rattle.std.specs.Prelude.{slice_get, slice_set, remove}
use Rattle.std.proofs.lemmas.Bool.Decides.{nat_tests}
use Rattle.model.specs.declared.world.Packet.{Packet}
use Rattle.model.specs.World.{carried_up, mark_current, moved_up, place_of}
use Rattle.iomgr.specs.Numbers.{Rising, number_place, numbers_of}

-- a lower bound below
rising_from : (low lower end : ℕ) (numbers : List ℕ) → lower ≤ low → Rising low end numbers
    → Rising lower end numbers
rising_from low lower end [] l r = omega (arith, l, r)
rising_from low lower end (n ∷ numbers) l r = (omega (arith, l, r.0), r.1)

pub rising_removed : (low end : ℕ) (numbers : List ℕ) (place : ℕ) → Rising low end numbers
    → Rising low end (remove numbers place)
rising_removed low end [] zero r = r
rising_removed low end [] (suc place) r = r
rising_removed low end (n ∷ numbers) zero r =
    rising_from (suc n) low end numbers (omega (arith, r.0)) r.1
rising_removed low end (n ∷ numbers) (suc place) r =
    (r.0, rising_removed (suc n) end numbers place r.1)

pub rising_pushed : (low end : ℕ) (numbers : List ℕ) → Rising low end numbers
    → Rising low (end + 1) (numbers ++ end ∷ [])
rising_pushed low end [] r = (r, omega arith)
rising_pushed low end (n ∷ numbers) r = (r.0, rising_pushed (suc n) end numbers r.1)

-- each number is between the bounds
rising_low : (low end : ℕ) (numbers : List ℕ) (place n : ℕ) → Rising low end numbers
    → slice_get numbers place ≡ Some n → low ≤ n
rising_low low end [] place n r found = absurd (cc)
rising_low low end (m ∷ numbers) zero n r found =
    let same : m ≡ n = cc in
    omega (arith, same, r.0)
rising_low low end (m ∷ numbers) (suc place) n r found =
    omega (arith, r.0, rising_low (suc m) end numbers place n r.1 found)

-- a number that stands at a place stands there first
pub found_place : (low end : ℕ) (numbers : List ℕ) (place n : ℕ) → Rising low end numbers
    → slice_get numbers place ≡ Some n → number_place numbers n ≡ place
found_place low end [] place n r found = absurd (cc)
found_place low end (m ∷ numbers) zero n r found =
    let same : m ≡ n = cc in
    by (nat_eq m n) (grind (arith, same, nat_tests))
  where
    by : (b : Bool) → b ≡ true → cond b 0 (suc (number_place numbers n)) ≡ zero
    by true e = refl
    by false e = cc
found_place low end (m ∷ numbers) (suc place) n r found =
    let above = rising_low (suc m) end numbers place n r.1 found in
    let rest = found_place (suc m) end numbers place n r.1 found in
    by (nat_eq m n) (grind (arith, above, nat_tests)) rest
  where
    by : (b : Bool) → b ≡ false → number_place numbers n ≡ place
        → cond b 0 (suc (number_place numbers n)) ≡ suc place
    by true e rest = cc
    by false e rest = ap (λ (i : ℕ). suc i) rest

-- a number that stands nowhere
pub missing_place : (numbers : List ℕ) (n : ℕ)
    → ((place : ℕ) → slice_get numbers place ≢ Some n) → number_place numbers n ≡ length numbers
missing_place [] n none = refl
missing_place (m ∷ numbers) n none =
    by (nat_eq m n) (λ same. none 0 (ap (λ (k : ℕ). Some k) (grind (arith, same, nat_tests))))
    (missing_place numbers n (λ place. none (suc place)))
  where
    by : (b : Bool) → b ≢ true → number_place numbers n ≡ length numbers
        → cond b 0 (suc (number_place numbers n)) ≡ suc (length numbers)
    by true differs rest = absurd (differs refl)
    by false differs rest = ap (λ (i : ℕ). suc i) rest

-- packets stand where their numbers do
pub numbered_place : (packets : List Packet) (n : ℕ)
    → place_of packets n ≡ number_place (numbers_of packets) n
numbered_place [] n = refl
numbered_place (p ∷ packets) n = rw (numbered_place packets n) refl

-- the numbers of packets where one is changed and keeps its number, or is taken out
pub numbers_set : (packets : List Packet) (place : ℕ) (p q : Packet)
    → slice_get packets place ≡ Some p → q.number ≡ p.number
    → numbers_of (slice_set packets place q) ≡ numbers_of packets
numbers_set [] place p q found same = refl
numbers_set (r ∷ packets) zero p q found same =
    let first : r ≡ p = cc in
    rw (first, same) refl
numbers_set (r ∷ packets) (suc place) p q found same =
    ap (λ (numbers : List ℕ). r.number ∷ numbers) (numbers_set packets place p q found same)

pub numbers_removed : (packets : List Packet) (place : ℕ)
    → numbers_of (remove packets place) ≡ remove (numbers_of packets) place
numbers_removed [] zero = refl
numbers_removed [] (suc place) = refl
numbers_removed (p ∷ packets) zero = refl
numbers_removed (p ∷ packets) (suc place) =
    ap (λ (numbers : List ℕ). p.number ∷ numbers) (numbers_removed packets place)

-- the number of the packet at a place
pub number_there : (packets : List Packet) (place : ℕ) (p : Packet)
    → slice_get packets place ≡ Some p → slice_get (numbers_of packets) place ≡ Some p.number
number_there [] place p found = absurd (cc)
number_there (q ∷ packets) zero p found = let same : q ≡ p = cc in rw same refl
number_there (q ∷ packets) (suc place) p found = number_there packets place p found

-- an upward step keeps the number
pub carried_number : (p : Packet) → (carried_up p).number ≡ p.number
carried_number p = by p.pending_returned
  where
    by : (b : Bool) → (cond b (mark_current (moved_up p)) (moved_up p)).number ≡ p.number
    by true = refl
    by false = refl
