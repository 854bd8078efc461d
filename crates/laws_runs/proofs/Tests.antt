-- Parts of tests that succeed or fail, and numbers that go by one.
use Rattle.laws_runs.proofs.Prelude.{arith, cond, inl, inr, refl, sym, ◌∙◌, leb_tells, Bool, false, if◌then◌else◌, nat_le, nat_lt, not, suc, true, ℕ, ◌&&◌, ◌<◌, ◌||◌, ◌≡◌, ◌≤◌}

pub or_left : (a b : Bool) → (a || b) ≡ false → a ≡ false
or_left true b h = cc
or_left false b h = refl

pub or_right : (a b : Bool) → (a || b) ≡ false → b ≡ false
or_right true b h = cc
or_right false b h = h

pub or_first : (a b : Bool) → a ≡ true → (a || b) ≡ true
or_first true b h = refl
or_first false b h = cc

pub or_second : (a b : Bool) → b ≡ true → (a || b) ≡ true
or_second true b h = refl
or_second false b h = h

pub or_both : (a b : Bool) → a ≡ false → b ≡ false → (a || b) ≡ false
or_both a b one other = rw (one, other) refl

pub and_left : (a b : Bool) → (a && b) ≡ true → a ≡ true
and_left true b h = refl
and_left false b h = cc

pub and_right : (a b : Bool) → (a && b) ≡ true → b ≡ true
and_right true b h = h
and_right false b h = cc

pub and_false : (b : Bool) → (b && false) ≡ false
and_false true = refl
and_false false = refl

pub not_and : (a b : Bool) → a ≡ true → (a && b) ≡ false → b ≡ false
not_and true b is h = h
not_and false b is h = cc

pub not_false : (a : Bool) → not a ≡ false → a ≡ true
not_false true h = refl
not_false false h = cc

pub lt_of : (a b : ℕ) → nat_lt a b ≡ true → a < b
lt_of a b h =
    elim (leb_tells (suc a) b) [ inl l ↦ l.1 | inr l ↦ let no : false ≡ true = sym l.0 ∙ h in cc ]

pub not_at_most : (a b : ℕ) → b < a → nat_le a b ≡ false
not_at_most a b l =
    elim (leb_tells a b) [ inl g ↦ let k : a ≤ b = g.1 in absurd (omega arith) | inr g ↦ g.0 ]

-- numbers that go by a test
pub if_none : (b : Bool) → cond {A = ℕ} b 0 0 ≡ 0
if_none true = refl
if_none false = refl

pub if_one : (b : Bool) → (if b then 1 else 0) ≤ 1
if_one true = omega arith
if_one false = omega arith

pub if_le : (b : Bool) (m n : ℕ) → m ≤ n → (if b then m else 0) ≤ (if b then n else 0)
if_le true m n h = h
if_le false m n h = omega arith
