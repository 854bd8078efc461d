-- The live packets by number: numbers rise along the list, and what a look-up finds after a change.
use Rattle.laws_runs.proofs.Prelude.{arith, cond, inl, inr, refl, sym, ◌∙◌, eqb_tells, List, None, Option, Some, [], false, if◌then◌else◌, nat_eq, remove, slice_get, slice_set, suc, true, ℕ, ◌++◌, ◌+◌, ◌<◌, ◌∷◌, ◌≡◌, ◌≢◌, ◌≤◌, place_of, Packet}

-- the live packet of a number
abbrev pub find : List Packet → ℕ → Option Packet
find [] n = None
find (p ∷ ps) n = if nat_eq p.number n then Some p else find ps n

-- numbers rise from a first one, and stay below a last one
abbrev pub Rises : ℕ → List Packet → ℕ → Type 0
Rises low [] high = low ≤ high
Rises low (p ∷ ps) high = (low ≤ p.number) × Rises (suc p.number) ps high

-- the look-up by place is the look-up
pub find_place : (ps : List Packet) (n : ℕ) → slice_get ps (place_of ps n) ≡ find ps n
find_place [] n = refl
find_place (p ∷ ps) n =
    elim (nat_eq p.number n) as
    (λ b. slice_get (p ∷ ps) (cond b 0 (suc (place_of ps n))) ≡ cond {A = Option Packet} b
    (Some p) (find ps n)) [ true ↦ refl | false ↦ find_place ps n ]

-- what is found has the number
pub find_number : (ps : List Packet) (n : ℕ) (p : Packet) → find ps n ≡ Some p → p.number ≡ n
find_number [] n p h = cc
find_number (r ∷ ps) n p h =
    elim (eqb_tells r.number n) [
      | inl e ↦ let same : Some r ≡ Some p = rw e.0 at h in let one : r ≡ p = cc in rw (← one) e.1
      | inr e ↦ find_number ps n p (rw e.0 at h)
    ]

pub rises_le : (low : ℕ) (ps : List Packet) (high : ℕ) → Rises low ps high → low ≤ high
rises_le low [] high h = h
rises_le low (p ∷ ps) high h = let more : suc p.number ≤ high = rises_le (suc p.number) ps high h.1
    in let first : low
    ≤ p.number = h.0 in omega arith

pub rises_from : (low less : ℕ) (ps : List Packet) (high : ℕ) → less ≤ low → Rises low ps high
    → Rises less ps high
rises_from low less [] high l h = let k : low ≤ high = h in omega arith
rises_from low less (p ∷ ps) high l h = (let k : low ≤ p.number = h.0 in omega arith, h.1)

-- no number is found below the first, or from the last on
pub find_below : (low : ℕ) (ps : List Packet) (high n : ℕ) → Rises low ps high → n < low
    → find ps n ≡ None
find_below low [] high n h l = refl
find_below low (p ∷ ps) high n h l =
    elim (eqb_tells p.number n) [
      | inl e ↦ let k : low ≤ p.number = h.0 in let same : p.number
          ≡ n = e.1 in absurd (omega arith)
      | inr e ↦ rw e.0 (let k : low ≤ p.number =
          h.0 in find_below (suc p.number) ps high n h.1 (omega arith))
    ]

pub find_above : (low : ℕ) (ps : List Packet) (high n : ℕ) → Rises low ps high → high ≤ n
    → find ps n ≡ None
find_above low [] high n h l = refl
find_above low (p ∷ ps) high n h l =
    elim (eqb_tells p.number n) [
      | inl e ↦ let k : suc p.number ≤ high = rises_le (suc p.number) ps high h.1
          in let same : p.number ≡ n =
          e.1 in absurd (omega arith)
      | inr e ↦ rw e.0 (find_above (suc p.number) ps high n h.1 l)
    ]

-- a packet is written back under its number
pub find_set : (ps : List Packet) (n : ℕ) (p q : Packet) → find ps n ≡ Some p → q.number ≡ n
    → (m : ℕ) →
    find (slice_set ps (place_of ps n) q) m ≡ (if nat_eq n m then Some q else find ps m)
find_set [] n p q h s m = cc
find_set (r ∷ ps) n p q h s m =
    elim (eqb_tells r.number n) [
      | inl e ↦ rw e.0 (elim (eqb_tells n m) [
        | inl g ↦ let there : nat_eq q.number m ≡ true = rw s g.0 in rw (there, g.0) refl
        | inr g ↦ let there : nat_eq q.number m ≡ false =
            rw s g.0 in let here : nat_eq r.number m ≡ false =
            rw e.1 g.0 in rw (there, here, g.0) refl
      ])
      | inr e ↦ rw e.0 (elim (eqb_tells r.number m) [
        | inl f ↦ let apart : n ≢ m =
            λ g. e.1 (f.1 ∙ sym g)
            in elim (eqb_tells n m) [ inl g ↦ absurd (apart g.1) | inr g ↦ rw (f.0, g.0) refl ]
        | inr f ↦ rw f.0 (find_set ps n p q (rw e.0 at h) s m)
      ])
    ]

pub rises_set : (low : ℕ) (ps : List Packet) (high n : ℕ) (p q : Packet) → find ps n ≡ Some p
    → q.number ≡ n
    → Rises low ps high → Rises low (slice_set ps (place_of ps n) q) high
rises_set low [] high n p q h s o = o
rises_set low (r ∷ ps) high n p q h s o =
    elim (eqb_tells r.number n) [
      | inl e ↦ rw (e.0, s, ← e.1) o
      | inr e ↦ rw e.0 (o.0, rises_set (suc r.number) ps high n p q (rw e.0 at h) s o.1)
    ]

-- a packet is removed
pub find_remove : (low : ℕ) (ps : List Packet) (high n : ℕ) → Rises low ps high → (m : ℕ) →
    find (remove ps (place_of ps n)) m ≡ (if nat_eq n m then None else find ps m)
find_remove low [] high n o m =
    elim (nat_eq n m) as (λ b. find [] m ≡ cond {A = Option Packet} b None (find [] m))
    [ true ↦ refl | false ↦ refl ]
find_remove low (r ∷ ps) high n o m =
    elim (eqb_tells r.number n) [
      | inl e ↦ rw e.0 (elim (eqb_tells n m) [
        | inl g ↦ rw g.0 (let same : r.number ≡ n = e.1 in let other : n ≡ m =
            g.1 in find_below (suc r.number) ps high m o.1 (omega arith))
        | inr g ↦ elim (eqb_tells r.number m)
            [ inl f ↦ absurd (g.1 (sym e.1 ∙ f.1)) | inr f ↦ rw (g.0, f.0) refl ]
      ])
      | inr e ↦ rw e.0 (elim (eqb_tells r.number m) [
        | inl f ↦ elim (eqb_tells n m)
            [ inl g ↦ absurd (e.1 (f.1 ∙ sym g.1)) | inr g ↦ rw (f.0, g.0) refl ]
        | inr f ↦ rw f.0 (find_remove (suc r.number) ps high n o.1 m)
      ])
    ]

pub rises_remove : (low : ℕ) (ps : List Packet) (high n : ℕ) → Rises low ps high
    → Rises low (remove ps (place_of ps n)) high
rises_remove low [] high n o = o
rises_remove low (r ∷ ps) high n o =
    elim (eqb_tells r.number n) [
      | inl e ↦ rw e.0 (let k : low ≤ r.number =
          o.0 in rises_from (suc r.number) low ps high (omega arith) o.1)
      | inr e ↦ rw e.0 (o.0, rises_remove (suc r.number) ps high n o.1)
    ]

-- a packet is added with the next number
pub find_push : (low : ℕ) (ps : List Packet) (high : ℕ) (p : Packet) → Rises low ps high
    → p.number ≡ high → (m : ℕ) →
    find (ps ++ p ∷ []) m ≡ (if nat_eq high m then Some p else find ps m)
find_push low [] high p o s m = rw s refl
find_push low (r ∷ ps) high p o s m =
    elim (eqb_tells r.number m) [
      | inl f ↦ elim (eqb_tells high m) [
        | inl g ↦ let k : suc r.number ≤ high = rises_le (suc r.number) ps high o.1
            in let a : r.number ≡ m =
            f.1 in let b : high ≡ m = g.1 in absurd (omega arith)
        | inr g ↦ rw (f.0, g.0) refl
      ]
      | inr f ↦ rw f.0 (find_push (suc r.number) ps high p o.1 s m)
    ]

pub rises_push : (low : ℕ) (ps : List Packet) (high : ℕ) (p : Packet) → Rises low ps high
    → p.number ≡ high
    → Rises low (ps ++ p ∷ []) (high + 1)
rises_push low [] high p o s = let k : low ≤ high = o in (omega arith, omega arith)
rises_push low (r ∷ ps) high p o s = (o.0, rises_push (suc r.number) ps high p o.1 s)
