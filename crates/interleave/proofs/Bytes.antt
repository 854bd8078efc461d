-- Events that are added to those kept as bytes, and runs of equal bytes.
use Rattle.std.proofs.Common.{zero, suc, inl, inr, add-one, ◌≡◌, ℕ, ◌+◌, nat_eq, true, false, Bool, List, [], ◌∷◌, ◌++◌, length, drop, replicate, refl, sym, ap, ◌∙◌, arith, append_assoc, if◌then◌else◌, length-append}
use Rattle.std.proofs.lemmas.List.{append-nil}
use Rattle.std.proofs.lemmas.Bool.{ne_eqb}
use Rattle.std.proofs.lemmas.Bool.Decides.{eqb_tells}
use Rattle.model.specs.declared.event.Event.{Event}
use Rattle.model.specs.declared.event.Event.TheVariants.{Step}
use Rattle.interleave.specs.Events.{first_of, listed, marks}
use Rattle.interleave.specs.declared.read.Repeated.{Repeated}

-- equal bytes are equal steps
pub listed_run : (b n : ℕ) (rest : List ℕ) (others : List Repeated) → nat_eq b 255 ≡ false
    → listed (replicate n b ++ rest) others ≡ replicate n (Step b) ++ listed rest others
listed_run b zero rest others step = refl
listed_run b (suc n) rest others step =
    rw step (ap (λ es. Step b ∷ es) (listed_run b n rest others step))

-- steps after the rest
pub listed_steps : (bytes : List ℕ) (others : List Repeated) (b n : ℕ) → nat_eq b 255 ≡ false
    → listed (bytes ++ replicate n b) others ≡ listed bytes others ++ replicate n (Step b)
listed_steps [] others b n step =
    rw (append-nil (replicate n b), append-nil (replicate n (Step b)))
    at (listed_run b n [] others step)
listed_steps (c ∷ bytes) others b n step =
    elim (eqb_tells c 255) [
      | inl p ↦
          rw (p.0, listed_steps bytes (drop 1 others) b n step)
          (sym (append_assoc (first_of others) (listed bytes (drop 1 others))
          (replicate n (Step b))))
      | inr p ↦ rw p.0 (ap (λ es. Step c ∷ es) (listed_steps bytes others b n step))
    ]

pub marks_steps : (bytes : List ℕ) (b n : ℕ) → nat_eq b 255 ≡ false
    → marks (bytes ++ replicate n b) ≡ marks bytes
marks_steps [] b zero step = refl
marks_steps [] b (suc n) step = rw step (marks_steps [] b n step)
marks_steps (c ∷ bytes) b n step = rw (marks_steps bytes b n step) refl

pub marks_other : (bytes : List ℕ) → marks (bytes ++ 255 ∷ []) ≡ marks bytes + 1
marks_other [] = refl
marks_other (b ∷ bytes) =
    elim (eqb_tells b 255) [
      | inl p ↦ rw (p.0, marks_other bytes) refl
      | inr p ↦ rw (p.0, marks_other bytes) refl
    ]

no_mark : (b : ℕ) (bytes : List ℕ) → nat_eq b 255 ≡ true → marks (b ∷ bytes) ≡ 0 → ⊥
no_mark b bytes mark fit = let some = rw mark at fit in omega arith

one_less : (b : ℕ) (bytes : List ℕ) (o : Repeated) (others : List Repeated) → nat_eq b 255 ≡ true
    → marks (b ∷ bytes) ≡ length (o ∷ others) → marks bytes ≡ length others
one_less b bytes o others mark fit = let some = rw mark at fit in omega arith

-- one of the others after the rest
pub listed_other : (bytes : List ℕ) (others : List Repeated) (r : Repeated)
    → marks bytes ≡ length others
    → listed (bytes ++ 255 ∷ []) (others ++ r ∷ []) ≡ listed bytes others
    ++ replicate r.count r.event
listed_other [] [] r fit = append-nil (replicate r.count r.event)
listed_other [] (o ∷ others) r fit = let no : ⊥ = omega arith in absurd no
listed_other (b ∷ bytes) [] r fit =
    elim (eqb_tells b 255) [
      | inl p ↦ absurd (no_mark b bytes p.0 fit)
      | inr p ↦
          rw p.0 (ap (λ es. Step b ∷ es) (listed_other bytes [] r (rw p.0 at fit)))
    ]
listed_other (b ∷ bytes) (o ∷ others) r fit =
    elim (eqb_tells b 255) [
      | inl p ↦
          let fewer : marks bytes ≡ length others = one_less b bytes o others p.0 fit in
          rw (p.0, listed_other bytes others r fewer)
          (sym (append_assoc (replicate o.count o.event) (listed bytes others)
          (replicate r.count r.event)))
      | inr p ↦ rw p.0 (ap (λ es. Step b ∷ es) (listed_other bytes (o ∷ others) r (rw p.0 at fit)))
    ]

-- a step, and the steps of equal bytes after it
pub run_taken : (all : List Event) (b n : ℕ) (bytes after rest : List ℕ) (others : List Repeated)
    → (b ≡ 255 → ⊥) → bytes ≡ b ∷ after → after ≡ replicate n b ++ rest
    → listed bytes others ≡ all → all ≡ replicate (n + 1) (Step b) ++ listed rest others
run_taken all b n bytes after rest others step here equal was =
    let same : listed bytes others ≡ replicate (n + 1) (Step b) ++ listed rest others =
    rw (here, equal, ne_eqb b 255 step, add-one n)
    (ap (λ es. Step b ∷ es) (listed_run b n rest others (ne_eqb b 255 step))) in
    sym was ∙ same

-- what was added is listed, and each mark has one of the others
abbrev pub Added : List ℕ → List Repeated → List ℕ → List Repeated → ℕ → Event → Type 0
Added bytes others more fuller count event =
    (marks more ≡ length fuller)
    × (listed more fuller ≡ listed bytes others ++ replicate count event)

pub steps_added : (bytes more : List ℕ) (others : List Repeated) (thread count : ℕ) (event : Event)
    → marks bytes ≡ length others → nat_eq thread 255 ≡ false → event ≡ Step thread
    → more ≡ bytes ++ replicate count thread → Added bytes others more others count event
steps_added bytes more others thread count event fit step same longer =
    rw (longer, same)
    (marks_steps bytes thread count step ∙ fit, listed_steps bytes others thread count step)

pub other_added : (bytes more : List ℕ) (others fuller : List Repeated) (r : Repeated) (b : Bool)
    → marks bytes ≡ length others → more ≡ (if b then bytes ++ 255 ∷ [] else bytes)
    → fuller ≡ (if b then others ++ r ∷ [] else others)
    → Added bytes others more fuller (if b then r.count else 0) r.event
other_added bytes more others fuller r true fit longer and =
    let marked : marks (bytes ++ 255 ∷ []) ≡ marks bytes + 1 = marks_other bytes in
    let total : length (others ++ r ∷ []) ≡ length others + 1 = length-append others (r ∷ []) in
    rw (longer, and) (omega arith, listed_other bytes others r fit)
other_added bytes more others fuller r false fit longer and =
    rw (longer, and) (fit, sym (append-nil (listed bytes others)))
