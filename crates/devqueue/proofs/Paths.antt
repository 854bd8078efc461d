-- Paths through rings: what they show, and what happens to them where a node leaves or joins.
use Rattle.std.proofs.Common.{◌≡◌, ℕ, Bool, true, false, List, [], ◌∷◌, ◌++◌, refl, ◌∙◌, nat_eq, inl, inr}
use Rattle.std.specs.Prelude.{◌||◌}
use Rattle.std.proofs.lemmas.Bool.Decides.{eqb_tells}
use Rattle.model.specs.Queues.{is_linked, unlinked}
use Rattle.devqueue.specs.Rings.{after_joined, after_left}
use Rattle.devqueue.specs.Linked.{IsOnce, Path}

-- a number stands in a list or at its head
pub not_head : (n s : ℕ) (ns : List ℕ) → is_linked (n ∷ ns) s ≡ false
    → (nat_eq n s ≡ false) × (is_linked ns s ≡ false)
not_head n s ns h = by (nat_eq n s) h
  where
    by : (b : Bool) → (b || is_linked ns s) ≡ false → (b ≡ false) × (is_linked ns s ≡ false)
    by true h = cc
    by false h = (refl, h)

-- a path that a changed node isn't on stays: neither the node nor what came to it
module _ (f h : ℕ → ℕ) where
  pub stays : (s c : ℕ) → ((n : ℕ) → nat_eq n s ≡ false → nat_eq (f n) c ≡ false → h n ≡ f n)
      → (from : ℕ) (ns : List ℕ) (to : ℕ) → nat_eq from s ≡ false → is_linked ns s ≡ false
      → is_linked ns c ≡ false → nat_eq to c ≡ false → Path f from ns to → Path h from ns to
  stays s c same from [] to a b d e p = same from a (rw p e) ∙ p
  stays s c same from (n ∷ ns) to a b d e p =
      let x = not_head n s ns b in
      let y = not_head n c ns d in
      (same from a (rw p.0 y.0) ∙ p.0, stays s c same n ns to x.0 x.1 y.1 e p.1)

module _ (f h : ℕ → ℕ) (s : ℕ) (is : (n : ℕ) → h n ≡ after_left f s n) where
  kept_left : (n : ℕ) → nat_eq n s ≡ false → nat_eq (f n) s ≡ false → h n ≡ f n
  kept_left n a b = is n ∙ rw (a, b) refl

  -- a path that the node isn't on
  pub stays_left : (from : ℕ) (ns : List ℕ) (to : ℕ) → nat_eq from s ≡ false
      → is_linked ns s ≡ false → nat_eq to s ≡ false → Path f from ns to → Path h from ns to
  stays_left from ns to a b e p = stays f h s s kept_left from ns to a b b e p

  passed : (from : ℕ) → nat_eq from s ≡ false → f from ≡ s → h from ≡ f s
  passed from a e = is from ∙ rw a (rw e (elim (eqb_tells s s) [ inl t ↦ rw t.0 refl | inr t ↦ absurd (t.1 refl) ]))

  joined_over : (from : ℕ) (ns : List ℕ) (to : ℕ) → nat_eq from s ≡ false → f from ≡ s
      → is_linked ns s ≡ false → nat_eq to s ≡ false → Path f s ns to → Path h from ns to
  joined_over from [] to a e b d p = passed from a e ∙ p
  joined_over from (n ∷ ns) to a e b d p =
      let x = not_head n s ns b in
      (passed from a e ∙ p.0, stays_left n ns to x.0 x.1 d p.1)

  -- the path that the node leaves
  pub leaves : (from : ℕ) (ns : List ℕ) (to : ℕ) → nat_eq from s ≡ false → IsOnce ns
      → nat_eq to s ≡ false → Path f from ns to → Path h from (unlinked ns s) to
  leaves from [] to a once e p = is from ∙ rw a (rw p (rw e refl))
  leaves from (n ∷ ns) to a once e p =
      elim (eqb_tells n s) [
        | inl t ↦ rw t.0 (joined_over from ns to a (p.0 ∙ t.1) (rw (← t.1) once.0) e (rw (← t.1) p.1))
        | inr t ↦ rw t.0 (
          is from ∙ rw a (rw p.0 (rw t.0 refl)),
          leaves n ns to t.0 once.1 e p.1,
        )
      ]

module _ (f h : ℕ → ℕ) (s z : ℕ) (is : (n : ℕ) → h n ≡ after_joined f s z n) where
  kept_joined : (n : ℕ) → nat_eq n s ≡ false → nat_eq (f n) z ≡ false → h n ≡ f n
  kept_joined n a b = is n ∙ rw (a, b) refl

  pub stays_joined : (from : ℕ) (ns : List ℕ) (to : ℕ) → nat_eq from s ≡ false
      → is_linked ns s ≡ false → is_linked ns z ≡ false → nat_eq to z ≡ false
      → Path f from ns to → Path h from ns to
  stays_joined from ns to a b d e p = stays f h s z kept_joined from ns to a b d e p

  -- the path that the node joins at its end
  pub joins : (from : ℕ) (ns : List ℕ) → nat_eq from s ≡ false → is_linked ns s ≡ false
      → is_linked ns z ≡ false → Path f from ns z → Path h from (ns ++ s ∷ []) z
  joins from [] a b d p =
      elim (eqb_tells z z) [
        | inl t ↦ elim (eqb_tells s s) [
          | inl u ↦ (is from ∙ rw a (rw p (rw t.0 refl)), is s ∙ rw u.0 refl)
          | inr u ↦ absurd (u.1 refl)
        ]
        | inr t ↦ absurd (t.1 refl)
      ]
  joins from (n ∷ ns) a b d p =
      let x = not_head n s ns b in
      let y = not_head n z ns d in
      (kept_joined from a (rw p.0 y.0) ∙ p.0, joins n ns x.0 x.1 y.1 p.1)
