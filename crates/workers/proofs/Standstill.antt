-- Threads that are marked as waiting, and that stand still.
use Rattle.std.proofs.Common.{◌≡◌, ℕ, zero, suc, ◌+◌, ◌<◌, inl, inr, Bool, true, false, List, [], ◌∷◌, Some, get_or, length, refl, replicate, sym, subst, ap, ◌∙◌, arith}
use Rattle.std.specs.Prelude.{◌⊎◌, ◌||◌, slice_get, slice_set}
use Rattle.std.specs.List.{range_with_len}
use Rattle.std.proofs.lemmas.Bool.Decides.{eqb_tells}
use Rattle.std.proofs.lemmas.List.FromFn.{get_or-range_with_len, length-range_with_len}
use Rattle.laws_runs.proofs.Lists.{set_other}
use Rattle.model.specs.View.{busy_at}
use Rattle.hostcore.specs.Core.{CoreState, world_of}
use Rattle.workers.specs.Standing.{AreWaiting, IsWaiting, StandStill}

-- where no thread is marked
none_marked : (n t : ℕ) → slice_get (replicate n false) t ≡ Some true → ⊥
none_marked zero t at = cc
none_marked (suc n) zero at = cc
none_marked (suc n) (suc t) at = none_marked n t at

pub no_marks : (c : CoreState) (n : ℕ) → AreWaiting c (replicate n false)
no_marks c n t at = absurd (none_marked n t at)

-- one thread more is marked
pub one_marked : (c : CoreState) (marks : List Bool) (t : ℕ) → AreWaiting c marks
    → IsWaiting c t → AreWaiting c (slice_set marks t true)
one_marked c marks t are its k at =
    elim (eqb_tells t k) [
      | inl p ↦ subst (λ (i : ℕ). IsWaiting c i) p.1 its
      | inr p ↦ are k (sym (set_other marks t k true p.1) ∙ at)
    ]

read_true : (marks : List Bool) (t : ℕ) → get_or marks t false ≡ true
    → slice_get marks t ≡ Some true
read_true [] t h = cc
read_true (mark ∷ marks) zero h = ap Some h
read_true (mark ∷ marks) (suc t) h = read_true marks t h

-- one of two marks
other_mark : (a b : Bool) → (a || b) ≡ true → b ≡ false → a ≡ true
other_mark true b h g = refl
other_mark false b h g = cc

-- where each thread is marked, is gone or has no frames, they stand still
module _ (c : CoreState) (n : ℕ) (marks gone : List Bool) (are : AreWaiting c marks) where
  one_stands : (t : ℕ) → get_or gone t false ≡ false → busy_at (world_of c) t ≡ true
      → ((get_or marks t false || get_or gone t false) ≡ true)
      ⊎ (busy_at (world_of c) t ≡ false) → IsWaiting c t
  one_stands t unmarked busy (inl h) =
      are t (read_true marks t (other_mark (get_or marks t false) (get_or gone t false) h unmarked))
  one_stands t unmarked busy (inr idle) = cc

  pub stand_still : (seats : List ℕ) → seats ≡ range_with_len 0 n
      → ((t : ℕ) → t < length seats → ((get_or marks t false || get_or gone t false) ≡ true)
      ⊎ (busy_at (world_of c) (get_or seats t t) ≡ false)) → StandStill c gone n
  stand_still seats are_seats each t few unmarked busy =
      let same : 0 + t ≡ t = omega arith in
      let long : length seats ≡ n = ap length are_seats ∙ length-range_with_len 0 n in
      let seat : get_or seats t t ≡ t = ap (λ (xs : List ℕ). get_or xs t t) are_seats
      ∙ (get_or-range_with_len 0 n t t few ∙ same) in
      one_stands t unmarked busy (subst (λ (s : ℕ).
      ((get_or marks t false || get_or gone t false) ≡ true)
      ⊎ (busy_at (world_of c) s ≡ false)) seat (each t (omega (arith, few, long))))
