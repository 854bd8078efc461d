-- What registers mean by what keys name: reading and writing them.
use Rattle.std.proofs.Common.{◌≡◌, ℕ, zero, suc, List, [], ◌∷◌, Option, None, Some, refl, sym, ap, map}
use Rattle.std.specs.Prelude.{option_map, slice_get, slice_index_or, slice_set}
use Rattle.model.specs.declared.world.Activation.{Activation}
use Rattle.model.specs.declared.world.Value.{Value}
use Rattle.model.specs.declared.world.Value.TheVariants.{Blank, Num, Ref, Status as StatusValue}
use Rattle.model.specs.Effect.{of_both}
use Rattle.model.specs.World.{number_in, register, status_in, with_register}
use Rattle.laws_slots.specs.Rep.{meant_routine, meant_value}
use Rattle.laws_slots.specs.SlotStep.{number_read, status_read}

-- what a look-up tells, if it finds something
abbrev pub Tells : {A : Type 0} → Option A → A → Type 0
Tells {A = A} o x = (y : A) → o ≡ Some y → y ≡ x

pub tells_both : {A : Type 0} (f : ℕ → ℕ → A) (m n : Option ℕ) (x y : ℕ) → Tells m x → Tells n y
    → Tells (of_both f m n) (f x y)
tells_both f None n x y one two z is = cc
tells_both f (Some i) None x y one two z is = cc
tells_both {A = A} f (Some i) (Some j) x y one two z is =
    let same : f i j ≡ z = cc in rw (← one i refl, ← two j refl) (sym same)

pub tells_map : {A : Type 0} (f : ℕ → A) (m : Option ℕ) (x : ℕ) → Tells m x
    → Tells (option_map f m) (f x)
tells_map f None x one z is = cc
tells_map {A = A} f (Some i) x one z is =
    let same : f i ≡ z = cc in rw (← one i refl) (sym same)

-- what a list of what is meant has at a place, and after a write
pub map_get : {A B : Type 0} (f : A → B) (xs : List A) (i : ℕ)
    → slice_get (map f xs) i ≡ option_map f (slice_get xs i)
map_get f [] i = refl
map_get f (x ∷ xs) zero = refl
map_get f (x ∷ xs) (suc i) = map_get f xs i

pub map_index : {A B : Type 0} (f : A → B) (xs : List A) (i : ℕ) (d : A)
    → slice_index_or (map f xs) i (f d) ≡ f (slice_index_or xs i d)
map_index f [] i d = refl
map_index f (x ∷ xs) zero d = refl
map_index f (x ∷ xs) (suc i) d = map_index f xs i d

pub map_put : {A B : Type 0} (f : A → B) (xs : List A) (i : ℕ) (y : A)
    → map f (slice_set xs i y) ≡ slice_set (map f xs) i (f y)
map_put f [] i y = refl
map_put f (x ∷ xs) zero y = refl
map_put f (x ∷ xs) (suc i) y = ap (λ ys. f x ∷ ys) (map_put f xs i y)

module _ (name : ℕ → ℕ) where
  pub register_meant : (a : Activation) (r : ℕ)
      → register (meant_routine name a) r ≡ meant_value name (register a r)
  register_meant a r = map_index (meant_value name) a.registers r Blank

  pub written_meant : (a : Activation) (r : ℕ) (v : Value)
      → meant_routine name (with_register a r v)
      ≡ with_register (meant_routine name a) r (meant_value name v)
  written_meant a r v =
      ap (λ (values : List Value). record a { registers = values })
      (map_put (meant_value name) a.registers r v)

  -- numbers and statuses are read as they are
  number_tells : (v : Value) → Tells (number_in (meant_value name v)) (number_read v)
  number_tells Blank n is = cc
  number_tells (Num m) n is = let same : m ≡ n = cc in sym same
  number_tells (Ref k) n is = cc
  number_tells (StatusValue status) n is = cc

  pub number_told : (a : Activation) (r : ℕ)
      → Tells (number_in (register (meant_routine name a) r)) (number_read (register a r))
  number_told a r = rw (register_meant a r) (number_tells (register a r))

  status_tells : (v : Value) → Tells (status_in (meant_value name v)) (status_read v)
  status_tells Blank status is = cc
  status_tells (Num m) status is = cc
  status_tells (Ref k) status is = cc
  status_tells (StatusValue one) status is = let same : one ≡ status = cc in sym same

  pub status_told : (a : Activation) (r : ℕ)
      → Tells (status_in (register (meant_routine name a) r)) (status_read (register a r))
  status_told a r = rw (register_meant a r) (status_tells (register a r))
