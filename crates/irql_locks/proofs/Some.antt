-- A thread owns any lock exactly where there is a lock that it owns.
use Rattle.std.proofs.Common.{◌≡◌, ℕ, zero, suc, List, [], ◌∷◌, Option, None, Some, Bool, true, false, refl, ap, sym, ◌∙◌, inl, inr}
use Rattle.std.specs.Prelude.{◌||◌, ◌↔◌, option_and_then, slice_get, IsTrue}
use Rattle.std.specs.List.{list_any}
use Rattle.std.proofs.lemmas.Bool.Decides.{eqb_tells}
use Rattle.model.specs.declared.event.Lock.{Lock}
use Rattle.model.specs.declared.event.Lock.TheVariants.{SystemCancel, Spin}
use Rattle.model.specs.declared.event.OfDevice.{OfDevice}
use Rattle.model.specs.World.{Locks, owner_of}
use Rattle.irql_locks.specs.Owns.{is_owner, is_owned_by, owns, owns_one, owns_any, OwnsSome}

-- the owner of a lock that a thread owns
pub owner_its : (t : ℕ) (owner : Option ℕ) → is_owner t owner ≡ true → owner ≡ Some t
owner_its t None h = cc
owner_its t (Some owner) h =
    elim (eqb_tells owner t) [
      | inl e ↦ ap (λ (n : ℕ). Some n) e.1
      | inr e ↦ let no : false ≡ true = sym e.0 ∙ h in cc
    ]

pub its_owner : (t : ℕ) → is_owner t (Some t) ≡ true
its_owner t = elim (eqb_tells t t) [ inl e ↦ e.0 | inr e ↦ absurd (e.1 refl) ]

pub owned_its : (t : ℕ) (o : Option (Option ℕ)) → is_owned_by t o ≡ true → o ≡ Some (Some t)
owned_its t None h = cc
owned_its t (Some owner) h = ap (λ (x : Option ℕ). Some x) (owner_its t owner h)

pub owned_as : (locks : Locks) (t : ℕ) (lock : Lock)
    → IsTrue (owns locks t lock) ↔ (owner_of locks lock ≡ Some (Some t))
owned_as locks t lock = (owned_its t (owner_of locks lock), λ h. rw h (its_owner t))

-- an element that passes a test, and where it stands
pub record Passes {A : Type 0} (test : A → Bool) (xs : List A) : Type 0 where
  pub place : ℕ
  pub element : A
  pub there : slice_get xs place ≡ Some element
  pub passes : test element ≡ true

pub or_left : (a b : Bool) → a ≡ true → (a || b) ≡ true
or_left true b h = refl
or_left false b h = cc

pub or_right : (a b : Bool) → b ≡ true → (a || b) ≡ true
or_right true b h = refl
or_right false b h = h

module _ {A : Type 0} (test : A → Bool) where
  any_at : (xs : List A) (i : ℕ) (x : A) → slice_get xs i ≡ Some x → test x ≡ true
      → list_any test xs ≡ true
  any_at [] i x h p = cc
  any_at (y ∷ xs) zero x h p = let same : y ≡ x =
      cc in or_left (test y) (list_any test xs) (rw same p)
  any_at (y ∷ xs) (suc i) x h p = or_right (test y) (list_any test xs) (any_at xs i x h p)

  passes_here : (y : A) (xs : List A) (b : Bool) → test y ≡ b → (b || list_any test xs) ≡ true →
      (list_any test xs ≡ true → Passes test xs) → Passes test (y ∷ xs)
  passes_here y xs true p h more = record { place = 0; element = y; there = refl; passes = p }
  passes_here y xs false p h more =
      let rest : Passes test xs = more h in
      record {
        place = suc rest.place;
        element = rest.element;
        there = rest.there;
        passes =
            rest.passes;
      }

  pub passes_any : (xs : List A) → list_any test xs ≡ true → Passes test xs
  passes_any [] h = cc
  passes_any (y ∷ xs) h = passes_here y xs (test y) refl h (passes_any xs)

-- a thread that owns a lock owns any
owns_place : (owners : List (Option ℕ)) (t i : ℕ) (e : Option (Option ℕ)) → slice_get owners i ≡ e →
    is_owned_by t e ≡ true → owns_one t owners ≡ true
owns_place owners t i None there h = cc
owns_place owners t i (Some owner) there h = any_at (is_owner t) owners i owner there h

owns_spin : (spin : List (List (Option ℕ))) (t : ℕ) (l : OfDevice) (e : Option (List (Option ℕ))) →
    slice_get spin l.device ≡ e → is_owned_by t (option_and_then (λ os. slice_get os l.number) e)
    ≡ true →
    list_any (owns_one t) spin ≡ true
owns_spin spin t l None there h = cc
owns_spin spin t l (Some owners) there h =
    any_at (owns_one t) spin l.device owners there
    (owns_place owners t l.number (slice_get owners l.number) refl h)

pub any_owns : (locks : Locks) (t : ℕ) (l : Lock) → owns locks t l ≡ true → owns_any locks t ≡ true
any_owns locks t SystemCancel h =
    or_right (list_any (owns_one t) locks.spin) (is_owner t locks.system_cancel) h
any_owns locks t (Spin l) h =
    or_left (list_any (owns_one t) locks.spin) (is_owner t locks.system_cancel)
    (owns_spin locks.spin t l (slice_get locks.spin l.device) refl h)

-- and one that owns any owns a lock
pub record One (locks : Locks) (t : ℕ) : Type 0 where
  pub lock : Lock
  pub its : owns locks t lock ≡ true

one_spin : (locks : Locks) (t : ℕ) → list_any (owns_one t) locks.spin ≡ true → One locks t
one_spin locks t h =
    let device : Passes (owns_one t) locks.spin = passes_any (owns_one t) locks.spin h in
    let lock : Passes (is_owner t) device.element =
    passes_any (is_owner t) device.element device.passes in
    record {
      lock = Spin (record { device = device.place; number = lock.place });
      its = rw (device.there, lock.there) lock.passes;
    }

one_if : (locks : Locks) (t : ℕ) (b : Bool) → list_any (owns_one t) locks.spin ≡ b →
    (b || is_owner t locks.system_cancel) ≡ true → One locks t
one_if locks t true spin h = one_spin locks t spin
one_if locks t false spin h = record { lock = SystemCancel; its = h }

pub one_owned : (locks : Locks) (t : ℕ) → owns_any locks t ≡ true → One locks t
one_owned locks t h = one_if locks t (list_any (owns_one t) locks.spin) refl h

-- in the words of the owners
some_owned : (locks : Locks) (t : ℕ) → owns_any locks t ≡ true → OwnsSome locks t
some_owned locks t h =
    let one : One locks t = one_owned locks t h in
    (one.lock, owned_its t (owner_of locks one.lock) one.its)

any_of_some : (locks : Locks) (t : ℕ) → OwnsSome locks t → owns_any locks t ≡ true
any_of_some locks t some = any_owns locks t some.0 (rw some.1 (its_owner t))

pub owns_some : (locks : Locks) (t : ℕ) (b : Bool) → b ≡ owns_any locks t
    → IsTrue b ↔ OwnsSome locks t
owns_some locks t b same = rw same (some_owned locks t, any_of_some locks t)
