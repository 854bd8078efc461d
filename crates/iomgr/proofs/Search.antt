-- The search through a bucket, slot by slot.
use Rattle.std.proofs.Common.{◌≡◌, ◌<◌, ◌+◌, ◌-◌, ℕ, zero, suc, true, false, List, [], ◌∷◌, Option, Some, None, inl, inr, length, ap, sym, ◌∙◌, refl, arith}
use Rattle.std.specs.Prelude.{not, slice_get}
use Rattle.std.proofs.lemmas.Bool.{cases_lt}
use Rattle.std.proofs.lemmas.Bool.Decides.{eqb_tells}
use Rattle.std.proofs.lemmas.Option.{slice_get-get_or, slice_get_within}
use Rattle.model.specs.Queues.{head_of, is_linked}
use Rattle.devqueue.proofs.Free.{one_has}
use Rattle.devqueue.proofs.Next.{place_linked}
use Rattle.devqueue.specs.Linked.{IsOnce}
use Rattle.devqueue.specs.Lists.{Lists, entries_of, is_free}
use Rattle.iomgr.proofs.Slots.{key_there}
use Rattle.iomgr.specs.Buckets.{has_number}
use Rattle.iomgr.specs.Numbers.{number_place}
use Rattle.iomgr.specs.Slots.{Slots, lies_at}

-- the slots of a bucket up to a place don't have the packet of a number, and there the next stands
pub record IsSearched (slots : List ℕ) (live : Slots) (n : ℕ) (next : Option ℕ) : Type 0 where
  pub once : IsOnce slots
  pub place : ℕ
  pub at : slice_get slots place ≡ next
  pub none : (before slot : ℕ) → before < place → slice_get slots before ≡ Some slot
      → has_number (lies_at live slot) n ≡ false

-- how many slots are left from the next on
abbrev pub left : List ℕ → Option ℕ → ℕ
left slots None = 0
left slots (Some slot) = length slots - number_place slots slot

once_place : (slots : List ℕ) (place slot : ℕ) → IsOnce slots → slice_get slots place ≡ Some slot
    → number_place slots slot ≡ place
once_place [] place slot once at = absurd (cc)
once_place (first ∷ slots) zero slot once at =
    let same : first ≡ slot = cc in
    elim (eqb_tells first slot) [ inl e ↦ rw e.0 refl | inr e ↦ absurd (e.1 same) ]
once_place (first ∷ slots) (suc place) slot once at =
    elim (eqb_tells first slot) [
      | inl e ↦
          let twice : is_linked slots first ≡ true = rw (← e.1) at (place_linked slots place slot at) in
          let missing = once.0 in
          absurd (cc)
      | inr e ↦ rw e.0 (ap suc (once_place slots place slot once.1 at))
    ]

linked_within : (slots : List ℕ) (slot : ℕ) → is_linked slots slot ≡ true
    → number_place slots slot < length slots
linked_within [] slot linked = absurd (cc)
linked_within (first ∷ slots) slot linked =
    elim (eqb_tells first slot) [
      | inl e ↦ rw e.0 (omega arith)
      | inr e ↦
          let rest = linked_within slots slot (rw e.0 at linked) in
          rw e.0 (omega (arith, rest))
    ]

first_at : (slots : List ℕ) → slice_get slots 0 ≡ head_of slots
first_at [] = refl
first_at (slot ∷ slots) = refl

module _ (slots : List ℕ) (live : Slots) (n : ℕ) where
  module _ (now : Option ℕ) (so_far : IsSearched slots live n now) where
    module _ (slot : ℕ) (there : now ≡ Some slot) (next : Option ℕ)
        (is : next ≡ slice_get slots (so_far.place + 1)) where
      here : slice_get slots so_far.place ≡ Some slot
      here = so_far.at ∙ there

      pub search_shrinks : left slots next < left slots now
      search_shrinks =
          let stands = once_place slots so_far.place slot so_far.once here in
          let few = slice_get_within slots so_far.place slot here in
          rw there (by next is stands few)
        where
          by : (found : Option ℕ) → found ≡ slice_get slots (so_far.place + 1)
              → number_place slots slot ≡ so_far.place → so_far.place < length slots
              → left slots found < left slots (Some slot)
          by None at stands few = omega (arith, stands, few)
          by (Some other) at stands few =
              let after = once_place slots (so_far.place + 1) other so_far.once (sym at) in
              let less = slice_get_within slots (so_far.place + 1) other (sym at) in
              omega (arith, stands, few, after, less)

    pub search_ends : now ≡ None → (slot : ℕ) → is_linked slots slot ≡ true
        → has_number (lies_at live slot) n ≡ false
    search_ends gone slot linked =
        let few = linked_within slots slot linked in
        let at = key_there slots slot few in
        elim (cases_lt (number_place slots slot) so_far.place) [
          | inl before ↦ so_far.none (number_place slots slot) slot before at
          | inr past ↦
              let some = slice_get-get_or slots so_far.place 0 (omega (arith, few, past)) in
              let none = so_far.at ∙ gone in
              absurd (cc)
        ]

-- a slot at a place of a bucket isn't free
pub search_linked : (buckets : Lists) (bucket place slot : ℕ)
    → slice_get (entries_of buckets bucket) place ≡ Some slot → is_free buckets slot ≡ false
search_linked buckets bucket place slot at =
    ap not (one_has slot bucket buckets.lists (place_linked _ place slot at))
