-- A slot that has a packet is in the order of issue.
use Rattle.std.proofs.Common.{◌≡◌, ◌≢◌, ◌<◌, ◌≤◌, ◌+◌, ℕ, zero, suc, List, [], ◌∷◌, Option, None, cond, inl, inr, length, ap, refl, arith}
use Rattle.std.specs.Prelude.{IsSome, count_by, is_some, slice_set}
use Rattle.std.proofs.lemmas.Bool.{cases_lt, false≢true}
use Rattle.std.proofs.lemmas.Bool.Decides.{eqb_tells}
use Rattle.std.proofs.lemmas.List.Sums.{sum_by-set}
use Rattle.model.specs.declared.world.Packet.{Packet}
use Rattle.iomgr.specs.Numbers.{number_place}
use Rattle.iomgr.specs.Slots.{Hold, Holds, IsOrdered, Lacks, Slots, lies_at, under}

-- what lies under a key after another slot is free, and how many slots a list has beyond a used one
under_other : (lying : List (Option Packet)) (key other : ℕ) → other ≢ key
    → under (slice_set lying key None) other ≡ under lying other
under_other [] key other differs = refl
under_other (slot ∷ lying) zero zero differs = absurd (differs refl)
under_other (slot ∷ lying) zero (suc other) differs = refl
under_other (slot ∷ lying) (suc key) zero differs = refl
under_other (slot ∷ lying) (suc key) (suc other) differs =
    under_other lying key other (λ e. differs (ap suc e))

pub within : (lying : List (Option Packet)) (key : ℕ) → IsSome (under lying key)
    → key < length lying
within [] key some = absurd (false≢true some)
within (slot ∷ lying) zero some = omega arith
within (slot ∷ lying) (suc key) some = omega (arith, within lying key some)

hold_others : (lying : List (Option Packet)) (key : ℕ) (keys : List ℕ) → Lacks key keys
    → Hold lying keys → Hold (slice_set lying key None) keys
hold_others lying key [] l h = tt
hold_others lying key (other ∷ keys) l h =
    (rw (under_other lying key other l.0) h.0, h.1, hold_others lying key keys l.1 h.2)

-- a used slot counts one
counts_one : (lying : List (Option Packet)) (key : ℕ) → IsSome (under lying key)
    → count_by is_some (slice_set lying key None) + 1 ≡ count_by is_some lying
counts_one lying key some =
    let one = λ (slot : Option Packet). cond (is_some slot) 1 0 in
    let sums = sum_by-set one lying key None None (within lying key some) in
    omega (arith, rw some at sums)

-- there are as many used slots as keys, at least
keys_counted : (keys : List ℕ) (lying : List (Option Packet)) → Hold lying keys
    → length keys ≤ count_by is_some lying
keys_counted [] lying h = omega arith
keys_counted (key ∷ keys) lying h =
    let less = hold_others lying key keys h.1 h.2 in
    let rest = keys_counted keys (slice_set lying key None) less in
    omega (arith, rest, counts_one lying key h.0)

-- a key without a place isn't among the keys
lacks_past : (keys : List ℕ) (key : ℕ) → length keys ≤ number_place keys key → Lacks key keys
lacks_past [] key past = tt
lacks_past (first ∷ keys) key past =
    elim (eqb_tells first key) [
      | inl e ↦ absurd (let none = rw e.0 at past in omega (arith, none))
      | inr e ↦
          let behind = rw e.0 at past in
          (e.1, lacks_past keys key (omega (arith, behind)))
    ]

pub used_held : (s : Slots) (key : ℕ) → IsOrdered s → IsSome (lies_at s key) → Holds s key
used_held s key ordered some =
    elim (cases_lt (number_place s.order key) (length s.order)) [
      | inl there ↦ there
      | inr past ↦
          let lacks = lacks_past s.order key past in
          let one_more = keys_counted (key ∷ s.order) s.lying (some, lacks, ordered.held) in
          absurd (let same = ordered.counted in omega (arith, one_more, same))
    ]
