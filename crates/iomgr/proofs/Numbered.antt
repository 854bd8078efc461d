-- The slots of live packets stay in the buckets of the packets' numbers.
use Rattle.std.proofs.Common.{◌≡◌, ◌≢◌, ◌<◌, ◌+◌, ℕ, zero, suc, Bool, true, false, IsTrue, List, [], ◌∷◌, Option, Some, None, get_or, inl, inr, length, replicate, ap, sym, ◌∙◌, refl, arith, mod-lt}
use Rattle.std.specs.Prelude.{not, slice_get}
use Rattle.std.proofs.lemmas.Bool.{cases_eq, eq-eqb}
use Rattle.std.proofs.lemmas.Bool.Decides.{eqb_tells}
use Rattle.std.proofs.lemmas.List.{get_or-set_same, get_or-set_other, length-replicate, length-set, map-append}
use Rattle.model.specs.declared.limits.TheConstants.{MAX_LIVE_PACKETS}
use Rattle.model.specs.declared.world.Packet.{Packet}
use Rattle.model.specs.Queues.{inserted, is_linked, unlinked}
use Rattle.devqueue.proofs.Free.{none_has, none_has_one}
use Rattle.devqueue.proofs.Linking.{apart_eq, pushed_other, pushed_self, unlinked_other}
use Rattle.devqueue.specs.Lists.{Lists, entries_of, is_free, with_entries}
use Rattle.iomgr.proofs.Places.{numbers_removed, numbers_set, rising_pushed, rising_removed}
use Rattle.iomgr.proofs.Used.{within}
use Rattle.iomgr.specs.Buckets.{AreEmpty, IsNumbered, bucket_of, is_of_bucket}
use Rattle.iomgr.specs.Numbers.{numbers_of}
use Rattle.iomgr.specs.Slots.{IsFilled, Slots, lies_at, no_slots, place_at, with_slot, without_slot}

abbrev nothing_in : List ℕ
nothing_in = []

none_in : (count bucket slot : ℕ) → is_linked (get_or (replicate count nothing_in) bucket []) slot ≡ false
none_in zero bucket slot = refl
none_in (suc count) zero slot = refl
none_in (suc count) (suc bucket) slot = none_in count bucket slot

pub all_empty : (count : ℕ)
    → AreEmpty count (record { slots = count; lists = replicate count nothing_in })
all_empty count =
    record {
      slots = refl;
      lists = length-replicate count nothing_in;
      none = none_in count;
    }

-- no packets, in no bucket
pub none_numbered : (buckets : Lists) → AreEmpty MAX_LIVE_PACKETS buckets
    → IsNumbered no_slots buckets 0
none_numbered buckets empty =
    record {
      rising = omega arith;
      slots = empty.slots;
      lists = empty.lists;
      listed = empty.none;
    }

bucket_low : (n : ℕ) → bucket_of n < MAX_LIVE_PACKETS
bucket_low n = mod-lt n (omega arith)

not_true : (b : Bool) → IsTrue (not b) → b ≡ false
not_true true h = cc
not_true false h = refl

-- what lies in a slot belongs to the bucket of its number and to no other
of_its : (found : Option Packet) (p : Packet) → found ≡ Some p
    → is_of_bucket found (bucket_of p.number) ≡ true
of_its found p is = rw is (eq-eqb (bucket_of p.number) (bucket_of p.number) refl)

of_other : (found : Option Packet) (p : Packet) (bucket : ℕ) → found ≡ Some p
    → bucket ≢ bucket_of p.number → is_of_bucket found bucket ≡ false
of_other found p bucket is differs =
    rw is (apart_eq (bucket_of p.number) bucket (λ e. differs (sym e)))

module _ (live : Slots) (buckets : Lists) (issued : ℕ) (n : IsNumbered live buckets issued) where
  -- the buckets after another one was put in place of one
  abbrev its : Packet → ℕ
  its p = bucket_of p.number

  its_set : (p : Packet) (slots : List ℕ)
      → entries_of (with_entries buckets (its p) slots) (its p) ≡ slots
  its_set p slots =
      get_or-set_same buckets.lists (its p) slots [] (rw n.lists (bucket_low p.number))

  other_set : (p : Packet) (slots : List ℕ) (bucket : ℕ) → bucket ≢ its p
      → entries_of (with_entries buckets (its p) slots) bucket ≡ entries_of buckets bucket
  other_set p slots bucket differs =
      get_or-set_other buckets.lists (its p) bucket slots [] differs

  -- a slot where nothing lies is free
  pub vacant_free : (key : ℕ) → lies_at live key ≡ None → IsTrue (is_free buckets key)
  vacant_free key vacant =
      rw (none_has key buckets.lists (λ bucket. n.listed bucket key ∙ rw vacant refl)) refl

  -- a packet more
  module _ (after : Slots) (key : ℕ) (p : Packet) (named : p.number ≡ issued)
      (filled : IsFilled live key p after) where
    abbrev more : Lists
    more = with_entries buckets (its p) (inserted (entries_of buckets (its p)) key)

    more_same : (bucket slot : ℕ) → slot ≢ key
        → is_linked (entries_of more bucket) slot ≡ is_linked (entries_of buckets bucket) slot
    more_same bucket slot differs =
        elim (eqb_tells bucket (its p)) [
          | inl b ↦
              rw (b.1, its_set p (inserted (entries_of buckets (its p)) key))
              (pushed_other (entries_of buckets (its p)) key slot
              (apart_eq key slot (λ e. differs (sym e))))
          | inr b ↦ rw (other_set p (inserted (entries_of buckets (its p)) key) bucket b.1) refl
        ]

    more_its : (bucket : ℕ) → is_linked (entries_of more bucket) key
        ≡ is_of_bucket (lies_at after key) bucket
    more_its bucket =
        elim (eqb_tells bucket (its p)) [
          | inl b ↦
              rw (b.1, its_set p (inserted (entries_of buckets (its p)) key))
              (pushed_self (entries_of buckets (its p)) key
              ∙ sym (of_its (lies_at after key) p filled.filled))
          | inr b ↦
              rw (other_set p (inserted (entries_of buckets (its p)) key) bucket b.1)
              (n.listed bucket key ∙ ap (λ found. is_of_bucket found bucket) filled.was_vacant
              ∙ sym (of_other (lies_at after key) p bucket filled.filled b.1))
        ]

    more_listed : (bucket slot : ℕ) → is_linked (entries_of more bucket) slot
        ≡ is_of_bucket (lies_at after slot) bucket
    more_listed bucket slot =
        elim (cases_eq slot key) [
          | inl same ↦ rw same (more_its bucket)
          | inr differs ↦ more_same bucket slot differs ∙ n.listed bucket slot
              ∙ ap (λ found. is_of_bucket found bucket) (sym (filled.others slot differs))
        ]

    pub numbered_more : IsNumbered after more (issued + 1)
    numbered_more =
        record {
          rising =
              rw (filled.packets, map-append (λ (q : Packet). q.number) live.packets (p ∷ []), named)
              (rising_pushed 0 issued (numbers_of live.packets) n.rising);
          slots = n.slots;
          lists = length-set buckets.lists (its p) _ ∙ n.lists;
          listed = more_listed;
        }

  module _ (key : ℕ) (p : Packet) (lies : lies_at live key ≡ Some p) where
    there : key < length live.lying
    there = within live.lying key (rw lies refl)

    -- another packet with the same number
    module _ (q : Packet) (listed : slice_get live.packets (place_at live key) ≡ Some p)
        (same : q.number ≡ p.number) where
      with_lies : (slot : ℕ) → (bucket : ℕ)
          → is_of_bucket (lies_at (with_slot live key q) slot) bucket
          ≡ is_of_bucket (lies_at live slot) bucket
      with_lies slot bucket =
          elim (cases_eq slot key) [
            | inl e ↦
                rw (e, lies, get_or-set_same live.lying key (Some q) None there, same) refl
            | inr e ↦
                rw (get_or-set_other live.lying key slot (Some q) None e) refl
          ]

      pub numbered_with : IsNumbered (with_slot live key q) buckets issued
      numbered_with =
          record {
            rising =
                rw (numbers_set live.packets (place_at live key) p q listed same) n.rising;
            slots = n.slots;
            lists = n.lists;
            listed = λ bucket slot. n.listed bucket slot ∙ sym (with_lies slot bucket);
          }

    -- without the packet
    abbrev less : Lists
    less = with_entries buckets (its p) (unlinked (entries_of buckets (its p)) key)

    pub its_linked : is_linked (entries_of buckets (its p)) key ≡ true
    its_linked = n.listed (its p) key ∙ of_its (lies_at live key) p lies

    module _ (free : IsTrue (is_free less key)) where
      less_same : (bucket slot : ℕ) → slot ≢ key
          → is_linked (entries_of less bucket) slot ≡ is_linked (entries_of buckets bucket) slot
      less_same bucket slot differs =
          elim (eqb_tells bucket (its p)) [
            | inl b ↦
                rw (b.1, its_set p (unlinked (entries_of buckets (its p)) key))
                (unlinked_other (entries_of buckets (its p)) key slot
                (apart_eq key slot (λ e. differs (sym e))))
            | inr b ↦ rw (other_set p (unlinked (entries_of buckets (its p)) key) bucket b.1) refl
          ]

      less_listed : (bucket slot : ℕ) → is_linked (entries_of less bucket) slot
          ≡ is_of_bucket (lies_at (without_slot live key) slot) bucket
      less_listed bucket slot =
          elim (cases_eq slot key) [
            | inl e ↦
                rw (e, get_or-set_same live.lying key None None there)
                (none_has_one key bucket less.lists (not_true _ free))
            | inr e ↦
                rw (get_or-set_other live.lying key slot None None e)
                (less_same bucket slot e ∙ n.listed bucket slot)
          ]

      pub numbered_without : IsNumbered (without_slot live key) less issued
      numbered_without =
          record {
            rising =
                rw (numbers_removed live.packets (place_at live key))
                (rising_removed 0 issued (numbers_of live.packets) (place_at live key) n.rising);
            slots = n.slots;
            lists = length-set buckets.lists (its p) _ ∙ n.lists;
            listed = less_listed;
          }
