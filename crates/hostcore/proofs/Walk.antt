-- A walk along the links of a slot.
use Rattle.std.proofs.Common.{◌≡◌, ◌≤◌, ◌<◌, ◌+◌, ◌-◌, ◌%◌, ◌++◌, ℕ, List, Bool, true, false, Option, None, Some, arith, ap, get_or, length, refl, subst, sym, ◌∙◌}
use Rattle.std.specs.Prelude.{IsTrue, drop, if◌then◌else◌, option_map, slice_get, take}
use Rattle.std.proofs.lemmas.Bool.{eq-eqb, eqb-true}
use Rattle.std.proofs.lemmas.List.{length-take-le, take-append-drop}
use Rattle.std.proofs.lemmas.Option.{slice_get_within}
use Rattle.hostcore.specs.Linked.{IsEnd, IsLinked, is_in, slot_of}
use Rattle.hostcore.specs.Noted.{first_of}
use Rattle.hostcore.proofs.Links.{found_from, get_left, unfound}

module _ {K V : Type 0} (number : K → ℕ) (slots : ℕ) (eq : K → K → Bool) where
  -- what is found in the entries from a place on, where the one before it is of the slot
  pub record Finds (slot : ℕ) (key : K) (xs : List (K × V)) (end : ℕ) (found : Option V)
      : Type 0 where
    pub within : end ≤ length xs
    pub stands : (e : K × V) → 0 < end → slice_get xs (end - 1) ≡ Some e
        → is_in number slots slot e ≡ true
    pub found_is : found ≡ first_of eq (drop end xs) key

  module _ (respects : (a b : K) → IsTrue (eq a b) → number a ≡ number b) (key : K) where
    -- entries of the key are of its slot
    wider : (slot : ℕ) → (number key % slots) ≡ slot → (x : K × V) → eq x.0 key ≡ true
        → is_in number slots slot x ≡ true
    wider slot is x same =
        eq-eqb (number x.0 % slots) slot
        (ap (λ (n : ℕ). n % slots) (respects x.0 key same) ∙ is)

    pub finds_first : (xs : List (K × V)) (end : ℕ) → IsEnd number slots (number key % slots) xs end
        → Finds (number key % slots) key xs end None
    finds_first xs end is =
        record {
          within = is.within;
          stands = is.stands;
          found_is = sym (ap (λ (o : Option (K × V)). option_map (λ (e : K × V). e.1) o)
              (unfound (is_in number slots (number key % slots)) (λ (e : K × V). eq e.0 key) (drop end xs)
              (wider (number key % slots) refl) is.rest));
        }

    chosen : (b : Bool) (e : K × V) (o : Option (K × V))
        → option_map (λ (x : K × V). x.1) (if b then Some e else o)
        ≡ (if b then Some e.1 else option_map (λ (x : K × V). x.1) o)
    chosen true e o = refl
    chosen false e o = refl

    module _ (heads nexts : List ℕ) (xs : List (K × V))
        (linked : IsLinked number slots heads nexts xs) (place : ℕ) (e : K × V)
        (at : slice_get xs place ≡ Some e) (found : Option V)
        (so_far : Finds (number key % slots) key xs (place + 1) found) where
      in_slot : is_in number slots (number key % slots) e ≡ true
      in_slot =
          so_far.stands e (omega arith)
          (subst (λ (k : ℕ). slice_get xs k ≡ Some e) (omega arith) at)

      slot_is : slot_of number slots e ≡ (number key % slots)
      slot_is = eqb-true (slot_of number slots e) (number key % slots) in_slot

      abbrev pub next : ℕ
      next = get_or nexts place 0

      link : IsEnd number slots (slot_of number slots e) (take place xs) next
      link = linked.links place e at

      long : length (take place xs) ≡ place
      long = length-take-le place xs (omega (arith, slice_get_within xs place e at))

      before : (x : K × V) → 0 < next → slice_get xs (next - 1) ≡ Some x
          → is_in number slots (number key % slots) x ≡ true
      before x some there =
          let parts : take place xs ++ drop place xs ≡ xs = take-append-drop place xs in
          let front : slice_get (take place xs) (next - 1) ≡ Some x =
          sym (get_left (take place xs) (drop place xs) (next - 1)
          (omega (arith, some, link.within)))
          ∙ (ap (λ (l : List (K × V)). slice_get l (next - 1)) parts ∙ there) in
          subst (λ (s : ℕ). is_in number slots s x ≡ true) slot_is (link.stands x some front)

      pub finds_next : Finds (number key % slots) key xs next (if eq e.0 key then Some e.1 else found)
      finds_next =
          record {
            within = omega (arith, link.within, long, slice_get_within xs place e at);
            stands = before;
            found_is = ap (λ (o : Option V). if eq e.0 key then Some e.1 else o) so_far.found_is
                ∙ sym (ap (λ (o : Option (K × V)). option_map (λ (x : K × V). x.1) o)
                (found_from number slots (λ (x : K × V). eq x.0 key) xs place next e at link
                (wider (slot_of number slots e) (sym slot_is)))
                ∙ chosen (eq e.0 key) e _);
          }
