-- The links between the entries of a slot.
use Rattle.std.proofs.Common.{◌≡◌, ◌≢◌, ◌<◌, ◌+◌, ◌-◌, ◌++◌, ◌∷◌, ℕ, zero, suc, List, [], Bool, true, false, Option, None, Some, arith, inl, inr, ap, get_or, length, nat_eq, refl, slice_set, subst, sym, ◌∙◌}
use Rattle.std.specs.Prelude.{drop, if◌then◌else◌, slice_get, take}
use Rattle.std.specs.List.{find}
use Rattle.std.specs.Option.{option_or}
use Rattle.std.proofs.lemmas.Bool.{cases_lt, cond_both, eqb-false, eqb-true}
use Rattle.std.proofs.lemmas.List.{drop-append-le, drop_all, drop_more, get_or_append_left, get_or_push, get_or-set_other, get_or-set_same, length_push, length-take-le, take-append-drop, take-append-le, take_all}
use Rattle.std.proofs.lemmas.List.Folds.{find-append}
use Rattle.std.proofs.lemmas.Option.{get_or_from_slice_get, slice_get_within}
use Rattle.hostcore.specs.Linked.{IsEnd, IsLinked, is_in, slot_of}

module _ {X : Type 0} where
  none_left : (b : Bool) (x : X) (o : Option X) → (if b then Some x else o) ≡ None
      → (b ≡ false) × (o ≡ None)
  none_left true x o h = cc
  none_left false x o h = (refl, h)

  -- a narrower test finds nothing where a wider one does not
  pub unfound : (p q : X → Bool) (xs : List X) → ((x : X) → q x ≡ true → p x ≡ true)
      → find p xs ≡ None → find q xs ≡ None
  unfound p q [] wider h = refl
  unfound p q (x ∷ xs) wider h =
      let gone : (p x ≡ false) × (find p xs ≡ None) = none_left (p x) x (find p xs) h in
      cond_both (q x) (Some x) (find q xs) (λ o. o ≡ None)
      (λ yes. let no : p x ≡ false = gone.0 in let is : p x ≡ true = wider x yes in cc)
      (λ no. unfound p q xs wider gone.1)

  or_none : (o rest : Option X) → o ≡ None → option_or o rest ≡ rest
  or_none None rest h = refl
  or_none (Some x) rest h = cc

  pub get_left : (xs ys : List X) (i : ℕ) → i < length xs
      → slice_get (xs ++ ys) i ≡ slice_get xs i
  get_left [] ys i lt = absurd (omega (arith, lt))
  get_left (x ∷ xs) ys zero lt = refl
  get_left (x ∷ xs) ys (suc i) lt = get_left xs ys i (omega (arith, lt))

  get_end : (xs : List X) (y : X) → slice_get (xs ++ y ∷ []) (length xs) ≡ Some y
  get_end [] y = refl
  get_end (x ∷ xs) y = get_end xs y

  last_is : (xs : List X) (y e : X) (i : ℕ) → i ≡ length xs
      → slice_get (xs ++ y ∷ []) i ≡ Some e → y ≡ e
  last_is xs y e i at h =
      let there : slice_get (xs ++ y ∷ []) i ≡ Some y =
      subst (λ (k : ℕ). slice_get (xs ++ y ∷ []) k ≡ Some y) (sym at) (get_end xs y) in
      let both : Some y ≡ Some e = sym there ∙ h in
      cc

module _ {K V : Type 0} (number : K → ℕ) (slots : ℕ) where
  -- what is found from the place after an entry on, and from the end of its slot before it on
  pub found_from : (q : K × V → Bool) (xs : List (K × V)) (place next : ℕ) (e : K × V)
      → slice_get xs place ≡ Some e
      → IsEnd number slots (slot_of number slots e) (take place xs) next
      → ((x : K × V) → q x ≡ true → is_in number slots (slot_of number slots e) x ≡ true)
      → find q (drop next xs) ≡ (if q e then Some e else find q (drop (place + 1) xs))
  found_from q xs place next e at end wider =
      let lt : place < length xs = slice_get_within xs place e at in
      let long : length (take place xs) ≡ place = length-take-le place xs (omega (arith, lt)) in
      let parts : take place xs ++ drop place xs ≡ xs = take-append-drop place xs in
      let cut : drop next xs ≡ drop next (take place xs) ++ drop place xs =
      ap (λ (l : List (K × V)). drop next l) (sym parts)
      ∙ drop-append-le next (take place xs) (drop place xs) end.within in
      let here : get_or xs place e ≡ e = get_or_from_slice_get xs place e e at in
      let rest : drop place xs ≡ e ∷ drop (place + 1) xs =
      drop_more xs place e lt ∙ ap (λ (x : K × V). x ∷ drop (place + 1) xs) here in
      ap (λ (l : List (K × V)). find q l)
      (cut ∙ ap (λ (l : List (K × V)). drop next (take place xs) ++ l) rest)
      ∙ (find-append q (drop next (take place xs)) (e ∷ drop (place + 1) xs)
      ∙ or_none _ _ (unfound _ q (drop next (take place xs)) wider end.rest))

  -- an entry of another slot changes no end
  end_stays : (slot : ℕ) (xs : List (K × V)) (x : K × V) (end : ℕ)
      → IsEnd number slots slot xs end → is_in number slots slot x ≡ false
      → IsEnd number slots slot (xs ++ x ∷ []) end
  end_stays slot xs x end is other =
      record {
        within = omega (arith, is.within, length_push xs x);
        rest = ap (λ (l : List (K × V)). find (is_in number slots slot) l)
            (drop-append-le end xs (x ∷ []) is.within)
            ∙ (find-append (is_in number slots slot) (drop end xs) (x ∷ [])
            ∙ (or_none _ _ is.rest ∙ rw other refl));
        stands = λ e some at. is.stands e some
            (sym (get_left xs (x ∷ []) (end - 1) (omega (arith, some, is.within))) ∙ at);
      }

  -- the new entry is the end of its slot
  end_new : (slot : ℕ) (xs : List (K × V)) (x : K × V) → is_in number slots slot x ≡ true
      → IsEnd number slots slot (xs ++ x ∷ []) (length xs + 1)
  end_new slot xs x same =
      let long : length (xs ++ x ∷ []) ≡ length xs + 1 = length_push xs x in
      record {
        within = omega (arith, long);
        rest = ap (λ (l : List (K × V)). find (is_in number slots slot) l)
            (drop_all (length xs + 1) (xs ++ x ∷ []) (omega (arith, long)));
        stands = λ e some at.
            subst (λ (y : K × V). is_in number slots slot y ≡ true)
            (last_is xs x e (length xs + 1 - 1) (omega arith) at) same;
      }

  module _ (heads nexts reached : List ℕ) (xs : List (K × V)) (x : K × V)
      (linked : IsLinked number slots heads nexts xs)
      (same : (s : ℕ) → get_or reached s 0 ≡ get_or heads s 0)
      (within : slot_of number slots x < length reached) where
    abbrev pub own : ℕ
    own = slot_of number slots x

    end_at : (s : ℕ) (b : Bool) → nat_eq own s ≡ b
        → IsEnd number slots s (xs ++ x ∷ []) (get_or (slice_set reached own (length xs + 1)) s 0)
    end_at s true is =
        let at : own ≡ s = eqb-true own s is in
        subst (λ (k : ℕ). IsEnd number slots s (xs ++ x ∷ []) k)
        (sym (get_or-set_same reached own (length xs + 1) 0 within)
        ∙ ap (λ (k : ℕ). get_or (slice_set reached own (length xs + 1)) k 0) at)
        (end_new s xs x is)
    end_at s false not =
        let other : s ≢ own = λ at. eqb-false own s not (sym at) in
        subst (λ (k : ℕ). IsEnd number slots s (xs ++ x ∷ []) k)
        (sym (get_or-set_other reached own s (length xs + 1) 0 other ∙ same s))
        (end_stays s xs x (get_or heads s 0) (linked.ends s) not)

    link_old : (place : ℕ) (e : K × V) → place < length xs
        → slice_get (xs ++ x ∷ []) place ≡ Some e
        → IsEnd number slots (slot_of number slots e) (take place (xs ++ x ∷ []))
        (get_or (nexts ++ get_or reached own 0 ∷ []) place 0)
    link_old place e lt at =
        let front : take place (xs ++ x ∷ []) ≡ take place xs =
        take-append-le place xs (x ∷ []) (omega (arith, lt)) in
        let next : get_or (nexts ++ get_or reached own 0 ∷ []) place 0 ≡ get_or nexts place 0 =
        get_or_append_left nexts (get_or reached own 0 ∷ []) 0 place
        (omega (arith, lt, linked.long)) in
        rw (front, next)
        (linked.links place e (sym (get_left xs (x ∷ []) place lt) ∙ at))

    link_new : (place : ℕ) (e : K × V) → place ≡ length xs
        → slice_get (xs ++ x ∷ []) place ≡ Some e
        → IsEnd number slots (slot_of number slots e) (take place (xs ++ x ∷ []))
        (get_or (nexts ++ get_or reached own 0 ∷ []) place 0)
    link_new place e end at =
        let is : x ≡ e = last_is xs x e place end at in
        let front : take place (xs ++ x ∷ []) ≡ xs =
        take-append-le place xs (x ∷ []) (omega (arith, end))
        ∙ take_all place xs (omega (arith, end)) in
        let next : get_or (nexts ++ get_or reached own 0 ∷ []) place 0 ≡ get_or heads own 0 =
        get_or_push nexts (get_or reached own 0) 0 place (linked.long ∙ sym end) ∙ same own in
        subst (λ (y : K × V). IsEnd number slots (slot_of number slots y)
        (take place (xs ++ x ∷ [])) (get_or (nexts ++ get_or reached own 0 ∷ []) place 0)) is
        (rw (front, next) (linked.ends own))

    pub linked_more : IsLinked number slots (slice_set reached own (length xs + 1))
        (nexts ++ get_or reached own 0 ∷ []) (xs ++ x ∷ [])
    linked_more =
        let more : length (xs ++ x ∷ []) ≡ length xs + 1 = length_push xs x in
        record {
          long = omega (
            arith,
            linked.long,
            more,
            length_push nexts (get_or reached own 0),
          );
          ends = λ s. end_at s (nat_eq own s) refl;
          links = λ place e at.
              let lt : place < length (xs ++ x ∷ []) =
              slice_get_within (xs ++ x ∷ []) place e at in
              elim (cases_lt place (length xs)) [
                | inl less ↦ link_old place e less at
                | inr end ↦ link_new place e (omega (arith, lt, more, end)) at
              ];
        }
