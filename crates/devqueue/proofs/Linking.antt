-- Slots that join lists or leave them: the rings and the list of each slot agree with the lists.
use Rattle.std.proofs.Common.{◌≡◌, ◌≢◌, ◌<◌, ◌+◌, ℕ, Bool, true, false, List, [], ◌∷◌, ◌++◌, length, get_or, refl, sym, ap, ◌∙◌, arith, nat_eq, inl, inr, Option, None, Some}
use Rattle.std.proofs.Math.ListN.{set}
use Rattle.std.specs.Prelude.{◌||◌}
use Rattle.std.proofs.lemmas.Bool.{eq-eqb}
use Rattle.std.proofs.lemmas.Bool.Decides.{eqb_tells}
use Rattle.std.proofs.lemmas.List.{get_or-set_same, get_or-set_other, get_or_past, length-set}
use Rattle.model.specs.Queues.{is_linked, unlinked}
use Rattle.devqueue.specs.Rings.{after, HasJoined, HasLeft}
use Rattle.devqueue.specs.Linked.{AreLinked, IsOnce, Path, is_list}
use Rattle.devqueue.proofs.Paths.{joins, leaves, not_head, stays_joined, stays_left}
use Rattle.devqueue.proofs.Shown.{in_tail, list_within, listed_at, listed_within}

pub apart_eq : (a b : ℕ) → a ≢ b → nat_eq a b ≡ false
apart_eq a b h = elim (eqb_tells a b) [ inl p ↦ absurd (h p.1) | inr p ↦ p.0 ]

-- a list that a number was taken off
pub unlinked_other : (xs : List ℕ) (s t : ℕ) → nat_eq s t ≡ false
    → is_linked (unlinked xs s) t ≡ is_linked xs t
unlinked_other [] s t h = refl
unlinked_other (x ∷ xs) s t h =
    elim (eqb_tells x s) [
      | inl p ↦ rw p.0 (rw p.1 (rw h refl))
      | inr p ↦ rw p.0 (ap (λ (b : Bool). nat_eq x t || b) (unlinked_other xs s t h))
    ]

unlinked_self : (xs : List ℕ) (s : ℕ) → IsOnce xs → is_linked (unlinked xs s) s ≡ false
unlinked_self [] s once = refl
unlinked_self (x ∷ xs) s once =
    elim (eqb_tells x s) [
      | inl p ↦ rw p.0 (rw (← p.1) once.0)
      | inr p ↦ rw p.0 (rw p.0 (unlinked_self xs s once.1))
    ]

unlinked_once : (xs : List ℕ) (s : ℕ) → IsOnce xs → IsOnce (unlinked xs s)
unlinked_once [] s once = tt
unlinked_once (x ∷ xs) s once =
    elim (eqb_tells x s) [
      | inl p ↦ rw p.0 once.1
      | inr p ↦ rw p.0 (
        unlinked_other xs s x (apart_eq s x (λ e. p.1 (sym e))) ∙ once.0,
        unlinked_once xs s once.1,
      )
    ]

-- a list that a number was put to the back of
pub pushed_other : (xs : List ℕ) (s t : ℕ) → nat_eq s t ≡ false
    → is_linked (xs ++ s ∷ []) t ≡ is_linked xs t
pushed_other [] s t h = rw h refl
pushed_other (x ∷ xs) s t h = ap (λ (b : Bool). nat_eq x t || b) (pushed_other xs s t h)

pub pushed_self : (xs : List ℕ) (s : ℕ) → is_linked (xs ++ s ∷ []) s ≡ true
pushed_self [] s = rw (eq-eqb s s refl) refl
pushed_self (x ∷ xs) s = in_tail (nat_eq x s) _ (pushed_self xs s)

pushed_once : (xs : List ℕ) (s : ℕ) → is_linked xs s ≡ false → IsOnce xs
    → IsOnce (xs ++ s ∷ [])
pushed_once [] s h once = (refl, tt)
pushed_once (x ∷ xs) s h once =
    let p = not_head x s xs h in
    let q : nat_eq s x ≡ false =
    elim (eqb_tells s x) [ inl e ↦ (let t = eq-eqb x s (sym e.1) in cc) | inr e ↦ e.0 ] in
    (pushed_other xs s x q ∙ once.0, pushed_once xs s p.1 once.1)

path_as : (h : ℕ → ℕ) (a b : ℕ) (xs ys : List ℕ) → a ≡ b → xs ≡ ys → Path h b ys b
    → Path h a xs a
path_as h a b xs ys e d p = rw (e, d) p

module _ (nodes : List ℕ) (list_of : List (Option ℕ)) (lists : List (List ℕ))
    (linked : AreLinked nodes list_of lists) (l s : ℕ) where
  abbrev xs : List ℕ
  xs = get_or lists l []

  -- nodes of lists are no slots
  far : (k : ℕ) → s < length list_of → nat_eq (length list_of + k) s ≡ false
  far k w = apart_eq (length list_of + k) s (λ e. omega (arith, e, w))

  one_list : (ys : List ℕ) (k : ℕ) → k ≢ l → get_or (set lists l ys) k [] ≡ get_or lists k []
  one_list ys k h = get_or-set_other lists l k ys [] h

  one_slot : (o : Option ℕ) (t : ℕ) → t ≢ s → get_or (set list_of s o) t None ≡ get_or list_of t None
  one_slot o t h = get_or-set_other list_of s t o None h

  counted : (o : Option ℕ) (k : ℕ) → length (set list_of s o) + k ≡ length list_of + k
  counted o k = ap (λ (m : ℕ). m + k) (length-set list_of s o)

  module _ (at : is_linked (get_or lists l []) s ≡ true) (later : List ℕ)
      (has : HasLeft nodes s later) where
    abbrev rest : List ℕ
    rest = unlinked xs s

    s_in : s < length list_of
    s_in = listed_within nodes list_of lists linked l s at

    l_in : l < length lists
    l_in = list_within nodes list_of lists linked l s at

    elsewhere : (k : ℕ) → k ≢ l → is_linked (get_or lists k []) s ≡ false
    elsewhere k h =
        linked.listed k s ∙ ap (is_list k) (listed_at nodes list_of lists linked l s at)
        ∙ apart_eq l k (λ e. h (sym e))

    rest_here : get_or (set lists l rest) l [] ≡ rest
    rest_here = get_or-set_same lists l rest [] l_in

    none_here : get_or (set list_of s None) s None ≡ None
    none_here = get_or-set_same list_of s None None s_in

    left_free : (t : ℕ) → get_or (set list_of s None) t None ≡ None
        → t < length (set list_of s None) → after later t ≡ t
    left_free t e w =
        elim (eqb_tells t s) [
          | inl q ↦ has.nodes t ∙ rw q.0 (sym q.1)
          | inr q ↦
              let free : after nodes t ≡ t =
              linked.free t (sym (one_slot None t q.1) ∙ e) (rw (← length-set list_of s None) w) in
              has.nodes t ∙ rw q.0 (rw free (rw q.0 refl))
        ]

    left_path : (k : ℕ) → k < length (set lists l rest)
        → Path (after later) (length (set list_of s None) + k) (get_or (set lists l rest) k [])
        (length (set list_of s None) + k)
    left_path k w =
        let v : k < length lists = rw (← length-set lists l rest) w in
        elim (eqb_tells k l) [
          | inl p ↦ path_as (after later) _ (length list_of + l) _ rest
              (counted None k ∙ ap (λ (m : ℕ). length list_of + m) p.1)
              (ap (λ (m : ℕ). get_or (set lists l rest) m []) p.1 ∙ rest_here)
              (leaves (after nodes) (after later) s has.nodes (length list_of + l) xs
              (length list_of + l) (far l s_in) (linked.once l) (far l s_in)
              (linked.paths l l_in))
          | inr p ↦ path_as (after later) _ (length list_of + k) _ (get_or lists k [])
              (counted None k) (one_list rest k p.1)
              (stays_left (after nodes) (after later) s has.nodes (length list_of + k)
              (get_or lists k []) (length list_of + k) (far k s_in) (elsewhere k p.1)
              (far k s_in) (linked.paths k v))
        ]

    left_listed : (k t : ℕ) → is_linked (get_or (set lists l rest) k []) t
        ≡ is_list k (get_or (set list_of s None) t None)
    left_listed k t =
        elim (eqb_tells k l) [
          | inl p ↦ elim (eqb_tells t s) [
            | inl q ↦ rw (p.1, q.1, rest_here, none_here) (unlinked_self xs s (linked.once l))
            | inr q ↦ rw (p.1, rest_here, one_slot None t q.1)
                (unlinked_other xs s t (apart_eq s t (λ e. q.1 (sym e))) ∙ linked.listed l t)
          ]
          | inr p ↦ elim (eqb_tells t s) [
            | inl q ↦ rw (q.1, one_list rest k p.1, none_here) (elsewhere k p.1)
            | inr q ↦ rw (one_list rest k p.1, one_slot None t q.1) (linked.listed k t)
          ]
        ]

    left_once : (k : ℕ) → IsOnce (get_or (set lists l rest) k [])
    left_once k =
        elim (eqb_tells k l) [
          | inl p ↦ rw (p.1, rest_here) (unlinked_once xs s (linked.once l))
          | inr p ↦ rw (one_list rest k p.1) (linked.once k)
        ]

    pub left_linked : AreLinked later (set list_of s None) (set lists l rest)
    left_linked =
        record {
          count = rw (has.count, length-set list_of s None, length-set lists l rest) linked.count;
          fits = rw has.count linked.fits;
          free = left_free;
          paths = left_path;
          listed = left_listed;
          once = left_once;
        }

  module _ (l_in : l < length lists) (s_in : s < length list_of)
      (no : get_or list_of s None ≡ None) (later : List ℕ)
      (has : HasJoined nodes s (length list_of + l) later) where
    abbrev longer : List ℕ
    longer = xs ++ s ∷ []

    nowhere : (k : ℕ) → is_linked (get_or lists k []) s ≡ false
    nowhere k = linked.listed k s ∙ ap (is_list k) no

    no_node : (k : ℕ) → is_linked (get_or lists k []) (length list_of + l) ≡ false
    no_node k =
        linked.listed k (length list_of + l)
        ∙ ap (is_list k) (get_or_past list_of (length list_of + l) None (omega arith))

    longer_here : get_or (set lists l longer) l [] ≡ longer
    longer_here = get_or-set_same lists l longer [] l_in

    some_here : get_or (set list_of s (Some l)) s None ≡ Some l
    some_here = get_or-set_same list_of s (Some l) None s_in

    joined_free : (t : ℕ) → get_or (set list_of s (Some l)) t None ≡ None
        → t < length (set list_of s (Some l)) → after later t ≡ t
    joined_free t e w =
        elim (eqb_tells t s) [
          | inl q ↦
              let not : Some l ≡ None =
              sym some_here ∙ ap (λ (m : ℕ). get_or (set list_of s (Some l)) m None) (sym q.1) ∙ e in
              absurd (cc)
          | inr q ↦
              let v : t < length list_of = rw (← length-set list_of s (Some l)) w in
              let free : after nodes t ≡ t =
              linked.free t (sym (one_slot (Some l) t q.1) ∙ e) v in
              let apart : nat_eq t (length list_of + l) ≡ false =
              apart_eq t (length list_of + l) (λ e. omega (arith, e, v)) in
              has.nodes t ∙ rw q.0 (rw free (rw apart refl))
        ]

    joined_path : (k : ℕ) → k < length (set lists l longer)
        → Path (after later) (length (set list_of s (Some l)) + k)
        (get_or (set lists l longer) k []) (length (set list_of s (Some l)) + k)
    joined_path k w =
        let v : k < length lists = rw (← length-set lists l longer) w in
        elim (eqb_tells k l) [
          | inl p ↦ path_as (after later) _ (length list_of + l) _ longer
              (counted (Some l) k ∙ ap (λ (m : ℕ). length list_of + m) p.1)
              (ap (λ (m : ℕ). get_or (set lists l longer) m []) p.1 ∙ longer_here)
              (joins (after nodes) (after later) s (length list_of + l) has.nodes
              (length list_of + l) xs (far l s_in) (nowhere l) (no_node l)
              (linked.paths l l_in))
          | inr p ↦ path_as (after later) _ (length list_of + k) _ (get_or lists k [])
              (counted (Some l) k) (one_list longer k p.1)
              (stays_joined (after nodes) (after later) s (length list_of + l) has.nodes
              (length list_of + k) (get_or lists k []) (length list_of + k) (far k s_in)
              (nowhere k) (no_node k)
              (apart_eq (length list_of + k) (length list_of + l) (λ e. p.1 (omega (arith, e))))
              (linked.paths k v))
        ]

    joined_listed : (k t : ℕ) → is_linked (get_or (set lists l longer) k []) t
        ≡ is_list k (get_or (set list_of s (Some l)) t None)
    joined_listed k t =
        elim (eqb_tells k l) [
          | inl p ↦ elim (eqb_tells t s) [
            | inl q ↦ rw (p.1, q.1, longer_here, some_here)
                (pushed_self xs s ∙ sym (eq-eqb l l refl))
            | inr q ↦ rw (p.1, longer_here, one_slot (Some l) t q.1)
                (pushed_other xs s t (apart_eq s t (λ e. q.1 (sym e))) ∙ linked.listed l t)
          ]
          | inr p ↦ elim (eqb_tells t s) [
            | inl q ↦ rw (q.1, one_list longer k p.1, some_here)
                (nowhere k ∙ sym (apart_eq l k (λ e. p.1 (sym e))))
            | inr q ↦ rw (one_list longer k p.1, one_slot (Some l) t q.1) (linked.listed k t)
          ]
        ]

    joined_once : (k : ℕ) → IsOnce (get_or (set lists l longer) k [])
    joined_once k =
        elim (eqb_tells k l) [
          | inl p ↦ rw (p.1, longer_here) (pushed_once xs s (nowhere l) (linked.once l))
          | inr p ↦ rw (one_list longer k p.1) (linked.once k)
        ]

    pub joined_linked : AreLinked later (set list_of s (Some l)) (set lists l longer)
    joined_linked =
        record {
          count = rw (has.count, length-set list_of s (Some l), length-set lists l longer)
              linked.count;
          fits = rw has.count linked.fits;
          free = joined_free;
          paths = joined_path;
          listed = joined_listed;
          once = joined_once;
        }
