-- What calls see of rings that agree with lists, before and after a slot joins or leaves one.
use Rattle.std.proofs.Common.{◌≡◌, ◌<◌, ◌≤◌, ◌+◌, ◌^◌, ℕ, zero, suc, Bool, true, false, IsTrue, List, [], ◌∷◌, ◌++◌, length, get_or, replicate, refl, sym, ap, arith, Option, None, Some}
use Rattle.std.proofs.Math.ListN.{set}
use Rattle.std.specs.Prelude.{not}
use Rattle.std.proofs.lemmas.Bool.{eq-eqb}
use Rattle.std.proofs.lemmas.List.{get_or-set_same, length-replicate, length-set, set-get_or}
use Rattle.model.specs.Queues.{head_of, is_linked, unlinked, without_head}
use Rattle.devqueue.specs.Lists.{Lists, entries_of, is_free, with_entries}
use Rattle.devqueue.specs.Rings.{AreAlone, HasJoined, HasLeft}
use Rattle.devqueue.specs.Linked.{AreLinked, Path, lists_shown}
use Rattle.devqueue.proofs.Unlinked.{unlinked_nothing}
use Rattle.devqueue.proofs.Shown.{listed_within, shown}
use Rattle.devqueue.proofs.Linking.{joined_linked, left_linked}
use Rattle.devqueue.proofs.Free.{free_none, none_free}

abbrev pub seen : List ℕ → List (Option ℕ) → Lists
seen nodes list_of = record { slots = length list_of; lists = lists_shown nodes list_of }

sees : (nodes : List ℕ) (list_of : List (Option ℕ)) (lists : List (List ℕ))
    → AreLinked nodes list_of lists → (slots : ℕ) → length list_of ≡ slots
    → seen nodes list_of ≡ record { slots = slots; lists = lists }
sees nodes list_of lists linked slots e = rw (shown nodes list_of lists linked, e) refl

sound : (nodes : List ℕ) (list_of : List (Option ℕ)) (lists : List (List ℕ))
    → AreLinked nodes list_of lists → AreLinked nodes list_of (lists_shown nodes list_of)
sound nodes list_of lists linked = rw (shown nodes list_of lists linked) linked

not_true : (b : Bool) → IsTrue (not b) → b ≡ false
not_true true h = cc
not_true false h = refl

module _ (nodes : List ℕ) (list_of : List (Option ℕ))
    (linked : AreLinked nodes list_of (lists_shown nodes list_of)) (l s : ℕ) where
  abbrev v : Lists
  v = seen nodes list_of

  module _ (later : List ℕ) (at : is_linked (entries_of v l) s ≡ true)
      (has : HasLeft nodes s later) where
    left : AreLinked later (set list_of s None)
        (set (lists_shown nodes list_of) l (unlinked (entries_of v l) s))
    left = left_linked nodes list_of (lists_shown nodes list_of) linked l s at later has

    pub left_sound : AreLinked later (set list_of s None)
        (lists_shown later (set list_of s None))
    left_sound = sound _ _ _ left

    pub left_seen : seen later (set list_of s None)
        ≡ with_entries v l (unlinked (entries_of v l) s)
    left_seen = sees _ _ _ left (length list_of) (length-set list_of s None)

    pub left_free : IsTrue (is_free (seen later (set list_of s None)) s)
    left_free =
        rw (free_none later (set list_of s None) (lists_shown later (set list_of s None))
        left_sound s (get_or-set_same list_of s None None
        (listed_within nodes list_of (lists_shown nodes list_of) linked l s at))) refl

  pub kept_free : IsTrue (is_free v s) → get_or list_of s None ≡ None
  kept_free h =
      none_free nodes list_of (lists_shown nodes list_of) linked s (not_true _ h)

  module _ (later : List ℕ) (l_in : l < length v.lists) (s_in : s < v.slots)
      (free : IsTrue (is_free v s)) (has : HasJoined nodes s (length list_of + l) later) where
    joined : AreLinked later (set list_of s (Some l))
        (set (lists_shown nodes list_of) l (entries_of v l ++ s ∷ []))
    joined =
        joined_linked nodes list_of (lists_shown nodes list_of) linked l s l_in s_in
        (kept_free free) later has

    pub joined_sound : AreLinked later (set list_of s (Some l))
        (lists_shown later (set list_of s (Some l)))
    joined_sound = sound _ _ _ joined

    pub joined_seen : seen later (set list_of s (Some l))
        ≡ with_entries v l (entries_of v l ++ s ∷ [])
    joined_seen = sees _ _ _ joined (length list_of) (length-set list_of s (Some l))

-- the first of a list
module _ (f : ℕ → ℕ) (slots from to : ℕ) where
  pub no_first : (ns : List ℕ) → Path f from ns to → slots ≤ f from
      → ((n : ℕ) → is_linked ns n ≡ true → n < slots) → None ≡ head_of ns
  no_first [] p past below = refl
  no_first (n ∷ ns) p past below =
      let here : is_linked (n ∷ ns) n ≡ true = rw (eq-eqb n n refl) refl in
      let few = below n here in
      absurd (omega (arith, p.0, few, past))

-- taking the first one off is taking it out
pub first_linked : (ns : List ℕ) (n : ℕ) → head_of ns ≡ Some n → is_linked ns n ≡ true
first_linked [] n h = cc
first_linked (m ∷ ns) n h = let e : m ≡ n = cc in rw (eq-eqb m n e) refl

pub first_unlinked : (ns : List ℕ) (n : ℕ) → head_of ns ≡ Some n
    → unlinked ns n ≡ without_head ns
first_unlinked [] n h = cc
first_unlinked (m ∷ ns) n h = let e : m ≡ n = cc in rw (eq-eqb m n e) refl

pub nothing_first : (ns : List ℕ) → head_of ns ≡ None → without_head ns ≡ ns
nothing_first [] h = refl
nothing_first (n ∷ ns) h = cc

-- a list that is put back as it was
pub put_back : (v : Lists) (l : ℕ) (ns : List ℕ) → ns ≡ entries_of v l
    → v ≡ with_entries v l ns
put_back v l ns e =
    rw e (ap (λ (lists : List (List ℕ)). record v { lists = lists })
    (sym (set-get_or v.lists l [])))

pub not_there : (v : Lists) (l s : ℕ) → is_linked (entries_of v l) s ≡ false
    → v ≡ with_entries v l (unlinked (entries_of v l) s)
not_there v l s h = put_back v l _ (unlinked_nothing (entries_of v l) s h)

-- lists that are all empty
abbrev nothing_in : List ℕ
nothing_in = []

abbrev no_one : Option ℕ
no_one = None

all_empty : (n k : ℕ) → get_or (replicate n nothing_in) k [] ≡ []
all_empty zero k = refl
all_empty (suc n) zero = refl
all_empty (suc n) (suc k) = all_empty n k

no_list : (n k : ℕ) → get_or (replicate n no_one) k None ≡ None
no_list zero k = refl
no_list (suc n) zero = refl
no_list (suc n) (suc k) = no_list n k

pub new_linked : (nodes : List ℕ) (slots lists : ℕ) → AreAlone (slots + lists) nodes
    → slots + lists < 2 ^ 32
    → AreLinked nodes (replicate slots None) (replicate lists nothing_in)
new_linked nodes slots lists alone fits =
    record {
      count = rw (length-replicate slots no_one, length-replicate lists nothing_in)
          alone.count;
      fits = rw alone.count fits;
      free = λ t e w. alone.nodes t;
      paths = λ k w. rw (all_empty lists k) (alone.nodes _);
      listed = λ k t. rw (all_empty lists k, no_list slots t) refl;
      once = λ k. rw (all_empty lists k) tt;
    }

pub new_sound : (nodes : List ℕ) (list_of : List (Option ℕ)) (slots lists : ℕ)
    → list_of ≡ replicate slots None → AreAlone (slots + lists) nodes → slots + lists < 2 ^ 32
    → AreLinked nodes list_of (lists_shown nodes list_of)
new_sound nodes list_of slots lists e alone fits =
    rw e (sound _ _ _ (new_linked nodes slots lists alone fits))

pub new_seen : (nodes : List ℕ) (list_of : List (Option ℕ)) (slots lists : ℕ)
    → list_of ≡ replicate slots None → AreAlone (slots + lists) nodes → slots + lists < 2 ^ 32
    → seen nodes list_of ≡ record { slots = slots; lists = replicate lists nothing_in }
new_seen nodes list_of slots lists e alone fits =
    rw e (sees _ _ _ (new_linked nodes slots lists alone fits) slots
    (length-replicate slots no_one))
