-- What is told of the commands of a script, as their tickets come to an end.
use Rattle.std.proofs.Common.{◌≡◌, ◌≢◌, ◌∙◌, ◌<◌, ◌≤◌, ℕ, suc, ◌+◌, List, [], ◌∷◌, ◌++◌, None, Option, Some, ap, arith, get_or, inl, inr, length, map, refl, replicate, sym, subst}
use Rattle.std.specs.Prelude.{slice_get, slice_set}
use Rattle.std.specs.List.{range_with_len}
use Rattle.std.proofs.lemmas.Bool.{cases_lt}
use Rattle.std.proofs.lemmas.Bool.Decides.{eqb_tells}
use Rattle.std.proofs.lemmas.List.{get_or-replicate, length-set, length_push}
use Rattle.std.proofs.lemmas.List.FromFn.{get_or-map-range_with_len, length-map-range_with_len, map-range_with_len_more}
use Rattle.std.proofs.lemmas.Option.{slice_get-get_or, slice_get_past}
use Rattle.laws_runs.proofs.Lists.{set_other, set_same}
use Rattle.model.specs.declared.event.Reply.{Reply}
use Rattle.model.specs.declared.history.Entry.{Entry}
use Rattle.model.specs.declared.history.Name.{Name}
use Rattle.model.specs.History.{entry_named}
use Rattle.workers_script.specs.Served.{command_name}
use Rattle.workers_script.specs.Told.{Tells, all_told, told_of}

-- two lists that end alike
last_same : {A : Type 0} (xs ys : List A) (x y : A) → xs ++ x ∷ [] ≡ ys ++ y ∷ []
    → length xs ≡ length ys → (xs ≡ ys) × (x ≡ y)
last_same [] [] x y e long = (refl, cc)
last_same [] (b ∷ ys) x y e long = absurd (omega (arith, long))
last_same (a ∷ xs) [] x y e long = absurd (omega (arith, long))
last_same (a ∷ xs) (b ∷ ys) x y e long =
    let tails : xs ++ x ∷ [] ≡ ys ++ y ∷ [] = cc in
    let first : a ≡ b = cc in
    let rest = last_same xs ys x y tails (omega (arith, long)) in
    (ap (λ z. z ∷ xs) first ∙ ap (λ zs. b ∷ zs) rest.0, rest.1)

-- and with the same at each place
same_list : {A : Type 0} (xs ys : List A) → ((k : ℕ) → slice_get xs k ≡ slice_get ys k) → xs ≡ ys
same_list [] [] h = refl
same_list [] (y ∷ ys) h = let e : None ≡ Some y = h 0 in cc
same_list (x ∷ xs) [] h = let e : Some x ≡ None = h 0 in cc
same_list (x ∷ xs) (y ∷ ys) h =
    let e : Some x ≡ Some y = h 0 in
    let first : x ≡ y = cc in
    ap (λ z. z ∷ xs) first ∙ ap (λ zs. y ∷ zs) (same_list xs ys (λ k. h (suc k)))

-- the last ticket is taken off
pub ticket_off : (before after : List Name) (ticket : Name) → before ≡ after ++ ticket ∷ []
    → before ≡ map command_name (range_with_len 0 (length before))
    → (after ≡ map command_name (range_with_len 0 (length after)))
    × (ticket ≡ command_name (length after))
ticket_off before after ticket off numbered =
    let n = length after in
    let long : length before ≡ n + 1 = ap length off ∙ length_push after ticket in
    let all : after ++ ticket ∷ []
    ≡ map command_name (range_with_len 0 n) ++ command_name n ∷ [] =
    sym off ∙ numbered ∙ ap (λ k. map command_name (range_with_len 0 k)) long
    ∙ map-range_with_len_more command_name 0 n n (omega arith) in
    last_same after (map command_name (range_with_len 0 n)) ticket (command_name n) all
    (sym (length-map-range_with_len command_name 0 n))

-- so many commands had tickets, of which the first so many are left, and of the others is told
pub record Told (history : List Entry) (all left : ℕ) (began told : List (Option Reply)) : Type 0
  where
    pub long : length told ≡ length began
    pub done : (k : ℕ) → left ≤ k → k < all → slice_get told k ≡ Some (told_of history k)
    pub others : (k : ℕ) → all ≤ k → slice_get told k ≡ slice_get began k

pub tells_first : (history : List Entry) (all : ℕ) (told : List (Option Reply))
    → Told history all all told told
tells_first history all told =
    record {
      long = refl;
      done = λ k least most. absurd (omega (arith, least, most));
      others = λ k above. refl;
    }

pub tells_next : (history : List Entry) (all left n : ℕ) (began told : List (Option Reply))
    (x : Option Reply) → Told history all left began told → left ≡ n + 1 → n < all
    → all ≤ length began → x ≡ told_of history n → Told history all n began (slice_set told n x)
tells_next history all left n began told x t one few enough is =
    let long = t.long in
    let there : n < length told = omega (arith, few, enough, long) in
    let here = slice_get-get_or told n None there in
    record {
      long = length-set told n x ∙ t.long;
      done = λ k least most. elim (eqb_tells n k) [
        | inl p ↦ subst (λ (i : ℕ). slice_get (slice_set told n x) i ≡ Some (told_of history i)) p.1
            (set_same told n (get_or told n None) x here ∙ ap Some is)
        | inr p ↦ set_other told n k x p.1 ∙ t.done k (apart n k left least p.1 one) most
      ];
      others = λ k above.
          set_other told n k x (λ same. omega (arith, same, above, few)) ∙ t.others k above;
    }
  where
    apart : (n k left : ℕ) → n ≤ k → n ≢ k → left ≡ n + 1 → left ≤ k
    apart n k left least differs one = omega (arith, least, differs, one)

-- no ticket is left
pub tells_end : (history : List Entry) (all left : ℕ) (began told : List (Option Reply))
    → Told history all left began told → left ≡ 0 → Tells history all began told
tells_end history all left began told t none =
    record {
      long = t.long;
      done = λ k few. t.done k (omega (arith, none)) few;
      others = t.others;
    }

-- of a command without an entry nothing is told
left_told : (history : List Entry) (k : ℕ) → entry_named history (command_name k) ≡ None
    → told_of history k ≡ None
left_told history k none = rw none refl

-- what is told of all commands of a script, of which those without a ticket have no entry
pub told_all : (history : List Entry) (count m : ℕ) (told : List (Option Reply))
    → m ≤ count → Tells history m (replicate count None) told
    → ((k : ℕ) → m ≤ k → entry_named history (command_name k) ≡ None)
    → length (replicate {A = Option Reply} count None) ≡ count
    → told ≡ all_told history count
told_all history count m told few t unput begun =
    same_list told (all_told history count) (λ k. elim (cases_lt k count) [
      | inl within ↦ there k within ∙ sym (of_all k within)
      | inr past ↦ slice_get_past told k (omega (arith, long, past))
          ∙ sym (slice_get_past (all_told history count) k (omega (arith, all_long, past)))
    ])
  where
    long : length told ≡ count
    long = t.long ∙ begun

    all_long : length (all_told history count) ≡ count
    all_long = length-map-range_with_len (told_of history) 0 count

    of_all : (k : ℕ) → k < count → slice_get (all_told history count) k ≡ Some (told_of history k)
    of_all k within =
        slice_get-get_or (all_told history count) k None (omega (arith, all_long, within))
        ∙ ap Some (get_or-map-range_with_len (told_of history) 0 count k k None within (omega arith))

    there : (k : ℕ) → k < count → slice_get told k ≡ Some (told_of history k)
    there k within = elim (cases_lt k m) [
      | inl had ↦ t.done k had
      | inr without ↦ t.others k without
          ∙ slice_get-get_or (replicate count None) k None (omega (arith, begun, within))
          ∙ ap Some (get_or-replicate count k None None within
          ∙ sym (left_told history k (unput k without)))
    ]
