-- Putting a command keeps the rule of the queue.
use Rattle.std.proofs.Common.{◌≡◌, ◌≢◌, ℕ, ◌+◌, ◌<◌, ◌≤◌, cond, eqb, inl, inr, List, [], ◌∷◌, ◌++◌, length, set, get_or, refl, ap, ◌∙◌, length-append, arith}
use Rattle.std.proofs.lemmas.Bool.Decides.{eqb_tells}
use Rattle.std.proofs.lemmas.List.{length-set}
use Rattle.std.proofs.lemmas.List.Elements.{All-push}
use Rattle.std.proofs.lemmas.List.Quantifiers.{all_pairs_push}
use Rattle.std.proofs.lemmas.List.Sums.{sum_by_push}
use Rattle.std.specs.List.{sum_by}
use mathlib.Core.Option.{some}
use lib.ListN.{get_elem?}
use Rattle.crossbeam_queue.specs.Fifo.{Pushes}
use Rattle.model.specs.declared.history.Name.{Name}
use Rattle.model.specs.History.{NamedCommand}
use Rattle.intake.specs.declared.rule.Hand.{Hand}
use Rattle.intake.specs.Lists.{IsEarlier, IsInOrder, name_of, weigh}
use Rattle.intake.specs.Rule.{AreCounted, Fits, IsCounted, IsFair, Put}
use Rattle.intake.proofs.Hands.{each_fits, share, total_set, within}
use Rattle.intake.proofs.Lists.{behind, more}

-- the counts after the submitter of a number has put one more than n
abbrev counts_after : (ℕ → ℕ) → ℕ → ℕ → ℕ → ℕ
counts_after counts number n s = cond (eqb s number) (n + 1) (counts s)

after_own : (counts : ℕ → ℕ) (number n s : ℕ) → s ≡ number
    → counts_after counts number n s ≡ n + 1
after_own counts number n s e =
    elim (eqb_tells s number) [ inl p ↦ rw p.0 refl | inr p ↦ absurd (p.1 e) ]

after_other : (counts : ℕ → ℕ) (number n s : ℕ) → s ≢ number
    → counts_after counts number n s ≡ counts s
after_other counts number n s ne =
    elim (eqb_tells s number) [ inl p ↦ absurd (ne p.1) | inr p ↦ rw p.0 refl ]

grown : (counts : ℕ → ℕ) (number n : ℕ) → counts number ≤ n → (s : ℕ)
    → counts s ≤ counts_after counts number n s
grown counts number n least s =
    elim (eqb_tells s number) [
      | inl p ↦ (let e = ap counts p.1 in rw p.0 (omega (arith, e, least)))
      | inr p ↦ rw p.0 (omega arith)
    ]

-- the command x is put as the n-th, from 0 on, of the submitter of a number
module _ (items : List NamedCommand) (counts : ℕ → ℕ) (number n : ℕ) (x : NamedCommand)
    (by : x.name.submitter ≡ number) (last : x.name.count ≡ n) (least : counts number ≤ n) where
  abbrev later : ℕ → ℕ
  later = counts_after counts number n

  least_of : counts x.name.submitter ≤ x.name.count
  least_of = let e = ap counts by in omega (arith, e, last, least)

  put_counted : AreCounted counts items → AreCounted later (items ++ x ∷ [])
  put_counted counted =
      let own = after_own counts number n x.name.submitter by in
      let here : IsCounted later x = omega (arith, own, last) in
      All-push (IsCounted later) items x
      (more counts later (grown counts number n least) items counted) here

  put_in_order : AreCounted counts items → IsInOrder items → IsInOrder (items ++ x ∷ [])
  put_in_order counted order =
      all_pairs_push IsEarlier items x order (behind counts x items least_of counted)

  put_fits : (passes j : ℕ) (v : Hand) (put : List NamedCommand)
      → (0 < v.shares → later j ≤ length put) → (v.shares ≡ 0 → put ≡ [])
      → Fits items passes counts j v
      → Fits (items ++ x ∷ []) passes later j (record v { put = put })
  put_fits passes j v put counted nothing fits =
      let before = behind counts x v.taken least_of fits.counted in
      record {
        counted = more counts later (grown counts number n least) v.taken fits.counted;
        earlier = λ k d h. All-push (IsEarlier (get_or v.taken k d)) items x (fits.earlier k d h)
            (before k d h);
        numbered = fits.numbered;
        puts_counted = counted;
        passes_counted = fits.passes_counted;
        put_nothing = nothing;
        taken_nothing = fits.taken_nothing;
      }

  -- of the pass that put it, and of another
  own_fits : (passes : ℕ) (v : Hand) → 0 < v.shares → n ≡ length v.put
      → Fits items passes counts number v
      → Fits (items ++ x ∷ []) passes later number (record v { put = v.put ++ x ∷ [] })
  own_fits passes v some_share all fits =
      let own = after_own counts number n number refl in
      let long : length (v.put ++ x ∷ []) ≡ length v.put + 1 = length-append v.put (x ∷ []) in
      put_fits passes number v (v.put ++ x ∷ []) (λ _. omega (arith, own, long, all))
      (λ none. absurd (omega (arith, none, some_share))) fits

  other_fits : (passes j : ℕ) (u : Hand) → j ≢ number → Fits items passes counts j u
      → Fits (items ++ x ∷ []) passes later j u
  other_fits passes j u other fits =
      let same = after_other counts number n j other in
      put_fits passes j u u.put
      (λ has. let c = fits.puts_counted has in omega (arith, same, c)) fits.put_nothing fits

put_balanced : (items : List NamedCommand) (views : List Hand) (number : ℕ) (v : Hand)
    (x : NamedCommand) → IsFair items views → get_elem? views number ≡ some v
    → (h : NamedCommand → ℕ)
    → let w : Hand = record v { put = v.put ++ x ∷ [] } in
    let after : List Hand = set views number w in
    sum_by (λ (u : Hand). weigh h u.put) after
    ≡ sum_by (λ (u : Hand). weigh h u.taken) after + weigh h (items ++ x ∷ [])
put_balanced items views number v x fair at h =
    let w : Hand = record v { put = v.put ++ x ∷ [] } in
    let s = total_set (λ u. weigh h u.put) views number v w at in
    let t = total_set (λ u. weigh h u.taken) views number v w at in
    omega (arith, s, t, fair.balanced h, sum_by_push h v.put x, sum_by_push h items x)

pub puts : (n number : ℕ) (v : Hand) (x : NamedCommand) → 0 < v.shares
    → x.name ≡ name_of v.number (length v.put) → Pushes IsFair n number v x (Put v x)
puts n number v x some_share named items views room fair at =
    let w : Hand = record v { put = v.put ++ x ∷ [] } in
    let put = length v.put in
    let mine = fair.each number v at in
    let by : x.name.submitter ≡ number =
    ap (λ (z : Name). z.submitter) named ∙ mine.numbered some_share in
    let last : x.name.count ≡ put = ap (λ (z : Name). z.count) named in
    let least = mine.puts_counted some_share in
    let here = within views number v at in
    let same = length-set views number w in (
      w,
      record {
        shares = omega (arith, total_set share views number v w at, fair.shares);
        balanced = put_balanced items views number v x fair at;
        counts = counts_after fair.counts number put;
        counted = put_counted items fair.counts number put x by last least fair.counted;
        in_order = put_in_order items fair.counts number put x by last least fair.counted
            fair.in_order;
        uncounted = λ s past.
            let other : s ≢ number = λ e. omega (arith, e, past, same, here) in
            after_other fair.counts number put s other
            ∙ fair.uncounted s (omega (arith, past, same));
        each = each_fits (items ++ x ∷ []) (counts_after fair.counts number put) views number w
            (own_fits items fair.counts number put x by last least (length views) v some_share refl
            mine)
            (λ j u other e. other_fits items fair.counts number put x by last least (length views)
            j u other (fair.each j u e));
      },
      refl,
    )
