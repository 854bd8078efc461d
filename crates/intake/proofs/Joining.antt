-- Joining two passes keeps the rule of the queue.
use Rattle.std.proofs.Common.{◌≡◌, ℕ, ◌+◌, ◌<◌, ⊎_elim, List, length, set, sym, refl, ◌∙◌, subst, length-append, arith}
use Rattle.std.proofs.lemmas.List.{length-set}
use Rattle.std.proofs.lemmas.List.Elements.{All-append, All-nil}
use Rattle.std.proofs.lemmas.List.Sums.{sum_by-append}
use Rattle.std.specs.List.{sum_by}
use mathlib.Core.Option.{some}
use lib.ListN.{get_elem?}
use Rattle.crossbeam_queue.specs.Fifo.{Merges}
use Rattle.crossbeam_queue.proofs.Lists.{at_set}
use Rattle.model.specs.History.{NamedCommand}
use Rattle.intake.specs.declared.rule.Hand.{Hand}
use Rattle.intake.specs.Lists.{weigh}
use Rattle.intake.specs.Rule.{Fits, IsBefore, IsCounted, IsFair, joined, spent}
use Rattle.intake.proofs.Hands.{each_set, share, total_set}

-- of the pass that takes in the other, and of that other
joined_fits : (items : List NamedCommand) (passes : ℕ) (counts : ℕ → ℕ) (j other : ℕ) (v w : Hand)
    → 0 < v.shares → Fits items passes counts j v → Fits items passes counts other w
    → Fits items passes counts j (joined v w)
joined_fits items passes counts j other v w has mine theirs =
    record {
      counted = All-append (IsCounted counts) v.taken w.taken mine.counted theirs.counted;
      earlier = All-append (IsBefore items) v.taken w.taken mine.earlier theirs.earlier;
      numbered = λ _. mine.numbered has;
      puts_counted = λ _.
          omega (arith, mine.puts_counted has, length-append v.put w.put);
      passes_counted = λ _. mine.passes_counted has;
      put_nothing = λ none. absurd (omega (arith, none, has));
      taken_nothing = λ none. absurd (omega (arith, none, has));
    }

spent_fits : (items : List NamedCommand) (passes : ℕ) (counts : ℕ → ℕ) (j : ℕ)
    → Fits items passes counts j spent
spent_fits items passes counts j =
    record {
      counted = All-nil (IsCounted counts);
      earlier = All-nil (IsBefore items);
      numbered = λ h. absurd (omega (arith, h));
      puts_counted = λ h. absurd (omega (arith, h));
      passes_counted = λ h. absurd (omega (arith, h));
      put_nothing = λ _. refl;
      taken_nothing = λ _. refl;
    }

-- a sum over all views, after the view v took in the view w
total_joined : (f : Hand → ℕ) (views : List Hand) (number other : ℕ) (v w : Hand)
    → get_elem? views number ≡ some v → get_elem? (set views number (joined v w)) other ≡ some w
    → f (joined v w) ≡ f v + f w → f spent ≡ 0
    → sum_by f (set (set views number (joined v w)) other spent) ≡ sum_by f views
total_joined f views number other v w at at_other both nothing =
    let a = total_set f views number v (joined v w) at in
    let b = total_set f (set views number (joined v w)) other w spent at_other in
    omega (arith, a, b, both, nothing)

pub joins : (number : ℕ) (v : Hand) (other : ℕ) (w : Hand) → 0 < v.shares
    → Merges IsFair number v other w (joined v w) spent
joins number v other w has items views fair at apart at_other =
    let both : Hand = joined v w in
    let changed : List Hand = set views number both in
    let count = length views in
    let was : get_elem? views other ≡ some w =
    ⊎_elim (λ h. absurd (apart h.0)) (λ h. h.1) (at_set views number other both w at_other) in
    let same : length (set changed other spent) ≡ count =
    length-set changed other spent ∙ length-set views number both in
    let F : ℕ → Hand → Type 0 = Fits items count fair.counts in
    let mine : F number both =
    joined_fits items count fair.counts number other v w has (fair.each number v at)
    (fair.each other w was) in
    let once : (j : ℕ) (u : Hand) → get_elem? changed j ≡ some u → F j u =
    each_set F views number both mine (λ j u _ e. fair.each j u e) in
    let twice : (j : ℕ) (u : Hand) → get_elem? (set changed other spent) j ≡ some u → F j u =
    each_set F changed other spent (spent_fits items count fair.counts other)
    (λ j u _ e. once j u e) in
    record {
      shares = total_joined share views number other v w at at_other refl refl ∙ fair.shares;
      balanced = λ h.
          let s = total_joined (λ u. weigh h u.put) views number other v w at at_other
          (sum_by-append h v.put w.put) refl in
          let t = total_joined (λ u. weigh h u.taken) views number other v w at at_other
          (sum_by-append h v.taken w.taken) refl in
          omega (arith, s, t, fair.balanced h);
      counts = fair.counts;
      counted = fair.counted;
      in_order = fair.in_order;
      uncounted = λ s past. fair.uncounted s (omega (arith, past, same));
      each = λ j u e. subst (λ n. Fits items n fair.counts j u) (sym same) (twice j u e);
    }
