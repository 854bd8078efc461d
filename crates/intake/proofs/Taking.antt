-- Taking a command keeps the rule of the queue.
use Rattle.std.proofs.Common.{◌≡◌, ℕ, ◌+◌, ◌<◌, List, [], ◌∷◌, ◌++◌, length, set, get_or, refl, arith}
use Rattle.std.proofs.lemmas.List.{length-set}
use Rattle.std.proofs.lemmas.List.Elements.{All-head, All-push, All-tail}
use Rattle.std.proofs.lemmas.List.Sums.{sum_by-cons, sum_by_push}
use Rattle.std.specs.List.{sum_by}
use mathlib.Core.Option.{some}
use lib.ListN.{get_elem?}
use Rattle.crossbeam_queue.specs.Fifo.{Pops}
use Rattle.model.specs.History.{NamedCommand}
use Rattle.intake.specs.declared.rule.Hand.{Hand}
use Rattle.intake.specs.Lists.{IsEarlier, weigh}
use Rattle.intake.specs.Rule.{Fits, IsBefore, IsCounted, IsFair, Take}
use Rattle.intake.proofs.Hands.{each_fits, share, total_set}
use Rattle.intake.proofs.Lists.{first_before, rest_in_order}

-- of a pass that did not take it, and of the one that did
take_fits : (x : NamedCommand) (items : List NamedCommand) (passes : ℕ) (counts : ℕ → ℕ) (j : ℕ)
    (u : Hand) → Fits (x ∷ items) passes counts j u → Fits items passes counts j u
take_fits x items passes counts j u fits =
    record {
      counted = fits.counted;
      earlier = λ k d h. All-tail (IsEarlier (get_or u.taken k d)) x items (fits.earlier k d h);
      numbered = fits.numbered;
      puts_counted = fits.puts_counted;
      passes_counted = fits.passes_counted;
      put_nothing = fits.put_nothing;
      taken_nothing = fits.taken_nothing;
    }

taken_fits : (x : NamedCommand) (items : List NamedCommand) (passes : ℕ) (counts : ℕ → ℕ) (j : ℕ)
    (v : Hand) → 0 < v.shares → IsCounted counts x → IsBefore items x
    → Fits items passes counts j v
    → Fits items passes counts j (record v { taken = v.taken ++ x ∷ [] })
taken_fits x items passes counts j v some_share below before fits =
    record {
      counted = All-push (IsCounted counts) v.taken x fits.counted below;
      earlier = All-push (IsBefore items) v.taken x fits.earlier before;
      numbered = fits.numbered;
      puts_counted = fits.puts_counted;
      passes_counted = fits.passes_counted;
      put_nothing = fits.put_nothing;
      taken_nothing = λ none. absurd (omega (arith, none, some_share));
    }

take_balanced : (items : List NamedCommand) (views : List Hand) (number : ℕ) (v : Hand)
    (x : NamedCommand) → IsFair (x ∷ items) views → get_elem? views number ≡ some v
    → (h : NamedCommand → ℕ)
    → let w : Hand = record v { taken = v.taken ++ x ∷ [] } in
    let after : List Hand = set views number w in
    sum_by (λ (u : Hand). weigh h u.put) after
    ≡ sum_by (λ (u : Hand). weigh h u.taken) after + weigh h items
take_balanced items views number v x fair at h =
    let w : Hand = record v { taken = v.taken ++ x ∷ [] } in
    let s = total_set (λ u. weigh h u.put) views number v w at in
    let t = total_set (λ u. weigh h u.taken) views number v w at in
    omega (arith, s, t, fair.balanced h, sum_by_push h v.taken x, sum_by-cons h x items)

pub takes : (number : ℕ) (v : Hand) → 0 < v.shares → Pops IsFair number v (Take v)
takes number v some_share x items views fair at =
    let w : Hand = record v { taken = v.taken ++ x ∷ [] } in
    let mine = fair.each number v at in
    let same = length-set views number w in
    let counted = IsCounted fair.counts in (
      w,
      record {
        shares = omega (arith, total_set share views number v w at, fair.shares);
        balanced = take_balanced items views number v x fair at;
        counts = fair.counts;
        counted = All-tail counted x items fair.counted;
        in_order = rest_in_order x items fair.in_order;
        uncounted = λ s past. fair.uncounted s (omega (arith, past, same));
        each = each_fits items fair.counts views number w
            (taken_fits x items (length views) fair.counts number v some_share
            (All-head counted x items fair.counted) (first_before x items fair.in_order)
            (take_fits x items (length views) fair.counts number v mine))
            (λ j u other e. take_fits x items (length views) fair.counts j u (fair.each j u e));
      },
      (refl, λ k d h. All-head (IsEarlier (get_or v.taken k d)) x items (mine.earlier k d h)),
    )
