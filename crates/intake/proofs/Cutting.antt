-- Cutting one more pass off the first keeps the rule of the queue.
use Rattle.std.proofs.Common.{◌≡◌, ◌≢◌, ℕ, suc, ◌+◌, ◌<◌, ⊎_elim, List, [], ◌∷◌, ◌++◌, length, set, sym, refl, ◌∙◌, subst, length-append, arith}
use Rattle.std.proofs.lemmas.List.{length-set}
use Rattle.std.proofs.lemmas.List.Elements.{All-nil}
use Rattle.std.proofs.lemmas.List.Sums.{sum_by_push}
use Rattle.std.specs.List.{sum_by}
use mathlib.Core.Option.{some}
use lib.ListN.{get_elem?}
use Rattle.crossbeam_queue.specs.Fifo.{Forks}
use Rattle.model.specs.History.{NamedCommand}
use Rattle.intake.specs.declared.rule.Hand.{Hand}
use Rattle.intake.specs.Lists.{weigh}
use Rattle.intake.specs.Rule.{Fits, IsBefore, IsCounted, IsFair, cut_from, cut_off}
use Rattle.intake.proofs.Hands.{at_end, each_set, share, total_set, within}

-- of another pass, of the first, and of the new one
other_fits : (items : List NamedCommand) (passes : ℕ) (counts : ℕ → ℕ) (j : ℕ) (u : Hand) → j ≢ 0
    → Fits items passes counts j u → Fits items (suc passes) counts j u
other_fits items passes counts j u other fits =
    record {
      counted = fits.counted;
      earlier = fits.earlier;
      numbered = fits.numbered;
      puts_counted = fits.puts_counted;
      passes_counted = λ _ first. absurd (other first);
      put_nothing = fits.put_nothing;
      taken_nothing = fits.taken_nothing;
    }

first_fits : (items : List NamedCommand) (passes : ℕ) (counts : ℕ → ℕ) (j : ℕ) (v : Hand)
    → 1 < v.shares → Fits items passes counts j v → Fits items (suc passes) counts j (cut_from v)
first_fits items passes counts j v more_shares fits =
    let has : 0 < v.shares = omega (arith, more_shares) in
    record {
      counted = fits.counted;
      earlier = fits.earlier;
      numbered = λ _. fits.numbered has;
      puts_counted = λ _. fits.puts_counted has;
      passes_counted = λ _ first. omega (arith, fits.passes_counted has first);
      put_nothing = λ none. absurd (omega (arith, none, more_shares));
      taken_nothing = λ none. absurd (omega (arith, none, more_shares));
    }

new_fits : (items : List NamedCommand) (passes : ℕ) (counts : ℕ → ℕ) (j : ℕ) (v : Hand)
    → v.passes ≡ passes → 0 < passes → j ≡ passes → counts j ≡ 0
    → Fits items (suc passes) counts j (cut_off v)
new_fits items passes counts j v all any last none =
    record {
      counted = All-nil (IsCounted counts);
      earlier = All-nil (IsBefore items);
      numbered = λ _. all ∙ sym last;
      puts_counted = λ _. omega (arith, none);
      passes_counted = λ _ first. absurd (omega (arith, any, last, first));
      put_nothing = λ _. refl;
      taken_nothing = λ _. refl;
    }

cut_balanced : (items : List NamedCommand) (views : List Hand) (number : ℕ) (v : Hand)
    → IsFair items views → get_elem? views number ≡ some v → (h : NamedCommand → ℕ)
    → let after : List Hand = set views number (cut_from v) ++ cut_off v ∷ [] in
    sum_by (λ (u : Hand). weigh h u.put) after
    ≡ sum_by (λ (u : Hand). weigh h u.taken) after + weigh h items
cut_balanced items views number v fair at h =
    let f : Hand → ℕ = λ u. weigh h u.put in
    let g : Hand → ℕ = λ u. weigh h u.taken in
    let changed : List Hand = set views number (cut_from v) in
    let s = total_set f views number v (cut_from v) at in
    let t = total_set g views number v (cut_from v) at in
    let a = sum_by_push f changed (cut_off v) in
    let b = sum_by_push g changed (cut_off v) in
    omega (arith, s, t, a, b, fair.balanced h)

pub cuts : (number : ℕ) (v : Hand) → 1 < v.shares → v.number ≡ 0
    → Forks IsFair number v (cut_from v) (cut_off v)
cuts number v more_shares zeroth items views fair at =
    let left : Hand = cut_from v in
    let right : Hand = cut_off v in
    let changed : List Hand = set views number left in
    let count = length views in
    let mine = fair.each number v at in
    let has : 0 < v.shares = omega (arith, more_shares) in
    let first : number ≡ 0 = sym (mine.numbered has) ∙ zeroth in
    let all : v.passes ≡ count = mine.passes_counted has first in
    let any : 0 < count = omega (arith, within views number v at) in
    let same = length-set views number left in
    let longer : suc count ≡ length (changed ++ right ∷ []) =
    omega (arith, same, length-append changed (right ∷ [])) in
    let F : ℕ → Hand → Type 0 = Fits items (suc count) fair.counts in
    let new : F (length changed) right =
    new_fits items count fair.counts (length changed) v all any same
    (fair.uncounted (length changed) (omega (arith, same))) in
    let old : (j : ℕ) (u : Hand) → get_elem? changed j ≡ some u → F j u =
    each_set F views number left (first_fits items count fair.counts number v more_shares mine)
    (λ j u other e. other_fits items count fair.counts j u
    (λ zero. other (zero ∙ sym first)) (fair.each j u e)) in
    record {
      shares = omega (
        arith,
        total_set share views number v left at,
        fair.shares,
        more_shares,
        sum_by_push share changed right,
      );
      balanced = cut_balanced items views number v fair at;
      counts = fair.counts;
      counted = fair.counted;
      in_order = fair.in_order;
      uncounted = λ s past. fair.uncounted s (omega (arith, past, longer));
      each = λ j u e. subst (λ n. Fits items n fair.counts j u) longer
          (⊎_elim (λ (is : get_elem? changed j ≡ some u). old j u is)
          (λ (last : (j ≡ length changed) × (right ≡ u)).
          subst (λ (y : ℕ × Hand). F y.0 y.1) (λ i. (sym last.0 i, last.1 i)) new)
          (at_end changed right u j e));
    }
