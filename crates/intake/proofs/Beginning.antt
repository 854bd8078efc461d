-- A new queue: its first pass as others are cut off it, and the new submitters and takers.
use Rattle.std.proofs.Common.{◌≡◌, ℕ, suc, ◌+◌, ◌-◌, ◌<◌, ⊎_elim, List, [], ◌∷◌, ◌++◌, length, sym, refl, ap, ◌∙◌, subst, length-append, arith}
use Rattle.std.proofs.lemmas.List.Elements.{All-nil}
use Rattle.std.proofs.lemmas.List.Sums.{sum_by_push}
use mathlib.Core.Option.{some, some-ne-none}
use lib.ListN.{get_elem?}
use Rattle.crossbeam_queue.specs.Fifo.{Forks}
use Rattle.atomic_table.specs.Seated.{TableId}
use Rattle.intake.specs.declared.rule.Hand.{Hand}
use Rattle.intake.specs.Ends.{AreNewTakers, AreOtherSubmitters, IsNewSubmitter, IsNewTaker, SubmitterState, TakerState}
use Rattle.intake.specs.Rule.{Fits, IsBefore, IsCounted, IsFair, all_shares, cut_from, cut_off, first_after, first_hand}
use Rattle.intake.proofs.Cutting.{cuts}
use Rattle.intake.proofs.Hands.{at_end}
use Rattle.intake.proofs.Lists.{get_push}

-- the first pass alone, at an empty queue
first_fits : (j : ℕ) (u : Hand) → get_elem? (first_hand ∷ []) j ≡ some u
    → Fits [] 1 (λ _. 0) j u
first_fits j u e =
    let F : ℕ → Hand → Type 0 = Fits [] 1 (λ _. 0) in
    let here : F 0 first_hand =
    record {
      counted = All-nil (IsCounted (λ _. 0));
      earlier = All-nil (IsBefore []);
      numbered = λ _. refl;
      puts_counted = λ _. omega arith;
      passes_counted = λ _ _. refl;
      put_nothing = λ _. refl;
      taken_nothing = λ _. refl;
    } in
    ⊎_elim (λ (there : get_elem? [] j ≡ some u). absurd (some-ne-none u (sym there)))
    (λ (is : (j ≡ 0) × (first_hand ≡ u)).
    subst (λ (y : ℕ × Hand). F y.0 y.1) (λ i. (sym is.0 i, is.1 i)) here)
    (at_end [] first_hand u j e)

pub begins : IsFair [] (first_hand ∷ [])
begins =
    record {
      shares = refl;
      balanced = λ h. refl;
      counts = λ _. 0;
      counted = All-nil (IsCounted (λ _. 0));
      in_order = λ i j d lt h. absurd (omega (arith, h));
      uncounted = λ _ _. refl;
      each = first_fits;
    }

-- one more pass may be cut off while the first has more than one share
pub first_cuts : (number cut : ℕ) (v : Hand) → v ≡ first_after cut → cut + 1 < all_shares
    → Forks IsFair number v (cut_from v) (cut_off v)
first_cuts number cut v is few =
    let shares = ap (λ (w : Hand). w.shares) is in
    cuts number v (omega (arith, shares, few)) (ap (λ (w : Hand). w.number) is)

-- the first pass after one more
pub next_first : (cut later : ℕ) (v w : Hand) → v ≡ first_after cut → w ≡ cut_from v
    → later ≡ cut + 1 → w ≡ first_after later
next_first cut later v w is next more =
    let shares : all_shares - cut - 1 ≡ all_shares - (cut + 1) = omega arith in
    let passes = cut + 1 + 1 in
    let same : cut_from (first_after cut) ≡ first_after (cut + 1) =
    ap (λ n. record { number = 0; passes = passes; shares = n; put = []; taken = [] })
    shares in
    next ∙ ap cut_from is ∙ same ∙ ap first_after (sym more)

-- one submitter more
pub others_push : (queue : TableId) (count later : ℕ) (xs : List SubmitterState)
    (s : SubmitterState) → AreOtherSubmitters queue count xs → later ≡ count + 1
    → IsNewSubmitter queue later s → s.share ≡ 1
    → AreOtherSubmitters queue later (xs ++ s ∷ [])
others_push queue count later xs s others more new share =
    let counted = length-append xs (s ∷ []) in
    let shared = sum_by_push (λ (t : SubmitterState). t.share) xs s in
    record {
      counted = omega (arith, counted, others.counted, more);
      each = λ i t e. ⊎_elim (λ h. others.each i t h)
          (λ (h : (i ≡ length xs) × (s ≡ t)).
          let at : later ≡ suc i = omega (arith, h.0, others.counted, more) in
          subst (λ n. IsNewSubmitter queue n t) at
          (subst (λ u. IsNewSubmitter queue later u) h.1 new))
          (get_push xs s t i e);
      shared = omega (arith, shared, others.shared, share, more);
    }

-- one taker more
pub takers_push : (queue : TableId) (count later : ℕ) (xs : List TakerState) (t : TakerState)
    → AreNewTakers queue count xs → later ≡ count + 1 → IsNewTaker queue t → t.share ≡ 1
    → AreNewTakers queue later (xs ++ t ∷ [])
takers_push queue count later xs t takers more new share =
    let counted = length-append xs (t ∷ []) in
    let shared = sum_by_push (λ (u : TakerState). u.share) xs t in
    record {
      counted = omega (arith, counted, takers.counted, more);
      each = λ i u e. ⊎_elim (λ h. takers.each i u h)
          (λ (h : (i ≡ length xs) × (t ≡ u)). subst (λ w. IsNewTaker queue w) h.1 new)
          (get_push xs t u i e);
      shared = omega (arith, shared, takers.shared, share, more);
    }
