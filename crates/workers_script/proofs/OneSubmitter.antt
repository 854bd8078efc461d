-- The one submitter of a script's commands.
use Rattle.std.proofs.Common.{◌≡◌, ◌∙◌, ℕ, zero, suc, ◌+◌, ◌<◌, List, [], ◌∷◌, ap, arith, get_or, length, refl, subst, sym}
use Rattle.std.specs.Prelude.{slice_set}
use Rattle.std.proofs.lemmas.List.Sums.{sum_by-cons}
use Rattle.std.proofs.lemmas.Option.{slice_get-get_or}
use Rattle.model.specs.History.{NamedCommand}
use Rattle.intake.specs.Ends.{AreNewSubmitters, AreSubmittersOf, IsNewSubmitter, SubmitterState, TakerState, submitter_shares, weigh_put, weigh_taken}
use Rattle.intake.specs.Lists.{weigh}
use Rattle.workers_script.proofs.TakerLists.{AreOfPut}

pub is_new : (queue : _) (xs : List SubmitterState) (s : SubmitterState)
    → AreNewSubmitters queue 1 xs → s ≡ get_or xs 0 s → IsNewSubmitter queue 0 s
is_new queue xs s new is =
    subst (IsNewSubmitter queue 0) (sym is)
    (new.each 0 (get_or xs 0 s)
    (slice_get-get_or xs 0 s (let one = new.counted in omega (arith, one))))

set_one : {A : Type 0} (xs : List A) (y : A) → length xs ≡ 1 → slice_set xs 0 y ≡ y ∷ []
set_one [] y one = absurd (omega (arith, one))
set_one (x ∷ []) y one = refl
set_one (x ∷ z ∷ xs) y one = absurd (omega (arith, one))

all_one : {A : Type 0} (xs : List A) (d : A) → length xs ≡ 1 → xs ≡ get_or xs 0 d ∷ []
all_one [] d one = absurd (omega (arith, one))
all_one (x ∷ []) d one = refl
all_one (x ∷ z ∷ xs) d one = absurd (omega (arith, one))

-- after it has submitted, it is of its queue still
pub submitter_kept : (queue : _) (xs : List SubmitterState) (s : SubmitterState)
    → length xs ≡ 1 → s.queue ≡ queue → AreSubmittersOf queue (slice_set xs 0 s)
submitter_kept queue xs s one of_queue =
    let P : List SubmitterState → Type 0 = AreSubmittersOf queue in
    subst P (sym (set_one xs s one)) (λ k d within. alone k d within)
  where
    alone : (k : ℕ) (d : SubmitterState) → k < length (s ∷ []) → (get_or (s ∷ []) k d).queue ≡ queue
    alone zero d within = of_queue
    alone (suc k) d within = absurd (omega (arith, within))

-- and has its share
pub share_kept : (xs : List SubmitterState) (s after : SubmitterState) → length xs ≡ 1
    → s ≡ get_or xs 0 s → after.share ≡ s.share
    → submitter_shares (slice_set xs 0 after) ≡ submitter_shares xs
share_kept xs s after one is same =
    let now = ap submitter_shares (set_one xs after one) in
    let before = ap submitter_shares (all_one xs s one) in
    let now_is = sum_by-cons (λ (x : SubmitterState). x.share) after [] in
    let before_is = sum_by-cons (λ (x : SubmitterState). x.share) (get_or xs 0 s) [] in
    let share = ap (λ (x : SubmitterState). x.share) is in
    omega (arith, now, before, now_is, before_is, share, same)

-- what it put is all that was put
pub weigh_one : (h : NamedCommand → ℕ) (xs : List SubmitterState) (s : SubmitterState)
    → length xs ≡ 1 → weigh_put h (slice_set xs 0 s) ≡ weigh h s.put
weigh_one h xs s one =
    omega (
      arith,
      ap (weigh_put h) (set_one xs s one),
      sum_by-cons (λ (x : SubmitterState). weigh h x.put) s [],
    )

-- what takers took is among what was put
pub of_put : (put : List NamedCommand) (xs : List SubmitterState) (ts : List TakerState)
    → ((h : NamedCommand → ℕ) → weigh_put h xs ≡ weigh h put)
    → ((rest : List NamedCommand) × ((h : NamedCommand → ℕ)
    → weigh_put h xs ≡ weigh_taken h ts + weigh h rest))
    → AreOfPut put ts
of_put put xs ts all among = (among.0, λ h. sym (all h) ∙ among.1 h)
