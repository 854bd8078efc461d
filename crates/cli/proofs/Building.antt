-- What is added in turn.
use Rattle.std.proofs.Common.{◌≡◌, ◌∙◌, ◌+◌, ◌<◌, ◌≤◌, ℕ, List, ap, drop, length, map, get_or}
use Rattle.std.proofs.lemmas.List.{drop_all, drop_more}
use Rattle.clap.specs.Words.{App}
use Rattle.cli.specs.Program.{with_all}

-- one is added, and the others are left
pub one_on : {A B : Type 0} (step : App → B → App) (f : A → B) (xs : List A) (d : A) (i : ℕ)
    (whole before after : App) → i < length xs
    → with_all step before (map f (drop i xs)) ≡ whole
    → after ≡ step before (f (get_or xs i d))
    → with_all step after (map f (drop (i + 1) xs)) ≡ whole
one_on step f xs d i whole before after inside h is =
    let later = map f (drop (i + 1) xs) in
    let now : with_all step (step before (f (get_or xs i d))) later ≡ whole =
    rw (drop_more xs i d inside) at h in
    ap (λ (a : App). with_all step a later) is ∙ now

-- none is left
pub all_on : {A B : Type 0} (step : App → B → App) (f : A → B) (xs : List A) (i : ℕ)
    (whole made : App) → length xs ≤ i → with_all step made (map f (drop i xs)) ≡ whole
    → made ≡ whole
all_on step f xs i whole made past h = rw (drop_all i xs past) at h
