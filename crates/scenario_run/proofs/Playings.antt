-- The steps of a scenario, one after another.
use Rattle.std.proofs.Common.{◌≡◌, ◌∙◌, ◌<◌, ◌+◌, ℕ, suc, true, false, Bool, List, ◌∷◌, Some, drop, get_or, length, sym, subst, ap, arith, if◌then◌else◌}
use Rattle.std.proofs.Math.Seq.{drop-cons}
use Rattle.scenario_run.specs.declared.playing.Outcome.{Outcome}
use Rattle.scenario_run.specs.Acting.{Played, acted, passes, played}
use Rattle.scenario_run.specs.Playing.{Playing, Went}
use Rattle.scenario_steps.specs.declared.scenario.Step.{Step}

-- how a step plays, and those behind it
abbrev Behind : Step → List Step → Went → Played
Behind x rest w =
    if passes x.may w.outcome then played w.now rest
    else record { now = w.now; failed = Some x }

abbrev Chosen : Step → List Step → Playing → Bool → Played
Chosen x rest q b = if b then played q rest else record { now = q; failed = Some x }

pub played_on : (p q : Playing) (steps : List Step) (i : ℕ) (d : Step) (outcome : Outcome)
    → i < length steps
    → record { now = q; outcome = outcome } ≡ acted p (get_or steps i d).action
    → passes (get_or steps i d).may outcome ≡ true
    → played q (drop (i + 1) steps) ≡ played p (drop i steps)
played_on p q steps i d outcome inside gone on =
    let x = get_or steps i d in
    let rest = drop (suc i) steps in
    let next : suc i ≡ i + 1 = omega arith in
    let same : played q rest ≡ played p (x ∷ rest) =
    ap (λ b. Chosen x rest q b) (sym on) ∙ ap (λ (w : Went). Behind x rest w) gone in
    subst (λ (k : ℕ). played q (drop k steps) ≡ played p (drop i steps)) next
    (same ∙ ap (λ (left : List Step). played p left) (sym (drop-cons steps i d inside)))

pub played_stop : (p q : Playing) (steps : List Step) (i : ℕ) (d : Step) (outcome : Outcome)
    → i < length steps
    → record { now = q; outcome = outcome } ≡ acted p (get_or steps i d).action
    → passes (get_or steps i d).may outcome ≡ false
    → record { now = q; failed = Some (get_or steps i d) } ≡ played p (drop i steps)
played_stop p q steps i d outcome inside gone off =
    let x = get_or steps i d in
    let rest = drop (suc i) steps in
    let here : Played = record { now = q; failed = Some x } in
    let same : here ≡ played p (x ∷ rest) =
    ap (λ b. Chosen x rest q b) (sym off) ∙ ap (λ (w : Went). Behind x rest w) gone in
    same ∙ ap (λ (left : List Step). played p left) (sym (drop-cons steps i d inside))
