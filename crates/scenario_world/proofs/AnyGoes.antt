-- One of so many threads goes on.
use Rattle.std.proofs.Common.{◌≡◌, ◌≢◌, ◌∙◌, ◌<◌, ℕ, zero, suc, Bool, true, sym, ap, arith, inl, inr}
use Rattle.std.specs.Prelude.{◌||◌}
use Rattle.std.proofs.Math.Bool.{or-true}
use Rattle.std.proofs.lemmas.Bool.Decides.{eqb_tells}
use Rattle.model.specs.Set.{Set}
use Rattle.model.specs.World.{World}
use Rattle.scenario_world.specs.Going.{any_goes_on, goes_on}

pub any_by : (set : Set) (w : World) (t threads : ℕ) → t < threads → goes_on set w t ≡ true
    → any_goes_on set w threads ≡ true
any_by set w t zero less on = absurd (omega (arith, less))
any_by set w t (suc u) less on =
    elim (eqb_tells t u) [
      | inl same ↦
          ap (λ (b : Bool). any_goes_on set w u || b)
          (ap (λ (v : ℕ). goes_on set w v) (sym same.1) ∙ on)
          ∙ or-true (any_goes_on set w u)
      | inr apart ↦
          let other : t ≢ u = apart.1 in
          let fewer : t < u = omega (arith, less, other) in
          ap (λ (b : Bool). b || goes_on set w u) (any_by set w t u fewer on)
    ]
