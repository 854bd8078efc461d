-- Of a run of an accepted set whose drivers each take their locks in an order no ring is found.
use Rattle.std.proofs.Common.{◌≡◌, ◌∙◌, ◌||◌, ◌∷◌, ℕ, zero, suc, Bool, true, false, List, [], Option, None, Some, refl, ap, eqb-true, inl, inr, nat_eq}
use Rattle.std.proofs.lemmas.Bool.{or_cases}
use Rattle.model.specs.declared.limits.TheConstants.{MAX_THREADS}
use Rattle.model.specs.Run.{run}
use Rattle.model.specs.Set.{Set}
use Rattle.model.specs.World.{World}
use Rattle.laws_runs.specs.Order.{HasLockOrders}
use Rattle.laws_runs.specs.Rest.{AcceptedRunsComeToRest}
use Rattle.laws_runs.specs.Waiting.{WaitInTurn, waits_for}
use Rattle.tell_audit.specs.Findings.{IsOfAccepted, rings_below, ringed_threads}
use Rattle.tell_audit.specs.Laws.{AcceptedRunsHaveNoRing}
use Rattle.tell_audit.specs.Ring.{is_in_ring, is_met}

module _ (set : Set) (w : World)
    (none : (t : ℕ) (between : List ℕ) → WaitInTurn set w t between t → ⊥) where
  abbrev Leads : ℕ → ℕ → Type 0
  Leads v t = (between : List ℕ) × WaitInTurn set w v between t

  -- who is met is waited for, through those between
  met : (t steps v : ℕ) (o : Option ℕ) → waits_for set w v ≡ o → is_met set w t steps o ≡ true
      → Leads v t
  met t zero v o wait is = cc
  met t (suc steps) v None wait is = cc
  met t (suc steps) v (Some u) wait is =
      elim (or_cases (nat_eq u t) (is_met set w t steps (waits_for set w u)) is) [
        | inl same ↦ ([], rw (← eqb-true u t same) wait)
        | inr later ↦
            let rest : Leads u t = met t steps u (waits_for set w u) refl later in
            (u ∷ rest.0, (wait, rest.1))
      ]

  not_ringed : (t : ℕ) (b : Bool) → is_in_ring set w t ≡ b → b ≡ false
  not_ringed t false is = refl
  not_ringed t true is =
      let leads : Leads t t = met t MAX_THREADS t (waits_for set w t) refl is in
      absurd (none t leads.0 leads.1)

  none_below : (t : ℕ) → rings_below set w t ≡ []
  none_below zero = refl
  none_below (suc t) = rw (none_below t, not_ringed t (is_in_ring set w t) refl) refl

pub no_ring : AcceptedRunsComeToRest → AcceptedRunsHaveNoRing
no_ring rests set typable sound orders threads events =
    none_below set (run set threads events).world
    ((rests set typable sound threads events).ring orders).none MAX_THREADS

pub none_ringed : AcceptedRunsHaveNoRing → (set : Set) (w : World) (ringed : List ℕ)
    → ringed ≡ ringed_threads set w → IsOfAccepted set w → HasLockOrders set → ringed ≡ []
none_ringed law set w ringed is h orders =
    is ∙ ap (λ (w : World). ringed_threads set w) h.of
    ∙ law set h.typable h.sound orders h.threads h.events
