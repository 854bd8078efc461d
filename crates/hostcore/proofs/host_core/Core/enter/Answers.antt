use Rattle.std.proofs.Common.{◌≡◌, ◌∙◌, false, length, refl, subst, sym}
use Rattle.std.specs.Prelude.{nat_eq}
use Rattle.hostcore.specs.Core.{CoreState}
use Rattle.hostcore.proofs.Keeping.{lets_go_on, kept_more, kept_same}
use Rattle.hostcore.proofs.host_core.Core.enter.Goals as goal

pub append-requires-clause-goes_on : goal.append-requires-clause-goes_on
append-requires-clause-goes_on c =
    lets_go_on _ _ _ _ _ _ _ c.self.invariant c.apply-reply.ensures.applies

pub invariant_of-self : goal.invariant_of-self
invariant_of-self c =
    kept_same _ _ _ _ _ _ _ c.self.invariant c.apply-reply.ensures.applies
    c.waiting_changes_nothing.ensures (sym c.is_kept.ensures ∙ c.if-is_kept.false)

pub invariant_of-self-then-is_some : goal.invariant_of-self-then-is_some
invariant_of-self-then-is_some c =
    kept_more _ _ _ _ _ _ _ c.self.invariant c.apply-reply.ensures.applies _ _ _ refl refl
    (subst (λ (s : CoreState). nat_eq (length s.history) s.log ≡ false) (sym c.self.view_is)
    c.requires.room) c.append.ensures.log c.append.ensures.seats
