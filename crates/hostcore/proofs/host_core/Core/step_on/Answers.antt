use Rattle.std.proofs.Common.{◌≡◌, ◌∙◌, false, length, refl, subst, sym}
use Rattle.std.specs.Prelude.{nat_eq}
use Rattle.hostcore.specs.Core.{CoreState}
use Rattle.hostcore.specs.Stepping.{Steps}
use Rattle.hostcore.specs.declared.host_core.Stepped.TheVariants.{Entered, Idle, Waits}
use Rattle.hostcore.proofs.Keeping.{lets_go_on, kept_more, kept_same}
use Rattle.hostcore.proofs.Stepping.{core_of, enters, is_idle, keeps_idle, waits}
use Rattle.hostcore.proofs.host_core.Core.step_on.Goals as goal

pub append-requires-clause-goes_on : goal.append-requires-clause-goes_on
append-requires-clause-goes_on c =
    lets_go_on _ _ _ _ _ _ _ c.self.invariant c.apply-told.ensures.applies

pub invariant_of-self : goal.invariant_of-self
invariant_of-self c =
    keeps_idle _ _ _ _ _ _ _ c.self.invariant c.apply-told.ensures.applies
    c.waiting_changes_nothing.ensures _ c.had_frames.ensures c.if-not-had_frames.true

pub returns-then-not-had_frames : goal.returns-then-not-had_frames
returns-then-not-had_frames c =
    record {
      steps =
          subst (λ (core : CoreState). Steps core c.args.thread (core_of c.apply-told.new.self
          c.self.inside.threads c.self.inside.log c.self.inside.seats.items) Idle) c.self.view_is
          (is_idle _ _ _ _ _ _ _ c.self.invariant c.apply-told.ensures.applies
          c.waiting_changes_nothing.ensures _ c.had_frames.ensures c.if-not-had_frames.true);
    }

pub invariant_of-self-then-not-is_kept : goal.invariant_of-self-then-not-is_kept
invariant_of-self-then-not-is_kept c =
    kept_same _ _ _ _ _ _ _ c.self.invariant c.apply-told.ensures.applies
    c.waiting_changes_nothing.ensures (sym c.is_kept.ensures ∙ c.if-not-is_kept.true)

pub returns-then-not-is_kept : goal.returns-then-not-is_kept
returns-then-not-is_kept c =
    record {
      steps =
          subst (λ (core : CoreState). Steps core c.args.thread (core_of c.apply-told.new.self
          c.self.inside.threads c.self.inside.log c.self.inside.seats.items) Waits) c.self.view_is
          (waits _ _ _ _ _ _ _ c.self.invariant c.apply-told.ensures.applies
          c.waiting_changes_nothing.ensures _ c.had_frames.ensures c.if-not-had_frames.false
          (subst (λ (s : CoreState). nat_eq (length s.history) s.log ≡ false) (sym c.self.view_is)
          c.requires.room) (sym c.is_kept.ensures ∙ c.if-not-is_kept.true));
    }

pub invariant_of-self-2 : goal.invariant_of-self-2
invariant_of-self-2 c =
    kept_more _ _ _ _ _ _ _ c.self.invariant c.apply-told.ensures.applies _ _ _ refl refl
    (subst (λ (s : CoreState). nat_eq (length s.history) s.log ≡ false) (sym c.self.view_is)
    c.requires.room) c.append.ensures.log c.append.ensures.seats

pub returns : goal.returns
returns c =
    record {
      steps =
          subst (λ (core : CoreState). Steps core c.args.thread (core_of c.apply-told.new.self
          c.self.inside.threads c.append.new.log c.append.new.seats.items) Entered) c.self.view_is
          (enters _ _ _ _ _ _ _ c.self.invariant c.apply-told.ensures.applies
          c.waiting_changes_nothing.ensures _ c.had_frames.ensures c.if-not-had_frames.false
          (subst (λ (s : CoreState). nat_eq (length s.history) s.log ≡ false) (sym c.self.view_is)
          c.requires.room) (sym c.is_kept.ensures ∙ c.if-not-is_kept.false) _ _
          c.append.ensures.log c.append.ensures.seats);
    }
