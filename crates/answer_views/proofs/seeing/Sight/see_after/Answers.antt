use Rattle.std.proofs.Common.{◌∙◌, refl, rules, sym}
use Rattle.answer_views.proofs.PlainlySeen.{acts_after, keeps_ledger, not_stepped, notes_ledger, stepped, uses_nothing}
use Rattle.answer_views.proofs.seeing.Sight.see_after.Goals as goal

pub returns-then-is_stepped-clause-sees : goal.returns-then-is_stepped-clause-sees
returns-then-is_stepped-clause-sees c =
    record {
      applied = search rules;
      noted =
          keeps_ledger _ _ _ _ c.requires c.apply-self.ensures _ c.plain_steps_keep_ledgers.ensures
          (stepped _ (sym c.is_stepped.ensures ∙ c.if-is_stepped.true));
      kept = search rules;
    }

pub returns-clause-sees : goal.returns-clause-sees
returns-clause-sees c =
    record {
      applied = search rules;
      noted = notes_ledger _ _ _ _ c.requires c.apply-self.ensures _ _ c.in_ok-note.ensures.told;
      kept = search rules;
    }

pub returns-clause-seen : goal.returns-clause-seen
returns-clause-seen c is =
    record {
      event = refl;
      step = uses_nothing _ _ _ _ c.requires c.apply-self.ensures;
      acting =
          acts_after _ _ _ _ c.requires c.apply-self.ensures _ c.plain_steps_step_or_stay.ensures
          (not_stepped _ (sym c.is_stepped.ensures ∙ c.if-is_stepped.false)) c.look_before.ensures;
    }
