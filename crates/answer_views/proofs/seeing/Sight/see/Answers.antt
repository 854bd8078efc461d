use Rattle.std.proofs.Common.{rules}
use Rattle.answer_views.proofs.PlainlySeen.{quiet_left_out}
use Rattle.answer_views.proofs.ToldAlone.{noted_by}
use Rattle.answer_views.proofs.seeing.Sight.see.Goals as goal

pub returns-clause-sees : goal.returns-clause-sees
returns-clause-sees c =
    record {
      applied = search rules;
      noted =
          noted_by _ _ _ _ _ _ c.apply-self.ensures
          (rw c.use_step_of-self.ensures at c.in_ok-note.ensures.told);
      kept = search rules;
    }

pub returns-clause-passed : goal.returns-clause-passed
returns-clause-passed c holds =
    let passed = c.is_passed.ensures holds in (quiet_left_out _ _ passed.0, passed.1)
