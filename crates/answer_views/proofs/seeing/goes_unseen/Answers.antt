use Rattle.std.proofs.Common.{◌∙◌, sym}
use Rattle.answer_views.proofs.PlainlySeen.{quiet_left_out, usual_left_out}
use Rattle.answer_views.proofs.seeing.goes_unseen.Goals as goal

pub returns-in-Quiet : goal.returns-in-Quiet
returns-in-Quiet c holds =
    record {
      left = quiet_left_out _ _ c.in-Quiet.is;
      plain = sym c.is_plain.ensures.plain ∙ holds;
    }

pub returns-in-Usual : goal.returns-in-Usual
returns-in-Usual c holds =
    record {
      left = usual_left_out _ _ c.in-Usual.is (sym c.computes.ensures.computes ∙ holds);
      plain = c.computes.ensures.plain holds;
    }
