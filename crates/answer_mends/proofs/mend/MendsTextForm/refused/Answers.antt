use Rattle.std.proofs.Common.{◌∙◌, ◌++◌, List, ap, ℕ}
use Rattle.drvhost_devices.specs.Answer.{Answer, ended}
use Rattle.drvhost_devices.specs.declared.fault.End.{End}
use Rattle.report.specs.Verdict.{refusal_line}
use Rattle.answer_mends.specs.declared.judged_offers.Offer.{Offer}
use Rattle.answer_mends.specs.Mend.{any_whole, end_of, told}
use Rattle.answer_mends.proofs.mend.MendsTextForm.refused.Goals as goal

pub returns : goal.returns
returns c =
    let refusal = c.args.refusal.now in
    let tries = c.args.self.now.asked.tries in
    let held = c.as_slice-offers.result.now in
    let said = c.in_ok-said.said.items in
    let A : List Offer → Answer =
    λ os. ended (end_of (any_whole os)) (refusal_line refusal ++ told tries os) in
    record {
      refusal = refusal;
      first = c.requires;
      offers = c.in_ok-offers.offers.items;
      are = rw (c.as_slice.ensures.value, c.in_ok-text.ensures) at c.in_ok-offers.ensures;
      is = c.ended.ensures
          ∙ ap (λ (end : End). ended end said) (c.end_of.ensures ∙ ap end_of c.any_whole.ensures)
          ∙ ap (λ (t : List ℕ). ended (end_of (any_whole held)) t) c.in_ok-said.ensures
          ∙ ap A c.as_slice-offers.ensures.value;
    }
