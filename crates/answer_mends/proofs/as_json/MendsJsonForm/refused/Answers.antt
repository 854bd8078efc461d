use Rattle.std.proofs.Common.{◌∙◌, List, ap, ℕ}
use Rattle.drvhost_devices.specs.Answer.{Answer, ended}
use Rattle.drvhost_devices.specs.declared.fault.End.{End}
use Rattle.answer.specs.Told.{ended_line}
use Rattle.answer_mends.specs.declared.judged_offers.Offer.{Offer}
use Rattle.answer_mends.specs.Json.{mends_json}
use Rattle.answer_mends.specs.Mend.{any_whole, end_of}
use Rattle.answer_mends.proofs.as_json.MendsJsonForm.refused.Goals as goal

pub returns : goal.returns
returns c =
    let refusal = c.args.refusal.now in
    let name = c.args.name.now in
    let tries = c.args.self.now.asked.tries in
    let held = c.as_slice-2.result.now in
    let line = c.in_ok-line_of.field-0.items in
    let A : List Offer → Answer =
    λ os. ended_line (end_of (any_whole os)) (mends_json name tries refusal os) in
    record {
      refusal = refusal;
      first = c.requires;
      offers = c.in_ok-offers.offers.items;
      are = rw (c.as_slice.ensures.value, c.in_ok-text.ensures) at c.in_ok-offers.ensures;
      is = c.ended.ensures
          ∙ ap (λ (end : End). ended end line) (c.end_of-end.ensures ∙ ap end_of c.any_whole.ensures)
          ∙ ap (λ (t : List ℕ). ended (end_of (any_whole held)) t) c.in_ok-line_of.ensures
          ∙ ap A c.as_slice-2.ensures.value;
    }
