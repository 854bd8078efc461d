use Rattle.std.proofs.Common.{rules, ◌≡◌, None, Some, refl}
use Rattle.drvhost_devices.specs.Answer.{is_image}
use Rattle.answer_mends.specs.Apply.{applied_of, end_with, wanted_of}
use Rattle.answer_mends.proofs.Applied.{applied_told}
use Rattle.answer_mends.proofs.Mends.{first_fault}
use Rattle.answer_mends.proofs.apply.applying_on_refused.Goals as goal

pub returns-in_ok-add_applied-in-Some : goal.returns-in_ok-add_applied-in-Some
returns-in_ok-add_applied-in-Some c =
    let set = c.args.set.now in
    let refusal = c.args.refusal.now in
    let image = is_image c.args.bytes.now in
    let offers = c.in_ok-offers.offers.items in
    let applied = c.in-Some.applied in
    let is : applied_of image (wanted_of c.args.asked.wanted offers) ≡ Some applied = search rules in
    let end : c.end_of.result ≡ end_with (Some applied) = search rules in
    applied_told c.args.asked image c.args.text.now set refusal offers (Some applied)
    c.end_of.result c.in_ok-answer.answer.items c.add_applied.new.text.items
    (first_fault set refusal c.requires c.in_ok-verdict.ensures) c.in_ok-offers.ensures is end
    (search rules) (search rules)

pub returns-in_ok-extend_from_slice-in-None : goal.returns-in_ok-extend_from_slice-in-None
returns-in_ok-extend_from_slice-in-None c =
    let set = c.args.set.now in
    let refusal = c.args.refusal.now in
    let image = is_image c.args.bytes.now in
    let offers = c.in_ok-offers.offers.items in
    let is : applied_of image (wanted_of c.args.asked.wanted offers) ≡ None = search rules in
    applied_told c.args.asked image c.args.text.now set refusal offers None _
    c.in_ok-answer.answer.items c.extend_from_slice.new.self.items
    (first_fault set refusal c.requires c.in_ok-verdict.ensures) c.in_ok-offers.ensures is refl
    (search rules) (search rules)
