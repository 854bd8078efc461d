use Rattle.std.proofs.Common.{◌≡◌, ◌∙◌, IsTrue, List, length, rules, subst, sym}
use Rattle.std.proofs.lemmas.Result.{IfOk-weaker}
use Rattle.hunt_schedule.specs.Telling.{IsListed, IsWithin, TellsEnd, TellsItsEnd}
use Rattle.model.specs.declared.event.Event.{Event}
use Rattle.hunt_schedule.proofs.reading.tells_listed.Goals as goal

pub returns : goal.returns
returns c =
    let set = c.args.set.now in
    let bounds = c.args.bounds in
    let text = c.args.text.now in
    let its = c.args.listed.now in
    let before = c.in-Some.before.now in
    let last = c.in-Some.last.now in
    let same : c.as_slice-run.result.now ≡ its.run.items = c.as_slice-run.ensures.value in
    let within : IsWithin bounds.events (length c.as_slice-run.result.now) =
    c.is_within.ensures (search rules) in
    let threads : its.threads ≡ bounds.threads = search rules in
    IfOk-weaker c.tells_end.result (λ tells. IsTrue tells → TellsEnd set bounds before last text)
    (λ tells. IsTrue tells → IsListed text its → TellsItsEnd set bounds text)
    (λ tells h told listed.
    record {
      schedule = listed.schedule;
      lists = listed.lists;
      threads = listed.threads ∙ threads;
      before = before;
      last = last;
      events = listed.events ∙ sym same ∙ c.in-Some.ensures.cases.0;
      within =
          subst (λ (events : List Event). IsWithin bounds.events (length events))
          (same ∙ sym listed.events) within;
      tells = h told;
    }) c.tells_end.ensures
