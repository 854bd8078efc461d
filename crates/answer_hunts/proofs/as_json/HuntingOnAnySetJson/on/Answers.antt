use Rattle.std.proofs.Common.{◌∙◌, List, ap, ℕ}
use Rattle.hunt_facts.specs.declared.bounds.Bounds.{Bounds}
use Rattle.drvhost_devices.specs.Answer.{ended}
use Rattle.drvhost_devices.specs.declared.fault.End.{End}
use Rattle.answer.specs.Told.{ended_line}
use Rattle.answer_hunts.specs.Hunt.{end_told}
use Rattle.answer_hunts.specs.Json.{hunt_json}
use Rattle.answer_hunts.proofs.as_json.HuntingOnAnySetJson.on.Goals as goal

pub returns : goal.returns
returns g c =
    let told = c.in_ok-hunted.hunted in
    let name = c.args.given.now.name.now in
    let way = c.args.self.now.way in
    let reach = c.args.self.now.reach in
    let schedule = c.in_ok-schedule.schedule in
    let said = c.as_str.result.now in
    let line = c.in_ok-line_of.field-0.items in
    record {
      told = told;
      tells = c.in_ok-hunted.ensures;
      schedule = schedule;
      listed = c.in_ok-schedule.ensures;
      is = c.ended.ensures ∙ ap (λ (end : End). ended end line) c.end_told.ensures
          ∙ ap (λ (t : List ℕ). ended (end_told told) t) c.in_ok-line_of.ensures
          ∙ ap (λ (b : Bounds). ended_line (end_told told) (hunt_json name way b told said schedule))
          c.bounds.ensures.bounds
          ∙ ap (λ (l : List ℕ). ended_line (end_told told) (hunt_json name way reach told l schedule))
          (c.as_str.ensures.value ∙ c.in_ok-line.ensures);
    }
