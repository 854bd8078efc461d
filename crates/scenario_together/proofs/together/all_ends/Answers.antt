use Rattle.std.proofs.Common.{◌≡◌, ◌∙◌, List, length, rules, subst, sym}
use Rattle.model.specs.Set.{Set}
use Rattle.model.specs.Sound.{IsSound}
use Rattle.scenario_run.specs.Playing.{Playing}
use Rattle.scenario_together.specs.Together.{AreEnds}
use Rattle.scenario_together.proofs.Ending.{are_ends, few_may, meet_few}
use Rattle.scenario_together.proofs.together.all_ends.Goals as goal

pub returns : goal.returns
returns c =
    let home = c.args.home.now in
    let paths = c.args.paths.now in
    let law = c.same_worlds_go_on_alike.ensures in
    let kept = c.requires.kept in
    let long : length home.named ≡ 64 = search rules in
    let sound : IsSound home.playing.set =
    subst (λ (s : Set). IsSound s) (c.set.ensures ∙ c.machine.ensures.set)
    c.devices-devices.ensures.sound in
    let few = few_may home.named home.playing long in (
      subst (λ (qs : List Playing). AreEnds home.merges home.named home.playing qs)
          (sym c.in_ok-plays.ensures)
          (are_ends home.named home.playing law home.merges sound paths few kept.0 kept.1),
      meet_few home.named home.playing law home.merges sound paths few kept.0 kept.1
          c.args.worlds c.requires.few,
    )
