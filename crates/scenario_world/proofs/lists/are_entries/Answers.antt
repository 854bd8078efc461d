use Rattle.std.proofs.Common.{rules, ◌≡◌, ◌∙◌, ◌<◌, arith, get_or, length, slice_get, None, true}
use Rattle.scenario_world.specs.Expected.{has_at}
use Rattle.scenario_world.proofs.Entries.{entry_on, entry_within}
use Rattle.scenario_world.proofs.lists.are_entries.Goals as goal

pub loop-number-preserved : goal.loop-number-preserved
loop-number-preserved c =
    let es = c.args.entries.now in
    let ns = c.args.numbers.now in
    let k = c.loop-number.place in
    let i = c.loop-number.number-index in
    let inside : i < length ns = search rules in
    let on : has_at (slice_get es k) (get_or ns i None) ≡ true = search rules in
    record {
      same = entry_on es ns k i None inside on ∙ c.loop-number.invariant.same;
      place = omega (arith, c.loop-number.invariant.place);
      within = entry_within es k (get_or ns i None) on;
    }
