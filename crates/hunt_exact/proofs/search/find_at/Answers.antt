use Rattle.hunt_exact.proofs.Ending.{ends_amiss}
use Rattle.hunt_exact.proofs.search.find_at.Goals as goal

pub returns : goal.returns
returns c =
    λ within shortest.
    record {
      amiss =
          ends_amiss c.args.scope.now _ _ _ _ _ _ _ c.set.ensures c.threads.ensures.threads
          c.as_slice.ensures.value c.in_ok-ending.ensures c.in-Some.ensures.0 c.in-Some.ensures.1;
      within = within;
      shortest = shortest;
    }
