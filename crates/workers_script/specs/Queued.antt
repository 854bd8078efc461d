-- A queue that has the commands of a script.
use Rattle.std.specs.Prelude.{ℕ, ◌≡◌, ◌<◌, ◌≤◌, ◌+◌, List, length, map, take}
use Rattle.std.specs.List.{range_with_len}
use Rattle.intake.specs.declared.limits.TheConstants.{SHARES}
use Rattle.intake.specs.Ends.{AreNewTakers, AreSubmittersOf, submitter_shares, taker_shares, weigh_put}
use Rattle.intake.specs.Lists.{weigh}
use Rattle.model.specs.declared.history.Command.{Command}
use Rattle.model.specs.History.{NamedCommand}
use Rattle.workers_script.specs.declared.queueing.Queued.{Queued}
use Rattle.workers_script.specs.Served.{command_name, named_from}

-- it was closed, and has a new taker for each of so many workers. The first so many commands of the
-- script were put, under their names, and nothing else; of these there are the tickets, in order
pub record IsQueued (workers : ℕ) (commands : List Command) (q : Queued) : Type 0 where
  pub closed : q.closed ≡ q.intake
  pub takers : AreNewTakers q.intake workers q.takers.items
  pub some : 0 < length q.submitters.items
  pub submitters : AreSubmittersOf q.intake q.submitters.items
  pub shares : submitter_shares q.submitters.items + taker_shares q.takers.items ≡ SHARES
  pub few : length q.tickets.items ≤ length commands
  pub put : (h : NamedCommand → ℕ) → weigh_put h q.submitters.items
      ≡ weigh h (named_from 0 (take (length q.tickets.items) commands))
  pub tickets : q.tickets.items ≡ map command_name (range_with_len 0 (length q.tickets.items))
