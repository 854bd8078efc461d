-- What the types of submitters, takers and left queues keep of their passes.
use Rattle.std.specs.Prelude.{◌≡◌, ◌<◌, Option, [], length}
use Rattle.atomic_table.specs.Seated.{TableId}
use Rattle.crossbeam_queue.specs.Passes.{Pass, view}
use Rattle.crossbeam_queue.specs.declared.array_queue.Doing.{Doing}
use Rattle.crossbeam_queue.specs.declared.array_queue.Slotted.{Slotted}
use Rattle.model.specs.declared.history.Name.{Name}
use Rattle.model.specs.History.{NamedCommand}
use Rattle.intake.specs.declared.rule.Hand.{Hand}
use Rattle.intake.specs.Lists.{IsInOrder, IsNumbered, name_of}
use Rattle.intake.specs.Rule.{all_shares}

abbrev pub Known : Type 0
Known = Pass NamedCommand Hand

-- what the pass of a submitter or a taker knows
abbrev pub known : Known → Hand
known pass = view pass

-- which queue it is: a pass says of which one it is
module _ {T V Q A : Type 0} where
  abbrev pub queue_of : Slotted (Option T) (Doing T V) Q A → TableId
  queue_of line = line.table.shared.table_id

-- no place of the queue is out with the pass
abbrev pub IsAtHome : Known → Type 0
IsAtHome pass = pass.me.1 ≡ []

-- a submitter's pass has taken nothing. The names of what it put count from 0, and the desk has
-- the one that comes next
pub record KeepsSubmitter (next : Name) (pass : Known) : Type 0 where
  pub home : IsAtHome pass
  pub some_share : 0 < (known pass).shares
  pub taken : (known pass).taken ≡ []
  pub next_name : next ≡ name_of (known pass).number (length (known pass).put)
  pub numbered : IsNumbered (known pass).number (known pass).put

-- a taker's pass has put nothing, and took the commands of each submitter in their order
pub record KeepsTaker (pass : Known) : Type 0 where
  pub home : IsAtHome pass
  pub some_share : 0 < (known pass).shares
  pub put : (known pass).put ≡ []
  pub in_order : IsInOrder (known pass).taken

-- the pass of a left queue has all shares of it
abbrev pub HasAllShares : Known → Type 0
HasAllShares pass = (known pass).shares ≡ all_shares
