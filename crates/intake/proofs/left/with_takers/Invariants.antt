use Rattle.std.proofs.Common.{◌≡◌, ◌<◌, ◌+◌, ℕ, vec_len}
use Rattle.crossbeam_queue.specs.Passes.{IsPassOf}
use Rattle.model.specs.History.{NamedCommand}
use Rattle.intake.specs.Ends.{AreInOrder, AreTakersOf, taker_shares, weigh_taken}
use Rattle.intake.specs.Kept.{known}
use Rattle.intake.specs.Lists.{weigh}
use Rattle.intake.proofs.left.with_takers.Given as goal

abbrev pub invariant-loop-taker : goal.invariant-loop-taker
invariant-loop-taker l =
    record {
      queue : AreTakersOf l.line.table.shared.table_id l.takers.items;
      pass : IsPassOf l.line l.pass;
      some_share : 0 < (known l.pass).shares;
      shares : (known l.pass).shares + taker_shares l.takers.items
          ≡ (known l.fn.pass).shares + taker_shares l.fn.takers.items;
      taken : (h : NamedCommand → ℕ)
          → weigh h (known l.pass).taken + weigh_taken h l.takers.items
          ≡ weigh h (known l.fn.pass).taken + weigh_taken h l.fn.takers.items;
      put : (known l.pass).put ≡ (known l.fn.pass).put;
      order : AreInOrder l.takers.items → AreInOrder l.fn.takers.items;
    }

abbrev pub decreases-loop-taker : goal.decreases-loop-taker
decreases-loop-taker l = vec_len l.takers
