use Rattle.std.proofs.Common.{◌≡◌, ◌<◌, ◌+◌, ℕ, vec_len}
use Rattle.crossbeam_queue.specs.Passes.{IsPassOf}
use Rattle.model.specs.History.{NamedCommand}
use Rattle.intake.specs.Ends.{AreNumbered, AreSubmittersOf, submitter_shares, weigh_put}
use Rattle.intake.specs.Kept.{known}
use Rattle.intake.specs.Lists.{weigh}
use Rattle.intake.proofs.left.with_submitters.Given as goal

abbrev pub invariant-loop-submitter : goal.invariant-loop-submitter
invariant-loop-submitter l =
    record {
      queue : AreSubmittersOf l.line.table.shared.table_id l.submitters.items;
      pass : IsPassOf l.line l.pass;
      some_share : 0 < (known l.pass).shares;
      shares : (known l.pass).shares + submitter_shares l.submitters.items
          ≡ (known l.fn.pass).shares + submitter_shares l.fn.submitters.items;
      put : (h : NamedCommand → ℕ)
          → weigh h (known l.pass).put + weigh_put h l.submitters.items
          ≡ weigh h (known l.fn.pass).put + weigh_put h l.fn.submitters.items;
      taken : (known l.pass).taken ≡ (known l.fn.pass).taken;
      names : AreNumbered l.submitters.items → AreNumbered l.fn.submitters.items;
    }

abbrev pub decreases-loop-submitter : goal.decreases-loop-submitter
decreases-loop-submitter l = vec_len l.submitters
