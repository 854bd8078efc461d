use Rattle.std.proofs.Common.{◌≡◌, ◌+◌, replicate}
use Rattle.drvhost_devices.proofs.Writing.{Gathered}
use Rattle.answer_runs.specs.Traced.{lines_by}
use Rattle.answer_runs.proofs.lined.add_replies.Given as goal

abbrev pub invariant-loop-left : goal.invariant-loop-left
invariant-loop-left g l =
    record {
      numbered : g.L.ReplyLines.number l.page + l.left
          ≡ g.L.ReplyLines.number l.initial.page + l.count;
      fine : g.O.Sink.failures l.out ≡ g.O.Sink.failures l.initial.out;
      certified :
          Gathered
          (lines_by g.L.ReplyLines.line (g.L.ReplyLines.number l.initial.page)
          (replicate l.count l.reply))
          (lines_by g.L.ReplyLines.line (g.L.ReplyLines.number l.page) (replicate l.left l.reply))
          (g.O.Sink.contents l.initial.out) (g.O.Sink.contents l.out)
          (g.L.ReplyLines.gathered l.initial.page) (g.L.ReplyLines.gathered l.page);
    }

abbrev pub decreases-loop-left : goal.decreases-loop-left
decreases-loop-left g l = l.left
