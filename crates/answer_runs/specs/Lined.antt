-- The lines of a trace, as they are added reply after reply.
use Rattle.std.specs.Prelude.{ℕ, ◌≡◌, ◌+◌, ◌++◌, List, length}
use Rattle.model.specs.declared.event.Event.{Event}
use Rattle.model.specs.History.{replies}
use Rattle.model.specs.Set.{Set}
use Rattle.drvhost_devices.specs.declared.device.Sink as sink
use Rattle.drvhost_devices.specs.declared.fault.Fault.{Fault}
use Rattle.drvhost_devices.specs.Device.{Adds, CanCount, TakesBeginning}
use Rattle.drvhost_devices.specs.Fault.{failed_writes}
use Rattle.answer_runs.specs.declared.lined.LineWriter.{LineWriter}
use Rattle.answer_runs.specs.declared.reply_lines.ReplyLines as reply_lines
use Rattle.answer_runs.specs.Traced.{Breaks, lines_by}

-- the lines of the replies to these events were added, and no write has failed
pub record Lines {L O : Type 0} (page : reply_lines.Ghosts L) (output : sink.Ghosts O)
    (start now : LineWriter L O) (set : Set) (threads : ℕ) (past : List Event) : Type 0 where
  pub same_page : now.page.ghost_name ≡ start.page.ghost_name
  pub same_out : now.out.ghost_name ≡ start.out.ghost_name
  pub room : CanCount (output.failures start.out.now)
  pub fine : output.failures now.out.now ≡ output.failures start.out.now
  pub numbered : page.number now.page.now ≡ length past
  pub adds : Adds (output.contents start.out.now) (output.contents now.out.now)
      (page.gathered start.page.now) (page.gathered now.page.now)
      (lines_by page.line 0 (replies set threads past))

-- a write failed, or memory ran out, before all of them were
pub record LinesBreak {L O : Type 0} (page : reply_lines.Ghosts L) (output : sink.Ghosts O)
    (start now : LineWriter L O) (fault : Fault) (set : Set) (threads : ℕ) (past : List Event)
    : Type 0 where
  pub same_page : now.page.ghost_name ≡ start.page.ghost_name
  pub same_out : now.out.ghost_name ≡ start.out.ghost_name
  pub is : Breaks page.lacks fault
  pub failed : output.failures now.out.now
      ≡ output.failures start.out.now + failed_writes fault
  pub takes : TakesBeginning (output.contents start.out.now) (output.contents now.out.now)
      (page.gathered start.page.now ++ lines_by page.line 0 (replies set threads past))
