use Rattle.std.proofs.Common.{rules}
use Rattle.std.proofs.lemmas.Result.{err_from_is_err_and}
use Rattle.drvhost_devices.proofs.Writing.{gathered_broken, gathered_line, gathered_room}
use Rattle.answer_runs.proofs.Serving.{next_command}
use Rattle.answer_runs.proofs.host.tell_commands.Goals as goal

pub returns-in_err-make_room-clause-broken : goal.returns-in_err-make_room-clause-broken
returns-in_err-make_room-clause-broken g c =
    let p = err_from_is_err_and c.from_residual.result c.from_residual.ensures.1 in
    rw p.1
    (gathered_broken _ _ _ _ _ _ _ c.loop-told.invariant.certified
    c.in_err-make_room.ensures.broken)

pub loop-told-preserved : goal.loop-told-preserved
loop-told-preserved g c =
    let number = c.loop-told.invariant.numbered in
    let next = next_command c.args.commands.now c.loop-told.told-index _ c.loop-told-test.true in
    record {
      numbered = search rules;
      fine = search rules;
      certified =
          rw (c.tell_command.ensures.line, number)
          (gathered_line _ _ _ _ _ _ _ _
          (gathered_room _ _ _ _ _ _ _ _ c.loop-told.invariant.certified
          c.in_ok-make_room.ensures.written) next);
    }
