use Rattle.std.proofs.Common.{arith, rules}
use Rattle.std.proofs.lemmas.Result.{err_from_is_err_and}
use Rattle.drvhost_devices.proofs.Writing.{gathered_broken, gathered_line, gathered_room}
use Rattle.answer_runs.proofs.Following.{next_lines}
use Rattle.answer_runs.proofs.Lining.{gathered_cut}
use Rattle.answer_runs.proofs.lined.add_replies.Goals as goal

pub returns-in_err-make_room-clause-broken : goal.returns-in_err-make_room-clause-broken
returns-in_err-make_room-clause-broken g c =
    let p = err_from_is_err_and c.from_residual.result c.from_residual.ensures.1 in
    rw p.1
    (gathered_broken _ _ _ _ _ _ _ c.loop-left.invariant.certified
    c.in_err-make_room.ensures.broken)

pub returns-in_err-told-clause-broken : goal.returns-in_err-told-clause-broken
returns-in_err-told-clause-broken g c =
    let p = err_from_is_err_and c.from_residual-in_err-told.result
    c.from_residual-in_err-told.ensures.1 in
    rw p.1
    (gathered_cut _ _ _ _ _ _
    (gathered_room _ _ _ _ _ _ _ _ c.loop-left.invariant.certified
    c.in_ok-make_room.ensures.written))

pub loop-left-preserved : goal.loop-left-preserved
loop-left-preserved g c =
    record {
      numbered = omega (
        arith,
        c.loop-left.invariant.numbered,
        c.in_ok-told.ensures.number,
        c.in_ok-told.ensures.few,
        c.make_room.ensures.number,
      );
      fine = search rules;
      certified =
          rw c.in_ok-told.ensures.added
          (gathered_line _ _ _ _ _ _ _ _
          (gathered_room _ _ _ _ _ _ _ _ c.loop-left.invariant.certified
          c.in_ok-make_room.ensures.written)
          (next_lines _ _ _ _ _ _ _ c.in_ok-told.ensures.few c.make_room.ensures.number
          c.in_ok-told.ensures.number));
    }
