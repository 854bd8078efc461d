use Rattle.std.proofs.lemmas.Result.{err_from_is_err_and}
use Rattle.answer_runs.proofs.RingsTold.{told_broken, told_written}
use Rattle.answer_runs.proofs.Serving.{IsServedAs, served_broken, served_broken_late, served_told}
use Rattle.answer_runs.proofs.host.tell_hosted.Goals as goal

pub returns-in_err-tell_commands-clause-goes : goal.returns-in_err-tell_commands-clause-goes
returns-in_err-tell_commands-clause-goes g c =
    let p = err_from_is_err_and c.from_residual.result c.from_residual.ensures.1 in
    rw (p.1, p.2, c.in_err-tell_commands.ensures.fault)
    (served_broken c.args.hosted.now c.args.page.now.ringed.items c.args.page.now.words.items (g.O.Sink.contents c.args.out.now)
    (g.O.Sink.contents c.tell_commands.new.out) c.tell_commands.new.lines
    (rw (c.requires.empty, c.as_slice.ensures.value) at c.in_err-tell_commands.ensures.broken))

pub returns-in_err-make_room-clause-goes : goal.returns-in_err-make_room-clause-goes
returns-in_err-make_room-clause-goes g c =
    let p = err_from_is_err_and c.from_residual-in_err-make_room.result
    c.from_residual-in_err-make_room.ensures.1 in
    rw (p.1, p.2, c.in_err-make_room.ensures.fault)
    (served_broken_late c.args.hosted.now c.args.page.now.ringed.items
    c.args.page.now.words.items (g.O.Sink.contents c.args.out.now)
    (g.O.Sink.contents c.tell_commands.new.out) (g.O.Sink.contents c.make_room.new.sink)
    c.tell_commands.new.lines c.make_room.new.lines
    (rw (c.requires.empty, c.as_slice.ensures.value) at c.in_ok-tell_commands.ensures.added)
    c.in_err-make_room.ensures.broken)

pub returns-in_err-write_lines-clause-goes : goal.returns-in_err-write_lines-clause-goes
returns-in_err-write_lines-clause-goes g c =
    let p = err_from_is_err_and c.from_residual-in_err-write_lines.result
    c.from_residual-in_err-write_lines.ensures.1 in
    let ringed = c.args.page.now.ringed.items in
    let words = c.args.page.now.words.items in
    rw (p.1, p.2, c.in_err-write_lines.ensures.fault)
    (told_broken (IsServedAs c.args.hosted.now ringed words) _ _ _ _ _ _
    (served_told c.args.hosted.now ringed words _ _ _ _ _ _ _ _
    (rw (c.requires.empty, c.as_slice.ensures.value) at c.in_ok-tell_commands.ensures.added)
    c.in_ok-make_room.ensures.written c.tell_history-end.ensures.end c.tell_history-end.ensures.line
    c.tell_history-end.ensures.words)
    c.in_err-write_lines.ensures.written)

pub returns-clause-goes : goal.returns-clause-goes
returns-clause-goes g c =
    let ringed = c.args.page.now.ringed.items in
    let words = c.args.page.now.words.items in
    told_written (IsServedAs c.args.hosted.now ringed words) _ _ _ _ _ _
    (served_told c.args.hosted.now ringed words _ _ _ _ _ _ _ _
    (rw (c.requires.empty, c.as_slice.ensures.value) at c.in_ok-tell_commands.ensures.added)
    c.in_ok-make_room.ensures.written c.tell_history-end.ensures.end c.tell_history-end.ensures.line
    c.tell_history-end.ensures.words)
    c.in_ok-write_lines.ensures.written
