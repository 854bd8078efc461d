use Rattle.std.proofs.Common.{◌≡◌, ◌∙◌, ◌+◌, ◌++◌, Err, Ok, List, ap, append_assoc, arith, drop, subst, sym}
use Rattle.std.proofs.lemmas.List.{length-append, take-append-drop}
use Rattle.drvhost_devices.specs.Device.{SaysBehind}
use Rattle.drvhost_many.specs.All.{Counted, EachGoes, width_of}
use Rattle.drvhost_many.specs.One.{halt_status}
use Rattle.drvhost_many.proofs.Ending.{SoFar, ends_all, halts, none_left, so_far_window}
use Rattle.drvhost_many.proofs.many.answer_all.Goals as goal

pub returns-in-Err-clause-answers : goal.returns-in-Err-clause-answers
returns-in-Err-clause-answers g c =
    let at = c.loop-rest.invariant in
    let so = at.answered in
    let judging = c.args.sets.judging in
    let width = width_of c.args.sets.jobs in
    let supply = g.F.Files.supply c.args.files.now in
    let rest = c.loop-rest.rest.now in
    let window = c.split_at.result.0.now in
    let behind = c.split_at.result.1.now in
    let failures = c.failures-failures.result in
    let cut : rest ≡ window ++ behind =
    sym (take-append-drop c.min.result rest)
    ∙ ap (λ l. l ++ drop c.min.result rest) (sym c.split_at.ensures.front)
    ∙ ap (λ l. window ++ l) (sym c.split_at.ensures.back) in
    let goes =
    subst (λ s. Counted (EachGoes judging width s window (Err c.in-Err.halt)) (g.F.Files.opened c.loop-rest.files)
    (g.F.Files.opened c.answer_window.new.files) (g.F.Files.failures c.loop-rest.files)
    (g.F.Files.failures c.answer_window.new.files) (g.O.Sink.failures c.loop-rest.out)
    (g.O.Sink.failures c.answer_window.new.out) (g.O.Sink.contents c.loop-rest.out)
    (g.O.Sink.contents c.answer_window.new.out)
    (SaysBehind failures (g.E.Sink.failures c.loop-rest.err) (g.E.Sink.failures c.answer_window.new.err)
    (g.E.Sink.contents c.loop-rest.err) (g.E.Sink.contents c.answer_window.new.err))
    (halt_status c.in-Err.halt))
    at.supply c.in-Err.ensures.answers in
    halts judging width supply so.0 window so.1 c.loop-rest.status failures
    (g.E.Sink.failures c.args.err.now) (g.E.Sink.failures c.loop-rest.err)
    (g.E.Sink.failures c.answer_window.new.err) (g.O.Sink.contents c.args.out.now)
    (g.O.Sink.contents c.loop-rest.out) (g.O.Sink.contents c.answer_window.new.out)
    (g.E.Sink.contents c.args.err.now) (g.E.Sink.contents c.loop-rest.err)
    (g.E.Sink.contents c.answer_window.new.err) (g.F.Files.opened c.loop-rest.files)
    (g.F.Files.opened c.answer_window.new.files) (g.F.Files.failures c.loop-rest.files)
    (g.F.Files.failures c.answer_window.new.files) (g.O.Sink.failures c.loop-rest.out)
    (g.O.Sink.failures c.answer_window.new.out) so.6 c.args.sets.names.now behind
    (g.F.Files.opened c.args.files.now) (g.F.Files.failures c.args.files.now)
    (g.O.Sink.failures c.args.out.now) (so.2 ∙ ap (λ l. so.0 ++ l) cut)
    c.failures-failures.ensures so.3 so.4 at.fine c.in-Err.halt goes

pub loop-rest-preserved : goal.loop-rest-preserved
loop-rest-preserved g c =
    let at = c.loop-rest.invariant in
    let so = at.answered in
    let judging = c.args.sets.judging in
    let width = width_of c.args.sets.jobs in
    let supply = g.F.Files.supply c.args.files.now in
    let rest = c.loop-rest.rest.now in
    let window = c.split_at.result.0.now in
    let behind = c.split_at.result.1.now in
    let failures = c.failures-failures.result in
    let Tells : List _ → Type 0 =
    SaysBehind failures (g.E.Sink.failures c.args.err.now) (g.E.Sink.failures c.answer_window.new.err)
    (g.E.Sink.contents c.args.err.now) (g.E.Sink.contents c.answer_window.new.err) in
    let cut : rest ≡ window ++ behind =
    sym (take-append-drop c.min.result rest)
    ∙ ap (λ l. l ++ drop c.min.result rest) (sym c.split_at.ensures.front)
    ∙ ap (λ l. window ++ l) (sym c.split_at.ensures.back) in
    let goes =
    subst (λ s. Counted (EachGoes judging width s window (Ok c.in-Ok.answered)) (g.F.Files.opened c.loop-rest.files)
    (g.F.Files.opened c.answer_window.new.files) (g.F.Files.failures c.loop-rest.files)
    (g.F.Files.failures c.answer_window.new.files) (g.O.Sink.failures c.loop-rest.out)
    (g.O.Sink.failures c.answer_window.new.out) (g.O.Sink.contents c.loop-rest.out)
    (g.O.Sink.contents c.answer_window.new.out)
    (SaysBehind failures (g.E.Sink.failures c.loop-rest.err) (g.E.Sink.failures c.answer_window.new.err)
    (g.E.Sink.contents c.loop-rest.err) (g.E.Sink.contents c.answer_window.new.err))
    c.in-Ok.answered)
    at.supply c.in-Ok.ensures.answers in
    let more =
    so_far_window judging width supply so.0 window so.1 c.loop-rest.status failures
    (g.E.Sink.failures c.args.err.now) (g.E.Sink.failures c.loop-rest.err)
    (g.E.Sink.failures c.answer_window.new.err) (g.O.Sink.contents c.args.out.now)
    (g.O.Sink.contents c.loop-rest.out) (g.O.Sink.contents c.answer_window.new.out)
    (g.E.Sink.contents c.args.err.now) (g.E.Sink.contents c.loop-rest.err)
    (g.E.Sink.contents c.answer_window.new.err) (g.F.Files.opened c.loop-rest.files)
    (g.F.Files.opened c.answer_window.new.files) (g.F.Files.failures c.loop-rest.files)
    (g.F.Files.failures c.answer_window.new.files) (g.O.Sink.failures c.loop-rest.out)
    (g.O.Sink.failures c.answer_window.new.out) so.6 c.in-Ok.answered goes in
    let long = length-append so.0 window in
    record {
      fine = more.4 ∙ at.fine;
      supply = c.in-Ok.ensures.kept.supply ∙ at.supply;
      created = c.in-Ok.ensures.kept.created ∙ at.created;
      unwritten = c.in-Ok.ensures.kept.unwritten ∙ at.unwritten;
      answered = (
        so.0 ++ window,
        so.1 + more.0,
        so.2 ∙ ap (λ l. so.0 ++ l) cut ∙ sym (append_assoc so.0 window behind),
        omega (arith, more.3, so.3, long),
        omega (arith, more.1, so.4),
        omega (arith, so.5, more.2, long),
        subst (λ k. SoFar judging supply (so.0 ++ window) (so.1 + more.0) k
            (g.O.Sink.contents c.args.out.now) (g.O.Sink.contents c.answer_window.new.out) Tells)
            (sym c.greater-status.ensures) more.5,
      );
    }

pub returns-clause-answers : goal.returns-clause-answers
returns-clause-answers g c =
    let at = c.loop-rest.invariant in
    let so = at.answered in
    let rest = c.loop-rest.rest.now in
    ends_all c.args.sets.judging (width_of c.args.sets.jobs)
    (g.F.Files.supply c.args.files.now) so.0 c.args.sets.names.now rest so.1 c.loop-rest.status
    c.failures-failures.result (g.E.Sink.failures c.args.err.now) (g.E.Sink.failures c.loop-rest.err)
    (g.F.Files.opened c.args.files.now) (g.F.Files.opened c.loop-rest.files)
    (g.F.Files.failures c.args.files.now) (g.F.Files.failures c.loop-rest.files)
    (g.O.Sink.failures c.args.out.now) (g.O.Sink.failures c.loop-rest.out)
    (g.O.Sink.contents c.args.out.now) (g.O.Sink.contents c.loop-rest.out)
    (g.E.Sink.contents c.args.err.now) (g.E.Sink.contents c.loop-rest.err) so.6 so.2
    (none_left rest (sym c.is_empty.ensures ∙ c.loop-rest-test.false)) c.failures-failures.ensures
    so.3 so.4 at.fine
