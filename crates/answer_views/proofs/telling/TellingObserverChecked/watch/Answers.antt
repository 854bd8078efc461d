use Rattle.std.proofs.Common.{◌≡◌, ◌≤◌, [], arith, refl, subst}
use Rattle.std.proofs.lemmas.Result.{err_from_is_err_and}
use Rattle.drvhost_devices.specs.Answer.{is_last}
use Rattle.answer_views.specs.declared.telling.Telling.{Telling}
use Rattle.answer_views.specs.Told.{times_of}
use Rattle.answer_runs.specs.Watching.{Takes}
use Rattle.answer_views.proofs.ToldAlone.{alone_takes, alone_telling}
use Rattle.answer_views.proofs.ToldOn.{few_times, some_times, takes_times, telling_from, telling_next}
use Rattle.model.specs.Machine.{Machine, ShowsWhole}
use Rattle.answer_views.proofs.telling.TellingObserverChecked.watch.Goals as goal

pub go_ahead-requires : goal.go_ahead-requires
go_ahead-requires c =
    let (start, threads, past, shows, told, fits) = c.requires.fits in
    omega (arith, told.numbered, fits)

pub returns-in_err-made-clause-breaks : goal.returns-in_err-made-clause-breaks
returns-in_err-made-clause-breaks c =
    let p = err_from_is_err_and c.from_residual.result c.from_residual.ensures.1 in
    rw p.1
    (record {
      told = [];
      up = tt;
      few = omega arith;
      are = λ threads past shows. tt;
      breaks = λ start threads past shows told. p.2;
    })

pub returns-then-made-gt0-clause-takes : goal.returns-then-made-gt0-clause-takes
returns-then-made-gt0-clause-takes c =
    alone_takes c.args.machine.now c.go_ahead.new.machine c.in_ok-made.made
    (omega (arith, c.if-made-gt0.true)) c.args.event.now c.in_ok-made.ensures.goes

pub returns-then-made-gt0-clause-tells : goal.returns-then-made-gt0-clause-tells
returns-then-made-gt0-clause-tells c =
    let some : 1 ≤ c.in_ok-made.made = omega (arith, c.if-made-gt0.true) in
    alone_telling c.args.machine.now c.go_ahead.new.machine c.in_ok-made.made some
    c.going_on_keeps_ledgers.ensures c.args.event.now c.args.self.now
    (record c.args.self.now { page = c.go_ahead.new.self }) c.in_ok-made.ensures.goes
    c.in_ok-made.ensures.detail c.in_ok-made.ensures.number refl refl
    (c.in_ok-made.ensures.told some)

pub tell_next-requires-clause-number : goal.tell_next-requires-clause-number
tell_next-requires-clause-number c =
    let (start, threads, past, shows, told, fits) = c.requires.fits in
    omega (
      arith,
      told.numbered,
      fits,
      c.if-made-gt0.false,
      c.in_ok-made.ensures.number,
      c.at_once.ensures.few,
    )

pub tell_next-requires-clause-unseen : goal.tell_next-requires-clause-unseen
tell_next-requires-clause-unseen c holds =
    let zero : c.in_ok-made.made ≡ 0 = omega (arith, c.if-made-gt0.false) in
    rw (c.in_ok-made.ensures.detail, (c.in_ok-made.ensures.none zero).0)
    (c.goes_unseen-unseen.ensures holds)

pub returns-in_err-times-clause-breaks : goal.returns-in_err-times-clause-breaks
returns-in_err-times-clause-breaks c =
    let p = err_from_is_err_and c.from_residual-in_err-times.result
    c.from_residual-in_err-times.ensures.1 in
    rw p.1
    (record {
      told = [];
      up = tt;
      few = omega arith;
      are = λ threads past shows. tt;
      breaks = λ start threads past shows told. p.2;
    })

pub returns-clause-some : goal.returns-clause-some
returns-clause-some c =
    rw c.in_ok-times.ensures.times
    (some_times c.go_ahead.new.machine c.tell_next.new.machine c.args.event.now
    c.tell_next.new.self.sight.happened.reply c.at_once.result c.in_ok-times.ensures.sees.applied
    c.waiting_changes_nothing.ensures c.at_once.ensures.some)

pub returns-clause-few : goal.returns-clause-few
returns-clause-few c =
    let few = few_times c.go_ahead.new.machine c.tell_next.new.machine c.args.event.now
    c.tell_next.new.self.sight.happened.reply c.at_once.result c.in_ok-times.ensures.sees.applied
    c.waiting_changes_nothing.ensures c.at_once.ensures.some in
    omega (arith, few, c.in_ok-times.ensures.times, c.at_once.ensures.few)

pub returns-clause-takes : goal.returns-clause-takes
returns-clause-takes c =
    let reply = c.tell_next.new.self.sight.happened.reply in
    let zero : c.in_ok-made.made ≡ 0 = omega (arith, c.if-made-gt0.false) in
    rw (c.in_ok-times.ensures.times, c.is_last.ensures)
    (subst (λ (x : Machine). Takes (λ (y : Machine). y.set) ShowsWhole x c.args.event.now
    c.tell_next.new.machine (times_of reply c.at_once.result) (is_last reply))
    (c.in_ok-made.ensures.none zero).0
    (takes_times c.go_ahead.new.machine c.tell_next.new.machine c.args.event.now reply
    c.at_once.result c.in_ok-times.ensures.sees.applied c.waiting_changes_nothing.ensures
    c.at_once.ensures.some))

pub returns-clause-tells : goal.returns-clause-tells
returns-clause-tells c =
    let zero : c.in_ok-made.made ≡ 0 = omega (arith, c.if-made-gt0.false) in
    let stays = c.in_ok-made.ensures.none zero in
    let mid : Telling = record c.args.self.now { page = c.go_ahead.new.self } in
    let number : c.go_ahead.new.self.number ≡ c.args.self.now.page.number =
    omega (arith, zero, c.in_ok-made.ensures.number) in
    telling_from c.args.machine.now c.go_ahead.new.machine _ c.args.self.now mid
    c.tell_next.new.self stays.0 c.in_ok-made.ensures.detail number stays.1 refl refl
    (telling_next c.waiting_changes_nothing.ensures c.go_ahead.new.machine c.tell_next.new.machine
    c.args.event.now c.tell_next.new.self.sight.happened.reply c.at_once.result c.in_ok-times.times
    mid c.tell_next.new.self c.at_once.ensures.some c.in_ok-times.ensures.times
    c.in_ok-times.ensures.sees.applied c.in_ok-times.ensures.sees.noted
    c.in_ok-times.ensures.sees.kept c.in_ok-times.ensures.detail c.in_ok-times.ensures.number
    c.in_ok-times.ensures.refused c.in_ok-times.ensures.told)
