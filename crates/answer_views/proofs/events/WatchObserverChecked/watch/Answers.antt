use Rattle.std.proofs.Common.{[], arith, refl}
use Rattle.std.proofs.lemmas.Result.{err_from_is_err_and}
use Rattle.model.specs.Machine.{Machine, ShowsWhole}
use Rattle.answer_runs.proofs.Observing.{takes_same}
use Rattle.answer_runs.proofs.Repeating.{once}
use Rattle.answer_views.proofs.ToldJson.{telling_on}
use Rattle.answer_views.proofs.events.WatchObserverChecked.watch.Goals as goal

pub tell-requires : goal.tell-requires
tell-requires c =
    let (start, threads, past, shows, told, fits) = c.requires.fits in
    omega (arith, told.numbered, fits, c.requires.some)

pub returns-in_err-reply-clause-breaks : goal.returns-in_err-reply-clause-breaks
returns-in_err-reply-clause-breaks c =
    let p = err_from_is_err_and c.from_residual.result c.from_residual.ensures.1 in
    rw p.1
    (record {
      told = [];
      up = tt;
      few = omega arith;
      are = λ threads past shows. tt;
      breaks = λ start threads past shows told. tt;
    })

pub returns-clause-takes : goal.returns-clause-takes
returns-clause-takes c =
    let reply = c.in_ok-reply.reply in
    rw c.is_last.ensures
    (takes_same (λ (x : Machine). x.set) ShowsWhole c.args.machine.now c.tell.new.machine
    c.args.event.now 1 reply
    (once (λ (x : Machine). x.set) ShowsWhole _ _ _ reply c.in_ok-reply.ensures.applied)
    (omega arith) (λ ends. refl))

pub returns-clause-tells : goal.returns-clause-tells
returns-clause-tells c =
    let (around, added) = c.in_ok-reply.ensures.told in
    λ start threads past shows t.
    telling_on _ _ _ _ _ _ around c.in_ok-reply.ensures.applied c.in_ok-reply.ensures.noted
    c.in_ok-reply.ensures.number c.in_ok-reply.ensures.refused added threads past shows t
