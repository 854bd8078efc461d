use Rattle.std.proofs.Common.{◌≡◌, ◌∙◌, List, ap, arith, length, subst, sym}
use Rattle.model.specs.declared.event.Event.{Event}
use Rattle.model.specs.Set.{Set}
use Rattle.hostcore.specs.Core.{CoreState}
use Rattle.laws_runs.specs.NeverStops.{NeverStops}
use Rattle.workers_script.specs.Served.{AreStarted}
use Rattle.workers_script.specs.Told.{Hosts, StandsAfter}
use Rattle.workers_script.proofs.ReplayedEntries.{legal_replays}
use Rattle.workers_script.proofs.ToldWhole.{if_ok_then}
use Rattle.workers_script.proofs.hosted.serve_script.Goals as goal

pub stand-requires-clause-set : goal.stand-requires-clause-set
stand-requires-clause-set g c =
    c.in_ok-told.ensures.set ∙ ap (λ (core : CoreState). core.set) c.in_ok-core.ensures
    ∙ sym c.in_ok-set.ensures.set

pub returns : goal.returns
returns g c =
    let accepted = c.args.accepted in
    let workers = c.args.workers in
    let served = c.in_ok-told.ensures in
    let told = c.in_ok-told.told in
    let history = told.core.history in
    let never : (events : List Event) → NeverStops accepted workers events = λ events.
    (c.accepted_runs_keep_the_rules.ensures accepted c.in_ok-set.ensures.typable
    c.in_ok-set.ensures.sound workers events).lasting in
    let log = served.log ∙ ap (λ (core : CoreState). core.log) c.in_ok-core.ensures in
    if_ok_then c.stand.result (StandsAfter c.in_ok-set.set workers told)
    (Hosts accepted workers c.args.commands.now)
    (λ hosted (at : StandsAfter c.in_ok-set.set workers told hosted).
    let its : StandsAfter accepted workers told hosted =
    subst (λ (s : Set). StandsAfter s workers told hosted) c.in_ok-set.ensures.set at in
    record {
      history = history;
      served = record {
        replays = legal_replays accepted workers history its.legal never;
        short = omega (arith, its.room, log);
        accounts = served.accounts;
      };
      started = subst (λ e. AreStarted workers history e) (sym its.ends) served.started;
      told = ap (λ xs. xs.items) its.told ∙ served.told;
      entries = its.entries;
      standing = its.standing;
      stored = its.stored;
    })
    c.stand.ensures
