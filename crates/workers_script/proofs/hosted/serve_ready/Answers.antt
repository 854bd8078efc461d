use Rattle.std.proofs.Common.{◌∙◌, arith, List, Option, None, ap, length, subst, sym}
use Rattle.std.proofs.lemmas.List.{length-replicate}
use Rattle.model.specs.declared.event.Reply.{Reply}
use Rattle.hostcore.specs.Core.{CoreState}
use Rattle.workers.specs.Ended.{EndsState}
use Rattle.workers_script.specs.Served.{Accounts, AreStarted}
use Rattle.workers_script.specs.Told.{Tells, all_told}
use Rattle.workers_script.proofs.ToldLists.{told_all}
use Rattle.workers_script.proofs.hosted.serve_ready.Goals as goal

pub tell_done-requires-clause-tickets : goal.tell_done-requires-clause-tickets
tell_done-requires-clause-tickets g c =
    rw c.serve_queued-done.ensures.tickets c.requires.queued.tickets

pub tell_done-requires-clause-few : goal.tell_done-requires-clause-few
tell_done-requires-clause-few g c =
    let few = c.requires.queued.few in
    let told = ap length c.requires.told in
    let long = length-replicate {A = Option Reply} (length c.args.commands.now) None in
    rw c.serve_queued-done.ensures.tickets (omega (arith, few, told, long))

pub returns-clause-accounts : goal.returns-clause-accounts
returns-clause-accounts g c =
    let P : CoreState → Type 0 =
    λ core. Accounts c.args.core.threads c.args.commands.now core.history in
    subst P (sym c.tell_done.ensures.core) c.serve_queued-done.ensures.accounts

pub returns-clause-started : goal.returns-clause-started
returns-clause-started g c some =
    let done = c.serve_queued-done.result in
    let same = ap (λ (e : EndsState). e.started) c.tell_done.ensures.ends in
    let P : CoreState → Type 0 = λ core. AreStarted c.args.core.threads core.history done.ends in
    let Q : EndsState → Type 0 =
    AreStarted c.args.core.threads c.tell_done.result.core.history in
    subst Q (sym c.tell_done.ensures.ends)
    (subst P (sym c.tell_done.ensures.core)
    (c.serve_queued-done.ensures.started (omega (arith, same, some))))

pub returns-clause-told : goal.returns-clause-told
returns-clause-told g c =
    let done = c.serve_queued-done.result in
    let count = length c.args.commands.now in
    let had = length done.tickets.items in
    let told = c.tell_done.result.told.items in
    let Began : List (Option Reply) → Type 0 = λ began. Tells done.core.history had began told in
    told_all done.core.history count had told
    (rw c.serve_queued-done.ensures.tickets c.requires.queued.few)
    (subst Began c.requires.told c.tell_done.ensures.told)
    c.serve_queued-done.ensures.unput
    (length-replicate count None)
    ∙ ap (λ (core : CoreState). all_told core.history count) (sym c.tell_done.ensures.core)
