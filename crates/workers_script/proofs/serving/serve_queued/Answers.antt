use Rattle.std.proofs.Common.{arith, ℕ, List, ap, length, refl, subst, sym, take}
use Rattle.model.specs.declared.history.Entry.{Entry}
use Rattle.hostcore.specs.Core.{CoreState}
use Rattle.workers.specs.Ended.{EndsState}
use Rattle.workers_script.specs.Served.{Accounts, AreStarted, named_from}
use Rattle.workers_script.proofs.Accounting.{accounted, are_started, left_unput}
use Rattle.workers_script.proofs.OneSubmitter.{of_put}
use Rattle.workers_script.proofs.TakerLists.{new_of_queue, served_of_queue, served_shares}
use Rattle.workers_script.proofs.serving.serve_queued.Goals as goal

pub serve-served-requires-clause-takers : goal.serve-served-requires-clause-takers
serve-served-requires-clause-takers g c κs within =
    new_of_queue _ _ _ c.requires.queued.takers

pub settle-core-requires-clause-takers : goal.settle-core-requires-clause-takers
settle-core-requires-clause-takers g c =
    served_of_queue _ _ _ c.serve-served.ensures _ (new_of_queue _ _ _ c.requires.queued.takers)

pub settle-core-requires-clause-shares : goal.settle-core-requires-clause-shares
settle-core-requires-clause-shares g c =
    let shares = c.requires.queued.shares in
    let same = served_shares _ _ _ c.serve-served.ensures in
    omega (arith, shares, same)

pub returns-clause-accounts : goal.returns-clause-accounts
returns-clause-accounts g c =
    let queued = c.requires.queued in
    let fresh = ap (λ (core : CoreState). core.history) c.requires.new in
    let had = length c.args.queued.tickets.items in
    let put = named_from 0 (take had c.args._commands.now) in
    let among =
    of_put put c.args.queued.submitters.items c.serve-served.result.takers.items queued.put
    c.settle-core.ensures.among in
    let all =
    accounted _ _ _ c.args._commands.now had put c.serve-served.ensures fresh refl among in
    let P : ℕ → Type 0 =
    λ threads. Accounts threads c.args._commands.now c.serve-served.result.core.history in
    let Q : List Entry → Type 0 = Accounts c.args.core.threads c.args._commands.now in
    subst Q (sym (ap (λ (core : CoreState). core.history) c.settle-core.ensures.core))
    (subst P queued.takers.counted all)

pub returns-clause-started : goal.returns-clause-started
returns-clause-started g c some =
    let queued = c.requires.queued in
    let fresh = ap (λ (core : CoreState). core.history) c.requires.new in
    let had = length c.args.queued.tickets.items in
    let put = named_from 0 (take had c.args._commands.now) in
    let among =
    of_put put c.args.queued.submitters.items c.serve-served.result.takers.items queued.put
    c.settle-core.ensures.among in
    let ends = ap (λ (e : EndsState). e.started) c.settle-core.ensures.ends in
    let all =
    are_started _ _ _ c.args._commands.now had put c.serve-served.ensures fresh refl among
    (omega (arith, ends, some)) in
    let P : ℕ → Type 0 =
    λ n. AreStarted n c.serve-served.result.core.history c.serve-served.result.ends in
    let Q : List Entry → Type 0 =
    λ xs. AreStarted c.args.core.threads xs c.serve-served.result.ends in
    let R : EndsState → Type 0 = AreStarted c.args.core.threads c.settle-core.result.core.history in
    subst R (sym c.settle-core.ensures.ends)
    (subst Q (sym (ap (λ (core : CoreState). core.history) c.settle-core.ensures.core))
    (subst P queued.takers.counted all))

pub returns-clause-unput : goal.returns-clause-unput
returns-clause-unput g c k unput =
    let queued = c.requires.queued in
    let fresh = ap (λ (core : CoreState). core.history) c.requires.new in
    let had = length c.args.queued.tickets.items in
    let put = named_from 0 (take had c.args._commands.now) in
    let among =
    of_put put c.args.queued.submitters.items c.serve-served.result.takers.items queued.put
    c.settle-core.ensures.among in
    let same = ap (λ (core : CoreState). core.history) c.settle-core.ensures.core in
    rw same (left_unput _ _ _ c.args._commands.now had put c.serve-served.ensures fresh refl among k
    unput)
