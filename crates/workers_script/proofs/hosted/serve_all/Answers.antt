use Rattle.std.proofs.Common.{◌≡◌, ◌∙◌, arith, ℕ, ap, length, subst, sym}
use Rattle.hostcore.specs.Core.{CoreState}
use Rattle.workers_script.specs.Queued.{IsQueued}
use Rattle.workers_script.specs.Served.{Accounts, AreStarted}
use Rattle.workers_script.specs.Told.{all_told, new_core}
use Rattle.workers_script.specs.declared.hosted.Told.{Told}
use Rattle.workers_script.proofs.ToldWhole.{on_ok}
use Rattle.workers_script.proofs.hosted.serve_all.Goals as goal

pub serve_ready-requires-clause-some : goal.serve_ready-requires-clause-some
serve_ready-requires-clause-some g c =
    let threads = ap (λ (core : CoreState). core.threads) c.requires.new in
    omega (arith, threads, c.requires.some)

pub serve_ready-requires-clause-few : goal.serve_ready-requires-clause-few
serve_ready-requires-clause-few g c =
    let threads = ap (λ (core : CoreState). core.threads) c.requires.new in
    omega (arith, threads, c.requires.few)

pub serve_ready-requires-clause-new : goal.serve_ready-requires-clause-new
serve_ready-requires-clause-new g c κs within =
    let core = c.args.core in
    let P : ℕ → Type 0 = λ n. core ≡ new_core core.set n in
    subst P (sym (ap (λ (core : CoreState). core.threads) c.requires.new)) c.requires.new

pub serve_ready-requires-clause-queued : goal.serve_ready-requires-clause-queued
serve_ready-requires-clause-queued g c κs within =
    let P : ℕ → Type 0 = λ n. IsQueued n c.args.commands.now c.in_ok-ready.ready.queued in
    subst P (sym (ap (λ (core : CoreState). core.threads) c.requires.new))
    c.in_ok-ready.ensures.queued

pub returns-clause-set : goal.returns-clause-set
returns-clause-set g c =
    on_ok _ c.serve_ready.result (λ (ended : Told). ended.core.set ≡ c.args.core.set) _
    c.started.ensures.same c.started.ensures.some (λ some. c.serve_ready.ensures.set)

pub returns-clause-threads : goal.returns-clause-threads
returns-clause-threads g c =
    on_ok _ c.serve_ready.result (λ (ended : Told). ended.core.threads ≡ c.args.workers) _
    c.started.ensures.same c.started.ensures.some
    (λ some. c.serve_ready.ensures.threads
    ∙ ap (λ (core : CoreState). core.threads) c.requires.new)

pub returns-clause-log : goal.returns-clause-log
returns-clause-log g c =
    on_ok _ c.serve_ready.result (λ (ended : Told). ended.core.log ≡ c.args.core.log) _
    c.started.ensures.same c.started.ensures.some (λ some. c.serve_ready.ensures.log)

pub returns-clause-accounts : goal.returns-clause-accounts
returns-clause-accounts g c =
    let P : ℕ → Type 0 =
    λ n. Accounts n c.args.commands.now c.serve_ready.result.core.history in
    on_ok _ c.serve_ready.result
    (λ (ended : Told). Accounts c.args.workers c.args.commands.now ended.core.history) _
    c.started.ensures.same c.started.ensures.some
    (λ some. subst P (ap (λ (core : CoreState). core.threads) c.requires.new)
    c.serve_ready.ensures.accounts)

pub returns-clause-started : goal.returns-clause-started
returns-clause-started g c =
    let its = c.serve_ready.result in
    let P : ℕ → Type 0 = λ n. AreStarted n its.core.history its.ends in
    on_ok _ its (λ (ended : Told). AreStarted c.args.workers ended.core.history ended.ends) _
    c.started.ensures.same c.started.ensures.some
    (λ some. subst P (ap (λ (core : CoreState). core.threads) c.requires.new)
    (c.serve_ready.ensures.started some))

pub returns-clause-told : goal.returns-clause-told
returns-clause-told g c =
    on_ok _ c.serve_ready.result
    (λ (ended : Told). ended.told.items
    ≡ all_told ended.core.history (length c.args.commands.now)) _
    c.started.ensures.same c.started.ensures.some (λ some. c.serve_ready.ensures.told)
