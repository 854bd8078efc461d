use Rattle.std.proofs.Common.{◌≡◌, ◌<◌, ℕ, false, subst}
use Rattle.model.specs.History.{events_of, world_after_all}
use Rattle.model.specs.Set.{Set}
use Rattle.model.specs.View.{busy_at}
use Rattle.workers_script.proofs.Idleness.{all_idle}
use Rattle.workers_script.proofs.standing.standing_in.Goals as goal

pub returns-clause-standing : goal.returns-clause-standing
returns-clause-standing c =
    let core = c.args.core.now in
    let P : Set → Type 0 = λ s. (t : ℕ) → t < c.args.threads
    → busy_at (world_after_all s core.threads core.history) t ≡ false in
    let Q : ℕ → Type 0 = λ n. (t : ℕ) → t < c.args.threads
    → busy_at (world_after_all c.args.set n core.history) t ≡ false in
    all_idle c.args.set c.requires.typable c.requires.sound c.args.threads (events_of core.history)
    (subst Q c.requires.threads
    (subst P c.requires.set (c.any_may_be_busy.ensures.idle c.if-any_may_be_busy.false)))
