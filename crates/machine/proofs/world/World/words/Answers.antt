use Rattle.std.proofs.Common.{ℕ, List, Option, subst, sym}
use Rattle.model.specs.Shown.{Shown}
use Rattle.machine.proofs.Lending.{words_lent}
use Rattle.machine.specs.Registers.{LendsWords}
use Rattle.laws_slots.specs.ShownWords.{words_at}
use Rattle.machine.proofs.world.World.words.Goals as goal

pub returns : goal.returns
returns c =
    subst (λ (words : Option (List ℕ)). LendsWords c.args.self.now c.args.thread words)
    (sym c.words.ensures)
    (subst (λ (m : Shown). LendsWords m c.args.thread
    (words_at c.self.inside.slots c.args.thread)) c.self.view_is
    (words_lent c.words_mean_what_they_show.ensures c.words_show_what_they_mean.ensures
    c.self.inside.accepted c.self.invariant.0 c.self.invariant.1.0 c.self.inside.slots
    c.self.invariant.1.1 c.words_tell_registers.ensures c.accepted_runs_keep_the_rules.ensures
    c.args.thread))
