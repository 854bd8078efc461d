use Rattle.std.proofs.Common.{rules, ◌≡◌, None, sym, subst}
use Rattle.asm.specs.Outline.{draft_misfit, IsOrderly}
use Rattle.asm.proofs.Fitting.{fitting}
use Rattle.asm.proofs.Orderly.Lines.{orderly_on}
use Rattle.asm.proofs.draft.Draft.read_other.Goals as goal

pub returns-clause-orderly : goal.returns-clause-orderly
returns-clause-orderly c =
    let none : draft_misfit c.args.self.now c.in-Ok.line ≡ None = search rules in
    let fits = fitting c.args.self.now c.in-Ok.line none in
    subst IsOrderly (sym c.in_ok-note.ensures)
    (orderly_on c.args.self.now c.args.number c.in-Ok.line fits c.in-Ok.ensures.fits c.requires)
