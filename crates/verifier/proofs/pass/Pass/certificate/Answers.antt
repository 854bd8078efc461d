use Rattle.std.proofs.Common.{◌≡◌, ◌≢◌, length, arith, sym, subst}
use Rattle.model.specs.Typable.{IsTypableRoutine}
use Rattle.verifier.specs.Pass.{Progress}
use Rattle.verifier.proofs.pass.Pass.certificate.Goals as goal

pub returns-clause-typable : goal.returns-clause-typable
returns-clause-typable c =
    let over : c.self.inside.at ≡ length c.self.inside.routine.now.code =
    subst (λ (g : Progress). g.at ≡ length g.member.routine.code) (sym c.self.view_is)
    c.requires.over
    in
    let some : length c.self.inside.routine.now.code ≢ 0 =
    subst (λ (g : Progress). length g.member.routine.code ≢ 0) (sym c.self.view_is) c.requires.some
    in
    subst (λ (g : Progress). IsTypableRoutine g.member) c.self.view_is
    (record { some = some; each = λ p within. c.self.invariant.known.fine p (omega arith) })
