use Rattle.std.proofs.Common.{arith}
use Rattle.answer_runs.proofs.Readying.{says_on}
use Rattle.answer_runs.proofs.host.finish_page.Goals as goal

pub returns-in-Err-clause-told : goal.returns-in-Err-clause-told
returns-in-Err-clause-told g c =
    rw c.in-Err.is
    (λ start told says.
    says_on c.args.failures _ _ start _ _ told _
    (omega (arith, c.failures.ensures, c.if-failures.true)) says c.finish.ensures.told)
