use Rattle.verifier.proofs.FirstVerdicts.{refused_to, typable_to}
use Rattle.verifier.proofs.Verdicts.{refusal_untypable}
use Rattle.verifier.proofs.verdict.verify.Goals as goal

pub returns-in-Err-clause-untypable : goal.returns-in-Err-clause-untypable
returns-in-Err-clause-untypable c =
    refusal_untypable c.args.set c.in-Err.refusal (c.in-Err.ensures {u = tt}).refused

pub returns-in-Ok-clause-accepted_first : goal.returns-in-Ok-clause-accepted_first
returns-in-Ok-clause-accepted_first c =
    λ first. typable_to c.args.set first (c.in-Ok.ensures {u = tt}).typable

pub returns-in-Err-clause-refused_first : goal.returns-in-Err-clause-refused_first
returns-in-Err-clause-refused_first c =
    λ first. refused_to c.args.set c.in-Err.refusal first (c.in-Err.ensures {u = tt}).refused
