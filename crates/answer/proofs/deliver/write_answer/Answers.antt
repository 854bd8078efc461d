use Rattle.std.proofs.Common.{◌≡◌, ◌∙◌, Ok, ap, arith, sym}
use Rattle.answer.proofs.Delivering.{answers_rightly, lacking}
use Rattle.answer.proofs.deliver.write_answer.Goals as goal

pub returns-in-Ok : goal.returns-in-Ok
returns-in-Ok g c = λ reads.
    answers_rightly (λ told. told ≡ c.in-Ok.told) (λ told. c.args.answer ≡ Ok told)
    reads reads reads reads _ _ _ _ _ _ (c.deliver.ensures reads)
    (λ told same. c.in-Ok.is ∙ ap Ok (sym same)) (omega arith)

pub returns-in-Err : goal.returns-in-Err
returns-in-Err g c = λ reads.
    lacking _ reads _ _ _ _ c.no_memory.ensures.told c.no_memory.ensures.status
