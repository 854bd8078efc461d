use Rattle.std.proofs.Common.{refl}
use Rattle.drvhost_words.proofs.program.answer.Goals as goal

pub returns-in-Ok : goal.returns-in-Ok
returns-in-Ok g c =
    rw c.in-Ok.is
    (rw (c.arguments.ensures, c.as_slice.ensures.value) at c.answer_words.ensures)

pub returns-in-Err : goal.returns-in-Err
returns-in-Err g c =
    rw c.in-Err.is
    (record {
      answers = c.refuse_lost_words.ensures _ _ _ _;
      stores = record { supply = refl; none = refl };
    })
