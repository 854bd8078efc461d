use Rattle.std.proofs.Common.{refl, rules}
use Rattle.drvhost_words.specs.Program.{IsAnswerToLost}
use Rattle.drvhost_words.proofs.Answering.{memory_at_once, told_at_once}
use Rattle.drvhost_words.proofs.program.refuse_lost_words.Goals as goal

pub returns-then-eq : goal.returns-then-eq
returns-then-eq g c = λ opened reads writes written.
    memory_at_once (IsAnswerToLost c.args.kind) opened reads writes written _ _
    c.refuse_words.ensures.status c.refuse_words.ensures.told

pub returns-else-eq : goal.returns-else-eq
returns-else-eq g c = λ opened reads writes written.
    told_at_once (IsAnswerToLost c.args.kind) opened reads writes written _ _ _
    (search rules, refl) c.refuse_unknown_words.ensures.status
    c.refuse_unknown_words.ensures.told
