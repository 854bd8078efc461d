-- What is right for a file is right for what is known of it.
use Rattle.std.proofs.Common.{ℕ, List, subst}
use Rattle.drvhost_devices.specs.Answer.{Answer}
use Rattle.drvhost_devices.specs.Device.{Bytes, Closed, IsSuppliedAs, MayBeClosed, Supply, Unknown}
use Rattle.drvhost_files.proofs.Known.{holds_known}
use Rattle.cli.specs.declared.job.Judging.{Judging}
use Rattle.cli.specs.declared.job.Judging.TheVariants.{Check, CheckJson, Explain, ExplainJson}
use Rattle.drvhost_devices.specs.declared.coloring.Coloring.TheVariants.{Auto, Always, Never}
use Rattle.drvhost_many.specs.One.{IsJudged}

pub judged_known : (judging : Judging) (name : List ℕ) (known supply : Supply)
    → IsSuppliedAs known supply → (answer : Answer) → IsJudged judging name supply answer
    → IsJudged judging name known answer
judged_known Check name known supply h answer (bytes, holds, right) =
    (bytes, holds_known known supply bytes h holds, right)
judged_known CheckJson name known supply h answer (bytes, holds, right) =
    (bytes, holds_known known supply bytes h holds, right)
judged_known (Explain extent Auto) name known supply h answer (alone, (bytes, holds, right), shown) =
    (alone, (bytes, holds_known known supply bytes h holds, right), shown)
judged_known (Explain extent Never) name known supply h answer (alone, (bytes, holds, right), shown) =
    (alone, (bytes, holds_known known supply bytes h holds, right), shown)
judged_known (Explain extent Always) name known supply h answer (plain, (alone, (bytes, holds, right), shown), is) =
    (plain, (alone, (bytes, holds_known known supply bytes h holds, right), shown), is)
judged_known (ExplainJson extent) name known supply h answer (bytes, holds, right) =
    (bytes, holds_known known supply bytes h holds, right)

-- and so is that it may be closed
pub closed_known : (known supply : Supply) → IsSuppliedAs known supply → MayBeClosed supply
    → MayBeClosed known
closed_known Unknown supply h closed = tt
closed_known Closed supply h closed = tt
closed_known (Bytes held) supply h closed =
    let never : MayBeClosed (Bytes held) = subst MayBeClosed h closed in absurd never
