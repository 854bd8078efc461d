-- Where more answers are right.
use Rattle.std.proofs.Common.{◌≡◌, ℕ, List, true}
use Rattle.drvhost_devices.specs.Answer.{Answer}
use Rattle.drvhost_devices.specs.Device.{Closed, MayBeClosed, Supply}
pub use Rattle.answer.proofs.Delivering.{answers_rightly, ends_rightly}
use Rattle.cli.specs.declared.job.Judging.{Judging}
use Rattle.cli.specs.declared.job.Judging.TheVariants.{Check, CheckJson, Explain, ExplainJson}
use Rattle.drvhost_many.specs.One.{IsUnopenedAs, IsUnopenedIn, form_of, is_in_json}

-- a file that is closed may be so
pub may_be_closed : (supply : Supply) → supply ≡ Closed → MayBeClosed supply
may_be_closed supply e = rw e tt

-- where all that is answered is JSON, so is that a file can't be opened
pub unopened_in_json : (judging : Judging) (name : List ℕ) (answer : Answer)
    → is_in_json judging ≡ true → IsUnopenedIn (form_of judging) name answer
    → IsUnopenedAs judging name answer
unopened_in_json Check name answer e is = cc
unopened_in_json CheckJson name answer e is = is
unopened_in_json (Explain extent coloring) name answer e is = cc
unopened_in_json (ExplainJson extent) name answer e is = is
