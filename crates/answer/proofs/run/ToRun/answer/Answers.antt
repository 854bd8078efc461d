use Rattle.std.proofs.Common.{List, inl, refl, ℕ}
use Rattle.std.proofs.lemmas.Result.{IfOk-weaker}
use Rattle.model.specs.Set.{Set}
use Rattle.drvhost_devices.specs.Answer.{Answer}
use Rattle.drvhost_devices.specs.Device.{Bytes}
use Rattle.answer.specs.Run.{IsByInput, set_chosen}
use Rattle.answer.proofs.Running.{of_run}
use Rattle.answer.proofs.run.ToRun.answer.Goals as goal

pub returns-in-Runs : goal.returns-in-Runs
returns-in-Runs g c =
    let it = c.args.self.now in
    let bytes = c.args.set.now in
    let input = c.args.input.now in
    let set = set_chosen c.in-Runs.chosen in
    let begun = rw c.in-Runs.is at c.in_ok-chosen.ensures in
    let Right : List ℕ → Set → List ℕ → Answer → Type 0 =
    λ held found. g.J.OnRun.right it.job it.form it.set.now held found it.input.now in
    IfOk-weaker c.run.result (Right bytes set input) _
    (λ told right. (
      bytes,
      refl,
      inl (
        set,
        begun.0,
        of_run g.F.Form it.form it.set.now it.verification (IsByInput Right (Bytes input)) bytes
            set told begun.1 (input, refl, right),
      ),
    ))
    c.run.ensures
