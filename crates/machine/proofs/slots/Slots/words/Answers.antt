use Rattle.std.proofs.Common.{◌≡◌, refl, ap, sym, ◌∙◌, None, Some}
use Rattle.std.specs.Prelude.{slice_get}
use Rattle.std.proofs.lemmas.Option.{slice_get-get_or, slice_get_past}
use Rattle.machine.proofs.slots.Slots.words.Goals as goal

pub returns-in-None : goal.returns-in-None
returns-in-None c =
    let none : slice_get c.deref.result.now c.args.thread ≡ None =
    slice_get_past c.deref.result.now c.args.thread c.in-None.ensures.lookup.3 in
    let there : slice_get c.args.self.now.threads c.args.thread ≡ None =
    rw (← c.self.view_is, ← c.deref.ensures.value) none in
    rw there refl

pub returns-in-Some : goal.returns-in-Some
returns-in-Some c =
    let some : slice_get c.deref.result.now c.args.thread ≡ Some c.in-Some.runner.now =
    slice_get-get_or c.deref.result.now c.args.thread c.in-Some.runner.now
    c.in-Some.ensures.lookup.3.0
    ∙ ap Some (sym c.in-Some.ensures.lookup.1) in
    let there : slice_get c.args.self.now.threads c.args.thread ≡ Some c.in-Some.runner.now =
    rw (← c.self.view_is, ← c.deref.ensures.value) some in
    rw (there, c.words.ensures) refl
