use Rattle.std.proofs.Common.{◌≡◌, ◌∙◌, ap, length, refl, slice_get, sym, Some, None}
use Rattle.std.proofs.lemmas.Option.{slice_get_past, slice_get_read}
use Rattle.verifier_warnings.specs.Lines.{takes_lock}
use Rattle.verifier_warnings.proofs.lines.takes_lock.Goals as goal

pub returns-in-Some : goal.returns-in-Some
returns-in-Some c =
    let drivers = c.drivers.result.now in
    let here : slice_get drivers c.args.number ≡ Some c.in-Some.driver.now =
    slice_get_read drivers (length drivers) c.args.number c.in-Some.driver.now refl
    c.in-Some.ensures.lookup.3.0 c.in-Some.ensures.lookup.1 in
    c.takes_in_one.ensures
    ∙ ap takes_lock (sym here)
    ∙ ap (λ all. takes_lock (slice_get all c.args.number)) c.drivers.ensures.drivers

pub returns-in-None : goal.returns-in-None
returns-in-None c =
    let drivers = c.drivers.result.now in
    let past : slice_get drivers c.args.number ≡ None =
    slice_get_past drivers c.args.number c.in-None.ensures.lookup.3 in
    ap takes_lock (sym past)
    ∙ ap (λ all. takes_lock (slice_get all c.args.number)) c.drivers.ensures.drivers
