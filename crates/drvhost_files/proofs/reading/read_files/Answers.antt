use Rattle.std.proofs.Common.{◌≡◌, ◌∙◌, ◌<◌, ap, get_or, length, rules, subst, sym, ℕ}
use Rattle.std.specs.List.{AllZip}
use Rattle.drvhost_devices.specs.Device.{Unknown}
use Rattle.drvhost_files.specs.declared.reading.Held.{Held}
use Rattle.drvhost_files.specs.Reading.{IsHeld, IsNamed, IsReadOf}
use Rattle.drvhost_files.proofs.Holding.{written_over, zip_changed}
use Rattle.drvhost_files.proofs.reading.read_files.Goals as goal

pub returns : goal.returns
returns g c =
    let names = c.args.names.now in
    let held = c.in_ok-held.held.items in
    let old = c.as_mut_slice.result.now in
    let new = c.for_each_mut.new.s in
    let value = c.as_mut_slice.ensures.value in
    let same = c.for_each_mut.auto.s in
    let S : Held → Held → Type 0 =
    λ before after. (after.name ≡ before.name) × IsReadOf c.args.way.is_told Unknown after.contents in
    let step : (i : ℕ) (d : Held) → i < length old → S (get_or old i d) (get_or new i d) =
    λ i d less.
    let k = (c.for_each_mut.ensures i d less).1 in
    let call = k.call in
    subst (λ b. S b (get_or new i d)) k.argument_is
    (subst (λ a. S k.argument.now a) k.left (search rules)) in
    subst (λ l. AllZip (IsHeld c.args.way.is_told (λ _. Unknown)) names l)
    (sym (written_over held new c.in_ok-held.held.len (same ∙ ap (λ l. length l) value)
    c.in_ok-held.held.ok.0))
    (zip_changed IsNamed (IsHeld c.args.way.is_told (λ _. Unknown)) S names old new
    (subst (λ l. AllZip IsNamed names l) (sym value) c.in_ok-held.ensures) same step
    (λ name before after named changed.
    record { name_is = ap (λ n. n.now) changed.0 ∙ named; read = changed.1 }))
