use Rattle.std.proofs.Common.{◌≡◌, ◌∙◌, ◌+◌, ◌∷◌, ◌++◌, [], ap, subst, sym, take}
use Rattle.std.proofs.lemmas.List.{take_more}
use Rattle.std.proofs.lemmas.Slice.Zip.{all_zipped_more}
use Rattle.std.specs.List.{AllZip}
use Rattle.drvhost_files.specs.declared.reading.Contents.TheVariants.{Unread}
use Rattle.drvhost_files.specs.declared.reading.Held.{Held}
use Rattle.drvhost_files.specs.Reading.{IsNamed}
use Rattle.drvhost_files.proofs.reading.hold_names.Goals as goal

pub loop-name-preserved : goal.loop-name-preserved
loop-name-preserved c =
    let at = c.loop-name in
    let names = c.args.names.now in
    let i = at.name-index in
    let name = c.name-item.result in
    let one : Held = record { name = c.as_str.result; contents = Unread } in
    let next : take i names ++ name ∷ [] ≡ take (i + 1) names =
    ap (λ x. take i names ++ x ∷ []) c.name-item.is ∙ sym (take_more names i name c.loop-name-test.true) in
    let grown : c.push.new.self.items ≡ at.held.items ++ one ∷ [] = c.in_ok-push.ensures.items in
    subst (λ l. AllZip IsNamed l c.push.new.self.items) next
    (subst (λ l. AllZip IsNamed (take i names ++ name ∷ []) l) (sym grown)
    (all_zipped_more IsNamed (take i names) at.held.items name one at.invariant
    c.as_str.ensures.value))
