use Rattle.std.proofs.Common.{◌≡◌, ◌∙◌, ◌+◌, ◌∷◌, ◌++◌, [], ap, subst, sym, take}
use Rattle.std.proofs.lemmas.List.{take_more}
use Rattle.std.proofs.lemmas.Slice.Zip.{all_zipped_more}
use Rattle.std.specs.List.{AllZip}
use Rattle.drvhost_files.specs.Reading.{IsNamedSo}
use Rattle.drvhost_files.proofs.reading.name_each.Goals as goal

pub loop-name-preserved : goal.loop-name-preserved
loop-name-preserved g c =
    let at = c.loop-name in
    let names = c.args.names.now in
    let i = at.name-index in
    let name = c.name-item.result in
    let next : take i names ++ name ∷ [] ≡ take (i + 1) names =
    ap (λ x. take i names ++ x ∷ []) c.name-item.is ∙ sym (take_more names i name c.loop-name-test.true) in
    subst (λ l. AllZip IsNamedSo l c.push.new.self.items) next
    (subst (λ l. AllZip IsNamedSo (take i names ++ name ∷ []) l) (sym c.in_ok-push.ensures.items)
    (all_zipped_more IsNamedSo (take i names) at.answered.items name _ at.invariant
    c.as_str.ensures.value))
