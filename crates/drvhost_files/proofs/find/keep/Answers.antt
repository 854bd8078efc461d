use Rattle.std.proofs.Common.{◌∙◌, IsTrue, String, Global, ap, subst, sym}
use Rattle.std.proofs.lemmas.List.Elements.{All-push}
use Rattle.std.specs.Prelude.{string_bytes}
use Rattle.drvhost_files.specs.Found.{AreNamed, is_name_of}
use Rattle.drvhost_files.proofs.find.keep.Goals as goal

pub returns-in_ok-push-in-File-clause-sets : goal.returns-in_ok-push-in-File-clause-sets
returns-in_ok-push-in-File-clause-sets c =
    let P : String Global → Type 0 = λ path. IsTrue (is_name_of c.args.sought (string_bytes path)) in
    let named =
    subst (λ is. IsTrue is) (c.is_name_of.ensures ∙ ap (is_name_of c.args.sought) c.as_str.ensures.value)
    c.if-is_name_of.true in
    subst (AreNamed c.args.sought) (sym c.in_ok-push-in-File.ensures.items)
    (All-push P c.args.gathered.now.files.items c.args.entry.path c.requires named)
