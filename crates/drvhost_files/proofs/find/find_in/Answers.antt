use Rattle.std.proofs.Common.{◌≡◌, ◌∙◌, ◌++◌, IsTrue, None, Some, ap, inr, refl, string_bytes, subst, sym}
use Rattle.std.proofs.lemmas.List.Sorted.{All-permutation}
use Rattle.drvhost_files.specs.Below.{Knows, files_of, folders_of}
use Rattle.drvhost_files.specs.Found.{AreNamed, is_name_of}
use Rattle.drvhost_files.proofs.Below.{all_below, alone_below, knows_first}
use Rattle.drvhost_files.proofs.find.find_in.Goals as goal

pub returns-in_default-clause-below : goal.returns-in_default-clause-below
returns-in_default-clause-below g c =
    alone_below c.args.sought c.args.path.now (g.D.Folders.lists c.args.folders.now) c.alone.result
    (λ has lists.
    let here : c.in_ok-listing.field-0 ≡ has c.args.path.now =
    lists c.args.path.now c.in_ok-listing.field-0 c.in_ok-listing.ensures in
    let none : has c.args.path.now ≡ None = cc (here, c.in_default.is) in
    none)
    c.alone.ensures.alone

pub returns-clause-found : goal.returns-clause-found
returns-clause-found g c =
    let sets : AreNamed c.args.sought c.sort.new.self.items =
    All-permutation (λ path. IsTrue (is_name_of c.args.sought (string_bytes path)))
    c.look_below.new.gathered.files.items c.sort.new.self.items c.in_ok-sort.ensures.permutation
    c.in_ok-look_below.ensures.sets in
    (inr (refl, sets), c.in_ok-sort.ensures.sorted, c.in_ok-sort-2.ensures.sorted)

pub returns-clause-below : goal.returns-clause-below
returns-clause-below g c = λ has lists.
    let path = c.args.path.now in
    let listing = c.in-Some.listing in
    let kept = c.keep_all.new.gathered in
    let here : c.in_ok-listing.field-0 ≡ has path =
    lists path c.in_ok-listing.field-0 c.in_ok-listing.ensures in
    let some : has path ≡ Some listing = cc (here, c.in-Some.is) in
    let waiting : kept.waiting.items ≡ folders_of listing =
    c.in_ok-keep_all.ensures.folders ∙ ap (λ l. l ++ folders_of listing) c.new.ensures.items in
    let files : kept.files.items ≡ files_of c.args.sought listing =
    c.in_ok-keep_all.ensures.files ∙ ap (λ l. l ++ files_of c.args.sought listing) c.new-2.ensures.items in
    let begun =
    subst (λ f. Knows c.args.sought has path kept.waiting.items f) (sym files)
    (subst (λ w. Knows c.args.sought has path w (files_of c.args.sought listing)) (sym waiting)
    (knows_first c.args.sought has path listing some)) in
    all_below c.args.sought has path c.look_below.new.gathered.files.items c.sort.new.self.items
    (c.in_ok-look_below.ensures.below has path lists begun) c.in_ok-sort.ensures.permutation
