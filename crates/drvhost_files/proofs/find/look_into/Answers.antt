use Rattle.std.proofs.Common.{◌≡◌, ◌++◌, None, Some, string_bytes, subst, sym}
use Rattle.drvhost_files.specs.Below.{Knows, files_of}
use Rattle.drvhost_files.proofs.Below.{knows_closed, knows_more}
use Rattle.drvhost_files.proofs.find.look_into.Goals as goal

pub returns-in_default-clause-below : goal.returns-in_default-clause-below
returns-in_default-clause-below g c = λ has root lists knows.
    let here : c.in_ok-listing.field-0 ≡ has c.as_str.result.now =
    lists c.as_str.result.now c.in_ok-listing.field-0 c.in_ok-listing.ensures in
    let none : has (string_bytes c.args.folder) ≡ None =
    cc (here, c.in_default.is, c.as_str.ensures.value) in
    knows_closed c.args.sought has root c.args.gathered.now.waiting.items c.args.gathered.now.files.items
    c.args.folder knows none

pub returns-clause-below : goal.returns-clause-below
returns-clause-below g c = λ has root lists knows.
    let listing = c.in-Some.listing in
    let here : c.in_ok-listing.field-0 ≡ has c.as_str.result.now =
    lists c.as_str.result.now c.in_ok-listing.field-0 c.in_ok-listing.ensures in
    let some : has (string_bytes c.args.folder) ≡ Some listing =
    cc (here, c.in-Some.is, c.as_str.ensures.value) in
    let more =
    knows_more c.args.sought has root c.args.gathered.now.waiting.items c.args.gathered.now.files.items
    c.args.folder knows listing some in
    subst (λ f. Knows c.args.sought has root c.keep_all.new.gathered.waiting.items f)
    (sym c.in_ok-keep_all.ensures.files)
    (subst (λ w. Knows c.args.sought has root w (c.args.gathered.now.files.items ++ files_of c.args.sought listing))
    (sym c.in_ok-keep_all.ensures.folders) more)
