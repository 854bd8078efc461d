use Rattle.std.proofs.Common.{◌≡◌, ◌++◌, flat_map, length}
use Rattle.std.specs.Vec.Iter.{into_iter_items, into_iter_len}
use Rattle.drvhost_files.specs.Below.{file_of, folder_of}
use Rattle.drvhost_files.specs.Found.{AreNamed}
use Rattle.drvhost_files.proofs.find.keep_all.Given as goal

abbrev pub invariant-loop-entry : goal.invariant-loop-entry
invariant-loop-entry l =
    (l.yielded ++ into_iter_items l.entry-iterator ≡ into_iter_items l.initial.entry-iterator)
    × AreNamed l.sought l.gathered.files.items
    × (l.gathered.waiting.items ≡ l.initial.gathered.waiting.items ++ flat_map folder_of l.yielded)
    × (l.gathered.files.items ≡ l.initial.gathered.files.items ++ flat_map (file_of l.sought) l.yielded)
    × (into_iter_len l.entry-iterator ≡ length (into_iter_items l.entry-iterator))
