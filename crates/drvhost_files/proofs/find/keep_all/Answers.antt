use Rattle.std.proofs.Common.{◌≡◌, ◌∷◌, [], ◌∙◌, ap, append_assoc, arith, length}
use Rattle.std.specs.Vec.Iter.{into_iter_items}
use Rattle.drvhost_files.specs.Below.{file_of, folder_of}
use Rattle.drvhost_files.proofs.Below.{more_gathered}
use Rattle.drvhost_files.proofs.find.keep_all.Goals as goal

pub loop-entry-preserved : goal.loop-entry-preserved
loop-entry-preserved c =
    let at = c.loop-entry in
    let x = c.in-Some.entry in
    let steps : into_iter_items at.entry-iterator ≡ x ∷ into_iter_items c.next.new.self = c.in-Some.ensures.steps.0 in (
      append_assoc at.yielded (x ∷ []) _ ∙ rw (← steps) at.invariant.0,
      c.in_ok-keep.ensures.sets,
      more_gathered folder_of _ _ _ at.yielded x at.invariant.2 c.in_ok-keep.ensures.folders,
      more_gathered (file_of c.args.sought) _ _ _ at.yielded x at.invariant.3 c.in_ok-keep.ensures.files,
      let was = at.invariant.4 in
          let gone = c.in-Some.ensures.steps.1 in
          let short = ap length steps in
          omega arith,
    )
