use Rattle.std.proofs.Common.{◌≡◌, ◌∷◌, ◌++◌, [], subst}
use Rattle.drvhost_files.specs.Below.{Knows}
use Rattle.drvhost_files.proofs.find.look_below.Goals as goal

pub loop-preserved : goal.loop-preserved
loop-preserved g c =
    let folder = c.in-Some.folder in
    let waits : c.loop.gathered.waiting.items ≡ c.pop.new.self.items ++ folder ∷ [] =
    c.in-Some.ensures.items in (
      c.in_ok-look_into.ensures.sets,
      λ has root lists knows.
          c.in_ok-look_into.ensures.below has root lists
          (subst (λ w. Knows c.args.sought has root w c.loop.gathered.files.items) waits
          (c.loop.invariant.1 has root lists knows)),
    )
