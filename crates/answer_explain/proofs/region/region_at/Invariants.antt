use Rattle.std.proofs.Common.{◌≡◌, ◌-◌, slice_get}
use Rattle.text.specs.Cut.{lines_of}
use Rattle.answer_explain.proofs.region.region_at.Given as goal

abbrev pub invariant-loop : goal.invariant-loop
invariant-loop l =
    slice_get l.left (l.number - l.counter) ≡ slice_get (lines_of l.text) (l.number - 1)
