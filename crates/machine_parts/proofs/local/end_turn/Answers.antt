use Rattle.std.proofs.Common.{◌≡◌, ◌-◌, ℕ, List, Some, length, ap, refl, rules}
use Rattle.std.specs.Prelude.{slice_get}
use Rattle.model.specs.declared.world.OpenLoop.{OpenLoop}
use Rattle.machine_parts.proofs.FrameLists.{found_last, set_last}
use Rattle.machine_parts.proofs.local.end_turn.Goals as goal

pub returns : goal.returns
returns c =
    let loops : List OpenLoop = c.args.a.now.loops.items in
    let l : OpenLoop = c.in-Some.innermost.now in
    let last : c.len-place.result - 1 ≡ length loops - 1 =
    ap (λ (n : ℕ). n - 1) c.len-place.ensures.value in
    let there : slice_get loops (length loops - 1) ≡ Some l =
    found_last loops (c.len-place.result - 1) l last (c.in-Some.ensures.variant.0 refl)
    c.in-Some.ensures.value in
    rw (last, set_last loops l (record { start = l.start; turns = l.turns - 1 }) there, there)
    (search rules)
