-- What can stand anywhere in a routine but at its end, and what hands on whole states.
use Rattle.std.proofs.Common.{◌≡◌, ℕ, ◌+◌, ◌<◌, true, false, List, length, Some, nat_eq, refl, arith, ap, ◌∙◌}
use Rattle.std.specs.Prelude.{slice_get}
use Rattle.std.proofs.lemmas.Bool.{ne_eqb}
use Rattle.model.specs.declared.abs.Abs.{Abs}
use Rattle.model.specs.declared.instr.Instr.{Instr}
use Rattle.model.specs.declared.instr.Instr.TheVariants.{Remove, Disarm, Take, IfPending}
use Rattle.model.specs.LocalRule.{handed_at_label}
use Rattle.model.specs.Paths.{is_malformed, is_misplaced, is_misplaced_by, isnt_return}
use Rattle.model.specs.Set.{Flow, Onward, Branches, Jumps, Opens, Closes, Leaves, flow_of}
use Rattle.verifier.specs.Survey.{is_onward}
use Rattle.verifier.specs.Table.{changes_at_label}
use Rattle.verifier.proofs.Faults.{past_false}

onward_placed : (code : List Instr) (at : ℕ) (flow : Flow) → is_onward flow ≡ true
    → is_misplaced_by code at flow ≡ false
onward_placed code at Onward onward = refl
onward_placed code at (Branches label) onward = cc
onward_placed code at (Jumps label) onward = cc
onward_placed code at (Opens turns) onward = cc
onward_placed code at Closes onward = cc
onward_placed code at Leaves onward = cc

pub onward_formed : (code : List Instr) (at : ℕ) (i : Instr) → slice_get code at ≡ Some i
    → is_onward (flow_of i) ≡ true → at + 1 < length code → is_malformed code at ≡ false
onward_formed code at i here onward more =
    past_false (nat_eq (length code) 0) (nat_eq (at + 1) (length code))
    (isnt_return (slice_get code at)) (is_misplaced code at (slice_get code at))
    (ne_eqb (length code) 0 (λ same. absurd (omega (arith, more, same))))
    (ne_eqb (at + 1) (length code) (λ same. absurd (omega (arith, more, same))))
    (ap (is_misplaced code at) here ∙ onward_placed code at (flow_of i) onward)

pub handed_whole : (s : Abs) (i : Instr) → changes_at_label i ≡ false → handed_at_label s i ≡ s
handed_whole s (Remove r queue label) whole = cc
handed_whole s (Disarm r label) whole = cc
handed_whole s (Take r label) whole = cc
handed_whole s (IfPending r label) whole = cc
handed_whole s _ whole = refl
