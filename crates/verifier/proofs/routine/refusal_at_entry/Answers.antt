use Rattle.std.proofs.Common.{◌≡◌, List, subst}
use Rattle.std.specs.Prelude.{if◌then◌else◌}
use Rattle.model.specs.declared.instr.Instr.{Instr}
use Rattle.model.specs.declared.abs.Rule.TheVariants.{Malformed, Sort as SortRule}
use Rattle.model.specs.Paths.{is_malformed}
use Rattle.model.specs.Set.{member}
use Rattle.verifier.proofs.Verdicts.{refusal_of_entry}
use Rattle.verifier.proofs.routine.refusal_at_entry.Goals as goal

pub returns-in-Ok : goal.returns-in-Ok
returns-in-Ok c =
    refusal_of_entry (member c.args.set.now c.args.driver c.args.number c.args.routine.now)
    c.in-Ok.rule c.refusal.result c.requires.barred
    (subst (λ (code : List Instr). c.in-Ok.rule
    ≡ (if is_malformed code 0 then Malformed else SortRule))
    c.as_slice.ensures (c.in-Ok.ensures {u = tt}))
    c.refusal.ensures
