use Rattle.std.proofs.Common.{rules}
use Rattle.model.specs.declared.world.Irql.TheVariants.{Passive}
use Rattle.scenario_world.proofs.cells.plain_number.Goals as goal

pub returns-in-Stays-Stepped : goal.returns-in-Stays-Stepped
returns-in-Stays-Stepped c =
    let loaded = c.load.ensures (record { thread = 255; root = Passive }) in
    search (rules, loaded)

pub returns-in-Stays-Wrong : goal.returns-in-Stays-Wrong
returns-in-Stays-Wrong c =
    let loaded = c.load.ensures (record { thread = 255; root = Passive }) in
    search (rules, loaded)
