-- Which answers are painted.
use Rattle.std.specs.Prelude.{Bool, cond, false, true}
use Rattle.drvhost_devices.specs.declared.coloring.Coloring.{Coloring}
use Rattle.drvhost_devices.specs.declared.coloring.Coloring.TheVariants.{Auto, Always, Never}
use Rattle.drvhost_devices.specs.declared.surroundings.Surroundings.{Surroundings}

-- by what is asked for, and by what a run finds around it
abbrev pub is_painted : Coloring → Surroundings → Bool
is_painted Auto surroundings =
    cond surroundings.is_colorless false surroundings.is_output_terminal
is_painted Always surroundings = true
is_painted Never surroundings = false
