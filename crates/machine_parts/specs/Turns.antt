-- `end` where a loop is open.
use Rattle.std.specs.Prelude.{Option, None, Some}
use Rattle.laws_slots.specs.declared.activation.WordActivation.{WordActivation}
use Rattle.model.specs.declared.world.OpenLoop.{OpenLoop}
use Rattle.laws_slots.specs.Words.{turned, innermost}

abbrev pub turned_by : WordActivation → Option OpenLoop → WordActivation
turned_by a None = a
turned_by a (Some l) = turned a l

abbrev pub turned_on : WordActivation → WordActivation
turned_on a = turned_by a (innermost a)
