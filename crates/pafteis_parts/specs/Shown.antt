-- A run of a set by a schedule, as it is shown.
use Rattle.drvhost_devices.specs.Answer.{Answer}
use Rattle.drvhost_devices.specs.Device.{Supply}
use Rattle.drvhost_devices.specs.Ends.{IsTraceOf}
use Rattle.drvhost_devices.specs.declared.figure.Figure.TheVariants.{Picture}
use Rattle.answer_views.specs.Told.{IsDrawOf, IsTellOf}
use Rattle.pafteis_parts.specs.declared.answers.Run.{Run}
use Rattle.pafteis_parts.specs.declared.answers.Run.TheVariants.{Trace, Tell, Draw}

abbrev pub IsRunAs : Run → Supply → Supply → Answer → Type 0
IsRunAs (Trace verification) set schedule = IsTraceOf verification set schedule
IsRunAs (Tell t) set schedule = IsTellOf t.verification t.manner set schedule
IsRunAs (Draw verification) set schedule = IsDrawOf verification Picture set schedule
