-- The numbers of events and of major functions in the header.
use Rattle.std.specs.Prelude.{ℕ, nat_eq, if◌then◌else◌, Option, None, Some}
use Rattle.model.specs.declared.event.Event.{Event}
use Rattle.model.specs.declared.event.Event.TheVariants.{Issue, Cancel, Interrupt, Dpc, StartIo, Step}
use Rattle.model.specs.declared.status.Major.{Major}
use Rattle.model.specs.declared.status.Major.TheVariants.{Read, Write, Control}
use Rattle.pafteis_values.specs.declared.event.EventValue.{EventValue}

-- the major function of an IRP_MJ number, if a request may have it
abbrev pub major_named : ℕ → Option Major
major_named n =
    if nat_eq n 3 then Some Read
    else if nat_eq n 4 then Some Write
    else if nat_eq n 14 then Some Control
    else None

-- the issue of a request whose major function is known
abbrev pub issue_named : ℕ → ℕ → Option Major → ℕ → Option Event
issue_named thread device None argument = None
issue_named thread device (Some major) argument = Some (Issue thread device major argument)

-- the event that a value names: by its kind, 1 to 6
abbrev pub event_named : EventValue → Option Event
event_named v =
    if nat_eq v.kind 1 then issue_named v.thread v.device (major_named v.major) v.argument
    else if nat_eq v.kind 2 then Some (Cancel v.thread v.packet v.level)
    else if nat_eq v.kind 3 then Some (Interrupt v.device)
    else if nat_eq v.kind 4 then Some (Dpc v.thread v.device)
    else if nat_eq v.kind 5 then Some (StartIo v.thread v.device)
    else if nat_eq v.kind 6 then Some (Step v.thread)
    else None
