use Rattle.drvhost_devices.proofs.fault.tell.Goals as goal

pub returns-in-Text : goal.returns-in-Text
returns-in-Text g c =
    rw c.in-Text.is
    (rw (c.bytes.ensures, c.text_fault.ensures, c.clear.ensures) at c.say-in-Text.ensures)

pub returns-in-Image : goal.returns-in-Image
returns-in-Image g c =
    rw c.in-Image.is
    (rw (c.bytes-in-Image.ensures, c.image_fault.ensures, c.clear-in-Image.ensures) at
    c.say-in-Image.ensures)

pub returns-in-Schedule : goal.returns-in-Schedule
returns-in-Schedule g c =
    rw c.in-Schedule.is
    (rw (c.bytes-in-Schedule.ensures, c.schedule_fault.ensures, c.clear-in-Schedule.ensures) at
    c.say-in-Schedule.ensures)

pub returns-in-Script : goal.returns-in-Script
returns-in-Script g c =
    rw c.in-Script.is
    (rw (c.bytes-in-Script.ensures, c.script_fault.ensures, c.clear-in-Script.ensures) at
    c.say-in-Script.ensures)
