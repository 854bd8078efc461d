use Rattle.std.proofs.Common.{◌++◌, List, ℕ, ap, ◌∙◌}
use Rattle.asm_line.specs.Listing.{device_lines, driver_lines, listed, text_of}
use Rattle.asm_line.proofs.Written.{then_written}
use Rattle.asm_line.proofs.listed_lines.listing.Goals as goal

pub returns : goal.returns
returns c =
    let s = c.args.set.now in
    let drivers = listed driver_lines 0 s.drivers in
    let devices = listed device_lines 0 s.devices in
    let one = rw (c.in_ok-write_drivers.was, c.drivers.ensures.drivers) at c.write_drivers.ensures
    in
    let two = rw (c.in_ok-write_devices.was, c.devices.ensures.devices) at c.write_devices.ensures
    in
    then_written drivers devices _ _ _ one two
    ∙ ap (λ (t : List ℕ). t ++ text_of (drivers ++ devices)) c.new-text.ensures.bytes
