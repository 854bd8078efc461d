-- What the header tells of an accepted set.
use Rattle.std.specs.Prelude.{ℕ, Option, length, option_and_then, option_map, slice_get, unwrap_or}
use Rattle.model.specs.Certificate.{certificate_of}
use Rattle.model.specs.Set.{Set, dpc_of, serving, startio_of}
use Rattle.model.specs.declared.set.Device.{Device}
use Rattle.model.specs.declared.set.Routine.{Routine}
use Rattle.model.specs.declared.set.Sort.{Sort}
use Rattle.model.specs.declared.set.Sort.TheVariants.{Dispatch, StartIo, Dpc, Propagate, Hold, Cancel}
use Rattle.model.specs.declared.status.Major.TheVariants.{Read, Write, Control}
use Rattle.pafteis_values.specs.declared.shape.DeviceValue.{DeviceValue}
use Rattle.pafteis_values.specs.declared.shape.RoutineValue.{RoutineValue}
use Rattle.pafteis_values.specs.declared.shape.SetValue.{SetValue}

-- how many drivers and devices a set has
abbrev pub set_value : Set → SetValue
set_value set = record { drivers = length set.drivers; devices = length set.devices }

-- a number that there may not be: 255 then
abbrev pub or_none : Option ℕ → ℕ
or_none number = unwrap_or number 255

-- a device of this number: where its packets go, and which routines of its driver serve it
abbrev pub device_value : Set → ℕ → Device → DeviceValue
device_value set number d =
    record {
      driver = d.driver;
      stack = d.stack;
      lower = or_none d.lower;
      read = serving (slice_get set.drivers d.driver) Read;
      write = serving (slice_get set.drivers d.driver) Write;
      control = serving (slice_get set.drivers d.driver) Control;
      startio = or_none (startio_of set number);
      dpc = or_none (dpc_of set number);
    }

abbrev pub device_shown : Set → ℕ → Option DeviceValue
device_shown set number = option_map (device_value set number) (slice_get set.devices number)

-- the number of a sort
abbrev pub sort_number : Sort → ℕ
sort_number Dispatch = 1
sort_number StartIo = 2
sort_number Dpc = 3
sort_number Propagate = 4
sort_number Hold = 5
sort_number Cancel = 6

-- a routine that a driver has by this number, with its certificate
abbrev pub routine_value : Set → ℕ → ℕ → Routine → RoutineValue
routine_value set driver number r =
    record {
      instructions = length r.code;
      certificate = certificate_of set driver number;
      sort = sort_number r.sort;
    }

abbrev pub routine_shown : Set → ℕ → ℕ → Option RoutineValue
routine_shown set driver number =
    option_map (routine_value set driver number)
    (option_and_then (λ d. slice_get d.routines number) (slice_get set.drivers driver))
