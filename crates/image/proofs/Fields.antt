-- The lists of a driver and of a set behind their first eight fields.
use Rattle.std.proofs.Common.{ℕ, List, Option, Ok}
use Rattle.image.specs.declared.edition.Edition.{Edition}
use Rattle.image.specs.Reading.{◌>>=◌, all_at, device_at, driver_at, queue_at, routine_at, Read}
use Rattle.model.specs.declared.set.Driver.{Driver}
use Rattle.model.specs.Set.{Set}

-- what a driver is, by the lists behind its first eight fields
abbrev pub driver_lists : Edition → ℕ → ℕ → Option ℕ → Option ℕ → Option ℕ → Option ℕ → Option ℕ
    → Option ℕ → List ℕ → Read Driver
driver_lists edition routines queues read write control startio dpc waiting bytes =
    all_at (λ _. queue_at routines) 0 queues bytes >>= λ listed.
    all_at (λ _. routine_at edition routines queues) 0 routines listed.1 >>= λ coded.
    Ok (
      record {
        routines = coded.0;
        queues = listed.0;
        read = read;
        write = write;
        control = control;
        startio = startio;
        startio_cancel = waiting;
        dpc = dpc;
      },
      coded.1,
    )

-- and a set likewise
abbrev pub set_lists : Edition → ℕ → ℕ → List ℕ → Read Set
set_lists edition drivers devices bytes =
    all_at (λ _. driver_at edition) 0 drivers bytes >>= λ first.
    all_at (device_at drivers) 0 devices first.1 >>= λ second.
    Ok (record { drivers = first.0; devices = second.0 }, second.1)
