-- The words of a driver text.
use Rattle.std.specs.Prelude.{ℕ, List, Option, Some, None, bytes_eq, codes, if◌then◌else◌}
use Rattle.model.specs.declared.status.Status.{Status}
use Rattle.model.specs.declared.status.Status.TheVariants.{Success, Pending, Busy, Unsuccessful, InvalidParameter, InvalidDeviceRequest, Cancelled}
use Rattle.model.specs.declared.instr.Field.{Field}
use Rattle.model.specs.declared.instr.Field.TheVariants.{Major as MajorField, Argument, Info}
use Rattle.model.specs.declared.set.Sort.{Sort}
use Rattle.model.specs.declared.set.Sort.TheVariants.{Dispatch as DispatchSort, StartIo, Dpc, Propagate, Hold, Cancel}

-- a status, by the end of its constant's name
abbrev pub status_of : List ℕ → Option Status
status_of t =
    if bytes_eq t (codes "SUCCESS") then Some Success else
    (if bytes_eq t (codes "PENDING") then Some Pending else
    (if bytes_eq t (codes "BUSY") then Some Busy else
    (if bytes_eq t (codes "UNSUCCESSFUL") then Some Unsuccessful else
    (if bytes_eq t (codes "INVALID_PARAMETER") then Some InvalidParameter else
    (if bytes_eq t (codes "INVALID_DEVICE_REQUEST") then Some InvalidDeviceRequest else
    (if bytes_eq t (codes "CANCELLED") then Some Cancelled else None))))))

-- a field of a packet
abbrev pub field_of : List ℕ → Option Field
field_of t =
    if bytes_eq t (codes "MAJOR") then Some MajorField else
    (if bytes_eq t (codes "ARG") then Some Argument else
    (if bytes_eq t (codes "INFO") then Some Info else None))

-- a sort of routine
abbrev pub sort_of : List ℕ → Option Sort
sort_of t =
    if bytes_eq t (codes "dispatch") then Some DispatchSort else
    (if bytes_eq t (codes "startio") then Some StartIo else
    (if bytes_eq t (codes "dpc") then Some Dpc else
    (if bytes_eq t (codes "propagate") then Some Propagate else
    (if bytes_eq t (codes "hold") then Some Hold else
    (if bytes_eq t (codes "cancel") then Some Cancel else None)))))

-- the word of a status
abbrev pub status_text : Status → List ℕ
status_text Success = codes "SUCCESS"
status_text Pending = codes "PENDING"
status_text Busy = codes "BUSY"
status_text Unsuccessful = codes "UNSUCCESSFUL"
status_text InvalidParameter = codes "INVALID_PARAMETER"
status_text InvalidDeviceRequest = codes "INVALID_DEVICE_REQUEST"
status_text Cancelled = codes "CANCELLED"

-- the word of a field of a packet
abbrev pub field_text : Field → List ℕ
field_text MajorField = codes "MAJOR"
field_text Argument = codes "ARG"
field_text Info = codes "INFO"
