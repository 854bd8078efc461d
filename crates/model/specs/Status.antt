-- The values of the status constants (Driver Kit, NTSTATUS values) and of the major functions
-- (Driver Kit, IRP major function codes).
use Rattle.std.specs.Prelude.{ℕ}
use Rattle.model.specs.declared.status.Major.{Major}
use Rattle.model.specs.declared.status.Major.TheVariants.{Read, Write, Control}
use Rattle.model.specs.declared.status.Status.{Status}
use Rattle.model.specs.declared.status.Status.TheVariants.{Success, Pending, Busy, Unsuccessful, InvalidParameter, InvalidDeviceRequest, Cancelled}

-- the 32-bit value of a status
abbrev pub status_code : Status → ℕ
status_code Success = 0x00000000
status_code Pending = 0x00000103
status_code Busy = 0x80000011
status_code Unsuccessful = 0xC0000001
status_code InvalidParameter = 0xC000000D
status_code InvalidDeviceRequest = 0xC0000010
status_code Cancelled = 0xC0000120

-- the number of a major function: IRP_MJ_READ, IRP_MJ_WRITE, IRP_MJ_DEVICE_CONTROL
abbrev pub major_code : Major → ℕ
major_code Read = 3
major_code Write = 4
major_code Control = 14
