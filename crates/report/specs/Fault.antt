-- The lines of faults of inputs, and of what else keeps a program from its answer.
use Rattle.std.specs.Prelude.{ℕ, List, [], ◌∷◌, ◌++◌, codes}
use Rattle.std.specs.Fmt.{decimal}
use Rattle.asm.specs.Laws.{kind_number}
use Rattle.asm.specs.declared.fault.AsmFault.{AsmFault}
use Rattle.asm.specs.declared.fault.AsmKind.{AsmKind}
use Rattle.asm.specs.declared.fault.AsmKind.TheVariants as asm_kind
use Rattle.image.specs.declared.fault.ImageFault.{ImageFault}
use Rattle.image.specs.declared.fault.ImageFault.TheVariants as image_fault
use Rattle.interleave.specs.declared.schedule.ScheduleFault.{ScheduleFault}
use Rattle.interleave.specs.declared.schedule.ScheduleKind.{ScheduleKind}
use Rattle.interleave.specs.declared.schedule.ScheduleKind.TheVariants as schedule_kind
use Rattle.report.specs.Line.{line_of}

-- the name of a kind of fault of the text of a set
abbrev pub text_kind_name : AsmKind → List ℕ
text_kind_name asm_kind.Lex = codes "Lex"
text_kind_name asm_kind.UnknownWord = codes "UnknownWord"
text_kind_name asm_kind.DuplicateName = codes "DuplicateName"
text_kind_name asm_kind.UnknownName = codes "UnknownName"
text_kind_name asm_kind.OutOfRange = codes "OutOfRange"
text_kind_name asm_kind.Unclosed = codes "Unclosed"
text_kind_name asm_kind.OverLimit = codes "OverLimit"
text_kind_name asm_kind.Memory = codes "Memory"

-- the number and the name of a kind of fault of a schedule
abbrev pub schedule_kind_number : ScheduleKind → ℕ
schedule_kind_number schedule_kind.Lex = 1
schedule_kind_number schedule_kind.UnknownWord = 2
schedule_kind_number schedule_kind.OutOfRange = 3
schedule_kind_number schedule_kind.TooLong = 4
schedule_kind_number schedule_kind.Memory = 5

abbrev pub schedule_kind_name : ScheduleKind → List ℕ
schedule_kind_name schedule_kind.Lex = codes "Lex"
schedule_kind_name schedule_kind.UnknownWord = codes "UnknownWord"
schedule_kind_name schedule_kind.OutOfRange = codes "OutOfRange"
schedule_kind_name schedule_kind.TooLong = codes "TooLong"
schedule_kind_name schedule_kind.Memory = codes "Memory"

-- the number and the name of a fault of an image
abbrev pub image_fault_number : ImageFault → ℕ
image_fault_number image_fault.Magic = 1
image_fault_number image_fault.Truncated = 2
image_fault_number image_fault.Trailing = 3
image_fault_number image_fault.BadOpcode = 4
image_fault_number image_fault.OverLimit = 5
image_fault_number image_fault.Memory = 6

abbrev pub image_fault_name : ImageFault → List ℕ
image_fault_name image_fault.Magic = codes "Magic"
image_fault_name image_fault.Truncated = codes "Truncated"
image_fault_name image_fault.Trailing = codes "Trailing"
image_fault_name image_fault.BadOpcode = codes "BadOpcode"
image_fault_name image_fault.OverLimit = codes "OverLimit"
image_fault_name image_fault.Memory = codes "Memory"

-- the line of a fault of an image, which has no lines
abbrev pub image_fault_line : ImageFault → List ℕ
image_fault_line fault =
    line_of
    (codes "image" ∷ codes "fault" ∷ decimal (image_fault_number fault)
    ∷ image_fault_name fault ∷ [])

-- what follows the name of the input: number and name of the kind of fault, and its line
abbrev pub fault_line : ℕ → List ℕ → ℕ → List ℕ
fault_line number name line =
    32 ∷ line_of (codes "fault" ∷ decimal number ∷ name ∷ codes "line" ∷ decimal line ∷ [])

-- the line of a fault of the text of a set
abbrev pub text_fault_line : AsmFault → List ℕ
text_fault_line fault =
    codes "text" ++ fault_line (kind_number fault.kind) (text_kind_name fault.kind) fault.line

-- what follows the name of a schedule or a script in the line of a fault
abbrev pub kind_and_line : ScheduleFault → List ℕ
kind_and_line fault =
    fault_line (schedule_kind_number fault.kind) (schedule_kind_name fault.kind) fault.line

-- the line of a fault of a schedule
abbrev pub schedule_fault_line : ScheduleFault → List ℕ
schedule_fault_line fault = codes "schedule" ++ kind_and_line fault

-- the line of a fault of a script
abbrev pub script_fault_line : ScheduleFault → List ℕ
script_fault_line fault = codes "script" ++ kind_and_line fault

-- the line of an input that can't be opened, by its name
abbrev pub unopened_line : List ℕ → List ℕ
unopened_line name = codes "cannot read " ++ (name ++ 10 ∷ [])
