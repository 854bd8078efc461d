-- The objects of faults of inputs: the data of the lines of `report.specs.Fault`.
use Rattle.std.specs.Prelude.{ℕ, List, codes, decimal}
use Rattle.json.specs.Json.{Json, number, string, object, Members, no_members, member}
use Rattle.asm.specs.Laws.{kind_number}
use Rattle.report.specs.Fault.{image_fault_name, image_fault_number, schedule_kind_name, schedule_kind_number, text_kind_name}
use Rattle.report_json.specs.declared.fault.InputFault.{InputFault}
use Rattle.report_json.specs.declared.fault.InputFault.TheVariants.{Text, Image, Schedule, Script, Unreadable}

-- the name of the shape, and its edition
abbrev pub fault_format : List ℕ
fault_format = codes "pafteis.fault/1"

-- what the file was read as, or to be
abbrev pub input_name : InputFault → List ℕ
input_name (Text fault) = codes "text"
input_name (Image fault) = codes "image"
input_name (Schedule fault) = codes "schedule"
input_name (Script fault) = codes "script"
input_name Unreadable = codes "file"

-- the kind of a fault, by its number and its name, and its line
abbrev pub kind_and_line : ℕ → List ℕ → ℕ → Members
kind_and_line kind name line =
    member (codes "number") (number (decimal kind))
    (member (codes "kind") (string name)
    (member (codes "line") (number (decimal line))
    no_members))

-- that without a line
abbrev pub kind_alone : ℕ → List ℕ → Members
kind_alone kind name =
    member (codes "number") (number (decimal kind))
    (member (codes "kind") (string name)
    no_members)

-- what is told of a fault: an image has no lines, and that a file can't be read is no kind
abbrev pub fault_members : InputFault → Members
fault_members (Text fault) =
    kind_and_line (kind_number fault.kind) (text_kind_name fault.kind) fault.line
fault_members (Image fault) = kind_alone (image_fault_number fault) (image_fault_name fault)
fault_members (Schedule fault) =
    kind_and_line (schedule_kind_number fault.kind) (schedule_kind_name fault.kind) fault.line
fault_members (Script fault) =
    kind_and_line (schedule_kind_number fault.kind) (schedule_kind_name fault.kind) fault.line
fault_members Unreadable = member (codes "kind") (string (codes "Unreadable")) no_members

-- the fault of a file
abbrev pub fault_json : List ℕ → InputFault → Json
fault_json file fault =
    object
    (member (codes "format") (string fault_format)
    (member (codes "file") (string file)
    (member (codes "input") (string (input_name fault))
    (fault_members fault))))
