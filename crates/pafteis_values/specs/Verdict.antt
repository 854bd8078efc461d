-- The numbers of verdicts in the header.
use Rattle.std.specs.Prelude.{ℕ}
use Rattle.asm.specs.declared.fault.AsmFault.{AsmFault}
use Rattle.asm.specs.declared.fault.AsmKind.{AsmKind}
use Rattle.asm.specs.declared.fault.AsmKind.TheVariants as text
use Rattle.image.specs.declared.fault.ImageFault.{ImageFault}
use Rattle.image.specs.declared.fault.ImageFault.TheVariants as image
use Rattle.model.specs.declared.abs.Refusal.{Refusal}
use Rattle.model.specs.LocalRule.{rule_number}
use Rattle.pafteis_values.specs.declared.verdict.Verdict.{Verdict}
use Rattle.pafteis_values.specs.declared.verdict.Verdict.TheVariants.{Accepted, Refused, Text, Image, NoMemory}
use Rattle.pafteis_values.specs.declared.verdict.VerdictValue.{VerdictValue}

-- the status of a call that answers so
abbrev pub status_number : Verdict → ℕ
status_number Accepted = 0
status_number (Refused refusal) = 1
status_number (Text fault) = 2
status_number (Image fault) = 2
status_number NoMemory = 3

-- the number of the kind of a text's fault
abbrev pub text_number : AsmKind → ℕ
text_number text.Lex = 1
text_number text.UnknownWord = 2
text_number text.DuplicateName = 3
text_number text.UnknownName = 4
text_number text.OutOfRange = 5
text_number text.Unclosed = 6
text_number text.OverLimit = 7
text_number text.Memory = 8

-- the number of an image's fault
abbrev pub image_number : ImageFault → ℕ
image_number image.Magic = 1
image_number image.Truncated = 2
image_number image.Trailing = 3
image_number image.BadOpcode = 4
image_number image.OverLimit = 5
image_number image.Memory = 6

-- nothing to tell
abbrev pub no_value : VerdictValue
no_value =
    record {
      line = 0;
      rule = 0;
      driver = 0;
      routine = 0;
      position = 0;
      text_fault = 0;
      image_fault = 0;
    }

abbrev pub refusal_value : Refusal → VerdictValue
refusal_value r =
    record no_value {
      rule = rule_number r.rule;
      driver = r.driver;
      routine = r.routine;
      position = r.at;
    }

abbrev pub text_value : AsmFault → VerdictValue
text_value fault = record no_value { line = fault.line; text_fault = text_number fault.kind }

abbrev pub image_value : ImageFault → VerdictValue
image_value fault = record no_value { image_fault = image_number fault }

-- what a verdict tells, as a value
abbrev pub verdict_value : Verdict → VerdictValue
verdict_value Accepted = no_value
verdict_value (Refused refusal) = refusal_value refusal
verdict_value (Text fault) = text_value fault
verdict_value (Image fault) = image_value fault
verdict_value NoMemory = no_value
