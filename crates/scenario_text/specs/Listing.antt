-- A text as a scenario: the threads and the steps that it lists, or its first faulty line with the
-- kind of its first token that can't stand there. Lines, tokens and faults are those of a schedule.
use Rattle.std.specs.Prelude.{◌≡◌, ◌⊎◌, ℕ, zero, suc, ◌+◌, ◌-◌, nat_lt, List, [], ◌∷◌, ◌++◌, length, option_to_list, Option, Some, None, Result, Ok, Err, if◌then◌else◌}
use Rattle.interleave.specs.Line.{and_then}
use Rattle.interleave.specs.Listing.{Start, at_line, start}
use Rattle.interleave.specs.declared.schedule.ScheduleFault.{ScheduleFault}
use Rattle.interleave.specs.declared.schedule.ScheduleKind.{ScheduleKind}
use Rattle.interleave.specs.declared.schedule.ScheduleKind.TheVariants.{UnknownWord, TooLong, Memory}
use Rattle.scenario_text.specs.Line.{clean_tokens, line_of}
use Rattle.scenario_names.specs.Names.{Named}
use Rattle.scenario_text.specs.declared.reading.Said.{Said}
use Rattle.scenario_text.specs.declared.repeating.Block.{Block}
use Rattle.scenario_text.specs.declared.repeating.Block.TheVariants.{Plain, Opens, Ends}
use Rattle.scenario_text.specs.declared.repeating.Numbered.{Numbered}
use Rattle.scenario_text.specs.Repeating.{Open, block_in, kept}
use Rattle.scenario_steps.specs.declared.scenario.Step.{Step}
use Rattle.text.specs.Cut.{lines_of}

-- what lines have given so far: the names of the packets that they issue, the steps, and the block that
-- is open, if one is
pub record Given : Type 0 where
  pub packets : List (List ℕ)
  pub steps : List Step
  pub block : Option Open

-- what a scenario gives: its threads and its steps
pub record Listed : Type 0 where
  pub threads : ℕ
  pub steps : List Step

-- with what a line of a number says, at most 65,536 steps
abbrev pub with_said : Given → ℕ → List ℕ → Said → Given
with_said given n line said = record {
  packets = given.packets ++ option_to_list said.name;
  steps = given.steps ++ record { line = n; may = said.may; action = said.action } ∷ [];
  block = kept given.block n line;
}

abbrev pub lengthened : Given → ℕ → List ℕ → Option Said → Result Given ScheduleKind
lengthened given n line None = Ok given
lengthened given n line (Some said) =
    if nat_lt (length given.steps) 65536 then Ok (with_said given n line said) else Err TooLong

-- by the tokens of the line
abbrev pub with_tokens : Named → Given → ℕ → List ℕ → List (List ℕ) → Result Given ScheduleKind
with_tokens names given n line tokens =
    and_then (lengthened given n line) (line_of names given.packets tokens)

abbrev pub with_line : Named → Given → ℕ → List ℕ → Result Given ScheduleKind
with_line names given n line = and_then (with_tokens names given n line) (clean_tokens line)

-- with what these lines say, and that so often
abbrev pub with_lines : Named → Given → List Numbered → Result Given ScheduleKind
with_lines names given [] = Ok given
with_lines names given (l ∷ lines) =
    and_then (λ more. with_lines names more lines) (with_line names given l.number l.line)

abbrev pub repeated : Named → ℕ → Given → List Numbered → Result Given ScheduleKind
repeated names zero given lines = Ok given
repeated names (suc times) given lines =
    and_then (λ more. repeated names times more lines) (with_lines names given lines)

-- a block opens where none is open
abbrev pub opens : Given → ℕ → Option Open → Result Given ScheduleKind
opens given times None = Ok (record given { block = Some (record { times = times; lines = [] }) })
opens given times (Some block) = Err UnknownWord

-- and ends: its lines, which are listed once, are listed as often as it says
abbrev pub ends : Named → Given → Option Open → Result Given ScheduleKind
ends names given None = Err UnknownWord
ends names given (Some block) =
    repeated names (block.times - 1) (record given { block = None }) block.lines

-- what is given after a line of a number, with these names
abbrev pub given_by : Named → Given → ℕ → List ℕ → List (List ℕ) → Block
    → Result Given ScheduleKind
given_by names given n line tokens Plain = with_tokens names given n line tokens
given_by names given n line tokens (Opens times) = opens given times given.block
given_by names given n line tokens Ends = ends names given given.block

abbrev pub given_of : Named → Given → ℕ → List ℕ → List (List ℕ) → Result Given ScheduleKind
given_of names given n line tokens =
    and_then (given_by names given n line tokens) (block_in tokens)

abbrev pub given_after : Named → Given → ℕ → List ℕ → Result Given ScheduleKind
given_after names given n line = and_then (given_of names given n line) (clean_tokens line)

-- the steps, where no block is open behind the last line
abbrev pub closed : Given → ℕ → Option Open → Result (List Step) ScheduleFault
closed given n None = Ok given.steps
closed given n (Some block) = Err (record { line = n; kind = UnknownWord })

-- the steps with those of these lines after them, of which the first has the number n
abbrev pub listing : Named → Given → ℕ → List (List ℕ) → Result (List Step) ScheduleFault
listing names given n [] = closed given n given.block
listing names given n (line ∷ lines) =
    at_line n (given_after names given n line)
    (λ more. listing names more (n + 1) lines)

abbrev pub nothing : Given
nothing = record { packets = []; steps = []; block = None }

-- with so many threads
abbrev pub with_threads : ℕ → Result (List Step) ScheduleFault → Result Listed ScheduleFault
with_threads threads (Ok steps) = Ok (record { threads = threads; steps = steps })
with_threads threads (Err fault) = Err fault

-- the scenario of a start, with the steps of the lines behind it
abbrev pub opened : Named → Result Start ScheduleFault → Result Listed ScheduleFault
opened names (Ok s) = with_threads s.threads (listing names nothing (s.line + 1) s.rest)
opened names (Err fault) = Err fault

-- the scenario that a text lists, with these names, or its first fault
abbrev pub scenario_in : Named → List ℕ → Result Listed ScheduleFault
scenario_in names text = opened names (start 1 (lines_of text))

-- the fault is the text's first, or that memory ran out
abbrev pub IsFaultOf : Named → List ℕ → ScheduleFault → Type 0
IsFaultOf names text fault =
    (fault ≡ record { line = 0; kind = Memory }) ⊎ (scenario_in names text ≡ Err fault)
