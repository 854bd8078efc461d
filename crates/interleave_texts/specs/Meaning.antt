-- What the text of a script says, apart from how it is read.
use Rattle.std.specs.Prelude.{◌≡◌, ℕ, ◌+◌, ◌<◌, ◌≤◌, List, [], ◌∷◌, ◌++◌, length, slice_get, Option, Some, None, Ok, Err}
use Rattle.model.specs.declared.history.Command.{Command}
use Rattle.model.specs.declared.history.Command.TheVariants.{Request, Cancel}
use Rattle.model.specs.declared.history.Name.{Name}
use Rattle.model.specs.declared.status.Major.{Major}
use Rattle.text.specs.Cut.{lines_of}
use Rattle.interleave.specs.declared.schedule.ScheduleFault.{ScheduleFault}
use Rattle.interleave_texts.specs.Script.{command_line, commands_after}

-- the command that a line gives, or none
abbrev pub given : Option Command → List Command
given None = []
given (Some command) = command ∷ []

-- after the commands before them, the lines give these commands, line after line
abbrev pub Tell : List Command → List (List ℕ) → List Command → Type 0
Tell before [] commands = commands ≡ []
Tell before (line ∷ lines) commands = (c : Option Command) × (rest : List Command)
    × (command_line before line ≡ Ok c) × (commands ≡ given c ++ rest)
    × Tell (before ++ given c) lines rest

-- the text gives the commands in their order
pub record IsScript (text : List ℕ) (commands : List Command) : Type 0 where
  pub tells : Tell [] (lines_of text) commands
  pub few : length commands ≤ 65536

-- the fault is of the first faulty line, with the commands of the lines before it
pub record IsFirstFault (text : List ℕ) (fault : ScheduleFault) : Type 0 where
  pub before : List (List ℕ)
  pub line : List ℕ
  pub rest : List (List ℕ)
  pub commands : List Command
  pub parts : lines_of text ≡ before ++ line ∷ rest
  pub tells : Tell [] before commands
  pub faulty : commands_after commands line ≡ Err fault.kind
  pub number : fault.line ≡ length before + 1

-- the command of a number is a request
pub record IsRequest (commands : List Command) (count : ℕ) : Type 0 where
  pub device : ℕ
  pub major : Major
  pub argument : ℕ
  pub is : slice_get commands count ≡ Some (Request device major argument)

-- the name is of a request that stands before this place
pub record IsOfEarlier (commands : List Command) (place : ℕ) (name : Name) : Type 0 where
  pub submitter : name.submitter ≡ 0
  pub earlier : name.count < place
  pub request : IsRequest commands name.count

-- each cancel names an earlier request
abbrev pub CancelsEarlier : List Command → Type 0
CancelsEarlier commands = (place : ℕ) (name : Name) (level : ℕ)
    → slice_get commands place ≡ Some (Cancel name level) → IsOfEarlier commands place name
