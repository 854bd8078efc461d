-- The trace of a run in any form that has a line for each reply.
use Rattle.std.specs.Prelude.{ℕ, ◌≡◌, ◌+◌, ◌++◌, ◌⊎◌, if◌then◌else◌, List, [], ◌∷◌, codes, Option, Result, Ok, Err}
use Rattle.std.specs.Io.KnownBytes.{Appends, Keeps}
use Rattle.std.specs.List.{list_any}
use Rattle.model.specs.declared.event.Reply.{Reply}
use Rattle.drvhost_devices.specs.declared.fault.End.{End}
use Rattle.drvhost_devices.specs.declared.fault.End.TheVariants.{Complete, Stopped}
use Rattle.drvhost_devices.specs.declared.fault.Fault.{Fault}
use Rattle.drvhost_devices.specs.declared.fault.Fault.TheVariants as stop
use Rattle.drvhost_devices.specs.Answer.{Answer, ended, is_last}
use Rattle.drvhost_devices.specs.Device.{TakesBeginning}

-- the lines of replies, the first of which is to the event of this number, where this is the line of
-- a reply
abbrev pub lines_by : (ℕ → Reply → List ℕ) → ℕ → List Reply → List ℕ
lines_by line number [] = []
lines_by line number (reply ∷ rest) = line number reply ++ lines_by line (number + 1) rest

-- the trace that they make: stopped, if one of the replies is the last
abbrev pub traced_by : (ℕ → Reply → List ℕ) → List Reply → Answer
traced_by line all = ended (if list_any is_last all then Stopped else Complete) (lines_by line 0 all)

-- an answer that is cut short since memory ran out
pub record IsOutOfMemory (answer : Answer) : Type 0 where
  pub status : answer.status ≡ 3
  pub says : answer.told ≡ codes "out of memory\n"

-- an answer, or a beginning of it where memory ran out
pub record IsBeginning (whole answer : Answer) : Type 0 where
  pub rest : List ℕ
  pub split : whole.output ≡ answer.output ++ rest
  pub short : IsOutOfMemory answer

-- the trace of a run with these replies, or a beginning of it, where memory may run out on the way
abbrev pub IsTraceBy : Type 0 → (ℕ → Reply → List ℕ) → List Reply → Answer → Type 0
IsTraceBy lacks line all answer =
    (answer ≡ traced_by line all) ⊎ (lacks × IsBeginning (traced_by line all) answer)

-- a write failed, or memory ran out, where it may
abbrev pub Breaks : Type 0 → Fault → Type 0
Breaks lacks fault = (fault ≡ stop.Write) ⊎ ((fault ≡ stop.Memory) × lacks)

-- a run was told to its end or to a fault, where these answers are right: the output of a right
-- answer went out; a write failed, and a beginning of it did; or memory ran out, and nothing went
-- out, or a right answer that is cut short
abbrev pub Streams : (Answer → Type 0) → Option (List ℕ) → Option (List ℕ) → Result End Fault
    → Type 0
Streams Right before after (Ok end) =
    (text : List ℕ) × Right (ended end text) × Appends before after text
Streams Right before after (Err stop.Write) =
    (answer : Answer) × Right answer × TakesBeginning before after answer.output
Streams Right before after (Err stop.Memory) =
    Keeps before after
    ⊎ ((answer : Answer) × Right answer × IsOutOfMemory answer
    × Appends before after answer.output)
Streams Right before after (Err stop.Read) = ⊥
Streams Right before after (Err (stop.Text fault)) = ⊥
Streams Right before after (Err (stop.Image fault)) = ⊥
Streams Right before after (Err (stop.Schedule fault)) = ⊥
Streams Right before after (Err (stop.Script fault)) = ⊥
