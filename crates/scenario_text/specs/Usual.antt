-- The usual form of a line: a word, and operands that each stand after one space; or the name of a
-- packet, and what issues it.
use Rattle.std.specs.Prelude.{◌≡◌, ℕ, ◌<◌, ◌^◌, ◌-◌, ◌&&◌, ◌||◌, Bool, true, false, not, bytes_eq, codes, List, ◌∷◌, ◌++◌, Option, Some, Result, Ok}
use Rattle.interleave.specs.Line.{and_then}
use Rattle.interleave.specs.declared.schedule.ScheduleKind.{ScheduleKind}
use Rattle.model.specs.declared.status.Major.{Major}
use Rattle.model.specs.declared.status.Status.{Status}
use Rattle.scenario_expected.specs.Expecting.{expect_line}
use Rattle.scenario_names.specs.Names.{Named}
use Rattle.scenario_names.specs.Operands.{byte_of, device_of, major_from, number_of, packet_of, status_named}
use Rattle.scenario_text.specs.Line.{clean_tokens, line_of, named}
use Rattle.scenario_text.specs.Repeating.{block_in}
use Rattle.scenario_text.specs.declared.quick.SaidUsually.{SaidUsually}
use Rattle.scenario_text.specs.declared.reading.Said.{Said}
use Rattle.scenario_text.specs.declared.repeating.Block.TheVariants.{Plain}
use Rattle.scenario_steps.specs.Steps.{action_of}
use Rattle.scenario_steps.specs.declared.scenario.Action.{Action}
use Rattle.scenario_steps.specs.declared.scenario.Action.TheVariants.{Expect}
use Rattle.scenario_steps.specs.declared.steps.Usual.{Usual}
use Rattle.text.specs.Class.{is_name, is_word}
use Rattle.text.specs.Spaced.{ArePlain, IsPlain, spaced}

-- a space and the number of a thread stand before the rest
pub record TakesThread (bytes : List ℕ) (number : ℕ) (rest : List ℕ) : Type 0 where
  pub word : List ℕ
  pub parts : bytes ≡ 32 ∷ word ++ rest
  pub plain : IsPlain word
  pub one : bytes_eq word (codes "all") ≡ false
  pub small : number < 100
  pub says : byte_of word ≡ Ok number

-- a space and what stands for a device stand before the rest
pub record TakesDevice (devices : List (List ℕ)) (bytes : List ℕ) (device : ℕ) (rest : List ℕ)
    : Type 0 where
  pub word : List ℕ
  pub parts : bytes ≡ 32 ∷ word ++ rest
  pub plain : IsPlain word
  pub says : device_of devices word ≡ Ok device

-- a space and the word of a major function stand before the rest
pub record TakesMajor (bytes : List ℕ) (major : Major) (rest : List ℕ) : Type 0 where
  pub word : List ℕ
  pub parts : bytes ≡ 32 ∷ word ++ rest
  pub plain : IsPlain word
  pub says : major_from word ≡ Ok major

-- a space and an argument are these bytes
pub record TakesArgument (bytes : List ℕ) (argument : ℕ) : Type 0 where
  pub word : List ℕ
  pub parts : bytes ≡ 32 ∷ word
  pub plain : IsPlain word
  pub says : number_of 0 (2 ^ 64 - 1) word ≡ Ok argument

-- a name that is a packet's wherever something is expected of it
abbrev pub is_packet_name : List ℕ → Bool
is_packet_name word =
    is_name word
    && not (bytes_eq word (codes "thread") || bytes_eq word (codes "bug")
    || bytes_eq word (codes "refused"))

-- a line that issues no packet may begin with a word
abbrev pub begins_another : List ℕ → Bool
begins_another word =
    bytes_eq word (codes "run") || bytes_eq word (codes "dpc")
    || bytes_eq word (codes "interrupt") || bytes_eq word (codes "expect")
    || bytes_eq word (codes "step") || bytes_eq word (codes "cancel")
    || bytes_eq word (codes "startio") || bytes_eq word (codes "together")
    || bytes_eq word (codes "may") || bytes_eq word (codes "repeat")
    || bytes_eq word (codes "end")

-- a name that is a packet's wherever a line begins with it
abbrev pub is_issued_name : List ℕ → Bool
is_issued_name word = is_name word && not (begins_another word)

-- a space and the name of a packet stand before the rest
pub record TakesPacket (packets : List (List ℕ)) (bytes : List ℕ) (packet : ℕ) (rest : List ℕ)
    : Type 0 where
  pub word : List ℕ
  pub parts : bytes ≡ 32 ∷ word ++ rest
  pub named : is_packet_name word ≡ true
  pub says : packet_of packets word ≡ Ok packet

-- a space and the word of a status are these bytes
pub record TakesStatus (bytes : List ℕ) (status : Status) : Type 0 where
  pub word : List ℕ
  pub parts : bytes ≡ 32 ∷ word
  pub form : is_word word ≡ true
  pub says : status_named word ≡ Some status

-- what is expected, as what a line does
abbrev pub expects : Named → List (List ℕ) → List (List ℕ) → Result Action ScheduleKind
expects names packets words =
    and_then (λ e. Ok (Expect e)) (expect_line names packets words)

-- these bytes are operands of which the exact reading makes this; the first word of the line names
-- this packet
pub record Reads (reading : List (List ℕ) → Result Action ScheduleKind)
    (name : List ℕ → Option (List ℕ)) (bytes : List ℕ) (usual : Usual) : Type 0 where
  pub words : List (List ℕ)
  pub parts : bytes ≡ spaced words
  pub plain : ArePlain words
  pub says : reading words ≡ Ok (action_of usual)
  pub names : (word : List ℕ) → named (action_of usual) word ≡ name word

-- what a line in its usual form says, by the exact reading
abbrev pub exactly : SaidUsually → Said
exactly said = record { name = said.name; may = false; action = action_of said.usual }

-- the line is one of the lines, and says this, where these packets were issued before it
pub record SaysUsually (names : Named) (packets : List (List ℕ)) (line : List ℕ)
    (said : SaidUsually) : Type 0 where
  pub tokens : List (List ℕ)
  pub parts : clean_tokens line ≡ Ok tokens
  pub plain : block_in tokens ≡ Ok Plain
  pub says : line_of names packets tokens ≡ Ok (Some (exactly said))
