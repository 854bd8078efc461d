-- How deep the objects nest.
use Rattle.std.proofs.Common.{◌≤◌, ℕ, List, [], ◌∷◌, Option, None, Some, String, arith}
use Rattle.json.specs.Json.{max_depth}
use Rattle.json.specs.Tree.{depth, items_depth, members_depth}
use Rattle.model.specs.declared.abs.Refusal.{Refusal}
use Rattle.model.specs.declared.event.Lock.TheVariants.{SystemCancel, Spin}
use Rattle.model.specs.declared.event.Reply.{Reply}
use Rattle.model.specs.declared.event.Reply.TheVariants.{Started, Stepped, Finished, Topped, Waited, Idle, Refused, Bug as BugCheckReply, Wrong}
use Rattle.model.specs.declared.event.Subject.{Subject}
use Rattle.model.specs.declared.event.Subject.TheVariants.{Packet, Lock as LockSubject, Cell}
use Rattle.report_json.specs.declared.fault.InputFault.{InputFault}
use Rattle.report_json.specs.declared.fault.InputFault.TheVariants.{Text, Image, Schedule, Script, Unreadable}
use Rattle.report_json.specs.declared.told.Circumstances.{Circumstances}
use Rattle.report_json.specs.declared.verdict.CertifiedRoutine.{CertifiedRoutine}
use Rattle.report_json.specs.declared.event.Event.{Event}
use Rattle.report_json.specs.Event.{event_json, reply_members, subject_json}
use Rattle.report_json.specs.Fault.{fault_json}
use Rattle.report_json.specs.Served.{command_json, history_json, numbers_json, outcome_members}
use Rattle.report_json.specs.Told.{number_json, told_json}
use Rattle.report_json.specs.Verdict.{acceptance_json, name_json, refusal_json, routine_json, routines_json}

pub subject_nests : (s : Subject) → depth (subject_json s) ≤ 1
subject_nests (Packet packet) = omega arith
subject_nests (LockSubject SystemCancel) = omega arith
subject_nests (LockSubject (Spin lock)) = omega arith
subject_nests (Cell cell) = omega arith

reply_nests : (reply : Reply) → members_depth (reply_members reply) ≤ 2
reply_nests (Started packet) = omega arith
reply_nests Stepped = omega arith
reply_nests Finished = omega arith
reply_nests (Topped packet status information) = omega arith
reply_nests Waited = omega arith
reply_nests Idle = omega arith
reply_nests Refused = omega arith
reply_nests (BugCheckReply bug) = omega (arith, subject_nests bug.subject)
reply_nests (Wrong place) = omega arith

pub event_nests : (event : Event) → depth (event_json event.number event.reply) ≤ max_depth
event_nests event = omega (arith, reply_nests event.reply)

pub fault_nests : (file : List ℕ) (fault : InputFault) → depth (fault_json file fault) ≤ max_depth
fault_nests file (Text fault) = omega arith
fault_nests file (Image fault) = omega arith
fault_nests file (Schedule fault) = omega arith
fault_nests file (Script fault) = omega arith
fault_nests file Unreadable = omega arith

pub name_nests : {A : Type 0} (name : Option (String A)) → depth (name_json name) ≤ 0
name_nests None = omega arith
name_nests (Some name) = omega arith

routine_nests : (r : CertifiedRoutine) → depth (routine_json r) ≤ 1
routine_nests r = omega (arith, name_nests r.name)

routines_nest : (rs : List CertifiedRoutine) → items_depth (routines_json rs) ≤ 1
routines_nest [] = omega arith
routines_nest (r ∷ rs) = omega (arith, routine_nests r, routines_nest rs)

pub acceptance_nests : (file : List ℕ) (routines : List CertifiedRoutine)
    → depth (acceptance_json file routines) ≤ max_depth
acceptance_nests file routines = omega (arith, routines_nest routines)

pub refusal_nests : (file : List ℕ) (refusal : Refusal)
    → depth (refusal_json file refusal) ≤ max_depth
refusal_nests file refusal = omega arith

pub number_nests : (n : Option ℕ) → depth (number_json n) ≤ 0
number_nests None = omega arith
number_nests (Some n) = omega arith

pub told_nests : (n : ℕ) (reply : Reply) (around : Circumstances)
    → depth (told_json n reply around) ≤ max_depth
told_nests n reply around =
    omega (
      arith,
      number_nests around.thread,
      name_nests around.routine,
      number_nests around.line,
      reply_nests reply,
    )

outcome_nests : (told : Option Reply) → members_depth (outcome_members told) ≤ 2
outcome_nests None = omega arith
outcome_nests (Some reply) = omega (arith, reply_nests reply)

pub numbers_nest : (numbers : List ℕ) → items_depth (numbers_json numbers) ≤ 0
numbers_nest [] = omega arith
numbers_nest (n ∷ numbers) = omega (arith, numbers_nest numbers)

pub command_nests : (n : ℕ) (told : Option Reply) → depth (command_json n told) ≤ max_depth
command_nests n told = omega (arith, outcome_nests told)

pub history_nests : (entries : ℕ) (ringed : List ℕ)
    → depth (history_json entries ringed) ≤ max_depth
history_nests entries ringed = omega (arith, numbers_nest ringed)
