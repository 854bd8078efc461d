-- Runs that are observed, event by event.
use Rattle.std.specs.Prelude.{ℕ, ⊤, ◌≡◌, ◌⊎◌, ◌≤◌, ◌<◌, ◌+◌, ◌^◌, ◌++◌, Bool, false, if◌then◌else◌, List, [], ◌∷◌, Result, Ok, Err, length, replicate}
use Rattle.std.specs.List.{list_any}
use Rattle.model.specs.declared.event.Event.{Event}
use Rattle.model.specs.declared.event.Reply.{Reply}
use Rattle.model.specs.History.{replies}
use Rattle.model.specs.Run.{Run, begun, step}
use Rattle.model.specs.Set.{Set}
use Rattle.drvhost_devices.specs.declared.fault.End.{End}
use Rattle.drvhost_devices.specs.declared.fault.End.TheVariants.{Complete, Stopped}
use Rattle.drvhost_devices.specs.declared.fault.Fault.{Fault}
use Rattle.drvhost_devices.specs.Answer.{is_last}
use Rattle.answer_runs.specs.Repeats.{AreReplies, RepeatsBy}

-- the first events of a run from here on, up to one that ends it
abbrev pub until_end : Set → Run → List Event → List Event
until_end set r [] = []
until_end set r (e ∷ events) =
    e ∷ (if is_last (step set r e).reply then [] else until_end set (step set r e).run events)

-- none of these replies but the last one of them ends a run
abbrev pub UpToLast : List Reply → Type 0
UpToLast [] = ⊤
UpToLast (reply ∷ rest) = ((rest ≡ []) ⊎ (is_last reply ≡ false)) × UpToLast rest

-- a machine has run an event so often, and the run ended with it or not
pub record Takes {M : Type 0} (set_of : M → Set) (ShowsRun : M → ℕ → List Event → Type 0)
    (before : M) (e : Event) (after : M) (count : ℕ) (ended : Bool) : Type 0 where
  pub told : List Reply
  pub ran : RepeatsBy set_of ShowsRun before e after told
  pub up : UpToLast told
  pub counted : length told ≡ count
  pub ends : list_any is_last told ≡ ended

-- how a job ends whose run ended or not
abbrev pub end_by : Bool → End
end_by ended = if ended then Stopped else Complete

-- these are the events of a run up to one that ends it, and the job ends so
pub record RunsTo (set : Set) (threads : ℕ) (events past : List Event) (end : End) : Type 0 where
  pub all : until_end set (begun set threads) events ≡ past
  pub ends : end ≡ end_by (list_any is_last (replies set threads past))

-- these are the first of them
abbrev pub RunsBy : Set → ℕ → List Event → List Event → Type 0
RunsBy set threads events past =
    (later : List Event) × (until_end set (begun set threads) events ≡ past ++ later)

-- a machine shows a run, and has the set that it had
abbrev pub ShowsOf : {M : Type 0} → (M → Set) → (M → ℕ → List Event → Type 0) → M → Set → ℕ
    → List Event → Type 0
ShowsOf {M} set_of ShowsRun m set threads past = (set_of m ≡ set) × ShowsRun m threads past

-- a run was observed to its end, and the machine shows it, and what was to be told is told; or the
-- telling broke off
abbrev pub Observes : (ℕ → List Event → Type 0) → (ℕ → List Event → Type 0)
    → (Fault → ℕ → List Event → Type 0) → Set → ℕ → List Event → Result End Fault → Type 0
Observes Shown Told Broken set threads events (Ok end) =
    (past : List Event) × RunsTo set threads events past end × Shown threads past
    × Told threads past
Observes Shown Told Broken set threads events (Err fault) =
    (past : List Event) × RunsBy set threads events past × Broken fault threads past

-- an observer that told the run of some events tells that of more, of whatever run the machine
-- showed
abbrev pub TellsOn : {M W : Type 0} → (M → Set) → (M → ℕ → List Event → Type 0)
    → (W → W → Set → ℕ → List Event → Type 0) → (W → W → Set → ℕ → List Event → Type 0)
    → M → W → W → List Event → Type 0
TellsOn {M} {W} set_of ShowsRun Told Then before old new more =
    (start : W) (threads : ℕ) (past : List Event) → ShowsRun before threads past
    → Told start old (set_of before) threads past
    → Then start new (set_of before) threads (past ++ more)

-- it broke off, when the machine had replied so to an event
pub record BreaksOff {M W : Type 0} (set_of : M → Set) (ShowsRun : M → ℕ → List Event → Type 0)
    (Told Then : W → W → Set → ℕ → List Event → Type 0) (before : M) (e : Event) (old new : W)
    (count : ℕ) : Type 0 where
  pub told : List Reply
  pub up : UpToLast told
  pub few : length told ≤ count
  pub are : (threads : ℕ) (past : List Event) → ShowsRun before threads past
      → AreReplies (set_of before) threads past e told
  pub breaks : TellsOn set_of ShowsRun Told Then before old new (replicate (length told) e)

-- there is a run that it has told, and room to count more events
abbrev pub CanTell : {M W : Type 0} → (M → Set) → (M → ℕ → List Event → Type 0)
    → (W → W → Set → ℕ → List Event → Type 0) → M → W → ℕ → Type 0
CanTell {M} {W} set_of ShowsRun Told m w count =
    (start : W) × (threads : ℕ) × (past : List Event) × ShowsRun m threads past
    × Told start w (set_of m) threads past × (length past + count < 2 ^ 64)
