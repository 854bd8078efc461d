-- What the exported functions about a world answer.
use Rattle.std.specs.Prelude.{ℕ, ◌≡◌, ◌≤◌, ◌⊎◌, Bool, true, false, List, Option, None, Some, if◌then◌else◌, length, nat_lt}
use Rattle.machine.specs.declared.world.Steps.{Steps as StepsMade}
use Rattle.model.specs.declared.event.Event.{Event}
use Rattle.model.specs.declared.limits.TheConstants.{MAX_THREADS}
use Rattle.model.specs.declared.event.Reply.{Reply}
use Rattle.model.specs.World.{World}
use Rattle.pafteis.specs.declared.reading.WordsValue.{WordsValue}
use Rattle.pafteis_values.specs.declared.event.EventValue.{EventValue}
use Rattle.pafteis_values.specs.declared.reply.ReplyValue.{ReplyValue}
use Rattle.pafteis_values.specs.declared.verdict.Verdict.{Verdict}
use Rattle.pafteis_values.specs.declared.verdict.VerdictValue.{VerdictValue}
use Rattle.pafteis_values.specs.Event.{event_named}
use Rattle.pafteis_values.specs.Reply.{reply_value}
use Rattle.pafteis_values.specs.Verdict.{no_value, status_number, verdict_value}
use Rattle.pafteis_world.specs.declared.handle.Handle.{Handle}
use Rattle.pafteis_world.specs.Batch.{DrivesFirst}
use Rattle.pafteis_world.specs.Again as again
use Rattle.pafteis_world.specs.Driven as driven

-- of a handle without a world a world was made, or not, and the verdict says why
pub record IsOpened (bytes : List ℕ) (threads : ℕ) (before after : Handle) (value : VerdictValue)
    (status : ℕ) : Type 0 where
  pub verdict : Verdict
  pub opens : driven.OpensEmpty bytes threads (Some verdict) before after
  pub told : value ≡ verdict_value verdict
  pub is : status ≡ status_number verdict

-- so many threads may be
abbrev pub MayHave : ℕ → Type 0
MayHave threads = (1 ≤ threads) × (threads ≤ MAX_THREADS)

-- there can't be so many threads, and nothing was done
pub record HasNoThreads (threads : ℕ) (before after : Handle) (value : VerdictValue) (status : ℕ)
    : Type 0 where
  pub wrong : MayHave threads → ⊥
  pub same : after ≡ before
  pub nothing : value ≡ no_value
  pub is : status ≡ 4

-- the handle has a world, which stays
pub record HasWorld (bytes : List ℕ) (threads : ℕ) (before after : Handle) (value : VerdictValue)
    (status : ℕ) : Type 0 where
  pub opens : driven.OpensEmpty bytes threads None before after
  pub nothing : value ≡ no_value
  pub is : status ≡ 6

abbrev pub Opens : List ℕ → ℕ → Handle → Handle → VerdictValue → ℕ → Type 0
Opens bytes threads before after value status =
    (MayHave threads × (IsOpened bytes threads before after value status
    ⊎ HasWorld bytes threads before after value status))
    ⊎ HasNoThreads threads before after value status

-- a world was begun anew, or memory refused; there was none; or there can't be so many threads
abbrev pub done_status : Option Bool → ℕ
done_status None = 5
done_status (Some true) = 0
done_status (Some false) = 3

abbrev pub Resets : ℕ → Handle → Handle → ℕ → Type 0
Resets threads before after status =
    (MayHave threads × ((done : Option Bool) × again.Resets threads before done after
    × (status ≡ done_status done)))
    ⊎ ((MayHave threads → ⊥) × (after ≡ before) × (status ≡ 4))

-- in an empty handle a world of another's set was begun; or that handle has a world, which stays;
-- or there can't be so many threads
abbrev pub BeginsAnother : ℕ → Handle → Handle → Handle → Handle → ℕ → Type 0
BeginsAnother threads before after old new status =
    (old.live ≡ false) × ((done : Option Bool)
    × again.BeginsAnew threads before done after new × (status ≡ done_status done))

abbrev pub HasOther : Handle → Handle → Handle → Handle → ℕ → Type 0
HasOther before after old new status =
    (old.live ≡ true) × (after ≡ before) × (driven.world_in new ≡ driven.world_in old)
    × (status ≡ 6)

abbrev pub BeginsAnew : ℕ → Handle → Handle → Handle → Handle → ℕ → Type 0
BeginsAnew threads before after old new status =
    (MayHave threads × (BeginsAnother threads before after old new status
    ⊎ HasOther before after old new status))
    ⊎ ((MayHave threads → ⊥) × (after ≡ before) × (new ≡ old) × (status ≡ 4))

-- an answer of a world is told as a value, with the status 0; 5 where there is no world, and the
-- value is as it was
abbrev pub IsTold : {A V : Type 0} → (A → V) → Option A → V → V → ℕ → Type 0
IsTold value None before after status = (after ≡ before) × (status ≡ 5)
IsTold value (Some answer) before after status = (after ≡ value answer) × (status ≡ 0)

-- an event was applied
abbrev pub AppliesIf : Option Event → Handle → Handle → ReplyValue → ReplyValue → ℕ → Type 0
AppliesIf None before after value told status = (after ≡ before) × (told ≡ value) × (status ≡ 4)
AppliesIf (Some e) before after value told status =
    (reply : Option Reply) × driven.Drives e before reply after
    × IsTold reply_value reply value told status

abbrev pub Applies : EventValue → Handle → Handle → ReplyValue → ReplyValue → ℕ → Type 0
Applies event before after value told status =
    AppliesIf (event_named event) before after value told status

-- events were applied, and how many is told, with the status 0; 4 where one of them names none, and
-- 5 where there is no world
abbrev pub all_status : List EventValue → List ReplyValue → ℕ → ℕ
all_status values places count =
    if nat_lt count (length values) then (if nat_lt count (length places) then 4 else 0) else 0

abbrev pub IsAllTold : List EventValue → List ReplyValue → Option ℕ → ℕ → ℕ → Type 0
IsAllTold values places None applied status = (applied ≡ 0) × (status ≡ 5)
IsAllTold values places (Some count) applied status =
    (applied ≡ count) × (status ≡ all_status values places count)

abbrev pub AppliesAll : List EventValue → Handle → Handle → List ReplyValue → List ReplyValue → ℕ
    → ℕ → Type 0
AppliesAll values before after old new applied status =
    (count : Option ℕ) × DrivesFirst values before old new count after
    × IsAllTold values old count applied status

-- steps were made, and how many is told, with the reply to the last
abbrev pub Steps : ℕ → ℕ → Handle → Handle → ℕ → ℕ → ReplyValue → ReplyValue → ℕ → Type 0
Steps t count before after counted made value told status =
    (steps : Option StepsMade) × driven.StepsOn t count before steps after
    × IsTold (λ s. s.made) steps counted made status
    × IsTold (λ s. reply_value s.last) steps value told status

-- something was told of the world
abbrev pub TellsAll : {A V : Type 0} → (World → A) → (A → V) → Handle → Handle → V → V → ℕ → Type 0
TellsAll {A} tell value before after old new status =
    (answer : Option A) × driven.Tells tell before answer after
    × IsTold value answer old new status

-- something was told that there may not be: 4 where there isn't
abbrev pub IsToldIf : {A V : Type 0} → (A → V) → Option (Option A) → V → V → ℕ → Type 0
IsToldIf value None before after status = (after ≡ before) × (status ≡ 5)
IsToldIf value (Some None) before after status = (after ≡ before) × (status ≡ 4)
IsToldIf value (Some (Some answer)) before after status = (after ≡ value answer) × (status ≡ 0)

abbrev pub TellsIf : {A V : Type 0} → (World → Option A) → (A → V) → Handle → Handle → V → V → ℕ
    → Type 0
TellsIf {A} tell value before after old new status =
    (answer : Option (Option A)) × driven.Tells tell before answer after
    × IsToldIf value answer old new status

abbrev pub TellsWords : ℕ → Handle → Handle → WordsValue → WordsValue → ℕ → Type 0
TellsWords t before after old new status =
    (answer : Option (Option (List ℕ))) × driven.TellsWords t before answer after
    × IsToldIf (λ found. record { words = found }) answer old new status

abbrev pub TellsNumber : ℕ → Handle → Handle → ℕ → ℕ → ℕ → Type 0
TellsNumber slot before after old new status =
    (answer : Option (Option ℕ)) × driven.TellsNumber slot before answer after
    × IsToldIf (λ n. n) answer old new status

-- a world was freed, if there was one
abbrev pub closed_status : Bool → ℕ
closed_status true = 0
closed_status false = 5

abbrev pub Closes : Handle → Handle → ℕ → Type 0
Closes before after status =
    (after.live ≡ false) × (status ≡ closed_status before.live)
