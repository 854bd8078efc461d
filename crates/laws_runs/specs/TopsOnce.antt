-- No packet tops out twice.
use Rattle.std.specs.Prelude.{ℕ, ◌≤◌, ◌+◌, List, [], ◌∷◌, nat_eq, if◌then◌else◌}
use Rattle.model.specs.declared.event.Event.{Event}
use Rattle.model.specs.Action.{Action, OnLock, OnPacket, OnLocation, OfRoutine, Touch, Complete, Continue, Lend, Exchange, TopOut}
use Rattle.model.specs.Run.{run}
use Rattle.model.specs.Set.{Set}
use Rattle.model.specs.Sound.{IsSound}
use Rattle.model.specs.Trace.{Entry}
use Rattle.model.specs.Typable.{IsTypable}

-- 1 where an action is that a packet tops out, else 0
abbrev pub top_of : Action → ℕ → ℕ
top_of (OnPacket m TopOut) n = if nat_eq m n then 1 else 0
top_of (OnPacket packet Touch) n = 0
top_of (OnPacket packet Complete) n = 0
top_of (OnPacket packet Continue) n = 0
top_of (OnPacket packet Lend) n = 0
top_of (OnPacket packet (Exchange stores)) n = 0
top_of (OnLock lock act) n = 0
top_of (OnLocation packet act) n = 0
top_of (OfRoutine act) n = 0

-- how often a packet has topped out
abbrev pub times_topped : List Entry → ℕ → ℕ
times_topped [] n = 0
times_topped (e ∷ past) n = top_of e.action n + times_topped past n

abbrev pub PacketsTopOutOnce : Type 0
PacketsTopOutOnce =
    (set : Set) → IsTypable set → IsSound set
    → (threads : ℕ) (events : List Event)
    → (n : ℕ) → times_topped (run set threads events).past n ≤ 1
