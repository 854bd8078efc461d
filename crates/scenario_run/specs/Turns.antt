-- Threads that make steps in turn.
use Rattle.std.specs.Prelude.{ℕ, zero, suc, ◌≡◌, ◌≢◌, ◌<◌, ◌≤◌, ◌-◌, Bool, true, false, List, if◌then◌else◌, slice_get}
use Rattle.model.specs.declared.event.Event.TheVariants as event
use Rattle.model.specs.declared.limits.TheConstants.{MAX_THREADS}
use Rattle.scenario_world.specs.declared.goers.Awaited.{Awaited}
use Rattle.scenario_world.specs.declared.goers.Goers.{Goers}
use Rattle.scenario_world.specs.Goers.{AreGoers, are_owned}
use Rattle.scenario_world.specs.Going.{any_goes_on as any_in, goes_on as goes_on_in}
use Rattle.scenario_run.specs.declared.playing.Outcome.{Outcome}
use Rattle.scenario_run.specs.declared.playing.Outcome.TheVariants.{Done, Waits, Fails}
use Rattle.scenario_run.specs.declared.turns.Progress.{Progress}
use Rattle.scenario_run.specs.declared.turns.Progress.TheVariants.{Over, Left}
use Rattle.scenario_run.specs.declared.turns.Round.{Round}
use Rattle.scenario_run.specs.declared.turns.Round.TheVariants.{Over as OverRound, Failed, Changed, Same}
use Rattle.scenario_run.specs.declared.turns.Turn.{Turn}
use Rattle.scenario_run.specs.declared.turns.Turn.TheVariants.{Skipped, Failed as FailedTurn, Made, Freed}
use Rattle.scenario_run.specs.Playing.{Playing, Went, most_of, one, stays, unless_failed, world_of}

-- a thread has frames and waits for no lock
abbrev pub goes_on : Playing → ℕ → Bool
goes_on p t = goes_on_in p.set (world_of p) t

-- then it makes a step when its turn comes
abbrev pub turn : Playing → ℕ → Went
turn p t = if goes_on p t then one p (event.Step t) else stays p Done

-- a round: the turns of so many threads, the first of them t, the lowest first, up to a step that fails
abbrev pub round : ℕ → ℕ → Playing → Went
round zero t p = stays p Done
round (suc count) t p =
    let first = turn p t in
    unless_failed first.outcome first (round count (suc t) first.now)

-- one of so many threads does
abbrev pub any_goes_on : Playing → ℕ → Bool
any_goes_on p threads = any_in p.set (world_of p) threads

-- rounds until no thread goes on: each is idle or waits. It fails where so many don't suffice
abbrev pub rounds : ℕ → Playing → Went
rounds zero p = stays p Fails
rounds (suc count) p =
    if any_goes_on p p.threads
    then (let first = round p.threads 0 p in
    unless_failed first.outcome first (rounds count first.now))
    else stays p Done

abbrev pub run_all : Playing → Went
run_all p = rounds (most_of p) p

-- behind a round that went so, where so many were left
abbrev pub after_round : Outcome → ℕ → Progress
after_round Fails left = Over Fails
after_round Done left = Left (left - 1)
after_round Waits left = Left (left - 1)

-- they go so, or what is left of them, some, goes as all do
abbrev pub AreRounds : ℕ → Playing → Playing → Progress → Type 0
AreRounds most p q (Over outcome) = record { now = q; outcome = outcome } ≡ rounds most p
AreRounds most p q (Left rest) = (rest < most) × (rounds rest q ≡ rounds most p)

-- a step of a thread goes so, and doesn't fail
abbrev pub IsMade : ℕ → Playing → Playing → Type 0
IsMade t p q =
    (outcome : Outcome) × (outcome ≢ Fails)
    × (record { now = q; outcome = outcome } ≡ one p (event.Step t))

-- the turn of a thread: it doesn't go on, its step fails, or is made, and then these locks have these
-- owners
abbrev pub IsTurn : List Awaited → ℕ → Playing → Playing → Turn → Type 0
IsTurn awaited t p q Skipped = (goes_on p t ≡ false) × (q ≡ p)
IsTurn awaited t p q FailedTurn =
    (goes_on p t ≡ true) × (record { now = q; outcome = Fails } ≡ one p (event.Step t))
IsTurn awaited t p q Made =
    (goes_on p t ≡ true) × IsMade t p q
    × (are_owned (world_of q).shared.locks awaited ≡ true)
IsTurn awaited t p q Freed = (goes_on p t ≡ true) × IsMade t p q

-- since it was asked who goes on, no thread has made a step that didn't go on then, and the locks that
-- these wait for have the same owners
pub record Rests (goers : Goers) (p : Playing) : Type 0 where
  pub first : Playing
  pub among : AreGoers first.set (world_of first) first.threads goers
  pub set : p.set ≡ first.set
  pub threads : p.threads ≡ first.threads
  pub few : first.threads ≤ MAX_THREADS
  pub frames : (u : ℕ) → goes_on first u ≡ false
      → slice_get (world_of p).threads u ≡ slice_get (world_of first).threads u
  pub owned : are_owned (world_of p).shared.locks goers.awaited.items ≡ true

-- a round goes so
abbrev pub GoesRound : Playing → Playing → Outcome → Type 0
GoesRound p q outcome =
    (any_goes_on p p.threads ≡ true)
    × (record { now = q; outcome = outcome } ≡ round p.threads 0 p)

abbrev pub IsRound : Goers → Playing → Playing → Round → Type 0
IsRound goers p q OverRound = (any_goes_on p p.threads ≡ false) × (q ≡ p)
IsRound goers p q Failed = GoesRound p q Fails
IsRound goers p q Changed = GoesRound p q Done
IsRound goers p q Same = GoesRound p q Done × Rests goers q
