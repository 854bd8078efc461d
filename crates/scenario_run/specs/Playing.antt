-- What the steps of a scenario make happen, by the run so far.
use Rattle.std.specs.Prelude.{ℕ, zero, suc, ◌++◌, ◌-◌, Bool, List, [], ◌∷◌, length, nat_lt, slice_get, Option, None, Some, if◌then◌else◌}
use Rattle.model.specs.declared.event.Event.{Event}
use Rattle.model.specs.declared.event.Event.TheVariants as event
use Rattle.model.specs.declared.event.Reply.{Reply}
use Rattle.model.specs.declared.event.Reply.TheVariants.{Started, Stepped, Finished, Topped, Waited, Idle, Refused, Bug, Wrong}
use Rattle.model.specs.History.{replies, started_by}
use Rattle.model.specs.Machine.{reply_to}
use Rattle.model.specs.Run.{Run, run}
use Rattle.model.specs.Set.{Set}
use Rattle.model.specs.View.{busy_at}
use Rattle.model.specs.World.{World}
use Rattle.scenario_world.specs.declared.until.Until.{Until}
use Rattle.scenario_world.specs.Until.{is_before}
use Rattle.scenario_run.specs.declared.playing.Outcome.{Outcome}
use Rattle.scenario_run.specs.declared.playing.Outcome.TheVariants.{Done, Waits, Fails}

-- a scenario as it plays: the set, how many threads there are, the events so far, and for each
-- issue so far the number of its packet, if it wasn't refused
pub record Playing : Type 0 where
  pub set : Set
  pub threads : ℕ
  pub events : List Event
  pub packets : List (Option ℕ)

-- before the first step
abbrev pub begun : Set → ℕ → Playing
begun set threads = record { set = set; threads = threads; events = []; packets = [] }

-- the run so far, its world, and its replies
abbrev pub run_of : Playing → Run
run_of p = run p.set p.threads p.events

abbrev pub world_of : Playing → World
world_of p = (run_of p).world

abbrev pub replies_of : Playing → List Reply
replies_of p = replies p.set p.threads p.events

-- the reply of the run to one event more
abbrev pub reply_in : Playing → Event → Reply
reply_in p e = reply_to p.set p.threads p.events e

-- how it plays on, and how that went
pub record Went : Type 0 where
  pub now : Playing
  pub outcome : Outcome

-- how an event went that has this reply: it fails where nothing can happen, or the run stops
abbrev pub outcome_of : Reply → Outcome
outcome_of (Started packet) = Done
outcome_of Stepped = Done
outcome_of Finished = Done
outcome_of (Topped packet status info) = Done
outcome_of Waited = Waits
outcome_of Idle = Fails
outcome_of Refused = Fails
outcome_of (Bug bug) = Fails
outcome_of (Wrong place) = Fails

-- and how a cancel went: it fails where the packet has topped out
abbrev pub outcome_of_cancel : Reply → Outcome
outcome_of_cancel Finished = Fails
outcome_of_cancel (Started packet) = Done
outcome_of_cancel Stepped = Done
outcome_of_cancel (Topped packet status info) = Done
outcome_of_cancel Waited = Waits
outcome_of_cancel Idle = Fails
outcome_of_cancel Refused = Fails
outcome_of_cancel (Bug bug) = Fails
outcome_of_cancel (Wrong place) = Fails

-- there is room for one event more: a schedule has at most 1,000,000
abbrev pub has_room : Playing → Bool
has_room p = nat_lt (length p.events) 1000000

-- so many steps may a run of a thread have, and one that fails for want of room
abbrev pub most_of : Playing → ℕ
most_of p = 1000001 - length p.events

-- an event happens, if there is room for it
abbrev pub with_event : Playing → Event → Playing
with_event p e = record p { events = p.events ++ e ∷ [] }

abbrev pub happened : Playing → Event → Playing
happened p e = if has_room p then with_event p e else p

abbrev pub reply_of : Playing → Event → Reply
reply_of p e = if has_room p then reply_in p e else Refused

abbrev pub one : Playing → Event → Went
one p e = record { now = happened p e; outcome = outcome_of (reply_of p e) }

abbrev pub stays : Playing → Outcome → Went
stays p outcome = record { now = p; outcome = outcome }

-- so many steps of a thread, up to one that fails
abbrev pub unless_failed : Outcome → Went → Went → Went
unless_failed Fails here later = here
unless_failed Done here later = later
unless_failed Waits here later = later

abbrev pub stepping : ℕ → ℕ → Playing → Went
stepping t zero p = stays p Done
stepping t (suc count) p =
    let first = one p (event.Step t) in
    unless_failed first.outcome first (stepping t count first.now)

-- steps of a thread until it is idle or waits, or one fails; it fails where so many don't suffice
abbrev pub if_done : Outcome → Went → Went → Went
if_done Done here later = later
if_done Waits here later = here
if_done Fails here later = here

abbrev pub running : ℕ → ℕ → Playing → Went
running t zero p = stays p Fails
running t (suc count) p =
    if busy_at (world_of p) t
    then (let first = one p (event.Step t) in
    if_done first.outcome first (running t count first.now))
    else stays p Done

-- a run of a thread that there is
abbrev pub run_thread : ℕ → Playing → Went
run_thread t p = if nat_lt t p.threads then running t (most_of p) p else stays p Fails

-- steps of a thread up to where they are to end; it fails where the thread waits before
abbrev pub if_going : Outcome → Playing → Went → Went
if_going Done now later = later
if_going Waits now later = stays now Fails
if_going Fails now later = stays now Fails

abbrev pub running_to : ℕ → Until → ℕ → Playing → Went
running_to t until zero p = stays p Fails
running_to t until (suc count) p =
    if is_before until p.set (world_of p) t then stays p Done
    else (let first = one p (event.Step t) in
    if_going first.outcome first.now (running_to t until count first.now))

-- a request: its packet is the next one of the scenario
abbrev pub with_packet : Went → Option ℕ → Went
with_packet w n = record w { now = record w.now { packets = w.now.packets ++ n ∷ [] } }

abbrev pub issued : Playing → Event → Went
issued p e = with_packet (one p e) (started_by e (reply_of p e))

-- the number of a packet of the scenario, if it was issued
abbrev pub known : Option (Option ℕ) → Option ℕ
known None = None
known (Some n) = n

abbrev pub number_of : Playing → ℕ → Option ℕ
number_of p packet = known (slice_get p.packets packet)

-- the cancel of a packet, if it was issued
abbrev pub cancelled : Playing → ℕ → ℕ → Option ℕ → Went
cancelled p t level None = stays p Fails
cancelled p t level (Some n) =
    let e = event.Cancel t n level in
    record { now = happened p e; outcome = outcome_of_cancel (reply_of p e) }
