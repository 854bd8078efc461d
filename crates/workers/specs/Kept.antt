-- What the type of a locked core keeps beside its workers' takers.
use Rattle.std.specs.Prelude.{ℕ, ◌≡◌, ◌<◌, ◌≤◌, ◌+◌, ◌++◌, Bool, true, false, List, [], ◌∷◌, All, Option, None, Some, IfSome, length, map, nat_eq, slice_get, if◌then◌else◌}
use Rattle.std.specs.List.{range_with_len}
use Rattle.model.specs.declared.history.Entry.{Entry}
use Rattle.model.specs.History.{NamedCommand}
use Rattle.hostcore.specs.Core.{CoreState, count_of}
use Rattle.intake.specs.Ends.{TakerState}
use Rattle.workers.specs.declared.locked.Held.{Held}
use Rattle.workers.specs.Worked.{Worked, count_named, count_of_thread, count_taken}

-- a core beside the seats and takers of its workers, how many of these were started, the command
-- that met a full history, and whether the history was met full
pub record Station : Type 0 where
  pub core : CoreState
  pub seats : List ℕ
  pub takers : List TakerState
  pub started : ℕ
  pub held : Option Held
  pub full : Bool

abbrev pub station : CoreState → List ℕ → List TakerState → ℕ → Option Held → Bool → Station
station core seats takers started held full = record {
  core = core;
  seats = seats;
  takers = takers;
  started = started;
  held = held;
  full = full;
}

-- the commands that a worker keeps
abbrev pub kept_by : Option Held → ℕ → List NamedCommand
kept_by None i = []
kept_by (Some held) i = if nat_eq held.worker i then held.taken ∷ [] else []

-- what is held of a worker that met a full history
abbrev pub held_by : ℕ → Option NamedCommand → Option Held
held_by i None = None
held_by i (Some asked) = Some (record { worker = i; taken = asked })

abbrev pub kept_of : Option Held → List NamedCommand
kept_of None = []
kept_of (Some held) = held.taken ∷ []

-- the core is the one that began, with new entries, which the seats of the workers have counted.
-- Each worker has performed what its taker took. Those that were not started did nothing
pub record Keeps (began : CoreState) (takers : List TakerState) (s : Station) : Type 0 where
  pub new : List Entry
  pub set : s.core.set ≡ began.set
  pub threads : s.core.threads ≡ began.threads
  pub log : s.core.log ≡ began.log
  pub history : s.core.history ≡ began.history ++ new
  pub seats : s.seats ≡ range_with_len 0 (length takers)
  pub seated : (i : ℕ) → i < length takers
      → slice_get s.core.seats i ≡ Some (Some (count_of_thread i new))
  pub unseated : (i : ℕ) → length takers ≤ i
      → slice_get s.core.seats i ≡ slice_get began.seats i
  pub started : s.started ≤ length takers
  pub workers : All (λ (e : Entry). e.thread < s.started) new
  pub count : length s.takers ≡ length takers
  pub untaken : (i : ℕ) → s.started ≤ i → slice_get s.takers i ≡ slice_get takers i
  pub each : (i : ℕ) (b a : TakerState) → slice_get takers i ≡ Some b
      → slice_get s.takers i ≡ Some a → Worked began.history new i b a (kept_by s.held i)
  pub taken : count_named new + length (kept_of s.held) + count_taken takers
      ≡ count_taken s.takers
  pub holder : IfSome s.held (λ held. held.worker < length takers)
  pub holds : s.full ≡ false → s.held ≡ None
  pub full : s.full ≡ true → length s.core.history ≡ s.core.log

-- the first so many seats of a core are given out and have counted nothing, and nothing else changed
pub record AreGiven (n : ℕ) (before after : CoreState) : Type 0 where
  pub same : after ≡ record before { seats = after.seats }
  pub given : (i : ℕ) → i < n → slice_get after.seats i ≡ Some (Some 0)
  pub others : (i : ℕ) → n ≤ i → slice_get after.seats i ≡ slice_get before.seats i

-- the first so many seats of a core came back, and nothing else changed
pub record AreBack (n : ℕ) (before after : CoreState) : Type 0 where
  pub same : after ≡ record before { seats = after.seats }
  pub back : (i : ℕ) → i < n → slice_get after.seats i ≡ Some None
  pub others : (i : ℕ) → n ≤ i → slice_get after.seats i ≡ slice_get before.seats i

-- how many entries the seats of the first so many threads have counted
abbrev pub counts_of : CoreState → ℕ → List ℕ
counts_of c n = map (λ i. count_of (slice_get c.seats i)) (range_with_len 0 n)

-- a core of nothing
abbrev pub no_core : CoreState
no_core = record {
  set = record { drivers = []; devices = [] };
  threads = 0;
  log = 0;
  history = [];
  seats = [];
}
