-- What the text of a schedule says, apart from how it is read.
use Rattle.std.specs.Prelude.{◌≡◌, ℕ, ◌+◌, ◌≤◌, List, [], ◌∷◌, ◌++◌, length, replicate, All, Option, Some, None, Ok, Err}
use Rattle.model.specs.declared.event.Event.{Event}
use Rattle.text.specs.Cut.{lines_of}
use Rattle.interleave.specs.Line.{opening_line, event_line}
use Rattle.interleave.specs.Listing.{events_after}
use Rattle.interleave.specs.declared.read.Repeated.{Repeated}
use Rattle.interleave.specs.declared.schedule.Schedule.{Schedule}
use Rattle.interleave.specs.declared.schedule.ScheduleFault.{ScheduleFault}
use Rattle.interleave.specs.declared.schedule.ScheduleKind.TheVariants.{UnknownWord}

-- the events that a line stands for
abbrev pub times : Option Repeated → List Event
times None = []
times (Some r) = replicate r.count r.event

-- the lines stand for these events, line after line
abbrev pub Tell : List (List ℕ) → List Event → Type 0
Tell [] events = events ≡ []
Tell (line ∷ lines) events = (r : Option Repeated) × (rest : List Event) × (event_line line ≡ Ok r)
    × (events ≡ times r ++ rest) × Tell lines rest

-- a line without a token
abbrev pub IsBlank : List ℕ → Type 0
IsBlank line = opening_line line ≡ Ok None

-- blank lines, then the line that says how many threads there are
pub record Opens (lines blanks : List (List ℕ)) (threads : ℕ) (rest : List (List ℕ)) : Type 0 where
  pub line : List ℕ
  pub parts : lines ≡ blanks ++ line ∷ rest
  pub blank : All IsBlank blanks
  pub says : opening_line line ≡ Ok (Some threads)

-- the text gives the threads, and then the events in their order
pub record IsListing (text : List ℕ) (schedule : Schedule) : Type 0 where
  pub blanks : List (List ℕ)
  pub rest : List (List ℕ)
  pub opens : Opens (lines_of text) blanks schedule.threads rest
  pub tells : Tell rest schedule.events
  pub few : length schedule.events ≤ 1000000

-- where the first fault of lines is, of which the first has the number n: none of them has a token,
-- the first with one is faulty, or a later one is
pub data IsFirstFault (n : ℕ) (lines : List (List ℕ)) (fault : ScheduleFault) : Type 0 where
  Blank : All IsBlank lines → fault ≡ record { line = n + length lines; kind = UnknownWord }
      → IsFirstFault n lines fault
  InOpening : (blanks : List (List ℕ)) (line : List ℕ) (rest : List (List ℕ))
      → lines ≡ blanks ++ line ∷ rest → All IsBlank blanks
      → opening_line line ≡ Err fault.kind → fault.line ≡ n + length blanks
      → IsFirstFault n lines fault
  InEvents : (blanks before : List (List ℕ)) (line : List ℕ) (rest : List (List ℕ)) (threads : ℕ)
      (events : List Event)
      → Opens lines blanks threads (before ++ line ∷ rest) → Tell before events
      → events_after events line ≡ Err fault.kind
      → fault.line ≡ n + length blanks + 1 + length before → IsFirstFault n lines fault
