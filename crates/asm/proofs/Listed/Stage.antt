-- How far a listing is read.
use Rattle.std.proofs.Common.{◌≡◌, ℕ, ◌+◌, ◌≤◌, true, false, List, [], ◌∷◌, ◌++◌, length, map, Option, None, refl}
use Rattle.std.specs.Prelude.{option_map}
use Rattle.model.specs.declared.set.Device.{Device}
use Rattle.model.specs.declared.set.Driver.{Driver}
use Rattle.model.specs.declared.set.Queue.{Queue}
use Rattle.model.specs.declared.set.Sort.{Sort}
use Rattle.model.specs.declared.set.Sort.TheVariants.{Dispatch}
use Rattle.asm.specs.declared.draft.ClosedRoutine.{ClosedRoutine}
use Rattle.asm.specs.declared.draft.Place.{Place}
use Rattle.asm.specs.declared.draft.Place.TheVariants.{Outside, InDriver, InRoutine}
use Rattle.asm.specs.declared.draft.QueueLine.{QueueLine}
use Rattle.asm.specs.declared.draft.Step.{Step as StepOf}
use Rattle.asm.specs.declared.names.Use.{Use}
use Rattle.asm.specs.Outline.{Outline, draft_has_room, draft_is_again, is_among, is_out_of_range, draft_misfit, noted, stands, startio_named, waiting_named}
use Rattle.asm.proofs.Scopes.{Reads}
use Rattle.asm_line.specs.declared.entry.Entry.{Entry}
use Rattle.asm_line.specs.ListedWords.{joined, label, routine, words_of}
use Rattle.asm_line.proofs.Back.{entry_back, AllFit}
use Rattle.asm_line.proofs.Digits.{IsSmall}
use Rattle.asm_line.proofs.Meaning.{body_meant, label_meant, meant}
use Rattle.asm.proofs.Listed.Names.{names_from}

-- a driver without the instructions of its routines
pub record Shape : Type 0 where
  pub sorts : List Sort
  pub queues : List Queue
  pub read : Option ℕ
  pub write : Option ℕ
  pub control : Option ℕ
  pub startio : Option ℕ
  pub startio_cancel : Option ℕ
  pub dpc : Option ℕ

abbrev pub shape_of : Driver → Shape
shape_of d = record {
  sorts = map (λ r. r.sort) d.routines;
  queues = d.queues;
  read = d.read;
  write = d.write;
  control = d.control;
  startio = d.startio;
  startio_cancel = d.startio_cancel;
  dpc = d.dpc;
}

abbrev pub no_shape : Shape
no_shape = record {
  sorts = [];
  queues = [];
  read = None;
  write = None;
  control = None;
  startio = None;
  startio_cancel = None;
  dpc = None;
}

-- what was read of a set, without the instructions: how many drivers are opened, those that are
-- closed, the devices, the open driver, the sorts of its routines that are closed, the sort of the
-- routine opened last, and how many instructions of an open one
pub record Stage : Type 0 where
  pub place : Place
  pub opened : ℕ
  pub drivers : List Shape
  pub devices : List Device
  pub current : Shape
  pub closed : List Sort
  pub sort : Sort
  pub position : ℕ

-- between drivers, and in a driver between its routines
abbrev pub outside : ℕ → List Shape → List Device → Stage
outside opened drivers devices = record {
  place = Outside;
  opened = opened;
  drivers = drivers;
  devices = devices;
  current = no_shape;
  closed = [];
  sort = Dispatch;
  position = 0;
}

abbrev pub inside : ℕ → List Shape → Shape → List Sort → Stage
inside opened drivers current closed = record {
  place = InDriver;
  opened = opened;
  drivers = drivers;
  devices = [];
  current = current;
  closed = closed;
  sort = Dispatch;
  position = 0;
}

-- a queue by its guard and the name of its cancel routine
pub record Guarded : Type 0 where
  pub guard : ℕ
  pub cancel : Option (List ℕ)

abbrev pub guarded : ℕ → Option (List ℕ) → Guarded
guarded guard cancel = record { guard = guard; cancel = cancel }

abbrev pub read_queue : QueueLine → Guarded
read_queue q = guarded q.guard (option_map (λ u. u.name) q.cancel)

abbrev pub set_queue : Queue → Guarded
set_queue q = guarded q.guard (option_map routine q.cancel)

-- the name in a table entry is that of the routine
abbrev pub Names : Option Use → Option ℕ → Type 0
Names u number = option_map (λ u. u.name) u ≡ option_map routine number

-- the drivers that are closed, and the names of all that were opened
pub record DriversAre (names : List (List ℕ)) (drivers : List Driver) (opened : ℕ)
    (shapes : List Shape) : Type 0 where
  pub named : names ≡ names_from 100 0 opened
  pub shaped : map shape_of drivers ≡ shapes

pub record DevicesAre (names : List (List ℕ)) (devices : List Device) (given : List Device)
    : Type 0 where
  pub named : names ≡ names_from 118 0 (length given)
  pub same : devices ≡ given

-- the routines of the open driver, of which some are closed
pub record RoutinesAre (names : List (List ℕ)) (sorts : List Sort) (routines : List ClosedRoutine)
    (given : List Sort) (closed : List Sort) : Type 0 where
  pub named : names ≡ names_from 102 0 (length given)
  pub same : sorts ≡ given
  pub sorted : map (λ (r : ClosedRoutine). r.sort) routines ≡ closed

pub record QueuesAre (names : List (List ℕ)) (queues : List QueueLine) (given : List Queue)
    : Type 0 where
  pub named : names ≡ names_from 113 0 (length given)
  pub same : map read_queue queues ≡ map set_queue given

-- the instructions of the open routine, and labels at some of them
pub record StepsAre (labels : List (List ℕ)) (steps : List StepOf) (position : ℕ) : Type 0 where
  pub new : (p : ℕ) → IsSmall p → position ≤ p → is_among labels (label p) ≡ false
  pub many : length steps ≡ position

-- an outline is of a stage
pub record IsAt (s : Stage) (o : Outline) : Type 0 where
  pub place : o.place ≡ s.place
  pub drivers : DriversAre o.driver_names o.drivers s.opened s.drivers
  pub devices : DevicesAre o.device_names o.devices s.devices
  pub routines : RoutinesAre o.routine_names o.sorts o.routines s.current.sorts s.closed
  pub queues : QueuesAre o.queue_names o.queues s.current.queues
  pub read : Names o.read s.current.read
  pub write : Names o.write s.current.write
  pub control : Names o.control s.current.control
  pub startio : Names (startio_named o.startio) s.current.startio
  pub waiting : Names (waiting_named o.startio) s.current.startio_cancel
  pub dpc : Names o.dpc s.current.dpc
  pub sort : s.place ≡ InRoutine → o.sort ≡ s.sort
  pub steps : StepsAre o.labels o.steps s.position

-- these lines are read without a fault, up to an outline and a line number
abbrev pub Passes : Outline → ℕ → List Entry → Outline → ℕ → Type 0
Passes o n [] end m = (o ≡ end) × (n ≡ m)
Passes o n (e ∷ es) end m = (draft_misfit o (meant e) ≡ None)
    × Passes (noted o n (label_meant e) (body_meant e)) (n + 1) es end m

passes_on : (o : Outline) (n : ℕ) (es ds : List Entry) (mid : Outline) (k : ℕ) (end : Outline)
    (m : ℕ) → Passes o n es mid k → Passes mid k ds end m → Passes o n (es ++ ds) end m
passes_on o n [] ds mid k end m first second = rw (first.0, first.1) second
passes_on o n (e ∷ es) ds mid k end m first second = (
  first.0,
  passes_on (noted o n (label_meant e) (body_meant e)) (n + 1) es ds mid k end m first.1
      second,
)

-- these lines are read without a fault, up to a stage
pub record Reaches (o : Outline) (n : ℕ) (es : List Entry) (s : Stage) : Type 0 where
  pub end : Outline
  pub next : ℕ
  pub passes : Passes o n es end next
  pub at : IsAt s end

pub then_reaches : (o : Outline) (n : ℕ) (es ds : List Entry) (s t : Stage) → Reaches o n es s
    → ((mid : Outline) (k : ℕ) → IsAt s mid → Reaches mid k ds t) → Reaches o n (es ++ ds) t
then_reaches o n es ds s t first later =
    let second = later first.end first.next first.at in
    record {
      end = second.end;
      next = second.next;
      passes = passes_on o n es ds first.end first.next second.end second.next first.passes
          second.passes;
      at = second.at;
    }

-- one line
pub one_reaches : (o : Outline) (n : ℕ) (e : Entry) (s : Stage) → draft_misfit o (meant e) ≡ None
    → IsAt s (noted o n (label_meant e) (body_meant e)) → Reaches o n (e ∷ []) s
one_reaches o n e s fits at = record {
  end = noted o n (label_meant e) (body_meant e);
  next = n + 1;
  passes = (fits, (refl, refl));
  at = at;
}

pub none_reaches : (o : Outline) (n : ℕ) (s : Stage) → IsAt s o → Reaches o n [] s
none_reaches o n s at = record { end = o; next = n; passes = (refl, refl); at = at }

-- the lines of the text are read as what they say
pub passes_read : (o : Outline) (n : ℕ) (es : List Entry) (end : Outline) (m : ℕ) → AllFit es
    → Passes o n es end m
    → Reads o n (map (λ e. joined (words_of e)) es) (map meant es) end
passes_read o n [] end m fits h = h.0
passes_read o n (e ∷ es) end m fits h = (
  entry_back e fits.0,
  (
    h.0,
    passes_read (noted o n (label_meant e) (body_meant e)) (n + 1) es end m fits.1 h.1,
  ),
)

-- a line without a fault
pub no_misfit : (o : Outline) (e : Entry) → stands o.place (body_meant e) ≡ true
    → draft_is_again o (label_meant e) (body_meant e) ≡ false
    → is_out_of_range (body_meant e) ≡ false
    → draft_has_room o (body_meant e) ≡ true → draft_misfit o (meant e) ≡ None
no_misfit o e a b c d = rw (a, b, c, d) refl
