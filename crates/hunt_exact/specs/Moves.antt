-- The events that an exact hunt tries: all that its threads, its devices and its packets have, but
-- that requests are some of a list, and that IoCancelIrp is called at PASSIVE_LEVEL and, where that is
-- asked for, at DISPATCH_LEVEL.
use Rattle.std.specs.Prelude.{ℕ, ◌++◌, ◌&&◌, ◌||◌, zero, suc, Bool, true, false, List, [], ◌∷◌, map, nat_eq, nat_lt}
use Rattle.std.specs.List.{list_any}
use Rattle.hunt_facts.specs.declared.requests.Request.{Request}
use Rattle.hunt_facts.specs.Requests.{request_on}
use Rattle.model.specs.declared.event.Event.{Event}
use Rattle.model.specs.declared.event.Event.TheVariants.{Issue, Cancel, Interrupt, Dpc, StartIo, Step}
use Rattle.model.specs.declared.status.Major.{Major}
use Rattle.model.specs.Status.{major_code}

-- a step of each of so many threads, and an interrupt of each of so many devices
abbrev pub steps : ℕ → List Event
steps zero = []
steps (suc t) = steps t ++ Step t ∷ []

abbrev pub interrupts : ℕ → List Event
interrupts zero = []
interrupts (suc d) = interrupts d ++ Interrupt d ∷ []

-- on a thread: the DPC and the StartIo routine of each of so many devices
abbrev pub routines_on : ℕ → ℕ → List Event
routines_on t zero = []
routines_on t (suc d) = routines_on t d ++ Dpc t d ∷ StartIo t d ∷ []

-- IoCancelIrp for each of so many packets
abbrev pub cancels_of : ℕ → Bool → ℕ → List Event
cancels_of t false n = Cancel t n 0 ∷ []
cancels_of t true n = Cancel t n 0 ∷ Cancel t n 2 ∷ []

abbrev pub cancels_on : ℕ → Bool → ℕ → List Event
cancels_on t raised zero = []
cancels_on t raised (suc n) = cancels_on t raised n ++ cancels_of t raised n

-- each request of a list
abbrev pub requests_on : ℕ → List Request → List Event
requests_on t requests = map (request_on t) requests

-- all that may begin on a thread, and on each of so many
abbrev pub begins_on : List Request → Bool → ℕ → ℕ → ℕ → List Event
begins_on requests raised packets devices t =
    routines_on t devices ++ requests_on t requests ++ cancels_on t raised packets

abbrev pub begins_below : List Request → Bool → ℕ → ℕ → ℕ → List Event
begins_below requests raised packets devices zero = []
begins_below requests raised packets devices (suc t) =
    begins_below requests raised packets devices t
    ++ begins_on requests raised packets devices t

-- all events that are tried
abbrev pub tried_events : List Request → Bool → ℕ → ℕ → ℕ → List Event
tried_events requests raised packets devices threads =
    steps threads ++ interrupts devices ++ begins_below requests raised packets devices threads

-- whether an event is one of these
abbrev pub is_request : ℕ → Major → ℕ → Request → Bool
is_request device major argument request =
    (nat_eq request.device device && nat_eq (major_code request.major) (major_code major))
    && nat_eq request.argument argument

abbrev pub is_level : Bool → ℕ → Bool
is_level raised level = nat_eq level 0 || (raised && nat_eq level 2)

abbrev pub is_tried : List Request → Bool → ℕ → ℕ → ℕ → Event → Bool
is_tried requests raised packets devices threads (Step t) = nat_lt t threads
is_tried requests raised packets devices threads (Interrupt d) = nat_lt d devices
is_tried requests raised packets devices threads (Dpc t d) = nat_lt t threads && nat_lt d devices
is_tried requests raised packets devices threads (StartIo t d) =
    nat_lt t threads && nat_lt d devices
is_tried requests raised packets devices threads (Cancel t n level) =
    (nat_lt t threads && nat_lt n packets) && is_level raised level
is_tried requests raised packets devices threads (Issue t d major argument) =
    nat_lt t threads && list_any (is_request d major argument) requests
