-- The requests that a hunt tries: to each device, with each major function that a driver serves, and
-- each argument that may matter.
use Rattle.std.specs.Prelude.{ℕ, ◌+◌, ◌++◌, ◌&&◌, zero, suc, Bool, List, [], ◌∷◌, Option, None, Some, if◌then◌else◌, is_some, length, map, nat_eq, nat_lt}
use Rattle.std.specs.List.{list_any}
use Rattle.hunt_facts.specs.declared.arguments.Asking.{Asking}
use Rattle.hunt_facts.specs.declared.arguments.TheConstants.{MAX_ARGUMENTS}
use Rattle.hunt_facts.specs.declared.requests.Request.{Request}
use Rattle.model.specs.declared.event.Event.{Event}
use Rattle.model.specs.declared.event.Event.TheVariants.{Issue}
use Rattle.model.specs.declared.instr.Instr.{Instr}
use Rattle.model.specs.declared.instr.Instr.TheVariants.{Const}
use Rattle.model.specs.declared.set.Driver.{Driver}
use Rattle.model.specs.declared.set.Routine.{Routine}
use Rattle.model.specs.declared.status.Major.{Major}
use Rattle.model.specs.declared.status.Major.TheVariants.{Read, Write, Control}
use Rattle.model.specs.Set.{Set, handler_of}
use Rattle.model.specs.Status.{major_code}

-- the arrival of a request on a thread
abbrev pub request_on : ℕ → Request → Event
request_on t r = Issue t r.device r.major r.argument

-- arguments, and one more unless it is among them
abbrev pub with_argument : List ℕ → ℕ → List ℕ
with_argument arguments n =
    if list_any (λ other. nat_eq other n) arguments then arguments else arguments ++ n ∷ []

abbrev pub with_further : List ℕ → Option ℕ → List ℕ
with_further arguments None = arguments
with_further arguments (Some n) = with_argument arguments n

-- a constant, unless there are enough; those of code and the numbers after them, of routines, and of
-- drivers
abbrev pub with_constant : List ℕ → ℕ → List ℕ
with_constant arguments n =
    if nat_lt (length arguments) MAX_ARGUMENTS then with_argument arguments n else arguments

abbrev pub with_instr : List ℕ → Instr → List ℕ
with_instr arguments (Const register n) = with_constant (with_constant arguments n) (n + 1)
with_instr arguments _ = arguments

abbrev pub with_code : List ℕ → List Instr → List ℕ
with_code arguments [] = arguments
with_code arguments (instr ∷ code) = with_code (with_instr arguments instr) code

abbrev pub with_routines : List ℕ → List Routine → List ℕ
with_routines arguments [] = arguments
with_routines arguments (routine ∷ routines) =
    with_routines (with_code arguments routine.code) routines

abbrev pub with_drivers : List ℕ → List Driver → List ℕ
with_drivers arguments [] = arguments
with_drivers arguments (driver ∷ drivers) =
    with_drivers (with_routines arguments driver.routines) drivers

-- the arguments of requests: of those whose argument is read 0, 1 and the constants of the set, of all
-- others 0; and a further one that is asked for
pub record Arguments : Type 0 where
  pub many : List ℕ
  pub few : List ℕ
  pub asking : List Asking

abbrev pub many_of : Set → Option ℕ → List ℕ
many_of set further = with_further (with_drivers (0 ∷ 1 ∷ []) set.drivers) further

abbrev pub few_of : Option ℕ → List ℕ
few_of further = with_further (0 ∷ []) further

abbrev pub arguments_of : Set → Option ℕ → List Asking → Arguments
arguments_of set further asking =
    record { many = many_of set further; few = few_of further; asking = asking }

-- those of a request to a device with a major function
abbrev pub asks : ℕ → Major → Asking → Bool
asks device major asking = nat_eq asking.device device && nat_eq (major_code asking.major) (major_code major)

abbrev pub of_request : Arguments → ℕ → Major → List ℕ
of_request arguments device major =
    if list_any (asks device major) arguments.asking then arguments.many else arguments.few

-- a driver serves a major function; one of these does, and then it is tried
abbrev pub serves : Major → Driver → Bool
serves major driver = is_some (handler_of driver major)

abbrev pub served_major : List Driver → Major → List Major
served_major drivers major =
    if list_any (serves major) drivers then major ∷ [] else []

abbrev pub served_majors : List Driver → List Major
served_majors drivers =
    served_major drivers Read ++ served_major drivers Write ++ served_major drivers Control

-- the requests to a device with a major function; with several; and those to each of so many devices
abbrev pub requests_with : ℕ → Major → List ℕ → List Request
requests_with device major arguments =
    map (λ n. record { device = device; major = major; argument = n }) arguments

abbrev pub requests_by : Arguments → ℕ → List Major → List Request
requests_by arguments device [] = []
requests_by arguments device (major ∷ majors) =
    requests_with device major (of_request arguments device major)
    ++ requests_by arguments device majors

abbrev pub requests_below : Arguments → List Major → ℕ → List Request
requests_below arguments majors zero = []
requests_below arguments majors (suc device) =
    requests_below arguments majors device ++ requests_by arguments device majors

-- all that are tried
abbrev pub requests_of : Set → Option ℕ → List Asking → List Request
requests_of set further asking =
    requests_below (arguments_of set further asking) (served_majors set.drivers)
    (length set.devices)
