-- Which of the places that name a packet hold it by right, in a run of an accepted set: a register
-- by its kind in the state that arrives where its frame stands, the I/O manager's frame that
-- completes it unless it is lent, a queue or device queue without a cancel routine, a start list, a
-- current slot, and its cancel word.
use Rattle.std.specs.Prelude.{ℕ, suc, ◌≡◌, not, Bool, true, false, List, length, Option, None, Some, is_some, filter, nat_lt, slice_get, if◌then◌else◌}
use Rattle.model.specs.declared.abs.Abs.{Abs}
use Rattle.model.specs.declared.set.Routine.{Routine as RoutineOf}
use Rattle.model.specs.declared.world.Frame.{Frame}
use Rattle.model.specs.declared.world.Frame.TheVariants.{Routine, Walk, Cancel as CancelFrame}
use Rattle.model.specs.Effect.{routine_of_device}
use Rattle.model.specs.Kinds.{is_right}
use Rattle.model.specs.LocalRule.{is_hold, kind_of}
use Rattle.model.specs.Run.{frames_on}
use Rattle.model.specs.Set.{Set, cancel_routine_of, routine_of, sort_of}
use Rattle.model.specs.Typable.{IsTypable}
use Rattle.model.specs.World.{World}
use Rattle.laws_runs.specs.ArrivingStates.{States, StatesArrive}
use Rattle.laws_runs.specs.Holder.{waits_cancelable}
use Rattle.tell_audit.specs.declared.sites.Site.{Site}
use Rattle.tell_audit.specs.declared.sites.Site.TheVariants.{Register, Completing, Queue, StartList, DeviceQueue, Slot, CancelWord}
use Rattle.tell_audit.specs.Sites.{sites_of}
use Rattle.tell_holders.specs.declared.rights.Holders.{Holders}

-- the state at a position of a routine, where there is one
abbrev pub state_in : Option RoutineOf → ℕ → Abs → Option Abs
state_in None p s = None
state_in (Some routine) p s = if nat_lt p (length routine.code) then Some s else None

abbrev pub state_at : Set → States → ℕ → ℕ → ℕ → Option Abs
state_at set states driver number p =
    state_in (routine_of set driver number) p (states driver number p)

-- a register is of a kind that has the right to what it names
abbrev pub has_right : Option Abs → ℕ → Bool
has_right None r = false
has_right (Some s) r = is_right (kind_of s r)

abbrev pub register_holds : Set → States → Option Frame → ℕ → Bool
register_holds set states None r = false
register_holds set states (Some (Routine a)) r =
    has_right (state_at set states a.driver a.routine a.position) r
register_holds set states (Some (Walk m)) r = false
register_holds set states (Some (CancelFrame c)) r = false

-- a frame is of a routine to which the packet that is completed under it is lent
abbrev pub lends_to : Set → Option Frame → Bool
lends_to set None = false
lends_to set (Some (Routine b)) = is_hold (sort_of set b.driver b.routine)
lends_to set (Some (Walk m)) = false
lends_to set (Some (CancelFrame c)) = false

-- a queue of a device has no cancel routine, nor have the packets in its device queue
abbrev pub is_plain : Set → ℕ → ℕ → Bool
is_plain set d q =
    not (is_some (cancel_routine_of set (routine_of_device (slice_get set.devices d)) q))

abbrev pub waits_plain : Set → ℕ → Bool
waits_plain set d = not (waits_cancelable set d)

-- a place holds what it names by right
abbrev pub holds : Set → States → World → Site → Bool
holds set states w (Register t k r) = register_holds set states (slice_get (frames_on w t) k) r
holds set states w (Completing t k) = not (lends_to set (slice_get (frames_on w t) (suc k)))
holds set states w (Queue d q) = is_plain set d q
holds set states w (StartList d) = true
holds set states w (DeviceQueue d) = waits_plain set d
holds set states w (Slot d) = true
holds set states w (CancelWord armer) = true

-- of some places those that do, and all others; and of all that name a packet, over so many devices
abbrev pub right_of : Set → States → World → List Site → List Site
right_of set states w sites = filter (holds set states w) sites

abbrev pub others_of : Set → States → World → List Site → List Site
others_of set states w sites = filter (λ site. not (holds set states w site)) sites

abbrev pub right_sites : Set → States → World → ℕ → ℕ → List Site
right_sites set states w devices n = right_of set states w (sites_of w devices n)

-- what is found is so by the states that arrive: at positions of routines there is one table of
-- them at most, and exactly one where the set is accepted
abbrev pub IsStateAt : Set → ℕ → ℕ → ℕ → Option Abs → Type 0
IsStateAt set driver number p found =
    (states : States) → StatesArrive set states → found ≡ state_at set states driver number p

abbrev pub DecidesRegister : Set → Option Frame → ℕ → Bool → Type 0
DecidesRegister set frame r decided =
    (states : States) → StatesArrive set states → decided ≡ register_holds set states frame r

abbrev pub Decides : Set → World → Site → Bool → Type 0
Decides set w site decided =
    (states : States) → StatesArrive set states → decided ≡ holds set states w site

pub record AreOf (set : Set) (states : States) (w : World) (sites : List Site) (found : Holders)
    : Type 0 where
  pub right : found.right.items ≡ right_of set states w sites
  pub others : found.others.items ≡ others_of set states w sites

abbrev pub AreSorted : Set → World → List Site → Holders → Type 0
AreSorted set w sites found =
    (states : States) → StatesArrive set states → AreOf set states w sites found

abbrev pub AreHolders : Set → World → ℕ → ℕ → Holders → Type 0
AreHolders set w devices n found = AreSorted set w (sites_of w devices n) found

-- there are rights exactly in the runs of an accepted set
abbrev pub IsVerdict : Set → Option Set → Type 0
IsVerdict set None = IsTypable set → ⊥
IsVerdict set (Some accepted) = (accepted ≡ set) × IsTypable set
