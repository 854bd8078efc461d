-- All that an audit finds amiss: packets that are lost, locks that are left behind, threads that wait
-- in a ring, and uses of stack locations that were returned from otherwise than they were marked; and,
-- beside that, packets whose cancellation was missed.
use Rattle.std.specs.Prelude.{ℕ, ◌≡◌, ◌++◌, ◌&&◌, not, zero, suc, Bool, List, [], ◌∷◌, length, nat_eq, if◌then◌else◌}
use Rattle.model.specs.declared.limits.TheConstants.{MAX_THREADS}
use Rattle.model.specs.declared.event.Event.{Event}
use Rattle.model.specs.Run.{run}
use Rattle.model.specs.Set.{Set}
use Rattle.model.specs.Sound.{IsSound}
use Rattle.model.specs.Trace.{Entry, Serving}
use Rattle.model.specs.Typable.{IsTypable}
use Rattle.model.specs.World.{World}
use Rattle.laws_runs.specs.Order.{HasLockOrders}
use Rattle.tell_audit.specs.declared.findings.Findings.{Findings}
use Rattle.tell_audit.specs.declared.left.LeftLock.{LeftLock}
use Rattle.tell_uses.specs.Ledger.{Disagreeing, LedgerState, NoneIfAccepted}
use Rattle.tell_audit.specs.Left.{left_locks}
use Rattle.tell_audit.specs.Missed.{missed_packets}
use Rattle.tell_audit.specs.Naming.{lost_packets}
use Rattle.tell_uses.specs.Pending.{disagreeing, uses_of}
use Rattle.tell_audit.specs.Ring.{is_in_ring}

-- a thread, if it waits in a ring; those of so many; and all of them: no run has more threads
abbrev pub ring_at : Set → World → ℕ → List ℕ
ring_at set w t = if is_in_ring set w t then t ∷ [] else []

abbrev pub rings_below : Set → World → ℕ → List ℕ
rings_below set w zero = []
rings_below set w (suc t) = rings_below set w t ++ ring_at set w t

abbrev pub ringed_threads : Set → World → List ℕ
ringed_threads set w = rings_below set w MAX_THREADS

-- one of these lists isn't empty
abbrev pub any_of : List ℕ → List LeftLock → List ℕ → List Serving → Bool
any_of lost left ringed disagreeing =
    not (nat_eq (length lost) 0 && nat_eq (length left) 0 && nat_eq (length ringed) 0
    && nat_eq (length disagreeing) 0)

-- something is amiss, in a world and the trace that led to it. A cancellation that was missed is
-- listed alone: a driver may still find Irp->Cancel set, or complete the packet
abbrev pub has_findings : Set → World → List Entry → Bool
has_findings set w past =
    any_of (lost_packets w) (left_locks w (length set.devices)) (ringed_threads set w)
    (disagreeing past (uses_of past))

-- a world is that of a run of an accepted set
pub record IsOfAccepted (set : Set) (w : World) : Type 0 where
  pub typable : IsTypable set
  pub sound : IsSound set
  pub threads : ℕ
  pub events : List Event
  pub of : w ≡ (run set threads events).world

-- these are all that there is to find, in a world and in the runs that a ledger tells; where the set
-- is accepted no packet is lost, no lock is left behind and no use disagrees, and where each of its
-- drivers takes its locks in an order no thread waits in a ring
pub record AreFindings (set : Set) (w : World) (l : LedgerState) (found : Findings) : Type 0 where
  pub lost : found.lost.items ≡ lost_packets w
  pub left : found.left.items ≡ left_locks w (length set.devices)
  pub ringed : found.ringed.items ≡ ringed_threads set w
  pub missed : found.missed.items ≡ missed_packets w
  pub disagreeing : Disagreeing l found.disagreeing.items
  pub none_lost : IsOfAccepted set w → found.lost.items ≡ []
  pub none_left : IsOfAccepted set w → found.left.items ≡ []
  pub none_ringed : IsOfAccepted set w → HasLockOrders set → found.ringed.items ≡ []
  pub none_disagree : NoneIfAccepted l found.disagreeing.items
