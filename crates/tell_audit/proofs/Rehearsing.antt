-- A run that goes on by an event, and what an audit finds in it.
use Rattle.std.proofs.Common.{◌≡◌, ◌∙◌, ◌<◌, ◌+◌, ℕ, List, [], ◌∷◌, ◌++◌, Option, None, ap, get_or, length, subst, sym, take}
use Rattle.std.proofs.lemmas.List.{take_more}
use Rattle.tell_audit.specs.declared.amiss.Amiss.{Amiss}
use Rattle.tell_audit.specs.Ends.{GoesOn, IsAmissNow, Rehearsed, Rehearses, amiss_after, amiss_in, first_of, or_amiss, stops_with}
use Rattle.model.specs.declared.event.Event.{Event}
use Rattle.model.specs.declared.event.Reply.{Reply}
use Rattle.model.specs.Machine.{AppliesWhole, Machine, ShowsWhole, reply_to}
use Rattle.model.specs.Run.{run}
use Rattle.model.specs.Set.{Set}
use Rattle.model.specs.Trace.{Serving}
use Rattle.model.specs.World.{World}
use Rattle.tell_audit.specs.declared.findings.Findings.{Findings}
use Rattle.tell_audit.specs.declared.left.LeftLock.{LeftLock}
use Rattle.tell_audit.specs.Findings.{AreFindings, ringed_threads}
use Rattle.tell_audit.specs.Left.{left_locks}
use Rattle.tell_audit.specs.Naming.{lost_packets}
use Rattle.tell_uses.specs.Acts.{use_step}
use Rattle.tell_uses.specs.Ledger.{LedgerState, Tells, TellsOn}
use Rattle.tell_uses.specs.Pending.{disagreeing, uses_of}

-- an event that is applied and noted
tells_on : (m n : Machine) (e : Event) (reply : Reply) (l k : LedgerState)
    → AppliesWhole m e n reply → TellsOn n.set n.world e (use_step m.set m.world e) reply l k
    → (threads : ℕ) (events : List Event) → ShowsWhole m threads events
    → Tells (run m.set threads events) l → Tells (run m.set threads (events ++ e ∷ [])) k
tells_on m n e reply l k ran noted threads events shows tells =
    let on : TellsOn m.set n.world e (use_step m.set m.world e) reply l k =
    subst (λ (s : Set). TellsOn s n.world e (use_step m.set m.world e) reply l k) ran.set noted in
    on threads events (ap (λ (w : World). use_step m.set w e) shows.world)
    (ran.replies threads events shows)
    ((ran.shows threads events shows).world
    ∙ ap (λ (s : Set). (run s threads (events ++ e ∷ [])).world) ran.set) tells

pub goes_on : (m n : Machine) (e : Event) (reply : Reply) (l k : LedgerState)
    → AppliesWhole m e n reply → TellsOn n.set n.world e (use_step m.set m.world e) reply l k
    → GoesOn (record { machine = m; ledger = l }) e (record { machine = n; ledger = k }) reply
goes_on m n e reply l k ran noted =
    record {
      shows = λ set threads events h.
          record {
            over = ran.set ∙ h.over;
            shows = ran.shows threads events h.shows;
            tells =
                subst (λ (s : Set). Tells (run s threads (events ++ e ∷ [])) k) h.over
                (tells_on m n e reply l k ran noted threads events h.shows
                (subst (λ (s : Set). Tells (run s threads events) l) (sym h.over) h.tells));
          };
      replies = λ set threads events h.
          ran.replies threads events h.shows
          ∙ ap (λ (s : Set). reply_to s threads events e) h.over;
    }

-- what an audit finds first is what is amiss first
pub finds_first : (r : Rehearsed) (found : Findings) (first : Option Amiss)
    → AreFindings r.machine.set r.machine.world r.ledger found
    → first ≡ first_of found.lost.items found.left.items found.ringed.items found.disagreeing.items
    → (set : Set) (threads : ℕ) (events : List Event) → Rehearses set threads events r
    → first ≡ amiss_in set (run set threads events)
finds_first r found first are is set threads events h =
    let u : List Serving = disagreeing (run set threads events).past
    (uses_of (run set threads events).past) in
    is
    ∙ ap (λ (xs : List ℕ).
    first_of xs found.left.items found.ringed.items found.disagreeing.items) are.lost
    ∙ ap (λ (xs : List LeftLock). first_of (lost_packets r.machine.world) xs found.ringed.items
    found.disagreeing.items) are.left
    ∙ ap (λ (xs : List ℕ). first_of (lost_packets r.machine.world)
    (left_locks r.machine.world (length r.machine.set.devices)) xs found.disagreeing.items) are.ringed
    ∙ ap (λ (xs : List Serving). first_of (lost_packets r.machine.world)
    (left_locks r.machine.world (length r.machine.set.devices))
    (ringed_threads r.machine.set r.machine.world) xs) (are.disagreeing set threads events h.tells)
    ∙ ap (λ (s : Set). first_of (lost_packets r.machine.world)
    (left_locks r.machine.world (length s.devices)) (ringed_threads s r.machine.world) u) h.over
    ∙ ap (λ (w : World). first_of (lost_packets w) (left_locks w (length set.devices))
    (ringed_threads set w) u) (h.shows.world ∙ ap (λ (s : Set). (run s threads events).world) h.over)

-- behind a reply that doesn't stop the run
pub goes_on_past : (r : Rehearsed) (reply : Reply) (stop first : Option Amiss)
    → stop ≡ stops_with reply → stop ≡ None
    → ((set : Set) (threads : ℕ) (events : List Event) → Rehearses set threads events r
    → first ≡ amiss_in set (run set threads events)) → IsAmissNow r reply first
goes_on_past r reply stop first is none found set threads events h =
    found set threads events h
    ∙ ap (λ (o : Option Amiss). or_amiss o (amiss_in set (run set threads events)))
    (sym none ∙ is)

-- what is amiss behind a last event
pub ends_so : (set : Set) (threads : ℕ) (before : List Event) (last : Event) (r k : Rehearsed)
    (reply : Reply) (amiss : Option Amiss) → Rehearses set threads before r → GoesOn r last k reply
    → IsAmissNow k reply amiss → amiss ≡ amiss_after set threads before last
ends_so set threads before last r k reply amiss h on now =
    now set threads (before ++ last ∷ []) (on.shows set threads before h)
    ∙ ap (λ (y : Reply). or_amiss (stops_with y)
    (amiss_in set (run set threads (before ++ last ∷ [])))) (on.replies set threads before h)

-- so many events of some and the next one
pub goes_further : (set : Set) (threads : ℕ) (events : List Event) (i : ℕ) (d : Event)
    → i < length events → (r k : Rehearsed) (reply : Reply) → GoesOn r (get_or events i d) k reply
    → Rehearses set threads (take i events) r → Rehearses set threads (take (i + 1) events) k
goes_further set threads events i d inside r k reply on h =
    subst (λ (es : List Event). Rehearses set threads es k) (sym (take_more events i d inside))
    (on.shows set threads (take i events) h)
