-- The trace of a run whose events have no bug check has no fault.
use Rattle.laws_runs.proofs.Common.{List, None, [], ◌∷◌, ◌≡◌, Action, fault_of, first_fault, Actor, Entry, entry, recorded, Faultless, none_first, none_later}

pub recorded_faultless : (past : List Entry) (actor : Actor) (actions : List Action)
    → Faultless past
    → first_fault past actor actions ≡ None → Faultless (recorded past actor actions)
recorded_faultless past actor [] h quiet = h
recorded_faultless past actor (action ∷ actions) h quiet =
    recorded_faultless (entry past actor action ∷ past) actor actions
    (none_first (fault_of past actor action) _ quiet, h)
    (none_later (fault_of past actor action) _ quiet)
