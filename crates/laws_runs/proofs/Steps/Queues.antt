-- What the instructions about queues have in common: they touch one packet or none, and the routine
-- goes on.
use Rattle.laws_runs.proofs.Prelude.{inl, inr, refl, Bool, List, Option, [], false, true, ℕ, ◌∷◌, ◌≡◌, ◌⊎◌, Action, Touches, StartState, Set, Shared, Instr, Activation, Armer}
use Rattle.laws_runs.proofs.Steps.Comes.{Queued, Waits, arms_waiting, disarms_next, starts_gone, dequeues_packet, inserts, removes, removes_none, unlinks, starts_packet, takes_out, takes_none, puts_in, starts_next}
use Rattle.laws_runs.proofs.Steps.Words.{Queueing, work_of}

pub queued_work : {set : Set} {s : Shared} {a b : Activation} {i : Instr} {queues : List
    (List (List ℕ))}
    {lists : List StartState} {actions : List Action} {full : Bool}
    → Queued set s a i b queues lists actions full → work_of i ≡ Queueing
queued_work (inserts r q n entries reads there) = refl
queued_work (removes r q label n entries there) = refl
queued_work (removes_none r q label there) = refl
queued_work (unlinks r q n entries reads there) = refl
queued_work (starts_packet r n start reads there plain) = refl
queued_work (takes_out r label n start there slot) = refl
queued_work (takes_none r label start there slot) = refl
queued_work (puts_in r n start reads there) = refl
queued_work (starts_next start there none) = refl
queued_work (starts_gone n start there first gone) = refl
queued_work (dequeues_packet r n start reads there) = refl

pub queued_same : {set : Set} {s : Shared} {a b : Activation} {i : Instr} {queues : List
    (List (List ℕ))}
    {lists : List StartState} {actions : List Action} {full : Bool}
    → Queued set s a i b queues lists actions full → (b.driver ≡ a.driver) × (b.routine ≡ a.routine)
queued_same (inserts r q n entries reads there) = (refl, refl)
queued_same (removes r q label n entries there) = (refl, refl)
queued_same (removes_none r q label there) = (refl, refl)
queued_same (unlinks r q n entries reads there) = (refl, refl)
queued_same (starts_packet r n start reads there plain) = (refl, refl)
queued_same (takes_out r label n start there slot) = (refl, refl)
queued_same (takes_none r label start there slot) = (refl, refl)
queued_same (puts_in r n start reads there) = (refl, refl)
queued_same (starts_next start there none) = (refl, refl)
queued_same (starts_gone n start there first gone) = (refl, refl)
queued_same (dequeues_packet r n start reads there) = (refl, refl)

pub queued_touches : {set : Set} {s : Shared} {a b : Activation} {i : Instr} {queues : List
    (List (List ℕ))}
    {lists : List StartState} {actions : List Action} {full : Bool}
    → Queued set s a i b queues lists actions full
    → (actions ≡ []) ⊎ ((n : ℕ) × (actions ≡ Touches n ∷ []))
queued_touches (inserts r q n entries reads there) = inr (n, refl)
queued_touches (removes r q label n entries there) = inr (n, refl)
queued_touches (removes_none r q label there) = inl refl
queued_touches (unlinks r q n entries reads there) = inr (n, refl)
queued_touches (starts_packet r n start reads there plain) = inr (n, refl)
queued_touches (takes_out r label n start there slot) = inl refl
queued_touches (takes_none r label start there slot) = inl refl
queued_touches (puts_in r n start reads there) = inr (n, refl)
queued_touches (starts_next start there none) = inl refl
queued_touches (starts_gone n start there first gone) = inr (n, refl)
queued_touches (dequeues_packet r n start reads there) = inr (n, refl)

-- those that exchange the cancel routine of a packet of the device queue
pub waits_work : {set : Set} {s : Shared} {a : Activation} {i : Instr} {starts : List StartState}
    {n : ℕ} {armer : Option Armer} {full : Bool} → Waits set s a i starts n armer full
    → work_of i ≡ Queueing
waits_work (arms_waiting r n start reads there armed) = refl
waits_work (disarms_next n start there first) = refl

-- the next one is to be started, and has topped out
abbrev pub is_gone : {set : Set} {s : Shared} {a b : Activation} {i : Instr}
    {queues : List (List (List ℕ))} {lists : List StartState} {actions : List Action} {full : Bool}
    → Queued set s a i b queues lists actions full → Bool
is_gone (starts_gone n start there first gone) = true
is_gone _ = false
