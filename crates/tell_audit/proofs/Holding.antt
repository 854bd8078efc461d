-- A packet that no place names has no holder; so no run of an accepted set loses a packet.
use Rattle.std.proofs.Common.{◌≡◌, ℕ, zero, suc, ◌+◌, ◌++◌, List, [], ◌∷◌, Option, None, Some, Bool, true, false, refl, ap, nat_eq, cond, arith}
use Rattle.std.specs.Prelude.{◌||◌, slice_get, is_some, if◌then◌else◌}
use Rattle.std.specs.List.{list_any}
use Rattle.model.specs.declared.abs.Kind.{Kind}
use Rattle.model.specs.declared.event.Event.{Event}
use Rattle.model.specs.declared.world.Frame.{Frame}
use Rattle.model.specs.declared.world.Frame.TheVariants.{Routine, Walk, Cancel as CancelFrame}
use Rattle.model.specs.declared.world.Packet.{Packet}
use Rattle.model.specs.declared.world.Thread.{Thread}
use Rattle.model.specs.declared.world.Value.{Value}
use Rattle.model.specs.declared.world.Value.TheVariants.{Blank, Num, Ref, Status as StatusValue}
use Rattle.model.specs.Kinds.{is_right}
use Rattle.model.specs.Queues.{StartState, is_linked}
use Rattle.model.specs.Run.{run}
use Rattle.model.specs.Set.{Set, cancel_routine_of}
use Rattle.model.specs.Effect.{routine_of_device}
use Rattle.model.specs.World.{World, packet_of}
use Rattle.laws_runs.specs.ArrivingStates.{States}
use Rattle.laws_runs.specs.Holder.{HasOneHolder, PacketsHaveOneHolder, alive, all_walking, frame_rights, frame_walks, holders, is_lent, is_live, named_as, named_in, names, stack_sum, thread_sum, times_at, times_in, times_in_slot, times_named, times_plain, times_plain_on, times_started, times_waiting, waits_cancelable, walking}
use Rattle.tell_audit.specs.Laws.{AcceptedRunsLoseNoPacket}
use Rattle.tell_audit.specs.Naming.{frame_names, has_word, is_named, lost_at, lost_below, queues_name, slot_names, start_names, thread_names, value_names}

neither : (a b : Bool) → (a || b) ≡ false → (a ≡ false) × (b ≡ false)
neither true b h = cc
neither false b h = (refl, h)

no_sum : (a b : ℕ) → a ≡ 0 → b ≡ 0 → a + b ≡ 0
no_sum a b p q = omega arith

then_none : (b : Bool) (x : ℕ) → x ≡ 0 → (if b then x else 0) ≡ 0
then_none true x h = h
then_none false x h = refl

else_none : (b : Bool) (x : ℕ) → x ≡ 0 → (if b then 0 else x) ≡ 0
else_none true x h = refl
else_none false x h = h

test_none : (b : Bool) → b ≡ false → cond {A = ℕ} b 1 0 ≡ 0
test_none true h = cc
test_none false h = refl

both_empty : (xs ys : List ℕ) → xs ≡ [] → ys ≡ [] → xs ++ ys ≡ []
both_empty xs ys p q = rw (p, q) refl

some_same : (q p : Packet) → Some q ≡ Some p → q ≡ p
some_same q p h = cc

-- registers
no_name : (v : Value) (n : ℕ) → value_names n v ≡ false → names v n ≡ 0
no_name Blank n h = refl
no_name (Num k) n h = refl
no_name (StatusValue status) n h = refl
no_name (Ref m) n h = test_none (nat_eq m n) h

none_named : (f : Kind → Bool) (kinds : List Kind) (values : List Value) (n : ℕ)
    → list_any (value_names n) values ≡ false → named_in f kinds values n ≡ 0
none_named f [] values n h = refl
none_named f (k ∷ kinds) [] n h = refl
none_named f (k ∷ kinds) (v ∷ values) n h =
    let both : (value_names n v ≡ false) × (list_any (value_names n) values ≡ false) =
    neither (value_names n v) (list_any (value_names n) values) h in
    no_sum (named_as f k v n) (named_in f kinds values n)
    (then_none (f k) (names v n) (no_name v n both.0)) (none_named f kinds values n both.1)

-- frames
no_rights : (states : States) (f : Frame) (n : ℕ) → frame_names n f ≡ false
    → frame_rights states f n ≡ 0
no_rights states (Routine a) n h =
    none_named is_right (states a.driver a.routine a.position).kinds a.registers n h
no_rights states (Walk m) n h = refl
no_rights states (CancelFrame c) n h = refl

no_walks : (f : Frame) (n : ℕ) → frame_names n f ≡ false → frame_walks f n ≡ 0
no_walks (Routine a) n h = refl
no_walks (Walk m) n h = test_none (nat_eq m n) h
no_walks (CancelFrame c) n h = refl

no_stack : (states : States) (frames : List Frame) (n : ℕ)
    → list_any (frame_names n) frames ≡ false
    → stack_sum (λ f. frame_rights states f n) frames ≡ 0
no_stack states [] n h = refl
no_stack states (f ∷ frames) n h =
    let both : (frame_names n f ≡ false) × (list_any (frame_names n) frames ≡ false) =
    neither (frame_names n f) (list_any (frame_names n) frames) h in
    no_sum (frame_rights states f n) (stack_sum (λ g. frame_rights states g n) frames)
    (no_rights states f n both.0) (no_stack states frames n both.1)

no_walking : (set : Set) (frames : List Frame) (n : ℕ)
    → list_any (frame_names n) frames ≡ false → walking set frames n ≡ 0
no_walking set [] n h = refl
no_walking set (f ∷ frames) n h =
    let both : (frame_names n f ≡ false) × (list_any (frame_names n) frames ≡ false) =
    neither (frame_names n f) (list_any (frame_names n) frames) h in
    no_sum (if is_lent set frames then 0 else frame_walks f n) (walking set frames n)
    (else_none (is_lent set frames) (frame_walks f n) (no_walks f n both.0))
    (no_walking set frames n both.1)

no_threads : (states : States) (threads : List Thread) (n : ℕ)
    → list_any (thread_names n) threads ≡ false
    → thread_sum (λ f. frame_rights states f n) threads ≡ 0
no_threads states [] n h = refl
no_threads states (thread ∷ threads) n h =
    let both : (thread_names n thread ≡ false) × (list_any (thread_names n) threads ≡ false) =
    neither (thread_names n thread) (list_any (thread_names n) threads) h in
    no_sum (stack_sum (λ f. frame_rights states f n) thread.frames.items)
    (thread_sum (λ f. frame_rights states f n) threads)
    (no_stack states thread.frames.items n both.0) (no_threads states threads n both.1)

none_walking : (set : Set) (threads : List Thread) (n : ℕ)
    → list_any (thread_names n) threads ≡ false → all_walking set threads n ≡ 0
none_walking set [] n h = refl
none_walking set (thread ∷ threads) n h =
    let both : (thread_names n thread ≡ false) × (list_any (thread_names n) threads ≡ false) =
    neither (thread_names n thread) (list_any (thread_names n) threads) h in
    no_sum (walking set thread.frames.items n) (all_walking set threads n)
    (no_walking set thread.frames.items n both.0) (none_walking set threads n both.1)

-- lists
no_times : (entries : List ℕ) (n : ℕ) → is_linked entries n ≡ false → times_in entries n ≡ 0
no_times [] n h = refl
no_times (m ∷ entries) n h =
    let both : (nat_eq m n ≡ false) × (is_linked entries n ≡ false) =
    neither (nat_eq m n) (is_linked entries n) h in
    no_sum (if nat_eq m n then 1 else 0) (times_in entries n)
    (test_none (nat_eq m n) both.0) (no_times entries n both.1)

none_plain_on : (set : Set) (driver q : ℕ) (lists : List (List ℕ)) (n : ℕ)
    → queues_name n lists ≡ false → times_plain_on set driver q lists n ≡ 0
none_plain_on set driver q [] n h = refl
none_plain_on set driver q (entries ∷ lists) n h =
    let both : (is_linked entries n ≡ false) × (queues_name n lists ≡ false) =
    neither (is_linked entries n) (queues_name n lists) h in
    no_sum (if is_some (cancel_routine_of set driver q) then 0 else times_in entries n)
    (times_plain_on set driver (q + 1) lists n)
    (else_none (is_some (cancel_routine_of set driver q)) (times_in entries n)
    (no_times entries n both.0)) (none_plain_on set driver (q + 1) lists n both.1)

none_plain : (set : Set) (d : ℕ) (queues : List (List (List ℕ))) (n : ℕ)
    → list_any (queues_name n) queues ≡ false → times_plain set d queues n ≡ 0
none_plain set d [] n h = refl
none_plain set d (lists ∷ queues) n h =
    let both : (queues_name n lists ≡ false) × (list_any (queues_name n) queues ≡ false) =
    neither (queues_name n lists) (list_any (queues_name n) queues) h in
    let driver : ℕ = routine_of_device (slice_get set.devices d) in
    no_sum (times_plain_on set driver 0 lists n) (times_plain set (d + 1) queues n)
    (none_plain_on set driver 0 lists n both.0) (none_plain set (d + 1) queues n both.1)

no_slot : (slot : Option ℕ) (n : ℕ) → slot_names n slot ≡ false → times_in_slot slot n ≡ 0
no_slot None n h = refl
no_slot (Some m) n h = test_none (nat_eq m n) h

no_start : (cancelable : Bool) (start : StartState) (n : ℕ) → start_names n start ≡ false
    → times_at cancelable start n ≡ 0
no_start cancelable start n h =
    let first : ((is_linked start.start_list n || is_linked start.device_queue n) ≡ false)
    × (slot_names n start.slot ≡ false) =
    neither (is_linked start.start_list n || is_linked start.device_queue n)
    (slot_names n start.slot) h in
    let last : (is_linked start.start_list n ≡ false) × (is_linked start.device_queue n ≡ false) =
    neither (is_linked start.start_list n) (is_linked start.device_queue n) first.0 in
    let a : times_in start.start_list n ≡ 0 = no_times start.start_list n last.0 in
    let b : (if cancelable then 0 else times_in start.device_queue n) ≡ 0 =
    else_none cancelable (times_in start.device_queue n) (no_times start.device_queue n last.1) in
    let c : times_in_slot start.slot n ≡ 0 = no_slot start.slot n first.1 in
    omega arith

none_started : (set : Set) (d : ℕ) (starts : List StartState) (n : ℕ)
    → list_any (start_names n) starts ≡ false → times_started set d starts n ≡ 0
none_started set d [] n h = refl
none_started set d (start ∷ starts) n h =
    let both : (start_names n start ≡ false) × (list_any (start_names n) starts ≡ false) =
    neither (start_names n start) (list_any (start_names n) starts) h in
    no_sum (times_at (waits_cancelable set d) start n) (times_started set (d + 1) starts n)
    (no_start (waits_cancelable set d) start n both.0) (none_started set (d + 1) starts n both.1)

no_word : (o : Option Packet) → has_word o ≡ false → times_named o ≡ 0
no_word None h = refl
no_word (Some p) h = test_none (is_some p.armer) h

-- all holders
pub no_holder : (set : Set) (states : States) (w : World) (n : ℕ) → is_named w n ≡ false
    → holders set states w.threads n + times_waiting set w.shared n ≡ 0
no_holder set states w n h =
    let queues : Bool = list_any (queues_name n) w.shared.queues in
    let starts : Bool = list_any (start_names n) w.shared.starts in
    let word : Bool = has_word (packet_of w.shared n) in
    let threads : Bool = list_any (thread_names n) w.threads in
    let x : (((threads || queues) || starts) ≡ false) × (word ≡ false) =
    neither ((threads || queues) || starts) word h in
    let y : ((threads || queues) ≡ false) × (starts ≡ false) =
    neither (threads || queues) starts x.0 in
    let z : (threads ≡ false) × (queues ≡ false) = neither threads queues y.0 in
    let a : thread_sum (λ f. frame_rights states f n) w.threads ≡ 0 =
    no_threads states w.threads n z.0 in
    let b : all_walking set w.threads n ≡ 0 = none_walking set w.threads n z.0 in
    let c : times_plain set 0 w.shared.queues n ≡ 0 = none_plain set 0 w.shared.queues n z.1 in
    let d : times_started set 0 w.shared.starts n ≡ 0 = none_started set 0 w.shared.starts n y.1 in
    let e : times_named (packet_of w.shared n) ≡ 0 = no_word (packet_of w.shared n) x.1 in
    omega arith

one_is_none : (a b l : ℕ) → a ≡ 1 → a ≡ l → b ≡ l → b ≡ 0 → (xs : List ℕ) → xs ≡ []
one_is_none a b l p q r s xs = absurd (omega arith)

-- so it isn't lost
named_or_not : (set : Set) (states : States) (threads : ℕ) (events : List Event)
    → HasOneHolder set states threads events → (n : ℕ) (p : Packet)
    → packet_of (run set threads events).world.shared n ≡ Some p
    → (b : Bool) → is_named (run set threads events).world n ≡ b
    → cond {A = List ℕ} b [] (n ∷ []) ≡ []
named_or_not set states threads events has n p h true named = refl
named_or_not set states threads events has n p h false unnamed =
    let live : ℕ = if is_live (run set threads events) n then 1 else 0 in
    let none : holders set states (run set threads events).world.threads n
    + times_waiting set (run set threads events).world.shared n ≡ 0 =
    no_holder set states (run set threads events).world n unnamed in
    let there : alive (packet_of (run set threads events).world.shared n) ≡ 1 = ap alive h in
    one_is_none (alive (packet_of (run set threads events).world.shared n))
    (holders set states (run set threads events).world.threads n
    + times_waiting set (run set threads events).world.shared n) live there
    (has.listed n) (has.one n) none (n ∷ [])

not_lost : (set : Set) (states : States) (threads : ℕ) (events : List Event)
    → HasOneHolder set states threads events → (n : ℕ) (o : Option Packet)
    → packet_of (run set threads events).world.shared n ≡ o
    → lost_at (run set threads events).world n o ≡ []
not_lost set states threads events has n None h = refl
not_lost set states threads events has n (Some p) h =
    named_or_not set states threads events has n p h
    (is_named (run set threads events).world n) refl

none_below : (set : Set) (states : States) (threads : ℕ) (events : List Event)
    → HasOneHolder set states threads events → (n : ℕ)
    → lost_below (run set threads events).world n ≡ []
none_below set states threads events has zero = refl
none_below set states threads events has (suc n) =
    both_empty (lost_below (run set threads events).world n)
    (lost_at (run set threads events).world n
    (packet_of (run set threads events).world.shared n))
    (none_below set states threads events has n)
    (not_lost set states threads events has n
    (packet_of (run set threads events).world.shared n) refl)

pub none_lost : PacketsHaveOneHolder → AcceptedRunsLoseNoPacket
none_lost law set typable sound threads events =
    none_below set (law set typable sound).0 threads events
    ((law set typable sound).2 threads events)
    (run set threads events).world.shared.issued
