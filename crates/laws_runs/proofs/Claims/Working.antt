-- The instructions about queues keep the balance of claims.
use Rattle.laws_runs.proofs.Common.{ap, arith, inl, inr, refl, subst, ◌∙◌, cases_Bool, eqb_tells, list_any, Bool, List, None, Option, [], false, if◌then◌else◌, is_some, nat_eq, slice_get, true, ℕ, ◌+◌, ◌∷◌, ◌≡◌, ◌≤◌, ◌⊎◌, routine_of_device, is_at, is_name, unlink_kind, Set, cancel_routine_named, World, Kind, Queued, Armed, Cancelling, Listed, Taken, QueueName, Activation, Frame, Routine, Value, Ref, States, named_as, named_in, Serves, state_of, or_left, or_right}
use Rattle.laws_runs.proofs.Claims.Held.{thread_most}
use Rattle.laws_runs.proofs.Claims.Names.{TurnsNames, at_queues, names}
use Rattle.laws_runs.proofs.Claims.Sums.{FrameApart, frame_names, is_cancelable, names_on, takes_in, was_taken}
use Rattle.laws_runs.proofs.Holders.Rights.{named_none}
use Rattle.laws_runs.proofs.Claims.Balance.{names_tell}

-- a queue is unlinked from by one that stands there, or that the cancel routine was called for
abbrev pub Unlinks : QueueName → Kind → Type 0
Unlinks q k = (k ≡ Queued q Listed) ⊎ (k ≡ Queued q Cancelling)

pub unlinked_kind : (q : QueueName) (k : Kind) → unlink_kind q k ≡ None → Unlinks q k
unlinked_kind q (Queued p Listed) h =
    elim (names_tell p q) [
      | inl same ↦ inl (ap (λ (x : QueueName). Queued x Listed) same.1)
      | inr apart ↦ let no = rw apart.0 at h in cc
    ]
unlinked_kind q (Queued p Cancelling) h =
    elim (names_tell p q) [
      | inl same ↦ inr (ap (λ (x : QueueName). Queued x Cancelling) same.1)
      | inr apart ↦ let no = rw apart.0 at h in cc
    ]
unlinked_kind q _ h = cc

-- registers that name no packet of a queue
pub some_none : (f g : Kind → Bool) → ((k : Kind) → g k ≡ false → f k ≡ false) → (kinds : List Kind)
    → list_any g kinds ≡ false → list_any f kinds ≡ false
some_none f g less [] h = refl
some_none f g less (k ∷ kinds) h =
    rw (
      less k (or_left (g k) (list_any g kinds) h),
      some_none f g less kinds (or_right (g k) (list_any g kinds) h),
    )
    refl

-- in one frame: its claims to a packet, and one of a kind
abbrev pub claims : States → Activation → QueueName → ℕ → ℕ
claims states a q n =
    names states (is_at Armed q) a n + names states (is_at Taken q) a n
    + names states (is_at Cancelling q) a n

abbrev claims_as : Kind → QueueName → ℕ → ℕ → ℕ
claims_as k q m n =
    named_as (is_at Armed q) k (Ref m) n + named_as (is_at Taken q) k (Ref m) n
    + named_as (is_at Cancelling q) k (Ref m) n

claims_turn : (states : States) (a b : Activation) (j k : Kind) (m : ℕ)
    → TurnsNames states a b j k m → (q : QueueName) (n : ℕ)
    → claims states b q n + claims_as j q m n ≡ claims states a q n + claims_as k q m n
claims_turn states a b j k m turns q n =
    omega (
      arith,
      turns (is_at Armed q) (at_queues Armed q) n,
      turns (is_at Taken q) (at_queues Taken q) n,
      turns (is_at Cancelling q) (at_queues Cancelling q) n,
    )

pub apart_down : (states : States) (a b : Activation) (j k : Kind) (m : ℕ)
    → TurnsNames states a b j k m
    → ((q : QueueName) → (is_at Armed q k ≡ false) × (is_at Taken q k ≡ false)
    × (is_at Cancelling q k ≡ false))
    → FrameApart states (Routine a) → FrameApart states (Routine b)
apart_down states a b j k m turns none h q n =
    let nothing : claims_as k q m n ≡ 0 = rw ((none q).0, (none q).1, (none q).2) refl in
    omega (arith, claims_turn states a b j k m turns q n, h q n)

-- a claim comes for a packet that is in none
abbrev pub NewClaim : Kind → QueueName → Type 0
NewClaim k q =
    ((p : QueueName) (n m : ℕ) → named_as (is_at Armed p) k (Ref m) n
    + named_as (is_at Taken p) k (Ref m) n
    ≡ (if is_name q p then (if nat_eq m n then 1 else 0) else 0))
    × ((p : QueueName) → is_at Cancelling p k ≡ false)

claim_tells : (l q : QueueName) (m n sum : ℕ)
    → sum ≡ (if is_name l q then (if nat_eq m n then 1 else 0) else 0)
    → (sum ≡ 0) ⊎ ((l ≡ q) × (m ≡ n) × (sum ≡ 1))
claim_tells l q m n sum h =
    elim (names_tell l q) [
      | inr apart ↦ inl (rw apart.0 at h)
      | inl its ↦ elim (eqb_tells m n) [
        | inr other ↦ inl (rw (its.0, other.0) at h)
        | inl same ↦ inr (its.1, same.1, rw (its.0, same.0) at h)
      ]
    ]

pub apart_up : (states : States) (a b : Activation) (j k : Kind) (m : ℕ) (l : QueueName)
    → TurnsNames states a b j k m
    → NewClaim k l → claims states a l m ≡ 0
    → FrameApart states (Routine a) → FrameApart states (Routine b)
apart_up states a b j k m l turns new free h q n =
    let turn : claims states b q n + claims_as j q m n ≡ claims states a q n + claims_as k q m n =
    claims_turn states a b j k m turns q n in
    let no_cancelling : named_as (is_at Cancelling q) k (Ref m) n ≡ 0 =
    named_none (is_at Cancelling q) k (Ref m) n (new.1 q) in
    let before : claims states a q n ≤ 1 = h q n in
    elim (claim_tells l q m n (named_as (is_at Armed q) k (Ref m) n
    + named_as (is_at Taken q) k (Ref m) n) (new.0 q n m)) [
      | inl none ↦
          let claim : named_as (is_at Armed q) k (Ref m) n
          + named_as (is_at Taken q) k (Ref m) n ≡ 0 = none in
          omega arith
      | inr one ↦
          let claim : named_as (is_at Armed q) k (Ref m) n
          + named_as (is_at Taken q) k (Ref m) n ≡ 1 = one.2 in
          let zero_before : claims states a q n ≡ 0 =
          subst (λ (x : ℕ). claims states a q x ≡ 0) one.1
          (subst (λ (x : QueueName). claims states a x m ≡ 0) one.0 free) in
          omega arith
    ]

-- registers at the stage Taken for a queue of a device are among those for any
taken_some : (name : QueueName) (k : Kind) (v : Value) (n : ℕ)
    → named_as (is_at Taken name) k v n ≤ named_as was_taken k v n
taken_some name (Queued q Taken) v n =
    elim (cases_Bool (is_name q name)) [
      | inl same ↦ rw same (omega arith)
      | inr apart ↦ rw apart (omega arith)
    ]
taken_some name _ v n = omega arith

taken_many : (q : QueueName) (kinds : List Kind) (values : List Value) (n : ℕ)
    → named_in (is_at Taken q) kinds values n ≤ named_in was_taken kinds values n
taken_many q [] values n = omega arith
taken_many q (k ∷ kinds) [] n = omega arith
taken_many q (k ∷ kinds) (v ∷ values) n =
    omega (arith, taken_some q k v n, taken_many q kinds values n)

taken_frame : (states : States) (d : ℕ) (q : QueueName) (n : ℕ) (f : Frame)
    → frame_names states (is_at Taken q) (λ e. nat_eq e d) n f
    ≤ frame_names states was_taken (λ e. true) n f
taken_frame states d q n (Routine a) =
    let many : names states (is_at Taken q) a n ≤ names states was_taken a n =
    taken_many q (state_of states a).kinds a.registers n in
    elim (cases_Bool (nat_eq a.device d)) [
      | inl same ↦ rw same many
      | inr apart ↦ rw apart (omega arith)
    ]
taken_frame states d q n _ = omega arith

pub taken_le : (states : States) (w : World) (d : ℕ) (q : QueueName) (n : ℕ)
    → names_on states (is_at Taken q) d n w.threads ≤ takes_in states n w.threads
taken_le states w d q n =
    thread_most (frame_names states (is_at Taken q) (λ e. nat_eq e d) n)
    (frame_names states was_taken (λ e. true) n) (taken_frame states d q n) w.threads

-- a queue of the device has a cancel routine
pub cancelable_is : (set : Set) (d driver : ℕ) (q : QueueName) (o : Option ℕ)
    → Serves set d driver → cancel_routine_named set driver q ≡ o
    → is_cancelable set d q ≡ is_some o
cancelable_is set d driver q o serves is =
    let its : routine_of_device (slice_get set.devices d) ≡ driver =
    ap routine_of_device serves.1 ∙ serves.2 in
    rw (its, is) refl
