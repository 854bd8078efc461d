-- How often packets stand in queues with a cancel routine, after one is put into a queue or taken
-- off it; and a packet that stands in no list.
use Rattle.laws_runs.proofs.Common.{ap, arith, eqb-true, inl, inr, refl, subst, sym, zero, ◌∙◌, cases_Bool, eqb_tells, get_or_from_slice_get, Bool, List, Option, Some, [], false, if◌then◌else◌, is_some, nat_eq, option_and_then, option_map, slice_get, slice_index_or, slice_set, suc, true, ℕ, ◌+◌, ◌∷◌, ◌≡◌, ◌≤◌, ◌⊎◌, routine_of_device, is_name, StartState, unlinked, Set, cancel_routine_of, has_cancel, Shared, queue_of, start_of, with_queue, with_start, QueueName, Declared, DeviceQueue, times_at, times_in, times_on, times_plain, times_plain_on, times_queued, times_started, times_to_start, waits_cancelable, set_other, set_same, queue_row}
use Rattle.std.proofs.Common.{eq-eqb}
use Rattle.laws_runs.proofs.Claims.Balance.{hit, hit_elsewhere, name_same}
use Rattle.laws_runs.proofs.Claims.Sums.{is_cancelable, times_of, list_of}
use Rattle.laws_runs.proofs.Claims.Sums.{is_cancelable}

-- a list in place of another one: it, or a list that is as it was
abbrev pub PutOrNot : Shared → Shared → ℕ → QueueName → List ℕ → List ℕ → ℕ → QueueName → Type 0
PutOrNot s to d q before after e p =
    ((nat_eq d e ≡ true) × (is_name q p ≡ true) × (list_of s e p ≡ Some before)
    × (list_of to e p ≡ Some after))
    ⊎ (((n m : ℕ) → hit d q n e p m ≡ 0) × (list_of to e p ≡ list_of s e p))

abbrev pub Puts : Shared → Shared → ℕ → QueueName → List ℕ → List ℕ → Type 0
Puts s to d q before after = (e : ℕ) (p : QueueName) → PutOrNot s to d q before after e p

put_queue_at : (s : Shared) (d q : ℕ) (before after : List ℕ) (e p : ℕ)
    → queue_of s d q ≡ Some before
    → PutOrNot s (with_queue s d q after) d (Declared q) before after e (Declared p)
put_queue_at s d q before after e p there =
    let row : (lists : List (List ℕ)) × (slice_get s.queues d ≡ Some lists)
    × (slice_get lists q ≡ Some before) = queue_row s d q before there in
    let same : slice_index_or s.queues d [] ≡ row.0 =
    get_or_from_slice_get s.queues d row.0 [] row.1 in
    elim (eqb_tells d e) [
      | inr apart ↦ inr (
        λ n m. hit_elsewhere d (Declared q) n e (Declared p) m apart.0,
        ap (λ (o : Option (List (List ℕ))). option_and_then (λ lists. slice_get lists p) o)
            (set_other s.queues d e (slice_set (slice_index_or s.queues d []) q after)
            (λ same. apart.1 same)),
      )
      | inl here ↦
          let put : slice_get (slice_set s.queues d
          (slice_set (slice_index_or s.queues d []) q after)) e
          ≡ Some (slice_set row.0 q after) =
          rw (← here.1, same) (set_same s.queues d row.0 (slice_set row.0 q after) row.1) in
          let old : slice_get s.queues e ≡ Some row.0 = rw (← here.1) row.1 in
          elim (eqb_tells q p) [
            | inr other ↦ inr (
              λ n m. rw other.0 refl,
              ap (λ (o : Option (List (List ℕ))). option_and_then (λ lists. slice_get lists p) o)
                  put
                  ∙ set_other row.0 q p after (λ same. other.1 same)
                  ∙ sym (ap (λ (o : Option (List (List ℕ))). option_and_then (λ lists. slice_get
                  lists p) o) old),
            )
            | inl its ↦ inl (
              here.0,
              its.0,
              ap (λ (o : Option (List (List ℕ))). option_and_then (λ lists. slice_get lists p) o)
                  old
                  ∙ subst (λ (x : ℕ). slice_get row.0 x ≡ Some before) its.1 row.2,
              ap (λ (o : Option (List (List ℕ))). option_and_then (λ lists. slice_get lists p) o)
                  put
                  ∙ subst (λ (x : ℕ). slice_get (slice_set row.0 q after) x ≡ Some after) its.1
                  (set_same row.0 q before after row.2),
            )
          ]
    ]

-- a queue, and a device queue
pub put_queue : (s : Shared) (d q : ℕ) (before after : List ℕ) → queue_of s d q ≡ Some before
    → Puts s (with_queue s d q after) d (Declared q) before after
put_queue s d q before after there e (Declared p) = put_queue_at s d q before after e p there
put_queue s d q before after there e DeviceQueue = inr ((λ n m. refl), refl)

pub put_waiting : (s : Shared) (d : ℕ) (before after : StartState) → start_of s d ≡ Some before
    → Puts s (with_start s d after) d DeviceQueue before.device_queue after.device_queue
put_waiting s d before after there e (Declared p) = inr ((λ n m. refl), refl)
put_waiting s d before after there e DeviceQueue =
    elim (eqb_tells d e) [
      | inr apart ↦ inr (
        λ n m. rw apart.0 refl,
        ap (λ (o : Option StartState). option_map (λ start. start.device_queue) o)
            (set_other s.starts d e after (λ same. apart.1 same)),
      )
      | inl here ↦ inl (
        here.0,
        refl,
        ap (λ (o : Option StartState). option_map (λ start. start.device_queue) o)
            (subst (λ (x : ℕ). slice_get s.starts x ≡ Some before) here.1 there),
        ap (λ (o : Option StartState). option_map (λ start. start.device_queue) o)
            (subst (λ (x : ℕ). slice_get (slice_set s.starts d after) x ≡ Some after) here.1
            (set_same s.starts d before after there)),
      )
    ]

pub puts_queue : (s to : Shared) (d q : ℕ) (before after : List ℕ) → queue_of s d q ≡ Some before
    → to.queues ≡ (with_queue s d q after).queues → to.starts ≡ s.starts
    → Puts s to d (Declared q) before after
puts_queue s to d q before after there queues starts e (Declared p) =
    rw queues (put_queue s d q before after there e (Declared p))
puts_queue s to d q before after there queues starts e DeviceQueue =
    rw starts (put_queue s d q before after there e DeviceQueue)

pub puts_waiting : (s to : Shared) (d : ℕ) (before after : StartState)
    → start_of s d ≡ Some before → to.queues ≡ s.queues
    → to.starts ≡ (with_start s d after).starts
    → Puts s to d DeviceQueue before.device_queue after.device_queue
puts_waiting s to d before after there queues starts e (Declared p) =
    rw queues (put_waiting s d before after there e (Declared p))
puts_waiting s to d before after there queues starts e DeviceQueue =
    rw starts (put_waiting s d before after there e DeviceQueue)

-- what a device has for StartIo changes, and a device queue with a cancel routine gains none
pub waiting_less : (set : Set) (s : Shared) (d driver : ℕ) (before after : StartState)
    → start_of s d ≡ Some before
    → waits_cancelable set d ≡ has_cancel set driver DeviceQueue
    → (has_cancel set driver DeviceQueue ≡ true → (n : ℕ)
    → times_in after.device_queue n ≤ times_in before.device_queue n)
    → (e n : ℕ) → is_cancelable set e DeviceQueue ≡ true
    → times_of (list_of (with_start s d after) e DeviceQueue) n
    ≤ times_of (list_of s e DeviceQueue) n
waiting_less set s d driver before after there its less e n may =
    elim (put_waiting s d before after there e DeviceQueue) [
      | inl here ↦
          let is : is_cancelable set d DeviceQueue ≡ true =
          subst (λ (x : ℕ). is_cancelable set x DeviceQueue ≡ true)
          (sym (eqb-true d e here.0)) may in
          rw (here.2, here.3) (less (sym its ∙ is) n)
      | inr other ↦
          let same : times_of (list_of (with_start s d after) e DeviceQueue) n
          ≡ times_of (list_of s e DeviceQueue) n =
          ap (λ (o : Option (List ℕ)). times_of o n) other.1 in
          omega arith
    ]

module _ (s to : Shared) (d : ℕ) (q : QueueName) (m : ℕ) (before after : List ℕ)
    (put : Puts s to d q before after) where
  abbrev now : ℕ → QueueName → ℕ → ℕ
  now e p n = times_of (list_of to e p) n

  abbrev was : ℕ → QueueName → ℕ → ℕ
  was e p n = times_of (list_of s e p) n

  pub entries_more : ((n : ℕ) → times_in after n ≡ times_in before n
      + (if nat_eq m n then 1 else 0))
      → (e : ℕ) (p : QueueName) (n : ℕ) → now e p n ≡ was e p n + hit d q m e p n
  entries_more more e p n =
      elim (put e p) [
        | inl its ↦ rw (its.0, its.1, its.2, its.3) (more n)
        | inr other ↦
            let same : now e p n ≡ was e p n =
            ap (λ (o : Option (List ℕ)). times_of o n) other.1 in
            omega (arith, other.0 m n)
      ]

  pub entries_fewer : ((n : ℕ) → times_in after n + (if nat_eq m n then 1 else 0)
      ≡ times_in before n)
      → (e : ℕ) (p : QueueName) (n : ℕ) → now e p n + hit d q m e p n ≡ was e p n
  entries_fewer fewer e p n =
      elim (put e p) [
        | inl its ↦ rw (its.0, its.1, its.2, its.3) (fewer n)
        | inr other ↦
            let same : now e p n ≡ was e p n =
            ap (λ (o : Option (List ℕ)). times_of o n) other.1 in
            omega (arith, other.0 m n)
      ]

  pub entries_same : ((n : ℕ) → times_in after n ≡ times_in before n)
      → (e : ℕ) (p : QueueName) (n : ℕ) → now e p n ≡ was e p n
  entries_same same e p n =
      elim (put e p) [
        | inl its ↦ rw (its.2, its.3) (same n)
        | inr other ↦ ap (λ (o : Option (List ℕ)). times_of o n) other.1
      ]

  pub entries_less : ((n : ℕ) → times_in after n ≤ times_in before n)
      → (e : ℕ) (p : QueueName) (n : ℕ) → now e p n ≤ was e p n
  entries_less less e p n =
      elim (put e p) [
        | inl its ↦ rw (its.2, its.3) (less n)
        | inr other ↦
            let same : now e p n ≡ was e p n =
            ap (λ (o : Option (List ℕ)). times_of o n) other.1 in
            omega arith
      ]

  pub entries_others : ((n : ℕ) → nat_eq m n ≡ false → times_in after n ≡ times_in before n)
      → (e : ℕ) (p : QueueName) (n : ℕ) → hit d q m e p n ≡ 0 → now e p n ≡ was e p n
  entries_others others e p n none =
      elim (put e p) [
        | inl its ↦
            let missed : (if nat_eq m n then 1 else 0) ≡ zero = rw (its.0, its.1) at none in
            rw (its.2, its.3) (elim (cases_Bool (nat_eq m n)) [
              | inl same ↦ let no : 1 ≡ zero = rw same at missed in absurd (omega arith)
              | inr apart ↦ others n apart
            ])
        | inr other ↦ ap (λ (o : Option (List ℕ)). times_of o n) other.1
      ]

-- a packet that is unlinked
pub unlinked_fewer : (entries : List ℕ) (m n : ℕ) → 1 ≤ times_in entries m
    → times_in (unlinked entries m) n + (if nat_eq m n then 1 else 0) ≡ times_in entries n
unlinked_fewer [] m n some = absurd (omega arith)
unlinked_fewer (k ∷ entries) m n some =
    elim (eqb_tells k m) [
      | inl same ↦ rw (same.0, same.1) (omega arith)
      | inr apart ↦
          let more : 1 ≤ 0 + times_in entries m = rw apart.0 at some in
          let later : 1 ≤ times_in entries m = omega arith in
          rw apart.0 (omega (arith, unlinked_fewer entries m n later))
    ]

pub unlinked_none : (entries : List ℕ) (m : ℕ) → times_in entries m ≡ 0
    → unlinked entries m ≡ entries
unlinked_none [] m none = refl
unlinked_none (k ∷ entries) m none =
    elim (eqb_tells k m) [
      | inl same ↦
          let no : 1 + times_in entries m ≡ 0 = rw same.0 at none in
          absurd (omega arith)
      | inr apart ↦
          let more : 0 + times_in entries m ≡ 0 = rw apart.0 at none in
          let later : times_in entries m ≡ 0 = omega arith in
          rw apart.0 (ap (λ (xs : List ℕ). k ∷ xs) (unlinked_none entries m later))
    ]

pub unlinked_other : (entries : List ℕ) (m n : ℕ) → nat_eq m n ≡ false
    → times_in (unlinked entries m) n ≡ times_in entries n
unlinked_other [] m n other = refl
unlinked_other (k ∷ entries) m n other =
    elim (eqb_tells k m) [
      | inl same ↦ rw (same.0, same.1, other) (omega arith)
      | inr apart ↦
          rw apart.0 (omega (arith, unlinked_other entries m n other))
    ]

pub unlinked_times : (entries : List ℕ) (m n : ℕ)
    → times_in (unlinked entries m) n ≤ times_in entries n
unlinked_times [] m n = omega arith
unlinked_times (k ∷ entries) m n =
    elim (eqb_tells k m) [
      | inl same ↦ rw same.0 (omega arith)
      | inr apart ↦ rw apart.0 (omega (arith, unlinked_times entries m n))
    ]

-- one that stood there at most once stands there no more
unlinked_gone : (entries : List ℕ) (m : ℕ) → times_in entries m ≤ 1
    → times_in (unlinked entries m) m ≡ 0
unlinked_gone [] m few = refl
unlinked_gone (k ∷ entries) m few =
    elim (eqb_tells k m) [
      | inl same ↦
          let one : 1 + times_in entries m ≤ 1 = rw same.0 at few in
          rw same.0 (omega arith)
      | inr apart ↦
          let later : 0 + times_in entries m ≤ 1 = rw apart.0 at few in
          let none : times_in (unlinked entries m) m ≡ 0 = unlinked_gone entries m (omega arith) in
          rw (apart.0, apart.0) (omega arith)
    ]

pub unlinked_out : (s to : Shared) (d : ℕ) (q : QueueName) (m : ℕ) (entries : List ℕ)
    → Puts s to d q entries (unlinked entries m) → times_in entries m ≤ 1
    → times_of (list_of to d q) m ≡ 0
unlinked_out s to d q m entries put few =
    elim (put d q) [
      | inl its ↦ rw its.3 (unlinked_gone entries m few)
      | inr other ↦
          let no : hit d q m d q m ≡ 0 = other.0 m m in
          let one : 1 ≡ zero = rw (eq-eqb d d refl, name_same q, eq-eqb m m refl) at no in
          absurd (omega arith)
    ]

-- what devices have for StartIo holds what stands in their lists
waiting_zero : (b : Bool) (start : StartState) (n : ℕ) → times_at b start n ≡ 0
    → (b ≡ true → times_in start.device_queue n ≡ 0)
    → times_in start.start_list n + times_in start.device_queue n ≡ 0
waiting_zero true start n none empty =
    omega (arith, empty refl)
waiting_zero false start n none empty = omega arith

starts_zero : (set : Set) (d : ℕ) (starts : List StartState) (n : ℕ)
    → times_started set d starts n ≡ 0
    → ((i : ℕ) (start : StartState) → slice_get starts i ≡ Some start
    → waits_cancelable set (d + i) ≡ true → times_in start.device_queue n ≡ 0)
    → times_to_start starts n ≡ 0
starts_zero set d [] n none empty = refl
starts_zero set d (start ∷ starts) n none empty =
    let place : d + zero ≡ d = omega arith in
    let first : times_in start.start_list n + times_in start.device_queue n ≡ 0 =
    waiting_zero (waits_cancelable set d) start n (omega arith)
    (λ is. empty zero start refl
    (subst (λ (x : ℕ). waits_cancelable set x ≡ true) (sym place) is)) in
    let others : times_to_start starts n ≡ 0 =
    starts_zero set (d + 1) starts n (omega arith)
    (λ i start there is.
    let next : d + 1 + i ≡ d + suc i = omega arith in
    empty (suc i) start there (subst (λ (x : ℕ). waits_cancelable set x ≡ true) next is)) in
    omega arith

pub to_start_zero : (set : Set) (s : Shared) (n : ℕ) → times_started set 0 s.starts n ≡ 0
    → ((d : ℕ) → is_cancelable set d DeviceQueue ≡ true
    → times_of (list_of s d DeviceQueue) n ≡ 0)
    → times_to_start s.starts n ≡ 0
to_start_zero set s n none empty =
    starts_zero set 0 s.starts n none
    (λ i start there is.
    let place : 0 + i ≡ i = omega arith in
    let its : list_of s i DeviceQueue ≡ Some start.device_queue = rw there refl in
    let zero_times : times_of (list_of s i DeviceQueue) n ≡ 0 =
    empty i (subst (λ (x : ℕ). waits_cancelable set x ≡ true) place is) in
    sym (ap (λ (o : Option (List ℕ)). times_of o n) its) ∙ zero_times)

-- a packet that stands in no queue without a cancel routine, and in none that has one
on_zero : (set : Set) (driver q : ℕ) (lists : List (List ℕ)) (n : ℕ)
    → times_plain_on set driver q lists n ≡ 0
    → ((i : ℕ) (entries : List ℕ) → slice_get lists i ≡ Some entries
    → is_some (cancel_routine_of set driver (q + i)) ≡ true → times_in entries n ≡ 0)
    → times_on lists n ≡ 0
on_zero set driver q [] n plain none = refl
on_zero set driver q (entries ∷ lists) n plain none =
    let place : q + zero ≡ q = omega arith in
    let others : times_on lists n ≡ 0 =
    on_zero set driver (q + 1) lists n (omega arith)
    (λ i found there has.
    let next : q + 1 + i ≡ q + suc i = omega arith in
    none (suc i) found there (subst (λ (x : ℕ). is_some (cancel_routine_of set driver x) ≡ true)
    next has)) in
    let first : times_in entries n ≡ 0 =
    elim (cases_Bool (is_some (cancel_routine_of set driver q))) [
      | inl has ↦
          none zero entries refl
          (subst (λ (x : ℕ). is_some (cancel_routine_of set driver x) ≡ true) (sym place) has)
      | inr hasnt ↦
          let sum : times_in entries n + times_plain_on set driver (q + 1) lists n ≡ 0 =
          rw hasnt at plain in
          omega arith
    ] in
    omega arith

queues_zero : (set : Set) (d : ℕ) (queues : List (List (List ℕ))) (n : ℕ)
    → times_plain set d queues n ≡ 0
    → ((i q : ℕ) (lists : List (List ℕ)) (entries : List ℕ) → slice_get queues i ≡ Some lists
    → slice_get lists q ≡ Some entries
    → is_cancelable set (d + i) (Declared q) ≡ true → times_in entries n ≡ 0)
    → times_queued queues n ≡ 0
queues_zero set d [] n plain none = refl
queues_zero set d (lists ∷ queues) n plain none =
    let place : d + zero ≡ d = omega arith in
    let first : times_on lists n ≡ 0 =
    on_zero set (routine_of_device (slice_get set.devices d)) 0 lists n (omega arith)
    (λ q entries there has.
    let its : 0 + q ≡ q = omega arith in
    none zero q lists entries refl there
    (subst (λ (x : ℕ). is_cancelable set x (Declared q) ≡ true) (sym place)
    (subst (λ (x : ℕ). is_cancelable set d (Declared x) ≡ true) its has))) in
    let others : times_queued queues n ≡ 0 =
    queues_zero set (d + 1) queues n (omega arith)
    (λ i q found entries there its has.
    let next : d + 1 + i ≡ d + suc i = omega arith in
    none (suc i) q found entries there its
    (subst (λ (x : ℕ). is_cancelable set x (Declared q) ≡ true) next has)) in
    omega arith

pub queued_zero : (set : Set) (s : Shared) (n : ℕ) → times_plain set 0 s.queues n ≡ 0
    → ((d q : ℕ) → is_cancelable set d (Declared q) ≡ true → times_of (queue_of s d q) n ≡ 0)
    → times_queued s.queues n ≡ 0
queued_zero set s n plain none =
    queues_zero set 0 s.queues n plain
    (λ i q lists entries there its has.
    let place : 0 + i ≡ i = omega arith in
    let found : queue_of s i q ≡ Some entries = rw there its in
    let zero_times : times_of (queue_of s i q) n ≡ 0 =
    none i q (subst (λ (x : ℕ). is_cancelable set x (Declared q) ≡ true) place has) in
    sym (ap (λ (o : Option (List ℕ)). times_of o n) found) ∙ zero_times)
