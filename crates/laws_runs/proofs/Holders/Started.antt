-- How often packets stand in what devices have for StartIo: in the start lists, the device queues
-- and the current slots, after one of them is changed.
use Rattle.laws_runs.proofs.Common.{ap, arith, cond, inl, inr, refl, sym, zero, ◌∙◌, cases_eq, cond_both, Bool, List, None, Option, Some, [], false, if◌then◌else◌, nat_eq, replicate, slice_get, slice_set, suc, true, ℕ, ◌&&◌, ◌+◌, ◌∷◌, ◌≡◌, ◌≤◌, ◌⊎◌, StartState, dequeued, head_of, idle, inserted, next_of, next_started, started, with_slot, without_first_to_start, Set, has_cancel, Shared, start_of, with_start, DeviceQueue, times_at, times_in, times_in_slot, times_started, waits_cancelable, set_other, set_same}
use Rattle.laws_runs.proofs.Holders.Queued.{times_pushed}

-- one device's state in place of another, and it is one of all
module _ (set : Set) (n : ℕ) where
  started_at_put : (base : ℕ) (starts : List StartState) (d k : ℕ) (before after : StartState)
      → k ≡ base + d → slice_get starts d ≡ Some before
      → times_started set base (slice_set starts d after) n
      + times_at (waits_cancelable set k) before n
      ≡ times_started set base starts n + times_at (waits_cancelable set k) after n
  started_at_put base [] d k before after at there = cc
  started_at_put base (start ∷ starts) zero k before after at there =
      let same : start ≡ before = cc in
      let first : k ≡ base = omega arith in
      rw (same, first) (omega arith)
  started_at_put base (start ∷ starts) (suc d) k before after at there =
      let others : times_started set (base + 1) (slice_set starts d after) n
      + times_at (waits_cancelable set k) before n
      ≡ times_started set (base + 1) starts n + times_at (waits_cancelable set k) after n =
      started_at_put (base + 1) starts d k before after (omega arith) there in
      omega arith

  started_at_le : (base : ℕ) (starts : List StartState) (d k : ℕ) (start : StartState)
      → k ≡ base + d → slice_get starts d ≡ Some start
      → times_at (waits_cancelable set k) start n ≤ times_started set base starts n
  started_at_le base [] d k start at there = cc
  started_at_le base (other ∷ starts) zero k start at there =
      let same : other ≡ start = cc in
      let first : k ≡ base = omega arith in
      rw (same, first) (omega arith)
  started_at_le base (other ∷ starts) (suc d) k start at there =
      let le : times_at (waits_cancelable set k) start n ≤ times_started set (base + 1) starts n =
      started_at_le (base + 1) starts d k start (omega arith) there in
      omega arith

pub started_put : (set : Set) (starts : List StartState) (d : ℕ) (before after : StartState)
    (n : ℕ)
    → slice_get starts d ≡ Some before
    → times_started set 0 (slice_set starts d after) n + times_at (waits_cancelable set d) before n
    ≡ times_started set 0 starts n + times_at (waits_cancelable set d) after n
started_put set starts d before after n there =
    started_at_put set n 0 starts d d before after (omega arith) there

pub started_le : (set : Set) (starts : List StartState) (d : ℕ) (start : StartState) (n : ℕ)
    → slice_get starts d ≡ Some start
    → times_at (waits_cancelable set d) start n ≤ times_started set 0 starts n
started_le set starts d start n there =
    started_at_le set n 0 starts d d start (omega arith) there

-- after one is changed: that one, or one as it was
pub start_after : (s : Shared) (d : ℕ) (before after : StartState) (e : ℕ) (start : StartState)
    → start_of s d ≡ Some before → start_of (with_start s d after) e ≡ Some start
    → ((d ≡ e) × (start ≡ after)) ⊎ (start_of s e ≡ Some start)
start_after s d before after e start there h =
    elim (cases_eq d e) [
      | inl here ↦
          let put : slice_get (slice_set s.starts d after) e ≡ Some after =
          rw (← here) (set_same s.starts d before after there) in
          let both : Some start ≡ Some after = sym h ∙ put in
          let equal : start ≡ after = cc in
          inl (here, equal)
      | inr apart ↦ inr (sym (set_other s.starts d e after apart) ∙ h)
    ]

-- before the first event
nothing_at : (b : Bool) → cond {A = ℕ} b 0 0 ≡ 0
nothing_at true = refl
nothing_at false = refl

none_started_from : (set : Set) (base devices n : ℕ)
    → times_started set base (replicate devices idle) n ≡ 0
none_started_from set base zero n = refl
none_started_from set base (suc devices) n =
    omega (
      arith,
      none_started_from set (base + 1) devices n,
      nothing_at (waits_cancelable set base),
    )

pub none_started : (set : Set) (devices n : ℕ)
    → times_started set 0 (replicate devices idle) n ≡ 0
none_started set devices n = none_started_from set 0 devices n

-- in the lists of a device, and not in its current slot
abbrev pub waits_in : StartState → ℕ → ℕ
waits_in start n = times_in start.start_list n + times_in start.device_queue n

-- a packet is started: it stands in the start list, or in the device queue of a busy device
pub waits_given : (start : StartState) (m n : ℕ)
    → waits_in (started start m) n ≡ waits_in start n + (if nat_eq m n then 1 else 0)
waits_given start m n =
    cond_both start.busy (record start { device_queue = inserted start.device_queue m })
    (record start { start_list = inserted start.start_list m; busy = true })
    (λ (x : StartState). waits_in x n ≡ waits_in start n + (if nat_eq m n then 1 else 0))
    (λ busy.
    omega (arith, times_pushed start.device_queue m n))
    (λ free.
    omega (arith, times_pushed start.start_list m n))

given_slot : (start : StartState) (m n : ℕ)
    → times_in_slot (started start m).slot n ≡ times_in_slot start.slot n
given_slot start m n =
    ap (λ (o : Option ℕ). times_in_slot o n)
    (cond_both start.busy _ _ (λ (x : StartState). x.slot ≡ start.slot) (λ busy. refl)
    (λ free. refl))

-- it is held there, but in a device queue whose packets have a cancel routine
given_at : (b : Bool) (start : StartState) (m n : ℕ) → (b && start.busy) ≡ false
    → times_at b (started start m) n ≡ times_at b start n + (if nat_eq m n then 1 else 0)
given_at false start m n may =
    omega (arith, waits_given start m n, given_slot start m n)
given_at true start m n idle =
    let free : start.busy ≡ false = idle in
    rw free (omega (arith, times_pushed start.start_list m n))

pub times_given : (set : Set) (d driver : ℕ) (start : StartState) (m n : ℕ)
    → waits_cancelable set d ≡ has_cancel set driver DeviceQueue
    → (has_cancel set driver DeviceQueue && start.busy) ≡ false
    → times_at (waits_cancelable set d) (started start m) n
    ≡ times_at (waits_cancelable set d) start n + (if nat_eq m n then 1 else 0)
times_given set d driver start m n its may =
    given_at (waits_cancelable set d) start m n (rw its may)

-- in such a device queue it is held by its cancel word
pub times_waited : (start : StartState) (m n : ℕ) → start.busy ≡ true
    → times_at true (started start m) n ≡ times_at true start n
times_waited start m n busy = rw busy refl

-- the next one goes from the device queue to the start list
next_waits : (start : StartState) (waiting : List ℕ) (n : ℕ) → start.device_queue ≡ waiting
    → waits_in (next_of start waiting) n ≡ waits_in start n
next_waits start [] n is = refl
next_waits start (m ∷ waiting) n is =
    let first : times_in start.device_queue n
    ≡ (if nat_eq m n then 1 else 0) + times_in waiting n =
    ap (λ (entries : List ℕ). times_in entries n) is in
    omega (arith, times_pushed start.start_list m n)

pub waits_next : (start : StartState) (n : ℕ) → waits_in (next_started start) n ≡ waits_in start n
waits_next start n = next_waits start start.device_queue n refl

next_slot : (start : StartState) (waiting : List ℕ) → (next_of start waiting).slot ≡ start.slot
next_slot start [] = refl
next_slot start (m ∷ waiting) = refl

slot_next : (start : StartState) (n : ℕ)
    → times_in_slot (next_started start).slot n ≡ times_in_slot start.slot n
slot_next start n =
    ap (λ (o : Option ℕ). times_in_slot o n) (next_slot start start.device_queue)

next_none : (start : StartState) (waiting : List ℕ) → head_of waiting ≡ None
    → (next_of start waiting).start_list ≡ start.start_list
next_none start [] h = refl
next_none start (m ∷ waiting) h = cc

next_at : (b : Bool) (start : StartState) (n : ℕ)
    → (if b then head_of start.device_queue else None) ≡ None
    → times_at b (next_started start) n ≡ times_at b start n
next_at false start n may =
    omega (arith, waits_next start n, slot_next start n)
next_at true start n may =
    let same : times_in (next_started start).start_list n ≡ times_in start.start_list n =
    ap (λ (xs : List ℕ). times_in xs n) (next_none start start.device_queue may) in
    omega (arith, slot_next start n)

pub times_next : (set : Set) (d driver : ℕ) (start : StartState) (n : ℕ)
    → waits_cancelable set d ≡ has_cancel set driver DeviceQueue
    → (if has_cancel set driver DeviceQueue then head_of start.device_queue else None) ≡ None
    → times_at (waits_cancelable set d) (next_started start) n
    ≡ times_at (waits_cancelable set d) start n
times_next set d driver start n its may =
    next_at (waits_cancelable set d) start n (rw its may)

-- one that was held by its cancel word is held in the start list
next_list : (start : StartState) (waiting : List ℕ) (m n : ℕ) → head_of waiting ≡ Some m
    → times_in (next_of start waiting).start_list n
    ≡ times_in start.start_list n + (if nat_eq m n then 1 else 0)
next_list start [] m n h = cc
next_list start (k ∷ waiting) m n h =
    let same : k ≡ m = cc in
    rw same (times_pushed start.start_list m n)

pub times_disarmed : (start : StartState) (m n : ℕ) → head_of start.device_queue ≡ Some m
    → times_at true (next_started start) n
    ≡ times_at true start n + (if nat_eq m n then 1 else 0)
times_disarmed start m n first =
    omega (arith, next_list start start.device_queue m n first, slot_next start n)

-- one is taken off a device queue: where it has a cancel routine nothing else is held, and where it
-- has none perhaps less
pub times_dequeued : (start : StartState) (m n : ℕ)
    → times_at true (dequeued start m) n ≡ times_at true start n
times_dequeued start m n = refl

-- another packet in the current slot, or none
pub times_slot : (b : Bool) (start : StartState) (slot : Option ℕ) (n : ℕ)
    → times_at b (with_slot start slot) n + times_in_slot start.slot n
    ≡ times_at b start n + times_in_slot slot n
times_slot b start slot n = omega arith

-- StartIo begins for the first packet of the start list
first_times : (b : Bool) (start : StartState) (entries : List ℕ) (m n : ℕ)
    → start.start_list ≡ entries → head_of entries ≡ Some m
    → times_at b (without_first_to_start start) n + (if nat_eq m n then 1 else 0)
    ≡ times_at b start n
first_times b start [] m n is first = cc
first_times b start (k ∷ entries) m n is first =
    let same : k ≡ m = cc in
    let all : times_in start.start_list n ≡ (if nat_eq m n then 1 else 0) + times_in entries n =
    rw (is, same) refl in
    let others : times_in (without_first_to_start start).start_list n ≡ times_in entries n =
    rw is refl in
    omega arith

pub times_first : (b : Bool) (start : StartState) (m n : ℕ) → head_of start.start_list ≡ Some m
    → times_at b (without_first_to_start start) n + (if nat_eq m n then 1 else 0)
    ≡ times_at b start n
times_first b start m n first = first_times b start start.start_list m n refl first
