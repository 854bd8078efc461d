-- How often packets stand in queues without a cancel routine, after a queue of a device is changed.
use Rattle.laws_runs.proofs.Common.{arith, refl, zero, get_or_from_slice_get, List, None, Some, [], if◌then◌else◌, is_some, replicate, slice_get, slice_index_or, slice_set, suc, ℕ, ◌+◌, ◌∷◌, ◌≡◌, ◌≤◌, routine_of_device, Set, cancel_routine_of, Shared, queue_of, with_queue, MAX_QUEUES, times_in, times_plain, times_plain_on, queue_row, if_none}

-- how often a packet stands in a queue, where this has no cancel routine
abbrev pub plain_in : Set → ℕ → ℕ → List ℕ → ℕ → ℕ
plain_in set driver q entries n =
    if is_some (cancel_routine_of set driver q) then 0 else times_in entries n

abbrev pub driver_at : Set → ℕ → ℕ
driver_at set d = routine_of_device (slice_get set.devices d)

module _ (set : Set) (n : ℕ) where
  plain_on_put : (driver base : ℕ) (lists : List (List ℕ)) (q k : ℕ) (before after : List ℕ)
      → k ≡ base + q → slice_get lists q ≡ Some before
      → times_plain_on set driver base (slice_set lists q after) n + plain_in set driver k before n
      ≡ times_plain_on set driver base lists n + plain_in set driver k after n
  plain_on_put driver base [] q k before after at there = cc
  plain_on_put driver base (entries ∷ lists) zero k before after at there =
      let same : entries ≡ before = cc in
      let first : k ≡ base = omega arith in
      rw (same, first) (omega arith)
  plain_on_put driver base (entries ∷ lists) (suc q) k before after at there =
      let others : times_plain_on set driver (base + 1) (slice_set lists q after) n
      + plain_in set driver k before n
      ≡ times_plain_on set driver (base + 1) lists n + plain_in set driver k after n =
      plain_on_put driver (base + 1) lists q k before after (omega arith) there in
      omega arith

  plain_at_put : (base : ℕ) (queues : List (List (List ℕ))) (d k q : ℕ) (row : List (List ℕ))
      (before after : List ℕ)
      → k ≡ base + d → slice_get queues d ≡ Some row → slice_get row q ≡ Some before
      → times_plain set base (slice_set queues d (slice_set row q after)) n
      + plain_in set (driver_at set k) q before n
      ≡ times_plain set base queues n + plain_in set (driver_at set k) q after n
  plain_at_put base [] d k q row before after at there here = cc
  plain_at_put base (lists ∷ queues) zero k q row before after at there here =
      let same : lists ≡ row = cc in
      let first : k ≡ base = omega arith in
      let one : times_plain_on set (driver_at set base) 0 (slice_set row q after) n
      + plain_in set (driver_at set base) q before n
      ≡ times_plain_on set (driver_at set base) 0 row n
      + plain_in set (driver_at set base) q after n =
      plain_on_put (driver_at set base) 0 row q q before after (omega arith) here in
      rw (same, first) (omega arith)
  plain_at_put base (lists ∷ queues) (suc d) k q row before after at there here =
      let others : times_plain set (base + 1) (slice_set queues d (slice_set row q after)) n
      + plain_in set (driver_at set k) q before n
      ≡ times_plain set (base + 1) queues n + plain_in set (driver_at set k) q after n =
      plain_at_put (base + 1) queues d k q row before after (omega arith) there here in
      omega arith

  pub plain_put : (s : Shared) (d q : ℕ) (before after : List ℕ) → queue_of s d q ≡ Some before
      → times_plain set 0 (with_queue s d q after).queues n
      + plain_in set (driver_at set d) q before n
      ≡ times_plain set 0 s.queues n + plain_in set (driver_at set d) q after n
  plain_put s d q before after there =
      let row : (lists : List (List ℕ)) × (slice_get s.queues d ≡ Some lists)
      × (slice_get lists q ≡ Some before) = queue_row s d q before there in
      let same : slice_index_or s.queues d [] ≡ row.0 =
      get_or_from_slice_get s.queues d row.0 [] row.1 in
      let put : times_plain set 0 (slice_set s.queues d (slice_set row.0 q after)) n
      + plain_in set (driver_at set d) q before n
      ≡ times_plain set 0 s.queues n + plain_in set (driver_at set d) q after n =
      plain_at_put 0 s.queues d d q row.0 before after (omega arith) row.1 row.2 in
      rw same put

  -- a queue is one of all
  plain_on_le : (driver base : ℕ) (lists : List (List ℕ)) (q k : ℕ) (entries : List ℕ)
      → k ≡ base + q → slice_get lists q ≡ Some entries
      → plain_in set driver k entries n ≤ times_plain_on set driver base lists n
  plain_on_le driver base [] q k entries at there = cc
  plain_on_le driver base (other ∷ lists) zero k entries at there =
      let same : other ≡ entries = cc in
      let first : k ≡ base = omega arith in
      rw (same, first) (omega arith)
  plain_on_le driver base (other ∷ lists) (suc q) k entries at there =
      let le : plain_in set driver k entries n ≤ times_plain_on set driver (base + 1) lists n =
      plain_on_le driver (base + 1) lists q k entries (omega arith) there in
      omega arith

  plain_at_le : (base : ℕ) (queues : List (List (List ℕ))) (d k q : ℕ) (row : List (List ℕ))
      (entries : List ℕ)
      → k ≡ base + d → slice_get queues d ≡ Some row → slice_get row q ≡ Some entries
      → plain_in set (driver_at set k) q entries n ≤ times_plain set base queues n
  plain_at_le base [] d k q row entries at there here = cc
  plain_at_le base (lists ∷ queues) zero k q row entries at there here =
      let same : lists ≡ row = cc in
      let first : k ≡ base = omega arith in
      let one : plain_in set (driver_at set base) q entries n
      ≤ times_plain_on set (driver_at set base) 0 row n =
      plain_on_le (driver_at set base) 0 row q q entries (omega arith) here in
      rw (same, first) (omega arith)
  plain_at_le base (lists ∷ queues) (suc d) k q row entries at there here =
      let le : plain_in set (driver_at set k) q entries n ≤ times_plain set (base + 1) queues n =
      plain_at_le (base + 1) queues d k q row entries (omega arith) there here in
      omega arith

  pub plain_le : (s : Shared) (d q : ℕ) (entries : List ℕ) → queue_of s d q ≡ Some entries
      → plain_in set (driver_at set d) q entries n ≤ times_plain set 0 s.queues n
  plain_le s d q entries there =
      let row : (lists : List (List ℕ)) × (slice_get s.queues d ≡ Some lists)
      × (slice_get lists q ≡ Some entries) = queue_row s d q entries there in
      plain_at_le 0 s.queues d d q row.0 entries (omega arith) row.1 row.2

  -- a queue without a cancel routine counts, and one with a cancel routine doesn't
  pub plain_counts : (driver q : ℕ) (entries : List ℕ) → cancel_routine_of set driver q ≡ None
      → plain_in set driver q entries n ≡ times_in entries n
  plain_counts driver q entries none = rw none refl

  pub plain_skips : (driver q cancel : ℕ) (entries : List ℕ)
      → cancel_routine_of set driver q ≡ Some cancel → plain_in set driver q entries n ≡ 0
  plain_skips driver q cancel entries is = rw is refl

  -- before the first event
  none_plain_on : (driver base count : ℕ)
      → times_plain_on set driver base (replicate count []) n ≡ 0
  none_plain_on driver base zero = refl
  none_plain_on driver base (suc count) =
      omega (
        arith,
        none_plain_on driver (base + 1) count,
        if_none (is_some (cancel_routine_of set driver base)),
      )

  pub none_plain : (base devices : ℕ)
      → times_plain set base (replicate devices (replicate MAX_QUEUES [])) n ≡ 0
  none_plain base zero = refl
  none_plain base (suc devices) =
      omega (arith, none_plain_on (driver_at set base) 0 MAX_QUEUES, none_plain (base + 1) devices)
