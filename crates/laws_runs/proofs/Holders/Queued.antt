-- How often packets stand in queues: after a packet is put into one or taken off one, and that no
-- queue of different live packets is longer than there are live packets.
use Rattle.laws_runs.proofs.Common.{ap, arith, inl, inr, refl, sym, zero, ◌∙◌, cases_eq, eq-eqb, eqb_tells, get_or_from_slice_get, List, Option, Some, [], if◌then◌else◌, length, nat_eq, option_and_then, replicate, slice_get, slice_index_or, slice_set, suc, true, ℕ, ◌++◌, ◌+◌, ◌∷◌, ◌≡◌, ◌≤◌, ◌⊎◌, Shared, queue_of, with_queue, MAX_QUEUES, Packet, times_in, times_on, times_queued, set_other, set_same, sum_le, sum_put, queue_row}
use Rattle.laws_runs.proofs.Past.LivePackets.{find}

pub times_pushed : (entries : List ℕ) (m n : ℕ)
    → times_in (entries ++ m ∷ []) n ≡ times_in entries n + (if nat_eq m n then 1 else 0)
times_pushed [] m n = omega arith
times_pushed (k ∷ entries) m n =
    omega (arith, times_pushed entries m n)

pub times_put : (s : Shared) (d q : ℕ) (before after : List ℕ) (n : ℕ)
    → queue_of s d q ≡ Some before
    → times_queued (with_queue s d q after).queues n + times_in before n
    ≡ times_queued s.queues n + times_in after n
times_put s d q before after n there =
    let row : (lists : List (List ℕ)) × (slice_get s.queues d ≡ Some lists)
    × (slice_get lists q ≡ Some before) = queue_row s d q before there in
    let same : slice_index_or s.queues d [] ≡ row.0 =
    get_or_from_slice_get s.queues d row.0 [] row.1 in
    let one : times_on (slice_set row.0 q after) n + times_in before n
    ≡ times_on row.0 n + times_in after n =
    sum_put (λ entries. times_in entries n) (λ lists. times_on lists n) (λ x xs. refl) row.0 q
    before after row.2 in
    let all : times_queued (slice_set s.queues d (slice_set row.0 q after)) n + times_on row.0 n
    ≡ times_queued s.queues n + times_on (slice_set row.0 q after) n =
    sum_put (λ lists. times_on lists n) (λ queues. times_queued queues n) (λ x xs. refl) s.queues d
    row.0 (slice_set row.0 q after) row.1 in
    rw same (omega arith)

-- a queue is one of all
pub times_le : (s : Shared) (d q : ℕ) (entries : List ℕ) (n : ℕ) → queue_of s d q ≡ Some entries
    → times_in entries n ≤ times_queued s.queues n
times_le s d q entries n there =
    let row : (lists : List (List ℕ)) × (slice_get s.queues d ≡ Some lists)
    × (slice_get lists q ≡ Some entries) = queue_row s d q entries there in
    let one : times_in entries n ≤ times_on row.0 n =
    sum_le (λ entries. times_in entries n) (λ lists. times_on lists n) (λ x xs. refl) row.0 q
    entries row.2 in
    let all : times_on row.0 n ≤ times_queued s.queues n =
    sum_le (λ lists. times_on lists n) (λ queues. times_queued queues n) (λ x xs. refl) s.queues d
    row.0 row.1 in
    omega arith

-- a queue after one is changed: that one, or one as it was
pub queue_after : (s : Shared) (d q : ℕ) (before after : List ℕ) (e k : ℕ) (entries : List ℕ)
    → queue_of s d q ≡ Some before → queue_of (with_queue s d q after) e k ≡ Some entries
    → ((d ≡ e) × (q ≡ k) × (entries ≡ after)) ⊎ (queue_of s e k ≡ Some entries)
queue_after s d q before after e k entries there h =
    let row : (lists : List (List ℕ)) × (slice_get s.queues d ≡ Some lists)
    × (slice_get lists q ≡ Some before) = queue_row s d q before there in
    let same : slice_index_or s.queues d [] ≡ row.0 =
    get_or_from_slice_get s.queues d row.0 [] row.1 in
    let now : option_and_then (λ lists. slice_get lists k)
    (slice_get (slice_set s.queues d (slice_set row.0 q after)) e) ≡ Some entries = rw same at h in
    elim (cases_eq d e) [
      | inl here ↦
          let put : slice_get (slice_set s.queues d (slice_set row.0 q after)) e
          ≡ Some (slice_set row.0 q after) =
          rw (← here) (set_same s.queues d row.0 (slice_set row.0 q after) row.1) in
          let one : slice_get (slice_set row.0 q after) k ≡ Some entries = rw put at now in
          elim (cases_eq q k) [
            | inl its ↦
                let last : slice_get (slice_set row.0 q after) k ≡ Some after =
                rw (← its) (set_same row.0 q before after row.2) in
                let both : Some entries ≡ Some after = sym one ∙ last in
                let equal : entries ≡ after = cc in
                inl (here, its, equal)
            | inr other ↦
                let kept : slice_get row.0 k ≡ Some entries = sym (set_other row.0 q k after other)
                ∙ one in
                inr (rw (← here, row.1) kept)
          ]
      | inr apart ↦
          inr (ap (λ (o : Option (List (List ℕ))). option_and_then (λ lists. slice_get lists k) o)
          (sym (set_other s.queues d e (slice_set row.0 q after) apart)) ∙ now)
    ]

-- before the first event
none_on : (count n : ℕ) → times_on (replicate count []) n ≡ 0
none_on zero n = refl
none_on (suc count) n =
    omega (arith, none_on count n)

pub none_queued : (devices n : ℕ) → times_queued (replicate devices (replicate MAX_QUEUES [])) n ≡ 0
none_queued zero n = refl
none_queued (suc devices) n =
    omega (arith, none_on MAX_QUEUES n, none_queued devices n)

-- a list of different live packets is no longer than the list of live packets
abbrev times_among : List Packet → List ℕ → ℕ
times_among [] entries = 0
times_among (p ∷ packets) entries = times_in entries p.number + times_among packets entries

among_push : (packets : List Packet) (m : ℕ) (entries : List ℕ)
    → times_among packets (m ∷ entries) ≡ times_among packets (m ∷ []) + times_among packets entries
among_push [] m entries = refl
among_push (p ∷ packets) m entries =
    omega (arith, among_push packets m entries)

among_one : (packets : List Packet) (m : ℕ) (p : Packet) → find packets m ≡ Some p
    → 1 ≤ times_among packets (m ∷ [])
among_one [] m p there = cc
among_one (q ∷ packets) m p there =
    elim (eqb_tells q.number m) [
      | inl e ↦
          let same : nat_eq m q.number ≡ true = eq-eqb m q.number (sym e.1) in
          let one : times_in (m ∷ []) q.number ≡ 1 = rw same refl in
          omega arith
      | inr e ↦
          let others : 1 ≤ times_among packets (m ∷ []) = among_one packets m p (rw e.0 at there) in
          omega arith
    ]

among_all : (packets : List Packet) (entries : List ℕ)
    → ((m : ℕ) → 1 ≤ times_in entries m → (p : Packet) × (find packets m ≡ Some p))
    → length entries ≤ times_among packets entries
among_all packets [] live = omega arith
among_all packets (m ∷ entries) live =
    let first : times_in (m ∷ entries) m ≡ 1 + times_in entries m = rw (eq-eqb m m refl) refl in
    let there : (p : Packet) × (find packets m ≡ Some p) = live m (omega arith) in
    let one : 1 ≤ times_among packets (m ∷ []) = among_one packets m there.0 there.1 in
    let others : length entries ≤ times_among packets entries =
    among_all packets entries (λ k some. live k (omega arith)) in
    omega (arith, among_push packets m entries)

among_few : (packets : List Packet) (entries : List ℕ) → ((m : ℕ) → times_in entries m ≤ 1)
    → times_among packets entries ≤ length packets
among_few [] entries once = omega arith
among_few (p ∷ packets) entries once =
    omega (arith, once p.number, among_few packets entries once)

pub entries_few : (packets : List Packet) (entries : List ℕ) → ((m : ℕ) → times_in entries m ≤ 1)
    → ((m : ℕ) → 1 ≤ times_in entries m → (p : Packet) × (find packets m ≡ Some p))
    → length entries ≤ length packets
entries_few packets entries once live =
    omega (arith, among_all packets entries live, among_few packets entries once)
