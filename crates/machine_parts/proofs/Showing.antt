-- What calls see of the lists of devices, before and after some of them are changed.
use Rattle.std.proofs.Common.{◌≡◌, ◌≤◌, ◌<◌, ◌≢◌, ◌∙◌, ◌*◌, ℕ, zero, suc, true, false, IsTrue, List, [], ◌∷◌, length, replicate, refl, sym, ap, arith, Option, None, Some, inl, inr}
use Rattle.std.specs.Prelude.{is_some, nat_lt, slice_get, slice_index_or, slice_set}
use Rattle.std.proofs.lemmas.Bool.Decides.{leb_tells}
use Rattle.std.proofs.lemmas.List.{get_or-set_other, length-replicate, set-get_or}
use Rattle.devqueue.specs.Lists.{Lists, is_free}
use Rattle.model.specs.Queues.{dequeued, head_of, inserted, next_started, started, unlinked, with_slot, without_first_to_start, without_head}
use Rattle.laws_slots.specs.Fits.{in_queues, to_start}
use Rattle.machine_parts.specs.declared.device_lists.Serving.{Serving}
use Rattle.machine_parts.specs.Lists.{DeviceLists, list_at, lists_of, no_entries, queue_entries, queues_shown, start_entries, start_shown, starts_shown, with_queue_entries, with_start_entries}
use Rattle.machine_parts.proofs.Lists.{list_number, none_queued, none_started, queue_at, queue_put, queue_put_starts, queues_count, resting, start_at, start_put, start_put_queues, starts_count, unlisted}

abbrev pub shown : List Serving → List (List ℕ) → DeviceLists
shown cs ls = record { queues = queues_shown cs ls; starts = starts_shown cs ls }

-- so many devices, before the first call
abbrev nothing : List ℕ
nothing = []

pub none_fits : (devices : ℕ) → length (replicate (devices * 6) nothing)
    ≡ lists_of (length (replicate devices resting))
none_fits devices =
    let all = list_number devices 0 in
    rw (length-replicate (devices * 6) nothing, length-replicate devices resting)
    (omega (arith, all))

pub none_shown : (devices : ℕ)
    → shown (replicate devices resting) (replicate (devices * 6) nothing) ≡ no_entries devices
none_shown devices =
    let all = list_number devices 0 in
    let is : devices * 6 ≡ lists_of devices = omega (arith, all) in
    rw (is, none_queued devices, none_started devices) refl

-- whether there is an element
is_found : {X : Type 0} (xs : List X) (i : ℕ) → i < length xs → is_some (slice_get xs i) ≡ true
is_found [] i low = absurd (omega (arith, low))
is_found (x ∷ xs) zero low = refl
is_found (x ∷ xs) (suc i) low = is_found xs i (omega (arith, low))

is_past : {X : Type 0} (xs : List X) (i : ℕ) → length xs ≤ i → is_some (slice_get xs i) ≡ false
is_past [] i high = refl
is_past (x ∷ xs) zero high = absurd (omega (arith, high))
is_past (x ∷ xs) (suc i) high = is_past xs i (omega (arith, high))

element_seen : {X : Type 0} (xs : List X) (i : ℕ) → nat_lt i (length xs) ≡ is_some (slice_get xs i)
element_seen xs i =
    elim (leb_tells (suc i) (length xs)) [
      | inl e ↦ e.0 ∙ sym (is_found xs i (omega (arith, e.1)))
      | inr e ↦ e.0 ∙ sym (is_past xs i (omega (arith, e.1)))
    ]

-- what is read where it is there
default_same : (cs : List Serving) (device : ℕ) (one other : Serving) → device < length cs
    → slice_index_or cs device one ≡ slice_index_or cs device other
default_same [] device one other there = absurd (omega (arith, there))
default_same (c ∷ cs) zero one other there = refl
default_same (c ∷ cs) (suc device) one other there =
    default_same cs device one other (omega (arith, there))

pub same_one : (cs : List Serving) (device : ℕ) → device < length cs → (one other : Serving)
    → one ≡ slice_index_or cs device one → other ≡ slice_index_or cs device other → one ≡ other
same_one cs device there one other its same =
    its ∙ default_same cs device one other there ∙ sym same

-- IoStartNextPacket moves the first entry that waits, or makes the device idle
moved : (c : Serving) (starts waiting : List ℕ) (key : ℕ) → Some key ≡ head_of waiting
    → start_shown c (inserted starts key) (without_head waiting)
    ≡ next_started (start_shown c starts waiting)
moved c starts [] key first = cc
moved c starts (n ∷ waiting) key first = let is : key ≡ n = cc in rw is refl

rested : (c : Serving) (starts waiting : List ℕ) → None ≡ head_of waiting
    → start_shown (record { busy = false; slot = c.slot }) starts (without_head waiting)
    ≡ next_started (start_shown c starts waiting)
rested c starts [] none = refl
rested c starts (n ∷ waiting) none = cc

module _ (cs : List Serving) (ls : List (List ℕ)) (fits : length ls ≡ lists_of (length cs))
    (device : ℕ) where
  abbrev v : DeviceLists
  v = shown cs ls

  pub by_queues : device < length v.queues → device < length cs
  by_queues there = let count = queues_count cs ls fits in omega (arith, there, count)

  pub by_starts : device < length v.starts → device < length cs
  by_starts there = let count = starts_count cs ls fits in omega (arith, there, count)

  pub device_seen : nat_lt device (length cs) ≡ is_some (slice_get v.starts device)
  device_seen =
      rw (← starts_count cs ls fits) (element_seen (starts_shown cs ls) device)

  pub is_unlisted : (links : Lists) (k : ℕ) → links.lists ≡ ls → in_queues v.queues k ≡ false
      → to_start v.starts k ≡ false → IsTrue (is_free links k)
  is_unlisted links k same queued started =
      rw (same, unlisted k cs ls fits queued started) refl

  module _ (there : device < length cs) where
    pub is_list : (list : ℕ) → list < 6 → list_at device list < length ls
    is_list list low =
        let one = list_number device list in
        let all = list_number (length cs) 0 in
        omega (arith, there, low, fits, one, all)

    -- a queue
    module _ (q number : ℕ) (low : q < 4) (is : number ≡ list_at device q) where
      pub queue_seen : slice_index_or ls number [] ≡ queue_entries v device q
      queue_seen = rw is (sym (queue_at cs ls device q fits there low))

      pub queue_left : (f : List ℕ → List ℕ) (later : List (List ℕ))
          → later ≡ slice_set ls number (f (slice_index_or ls number []))
          → shown cs later ≡ with_queue_entries v device q (f (queue_entries v device q))
      queue_left f later changed =
          let entries : List ℕ = f (queue_entries v device q) in
          let same : later ≡ slice_set ls (list_at device q) entries =
          rw (← queue_seen, ← is) changed in
          rw (
            same,
            queue_put cs ls device q entries fits there low,
            queue_put_starts cs ls device q entries fits there low,
          ) refl

    -- what a device has for StartIo
    pub its_own : slice_index_or cs device resting
        ≡ slice_index_or cs device (slice_index_or cs device resting)
    its_own = default_same cs device resting (slice_index_or cs device resting) there

    module _ (x : Serving) (its : x ≡ slice_index_or cs device x) where
      abbrev first : List ℕ
      first = slice_index_or ls (list_at device 4) []

      abbrev waiting : List ℕ
      waiting = slice_index_or ls (list_at device 5) []

      serves : slice_index_or cs device resting ≡ x
      serves = default_same cs device resting x there ∙ sym its

      pub start_seen : start_entries v device ≡ start_shown x first waiting
      start_seen =
          start_at cs ls device fits there
          ∙ ap (λ (c : Serving). start_shown c first waiting) serves

      start_left : (after : Serving) (starts waits : List ℕ)
          → shown (slice_set cs device after)
          (slice_set (slice_set ls (list_at device 5) waits) (list_at device 4) starts)
          ≡ with_start_entries v device (start_shown after starts waits)
      start_left after starts waits =
          rw (
            start_put after starts waits cs ls device fits there,
            start_put_queues after starts waits cs ls device fits there,
          ) refl

      -- where some of it stays
      serving_kept : slice_set cs device x ≡ cs
      serving_kept = rw serves at (set-get_or cs device resting)

      waiting_kept : slice_set ls (list_at device 5) waiting ≡ ls
      waiting_kept = set-get_or ls (list_at device 5) []

      first_kept : slice_set ls (list_at device 4) first ≡ ls
      first_kept = set-get_or ls (list_at device 4) []

      apart : list_at device 4 ≢ list_at device 5
      apart same =
          let four = list_number device 4 in
          let five = list_number device 5 in
          omega (arith, same, four, five)

      first_after : (waits : List ℕ)
          → slice_index_or (slice_set ls (list_at device 5) waits) (list_at device 4) [] ≡ first
      first_after waits =
          get_or-set_other ls (list_at device 5) (list_at device 4) waits [] apart

      put_back : (waits : List ℕ)
          → slice_set (slice_set ls (list_at device 5) waits) (list_at device 4) first
          ≡ slice_set ls (list_at device 5) waits
      put_back waits =
          rw (first_after waits) at
          (set-get_or (slice_set ls (list_at device 5) waits) (list_at device 4) [])

      lists_left : (starts waits : List ℕ)
          → shown cs (slice_set (slice_set ls (list_at device 5) waits) (list_at device 4) starts)
          ≡ with_start_entries v device (start_shown x starts waits)
      lists_left starts waits = rw serving_kept at (start_left x starts waits)

      waits_left : (waits : List ℕ) → shown cs (slice_set ls (list_at device 5) waits)
          ≡ with_start_entries v device (start_shown x first waits)
      waits_left waits = rw (put_back waits) at (lists_left first waits)

      starts_left : (starts : List ℕ) → shown cs (slice_set ls (list_at device 4) starts)
          ≡ with_start_entries v device (start_shown x starts waiting)
      starts_left starts = rw waiting_kept at (lists_left starts waiting)

      starts_served : (after : Serving) (starts : List ℕ)
          → shown (slice_set cs device after) (slice_set ls (list_at device 4) starts)
          ≡ with_start_entries v device (start_shown after starts waiting)
      starts_served after starts = rw waiting_kept at (start_left after starts waiting)

      waits_served : (after : Serving) (waits : List ℕ)
          → shown (slice_set cs device after) (slice_set ls (list_at device 5) waits)
          ≡ with_start_entries v device (start_shown after first waits)
      waits_served after waits = rw (put_back waits) at (start_left after first waits)

      pub served : (after : Serving) → shown (slice_set cs device after) ls
          ≡ with_start_entries v device (start_shown after first waiting)
      served after = rw first_kept at (starts_served after first)

      -- a key is started, on a busy device and on an idle one
      busy_started : (key : ℕ) → x.busy ≡ true
          → start_shown x first (inserted waiting key) ≡ started (start_entries v device) key
      busy_started key busy = rw (start_seen, busy) refl

      idle_started : (key : ℕ) → x.busy ≡ false
          → start_shown (record { busy = true; slot = x.slot }) (inserted first key) waiting
          ≡ started (start_entries v device) key
      idle_started key free = rw (start_seen, free) refl

      pub waits_more : (number key : ℕ) (later : List (List ℕ)) → number ≡ list_at device 5
          → x.busy ≡ true
          → later ≡ slice_set ls number (inserted (slice_index_or ls number []) key)
          → shown cs later ≡ with_start_entries v device (started (start_entries v device) key)
      waits_more number key later is busy changed =
          rw (changed, is, ← busy_started key busy) (waits_left (inserted waiting key))

      pub starts_more : (number key : ℕ) (later : List (List ℕ)) → number ≡ list_at device 4
          → x.busy ≡ false
          → later ≡ slice_set ls number (inserted (slice_index_or ls number []) key)
          → shown (slice_set cs device (record { busy = true; slot = x.slot })) later
          ≡ with_start_entries v device (started (start_entries v device) key)
      starts_more number key later is free changed =
          rw (changed, is, ← idle_started key free)
          (starts_served (record { busy = true; slot = x.slot }) (inserted first key))

      -- the next one is started, or none waits
      next_moved : (key : ℕ) → Some key ≡ head_of waiting
          → start_shown x (inserted first key) (without_head waiting)
          ≡ next_started (start_entries v device)
      next_moved key head = rw start_seen (moved x first waiting key head)

      next_rested : None ≡ head_of waiting
          → start_shown (record { busy = false; slot = x.slot }) first (without_head waiting)
          ≡ next_started (start_entries v device)
      next_rested none = rw start_seen (rested x first waiting none)

      module _ (five : ℕ) (is_five : five ≡ list_at device 5) (mid : List (List ℕ))
          (taken : mid ≡ slice_set ls five (without_head (slice_index_or ls five []))) where
        mid_is : mid ≡ slice_set ls (list_at device 5) (without_head waiting)
        mid_is = rw (← is_five) taken

        pub next_starts : (four key : ℕ) (later : List (List ℕ)) → four ≡ list_at device 4
            → Some key ≡ head_of (slice_index_or ls five [])
            → later ≡ slice_set mid four (inserted (slice_index_or mid four []) key)
            → shown cs later ≡ with_start_entries v device (next_started (start_entries v device))
        next_starts four key later is_four head put =
            let its_head : Some key ≡ head_of waiting = rw (← is_five) head in
            let got : slice_index_or mid (list_at device 4) [] ≡ first =
            rw mid_is (first_after (without_head waiting)) in
            let four_put : later
            ≡ slice_set mid (list_at device 4)
            (inserted (slice_index_or mid (list_at device 4) []) key)
            = rw (← is_four) put in
            let last : later
            ≡ slice_set (slice_set ls (list_at device 5) (without_head waiting)) (list_at device 4)
            (inserted first key) = rw (← got, ← mid_is) four_put in
            rw (last, ← next_moved key its_head)
            (lists_left (inserted first key) (without_head waiting))

        pub next_rests : None ≡ head_of (slice_index_or ls five [])
            → shown (slice_set cs device (record { busy = false; slot = x.slot })) mid
            ≡ with_start_entries v device (next_started (start_entries v device))
        next_rests none =
            let its_none : None ≡ head_of waiting = rw (← is_five) none in
            rw (mid_is, ← next_rested its_none)
            (waits_served (record { busy = false; slot = x.slot }) (without_head waiting))

      -- the first one is taken off
      module _ (four : ℕ) (is_four : four ≡ list_at device 4) where
        pub first_seen : slice_index_or ls four [] ≡ (start_entries v device).start_list
        first_seen = rw (is_four, start_seen) refl

        pub first_left : (later : List (List ℕ))
            → later ≡ slice_set ls four (without_head (slice_index_or ls four []))
            → shown cs later
            ≡ with_start_entries v device (without_first_to_start (start_entries v device))
        first_left later taken =
            let rest : start_shown x (without_head first) waiting
            ≡ without_first_to_start (start_entries v device) = rw start_seen refl in
            rw (taken, is_four, ← rest) (starts_left (without_head first))

      -- one that waits is taken off
      module _ (five : ℕ) (is_five : five ≡ list_at device 5) where
        pub waiting_seen : slice_index_or ls five [] ≡ (start_entries v device).device_queue
        waiting_seen = rw (is_five, start_seen) refl

        pub waits_less : (key : ℕ) (later : List (List ℕ))
            → later ≡ slice_set ls five (unlinked (slice_index_or ls five []) key)
            → shown cs later ≡ with_start_entries v device (dequeued (start_entries v device) key)
        waits_less key later taken =
            let rest : start_shown x first (unlinked waiting key)
            ≡ dequeued (start_entries v device) key = rw start_seen refl in
            rw (taken, is_five, ← rest) (waits_left (unlinked waiting key))

      -- whether it is busy
      pub busy_seen : x.busy ≡ (start_entries v device).busy
      busy_seen = rw start_seen refl

      -- the current slot
      pub slot_seen : x.slot ≡ (start_entries v device).slot
      slot_seen = rw start_seen refl

      pub slot_left : (slot : Option ℕ)
          → shown (slice_set cs device (record { busy = x.busy; slot = slot })) ls
          ≡ with_start_entries v device (with_slot (start_entries v device) slot)
      slot_left slot =
          let held : start_shown (record { busy = x.busy; slot = slot }) first waiting
          ≡ with_slot (start_entries v device) slot = rw start_seen refl in
          rw (← held) (served (record { busy = x.busy; slot = slot }))
