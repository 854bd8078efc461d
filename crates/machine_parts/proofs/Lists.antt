-- What the lists of devices show after one of them is changed, and that a key stands in none of
-- them where it stands in none that is shown.
use Rattle.std.proofs.Common.{◌≡◌, ◌<◌, ◌+◌, ◌*◌, ℕ, zero, suc, Bool, true, false, List, [], ◌∷◌, length, replicate, refl, ap, arith, None}
use Rattle.std.specs.Prelude.{◌||◌, slice_index_or, slice_set}
use Rattle.std.specs.List.{list_any}
use Rattle.model.specs.Queues.{StartState, idle, is_linked}
use Rattle.laws_slots.specs.Fits.{in_queues, to_start}
use Rattle.machine_parts.specs.declared.device_lists.Serving.{Serving}
use Rattle.machine_parts.specs.Lists.{list_at, lists_of, queues_shown, start_shown, starts_shown}

-- the number of a list
pub list_number : (device list : ℕ) → list_at device list ≡ device * 6 + list
list_number zero list = omega arith
list_number (suc device) list =
    let before : list_at device list ≡ device * 6 + list = list_number device list in
    omega (arith, before)

-- a device that does nothing
abbrev pub resting : Serving
resting = record { busy = false; slot = None }

abbrev Fits : List Serving → List (List ℕ) → Type 0
Fits serving lists = length lists ≡ lists_of (length serving)

-- as many devices are shown as there are
pub queues_count : (cs : List Serving) (ls : List (List ℕ)) → Fits cs ls
    → length (queues_shown cs ls) ≡ length cs
queues_count [] ls fits = refl
queues_count (c ∷ cs) (a ∷ b ∷ d ∷ e ∷ s ∷ w ∷ ls) fits =
    let later : Fits cs ls = cc in ap suc (queues_count cs ls later)
queues_count (c ∷ cs) _ fits = cc

pub starts_count : (cs : List Serving) (ls : List (List ℕ)) → Fits cs ls
    → length (starts_shown cs ls) ≡ length cs
starts_count [] ls fits = refl
starts_count (c ∷ cs) (a ∷ b ∷ d ∷ e ∷ s ∷ w ∷ ls) fits =
    let later : Fits cs ls = cc in ap suc (starts_count cs ls later)
starts_count (c ∷ cs) _ fits = cc

-- a queue of a device, and other entries in it
first_four : (a b d e : List ℕ) (ls : List (List ℕ)) (q : ℕ) → q < 4
    → slice_index_or (a ∷ b ∷ d ∷ e ∷ []) q [] ≡ slice_index_or (a ∷ b ∷ d ∷ e ∷ ls) q []
first_four a b d e ls zero low = refl
first_four a b d e ls (suc zero) low = refl
first_four a b d e ls (suc (suc zero)) low = refl
first_four a b d e ls (suc (suc (suc zero))) low = refl
first_four a b d e ls (suc (suc (suc (suc q)))) low = absurd (omega (arith, low))

pub queue_at : (cs : List Serving) (ls : List (List ℕ)) (device q : ℕ) → Fits cs ls
    → device < length cs → q < 4
    → slice_index_or (slice_index_or (queues_shown cs ls) device []) q []
    ≡ slice_index_or ls (list_at device q) []
queue_at [] ls device q fits there low = absurd (omega (arith, there))
queue_at (c ∷ cs) (a ∷ b ∷ d ∷ e ∷ s ∷ w ∷ ls) zero q fits there low =
    first_four a b d e (s ∷ w ∷ ls) q low
queue_at (c ∷ cs) (a ∷ b ∷ d ∷ e ∷ s ∷ w ∷ ls) (suc device) q fits there low =
    let later : Fits cs ls = cc in
    queue_at cs ls device q later (omega (arith, there)) low
queue_at (c ∷ cs) _ device q fits there low = cc

pub queue_put : (cs : List Serving) (ls : List (List ℕ)) (device q : ℕ) (entries : List ℕ)
    → Fits cs ls → device < length cs → q < 4
    → queues_shown cs (slice_set ls (list_at device q) entries)
    ≡ slice_set (queues_shown cs ls) device
    (slice_set (slice_index_or (queues_shown cs ls) device []) q entries)
queue_put [] ls device q entries fits there low = absurd (omega (arith, there))
queue_put (c ∷ cs) (a ∷ b ∷ d ∷ e ∷ s ∷ w ∷ ls) zero zero entries fits there low = refl
queue_put (c ∷ cs) (a ∷ b ∷ d ∷ e ∷ s ∷ w ∷ ls) zero (suc zero) entries fits there low = refl
queue_put (c ∷ cs) (a ∷ b ∷ d ∷ e ∷ s ∷ w ∷ ls) zero (suc (suc zero)) entries fits there low = refl
queue_put (c ∷ cs) (a ∷ b ∷ d ∷ e ∷ s ∷ w ∷ ls) zero (suc (suc (suc zero))) entries fits there low =
    refl
queue_put (c ∷ cs) (a ∷ b ∷ d ∷ e ∷ s ∷ w ∷ ls) zero (suc (suc (suc (suc q)))) entries fits there
    low = absurd (omega (arith, low))
queue_put (c ∷ cs) (a ∷ b ∷ d ∷ e ∷ s ∷ w ∷ ls) (suc device) q entries fits there low =
    let later : Fits cs ls = cc in
    ap (λ (queues : List (List (List ℕ))). (a ∷ b ∷ d ∷ e ∷ []) ∷ queues)
    (queue_put cs ls device q entries later (omega (arith, there)) low)
queue_put (c ∷ cs) _ device q entries fits there low = cc

pub queue_put_starts : (cs : List Serving) (ls : List (List ℕ)) (device q : ℕ) (entries : List ℕ)
    → Fits cs ls → device < length cs → q < 4
    → starts_shown cs (slice_set ls (list_at device q) entries) ≡ starts_shown cs ls
queue_put_starts [] ls device q entries fits there low = absurd (omega (arith, there))
queue_put_starts (c ∷ cs) (a ∷ b ∷ d ∷ e ∷ s ∷ w ∷ ls) zero zero entries fits there low = refl
queue_put_starts (c ∷ cs) (a ∷ b ∷ d ∷ e ∷ s ∷ w ∷ ls) zero (suc zero) entries fits there low = refl
queue_put_starts (c ∷ cs) (a ∷ b ∷ d ∷ e ∷ s ∷ w ∷ ls) zero (suc (suc zero)) entries fits there
    low = refl
queue_put_starts (c ∷ cs) (a ∷ b ∷ d ∷ e ∷ s ∷ w ∷ ls) zero (suc (suc (suc zero))) entries fits
    there low = refl
queue_put_starts (c ∷ cs) (a ∷ b ∷ d ∷ e ∷ s ∷ w ∷ ls) zero (suc (suc (suc (suc q)))) entries fits
    there low = absurd (omega (arith, low))
queue_put_starts (c ∷ cs) (a ∷ b ∷ d ∷ e ∷ s ∷ w ∷ ls) (suc device) q entries fits there low =
    let later : Fits cs ls = cc in
    ap (λ (starts : List StartState). start_shown c s w ∷ starts)
    (queue_put_starts cs ls device q entries later (omega (arith, there)) low)
queue_put_starts (c ∷ cs) _ device q entries fits there low = cc

-- what a device has for StartIo, and something else in its place
pub start_at : (cs : List Serving) (ls : List (List ℕ)) (device : ℕ) → Fits cs ls
    → device < length cs
    → slice_index_or (starts_shown cs ls) device idle
    ≡ start_shown (slice_index_or cs device resting) (slice_index_or ls (list_at device 4) [])
    (slice_index_or ls (list_at device 5) [])
start_at [] ls device fits there = absurd (omega (arith, there))
start_at (c ∷ cs) (a ∷ b ∷ d ∷ e ∷ s ∷ w ∷ ls) zero fits there = refl
start_at (c ∷ cs) (a ∷ b ∷ d ∷ e ∷ s ∷ w ∷ ls) (suc device) fits there =
    let later : Fits cs ls = cc in start_at cs ls device later (omega (arith, there))
start_at (c ∷ cs) _ device fits there = cc

module _ (after : Serving) (starts waiting : List ℕ) where
  pub start_put : (cs : List Serving) (ls : List (List ℕ)) (device : ℕ) → Fits cs ls
      → device < length cs
      → starts_shown (slice_set cs device after)
      (slice_set (slice_set ls (list_at device 5) waiting) (list_at device 4) starts)
      ≡ slice_set (starts_shown cs ls) device (start_shown after starts waiting)
  start_put [] ls device fits there = absurd (omega (arith, there))
  start_put (c ∷ cs) (a ∷ b ∷ d ∷ e ∷ s ∷ w ∷ ls) zero fits there = refl
  start_put (c ∷ cs) (a ∷ b ∷ d ∷ e ∷ s ∷ w ∷ ls) (suc device) fits there =
      let later : Fits cs ls = cc in
      ap (λ (others : List StartState). start_shown c s w ∷ others)
      (start_put cs ls device later (omega (arith, there)))
  start_put (c ∷ cs) _ device fits there = cc

  pub start_put_queues : (cs : List Serving) (ls : List (List ℕ)) (device : ℕ) → Fits cs ls
      → device < length cs
      → queues_shown (slice_set cs device after)
      (slice_set (slice_set ls (list_at device 5) waiting) (list_at device 4) starts)
      ≡ queues_shown cs ls
  start_put_queues [] ls device fits there = absurd (omega (arith, there))
  start_put_queues (c ∷ cs) (a ∷ b ∷ d ∷ e ∷ s ∷ w ∷ ls) zero fits there = refl
  start_put_queues (c ∷ cs) (a ∷ b ∷ d ∷ e ∷ s ∷ w ∷ ls) (suc device) fits there =
      let later : Fits cs ls = cc in
      ap (λ (others : List (List (List ℕ))). (a ∷ b ∷ d ∷ e ∷ []) ∷ others)
      (start_put_queues cs ls device later (omega (arith, there)))
  start_put_queues (c ∷ cs) _ device fits there = cc

-- of lists that are all empty
pub none_queued : (devices : ℕ)
    → queues_shown (replicate devices resting) (replicate (lists_of devices) [])
    ≡ replicate devices (replicate 4 [])
none_queued zero = refl
none_queued (suc devices) =
    ap (λ (queues : List (List (List ℕ))). ([] ∷ [] ∷ [] ∷ [] ∷ []) ∷ queues) (none_queued devices)

pub none_started : (devices : ℕ)
    → starts_shown (replicate devices resting) (replicate (lists_of devices) [])
    ≡ replicate devices idle
none_started zero = refl
none_started (suc devices) =
    ap (λ (starts : List StartState). idle ∷ starts) (none_started devices)

-- a key that stands in no list that is shown stands in none
neither : (one other : Bool) → (one || other) ≡ false → (one ≡ false) × (other ≡ false)
neither false other h = (refl, h)
neither true other h = cc

pub unlisted : (k : ℕ) (cs : List Serving) (ls : List (List ℕ)) → Fits cs ls
    → in_queues (queues_shown cs ls) k ≡ false → to_start (starts_shown cs ls) k ≡ false
    → list_any (λ entries. is_linked entries k) ls ≡ false
unlisted k [] [] fits queued started = refl
unlisted k [] (a ∷ ls) fits queued started = cc
unlisted k (c ∷ cs) (a ∷ b ∷ d ∷ e ∷ s ∷ w ∷ ls) fits queued started =
    let later : Fits cs ls = cc in
    let lists =
    neither (list_any (λ entries. is_linked entries k) (a ∷ b ∷ d ∷ e ∷ []))
    (in_queues (queues_shown cs ls) k) queued in
    let first =
    neither (is_linked a k) (list_any (λ entries. is_linked entries k) (b ∷ d ∷ e ∷ [])) lists.0 in
    let second =
    neither (is_linked b k) (list_any (λ entries. is_linked entries k) (d ∷ e ∷ [])) first.1 in
    let third =
    neither (is_linked d k) (list_any (λ entries. is_linked entries k) (e ∷ [])) second.1 in
    let fourth = neither (is_linked e k) false third.1 in
    let started_here =
    neither (is_linked s k || is_linked w k) (to_start (starts_shown cs ls) k) started in
    let waits = neither (is_linked s k) (is_linked w k) started_here.0 in
    rw (first.0, second.0, third.0, fourth.0, waits.0, waits.1)
    (unlisted k cs ls later lists.1 started_here.1)
unlisted k (c ∷ cs) _ fits queued started = cc
