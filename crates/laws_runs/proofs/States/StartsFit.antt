-- What the devices have for StartIo fits the set: each device has it, and the packets in it were
-- issued.
use Rattle.laws_runs.proofs.Prelude.{arith, sym, ◌∙◌, cond_both, length-replicate, length-set, slice_get-get_or, List, None, Option, Some, [], length, nat_eq, replicate, slice_get, slice_index_or, true, ℕ, ⊤, ◌<◌, ◌∷◌, ◌≡◌, ◌≤◌, StartState, dequeued, head_of, idle, inserted, next_of, next_started, started, unlinked, with_slot, without_first_to_start, without_head, Set, Shared, start_of, with_start}
use Rattle.laws_runs.proofs.Lists.{Each, each_at, each_map, each_push, each_same, each_set}

abbrev pub WereIssued : ℕ → List ℕ → Type 0
WereIssued issued entries = Each (λ (n : ℕ). n < issued) entries

pub issued_later : (issued more : ℕ) → issued ≤ more → (entries : List ℕ)
    → WereIssued issued entries
    → WereIssued more entries
issued_later issued more le entries h =
    each_map (λ (n : ℕ). n < issued) (λ (n : ℕ). n < more) entries (λ n low. omega arith) h

abbrev pub SlotFits : ℕ → Option ℕ → Type 0
SlotFits issued None = ⊤
SlotFits issued (Some n) = n < issued

pub record StartFits (issued : ℕ) (start : StartState) : Type 0 where
  pub start_list : WereIssued issued start.start_list
  pub device_queue : WereIssued issued start.device_queue
  pub slot : SlotFits issued start.slot

pub record AllStartsFit (set : Set) (starts : List StartState) (issued : ℕ) : Type 0 where
  pub long : length starts ≡ length set.devices
  pub each : Each (StartFits issued) starts

pub idle_starts : (set : Set) → AllStartsFit set (replicate (length set.devices) idle) 0
idle_starts set =
    record {
      long = length-replicate (length set.devices) idle;
      each = each_same (StartFits 0) (length set.devices) idle
          (record { start_list = tt; device_queue = tt; slot = tt });
    }

-- more packets were issued
slot_later : (issued more : ℕ) → issued ≤ more → (slot : Option ℕ) → SlotFits issued slot
    → SlotFits more slot
slot_later issued more le None h = tt
slot_later issued more le (Some n) h = let low : n < issued = h in omega arith

start_later : (issued more : ℕ) → issued ≤ more → (start : StartState) → StartFits issued start
    → StartFits more start
start_later issued more le start h =
    record {
      start_list = issued_later issued more le start.start_list h.start_list;
      device_queue = issued_later issued more le start.device_queue h.device_queue;
      slot = slot_later issued more le start.slot h.slot;
    }

pub starts_later : (set : Set) (starts : List StartState) (issued more : ℕ) → issued ≤ more
    → AllStartsFit set starts issued → AllStartsFit set starts more
starts_later set starts issued more le h =
    record {
      long = h.long;
      each = each_map (StartFits issued) (StartFits more) starts (start_later issued more le)
          h.each;
    }

-- what one device has, and something else in its place
pub start_issued : (set : Set) (s : Shared) (d : ℕ) (start : StartState) → start_of s d ≡ Some start
    → AllStartsFit set s.starts s.issued → StartFits s.issued start
start_issued set s d start there h = each_at (StartFits s.issued) s.starts d start h.each there

pub start_put_fits : (set : Set) (s : Shared) (d : ℕ) (after : StartState)
    → StartFits s.issued after
    → AllStartsFit set s.starts s.issued → AllStartsFit set (with_start s d after).starts s.issued
start_put_fits set s d after fits h =
    record {
      long = length-set s.starts d after ∙ h.long;
      each = each_set (StartFits s.issued) s.starts d after h.each fits;
    }

pub start_there : (set : Set) (s : Shared) (d : ℕ) → AllStartsFit set s.starts s.issued
    → d < length set.devices → start_of s d ≡ None → ⊥
start_there set s d h within none =
    let long : length s.starts ≡ length set.devices = h.long in
    let there : slice_get s.starts d ≡ Some (slice_index_or s.starts d idle) =
    slice_get-get_or s.starts d idle (omega arith) in
    let no : None ≡ Some (slice_index_or s.starts d idle) = sym none ∙ there in
    cc

-- what a packet is taken out of names no others
pub each_without : (P : ℕ → Type 0) (entries : List ℕ) (n : ℕ) → Each P entries
    → Each P (unlinked entries n)
each_without P [] n all = tt
each_without P (entry ∷ entries) n all =
    cond_both (nat_eq entry n) entries (entry ∷ unlinked entries n) (λ left. Each P left)
    (λ same. all.1) (λ other. (all.0, each_without P entries n all.1))

-- IoStartPacket, IoStartNextPacket, and StartIo that begins
module _ (issued : ℕ) (start : StartState) (h : StartFits issued start) where
  pub started_fits : (n : ℕ) → n < issued → StartFits issued (started start n)
  started_fits n low =
      cond_both start.busy (record start { device_queue = inserted start.device_queue n })
      (record start { start_list = inserted start.start_list n; busy = true }) (StartFits issued)
      (λ busy. record {
        start_list = h.start_list;
        device_queue = each_push (λ (m : ℕ). m < issued) start.device_queue n h.device_queue low;
        slot = h.slot;
      })
      (λ free. record {
        start_list = each_push (λ (m : ℕ). m < issued) start.start_list n h.start_list low;
        device_queue = h.device_queue;
        slot = h.slot;
      })

  next_fits : (waiting : List ℕ) → WereIssued issued waiting
      → StartFits issued (next_of start waiting)
  next_fits [] all =
      record { start_list = h.start_list; device_queue = h.device_queue; slot = h.slot }
  next_fits (n ∷ waiting) all =
      record {
        start_list = each_push (λ (m : ℕ). m < issued) start.start_list n h.start_list all.0;
        device_queue = all.1;
        slot = h.slot;
      }

  pub next_started_fits : StartFits issued (next_started start)
  next_started_fits = next_fits start.device_queue h.device_queue

  pub slot_put_fits : (slot : Option ℕ) → SlotFits issued slot
      → StartFits issued (with_slot start slot)
  slot_put_fits slot fits =
      record { start_list = h.start_list; device_queue = h.device_queue; slot = fits }

  pub dequeued_fits : (n : ℕ) → StartFits issued (dequeued start n)
  dequeued_fits n =
      record {
        start_list = h.start_list;
        device_queue = each_without (λ (m : ℕ). m < issued) start.device_queue n h.device_queue;
        slot = h.slot;
      }

  pub head_low : (entries : List ℕ) (n : ℕ) → WereIssued issued entries → head_of entries ≡ Some n
      → n < issued
  head_low [] n all first = cc
  head_low (m ∷ entries) n all first =
      let low : m < issued = all.0 in let same : m ≡ n = cc in omega arith

  without_head_issued : (entries : List ℕ) → WereIssued issued entries
      → WereIssued issued (without_head entries)
  without_head_issued [] all = tt
  without_head_issued (m ∷ entries) all = all.1

  pub first_low : (n : ℕ) → head_of start.start_list ≡ Some n → n < issued
  first_low n first = head_low start.start_list n h.start_list first

  pub begun_fits : StartFits issued (without_first_to_start start)
  begun_fits =
      record {
        start_list = without_head_issued start.start_list h.start_list;
        device_queue = h.device_queue;
        slot = h.slot;
      }
