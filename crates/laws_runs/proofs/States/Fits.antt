-- What the threads share fits its set: it has cells and locks for each device, and each completion
-- routine that is set in a location of a packet is one of its device's driver.
use Rattle.laws_runs.proofs.Prelude.{ap, arith, inl, inr, refl, subst, sym, zero, ◌-◌, ◌∙◌, cases_eq, length-replicate, length-set, get_or_from_slice_get, slice_get-get_or, List, None, Option, Some, [], length, option_and_then, replicate, slice_get, slice_index_or, slice_set, suc, true, ℕ, ⊤, ◌<◌, ◌≡◌, ◌≤◌, ◌⊎◌, StartState, Set, cancel_routine_named, Shared, blank_cells, completion_of, copied_location, current_location, mark_current, marked_location, new_packet, owner_of, packet_of, place_of, queue_of, sent_down, shared_location, shared_with, unused_location, with_locks, with_owner, with_packet, with_queue, Lock, Spin, SystemCancel, MAX_LIVE_PACKETS, MAX_QUEUES, SPIN_LOCKS, Device, Major, Armer, Cells, Completion, Location, Packet}
use Rattle.model.specs.World.{unused}
use Rattle.laws_runs.proofs.Lists.{each_map, Each, each_at, each_set, each_same, set_same, set_other}
use Rattle.laws_runs.proofs.States.Known.{Continues}
use Rattle.laws_runs.proofs.States.StartsFit.{AllStartsFit, WereIssued, idle_starts, issued_later}

-- a completion routine of the driver of a device
abbrev pub CompletionLeads : Set → Option Completion → Type 0
CompletionLeads set None = ⊤
CompletionLeads set (Some c) =
    (d : Device) × (slice_get set.devices c.device ≡ Some d) × Continues set d.driver c.routine

abbrev pub LocationLeads : Set → Location → Type 0
LocationLeads set l = CompletionLeads set l.completion

abbrev pub PacketLeads : Set → Packet → Type 0
PacketLeads set p = Each (LocationLeads set) p.locations.items

-- a cancel word names a queue of a device whose driver has a cancel routine for it
abbrev pub ArmerLeads : Set → Option Armer → Type 0
ArmerLeads set None = ⊤
ArmerLeads set (Some armer) =
    (d : Device) × (slice_get set.devices armer.device ≡ Some d) × (routine : ℕ)
    × (cancel_routine_named set d.driver armer.queue ≡ Some routine)

abbrev pub WordLeads : Set → Packet → Type 0
WordLeads set p = ArmerLeads set p.armer

-- the queues of a device are four, and the packets in them were issued
abbrev pub QueuesFit : ℕ → List (List ℕ) → Type 0
QueuesFit issued lists = (length lists ≡ MAX_QUEUES) × Each (WereIssued issued) lists

pub record AllQueuesFit (set : Set) (queues : List (List (List ℕ))) (issued : ℕ) : Type 0 where
  pub long : length queues ≡ length set.devices
  pub each : Each (QueuesFit issued) queues

-- each device has its cells, its eight spin locks, its queues and what it has for StartIo, and no
-- more packets live than may
pub record Fits (set : Set) (s : Shared) : Type 0 where
  pub cells : length s.cells ≡ length set.devices
  pub spin : length s.locks.spin ≡ length set.devices
  pub rows : (d : ℕ) (owners : List (Option ℕ)) → slice_get s.locks.spin d ≡ Some owners
      → length owners ≡ SPIN_LOCKS
  pub completions : Each (PacketLeads set) s.packets
  pub words : Each (WordLeads set) s.packets
  pub queued : AllQueuesFit set s.queues s.issued
  pub starts : AllStartsFit set s.starts s.issued
  pub few : length s.packets ≤ MAX_LIVE_PACKETS

-- one queue
row_there : (queues : List (List (List ℕ))) (d q : ℕ) (o : Option (List (List ℕ)))
    (entries : List ℕ)
    → slice_get queues d ≡ o
    → option_and_then (λ lists. slice_get lists q) o ≡ Some entries
    → (lists : List (List ℕ)) × (slice_get queues d ≡ Some lists)
    × (slice_get lists q ≡ Some entries)
row_there queues d q None entries found there = cc
row_there queues d q (Some lists) entries found there = (lists, found, there)

pub queue_row : (s : Shared) (d q : ℕ) (entries : List ℕ) → queue_of s d q ≡ Some entries
    → (lists : List (List ℕ)) × (slice_get s.queues d ≡ Some lists)
    × (slice_get lists q ≡ Some entries)
queue_row s d q entries there = row_there s.queues d q (slice_get s.queues d) entries refl there

module _ (set : Set) where
  -- what is set in the current location
  pub completion_leads : (p : Packet) (o : Option Location) → current_location p ≡ o
      → PacketLeads set p
      → CompletionLeads set (completion_of o)
  completion_leads p None there h = tt
  completion_leads p (Some l) there h =
      each_at (LocationLeads set) p.locations.items (p.depth - 1) l h there

  marked_leads : (locations : List Location) (place : ℕ) (o : Option Location)
      → slice_get locations place ≡ o
      → Each (LocationLeads set) locations → Each (LocationLeads set)
      (marked_location o locations place)
  marked_leads locations place None there h = h
  marked_leads locations place (Some l) there h =
      each_set (LocationLeads set) locations place (record l { marked = true }) h
      (each_at (LocationLeads set) locations place l h there)

  pub mark_leads : (p : Packet) → PacketLeads set p → PacketLeads set (mark_current p)
  mark_leads p h =
      marked_leads p.locations.items (p.depth - 1) (slice_get p.locations.items (p.depth - 1)) refl
      h

  shared_in : (locations : List Location) (place device : ℕ) (o : Option Location)
      → slice_get locations place ≡ o
      → Each (LocationLeads set) locations
      → Each (LocationLeads set) (shared_location o locations place device)
  shared_in locations place device None there h = h
  shared_in locations place device (Some l) there h =
      each_set (LocationLeads set) locations place (record l { device = device }) h
      (each_at (LocationLeads set) locations place l h there)

  pub shared_leads : (p : Packet) (device : ℕ) → PacketLeads set p
      → PacketLeads set (shared_with p device)
  shared_leads p device h =
      shared_in p.locations.items (p.depth - 1) device (slice_get p.locations.items (p.depth - 1))
      refl h

  copied_leads : (o : Option Location) (device : ℕ) (completion : Option Completion)
      → CompletionLeads set completion
      → LocationLeads set (copied_location o device completion)
  copied_leads None device completion h = h
  copied_leads (Some l) device completion h = h

  pub sent_leads : (p : Packet) (device : ℕ) (completion : Option Completion)
      → CompletionLeads set completion
      → PacketLeads set p → PacketLeads set (sent_down p device completion)
  sent_leads p device completion new h =
      each_set (LocationLeads set) p.locations.items p.depth
      (copied_location (current_location p) device completion) h
      (copied_leads (current_location p) device completion new)

  pub new_leads : (number device : ℕ) (major : Major) (argument stack : ℕ)
      → PacketLeads set (new_packet number device major argument stack)
  new_leads number device major argument stack =
      (tt, each_same (LocationLeads set) (stack - 1) unused_location tt)

  -- before the first event
  free_row : (devices d : ℕ) (owners : List (Option ℕ))
      → slice_get (replicate devices (replicate SPIN_LOCKS None)) d ≡ Some owners
      → length owners ≡ SPIN_LOCKS
  free_row zero d owners h = cc
  free_row (suc devices) zero owners h =
      let same : replicate SPIN_LOCKS None ≡ owners = cc in
      rw (← same) refl
  free_row (suc devices) (suc d) owners h = free_row devices d owners h

  pub unused_fits : Fits set (unused (length set.devices))
  unused_fits =
      record {
        cells = length-replicate (length set.devices) blank_cells;
        spin = length-replicate (length set.devices) (replicate SPIN_LOCKS None);
        rows = free_row (length set.devices);
        completions = tt;
        words = tt;
        queued = record {
          long = length-replicate (length set.devices) (replicate MAX_QUEUES []);
          each = each_same (QueuesFit 0) (length set.devices) (replicate MAX_QUEUES [])
              (refl, each_same (WereIssued 0) MAX_QUEUES [] tt);
        };
        starts = idle_starts set;
        few = omega arith;
      }

  -- more packets were issued
  pub queues_later : (queues : List (List (List ℕ))) (issued more : ℕ) → issued ≤ more
      → AllQueuesFit set queues issued → AllQueuesFit set queues more
  queues_later queues issued more le h =
      record {
        long = h.long;
        each = each_map (QueuesFit issued) (QueuesFit more) queues
            (λ lists fits. (
              fits.0,
              each_map (WereIssued issued) (WereIssued more) lists
                  (λ entries named. issued_later issued more le entries named) fits.1,
            )) h.each;
      }

  pub queue_put_fits : (s : Shared) (d q : ℕ) (entries after : List ℕ)
      → queue_of s d q ≡ Some entries → WereIssued s.issued after
      → AllQueuesFit set s.queues s.issued
      → AllQueuesFit set (with_queue s d q after).queues s.issued
  queue_put_fits s d q entries after there named h =
      let row : (lists : List (List ℕ)) × (slice_get s.queues d ≡ Some lists)
      × (slice_get lists q ≡ Some entries) = queue_row s d q entries there in
      let same : slice_index_or s.queues d [] ≡ row.0 =
      get_or_from_slice_get s.queues d row.0 [] row.1 in
      let fits : QueuesFit s.issued row.0 = each_at (QueuesFit s.issued) s.queues d row.0 h.each
      row.1 in
      rw same (record {
        long = length-set s.queues d (slice_set row.0 q after) ∙ h.long;
        each = each_set (QueuesFit s.issued) s.queues d (slice_set row.0 q after) h.each (
          length-set row.0 q after ∙ fits.0,
          each_set (WereIssued s.issued) row.0 q after fits.1
              named,
        );
      })

  pub queue_issued : (s : Shared) (d q : ℕ) (entries : List ℕ) → queue_of s d q ≡ Some entries
      → AllQueuesFit set s.queues s.issued → WereIssued s.issued entries
  queue_issued s d q entries there h =
      let row : (lists : List (List ℕ)) × (slice_get s.queues d ≡ Some lists)
      × (slice_get lists q ≡ Some entries) = queue_row s d q entries there in
      each_at (WereIssued s.issued) row.0 q entries
      (each_at (QueuesFit s.issued) s.queues d row.0 h.each row.1).1 row.2

  -- a lock of the system or of a device
  abbrev pub IsThere : Lock → Type 0
  IsThere SystemCancel = ⊤
  IsThere (Spin l) = (l.device < length set.devices) × (l.number < SPIN_LOCKS)

  module _ (s : Shared) (fits : Fits set s) where
    pub packet_leads : (n : ℕ) (p : Packet) → packet_of s n ≡ Some p → PacketLeads set p
    packet_leads n p there =
        each_at (PacketLeads set) s.packets (place_of s.packets n) p fits.completions there

    pub word_leads : (n : ℕ) (p : Packet) → packet_of s n ≡ Some p → WordLeads set p
    word_leads n p there =
        each_at (WordLeads set) s.packets (place_of s.packets n) p fits.words there

    pub with_packet_fits : (n : ℕ) (p : Packet) → PacketLeads set p → WordLeads set p
        → Fits set (with_packet s n p)
    with_packet_fits n p leads word =
        record {
          cells = fits.cells;
          spin = fits.spin;
          rows = fits.rows;
          completions =
              each_set (PacketLeads set) s.packets (place_of s.packets n) p fits.completions leads;
          words = each_set (WordLeads set) s.packets (place_of s.packets n) p fits.words word;
          queued = fits.queued;
          starts = fits.starts;
          few = (let few : length s.packets ≤ MAX_LIVE_PACKETS = fits.few in
              omega (arith, length-set s.packets (place_of s.packets n) p));
        }

    pub with_cells_fits : (cells : List Cells) → length cells ≡ length s.cells
        → Fits set (record s { cells = cells })
    with_cells_fits cells long =
        record {
          cells = long ∙ fits.cells;
          spin = fits.spin;
          rows = fits.rows;
          completions = fits.completions;
          words = fits.words;
          queued = fits.queued;
          starts = fits.starts;
          few = fits.few;
        }

    row : (d : ℕ) → d < length set.devices
        → slice_get s.locks.spin d ≡ Some (slice_index_or s.locks.spin d [])
    row d within =
        let long : length s.locks.spin ≡ length set.devices = fits.spin in
        slice_get-get_or s.locks.spin d [] (omega arith)

    pub owner_there : (lock : Lock) → IsThere lock → owner_of s.locks lock ≡ None → ⊥
    owner_there SystemCancel there h = cc
    owner_there (Spin l) there h =
        let owners : List (Option ℕ) = slice_index_or s.locks.spin l.device [] in
        let found : slice_get s.locks.spin l.device ≡ Some owners = row l.device there.0 in
        let eight : length owners ≡ SPIN_LOCKS = fits.rows l.device owners found in
        let small : l.number < SPIN_LOCKS = there.1 in
        let owner : slice_get owners l.number ≡ Some (slice_index_or owners l.number None) =
        slice_get-get_or owners l.number None (omega arith) in
        let none : slice_get owners l.number ≡ None = rw found at h in
        let no : None ≡ Some (slice_index_or owners l.number None) = sym none ∙ owner in
        cc

    rows_after : (d number : ℕ) (owner : Option ℕ) (e : ℕ) (owners : List (Option ℕ))
        → d < length set.devices
        → (d ≡ e) ⊎ (d ≡ e → ⊥)
        → slice_get (slice_set s.locks.spin d
        (slice_set (slice_index_or s.locks.spin d []) number owner)) e ≡ Some owners
        → length owners ≡ SPIN_LOCKS
    rows_after d number owner e owners within (inl same) h =
        let before : List (Option ℕ) = slice_index_or s.locks.spin d [] in
        let after : slice_get (slice_set s.locks.spin d (slice_set before number owner)) e
        ≡ Some (slice_set before number owner) =
        subst (λ (x : ℕ). slice_get (slice_set s.locks.spin d (slice_set before number owner)) x
        ≡ Some (slice_set before number owner)) same
        (set_same s.locks.spin d before (slice_set before number owner) (row d within))
        in
        let found : Some owners ≡ Some (slice_set before number owner) = sym h ∙ after in
        let is : owners ≡ slice_set before number owner = cc in
        ap length is ∙ length-set before number owner ∙ fits.rows d before (row d within)
    rows_after d number owner e owners within (inr apart) h =
        fits.rows e owners
        (sym (set_other s.locks.spin d e (slice_set (slice_index_or s.locks.spin d []) number owner)
        apart) ∙ h)

    pub with_owner_fits : (lock : Lock) (owner : Option ℕ) → IsThere lock
        → Fits set (with_locks s (with_owner s.locks lock owner))
    with_owner_fits SystemCancel owner there =
        record {
          cells = fits.cells;
          spin = fits.spin;
          rows = fits.rows;
          completions = fits.completions;
          words = fits.words;
          queued = fits.queued;
          starts = fits.starts;
          few = fits.few;
        }
    with_owner_fits (Spin l) owner there =
        record {
          cells = fits.cells;
          spin = length-set s.locks.spin l.device
              (slice_set (slice_index_or s.locks.spin l.device []) l.number owner)
              ∙ fits.spin;
          rows = λ e owners h. rows_after l.device l.number owner e owners there.0
              (cases_eq l.device e) h;
          completions = fits.completions;
          words = fits.words;
          queued = fits.queued;
          starts = fits.starts;
          few = fits.few;
        }

    -- a queue of a device is there, and its entries are put in place of others
    pub queue_there : (d q : ℕ) → d < length set.devices → q < MAX_QUEUES → queue_of s d q ≡ None
        → ⊥
    queue_there d q within small none =
        let long : length s.queues ≡ length set.devices = fits.queued.long in
        let lists : List (List ℕ) = slice_index_or s.queues d [] in
        let there : slice_get s.queues d ≡ Some lists = slice_get-get_or s.queues d [] (omega arith)
        in
        let four : length lists ≡ MAX_QUEUES =
        (each_at (QueuesFit s.issued) s.queues d lists fits.queued.each there).0 in
        let found : slice_get lists q ≡ Some (slice_index_or lists q []) =
        slice_get-get_or lists q [] (omega arith) in
        let nothing : slice_get lists q ≡ None = rw there at none in
        let no : None ≡ Some (slice_index_or lists q []) = sym nothing ∙ found in
        cc

    pub with_queues_fits : (queues : List (List (List ℕ))) (starts : List StartState)
        → AllQueuesFit set queues s.issued → AllStartsFit set starts s.issued
        → Fits set (record s { queues = queues; starts = starts })
    with_queues_fits queues starts queued started =
        record {
          cells = fits.cells;
          spin = fits.spin;
          rows = fits.rows;
          completions = fits.completions;
          words = fits.words;
          queued = queued;
          starts = started;
          few = fits.few;
        }
