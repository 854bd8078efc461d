-- What is read of two worlds by the numbers of packets, locks, devices and cells, and is the same in
-- both.
use Rattle.std.specs.Prelude.{ℕ, ◌≡◌, ◌<◌, Option, option_map, slice_get, slice_index_or}
use Rattle.model.specs.declared.event.Lock.TheVariants.{Spin}
use Rattle.model.specs.declared.limits.TheConstants.{CELLS, SPIN_LOCKS}
use Rattle.model.specs.declared.world.Cells.{Cells}
use Rattle.model.specs.World.{Locks, Shared, is_queued, owner_of, packet_of}

-- the number in a plain and in a paged cell of a device, if there is such a device
abbrev pub plain_at : Shared → ℕ → ℕ → Option ℕ
plain_at s device cell =
    option_map (λ (c : Cells). slice_index_or c.plain cell 0) (slice_get s.cells device)

abbrev pub paged_at : Shared → ℕ → ℕ → Option ℕ
paged_at s device cell =
    option_map (λ (c : Cells). slice_index_or c.paged cell 0) (slice_get s.cells device)

-- the same number in a cell of one and of another
abbrev pub SamePlain : Shared → Shared → ℕ → ℕ → Type 0
SamePlain s r device cell = plain_at s device cell ≡ plain_at r device cell

abbrev pub SamePaged : Shared → Shared → ℕ → ℕ → Type 0
SamePaged s r device cell = paged_at s device cell ≡ paged_at r device cell

-- the same numbers in the first cells of a device, and in all cells of the first devices
abbrev pub CellsBelow : Shared → Shared → ℕ → ℕ → Type 0
CellsBelow s r device n =
    (c : ℕ) → c < n → SamePlain s r device c × SamePaged s r device c

abbrev pub SameCells : Shared → Shared → ℕ → Type 0
SameCells s r devices = (d : ℕ) → d < devices → CellsBelow s r d CELLS

-- the same owners of the first locks of a device, and of all locks of the first devices
abbrev pub LocksBelow : Locks → Locks → ℕ → ℕ → Type 0
LocksBelow s r device n =
    (k : ℕ) → k < n
    → owner_of s (Spin (record { device = device; number = k }))
    ≡ owner_of r (Spin (record { device = device; number = k }))

abbrev pub SameLocks : Locks → Locks → ℕ → Type 0
SameLocks s r devices = (d : ℕ) → d < devices → LocksBelow s r d SPIN_LOCKS

-- the same live packets of the first numbers
abbrev pub SamePackets : Shared → Shared → ℕ → Type 0
SamePackets s r n = (k : ℕ) → k < n → packet_of s k ≡ packet_of r k

-- the same DPCs of the first devices are queued
abbrev pub SameDpcs : Shared → Shared → ℕ → Type 0
SameDpcs s r n = (k : ℕ) → k < n → is_queued s k ≡ is_queued r k

-- all that two worlds share is read the same, of so many devices
pub record SameReads (s r : Shared) (devices : ℕ) : Type 0 where
  pub issued : s.issued ≡ r.issued
  pub packets : SamePackets s r s.issued
  pub system_cancel : s.locks.system_cancel ≡ r.locks.system_cancel
  pub spin : SameLocks s.locks r.locks devices
  pub cells : SameCells s r devices
  pub queues : s.queues ≡ r.queues
  pub starts : s.starts ≡ r.starts
  pub dpcs : SameDpcs s r devices
