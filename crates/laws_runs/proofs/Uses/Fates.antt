-- How the use of a packet's location was left, or will be: marked, where its location is marked, or
-- one under it whose mark will be carried up to it.
use Rattle.laws_runs.proofs.Common.{All, Bool, List, None, Option, Some, [], false, if◌then◌else◌, length, nat_eq, nat_lt, slice_get, true, ℕ, ⊤, ◌+◌, ◌<◌, ◌||◌, ◌∷◌, ◌≡◌, ◌≤◌, ◌⊎◌, depth, stack_size, marks_left, was_marked, Entry, Serving, uses, uses_opened, World, completion_of, is_marked, Settled, NeedMark, Open, SettledMark, Frame, Routine, Walk, Location, Packet, Thread, States}
use Rattle.laws_runs.proofs.Past.LivePackets.{find}

-- the mark that a use of one of these locations will have: its location's, or one from below; the
-- uses are those down to the current one, the current one first
abbrev pub fate_in : List ℕ → List Location → Bool → ℕ → Option Bool
fate_in [] locations below u = None
fate_in (v ∷ upper) locations below u =
    if nat_eq v u
    then Some (below || is_marked (slice_get locations (length upper)))
    else fate_in upper locations (below || is_marked (slice_get locations (length upper))) u

-- 1 where a completion routine has still to carry a mark up: it has seen Irp->PendingReturned, or
-- will see it
abbrev pub late_mark : Bool → Settled → ℕ
late_mark returned Open = if returned then 1 else 0
late_mark returned NeedMark = 1
late_mark returned SettledMark = 0

abbrev pub late_on : States → Bool → ℕ → Option Frame → Frame → ℕ
late_on states returned n (Some (Walk m)) (Routine a) =
    if nat_eq m n then late_mark returned (states a.driver a.routine a.position).settled else 0
late_on states returned n _ f = 0

abbrev pub late_in : States → Bool → ℕ → Option Frame → List Frame → ℕ
late_in states returned n under [] = 0
late_in states returned n under (f ∷ frames) =
    late_on states returned n under f + late_in states returned n (Some f) frames

abbrev pub late_marks : States → Bool → ℕ → List Thread → ℕ
late_marks states returned n [] = 0
late_marks states returned n (thread ∷ threads) =
    late_in states returned n None thread.frames.items + late_marks states returned n threads

-- of a live packet, by its number
abbrev pub fate : States → World → List Entry → ℕ → Packet → ℕ → Option Bool
fate states w past n p u =
    fate_in (uses past n) p.locations.items
    (nat_lt 0 (late_marks states p.pending_returned n w.threads)) u

-- a use was left as b says, and will be left so: marked, or unmarked by a packet that is on its way
-- up
pub record Agreed (states : States) (w : World) (past : List Entry) (v : Serving) (b : Bool) : Type
    0 where
  pub opened : v.«use» < uses_opened past
  pub left : All (λ marked. marked ≡ b) (marks_left past v)
  pub stands : (p : Packet) (marked : Bool) → find w.shared.packets v.packet ≡ Some p
      → fate states w past v.packet p v.«use» ≡ Some marked
      → (marked ≡ b) × ((b ≡ true) ⊎ (p.completing ≡ true))

-- a use of a packet, by its number
abbrev pub nth_use : ℕ → ℕ → Serving
nth_use n u = record { packet = n; «use» = u }

-- uses in the order in which they were opened, the last one first, all before a number
abbrev pub Falls : ℕ → List ℕ → Type 0
Falls bound [] = ⊤
Falls bound (u ∷ upper) = (u < bound) × Falls u upper

-- none of these uses was left
abbrev pub Unleft : List Entry → ℕ → List ℕ → Type 0
Unleft past n [] = ⊤
Unleft past n (u ∷ upper) = (marks_left past (nth_use n u) ≡ []) × Unleft past n upper

-- each location is marked as the trace says
abbrev pub MarksTell : List Entry → ℕ → List ℕ → List Location → Type 0
MarksTell past n [] locations = ⊤
MarksTell past n (u ∷ upper) locations =
    (is_marked (slice_get locations (length upper)) ≡ was_marked past (nth_use n u))
    × MarksTell past n upper locations

-- what a trace says of uses, whatever packets are live
pub record Traced (past : List Entry) : Type 0 where
  pub falls : (n : ℕ) → Falls (uses_opened past) (uses past n)
  pub depths : (n : ℕ) → depth past n ≡ length (uses past n)
  pub never_left : (v : Serving) → uses_opened past < v.«use» + 1 → marks_left past v ≡ []
  pub never_marked : (v : Serving) → uses_opened past < v.«use» + 1 → was_marked past v ≡ false

-- what a live packet and the trace tell of each other
pub record PacketUses (past : List Entry) (n : ℕ) (p : Packet) : Type 0 where
  pub deep : length (uses past n) ≡ p.depth
  pub some : 1 ≤ p.depth
  pub rooted : completion_of (slice_get p.locations.items 0) ≡ None
  pub within : p.depth ≤ length p.locations.items
  pub sized : stack_size past n ≤ length p.locations.items
  pub unleft : Unleft past n (uses past n)
  pub marks : MarksTell past n (uses past n) p.locations.items

pub record UsesTell (w : World) (past : List Entry) : Type 0 where
  pub traced : Traced past
  pub live : (n : ℕ) (p : Packet) → find w.shared.packets n ≡ Some p → PacketUses past n p

-- one use stands directly above another one, and its location is unmarked
abbrev pub WaitsAbove : List ℕ → List Location → ℕ → ℕ → Type 0
WaitsAbove [] locations u lower = ⊥
WaitsAbove (x ∷ []) locations u lower = ⊥
WaitsAbove (x ∷ y ∷ upper) locations u lower =
    ((x ≡ lower) × (y ≡ u) × (is_marked (slice_get locations (length upper)) ≡ false))
    ⊎ WaitsAbove (y ∷ upper) locations u lower

-- a use of a live packet waits for the mark of the one below it
pub record Waits (w : World) (past : List Entry) (v lower : Serving) : Type 0 where
  pub packet : lower.packet ≡ v.packet
  pub live : Packet
  pub there : find w.shared.packets v.packet ≡ Some live
  pub above : WaitsAbove (uses past v.packet) live.locations.items v.«use» lower.«use»

-- a use was left so, and what it was left with is agreed on for the one above it
pub record Followed (states : States) (w : World) (past : List Entry) (v lower : Serving) : Type 0
  where
    pub marked : Bool
    pub turn : ℕ
    pub left : slice_get (marks_left past lower) turn ≡ Some marked
    pub agreed : Agreed states w past v marked

-- what is agreed on for one use is agreed on for another one: itself, or the one that it was called
-- from
abbrev pub Linked : States → World → List Entry → Serving → Serving → Type 0
Linked states w past v lower = (v ≡ lower) ⊎ (Waits w past v lower ⊎ Followed states w past v lower)
