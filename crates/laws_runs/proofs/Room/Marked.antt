-- Who owns a packet owns one whose current location is marked; so a location is marked under which
-- a completion routine is stored that may hold the packet.
use Rattle.laws_runs.proofs.Prelude.{Some, slice_get, suc, true, ℕ, ◌<◌, ◌≡◌, sort_of_completion, Set, completion_of, is_marked, Hold, Completion, Packet}

-- each location of a packet that is above one with such a routine, down to the current one
abbrev pub LentMarked : Set → Packet → Type 0
LentMarked set p =
    (k : ℕ) (c : Completion) → suc k < p.depth
    → completion_of (slice_get p.locations.items (suc k)) ≡ Some c → sort_of_completion set c ≡ Hold
    → is_marked (slice_get p.locations.items k) ≡ true
