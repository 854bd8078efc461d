-- Places for locks, by the edges between them.
use Rattle.std.specs.Prelude.{ℕ, ◌≡◌, ◌<◌, List, All, get_or}
use Rattle.verifier_orders.specs.declared.ranking.NumberedEdge.{NumberedEdge}

-- the locks of edges are among the nine
abbrev pub IsWithin : NumberedEdge → Type 0
IsWithin e = (e.held < 9) × (e.taken < 9)

abbrev pub AreWithin : List NumberedEdge → Type 0
AreWithin edges = All IsWithin edges

-- a lock has a place
abbrev pub IsAt : List ℕ → ℕ → ℕ → Type 0
IsAt places lock place = get_or places lock 0 ≡ place

-- a lock has none
abbrev pub IsNowhere : List ℕ → ℕ → Type 0
IsNowhere places lock = IsAt places lock 9

-- no edge leads to a lock from one that has no place
abbrev pub IsOpen : List NumberedEdge → List ℕ → ℕ → Type 0
IsOpen edges places lock =
    All (λ (e : NumberedEdge). e.taken ≡ lock → IsNowhere places e.held → ⊥) edges

-- a lock that has none, to which no edge leads from such a one
abbrev pub IsFree : List NumberedEdge → List ℕ → ℕ → Type 0
IsFree edges places lock = (lock < 9) × IsNowhere places lock × IsOpen edges places lock

-- to each lock without a place an edge leads from one without
abbrev pub IsStuck : List NumberedEdge → List ℕ → Type 0
IsStuck edges places =
    (lock : ℕ) → lock < 9 → IsNowhere places lock → IsOpen edges places lock → ⊥

-- there is a lock at a place
abbrev pub HasAt : List ℕ → ℕ → Type 0
HasAt places place = (lock : ℕ) × (lock < 9) × IsAt places lock place

-- there is one without
abbrev pub HasNowhere : List ℕ → Type 0
HasNowhere places = HasAt places 9

-- there is one at each of nine places
abbrev pub AreFilled : List ℕ → Type 0
AreFilled places = (place : ℕ) → place < 9 → HasAt places place

-- each edge leads to a later place, and the places are nine, of which each lock has its own
pub record AreRanked (edges : List NumberedEdge) (places : List ℕ) : Type 0 where
  pub few : (lock : ℕ) → get_or places lock 0 < 9
  pub filled : AreFilled places
  pub rises : All (λ (e : NumberedEdge). get_or places e.held 0 < get_or places e.taken 0) edges
  pub once : (lock other : ℕ) → lock < 9 → other < 9 → get_or places lock 0 ≡ get_or places other 0
      → lock ≡ other
