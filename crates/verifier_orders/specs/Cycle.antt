-- Cycles of edges: edges that lead from a lock on until they come back to it.
use Rattle.std.specs.Prelude.{ℕ, ◌≡◌, ◌<◌, ◌+◌, ◌↔◌, Bool, true, false, List, [], ◌∷◌, All, Some, get_or, length, slice_get, suc, zero}
use Rattle.verifier_orders.specs.declared.ranking.NumberedEdge.{NumberedEdge}

-- an edge is one of some
abbrev pub IsAmong : List NumberedEdge → NumberedEdge → Type 0
IsAmong edges e = (k : ℕ) × (slice_get edges k ≡ Some e)

-- the first of some edges of which something holds
pub record IsFirstOf (edges : List NumberedEdge) (P : NumberedEdge → Type 0) (e : NumberedEdge)
    : Type 0 where
  pub place : ℕ
  pub there : slice_get edges place ≡ Some e
  pub is : P e
  pub before : (k : ℕ) (d : NumberedEdge) → k < place → P (get_or edges k d) → ⊥

-- it holds of none
abbrev pub OfNone : List NumberedEdge → (NumberedEdge → Type 0) → Type 0
OfNone edges P = All (λ (e : NumberedEdge). P e → ⊥) edges

-- so many edges lead from a lock to another
abbrev pub HasWay : List NumberedEdge → ℕ → ℕ → ℕ → Type 0
HasWay edges from to zero = from ≡ to
HasWay edges from to (suc more) =
    (e : NumberedEdge) × IsAmong edges e × (e.held ≡ from) × HasWay edges e.taken to more

-- the locks from which so many lead to one
abbrev pub AreBehind : List NumberedEdge → ℕ → ℕ → List Bool → Type 0
AreBehind edges to count locks =
    (lock : ℕ) → lock < 9 → (get_or locks lock false ≡ true) ↔ HasWay edges lock to count

-- an edge leads from a lock to one of some
abbrev pub LeadsOn : List Bool → ℕ → NumberedEdge → Type 0
LeadsOn ahead lock e = (e.held ≡ lock) × (get_or ahead e.taken false ≡ true)

-- the locks from which an edge leads to one of some
abbrev pub AreOneBack : List NumberedEdge → List Bool → List Bool → Type 0
AreOneBack edges ahead locks =
    (lock : ℕ) → lock < 9
    → (get_or locks lock false ≡ true)
    ↔ ((e : NumberedEdge) × IsAmong edges e × LeadsOn ahead lock e)

-- so many edges lead back from an edge to the lock under which it takes its own
abbrev pub Returns : List NumberedEdge → ℕ → NumberedEdge → Type 0
Returns edges more e = HasWay edges e.taken e.held more

-- an edge from a lock, from which so many lead to another
abbrev pub Approaches : List NumberedEdge → ℕ → ℕ → ℕ → NumberedEdge → Type 0
Approaches edges to more lock e = (e.held ≡ lock) × HasWay edges e.taken to more

-- edges that lead from a lock on, each the first from which it is so far to another lock
abbrev pub AreFirst : List NumberedEdge → ℕ → ℕ → ℕ → List NumberedEdge → ℕ → Type 0
AreFirst edges to left lock [] at = lock ≡ at
AreFirst edges to left lock (e ∷ way) at =
    IsFirstOf edges (Approaches edges to (length way + left) lock) e
    × AreFirst edges to left e.taken way at

-- an edge with so many that lead back from it
pub record LeadsBack (edges : List NumberedEdge) (first : NumberedEdge) (more : ℕ)
    (cycle : List NumberedEdge) : Type 0 where
  pub rest : List NumberedEdge
  pub parts : cycle ≡ first ∷ rest
  pub long : length rest ≡ more
  pub on : AreFirst edges first.held 0 first.taken rest first.held

-- a cycle of edges: none is shorter, and each edge is the first that can be
pub record IsLeastCycle (edges cycle : List NumberedEdge) : Type 0 where
  pub first : NumberedEdge
  pub rest : List NumberedEdge
  pub parts : cycle ≡ first ∷ rest
  pub begins : IsFirstOf edges (Returns edges (length rest)) first
  pub on : AreFirst edges first.held 0 first.taken rest first.held
  pub shortest : (more : ℕ) → more < length rest → OfNone edges (Returns edges more)

-- edges from a lock to another: each takes the lock under which the next one is taken
abbrev pub LeadFrom : ℕ → List NumberedEdge → ℕ → Type 0
LeadFrom lock [] to = lock ≡ to
LeadFrom lock (e ∷ edges) to = (e.held ≡ lock) × LeadFrom e.taken edges to
