-- Nodes in rings: a list that has for each node the one after it in its ring.
use Rattle.std.specs.Prelude.{◌≡◌, ◌<◌, ◌^◌, ℕ, List, length, nat_eq, slice_index_or, if◌then◌else◌}

-- the node after a node
abbrev pub after : List ℕ → ℕ → ℕ
after nodes n = slice_index_or nodes n n

-- what is after a node where a node has left its ring and is alone
abbrev pub after_left : (ℕ → ℕ) → ℕ → ℕ → ℕ
after_left next node n =
    if nat_eq n node then node else if nat_eq (next n) node then next node else next n

-- what is after a node where a node that was alone stands before another one
abbrev pub after_joined : (ℕ → ℕ) → ℕ → ℕ → ℕ → ℕ
after_joined next node place n =
    if nat_eq n node then place else if nat_eq (next n) place then node else next n

-- a node has left its ring, and is alone
pub record HasLeft (old : List ℕ) (node : ℕ) (new : List ℕ) : Type 0 where
  pub count : length new ≡ length old
  pub nodes : (n : ℕ) → after new n ≡ after_left (after old) node n

-- a node that was alone stands before another one in its ring
pub record HasJoined (old : List ℕ) (node place : ℕ) (new : List ℕ) : Type 0 where
  pub count : length new ≡ length old
  pub nodes : (n : ℕ) → after new n ≡ after_joined (after old) node place n

-- each node is alone
pub record AreAlone (many : ℕ) (rings : List ℕ) : Type 0 where
  pub count : length rings ≡ many
  pub nodes : (n : ℕ) → after rings n ≡ n

-- one list leads back from where the other leads, and there are less than 2^32 nodes
pub record AreInverse (next previous : List ℕ) : Type 0 where
  pub fits : length next < 2 ^ 32
  pub count : length previous ≡ length next
  pub back : (n : ℕ) → after previous (after next n) ≡ n
  pub forth : (n : ℕ) → after next (after previous n) ≡ n
