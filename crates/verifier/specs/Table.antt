-- What the table of the pass says, and how it grows.
use Rattle.std.specs.Prelude.{ℕ, ◌≡◌, ◌≢◌, ◌<◌, ◌⊎◌, Bool, true, false, List, [], ◌∷◌, length, slice_set, slice_index_or, if◌then◌else◌}
use Rattle.model.specs.declared.abs.Abs.{Abs}
use Rattle.model.specs.declared.instr.Instr.{Instr}
use Rattle.model.specs.declared.instr.Instr.TheVariants.{Remove, Disarm, Take, IfPending}
use Rattle.model.specs.Set.{Flow, Onward, Branches, Jumps, Opens, Closes, Leaves}
use Rattle.verifier.specs.declared.seen.Arrivals.{Arrivals}
use Rattle.verifier.specs.declared.seen.Arrivals.TheVariants.{Missing, Alone, Differing}
use Rattle.verifier.specs.declared.seen.Seen.{Seen}
use Rattle.verifier.specs.declared.seen.Seen.TheVariants.{Nothing, One, Several}

-- which of the states of a family there are: none, one alone, or two that differ
abbrev pub Describes : Seen → (Abs → Type 0) → Type 0
Describes Nothing P = (s : Abs) → P s → ⊥
Describes (One s) P = P s × ((other : Abs) → P other → other ≡ s)
Describes Several P = (one : Abs) × (other : Abs) × P one × P other × (one ≢ other)

-- what has been seen when one state more arrives
abbrev pub IsJoined : Seen → Abs → Seen → Type 0
IsJoined Nothing s new = new ≡ One s
IsJoined (One first) s new = ((first ≡ s) × (new ≡ One first)) ⊎ ((first ≢ s) × (new ≡ Several))
IsJoined Several s new = new ≡ Several

-- a table after a state has arrived at a position
pub record IsNoted (old : List Seen) (to : ℕ) (s : Abs) (new : List Seen) : Type 0 where
  pub long : length new ≡ length old
  pub here : to < length old
      → IsJoined (slice_index_or old to Nothing) s (slice_index_or new to Nothing)
  pub others : (p : ℕ) → p ≢ to → slice_index_or new p Nothing ≡ slice_index_or old p Nothing

-- a table after an instruction at a position: it keeps the state that arrives at the label, and at
-- a loop's start the one before it
abbrev pub IsKept : Flow → ℕ → Abs → Abs → List Seen → List Seen → Type 0
IsKept Onward at before jump old new = new ≡ old
IsKept (Branches label) at before jump old new = IsNoted old label jump new
IsKept (Jumps label) at before jump old new = IsNoted old label jump new
IsKept (Opens turns) at before jump old new = new ≡ slice_set old at (One before)
IsKept Closes at before jump old new = new ≡ old
IsKept Leaves at before jump old new = new ≡ old

-- the state at the label of an instruction may be another one than that before it
abbrev pub changes_at_label : Instr → Bool
changes_at_label (Remove r queue label) = true
changes_at_label (Disarm r label) = true
changes_at_label (Take r label) = true
changes_at_label (IfPending r label) = true
changes_at_label _ = false

-- what arrives at the next position: the next state, if there is one, and what jumps have led there
abbrev pub IsArrived : Flow → Abs → Seen → Seen → Type 0
IsArrived Onward next there new = IsJoined there next new
IsArrived (Branches label) next there new = IsJoined there next new
IsArrived (Jumps label) next there new = new ≡ there
IsArrived (Opens turns) next there new = IsJoined there next new
IsArrived Closes next there new = IsJoined there next new
IsArrived Leaves next there new = new ≡ there

-- what has been seen at the position of the pass
abbrev pub seen_of : Arrivals → Abs → Seen
seen_of Missing state = Nothing
seen_of Alone state = One state
seen_of Differing state = Several

-- what has been seen at positions of which some are noted: nothing at the others, whatever is kept
-- there
abbrev pub seen_where : List Bool → List Seen → List Seen
seen_where [] kept = []
seen_where (b ∷ bs) [] = Nothing ∷ seen_where bs []
seen_where (b ∷ bs) (seen ∷ kept) = (if b then seen else Nothing) ∷ seen_where bs kept
