-- The rule of the queue: what it contains, and what each pass knows.
use Rattle.std.specs.Prelude.{ℕ, ◌≡◌, ◌<◌, ◌≤◌, ◌+◌, ◌-◌, ◌++◌, List, [], ◌∷◌, All, length}
use Rattle.std.specs.List.{sum_by}
use mathlib.Core.Option.{some}
use lib.ListN.{get_elem?}
use Rattle.model.specs.History.{NamedCommand}
use Rattle.intake.specs.declared.limits.TheConstants.{SHARES}
use Rattle.intake.specs.declared.rule.Hand.{Hand}
use Rattle.intake.specs.Lists.{IsEarlier, IsInOrder, weigh}

-- all shares of a queue, which its passes have among them
abbrev pub all_shares : ℕ
all_shares = SHARES

-- the first pass has all shares
abbrev pub first_hand : Hand
first_hand = record { number = 0; passes = 1; shares = all_shares; put = []; taken = [] }

-- a new pass has one share of the pass that it is cut from, and the next number
abbrev pub cut_from : Hand → Hand
cut_from v = record v { passes = v.passes + 1; shares = v.shares - 1 }

abbrev pub cut_off : Hand → Hand
cut_off v = record { number = v.passes; passes = 0; shares = 1; put = []; taken = [] }

-- the first pass after so many were cut off it
abbrev pub first_after : ℕ → Hand
first_after cut =
    record { number = 0; passes = cut + 1; shares = all_shares - cut; put = []; taken = [] }

-- a pass takes in what another knows, and its shares; then that one has none
abbrev pub joined : Hand → Hand → Hand
joined v w =
    record v { shares = v.shares + w.shares; put = v.put ++ w.put; taken = v.taken ++ w.taken }

abbrev pub spent : Hand
spent = record { number = 0; passes = 0; shares = 0; put = []; taken = [] }

-- a pass that was not used yet
abbrev pub IsUnused : Hand → Type 0
IsUnused v = (0 < v.shares) × (v.put ≡ []) × (v.taken ≡ [])

-- a command is put
abbrev pub Put : Hand → NamedCommand → Hand → Type 0
Put v x w = w ≡ record v { put = v.put ++ x ∷ [] }

-- a command is taken, after all of its submitter that were taken before by the same taker
abbrev pub Take : Hand → NamedCommand → Hand → Type 0
Take v x w =
    (w ≡ record v { taken = v.taken ++ x ∷ [] }) × All (λ y. IsEarlier y x) v.taken

-- with all shares: what was put is what was taken and what the queue contains
abbrev pub Adds : Hand → List NamedCommand → Type 0
Adds v items =
    v.shares ≡ all_shares → (h : NamedCommand → ℕ)
    → weigh h v.put ≡ weigh h v.taken + weigh h items

-- a command's count is below what `counts` has for its submitter
abbrev pub IsCounted : (ℕ → ℕ) → NamedCommand → Type 0
IsCounted counts x = x.name.count < counts x.name.submitter

abbrev pub AreCounted : (ℕ → ℕ) → List NamedCommand → Type 0
AreCounted counts commands = All (IsCounted counts) commands

-- a command is earlier than all of its submitter in a list
abbrev pub IsBefore : List NamedCommand → NamedCommand → Type 0
IsBefore items x = All (IsEarlier x) items

-- what the rule says of the pass of a number. Here `passes` is how many there are, and `counts` is
-- how many commands each submitter has put
pub record Fits (items : List NamedCommand) (passes : ℕ) (counts : ℕ → ℕ) (number : ℕ) (v : Hand)
    : Type 0 where
  -- what it took was put before what the queue contains
  pub counted : AreCounted counts v.taken
  pub earlier : All (IsBefore items) v.taken
  -- a pass with a share knows its number, and has all that it put; the first counts the passes
  pub numbered : 0 < v.shares → v.number ≡ number
  pub puts_counted : 0 < v.shares → counts number ≤ length v.put
  pub passes_counted : 0 < v.shares → number ≡ 0 → v.passes ≡ passes
  -- a pass without shares has put and taken nothing
  pub put_nothing : v.shares ≡ 0 → v.put ≡ []
  pub taken_nothing : v.shares ≡ 0 → v.taken ≡ []

-- the rule: the shares are all there are; what was put is what was taken and what the queue
-- contains, in which the commands of each submitter stand in order
pub record IsFair (items : List NamedCommand) (views : List Hand) : Type 0 where
  pub shares : sum_by (λ (v : Hand). v.shares) views ≡ all_shares
  pub balanced : (h : NamedCommand → ℕ)
      → sum_by (λ (v : Hand). weigh h v.put) views
      ≡ sum_by (λ (v : Hand). weigh h v.taken) views + weigh h items
  pub counts : ℕ → ℕ
  pub counted : AreCounted counts items
  pub in_order : IsInOrder items
  pub uncounted : (number : ℕ) → length views ≤ number → counts number ≡ 0
  pub each : (number : ℕ) (v : Hand) → get_elem? views number ≡ some v
      → Fits items (length views) counts number v
