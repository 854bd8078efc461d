-- Plays that go on by one step, each.
use Rattle.std.specs.Prelude.{ℕ, ◌≡◌, ◌<◌, ◌≤◌, ◌⊎◌, Bool, true, false, List, [], Option, None, Some, length, slice_get}
use Rattle.model.specs.Sound.{IsSound}
use Rattle.model.specs.Typable.{IsTypable}
use Rattle.scenario_run.specs.Acting.{acted, passes}
use Rattle.scenario_steps.specs.Judging.{expects_audit}
use Rattle.scenario_run.specs.Playing.{Playing}
use Rattle.scenario_steps.specs.declared.scenario.Step.{Step}
use Rattle.scenario_together.specs.Interleaving.{AreMany, IsEnd, MeetFew, behind}
use Rattle.scenario_together.specs.Likeness.{IsLike}
use Rattle.scenario_together.specs.Plays.{AllPass, AreThere, Comes, FailsBy, FailsSo, IsMissing, Leads, Passes, Plays}
use Rattle.scenario_together.specs.Together.{AreEnds, GoWell, IsFailing}
use Rattle.scenario_together.specs.declared.play.Failure.{Failure}
use Rattle.scenario_together.specs.declared.play.Joined.{Joined}
use Rattle.scenario_together.specs.declared.play.Joined.TheVariants as joined
use Rattle.scenario_together.specs.declared.play.Played.{Played}

-- one of some plays
pub record IsAmong (plays : List Playing) (q : Playing) : Type 0 where
  pub number : ℕ
  pub there : slice_get plays number ≡ Some q

-- and one that is like it
pub record HasLike (merges : Bool) (plays : List Playing) (q : Playing) : Type 0 where
  pub like : Playing
  pub among : IsAmong plays like
  pub same : IsLike merges like q

-- plays cover steps: they lead to each of these, and what they lead to is like one of these; so far
-- all pass
pub record Covers (merges : Bool) (p : Playing) (steps : List Step) (plays : List Playing) : Type 0
  where
    pub pass : AllPass p steps
    pub sound : (q : Playing) → IsAmong plays q → Comes p steps q
    pub all : (q : Playing) → Comes p steps q → HasLike merges plays q

-- those before a place have done what a step does, and passed; the others stand as they were
pub record ActsUpTo (step : Step) (before after : List Playing) (place : ℕ) : Type 0 where
  pub long : length after ≡ length before
  pub acted_on : (k : ℕ) (q : Playing) → k < place → slice_get before k ≡ Some q
      → slice_get after k ≡ Some (acted q step.action).now
  pub pass : (k : ℕ) (q : Playing) → k < place → slice_get before k ≡ Some q
      → passes step.may (acted q step.action).outcome ≡ true
  pub rest : (k : ℕ) → place ≤ k → slice_get after k ≡ slice_get before k

-- each has done what a step does, up to the first that fails
pub record ActedOn (step : Step) (before after : List Playing) : Type 0 where
  pub long : length after ≡ length before
  pub acted_on : (k : ℕ) (q : Playing) → slice_get before k ≡ Some q
      → slice_get after k ≡ Some (acted q step.action).now
  pub pass : (q : Playing) → IsAmong before q
      → passes step.may (acted q step.action).outcome ≡ true

pub record FailsIn (step : Step) (before after : List Playing) (place : ℕ) : Type 0 where
  pub play : Playing
  pub there : slice_get before place ≡ Some play
  pub now : slice_get after place ≡ Some (acted play step.action).now
  pub fails : passes step.may (acted play step.action).outcome ≡ false

abbrev pub ActedAll : Step → List Playing → List Playing → Option ℕ → Type 0
ActedAll step before after None = ActedOn step before after
ActedAll step before after (Some place) = FailsIn step before after place

-- the named threads of each were run together, with so many worlds at most: these are the ends
pub record JoinedOn (merges : Bool) (named : List Bool) (worlds : ℕ) (plays ends : List Playing)
    : Type 0 where
  pub there : (p : Playing) → IsAmong plays p → AreThere named p
  pub well : (p : Playing) → IsAmong plays p → GoWell named p
  pub few : (p : Playing) → IsAmong plays p → MeetFew named worlds p
  pub sound : (q : Playing) → IsAmong ends q
      → (p : Playing) × IsAmong plays p × (path : List ℕ) × IsEnd named p path × (q ≡ behind p path)
  pub all : (p : Playing) (path : List ℕ) → IsAmong plays p → IsEnd named p path
      → HasLike merges ends (behind p path)

-- all threads that are named are there, or one isn't
abbrev pub ThereIf : Bool → List Bool → Playing → Type 0
ThereIf true named p = AreThere named p
ThereIf false named p = IsMissing named p

-- or it fails in one of them, or more worlds were met than may be
pub record FailsJoined (named : List Bool) (step : Step) (plays : List Playing) (now : Playing)
    : Type 0 where
  pub play : Playing
  pub among : IsAmong plays play
  pub fails : FailsBy play step (Some named) now

abbrev pub JoinedOne : Bool → List Bool → ℕ → Playing → Joined → Type 0
JoinedOne merges named worlds p (joined.Ends ends) =
    AreThere named p × AreEnds merges named p ends.items × MeetFew named worlds p
JoinedOne merges named worlds p (joined.Fails now) =
    IsFailing named p now ⊎ (IsMissing named p × (now ≡ p))
JoinedOne merges named worlds p (joined.More now) = AreMany named worlds p × (now ≡ p)

abbrev pub JoinedAll : Bool → List Bool → ℕ → Step → List Playing → Joined → Type 0
JoinedAll merges named worlds step plays (joined.Ends ends) =
    JoinedOn merges named worlds plays ends.items
JoinedAll merges named worlds step plays (joined.Fails now) = FailsJoined named step plays now
JoinedAll merges named worlds step plays (joined.More now) =
    IsAmong plays now × AreMany named worlds now

-- a step of each of some plays leads to these
pub record Moves (merges : Bool) (step : Step) (plays next : List Playing) : Type 0 where
  pub pass : (r : Playing) → IsAmong plays r → Passes r step
  pub sound : (q : Playing) → IsAmong next q
      → (r : Playing) × IsAmong plays r × Leads r step q
  pub all : (r q : Playing) → IsAmong plays r → Leads r step q → HasLike merges next q

-- what is known of the set of such plays
pub record Known (merges : Bool) (step : Step) (r : Playing) : Type 0 where
  pub sound : IsSound r.set
  pub typable : merges ≡ true → expects_audit step.action ≡ true → IsTypable r.set

-- where plays that go on alike are taken for one, an audit is asked for over an accepted set alone
abbrev pub MayMerge : Bool → List Step → Playing → Type 0
MayMerge merges steps p =
    merges ≡ true → (k : ℕ) (step : Step) → slice_get steps k ≡ Some step
    → expects_audit step.action ≡ true → IsTypable p.set

-- a step fails in one of some plays, and leaves another
pub record StopsIn (more : Bool) (step : Step) (plays : List Playing) (now : Playing) : Type 0 where
  pub play : Playing
  pub among : IsAmong plays play
  pub fails : FailsSo more play step now

-- so a step leaves plays: they go on, or it fails in one of them and the scenario is over
abbrev pub StopsAt : Step → List Playing → Playing → Option Failure → Type 0
StopsAt step plays now None = ⊥
StopsAt step plays now (Some failure) =
    (failure.step ≡ step) × StopsIn failure.more step plays now

abbrev pub Leaves : Bool → Step → List Playing → List Playing → Option Played → Type 0
Leaves merges step plays next None = Moves merges step plays next
Leaves merges step plays next (Some played) = StopsAt step plays played.now played.failed

-- and so do several, from one play on
abbrev pub LeavesAll : Bool → List Step → Playing → List Playing → Option Played → Type 0
LeavesAll merges steps p plays None = Covers merges p steps plays
LeavesAll merges steps p plays (Some played) = Plays p steps played

-- the first of some plays, if there is one
abbrev pub IsFirstOr : List Playing → Playing → Type 0
IsFirstOr plays first = (plays ≡ []) ⊎ (slice_get plays 0 ≡ Some first)
