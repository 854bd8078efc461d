-- What contracts see of the two ends of a queue, and of a queue that is left.
use Rattle.std.specs.Prelude.{ℕ, suc, ◌≡◌, List, [], All, Some, length, slice_get}
use Rattle.std.specs.List.{sum_by}
use Rattle.atomic_table.specs.Seated.{TableId}
use Rattle.model.specs.History.{NamedCommand}
use Rattle.intake.specs.Lists.{IsInOrder, IsNumbered, weigh}

-- how many commands a queue has room for
abbrev pub room_of : TableId → ℕ
room_of queue = queue.slots

-- a submitter: its queue, its share of that queue, its number, and the commands that it put
pub record SubmitterState : Type 0 where
  pub queue : TableId
  pub share : ℕ
  pub number : ℕ
  pub put : List NamedCommand

-- a taker: its queue, its share of that queue, and the commands that it took
pub record TakerState : Type 0 where
  pub queue : TableId
  pub share : ℕ
  pub taken : List NamedCommand

-- how many shares of a queue they have
abbrev pub submitter_shares : List SubmitterState → ℕ
submitter_shares submitters = sum_by (λ (s : SubmitterState). s.share) submitters

abbrev pub taker_shares : List TakerState → ℕ
taker_shares takers = sum_by (λ (t : TakerState). t.share) takers

-- the weights of all that they put, and of all that they took
abbrev pub weigh_put : (NamedCommand → ℕ) → List SubmitterState → ℕ
weigh_put h submitters = sum_by (λ (s : SubmitterState). weigh h s.put) submitters

abbrev pub weigh_taken : (NamedCommand → ℕ) → List TakerState → ℕ
weigh_taken h takers = sum_by (λ (t : TakerState). weigh h t.taken) takers

-- all of them are of the queue
abbrev pub AreSubmittersOf : TableId → List SubmitterState → Type 0
AreSubmittersOf queue submitters = All (λ (s : SubmitterState). s.queue ≡ queue) submitters

abbrev pub AreTakersOf : TableId → List TakerState → Type 0
AreTakersOf queue takers = All (λ (t : TakerState). t.queue ≡ queue) takers

-- the names of what each submitter put count from 0, and what each taker took of one submitter
-- stands in the order of its names
abbrev pub AreNumbered : List SubmitterState → Type 0
AreNumbered submitters = All (λ (s : SubmitterState). IsNumbered s.number s.put) submitters

abbrev pub AreInOrder : List TakerState → Type 0
AreInOrder takers = All (λ (t : TakerState). IsInOrder t.taken) takers

-- a submitter of a queue that has put nothing
pub record IsNewSubmitter (queue : TableId) (number : ℕ) (s : SubmitterState) : Type 0 where
  pub of_queue : s.queue ≡ queue
  pub numbered : s.number ≡ number
  pub put_nothing : s.put ≡ []

-- a queue's new submitters, with the numbers from 0 on
pub record AreNewSubmitters (queue : TableId) (count : ℕ) (submitters : List SubmitterState)
    : Type 0 where
  pub counted : length submitters ≡ count
  pub each : (i : ℕ) (s : SubmitterState) → slice_get submitters i ≡ Some s
      → IsNewSubmitter queue i s

-- so many new submitters, with the numbers from 1 on, and a share each
pub record AreOtherSubmitters (queue : TableId) (count : ℕ) (submitters : List SubmitterState)
    : Type 0 where
  pub counted : length submitters ≡ count
  pub each : (i : ℕ) (s : SubmitterState) → slice_get submitters i ≡ Some s
      → IsNewSubmitter queue (suc i) s
  pub shared : submitter_shares submitters ≡ count

-- a queue's new takers, which have taken nothing
pub record IsNewTaker (queue : TableId) (t : TakerState) : Type 0 where
  pub of_queue : t.queue ≡ queue
  pub taken_nothing : t.taken ≡ []

pub record AreNewTakers (queue : TableId) (count : ℕ) (takers : List TakerState) : Type 0 where
  pub counted : length takers ≡ count
  pub each : (i : ℕ) (t : TakerState) → slice_get takers i ≡ Some t → IsNewTaker queue t
  pub shared : taker_shares takers ≡ count

-- a queue that is left to one thread: all commands that were put into it, and all that were taken
pub record LeftState : Type 0 where
  pub put : List NamedCommand
  pub taken : List NamedCommand
