-- The takers of workers: when they are new, when they come back, and when they left their queue.
use Rattle.std.proofs.Common.{◌≡◌, ◌<◌, ◌+◌, ℕ, zero, suc, List, [], ◌∷◌, Some, get_or, length, refl, ◌∙◌, arith}
use Rattle.std.specs.Prelude.{slice_get}
use Rattle.std.proofs.lemmas.List.Sums.{sum_by-cons}
use Rattle.std.proofs.lemmas.Option.{slice_get-get_or}
use Rattle.hostcore.specs.Core.{CoreState}
use Rattle.intake.specs.Ends.{AreNewTakers, AreTakersOf, TakerState, taker_shares, weigh_taken}
use Rattle.intake.specs.Lists.{weigh}
use Rattle.model.specs.History.{NamedCommand}
use Rattle.workers.specs.declared.served.Served.{Served}
use Rattle.workers.specs.Serves.{Serves}

-- new takers are of their queue, have taken nothing, and are as many as were asked for
pub new_of_queue : (queue : _) (count : ℕ) (takers : List TakerState)
    → AreNewTakers queue count takers → AreTakersOf queue takers
new_of_queue queue count takers new i d within =
    (new.each i (get_or takers i d) (slice_get-get_or takers i d within)).of_queue

-- takers with the same shares have as many
same_shares : (before after : List TakerState) → length after ≡ length before
    → ((i : ℕ) (b a : TakerState) → slice_get before i ≡ Some b → slice_get after i ≡ Some a
    → a.share ≡ b.share)
    → taker_shares after ≡ taker_shares before
same_shares [] [] long each = refl
same_shares [] (a ∷ after) long each = absurd (omega (arith, long))
same_shares (b ∷ before) [] long each = absurd (omega (arith, long))
same_shares (b ∷ before) (a ∷ after) long each =
    omega (
      arith,
      each zero b a refl refl,
      same_shares before after (omega (arith, long)) (λ i. each (suc i)),
      sum_by-cons (λ (t : TakerState). t.share) b before,
      sum_by-cons (λ (t : TakerState). t.share) a after,
    )

module _ (began : CoreState) (takers : List TakerState) (ended : Served)
    (s : Serves began takers ended) where
  -- the takers that come back are of the same queue
  pub served_of_queue : (queue : _) → AreTakersOf queue takers
      → AreTakersOf queue ended.takers.items
  served_of_queue queue are i d within =
      let before : i < length takers = omega (arith, within, s.count) in
      (s.each i (get_or takers i d) (get_or ended.takers.items i d)
      (slice_get-get_or takers i d before) (slice_get-get_or ended.takers.items i d within)).queue
      ∙ are i d before

  -- and have the same shares
  pub served_shares : taker_shares ended.takers.items ≡ taker_shares takers
  served_shares =
      same_shares takers ended.takers.items s.count (λ i b a before after.
      (s.each i b a before after).share)

-- what takers took is among what was put: the rest is in the queue still
abbrev pub AreOfPut : List NamedCommand → List TakerState → Type 0
AreOfPut put takers =
    (rest : List NamedCommand)
    × ((h : NamedCommand → ℕ) → weigh h put ≡ weigh_taken h takers + weigh h rest)
