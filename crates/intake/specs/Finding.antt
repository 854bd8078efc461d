-- What a taker finds at the front of a queue.
use Rattle.std.specs.Prelude.{◌≡◌, ◌++◌, [], ◌∷◌}
use Rattle.intake.specs.Ends.{TakerState}
use Rattle.intake.specs.declared.taker.Found.{Found}
use Rattle.intake.specs.declared.taker.Found.TheVariants.{Command, End, Nothing}

-- a command is one more that the taker took; an end is that of the taker's own queue
abbrev pub Finds : TakerState → TakerState → Found → Type 0
Finds before after (Command taken) =
    after ≡ record before { taken = before.taken ++ taken ∷ [] }
Finds before after Nothing = after ≡ before
Finds before after (End drained) = (after ≡ before) × (drained ≡ before.queue)
