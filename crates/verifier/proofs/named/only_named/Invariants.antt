use Rattle.std.specs.Prelude.{ℕ, ◌≡◌, ◌++◌, Bool, List, [], ◌∷◌, Option, None, Some, drop, if◌then◌else◌}
use Rattle.model.specs.declared.set.Queue.{Queue}
use Rattle.model.specs.declared.set.QueueName.{QueueName}
use Rattle.model.specs.declared.set.QueueName.TheVariants.{DeviceQueue}
use Rattle.model.specs.Set.{cancelled_from}
use Rattle.verifier.proofs.named.only_named.Given as goal

abbrev pub found : Option QueueName → List QueueName
found None = []
found (Some name) = name ∷ []

-- the lists that name the routine
abbrev pub all_named : Bool → List Queue → ℕ → List QueueName
all_named waiting queues number = if waiting then DeviceQueue ∷ cancelled_from queues 0 number
    else cancelled_from queues 0 number

-- they are the one that was found, if one was, and those ahead
abbrev pub invariant-loop-q : goal.invariant-loop-q
invariant-loop-q l =
    all_named l.waiting l.queues l.number
    ≡ found l.named ++ cancelled_from (drop l.q l.queues) l.q l.number
