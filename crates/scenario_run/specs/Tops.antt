-- How packets have topped out.
use Rattle.std.specs.Prelude.{ℕ, ◌≡◌, ◌++◌, List, [], ◌∷◌, nat_eq, Option, Some, None}
use Rattle.indexmap.specs.IndexMap.{IndexMap, get}
use Rattle.model.specs.declared.event.Reply.{Reply}
use Rattle.model.specs.declared.event.Reply.TheVariants.{Started, Stepped, Finished, Topped, Waited, Idle, Refused, Bug, Wrong}
use Rattle.model.specs.declared.history.TopOut.{TopOut}
use Rattle.model.specs.History.{top_out_of}

-- how a packet topped out, if a reply says so
abbrev pub top_told : Reply → Option TopOut
top_told (Topped packet status info) =
    Some (record { packet = packet; status = status; info = info })
top_told (Started packet) = None
top_told Stepped = None
top_told Finished = None
top_told Waited = None
top_told Idle = None
top_told Refused = None
top_told (Bug bug) = None
top_told (Wrong place) = None

-- a map has how each packet topped out, by these replies
abbrev pub AreTops : {S : Type 0} → IndexMap ℕ TopOut S → List Reply → Type 0
AreTops tops told = (n : ℕ) → get nat_eq tops n ≡ top_out_of told n

-- whatever replies it had them by, it has them by one reply more
abbrev pub AddsTop : {S : Type 0} → IndexMap ℕ TopOut S → Reply → IndexMap ℕ TopOut S → Type 0
AddsTop before reply after =
    (told : List Reply) → AreTops before told → AreTops after (told ++ reply ∷ [])
