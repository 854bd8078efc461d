-- The list of events that bytes and repeated events stand for.
use Rattle.std.specs.Prelude.{ℕ, ◌+◌, nat_eq, List, [], ◌∷◌, ◌++◌, drop, replicate, if◌then◌else◌}
use Rattle.model.specs.declared.event.Event.{Event}
use Rattle.model.specs.declared.event.Event.TheVariants.{Step}
use Rattle.interleave.specs.declared.read.Repeated.{Repeated}

-- the first of these, as often as it happens
abbrev pub first_of : List Repeated → List Event
first_of [] = []
first_of (r ∷ others) = replicate r.count r.event

-- a byte is a step of the thread of that number; 255 is a mark, which stands for the next of the
-- others
abbrev pub listed : List ℕ → List Repeated → List Event
listed [] others = []
listed (b ∷ bytes) others = if nat_eq b 255 then first_of others ++ listed bytes (drop 1 others)
    else Step b ∷ listed bytes others

-- how many marks there are
abbrev pub marks : List ℕ → ℕ
marks [] = 0
marks (b ∷ bytes) = if nat_eq b 255 then marks bytes + 1 else marks bytes
