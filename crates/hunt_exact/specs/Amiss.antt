-- What is amiss behind an event, as its reply and the world behind it tell: a bug check or a wrong
-- operand, a packet that no place names, a lock that an idle thread owns, or a ring of waiting
-- threads. A use of a stack location that was returned from otherwise than it was marked is none of
-- these: only the past of a run tells it. No run of an accepted set has one.
use Rattle.std.specs.Prelude.{Bool, true, false, [], length, Option}
use Rattle.tell_audit.specs.declared.amiss.Amiss.{Amiss}
use Rattle.tell_audit.specs.declared.amiss.Amiss.TheVariants.{Stopped, Lost, Left, Ringed, Disagrees}
use Rattle.tell_audit.specs.Ends.{first_of, or_amiss, stops_with}
use Rattle.model.specs.declared.event.Reply.{Reply}
use Rattle.model.specs.Set.{Set}
use Rattle.model.specs.World.{World}
use Rattle.tell_audit.specs.Findings.{ringed_threads}
use Rattle.tell_audit.specs.Left.{left_locks}
use Rattle.tell_audit.specs.Naming.{lost_packets}

abbrev pub amiss_at : Set → World → Reply → Option Amiss
amiss_at set w reply =
    or_amiss (stops_with reply)
    (first_of (lost_packets w) (left_locks w (length set.devices)) (ringed_threads set w) [])

-- what of all that an audit finds amiss is one of these
abbrev pub is_sought : Amiss → Bool
is_sought (Stopped reply) = true
is_sought (Lost packet) = true
is_sought (Left lock) = true
is_sought (Ringed thread) = true
is_sought (Disagrees location_use) = false
