-- What a world of slots shows: that of what it means which shows that whole.
use Rattle.std.specs.Prelude.{map}
use Rattle.model.specs.Set.{Set}
use Rattle.model.specs.Shown.{Shown, ShowsWorld, whole}
use Rattle.model.specs.World.{Shared, World}
use Rattle.laws_slots.specs.Rep.{Means, meant_lists, meant_start, meant_thread, named, packets_in}
use Rattle.laws_slots.specs.Slots.{SlotShared, SlotWorld}

-- what threads share, and the world, with each packet named by its number
abbrev pub meant_shared : SlotShared → Shared
meant_shared s =
    record {
      packets = packets_in s.slots s.order;
      issued = s.issued;
      locks = s.locks;
      cells = s.cells;
      queues = map (meant_lists (named s)) s.queues;
      starts = map (meant_start (named s)) s.starts;
      dpcs = s.dpcs;
    }

abbrev pub meant : SlotWorld → World
meant v =
    record {
      threads = map (meant_thread (named v.shared)) v.threads;
      shared = meant_shared v.shared;
    }

abbrev pub shown_slots : Set → SlotWorld → Shown
shown_slots set v = whole set (meant v)

-- it shows each world that it means
abbrev pub SlotsShowWhatTheyMean : Type 0
SlotsShowWhatTheyMean =
    (set : Set) (v : SlotWorld) (w : World) → Means set v w → ShowsWorld (shown_slots set v) w
