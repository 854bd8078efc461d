-- What a history tells of the packets of its requests.
use Rattle.std.specs.Prelude.{ℕ, ◌≡◌, List, Some, is_none, is_some, slice_get}
use Rattle.model.specs.declared.history.Entry.{Entry}
use Rattle.model.specs.History.{IsLegal, replies_of, request_started, top_out_of, world_after_all}
use Rattle.model.specs.Set.{Set}
use Rattle.model.specs.World.{packet_of}

-- the packet that a request started is live exactly while no reply tells that it topped out
abbrev pub TopOutsAreTold : Type 0
TopOutsAreTold =
    (set : Set) (threads : ℕ) (history : List Entry) (k n : ℕ) (e : Entry)
    → IsLegal set threads history
    → slice_get history k ≡ Some e → request_started e ≡ Some n
    → is_some (packet_of (world_after_all set threads history).shared n)
    ≡ is_none (top_out_of (replies_of history) n)
