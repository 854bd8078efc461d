-- What of a world isn't at rest: the threads that aren't idle, the packets that are live and the
-- devices that are busy for StartIo. A world is at rest where all threads are idle and no packet is
-- live: a device that is left busy keeps the next packet.
use Rattle.std.specs.Prelude.{ℕ, ◌≡◌, ◌++◌, ◌&&◌, zero, suc, Bool, List, [], ◌∷◌, length, nat_eq, Option, None, Some, if◌then◌else◌}
use Rattle.tell_audit.specs.declared.standing.Standing.{Standing}
use Rattle.model.specs.declared.limits.TheConstants.{MAX_THREADS}
use Rattle.model.specs.declared.world.Packet.{Packet}
use Rattle.model.specs.Queues.{StartState}
use Rattle.model.specs.View.{busy_at}
use Rattle.model.specs.World.{World, packet_of, start_of}

-- a thread, if it isn't idle; those of so many; and all of them: no run has more threads
abbrev pub busy_thread : World → ℕ → List ℕ
busy_thread w t = if busy_at w t then t ∷ [] else []

abbrev pub busy_below : World → ℕ → List ℕ
busy_below w zero = []
busy_below w (suc t) = busy_below w t ++ busy_thread w t

abbrev pub busy_threads : World → List ℕ
busy_threads w = busy_below w MAX_THREADS

-- a packet, if it is live; those of so many numbers; and all of them
abbrev pub live_packet : ℕ → Option Packet → List ℕ
live_packet n None = []
live_packet n (Some p) = n ∷ []

abbrev pub live_below : World → ℕ → List ℕ
live_below w zero = []
live_below w (suc n) = live_below w n ++ live_packet n (packet_of w.shared n)

abbrev pub live_packets : World → List ℕ
live_packets w = live_below w w.shared.issued

-- a device, if it is busy for StartIo; those of so many; and all of them
abbrev pub busy_device : ℕ → Option StartState → List ℕ
busy_device d None = []
busy_device d (Some start) = if start.busy then d ∷ [] else []

abbrev pub devices_below : World → ℕ → List ℕ
devices_below w zero = []
devices_below w (suc d) = devices_below w d ++ busy_device d (start_of w.shared d)

abbrev pub busy_devices : World → List ℕ
busy_devices w = devices_below w (length w.shared.starts)

-- this is all that isn't at rest in a world
pub record IsStanding (w : World) (standing : Standing) : Type 0 where
  pub threads : standing.threads.items ≡ busy_threads w
  pub packets : standing.packets.items ≡ live_packets w
  pub devices : standing.devices.items ≡ busy_devices w

-- it is at rest
abbrev pub is_rest : Standing → Bool
is_rest standing =
    nat_eq (length standing.threads.items) 0 && nat_eq (length standing.packets.items) 0
