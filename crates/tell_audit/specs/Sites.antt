-- All the places of a world that name a packet, in order.
use Rattle.std.specs.Prelude.{ℕ, ◌++◌, zero, suc, Bool, List, [], ◌∷◌, length, Option, None, Some, slice_get, if◌then◌else◌}
use Rattle.model.specs.declared.limits.TheConstants.{MAX_QUEUES, REGISTERS}
use Rattle.model.specs.declared.world.Activation.{Activation}
use Rattle.model.specs.declared.world.Armer.{Armer}
use Rattle.model.specs.declared.world.Frame.{Frame}
use Rattle.model.specs.declared.world.Frame.TheVariants.{Routine, Walk, Cancel as CancelFrame}
use Rattle.model.specs.declared.world.Packet.{Packet}
use Rattle.model.specs.Queues.{StartState, is_linked}
use Rattle.model.specs.Run.{frames_on}
use Rattle.model.specs.World.{World, packet_of, queue_of, register, start_of}
use Rattle.tell_audit.specs.declared.sites.Site.{Site}
use Rattle.tell_audit.specs.declared.sites.Site.TheVariants.{Register, Completing, Queue, StartList, DeviceQueue, Slot, CancelWord}
use Rattle.tell_audit.specs.Naming.{frame_names, slot_names, value_names}

-- a place, where it is one
abbrev pub site_if : Bool → Site → List Site
site_if names site = if names then site ∷ [] else []

-- so many registers of a routine, by its thread and its place there
abbrev pub registers_below : ℕ → ℕ → ℕ → Activation → ℕ → List Site
registers_below n t k a zero = []
registers_below n t k a (suc r) =
    registers_below n t k a r ++ site_if (value_names n (register a r)) (Register t k r)

-- a frame, and so many of a thread
abbrev pub frame_sites : ℕ → ℕ → ℕ → Option Frame → List Site
frame_sites n t k None = []
frame_sites n t k (Some (Routine a)) = registers_below n t k a REGISTERS
frame_sites n t k (Some (Walk m)) = site_if (frame_names n (Walk m)) (Completing t k)
frame_sites n t k (Some (CancelFrame c)) = []

abbrev pub frames_below : World → ℕ → ℕ → ℕ → List Site
frames_below w n t zero = []
frames_below w n t (suc k) =
    frames_below w n t k ++ frame_sites n t k (slice_get (frames_on w t) k)

-- so many threads
abbrev pub threads_below : World → ℕ → ℕ → List Site
threads_below w n zero = []
threads_below w n (suc t) =
    threads_below w n t ++ frames_below w n t (length (frames_on w t))

-- so many queues of a device, what it has for StartIo, and both of so many devices
abbrev pub queue_sites : ℕ → ℕ → ℕ → Option (List ℕ) → List Site
queue_sites n d q None = []
queue_sites n d q (Some entries) = site_if (is_linked entries n) (Queue d q)

abbrev pub queues_below : World → ℕ → ℕ → ℕ → List Site
queues_below w n d zero = []
queues_below w n d (suc q) =
    queues_below w n d q ++ queue_sites n d q (queue_of w.shared d q)

abbrev pub start_sites : ℕ → ℕ → Option StartState → List Site
start_sites n d None = []
start_sites n d (Some start) =
    site_if (is_linked start.start_list n) (StartList d)
    ++ (site_if (is_linked start.device_queue n) (DeviceQueue d)
    ++ site_if (slot_names n start.slot) (Slot d))

abbrev pub devices_below : World → ℕ → ℕ → List Site
devices_below w n zero = []
devices_below w n (suc d) =
    devices_below w n d
    ++ (queues_below w n d MAX_QUEUES ++ start_sites n d (start_of w.shared d))

-- the cancel word of a live packet, where it isn't empty
abbrev pub armer_sites : Option Armer → List Site
armer_sites None = []
armer_sites (Some armer) = CancelWord armer ∷ []

abbrev pub word_sites : Option Packet → List Site
word_sites None = []
word_sites (Some p) = armer_sites p.armer

-- all of them, over so many devices
abbrev pub sites_of : World → ℕ → ℕ → List Site
sites_of w devices n =
    threads_below w n (length w.threads)
    ++ (devices_below w n devices ++ word_sites (packet_of w.shared n))
