-- A world of slots shows each world that it means.
use Rattle.std.proofs.Common.{◌≡◌, List, [], ◌∷◌, refl, ◌∙◌, ap, map}
use Rattle.model.specs.declared.world.Packet.{Packet}
use Rattle.model.specs.Shown.{ShownPacket, shown_packet}
use Rattle.laws_slots.specs.Rep.{slotted}
use Rattle.laws_slots.specs.ShownSlots.{SlotsShowWhatTheyMean}

shown_slotted : (packets : List Packet)
    → map shown_packet (map slotted packets) ≡ map shown_packet packets
shown_slotted [] = refl
shown_slotted (p ∷ packets) =
    ap (λ (xs : List ShownPacket). shown_packet p ∷ xs) (shown_slotted packets)

pub slots_show : SlotsShowWhatTheyMean
slots_show set v w means =
    record {
      threads = means.threads;
      packets = ap (map shown_packet) means.shared.packets ∙ shown_slotted w.shared.packets;
      issued = means.shared.issued;
      locks = means.shared.locks;
      cells = means.shared.cells;
      queues = means.shared.queues;
      starts = means.shared.starts;
      dpcs = means.shared.dpcs;
    }
