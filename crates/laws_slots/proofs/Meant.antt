-- Words that mean the world of a run of an accepted set mean that of each run that they show.
use Rattle.std.proofs.Common.{◌≡◌, List, [], ◌∷◌, map, ap, refl, sym, ◌∙◌, subst}
use Rattle.model.specs.declared.world.Packet.{Packet}
use Rattle.model.specs.Run.{run}
use Rattle.model.specs.Shown.{ShownPacket, ShowsWorld, shown_packet}
use Rattle.model.specs.World.{World}
use Rattle.laws_runs.proofs.Accepted.Laws.{accepted_kinds}
use Rattle.laws_slots.specs.Rep.{Means, named, slotted}
use Rattle.laws_slots.specs.Slots.{SlotWorld}
use Rattle.laws_slots.specs.ShownWords.{WordsMeanWhatTheyShow, shown_words}
use Rattle.laws_slots.specs.Words.{WordWorld}
use Rattle.laws_slots.proofs.WordsLaws.{same_world}
use Rattle.laws_slots.proofs.Sorts.{kinds_on, threads_other}
use Rattle.laws_slots.proofs.WordsStacks.{w as as_words}

-- packets that show the same are in slots the same
same_slotted : (p q : Packet) → shown_packet (slotted p) ≡ shown_packet q → slotted p ≡ slotted q
same_slotted p q h =
    let number : p.number ≡ q.number = ap (λ (x : ShownPacket). x.number) h in
    let depth : p.depth ≡ q.depth = ap (λ (x : ShownPacket). x.depth) h in
    let locations : p.locations.items ≡ q.locations.items =
    ap (λ (x : ShownPacket). x.locations) h in
    let status : p.status ≡ q.status = ap (λ (x : ShownPacket). x.status) h in
    let info : p.info ≡ q.info = ap (λ (x : ShownPacket). x.info) h in
    let returned : p.pending_returned ≡ q.pending_returned =
    ap (λ (x : ShownPacket). x.pending_returned) h in
    let cancel : p.cancel ≡ q.cancel = ap (λ (x : ShownPacket). x.cancel) h in
    let armer : p.armer ≡ q.armer = ap (λ (x : ShownPacket). x.armer) h in
    rw (number, depth, locations, status, info, returned, cancel, armer) refl

all_slotted : (ps qs : List Packet)
    → map shown_packet (map slotted ps) ≡ map shown_packet qs → map slotted ps ≡ map slotted qs
all_slotted [] [] h = refl
all_slotted [] (q ∷ qs) h = cc
all_slotted (p ∷ ps) [] h = cc
all_slotted (p ∷ ps) (q ∷ qs) h =
    let first : shown_packet (slotted p) ≡ shown_packet q = cc in
    let others : map shown_packet (map slotted ps) ≡ map shown_packet qs = cc in
    rw (same_slotted p q first, all_slotted ps qs others) refl

pub words_mean_shown : WordsMeanWhatTheyShow
words_mean_shown set typable sound threads others events more w mean shown =
    let v : SlotWorld = mean.slots in
    let one : World = (run set threads events).world in
    let two : World = (run set others more).world in
    let means : Means set v one = mean.means in
    let shows : ShowsWorld (shown_words set (as_words v w.threads mean.reads.threads)) two =
    subst (λ (x : WordWorld). ShowsWorld (shown_words set x) two) (same_world v w mean.reads)
    shown in
    record {
      slots = v;
      reads = mean.reads;
      means =
          record {
            shared =
                record {
                  packets =
                      means.shared.packets
                      ∙ all_slotted one.shared.packets two.shared.packets
                      (ap (map shown_packet) (sym means.shared.packets) ∙ shows.packets);
                  issued = shows.issued;
                  locks = shows.locks;
                  cells = shows.cells;
                  queues = shows.queues;
                  starts = shows.starts;
                  dpcs = shows.dpcs;
                };
            threads =
                threads_other (named v.shared) set one.shared two.shared v.threads w.threads
                one.threads two.threads mean.reads.threads
                (kinds_on set threads events (accepted_kinds set typable sound threads events)
                (named v.shared))
                (kinds_on set others more (accepted_kinds set typable sound others more)
                (named v.shared)) means.threads shows.threads;
            order = means.order;
            whole = means.whole;
            cancels = means.cancels;
          };
    }
