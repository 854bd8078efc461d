-- Slots that have the same packets at every key mean the same worlds: so free ones may be added
-- after the last one, or left out.
use Rattle.std.proofs.Common.{◌≡◌, ℕ, zero, suc, List, [], ◌∷◌, ◌++◌, Option, None, refl, sym, ◌∙◌, ap, subst, map, is_some}
use Rattle.std.specs.Prelude.{replicate}
use Rattle.model.specs.declared.world.Packet.{Packet}
use Rattle.model.specs.Set.{Set}
use Rattle.model.specs.Shown.{ShowsThreads, whole_thread}
use Rattle.model.specs.World.{World}
use Rattle.laws_slots.specs.Rep.{CancelStands, Means, MeansShared, meant_thread, named, number_in_slot, packets_in}
use Rattle.laws_slots.specs.Slots.{SlotCancel, SlotFrame, SlotRoutine, SlotShared, SlotWalk, SlotWorld, packet_at, slot_at}
use Rattle.laws_slots.proofs.Stacks.{threads_map}

-- the packets of keys
packets_same : (slots others : List (Option Packet))
    → ((k : ℕ) → slot_at others k ≡ slot_at slots k) → (keys : List ℕ)
    → packets_in others keys ≡ packets_in slots keys
packets_same slots others at [] = refl
packets_same slots others at (k ∷ keys) =
    rw (at k, packets_same slots others at keys) refl

-- the same with other slots
abbrev pub with_slots : SlotWorld → List (Option Packet) → SlotWorld
with_slots v slots = record v { shared = record v.shared { slots = slots } }

module _ (set : Set) (v : SlotWorld) (others : List (Option Packet))
    (at : (k : ℕ) → slot_at others k ≡ packet_at v.shared k) where
  abbrev s : SlotShared
  s = v.shared

  abbrev r : SlotShared
  r = record s { slots = others }

  -- every key names what it named
  names : named s ≡ named r
  names = λ i k. number_in_slot s.issued (sym (at k) i)

  cancel_same : (f : SlotFrame) → CancelStands s f → CancelStands r f
  cancel_same (SlotRoutine a) h = tt
  cancel_same (SlotWalk k) h = tt
  cancel_same (SlotCancel k n step) h =
      (h.0, λ j p there number. h.1 j p (sym (at j) ∙ there) number)

  pub means_same : (w : World) → Means set v w → Means set (with_slots v others) w
  means_same w means =
      record {
        shared = subst (λ (name : ℕ → ℕ). MeansShared name r w.shared) names
            (record {
              packets = packets_same s.slots others at s.order ∙ means.shared.packets;
              issued = means.shared.issued;
              locks = means.shared.locks;
              cells = means.shared.cells;
              queues = means.shared.queues;
              starts = means.shared.starts;
              dpcs = means.shared.dpcs;
            });
        threads = subst (λ (name : ℕ → ℕ). ShowsThreads set w.shared
            (map whole_thread (map (meant_thread name) v.threads)) w.threads) names means.threads;
        order = record {
          used = λ k linked. ap is_some (at k) ∙ means.order.used k linked;
          listed = λ k some. means.order.listed k (ap is_some (sym (at k)) ∙ some);
        };
        whole = means.whole;
        cancels = threads_map (CancelStands s) (CancelStands r) v.threads cancel_same means.cancels;
      }

-- free slots after the last one
none_there : (n k : ℕ) → slot_at (replicate n None) k ≡ None
none_there zero k = refl
none_there (suc n) zero = refl
none_there (suc n) (suc k) = none_there n k

pub padded_at : (slots : List (Option Packet)) (n k : ℕ)
    → slot_at (slots ++ replicate n None) k ≡ slot_at slots k
padded_at [] n k = none_there n k
padded_at (o ∷ slots) n zero = refl
padded_at (o ∷ slots) n (suc k) = padded_at slots n k

abbrev pub padded : SlotWorld → ℕ → SlotWorld
padded v n = with_slots v (v.shared.slots ++ replicate n None)

module _ (set : Set) (v : SlotWorld) (n : ℕ) (w : World) where
  pub padded_means : Means set v w → Means set (padded v n) w
  padded_means =
      means_same set v (v.shared.slots ++ replicate n None) (padded_at v.shared.slots n) w

  pub unpadded_means : Means set (padded v n) w → Means set v w
  unpadded_means =
      means_same set (padded v n) v.shared.slots (λ k. sym (padded_at v.shared.slots n k)) w
