-- Returns: the frame is gone, and what its key means is told.
use Rattle.std.proofs.Common.{◌≡◌, ℕ, zero, suc, true, List, [], ◌∷◌, Option, None, Some, refl, sym, ◌∙◌, ap, map}
use Rattle.std.specs.Prelude.{option_map, slice_get, slice_set}
use Rattle.model.specs.declared.instr.Return.{Return}
use Rattle.model.specs.declared.instr.Return.TheVariants.{WithStatus, Lower, Continue, Stop, Void}
use Rattle.model.specs.declared.set.Sort.{Sort}
use Rattle.model.specs.declared.set.Sort.TheVariants.{Dispatch, StartIo, Dpc, Propagate, Hold, Cancel}
use Rattle.model.specs.declared.status.Status.{Status}
use Rattle.model.specs.declared.world.Activation.{Activation}
use Rattle.model.specs.declared.world.Packet.{Packet}
use Rattle.model.specs.Action.{Action}
use Rattle.model.specs.Effect.{Outcome, given_back, is_walk, let_on, return_effect, return_lower}
use Rattle.model.specs.Effect as effect
use Rattle.model.specs.World.{Shared, packet_of, place_of, register, status_in}
use Rattle.laws_slots.specs.Rep.{MeansShared, meant_frame, meant_routine, slotted}
use Rattle.laws_slots.specs.Slots.{SlotCancel, SlotFrame, SlotRoutine, SlotShared, SlotWalk}
use Rattle.laws_slots.specs.SlotStep.{is_slot_walk, leaves, return_step}
use Rattle.laws_slots.proofs.Outcomes.{GoesRight, MeansOutcome, same_slots}
use Rattle.laws_slots.proofs.Words.{Tells, status_told}

-- a packet is written of which slots don't keep what was written
pub unkept : (packets : List Packet) (i : ℕ) (p q : Packet) → slice_get packets i ≡ Some p
    → slotted q ≡ slotted p → map slotted (slice_set packets i q) ≡ map slotted packets
unkept [] i p q there same = refl
unkept (x ∷ packets) zero p q there same =
    let one : x ≡ p = cc in
    ap (λ (y : Packet). y ∷ map slotted packets) (same ∙ ap slotted (sym one))
unkept (x ∷ packets) (suc i) p q there same =
    ap (λ (ys : List Packet). slotted x ∷ ys) (unkept packets i p q there same)

module _ (name : ℕ → ℕ) (s : SlotShared) (r : Shared) (means : MeansShared name s r) where
  gives_back : (n : ℕ) (o : Option Packet) → packet_of r n ≡ o
      → MeansShared name s (given_back r n o)
  gives_back n None there = means
  gives_back n (Some p) there =
      record {
        packets = means.packets
            ∙ sym (unkept r.packets (place_of r.packets n) p (record p { completing = true }) there
            refl);
        issued = means.issued;
        locks = means.locks;
        cells = means.cells;
        queues = means.queues;
        starts = means.starts;
        dpcs = means.dpcs;
      }

  gone : (after : Shared) (actions : List Action) → MeansShared name s after
      → MeansOutcome name s (leaves s []) (effect.leaves after [] actions)
  gone after actions same =
      record {
        shared = same;
        frames = refl;
        reply = refl;
        taken = refl;
        told = refl;
        same = same_slots name s;
        cancels = tt;
      }

  module _ (a : Activation) where
    abbrev c : Activation
    c = meant_routine name a

    tells : (status : Status)
        → MeansOutcome name s (record (leaves s []) { told = Some status })
        (effect.returned r status)
    tells status =
        record {
          shared = means;
          frames = refl;
          reply = refl;
          taken = refl;
          told = refl;
          same = same_slots name s;
          cancels = tt;
        }

    lowers : (o : Option Status) (status : Status) → Tells o status
        → GoesRight (return_lower r c o)
        → MeansOutcome name s (record (leaves s []) { told = Some status }) (return_lower r c o)
    lowers None status is right = cc
    lowers (Some one) status is right = rw (sym (is one refl)) (tells one)

    lets : (under : Option SlotFrame)
        → MeansOutcome name s (leaves s []) (let_on r (option_map (meant_frame name) under))
    lets None = gone r _ means
    lets (Some (SlotRoutine d)) = gone r _ means
    lets (Some (SlotWalk k)) =
        gone (given_back r (name k) (packet_of r (name k))) _
        (gives_back (name k) (packet_of r (name k)) refl)
    lets (Some (SlotCancel k n step)) = gone r _ means

    walks_under : (under : Option SlotFrame)
        → is_slot_walk under ≡ is_walk (option_map (meant_frame name) under)
    walks_under None = refl
    walks_under (Some (SlotRoutine d)) = refl
    walks_under (Some (SlotWalk k)) = refl
    walks_under (Some (SlotCancel k n step)) = refl

    stops : (under : Option SlotFrame)
        → MeansOutcome name s (record (leaves s []) { taken_below = is_slot_walk under })
        (effect.stopped r (option_map (meant_frame name) under))
    stops under =
        record {
          shared = means;
          frames = refl;
          reply = refl;
          taken = walks_under under;
          told = refl;
          same = same_slots name s;
          cancels = tt;
        }

    pub returns : (under : Option SlotFrame) (sort : Sort) (form : Return)
        → GoesRight (return_effect r c (option_map (meant_frame name) under) sort form)
        → MeansOutcome name s (return_step s a under form)
        (return_effect r c (option_map (meant_frame name) under) sort form)
    returns under Dispatch (WithStatus status) right = tells status
    returns under Dispatch (Lower i) right =
        lowers (status_in (register c i)) _ (status_told name a i) right
    returns under StartIo Void right = gone r _ means
    returns under Dpc Void right = gone r _ means
    returns under Cancel Void right = gone r _ means
    returns under Propagate Continue right = gone r _ means
    returns under Propagate Stop right = stops under
    returns under Hold Continue right = lets under
    returns under Hold Stop right = stops under
    returns under _ _ right = cc
