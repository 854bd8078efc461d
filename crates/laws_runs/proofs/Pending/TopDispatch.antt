-- What is known of a dispatch routine's frame on top of its thread.
use Rattle.laws_runs.proofs.Common.{ap, refl, List, Option, Some, replicate, slice_get, slice_index_or, ℕ, ◌≡◌, dispatched, operand_of, is_new, Set, member, Entry, Shared, asked_of, current_location, Abs, BlankKind, Instr, Call, Pass, Dispatch, Activation, Frame, Routine, Value, Blank, States, Begins, IsOfSort, begins_lower, state_of, hold_none, never_lacks, handed_news, runs, Forwarding, packet_operand, work_of}
use Rattle.laws_runs.proofs.Holders.Rights.{begun_rights}
use Rattle.laws_runs.proofs.Pending.DispatchSteps.{StepsDispatch}
use Rattle.laws_runs.proofs.Pending.Duties.{dispatch_arrived}
use Rattle.laws_runs.proofs.Pending.UsesServed.{BeginsServing}
use Rattle.laws_runs.proofs.States.Fine.{answered_is}
use Rattle.laws_runs.proofs.Pending.DispatchSteps.{StepsDispatch}
use Rattle.laws_runs.proofs.Uses.TopFrames.{KnownTop, known, sort_is, stays, steps_routine, unseen}
use Rattle.laws_runs.proofs.Live.Sees.{RefersTo}

-- a routine that begins serves what it is handed
pub begins_serving : (set : Set) (states : States) (issued : ℕ) (c : Activation) (n : ℕ)
    → Begins set states issued c Dispatch n → BeginsServing set states c n
begins_serving set states issued c n begins =
    record {
      of_sort = begins.of_sort;
      fresh = ap (λ (s : Abs). s.duty) begins.start;
      first = ap (λ (values : List Value). slice_index_or values 0 Blank) begins.registers;
      rights = λ m. begun_rights set states issued c Dispatch n m begins;
      refers = rw (begins.start, begins.registers) (
        (λ is. refl),
        hold_none is_new handed_news (RefersTo n) (replicate 15 BlankKind) (replicate 15 Blank)
            refl,
      );
    }

-- an instruction that waits for a status sends a packet down
record Waits (i : Instr) (r : ℕ) : Type 0 where
  work : work_of i ≡ Forwarding
  operand : packet_operand i ≡ Some r

waits_for : (i : Instr) (r : ℕ) → operand_of (Some i) ≡ Some r → Waits i r
waits_for (Pass q) r h = record { work = refl; operand = h }
waits_for (Call q f) r h = record { work = refl; operand = h }
waits_for _ r h = cc

pub steps_dispatch : (set : Set) (states : States) (s : Shared) (past : List Entry)
    (under : Option Frame) (a : Activation)
    → KnownTop set states s past under (Routine a) → IsOfSort set a Dispatch
    → StepsDispatch set states s past under a
steps_dispatch set states s past under a h is =
    record {
      routine = steps_routine set states s past under a h;
      lacks = never_lacks set states s a h.top;
      is = is;
      arrived = dispatch_arrived (member set a.driver a.routine h.top.stands.0) a.position
          (state_of states a)
          (sort_is set states s past under a h Dispatch is)
          (known set states s past under a h).operands
          ((known set states s past under a h).follows.arrives a.position
          (stays set states s past under a h).within);
      unseen = unseen set states s past under a h is;
      answers = λ r i status at operand.
          let waits : Waits i r = waits_for i r operand in
          ap (λ (b : Activation). b.registers)
          (answered_is set states s a i (runs set states s a i h.top at) r waits.work waits.operand
          status);
      begins = λ lower n p there low.
          begins_serving set states s.issued
          (dispatched set lower (slice_get set.devices lower) (asked_of (current_location p)) n) n
          (begins_lower set states h.top.good s.issued n low a.device lower
          (asked_of (current_location p)) there);
    }
