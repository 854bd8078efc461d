-- What the routine on top of a thread wants of its own: numbers and keys in the registers that it
-- names, room for a loop or an open one, the status that it returns, and in a packet that it sends
-- down a location below the current one.
use Rattle.std.proofs.Common.{◌≡◌, ◌<◌, ◌⊎◌, ℕ, List, [], ◌∷◌, ◌++◌, Option, None, Some, true, false, length, refl, sym, ◌∙◌, ap, subst, is_some}
use Rattle.std.specs.Prelude.{not, slice_get}
use Rattle.std.proofs.lemmas.Bool.{leb-false, ltb-true}
use Rattle.model.specs.declared.abs.Kind.{Kind}
use Rattle.model.specs.declared.abs.Kind.TheVariants.{Lower as LowerKind}
use Rattle.model.specs.declared.abs.Rule.{Rule}
use Rattle.model.specs.declared.event.Event.{Event}
use Rattle.model.specs.declared.instr.Instr.{Instr}
use Rattle.model.specs.declared.instr.Instr.TheVariants.{Call, End, Loop, Ret}
use Rattle.model.specs.declared.instr.Return.TheVariants.{Lower}
use Rattle.model.specs.declared.limits.TheConstants.{MAX_LOOPS}
use Rattle.model.specs.declared.status.Status.{Status}
use Rattle.model.specs.declared.world.Activation.{Activation}
use Rattle.model.specs.declared.world.Frame.{Frame}
use Rattle.model.specs.declared.world.Frame.TheVariants.{Routine}
use Rattle.model.specs.declared.world.Packet.{Packet}
use Rattle.model.specs.declared.world.Value.{Value}
use Rattle.model.specs.declared.world.Value.TheVariants.{Blank, Num, Ref, Status as StatusValue}
use Rattle.model.specs.Fault.{depth, stack_size}
use Rattle.model.specs.Kinds.{is_blank, is_lower}
use Rattle.model.specs.LocalRule.{broken_if, duty_fault, kind_of}
use Rattle.model.specs.Run.{run}
use Rattle.model.specs.Set.{Set, instruction_at, sort_of}
use Rattle.model.specs.Sound.{IsSound}
use Rattle.model.specs.Typable.{IsTypable}
use Rattle.model.specs.World.{World, innermost, packet_in, packet_of, register, status_in}
use Rattle.laws_runs.proofs.Accepted.Keeps.{Keeps}
use Rattle.laws_runs.proofs.Alike.Outcomes.{packet_same}
use Rattle.laws_runs.proofs.Alike.Registers.{same_get}
use Rattle.laws_runs.proofs.Holders.Counts.{Holding}
use Rattle.laws_runs.proofs.Holders.Runs.{top_holding}
use Rattle.laws_runs.proofs.Lists.{Each, each_after}
use Rattle.laws_runs.proofs.Past.Packets.{found as found_live}
use Rattle.laws_runs.proofs.Past.Stacks.{Measured}
use Rattle.laws_runs.proofs.Room.Calls.{call_fits, read_same}
use Rattle.laws_runs.proofs.Room.Waiting.{FrameRoom, HasRoom}
use Rattle.laws_runs.proofs.Runs.Threads.{frames_there}
use Rattle.laws_runs.proofs.States.Entering.{LowerThere}
use Rattle.laws_runs.proofs.States.Frames.{Runs, state_of}
use Rattle.laws_runs.proofs.States.Kinds.{status_there}
use Rattle.laws_runs.proofs.States.Lacking.{lower_device, never_lacks}
use Rattle.laws_runs.proofs.States.LoopEnds.{room_for_loop}
use Rattle.laws_runs.proofs.States.Obeyed.{returns_by}
use Rattle.laws_runs.proofs.States.OnTop.{packet_there, runs, value_suits}
use Rattle.laws_runs.proofs.States.Rules.{first_none}
use Rattle.laws_runs.proofs.Steps.Comes.{Executing, Reads, no_loop}
use Rattle.laws_runs.proofs.Steps.Words.{number_operand, packet_operand, second_operand}
use Rattle.laws_runs.specs.ArrivingStates.{States}
use Rattle.model.specs.Trace.{Entry}
use Rattle.laws_slots.proofs.Finding.{HasSlot, RoutineFinds, keeps, keys, routine_finds}
use Rattle.laws_slots.proofs.Fitting.LocalTop.{RunRoutine, run_routine}
use Rattle.laws_slots.proofs.Fitting.SharedCells.{is_found, some_found}
use Rattle.laws_slots.proofs.Fitting.SharedTop.{known, past, world}
use Rattle.laws_slots.proofs.Keys.{Found, found_name, found_used}
use Rattle.laws_slots.proofs.Words.{register_meant}
use Rattle.laws_slots.specs.Fits.{CanGoDown, HasKey, HasNumber, HasStatus}
use Rattle.laws_slots.specs.Rep.{Means, meant_value, named, slotted}
use Rattle.laws_slots.specs.SlotStep.{top_frame}
use Rattle.laws_slots.specs.Slots.{SlotRoutine, SlotThread, SlotWorld}

-- the kind of what a lower driver returned
lower_kind : (k : Kind) (rule : Rule) → broken_if (not (is_lower k)) rule ≡ None
    → is_lower k ≡ true
lower_kind LowerKind rule h = refl
lower_kind _ rule h = cc

not_blank : (k : Kind) → is_lower k ≡ true → is_blank k ≡ false
not_blank LowerKind is = refl
not_blank _ is = cc

-- a value that means a status is that status
status_value : (name : ℕ → ℕ) (v : Value) (status : Status)
    → status_in (meant_value name v) ≡ Some status → v ≡ StatusValue status
status_value name (StatusValue one) status is =
    let same : one ≡ status = cc in ap (λ (s : Status). StatusValue s) same
status_value name Blank status is = cc
status_value name (Num n) status is = cc
status_value name (Ref k) status is = cc

module _ (set : Set) (typable : IsTypable set) (sound : IsSound set) (threads : ℕ)
    (events : List Event) (v : SlotWorld) (rep : Means set v (run set threads events).world)
    (t : ℕ) (x : SlotThread) (found : slice_get v.threads t ≡ Some x) (a : Activation)
    (is : top_frame x.frames ≡ Some (SlotRoutine a)) where
  abbrev w : World
  w = world set typable sound threads events v rep t x found

  abbrev states : States
  states = known set typable sound threads events v rep t x found

  abbrev its_past : List Entry
  its_past = past set typable sound threads events v rep t x found

  abbrev name : ℕ → ℕ
  name = named v.shared

  abbrev here : RunRoutine set typable sound threads events v rep t x found a
  here = run_routine set typable sound threads events v rep t x found a is

  abbrev c : Activation
  c = here.routine

  abbrev its_keeps : Keeps set states threads w its_past
  its_keeps = keeps set typable sound threads events v rep t x found

  -- what stands in a register, by what the run's routine has there
  registers_like : (q : ℕ)
      → register (record c { registers = here.like.registers }) q
      ≡ meant_value name (register a q)
  registers_like q =
      sym (ap (λ (y : Activation). register y q) here.like.is) ∙ register_meant name a q

  module _ (i : Instr) (at : instruction_at set a.driver a.routine a.position ≡ Some i) where
    pub executes : Executing set c i
    executes =
        sym (ap (λ (y : Activation). instruction_at set y.driver y.routine y.position)
        here.like.is) ∙ at

    its_run : Runs set states w.shared c i
    its_run = runs set states w.shared c i here.top executes

    finds : RoutineFinds set typable sound threads events v rep t x found a i
    finds = routine_finds set typable sound threads events v rep t x found a i is at

    pub has_number : (q : ℕ) → (number_operand i ≡ Some q) ⊎ (second_operand i ≡ Some q)
        → HasNumber a q
    has_number q operand =
        let there : (n : ℕ) × (register a q ≡ Num n) = finds.numbers q operand in
        record { number = there.0; is = there.1 }

    pub has_key : (q : ℕ) → packet_operand i ≡ Some q → HasKey v.shared a q
    has_key q operand =
        let there : HasSlot v.shared (register a q) = finds.packets q operand in
        record { key = there.key; packet = there.packet; is = there.is; lies = there.at }

  -- loops
  pub has_loop_room : (turns : ℕ)
      → instruction_at set a.driver a.routine a.position ≡ Some (Loop turns)
      → length a.loops.items < MAX_LOOPS
  has_loop_room turns at =
      let room : length c.loops.items < MAX_LOOPS =
      ltb-true (length c.loops.items) MAX_LOOPS
      (room_for_loop set states w.shared c turns (its_run (Loop turns) at)) in
      subst (λ (y : Activation). length y.loops.items < MAX_LOOPS) (sym here.like.is) room

  pub has_loop : instruction_at set a.driver a.routine a.position ≡ Some End
      → is_some (innermost a) ≡ true
  has_loop at =
      let some : is_some (innermost c) ≡ true =
      is_found (innermost c)
      (λ none. never_lacks set states w.shared c here.top (no_loop (executes End at) none)) in
      subst (λ (y : Activation). is_some (innermost y) ≡ true) (sym here.like.is) some

  -- the status of a lower driver
  pub has_status : (r : ℕ)
      → instruction_at set a.driver a.routine a.position ≡ Some (Ret (Lower r)) → HasStatus a r
  has_status r at =
      let it : Runs set states w.shared c (Ret (Lower r)) = its_run (Ret (Lower r)) at in
      let kind : Kind = kind_of (state_of states c) r in
      let rule : duty_fault (state_of states c) (Lower r) ≡ None =
      (returns_by (state_of states c) (sort_of set c.driver c.routine) set c.driver (Lower r)
      it.obeys).duty in
      let lower : is_lower kind ≡ true = lower_kind kind _ (first_none _ _ rule) in
      let there : (status : Status) × (status_in (register c r) ≡ Some status) =
      status_there w.shared.issued kind (register c r) lower
      (value_suits set states w.shared c (Ret (Lower r)) r it) in
      let same : register (record c { registers = here.like.registers }) r ≡ register c r =
      same_get (state_of states c).kinds here.like.registers c.registers r here.like.same
      (not_blank kind lower) in
      record {
        status = there.0;
        is = status_value name (register a r) there.0
            (ap status_in (sym (registers_like r) ∙ same) ∙ there.1);
      }

  -- a packet that is sent down
  frame_room : FrameRoom set states w.shared c
  frame_room =
      let all : Each (HasRoom set states w.shared) (here.steps.below ++ here.steps.frame ∷ []) =
      subst (λ (frames : List Frame). Each (HasRoom set states w.shared) frames)
      (frames_there w t here.steps.thread here.steps.found ∙ here.steps.frames)
      (its_keeps.room.frames t) in
      subst (λ (f : Frame). HasRoom set states w.shared f) here.is
      (each_after (HasRoom set states w.shared) here.steps.below (here.steps.frame ∷ []) all).0

  holds : Holding set states w.shared its_past (Routine c)
  holds =
      subst (λ (f : Frame). Holding set states w.shared its_past f) here.is
      (top_holding set states w its_past its_keeps.stands its_keeps.held t here.steps)

  module _ (r : ℕ) (f : Option ℕ)
      (at : instruction_at set a.driver a.routine a.position ≡ Some (Call r f)) where
    abbrev call : Runs set states w.shared c (Call r f)
    call = its_run (Call r f) at

    live_goes_down : (n : ℕ) (q : Packet) → register c r ≡ Ref n → packet_of w.shared n ≡ Some q
        → q.depth < length q.locations.items
    live_goes_down n q refers live =
        let read : (m : ℕ) × (packet_in w.shared (register c r) ≡ Some m) =
        some_found (packet_in w.shared (register c r))
        (packet_there set states w.shared c (Call r f) r call refl) in
        let one : read.0 ≡ n = read_same set states w.shared c r read.0 n read.1 refers in
        let reads : Reads w.shared c r n =
        subst (λ (m : ℕ). Reads w.shared c r m) one read.1 in
        let lower : LowerThere set c.device =
        lower_device set states w.shared c (Call r f) call refl in
        let less : depth its_past n < stack_size its_past n =
        leb-false (stack_size its_past n) (depth its_past n)
        (call_fits set states w.shared its_past c r f n q lower.0 call live reads lower.1 holds
        frame_room) in
        let measured : Measured q _ _ (stack_size its_past n) (depth its_past n) =
        holds.tells.live n q (found_live w.shared n (Some q) live) in
        rw (← measured.place, ← measured.count) less

    pub can_go_down : CanGoDown v.shared a r
    can_go_down key p refers lies =
        let live : Found v.shared w.shared key p.number =
        found_used name v.shared w.shared
        (keys set typable sound threads events v rep t x found) key p lies in
        let number : name key ≡ p.number =
        found_name name v.shared w.shared
        (keys set typable sound threads events v rep t x found) key p.number live in
        let run_refers : register c r ≡ Ref p.number =
        sym (packet_same set states w.shared c here.like.registers here.like.long here.like.same
        (Call r f) call r refl)
        ∙ registers_like r ∙ ap (meant_value name) refers ∙ ap (λ (n : ℕ). Ref n) number in
        let found_there : live.packet.depth < length live.packet.locations.items =
        live_goes_down p.number live.packet run_refers live.of in
        let both : Some (slotted live.packet) ≡ Some p = sym live.at ∙ lies in
        let same : slotted live.packet ≡ p = cc in
        subst (λ (y : Packet). y.depth < length y.locations.items) same found_there
