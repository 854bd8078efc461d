-- What the top frame of a thread finds, on slots that mean the world of a run of an accepted set:
-- there is an instruction to execute, its operands are numbers and keys of used slots, and the I/O
-- manager's packet has a slot.
use Rattle.std.proofs.Common.{List, ◌≡◌, ◌⊎◌, ℕ, Option, None, Some, refl, sym, ◌∙◌, ap, subst, map, is_some, true}
use Rattle.std.specs.Prelude.{option_map, slice_get}
use Rattle.model.specs.declared.instr.Instr.{Instr}
use Rattle.model.specs.declared.world.Activation.{Activation}
use Rattle.model.specs.declared.world.Packet.{Packet}
use Rattle.model.specs.declared.world.Value.{Value}
use Rattle.model.specs.declared.world.Value.TheVariants.{Blank, Num, Ref, Status as StatusValue}
use Rattle.model.specs.Set.{Set, instruction_at}
use Rattle.model.specs.World.{Shared, World, number_in, packet_in, packet_of, register}
use Rattle.laws_runs.proofs.Alike.Frames.{AlikeActivation, AlikeFrame}
use Rattle.laws_runs.proofs.Alike.Outcomes.{number_same, packet_same}
use Rattle.laws_runs.proofs.States.Frames.{IsGood, Runs}
use Rattle.laws_runs.proofs.States.OnTop.{OnTop, number_found, packet_there, runs}
use Rattle.laws_runs.proofs.Steps.Words.{number_operand, packet_operand, second_operand}
use Rattle.laws_runs.specs.ArrivingStates.{States}
use Rattle.model.specs.declared.world.Frame.TheVariants.{Routine, Walk, Cancel as CancelFrame}
use Rattle.model.specs.declared.event.Event.{Event}
use Rattle.model.specs.declared.world.Frame.{Frame}
use Rattle.model.specs.declared.world.Thread.{Thread}
use Rattle.model.specs.Run.{run}
use Rattle.model.specs.Sound.{IsSound}
use Rattle.model.specs.Typable.{IsTypable}
use Rattle.laws_runs.proofs.Accepted.Keeps.{Keeps}
use Rattle.laws_runs.proofs.Accepted.Lasts.{lasts}
use Rattle.laws_runs.proofs.Alike.Stacks.{AlikeAt, AlikeThread, AlikeThreads, alike_at}
use Rattle.laws_runs.proofs.Runs.Events.{StepsFrame}
use Rattle.laws_runs.proofs.States.Known.{led}
use Rattle.laws_runs.proofs.States.Standing.{on_top}
use Rattle.laws_slots.proofs.Laws.{alike_before, keyed_before}
use Rattle.laws_slots.proofs.Threads.{steps_frame, walk_live}
use Rattle.laws_slots.specs.Rep.{Means, meant_frame, meant_routine, meant_thread, meant_value, named}
use Rattle.laws_slots.specs.SlotStep.{top_frame}
use Rattle.laws_slots.specs.Slots.{SlotFrame, SlotRoutine, SlotShared, SlotThread, SlotWalk, SlotWorld, packet_at}
use Rattle.laws_slots.proofs.Keys.{Found, Keyed, found_low, found_read}
use Rattle.laws_slots.proofs.Words.{map_get, register_meant}

number_value : (name : ℕ → ℕ) (v : Value) → (number_in (meant_value name v) ≡ None → ⊥)
    → (n : ℕ) × (v ≡ Num n)
number_value name (Num n) h = (n, refl)
number_value name Blank h = absurd (h refl)
number_value name (Ref k) h = absurd (h refl)
number_value name (StatusValue status) h = absurd (h refl)

-- a value that is the key of a used slot
pub record HasSlot (s : SlotShared) (v : Value) : Type 0 where
  pub key : ℕ
  pub packet : Packet
  pub is : v ≡ Ref key
  pub at : packet_at s key ≡ Some packet

module _ (name : ℕ → ℕ) (s : SlotShared) (r : Shared) (keyed : Keyed name s r) where
  key_value : (v : Value) (o : Option ℕ) → packet_in r (meant_value name v) ≡ o → (o ≡ None → ⊥)
      → HasSlot s v
  key_value v None is h = absurd (h refl)
  key_value (Ref k) (Some n) is h =
      let found : Found s r k n = found_read name s r keyed (Ref k) n is in
      record { key = k; packet = _; is = refl; at = found.at }
  key_value Blank (Some n) is h = cc
  key_value (Num m) (Some n) is h = cc
  key_value (StatusValue status) (Some n) is h = cc

  -- the routine of a top frame, which can't be told from that of the run
  module _ (set : Set) (states : States) (a c : Activation)
      (like : AlikeActivation set states None (meant_routine name a) c)
      (top : OnTop set states r (Routine c)) (i : Instr)
      (at : instruction_at set a.driver a.routine a.position ≡ Some i) where
    about : Runs set states r c i
    about =
        runs set states r c i top
        (sym (ap (λ (x : Activation). instruction_at set x.driver x.routine x.position) like.is)
        ∙ at)

    registers_like : (q : ℕ)
        → register (record c { registers = like.registers }) q ≡ meant_value name (register a q)
    registers_like q =
        sym (ap (λ (x : Activation). register x q) like.is) ∙ register_meant name a q

    pub finds_number : (q : ℕ) → (number_operand i ≡ Some q) ⊎ (second_operand i ≡ Some q)
        → (n : ℕ) × (register a q ≡ Num n)
    finds_number q is =
        number_value name (register a q)
        (λ none. number_found set states r c i q about is
        (ap number_in
        (sym (number_same set states r c like.registers like.long like.same i about q is)
        ∙ registers_like q) ∙ none))

    pub finds_packet : (q : ℕ) → packet_operand i ≡ Some q → HasSlot s (register a q)
    finds_packet q is =
        key_value (register a q) (packet_in r (meant_value name (register a q))) refl
        (λ none. packet_there set states r c i q about is
        (ap (packet_in r)
        (sym (packet_same set states r c like.registers like.long like.same i about q is)
        ∙ registers_like q) ∙ none))

-- a thread's top frame, where slots mean the world of a run
module _ (set : Set) (typable : IsTypable set) (sound : IsSound set) (threads : ℕ)
    (events : List Event) (v : SlotWorld) (rep : Means set v (run set threads events).world)
    (t : ℕ) (x : SlotThread) (found : slice_get v.threads t ≡ Some x) where
  abbrev pub states : States
  states = (led set typable sound).0

  pub good : IsGood set states
  good = record { sound = sound; led = (led set typable sound).1 }

  abbrev pub w : World
  w = (run set threads events).world

  pub keeps : Keeps set states threads w (run set threads events).past
  keeps = (lasts set states good threads events).keeps

  pub alike : AlikeThreads set states w.shared (map (meant_thread (named v.shared)) v.threads)
      w.threads
  alike = alike_before set typable sound threads events v rep (named v.shared) (λ j live. refl)

  pub keys : Keyed (named v.shared) v.shared w.shared
  keys = keyed_before set typable sound threads events v rep

  one_there : (o : Option Thread) → slice_get w.threads t ≡ o
      → AlikeAt set states w.shared (Some (meant_thread (named v.shared) x)) o
      → (y : Thread) × (slice_get w.threads t ≡ Some y)
      × AlikeThread set states w.shared (meant_thread (named v.shared) x) y
  one_there None there h = absurd h
  one_there (Some y) there h = (y, there, h)

  pub run_thread : (y : Thread) × (slice_get w.threads t ≡ Some y)
      × AlikeThread set states w.shared (meant_thread (named v.shared) x) y
  run_thread =
      one_there (slice_get w.threads t) refl
      (subst (λ (o : Option Thread). AlikeAt set states w.shared o (slice_get w.threads t))
      (map_get (meant_thread (named v.shared)) v.threads t
      ∙ ap (λ (o : Option SlotThread). option_map (meant_thread (named v.shared)) o) found)
      (alike_at set states w.shared (map (meant_thread (named v.shared)) v.threads) w.threads t
      alike))

  -- its frame in the run, and the step that it does there
  pub run_steps : (f : SlotFrame) → top_frame x.frames ≡ Some f
      → (h : StepsFrame set w t)
      × AlikeFrame set states w.shared None (meant_frame (named v.shared) f) h.frame
  run_steps f is =
      steps_frame set states threads w (run set threads events).past good keeps v rep.shared
      rep.order rep.cancels alike t x run_thread.0 found run_thread.1 run_thread.2 f is

  record RunFrame (f : SlotFrame) : Type 0 where
    frame : Frame
    top : OnTop set states w.shared frame
    like : AlikeFrame set states w.shared None (meant_frame (named v.shared) f) frame
    lives : (n : ℕ) → frame ≡ Walk n → is_some (packet_of w.shared n) ≡ true

  run_frame : (f : SlotFrame) → top_frame x.frames ≡ Some f → RunFrame f
  run_frame f is =
      let h : (h : StepsFrame set w t)
      × AlikeFrame set states w.shared None (meant_frame (named v.shared) f) h.frame =
      run_steps f is in
      record {
        frame = h.0.frame;
        top = on_top set states w (run set threads events).past good keeps.stands t h.0;
        like = h.1;
        lives = walk_live set states threads w (run set threads events).past good keeps v rep.shared
            rep.order rep.cancels alike t h.0;
      }

  -- the operands of the instruction that it executes
  pub record RoutineFinds (a : Activation) (i : Instr) : Type 0 where
    pub numbers : (q : ℕ) → (number_operand i ≡ Some q) ⊎ (second_operand i ≡ Some q)
        → (n : ℕ) × (register a q ≡ Num n)
    pub packets : (q : ℕ) → packet_operand i ≡ Some q
        → HasSlot v.shared (register a q)

  finds_on : (a : Activation) (i : Instr)
      → instruction_at set a.driver a.routine a.position ≡ Some i
      → (f : Frame) → OnTop set states w.shared f
      → AlikeFrame set states w.shared None (Routine (meant_routine (named v.shared) a)) f
      → RoutineFinds a i
  finds_on a i at (Routine c) top like =
      record {
        numbers = finds_number (named v.shared) v.shared w.shared keys set states a c like top i at;
        packets = finds_packet (named v.shared) v.shared w.shared keys set states a c like top i at;
      }
  finds_on a i at _ top like = absurd like

  pub routine_finds : (a : Activation) (i : Instr) → top_frame x.frames ≡ Some (SlotRoutine a)
      → instruction_at set a.driver a.routine a.position ≡ Some i → RoutineFinds a i
  routine_finds a i is at =
      let here : RunFrame (SlotRoutine a) = run_frame (SlotRoutine a) is in
      finds_on a i at here.frame here.top here.like

  -- the I/O manager completes the packet of a used slot
  walks_on : (k : ℕ) (f : Frame) → OnTop set states w.shared f
      → AlikeFrame set states w.shared None (Walk (named v.shared k)) f
      → ((n : ℕ) → f ≡ Walk n → is_some (packet_of w.shared n) ≡ true)
      → (p : Packet) × (packet_at v.shared k ≡ Some p)
  walks_on k (Walk n) top like lives =
      let is : named v.shared k ≡ n = like (lives n refl) in
      let found : Found v.shared w.shared k n =
      found_low (named v.shared) v.shared w.shared keys k n is top.stands in
      (_, found.at)
  walks_on k (Routine c) top like lives = absurd like
  walks_on k (CancelFrame c) top like lives = absurd like

  pub walk_finds : (k : ℕ) → top_frame x.frames ≡ Some (SlotWalk k)
      → (p : Packet) × (packet_at v.shared k ≡ Some p)
  walk_finds k is =
      let here : RunFrame (SlotWalk k) = run_frame (SlotWalk k) is in
      walks_on k here.frame here.top here.like here.lives
