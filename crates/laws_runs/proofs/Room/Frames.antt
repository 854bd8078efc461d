-- The room of a routine's frame: where the packets stay that it has the right to, where it goes on,
-- and where it begins.
use Rattle.laws_runs.proofs.Common.{ap, refl, sym, ◌-◌, ◌∙◌, Bool, None, Option, Some, false, is_some, replicate, true, ℕ, ◌∷◌, ◌≡◌, ◌≤◌, answered_in, operand_of, is_right, kind_of, Set, cancels_for, flow_of, instruction_at, Shared, next, register, Abs, Kind, BlankKind, New, Own, Queued, View, Cancelling, Instr, REGISTERS, QueueName, Cancel, Dispatch, Dpc, Hold, Propagate, StartIo, Status, Activation, Frame, CancelFrame, Routine, Walk, Packet, Value, Blank, Ref, States, frame_rights, Begins, Enters, first_state, Runs, state_of, HoldOf, has_next, told_frame, GoesTo, goes_device}
use Rattle.laws_runs.proofs.Past.LivePackets.{find}
use Rattle.laws_runs.proofs.Room.Registers.{IsClaim, Refers, claim_first, claim_told, claimed_on, claims_owned, claims_right, brings, gained_by, goes_claims, is_gained, is_owned, next_claims}
use Rattle.laws_runs.proofs.Room.Waiting.{FrameRoom, HasPlace, HasRoom, Keeps, MarkedIn, RoomFor, room_kept}
use Rattle.laws_runs.proofs.Room.Ways.{Stays}

module _ (set : Set) (states : States) where
  -- the packets that it has the right to are as they were
  pub room_on : (s after : Shared) (a : Activation)
      → ((n : ℕ) → 1 ≤ frame_rights states (Routine a) n → Keeps s after n)
      → FrameRoom set states s a → FrameRoom set states after a
  room_on s after a keeps room =
      record {
        rooms = claimed_on is_right claims_right (RoomFor set s a.device)
            (RoomFor set after a.device)
            (state_of states a).kinds a.registers
            (λ n some has q there.
            let old : (p : Packet) × (find s.packets n ≡ Some p)
            × Stays p q = keeps n some q there in
            room_kept set a.device old.0 q old.2 (has old.0 old.1)) room.rooms;
        marks = claimed_on is_owned claims_owned (MarkedIn s) (MarkedIn after)
            (state_of states a).kinds a.registers
            (λ n some has q there.
            let old : (p : Packet) × (find s.packets n ≡ Some p)
            × Stays p q = keeps n some q there in
            old.2.mark (has old.0 old.1)) room.marks;
      }

  pub frame_on : (s after : Shared) (f : Frame)
      → ((n : ℕ) → 1 ≤ frame_rights states f n → Keeps s after n)
      → HasRoom set states s f → HasRoom set states after f
  frame_on s after (Routine a) keeps room = room_on s after a keeps room
  frame_on s after _ keeps room = tt

  -- the same registers of the same kinds, for the same device
  pub room_same : (s : Shared) (a b : Activation) → b.device ≡ a.device
      → state_of states b ≡ state_of states a → b.registers ≡ a.registers
      → FrameRoom set states s a → FrameRoom set states s b
  room_same s a b device state registers room =
      record {
        rooms = rw (device, state, registers) room.rooms;
        marks = rw (state, registers) room.marks;
      }

  -- it is told a status
  answered_room : (s : Shared) (a : Activation) (status : Status) (r : Option ℕ)
      → FrameRoom set states s a → FrameRoom set states s (answered_in a status r)
  answered_room s a status None room = room
  answered_room s a status (Some r) room =
      record {
        rooms = claim_told is_right claims_right (RoomFor set s a.device) (state_of states a).kinds
            a.registers r status room.rooms;
        marks = claim_told is_owned claims_owned (MarkedIn s) (state_of states a).kinds a.registers
            r
            status room.marks;
      }

  pub told_room : (s : Shared) (told : Option Status) (g : Frame) → HasRoom set states s g
      → HasRoom set states s (told_frame set told g)
  told_room s None (Routine a) room = room
  told_room s None (Walk n) room = tt
  told_room s None (CancelFrame c) room = tt
  told_room s (Some status) (Routine a) room =
      answered_room s a status
      (operand_of (instruction_at set a.driver a.routine (a.position - 1))) room
  told_room s (Some status) _ room = tt

  -- it goes on: a packet to which it gets a right has a place at its device, and so has one that it
  -- marks
  abbrev pub GainsPlace : Shared → Activation → Instr → Type 0
  GainsPlace after a i =
      (r n : ℕ) → gained_by i ≡ Some r → is_gained (kind_of (state_of states a) r) ≡ true
      → register a r ≡ Ref n → HasPlace set after a.device n

  pub no_gain : (after : Shared) (a : Activation) (i : Instr) → gained_by i ≡ None
      → GainsPlace after a i
  no_gain after a i none r n is = let no : None ≡ Some r = sym none ∙ is in cc

  module _ (s after : Shared) (a : Activation) (i : Instr) (h : Runs set states s a i) where
    pub goes_room : (b : Activation) (jumped : Bool) → GoesTo a i b jumped
        → (jumped ≡ false → GainsPlace after a i) → FrameRoom set states after a
        → FrameRoom set states after b
    goes_room b jumped goes gains room =
        let device : b.device ≡ a.device = goes_device a i b jumped goes in
        record {
          rooms = rw device
              (goes_claims is_right claims_right (RoomFor set after a.device) set states s a i h b
              jumped
              goes (λ on r is kind n refers p there. (gains on r n is kind refers p there).room)
              room.rooms);
          marks = goes_claims is_owned claims_owned (MarkedIn after) set states s a i h b jumped
              goes
              (λ on r is kind n refers p there. (gains on r n is kind refers p there).marked)
              room.marks;
        }

    pub next_room : has_next (flow_of i) ≡ true → brings i ≡ false → GainsPlace after a i
        → FrameRoom set states after a → FrameRoom set states after (next a)
    next_room leads brought gains room =
        record {
          rooms = next_claims is_right claims_right (RoomFor set after a.device) set states s a i h
              leads
              brought (λ r is kind n refers p there. (gains r n is kind refers p there).room)
              room.rooms;
          marks = next_claims is_owned claims_owned (MarkedIn after) set states s a i h leads
              brought
              (λ r is kind n refers p there. (gains r n is kind refers p there).marked) room.marks;
        }

  -- it begins
  begins_claims : (f : Kind → Bool) → IsClaim f → (M : ℕ → Type 0) (a : Activation) (k : Kind)
      (v : Value)
      → (state_of states a).kinds ≡ k ∷ replicate (REGISTERS - 1) BlankKind
      → a.registers ≡ v ∷ replicate (REGISTERS - 1) Blank → (f k ≡ true → Refers M v)
      → HoldOf f (Refers M) (state_of states a).kinds a.registers
  begins_claims f claim M a k v kinds registers has =
      rw (kinds, registers) (claim_first f claim M k v (REGISTERS - 1) has)

  module _ (issued : ℕ) (s : Shared) (a : Activation) (n : ℕ) where
    -- with a packet that it was handed, has room for, and hasn't marked
    new_room : (state_of states a).kinds ≡ New ∷ replicate (REGISTERS - 1) BlankKind
        → a.registers ≡ Ref n ∷ replicate (REGISTERS - 1) Blank → RoomFor set s a.device n
        → FrameRoom set states s a
    new_room kinds registers room =
        record {
          rooms = begins_claims is_right claims_right (RoomFor set s a.device) a New (Ref n) kinds
              registers (λ is m refers. let same : n ≡ m = cc in rw (← same) room);
          marks = begins_claims is_owned claims_owned (MarkedIn s) a New (Ref n) kinds registers
              (λ is. cc);
        }

    pub begins_asked : Begins set states issued a Dispatch n → RoomFor set s a.device n
        → FrameRoom set states s a
    begins_asked begins room =
        new_room (ap (λ (state : Abs). state.kinds) begins.start) begins.registers room

    pub begins_holding : Begins set states issued a Hold n → RoomFor set s a.device n
        → FrameRoom set states s a
    begins_holding begins room =
        new_room (ap (λ (state : Abs). state.kinds) begins.start) begins.registers room

    -- with one that it owns
    owned_room : (k : Kind) → (state_of states a).kinds ≡ k ∷ replicate (REGISTERS - 1) BlankKind
        → a.registers ≡ Ref n ∷ replicate (REGISTERS - 1) Blank → HasPlace set s a.device n
        → FrameRoom set states s a
    owned_room k kinds registers place =
        record {
          rooms = begins_claims is_right claims_right (RoomFor set s a.device) a k (Ref n) kinds
              registers
              (λ is m refers p there.
              let same : n ≡ m = cc in (place p (rw same there)).room);
          marks = begins_claims is_owned claims_owned (MarkedIn s) a k (Ref n) kinds registers
              (λ is m refers p there.
              let same : n ≡ m = cc in (place p (rw same there)).marked);
        }

    pub begins_started : Begins set states issued a StartIo n → HasPlace set s a.device n
        → FrameRoom set states s a
    begins_started begins place =
        owned_room Own (ap (λ (state : Abs). state.kinds) begins.start) begins.registers place

    cancel_kinds : (name : Option QueueName) → is_some name ≡ true
        → (list : QueueName) × ((first_state Cancel name).kinds
        ≡ Queued list Cancelling ∷ replicate (REGISTERS - 1) BlankKind)
    cancel_kinds None is = cc
    cancel_kinds (Some list) is = (list, refl)

    pub begins_cancel : Begins set states issued a Cancel n → HasPlace set s a.device n
        → FrameRoom set states s a
    begins_cancel begins place =
        let first : (list : QueueName)
        × ((first_state Cancel (cancels_for set a.driver a.routine)).kinds
        ≡ Queued list Cancelling ∷ replicate (REGISTERS - 1) BlankKind) =
        cancel_kinds (cancels_for set a.driver a.routine) (begins.named begins.of_sort) in
        owned_room (Queued first.0 Cancelling)
        (ap (λ (state : Abs). state.kinds) begins.start ∙ first.1)
        begins.registers place

    -- with one on its way up, or none
    pub begins_back : Begins set states issued a Propagate n → FrameRoom set states s a
    begins_back begins =
        record {
          rooms = begins_claims is_right claims_right (RoomFor set s a.device) a View (Ref n)
              (ap (λ (state : Abs). state.kinds) begins.start) begins.registers (λ is. cc);
          marks = begins_claims is_owned claims_owned (MarkedIn s) a View (Ref n)
              (ap (λ (state : Abs). state.kinds) begins.start) begins.registers (λ is. cc);
        }

    pub begins_idle : Enters set states issued a Dpc Blank → FrameRoom set states s a
    begins_idle enters =
        record {
          rooms = begins_claims is_right claims_right (RoomFor set s a.device) a BlankKind Blank
              (ap (λ (state : Abs). state.kinds) enters.start) enters.registers (λ is. cc);
          marks = begins_claims is_owned claims_owned (MarkedIn s) a BlankKind Blank
              (ap (λ (state : Abs). state.kinds) enters.start) enters.registers (λ is. cc);
        }
