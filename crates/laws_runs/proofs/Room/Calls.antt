-- A packet that is sent down has room for the lower device, in a location of its own too: so no
-- packet is sent past its last location. A completion routine that may hold the packet is stored
-- under a location that is marked, since who sets it owns the packet.
use Rattle.laws_runs.proofs.Common.{ap, arith, inl, inr, refl, subst, sym, ◌∙◌, length-set, Bool, List, None, Option, Some, [], false, length, nat_le, slice_get, true, ℕ, ◌&&◌, ◌+◌, ◌<◌, ◌∷◌, ◌≡◌, ◌≤◌, Calls, Executes, Touches, Outcome, asks, dispatched, leaves, routine_of_device, set_by, sort_of_completion, depth, stack_size, is_new, is_right, demanded, given_down, is_hold, kind_of, one_handed_or_owned, Set, lower_of, sort_of, Entry, Shared, asked_of, current_location, is_marked, next, packet_of, register, sent_down, with_packet, Abs, Kind, New, Own, CompletionRule, Instr, Call, Hold, Activation, Completion, Frame, Routine, Packet, Ref, States, frame_rights, frame_walks, right, rights, Each, begins_lower, IsGood, Runs, state_of, down, arrives_next, SendsDown, first_none, second_none, unbroken, Forwarding, packet_operand, work_of, not_at_most}
use Rattle.model.specs.LocalRule.{hold_fault}
use Rattle.laws_runs.proofs.Devices.{dispatched_device}
use Rattle.laws_runs.proofs.Holders.Counts.{Holding, reads_ref}
use Rattle.laws_runs.proofs.Holders.Onward.{given_rights}
use Rattle.laws_runs.proofs.Holders.Rights.{one_right, right_le}
use Rattle.laws_runs.proofs.Holders.Sums.{unheld, unheld_one}
use Rattle.laws_runs.proofs.Holders.Waits.{device_driver}
use Rattle.laws_runs.proofs.Past.LivePackets.{find}
use Rattle.laws_runs.proofs.Past.Packets.{found, named}
use Rattle.laws_runs.proofs.Past.Stacks.{Measured}
use Rattle.laws_runs.proofs.Room.Changes.{AllWays, changed, keeps_other, waits_apart, ways_set, words_set}
use Rattle.laws_runs.proofs.Room.Frames.{begins_asked, next_room, no_gain, room_on}
use Rattle.laws_runs.proofs.Room.Registers.{claim_get, claims_owned, claims_right, is_owned}
use Rattle.laws_runs.proofs.Room.Sizes.{smaller, some_stack, stack_at}
use Rattle.laws_runs.proofs.Room.Waiting.{FrameRoom, HasRoom, Keeps, MarkedIn, RoomAt, RoomFor, WaitingRoom, waiting_kept}
use Rattle.laws_runs.proofs.Room.Ways.{WayUp, sent_way}
use Rattle.laws_runs.proofs.States.Entering.{LowerThere}
use Rattle.laws_runs.proofs.States.Lacking.{lower_device}
use Rattle.laws_runs.proofs.States.Obeyed.{locations_wanted}
use Rattle.laws_runs.proofs.Steps.Comes.{Reads}

-- what a step leaves: room, and the packets as they were that the frame neither holds nor completes
pub record LeavesRoom (set : Set) (states : States) (s : Shared) (f : Frame) (o : Outcome) : Type 0
  where
    pub frames : Each (HasRoom set states o.shared) o.frames
    pub others : (n : ℕ) → frame_rights states f n ≡ 0 → frame_walks f n ≡ 0 → Keeps s o.shared n
    pub waiting : WaitingRoom set o.shared
    pub ways : AllWays set o.shared

-- what is sent down with a completion routine that may hold it was owned
handed_owned : (k : Kind) → demanded one_handed_or_owned k ≡ None → is_new k ≡ false
    → is_owned k ≡ true
handed_owned New rule new = cc
handed_owned Own rule new = refl
handed_owned _ rule new = cc

not_both : (b : Bool) → (b && true) ≡ false → b ≡ false
not_both true h = cc
not_both false h = refl

-- the completion routine that a call sets
set_for : (a : Activation) (g : Option ℕ) (c : Completion) → set_by a g ≡ Some c
    → (number : ℕ) × (g ≡ Some number) × (c ≡ record { routine = number; device = a.device })
set_for a None c is = cc
set_for a (Some number) c is =
    let same : c ≡ record { routine = number; device = a.device } = cc in (number, refl, same)

module _ (set : Set) (states : States) (s : Shared) where
  -- what is under a routine's device has room for less by as many locations as forwarding takes
  pub lower_smaller : (a : Activation) (i : Instr) (r lower : ℕ) → Runs set states s a i
      → work_of i ≡ Forwarding
      → packet_operand i ≡ Some r → lower_of set a.device ≡ Some lower
      → (stack_at set lower + locations_wanted i ≤ stack_at set a.device) × (1 ≤ stack_at set lower)
  lower_smaller a i r lower h is operand below =
      let there : LowerThere set a.device = lower_device set states s a i h is in
      let both : Some there.0 ≡ Some lower = sym there.1 ∙ below in
      let same : there.0 ≡ lower = cc in
      let device : slice_get set.devices lower ≡ Some there.2 = rw same at there.3 in (
        smaller set a.device lower a.driver (locations_wanted i) there.2 h.stays.serves below device
            (down set states s a i r h is operand).room,
        some_stack set lower there.2 h.good.sound device,
      )

  -- the device of a routine has a stack location
  pub own_stack : (a : Activation) (i : Instr) → Runs set states s a i → 1 ≤ stack_at set a.device
  own_stack a i h = some_stack set a.device h.stays.serves.0 h.good.sound h.stays.serves.1

  -- the packet in a register with the right to it has room
  pub right_room : (a : Activation) (r n : ℕ) (p : Packet) → FrameRoom set states s a
      → is_right (kind_of (state_of states a) r) ≡ true → Reads s a r n → packet_of s n ≡ Some p
      → RoomAt set a.device p
  right_room a r n p room is reads there =
      claim_get is_right claims_right (RoomFor set s a.device) (state_of states a).kinds a.registers
      r
      room.rooms is n (reads_ref s (register a r) n reads) p (found s n (Some p) there)

  pub read_same : (a : Activation) (r n m : ℕ) → Reads s a r n → register a r ≡ Ref m → n ≡ m
  read_same a r n m reads refers =
      let both : Ref n ≡ Ref m = sym (reads_ref s (register a r) n reads) ∙ refers in cc

  -- a routine of a lower device is asked
  pub asked_room : (after : Shared) (a : Activation) (lower n : ℕ) (p : Packet)
      → IsGood set states → n < s.issued → lower_of set a.device ≡ Some lower
      → RoomFor set after lower n
      → FrameRoom set states after
      (dispatched set lower (slice_get set.devices lower) (asked_of (current_location p)) n)
  asked_room after a lower n p good low below room =
      let b : Activation =
      dispatched set lower (slice_get set.devices lower) (asked_of (current_location p)) n in
      let device : b.device ≡ lower =
      dispatched_device set lower (slice_get set.devices lower) (asked_of (current_location p)) n in
      begins_asked set states s.issued after b n
      (begins_lower set states good s.issued n low a.device lower (asked_of (current_location p))
      below)
      (rw device room)

  -- a packet is sent down in a location of its own
  module _ (past : List Entry) (a : Activation) (r : ℕ) (g : Option ℕ) (n : ℕ) (p : Packet)
      (lower : ℕ)
      (h : Runs set states s a (Call r g)) (there : packet_of s n ≡ Some p) (reads : Reads s a r n)
      (below : lower_of set a.device ≡ Some lower)
      (holding : Holding set states s past (Routine a))
      (room : FrameRoom set states s a) where
    abbrev sent : Packet
    sent = sent_down p lower (set_by a g)

    abbrev called : Outcome
    called = leaves (with_packet s n sent) (asks set a lower p n)
        (Executes ∷ Touches n ∷ Calls n ∷ [])

    here : find s.packets n ≡ Some p
    here = found s n (Some p) there

    sends : SendsDown (state_of states a) (sort_of set a.driver a.routine) set a.driver (Call r g) r
    sends = down set states s a (Call r g) r h refl refl

    -- the caller had the right, and room for the lower device
    record Caller : Type 0 where
      had : 1 ≤ frame_rights states (Routine a) n
      gave : frame_rights states (Routine (next a)) n ≡ 0
      own : RoomAt set a.device p
      left : p.depth + stack_at set lower ≤ length p.locations.items
      some : 1 ≤ stack_at set lower

    caller : Caller
    caller =
        let own : RoomAt set a.device p = right_room a r n p room sends.right reads there in
        let small : (stack_at set lower + 1 ≤ stack_at set a.device) × (1 ≤ stack_at set lower) =
        lower_smaller a (Call r g) r lower h refl refl below in
        let less : stack_at set lower + 1 ≤ stack_at set a.device = small.0 in
        let one : right (kind_of (state_of states a) r) (register a r) n ≡ 1 =
        one_right (kind_of (state_of states a) r) (register a r) n sends.right
        (reads_ref s (register a r) n reads) in
        let le : right (kind_of (state_of states a) r) (register a r) n
        ≤ rights (state_of states a).kinds a.registers n =
        right_le s.issued (state_of states a).kinds a.registers r n h.stays.kinds in
        let given : rights (given_down (state_of states a) r (kind_of (state_of states a) r)).kinds
        a.registers n + right (kind_of (state_of states a) r) (register a r) n
        ≡ rights (state_of states a).kinds a.registers n =
        given_rights s.issued (state_of states a) a.registers r (kind_of (state_of states a) r) n
        h.stays.kinds sends.right sends.unqueued in
        let now : frame_rights states (Routine (next a)) n
        ≡ rights (given_down (state_of states a) r (kind_of (state_of states a) r)).kinds
        a.registers
        n =
        ap (λ (state : Abs). rights state.kinds a.registers n)
        (arrives_next set states s a (Call r g) h refl ∙ sends.after) in
        let at_most : unheld (find s.packets n) ≤ 1 = unheld_one (find s.packets n) in
        let all : frame_rights states (Routine a) n
        ≤ unheld (find s.packets n) = holding.rights n in
        record {
          had = omega arith;
          gave = omega arith;
          own = own;
          left = omega arith;
          some = small.1;
        }

    -- so the call doesn't send the packet past its last location
    pub call_fits : nat_le (stack_size past n) (depth past n) ≡ false
    call_fits =
        let measured : Measured p _ _ (stack_size past n) (depth past n) = holding.tells.live n p
        here in
        let size : stack_size past n ≡ length p.locations.items = measured.count in
        let place : depth past n ≡ p.depth = measured.place in
        let left : p.depth + stack_at set lower ≤ length p.locations.items = caller.left in
        let some : 1 ≤ stack_at set lower = caller.some in
        not_at_most (stack_size past n) (depth past n) (omega arith)

    call_others : (m : ℕ) → frame_rights states (Routine a) m ≡ 0 → Keeps s (with_packet s n sent) m
    call_others m none =
        keeps_other s n p sent there refl m
        (λ same.
        let had : 1 ≤ frame_rights states (Routine a) n = caller.had in
        let free : frame_rights states (Routine a) n ≡ 0 =
        subst (λ (k : ℕ). frame_rights states (Routine a) k ≡ 0) (sym same) none in
        absurd (omega arith))

    -- the caller has the right to other packets alone
    caller_room : FrameRoom set states (with_packet s n sent) (next a)
    caller_room =
        room_on set states s (with_packet s n sent) (next a)
        (λ m some. keeps_other s n p sent there refl m
        (λ same.
        let gave : frame_rights states (Routine (next a)) m ≡ 0 =
        subst (λ (k : ℕ). frame_rights states (Routine (next a)) k ≡ 0) same caller.gave in
        absurd (omega arith)))
        (next_room set states s s a (Call r g) h refl refl
        (no_gain set states s a (Call r g) refl) room)

    sent_room : RoomFor set (with_packet s n sent) lower n
    sent_room q at =
        let left : p.depth + stack_at set lower ≤ length p.locations.items = caller.left in
        let long : length sent.locations.items ≡ length p.locations.items =
        length-set p.locations.items p.depth _ in
        elim (changed s n p sent there refl n q at) [
          | inl e ↦ subst (RoomAt set lower) (sym e.1) (omega arith)
          | inr e ↦ absurd (e.0 refl)
        ]

    -- a completion routine that may hold the packet is set by who owns it
    call_marked : (c : Completion) → set_by a g ≡ Some c → sort_of_completion set c ≡ Hold
        → is_marked (current_location p) ≡ true
    call_marked c is holds =
        let its : (number : ℕ) × (g ≡ Some number)
        × (c ≡ record { routine = number; device = a.device }) = set_for a g c is in
        let driver : routine_of_device (slice_get set.devices a.device) ≡ a.driver =
        device_driver set a.device a.driver h.stays.serves in
        let sort : sort_of set a.driver its.0 ≡ Hold =
        rw (its.2, driver) at holds in
        let rule : hold_fault (kind_of (state_of states a) r) set a.driver (Some its.0) ≡ None =
        subst (λ (x : Option ℕ). hold_fault (kind_of (state_of states a) r) set a.driver x ≡ None)
        its.1
        (second_none _ _ (second_none _ _ h.obeys)) in
        let both : (is_new (kind_of (state_of states a) r) && is_hold (sort_of set a.driver its.0))
        ≡ false = unbroken _ CompletionRule rule in
        let old : is_new (kind_of (state_of states a) r) ≡ false =
        not_both (is_new (kind_of (state_of states a) r)) (rw sort at both) in
        claim_get is_owned claims_owned (MarkedIn s) (state_of states a).kinds a.registers r
        room.marks
        (handed_owned (kind_of (state_of states a) r) (first_none _ _ h.obeys) old) n
        (reads_ref s (register a r) n reads) p here

    call_way : WayUp set p → WayUp set sent
    call_way way =
        let left : p.depth + stack_at set lower ≤ length p.locations.items = caller.left in
        let some : 1 ≤ stack_at set lower = caller.some in
        sent_way set p lower (set_by a g) way (omega arith)
        (λ c is.
        let its : (number : ℕ) × (g ≡ Some number)
        × (c ≡ record { routine = number; device = a.device }) = set_for a g c is in
        rw its.2 caller.own)
        call_marked

    pub call_room : WaitingRoom set s → AllWays set s → LeavesRoom set states s (Routine a) called
    call_room waiting ways =
        record {
          frames = (
            caller_room,
            (
              asked_room (with_packet s n sent) a lower n p h.good (named s (register a r) n reads)
                  below
                  sent_room,
              tt,
            ),
          );
          others = λ m free walk. call_others m free;
          waiting = waiting_kept set s (with_packet s n sent) waiting
              (words_set s n p sent there refl (λ armer is. is))
              (λ m some. call_others m (waits_apart set states s past (Routine a) holding m
              some).0);
          ways = ways_set s n p sent there refl set call_way ways;
        }
