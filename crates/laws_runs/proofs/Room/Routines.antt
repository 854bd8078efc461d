-- Each step of a routine keeps what who has the right to a packet finds: room for its device, and
-- where it owns the packet the mark of the current location.
use Rattle.laws_runs.proofs.Common.{ap, arith, inl, inr, refl, subst, sym, ◌-◌, ◌∙◌, Bool, List, None, Option, Some, [], false, is_none, slice_get, true, ℕ, ⊤, ◌+◌, ◌∷◌, ◌≡◌, ◌≤◌, Outcome, armer_of, armer_waiting, dispatched, turned, is_at, is_claim, is_exchanged, is_right, kind_of, queued_kind, StartState, Set, flow_of, lower_of, Actor, Entry, Shared, asked_of, completed, current_location, is_marked, mark_current, next, packet_of, register, shared_with, with_armer, with_info, with_packet, Kind, New, Queued, CancelState, Listed, Instr, Arm, Call, Complete, End, Loop, Mark, Pass, Put, QueueName, Declared, DeviceQueue, Activation, Armer, Frame, CancelFrame, Routine, Walk, Packet, States, Each, Runs, state_of, down, moved_end, moved_loop, falls_next, inserts_right, OnTop, runs, first_none, granted, Comes, Exchanged, Executing, GoesTo, Waits, arms_for, arms_waiting, awaits_lock, calls_down, completes_gone, completes_packet, computes, disarms, disarms_next, errs, exchanges, frees_lock, looks_at, marks_packet, opens_loop, pages, passes_down, resumes_walk, retakes_lock, takes_lock, touches_gone, turns_loop, waited_to, works_on_queues, works_on_waiting, writes_info, LockWord, freed_word, taken_word, turned_device, turned_registers, goes_next, is_giving, is_touching, packet_operand, work_of}
use Rattle.laws_runs.proofs.Holders.Counts.{Holding}
use Rattle.laws_runs.proofs.Past.LivePackets.{find}
use Rattle.laws_runs.proofs.Past.Packets.{found, named}
use Rattle.laws_runs.proofs.Room.Calls.{LeavesRoom, asked_room, call_room, lower_smaller, own_stack, read_same, right_room}
use Rattle.laws_runs.proofs.Room.Changes.{AllKeep, AllWays, all_keep, changed, keeps_set, ways_kept, words_set}
use Rattle.laws_runs.proofs.Room.Frames.{GainsPlace, goes_room, next_room, no_gain, room_on, room_same}
use Rattle.laws_runs.proofs.Room.Locations.{marked_here}
use Rattle.laws_runs.proofs.Room.Registers.{gained_operand, is_owned, keeps_brings, mark_gains, nothing_gained, touching_brings, claims_right, claims_owned}
use Rattle.laws_runs.proofs.Room.Sizes.{stack_at}
use Rattle.laws_runs.proofs.Room.Waiting.{FrameRoom, HasRoom, Place, RoomAt, SameWaiting, WaitingRoom, own_place, place_kept, queued_room, room_kept, waiting_kept, waiting_queued}
use Rattle.laws_runs.proofs.Room.Ways.{Stays, stays_marked, stays_same, stays_shared}
use Rattle.laws_runs.proofs.Steps.Comes.{Reads}
use Rattle.laws_runs.proofs.Holders.Waits.{NextArmed}
use Rattle.laws_runs.proofs.Room.Waiting.{waits_claims, waiting_waits, RoomFor, MarkedIn}

-- a cancel word that a routine finds set while it has a packet that may be cancelled names its
-- device
abbrev pub NamesDevice : States → Shared → Frame → Type 0
NamesDevice states s (Routine a) =
    (r n : ℕ) (p : Packet) (armer : Armer)
    → is_exchanged (kind_of (state_of states a) r) ≡ true → Reads s a r n
    → find s.packets n ≡ Some p → p.armer ≡ Some armer → armer.device ≡ a.device
NamesDevice states s (Walk n) = ⊤
NamesDevice states s (CancelFrame c) = ⊤

-- what is exchanged, and what is armed
exchanged_of : (k : Kind) → queued_kind (is_exchanged k) k ≡ None → is_exchanged k ≡ true
exchanged_of (Queued name stage) rule = granted (is_claim stage) CancelState rule
exchanged_of _ rule = cc

listed_owned : (name : QueueName) (k : Kind) → queued_kind (is_at Listed name k) k ≡ None
    → is_owned k ≡ true
listed_owned name (Queued other Listed) rule = refl
listed_owned name _ rule = cc

armer_found : (o : Option Armer) → is_none o ≡ false → (armer : Armer) × (o ≡ Some armer)
armer_found None h = cc
armer_found (Some armer) h = (armer, refl)

module _ (set : Set) (states : States) (s : Shared) where
  -- the packet that is marked is marked then, and has room
  mark_place : (a : Activation) (r n : ℕ) (p : Packet) → Runs set states s a (Mark r)
      → AllWays set s → FrameRoom set states s a → Reads s a r n → packet_of s n ≡ Some p
      → GainsPlace set states (with_packet s n (mark_current p)) a (Mark r)
  mark_place a r n p h ways room reads there k m is kind refers q at =
      let one : r ≡ k = cc in
      let new : kind_of (state_of states a) r ≡ New =
      mark_gains (state_of states a).settled (kind_of (state_of states a) r) h.obeys
      (rw (← one) at kind) in
      let left : RoomAt set a.device p = right_room set states s a r n p room (ap is_right new)
      reads there in
      let some : 1 ≤ stack_at set a.device = own_stack set states s a (Mark r) h in
      let low : 1 ≤ p.depth = (ways n p (found s n (Some p) there)).some in
      let marked : is_marked (current_location (mark_current p)) ≡ true =
      marked_here p.locations.items (p.depth - 1) (omega arith) in
      let place : Place set a.device (mark_current p) =
      record {
        room = room_kept set a.device p (mark_current p) (stays_marked p) left;
        marked =
            marked;
      } in
      let its : n ≡ m = read_same set states s a r n m reads (rw one refers) in
      elim (changed s n p (mark_current p) there refl m q at) [
        | inl g ↦ subst (λ (x : Packet). Place set a.device x) (sym g.1) place
        | inr g ↦ absurd (g.0 its)
      ]

  -- the packet whose cancel word is emptied
  disarm_place : (a : Activation) (i : Instr) (r n : ℕ) (p : Packet) (jumped : Bool)
      (armer : Option Armer)
      → Runs set states s a i → WaitingRoom set s → NamesDevice states s (Routine a)
      → packet_operand i ≡ Some r → Reads s a r n → packet_of s n ≡ Some p
      → Exchanged set a p i jumped armer → jumped ≡ false
      → GainsPlace set states (with_packet s n (with_armer p armer)) a i
  disarm_place a i r n p jumped armer h waiting names operand reads there
      (arms_for r2 q routine cancels_it) on k m is kind refers x at = cc
  disarm_place a i r n p jumped armer h waiting names operand reads there (disarms r2 label) on
      k m is kind refers q at =
      let first : r2 ≡ r = cc in
      let one : r2 ≡ k = cc in
      let both : r ≡ k = sym first ∙ one in
      let word : (armer : Armer) × (p.armer ≡ Some armer) = armer_found p.armer on in
      let here : find s.packets n ≡ Some p = found s n (Some p) there in
      let device : word.0.device ≡ a.device =
      names r n p word.0
      (rw (← first) (exchanged_of (kind_of (state_of states a) r2) h.obeys)) reads here word.1 in
      let place : Place set a.device p =
      subst (λ (d : ℕ). Place set d p) device (waiting.words n p word.0 here word.1) in
      let its : n ≡ m = read_same set states s a r n m reads (rw both refers) in
      elim (changed s n p (with_armer p None) there refl m q at) [
        | inl g ↦
            subst (λ (x : Packet). Place set a.device x) (sym g.1)
            (record { room = place.room; marked = place.marked })
        | inr g ↦ absurd (g.0 its)
      ]

  -- a packet that is gone
  gone_place : (a : Activation) (i : Instr) (r n : ℕ) → packet_operand i ≡ Some r → Reads s a r n
      → packet_of s n ≡ None → GainsPlace set states s a i
  gone_place a i r n operand reads gone k m is kind refers q at =
      let both : Some r ≡ Some k = sym operand ∙ gained_operand i k is in
      let one : r ≡ k = cc in
      let its : n ≡ m = read_same set states s a r n m reads (rw one refers) in
      let none : find s.packets n ≡ None = found s n None gone in
      let no : None ≡ Some q = sym none ∙ rw its at in
      cc

  module _ (past : List Entry) (actor : Actor) where
    -- a routine's frame goes on, and the packets stay as they were
    module _ (a : Activation) (h : OnTop set states s (Routine a))
        (holding : Holding set states s past (Routine a)) (room : FrameRoom set states s a)
        (waiting : WaitingRoom set s) (ways : AllWays set s)
        (names : NamesDevice states s (Routine a)) (armed : NextArmed set s (Routine a)) where
      abbrev Leaves : Outcome → Type 0
      Leaves o = LeavesRoom set states s (Routine a) o

      after_room : (after : Shared) → AllKeep s after → FrameRoom set states after a
      after_room after keeps = room_on set states s after a (λ n some. keeps n) room

      kept : (o : Outcome) → AllKeep s o.shared → SameWaiting s o.shared
          → (FrameRoom set states o.shared a → Each (HasRoom set states o.shared) o.frames)
          → Leaves o
      kept o keeps same frames =
          record {
            frames = frames (after_room o.shared keeps);
            others = λ n free walk. keeps n;
            waiting = waiting_kept set s o.shared waiting same (λ n some. keeps n);
            ways = ways_kept set s o.shared keeps ways;
          }

      -- the packets are the same, whatever stands in lists
      from_packets : (after : Shared) (b : Activation) → after.packets ≡ s.packets
          → FrameRoom set states s b → FrameRoom set states after b
      from_packets after b packets now =
          room_on set states s after b
          (λ n some q there. (q, rw (← packets) there, stays_same q q refl refl)) now

      -- it changes no packet
      alone : (o : Outcome) → o.shared.packets ≡ s.packets → o.shared.queues ≡ s.queues
          → o.shared.starts ≡ s.starts
          → (FrameRoom set states o.shared a → Each (HasRoom set states o.shared) o.frames)
          → Leaves o
      alone o packets queues starts frames =
          kept o (λ n q there. (q, rw (← packets) there, stays_same q q refl refl))
          (record {
            queues = queues;
            starts = starts;
            words = λ n q armer there is. (q, rw (← packets) there, is);
          }) frames

      -- or one, which stays where it is, with its cancel word
      changes : (o : Outcome) (n : ℕ) (p q : Packet) → packet_of s n ≡ Some p
          → o.shared ≡ with_packet s n q → q.number ≡ p.number → Stays p q → q.armer ≡ p.armer
          → (FrameRoom set states (with_packet s n q) a
          → Each (HasRoom set states (with_packet s n q)) o.frames) → Leaves o
      changes o n p q there shared number stays word frames =
          kept o (rw shared (keeps_set s n p q there number stays))
          (rw shared (words_set s n p q there number (λ armer is. sym word ∙ is)))
          (rw shared frames)

      lock_room : (after : Shared) (i : Instr) → LockWord i → Runs set states s a i
          → FrameRoom set states after a → FrameRoom set states after (next a)
      lock_room after i word run =
          next_room set states s after a i run (falls_next (flow_of i) word.on)
          (keeps_brings i word.keeps)
          (no_gain set states after a i (nothing_gained i (rw word.work refl)))

      goes : (after : Shared) (i : Instr) (b : Activation) (jumped : Bool)
          → Executing set a i → is_giving (work_of i) ≡ false → GoesTo a i b jumped
          → FrameRoom set states after a → FrameRoom set states after b
      goes after i b jumped at quiet goes_to =
          goes_room set states s after a i (runs set states s a i h at) b jumped goes_to
          (λ on. no_gain set states after a i (nothing_gained i quiet))

      -- a packet whose cancel word is set may be cancelled by a routine of its device
      word_set : (n : ℕ) (p : Packet) (word : Armer) → packet_of s n ≡ Some p
          → word.device ≡ a.device → Place set a.device p
          → WaitingRoom set (with_packet s n (with_armer p (Some word)))
      word_set n p word there its place =
          let after : Packet = with_armer p (Some word) in
          let keeps : AllKeep s (with_packet s n after) =
          keeps_set s n p after there refl (stays_same p after refl refl) in
          record {
            queues = λ d k m entries is plain some.
                place_kept set s (with_packet s n after) d m (keeps m)
                (waiting.queues d k m entries is plain some);
            starts = λ d m start is some.
                place_kept set s (with_packet s n after) d m (keeps m)
                (waiting.starts d m start is some);
            words = λ m x armer is named.
                elim (changed s n p after there refl m x is) [
                  | inl g ↦
                      let both : Some armer ≡ Some word =
                      sym named ∙ ap (λ (y : Packet). y.armer) g.1 in
                      let one : armer ≡ word = cc in
                      let device : armer.device ≡ a.device =
                      ap (λ (y : Armer). y.device) one ∙ its in
                      rw (device, g.1) (record { room = place.room; marked = place.marked })
                  | inr g ↦ waiting.words m x armer g.1 named
                ];
          }

      arm_words : (r q n : ℕ) (p : Packet) → Runs set states s a (Arm r q) → Reads s a r n
          → packet_of s n ≡ Some p
          → WaitingRoom set (with_packet s n (with_armer p (Some (armer_of a q))))
      arm_words r q n p run reads there =
          word_set n p (armer_of a q) there refl
          (own_place set states s a room r n
          (listed_owned (Declared q) (kind_of (state_of states a) r) (first_none _ _ run.obeys))
          reads p (found s n (Some p) there))

      -- the word of a packet in the device queue is set or emptied
      words_waited : (i : Instr) → Runs set states s a i → Executing set a i
          → {starts : List StartState} {n : ℕ} {armer : Option Armer} {full : Bool}
          → Waits set s a i starts n armer full → (p : Packet) → packet_of s n ≡ Some p
          → WaitingRoom set (with_packet s n (with_armer p armer)) × Place set a.device p
      words_waited i run at (arms_waiting r n start reads is waits) p there =
          let place : Place set a.device p =
          own_place set states s a room r n
          (ap is_owned (inserts_right (kind_of (state_of states a) r) (first_none _ _ run.obeys)))
          reads p (found s n (Some p) there) in
          (word_set n p (armer_waiting a) there refl place, place)
      words_waited i run at (disarms_next n start is first) p there =
          let word : (armer : Armer) × (p.armer ≡ Some armer) × (armer.device ≡ a.device)
          × (armer.queue ≡ DeviceQueue) = armed n start p at is first there in (
            waiting_kept set s (with_packet s n (with_armer p None)) waiting
                (words_set s n p (with_armer p None) there refl (λ armer no. cc))
                (λ m some. keeps_set s n p (with_armer p None) there refl
                (stays_same p (with_armer p None) refl refl) m),
            subst (λ (d : ℕ). Place set d p) word.2
                (waiting.words n p word.0 (found s n (Some p) there) word.1),
          )

      waits_room : (i : Instr) (starts : List StartState) (n : ℕ) (p : Packet)
          (armer : Option Armer) (full : Bool) → Executing set a i → packet_of s n ≡ Some p
          → Waits set s a i starts n armer full → Leaves (waited_to s a starts n p armer full)
      waits_room i starts n p armer full at there waits =
          let run : Runs set states s a i = runs set states s a i h at in
          let q : Packet = with_armer p armer in
          let keeps : AllKeep s (with_packet s n q) =
          keeps_set s n p q there refl (stays_same p q refl refl) in
          let now : FrameRoom set states (with_packet s n q) a =
          after_room (with_packet s n q) keeps in
          let both : WaitingRoom set (with_packet s n q) × Place set a.device p =
          words_waited i run at waits p there in
          record {
            frames = (
              record {
                rooms = waits_claims set states s a is_right claims_right
                    (RoomFor set (with_packet s n q) a.device) i run waits now.rooms;
                marks = waits_claims set states s a is_owned claims_owned
                    (MarkedIn (with_packet s n q)) i run waits now.marks;
              },
              tt,
            );
            others = λ m free walk. keeps m;
            waiting = waiting_waits set states s a (with_packet s n q) both.0 refl refl i run waits
                (λ x is. elim (changed s n p q there refl n x is) [
                  | inl g ↦
                      subst (λ (y : Packet). Place set a.device y) (sym g.1)
                      (record { room = both.1.room; marked = both.1.marked })
                  | inr g ↦ absurd (g.0 refl)
                ]);
            ways = ways_kept set s (with_packet s n q) keeps ways;
          }

      -- a packet that is touched is gone
      touch_gone : (after : Shared) (i : Instr) (r n : ℕ) → Runs set states s a i
          → after.packets ≡ s.packets → is_touching (work_of i) ≡ true → goes_next i ≡ true
          → packet_operand i ≡ Some r → Reads s a r n → packet_of s n ≡ None
          → FrameRoom set states after a → FrameRoom set states after (next a)
      touch_gone after i r n run packets touches on operand reads gone now =
          from_packets after (next a) packets
          (next_room set states s s a i run (falls_next (flow_of i) on) (touching_brings i touches)
          (gone_place a i r n operand reads gone) room)

      -- a packet is sent down in the caller's location
      pass_room : (r n : ℕ) (p : Packet) (lower : ℕ) → Runs set states s a (Pass r) → Reads s a r n
          → packet_of s n ≡ Some p → lower_of set a.device ≡ Some lower
          → FrameRoom set states (with_packet s n (shared_with p lower))
          (dispatched set lower (slice_get set.devices lower) (asked_of (current_location p)) n)
      pass_room r n p lower run reads there below =
          let after : Packet = shared_with p lower in
          let small : (stack_at set lower + 0 ≤ stack_at set a.device) × (1 ≤ stack_at set lower) =
          lower_smaller set states s a (Pass r) r lower run refl refl below in
          let less : stack_at set lower + 0 ≤ stack_at set a.device = small.0 in
          let own : RoomAt set a.device p =
          right_room set states s a r n p room (down set states s a (Pass r) r run refl refl).right
          reads
          there in
          let left : RoomAt set lower after =
          room_kept set lower p after (stays_shared p lower) (omega arith) in
          asked_room set states s (with_packet s n after) a lower n p run.good
          (named s (register a r) n reads) below
          (λ q at. elim (changed s n p after there refl n q at) [
            | inl e ↦ subst (RoomAt set lower) (sym e.1) left
            | inr e ↦ absurd (e.0 refl)
          ])

      exchange : (i : Instr) (b : Activation) (jumped : Bool) (r n : ℕ) (p : Packet)
          (armer : Option Armer) (o : Outcome)
          → Runs set states s a i → GoesTo a i b jumped → packet_operand i ≡ Some r
          → Reads s a r n → packet_of s n ≡ Some p → Exchanged set a p i jumped armer
          → o.shared ≡ with_packet s n (with_armer p armer) → o.frames ≡ Routine b ∷ []
          → Leaves o
      exchange i b jumped r n p armer o run goes_to operand reads there how shared frames =
          let after : Packet = with_armer p armer in
          let keeps : AllKeep s (with_packet s n after) =
          keeps_set s n p after there refl (stays_same p after refl refl) in
          record {
            frames = rw (frames, shared) (
              goes_room set states s (with_packet s n after) a i run b jumped goes_to
                  (disarm_place a i r n p jumped armer run waiting names operand reads there how)
                  (after_room (with_packet s n after) keeps),
              tt,
            );
            others = λ m free walk. rw shared (keeps m);
            waiting = rw shared (exchange_words i jumped armer run operand how);
            ways = rw shared (ways_kept set s (with_packet s n after) keeps ways);
          }
        where
          exchange_words : (i : Instr) (jumped : Bool) (armer : Option Armer)
              → Runs set states s a i
              → packet_operand i ≡ Some r → Exchanged set a p i jumped armer
              → WaitingRoom set (with_packet s n (with_armer p armer))
          exchange_words i jumped armer run operand (arms_for k q routine is) =
              let one : k ≡ r = cc in
              arm_words k q n p run (rw one reads) there
          exchange_words i jumped armer run operand (disarms k label) =
              waiting_kept set s (with_packet s n (with_armer p None)) waiting
              (words_set s n p (with_armer p None) there refl (λ armer no. cc))
              (λ m some. keeps_set s n p (with_armer p None) there refl
              (stays_same p (with_armer p None) refl refl) m)

      pub routine_room : (under : Option Frame) (o : Outcome)
          → Comes set s actor.thread under (Routine a) o → Leaves o
      routine_room under o (errs b lacks) = alone o refl refl refl (λ now. (now, tt))
      routine_room under o (awaits_lock b i lock owner at takes owned other) =
          alone o refl refl refl (λ now. (now, tt))
      routine_room under o (computes b i c jumped cells at work to long) =
          alone o refl refl refl (λ now. (goes o.shared i c jumped at (rw work refl) to now, tt))
      routine_room under o (opens_loop b turns at few) =
          alone o refl refl refl
          (λ now. (
            room_same set states o.shared a _ refl
                (moved_loop set states s a turns (runs set states s a (Loop turns) h at)).arrives
                refl now,
            tt,
          ))
      routine_room under o (turns_loop b l at inner) =
          alone o refl refl refl
          (λ now. (
            room_same set states o.shared a (turned a l) (turned_device a l)
                (moved_end set states s a (runs set states s a End h at) l inner).arrives
                (turned_registers a l) now,
            tt,
          ))
      routine_room under o (pages b i c cell cells at work to long) =
          alone o refl refl refl (λ now. (goes o.shared i c false at (rw work refl) to now, tt))
      routine_room under o (touches_gone b i r n at work on operand reads gone) =
          alone o refl refl refl
          (λ now. (
            touch_gone o.shared i r n (runs set states s a i h at) refl work on operand reads gone
                now,
            tt,
          ))
      routine_room under o (looks_at b i c jumped r n p at work to operand reads there branch) =
          alone o refl refl refl (λ now. (goes o.shared i c jumped at (rw work refl) to now, tt))
      routine_room under o (writes_info b q r n p info at reads there number) =
          changes o n p (with_info p info) there refl refl
          (stays_same p (with_info p info) refl refl)
          refl
          (λ now. (
            next_room set states s o.shared a (Put q r) (runs set states s a (Put q r) h at) refl
                refl
                (no_gain set states o.shared a (Put q r) refl) now,
            tt,
          ))
      routine_room under o (marks_packet b r n p at reads there) =
          let run : Runs set states s a (Mark r) = runs set states s a (Mark r) h at in
          changes o n p (mark_current p) there refl refl (stays_marked p) refl
          (λ now. (
            next_room set states s o.shared a (Mark r) run refl refl
                (mark_place a r n p run ways room reads there) now,
            tt,
          ))
      routine_room under o (exchanges b i c jumped r n p armer at work to operand reads there how) =
          exchange i c jumped r n p armer o (runs set states s a i h at) to operand reads there how
          refl
          refl
      routine_room under o (takes_lock b i lock at takes free) =
          alone o refl refl refl
          (λ now. (
            lock_room o.shared i (taken_word a i lock takes) (runs set states s a i h at)
                now,
            tt,
          ))
      routine_room under o (retakes_lock b i lock at takes its) =
          alone o refl refl refl
          (λ now. (
            lock_room o.shared i (taken_word a i lock takes) (runs set states s a i h at)
                now,
            tt,
          ))
      routine_room under o (frees_lock b i lock owner at frees there) =
          alone o refl refl refl
          (λ now. (
            lock_room o.shared i (freed_word a i lock frees) (runs set states s a i h at)
                now,
            tt,
          ))
      routine_room under o (works_on_queues b i c queues starts actions full at queued) =
          let run : Runs set states s a i = runs set states s a i h at in
          record {
            frames = (
              from_packets o.shared c refl
                  (queued_room set states s a room waiting i run queued),
              tt,
            );
            others = λ n free walk. all_keep s n;
            waiting = waiting_queued set states s a room waiting i run queued;
            ways = ways;
          }
      routine_room under o (works_on_waiting b i starts n p armer full at there waits) =
          waits_room i starts n p armer full at there waits
      routine_room under o (completes_packet b r status n p at reads there) =
          changes o n p (completed p status) there refl refl
          (stays_same p (completed p status) refl refl) refl
          (λ now. (
            next_room set states s o.shared a (Complete r status)
                (runs set states s a (Complete r status) h at) refl refl
                (no_gain set states o.shared a (Complete r status) refl) now,
            (tt, tt),
          ))
      routine_room under o (completes_gone b r status n at reads gone) =
          alone o refl refl refl
          (λ now. (
            next_room set states s o.shared a (Complete r status)
                (runs set states s a (Complete r status) h at) refl refl
                (no_gain set states o.shared a (Complete r status) refl) now,
            tt,
          ))
      routine_room under o (passes_down b r n p lower at reads there below) =
          let run : Runs set states s a (Pass r) = runs set states s a (Pass r) h at in
          changes o n p (shared_with p lower) there refl refl (stays_shared p lower) refl
          (λ now. (
            next_room set states s o.shared a (Pass r) run refl refl
                (no_gain set states o.shared a (Pass r) refl) now,
            (pass_room r n p lower run reads there below, tt),
          ))
      routine_room under o (calls_down b r g n p lower at reads there below) =
          call_room set states s past a r g n p lower (runs set states s a (Call r g) h at) there
          reads below holding
          room waiting ways
      routine_room under o (resumes_walk b n p at sort there) =
          changes o n p (record p { completing = true }) there refl refl
          (stays_same p (record p { completing = true }) refl refl) refl (λ now. tt)
      routine_room under o _ = alone o refl refl refl (λ now. tt)
