-- Every step keeps the room of frames and of packets that wait, and sends no packet past its last
-- location.
use Rattle.laws_runs.proofs.Common.{arith, inl, inr, refl, subst, sym, ◌-◌, eq-eqb, ltb-true, List, None, Option, Some, [], false, length, ℕ, ◌+◌, ◌≡◌, ◌≢◌, ◌≤◌, Outcome, completes_with, Set, Actor, Entry, Shared, cancelled, left_location, mark_current, moved_up, packet_of, with_armer, with_packet, without_packet, Call, Armer, CancelStep, Frame, CancelFrame, Routine, Walk, Packet, States, frame_rights, frame_walks, Each, begins_cancelled, begins_lent, ArmerLeads, word_leads, OnTop, runs, Cancels, Comes, awaits_cancel, calls_cancel, calls_down, cancels, carries_up, exchanges_gone, finds_empty, finds_none, flags_gone, lends_to, retakes_cancel, sets_flag, takes_cancel, tops_out, walks_gone, walks_to, walks_up, works_on_queues, fault_among, is_call, queued_touches}
use Rattle.laws_runs.proofs.Holders.Counts.{Holding}
use Rattle.laws_runs.proofs.Past.Packets.{found}
use Rattle.laws_runs.proofs.Room.Calls.{LeavesRoom, call_fits}
use Rattle.laws_runs.proofs.Room.Changes.{AllKeep, AllWays, changed, found_before, keeps_other, keeps_set, waits_apart, ways_kept, ways_set, words_set}
use Rattle.laws_runs.proofs.Room.Frames.{begins_back, begins_cancel, begins_holding}
use Rattle.laws_runs.proofs.Room.Routines.{NamesDevice, routine_room}
use Rattle.laws_runs.proofs.Room.Sizes.{stack_at}
use Rattle.laws_runs.proofs.Room.Waiting.{HasRoom, Keeps, Place, RoomAt, SameWaiting, WaitingRoom, waiting_kept}
use Rattle.laws_runs.proofs.Room.Ways.{Stays, WayUp, back_room, stays_marked, stays_same, up_way}
use Rattle.laws_runs.proofs.States.Entering.{begins_back as back_begins}
use Rattle.laws_runs.proofs.Holders.Waits.{NextArmed}

apart_of : (n m : ℕ) → frame_walks (Walk n) m ≡ 0 → n ≢ m
apart_of n m walk same =
    let one : frame_walks (Walk n) m ≡ 1 = rw (eq-eqb n m same) refl in
    absurd (omega arith)

module _ (set : Set) (states : States) (s : Shared) where
  -- every step
  module _ (past : List Entry) (actor : Actor) where
    pub call_faults : (under : Option Frame) (f : Frame) (o : Outcome) → OnTop set states s f
        → Holding set states s past f → HasRoom set states s f
        → Comes set s actor.thread under f o → fault_among is_call past actor o.actions ≡ None
    call_faults under f o h holding room (calls_down a r g n p lower at reads there below) =
        rw (call_fits set states s past a r g n p lower (runs set states s a (Call r g) h at) there
        reads below
        holding room) refl
    call_faults under f o h holding room
        (works_on_queues a i b queues starts actions full at queued) =
        elim (queued_touches queued) [ inl none ↦ rw none refl | inr one ↦ rw one.1 refl ]
    call_faults under f o h holding room (cancels n step made moves) =
        cancel_faults n step made moves
      where
        cancel_faults : (n : ℕ) (step : CancelStep) (o : Outcome)
            → Cancels set s actor.thread n step o
            → fault_among is_call past actor o.actions ≡ None
        cancel_faults n step o (takes_cancel free) = refl
        cancel_faults n step o _ = refl
    call_faults under f o h holding room _ = refl

    -- the I/O manager's frame, and IoCancelIrp's, go on, and the packets that they have nothing to
    -- do with stay as they were
    module _ (f : Frame) (h : OnTop set states s f) (holding : Holding set states s past f)
        (waiting : WaitingRoom set s) (ways : AllWays set s) where
      abbrev Leaves : Outcome → Type 0
      Leaves o = LeavesRoom set states s f o

      -- one packet changes
      changes : (o : Outcome) (n : ℕ) (p q : Packet) → packet_of s n ≡ Some p
          → o.shared ≡ with_packet s n q → q.number ≡ p.number
          → ((armer : Armer) → q.armer ≡ Some armer → p.armer ≡ Some armer)
          → (WayUp set p → WayUp set q)
          → ((m : ℕ) → frame_rights states f m ≡ 0 → frame_walks f m ≡ 0
          → Keeps s (with_packet s n q) m)
          → Each (HasRoom set states (with_packet s n q)) o.frames → Leaves o
      changes o n p q there shared number word way others frames =
          record {
            frames = rw shared frames;
            others = rw shared others;
            waiting = rw shared
                (waiting_kept set s (with_packet s n q) waiting
                (words_set s n p q there number word)
                (λ m some.
                let apart : (frame_rights states f m ≡ 0) × (frame_walks f m ≡ 0) =
                waits_apart set states s past f holding m some in
                others m apart.0 apart.1));
            ways = rw shared (ways_set s n p q there number set way ways);
          }

      -- none does
      alone : (o : Outcome) → o.shared.packets ≡ s.packets → o.shared.queues ≡ s.queues
          → o.shared.starts ≡ s.starts → Each (HasRoom set states o.shared) o.frames → Leaves o
      alone o packets queues starts frames =
          let keeps : AllKeep s o.shared =
          λ n q there. (q, rw (← packets) there, stays_same q q refl refl) in
          record {
            frames = frames;
            others = λ n free walk. keeps n;
            waiting = waiting_kept set s o.shared waiting
                (record {
                  queues = queues;
                  starts = starts;
                  words = λ n q armer there is. (q, rw (← packets) there, is);
                })
                (λ n some. keeps n);
            ways = ways_kept set s o.shared keeps ways;
          }

    walk_room : (m : ℕ) (under : Option Frame) (o : Outcome) → OnTop set states s (Walk m)
        → Holding set states s past (Walk m) → WaitingRoom set s → AllWays set s
        → Comes set s actor.thread under (Walk m) o → LeavesRoom set states s (Walk m) o
    walk_room m under o h holding waiting ways (walks_gone n gone) =
        alone (Walk m) h holding waiting ways o refl refl refl tt
    walk_room m under o h holding waiting ways (walks_to n p c there with free) =
        let q : Packet = moved_up (left_location p) in
        let back : (2 ≤ p.depth)
        × (p.depth - 1 + stack_at set c.device ≤ length p.locations.items + 1) =
        back_room set p c (ways n p (found s n (Some p) there)) with in
        changes (Walk m) h holding waiting ways o n p q there refl refl (λ armer is. is)
        (λ way. up_way set p way back.0)
        (λ k right walk. keeps_other s n p q there refl k (apart_of n k walk)) (
          tt,
          (
            begins_back set states s.issued (with_packet s n q) (completes_with set c n) n
                (back_begins set states s h.good h.fits n p c h.stands there with free),
            tt,
          ),
        )
    walk_room m under o h holding waiting ways (lends_to n p c there with lends) =
        let q : Packet = record (moved_up (left_location p)) { completing = false } in
        let back : (2 ≤ p.depth)
        × (p.depth - 1 + stack_at set c.device ≤ length p.locations.items + 1) =
        back_room set p c (ways n p (found s n (Some p) there)) with in
        changes (Walk m) h holding waiting ways o n p q there refl refl (λ armer is. is)
        (λ way. (stays_same (moved_up (left_location p)) q refl refl).way set
        (up_way set p way back.0))
        (λ k right walk. keeps_other s n p q there refl k (apart_of n k walk)) (
          tt,
          (
            begins_holding set states s.issued (with_packet s n q) (completes_with set c n) n
                (begins_lent set states s h.good h.fits n p c h.stands there with lends)
                (λ r at. elim (changed s n p q there refl n r at) [
                  | inl g ↦ subst (RoomAt set c.device) (sym g.1) back.1
                  | inr g ↦ absurd (g.0 refl)
                ]),
            tt,
          ),
        )
    walk_room m under o h holding waiting ways (walks_up n p there without deep unmarked) =
        let q : Packet = moved_up (left_location p) in
        changes (Walk m) h holding waiting ways o n p q there refl refl (λ armer is. is)
        (λ way. up_way set p way (ltb-true 1 p.depth deep))
        (λ k right walk. keeps_other s n p q there refl k (apart_of n k walk)) (tt, tt)
    walk_room m under o h holding waiting ways (carries_up n p there without deep marked) =
        let up : Packet = moved_up (left_location p) in
        let q : Packet = mark_current up in
        changes (Walk m) h holding waiting ways o n p q there refl refl (λ armer is. is)
        (λ way. (stays_marked up).way set (up_way set p way (ltb-true 1 p.depth deep)))
        (λ k right walk. keeps_other s n p q there refl k (apart_of n k walk)) (tt, tt)
    walk_room m under o h holding waiting ways (tops_out n p there without first) =
        let keeps : AllKeep s (without_packet s n) =
        λ k q at. (q, found_before s n k q holding.tells.rises at, stays_same q q refl refl) in
        record {
          frames = tt;
          others = λ k right walk. keeps k;
          waiting = waiting_kept set s (without_packet s n) waiting
              (record {
                queues = refl;
                starts = refl;
                words = λ k q armer at is. (q, found_before s n k q holding.tells.rises at, is);
              })
              (λ k some. keeps k);
          ways = ways_kept set s (without_packet s n) keeps ways;
        }

    -- the cancel word is emptied, and the lock freed
    emptied : (n : ℕ) (step : CancelStep) (o : Outcome)
        → OnTop set states s (CancelFrame (record { packet = n; next = step }))
        → Holding set states s past (CancelFrame (record { packet = n; next = step }))
        → WaitingRoom set s → AllWays set s → (p : Packet) → packet_of s n ≡ Some p
        → o.shared.packets ≡ (with_packet s n (with_armer p None)).packets
        → o.shared.queues ≡ s.queues → o.shared.starts ≡ s.starts → o.frames ≡ []
        → LeavesRoom set states s (CancelFrame (record { packet = n; next = step })) o
    emptied n step o h holding waiting ways p there packets queues starts frames =
        let q : Packet = with_armer p None in
        let keeps : AllKeep s (with_packet s n q) =
        keeps_set s n p q there refl (stays_same p q refl refl) in
        let after : AllKeep s o.shared = λ k r at. keeps k r (rw (← packets) at) in
        let words : SameWaiting s (with_packet s n q) =
        words_set s n p q there refl (λ armer is. cc) in
        record {
          frames = rw frames tt;
          others = λ k right walk. after k;
          waiting = waiting_kept set s o.shared waiting
              (record {
                queues = queues;
                starts = starts;
                words = λ k r armer at is. words.words k r armer (rw (← packets) at) is;
              })
              (λ k some. after k);
          ways = ways_kept set s o.shared after ways;
        }

    cancel_room : (n : ℕ) (step : CancelStep) (o : Outcome)
        → OnTop set states s (CancelFrame (record { packet = n; next = step }))
        → Holding set states s past (CancelFrame (record { packet = n; next = step }))
        → WaitingRoom set s → AllWays set s → Cancels set s actor.thread n step o
        → LeavesRoom set states s (CancelFrame (record { packet = n; next = step })) o
    cancel_room n step o h holding waiting ways (takes_cancel free) =
        alone _ h holding waiting ways o refl refl refl (tt, tt)
    cancel_room n step o h holding waiting ways (retakes_cancel owned) =
        alone _ h holding waiting ways o refl refl refl (tt, tt)
    cancel_room n step o h holding waiting ways (awaits_cancel owner owned other) =
        alone _ h holding waiting ways o refl refl refl (tt, tt)
    cancel_room n step o h holding waiting ways (flags_gone gone) =
        alone _ h holding waiting ways o refl refl refl tt
    cancel_room n step o h holding waiting ways (exchanges_gone gone) =
        alone _ h holding waiting ways o refl refl refl tt
    cancel_room n step o h holding waiting ways (sets_flag p there) =
        let stays : Stays p (cancelled p) = stays_same p (cancelled p) refl refl in
        changes _ h holding waiting ways o n p (cancelled p) there refl refl (λ armer is. is)
        (stays.way set)
        (λ k right walk. keeps_set s n p (cancelled p) there refl stays k) (tt, tt)
    cancel_room n step o h holding waiting ways (finds_empty p there empty) =
        emptied n step o h holding waiting ways p there refl refl refl refl
    cancel_room n step o h holding waiting ways (finds_none p armer there is none) =
        emptied n step o h holding waiting ways p there refl refl refl refl
    cancel_room n step o h holding waiting ways (calls_cancel p armer routine there is leads) =
        let q : Packet = with_armer p None in
        let stays : Stays p q = stays_same p q refl refl in
        let place : Place set armer.device p = waiting.words n p armer (found s n (Some p) there) is
        in
        changes _ h holding waiting ways o n p q there refl refl (λ other set_there. cc)
        (stays.way set)
        (λ k right walk. keeps_set s n p q there refl stays k) (
          begins_cancel set states s.issued (with_packet s n q) _ n
              (begins_cancelled set states h.good s.issued n h.stands armer routine
              (subst (ArmerLeads set) is (word_leads set s h.fits n p there)) leads)
              (λ r at. elim (changed s n p q there refl n r at) [
                | inl g ↦
                    subst (λ (x : Packet). Place set armer.device x) (sym g.1)
                    (record { room = place.room; marked = place.marked })
                | inr g ↦ absurd (g.0 refl)
              ]),
          tt,
        )

    pub room_step : (under : Option Frame) (f : Frame) (o : Outcome) → OnTop set states s f
        → Holding set states s past f → HasRoom set states s f → WaitingRoom set s → AllWays set s
        → NamesDevice states s f → NextArmed set s f
        → Comes set s actor.thread under f o → LeavesRoom set states s f o
    room_step under (Routine a) o h holding room waiting ways names armed c =
        routine_room set states s past actor a h holding room waiting ways names armed under o c
    room_step under (Walk m) o h holding room waiting ways names armed c =
        walk_room m under o h holding waiting ways c
    room_step under (CancelFrame c) o h holding room waiting ways names armed
        (cancels n step made moves) =
        cancel_room n step o h holding waiting ways moves
