-- In every run of an accepted set who has the right to a packet has room for its device, who owns
-- it finds its current location marked, and no packet is sent down past its last location.
use Rattle.laws_runs.proofs.Common.{ap, arith, inl, inr, refl, subst, sym, ◌-◌, ◌∙◌, eq-eqb, eqb_tells, length-replicate, Bool, List, None, Option, Some, [], if◌then◌else◌, length, nat_eq, replicate, slice_get, ℕ, ◌++◌, ◌+◌, ◌∷◌, ◌≡◌, ◌≢◌, ◌≤◌, ◌⊎◌, Outcome, told_to, top_of, Change, dpc_activation, serves_request, standing, with_new_packet, with_stack, with_thread, idle, without_first_to_start, begun, frames_on, Set, Actor, Entry, Shared, World, new_packet, unused_location, with_dpc, with_start, MAX_QUEUES, Major, Status, Frame, Walk, Packet, Thread, States, frame_rights, stack_sum, times_at, times_in, times_queued, times_started, waits_cancelable, Each, each_after, each_append, each_before, startio_enters, begins_dpc, begins_request, startio_activation, IsGood, Standing, on_top, told_is, told_last, stood, fault_among, is_call}
use Rattle.laws_runs.proofs.Claims.Sums.{Claimed}
use Rattle.laws_runs.proofs.Holders.Apart.{waiting_not_yet, IsApart, apart_below, apart_other, not_yet}
use Rattle.laws_runs.proofs.Holders.Queued.{none_queued, times_le}
use Rattle.laws_runs.proofs.Holders.Runs.{top_holding}
use Rattle.laws_runs.proofs.Holders.Started.{none_started, started_le, times_first}
use Rattle.laws_runs.proofs.Holders.Sums.{Held}
use Rattle.laws_runs.proofs.Past.LivePackets.{find, find_above, find_push}
use Rattle.laws_runs.proofs.Room.Calls.{LeavesRoom}
use Rattle.laws_runs.proofs.Room.Changes.{AllWays, all_keep}
use Rattle.laws_runs.proofs.Room.Frames.{begins_asked, begins_idle, begins_started, frame_on, told_room}
use Rattle.laws_runs.proofs.Room.Marked.{LentMarked}
use Rattle.laws_runs.proofs.Room.Routines.{NamesDevice}
use Rattle.laws_runs.proofs.Room.Sizes.{some_stack, stack_at, stack_of}
use Rattle.laws_runs.proofs.Room.Steps.{call_faults, room_step}
use Rattle.laws_runs.proofs.Room.Waiting.{FrameRoom, HasRoom, Keeps, RoomAt, WaitingRoom, start_put_room, waiting_kept}
use Rattle.laws_runs.proofs.Room.Ways.{WayUp, new_way, stays_same}
use Rattle.laws_runs.proofs.Room.Words.{names_device}
use Rattle.laws_runs.proofs.Runs.Events.{StepsFrame, Happens, nothing, steps, begins}
use Rattle.laws_runs.proofs.Runs.Kept.{with_queued}
use Rattle.laws_runs.proofs.Runs.Roots.{Root, Beside, IssuesPacket, TakesFirst, issues, takes_dpc, takes_first, takes_nothing, with_root}
use Rattle.laws_runs.proofs.Runs.Threads.{of_steps, each_frames, idle_frames}
use Rattle.laws_runs.proofs.Holders.Waits.{NextArmed}

-- every frame that has the right to a live packet has room for its device, and so has each packet
-- that waits; and the way up of each live packet
pub record Roomy (set : Set) (states : States) (w : World) : Type 0 where
  pub frames : (t : ℕ) → Each (HasRoom set states w.shared) (frames_on w t)
  pub waiting : WaitingRoom set w.shared
  pub ways : AllWays set w.shared

-- a location is marked under which a completion routine is stored that may hold the packet
pub roomy_lends : (set : Set) (states : States) (w : World) → Roomy set states w
    → (n : ℕ) (p : Packet)
    → find w.shared.packets n ≡ Some p → LentMarked set p
roomy_lends set states w roomy n p there = (roomy.ways n p there).lends

pub roomy_begun : (set : Set) (states : States) (threads : ℕ)
    → Roomy set states (begun set threads).world
roomy_begun set states threads =
    record {
      frames = λ t.
          subst (λ (frames : List Frame). Each (HasRoom set states (begun set threads).world.shared)
          frames)
          (sym (idle_frames threads t)) tt;
      waiting = record {
        queues = λ d q n entries there plain some.
            let none : times_queued (replicate (length set.devices) (replicate MAX_QUEUES [])) n
            ≡ 0 =
            none_queued (length set.devices) n in
            let le : times_in entries n
            ≤ times_queued (replicate (length set.devices) (replicate MAX_QUEUES [])) n =
            times_le (begun set threads).world.shared d q entries n there in
            absurd (omega arith);
        starts = λ d n start there some.
            let none : times_started set 0 (replicate (length set.devices) idle) n ≡ 0 =
            none_started set (length set.devices) n in
            let le : times_at (waits_cancelable set d) start n
            ≤ times_started set 0 (replicate (length set.devices) idle) n =
            started_le set (begun set threads).world.shared.starts d start n there in
            absurd (omega arith);
        words = λ n p armer there is. cc;
      };
      ways = λ n p there. cc;
    }

module _ (set : Set) (states : States) (s : Shared) where
  -- frames whose packets are as they were
  others_room : (after : Shared) (frames : List Frame)
      → ((n : ℕ) → 1 ≤ stack_sum (λ g. frame_rights states g n) frames → Keeps s after n)
      → Each (HasRoom set states s) frames → Each (HasRoom set states after) frames
  others_room after [] keeps h = tt
  others_room after (f ∷ frames) keeps h = (
    frame_on set states s after f (λ n some. keeps n (omega arith)) h.0,
    others_room after frames (λ n some. keeps n (omega arith)) h.1,
  )

  -- the last of the frames below is told a status
  last_room : (below : List Frame) (told : Option Status) → Each (HasRoom set states s) below
      → Each (HasRoom set states s) (told_last set told below)
  last_room [] told h = tt
  last_room (g ∷ []) told h = (told_room set states s told g h.0, tt)
  last_room (g ∷ e ∷ below) told h = (h.0, last_room (e ∷ below) told h.1)

  stood_room : (below : List Frame) (o : Outcome) → Each (HasRoom set states s) below
      → Each (HasRoom set states s) o.frames
      → Each (HasRoom set states s) (told_to set below o.told ++ o.frames)
  stood_room below o h frames =
      each_append (HasRoom set states s) (told_to set below o.told) o.frames
      (subst (λ (all : List Frame). Each (HasRoom set states s) all)
      (sym (told_is set below o.told))
      (last_room below o.told h)) frames

new_size : (number device : ℕ) (major : Major) (argument stack : ℕ) → 1 ≤ stack
    → length (new_packet number device major argument stack).locations.items ≡ stack
new_size number device major argument stack low =
    omega (arith, length-replicate (stack - 1) unused_location)

module _ (set : Set) (states : States) (w : World) (past : List Entry) (good : IsGood set states)
    (stands : Standing set states w past) (holds : Held set states w) (roomy : Roomy set states w)
  where
    room_there : (t : ℕ) (h : StepsFrame set w t)
        → Each (HasRoom set states w.shared) (h.below ++ h.frame ∷ [])
    room_there t h = of_steps w t (Each (HasRoom set states w.shared)) h (roomy.frames t)

    top_room : (t : ℕ) (h : StepsFrame set w t) → HasRoom set states w.shared h.frame
    top_room t h = (each_after (HasRoom set states w.shared) h.below (h.frame ∷ [])
        (room_there t h)).0

    -- nothing is sent down past its last location
    pub call_faults_none : (actor : Actor) (h : StepsFrame set w actor.thread)
        → fault_among is_call past actor h.outcome.actions ≡ None
    call_faults_none actor h =
        call_faults set states w.shared past actor (top_of h.below) h.frame h.outcome
        (on_top set states w past good stands actor.thread h)
        (top_holding set states w past stands holds actor.thread h) (top_room actor.thread h)
        h.comes

    -- frames of each thread after an event
    threads_room : (t : ℕ) (s : Shared) (thread after : Thread)
        → slice_get w.threads t ≡ Some thread
        → Each (HasRoom set states s) after.frames.items
        → ((k : ℕ) → t ≢ k → (n : ℕ) → 1 ≤ stack_sum (λ g. frame_rights states g n) (frames_on w k)
        → Keeps w.shared s n)
        → WaitingRoom set s → AllWays set s → Roomy set states (with_thread w t s after)
    threads_room t s thread after found here others waiting ways =
        record {
          frames = each_frames w t s after (λ k frames. Each (HasRoom set states s) frames) thread
              found here
              (λ k apart. others_room set states w.shared s (frames_on w k) (others k apart)
              (roomy.frames k));
          waiting = waiting;
          ways = ways;
        }

    module _ (h : IssuesPacket set w.shared) where
      abbrev packet : Packet
      packet = new_packet w.shared.issued h.d h.major h.argument h.device.stack

      abbrev after : Shared
      after = with_new_packet w.shared h.d h.device h.major h.argument

      -- what is found then: the new packet, or another one as it was
      new_found : (n : ℕ) (q : Packet) → find after.packets n ≡ Some q
          → ((w.shared.issued ≡ n) × (q ≡ packet)) ⊎ (find w.shared.packets n ≡ Some q)
      new_found n q at =
          let now : (if nat_eq w.shared.issued n then Some packet else find w.shared.packets n)
          ≡ Some q =
          sym (find_push 0 w.shared.packets w.shared.issued packet stands.tells.rises refl n)
          ∙ at in
          elim (eqb_tells w.shared.issued n) [
            | inl g ↦
                let both : Some packet ≡ Some q = rw g.0 at now in
                let one : q ≡ packet = cc in
                inl (g.1, one)
            | inr g ↦ inr (rw g.0 at now)
          ]

      old_keeps : (n : ℕ) → w.shared.issued ≢ n → Keeps w.shared after n
      old_keeps n apart q at =
          elim (new_found n q at) [
            | inl g ↦ absurd (apart g.0)
            | inr old ↦ (q, old, stays_same q q refl refl)
          ]

      -- the routine that begins has room for the new one
      request_room : FrameRoom set states after
          (serves_request set h.d h.device h.major w.shared.issued)
      request_room =
          begins_asked set states (w.shared.issued + 1) after
          (serves_request set h.d h.device h.major w.shared.issued) w.shared.issued
          (begins_request set states good (w.shared.issued + 1) w.shared.issued (omega arith) h.d
          h.device h.major h.there)
          (λ q at. elim (new_found w.shared.issued q at) [
            | inl g ↦
                let stack : stack_at set h.d ≡ h.device.stack = ap stack_of h.there in
                let low : 1 ≤ stack_at set h.d = some_stack set h.d h.device good.sound h.there in
                let size : length packet.locations.items ≡ h.device.stack =
                new_size w.shared.issued h.d h.major h.argument h.device.stack (omega arith) in
                subst (RoomAt set h.d) (sym g.1) (omega arith)
            | inr old ↦
                let none : find w.shared.packets w.shared.issued ≡ None =
                find_above 0 w.shared.packets w.shared.issued w.shared.issued stands.tells.rises
                (omega arith) in
                let no : None ≡ Some q = sym none ∙ old in
                cc
          ])

      request_waiting : WaitingRoom set after
      request_waiting =
          waiting_kept set w.shared after roomy.waiting
          (record {
            queues = refl;
            starts = refl;
            words = λ n q armer at is. elim (new_found n q at) [
              | inl g ↦
                  let none : q.armer ≡ None = ap (λ (x : Packet). x.armer) g.1 in
                  let no : None ≡ Some armer = sym none ∙ is in
                  cc
              | inr old ↦ (q, old, is)
            ];
          })
          (λ n some. old_keeps n (waiting_not_yet set states w past stands holds n some))

      request_ways : AllWays set after
      request_ways n q at =
          elim (new_found n q at) [
            | inl g ↦
                subst (WayUp set) (sym g.1)
                (new_way set w.shared.issued h.d h.major h.argument h.device.stack)
            | inr old ↦ roomy.ways n q old
          ]

    step_room : (actor : Actor) (h : StepsFrame set w actor.thread)
        → NamesDevice states w.shared h.frame → NextArmed set w.shared h.frame
        → Roomy set states
        (with_thread w actor.thread h.outcome.shared
        (with_stack h.thread (standing set h.below h.outcome)))
    step_room actor h names armed =
        let t : ℕ = actor.thread in
        let o : Outcome = h.outcome in
        let room : LeavesRoom set states w.shared h.frame o =
        room_step set states w.shared past actor (top_of h.below) h.frame o
        (on_top set states w past good stands t h)
        (top_holding set states w past stands holds t h) (top_room t h) roomy.waiting roomy.ways
        names armed
        h.comes in
        let below : Each (HasRoom set states o.shared) h.below =
        others_room set states w.shared o.shared h.below
        (λ n some.
        let apart : IsApart states w.shared h.frame n =
        apart_below set states w past stands holds t h n some in
        room.others n apart.right apart.walk)
        (each_before (HasRoom set states w.shared) h.below (h.frame ∷ []) (room_there t h)) in
        threads_room t o.shared h.thread (with_stack h.thread (standing set h.below o)) h.found
        (elim (stood set w.shared t h.below h.frame o h.comes) [
          | inl is ↦ rw is (stood_room set states o.shared h.below o below room.frames)
          | inr stop ↦
              rw stop.stands
              (each_before (HasRoom set states o.shared) stop.others (Walk stop.n ∷ [])
              (subst (λ (frames : List Frame). Each (HasRoom set states o.shared) frames)
              stop.below_is
              below))
        ])
        (λ k apart n some.
        let other : IsApart states w.shared h.frame n =
        apart_other set states w past stands holds t h n k apart some in
        room.others n other.right other.walk)
        room.waiting room.ways

    -- the StartIo routine that begins owns the first packet of the start list
    startio_room : (h : TakesFirst set w.shared)
        → FrameRoom set states (with_start w.shared h.d (without_first_to_start h.start))
        (startio_activation set h.d h.routine h.n)
    startio_room h =
        let b : Bool = waits_cancelable set h.d in
        let gone : times_at b (without_first_to_start h.start) h.n
        + (if nat_eq h.n h.n then 1 else 0) ≡ times_at b h.start h.n =
        times_first b h.start h.n h.n h.first in
        let one : times_at b (without_first_to_start h.start) h.n + 1 ≡ times_at b h.start h.n =
        rw (eq-eqb h.n h.n refl) at gone in
        begins_started set states w.shared.issued
        (with_start w.shared h.d (without_first_to_start h.start))
        (startio_activation set h.d h.routine h.n) h.n
        (startio_enters set states good w.shared stands.fits h)
        (roomy.waiting.starts h.d h.n h.start h.has (omega arith))

    -- a root has room for what it has the right to
    root_room : (root : Root) → Beside set w.shared root
        → HasRoom set states root.shared root.frame
    root_room root (issues h) = request_room h
    root_room root (takes_dpc d routine there) =
        begins_idle set states w.shared.issued root.shared (dpc_activation set d routine) 0
        (begins_dpc set states good w.shared.issued d routine there)
    root_room root (takes_first h) = startio_room h
    root_room root (takes_nothing n level p there) = tt

    root_others : (root : Root) → Beside set w.shared root → (k n : ℕ)
        → 1 ≤ stack_sum (λ g. frame_rights states g n) (frames_on w k) → Keeps w.shared root.shared n
    root_others root (issues h) k n some =
        old_keeps h n (not_yet set states w past stands holds k n some)
    root_others root _ k n some = all_keep w.shared n

    root_waiting : (root : Root) → Beside set w.shared root → WaitingRoom set root.shared
    root_waiting root (issues h) = request_waiting h
    root_waiting root (takes_first h) =
        record {
          queues = roomy.waiting.queues;
          starts = start_put_room set w.shared roomy.waiting h.d h.start
              (without_first_to_start h.start) h.has
              (λ m some.
              let gone : times_at (waits_cancelable set h.d) (without_first_to_start h.start) m
              + (if nat_eq h.n m then 1 else 0)
              ≡ times_at (waits_cancelable set h.d) h.start m =
              times_first (waits_cancelable set h.d) h.start h.n m h.first in
              roomy.waiting.starts h.d m h.start h.has (omega arith));
          words = roomy.waiting.words;
        }
    root_waiting root _ =
        record {
          queues = roomy.waiting.queues;
          starts = roomy.waiting.starts;
          words = roomy.waiting.words;
        }

    root_ways : (root : Root) → Beside set w.shared root → AllWays set root.shared
    root_ways root (issues h) = request_ways h
    root_ways root _ = roomy.ways

    pub roomy_kept : Claimed set states w → (actor : Actor)
        → ((h : StepsFrame set w actor.thread) → NextArmed set w.shared h.frame)
        → (c : Change) → Happens set w actor.thread c → Roomy set states c.world
    roomy_kept claimed actor armed c (nothing reply right) = roomy
    roomy_kept claimed actor armed c (steps h) =
        step_room actor h
        (names_device set states w past good stands holds claimed actor.thread h) (armed h)
    roomy_kept claimed actor armed c (begins i root beside) =
        threads_room actor.thread root.shared i.thread (with_root i.thread root) i.found
        (root_room root beside, tt) (λ k apart n some. root_others root beside k n some)
        (root_waiting root beside) (root_ways root beside)

-- where a DPC is queued or isn't
pub roomy_queued : (set : Set) (states : States) (w : World) (d : ℕ) (queued : Bool)
    → Roomy set states w → Roomy set states (with_queued w d queued)
roomy_queued set states w d queued roomy =
    record {
      frames = λ t.
          others_room set states w.shared (with_dpc w.shared d queued) (frames_on w t)
          (λ n some. all_keep w.shared n) (roomy.frames t);
      waiting = record {
        queues = roomy.waiting.queues;
        starts = roomy.waiting.starts;
        words = roomy.waiting.words;
      };
      ways = roomy.ways;
    }
