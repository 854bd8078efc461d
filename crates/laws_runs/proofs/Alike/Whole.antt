-- A machine that keeps one world of a run of an accepted set whole shows another exactly where the
-- two can't be told apart.
use Rattle.laws_runs.proofs.Common.{ap, map, refl, subst, sym, ◌∙◌, get_or-set_other, length-set, List, None, Option, Some, [], false, length, slice_get, slice_index_or, slice_set, suc, ℕ, ◌∷◌, ◌≡◌, ◌≢◌, answered_in, is_blank, kind_of, Set, MayBeTaken, Reads, ShowsWorld, blank_register, shown_packet, told_register, whole, whole_register, Entry, Shared, World, register, Abs, BlankKind, REGISTERS, Success, Activation, Frame, CancelFrame, Routine, Walk, OpenLoop, Thread, Blank, StatusValue, States, arrives_alone, IsGood, Ready, state_of, waits_under, Stacked, Stands}
use Rattle.model.specs.Shown.{ShownActivation, ShownRegister, ShowsFrame, ShowsFrames, ShowsRoutine, ShowsThreads, whole_frame, whole_thread}
use Rattle.laws_runs.proofs.Accepted.Keeps.{Keeps}
use Rattle.laws_runs.proofs.Alike.Frames.{AlikeActivation, AlikeFrame, AlikeFrames, waiting_for}
use Rattle.laws_runs.proofs.Alike.Packets.{packets_alike}
use Rattle.laws_runs.proofs.Alike.Registers.{SameRegisters, same_get}
use Rattle.laws_runs.proofs.Alike.Shows.{may_be_taken, reads_same, reads_self, same_all, value_there, whole_get}
use Rattle.laws_runs.proofs.Alike.Stacks.{AlikeThreads}
use Rattle.laws_runs.proofs.Alike.Worlds.{AlikeWorld}
use Rattle.laws_runs.proofs.Runs.Threads.{frames_there}
use Rattle.laws_runs.proofs.States.Inside.{Waits, kinds_long}

abbrev shown_routine : Activation → ShownActivation
shown_routine a =
    record {
      driver = a.driver;
      routine = a.routine;
      device = a.device;
      position = a.position;
      loops = a.loops.items;
      registers = map whole_register a.registers;
    }

same_shared : (r s : Shared) → r.packets ≡ s.packets → r.issued ≡ s.issued → r.locks ≡ s.locks
    → r.cells ≡ s.cells → r.queues ≡ s.queues → r.starts ≡ s.starts → r.dpcs ≡ s.dpcs → r ≡ s
same_shared r s packets issued locks cells queues starts dpcs =
    let same : r ≡ record {
      packets = s.packets;
      issued = s.issued;
      locks = s.locks;
      cells = s.cells;
      queues = s.queues;
      starts = s.starts;
      dpcs = s.dpcs;
    } = rw (← packets, ← issued, ← locks, ← cells, ← queues, ← starts, ← dpcs) refl in
    same

module _ (set : Set) (states : States) (good : IsGood set states) where
  -- all registers are there
  answered_long : (issued : ℕ) (a : Activation) (q : Option ℕ)
      → Ready set states issued (answered_in a Success q) → length a.registers ≡ REGISTERS
  answered_long issued a None ready =
      kinds_long issued (state_of states a).kinds a.registers ready.1.kinds ∙ ready.1.sixteen
  answered_long issued a (Some q) ready =
      sym (length-set a.registers q (StatusValue Success))
      ∙ kinds_long issued (state_of states a).kinds (slice_set a.registers q (StatusValue Success))
      ready.1.kinds ∙ ready.1.sixteen

  stands_long : (issued : ℕ) (above : Option Frame) (a : Activation)
      → Stands set states issued above (Routine a) → length a.registers ≡ REGISTERS
  stands_long issued above a h =
      let waits : Waits set states issued above a = waits_under set states issued above a h in
      answered_long issued a waits.register waits.ready

  -- a routine's frame that is shown
  registers_same : (issued : ℕ) (above : Option Frame) (b a : Activation) (q : Option ℕ)
      → told_register set above a ≡ q → Ready set states issued (answered_in a Success q)
      → ShowsRoutine set above (shown_routine b) a → length b.registers ≡ length a.registers
      → SameRegisters (waiting_for q (state_of states a).kinds) b.registers a.registers
  registers_same issued above b a q told ready shows long =
      same_all (waiting_for q (state_of states a).kinds) b.registers a.registers long
      (λ r some. reads_same (register b r) (register a r)
      (value_there set states good issued a q ready r some)
      (subst (λ (x : ShownRegister). Reads x (register a r)) (whole_get b.registers r)
      (shows.registers r (may_be_taken set states good issued above a q told ready r some))))

  routine_alike : (issued more : ℕ) (above other : Option Frame) (b a : Activation)
      → Stands set states issued above (Routine a) → Stands set states more other (Routine b)
      → ShowsRoutine set above (shown_routine b) a → AlikeActivation set states above b a
  routine_alike issued more above other b a stands others shows =
      let waits : Waits set states issued above a = waits_under set states issued above a stands in
      let long : length b.registers ≡ length a.registers =
      stands_long more other b others ∙ sym (stands_long issued above a stands) in
      record {
        registers = b.registers;
        is = rw (← shows.driver, ← shows.routine, ← shows.device, ← shows.position)
            (ap (λ (items : List OpenLoop). record b { loops = record { items = items } })
            shows.loops);
        long = long;
        same = rw waits.told (registers_same issued above b a waits.register waits.told waits.ready
            shows long);
      }

  -- and the other way round
  kind_waits : (a : Activation) (q : Option ℕ) (r : ℕ)
      → is_blank (kind_of (state_of states a) r) ≡ false → q ≢ Some r
      → is_blank (slice_index_or (waiting_for q (state_of states a).kinds) r BlankKind) ≡ false
  kind_waits a None r some apart = some
  kind_waits a (Some q) r some apart =
      rw (get_or-set_other (state_of states a).kinds q r BlankKind BlankKind
      (λ e. apart (ap (λ (x : ℕ). Some x) (sym e)))) some

  register_shown : (above : Option Frame) (b a : Activation) → AlikeActivation set states above b a
      → (r : ℕ) → MayBeTaken set above a r
      → Reads (slice_index_or (map whole_register b.registers) r blank_register) (register a r)
  register_shown above b a h r may =
      let known : Abs = state_of states a in
      let state : may.state ≡ known =
      arrives_alone _ (states a.driver a.routine)
      (good.led.known a.driver a.routine may.routine may.is_of).follows may.arrives.0 a.position
      may.state may.arrives.1 in
      let some : is_blank (kind_of known r) ≡ false =
      subst (λ (s : Abs). is_blank (kind_of s r) ≡ false) state may.kind in
      let same : slice_index_or h.registers r Blank ≡ register a r =
      same_get (waiting_for (told_register set above a) known.kinds) h.registers a.registers r
      h.same
      (kind_waits a (told_register set above a) r some may.untold) in
      let its : b.registers ≡ h.registers = ap (λ (c : Activation). c.registers) h.is in
      rw (whole_get b.registers r, its, same) (reads_self (register a r))

  routine_shown : (above : Option Frame) (b a : Activation) → AlikeActivation set states above b a
      → ShowsRoutine set above (shown_routine b) a
  routine_shown above b a h =
      record {
        driver = ap (λ (c : Activation). c.driver) h.is;
        routine = ap (λ (c : Activation). c.routine) h.is;
        device = ap (λ (c : Activation). c.device) h.is;
        position = ap (λ (c : Activation). c.position) h.is;
        loops = ap (λ (c : Activation). c.loops.items) h.is;
        registers = register_shown above b a h;
      }

  -- frames, threads and worlds that are shown
  frame_alike : (s : Shared) (issued more : ℕ) (above other : Option Frame) (g f : Frame)
      → Stands set states issued above f → Stands set states more other g
      → ShowsFrame set s above (whole_frame g) f → AlikeFrame set states s above g f
  frame_alike s issued more above other (Routine b) (Routine a) stands others shows =
      routine_alike issued more above other b a stands others shows
  frame_alike s issued more above other (Walk m) (Walk n) stands others shows = shows
  frame_alike s issued more above other (CancelFrame b) (CancelFrame c) stands others shows = shows
  frame_alike s issued more above other _ _ stands others shows = absurd shows

  frames_alike : (s : Shared) (issued more : ℕ) (xs ys : List Frame)
      → Stacked set states issued ys → Stacked set states more xs
      → ShowsFrames set s (map whole_frame xs) ys → AlikeFrames set states s None xs ys
  frames_alike s issued more [] [] stands others shows = tt
  frames_alike s issued more (x ∷ []) (y ∷ []) stands others shows =
      (frame_alike s issued more None None x y stands others shows.0, tt)
  frames_alike s issued more (x ∷ u ∷ xs) (y ∷ v ∷ ys) stands others shows = (
    frame_alike s issued more (Some v) (Some u) x y stands.0 others.0 shows.0,
    frames_alike s issued more (u ∷ xs) (v ∷ ys) stands.1 others.1 shows.1,
  )
  frames_alike s issued more (x ∷ u ∷ xs) (y ∷ []) stands others shows = absurd shows.1
  frames_alike s issued more (x ∷ []) (y ∷ v ∷ ys) stands others shows = absurd shows.1
  frames_alike s issued more _ _ stands others shows = absurd shows

  abbrev AllStacked : ℕ → List Thread → Type 0
  AllStacked issued xs =
      (t : ℕ) (x : Thread) → slice_get xs t ≡ Some x → Stacked set states issued x.frames.items

  threads_alike : (s : Shared) (issued more : ℕ) (xs ys : List Thread) → AllStacked issued ys
      → AllStacked more xs → ShowsThreads set s (map whole_thread xs) ys
      → AlikeThreads set states s xs ys
  threads_alike s issued more [] [] stands others shows = tt
  threads_alike s issued more (x ∷ xs) (y ∷ ys) stands others shows = (
    record {
      root = shows.0.0;
      frames = frames_alike s issued more x.frames.items y.frames.items (stands 0 y refl)
          (others 0 x refl) shows.0.1;
    },
    threads_alike s issued more xs ys (λ t. stands (suc t)) (λ t. others (suc t)) shows.1,
  )
  threads_alike s issued more [] (y ∷ ys) stands others shows = absurd shows
  threads_alike s issued more (x ∷ xs) [] stands others shows = absurd shows

  -- and the other way round
  frame_shown : (s : Shared) (above : Option Frame) (g f : Frame)
      → AlikeFrame set states s above g f → ShowsFrame set s above (whole_frame g) f
  frame_shown s above (Routine b) (Routine a) h = routine_shown above b a h
  frame_shown s above (Walk m) (Walk n) h = h
  frame_shown s above (CancelFrame b) (CancelFrame c) h = h
  frame_shown s above _ _ h = absurd h

  frames_shown : (s : Shared) (xs ys : List Frame) → AlikeFrames set states s None xs ys
      → ShowsFrames set s (map whole_frame xs) ys
  frames_shown s [] [] h = tt
  frames_shown s (x ∷ []) (y ∷ []) h = (frame_shown s None x y h.0, tt)
  frames_shown s (x ∷ u ∷ xs) (y ∷ v ∷ ys) h =
      (frame_shown s (Some v) x y h.0, frames_shown s (u ∷ xs) (v ∷ ys) h.1)
  frames_shown s (x ∷ u ∷ xs) (y ∷ []) h = absurd h.1
  frames_shown s (x ∷ []) (y ∷ v ∷ ys) h = absurd h.1
  frames_shown s _ _ h = absurd h

  threads_shown : (s : Shared) (xs ys : List Thread) → AlikeThreads set states s xs ys
      → ShowsThreads set s (map whole_thread xs) ys
  threads_shown s [] [] h = tt
  threads_shown s (x ∷ xs) (y ∷ ys) h = (
    (h.0.root, frames_shown s x.frames.items y.frames.items h.0.frames),
    threads_shown s xs ys h.1,
  )
  threads_shown s _ _ h = absurd h

  pub world_shown : (v w : World) → AlikeWorld set states v w → ShowsWorld (whole set v) w
  world_shown v w h =
      record {
        threads = threads_shown w.shared v.threads w.threads h.threads;
        packets = ap (λ (s : Shared). map shown_packet s.packets) h.shared;
        issued = ap (λ (s : Shared). s.issued) h.shared;
        locks = ap (λ (s : Shared). s.locks) h.shared;
        cells = ap (λ (s : Shared). s.cells) h.shared;
        queues = ap (λ (s : Shared). s.queues) h.shared;
        starts = ap (λ (s : Shared). s.starts) h.shared;
        dpcs = ap (λ (s : Shared). s.dpcs) h.shared;
      }

  module _ (threads others : ℕ) (v w : World) (past other : List Entry)
      (one : Keeps set states others v other) (keeps : Keeps set states threads w past) where
    stacked_in : (n : ℕ) (u : World) (trace : List Entry) → Keeps set states n u trace
        → AllStacked u.shared.issued u.threads
    stacked_in n u trace its t x found = rw (frames_there u t x found) at (its.stands.frames t)

    pub world_alike : ShowsWorld (whole set v) w → AlikeWorld set states v w
    world_alike shows =
        let alike : AlikeThreads set states w.shared v.threads w.threads =
        threads_alike w.shared w.shared.issued v.shared.issued v.threads w.threads
        (stacked_in threads w past keeps) (stacked_in others v other one) shows.threads in
        let packets : v.shared.packets ≡ w.shared.packets =
        packets_alike set states v w one.held keeps.held one.stands.tells.rises
        keeps.stands.tells.rises (stacked_in threads w past keeps) alike shows.packets shows.issued
        shows.queues shows.starts in
        record {
          shared = same_shared v.shared w.shared packets shows.issued shows.locks shows.cells
              shows.queues shows.starts shows.dpcs;
          threads = alike;
        }
