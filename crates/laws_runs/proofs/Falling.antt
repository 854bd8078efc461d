-- Each step that goes on makes what is left to do less.
use Rattle.laws_runs.proofs.Common.{ap, arith, inl, inr, refl, ◌*◌, ◌-◌, Bool, None, Option, Some, false, if◌then◌else◌, length, slice_get, slice_set, true, ℕ, ◌+◌, ◌<◌, ◌≡◌, ◌≤◌, Outcome, completes_with, routine_of_device, certificate_of, is_completion, Set, IsTypable, Shared, cancelled, completed, entered, left_location, mark_current, moved_up, packet_of, place_of, sent_down, set_by, shared_with, with_armer, with_info, Cancel, Hold, Propagate, Activation, CancelStep, Frame, CancelFrame, Routine, Walk, Packet, Ref, States, OnTop, Begins, begins_back, begins_lent, begins_called, Serves, down, runs, slice_get_within, stack_sum, never_lacks, Cancels, Comes, awaits_cancel, awaits_lock, calls_cancel, calls_down, cancels, carries_up, completes_packet, errs, exchanges, exchanges_gone, finds_empty, finds_none, flags_gone, lends_to, marks_packet, passes_down, resumes_walk, retakes_cancel, sets_flag, takes_cancel, tops_out, walks_gone, walks_to, walks_up, works_on_queues, works_on_waiting, writes_info, queued_touches}
use Rattle.std.proofs.Math.Nat.{mul-le-mul_left}
use Rattle.model.specs.declared.instr.Instr.TheVariants.{Call}
use Rattle.model.specs.declared.limits.TheConstants.{MAX_CERTIFICATE}
use Rattle.laws_runs.specs.Waits.{says_unchanged}
use Rattle.laws_runs.proofs.Certificates.Owed.{executed_in}
use Rattle.laws_runs.proofs.Certificates.Steps.{pays}
use Rattle.laws_runs.proofs.Depth.Falls.{short}
use Rattle.laws_runs.proofs.Room.Changes.{AllWays}
use Rattle.laws_runs.proofs.Room.Ways.{back_room}
use Rattle.laws_runs.proofs.Past.Packets.{found}
use Rattle.laws_runs.proofs.States.Frames.{due}
use Rattle.laws_runs.proofs.Weights.{completes, depth_put, depth_removed, depth_same, depths, fresh_weight, pays_frames, price_by, price_le, small, weight}
use Rattle.laws_runs.specs.Rest.{up}

-- what is one more, and what isn't, at a cost
scaled : (b : Bool) (x y : ℕ) → x ≤ y + (if b then 0 else 1)
    → up * x ≤ up * y + (if b then 0 else up)
scaled true x y h = omega (arith, mul-le-mul_left up h)
scaled false x y h = omega (arith, mul-le-mul_left up h)

module _ (set : Set) (states : States) (typable : IsTypable set) (s : Shared) (t : ℕ) where
  -- a routine executes one instruction
  executes_one : (under : Option Frame) (a : Activation) (o : Outcome)
      → OnTop set states s (Routine a) → Comes set s t under (Routine a) o
      → says_unchanged o.reply ≡ false → executed_in o.actions ≡ 1
  executes_one under a o h (errs b lacks) says = absurd (never_lacks set states s b h lacks)
  executes_one under a o h (awaits_lock b i lock owner at taken owned apart) says = cc
  executes_one under a o h (works_on_queues b i c queues starts actions full at queued) says =
      elim (queued_touches queued) [ inl none ↦ rw none refl | inr one ↦ rw one.1 refl ]
  executes_one under a o h _ says = refl

  -- with which a packet may go one location down, if it is no completion routine
  routine_depths : (under : Option Frame) (a : Activation) (o : Outcome)
      → OnTop set states s (Routine a) → Comes set s t under (Routine a) o
      → depths o.shared.packets ≤ depths s.packets + (if completes set a then 0 else 1)
  routine_depths under a o h (errs b lacks) = absurd (never_lacks set states s b h lacks)
  routine_depths under a o h (marks_packet b r n p at reads there) =
      omega (arith, depth_same s n p (mark_current p) there refl)
  routine_depths under a o h (writes_info b q r n p info at reads there is) =
      omega (arith, depth_same s n p (with_info p info) there refl)
  routine_depths under a o h
      (exchanges b i c jumped r n p armer at work goes operand reads there how) =
      omega (arith, depth_same s n p (with_armer p armer) there refl)
  routine_depths under a o h (works_on_waiting b i starts n p armer full at there waits) =
      omega (arith, depth_same s n p (with_armer p armer) there refl)
  routine_depths under a o h (completes_packet b r status n p at reads there) =
      omega (arith, depth_same s n p (completed p status) there refl)
  routine_depths under a o h (passes_down b r n p lower at reads there below) =
      omega (arith, depth_same s n p (shared_with p lower) there refl)
  routine_depths under a o h (calls_down b r completion n p lower at reads there below) =
      let sort : completes set a ≡ false =
      ap is_completion (down set states s a (Call r completion) r
      (runs set states s a (Call r completion) h at) refl refl).dispatch in
      rw sort (omega (arith, depth_put s n p (sent_down p lower (set_by a completion)) there))
  routine_depths under a o h (resumes_walk b n p at sort there) =
      omega (arith, depth_same s n p (record p { completing = true }) there refl)
  routine_depths under a o h _ = omega arith

  routine_falls : (under : Option Frame) (a : Activation) (o : Outcome)
      → OnTop set states s (Routine a) → Comes set s t under (Routine a) o
      → says_unchanged o.reply ≡ false
      → stack_sum (weight set) o.frames + up * depths o.shared.packets + 1
      ≤ weight set (Routine a) + up * depths s.packets
  routine_falls under a o h c says =
      omega (
        arith,
        pays_frames set a (executed_in o.actions) o.frames (executes_one under a o h c says) typable
            (pays set states s t under (Routine a) o h c)
            (short set states s t under (Routine a) o h c),
        scaled (completes set a) (depths o.shared.packets) (depths s.packets)
            (routine_depths under a o h c),
      )

  -- a completion routine that begins is paid for by the location that was left
  back_weight : (a : Activation) → due set a ≤ certificate_of set a.driver a.routine
      → completes set a ≡ true → weight set (Routine a) ≤ MAX_CERTIFICATE
  back_weight a fresh is =
      let one : due set a * price_by set (completes set a) a.device ≡ due set a * 1 =
      ap (λ (b : Bool). due set a * price_by set b a.device) is in
      omega (arith, small set typable a.driver a.routine)

  left_depths : (n : ℕ) (p q : Packet) → packet_of s n ≡ Some p → 1 ≤ p.depth
      → q.depth ≡ p.depth - 1
      → up * depths (slice_set s.packets (place_of s.packets n) q) + up ≤ up * depths s.packets
  left_depths n p q there some less =
      let one : depths (slice_set s.packets (place_of s.packets n) q) + 1 ≤ depths s.packets =
      omega (arith, depth_put s n p q there) in
      omega (arith, mul-le-mul_left up one)

  walk_falls : (under : Option Frame) (n : ℕ) (o : Outcome)
      → OnTop set states s (Walk n) → AllWays set s → Comes set s t under (Walk n) o
      → stack_sum (weight set) o.frames + up * depths o.shared.packets + 1
      ≤ 1 + up * depths s.packets
  walk_falls under n o h ways (walks_gone m gone) = omega arith
  walk_falls under n o h ways (walks_to m p c there set_there lends) =
      let back : Begins set states s.issued (completes_with set c n) Propagate n =
      begins_back set states s h.good h.fits n p c h.stands there set_there lends in
      let deep : 2 ≤ p.depth = (back_room set p c (ways n p (found s n (Some p) there)) set_there).0 in
      omega (
        arith,
        back_weight (completes_with set c n) back.due (ap is_completion back.of_sort),
        left_depths n p (moved_up (left_location p)) there (omega arith) refl,
      )
  walk_falls under n o h ways (lends_to m p c there set_there lends) =
      let back : Begins set states s.issued (completes_with set c n) Hold n =
      begins_lent set states s h.good h.fits n p c h.stands there set_there lends in
      let deep : 2 ≤ p.depth = (back_room set p c (ways n p (found s n (Some p) there)) set_there).0 in
      omega (
        arith,
        back_weight (completes_with set c n) back.due (ap is_completion back.of_sort),
        left_depths n p (record (moved_up (left_location p)) { completing = false }) there (omega arith) refl,
      )
  walk_falls under n o h ways (walks_up m p there none more unmarked) =
      let some : 1 ≤ p.depth = (ways n p (found s n (Some p) there)).some in
      omega (arith, left_depths n p (moved_up (left_location p)) there some refl)
  walk_falls under n o h ways (carries_up m p there none more marked) =
      let some : 1 ≤ p.depth = (ways n p (found s n (Some p) there)).some in
      omega (arith, left_depths n p (mark_current (moved_up (left_location p))) there some refl)
  walk_falls under n o h ways (tops_out m p there none last) =
      omega (arith, mul-le-mul_left up (depth_removed s.packets (place_of s.packets n)))

  -- IoCancelIrp has three steps and its cancel routine
  cancel_falls : (n : ℕ) (step : CancelStep) (o : Outcome)
      → OnTop set states s (CancelFrame (record { packet = n; next = step }))
      → Cancels set s t n step o → says_unchanged o.reply ≡ false
      → stack_sum (weight set) o.frames + up * depths o.shared.packets + 1
      ≤ weight set (CancelFrame (record { packet = n; next = step })) + up * depths s.packets
  cancel_falls n step o h (takes_cancel free) says = omega arith
  cancel_falls n step o h (retakes_cancel its) says = omega arith
  cancel_falls n step o h (awaits_cancel owner owned apart) says = cc
  cancel_falls n step o h (flags_gone gone) says = omega arith
  cancel_falls n step o h (sets_flag p there) says =
      let same : up * depths (slice_set s.packets (place_of s.packets n) (cancelled p)) ≡ up * depths s.packets =
      ap (λ (x : ℕ). up * x) (depth_same s n p (cancelled p) there refl) in
      omega arith
  cancel_falls n step o h (exchanges_gone gone) says = omega arith
  cancel_falls n step o h (finds_empty p there empty) says =
      let same : up * depths (slice_set s.packets (place_of s.packets n) (with_armer p None)) ≡ up * depths s.packets =
      ap (λ (x : ℕ). up * x) (depth_same s n p (with_armer p None) there refl) in
      omega arith
  cancel_falls n step o h (finds_none p armer there is none) says =
      let same : up * depths (slice_set s.packets (place_of s.packets n) (with_armer p None)) ≡ up * depths s.packets =
      ap (λ (x : ℕ). up * x) (depth_same s n p (with_armer p None) there refl) in
      omega arith
  cancel_falls n step o h (calls_cancel p armer routine there is named) says =
      let a : Activation =
      entered (routine_of_device (slice_get set.devices armer.device)) routine armer.device (Ref n)
      in
      let begins : Begins set states s.issued a Cancel n =
      begins_called set states s h.good h.fits n p armer routine h.stands there is named in
      let served : Serves set a.device a.driver = begins.ready.1.serves in
      let within : a.device < length set.devices =
      slice_get_within set.devices armer.device served.0 served.1 in
      let fresh : due set a ≤ MAX_CERTIFICATE =
      (let h : due set a ≤ certificate_of set a.driver a.routine = begins.due in
      omega (arith, small set typable a.driver a.routine)) in
      let same : up * depths (slice_set s.packets (place_of s.packets n) (with_armer p None)) ≡ up * depths s.packets =
      ap (λ (x : ℕ). up * x) (depth_same s n p (with_armer p None) there refl) in
      omega (
        arith,
        fresh_weight set a fresh,
        mul-le-mul_left MAX_CERTIFICATE (price_le a.device (length set.devices) (omega arith)),
      )

  -- any frame
  pub frame_falls : (under : Option Frame) (f : Frame) (o : Outcome)
      → OnTop set states s f → AllWays set s → Comes set s t under f o
      → says_unchanged o.reply ≡ false
      → stack_sum (weight set) o.frames + up * depths o.shared.packets + 1
      ≤ weight set f + up * depths s.packets
  frame_falls under (Routine a) o h ways c says = routine_falls under a o h c says
  frame_falls under (Walk n) o h ways c says = walk_falls under n o h ways c
  frame_falls under (CancelFrame c) o h ways (cancels n step made moves) says =
      cancel_falls n step o h moves says
