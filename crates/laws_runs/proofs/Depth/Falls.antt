-- The frames of a thread: routines for devices that stand lower and lower, and at most an I/O
-- manager's frame and a completion routine on them; or one of IoCancelIrp alone. Each step keeps
-- them so.
use Rattle.laws_runs.proofs.Common.{ap, arith, refl, subst, sym, ◌-◌, ◌∙◌, length-append, slice_get_within, Bool, IfSome, List, None, Option, Some, [], false, length, option_and_then, slice_get, suc, true, ℕ, ⊤, ◌++◌, ◌+◌, ◌<◌, ◌∷◌, ◌≡◌, ◌≤◌, Outcome, answered_in, asks, dispatched, operand_of, routine_of_device, told_to, is_completion, Set, instruction_at, lower_of, sort_of, DeviceFits, Shared, asked_of, current_location, entered, Call, Complete, Pass, Device, Dispatch, Status, Activation, CancelStep, Canceller, Frame, CancelFrame, Routine, Walk, Packet, Ref, States, begins_called, IsCompleting, IsOfSort, Serves, state_of, down, completes_one, OnTop, runs, queue_moves, Stacked, told_frame, told_is, told_last, Cancels, Comes, calls_cancel, calls_down, cancels, carries_up, completes_packet, computes, ends_cancel, ends_dpc, ends_startio, exchanges, lends_to, lets_go, lets_walk, looks_at, pages, passes_down, resumes_gone, resumes_none, resumes_walk, returns_status, stops_none, stops_walk, tops_out, turns_loop, walks_gone, walks_to, walks_up, works_on_queues, goes_device, turned_device}
use Rattle.laws_runs.proofs.Devices.{device_fits, dispatched_device}

-- frames of a thread, the lowest first: routines for lower and lower devices, all under a first
-- one; on an I/O manager's frame at most one stands, and on one of IoCancelIrp none
abbrev pub Falls : ℕ → List Frame → Type 0
Falls top [] = ⊤
Falls top (Routine a ∷ frames) = (a.device < top) × Falls a.device frames
Falls top (Walk n ∷ frames) = length frames ≤ 1
Falls top (CancelFrame c ∷ frames) = frames ≡ []

-- a frame of IoCancelIrp
abbrev pub is_cancelling : Frame → Bool
is_cancelling (Routine a) = false
is_cancelling (Walk n) = false
is_cancelling (CancelFrame c) = true

some_frames : (below : List Frame) (f : Frame) → below ++ f ∷ [] ≡ [] → ⊥
some_frames [] f h = cc
some_frames (g ∷ below) f h = cc

no_frames : (below frames : List Frame) → below ++ frames ≡ [] → below ≡ []
no_frames [] frames h = refl
no_frames (g ∷ below) frames h = cc

-- they are at most two more than the devices
pub falls_length : (top : ℕ) (frames : List Frame) → Falls top frames → length frames ≤ top + 2
falls_length top [] h = omega arith
falls_length top (Routine a ∷ frames) h =
    let l : a.device < top = h.0 in
    omega (arith, falls_length a.device frames h.1)
falls_length top (Walk n ∷ frames) h = let few : length frames ≤ 1 = h in omega arith
falls_length top (CancelFrame c ∷ frames) h = rw h (omega arith)

-- and so are the lower ones of them
pub falls_before : (top : ℕ) (below frames : List Frame) → Falls top (below ++ frames)
    → Falls top below
falls_before top [] frames h = tt
falls_before top (Routine a ∷ below) frames h = (h.0, falls_before a.device below frames h.1)
falls_before top (Walk n ∷ below) frames h =
    let few : length (below ++ frames) ≤ 1 = h in
    omega (arith, length-append below frames)
falls_before top (CancelFrame c ∷ below) frames h = no_frames below frames h

module _ (set : Set) where
  -- what a frame's step leaves in its place
  abbrev pub Short : Frame → List Frame → Type 0
  Short (Routine a) [] = ⊤
  Short (Routine a) (Routine b ∷ []) = b.device ≡ a.device
  Short (Routine a) (Routine b ∷ Walk n ∷ []) =
      (b.device ≡ a.device) × (is_completion (sort_of set a.driver a.routine) ≡ false)
  Short (Routine a) (Routine b ∷ Routine c ∷ []) =
      (b.device ≡ a.device) × (c.device < a.device) × IsOfSort set a Dispatch
  Short (Routine a) _ = ⊥
  Short (Walk n) [] = ⊤
  Short (Walk n) (Walk m ∷ []) = ⊤
  Short (Walk n) (Walk m ∷ Routine b ∷ []) = ⊤
  Short (Walk n) _ = ⊥
  Short (CancelFrame c) [] = ⊤
  Short (CancelFrame c) (CancelFrame d ∷ []) = ⊤
  Short (CancelFrame c) (Routine b ∷ []) = b.device < length set.devices
  Short (CancelFrame c) _ = ⊥

  -- a routine that stands on an I/O manager's frame is a completion routine, and leaves at most one
  -- frame
  on_walk : (a : Activation) (frames : List Frame) → IsCompleting set a → Short (Routine a) frames
      → length frames ≤ 1
  on_walk a [] is short = omega arith
  on_walk a (Routine b ∷ []) is short = omega arith
  on_walk a (Routine b ∷ Walk n ∷ []) is short = let no : true ≡ false = sym is ∙ short.1 in cc
  on_walk a (Routine b ∷ Routine c ∷ []) is short =
      let no : true ≡ false = sym is ∙ ap is_completion short.2 in cc
  on_walk a _ is short = absurd short

  -- frames in place of the lowest, but for one of IoCancelIrp
  first_falls : (top : ℕ) (f : Frame) (frames : List Frame) → is_cancelling f ≡ false
      → Falls top (f ∷ []) → Short f frames
      → Falls top frames
  first_falls top (Routine a) [] other h short = tt
  first_falls top (Routine a) (Routine b ∷ []) other h short =
      let same : b.device ≡ a.device = short in let l : a.device < top = h.0 in (omega arith, tt)
  first_falls top (Routine a) (Routine b ∷ Walk n ∷ []) other h short =
      let same : b.device ≡ a.device = short.0 in
      let l : a.device < top = h.0 in
      (omega arith, omega arith)
  first_falls top (Routine a) (Routine b ∷ Routine c ∷ []) other h short =
      let same : b.device ≡ a.device = short.0 in
      let l : a.device < top = h.0 in
      let less : c.device < a.device = short.1 in
      (omega arith, (omega arith, tt))
  first_falls top (Routine a) (Routine b ∷ Walk n ∷ g ∷ frames) other h short = absurd short
  first_falls top (Routine a) (Routine b ∷ Routine c ∷ g ∷ frames) other h short = absurd short
  first_falls top (Routine a) (Walk n ∷ frames) other h short = absurd short
  first_falls top (Routine a) (CancelFrame c ∷ frames) other h short = absurd short
  first_falls top (Routine a) (Routine b ∷ CancelFrame c ∷ frames) other h short = absurd short
  first_falls top (CancelFrame c) frames other h short = cc
  first_falls top (Walk n) [] other h short = tt
  first_falls top (Walk n) (Walk m ∷ []) other h short = omega arith
  first_falls top (Walk n) (Walk m ∷ Routine b ∷ []) other h short = omega arith
  first_falls top (Walk n) _ other h short = absurd short

  too_many : (below : List Frame) (f e : Frame) → length (e ∷ (below ++ f ∷ [])) ≤ 1 → ⊥
  too_many below f e h =
      let all : length (below ++ f ∷ []) ≡ length below + length (f ∷ []) =
      length-append below (f ∷ []) in
      let one : length (f ∷ []) ≡ 1 = refl in
      absurd (omega arith)

  -- frames in place of the top one
  falls_on : (states : States) (issued top : ℕ) (below : List Frame) (f : Frame)
      (frames : List Frame)
      → is_cancelling f ≡ false
      → Stacked set states issued (below ++ f ∷ []) → Falls top (below ++ f ∷ []) → Short f frames
      → Falls top (below ++ frames)
  falls_on states issued top [] f frames other stands h short =
      first_falls top f frames other h short
  falls_on states issued top (Routine g ∷ []) f frames other stands h short =
      (h.0, first_falls g.device f frames other h.1 short)
  falls_on states issued top (Routine g ∷ e ∷ below) f frames other stands h short =
      (h.0, falls_on states issued g.device (e ∷ below) f frames other stands.1 h.1 short)
  falls_on states issued top (Walk m ∷ []) (Routine a) frames other stands h short =
      on_walk a frames stands.0.0 short
  falls_on states issued top (Walk m ∷ []) (Walk n) frames other stands h short = absurd stands.0
  falls_on states issued top (Walk m ∷ []) (CancelFrame c) frames other stands h short = cc
  falls_on states issued top (CancelFrame c ∷ below) f frames other stands h short =
      absurd (some_frames below f h)
  falls_on states issued top (Walk m ∷ e ∷ below) f frames other stands h short =
      absurd (too_many below f e h)

  -- one of IoCancelIrp stands alone, and leaves itself, or the cancel routine of some device
  alone : (states : States) (issued : ℕ) (g : Frame) (below : List Frame) (f : Frame)
      → is_cancelling f ≡ true → Stacked set states issued ((g ∷ below) ++ f ∷ []) → ⊥
  alone states issued g [] (CancelFrame c) is stands = absurd stands.0
  alone states issued g (e ∷ below) f is stands = alone states issued e below f is stands.1
  alone states issued g [] _ is stands = cc

  cancel_falls : (c : Canceller) (frames : List Frame) → Short (CancelFrame c) frames
      → Falls (length set.devices) frames
  cancel_falls c [] short = tt
  cancel_falls c (CancelFrame d ∷ []) short = refl
  cancel_falls c (Routine b ∷ []) short = (short, tt)
  cancel_falls c _ short = absurd short

  falls_for : (states : States) (issued : ℕ) (below : List Frame) (f : Frame) (frames : List Frame)
      → Stacked set states issued (below ++ f ∷ [])
      → Falls (length set.devices) (below ++ f ∷ [])
      → Short f frames → Falls (length set.devices) (below ++ frames)
  falls_for states issued below (Routine a) frames stands h short =
      falls_on states issued (length set.devices) below (Routine a) frames refl stands h short
  falls_for states issued below (Walk n) frames stands h short =
      falls_on states issued (length set.devices) below (Walk n) frames refl stands h short
  falls_for states issued [] (CancelFrame c) frames stands h short = cancel_falls c frames short
  falls_for states issued (g ∷ below) (CancelFrame c) frames stands h short =
      absurd (alone states issued g below (CancelFrame c) refl stands)

  -- a frame that is told a status is for the same device
  answered_for : (a : Activation) (status : Status) (r : Option ℕ)
      → (answered_in a status r).device ≡ a.device
  answered_for a status None = refl
  answered_for a status (Some r) = refl

  told_falls : (top : ℕ) (told : Option Status) (g : Frame) (frames : List Frame)
      → Falls top (g ∷ frames)
      → Falls top (told_frame set told g ∷ frames)
  told_falls top None (Routine a) frames h = h
  told_falls top None (Walk n) frames h = h
  told_falls top (Some status) (Walk n) frames h = h
  told_falls top None (CancelFrame c) frames h = h
  told_falls top (Some status) (CancelFrame c) frames h = h
  told_falls top (Some status) (Routine a) frames h =
      subst (λ (d : ℕ). (d < top) × Falls d frames)
      (sym (answered_for a status
      (operand_of (instruction_at set a.driver a.routine (a.position - 1))))) h

  last_length : (told : Option Status) (below : List Frame)
      → length (told_last set told below) ≡ length below
  last_length told [] = refl
  last_length told (g ∷ []) = refl
  last_length told (g ∷ e ∷ below) = ap suc (last_length told (e ∷ below))

  last_falls : (top : ℕ) (told : Option Status) (below frames : List Frame)
      → Falls top (below ++ frames)
      → Falls top (told_last set told below ++ frames)
  last_falls top told [] frames h = h
  last_falls top told (g ∷ []) frames h = told_falls top told g frames h
  last_falls top told (Routine a ∷ e ∷ below) frames h =
      (h.0, last_falls a.device told (e ∷ below) frames h.1)
  last_falls top told (CancelFrame c ∷ e ∷ below) frames h = cc
  last_falls top told (Walk n ∷ e ∷ below) frames h =
      let few : length ((e ∷ below) ++ frames) ≤ 1 = h in
      omega (
        arith,
        last_length told (e ∷ below),
        length-append (told_last set told (e ∷ below)) frames,
        length-append (e ∷ below) frames,
      )

  pub falls_after : (states : States) (issued : ℕ) (below : List Frame) (f : Frame)
      (told : Option Status)
      (frames : List Frame) → Stacked set states issued (below ++ f ∷ [])
      → Falls (length set.devices) (below ++ f ∷ [])
      → Short f frames → Falls (length set.devices) (told_to set below told ++ frames)
  falls_after states issued below f told frames stands h short =
      subst (λ (all : List Frame). Falls (length set.devices) (all ++ frames))
      (sym (told_is set below told))
      (last_falls (length set.devices) told below frames
      (falls_for states issued below f frames stands h short))

  -- the device under a device is an earlier one
  lower_in : (device lower : ℕ) (o : Option Device) → slice_get set.devices device ≡ o
      → ((d : Device) → slice_get set.devices device ≡ Some d
      → DeviceFits (length set.drivers) device d)
      → option_and_then (λ d. d.lower) o ≡ Some lower → lower < device
  lower_in device lower None there fits is = cc
  lower_in device lower (Some d) there fits is =
      subst (λ (o : Option ℕ). IfSome o (λ l. l < device)) is (fits d there).lower

module _ (set : Set) (states : States) (s : Shared) where
  asks_short : (a : Activation) (lower n : ℕ) (p : Packet) → OnTop set states s (Routine a)
      → IsOfSort set a Dispatch → lower_of set a.device ≡ Some lower
      → Short set (Routine a) (asks set a lower p n)
  asks_short a lower n p h sort below =
      let less : lower < a.device =
      lower_in set a.device lower (slice_get set.devices a.device) refl
      (λ d there. device_fits set a.device d h.good.sound there) below in
      let same : (dispatched set lower (slice_get set.devices lower) (asked_of (current_location p))
      n).device ≡ lower =
      dispatched_device set lower (slice_get set.devices lower) (asked_of (current_location p)) n in
      (refl, omega arith, sort)

  -- IoCancelIrp goes on, ends, or calls a cancel routine for a device that is there
  cancel_short : (t n : ℕ) (step : CancelStep) (o : Outcome)
      → OnTop set states s (CancelFrame (record { packet = n; next = step }))
      → Cancels set s t n step o → Short set (CancelFrame (record { packet = n; next = step }))
      o.frames
  cancel_short t n step o h (calls_cancel p armer routine there is named) =
      let a : Activation =
      entered (routine_of_device (slice_get set.devices armer.device)) routine armer.device (Ref n)
      in
      let served : Serves set a.device a.driver =
      (begins_called set states s h.good h.fits n p armer routine h.stands there is
      named).ready.1.serves in
      slice_get_within set.devices armer.device served.0 served.1
  cancel_short t n step o h _ = tt

  -- every shape
  pub short : (t : ℕ) (under : Option Frame) (f : Frame) (o : Outcome) → OnTop set states s f
      → Comes set s t under f o → Short set f o.frames
  short t under f o h (computes a i b jumped cells at work goes long) =
      goes_device a i b jumped goes
  short t under f o h (turns_loop a l at inner) = turned_device a l
  short t under f o h (pages a i b cell cells at work goes long) = goes_device a i b false goes
  short t under f o h (looks_at a i b jumped r n p at work goes operand reads there jumps) =
      goes_device a i b jumped goes
  short t under f o h (exchanges a i b jumped r n p armer at work goes operand reads there how) =
      goes_device a i b jumped goes
  short t under f o h (completes_packet a r status n p at reads there) = (
    refl,
    (completes_one (state_of states a) (sort_of set a.driver a.routine) set a.driver r status
        (runs set states s a (Complete r status) h at).obeys).above,
  )
  short t under f o h (passes_down a r n p lower at reads there below) =
      asks_short a lower n p h
      (down set states s a (Pass r) r (runs set states s a (Pass r) h at) refl refl).dispatch below
  short t under f o h (calls_down a r completion n p lower at reads there below) =
      asks_short a lower n p h
      (down set states s a (Call r completion) r (runs set states s a (Call r completion) h at) refl
      refl).dispatch below
  short t under f o h (works_on_queues a i b queues starts actions full at queued) =
      (queue_moves set states s a i (runs set states s a i h at) queued).moved.device
  short t under f o h (returns_status a form status at sort is) = tt
  short t under f o h (lets_go a at sort free) = tt
  short t under f o h (lets_walk a n at sort) = tt
  short t under f o h (ends_startio a at sort) = tt
  short t under f o h (ends_dpc a at sort) = tt
  short t under f o h (resumes_walk a n p at sort there) = tt
  short t under f o h (resumes_gone a n at sort gone) = tt
  short t under f o h (resumes_none a at sort free) = tt
  short t under f o h (stops_walk a n at above) = tt
  short t under f o h (stops_none a at above free) = tt
  short t under f o h (ends_cancel a at sort) = tt
  short t under f o h (lends_to n p c there set_there sort) = tt
  short t under f o h (cancels n step made moves) = cancel_short t n step made h moves
  short t under f o h (walks_gone n gone) = tt
  short t under f o h (walks_to n p c there set_there lends) = tt
  short t under f o h (walks_up n p there none more unmarked) = tt
  short t under f o h (carries_up n p there none more marked) = tt
  short t under f o h (tops_out n p there none last) = tt
  short t under f o h _ = refl
