-- The I/O manager completes packets that were issued: those of its frames, on every thread.
use Rattle.laws_runs.proofs.Prelude.{arith, refl, take, ◌-◌, Bool, List, None, Option, Some, [], false, length, true, ℕ, ⊤, ◌<◌, ◌∷◌, ◌≡◌, ◌≤◌, Outcome, answered, kept_below, told_to, told_top, top_of, standing, frames_on, Set, Shared, World, register, Status, CancelStep, Frame, CancelFrame, Routine, Walk}
use Rattle.laws_runs.proofs.Lists.{Each, each_append, each_at, each_map, each_take}
use Rattle.laws_runs.proofs.Past.Packets.{named}
use Rattle.laws_runs.proofs.Steps.Comes.{Cancels, flags_gone, exchanges_gone, finds_empty, finds_none, Comes, completes_packet, passes_down, calls_down, returns_status, lets_go, lets_walk, resumes_walk, resumes_gone, resumes_none, stops_walk, stops_none, ends_startio, ends_dpc, ends_cancel, walks_gone, walks_to, lends_to, walks_up, carries_up, tops_out, cancels}

abbrev pub WalkIssued : ℕ → Frame → Type 0
WalkIssued issued (Routine a) = ⊤
WalkIssued issued (Walk n) = n < issued
WalkIssued issued (CancelFrame c) = ⊤

abbrev pub UnderIssued : ℕ → Option Frame → Type 0
UnderIssued issued None = ⊤
UnderIssued issued (Some f) = WalkIssued issued f

abbrev pub WalksIssued : World → Type 0
WalksIssued w = (t : ℕ) → Each (WalkIssued w.shared.issued) (frames_on w t)

issued_later : (issued more : ℕ) → issued ≤ more → (f : Frame) → WalkIssued issued f
    → WalkIssued more f
issued_later issued more le (Routine a) h = tt
issued_later issued more le (Walk n) h = let l : n < issued = h in omega arith
issued_later issued more le (CancelFrame c) h = tt

pub walks_later : (issued more : ℕ) → issued ≤ more → (frames : List Frame)
    → Each (WalkIssued issued) frames → Each (WalkIssued more) frames
walks_later issued more le frames h =
    each_map (WalkIssued issued) (WalkIssued more) frames (issued_later issued more le) h

module _ (set : Set) (s : Shared) (t : ℕ) where
  -- what stands in place of the frame that ran; and no step issues a packet
  abbrev Issued : Outcome → Type 0
  Issued o = (o.shared.issued ≡ s.issued) × Each (WalkIssued s.issued) o.frames

  cancel_issued : (n : ℕ) (step : CancelStep) (o : Outcome) → Cancels set s t n step o → Issued o
  cancel_issued n step o (flags_gone none) = (refl, tt)
  cancel_issued n step o (exchanges_gone none) = (refl, tt)
  cancel_issued n step o (finds_empty p there word) = (refl, tt)
  cancel_issued n step o (finds_none p armer there word named_none) = (refl, tt)
  cancel_issued n step o _ = (refl, (tt, tt))

  pub step_issued : (under : Option Frame) (f : Frame) (o : Outcome) → Comes set s t under f o
      → WalkIssued s.issued f → Issued o
  step_issued under f o (completes_packet a r status n p at reads there) h =
      (refl, (tt, (named s (register a r) n reads, tt)))
  step_issued under f o (passes_down a r n p lower at reads there down) h = (refl, (tt, (tt, tt)))
  step_issued under f o (calls_down a r g n p lower at reads there down) h = (refl, (tt, (tt, tt)))
  step_issued under f o (returns_status a form status at sort is) h = (refl, tt)
  step_issued under f o (lets_go a at sort bare) h = (refl, tt)
  step_issued under f o (lets_walk a n at sort) h = (refl, tt)
  step_issued under f o (resumes_walk a n p at sort there) h = (refl, tt)
  step_issued under f o (resumes_gone a n at sort none) h = (refl, tt)
  step_issued under f o (resumes_none a at sort bare) h = (refl, tt)
  step_issued under f o (stops_walk a n at sort) h = (refl, tt)
  step_issued under f o (stops_none a at sort bare) h = (refl, tt)
  step_issued under f o (ends_startio a at sort) h = (refl, tt)
  step_issued under f o (ends_dpc a at sort) h = (refl, tt)
  step_issued under f o (ends_cancel a at sort) h = (refl, tt)
  step_issued under f o (walks_gone n none) h = (refl, tt)
  step_issued under f o (walks_to n p c there set_there lends) h = (refl, (h, (tt, tt)))
  step_issued under f o (lends_to n p c there set_there lends) h = (refl, (h, (tt, tt)))
  step_issued under f o (walks_up n p there without deep unmarked) h = (refl, (h, tt))
  step_issued under f o (carries_up n p there without deep marked) h = (refl, (h, tt))
  step_issued under f o (tops_out n p there without first) h = (refl, tt)
  step_issued under f o (cancels n step made moves) h = cancel_issued n step made moves
  step_issued under f o _ h = (refl, (tt, tt))

-- the frames below it stay, but for one that is told a status, and one that is taken away
module _ (set : Set) (issued : ℕ) where
  told_issued : (below : List Frame) (status : Status) (o : Option Frame)
      → Each (WalkIssued issued) below → Each (WalkIssued issued) (told_top set below status o)
  told_issued below status None h = h
  told_issued below status (Some (Walk n)) h = h
  told_issued below status (Some (CancelFrame c)) h = h
  told_issued below status (Some (Routine a)) h =
      each_append (WalkIssued issued) (take (length below - 1) below)
      (Routine (answered set a status) ∷ [])
      (each_take (WalkIssued issued) (length below - 1) below h) (tt, tt)

  kept_issued : (below : List Frame) (taken : Bool) → Each (WalkIssued issued) below
      → Each (WalkIssued issued) (kept_below below taken)
  kept_issued below true h = each_take (WalkIssued issued) (length below - 1) below h
  kept_issued below false h = h

  to_issued : (below : List Frame) (told : Option Status) → Each (WalkIssued issued) below
      → Each (WalkIssued issued) (told_to set below told)
  to_issued below None h = h
  to_issued below (Some status) h = told_issued below status (top_of below) h

  pub standing_issued : (below : List Frame) (o : Outcome) → Each (WalkIssued issued) below
      → Each (WalkIssued issued) o.frames → Each (WalkIssued issued) (standing set below o)
  standing_issued below o h new =
      each_append (WalkIssued issued) (told_to set (kept_below below o.taken_below) o.told) o.frames
      (to_issued (kept_below below o.taken_below) o.told (kept_issued below o.taken_below h)) new

-- the frame below the top one
top_issued : (issued : ℕ) (below : List Frame) (o : Option Frame)
    → Each (WalkIssued issued) below → top_of below ≡ o → UnderIssued issued o
top_issued issued below None h is = tt
top_issued issued below (Some f) h is = each_at (WalkIssued issued) below (length below - 1) f h is

pub under_issued : (issued : ℕ) (below : List Frame) → Each (WalkIssued issued) below
    → UnderIssued issued (top_of below)
under_issued issued below h = top_issued issued below (top_of below) h refl
