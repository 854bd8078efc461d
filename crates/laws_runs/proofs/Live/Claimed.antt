-- What a register at the stage Armed or Taken names is live, since its cancel word or its cancel
-- routine holds it; and so is what stands in a queue.
use Rattle.laws_runs.proofs.Holders.Plain.{plain_in, driver_at, plain_le, plain_counts}
use Rattle.laws_runs.proofs.Claims.Balance.{at_same, claim_le}
use Rattle.laws_runs.proofs.Common.{ap, arith, refl, Bool, List, None, Option, Some, false, is_some, length, option_map, slice_get, true, ℕ, ◌+◌, ◌≡◌, ◌≤◌, is_at, is_exchanged, kind_of, StartState, frames_on, Set, Entry, World, register, start_of, Kind, Queued, Armed, Cancelling, Listed, Taken, QueueName, Declared, DeviceQueue, Activation, Frame, Routine, Ref, States, times_at, times_in, waits_cancelable, IsGood, state_of, Standing}
use Rattle.laws_runs.proofs.Claims.Tops.{named_some, top_there}
use Rattle.laws_runs.proofs.Claims.Held.{holder_lives}
use Rattle.laws_runs.proofs.Live.Steps.{ClaimsLive, EntriesLive}
use Rattle.laws_runs.proofs.Claims.Sums.{Claimed, names_on, word_at, is_cancelable, times_of}
use Rattle.laws_runs.proofs.Holders.Sums.{Held, unheld}
use Rattle.laws_runs.proofs.Past.LivePackets.{find}
use Rattle.laws_runs.proofs.Runs.Events.{StepsFrame}
use Rattle.laws_runs.proofs.Claims.Sums.{list_of}
use Rattle.laws_runs.proofs.Holders.Started.{started_le}

start_found : (o : Option StartState) (entries : List ℕ)
    → option_map (λ start. start.device_queue) o ≡ Some entries
    → (start : StartState) × (o ≡ Some start) × (start.device_queue ≡ entries)
start_found None entries h = cc
start_found (Some start) entries h =
    let same : start.device_queue ≡ entries = cc in (start, refl, same)

none_some : (o : Option ℕ) → is_some o ≡ false → o ≡ None
none_some None h = refl
none_some (Some routine) h = cc

module _ (set : Set) (states : States) (w : World) (past : List Entry) (good : IsGood set states)
    (stands : Standing set states w past) (held : Held set states w)
    (claimed : Claimed set states w) where
  backed_lives : (d : ℕ) (q : QueueName) (n : ℕ)
      → 1 ≤ names_on states (is_at Armed q) d n w.threads
      + names_on states (is_at Taken q) d n w.threads
      → 1 ≤ unheld (find w.shared.packets n)
  backed_lives d q n some =
      let backed : names_on states (is_at Armed q) d n w.threads
      + names_on states (is_at Taken q) d n w.threads
      ≤ word_at (find w.shared.packets n) d q
      + names_on states (is_at Cancelling q) d n w.threads =
      claimed.balanced.backed d q n in
      holder_lives set states w held n d q 1 (omega arith)

  module _ (t k : ℕ) (a : Activation) (there : slice_get (frames_on w t) k ≡ Some (Routine a))
    where
      pub exchanged_lives : (kind : Kind) (r n : ℕ) → kind_of (state_of states a) r ≡ kind
          → is_exchanged kind ≡ true → register a r ≡ Ref n
          → 1 ≤ unheld (find w.shared.packets n)
      exchanged_lives (Queued q stage) r n is claim refers =
          let some : 1 ≤ names_on states (is_at stage q) a.device n w.threads =
          named_some states w t k a there (is_at stage q) refl r n
          (rw is (at_same stage q)) refers in
          backed_lives a.device q n (omega (
            arith,
            claim_le stage claim (λ at. names_on states (is_at at q) a.device n w.threads),
          ))
      exchanged_lives _ r n is claim refers = cc

  frame_claims : (t : ℕ) (h : StepsFrame set w t) (f : Frame) → h.frame ≡ f
      → ClaimsLive states w.shared f
  frame_claims t h (Routine a) top =
      λ r n is refers.
      exchanged_lives t (length h.below) a (top_there set w t h a top)
      (kind_of (state_of states a) r) r n refl is refers
  frame_claims t h _ top = tt

  pub claims_live : (t : ℕ) (h : StepsFrame set w t) → ClaimsLive states w.shared h.frame
  claims_live t h = frame_claims t h h.frame refl

  entries_of : (d : ℕ) (q : QueueName) (n : ℕ) (entries : List ℕ) (b : Bool)
      → list_of w.shared d q ≡ Some entries
      → is_cancelable set d q ≡ b → times_in entries n ≤ unheld (find w.shared.packets n)
  entries_of d q n entries true there may =
      let entered : times_of (list_of w.shared d q) n
      ≤ word_at (find w.shared.packets n) d q
      + names_on states (is_at Cancelling q) d n w.threads
      + names_on states (is_at Listed q) d n w.threads =
      claimed.balanced.entered d q n may in
      let here : times_of (list_of w.shared d q) n ≡ times_in entries n =
      ap (λ (o : Option (List ℕ)). times_of o n) there in
      holder_lives set states w held n d q (times_in entries n) (omega arith)
  entries_of d DeviceQueue n entries false there may =
      let found : (start : StartState) × (start_of w.shared d ≡ Some start)
      × (start.device_queue ≡ entries) = start_found (start_of w.shared d) entries there in
      let counts : times_in found.0.device_queue n ≤ times_at (waits_cancelable set d) found.0 n =
      rw may (omega arith) in
      let same : times_in found.0.device_queue n ≡ times_in entries n =
      ap (λ (xs : List ℕ). times_in xs n) found.2 in
      omega (arith, started_le set w.shared.starts d found.0 n found.1, held.rights n)
  entries_of d (Declared q) n entries false there may =
      let counts : plain_in set (driver_at set d) q entries n ≡ times_in entries n =
      plain_counts set n (driver_at set d) q entries (none_some _ may) in
      omega (arith, plain_le set n w.shared d q entries there, held.rights n)

  pub entries_live : EntriesLive w.shared
  entries_live d q n entries there some =
      let le : times_in entries n ≤ unheld (find w.shared.packets n) =
      entries_of d q n entries (is_cancelable set d q) there refl in
      omega arith
