-- In every run of an accepted set each live packet has one holder, and no packet tops out twice.
use Rattle.laws_runs.proofs.Common.{ap, append-nil, arith, inl, inr, refl, sym, take, zero, ◌-◌, ◌∙◌, cases_Bool, ltb-false, Bool, List, None, Option, Some, [], false, if◌then◌else◌, is_none, length, nat_eq, nat_lt, not, replicate, slice_get, slice_set, suc, true, ℕ, ◌&&◌, ◌++◌, ◌+◌, ◌∷◌, ◌≡◌, ◌≤◌, Outcome, answered_in, kept_below, operand_of, told_to, top_of, Change, dpc_activation, serves_request, standing, with_stack, first_fault, topped, is_hold, without_first_to_start, Run, begun, Set, instruction_at, sort_of, Actor, Entry, Shared, World, idle_thread, new_packet, packet_of, Ret, Stop, Dispatch, StartIo, Status, Activation, Frame, CancelFrame, Routine, Walk, Packet, Thread, States, alive, frame_rights, frame_walks, is_live, stack_sum, thread_sum, times_waiting, waits_cancelable, walking, startio_enters, begins_dpc, begins_request, startio_activation, StepLeaves, leaves_fine, IsGood, Ready, Runs, state_of, returns_by, OnTop, runs, Replaces, Stacked, Stands, Standing, on_top, stands_there, last_same, told_frame, told_is, told_last, cancel_takes, stood, Comes, cancels, errs, stops_walk, fault_among, is_touch, quiet_among}
use Rattle.std.proofs.Common.{append_assoc}
use Rattle.laws_runs.specs.Holder.{holders}
use Rattle.laws_runs.proofs.Holders.Counts.{Holding, new_unheld, new_held, new_waits}
use Rattle.laws_runs.proofs.Holders.Lent.{IsLent, stops_hold}
use Rattle.laws_runs.proofs.Holders.Plain.{none_plain}
use Rattle.laws_runs.proofs.Holders.Rights.{begun_rights, rights_told, dpc_rights}
use Rattle.laws_runs.proofs.Holders.Started.{none_started, started_put, times_first}
use Rattle.laws_runs.proofs.Holders.Steps.{HoldStep, hold, completion_faults}
use Rattle.laws_runs.proofs.Holders.Sums.{Held, unheld, held, stack_append, thread_set, top_le, first_frame}
use Rattle.laws_runs.proofs.Holders.Waits.{FreesSlot}
use Rattle.laws_runs.proofs.Holders.Walking.{first_walking, last_walking, none_walking, walking_from, walking_on, walking_set, walking_top, walks_under}
use Rattle.laws_runs.proofs.Lists.{last_split}
use Rattle.laws_runs.proofs.Past.LivePackets.{find, find_place, find_above}
use Rattle.laws_runs.proofs.Past.Packets.{Tells}
use Rattle.laws_runs.proofs.Runs.Events.{StepsFrame, Happens, nothing, steps, begins}
use Rattle.laws_runs.proofs.Runs.Roots.{Root, Beside, IdleThread, issues, root_begun, takes_dpc, takes_first, takes_nothing, with_root}
use Rattle.laws_runs.proofs.Steps.Faults.{is_completion}
use Rattle.laws_runs.proofs.Tokens.Sums.{OneTokenEach, token_slot}
use Rattle.laws_runs.proofs.Holders.Waits.{NextArmed}

-- a frame that is told a status has the same rights, and is the I/O manager's where it was
module _ (set : Set) (states : States) (issued n : ℕ) where
  answered_rights : (a : Activation) (status : Status) (r : Option ℕ)
      → Ready set states issued (answered_in a status r)
      → frame_rights states (Routine (answered_in a status r)) n ≡ frame_rights states (Routine a) n
  answered_rights a status None h = refl
  answered_rights a status (Some r) h =
      rights_told issued (state_of states a).kinds a.registers r status n h.1.kinds

  pub frame_told_rights : (told : Option Status) (g : Frame)
      → Stands set states issued None (told_frame set told g)
      → frame_rights states (told_frame set told g) n ≡ frame_rights states g n
  frame_told_rights None (Routine a) h = refl
  frame_told_rights None (Walk m) h = refl
  frame_told_rights (Some status) (Walk m) h = refl
  frame_told_rights None (CancelFrame c) h = refl
  frame_told_rights (Some status) (CancelFrame c) h = refl
  frame_told_rights (Some status) (Routine a) h =
      answered_rights a status (operand_of (instruction_at set a.driver a.routine (a.position - 1)))
      h

  last_rights : (below : List Frame) (f : Frame) (told : Option Status)
      → Stacked set states issued (below ++ f ∷ [])
      → Replaces set states issued f told []
      → stack_sum (λ g. frame_rights states g n) (told_last set told below)
      ≡ stack_sum (λ g. frame_rights states g n) below
  last_rights [] f told h to = refl
  last_rights (g ∷ []) f told h to =
      omega (arith, frame_told_rights told g (to g h.0))
  last_rights (g ∷ e ∷ below) f told h to =
      ap (λ (sum : ℕ). frame_rights states g n + sum) (last_rights (e ∷ below) f told h.1 to)

  -- where frames stand in place of the top one, nothing is told or they return
  last_after : (below : List Frame) (f : Frame) (told : Option Status) (frames : List Frame)
      → Stacked set states issued (below ++ f ∷ []) → Replaces set states issued f told frames
      → stack_sum (λ g. frame_rights states g n) (told_last set told below)
      ≡ stack_sum (λ g. frame_rights states g n) below
  last_after below f told [] h to = last_rights below f told h to
  last_after below f None (e ∷ frames) h to =
      ap (stack_sum (λ g. frame_rights states g n)) (last_same set below)
  last_after below f (Some status) (e ∷ frames) h to = let no : Some status ≡ None = to.0 in cc

-- frames in place of the top one
pub top_changed : (count : Frame → ℕ) (threads : List Thread) (t : ℕ) (thread after : Thread)
    (below lower : List Frame) (f : Frame) (frames : List Frame)
    → slice_get threads t ≡ Some thread → thread.frames.items ≡ below ++ f ∷ []
    → after.frames.items ≡ lower ++ frames → stack_sum count lower ≡ stack_sum count below
    → thread_sum count (slice_set threads t after) + count f
    ≡ thread_sum count threads + stack_sum count frames
top_changed count threads t thread after below lower f frames found items new same =
    let old : stack_sum count thread.frames.items ≡ stack_sum count below
    + stack_sum count (f ∷ []) =
    ap (stack_sum count) items ∙ stack_append count below (f ∷ []) in
    let later : stack_sum count after.frames.items ≡ stack_sum count lower
    + stack_sum count frames =
    ap (stack_sum count) new ∙ stack_append count lower frames in
    omega (arith, thread_set count threads t thread after found)

-- what the I/O manager's frames count after a step that a completion routine stops: both its frame
-- and that below it are gone, which was lent
module _ (set : Set) (states : States) (s : Shared) (t : ℕ) (below : List Frame) where
  stopped_others : (others : List Frame) (k : ℕ) (a : Activation) (n : ℕ)
      → is_hold (sort_of set a.driver a.routine) ≡ true
      → walking set (others ++ Walk k ∷ Routine a ∷ []) n ≡ walking set others n
  stopped_others others k a n lent =
      let under : Option Frame = top_of others in
      let from : walking_from set under (Walk k ∷ Routine a ∷ []) n ≡ walks_under under n + 0 =
      rw lent refl in
      omega (arith, walking_on set others (Walk k ∷ Routine a ∷ []) n)

  stopped_walks : (under : Option Frame) (f : Frame) (o : Outcome) → top_of below ≡ under
      → OnTop set states s f → Comes set s t under f o → o.taken_below ≡ true → (n : ℕ)
      → (walking set (standing set below o) n ≡ walking set (below ++ f ∷ []) n) × (o.shared ≡ s)
  stopped_walks under f o top on (stops_walk a k at sort) taken n =
      let h : Runs set states s a (Ret Stop) = runs set states s a (Ret Stop) on at in
      let lent : is_hold (sort_of set a.driver a.routine) ≡ true =
      stops_hold (sort_of set a.driver a.routine) sort
      (returns_by (state_of states a) (sort_of set a.driver a.routine) set a.driver Stop
      h.obeys).of_form in
      let others : List Frame = take (length below - 1) below in
      let split : below ++ Routine a ∷ [] ≡ others ++ Walk k ∷ Routine a ∷ [] =
      ap (λ (frames : List Frame). frames ++ Routine a ∷ []) (last_split below (Walk k) top)
      ∙ append_assoc others (Walk k ∷ []) (Routine a ∷ []) in
      let gone : walking set (standing set below o) n ≡ walking set others n =
      ap (λ (frames : List Frame). walking set frames n) (append-nil others) in
      let stood : walking set (below ++ Routine a ∷ []) n
      ≡ walking set (others ++ Walk k ∷ Routine a ∷ []) n =
      ap (λ (frames : List Frame). walking set frames n) split in
      let same : walking set (others ++ Walk k ∷ Routine a ∷ []) n ≡ walking set others n =
      stopped_others others k a n lent in
      (omega arith, refl)
  stopped_walks under f o top on (errs a lacks) taken n = cc
  stopped_walks under f o top on (cancels m step made moves) taken n =
      let no : true ≡ false = sym taken ∙ cancel_takes set s t m step made moves in cc
  stopped_walks under f o top on _ taken n = cc

  -- and after every step
  walks_after : (f : Frame) (o : Outcome) → OnTop set states s f
      → Comes set s t (top_of below) f o → HoldStep set states s (top_of below) f o → (n : ℕ)
      → walking set (standing set below o) n + held (find s.packets n)
      ≡ walking set (below ++ f ∷ []) n + held (find o.shared.packets n)
  walks_after f o on comes step n =
      elim (cases_Bool o.taken_below) [
        | inl taken ↦
            let both : (walking set (standing set below o) n ≡ walking set (below ++ f ∷ []) n)
            × (o.shared ≡ s) = stopped_walks (top_of below) f o refl on comes taken n in
            let same : walking set (standing set below o) n ≡ walking set (below ++ f ∷ []) n =
            both.0 in
            let packets : held (find o.shared.packets n) ≡ held (find s.packets n) =
            ap (λ (x : Shared). held (find x.packets n)) both.1 in
            omega arith
        | inr stays ↦
            let stood : standing set below o ≡ told_last set o.told below ++ o.frames =
            ap (λ (taken : Bool). told_to set (kept_below below taken) o.told ++ o.frames) stays
            ∙ ap (λ (frames : List Frame). frames ++ o.frames) (told_is set below o.told) in
            let now : walking set (standing set below o) n ≡ walking set (below ++ o.frames) n =
            ap (λ (frames : List Frame). walking set frames n) stood
            ∙ last_walking set o.told below o.frames n in
            omega (
              arith,
              walking_on set below o.frames n,
              walking_on set below (f ∷ []) n,
              step.walks stays n,
            )
      ]

-- the rights of a frame that steps are to live packets
pub top_holding : (set : Set) (states : States) (w : World) (past : List Entry)
    → Standing set states w past
    → Held set states w → (t : ℕ) (h : StepsFrame set w t)
    → Holding set states w.shared past h.frame
top_holding set states w past stands kept t h =
    let waiting : (n : ℕ) → frame_rights states h.frame n + times_waiting set w.shared n
    ≤ unheld (find w.shared.packets n) =
    λ n.
    let le : frame_rights states h.frame n ≤ thread_sum (λ f. frame_rights states f n) w.threads =
    top_le (λ f. frame_rights states f n) w.threads t h.thread h.below h.frame h.found h.frames in
    omega (arith, kept.rights n) in
    record {
      tells = stands.tells;
      rights = λ n.
          omega (arith, waiting n);
      waiting = waiting;
      walks = λ n.
          omega (
            arith,
            walking_top set w.threads t h.thread h.below h.frame n h.found h.frames,
            kept.walks n,
          );
    }

-- and where it has the token of its device, the current slot is empty
pub frees_slot : (set : Set) (states : States) (w : World) → OneTokenEach states w → (t : ℕ)
    (h : StepsFrame set w t)
    → FreesSlot states w.shared h.frame
frees_slot set states w tokens t h = frees_of h.frame refl
  where
    frees_of : (f : Frame) → h.frame ≡ f → FreesSlot states w.shared f
    frees_of (Routine a) is =
        λ start has there. (token_slot set states w tokens t h a is has start there).0
    frees_of (Walk n) is = tt
    frees_of (CancelFrame c) is = tt

-- what an event does to the rights
module _ (set : Set) (states : States) (w : World) (past : List Entry) (good : IsGood set states)
    (stands : Standing set states w past) (kept : Held set states w) where
  -- a root has the right to no packet but to one that is new, or the first of a start list
  root_even : (root : Root) → Beside set w.shared root → (n : ℕ)
      → frame_rights states root.frame n + times_waiting set root.shared n
      + unheld (find w.shared.packets n)
      ≡ times_waiting set w.shared n + unheld (find root.shared.packets n)
  root_even root (issues h) n =
      let m : ℕ = w.shared.issued in
      let a : Activation = serves_request set h.d h.device h.major m in
      let p : Packet = new_packet m h.d h.major h.argument h.device.stack in
      let one : frame_rights states (Routine a) n ≡ (if nat_eq m n then 1 else 0) =
      begun_rights set states (m + 1) a Dispatch m n
      (begins_request set states good (m + 1) m (omega arith) h.d h.device h.major h.there) in
      let packets : unheld (find (w.shared.packets ++ p ∷ []) n)
      ≡ (if nat_eq m n then 1 else 0) + unheld (find w.shared.packets n) =
      new_unheld w.shared p stands.tells.rises refl refl n in
      let waits : times_waiting set root.shared n ≡ times_waiting set w.shared n =
      new_waits w.shared p stands.tells.rises refl refl set root.shared refl refl refl refl n in
      omega arith
  root_even root (takes_dpc d routine there) n =
      omega (
        arith,
        dpc_rights set states w.shared.issued (dpc_activation set d routine) n
            (begins_dpc set states good w.shared.issued d routine there),
      )
  root_even root (takes_first h) n =
      omega (
        arith,
        begun_rights set states w.shared.issued (startio_activation set h.d h.routine h.n) StartIo
            h.n n (startio_enters set states good w.shared stands.fits h),
        started_put set w.shared.starts h.d h.start (without_first_to_start h.start) n h.has,
        times_first (waits_cancelable set h.d) h.start h.n n h.first,
      )
  root_even root (takes_nothing m level p there) n = omega arith

  -- and is the I/O manager's for none
  root_still : (root : Root) → Beside set w.shared root → (n : ℕ)
      → (frame_walks root.frame n ≡ 0)
      × (held (find root.shared.packets n) ≡ held (find w.shared.packets n))
  root_still root (issues h) n = (
    refl,
    new_held w.shared
        (new_packet w.shared.issued h.d h.major h.argument h.device.stack) stands.tells.rises refl
        refl n,
  )
  root_still root _ n = (refl, refl)

  root_held : (t : ℕ) (i : IdleThread w t) (root : Root) → Beside set w.shared root
      → Held set states (root_begun w t i.thread root).world
  root_held t i root beside =
      let after : Thread = with_root i.thread root in
      record {
        rights = λ n.
            omega (
              arith,
              kept.rights n,
              first_frame (λ f. frame_rights states f n) w.threads t i.thread after root.frame i.found
                  i.idle refl,
              root_even root beside n,
            );
        walks = λ n.
            omega (
              arith,
              first_walking set w.threads t i.thread after root.frame n i.found i.idle refl,
              (root_still root beside n).0,
              kept.walks n,
              (root_still root beside n).1,
            );
      }

  -- the rights of all after a step
  rights_after : (t : ℕ) (h : StepsFrame set w t)
      → StepLeaves set states w.shared h.frame h.outcome → (n : ℕ)
      → thread_sum (λ f. frame_rights states f n)
      (slice_set w.threads t (with_stack h.thread (standing set h.below h.outcome)))
      + frame_rights states h.frame n
      ≡ thread_sum (λ f. frame_rights states f n) w.threads
      + stack_sum (λ f. frame_rights states f n) h.outcome.frames
  rights_after t h leaves n =
      let o : Outcome = h.outcome in
      let count : Frame → ℕ = λ f. frame_rights states f n in
      let after : Thread = with_stack h.thread (standing set h.below o) in
      elim (stood set w.shared t h.below h.frame o h.comes) [
        | inl new ↦
            top_changed count w.threads t h.thread after h.below (told_last set o.told h.below)
            h.frame
            o.frames h.found h.frames
            (new ∙ ap (λ (frames : List Frame). frames ++ o.frames) (told_is set h.below o.told))
            (last_after set states w.shared.issued n h.below h.frame o.told o.frames
            (stands_there set states w past good stands t h) leaves.stands)
        | inr stops ↦
            let gone : stack_sum count o.frames ≡ 0 = ap (stack_sum count) stops.frames in
            let parts : stack_sum count h.below ≡ stack_sum count stops.others + 0 =
            ap (stack_sum count) stops.below_is
            ∙ stack_append count stops.others (Walk stops.n ∷ []) in
            let changed : thread_sum count (slice_set w.threads t after) + count h.frame
            ≡ thread_sum count w.threads + stack_sum count [] =
            top_changed count w.threads t h.thread after h.below stops.others h.frame
            [] h.found h.frames
            (stops.stands ∙ sym (append-nil stops.others)) (omega arith) in
            omega arith
      ]

  pub held_kept : OneTokenEach states w → (actor : Actor) (c : Change)
      → ((h : StepsFrame set w actor.thread) → IsLent set states (top_of h.below) h.frame)
      → ((h : StepsFrame set w actor.thread) → NextArmed set w.shared h.frame)
      → Happens set w actor.thread c
      → first_fault past actor c.actions ≡ None → Held set states c.world
  held_kept tokens actor c lent next (nothing reply right) quiet = kept
  held_kept tokens actor c lent next (steps h) quiet =
      let o : Outcome = h.outcome in
      let t : ℕ = actor.thread in
      let on : OnTop set states w.shared h.frame = on_top set states w past good stands t h in
      let leaves : StepLeaves set states w.shared h.frame o =
      leaves_fine set states w.shared past actor stands.tells (top_of h.below) h.frame o on quiet
      h.comes in
      let step : HoldStep set states w.shared (top_of h.below) h.frame o =
      hold set states w.shared past actor (top_of h.below) h.frame o on
      (top_holding set states w past stands kept t h) (frees_slot set states w tokens t h) (lent h)
      (next h) h.comes
      (quiet_among is_touch past actor o.actions quiet) in
      let after : Thread = with_stack h.thread (standing set h.below o) in
      record {
        rights = λ n.
            omega (arith, kept.rights n, rights_after t h leaves n, step.rights n);
        walks = λ n.
            let stood : walking set h.thread.frames.items n
            ≡ walking set (h.below ++ h.frame ∷ []) n =
            ap (λ (frames : List Frame). walking set frames n) h.frames in
            omega (
              arith,
              kept.walks n,
              walking_set set w.threads t h.thread after n h.found,
              walks_after set states w.shared t h.below h.frame o on h.comes step n,
            );
      }
  held_kept tokens actor c lent next (begins i root beside) quiet =
      root_held actor.thread i root beside

  pub completion_faults_none : (actor : Actor) (h : StepsFrame set w actor.thread)
      → fault_among is_completion past actor h.outcome.actions ≡ None
  completion_faults_none actor h =
      completion_faults set states w.shared past actor (top_of h.below) h.frame h.outcome
      (on_top set states w past good stands actor.thread h)
      (top_holding set states w past stands kept actor.thread h) h.comes

-- before the first event
pub idle_sum : (count : Frame → ℕ) (threads : ℕ)
    → thread_sum count (replicate threads idle_thread) ≡ 0
idle_sum count zero = refl
idle_sum count (suc threads) =
    omega (arith, idle_sum count threads)

pub held_begun : (set : Set) (states : States) (threads : ℕ)
    → Held set states (begun set threads).world
held_begun set states threads =
    record {
      rights = λ n.
          omega (
            arith,
            idle_sum (λ f. frame_rights states f n) threads,
            none_plain set n 0 (length set.devices),
            none_started set (length set.devices) n,
          );
      walks = λ n. none_walking set threads n;
    }

-- in the words of the law
alive_bit : (b : Bool) → (if b then 0 else 1) + (if b then 1 else 0) ≡ 1
alive_bit true = refl
alive_bit false = refl

alive_parts : (o : Option Packet) → unheld o + held o ≡ alive o
alive_parts None = refl
alive_parts (Some p) = alive_bit p.completing

-- where the past tells that what is gone has topped out, what is there is what lives
alive_told : (is_issued : Bool) (o : Option Packet) (gone : Bool) → gone ≡ (is_issued && is_none o)
    → (is_issued ≡ false → o ≡ None) → alive o ≡ (if is_issued && not gone then 1 else 0)
alive_told true None gone h later = rw h refl
alive_told true (Some p) gone h later = rw h refl
alive_told false None gone h later = refl
alive_told false (Some p) gone h later = let no : Some p ≡ None = later refl in cc

module _ (r : Run) (tells : Tells r.world.shared r.past) (n : ℕ) where
  pub live_listed : alive (packet_of r.world.shared n) ≡ (if is_live r n then 1 else 0)
  live_listed =
      ap alive (find_place r.world.shared.packets n)
      ∙ alive_told (nat_lt n r.world.shared.issued) (find r.world.shared.packets n)
      (topped r.past n) (tells.gone n)
      (λ late. find_above 0 r.world.shared.packets r.world.shared.issued n tells.rises
      (ltb-false n r.world.shared.issued late))

  pub one_holder : (set : Set) (states : States) → Held set states r.world
      → holders set states r.world.threads n + times_waiting set r.world.shared n
      ≡ (if is_live r n then 1 else 0)
  one_holder set states kept =
      let same : alive (packet_of r.world.shared n) ≡ alive (find r.world.shared.packets n) =
      ap alive (find_place r.world.shared.packets n) in
      let listed : alive (packet_of r.world.shared n)
      ≡ (if is_live r n then 1 else 0) = live_listed in
      omega (arith, kept.rights n, kept.walks n, alive_parts (find r.world.shared.packets n))
