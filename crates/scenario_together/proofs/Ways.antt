-- What a step does goes the same way from plays that go the same way.
use Rattle.std.proofs.Common.{◌≡◌, ◌∙◌, ◌++◌, ◌&&◌, ◌||◌, ◌-◌, ℕ, zero, suc, Bool, true, false, not, List, [], ◌∷◌, Option, None, Some, ap, is_none, length, nat_lt, refl, subst, sym, if◌then◌else◌}
use Rattle.tell_audit.specs.Ends.{first_of}
use Rattle.checked.specs.SameWorlds.{SameWorldsGoOnAlike}
use Rattle.model.specs.declared.event.Event.{Event}
use Rattle.model.specs.declared.event.Event.TheVariants as event
use Rattle.model.specs.declared.event.Reply.{Reply}
use Rattle.model.specs.declared.event.Reply.TheVariants.{Refused}
use Rattle.model.specs.declared.history.TopOut.{TopOut}
use Rattle.model.specs.History.{started_by}
use Rattle.model.specs.Run.{Run, run}
use Rattle.model.specs.Set.{Set}
use Rattle.model.specs.Sound.{IsSound}
use Rattle.model.specs.Trace.{Serving}
use Rattle.model.specs.Typable.{IsTypable}
use Rattle.model.specs.View.{busy_at, thread_at}
use Rattle.laws_runs.specs.Waiting.{waits_for}
use Rattle.model.specs.World.{World, owner_of}
use Rattle.scenario_run.proofs.Alike.{go_alike, reply_alike}
use Rattle.scenario_run.specs.Acting.{acted, expected}
use Rattle.scenario_steps.specs.Judging.{expects_audit}
use Rattle.scenario_run.specs.Alike.{GoAlike}
use Rattle.scenario_run.specs.declared.playing.Outcome.{Outcome}
use Rattle.scenario_run.specs.declared.playing.Outcome.TheVariants.{Done, Waits, Fails}
use Rattle.scenario_run.specs.Holding.{holds, is_clean, numbers_of, packet_holds, packet_is}
use Rattle.scenario_world.specs.States.{device_holds, thread_holds, topped_as}
use Rattle.scenario_run.specs.Playing.{Playing, Went, cancelled, happened, has_room, if_done, if_going, issued, most_of, number_of, one, outcome_of, outcome_of_cancel, replies_of, reply_in, reply_of, run_of, run_thread, running, running_to, stays, stepping, unless_failed, with_event, world_of}
use Rattle.scenario_world.specs.States.{stands_at}
use Rattle.scenario_run.specs.Turns.{any_goes_on, goes_on, round, rounds, run_all, turn}
use Rattle.scenario_world.specs.declared.until.Until.{Until}
use Rattle.scenario_world.specs.declared.until.Until.TheVariants.{At, Release}
use Rattle.scenario_world.specs.Until.{is_before}
use Rattle.scenario_names.specs.declared.names.Spot.{Spot}
use Rattle.scenario_world.specs.Expected.{entries_of, has_entries, is_owned}
use Rattle.scenario_steps.specs.declared.scenario.Action.{Action}
use Rattle.scenario_steps.specs.declared.scenario.Action.TheVariants.{Issue, Cancel, Interrupt, Dpc, StartIo, Steps, Run as RunAction, RunTo, RunToRelease, RunAll, Together, Expect}
use Rattle.scenario_expected.specs.declared.expectation.Expectation.{Expectation}
use Rattle.scenario_expected.specs.declared.expectation.Expectation.TheVariants.{Clean, Bug, Packet, Thread, Device, Lock, Listed, Verdict, Judged}
use Rattle.scenario_expected.specs.declared.expectation.PacketState.{PacketState}
use Rattle.scenario_expected.specs.declared.expectation.PacketState.TheVariants.{Live, Cancelled, Topped, Marked, Unmarked, In, Current, Held}
use Rattle.scenario_together.specs.Likeness.{SameWay, same_way}
use Rattle.tell_audit.specs.Findings.{ringed_threads}
use Rattle.tell_audit.specs.Left.{left_locks}
use Rattle.tell_audit.specs.Naming.{lost_packets}
use Rattle.tell_uses.specs.Pending.{AcceptedRunsShowNoDisagreement, disagreeing, uses_of}

-- two plays went alike
pub record WentAlike (w v : Went) : Type 0 where
  pub outcome : w.outcome ≡ v.outcome
  pub now : SameWay w.now v.now

if_alike : (b c : Bool) (w v x y : Went) → b ≡ c → WentAlike w v → WentAlike x y
    → WentAlike (if b then w else x) (if c then v else y)
if_alike true true w v x y same first later = first
if_alike false false w v x y same first later = later
if_alike true false w v x y same first later = cc
if_alike false true w v x y same first later = cc

unless_by : (o : Outcome) (w v x y : Went) → WentAlike w v → WentAlike x y
    → WentAlike (unless_failed o w x) (unless_failed o v y)
unless_by Fails w v x y here later = here
unless_by Done w v x y here later = later
unless_by Waits w v x y here later = later

done_by : (o : Outcome) (w v x y : Went) → WentAlike w v → WentAlike x y
    → WentAlike (if_done o w x) (if_done o v y)
done_by Done w v x y here later = later
done_by Waits w v x y here later = here
done_by Fails w v x y here later = here

stays_alike : (p q : Playing) (o : Outcome) → SameWay p q → WentAlike (stays p o) (stays q o)
stays_alike p q o way = record { outcome = refl; now = way }

going_by : (o : Outcome) (p q : Playing) (x y : Went) → SameWay p q → WentAlike x y
    → WentAlike (if_going o p x) (if_going o q y)
going_by Done p q x y way later = later
going_by Waits p q x y way later = stays_alike p q Fails way
going_by Fails p q x y way later = stays_alike p q Fails way

-- the set stays what it is
sound_by : (p : Playing) (e : Event) (b : Bool) → IsSound p.set
    → IsSound (if b then with_event p e else p).set
sound_by p e true sound = sound
sound_by p e false sound = sound

unless_sound : (o : Outcome) (w v : Went) → IsSound w.now.set → IsSound v.now.set
    → IsSound (unless_failed o w v).now.set
unless_sound Fails w v here later = here
unless_sound Done w v here later = later
unless_sound Waits w v here later = later

turn_sound_by : (p : Playing) (e : Event) (b : Bool) → IsSound p.set
    → IsSound (if b then one p e else stays p Done).now.set
turn_sound_by p e true sound = sound_by p e (has_room p) sound
turn_sound_by p e false sound = sound

turn_sound : (p : Playing) (t : ℕ) → IsSound p.set → IsSound (turn p t).now.set
turn_sound p t sound = turn_sound_by p (event.Step t) (goes_on p t) sound

round_sound : (count t : ℕ) (p : Playing) → IsSound p.set → IsSound (round count t p).now.set
round_sound zero t p sound = sound
round_sound (suc count) t p sound =
    unless_sound (turn p t).outcome (turn p t) (round count (suc t) (turn p t).now)
    (turn_sound p t sound)
    (round_sound count (suc t) (turn p t).now (turn_sound p t sound))

-- a thread goes on in both, or in neither
goes_way : (t : ℕ) (p q : Playing) → SameWay p q → goes_on p t ≡ goes_on q t
goes_way t _ _ (same_way p others alike) =
    ap (λ (w : World). busy_at w t && is_none (waits_for p.set w t)) alike.stand.world

any_way : (t : ℕ) (p q : Playing) → SameWay p q → any_goes_on p t ≡ any_goes_on q t
any_way zero p q way = refl
any_way (suc t) p q way =
    ap (λ (b : Bool). b || goes_on p t) (any_way t p q way)
    ∙ ap (λ (b : Bool). any_goes_on q t || b) (goes_way t p q way)

until_way : (t : ℕ) (until : Until) (p q : Playing) → SameWay p q
    → is_before until p.set (world_of p) t ≡ is_before until q.set (world_of q) t
until_way t until _ _ (same_way p others alike) =
    ap (λ (w : World). is_before until p.set w t) alike.stand.world

module _ (law : SameWorldsGoOnAlike) where
  -- one event more
  happened_by : (p : Playing) (others : List Event) (e : Event) (b c : Bool) → b ≡ c
      → IsSound p.set → GoAlike p.set p.threads p.events others
      → SameWay (if b then with_event p e else p)
      (if c then with_event (record p { events = others }) e else record p { events = others })
  happened_by p others e true true same sound alike =
      same_way (with_event p e) (others ++ e ∷ [])
      (go_alike law p.set sound p.threads p.events others e alike)
  happened_by p others e false false same sound alike = same_way p others alike
  happened_by p others e true false same sound alike = cc
  happened_by p others e false true same sound alike = cc

  module _ (p : Playing) (others : List Event) (sound : IsSound p.set)
      (alike : GoAlike p.set p.threads p.events others) where
    abbrev q : Playing
    q = record p { events = others }

    room_alike : has_room p ≡ has_room q
    room_alike = ap (λ (n : ℕ). nat_lt n 1000000) alike.long

    happened_alike : (e : Event) → SameWay (happened p e) (happened q e)
    happened_alike e =
        happened_by p others e (has_room p) (has_room q) room_alike sound alike

    replied_alike : (e : Event) → reply_of p e ≡ reply_of q e
    replied_alike e =
        ap (λ (b : Bool). if b then reply_in p e else Refused) room_alike
        ∙ ap (λ (r : Reply). if has_room q then r else Refused)
        (reply_alike law p.set sound p.threads p.events others e alike)

    at_one : (e : Event) → WentAlike (one p e) (one q e)
    at_one e =
        record {
          outcome = ap (λ (r : Reply). outcome_of r) (replied_alike e);
          now = happened_alike e;
        }

    at_cancel : (e : Event)
        → WentAlike (record { now = happened p e; outcome = outcome_of_cancel (reply_of p e) })
        (record { now = happened q e; outcome = outcome_of_cancel (reply_of q e) })
    at_cancel e =
        record {
          outcome = ap (λ (r : Reply). outcome_of_cancel r) (replied_alike e);
          now = happened_alike e;
        }

    busy_alike : (t : ℕ) → busy_at (world_of p) t ≡ busy_at (world_of q) t
    busy_alike t = ap (λ (w : World). busy_at w t) alike.stand.world

    at_spot : (t : ℕ) (spot : Spot)
        → stands_at spot (thread_at (world_of p) t) ≡ stands_at spot (thread_at (world_of q) t)
    at_spot t spot = ap (λ (w : World). stands_at spot (thread_at w t)) alike.stand.world

    most_alike : most_of p ≡ most_of q
    most_alike = ap (λ (n : ℕ). 1000001 - n) alike.long

  sound_on : (p : Playing) (e : Event) → IsSound p.set → IsSound (happened p e).set
  sound_on p e sound = sound_by p e (has_room p) sound

  one_alike : (p q : Playing) (e : Event) → IsSound p.set → SameWay p q
      → WentAlike (one p e) (one q e)
  one_alike _ _ e sound (same_way p others alike) = at_one p others sound alike e

  -- steps in turn
  stepping_alike : (t count : ℕ) (p q : Playing) → IsSound p.set → SameWay p q
      → WentAlike (stepping t count p) (stepping t count q)
  stepping_alike t zero p q sound way = stays_alike p q Done way
  stepping_alike t (suc count) p q sound way =
      let e : Event = event.Step t in
      let first : WentAlike (one p e) (one q e) = one_alike p q e sound way in
      let later : WentAlike (stepping t count (one p e).now) (stepping t count (one q e).now) =
      stepping_alike t count (one p e).now (one q e).now (sound_on p e sound) first.now in
      subst (λ (o : Outcome). WentAlike (stepping t (suc count) p)
      (unless_failed o (one q e) (stepping t count (one q e).now))) first.outcome
      (unless_by (one p e).outcome (one p e) (one q e) (stepping t count (one p e).now)
      (stepping t count (one q e).now) first later)

  busy_way : (t : ℕ) (p q : Playing) → SameWay p q
      → busy_at (world_of p) t ≡ busy_at (world_of q) t
  busy_way t _ _ (same_way p others alike) =
      ap (λ (w : World). busy_at w t) alike.stand.world

  running_alike : (t count : ℕ) (p q : Playing) → IsSound p.set → SameWay p q
      → WentAlike (running t count p) (running t count q)
  running_alike t zero p q sound way = stays_alike p q Fails way
  running_alike t (suc count) p q sound way =
      let e : Event = event.Step t in
      let first : WentAlike (one p e) (one q e) = one_alike p q e sound way in
      let ours : Went = running t count (one p e).now in
      let its : Went = running t count (one q e).now in
      let later : WentAlike ours its =
      running_alike t count (one p e).now (one q e).now (sound_on p e sound) first.now in
      if_alike (busy_at (world_of p) t) (busy_at (world_of q) t)
      (if_done (one p e).outcome (one p e) ours) (if_done (one q e).outcome (one q e) its)
      (stays p Done) (stays q Done) (busy_way t p q way)
      (subst (λ (o : Outcome). WentAlike (if_done (one p e).outcome (one p e) ours)
      (if_done o (one q e) its)) first.outcome
      (done_by (one p e).outcome (one p e) (one q e) ours its first later))
      (stays_alike p q Done way)

  running_to_alike : (t : ℕ) (until : Until) (count : ℕ) (p q : Playing) → IsSound p.set
      → SameWay p q → WentAlike (running_to t until count p) (running_to t until count q)
  running_to_alike t until zero p q sound way = stays_alike p q Fails way
  running_to_alike t until (suc count) p q sound way =
      let e : Event = event.Step t in
      let first : WentAlike (one p e) (one q e) = one_alike p q e sound way in
      let ours : Went = running_to t until count (one p e).now in
      let its : Went = running_to t until count (one q e).now in
      let later : WentAlike ours its =
      running_to_alike t until count (one p e).now (one q e).now (sound_on p e sound) first.now in
      if_alike (is_before until p.set (world_of p) t) (is_before until q.set (world_of q) t)
      (stays p Done) (stays q Done)
      (if_going (one p e).outcome (one p e).now ours)
      (if_going (one q e).outcome (one q e).now its) (until_way t until p q way)
      (stays_alike p q Done way)
      (subst (λ (o : Outcome). WentAlike (if_going (one p e).outcome (one p e).now ours)
      (if_going o (one q e).now its)) first.outcome
      (going_by (one p e).outcome (one p e).now (one q e).now ours its first.now later))

  -- a request, and a cancel
  packet_way : (p q : Playing) (n m : Option ℕ) → SameWay p q → n ≡ m
      → SameWay (record p { packets = p.packets ++ n ∷ [] })
      (record q { packets = q.packets ++ m ∷ [] })
  packet_way _ _ n m (same_way p others alike) same =
      subst (λ (k : Option ℕ). SameWay (record p { packets = p.packets ++ n ∷ [] })
      (record p { events = others; packets = p.packets ++ k ∷ [] })) same
      (same_way (record p { packets = p.packets ++ n ∷ [] }) others alike)

  issued_alike : (e : Event) (p q : Playing) → IsSound p.set → SameWay p q
      → WentAlike (issued p e) (issued q e)
  issued_alike e _ _ sound (same_way p others alike) =
      let first : WentAlike (one p e) (one (record p { events = others }) e) =
      at_one p others sound alike e in
      record {
        outcome = first.outcome;
        now = packet_way (happened p e) (happened (record p { events = others }) e)
            (started_by e (reply_of p e))
            (started_by e (reply_of (record p { events = others }) e)) first.now
            (ap (λ (r : Reply). started_by e r) (replied_alike p others sound alike e));
      }

  cancelled_alike : (t level : ℕ) (n : Option ℕ) (p q : Playing) → IsSound p.set → SameWay p q
      → WentAlike (cancelled p t level n) (cancelled q t level n)
  cancelled_alike t level None p q sound way = stays_alike p q Fails way
  cancelled_alike t level (Some n) _ _ sound (same_way p others alike) =
      at_cancel p others sound alike (event.Cancel t n level)

  run_alike : (t : ℕ) (p q : Playing) → IsSound p.set → SameWay p q
      → WentAlike (run_thread t p) (run_thread t q)
  run_alike t _ _ sound (same_way p others alike) =
      let way : SameWay p (record p { events = others }) = same_way p others alike in
      if_alike (nat_lt t p.threads) (nat_lt t p.threads) (running t (most_of p) p)
      (running t (most_of (record p { events = others })) (record p { events = others }))
      (stays p Fails) (stays (record p { events = others }) Fails) refl
      (subst (λ (k : ℕ). WentAlike (running t (most_of p) p)
      (running t k (record p { events = others }))) (most_alike p others sound alike)
      (running_alike t (most_of p) p (record p { events = others }) sound way))
      (stays_alike p (record p { events = others }) Fails way)

  to_alike : (t : ℕ) (until : Until) (p q : Playing) → IsSound p.set → SameWay p q
      → WentAlike (running_to t until (most_of p) p) (running_to t until (most_of q) q)
  to_alike t until _ _ sound (same_way p others alike) =
      subst (λ (k : ℕ). WentAlike (running_to t until (most_of p) p)
      (running_to t until k (record p { events = others }))) (most_alike p others sound alike)
      (running_to_alike t until (most_of p) p (record p { events = others }) sound
      (same_way p others alike))

  -- threads in turn
  turn_alike : (t : ℕ) (p q : Playing) → IsSound p.set → SameWay p q
      → WentAlike (turn p t) (turn q t)
  turn_alike t p q sound way =
      if_alike (goes_on p t) (goes_on q t) (one p (event.Step t)) (one q (event.Step t))
      (stays p Done) (stays q Done) (goes_way t p q way)
      (one_alike p q (event.Step t) sound way) (stays_alike p q Done way)

  round_alike : (count t : ℕ) (p q : Playing) → IsSound p.set → SameWay p q
      → WentAlike (round count t p) (round count t q)
  round_alike zero t p q sound way = stays_alike p q Done way
  round_alike (suc count) t p q sound way =
      let first : WentAlike (turn p t) (turn q t) = turn_alike t p q sound way in
      let ours : Went = round count (suc t) (turn p t).now in
      let its : Went = round count (suc t) (turn q t).now in
      let later : WentAlike ours its =
      round_alike count (suc t) (turn p t).now (turn q t).now (turn_sound p t sound) first.now in
      subst (λ (o : Outcome). WentAlike (round (suc count) t p) (unless_failed o (turn q t) its))
      first.outcome
      (unless_by (turn p t).outcome (turn p t) (turn q t) ours its first later)

  rounds_alike : (count : ℕ) (p q : Playing) → IsSound p.set → SameWay p q
      → WentAlike (rounds count p) (rounds count q)
  rounds_alike zero p q sound way = stays_alike p q Fails way
  rounds_alike (suc count) _ _ sound (same_way p others alike) =
      let q : Playing = record p { events = others } in
      let way : SameWay p q = same_way p others alike in
      let our : Went = round p.threads 0 p in
      let another : Went = round p.threads 0 q in
      let first : WentAlike our another = round_alike p.threads 0 p q sound way in
      let ours : Went = rounds count our.now in
      let its : Went = rounds count another.now in
      let later : WentAlike ours its =
      rounds_alike count our.now another.now (round_sound p.threads 0 p sound) first.now in
      if_alike (any_goes_on p p.threads) (any_goes_on q p.threads)
      (unless_failed our.outcome our ours) (unless_failed another.outcome another its)
      (stays p Done) (stays q Done) (any_way p.threads p q way)
      (subst (λ (o : Outcome). WentAlike (unless_failed our.outcome our ours)
      (unless_failed o another its)) first.outcome
      (unless_by our.outcome our another ours its first later))
      (stays_alike p q Done way)

  all_alike : (p q : Playing) → IsSound p.set → SameWay p q
      → WentAlike (run_all p) (run_all q)
  all_alike _ _ sound (same_way p others alike) =
      let q : Playing = record p { events = others } in
      subst (λ (k : ℕ). WentAlike (rounds (most_of p) p) (rounds k q))
      (most_alike p others sound alike)
      (rounds_alike (most_of p) p q sound (same_way p others alike))

-- the packets that a line names have the same numbers in both
numbers_alike : (p : Playing) (others : List Event) (packets : List (Option ℕ))
    → numbers_of p packets ≡ numbers_of (record p { events = others }) packets
numbers_alike p others [] = refl
numbers_alike p others (None ∷ packets) = numbers_alike p others packets
numbers_alike p others (Some packet ∷ packets) =
    ap (λ (ns : List (Option ℕ)). number_of p packet ∷ ns) (numbers_alike p others packets)

-- what is expected holds in both, or in neither
abbrev clean_by : Set → World → Bool → List Serving → Bool
clean_by set w stopped found =
    not stopped
    && is_none (first_of (lost_packets w) (left_locks w (length set.devices))
    (ringed_threads set w) found)

module _ (agreed : AcceptedRunsShowNoDisagreement) (p : Playing) (others : List Event)
    (sound : IsSound p.set) (alike : GoAlike p.set p.threads p.events others) where
  abbrev its_run : Run
  its_run = run p.set p.threads others

  clean_alike : IsTypable p.set → is_clean p.set (run_of p) ≡ is_clean p.set its_run
  clean_alike accepted =
      let ours : disagreeing (run_of p).past (uses_of (run_of p).past) ≡ [] =
      agreed p.set accepted sound p.threads p.events in
      let its : disagreeing its_run.past (uses_of its_run.past) ≡ [] =
      agreed p.set accepted sound p.threads others in
      ap (λ (found : List Serving). clean_by p.set (world_of p) (run_of p).stopped found) ours
      ∙ ap (λ (w : World). clean_by p.set w (run_of p).stopped []) alike.stand.world
      ∙ ap (λ (s : Bool). clean_by p.set its_run.world s []) alike.stand.stopped
      ∙ sym (ap (λ (found : List Serving). clean_by p.set its_run.world its_run.stopped found) its)

  packet_alike : (n : ℕ) (state : PacketState)
      → packet_is (world_of p) (replies_of p) n state
      ≡ packet_is its_run.world (replies_of (record p { events = others })) n state
  packet_alike n Live =
      ap (λ (w : World). packet_is w (replies_of p) n Live) alike.stand.world
  packet_alike n Cancelled =
      ap (λ (w : World). packet_is w (replies_of p) n Cancelled) alike.stand.world
  packet_alike n (Topped status information) =
      ap (λ (top : Option TopOut). topped_as status information top) (alike.tell.tops n)
  packet_alike n Marked =
      ap (λ (w : World). packet_is w (replies_of p) n Marked) alike.stand.world
  packet_alike n Unmarked =
      ap (λ (w : World). packet_is w (replies_of p) n Unmarked) alike.stand.world
  packet_alike n (In d list) =
      ap (λ (w : World). packet_is w (replies_of p) n (In d list)) alike.stand.world
  packet_alike n (Current d) =
      ap (λ (w : World). packet_is w (replies_of p) n (Current d)) alike.stand.world
  packet_alike n (Held driver routine) =
      ap (λ (w : World). packet_is w (replies_of p) n (Held driver routine)) alike.stand.world

  packet_holds_alike : (n : Option ℕ) (state : PacketState)
      → packet_holds (world_of p) (replies_of p) n state
      ≡ packet_holds its_run.world (replies_of (record p { events = others })) n state
  packet_holds_alike None state = refl
  packet_holds_alike (Some n) state = packet_alike n state

  holds_alike : (e : Expectation) → (expects_audit (Expect e) ≡ true → IsTypable p.set)
      → holds p e ≡ holds (record p { events = others }) e
  holds_alike Clean accepted = clean_alike (accepted refl)
  holds_alike (Bug number) accepted = alike.tell.bugs number
  holds_alike (Packet packet state) accepted = packet_holds_alike (number_of p packet) state
  holds_alike (Thread t state) accepted =
      ap (λ (w : World). thread_holds p.set w t state) alike.stand.world
  holds_alike (Device d state) accepted =
      ap (λ (w : World). device_holds w d state) alike.stand.world
  holds_alike (Lock lock owner) accepted =
      ap (λ (w : World). is_owned owner (owner_of w.shared.locks lock)) alike.stand.world
  holds_alike (Listed d list packets) accepted =
      ap (λ (w : World). has_entries (numbers_of p packets) (entries_of w.shared d list))
      alike.stand.world
      ∙ ap (λ (ns : List (Option ℕ)). has_entries ns (entries_of its_run.world.shared d list))
      (numbers_alike p others packets)
  holds_alike (Verdict expected) accepted = refl
  holds_alike (Judged expected found) accepted = refl

  expected_alike : (e : Expectation) → (expects_audit (Expect e) ≡ true → IsTypable p.set)
      → WentAlike (expected p (holds p e))
      (expected (record p { events = others }) (holds (record p { events = others }) e))
  expected_alike e accepted =
      record {
        outcome = ap (λ (b : Bool). if b then Done else Fails) (holds_alike e accepted);
        now = same_way p others alike;
      }

-- a step
module _ (law : SameWorldsGoOnAlike) (agreed : AcceptedRunsShowNoDisagreement) where
  pub acted_alike : (action : Action) (p q : Playing) → IsSound p.set → SameWay p q
      → (expects_audit action ≡ true → IsTypable p.set)
      → WentAlike (acted p action) (acted q action)
  acted_alike (Issue t d major argument) p q sound way accepted =
      issued_alike law (event.Issue t d major argument) p q sound way
  acted_alike (Cancel t packet level) _ _ sound (same_way p others alike) accepted =
      cancelled_alike law t level (number_of p packet) p (record p { events = others }) sound
      (same_way p others alike)
  acted_alike (Interrupt d) p q sound way accepted =
      one_alike law p q (event.Interrupt d) sound way
  acted_alike (Dpc t d) p q sound way accepted = one_alike law p q (event.Dpc t d) sound way
  acted_alike (StartIo t d) p q sound way accepted =
      one_alike law p q (event.StartIo t d) sound way
  acted_alike (Steps t count) p q sound way accepted = stepping_alike law t count p q sound way
  acted_alike (RunAction t) p q sound way accepted = run_alike law t p q sound way
  acted_alike (RunTo t spot) p q sound way accepted = to_alike law t (At spot) p q sound way
  acted_alike (RunToRelease t lock) p q sound way accepted =
      to_alike law t (Release lock) p q sound way
  acted_alike RunAll p q sound way accepted = all_alike law p q sound way
  acted_alike (Together threads worlds) p q sound way accepted = stays_alike p q Fails way
  acted_alike (Expect e) _ _ sound (same_way p others alike) accepted =
      expected_alike agreed p others sound alike e accepted
