-- Steps that a thread makes by itself, in its run and in a scenario.
use Rattle.std.proofs.Common.{◌≡◌, ◌∙◌, ◌+◌, ◌-◌, ◌≤◌, ℕ, suc, Bool, true, List, [], ◌∷◌, ◌++◌, Option, Some, false, append_assoc, ap, arith, if◌then◌else◌, length, refl, replicate, subst, sym}
use Rattle.std.specs.Prelude.{nat_lt, option_map, slice_get}
use Rattle.std.proofs.lemmas.Bool.{lt-ltb}
use Rattle.std.proofs.lemmas.List.{append-nil, length-append, length-replicate, replicate_more}
use Rattle.checked.specs.GoingOn.{GoesOn, more, none}
use Rattle.model.specs.declared.event.Event.{Event}
use Rattle.model.specs.declared.event.Event.TheVariants.{Step}
use Rattle.model.specs.declared.event.Reply.{Reply}
use Rattle.model.specs.declared.event.Reply.TheVariants.{Stepped, Refused}
use Rattle.model.specs.declared.world.Activation.{Activation}
use Rattle.model.specs.declared.world.Frame.{Frame}
use Rattle.model.specs.declared.world.Frame.TheVariants.{Routine}
use Rattle.model.specs.declared.world.Thread.{Thread}
use Rattle.model.specs.History.{replies, replies_from}
use Rattle.model.specs.Machine.{AppliesWhole, Machine, ShowsWhole, reply_to}
use Rattle.model.specs.Run.{Run, begun, run, run_from, step}
use Rattle.model.specs.Set.{Set}
use Rattle.model.specs.View.{busy_at, has_frames, thread_view}
use Rattle.model.specs.World.{World}
use Rattle.scenario_run.specs.declared.playing.Outcome.TheVariants.{Done}
use Rattle.scenario_run.specs.Going.{GoesAhead, Strides, halts, moves, rests, strides, with_steps}
use Rattle.scenario_run.specs.Playing.{Playing, Went, has_room, if_done, if_going, one, outcome_of, reply_in, running, running_to, stays, stepping, unless_failed, with_event, world_of}
use Rattle.scenario_world.specs.declared.until.Until.{Until}
use Rattle.scenario_world.specs.Until.{MaySteps, wakes}

step_added : (t k : ℕ) (events : List Event)
    → (events ++ replicate k (Step t)) ++ Step t ∷ [] ≡ events ++ replicate (suc k) (Step t)
step_added t k events =
    let next : k + 1 ≡ suc k = omega arith in
    append_assoc events (replicate k (Step t)) (Step t ∷ [])
    ∙ ap (λ (es : List Event). events ++ es) (replicate_more k (Step t))
    ∙ ap (λ (j : ℕ). events ++ replicate j (Step t)) next

-- the replies of a run to one event more
pub replies_more : (set : Set) (r : Run) (events : List Event) (e : Event)
    → replies_from set r (events ++ e ∷ [])
    ≡ replies_from set r events ++ (step set (run_from set r events) e).reply ∷ []
replies_more set r [] e = refl
replies_more set r (x ∷ events) e =
    ap (λ later. (step set r x).reply ∷ later) (replies_more set (step set r x).run events e)

-- over the same set, a machine shows the run of these events
pub record Shown (m n : Machine) (threads : ℕ) (events : List Event) : Type 0 where
  pub same : n.set ≡ m.set
  pub shows : ShowsWhole n threads events

pub shown_along : (t : ℕ) (m : Machine) (k : ℕ) (n : Machine) (threads : ℕ) (events : List Event)
    → GoesOn t m k n → ShowsWhole m threads events
    → Shown m n threads (events ++ replicate k (Step t))
shown_along t m j n threads events none shows =
    subst (λ (es : List Event). Shown m m threads es) (sym (append-nil events))
    (record { same = refl; shows = shows })
shown_along t m j p threads events (more k n o before applies alone) shows =
    let past : List Event = events ++ replicate k (Step t) in
    let so_far : Shown m n threads past = shown_along t m k n threads events before shows in
    subst (λ (es : List Event). Shown m o threads es) (step_added t k events)
    (record {
      same = applies.set ∙ so_far.same;
      shows = applies.shows threads past so_far.shows;
    })

-- strides are steps that a thread makes by itself
pub strides_on : (until : Until) (t : ℕ) (m : Machine) (k : ℕ) (n : Machine)
    → Strides until t m k n → GoesOn t m k n
strides_on until t m j n halts = none
strides_on until t m j p (strides k n o before applies alone short still) =
    more k n o (strides_on until t m k n before) applies alone

-- each of them replies that the thread stepped
stepped_to : (m n o : Machine) (t k threads : ℕ) (events : List Event)
    → Shown m n threads (events ++ replicate k (Step t)) → AppliesWhole n (Step t) o Stepped
    → Stepped ≡ reply_to m.set threads (events ++ replicate k (Step t)) (Step t)
stepped_to m n o t k threads events so_far applies =
    let past : List Event = events ++ replicate k (Step t) in
    applies.replies threads past so_far.shows
    ∙ ap (λ (s : Set). reply_to s threads past (Step t)) so_far.same

pub replies_along : (t : ℕ) (m : Machine) (k : ℕ) (n : Machine) (threads : ℕ)
    (events : List Event) → GoesOn t m k n → ShowsWhole m threads events
    → replies m.set threads (events ++ replicate k (Step t))
    ≡ replies m.set threads events ++ replicate k Stepped
replies_along t m j n threads events none shows =
    ap (λ (es : List Event). replies m.set threads es) (append-nil events)
    ∙ sym (append-nil (replies m.set threads events))
replies_along t m j p threads events (more k n o before applies alone) shows =
    let past : List Event = events ++ replicate k (Step t) in
    let told : List Reply = replies m.set threads events in
    let next : k + 1 ≡ suc k = omega arith in
    let so_far : Shown m n threads past = shown_along t m k n threads events before shows in
    ap (λ (es : List Event). replies m.set threads es) (sym (step_added t k events))
    ∙ replies_more m.set (begun m.set threads) past (Step t)
    ∙ ap (λ (r : Reply). replies m.set threads past ++ r ∷ [])
    (sym (stepped_to m n o t k threads events so_far applies))
    ∙ ap (λ (rs : List Reply). rs ++ Stepped ∷ [])
    (replies_along t m k n threads events before shows)
    ∙ append_assoc told (replicate k Stepped) (Stepped ∷ [])
    ∙ ap (λ (rs : List Reply). told ++ rs) (replicate_more k Stepped)
    ∙ ap (λ (i : ℕ). told ++ replicate i Stepped) next

-- a thread with a frame is busy
some_frames : (below : List Frame) (f : Frame) → nat_lt 0 (length (below ++ f ∷ [])) ≡ true
some_frames below f =
    let long : length (below ++ f ∷ []) ≡ length below + length (f ∷ []) =
    length-append below (f ∷ []) in
    let one : length (f ∷ []) ≡ 1 = refl in
    lt-ltb 0 (length (below ++ f ∷ [])) (omega (arith, long, one))

busy_by : (w : World) (t : ℕ) (x : Thread) (below : List Frame) (a : Activation)
    → slice_get w.threads t ≡ Some x → x.frames.items ≡ below ++ Routine a ∷ []
    → busy_at w t ≡ true
busy_by w t x below a there stack =
    ap (λ (o : Option Thread). has_frames (option_map thread_view o)) there
    ∙ ap (λ (fs : List Frame). nat_lt 0 (length fs)) stack
    ∙ some_frames below (Routine a)

-- an event for which there is room, and that steps
abbrev Made : Playing → Event → Bool → Reply → Went
Made p e b r =
    record {
      now = if b then with_event p e else p;
      outcome = outcome_of (if b then r else Refused);
    }

one_stepped : (p : Playing) (e : Event) → has_room p ≡ true → Stepped ≡ reply_in p e
    → Made p e true Stepped ≡ one p e
one_stepped p e room is =
    ap (λ (r : Reply). Made p e true r) is ∙ ap (λ (b : Bool). Made p e b (reply_in p e)) (sym room)

-- so a thread goes ahead in a scenario
module _ (p : Playing) (t : ℕ) (m : Machine) (same : m.set ≡ p.set)
    (shows : ShowsWhole m p.threads p.events) where
  one_made : (k : ℕ) (n o : Machine) → length p.events + suc k ≤ 1000000
      → Shown m n p.threads (p.events ++ replicate k (Step t))
      → AppliesWhole n (Step t) o Stepped
      → record { now = with_steps p t (suc k); outcome = Done } ≡ one (with_steps p t k) (Step t)
  one_made k n o room so_far applies =
      let past : List Event = p.events ++ replicate k (Step t) in
      let q : Playing = with_steps p t k in
      let long : length past ≡ length p.events + length (replicate k (Step t)) =
      length-append p.events (replicate k (Step t)) in
      let times : length (replicate k (Step t)) ≡ k = length-replicate k (Step t) in
      let fits : has_room q ≡ true =
      lt-ltb (length past) 1000000 (omega (arith, room, long, times)) in
      let stepped : Stepped ≡ reply_in q (Step t) =
      stepped_to m n o t k p.threads p.events so_far applies
      ∙ ap (λ (s : Set). reply_to s p.threads past (Step t)) same in
      let went : List Event → Went = λ es.
      record { now = record p { events = es }; outcome = Done } in
      ap went (sym (step_added t k p.events)) ∙ one_stepped q (Step t) fits stepped

  -- the world that a machine shows then
  seen_at : (k : ℕ) (n : Machine) → Shown m n p.threads (p.events ++ replicate k (Step t))
      → n.world ≡ world_of (with_steps p t k)
  seen_at k n so_far =
      so_far.shows.world
      ∙ ap (λ (s : Set). (run s p.threads (p.events ++ replicate k (Step t))).world)
      (so_far.same ∙ same)

  pub goes_ahead : (until : Until) (k : ℕ) (n : Machine) → length p.events + k ≤ 1000000
      → Strides until t m k n → GoesAhead until t p k (with_steps p t k)
  goes_ahead until j n room halts =
      let still : List Event → Playing = λ es. record p { events = es } in
      subst (λ (q : Playing). GoesAhead until t p 0 q) (ap still (sym (append-nil p.events))) rests
  goes_ahead until j n room (strides k last o before applies alone short still) =
      let steps : GoesOn t m k last = strides_on until t m k last before in
      let so_far : Shown m last p.threads (p.events ++ replicate k (Step t)) =
      shown_along t m k last p.threads p.events steps shows in
      let behind : Shown m o p.threads (p.events ++ replicate (suc k) (Step t)) =
      shown_along t m (suc k) o p.threads p.events (more k last o steps applies alone) shows in
      let may : MaySteps until last.set last.world t =
      record {
        busy =
            busy_by last.world t alone.thread alone.below alone.before alone.there alone.stack;
        short = short;
      } in
      moves k (with_steps p t k) (with_steps p t (suc k))
      (goes_ahead until k last (omega (arith, room)) before)
      (subst (λ (s : Set). MaySteps until s (world_of (with_steps p t k)) t) (so_far.same ∙ same)
      (subst (λ (w : World). MaySteps until last.set w t) (seen_at k last so_far) may))
      (one_made k last o room so_far applies)
      (subst (λ (s : Set). wakes until s (world_of (with_steps p t (suc k))) t ≡ false)
      (behind.same ∙ same)
      (subst (λ (w : World). wakes until o.set w t ≡ false) (seen_at (suc k) o behind) still))

-- what is left then goes as all did
steps_moved : (until : Until) (t : ℕ) (p : Playing) (k left : ℕ) (q : Playing)
    → GoesAhead until t p k q → stepping t left q ≡ stepping t (left + k) p
steps_moved until t p j left q rests =
    let same : left ≡ left + 0 = omega arith in ap (λ (n : ℕ). stepping t n p) same
steps_moved until t p j left o (moves k q n before may gone still) =
    let next : suc left + k ≡ left + suc k = omega arith in
    ap (λ (w : Went). unless_failed w.outcome w (stepping t left w.now)) gone
    ∙ steps_moved until t p k (suc left) q before
    ∙ ap (λ (i : ℕ). stepping t i p) next

pub steps_ahead : (until : Until) (t left rest : ℕ) (p q : Playing) → rest ≤ left
    → GoesAhead until t p (left - rest) q → stepping t rest q ≡ stepping t left p
steps_ahead until t left rest p q less goes =
    let all : rest + (left - rest) ≡ left = omega (arith, less) in
    steps_moved until t p (left - rest) rest q goes ∙ ap (λ (i : ℕ). stepping t i p) all

abbrev Next : ℕ → ℕ → Bool → Playing → Went → Went
Next t left busy p w =
    if busy then if_done w.outcome w (running t left w.now)
    else record { now = p; outcome = Done }

runs_moved : (until : Until) (t : ℕ) (p : Playing) (k left : ℕ) (q : Playing)
    → GoesAhead until t p k q → running t left q ≡ running t (left + k) p
runs_moved until t p j left q rests =
    let same : left ≡ left + 0 = omega arith in ap (λ (n : ℕ). running t n p) same
runs_moved until t p j left o (moves k q n before may gone still) =
    let next : suc left + k ≡ left + suc k = omega arith in
    ap (λ (w : Went). if_done w.outcome w (running t left w.now)) gone
    ∙ ap (λ (b : Bool). Next t left b q (one q (Step t))) (sym may.busy)
    ∙ runs_moved until t p k (suc left) q before
    ∙ ap (λ (i : ℕ). running t i p) next

pub runs_ahead : (until : Until) (t left rest : ℕ) (p q : Playing) → rest ≤ left
    → GoesAhead until t p (left - rest) q → running t rest q ≡ running t left p
runs_ahead until t left rest p q less goes =
    let all : rest + (left - rest) ≡ left = omega (arith, less) in
    runs_moved until t p (left - rest) rest q goes ∙ ap (λ (i : ℕ). running t i p) all

abbrev NextTo : ℕ → Until → ℕ → Bool → Playing → Went → Went
NextTo t until left ends p w =
    if ends then stays p Done else if_going w.outcome w.now (running_to t until left w.now)

to_moved : (until : Until) (t : ℕ) (p : Playing) (k left : ℕ) (q : Playing)
    → GoesAhead until t p k q → running_to t until left q ≡ running_to t until (left + k) p
to_moved until t p j left q rests =
    let same : left ≡ left + 0 = omega arith in ap (λ (n : ℕ). running_to t until n p) same
to_moved until t p j left o (moves k q n before may gone still) =
    let next : suc left + k ≡ left + suc k = omega arith in
    ap (λ (w : Went). if_going w.outcome w.now (running_to t until left w.now)) gone
    ∙ ap (λ (b : Bool). NextTo t until left b q (one q (Step t))) (sym may.short)
    ∙ to_moved until t p k (suc left) q before
    ∙ ap (λ (i : ℕ). running_to t until i p) next

pub to_ahead : (until : Until) (t left rest : ℕ) (p q : Playing) → rest ≤ left
    → GoesAhead until t p (left - rest) q → running_to t until rest q ≡ running_to t until left p
to_ahead until t left rest p q less goes =
    let all : rest + (left - rest) ≡ left = omega (arith, less) in
    to_moved until t p (left - rest) rest q goes
    ∙ ap (λ (i : ℕ). running_to t until i p) all
