-- Steps that a thread makes one after another, in its run and in a scenario.
use Rattle.std.proofs.Common.{◌≡◌, ◌∙◌, ◌+◌, ◌≤◌, ℕ, suc, Bool, true, false, List, [], ◌∷◌, ◌++◌, None, Some, append_assoc, ap, arith, if◌then◌else◌, length, refl, replicate, subst, sym}
use Rattle.std.proofs.lemmas.Bool.{false≢true, lt-ltb}
use Rattle.std.proofs.lemmas.List.{append-nil, length-append, length-replicate, replicate-append-replicate, replicate_more}
use Rattle.checked.specs.GoingOn.{GoesOn, more, none}
use Rattle.model.specs.declared.event.Event.{Event}
use Rattle.model.specs.declared.event.Event.TheVariants.{Step}
use Rattle.model.specs.declared.event.Reply.{Reply}
use Rattle.model.specs.declared.event.Reply.TheVariants.{Started, Stepped, Finished, Topped, Waited, Idle, Refused, Bug, Wrong}
use Rattle.model.specs.History.{replies}
use Rattle.model.specs.Machine.{Machine}
use Rattle.model.specs.Run.{begun, run}
use Rattle.model.specs.Set.{Set}
use Rattle.model.specs.World.{World}
use Rattle.scenario_run.specs.declared.playing.Outcome.TheVariants.{Done}
use Rattle.scenario_world.specs.declared.until.Until.{Until}
use Rattle.scenario_world.specs.Until.{MaySteps, wakes}
use Rattle.scenario_run.specs.declared.runner.Runner.{Runner}
use Rattle.scenario_run.specs.declared.walking.Walked.{Walked}
use Rattle.scenario_run.specs.Going.{Ends, GoesAhead, Strides, moves, rests, with_steps}
use Rattle.scenario_run.specs.Playing.{Playing, Went, has_room, outcome_of, reply_in, with_event, world_of}
use Rattle.scenario_run.specs.Running.{Runs, RunsOn}
use Rattle.scenario_run.specs.Walking.{WalksOn, is_stepped}
use Rattle.scenario_run.proofs.Going.{goes_ahead, replies_along, replies_more, strides_on}
use Rattle.scenario_run.proofs.Running.{runs_gone}

-- so many steps, of which each only stepped; and with one behind them
abbrev pub stepped : ℕ → Walked
stepped k = record { made = k; last = None }

abbrev pub ended : ℕ → Reply → Walked
ended k reply = record { made = k; last = Some reply }

-- steps behind steps
joined : (t k j : ℕ) (events : List Event)
    → (events ++ replicate k (Step t)) ++ replicate j (Step t)
    ≡ events ++ replicate (k + j) (Step t)
joined t k j events =
    append_assoc events (replicate k (Step t)) (replicate j (Step t))
    ∙ ap (λ (es : List Event). events ++ es) (replicate-append-replicate k j (Step t))

one_joined : (t k : ℕ) (events : List Event)
    → (events ++ replicate k (Step t)) ++ Step t ∷ [] ≡ events ++ replicate (k + 1) (Step t)
one_joined t k events =
    append_assoc events (replicate k (Step t)) (Step t ∷ [])
    ∙ ap (λ (es : List Event). events ++ es) (replicate_more k (Step t))

ahead_joined : (until : Until) (t : ℕ) (p : Playing) (k : ℕ) (q : Playing) (j : ℕ) (o : Playing)
    → GoesAhead until t p k q → GoesAhead until t q j o → GoesAhead until t p (k + j) o
ahead_joined until t p k q i o before rests =
    let same : k ≡ k + 0 = omega arith in subst (λ (n : ℕ). GoesAhead until t p n q) same before
ahead_joined until t p k q i o before (moves j last now goes may gone still) =
    let next : suc (k + j) ≡ k + suc j = omega arith in
    subst (λ (n : ℕ). GoesAhead until t p n o) next
    (moves (k + j) last o (ahead_joined until t p k q j last before goes) may gone still)

alone_set : (t : ℕ) (m : Machine) (k : ℕ) (n : Machine) → GoesOn t m k n → n.set ≡ m.set
alone_set t m k n none = refl
alone_set t m j n (more k before o goes applies alone) =
    applies.set ∙ alone_set t m k before goes

pub walks_none : (until : Until) (t : ℕ) (r : Runner) → WalksOn until t r (stepped 0) r
walks_none until t r =
    let still : Playing → List Event → Playing = λ p es. record p { events = es } in
    record {
      set = refl;
      runs = λ threads events h.
          subst (λ (es : List Event). Runs r threads es) (sym (append-nil events)) h;
      replies = λ threads events h.
          ap (λ (es : List Event). replies r.machine.set threads es) (append-nil events)
          ∙ sym (append-nil (replies r.machine.set threads events));
      goes = λ p same h room.
          subst (λ (q : Playing). GoesAhead until t p 0 q) (ap (still p) (sym (append-nil p.events)))
          rests;
    }

-- steps that a routine makes by itself, behind others
pub walks_alone : (until : Until) (t k j : ℕ) (r n o : Runner) → WalksOn until t r (stepped k) n
    → Strides until t n.machine j o.machine → o.ledger ≡ n.ledger → o.keeping ≡ n.keeping
    → WalksOn until t r (stepped (k + j)) o
walks_alone until t k j r n o w far ledger keeping =
    let goes : GoesOn t n.machine j o.machine = strides_on until t n.machine j o.machine far in
    let past : List Event → List Event = λ events. events ++ replicate k (Step t) in
    record {
      set = alone_set t n.machine j o.machine goes ∙ w.set;
      runs = λ threads events h.
          subst (λ (es : List Event). Runs o threads es) (joined t k j events)
          (runs_gone n o t j threads (past events) goes ledger keeping (w.runs threads events h));
      replies = λ threads events h.
          let told : List Reply = replies r.machine.set threads events in
          ap (λ (es : List Event). replies r.machine.set threads es) (sym (joined t k j events))
          ∙ ap (λ (s : Set). replies s threads (past events ++ replicate j (Step t))) (sym w.set)
          ∙ replies_along t n.machine j o.machine threads (past events) goes
          (w.runs threads events h).shows
          ∙ ap (λ (s : Set). replies s threads (past events) ++ replicate j Stepped) w.set
          ∙ ap (λ (rs : List Reply). rs ++ replicate j Stepped) (w.replies threads events h)
          ∙ append_assoc told (replicate k Stepped) (replicate j Stepped)
          ∙ ap (λ (rs : List Reply). told ++ rs) (replicate-append-replicate k j Stepped);
      goes = λ p same h room.
          let q : Playing = with_steps p t k in
          let long : length q.events ≡ length p.events + length (replicate k (Step t)) =
          length-append p.events (replicate k (Step t)) in
          let times : length (replicate k (Step t)) ≡ k = length-replicate k (Step t) in
          let here : length p.events + k ≤ 1000000 = omega (arith, room) in
          let there : length q.events + j ≤ 1000000 = omega (arith, room, long, times) in
          subst (λ (es : List Event). GoesAhead until t p (k + j) (record p { events = es }))
          (joined t k j p.events)
          (ahead_joined until t p k q j (with_steps q t j) (w.goes p same h here)
          (goes_ahead q t n.machine (w.set ∙ sym same) (w.runs p.threads p.events h).shows until j
          o.machine there far));
    }

-- an event for which there is room, and that replies so
abbrev Made : Playing → Event → Bool → Reply → Went
Made p e b r =
    record {
      now = if b then with_event p e else p;
      outcome = outcome_of (if b then r else Refused);
    }

-- a step behind others, whatever it replies
pub walks_end : (until : Until) (t k : ℕ) (r n o : Runner) (reply : Reply)
    → WalksOn until t r (stepped k) n → MaySteps until n.machine.set n.machine.world t
    → RunsOn n (Step t) o reply → WalksOn until t r (ended k reply) o
walks_end until t k r n o reply w may on =
    let past : List Event → List Event = λ events. events ++ replicate k (Step t) in
    record {
      set = on.set ∙ w.set;
      runs = λ threads events h.
          subst (λ (es : List Event). Runs o threads es) (one_joined t k events)
          (on.runs threads (past events) (w.runs threads events h));
      replies = λ threads events h.
          let told : List Reply = replies r.machine.set threads events in
          ap (λ (es : List Event). replies r.machine.set threads es) (sym (one_joined t k events))
          ∙ ap (λ (s : Set). replies s threads (past events ++ Step t ∷ [])) (sym w.set)
          ∙ replies_more n.machine.set (begun n.machine.set threads) (past events) (Step t)
          ∙ ap (λ (y : Reply). replies n.machine.set threads (past events) ++ y ∷ [])
          (sym (on.replies threads (past events) (w.runs threads events h)))
          ∙ ap (λ (s : Set). replies s threads (past events) ++ reply ∷ []) w.set
          ∙ ap (λ (rs : List Reply). rs ++ reply ∷ []) (w.replies threads events h)
          ∙ append_assoc told (replicate k Stepped) (reply ∷ []);
      goes = λ p same h room.
          let q : Playing = with_steps p t k in
          let shown : Runs n p.threads q.events = w.runs p.threads p.events h in
          let over : n.machine.set ≡ p.set = w.set ∙ sym same in
          let long : length q.events ≡ length p.events + length (replicate k (Step t)) =
          length-append p.events (replicate k (Step t)) in
          let times : length (replicate k (Step t)) ≡ k = length-replicate k (Step t) in
          let here : length p.events + k ≤ 1000000 = omega (arith, room) in
          let fits : has_room q ≡ true =
          lt-ltb (length q.events) 1000000 (omega (arith, room, long, times)) in
          let seen : n.machine.world ≡ world_of q =
          shown.shows.world ∙ ap (λ (s : Set). (run s p.threads q.events).world) over in
          let said : reply ≡ reply_in q (Step t) =
          subst (λ (s : Set). reply ≡ reply_in (record q { set = s }) (Step t)) over
          (on.replies p.threads q.events shown) in
          let went : List Event → Went = λ es.
          record { now = record p { events = es }; outcome = outcome_of reply } in
          record {
            before = q;
            ahead = w.goes p same h here;
            may =
                subst (λ (s : Set). MaySteps until s (world_of q) t) over
                (subst (λ (v : World). MaySteps until n.machine.set v t) seen may);
            ends =
                ap went (sym (one_joined t k p.events))
                ∙ ap (λ (y : Reply). Made q (Step t) true y) said
                ∙ ap (λ (b : Bool). Made q (Step t) b (reply_in q (Step t))) (sym fits);
          };
    }

-- one that only steps
pub walks_step : (until : Until) (t k : ℕ) (r n o : Runner) (reply : Reply) → reply ≡ Stepped
    → WalksOn until t r (stepped k) n → MaySteps until n.machine.set n.machine.world t
    → RunsOn n (Step t) o reply → wakes until o.machine.set o.machine.world t ≡ false
    → WalksOn until t r (stepped (k + 1)) o
walks_step until t k r n o reply is w may on still =
    let e : WalksOn until t r (ended k Stepped) o =
    subst (λ (y : Reply). WalksOn until t r (ended k y) o) is
    (walks_end until t k r n o reply w may on) in
    let next : suc k ≡ k + 1 = omega arith in
    record {
      set = e.set;
      runs = e.runs;
      replies = λ threads events h.
          e.replies threads events h
          ∙ ap (λ (rs : List Reply). replies r.machine.set threads events ++ rs)
          (replicate_more k Stepped);
      goes = λ p same h room.
          let ends : Ends until t p k Done (with_steps p t (k + 1)) = e.goes p same h room in
          let over : o.machine.set ≡ p.set = e.set ∙ sym same in
          let shown : Runs o p.threads (with_steps p t (k + 1)).events =
          e.runs p.threads p.events h in
          let seen : o.machine.world ≡ world_of (with_steps p t (k + 1)) =
          shown.shows.world
          ∙ ap (λ (s : Set). (run s p.threads (with_steps p t (k + 1)).events).world) over in
          subst (λ (i : ℕ). GoesAhead until t p i (with_steps p t (k + 1))) next
          (moves k ends.before (with_steps p t (k + 1)) ends.ahead ends.may ends.ends
          (subst (λ (s : Set). wakes until s (world_of (with_steps p t (k + 1))) t ≡ false) over
          (subst (λ (v : World). wakes until o.machine.set v t ≡ false) seen still)));
    }

-- a reply that tells that the thread stepped
pub stepped_by : (reply : Reply) → is_stepped reply ≡ true → reply ≡ Stepped
stepped_by Stepped is = refl
stepped_by (Started packet) is = absurd (false≢true is)
stepped_by Finished is = absurd (false≢true is)
stepped_by (Topped packet status info) is = absurd (false≢true is)
stepped_by Waited is = absurd (false≢true is)
stepped_by Idle is = absurd (false≢true is)
stepped_by Refused is = absurd (false≢true is)
stepped_by (Bug bug) is = absurd (false≢true is)
stepped_by (Wrong place) is = absurd (false≢true is)
