use Rattle.std.proofs.Common.{◌≡◌, ◌∙◌, ◌+◌, ◌-◌, ◌<◌, ◌≤◌, ℕ, ◌++◌, IfSome, List, Option, None, Some, ap, arith, length, option_map, refl, replicate, rules, subst, sym}
use Rattle.model.specs.declared.event.Event.{Event}
use Rattle.model.specs.declared.event.Event.TheVariants.{Step}
use Rattle.model.specs.declared.event.Reply.{Reply}
use Rattle.model.specs.Set.{Set}
use Rattle.scenario_run.specs.declared.playing.Outcome.{Outcome}
use Rattle.scenario_run.specs.Going.{GoesAhead, Gone, rests, with_steps}
use Rattle.scenario_run.specs.Past.{IsPast, events_of}
use Rattle.scenario_run.specs.Playing.{Playing, outcome_of}
use Rattle.scenario_run.specs.Told.{Adds}
use Rattle.scenario_run.specs.Walking.{counted, replied, steps_in}
use Rattle.scenario_run.proofs.Pasts.{past_walked}
use Rattle.scenario_run.proofs.playing.Playing.go_ahead.Goals as goal

-- where one step more was made, one was left
one_left : (made most : ℕ) (last : Option Reply) → counted made last ≤ most
    → IfSome (option_map outcome_of last) (λ _. 0 < most - made)
one_left made most None few = tt
one_left made most (Some reply) few = omega (arith, few)

not_more : (made most : ℕ) (last : Option Reply) → counted made last ≤ most → made ≤ most
not_more made most None few = few
not_more made most (Some reply) few = omega (arith, few)

-- so many as were counted
counted_so : (es fs : List Event) (e : Event) (n m : ℕ) → n ≡ m → es ≡ fs ++ replicate n e
    → es ≡ fs ++ replicate m e
counted_so es fs e n m same is = is ∙ ap (λ (k : ℕ). fs ++ replicate k e) same

pub returns-then-room-eq0 : goal.returns-then-room-eq0
returns-then-room-eq0 c =
    let zero : 0 ≡ c.args.most - c.args.most = omega arith in (
      omega arith,
      tt,
      subst (λ (k : ℕ). GoesAhead c.args.until c.args.thread c.args.self.now k c.args.self.now) zero rests,
    )

pub invariant_of-self-2 : goal.invariant_of-self-2
invariant_of-self-2 c =
    let was = c.self.inside in
    let w = c.walk-walked.result in
    let n : ℕ = c.count-count.result in
    let adds : Adds was.told (replied w.made w.last) c.note_walk.new.self =
    λ told are. c.note_walk.ensures told (c.make_room.ensures.same told are) in
    let added : events_of c.add_past.new.past.items
    ≡ events_of was.past.items ++ replicate n (Step c.args.thread) =
    rw (← c.in_ok-reserve.ensures.items) c.add_past.ensures in
    let all = counted_so (events_of c.add_past.new.past.items) (events_of was.past.items)
    (Step c.args.thread) n (steps_in w) c.count-count.ensures added in
    subst (λ (k : ℕ). IsPast c.walk-walked.new.runner was.threads (was.count + k)
    c.add_past.new.past.items c.note_walk.new.self) (sym c.count-count.ensures)
    (past_walked c.args.until was.runner c.walk-walked.new.runner c.args.thread was.threads was.count w
    was.past.items c.add_past.new.past.items was.told c.note_walk.new.self all
    c.walk-walked.ensures.walks adds c.self.invariant)

pub returns : goal.returns
returns c =
    let was = c.self.inside in
    let w = c.walk-walked.result in
    let t = c.args.thread in
    let most = c.args.most in
    let events : List Event = events_of was.past.items in
    let playing : Set → List Event → Playing = λ set events. record {
      set = set;
      threads = was.threads;
      events = events;
      packets = was.packets.items;
    } in
    let p : Playing = playing was.runner.machine.set events in
    let now = c.walk-walked.new.runner.machine.set in
    let q : Playing = playing now (events_of c.add_past.new.past.items) in
    let n : ℕ = c.count-count.result in
    let added : events_of c.add_past.new.past.items ≡ events ++ replicate n (Step t) =
    rw (← c.in_ok-reserve.ensures.items) c.add_past.ensures in
    let all = counted_so (events_of c.add_past.new.past.items) events (Step t) n (steps_in w)
    c.count-count.ensures added in
    let here : q ≡ with_steps p t (steps_in w) =
    ap (λ (s : Set). playing s (events_of c.add_past.new.past.items))
    c.walk-walked.ensures.walks.set
    ∙ ap (λ (es : List Event). playing was.runner.machine.set es) all in
    let few : steps_in w ≤ most = search rules in
    let room : length events + steps_in w ≤ 1000000 = search rules in
    let less : w.made ≤ most = not_more w.made most w.last few in
    let counts : w.made ≡ most - (most - w.made) = omega (arith, less) in
    let how : Option Outcome = option_map outcome_of w.last in
    let now_how : Option Outcome → Type 0 = λ o.
    IfSome o (λ _. 0 < most - w.made) in
    let gone : Gone c.args.until t p w.made how q =
    subst (λ (o : Playing). Gone c.args.until t p w.made how o) (sym here)
    (c.walk-walked.ensures.walks.goes p refl c.self.invariant.runs room) in (
      omega arith,
      subst now_how (sym c.outcome_if.ensures) (one_left w.made most w.last few),
      subst (λ (o : Option Outcome). Gone c.args.until t c.args.self.now (most - (most - w.made)) o q)
          (sym c.outcome_if.ensures)
          (subst (λ (o : Playing). Gone c.args.until t o (most - (most - w.made)) how q) c.self.view_is
          (subst (λ (k : ℕ). Gone c.args.until t p k how q) counts gone)),
    )
