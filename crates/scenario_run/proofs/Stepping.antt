-- Steps of a thread, one after another.
use Rattle.std.proofs.Common.{◌≡◌, ◌∙◌, ◌<◌, ◌≤◌, ◌-◌, ℕ, zero, suc, true, false, Bool, sym, subst, ap, arith, if◌then◌else◌}
use Rattle.model.specs.declared.event.Event.TheVariants as event
use Rattle.model.specs.View.{busy_at}
use Rattle.scenario_run.specs.declared.playing.Outcome.{Outcome}
use Rattle.scenario_run.specs.declared.playing.Outcome.TheVariants.{Done, Waits, Fails}
use Rattle.scenario_run.specs.Going.{Ends}
use Rattle.scenario_run.specs.Playing.{Playing, Went, if_done, if_going, one, running, running_to, stays, stepping, unless_failed, world_of}
use Rattle.scenario_world.specs.declared.until.Until.{Until}
use Rattle.scenario_world.specs.Until.{is_before}
use Rattle.scenario_run.proofs.Going.{runs_ahead, steps_ahead, to_ahead}

-- where a step went so, and so many are left
abbrev Gone : ℕ → Playing → Playing → Outcome → Type 0
Gone t p q outcome = record { now = q; outcome = outcome } ≡ one p (event.Step t)

pub steps_failed : (t left : ℕ) (p q : Playing) → 0 < left → Gone t p q Fails
    → record { now = q; outcome = Fails } ≡ stepping t left p
steps_failed t zero p q some h = absurd (omega (arith, some))
steps_failed t (suc left) p q some h =
    ap (λ (w : Went). unless_failed w.outcome w (stepping t left w.now)) h

pub steps_done : (t left : ℕ) (p q : Playing) → 0 < left → Gone t p q Done
    → stepping t (left - 1) q ≡ stepping t left p
steps_done t zero p q some h = absurd (omega (arith, some))
steps_done t (suc left) p q some h =
    let less : left ≡ suc left - 1 = omega arith in
    subst (λ (k : ℕ). stepping t k q ≡ stepping t (suc left) p) less
    (ap (λ (w : Went). unless_failed w.outcome w (stepping t left w.now)) h)

pub steps_waited : (t left : ℕ) (p q : Playing) → 0 < left → Gone t p q Waits
    → stepping t (left - 1) q ≡ stepping t left p
steps_waited t zero p q some h = absurd (omega (arith, some))
steps_waited t (suc left) p q some h =
    let less : left ≡ suc left - 1 = omega arith in
    subst (λ (k : ℕ). stepping t k q ≡ stepping t (suc left) p) less
    (ap (λ (w : Went). unless_failed w.outcome w (stepping t left w.now)) h)

-- the same of a run
abbrev Next : ℕ → ℕ → Bool → Playing → Went
Next t left busy p =
    if busy then (let first = one p (event.Step t) in
    if_done first.outcome first (running t left first.now)) else stays p Done

pub run_idle : (t left : ℕ) (p : Playing) → 0 < left → busy_at (world_of p) t ≡ false
    → stays p Done ≡ running t left p
run_idle t zero p some idle = absurd (omega (arith, some))
run_idle t (suc left) p some idle = ap (λ b. Next t left b p) (sym idle)

pub run_done : (t left : ℕ) (p q : Playing) → 0 < left → busy_at (world_of p) t ≡ true
    → Gone t p q Done → running t (left - 1) q ≡ running t left p
run_done t zero p q some busy h = absurd (omega (arith, some))
run_done t (suc left) p q some busy h =
    let less : left ≡ suc left - 1 = omega arith in
    subst (λ (k : ℕ). running t k q ≡ running t (suc left) p) less
    (ap (λ (w : Went). if_done w.outcome w (running t left w.now)) h
    ∙ ap (λ b. Next t left b p) (sym busy))

-- a step that goes otherwise ends it
pub run_waited : (t left : ℕ) (p q : Playing) → 0 < left → busy_at (world_of p) t ≡ true
    → Gone t p q Waits → record { now = q; outcome = Waits } ≡ running t left p
run_waited t zero p q some busy h = absurd (omega (arith, some))
run_waited t (suc left) p q some busy h =
    ap (λ (w : Went). if_done w.outcome w (running t left w.now)) h
    ∙ ap (λ b. Next t left b p) (sym busy)

pub run_failed : (t left : ℕ) (p q : Playing) → 0 < left → busy_at (world_of p) t ≡ true
    → Gone t p q Fails → record { now = q; outcome = Fails } ≡ running t left p
run_failed t zero p q some busy h = absurd (omega (arith, some))
run_failed t (suc left) p q some busy h =
    ap (λ (w : Went). if_done w.outcome w (running t left w.now)) h
    ∙ ap (λ b. Next t left b p) (sym busy)

-- and of steps up to where they are to end
abbrev Ahead : ℕ → Until → ℕ → Bool → Playing → Went
Ahead t until left there p =
    if there then stays p Done else (let first = one p (event.Step t) in
    if_going first.outcome first.now (running_to t until left first.now))

abbrev IsBefore : Until → Playing → ℕ → Bool
IsBefore until p t = is_before until p.set (world_of p) t

pub to_there : (t : ℕ) (until : Until) (left : ℕ) (p : Playing) → 0 < left
    → IsBefore until p t ≡ true → stays p Done ≡ running_to t until left p
to_there t until zero p some there = absurd (omega (arith, some))
to_there t until (suc left) p some there = ap (λ b. Ahead t until left b p) (sym there)

pub to_done : (t : ℕ) (until : Until) (left : ℕ) (p q : Playing) → 0 < left
    → IsBefore until p t ≡ false → Gone t p q Done
    → running_to t until (left - 1) q ≡ running_to t until left p
to_done t until zero p q some there h = absurd (omega (arith, some))
to_done t until (suc left) p q some there h =
    let less : left ≡ suc left - 1 = omega arith in
    subst (λ (k : ℕ). running_to t until k q ≡ running_to t until (suc left) p) less
    (ap (λ (w : Went). if_going w.outcome w.now (running_to t until left w.now)) h
    ∙ ap (λ b. Ahead t until left b p) (sym there))

pub to_waited : (t : ℕ) (until : Until) (left : ℕ) (p q : Playing) → 0 < left
    → IsBefore until p t ≡ false → Gone t p q Waits → stays q Fails ≡ running_to t until left p
to_waited t until zero p q some there h = absurd (omega (arith, some))
to_waited t until (suc left) p q some there h =
    ap (λ (w : Went). if_going w.outcome w.now (running_to t until left w.now)) h
    ∙ ap (λ b. Ahead t until left b p) (sym there)

pub to_failed : (t : ℕ) (until : Until) (left : ℕ) (p q : Playing) → 0 < left
    → IsBefore until p t ≡ false → Gone t p q Fails → stays q Fails ≡ running_to t until left p
to_failed t until zero p q some there h = absurd (omega (arith, some))
to_failed t until (suc left) p q some there h =
    ap (λ (w : Went). if_going w.outcome w.now (running_to t until left w.now)) h
    ∙ ap (λ b. Ahead t until left b p) (sym there)

-- where steps were made, of which the one behind went so
module _ (until : Until) (t left rest : ℕ) (p q : Playing) (some : 0 < rest) (less : rest ≤ left)
  where
    pub steps_end_failed : Ends until t p (left - rest) Fails q
        → record { now = q; outcome = Fails } ≡ stepping t left p
    steps_end_failed e =
        steps_failed t rest e.before q some e.ends
        ∙ steps_ahead until t left rest p e.before less e.ahead

    pub steps_end_done : Ends until t p (left - rest) Done q → stepping t (rest - 1) q ≡ stepping t left p
    steps_end_done e =
        steps_done t rest e.before q some e.ends
        ∙ steps_ahead until t left rest p e.before less e.ahead

    pub steps_end_waited : Ends until t p (left - rest) Waits q
        → stepping t (rest - 1) q ≡ stepping t left p
    steps_end_waited e =
        steps_waited t rest e.before q some e.ends
        ∙ steps_ahead until t left rest p e.before less e.ahead

    pub run_end_failed : Ends until t p (left - rest) Fails q
        → record { now = q; outcome = Fails } ≡ running t left p
    run_end_failed e =
        run_failed t rest e.before q some e.may.busy e.ends
        ∙ runs_ahead until t left rest p e.before less e.ahead

    pub run_end_done : Ends until t p (left - rest) Done q → running t (rest - 1) q ≡ running t left p
    run_end_done e =
        run_done t rest e.before q some e.may.busy e.ends
        ∙ runs_ahead until t left rest p e.before less e.ahead

    pub run_end_waited : Ends until t p (left - rest) Waits q
        → record { now = q; outcome = Waits } ≡ running t left p
    run_end_waited e =
        run_waited t rest e.before q some e.may.busy e.ends
        ∙ runs_ahead until t left rest p e.before less e.ahead

    pub to_end_failed : Ends until t p (left - rest) Fails q
        → stays q Fails ≡ running_to t until left p
    to_end_failed e =
        to_failed t until rest e.before q some e.may.short e.ends
        ∙ to_ahead until t left rest p e.before less e.ahead

    pub to_end_done : Ends until t p (left - rest) Done q
        → running_to t until (rest - 1) q ≡ running_to t until left p
    to_end_done e =
        to_done t until rest e.before q some e.may.short e.ends
        ∙ to_ahead until t left rest p e.before less e.ahead

    pub to_end_waited : Ends until t p (left - rest) Waits q
        → stays q Fails ≡ running_to t until left p
    to_end_waited e =
        to_waited t until rest e.before q some e.may.short e.ends
        ∙ to_ahead until t left rest p e.before less e.ahead
