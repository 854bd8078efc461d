-- What a step does is over the same set.
use Rattle.std.proofs.Common.{◌≡◌, ◌∙◌, ℕ, zero, suc, Bool, true, false, Option, None, Some, nat_lt, refl, if◌then◌else◌}
use Rattle.model.specs.declared.event.Event.{Event}
use Rattle.model.specs.declared.event.Event.TheVariants as event
use Rattle.model.specs.Set.{Set}
use Rattle.model.specs.View.{busy_at}
use Rattle.scenario_run.specs.Acting.{acted}
use Rattle.scenario_run.specs.declared.playing.Outcome.{Outcome}
use Rattle.scenario_run.specs.declared.playing.Outcome.TheVariants.{Done, Waits, Fails}
use Rattle.scenario_run.specs.Playing.{Playing, Went, cancelled, happened, has_room, if_done, if_going, most_of, number_of, one, running, running_to, stays, stepping, unless_failed, with_event, world_of}
use Rattle.scenario_world.specs.declared.until.Until.{Until}
use Rattle.scenario_world.specs.declared.until.Until.TheVariants.{At, Release}
use Rattle.scenario_world.specs.Until.{is_before}
use Rattle.scenario_run.specs.Turns.{any_goes_on, goes_on, round, rounds, turn}
use Rattle.scenario_steps.specs.declared.scenario.Action.{Action}
use Rattle.scenario_steps.specs.declared.scenario.Action.TheVariants.{Issue, Cancel, Interrupt, Dpc, StartIo, Steps, Run as RunAction, RunTo, RunToRelease, RunAll, Together, Expect}

-- a play that went is over a set
abbrev Over : Set → Went → Type 0
Over s w = w.now.set ≡ s

happened_over : (p : Playing) (e : Event) (b : Bool) → (if b then with_event p e else p).set ≡ p.set
happened_over p e true = refl
happened_over p e false = refl

one_over : (p : Playing) (e : Event) → (happened p e).set ≡ p.set
one_over p e = happened_over p e (has_room p)

if_over : (s : Set) (b : Bool) (w x : Went) → Over s w → Over s x → Over s (if b then w else x)
if_over s true w x first later = first
if_over s false w x first later = later

unless_over : (s : Set) (o : Outcome) (w x : Went) → Over s w → Over s x
    → Over s (unless_failed o w x)
unless_over s Fails w x here later = here
unless_over s Done w x here later = later
unless_over s Waits w x here later = later

done_over : (s : Set) (o : Outcome) (w x : Went) → Over s w → Over s x → Over s (if_done o w x)
done_over s Done w x here later = later
done_over s Waits w x here later = here
done_over s Fails w x here later = here

going_over : (s : Set) (o : Outcome) (p : Playing) (x : Went) → p.set ≡ s → Over s x
    → Over s (if_going o p x)
going_over s Done p x here later = later
going_over s Waits p x here later = here
going_over s Fails p x here later = here

stepping_over : (t count : ℕ) (p : Playing) → Over p.set (stepping t count p)
stepping_over t zero p = refl
stepping_over t (suc count) p =
    let e : Event = event.Step t in
    unless_over p.set (one p e).outcome (one p e) (stepping t count (happened p e)) (one_over p e)
    (stepping_over t count (happened p e) ∙ one_over p e)

running_over : (t count : ℕ) (p : Playing) → Over p.set (running t count p)
running_over t zero p = refl
running_over t (suc count) p =
    let e : Event = event.Step t in
    if_over p.set (busy_at (world_of p) t)
    (if_done (one p e).outcome (one p e) (running t count (happened p e))) (stays p Done)
    (done_over p.set (one p e).outcome (one p e) (running t count (happened p e)) (one_over p e)
    (running_over t count (happened p e) ∙ one_over p e)) refl

running_to_over : (t : ℕ) (until : Until) (count : ℕ) (p : Playing)
    → Over p.set (running_to t until count p)
running_to_over t until zero p = refl
running_to_over t until (suc count) p =
    let e : Event = event.Step t in
    if_over p.set (is_before until p.set (world_of p) t) (stays p Done)
    (if_going (one p e).outcome (happened p e) (running_to t until count (happened p e))) refl
    (going_over p.set (one p e).outcome (happened p e) (running_to t until count (happened p e))
    (one_over p e) (running_to_over t until count (happened p e) ∙ one_over p e))

turn_over : (p : Playing) (t : ℕ) → Over p.set (turn p t)
turn_over p t =
    let e : Event = event.Step t in
    if_over p.set (goes_on p t) (one p e) (stays p Done) (one_over p e) refl

round_over : (count t : ℕ) (p : Playing) → Over p.set (round count t p)
round_over zero t p = refl
round_over (suc count) t p =
    let first : Went = turn p t in
    unless_over p.set first.outcome first (round count (suc t) first.now) (turn_over p t)
    (round_over count (suc t) first.now ∙ turn_over p t)

rounds_over : (count : ℕ) (p : Playing) → Over p.set (rounds count p)
rounds_over zero p = refl
rounds_over (suc count) p =
    let first : Went = round p.threads 0 p in
    let over : Over p.set first = round_over p.threads 0 p in
    if_over p.set (any_goes_on p p.threads)
    (unless_failed first.outcome first (rounds count first.now)) (stays p Done)
    (unless_over p.set first.outcome first (rounds count first.now) over
    (rounds_over count first.now ∙ over)) refl

cancelled_over : (t level : ℕ) (n : Option ℕ) (p : Playing) → Over p.set (cancelled p t level n)
cancelled_over t level None p = refl
cancelled_over t level (Some n) p = one_over p (event.Cancel t n level)

pub acted_over : (action : Action) (p : Playing) → (acted p action).now.set ≡ p.set
acted_over (Issue t d major argument) p = one_over p (event.Issue t d major argument)
acted_over (Cancel t packet level) p = cancelled_over t level (number_of p packet) p
acted_over (Interrupt d) p = one_over p (event.Interrupt d)
acted_over (Dpc t d) p = one_over p (event.Dpc t d)
acted_over (StartIo t d) p = one_over p (event.StartIo t d)
acted_over (Steps t count) p = stepping_over t count p
acted_over (RunAction t) p =
    if_over p.set (nat_lt t p.threads) (running t (most_of p) p) (stays p Fails)
    (running_over t (most_of p) p) refl
acted_over (RunTo t spot) p = running_to_over t (At spot) (most_of p) p
acted_over (RunToRelease t lock) p = running_to_over t (Release lock) (most_of p) p
acted_over RunAll p = rounds_over (most_of p) p
acted_over (Together threads worlds) p = refl
acted_over (Expect e) p = refl
