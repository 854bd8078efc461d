use Rattle.std.proofs.Common.{rules, ◌≡◌, ◌≢◌, ◌<◌, ◌≤◌, ◌+◌, ◌-◌, ℕ, suc, List, [], ◌∷◌, arith, drop, length, slice_index_or, subst, sym}
use Rattle.scenario_world.specs.declared.goers.Awaited.{Awaited}
use Rattle.scenario_world.specs.declared.goers.Goers.{Goers}
use Rattle.scenario_run.specs.declared.playing.Outcome.{Outcome}
use Rattle.scenario_run.specs.declared.playing.Outcome.TheVariants.{Done, Fails}
use Rattle.scenario_run.specs.declared.turns.Turn.{Turn}
use Rattle.scenario_run.specs.declared.turns.Turn.TheVariants.{Skipped, Failed, Made, Freed}
use Rattle.scenario_run.specs.Playing.{Playing}
use Rattle.scenario_run.specs.Turns.{IsTurn, round}
use Rattle.scenario_run.proofs.Rounds.{Rounding, at_end, at_turn, ends_done, fails, few_threads, frees, makes, round_changed, round_over, round_same, rounding_none, skips}
use Rattle.scenario_run.proofs.turns.make_round.Goals as goal
use Rattle.scenario_run.proofs.turns.make_round.Goals.{in-Skipped, in-Made}

pub loop-thread-init : goal.loop-thread-init
loop-thread-init c = rounding_none c.args.goers.now c.args.playing.now c.requires

pub returns-in-Failed : goal.returns-in-Failed
returns-in-Failed c =
    let goers : Goers = c.args.goers.now in
    let p : Playing = c.args.playing.now in
    let q : Playing = c.loop-thread.playing in
    let o : Playing = c.make_turn.new.playing in
    let i : ℕ = c.loop-thread.thread-index in
    let made : ℕ = c.loop-thread.made in
    let slice : List ℕ = c.as_slice-thread-items.result.now in
    let t : ℕ = slice_index_or slice i 0 in
    let others : List ℕ = drop (suc i) goers.threads.items in
    let so_far : Rounding goers p i (t ∷ others) q made =
    at_turn goers p i q made slice c.as_slice-thread-items.ensures.value c.loop-thread-test.true
    c.loop-thread.invariant in
    let is : IsTurn goers.awaited.items t q o Failed =
    subst (λ (r : Turn). IsTurn goers.awaited.items t q o r) c.in-Failed.is
    (subst (λ (l : List Awaited). IsTurn l t q o c.in_ok-make_turn.field-0)
    c.as_slice.ensures.value c.in_ok-make_turn.ensures) in
    fails goers p i t others q made so_far o is.0 is.1

pub overflow_add-thread : goal.overflow_add-thread
overflow_add-thread c =
    let goers : Goers = c.args.goers.now in
    let p : Playing = c.args.playing.now in
    let q : Playing = c.loop-thread.playing in
    let i : ℕ = c.loop-thread.thread-index in
    let made : ℕ = c.loop-thread.made in
    let slice : List ℕ = c.as_slice-thread-items.result.now in
    let t : ℕ = slice_index_or slice i 0 in
    let others : List ℕ = drop (suc i) goers.threads.items in
    let so_far : Rounding goers p i (t ∷ others) q made =
    at_turn goers p i q made slice c.as_slice-thread-items.ensures.value c.loop-thread-test.true
    c.loop-thread.invariant in
    let few : t + 1 < 256 = few_threads goers p i t others q made so_far in
    search rules

pub returns-in-Fails : goal.returns-in-Fails
returns-in-Fails c =
    let goers : Goers = c.args.goers.now in
    let p : Playing = c.args.playing.now in
    let q : Playing = c.loop-thread.playing in
    let o : Playing = c.make_turn.new.playing in
    let i : ℕ = c.loop-thread.thread-index in
    let made : ℕ = c.loop-thread.made in
    let slice : List ℕ = c.as_slice-thread-items.result.now in
    let t : ℕ = slice_index_or slice i 0 in
    let others : List ℕ = drop (suc i) goers.threads.items in
    let so_far : Rounding goers p i (t ∷ others) q made =
    at_turn goers p i q made slice c.as_slice-thread-items.ensures.value c.loop-thread-test.true
    c.loop-thread.invariant in
    let is : IsTurn goers.awaited.items t q o Freed =
    subst (λ (r : Turn). IsTurn goers.awaited.items t q o r) c.in-Freed.is
    (subst (λ (l : List Awaited). IsTurn l t q o c.in_ok-make_turn.field-0)
    c.as_slice.ensures.value c.in_ok-make_turn.ensures) in
    let end : Playing = c.turns_from.new.playing in
    let went : record { now = end; outcome = Fails } ≡ round (o.threads - (t + 1)) (t + 1) o =
    subst (λ (x : Outcome). record { now = end; outcome = x } ≡ round (o.threads - (t + 1)) (t + 1) o)
    c.in-Fails.is c.in_ok-turns_from-in-Freed.ensures in
    frees goers p i t others q made so_far o end Fails is.0 is.1 went

pub returns-in-Done : goal.returns-in-Done
returns-in-Done c =
    let goers : Goers = c.args.goers.now in
    let p : Playing = c.args.playing.now in
    let q : Playing = c.loop-thread.playing in
    let o : Playing = c.make_turn.new.playing in
    let i : ℕ = c.loop-thread.thread-index in
    let made : ℕ = c.loop-thread.made in
    let slice : List ℕ = c.as_slice-thread-items.result.now in
    let t : ℕ = slice_index_or slice i 0 in
    let others : List ℕ = drop (suc i) goers.threads.items in
    let so_far : Rounding goers p i (t ∷ others) q made =
    at_turn goers p i q made slice c.as_slice-thread-items.ensures.value c.loop-thread-test.true
    c.loop-thread.invariant in
    let is : IsTurn goers.awaited.items t q o Freed =
    subst (λ (r : Turn). IsTurn goers.awaited.items t q o r) c.in-Freed.is
    (subst (λ (l : List Awaited). IsTurn l t q o c.in_ok-make_turn.field-0)
    c.as_slice.ensures.value c.in_ok-make_turn.ensures) in
    let end : Playing = c.turns_from.new.playing in
    let last : Outcome = c.in_ok-turns_from-in-Freed.field-0 in
    let went : record { now = end; outcome = last } ≡ round (o.threads - (t + 1)) (t + 1) o =
    c.in_ok-turns_from-in-Freed.ensures in
    frees goers p i t others q made so_far o end Done is.0 is.1
    (ends_done (o.threads - (t + 1)) (t + 1) o end last went c.in-Done.is)

pub loop-thread-preserved : goal.loop-thread-preserved
loop-thread-preserved c =
    let goers : Goers = c.args.goers.now in
    let p : Playing = c.args.playing.now in
    let q : Playing = c.loop-thread.playing in
    let o : Playing = c.make_turn.new.playing in
    let i : ℕ = c.loop-thread.thread-index in
    let made : ℕ = c.loop-thread.made in
    let slice : List ℕ = c.as_slice-thread-items.result.now in
    let t : ℕ = slice_index_or slice i 0 in
    let others : List ℕ = drop (suc i) goers.threads.items in
    let so_far : Rounding goers p i (t ∷ others) q made =
    at_turn goers p i q made slice c.as_slice-thread-items.ensures.value c.loop-thread-test.true
    c.loop-thread.invariant in
    let now : ℕ = c.match-branch-2.made in
    let next : suc i ≡ i + 1 = omega arith in
    let end : Rounding goers p (suc i) others o now =
    elim c.match-branch-2.branch [
      | in-Skipped w ↦
          let is : IsTurn goers.awaited.items t q o Skipped =
          subst (λ (r : Turn). IsTurn goers.awaited.items t q o r) w.in-Skipped.is
          (subst (λ (l : List Awaited). IsTurn l t q o c.in_ok-make_turn.field-0)
          c.as_slice.ensures.value c.in_ok-make_turn.ensures) in
          subst (λ (n : ℕ). Rounding goers p (suc i) others o n) (sym w.made-is)
          (skips goers p i t others q made so_far o is.0 is.1)
      | in-Made w ↦
          let is : IsTurn goers.awaited.items t q o Made =
          subst (λ (r : Turn). IsTurn goers.awaited.items t q o r) w.in-Made.is
          (subst (λ (l : List Awaited). IsTurn l t q o c.in_ok-make_turn.field-0)
          c.as_slice.ensures.value c.in_ok-make_turn.ensures) in
          subst (λ (n : ℕ). Rounding goers p (suc i) others o n) (sym w.made-is)
          (makes goers p i t others q made so_far o is.0 is.1 is.2)
    ] in
    subst (λ (k : ℕ). Rounding goers p k (drop k goers.threads.items) o now) next end

pub returns-in-0 : goal.returns-in-0
returns-in-0 c =
    let goers : Goers = c.args.goers.now in
    let p : Playing = c.args.playing.now in
    let q : Playing = c.loop-thread.playing in
    let i : ℕ = c.loop-thread.thread-index in
    let made : ℕ = c.loop-thread.made in
    let slice : List ℕ = c.as_slice-thread-items.result.now in
    let over : length slice ≤ i = search rules in
    let so_far : Rounding goers p i [] q made =
    at_end goers p i q made slice c.as_slice-thread-items.ensures.value over
    c.loop-thread.invariant in
    round_over goers p i q made so_far c.in-0.is

pub returns-in-1 : goal.returns-in-1
returns-in-1 c =
    let goers : Goers = c.args.goers.now in
    let p : Playing = c.args.playing.now in
    let q : Playing = c.loop-thread.playing in
    let i : ℕ = c.loop-thread.thread-index in
    let made : ℕ = c.loop-thread.made in
    let slice : List ℕ = c.as_slice-thread-items.result.now in
    let over : length slice ≤ i = search rules in
    let so_far : Rounding goers p i [] q made =
    at_end goers p i q made slice c.as_slice-thread-items.ensures.value over
    c.loop-thread.invariant in
    let one : made ≡ 1 = c.in-1.is in
    round_changed goers p i q made so_far (omega (arith, one))

pub returns-in_default : goal.returns-in_default
returns-in_default c =
    let goers : Goers = c.args.goers.now in
    let p : Playing = c.args.playing.now in
    let q : Playing = c.loop-thread.playing in
    let i : ℕ = c.loop-thread.thread-index in
    let made : ℕ = c.loop-thread.made in
    let slice : List ℕ = c.as_slice-thread-items.result.now in
    let over : length slice ≤ i = search rules in
    let so_far : Rounding goers p i [] q made =
    at_end goers p i q made slice c.as_slice-thread-items.ensures.value over
    c.loop-thread.invariant in
    let some : made ≢ 0 = search rules in
    round_same goers p i q made so_far (omega (arith, some))
