use Rattle.std.proofs.Common.{rules, ◌≡◌, ◌⊎◌, ◌++◌, [], ◌∷◌, ℕ, suc, ◌+◌, ◌<◌, List, arith, subst}
use Rattle.model.specs.Set.{Set}
use Rattle.model.specs.World.{World}
use Rattle.scenario_world.specs.declared.goers.Awaited.{Awaited}
use Rattle.scenario_world.specs.Goers.{HasLock}
use Rattle.scenario_world.proofs.Awaited.{Gathering, gathered_going, gathered_idle, gathered_waiting}
use Rattle.scenario_world.proofs.goers.goers_among.Goals as goal
use Rattle.scenario_world.proofs.goers.goers_among.Goals.{then-is_busy_at+in-None+in_ok-push-in-None, then-is_busy_at+in-Some+in_ok-add_awaited-in-Some, else-is_busy_at}

pub loop-thread-preserved : goal.loop-thread-preserved
loop-thread-preserved c =
    let set : Set = c.args.machine.now.set in
    let world : World = c.args.machine.now.world in
    let n = c.args.threads in
    let t : ℕ = c.loop-thread.thread in
    let less : t < n = search rules in
    let going : List ℕ = c.loop-thread.going.items in
    let awaited : List Awaited = c.loop-thread.awaited.items in
    let now : List ℕ = c.if-is_busy_at.going.items in
    let locks : List Awaited = c.if-is_busy_at.awaited.items in
    let so_far : Gathering set world n t going awaited = c.loop-thread.invariant in
    let next : suc t ≡ t + 1 = omega arith in
    let end : Gathering set world n (suc t) now locks =
    elim c.if-is_busy_at.branch [
      | then-is_busy_at+in-None+in_ok-push-in-None w ↦
          let same : going ++ t ∷ [] ≡ now = search rules in
          let kept : awaited ≡ locks = search rules in
          subst (λ (l : List ℕ). Gathering set world n (suc t) l locks) same
          (subst (λ (l : List Awaited). Gathering set world n (suc t) (going ++ t ∷ []) l) kept
          (gathered_going set world n t less going awaited so_far (search rules) (search rules)))
      | then-is_busy_at+in-Some+in_ok-add_awaited-in-Some w ↦
          let same : going ≡ now = search rules in
          let one : Awaited = w.in-Some.one in
          let new : List Awaited = w.add_awaited.new.awaited.items in
          let kept : new ≡ locks = search rules in
          let added : (HasLock one.lock awaited × (new ≡ awaited)) ⊎ (new ≡ awaited ++ one ∷ []) =
          w.in_ok-add_awaited-in-Some.ensures in
          subst (λ (l : List ℕ). Gathering set world n (suc t) l locks) same
          (subst (λ (l : List Awaited). Gathering set world n (suc t) going l) kept
          (gathered_waiting set world n t less going awaited so_far one (search rules) (search rules)
          new added))
      | else-is_busy_at w ↦
          let same : going ≡ now = search rules in
          let kept : awaited ≡ locks = search rules in
          subst (λ (l : List ℕ). Gathering set world n (suc t) l locks) same
          (subst (λ (l : List Awaited). Gathering set world n (suc t) going l) kept
          (gathered_idle set world n t less going awaited so_far (search rules)))
    ] in
    subst (λ (k : ℕ). Gathering set world n k now locks) next end
