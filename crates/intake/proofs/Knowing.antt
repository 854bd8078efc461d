-- The pass with all shares knows what the queue contains.
use Rattle.std.proofs.Common.{◌≡◌, ℕ, ◌<◌, sym, ap, ◌∙◌, arith}
use Rattle.crossbeam_queue.specs.Fifo.{Learns}
use Rattle.intake.specs.declared.rule.Hand.{Hand}
use Rattle.intake.specs.Lists.{weigh}
use Rattle.intake.specs.Rule.{Adds, IsFair, all_shares}
use Rattle.intake.proofs.Hands.{IsIdle, whole}

pub adds : (number : ℕ) (v : Hand) → Learns IsFair number v (Adds v)
adds number v items views fair at all h =
    let f : Hand → ℕ = λ u. weigh h u.put in
    let g : Hand → ℕ = λ u. weigh h u.taken in
    let no_put : IsIdle f views =
    λ j u is none. ap (weigh h) ((fair.each j u is).put_nothing none) in
    let no_taken : IsIdle g views =
    λ j u is none. ap (weigh h) ((fair.each j u is).taken_nothing none) in
    let s = whole f views number v at no_put (fair.shares ∙ sym all) in
    let t = whole g views number v at no_taken (fair.shares ∙ sym all) in
    omega (arith, s, t, fair.balanced h)

pub some_of_all : (v : Hand) → v.shares ≡ all_shares → 0 < v.shares
some_of_all v all = omega (arith, all)
