-- What follows where an instruction breaks no rule: each of its conditions holds.
use Rattle.laws_runs.proofs.Prelude.{cond, refl, Bool, None, Option, Some, false, nat_le, true, ◌≡◌, broken_if, least_of, unless, Rule}
use Rattle.model.specs.LocalRule.{rule_number}

-- one of two broken rules is broken
either_rule : (b : Bool) (one other : Rule) → cond {A = Option Rule} b (Some one) (Some other)
    ≡ None → ⊥
either_rule true one other h = cc
either_rule false one other h = cc

pub first_none : (one other : Option Rule) → least_of one other ≡ None → one ≡ None
first_none None other h = refl
first_none (Some rule) None h = cc
first_none (Some rule) (Some later) h =
    absurd (either_rule (nat_le (rule_number rule) (rule_number later)) rule later h)

pub second_none : (one other : Option Rule) → least_of one other ≡ None → other ≡ None
second_none None other h = h
second_none (Some rule) None h = refl
second_none (Some rule) (Some later) h =
    absurd (either_rule (nat_le (rule_number rule) (rule_number later)) rule later h)

pub unbroken : (b : Bool) (rule : Rule) → broken_if b rule ≡ None → b ≡ false
unbroken false rule h = refl
unbroken true rule h = cc

pub granted : (b : Bool) (rule : Rule) → unless b rule ≡ None → b ≡ true
granted true rule h = refl
granted false rule h = cc
