-- What is said of a job that is named.
use Rattle.std.proofs.Common.{◌≡◌, None, Option, Some, rules, subst}
use Rattle.cli.specs.declared.job.Job.{Job}
use Rattle.cli.specs.CommandLine.{IsNamed}

-- of none
pub is_none : (T : Job → Type 0) (named : Option Job) → named ≡ None → IsNamed named T
    → (job : Job) → T job → ⊥
is_none T None is h = h
is_none T (Some a) is h = cc

-- and of one
pub is_some : (T : Job → Type 0) (named : Option Job) (job : Job) → named ≡ Some job
    → IsNamed named T → T job
is_some T None job is h = cc
is_some T (Some b) job is h = let same : b ≡ job = search rules in subst T same h
