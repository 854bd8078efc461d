-- What the replies of a run told, with more of them.
use Rattle.std.proofs.Common.{◌≡◌, ◌∙◌, ◌≤◌, ◌++◌, ◌||◌, ℕ, zero, suc, Bool, true, false, List, [], ◌∷◌, nat_eq, Option, Some, None, append_assoc, ap, arith, refl, replicate, subst, sym}
use Rattle.std.proofs.lemmas.List.{append-nil}
use Rattle.std.proofs.lemmas.List.Folds.{list_any-append}
use Rattle.std.specs.List.{list_any}
use Rattle.laws_runs.proofs.Lists.{last_of as last_found}
use Rattle.model.specs.declared.event.Reply.{Reply}
use Rattle.model.specs.declared.event.Reply.TheVariants.{Started, Stepped, Finished, Topped, Waited, Idle, Refused, Bug, Wrong}
use Rattle.scenario_run.specs.declared.told.Told.{Told}
use Rattle.scenario_run.specs.Holding.{is_bug}
use Rattle.scenario_run.specs.Told.{Adds, AddsBug, AreTold, bug_told}
use Rattle.scenario_run.specs.Tops.{AddsTop}
use Rattle.scenario_run.proofs.Topping.{tops_silent}

or_false : (b : Bool) → b || false ≡ b
or_false true = refl
or_false false = refl

-- whether a reply tells of a bug check, by what it tells
abbrev is_number : Option ℕ → ℕ → Bool
is_number None n = false
is_number (Some number) n = nat_eq number n

bug_by : (reply : Reply) (n : ℕ) → is_bug n reply ≡ is_number (bug_told reply) n
bug_by (Bug bug) n = refl
bug_by (Started packet) n = refl
bug_by Stepped n = refl
bug_by Finished n = refl
bug_by (Topped packet status info) n = refl
bug_by Waited n = refl
bug_by Idle n = refl
bug_by Refused n = refl
bug_by (Wrong place) n = refl

bugs_more : (told : List Reply) (reply : Reply) (o : Option ℕ) (n : ℕ) → bug_told reply ≡ o
    → list_any (is_bug n) (told ++ reply ∷ []) ≡ list_any (is_bug n) told || is_number o n
bugs_more told reply o n is =
    list_any-append (is_bug n) told (reply ∷ [])
    ∙ ap (λ (b : Bool). list_any (is_bug n) told || b)
    (or_false (is_bug n reply) ∙ bug_by reply n
    ∙ ap (λ (x : Option ℕ). is_number x n) is)

-- a reply that tells of none, and one that does
pub bugs_silent : (bugs : List ℕ) (reply : Reply) → bug_told reply ≡ None → AddsBug bugs reply bugs
bugs_silent bugs reply silent told are n =
    are n ∙ sym (bugs_more told reply None n silent ∙ or_false (list_any (is_bug n) told))

pub bugs_new : (bugs : List ℕ) (reply : Reply) (number : ℕ) → bug_told reply ≡ Some number
    → AddsBug bugs reply (bugs ++ number ∷ [])
bugs_new bugs reply number tells told are n =
    list_any-append (λ (b : ℕ). nat_eq b n) bugs (number ∷ [])
    ∙ ap (λ (b : Bool). list_any (λ (b : ℕ). nat_eq b n) bugs || b) (or_false (nat_eq number n))
    ∙ ap (λ (b : Bool). b || nat_eq number n) (are n)
    ∙ sym (bugs_more told reply (Some number) n tells)

-- all of it
pub told_more : (before after : Told) (reply : Reply) → after.last ≡ Some reply
    → AddsBug before.bugs.items reply after.bugs.items
    → AddsTop before.tops reply after.tops → Adds before (reply ∷ []) after
told_more before after reply last bugs tops told are =
    record {
      last = last ∙ sym (last_found told reply);
      bugs = bugs told are.bugs;
      tops = tops told are.tops;
    }

-- steps tell nothing but that they were the last
step_told : (before after : Told) → after.last ≡ Some Stepped
    → after.bugs.items ≡ before.bugs.items → after.tops ≡ before.tops
    → Adds before (Stepped ∷ []) after
step_told before after last bugs tops =
    told_more before after Stepped last
    (subst (λ (bs : List ℕ). AddsBug before.bugs.items Stepped bs) (sym bugs)
    (bugs_silent before.bugs.items Stepped refl))
    (subst (λ ts. AddsTop before.tops Stepped ts) (sym tops) (tops_silent before.tops Stepped refl))

steps_further : (t : Told) → t.last ≡ Some Stepped → (k : ℕ) → Adds t (replicate k Stepped) t
steps_further t last zero told are =
    subst (λ (rs : List Reply). AreTold t rs) (sym (append-nil told)) are
steps_further t last (suc k) told are =
    subst (λ (rs : List Reply). AreTold t rs)
    (append_assoc told (Stepped ∷ []) (replicate k Stepped))
    (steps_further t last k (told ++ Stepped ∷ []) (step_told t t last refl refl told are))

pub steps_told : (before after : Told) (count : ℕ) → 1 ≤ count → after.last ≡ Some Stepped
    → after.bugs.items ≡ before.bugs.items → after.tops ≡ before.tops
    → Adds before (replicate count Stepped) after
steps_told before after zero some last bugs tops told are = absurd (omega (arith, some))
steps_told before after (suc k) some last bugs tops told are =
    subst (λ (rs : List Reply). AreTold after rs)
    (append_assoc told (Stepped ∷ []) (replicate k Stepped))
    (steps_further after last k (told ++ Stepped ∷ [])
    (step_told before after last bugs tops told are))

-- none is told by what was told, and more are told by it behind others
pub steps_none : (t : Told) → Adds t [] t
steps_none t told are = subst (λ (rs : List Reply). AreTold t rs) (sym (append-nil told)) are

pub told_behind : (before mid after : Told) (steps more : List Reply) → Adds before steps mid
    → Adds mid more after → Adds before (steps ++ more) after
told_behind before mid after steps more first later told are =
    subst (λ (rs : List Reply). AreTold after rs) (append_assoc told steps more)
    (later (told ++ steps) (first told are))
