use Rattle.std.proofs.Common.{◌≡◌, List, Option, ℕ, nat_eq, rules, subst, true}
use Rattle.std.specs.List.{starts_with}
use Rattle.tell_audit.specs.declared.ending.Ending.{Ending}
use Rattle.tell_audit.specs.Ends.{EndsSo}
use Rattle.hunt_schedule.proofs.reading.tells_end.Goals as goal

pub returns : goal.returns
returns c =
    λ told.
    let begins : starts_with nat_eq c.args.text.now c.in_ok-line.line.items ≡ true =
    search (rules, told) in
    record {
      ending = c.in-Some.ending;
      ends =
          subst (λ (ending : Option Ending).
          EndsSo c.args.set.now c.args.bounds.threads c.args.before.now c.args.last.now ending)
          c.in-Some.is c.in_ok-ending.ensures;
      wanted = c.is_wanted.ensures (search rules);
      begins =
          subst (λ (line : List ℕ). starts_with nat_eq c.args.text.now line ≡ true)
          c.in_ok-line.ensures begins;
    }
