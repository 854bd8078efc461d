use Rattle.std.proofs.Common.{refl, rules}
use Rattle.tell_audit.proofs.ending.standing_at.Goals as goal

pub returns-then-is_rest : goal.returns-then-is_rest
returns-then-is_rest c = (
  c.in_ok-standing.standing,
  record { fine = refl; shows = c.in_ok-standing.ensures },
  search rules,
)
