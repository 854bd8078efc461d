use Rattle.std.proofs.Common.{◌≡◌, length}
use Rattle.std.specs.List.{list_all}
use Rattle.text.specs.Class.{is_token}
use Rattle.text.proofs.token.Tokens.are_of_form.Given as goal

-- all are of a form exactly if those that are left are
abbrev pub invariant-loop-token : goal.invariant-loop-token
invariant-loop-token l = list_all is_token l.left ≡ list_all is_token l.self

abbrev pub decreases-loop-token : goal.decreases-loop-token
decreases-loop-token l = length l.left
