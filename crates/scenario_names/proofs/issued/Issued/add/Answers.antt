use Rattle.std.proofs.Common.{◌≡◌, ◌++◌, ◌∷◌, [], ◌∙◌, List, length, ap, rules, subst, sym, ℕ}
use Rattle.std.specs.Map.{lookup}
use Rattle.std.specs.Prelude.{bytes_eq}
use Rattle.scenario_names.specs.Issued.{IsIndex}
use Rattle.scenario_names.proofs.Issuing.{index_more}
use Rattle.scenario_names.proofs.issued.Issued.add.Goals as goal

pub invariant_of-self-2 : goal.invariant_of-self-2
invariant_of-self-2 c =
    let names = c.self.inside.names.items in
    let place : c.len-place.result ≡ length names = search rules in
    let kept : IsIndex c.reserve.new.self names = λ name. rw (c.in_ok-reserve.ensures.entries) (c.self.invariant name) in
    rw (c.in_ok-push.ensures.items, c.again.ensures)
    (index_more c.reserve.new.self c.insert.new.self names c.args.name kept
    (rw (← place) c.in_ok-_before.ensures.updates))
