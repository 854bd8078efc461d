use Rattle.std.proofs.Common.{◌∙◌, ap}
use Rattle.tell_uses.specs.Uses.{disagreeing_from}
use Rattle.tell_uses.proofs.Disagreeing.{all_told, none_told}
use Rattle.tell_uses.proofs.ledger.Ledger.disagreeing.Goals as goal

pub returns-clause-told : goal.returns-clause-told
returns-clause-told c =
    rw (← c.self.view_is)
    (all_told _ c.in_ok-found.found.items
    (c.in_ok-found.ensures ∙ ap (λ notes. disagreeing_from 0 notes) c.notes.ensures))

pub returns-clause-accepted : goal.returns-clause-accepted
returns-clause-accepted c =
    rw (← c.self.view_is)
    (none_told c.pending_returns_agree.ensures _ c.in_ok-found.found.items
    (c.in_ok-found.ensures ∙ ap (λ notes. disagreeing_from 0 notes) c.notes.ensures))
