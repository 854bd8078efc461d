use Rattle.std.proofs.Common.{◌∙◌, sym}
use Rattle.tell_holders.proofs.Arrived.{default_first, default_second}
use Rattle.tell_holders.proofs.arriving.default_state.Goals as goal

pub returns-in-0 : goal.returns-in-0
returns-in-0 c =
    default_first c.args.set.now c.args.driver c.args.position c.in_ok-entry.entry
    (sym c.entry_state.ensures ∙ c.in_ok-entry.was {u = tt}) c.in-0.is

pub returns-in-Ok : goal.returns-in-Ok
returns-in-Ok c =
    default_second c.args.set.now c.args.driver c.args.position c.in_ok-entry.entry c.in-Ok.outs
    (sym c.entry_state.ensures ∙ c.in_ok-entry.was {u = tt})
    (sym c.transfer.ensures ∙ c.in-Ok.is) c.in-1.is
