use Rattle.verifier.proofs.Tables.{opened}
use Rattle.verifier.proofs.table.Table.open.Goals as goal

pub returns : goal.returns
returns c =
    opened c.resize-2.new.self.items c.clear.new.self.items c.if-len-positions.self-inside.kept.items
    c.args.positions _ c.clear.ensures.items c.clear.ensures.len (c.in_ok-resize-2.ensures {u = tt}).items
