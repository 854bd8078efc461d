use Rattle.std.proofs.Common.{◌∙◌, ap, string_bytes, sym}
use Rattle.drvhost_many.proofs.Ending.{tells_lost}
use Rattle.drvhost_many.proofs.many.lose.Goals as goal

pub returns-clause-told : goal.returns-clause-told
returns-clause-told g c =
    tells_lost c.args.window.now.sets.judging c.args.window.now.names.now c.index-window-0.result
    c.of-one.result.name.now _ c.requires.some c.index-window-0.is
    (c.of-one.ensures.name ∙ c.as_str.ensures.value ∙ ap string_bytes (sym c.index-window-0.is))
    (rw c.of-one.ensures.judging at c.tell_no_memory.ensures)
