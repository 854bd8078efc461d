use Rattle.std.proofs.Common.{rules, ◌≡◌, sym}
use Rattle.std.specs.Prelude.{Err}
use Rattle.text.specs.Cut.{lines_of}
use Rattle.asm.specs.Outline.{nothing_read}
use Rattle.asm.specs.Drafting.{draft_reading}
use Rattle.asm.proofs.Declared.Answer.{draft_refused}
use Rattle.asm.proofs.Orderly.Lines.{nothing_orderly}
use Rattle.asm.proofs.draft.Draft.answer.Goals as goal

pub read_all-requires-clause-orderly : goal.read_all-requires-clause-orderly
read_all-requires-clause-orderly c = rw c.requires nothing_orderly

pub returns-in-Err : goal.returns-in-Err
returns-in-Err c =
    let refused : draft_reading nothing_read 1 (lines_of c.args.text.now) ≡ Err c.in-Err.fault =
    search rules in
    sym (draft_refused c.args.text.now c.in-Err.fault refused)
