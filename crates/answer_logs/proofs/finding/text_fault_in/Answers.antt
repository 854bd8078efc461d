use Rattle.std.proofs.Common.{string_bytes}
use Rattle.answer_logs.proofs.Single.{text_told}
use Rattle.answer_logs.proofs.finding.text_fault_in.Goals as goal

pub returns : goal.returns
returns c =
    text_told _ c.args.account c.args.file.name.now c.args.file.bytes.now
    (string_bytes c.in_ok-said.said) c.args.fault c.in_ok-said.ensures
    (rw (c.as_str.ensures.value, c.text_kind_name.ensures.name, c.fault_region-region.ensures)
    at c.fault_in.ensures)
