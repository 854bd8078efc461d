use Rattle.std.proofs.Common.{arith}
use Rattle.image.proofs.Decoded.{is_spelled, is_read}
use Rattle.image.proofs.reading.decode.Goals as goal

pub returns-clause-spelled : goal.returns-clause-spelled
returns-clause-spelled c =
    is_spelled c.args.bytes.now c.read.result (λ i. omega (arith, c.type_inv.bytes i))
    c.read.ensures

pub returns-clause-read : goal.returns-clause-read
returns-clause-read c =
    λ set sound spells. is_read c.args.bytes.now set c.read.result sound spells c.read.ensures
