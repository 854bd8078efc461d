use Rattle.verifier.proofs.Lookups.{forward_read}
use Rattle.verifier.proofs.malformed.goes_forward.Goals as goal

pub returns-then-label-code : goal.returns-then-label-code
returns-then-label-code c =
    forward_read c.args.code.now c.args.places.now c.args.at c.args.label _
    c.are_in_same_loops.result c.requires.placed c.if-label-code.true.0
    c.if-label-code.true.1 c.are_in_same_loops.ensures
