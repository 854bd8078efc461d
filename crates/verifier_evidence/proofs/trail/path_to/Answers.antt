use Rattle.std.proofs.Common.{arith}
use Rattle.verifier_evidence.proofs.Known.{known_covered}
use Rattle.verifier_evidence.proofs.trail.path_to.Goals as goal

pub path_to-requires-clause-covered : goal.path_to-requires-clause-covered
path_to-requires-clause-covered c =
    known_covered c.args.subject c.args.at c.args.at c.in_ok-table.table.items
    (c.in_ok-table.ensures {u = tt}) (omega arith) c.requires.within
