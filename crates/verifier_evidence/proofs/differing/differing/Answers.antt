use Rattle.verifier_evidence.proofs.Cases.{several_arrived}
use Rattle.verifier_evidence.proofs.Others.{ends_unlike}
use Rattle.verifier_evidence.proofs.Showing.{path_arrives}
use Rattle.verifier_evidence.proofs.differing.differing.Goals as goal

pub unlike-requires-clause-unlike : goal.unlike-requires-clause-unlike
unlike-requires-clause-unlike c =
    ends_unlike c.args.arrivals.now.subject c.args.at c.args.arrivals.now.table.items
    c.args.path.last.state c.requires.known c.requires.fine
    (several_arrived c.args.arrivals.now.subject c.args.at c.requires.differ).within
    (c.other_arrival.ensures.none c.in-None.is)
    (path_arrives c.args.arrivals.now.subject c.args.at c.args.path c.requires.leads)
    c.requires.differ
