use Rattle.std.proofs.Common.{◌≡◌, ◌<◌, ◌≤◌, length, refl, arith}
use Rattle.model.specs.declared.limits.TheConstants.{MAX_INSTRUCTIONS}
use Rattle.verifier_evidence.proofs.Ending.{IsStart, start_at, start_below}
use Rattle.verifier_evidence.proofs.Known.{known_covered}
use Rattle.verifier_evidence.proofs.Showing.{path_arrives, shown_path, shown_unlike}
use Rattle.verifier_evidence.proofs.differing.unlike.Goals as goal

pub overflow_cast-opened : goal.overflow_cast-opened
overflow_cast-opened c =
    let low : c.in-Some.opened < c.args.at =
    (start_below c.args.arrivals.now.subject c.args.at c.in-Some.opened c.code-code.result.now
    c.in_ok-opened.field-0 c.code-code.ensures.code (c.in_ok-opened.ensures {u = tt})
    c.in-Some.is).1 in
    let within : c.args.at < length c.args.arrivals.now.subject.routine.code =
    c.requires.unlike.within in
    let few : length c.args.arrivals.now.subject.routine.code ≤ MAX_INSTRUCTIONS =
    c.code-code.ensures.few in
    omega arith

pub path_to-requires-clause-within : goal.path_to-requires-clause-within
path_to-requires-clause-within c =
    let low : c.in-Some.opened < c.args.at =
    (start_below c.args.arrivals.now.subject c.args.at c.in-Some.opened c.code-code.result.now
    c.in_ok-opened.field-0 c.code-code.ensures.code (c.in_ok-opened.ensures {u = tt})
    c.in-Some.is).1 in
    let within : c.args.at < length c.args.arrivals.now.subject.routine.code =
    c.requires.unlike.within in
    let long : length c.args.arrivals.now.table.items
    ≡ length c.args.arrivals.now.subject.routine.code = c.requires.known.long in
    omega arith

pub path_to-requires-clause-covered : goal.path_to-requires-clause-covered
path_to-requires-clause-covered c =
    let low : c.in-Some.opened < c.args.at =
    (start_below c.args.arrivals.now.subject c.args.at c.in-Some.opened c.code-code.result.now
    c.in_ok-opened.field-0 c.code-code.ensures.code (c.in_ok-opened.ensures {u = tt})
    c.in-Some.is).1 in
    let within : c.args.at < length c.args.arrivals.now.subject.routine.code =
    c.requires.unlike.within in
    known_covered c.args.arrivals.now.subject c.args.at c.in-Some.opened
    c.args.arrivals.now.table.items c.requires.known (omega arith) (omega arith)

pub unreachable-requires-in_default-2 : goal.unreachable-requires-in_default-2
unreachable-requires-in_default-2 c =
    let start : IsStart c.args.arrivals.now.subject c.args.at c.in-Some.opened
    c.requires.unlike.state =
    start_at c.args.arrivals.now.subject c.args.at c.in-Some.opened c.requires.unlike
    (start_below c.args.arrivals.now.subject c.args.at c.in-Some.opened c.code-code.result.now
    c.in_ok-opened.field-0 c.code-code.ensures.code (c.in_ok-opened.ensures {u = tt})
    c.in-Some.is).0 in
    (c.in_ok-start.ensures {u = tt}).none c.in_default-2.is start.start start.arrival.arrives

pub returns : goal.returns
returns c = (
  refl,
  shown_unlike c.args.arrivals.now.subject c.args.at c.in-Some.opened
      c.requires.unlike.state c.in-Some-2.start c.args.path c.requires.leads
      (shown_path c.args.arrivals.now.subject c.in-Some.opened c.in_ok-start.field-0
      c.in-Some-2.start c.in-Some-2.is (c.in_ok-start.ensures {u = tt}).path)
      (start_at c.args.arrivals.now.subject c.args.at c.in-Some.opened c.requires.unlike
      (start_below c.args.arrivals.now.subject c.args.at c.in-Some.opened c.code-code.result.now
      c.in_ok-opened.field-0 c.code-code.ensures.code (c.in_ok-opened.ensures {u = tt})
      c.in-Some.is).0)
      (c.requires.unlike.arrival.alone c.args.path.last.state
      (path_arrives c.args.arrivals.now.subject c.args.at c.args.path c.requires.leads)),
)
