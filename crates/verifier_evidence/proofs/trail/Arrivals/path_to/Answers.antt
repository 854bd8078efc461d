use Rattle.std.proofs.Common.{◌≡◌, ◌∙◌, Option, None, Some, ap}
use Rattle.std.specs.Prelude.{slice_get}
use Rattle.verifier_evidence.specs.declared.arrivals.Arrival.{Arrival}
use Rattle.verifier_evidence.specs.Table.{HasArrival}
use Rattle.verifier_evidence.proofs.Walked.{read_at}
use Rattle.verifier_evidence.proofs.trail.Arrivals.path_to.Goals as goal

pub returns-in_default-clause-none : goal.returns-in_default-clause-none
returns-in_default-clause-none c = λ none s arrives.
    let has : HasArrival c.args.self.now.table.items c.args.at = c.requires.covered s arrives in
    let there : slice_get c.args.self.now.table.items c.args.at ≡ Some (Some has.0) = has.1 in
    let blank : slice_get c.args.self.now.table.items c.args.at ≡ Some None =
    read_at c.args.self.now.table.items c.args.at c.index.result.now c.requires.within
    c.index.ensures ∙ ap (λ (r : Option Arrival). Some r) c.in_default.is in
    cc

pub path-requires-clause-comes : goal.path-requires-clause-comes
path-requires-clause-comes c =
    let there : slice_get c.args.self.now.table.items c.args.at ≡ Some (Some c.in-Some.arrival) =
    read_at c.args.self.now.table.items c.args.at c.index.result.now c.requires.within
    c.index.ensures ∙ ap (λ (r : Option Arrival). Some r) c.in-Some.is in
    (c.requires.traced c.args.at c.in-Some.arrival there).comes
