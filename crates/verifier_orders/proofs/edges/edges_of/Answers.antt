use Rattle.std.proofs.Common.{◌≡◌, ◌∙◌, length, Option, ap, arith, subst, sym}
use Rattle.std.specs.Prelude.{slice_get}
use Rattle.model.specs.declared.set.Driver.{Driver}
use Rattle.model.specs.Set.{Set}
use Rattle.verifier_orders.specs.Edges.{AreEdgesTo, count_of}
use Rattle.verifier_orders.proofs.Finding.{all_routines, no_edges, no_routine}
use Rattle.verifier_orders.proofs.edges.edges_of.Goals as goal

pub loop-number-init : goal.loop-number-init
loop-number-init c =
    subst (AreEdgesTo c.args.accepted.now c.args.driver 0 0) (sym c.new-edges.ensures.items)
    (no_edges c.args.accepted.now c.args.driver)

pub returns : goal.returns
returns c =
    all_routines c.args.accepted.now c.args.driver c.loop-number.number c.loop-number.edges.items
    c.loop-number.invariant
    (λ held taken u late. no_routine c.args.accepted.now c.args.driver c.loop-number.number held
    taken u
    (λ d there.
    let count : c.routine_count-number-end.result ≡ length d.routines =
    c.routine_count-number-end.ensures.count
    ∙ ap (λ (set : Set). count_of (slice_get set.drivers c.args.driver)) c.set-set.ensures.same
    ∙ ap (λ (o : Option Driver). count_of o) there in
    omega (arith, count, c.loop-number-test.false)) late)
