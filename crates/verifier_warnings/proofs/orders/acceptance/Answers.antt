use Rattle.std.proofs.Common.{◌≡◌, ◌++◌, ◌∙◌, List, ap, length, rules, subst, ℕ}
use Rattle.std.proofs.lemmas.Result.{IfOk-weaker}
use Rattle.std.specs.Prelude.{string_bytes}
use Rattle.verifier_warnings.specs.Lines.{TellsEach}
use Rattle.verifier_warnings.specs.Orders.{EndsWith, TellsEnd, TellsOrders}
use Rattle.verifier_warnings.proofs.Cycles.{orders_told, told_rightly}
use Rattle.verifier_warnings.proofs.orders.acceptance.Goals as goal

pub returns-clause-orders : goal.returns-clause-orders
returns-clause-orders c =
    let set = c.args.accepted.now in
    let lines = c.as_str.result.now in
    let end = c.as_str-2.result.now in
    let same : end ≡ string_bytes c.in_ok-end.end = search rules in
    let ends : TellsEnd set (string_bytes c.in_ok-end.end) =
    told_rightly set (length set.drivers) c.in_ok-orders.orders.items
    (string_bytes c.in_ok-end.end) (c.in_ok-orders.ensures {u = tt}).each
    (c.in_ok-orders.ensures {u = tt}).all
    (rw c.as_slice-2.ensures.value at (c.in_ok-end.ensures {u = tt})) in
    IfOk-weaker c.routines_before.result
    (λ words. EndsWith (string_bytes words) (lines ++ end))
    (λ words. TellsOrders set (string_bytes words))
    (λ words whole. orders_told set (string_bytes words) lines end (rw same ends) whole)
    c.routines_before.ensures

pub returns-clause-each : goal.returns-clause-each
returns-clause-each c =
    let set = c.args.accepted.now in
    let lines = c.as_str.result.now in
    let end = c.as_str-2.result.now in
    let first : lines ≡ string_bytes c.in_ok-lines.lines = search rules in
    let same : end ≡ string_bytes c.in_ok-end.end = search rules in
    let ends : TellsEnd set (string_bytes c.in_ok-end.end) =
    told_rightly set (length set.drivers) c.in_ok-orders.orders.items
    (string_bytes c.in_ok-end.end) (c.in_ok-orders.ensures {u = tt}).each
    (c.in_ok-orders.ensures {u = tt}).all
    (rw c.as_slice-2.ensures.value at (c.in_ok-end.ensures {u = tt})) in
    IfOk-weaker c.routines_before.result
    (λ words. EndsWith (string_bytes words) (lines ++ end))
    (λ words. TellsEach set (string_bytes words))
    (λ words whole. (lines, end, rw first (c.in_ok-lines.ensures {u = tt}), rw same ends, whole))
    c.routines_before.ensures
