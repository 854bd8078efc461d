use Rattle.std.proofs.Common.{◌∙◌, List, ap, ℕ}
use Rattle.drvhost_devices.specs.Answer.{Answer, ended}
use Rattle.drvhost_devices.specs.declared.fault.End.TheVariants.{Complete}
use Rattle.model.specs.Set.{Set}
use Rattle.report_json.specs.declared.verdict.CertifiedRoutine.{CertifiedRoutine}
use Rattle.verifier_orders.specs.declared.order.LockOrder.{LockOrder}
use Rattle.answer.specs.Check.{certified_routines, with_names}
use Rattle.answer.specs.Told.{ended_line}
use Rattle.answer_stats.specs.declared.sizes.Sizes.{Sizes}
use Rattle.answer_stats.specs.Json.{stats_json}
use Rattle.answer_stats.specs.Sizes.{sizes_of}
use Rattle.answer_stats.proofs.as_json.StatisticsOnSetJson.on.Goals as goal

pub returns : goal.returns
returns c =
    let name = c.args.given.now.name.now in
    let bytes = c.args.given.now.bytes.now in
    let set = c.args.accepted.now in
    let held = c.as_slice.result.now in
    let ordered = c.as_slice-2.result.now in
    let routines = c.as_slice.ensures.value ∙ c.in_ok-routines.ensures in
    let orders = c.as_slice-2.ensures.value in
    let same = c.set-set.ensures.same in
    let sizes = c.sizes_of.ensures ∙ ap (λ (s : Set). sizes_of bytes s) same in
    let A : Set → List CertifiedRoutine → List LockOrder → Sizes → Answer =
    λ s rs os z. ended_line Complete (stats_json name s rs os z) in
    record {
      names = c.in_ok-names.names.items;
      named = c.in_ok-names.ensures;
      orders = c.in_ok-orders.orders.items;
      ordered = (c.in_ok-orders.ensures {u = tt}).each;
      is = c.ended.ensures
          ∙ ap (λ (t : List ℕ). ended Complete t) c.in_ok-line_of.ensures
          ∙ ap (λ (x : Sizes). A c.set-set.result.now held ordered x) sizes
          ∙ ap (λ (os : List LockOrder). A c.set-set.result.now held os (sizes_of bytes set)) orders
          ∙ ap (λ (rs : List CertifiedRoutine).
          A c.set-set.result.now rs c.in_ok-orders.orders.items (sizes_of bytes set)) routines
          ∙ ap (λ (s : Set).
          A s (with_names (certified_routines set) c.in_ok-names.names.items)
          c.in_ok-orders.orders.items (sizes_of bytes set)) same;
    }
