use Rattle.std.proofs.Common.{◌∙◌, ◌++◌, take, drop, ap, sym, append_assoc}
use Rattle.std.proofs.lemmas.List.{take-append-drop}
use Rattle.drvhost_devices.proofs.Writing.{appends_more}
use Rattle.drvhost_devices.proofs.transfer.write_whole.Goals as goal

pub loop-rest-preserved : goal.loop-rest-preserved
loop-rest-preserved g c =
    let done = c.loop-rest.invariant.1 in
    let rest = c.loop-rest.rest.now in
    let count = c.in_ok-count.count in
    let split = done.1 ∙ ap (λ r. done.0 ++ r) (sym (take-append-drop count rest))
    ∙ sym (append_assoc done.0 (take count rest) (drop count rest))
    ∙ ap (λ r. (done.0 ++ take count rest) ++ r) (sym c.split_at.ensures.back) in (
      c.in_ok-count.ensures.counted ∙ c.loop-rest.invariant.0,
      (
        done.0 ++ take count rest,
        split,
        appends_more _ _ _ _ _ done.2 c.in_ok-count.ensures.bytes,
      ),
    )
