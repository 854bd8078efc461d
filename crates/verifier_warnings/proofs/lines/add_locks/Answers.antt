use Rattle.std.proofs.Common.{◌≡◌, ◌++◌, string_bytes}
use Rattle.std.proofs.lemmas.List.{get_or_read}
use Rattle.model.specs.declared.set.Guard.TheVariants.{CancelLock}
use Rattle.verifier_warnings.proofs.Telling.{name_added}
use Rattle.verifier_warnings.proofs.lines.add_locks.Goals as goal

pub loop-place-preserved : goal.loop-place-preserved
loop-place-preserved c = λ whole.
    let third = c.add_lock.ensures whole in
    let second = c.add.ensures third.0 in
    let first = c.loop-place.invariant second.0 in
    let locks = c.args.locks.now in
    let place = c.loop-place.place in
    let lock = c.index-locks-place.result in (
      first.0,
      name_added locks place lock (string_bytes c.args.words.now.text)
          (string_bytes c.loop-place.words.text) (string_bytes c.add.new.self.text)
          (string_bytes c.add_lock.new.words.text) first.1 (rw c.comma.ensures at second.1) third.1
          (get_or_read locks place lock c.loop-place-test.true c.index-locks-place.is CancelLock),
    )
