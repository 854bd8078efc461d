use Rattle.drvhost_tests.proofs.Adding.{and_then}
use Rattle.drvhost_tests.proofs.junit.add_case.Goals as goal

pub returns : goal.returns
returns c =
    let end = c.add-4.new.self in
    let set = rw c.as_bytes.ensures.value at c.add_written.ensures in
    let name = rw (c.as_bytes-2.ensures.value, c.name.ensures) at c.add_written-2.ensures in
    let told = rw c.told.ensures at c.add_outcome.ensures in
    let seven = and_then c.add-3.new.self c.add_outcome.new.words end _ _ told c.add-4.ensures in
    let six = and_then c.add_turn.new.words c.add-3.new.self end _ _ c.add-3.ensures seven in
    let five = and_then c.add_written-2.new.words c.add_turn.new.words end _ _ c.add_turn.ensures six in
    let four = and_then c.add-2.new.self c.add_written-2.new.words end _ _ name five in
    let three = and_then c.add_written.new.words c.add-2.new.self end _ _ c.add-2.ensures four in
    let two = and_then c.add.new.self c.add_written.new.words end _ _ set three in
    let all = and_then c.args.words.now c.add.new.self end _ _ c.add.ensures two in
    all
