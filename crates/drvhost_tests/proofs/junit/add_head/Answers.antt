use Rattle.drvhost_tests.proofs.Adding.{and_then}
use Rattle.drvhost_tests.proofs.junit.add_head.Goals as goal

pub returns : goal.returns
returns c =
    let end = c.add-5.new.self in
    let set = rw c.as_bytes.ensures.value at c.add_written.ensures in
    let failures = rw c.failures.ensures at c.add_number-2.ensures in
    let errors = rw c.errors.ensures at c.add_number-3.ensures in
    let eight = and_then c.add-4.new.self c.add_number-3.new.self end _ _ errors c.add-5.ensures in
    let seven = and_then c.add_number-2.new.self c.add-4.new.self end _ _ c.add-4.ensures eight in
    let six = and_then c.add-3.new.self c.add_number-2.new.self end _ _ failures seven in
    let five = and_then c.add_number.new.self c.add-3.new.self end _ _ c.add-3.ensures six in
    let four = and_then c.add-2.new.self c.add_number.new.self end _ _ c.add_number.ensures five in
    let three = and_then c.add_written.new.words c.add-2.new.self end _ _ c.add-2.ensures four in
    let two = and_then c.add.new.self c.add_written.new.words end _ _ set three in
    let all = and_then c.args.words.now c.add.new.self end _ _ c.add.ensures two in
    all
