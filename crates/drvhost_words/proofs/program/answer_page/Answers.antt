use Rattle.drvhost_words.proofs.program.answer_page.Goals as goal

pub returns-in-Rule : goal.returns-in-Rule
returns-in-Rule c = rw c.in-Rule.is c.explain_rule.ensures

pub returns-in-LockOrder : goal.returns-in-LockOrder
returns-in-LockOrder c = rw c.in-LockOrder.is c.explain_lock_order.ensures

pub returns-in-Version : goal.returns-in-Version
returns-in-Version c = rw c.in-Version.is c.version.ensures
