use Rattle.std.proofs.Common.{rules}
use Rattle.model.specs.declared.instr.Instr.TheVariants.{Add, Subtract, JumpIfZero, JumpIfLess, Loop, End}
use Rattle.checked.proofs.NoFurther.{not_made, other_instruction}
use Rattle.checked.proofs.local.execute.Goals as goal

pub returns-in-Add-clause-far : goal.returns-in-Add-clause-far
returns-in-Add-clause-far c = λ fails set b.
    not_made set c.args.a.now b c.args.instruction (Add c.in-Add.r c.in-Add.s)
    c.in-Add.is c.add.new.a c.add.result c.add.ensures fails

pub returns-in-Subtract-clause-far : goal.returns-in-Subtract-clause-far
returns-in-Subtract-clause-far c = λ fails set b.
    not_made set c.args.a.now b c.args.instruction (Subtract c.in-Subtract.r c.in-Subtract.s)
    c.in-Subtract.is c.subtract.new.a c.subtract.result c.subtract.ensures fails

pub returns-in-JumpIfZero-clause-far : goal.returns-in-JumpIfZero-clause-far
returns-in-JumpIfZero-clause-far c = λ fails set b.
    not_made set c.args.a.now b c.args.instruction
    (JumpIfZero c.in-JumpIfZero.r c.in-JumpIfZero.label)
    c.in-JumpIfZero.is c.jump_if_zero.new.a c.jump_if_zero.result c.jump_if_zero.ensures fails

pub returns-in-JumpIfLess-clause-far : goal.returns-in-JumpIfLess-clause-far
returns-in-JumpIfLess-clause-far c = λ fails set b.
    not_made set c.args.a.now b c.args.instruction
    (JumpIfLess c.in-JumpIfLess.r c.in-JumpIfLess.s c.in-JumpIfLess.label)
    c.in-JumpIfLess.is c.jump_if_less.new.a c.jump_if_less.result c.jump_if_less.ensures fails

pub returns-in-Loop-clause-far : goal.returns-in-Loop-clause-far
returns-in-Loop-clause-far c = λ fails set b.
    not_made set c.args.a.now b c.args.instruction (Loop c.in-Loop.turns)
    c.in-Loop.is c.open_loop.new.a c.open_loop.result c.open_loop.ensures fails

pub returns-in-End-clause-far : goal.returns-in-End-clause-far
returns-in-End-clause-far c = λ fails set b.
    not_made set c.args.a.now b c.args.instruction End
    c.in-End.is c.end_turn.new.a c.end_turn.result c.end_turn.ensures fails

pub returns-in_default : goal.returns-in_default
returns-in_default c = record {
  goes = λ no. search rules;
  same = search rules;
  other = search rules;
  far = λ is set b.
      other_instruction set c.args.a.now b c.args.instruction c.in_default.not-Const
      c.in_default.not-Move c.in_default.not-Clear c.in_default.not-Add c.in_default.not-Subtract
      c.in_default.not-JumpIfZero c.in_default.not-JumpIfLess c.in_default.not-Jump
      c.in_default.not-Loop c.in_default.not-End;
}
