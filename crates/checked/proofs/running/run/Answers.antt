use Rattle.std.proofs.Common.{◌≡◌, ◌∙◌, ◌+◌, suc, List, Some, length, arith, refl, sym}
use Rattle.std.specs.Prelude.{slice_get}
use Rattle.std.proofs.lemmas.Option.{slice_get_read}
use Rattle.model.specs.declared.instr.Instr.{Instr}
use Rattle.checked.proofs.GoingOn.{goes_more}
use Rattle.checked.specs.GoingOn.{stays}
use Rattle.checked.proofs.NoFurther.{before_other, past_code, without_code}
use Rattle.checked.proofs.running.run.Goals as goal

pub returns-in_default-clause-goes : goal.returns-in_default-clause-goes
returns-in_default-clause-goes c = stays

pub returns-in_default-clause-far : goal.returns-in_default-clause-far
returns-in_default-clause-far c = λ short.
    without_code c.args.until.now c.args.set.now c.args.a.now (c.in_default.ensures.none refl)

pub loop-made-init : goal.loop-made-init
loop-made-init c = (stays, refl, refl)

pub loop-made-preserved : goal.loop-made-preserved
loop-made-preserved c =
    let code : List Instr = c.in-Some.code.now in
    let i : Instr = c.in-Some-get.instruction.now in
    let here : slice_get code c.loop-made.a.position ≡ Some i =
    slice_get_read code (length code) c.loop-made.a.position i refl
    c.in-Some-get.ensures.lookup.3.0 c.in-Some-get.ensures.lookup.1 in
    let count : c.loop-made.made + 1 ≡ suc c.loop-made.made = omega arith in (
      rw count
          (goes_more c.args.until.now c.args.set.now c.args.a.now code c.in-Some.ensures.code
          c.loop-made.made c.loop-made.a c.loop-made.invariant.0 (sym c.is_there.ensures ∙ c.if-is_there.false) c.loop-made.invariant.1 c.loop-made.invariant.2 i
          here c.execute.new.a
          (c.if-not-execute.ensures.goes refl c.args.set.now) c.execute.ensures.same),
      c.execute.ensures.same.driver ∙ c.loop-made.invariant.1,
      c.execute.ensures.same.routine ∙ c.loop-made.invariant.2,
    )

pub returns-in_default-get-clause-far : goal.returns-in_default-get-clause-far
returns-in_default-get-clause-far c = λ short.
    past_code c.args.until.now c.args.set.now c.args.a.now c.in-Some.code.now c.in-Some.ensures.code c.loop-made.a
    c.loop-made.invariant.1 c.loop-made.invariant.2 (sym c.in_default-get.ensures.lookup.0)

pub returns-then-not-execute-clause-far : goal.returns-then-not-execute-clause-far
returns-then-not-execute-clause-far c = λ short.
    let code : List Instr = c.in-Some.code.now in
    let i : Instr = c.in-Some-get.instruction.now in
    let here : slice_get code c.loop-made.a.position ≡ Some i =
    slice_get_read code (length code) c.loop-made.a.position i refl
    c.in-Some-get.ensures.lookup.3.0 c.in-Some-get.ensures.lookup.1 in
    rw (c.if-not-execute.ensures.other refl)
    (before_other c.args.until.now c.args.set.now c.args.a.now code c.in-Some.ensures.code c.loop-made.a
    c.loop-made.invariant.1 c.loop-made.invariant.2 i here
    (c.if-not-execute.ensures.far refl c.args.set.now))
