use Rattle.std.proofs.Common.{◌≡◌, ◌∙◌, ◌+◌, suc, None, Some, ap, arith, refl, sym}
use Rattle.std.specs.Prelude.{slice_get}
use Rattle.std.proofs.lemmas.Option.{slice_get-get_or, slice_get_past}
use Rattle.model.specs.declared.instr.Instr.{Instr}
use Rattle.laws_slots.specs.WordsFit.{WordRoutineFits}
use Rattle.laws_slots.specs.WordStep.{top_frame}
use Rattle.machine.proofs.SlotsGoingOn.{fits_alone, goes_more, stands}
use Rattle.machine.specs.GoingOn.{stays}
use Rattle.machine.proofs.running.run.Goals as goal

pub returns-in_default-clause-goes : goal.returns-in_default-clause-goes
returns-in_default-clause-goes c = stays

pub loop-made-init : goal.loop-made-init
loop-made-init c = (stays, refl, refl)

pub unreachable-requires : goal.unreachable-requires
unreachable-requires c =
    let about : WordRoutineFits c.args.set.now c.args.shared.now c.args.thread c.loop-made.a =
    c.requires c.loop-made.made c.loop-made.a c.loop-made.invariant.0 in
    let none : slice_get c.in-Some.code.now c.loop-made.a.position ≡ None =
    slice_get_past c.in-Some.code.now c.loop-made.a.position c.in_default-get.ensures.lookup.3 in
    let some = stands c.args.set.now c.args.shared.now c.args.thread (top_frame c.args.below.now)
    c.args.a.now c.in-Some.code.now c.in-Some.ensures c.loop-made.made c.loop-made.a
    c.loop-made.invariant.0 about c.loop-made.invariant.1 c.loop-made.invariant.2 in
    let no : None ≡ Some about.instruction = sym none ∙ some in
    cc

pub execute-requires-clause-fits : goal.execute-requires-clause-fits
execute-requires-clause-fits c =
    let about : WordRoutineFits c.args.set.now c.args.shared.now c.args.thread c.loop-made.a =
    c.requires c.loop-made.made c.loop-made.a c.loop-made.invariant.0 in
    let i : Instr = c.in-Some-get.instruction.now in
    let here : slice_get c.in-Some.code.now c.loop-made.a.position ≡ Some i =
    slice_get-get_or c.in-Some.code.now c.loop-made.a.position i
    c.in-Some-get.ensures.lookup.3.0
    ∙ ap (λ (j : Instr). Some j) (sym c.in-Some-get.ensures.lookup.1) in
    fits_alone c.args.set.now c.args.shared.now c.args.thread (top_frame c.args.below.now)
    c.args.a.now c.in-Some.code.now c.in-Some.ensures c.loop-made.made c.loop-made.a
    c.loop-made.invariant.0 about c.loop-made.invariant.1 c.loop-made.invariant.2 i here

pub loop-made-preserved : goal.loop-made-preserved
loop-made-preserved c =
    let about : WordRoutineFits c.args.set.now c.args.shared.now c.args.thread c.loop-made.a =
    c.requires c.loop-made.made c.loop-made.a c.loop-made.invariant.0 in
    let i : Instr = c.in-Some-get.instruction.now in
    let here : slice_get c.in-Some.code.now c.loop-made.a.position ≡ Some i =
    slice_get-get_or c.in-Some.code.now c.loop-made.a.position i
    c.in-Some-get.ensures.lookup.3.0
    ∙ ap (λ (j : Instr). Some j) (sym c.in-Some-get.ensures.lookup.1) in
    let count : c.loop-made.made + 1 ≡ suc c.loop-made.made = omega arith in (
      rw count
          (goes_more c.args.set.now c.args.shared.now c.args.thread (top_frame c.args.below.now)
          c.args.a.now c.in-Some.code.now c.in-Some.ensures c.loop-made.made c.loop-made.a
          c.loop-made.invariant.0 about c.loop-made.invariant.1 c.loop-made.invariant.2 i here
          c.execute.new.a
          (c.if-not-execute.ensures.goes refl c.args.set.now c.args.shared.now c.args.thread
          (top_frame c.args.below.now))),
      c.execute.ensures.same.0 ∙ c.loop-made.invariant.1,
      c.execute.ensures.same.1 ∙ c.loop-made.invariant.2,
    )
