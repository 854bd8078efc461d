use Rattle.std.proofs.Common.{◌≡◌, ◌++◌, ◌∷◌, [], List, drop, refl, subst, sym, take}
use Rattle.std.proofs.lemmas.List.{take-append-drop}
use Rattle.std.specs.List.{IsLastAndRest}
use Rattle.model.specs.declared.world.Frame.{Frame}
use Rattle.model.specs.declared.world.Thread.{Thread}
use Rattle.model.specs.World.{unused}
use Rattle.checked.specs.GoingOn.{ThreadGoes, rests}
use Rattle.checked.proofs.GoingOn.{thread_goes}
use Rattle.checked.proofs.NoFurther.{thread_far}
use Rattle.checked.proofs.Stacks.{standing, with_items}
use Rattle.checked.proofs.thread.Thread.go_on.Goals as goal

pub returns-in_default-clause-goes : goal.returns-in_default-clause-goes
returns-in_default-clause-goes c =
    rw (take-append-drop c.self.inside.depth c.self.inside.places, ← c.self.view_is) rests

pub returns-clause-goes : goal.returns-clause-goes
returns-clause-goes c =
    let places : List Frame = c.self.inside.places in
    let depth = c.self.inside.depth in
    let below : List Frame = c.in-Some._below.now in
    let thread : Thread =
    record { root = c.self.inside.root; frames = record { items = take depth places } } in
    let g : Frame = c.go_on.new.frame in
    let split : IsLastAndRest thread.frames.items c.in-Some.top.now below =
    c.in-Some.ensures.cases in
    let back : take depth ((below ++ g ∷ []) ++ drop depth places) ≡ below ++ g ∷ [] =
    standing c.args.set.now (unused 0) 0 thread below c.in-Some.top.now split depth places g refl in
    rw (← c.self.view_is)
    (subst (λ (frames : List Frame). ThreadGoes c.args.until.now c.args.set.now thread c.go_on.result
    (with_items thread frames)) (sym back)
    (thread_goes c.args.until.now c.args.set.now thread below c.in-Some.top.now g c.go_on.result split.0
    c.go_on.ensures.goes))

pub returns-clause-far : goal.returns-clause-far
returns-clause-far c = λ short.
    let places : List Frame = c.self.inside.places in
    let depth = c.self.inside.depth in
    let below : List Frame = c.in-Some._below.now in
    let thread : Thread =
    record { root = c.self.inside.root; frames = record { items = take depth places } } in
    let g : Frame = c.go_on.new.frame in
    let split : IsLastAndRest thread.frames.items c.in-Some.top.now below =
    c.in-Some.ensures.cases in
    let back : take depth ((below ++ g ∷ []) ++ drop depth places) ≡ below ++ g ∷ [] =
    standing c.args.set.now (unused 0) 0 thread below c.in-Some.top.now split depth places g refl in
    thread_far c.args.until.now c.args.set.now
    (with_items thread (take depth ((below ++ g ∷ []) ++ drop depth places))) below g back
    (c.go_on.ensures.far short)
