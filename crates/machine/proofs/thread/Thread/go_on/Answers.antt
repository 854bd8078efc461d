use Rattle.std.proofs.Common.{◌≡◌, ◌++◌, ◌∷◌, [], List, take, drop, refl, subst, sym}
use Rattle.std.proofs.lemmas.List.{take-append-drop}
use Rattle.std.specs.List.{IsLastAndRest}
use Rattle.laws_slots.specs.Words.{WordFrame, WordThread}
use Rattle.machine.specs.GoingOn.{GoesOn, rests}
use Rattle.machine.proofs.Runs.{thread_goes}
use Rattle.machine.proofs.Stacks.{standing, with_items}
use Rattle.machine.proofs.thread.Thread.go_on.Goals as goal

pub returns-in_default-clause-goes : goal.returns-in_default-clause-goes
returns-in_default-clause-goes c =
    rw (take-append-drop c.self.inside.depth c.self.inside.places, ← c.self.view_is) rests

pub returns-clause-goes : goal.returns-clause-goes
returns-clause-goes c =
    let places : List WordFrame = c.self.inside.places in
    let depth = c.self.inside.depth in
    let below : List WordFrame = c.in-Some.below.now in
    let thread : WordThread = record { root = c.self.inside.root; frames = take depth places } in
    let g : WordFrame = c.go_on.new.frame in
    let split : IsLastAndRest thread.frames c.in-Some.top.now below = c.in-Some.ensures.cases in
    let back : take depth ((below ++ g ∷ []) ++ drop depth places) ≡ below ++ g ∷ [] =
    standing c.args.set.now c.args.shared.now c.args.number thread below c.in-Some.top.now split
    depth places g refl in
    rw (← c.self.view_is)
    (subst (λ (frames : List WordFrame). GoesOn c.args.set.now c.args.shared.now c.args.number
    thread c.go_on.result (with_items thread frames)) (sym back)
    (thread_goes c.args.set.now c.args.shared.now c.args.number thread below c.in-Some.top.now g
    c.go_on.result split.0 c.go_on.ensures.goes))
