use Rattle.std.proofs.Common.{◌≡◌, ◌-◌, ◌++◌, ◌∷◌, [], List, None, Some, ap, drop, length, refl, rules, take, ◌∙◌}
use Rattle.std.specs.List.{IsLastAndRest}
use Rattle.model.specs.declared.world.Irql.{Irql}
use Rattle.laws_slots.specs.Words.{WordFrame, WordThread}
use Rattle.model.specs.declared.event.Reply.TheVariants.{Stepped, Topped, Waited}
use Rattle.machine_parts.specs.Left.{frame_over}
use Rattle.laws_slots.specs.WordStep.{ends_or, level_over, told_frames}
use Rattle.machine.specs.Threads.{Moved}
use Rattle.machine.proofs.Stacks.{moved_as, moved_stays, moved_under, moved_gone, moved_stopped, popped, rewritten, standing, with_items}
use Rattle.machine.proofs.thread.Thread.step.Goals as goal

pub returns-in-Steps : goal.returns-in-Steps
returns-in-Steps c =
    let places : List WordFrame = c.self.inside.places in
    let depth = c.self.inside.depth in
    let below : List WordFrame = c.in-Some.below.now in
    let top : WordFrame = c.in-Some.top.now in
    let thread : WordThread = record { root = c.self.inside.root; frames = take depth places } in
    let split : IsLastAndRest thread.frames top below = c.in-Some.ensures.cases in
    let g : WordFrame = c.step.new.frame in
    let back : take depth ((below ++ g ∷ []) ++ drop depth places) ≡ below ++ g ∷ [] =
    standing c.args.set.now c.args.shared.now c.args.number thread below top split depth places g
    refl in
    rw (← c.self.view_is)
    (moved_stays c.args.set.now c.args.shared.now c.args.number thread below top split
    c.step.new.shared g Stepped _ back c.in-Steps.ensures)

pub returns-in-Waits : goal.returns-in-Waits
returns-in-Waits c =
    let places : List WordFrame = c.self.inside.places in
    let depth = c.self.inside.depth in
    let below : List WordFrame = c.in-Some.below.now in
    let top : WordFrame = c.in-Some.top.now in
    let thread : WordThread = record { root = c.self.inside.root; frames = take depth places } in
    let split : IsLastAndRest thread.frames top below = c.in-Some.ensures.cases in
    let g : WordFrame = c.step.new.frame in
    let back : take depth ((below ++ g ∷ []) ++ drop depth places) ≡ below ++ g ∷ [] =
    standing c.args.set.now c.args.shared.now c.args.number thread below top split depth places g
    refl in
    rw (← c.self.view_is)
    (moved_stays c.args.set.now c.args.shared.now c.args.number thread below top split
    c.step.new.shared g Waited _ back c.in-Waits.ensures)

pub returns-in-Under : goal.returns-in-Under
returns-in-Under c =
    let places : List WordFrame = c.self.inside.places in
    let depth = c.self.inside.depth in
    let below : List WordFrame = c.in-Some.below.now in
    let top : WordFrame = c.in-Some.top.now in
    let thread : WordThread = record { root = c.self.inside.root; frames = take depth places } in
    let split : IsLastAndRest thread.frames top below = c.in-Some.ensures.cases in
    let g : WordFrame = c.step.new.frame in
    let back : take depth ((below ++ g ∷ []) ++ drop depth places) ≡ below ++ g ∷ [] =
    standing c.args.set.now c.args.shared.now c.args.number thread below top split depth places g
    refl in
    let h : WordFrame = frame_over c.in-Under.over in
    let pushed : c.push.new.self ≡ with_items thread ((below ++ g ∷ []) ++ h ∷ []) =
    c.push.ensures ∙ ap (λ (fs : List WordFrame). with_items thread (fs ++ h ∷ [])) back in
    rw (← c.self.view_is, pushed)
    (moved_under c.args.set.now c.args.shared.now c.args.number thread below top split
    c.step.new.shared g h ((below ++ g ∷ []) ++ h ∷ []) c.in-Under.ensures refl)

pub returns-in-Becomes : goal.returns-in-Becomes
returns-in-Becomes c =
    let places : List WordFrame = c.self.inside.places in
    let depth = c.self.inside.depth in
    let below : List WordFrame = c.in-Some.below.now in
    let top : WordFrame = c.in-Some.top.now in
    let thread : WordThread = record { root = c.self.inside.root; frames = take depth places } in
    let split : IsLastAndRest thread.frames top below = c.in-Some.ensures.cases in
    let g : WordFrame = c.replace.new.self in
    let back : take depth ((below ++ g ∷ []) ++ drop depth places) ≡ below ++ g ∷ [] =
    standing c.args.set.now c.args.shared.now c.args.number thread below top split depth places g
    refl in
    rw (← c.self.view_is)
    (moved_stays c.args.set.now c.args.shared.now c.args.number thread below top split
    c.step.new.shared g Stepped _ back (rw (← c.replace.ensures) at c.in-Becomes.ensures))

pub returns-in-Stopped : goal.returns-in-Stopped
returns-in-Stopped c =
    let places : List WordFrame = c.self.inside.places in
    let depth = c.self.inside.depth in
    let below : List WordFrame = c.in-Some.below.now in
    let top : WordFrame = c.in-Some.top.now in
    let thread : WordThread = record { root = c.self.inside.root; frames = take depth places } in
    let split : IsLastAndRest thread.frames top below = c.in-Some.ensures.cases in
    let g : WordFrame = c.step.new.frame in
    let back : take depth ((below ++ g ∷ []) ++ drop depth places) ≡ below ++ g ∷ [] =
    standing c.args.set.now c.args.shared.now c.args.number thread below top split depth places g
    refl in
    let left : c.pop.new.self ≡ with_items thread below =
    c.pop.ensures
    ∙ ap (λ (fs : List WordFrame). with_items thread (take (length fs - 1) fs)) back
    ∙ ap (with_items thread)
    (popped c.args.set.now c.args.shared.now c.args.number thread below top split g) in
    rw (
      ← c.self.view_is,
      c.end-in-Stopped.ensures.thread,
      c.end-in-Stopped.ensures.reply,
      left,
    )
    (moved_stopped c.args.set.now c.args.shared.now c.args.number thread below top split
    c.step.new.shared c.in-Stopped.ensures)

pub returns-in-Returned : goal.returns-in-Returned
returns-in-Returned c =
    let places : List WordFrame = c.self.inside.places in
    let depth = c.self.inside.depth in
    let below : List WordFrame = c.in-Some.below.now in
    let top : WordFrame = c.in-Some.top.now in
    let thread : WordThread = record { root = c.self.inside.root; frames = take depth places } in
    let split : IsLastAndRest thread.frames top below = c.in-Some.ensures.cases in
    let g : WordFrame = c.step.new.frame in
    let back : take depth ((below ++ g ∷ []) ++ drop depth places) ≡ below ++ g ∷ [] =
    standing c.args.set.now c.args.shared.now c.args.number thread below top split depth places g
    refl in
    let left : c.pop-in-Returned.new.self ≡ with_items thread below =
    c.pop-in-Returned.ensures
    ∙ ap (λ (fs : List WordFrame). with_items thread (take (length fs - 1) fs)) back
    ∙ ap (with_items thread)
    (popped c.args.set.now c.args.shared.now c.args.number thread below top split g) in
    let inside = c.self-in-Returned.inside in
    let under : take inside.depth inside.places ≡ below =
    ap (λ (t : WordThread). t.frames) (c.self-in-Returned.view_is ∙ left) in
    let root : inside.root ≡ c.self.inside.root =
    ap (λ (t : WordThread). t.root) (c.self-in-Returned.view_is ∙ left) in
    let told : take inside.depth (c.tell.new.frames ++ drop inside.depth inside.places)
    ≡ told_frames c.args.set.now below (Some c.in-Returned.status) =
    rewritten inside.depth inside.places c.tell.new.frames (search rules) ∙ c.tell.ensures
    ∙ ap (λ (fs : List WordFrame). told_frames c.args.set.now fs (Some c.in-Returned.status)) under
    in
    let as_left : Irql → List WordFrame → Moved = λ r fs. moved_as c.step.new.shared
    (record { root = level_over r fs; frames = fs }) (ends_or fs Stepped) in
    rw (
      ← c.self.view_is,
      c.finish.ensures.thread,
      c.finish.ensures.reply,
    )
    (ap (λ (r : Irql). as_left r
    (take inside.depth (c.tell.new.frames ++ drop inside.depth inside.places))) root
    ∙ ap (as_left c.self.inside.root) told
    ∙ moved_gone c.args.set.now c.args.shared.now c.args.number thread below top split
    c.step.new.shared Stepped (Some c.in-Returned.status) c.in-Returned.ensures)

pub returns-in-Ends : goal.returns-in-Ends
returns-in-Ends c =
    let places : List WordFrame = c.self.inside.places in
    let depth = c.self.inside.depth in
    let below : List WordFrame = c.in-Some.below.now in
    let top : WordFrame = c.in-Some.top.now in
    let thread : WordThread = record { root = c.self.inside.root; frames = take depth places } in
    let split : IsLastAndRest thread.frames top below = c.in-Some.ensures.cases in
    let g : WordFrame = c.step.new.frame in
    let back : take depth ((below ++ g ∷ []) ++ drop depth places) ≡ below ++ g ∷ [] =
    standing c.args.set.now c.args.shared.now c.args.number thread below top split depth places g
    refl in
    let shown : List WordFrame = take depth ((below ++ g ∷ []) ++ drop depth places) in
    let less : take (length shown - 1) shown ≡ below =
    ap (λ (fs : List WordFrame). take (length fs - 1) fs) back
    ∙ popped c.args.set.now c.args.shared.now c.args.number thread below top split g in
    rw (← c.self.view_is, c.end.ensures.thread, c.end.ensures.reply, less)
    (moved_gone c.args.set.now c.args.shared.now c.args.number thread below top split
    c.step.new.shared Stepped None c.in-Ends.ensures)

pub returns-in-TopsOut : goal.returns-in-TopsOut
returns-in-TopsOut c =
    let places : List WordFrame = c.self.inside.places in
    let depth = c.self.inside.depth in
    let below : List WordFrame = c.in-Some.below.now in
    let top : WordFrame = c.in-Some.top.now in
    let thread : WordThread = record { root = c.self.inside.root; frames = take depth places } in
    let split : IsLastAndRest thread.frames top below = c.in-Some.ensures.cases in
    let g : WordFrame = c.step.new.frame in
    let back : take depth ((below ++ g ∷ []) ++ drop depth places) ≡ below ++ g ∷ [] =
    standing c.args.set.now c.args.shared.now c.args.number thread below top split depth places g
    refl in
    let shown : List WordFrame = take depth ((below ++ g ∷ []) ++ drop depth places) in
    let less : take (length shown - 1) shown ≡ below =
    ap (λ (fs : List WordFrame). take (length fs - 1) fs) back
    ∙ popped c.args.set.now c.args.shared.now c.args.number thread below top split g in
    rw (← c.self.view_is, c.end-in-TopsOut.ensures.thread, c.end-in-TopsOut.ensures.reply, less)
    (moved_gone c.args.set.now c.args.shared.now c.args.number thread below top split
    c.step.new.shared (Topped c.in-TopsOut.packet c.in-TopsOut.status c.in-TopsOut.info) None
    c.in-TopsOut.ensures)
