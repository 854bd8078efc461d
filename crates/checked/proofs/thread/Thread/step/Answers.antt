use Rattle.std.proofs.Common.{◌≡◌, ◌-◌, ◌++◌, ◌∷◌, [], List, None, Some, ap, drop, length, refl, rules, take, ◌∙◌}
use Rattle.std.specs.List.{IsLastAndRest}
use Rattle.model.specs.declared.event.Reply.TheVariants.{Stepped}
use Rattle.model.specs.declared.world.Frame.{Frame}
use Rattle.model.specs.declared.world.Irql.{Irql}
use Rattle.model.specs.declared.world.Thread.{Thread}
use Rattle.model.specs.Effect.{told_to}
use Rattle.model.specs.Events.{finished_or, root_over}
use Rattle.checked.specs.Step.{Moved}
use Rattle.checked_parts.specs.Ran.{frame_over}
use Rattle.checked.proofs.Stacks.{moved_as, moved_gone, moved_stays, moved_stopped, moved_under, popped, rewritten, standing, with_items}
use Rattle.checked.proofs.thread.Thread.step.Goals as goal

pub returns-in-Stays : goal.returns-in-Stays
returns-in-Stays c =
    let places : List Frame = c.self.inside.places in
    let depth = c.self.inside.depth in
    let below : List Frame = c.in-Some.below.now in
    let top : Frame = c.in-Some.top.now in
    let thread : Thread =
    record { root = c.self.inside.root; frames = record { items = take depth places } } in
    let split : IsLastAndRest thread.frames.items top below = c.in-Some.ensures.cases in
    let g : Frame = c.step.new.frame in
    let back : take depth ((below ++ g ∷ []) ++ drop depth places) ≡ below ++ g ∷ [] =
    standing c.args.set.now c.args.shared.now c.args.number thread below top split depth places g
    refl in
    rw (← c.self.view_is)
    (moved_stays c.args.set.now c.args.shared.now c.args.number thread below top split
    c.step.new.shared g c.in-Stays.reply _ back c.in-Stays.ensures)

pub returns-in-Under : goal.returns-in-Under
returns-in-Under c =
    let places : List Frame = c.self.inside.places in
    let depth = c.self.inside.depth in
    let below : List Frame = c.in-Some.below.now in
    let top : Frame = c.in-Some.top.now in
    let thread : Thread =
    record { root = c.self.inside.root; frames = record { items = take depth places } } in
    let split : IsLastAndRest thread.frames.items top below = c.in-Some.ensures.cases in
    let g : Frame = c.step.new.frame in
    let back : take depth ((below ++ g ∷ []) ++ drop depth places) ≡ below ++ g ∷ [] =
    standing c.args.set.now c.args.shared.now c.args.number thread below top split depth places g
    refl in
    let h : Frame = frame_over c.in-Under.over in
    let pushed : c.push.new.self ≡ with_items thread ((below ++ g ∷ []) ++ h ∷ []) =
    c.push.ensures ∙ ap (λ (fs : List Frame). with_items thread (fs ++ h ∷ [])) back in
    rw (← c.self.view_is, pushed)
    (moved_under c.args.set.now c.args.shared.now c.args.number thread below top split
    c.step.new.shared g h ((below ++ g ∷ []) ++ h ∷ []) c.in-Under.ensures refl)

pub returns-in-Becomes : goal.returns-in-Becomes
returns-in-Becomes c =
    let places : List Frame = c.self.inside.places in
    let depth = c.self.inside.depth in
    let below : List Frame = c.in-Some.below.now in
    let top : Frame = c.in-Some.top.now in
    let thread : Thread =
    record { root = c.self.inside.root; frames = record { items = take depth places } } in
    let split : IsLastAndRest thread.frames.items top below = c.in-Some.ensures.cases in
    let g : Frame = c.replace.new.self in
    let back : take depth ((below ++ g ∷ []) ++ drop depth places) ≡ below ++ g ∷ [] =
    standing c.args.set.now c.args.shared.now c.args.number thread below top split depth places g
    refl in
    rw (← c.self.view_is)
    (moved_stays c.args.set.now c.args.shared.now c.args.number thread below top split
    c.step.new.shared g Stepped _ back (rw (← c.replace.ensures) at c.in-Becomes.ensures))

pub returns-in-Stopped : goal.returns-in-Stopped
returns-in-Stopped c =
    let places : List Frame = c.self.inside.places in
    let depth = c.self.inside.depth in
    let below : List Frame = c.in-Some.below.now in
    let top : Frame = c.in-Some.top.now in
    let thread : Thread =
    record { root = c.self.inside.root; frames = record { items = take depth places } } in
    let split : IsLastAndRest thread.frames.items top below = c.in-Some.ensures.cases in
    let g : Frame = c.step.new.frame in
    let back : take depth ((below ++ g ∷ []) ++ drop depth places) ≡ below ++ g ∷ [] =
    standing c.args.set.now c.args.shared.now c.args.number thread below top split depth places g
    refl in
    let left : c.pop-in-Stopped.new.self ≡ with_items thread below =
    c.pop-in-Stopped.ensures
    ∙ ap (λ (fs : List Frame). with_items thread (take (length fs - 1) fs)) back
    ∙ ap (with_items thread)
    (popped c.args.set.now c.args.shared.now c.args.number thread below top split g) in
    rw (
      ← c.self.view_is,
      c.finish-in-Stopped.ensures.thread,
      c.finish-in-Stopped.ensures.reply,
      c.pop-in-Stopped-2.ensures,
      left,
    )
    (moved_stopped c.args.set.now c.args.shared.now c.args.number thread below top split
    c.step.new.shared c.in-Stopped.ensures)

pub returns-in-Gone : goal.returns-in-Gone
returns-in-Gone c =
    let places : List Frame = c.self.inside.places in
    let depth = c.self.inside.depth in
    let below : List Frame = c.in-Some.below.now in
    let top : Frame = c.in-Some.top.now in
    let thread : Thread =
    record { root = c.self.inside.root; frames = record { items = take depth places } } in
    let split : IsLastAndRest thread.frames.items top below = c.in-Some.ensures.cases in
    let g : Frame = c.step.new.frame in
    let back : take depth ((below ++ g ∷ []) ++ drop depth places) ≡ below ++ g ∷ [] =
    standing c.args.set.now c.args.shared.now c.args.number thread below top split depth places g
    refl in
    let left : c.pop.new.self ≡ with_items thread below =
    c.pop.ensures
    ∙ ap (λ (fs : List Frame). with_items thread (take (length fs - 1) fs)) back
    ∙ ap (with_items thread)
    (popped c.args.set.now c.args.shared.now c.args.number thread below top split g) in
    rw (← c.self.view_is, c.finish.ensures.thread, c.finish.ensures.reply, left)
    (moved_gone c.args.set.now c.args.shared.now c.args.number thread below top split
    c.step.new.shared c.in-Gone.reply None c.in-Gone.ensures)

pub returns-in-Returned : goal.returns-in-Returned
returns-in-Returned c =
    let places : List Frame = c.self.inside.places in
    let depth = c.self.inside.depth in
    let below : List Frame = c.in-Some.below.now in
    let top : Frame = c.in-Some.top.now in
    let thread : Thread =
    record { root = c.self.inside.root; frames = record { items = take depth places } } in
    let split : IsLastAndRest thread.frames.items top below = c.in-Some.ensures.cases in
    let g : Frame = c.step.new.frame in
    let back : take depth ((below ++ g ∷ []) ++ drop depth places) ≡ below ++ g ∷ [] =
    standing c.args.set.now c.args.shared.now c.args.number thread below top split depth places g
    refl in
    let left : c.pop-in-Returned.new.self ≡ with_items thread below =
    c.pop-in-Returned.ensures
    ∙ ap (λ (fs : List Frame). with_items thread (take (length fs - 1) fs)) back
    ∙ ap (with_items thread)
    (popped c.args.set.now c.args.shared.now c.args.number thread below top split g) in
    let inside = c.self-in-Returned.inside in
    let under : take inside.depth inside.places ≡ below =
    ap (λ (t : Thread). t.frames.items) (c.self-in-Returned.view_is ∙ left) in
    let root : inside.root ≡ c.self.inside.root =
    ap (λ (t : Thread). t.root) (c.self-in-Returned.view_is ∙ left) in
    let told : take inside.depth (c.tell.new.frames ++ drop inside.depth inside.places)
    ≡ told_to c.args.set.now below (Some c.in-Returned.status) =
    rewritten inside.depth inside.places c.tell.new.frames (search rules) ∙ c.tell.ensures
    ∙ ap (λ (fs : List Frame). told_to c.args.set.now fs (Some c.in-Returned.status)) under in
    let as_left : Irql → List Frame → Moved = λ r fs. moved_as c.step.new.shared
    (record { root = root_over r fs; frames = record { items = fs } }) (finished_or fs Stepped) in
    rw (
      ← c.self.view_is,
      c.finish-in-Returned.ensures.thread,
      c.finish-in-Returned.ensures.reply,
    )
    (ap (λ (r : Irql). as_left r
    (take inside.depth (c.tell.new.frames ++ drop inside.depth inside.places))) root
    ∙ ap (as_left c.self.inside.root) told
    ∙ moved_gone c.args.set.now c.args.shared.now c.args.number thread below top split
    c.step.new.shared Stepped (Some c.in-Returned.status) c.in-Returned.ensures)
