use Rattle.std.proofs.Common.{◌≡◌, ◌∙◌, ℕ, Some, ap, subst, sym}
use Rattle.std.specs.Prelude.{slice_get}
use Rattle.std.proofs.lemmas.Option.{slice_get-get_or}
use Rattle.model.specs.declared.event.Event.TheVariants.{Step}
use Rattle.laws_slots.specs.WordsFit.{WordEventFits}
use Rattle.laws_slots.specs.Words.{WordThread, WordWorld}
use Rattle.machine.specs.GoingOn.{after}
use Rattle.machine.proofs.Runs.{fits_going, goes_replies, goes_world}
use Rattle.machine.proofs.slots.Slots.go_on.Goals as goal

pub go_on-requires : goal.go_on-requires
go_on-requires c below a b k stack goes =
    let v : WordWorld = record {
      threads = c.self.inside.thread_list.items;
      shared = c.self.inside.shared;
    } in
    let x : WordThread = c.in-Some.runner.now in
    let found : slice_get v.threads c.args.thread ≡ Some x =
    slice_get-get_or v.threads c.args.thread x c.in-Some.ensures.item.3.0
    ∙ ap (λ (y : WordThread). Some y) (sym c.in-Some.ensures.value) in
    fits_going c.args.set.now v c.args.thread x below a found stack
    (subst (λ (w : WordWorld). (j : ℕ)
    → WordEventFits c.args.set.now (after c.args.set.now w c.args.thread j) (Step c.args.thread))
    (sym c.self.view_is) c.requires) k b goes

pub returns-clause-world : goal.returns-clause-world
returns-clause-world c =
    let v : WordWorld = record {
      threads = c.self.inside.thread_list.items;
      shared = c.self.inside.shared;
    } in
    let x : WordThread = c.in-Some.runner.now in
    let found : slice_get v.threads c.args.thread ≡ Some x =
    slice_get-get_or v.threads c.args.thread x c.in-Some.ensures.item.3.0
    ∙ ap (λ (y : WordThread). Some y) (sym c.in-Some.ensures.value) in
    rw (← c.self.view_is)
    (goes_world c.args.set.now v c.args.thread x found c.go_on.result c.go_on.new.self
    c.go_on.ensures.goes)

pub returns-clause-replies : goal.returns-clause-replies
returns-clause-replies c =
    let v : WordWorld = record {
      threads = c.self.inside.thread_list.items;
      shared = c.self.inside.shared;
    } in
    let x : WordThread = c.in-Some.runner.now in
    let found : slice_get v.threads c.args.thread ≡ Some x =
    slice_get-get_or v.threads c.args.thread x c.in-Some.ensures.item.3.0
    ∙ ap (λ (y : WordThread). Some y) (sym c.in-Some.ensures.value) in
    rw (← c.self.view_is)
    (goes_replies c.args.set.now v c.args.thread x found c.go_on.result c.go_on.new.self
    c.go_on.ensures.goes)
