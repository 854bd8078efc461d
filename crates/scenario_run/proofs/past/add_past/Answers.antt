use Rattle.std.proofs.Common.{rules, ◌≡◌, ◌∙◌, ◌+◌, ap, get_or, length, refl, take, List}
use Rattle.interleave.specs.declared.read.Repeated.{Repeated}
use Rattle.scenario_run.specs.Past.{events_of}
use Rattle.scenario_run.proofs.Pasts.{events_again_at, events_more, last_few, last_split}
use Rattle.scenario_run.proofs.past.add_past.Goals as goal

pub overflow_add-last : goal.overflow_add-last
overflow_add-last c =
    let past = c.args.past.now.items in
    let place = c.in-Some.place in
    let last = c.index.result.now in
    let ends : place + 1 ≡ length past = search rules in
    let there : last ≡ get_or past place last = search rules in
    let split = last_split past place last ends there in
    let few = last_few (take place past) last in
    let long = ap (λ (xs : List Repeated). length (events_of xs)) split in
    search rules

pub returns-then-is_same_step : goal.returns-then-is_same_step
returns-then-is_same_step c =
    let past = c.args.past.now.items in
    let place = c.in-Some.place in
    let last = c.index.result.now in
    let ends : place + 1 ≡ length past = search rules in
    let there : last ≡ get_or past place last = search rules in
    events_again_at past place last ends there c.args.more (c.if-is_same_step.ensures refl) _ refl

pub returns : goal.returns
returns c =
    ap (λ (xs : List Repeated). events_of xs) c.push_reserved.ensures.items
    ∙ events_more c.args.past.now.items c.args.more
