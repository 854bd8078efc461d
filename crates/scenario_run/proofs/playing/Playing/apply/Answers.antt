use Rattle.std.proofs.Common.{◌≡◌, ◌∙◌, ◌++◌, ◌∷◌, [], List, ap, subst}
use Rattle.model.specs.declared.event.Event.{Event}
use Rattle.model.specs.Set.{Set}
use Rattle.scenario_run.specs.Past.{events_of}
use Rattle.scenario_run.specs.Playing.{Playing, reply_in}
use Rattle.scenario_run.specs.Told.{Adds}
use Rattle.scenario_run.proofs.Pasts.{past_more}
use Rattle.scenario_run.proofs.playing.Playing.apply.Goals as goal

pub invariant_of-self-2 : goal.invariant_of-self-2
invariant_of-self-2 c =
    let was = c.self.inside in
    let adds : Adds was.told (c.apply-reply.result ∷ []) c.note.new.self =
    λ told are. c.note.ensures told (c.make_room.ensures.same told are) in
    past_more was.runner c.apply-reply.new.self was.threads was.count was.past.items
    c.add_past.new.past.items was.told c.note.new.self c.args.event c.apply-reply.result
    (rw (← c.in_ok-reserve.ensures.items) c.add_past.ensures) c.apply-reply.ensures adds
    c.self.invariant

pub returns : goal.returns
returns c =
    let past = c.self.inside.past.items in
    let playing : Set → List Event → Playing = λ set events. record {
      set = set;
      threads = c.self.inside.threads;
      events = events;
      packets = c.self.inside.packets.items;
    } in
    let now = c.apply-reply.new.self.machine.set in
    let all : events_of c.add_past.new.past.items ≡ events_of past ++ c.args.event ∷ [] =
    rw (← c.in_ok-reserve.ensures.items) c.add_past.ensures in
    let reply : Playing → Type 0 = λ p. c.apply-reply.result ≡ reply_in p c.args.event in (
      rw (← c.self.view_is)
          (ap (λ (es : List Event). playing now es) all
          ∙ ap (λ (s : Set). playing s (events_of past ++ c.args.event ∷ []))
          c.apply-reply.ensures.set),
      subst reply c.self.view_is
          (c.apply-reply.ensures.replies c.self.inside.threads (events_of past)
          c.self.invariant.runs),
    )
