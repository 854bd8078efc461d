use Rattle.std.proofs.Common.{◌≡◌, ◌∙◌, ◌++◌, List, ap, replicate, sym}
use Rattle.std.proofs.lemmas.Result.{err_from_is_err_and}
use Rattle.model.specs.declared.event.Event.{Event}
use Rattle.answer_runs.specs.Repeats.{awaited}
use Rattle.answer_runs.proofs.Observing.{none_left, observed_broken, observed_end, observed_on}
use Rattle.answer_runs.proofs.watching.observe.Goals as goal

pub returns-in_err-taken : goal.returns-in_err-taken
returns-in_err-taken g c =
    let p = err_from_is_err_and c.from_residual.result c.from_residual.ensures.1 in
    rw (p.1, p.2)
    (observed_broken _ _ _ g.W.Observer.breaks _ _ _ _ _ _ _ 1 _
    (rw c.in-Some.ensures at c.loop-event.invariant.observed)
    _ c.in_err-taken.field-0.0 c.in_err-taken.ensures.breaks c.watch.new.machine)

pub returns-then-taken : goal.returns-then-taken
returns-then-taken g c =
    observed_end _ _ _ g.W.Observer.breaks _ _ _ _ _ _ _ 1 _
    (rw c.in-Some.ensures at c.loop-event.invariant.observed)
    _ _ _ _ c.in_ok-taken.ensures.takes c.in_ok-taken.ensures.few c.in_ok-taken.ensures.tells
    c.if-taken.true

pub loop-event-preserved-in-Some : goal.loop-event-preserved-in-Some
loop-event-preserved-in-Some g c =
    record {
      some = c.loop-event.invariant.some;
      observed =
          observed_on _ _ _ g.W.Observer.breaks _ _ _ _ _ _ _ 1 _
          (rw c.in-Some.ensures at c.loop-event.invariant.observed)
          _ _ _ _ c.in_ok-taken.ensures.takes c.in_ok-taken.ensures.few c.in_ok-taken.ensures.tells
          _ c.if-taken.false (none_left _ _ _ c.in_ok-taken.ensures.some c.in_ok-taken.ensures.few);
    }

pub returns-in_err-taken-2 : goal.returns-in_err-taken-2
returns-in_err-taken-2 g c =
    let p = err_from_is_err_and c.from_residual-in_err-taken-2.result
    c.from_residual-in_err-taken-2.ensures.1 in
    let run = c.in-Some-next_run.field-0 in
    let next : awaited c.loop-event.rest c.loop-event.upcoming
    ≡ replicate run.count run.event ++ c.next_run.new.upcoming =
    ap (λ (later : List Event). awaited c.loop-event.rest later) (sym c.in_default.ensures)
    ∙ c.in-Some-next_run.ensures.1 in
    rw (p.1, p.2)
    (observed_broken _ _ _ g.W.Observer.breaks _ _ _ _ _ _ _ _ _
    (rw next at c.loop-event.invariant.observed)
    _ c.in_err-taken-2.field-0.0 c.in_err-taken-2.ensures.breaks c.watch-in-loop-event.new.machine)

pub returns-then-taken-2 : goal.returns-then-taken-2
returns-then-taken-2 g c =
    let run = c.in-Some-next_run.field-0 in
    let next : awaited c.loop-event.rest c.loop-event.upcoming
    ≡ replicate run.count run.event ++ c.next_run.new.upcoming =
    ap (λ (later : List Event). awaited c.loop-event.rest later) (sym c.in_default.ensures)
    ∙ c.in-Some-next_run.ensures.1 in
    observed_end _ _ _ g.W.Observer.breaks _ _ _ _ _ _ _ _ _
    (rw next at c.loop-event.invariant.observed)
    _ _ _ _ c.in_ok-taken-2.ensures.takes c.in_ok-taken-2.ensures.few
    c.in_ok-taken-2.ensures.tells c.if-taken-2.true

pub loop-event-preserved : goal.loop-event-preserved
loop-event-preserved g c =
    let run = c.in-Some-next_run.field-0 in
    let next : awaited c.loop-event.rest c.loop-event.upcoming
    ≡ replicate run.count run.event ++ c.next_run.new.upcoming =
    ap (λ (later : List Event). awaited c.loop-event.rest later) (sym c.in_default.ensures)
    ∙ c.in-Some-next_run.ensures.1 in
    record {
      some = c.rest_of-rest.ensures.some;
      observed =
          observed_on _ _ _ g.W.Observer.breaks _ _ _ _ _ _ _ _ _
          (rw next at c.loop-event.invariant.observed)
          _ _ _ _ c.in_ok-taken-2.ensures.takes c.in_ok-taken-2.ensures.few
          c.in_ok-taken-2.ensures.tells _ c.if-taken-2.false
          (sym (c.rest_of-rest.ensures.events c.next_run.new.upcoming));
    }
