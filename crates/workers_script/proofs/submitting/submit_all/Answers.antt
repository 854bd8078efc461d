use Rattle.std.proofs.Common.{◌∙◌, Some, ap, arith, map, rules, sym, take}
use Rattle.std.specs.Prelude.{slice_get}
use Rattle.std.specs.List.{range_with_len}
use Rattle.std.proofs.lemmas.Option.{slice_get-get_or}
use Rattle.workers_script.specs.Served.{command_name, named_from}
use Rattle.workers_script.proofs.TicketLists.{submitted_more}
use Rattle.workers_script.proofs.submitting.submit_all.Goals as goal

pub push_reserved-requires : goal.push_reserved-requires
push_reserved-requires g c =
    let few = c.loop-command-test.true in
    let count = c.loop-command.invariant.submitted.count in
    let room = c.loop-command.invariant.room in
    omega arith

pub returns-in-Err-clause-few : goal.returns-in-Err-clause-few
returns-in-Err-clause-few g c =
    let count = c.loop-command.invariant.submitted.count in
    omega (arith, count, c.loop-command-test.true)

pub returns-in-Err-clause-put : goal.returns-in-Err-clause-put
returns-in-Err-clause-put g c =
    ap (λ s. s.put) (c.in-Err.ensures.back).1 ∙ c.loop-command.invariant.submitted.named
    ∙ ap (λ n. named_from 0 (take n c.args.commands.now))
    (sym c.loop-command.invariant.submitted.count)

pub returns-in-Err-clause-tickets : goal.returns-in-Err-clause-tickets
returns-in-Err-clause-tickets g c =
    c.loop-command.invariant.submitted.numbered
    ∙ ap (λ n. map command_name (range_with_len 0 n))
    (sym c.loop-command.invariant.submitted.count)

pub loop-command-preserved : goal.loop-command-preserved
loop-command-preserved g c =
    record {
      queue = search rules;
      share = search rules;
      number = search rules;
      submitted =
          submitted_more _ _ _ _ _ _ _ _ _ c.loop-command.invariant.submitted
          c.loop-command-test.true c.loop-command.invariant.number c.in-Ok.ensures.ticket
          (ap (λ s. s.put) c.in-Ok.ensures.put) c.push_reserved.ensures.items;
      room = search rules;
    }

pub returns-clause-few : goal.returns-clause-few
returns-clause-few g c =
    let count = c.loop-command.invariant.submitted.count in
    let few = c.loop-command.auto.command-index-end in
    omega (arith, count, few)

pub returns-clause-put : goal.returns-clause-put
returns-clause-put g c =
    c.loop-command.invariant.submitted.named
    ∙ ap (λ n. named_from 0 (take n c.args.commands.now))
    (sym c.loop-command.invariant.submitted.count)

pub returns-clause-tickets : goal.returns-clause-tickets
returns-clause-tickets g c =
    c.loop-command.invariant.submitted.numbered
    ∙ ap (λ n. map command_name (range_with_len 0 n))
    (sym c.loop-command.invariant.submitted.count)

pub returns-in-Err-clause-back : goal.returns-in-Err-clause-back
returns-in-Err-clause-back g c =
    ap (slice_get c.args.commands.now) c.loop-command.invariant.submitted.count
    ∙ slice_get-get_or c.args.commands.now c.loop-command.command-index _
    c.loop-command-test.true
    ∙ ap Some (sym (c.in-Err.ensures.back).0)

pub returns-clause-all : goal.returns-clause-all
returns-clause-all g c =
    let count = c.loop-command.invariant.submitted.count in
    let few = c.loop-command.auto.command-index-end in
    omega (arith, count, few)
