use Rattle.std.proofs.Common.{◌≡◌, Some, None, rules, true, is_some, nat_eq}
use Rattle.indexmap.specs.IndexMap.{get}
use Rattle.model.specs.declared.history.TopOut.{TopOut}
use Rattle.scenario_run.specs.Tops.{top_told}
use Rattle.scenario_run.proofs.Topping.{tops_silent, tops_known, tops_new}
use Rattle.scenario_run.proofs.tops.note_top.Goals as goal

pub returns-in_default : goal.returns-in_default
returns-in_default c =
    let silent : top_told c.args.reply.now ≡ None = search rules in
    tops_silent c.args.tops.now c.args.reply.now silent

pub returns-then-contains_key : goal.returns-then-contains_key
returns-then-contains_key c =
    let top : TopOut = record {
      packet = c.in-Topped.packet;
      status = c.in-Topped.status;
      info = c.in-Topped.info;
    } in
    let tells : top_told c.args.reply.now ≡ Some top = search rules in
    let known : is_some (get nat_eq c.args.tops.now c.in-Topped.packet) ≡ true = search rules in
    tops_known c.args.tops.now c.args.reply.now top tells known

pub returns-in-Ok : goal.returns-in-Ok
returns-in-Ok c =
    let top : TopOut = record {
      packet = c.in-Topped.packet;
      status = c.in-Topped.status;
      info = c.in-Topped.info;
    } in
    let tells : top_told c.args.reply.now ≡ Some top = search rules in
    let none : get nat_eq c.args.tops.now c.in-Topped.packet ≡ None = search rules in
    tops_new c.args.tops.now c.insert.new.self c.args.reply.now top tells none
    c.in-Ok.ensures.updates
