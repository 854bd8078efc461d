use Rattle.std.proofs.Common.{◌≡◌, ◌∙◌, ◌+◌, ap, arith, length, rules}
use Rattle.std.proofs.lemmas.List.{length_push}
use Rattle.workers_script.specs.Told.{told_by, told_of}
use Rattle.workers_script.proofs.ToldLists.{tells_end, tells_first, tells_next, ticket_off}
use Rattle.workers_script.proofs.collecting.tell_all.Goals as goal

pub loop-ticket-init : goal.loop-ticket-init
loop-ticket-init c =
    record {
      tickets = c.requires.tickets;
      fewer = omega arith;
      tells = tells_first c.args.core.now.history (length c.args.tickets.items) c.args.told.now.items;
    }

pub loop-ticket-preserved : goal.loop-ticket-preserved
loop-ticket-preserved c =
    let after = c.pop.new.self.items in
    let off = c.in-Some.ensures.items in
    let named = ticket_off c.loop-ticket.tickets.items after c.in-Some.ticket off
    c.loop-ticket.invariant.tickets in
    let one : length c.loop-ticket.tickets.items ≡ length after + 1 =
    ap length off ∙ length_push after c.in-Some.ticket in
    let fewer = c.loop-ticket.invariant.fewer in
    let told : c.tell.result ≡ told_of c.args.core.now.history (length after) =
    c.tell.ensures ∙ ap (told_by c.args.core.now.history) named.1 in
    let place : c.len.result ≡ length after = c.len.ensures ∙ omega arith in
    record {
      tickets = named.0;
      fewer = omega (arith, fewer, one);
      tells =
          rw place
          (tells_next c.args.core.now.history (length c.args.tickets.items)
          (length c.loop-ticket.tickets.items) (length after) c.args.told.now.items
          c.loop-ticket.told.items
          c.tell.result c.loop-ticket.invariant.tells one (omega (arith, fewer, one))
          c.requires.few told);
    }

pub returns : goal.returns
returns c =
    tells_end c.args.core.now.history (length c.args.tickets.items)
    (length c.loop-ticket.tickets.items) c.args.told.now.items c.loop-ticket.told.items
    c.loop-ticket.invariant.tells (search rules)
