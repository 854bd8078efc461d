use Rattle.answer_views.proofs.events.tell_events.Goals as goal

pub tell_all-end-requires-clause-fresh : goal.tell_all-end-requires-clause-fresh
tell_all-end-requires-clause-fresh c =
    record {
      numbered = c.in_ok-telling.ensures.number;
      told = c.in_ok-telling.ensures.lines;
      refused = c.in_ok-telling.ensures.refused;
      tells = c.in_ok-telling.ensures.ledger c.args.machine.now.set;
    }
