use Rattle.drvhost_told.proofs.host.serve_source.Goals as goal

pub returns-clause-told : goal.returns-clause-told
returns-clause-told g c =
    c.in_ok-serve_read.ensures (g.P.Source.supply c.args.script.now) c.in_ok-read.ensures.script
