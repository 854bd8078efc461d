use Rattle.workers.proofs.serving.serve.Given as goal

abbrev pub ghosts-serve_from-B-Beginning : goal.ghosts-serve_from-B-Beginning
ghosts-serve_from-B-Beginning g a = record { core = a.core; takers = a.takers.items }

abbrev pub ghosts-serve_from-B-Ledger : goal.ghosts-serve_from-B-Ledger
ghosts-serve_from-B-Ledger g a = record { name = a.room.blank.name; parts = a.room.blank.parts }
