use Rattle.answer_logs.proofs.Ending.{files_end, files_unread}
use Rattle.answer_logs.proofs.logging.log_files.Goals as goal

pub returns-in-Ok-clause-answers : goal.returns-in-Ok-clause-answers
returns-in-Ok-clause-answers g c =
    files_end _ _ c.args.names.now _ _ _ _ _ _ _ _ _ _ c.in-Ok.found c.in-Ok.ensures.reads
    (c.tell.ensures 0)

pub returns-in-Err-clause-answers : goal.returns-in-Err-clause-answers
returns-in-Err-clause-answers g c =
    files_unread _ _ c.args.names.now _ _ _ _ _ _ _ _ _ _ _ _ c.read_all.ensures.reads
    c.no_memory.ensures.status c.no_memory.ensures.told
