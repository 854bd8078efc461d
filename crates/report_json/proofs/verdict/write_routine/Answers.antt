use Rattle.std.proofs.lemmas.Result.{on_ok_weaker}
use Rattle.json.specs.Json.{no_members}
use Rattle.report_json.proofs.Routines.{object_put}
use Rattle.report_json.proofs.verdict.write_routine.Goals as goal

pub returns-clause-tokens : goal.returns-clause-tokens
returns-clause-tokens c =
    on_ok_weaker c.end_object.result
    (object_put c.args.routine.now no_members c.args.out.now.tokens _ _ c.end_object.new.self.tokens
    c.in_ok-begin_object.ensures.ok c.in_ok-put_routine.ensures.tokens)
    c.end_object.ensures.ok
