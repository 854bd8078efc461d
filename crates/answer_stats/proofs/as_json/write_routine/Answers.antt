use Rattle.std.specs.Prelude.{codes}
use Rattle.std.proofs.lemmas.Result.{on_ok_weaker}
use Rattle.json.specs.Json.{no_members, member}
use Rattle.report_json.proofs.Routines.{object_put}
use Rattle.report_json.proofs.Steps.{last}
use Rattle.report_json.specs.Told.{number_json}
use Rattle.answer_stats.proofs.as_json.write_routine.Goals as goal

pub returns-clause-tokens : goal.returns-clause-tokens
returns-clause-tokens c =
    let v = c.put_routine.new.out.tokens in
    let length = c.code_length-length.result in
    let rest = last _ v _ _ _ _ c.in_ok-put_optional.ensures.tokens c.end_object.ensures.ok in
    let done = on_ok_weaker c.end_object.result
    (object_put c.args.routine.now (member (codes "instructions") (number_json length) no_members)
    c.args.out.now.tokens _ v c.end_object.new.self.tokens c.in_ok-begin_object.ensures.ok
    c.in_ok-put_routine.ensures.tokens)
    rest in
    rw c.code_length-length.ensures at done
