use Rattle.std.proofs.Common.{◌∙◌, [], rules}
use Rattle.scenario_run.proofs.Rounds.{turns_on}
use Rattle.scenario_run.proofs.turns.turns_from.Goals as goal

pub loop-thread-preserved : goal.loop-thread-preserved
loop-thread-preserved c =
    turns_on c.threads-threads.result c.loop-thread.thread c.loop-thread.playing
    c.make_turn.new.playing [] c.in_ok-make_turn.field-0 (search rules) c.in_ok-make_turn.ensures
    c.in_default.not-Failed
    ∙ c.loop-thread.invariant
