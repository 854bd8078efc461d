use Rattle.std.proofs.lemmas.Option.{slice_get-get_or}
use Rattle.tests_core.proofs.served.queue_of.Goals as goal

pub returns-clause-submitting : goal.returns-clause-submitting
returns-clause-submitting g c =
    λ k d h. (c.in-Ok.ensures.submitters.each k _ (slice_get-get_or _ k d h)).of_queue

pub returns-clause-taking : goal.returns-clause-taking
returns-clause-taking g c =
    λ k d h. (c.in-Ok.ensures.takers.each k _ (slice_get-get_or _ k d h)).of_queue
