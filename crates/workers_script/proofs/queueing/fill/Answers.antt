use Rattle.std.proofs.Common.{◌∙◌, ap, arith}
use Rattle.std.proofs.lemmas.List.{length-set}
use Rattle.intake.specs.Lists.{weigh}
use Rattle.workers_script.proofs.OneSubmitter.{is_new, share_kept, submitter_kept, weigh_one}
use Rattle.workers_script.proofs.queueing.fill.Goals as goal

pub submit_all-back-requires-clause-queue : goal.submit_all-back-requires-clause-queue
submit_all-back-requires-clause-queue g c =
    (is_new _ _ _ c.requires.new c.index_mut.ensures.value).of_queue

pub submit_all-back-requires-clause-number : goal.submit_all-back-requires-clause-number
submit_all-back-requires-clause-number g c =
    (is_new _ _ _ c.requires.new c.index_mut.ensures.value).numbered

pub submit_all-back-requires-clause-new : goal.submit_all-back-requires-clause-new
submit_all-back-requires-clause-new g c =
    (is_new _ _ _ c.requires.new c.index_mut.ensures.value).put_nothing

pub returns-clause-some : goal.returns-clause-some
returns-clause-some g c =
    let after = c.submit_all-back.new.submitter in
    let one = c.requires.new.counted in
    omega (arith, one, length-set c.args.submitters.now.items 0 after)

pub returns-clause-submitters : goal.returns-clause-submitters
returns-clause-submitters g c =
    let new = is_new _ _ _ c.requires.new c.index_mut.ensures.value in
    submitter_kept _ _ c.submit_all-back.new.submitter c.requires.new.counted
    (c.submit_all-back.ensures.queue ∙ new.of_queue)

pub returns-clause-shares : goal.returns-clause-shares
returns-clause-shares g c =
    share_kept _ c.index_mut.result.now c.submit_all-back.new.submitter c.requires.new.counted
    c.index_mut.ensures.value c.submit_all-back.ensures.share

pub returns-clause-put : goal.returns-clause-put
returns-clause-put g c =
    λ h. weigh_one h c.args.submitters.now.items c.submit_all-back.new.submitter
    c.requires.new.counted
    ∙ ap (weigh h) c.submit_all-back.ensures.put
