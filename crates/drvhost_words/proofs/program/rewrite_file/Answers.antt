use Rattle.std.proofs.Common.{◌≡◌, ◌∙◌, None, Some, List, ℕ, arith, ap, subst, sym}
use Rattle.drvhost_devices.specs.Device.{Supply}
use Rattle.drvhost_devices.specs.Ends.{IsRewriteOf}
use Rattle.drvhost_files.specs.Files.{Stores, contents_of, failures_of}
use Rattle.drvhost_words.proofs.Answering.{answers_quietly, rewrite_known}
use Rattle.drvhost_words.proofs.Rewritten.{rewrites_none, rewrites_some, then_other, unopened_target}
use Rattle.drvhost_words.proofs.program.rewrite_file.Goals as goal

pub returns-in-Some-clause-answers : goal.returns-in-Some-clause-answers
returns-in-Some-clause-answers g c = λ writes written.
    let failures = g.F.Target.Sink.failures in
    let supply = g.F.File.Source.supply c.open-file.result in
    let known = g.F.Files.supply c.args.files.now c.args.set.now in
    let before : failures_of failures c.new-pending.result.target ≡ 0 =
    ap (failures_of failures) c.new-pending.ensures.unopened in
    let after : failures_of failures c.rewrite-status.new.out.target ≡ failures c.in-Some.target =
    ap (failures_of failures) (sym c.into_target-target.ensures ∙ c.in-Some.is) in
    answers_quietly (IsRewriteOf supply) (IsRewriteOf known) _ _ _ _ _ _ _ _ writes _ _ written _ _
    c.rewrite-status.ensures.answers (rewrite_known known supply c.open-file.ensures.supply)
    (omega (arith, c.close.ensures.failures, c.keep.ensures.failures, c.open-file.ensures.unread))
    (omega (arith, before, after, c.close.ensures.unwritten, c.keep.ensures.unwritten))

pub returns-in_default-clause-answers : goal.returns-in_default-clause-answers
returns-in_default-clause-answers g c = λ writes written.
    let failures = g.F.Target.Sink.failures in
    let supply = g.F.File.Source.supply c.open-file.result in
    let known = g.F.Files.supply c.args.files.now c.args.set.now in
    let before : failures_of failures c.new-pending.result.target ≡ 0 =
    ap (failures_of failures) c.new-pending.ensures.unopened in
    let after : failures_of failures c.rewrite-status.new.out.target ≡ 0 =
    ap (failures_of failures) (sym c.into_target-target.ensures ∙ c.in_default.is) in
    answers_quietly (IsRewriteOf supply) (IsRewriteOf known) _ _ _ _ _ _ _ _ writes _ _ written _ _
    c.rewrite-status.ensures.answers (rewrite_known known supply c.open-file.ensures.supply)
    (omega (arith, c.close.ensures.failures, c.open-file.ensures.unread))
    (omega (arith, before, after, c.close.ensures.unwritten))

pub returns-in-Some-clause-stores : goal.returns-in-Some-clause-stores
returns-in-Some-clause-stores g c =
    let contents = g.F.Target.Sink.contents in
    let named = g.F.Files.supply in
    let supply = g.F.File.Source.supply c.open-file.result in
    let known = named c.args.files.now c.args.set.now in
    let pending = c.new-pending.ensures in
    let first =
    unopened_target contents named _ _ _ _ _ pending.files pending.name pending.unopened in
    let never : (c.rewrite-status.new.out ≡ c.new-pending.result) → ⊥ =
    λ same.
    let gone : Some c.in-Some.target ≡ None =
    sym c.in-Some.is ∙ (rw same at c.into_target-target.ensures) ∙ pending.unopened in cc
    in
    let P : (List ℕ → Supply) → Type 0 = λ f.
    Stores f (named c.keep.new.self) c.args.output.now (contents c.in-Some.target) in
    rewrites_some known supply c.open-file.ensures.supply c.args.output.now
    (named c.args.files.now) (named c.keep.new.self) _ _ _ _ _ first _ _ _
    c.rewrite-status.ensures.answers.ends (contents c.in-Some.target)
    (then_other c.rewrite-status.ensures.touched never)
    (ap (contents_of contents _) (sym c.into_target-target.ensures ∙ c.in-Some.is))
    (subst P c.close.ensures.supply c.keep.ensures.stores)
    (omega (arith, c.close.ensures.created, c.keep.ensures.created))

pub returns-in_default-clause-stores : goal.returns-in_default-clause-stores
returns-in_default-clause-stores g c =
    let contents = g.F.Target.Sink.contents in
    let named = g.F.Files.supply in
    let supply = g.F.File.Source.supply c.open-file.result in
    let known = named c.args.files.now c.args.set.now in
    let pending = c.new-pending.ensures in
    let first =
    unopened_target contents named _ _ _ _ _ pending.files pending.name pending.unopened in
    rewrites_none known supply c.open-file.ensures.supply c.args.output.now
    (named c.args.files.now) (named c.close.new.self) _ _ _ _ _ first _ _ _
    c.rewrite-status.ensures.answers.ends _
    (ap (contents_of contents _) (sym c.into_target-target.ensures ∙ c.in_default.is))
    c.close.ensures.supply c.close.ensures.created
