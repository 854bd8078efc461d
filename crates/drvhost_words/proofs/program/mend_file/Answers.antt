use Rattle.std.proofs.Common.{◌≡◌, ◌∙◌, None, Some, List, ℕ, arith, ap, inl, inr, refl, subst, sym}
use Rattle.drvhost_devices.specs.Answer.{IsUnopened}
use Rattle.drvhost_devices.specs.Device.{Supply}
use Rattle.drvhost_files.specs.Files.{Stores, contents_of, failures_of}
use Rattle.drvhost_many.proofs.Known.{closed_known}
use Rattle.drvhost_many.proofs.Judged.{may_be_closed}
use Rattle.answer_mends.specs.Apply.{IsApplyOf}
use Rattle.drvhost_words.specs.Program.{IsOfApply}
use Rattle.drvhost_words.specs.Unread.{IsNamedUnread}
use Rattle.drvhost_words.proofs.Answering.{answers_alone, answers_unread}
use Rattle.drvhost_words.proofs.Mended.{answers_moved, apply_known, mends_none, mends_some, told_unopened}
use Rattle.drvhost_words.proofs.Rewritten.{then_other, unopened_target}
use Rattle.drvhost_words.proofs.program.mend_file.Goals as goal

pub returns-then-is_closed-clause-answers : goal.returns-then-is_closed-clause-answers
returns-then-is_closed-clause-answers g c =
    let known = g.F.Files.supply c.args.files.now in
    let name = c.args.mending.set.now in
    let closed = c.is_closed.ensures.0 c.if-is_closed.true in
    answers_moved (IsUnopened name) (IsOfApply c.args.mending.asked known name)
    _ _ _ _ _ _ _ _ _ _ _ _
    (answers_alone _ _ _ _ _ _ _ (IsNamedUnread (λ unread. unread ≡ name) _ _) _ _ _ _ _
    (inl (omega (arith, c.close.ensures.failures, c.open-file.ensures.unread), refl))
    (c.tell_unopened.ensures (g.F.Files.failures c.args.files.now)
    (g.F.Files.unwritten c.args.files.now) (g.O.Sink.contents c.args.out.now)))
    (λ answer right. inr (closed_known (known name) _ c.open-file.ensures.supply (may_be_closed _ closed), right))
    (omega (arith, c.close.ensures.failures, c.open-file.ensures.unread))
    (omega (arith, c.close.ensures.unwritten))

pub returns-then-is_closed-clause-stores : goal.returns-then-is_closed-clause-stores
returns-then-is_closed-clause-stores g c =
    let told = c.tell_unopened.ensures 0 0 None in
    inl (
      record { supply = c.close.ensures.supply; none = c.close.ensures.created },
      told_unopened _ _ _ _ _ _ _ told.ends,
    )

pub returns-in-Some-clause-answers : goal.returns-in-Some-clause-answers
returns-in-Some-clause-answers g c =
    let failures = g.F.Target.Sink.failures in
    let supply = g.F.File.Source.supply c.open-file.result in
    let known = g.F.Files.supply c.args.files.now in
    let name = c.args.mending.set.now in
    let asked = c.args.mending.asked in
    let before : failures_of failures c.new-pending.result.target ≡ 0 =
    ap (failures_of failures) c.new-pending.ensures.unopened in
    let after : failures_of failures c.apply-status.new.target.target ≡ failures c.in-Some.target =
    ap (failures_of failures) (sym c.into_target-target.ensures ∙ c.in-Some.is) in
    answers_moved (IsApplyOf asked supply) (IsOfApply asked known name) _ _ _ _ _ _ _ _ _ _ _ _
    (answers_unread _ _ _ _ _ _ _ (λ unread. unread ≡ name) _ _ _ _ _ _ _ _ _ _
    c.apply-status.ensures.answers (rw c.failures-failures.ensures at c.tell_if_unread.ensures)
    (omega (arith, c.close-2.ensures.failures, c.keep.ensures.failures)))
    (λ answer right. inl
    (apply_known asked (known name) supply c.open-file.ensures.supply answer right))
    (omega (arith, c.close-2.ensures.failures, c.keep.ensures.failures, c.open-file.ensures.unread))
    (omega (arith, before, after, c.close-2.ensures.unwritten, c.keep.ensures.unwritten))

pub returns-in_default-clause-answers : goal.returns-in_default-clause-answers
returns-in_default-clause-answers g c =
    let failures = g.F.Target.Sink.failures in
    let supply = g.F.File.Source.supply c.open-file.result in
    let known = g.F.Files.supply c.args.files.now in
    let name = c.args.mending.set.now in
    let asked = c.args.mending.asked in
    let before : failures_of failures c.new-pending.result.target ≡ 0 =
    ap (failures_of failures) c.new-pending.ensures.unopened in
    let after : failures_of failures c.apply-status.new.target.target ≡ 0 =
    ap (failures_of failures) (sym c.into_target-target.ensures ∙ c.in_default.is) in
    answers_moved (IsApplyOf asked supply) (IsOfApply asked known name) _ _ _ _ _ _ _ _ _ _ _ _
    (answers_unread _ _ _ _ _ _ _ (λ unread. unread ≡ name) _ _ _ _ _ _ _ _ _ _
    c.apply-status.ensures.answers (rw c.failures-failures.ensures at c.tell_if_unread.ensures)
    (omega (arith, c.close-2.ensures.failures)))
    (λ answer right. inl
    (apply_known asked (known name) supply c.open-file.ensures.supply answer right))
    (omega (arith, c.close-2.ensures.failures, c.open-file.ensures.unread))
    (omega (arith, before, after, c.close-2.ensures.unwritten))

pub returns-in-Some-clause-stores : goal.returns-in-Some-clause-stores
returns-in-Some-clause-stores g c =
    let contents = g.F.Target.Sink.contents in
    let named = g.F.Files.supply in
    let supply = g.F.File.Source.supply c.open-file.result in
    let name = c.args.mending.set.now in
    let pending = c.new-pending.ensures in
    let first =
    unopened_target contents named _ _ _ _ _ pending.files pending.name pending.unopened in
    let never : (c.apply-status.new.target ≡ c.new-pending.result) → ⊥ =
    λ same.
    let gone : Some c.in-Some.target ≡ None =
    sym c.in-Some.is ∙ (rw same at c.into_target-target.ensures) ∙ pending.unopened in cc
    in
    let P : (List ℕ → Supply) → Type 0 = λ f.
    Stores f (named c.keep.new.self) name (contents c.in-Some.target) in
    mends_some c.args.mending.asked name (named c.args.files.now) (named c.keep.new.self) supply
    c.open-file.ensures.supply _ _ _ _ _ _ _ (contents c.in-Some.target) first
    (then_other c.apply-status.ensures.touched (λ left. never left.0))
    (ap (contents_of contents _) (sym c.into_target-target.ensures ∙ c.in-Some.is))
    (subst P c.close-2.ensures.supply c.keep.ensures.stores)
    (omega (arith, c.close-2.ensures.created, c.keep.ensures.created))

pub returns-in_default-clause-stores : goal.returns-in_default-clause-stores
returns-in_default-clause-stores g c =
    let contents = g.F.Target.Sink.contents in
    let named = g.F.Files.supply in
    let supply = g.F.File.Source.supply c.open-file.result in
    let name = c.args.mending.set.now in
    let pending = c.new-pending.ensures in
    let first =
    unopened_target contents named _ _ _ _ _ pending.files pending.name pending.unopened in
    mends_none c.args.mending.asked name (named c.args.files.now) (named c.close-2.new.self) supply
    c.open-file.ensures.supply _ _ _ _ _ _ _ _ first c.apply-status.ensures.touched
    (ap (contents_of contents _) (sym c.into_target-target.ensures ∙ c.in_default.is))
    c.close-2.ensures.supply c.close-2.ensures.created
