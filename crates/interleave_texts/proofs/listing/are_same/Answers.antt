use Rattle.std.proofs.Common.{Bool, IsTrue, subst}
use Rattle.interleave_texts.proofs.Comparing.{empty_same, never, not_empty, same_empty, same_first}
use Rattle.interleave_texts.proofs.listing.are_same.Goals as goal

pub returns-in_default-split_first : goal.returns-in_default-split_first
returns-in_default-split_first c = (
  λ h. never h,
  λ same. not_empty _ _ _ _ (c.in-Some.ensures.cases).0 c.in_default-split_first.ensures.cases
      (c.loop-one.invariant.left same),
)

pub returns-then-not-is_same : goal.returns-then-not-is_same
returns-then-not-is_same c = (
  λ h. never h,
  λ same.
      let B : Bool → Type 0 = λ b. IsTrue b in
      subst B c.if-not-is_same.true
      (c.is_same.ensures.1
      (same_first _ _ _ _ _ _ (c.in-Some.ensures.cases).0 (c.in-Some-split_first.ensures.cases).0
      (c.loop-one.invariant.left same))),
)

pub returns : goal.returns
returns c =
    let left = c.loop-one.left.now in
    let right = c.loop-one.right.now in
    let none = c.in_default.ensures.cases in (
      λ h. c.loop-one.invariant.all
          (empty_same left right c.is_empty.result none c.is_empty.ensures h),
      λ same. same_empty left right c.is_empty.result none c.is_empty.ensures
          (c.loop-one.invariant.left same),
    )
