use Rattle.std.proofs.Common.{ℕ, List, subst, sym}
use Rattle.interleave.specs.Listing.{Lists}
use Rattle.interleave_texts.proofs.Comparing.{not_both}
use Rattle.interleave_texts.proofs.listing.listing.Goals as goal

pub returns-then-branch-clause-listed : goal.returns-then-branch-clause-listed
returns-then-branch-clause-listed c =
    let P : List ℕ → Type 0 = λ text.
    Lists text (record { threads = c.args.threads; events = c.args.events.now }) in
    subst P c.as_slice.ensures.value (c.in_ok-lists.ensures.0 c.if-branch.true)

pub returns-clause-unlisted : goal.returns-clause-unlisted
returns-clause-unlisted c = λ lists.
    let P : List ℕ → Type 0 = λ text.
    Lists text (record { threads = c.args.threads; events = c.args.events.now }) in
    not_both c.in_ok-lists.field-0
    (c.in_ok-lists.ensures.1
    (subst P (sym c.as_slice.ensures.value) (subst P (sym c.in_ok-text.ensures) lists)))
    c.if-branch.false
