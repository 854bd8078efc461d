use Rattle.std.proofs.Common.{◌≡◌, arith, refl}
use Rattle.drvhost_words.proofs.Behind.{unread_none, unread_one}
use Rattle.drvhost_words.proofs.unread.tell_if_unread.Goals as goal

pub returns-then-reads-eq0 : goal.returns-then-reads-eq0
returns-then-reads-eq0 g c =
    unread_none (λ unread. unread ≡ c.args.name.now) _ _ _ _
    (omega (arith, c.failures-reads.ensures, c.if-reads-eq0.true))

pub returns : goal.returns
returns g c =
    unread_one (λ unread. unread ≡ c.args.name.now) _ _ _ _ _ _ c.args.name.now refl
    (λ none. omega (arith, none, c.failures-reads.ensures, c.if-reads-eq0.false))
    c.tell_unread.ensures
