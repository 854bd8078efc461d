use Rattle.std.proofs.Common.{◌≡◌, arith, inl, inr, refl}
use Rattle.drvhost_words.specs.Unread.{IsOneOf}
use Rattle.drvhost_words.proofs.Behind.{unread_one, unread_other}
use Rattle.drvhost_words.proofs.unread.tell_which_unread.Goals as goal

pub returns-then-reads-gt0 : goal.returns-then-reads-gt0
returns-then-reads-gt0 g c =
    let set = c.args.names.set.now in
    let input = c.args.names.input.now in
    unread_one (IsOneOf set input) _ _ _ _ _ _ set (inl refl)
    (λ none. omega (arith, none, c.failures-reads.ensures, c.if-reads-gt0.true))
    c.tell_unread.ensures

pub returns : goal.returns
returns g c =
    let set = c.args.names.set.now in
    let input = c.args.names.input.now in
    unread_other (λ unread. unread ≡ input) (IsOneOf set input) _ _ _ _ _ _ _
    (λ name is. inr is)
    (omega (arith, c.failures-reads.ensures, c.if-reads-gt0.false))
    c.tell_if_unread.ensures
