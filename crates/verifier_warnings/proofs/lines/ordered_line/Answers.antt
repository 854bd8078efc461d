use Rattle.std.proofs.Common.{◌≡◌, ◌∙◌, ap, string_bytes, sym, [], true, slice_get}
use Rattle.std.proofs.lemmas.Result.{IfOk-weaker}
use Rattle.model.specs.Set.{Set}
use Rattle.verifier_warnings.specs.Lines.{IsOrderLine, order_words, takes_lock}
use Rattle.verifier_warnings.specs.Orders.{EndsWith}
use Rattle.verifier_warnings.proofs.Telling.{order_line_by}
use Rattle.verifier_warnings.proofs.lines.ordered_line.Goals as goal

pub returns : goal.returns
returns c =
    let set = c.args.accepted.now in
    let paired = c.args.paired.now in
    let takes : paired ≡ [] → takes_lock (slice_get set.drivers c.args.number) ≡ true = λ none.
    ap (λ (given : Set). takes_lock (slice_get given.drivers c.args.number)) (sym c.set.ensures.same)
    ∙ sym c.takes_lock.ensures ∙ c.if-not-takes_lock.false in
    IfOk-weaker c.line_of.result
    (λ line. EndsWith (string_bytes line) (order_words paired))
    (λ line. IsOrderLine set c.args.number (string_bytes line))
    (λ line ends. order_line_by set c.args.number paired (string_bytes line) c.requires takes ends)
    c.line_of.ensures
