use Rattle.std.proofs.Common.{◌≡◌, ◌∙◌, ◌++◌, ℕ, List, ap, string_bytes, false}
use Rattle.std.proofs.lemmas.Result.{IfOk-weaker}
use Rattle.answer_stats.specs.Sizes.{sizes_of}
use Rattle.answer_stats.specs.Stats.{AreWordsOn, sizes_text}
use Rattle.answer_stats.proofs.Adding.{more}
use Rattle.answer_stats.proofs.stats.words_on.Goals as goal

pub returns : goal.returns
returns c =
    let bytes = c.args.bytes.now in
    let set = c.args.accepted.now in
    let made = c.add_sizes.new.words in
    let told : List ℕ = sizes_text (sizes_of bytes set) in
    let orders : List ℕ = string_bytes c.in_ok-orders.orders in
    let warnings : List ℕ = string_bytes c.in_ok-warned.warned in
    IfOk-weaker c.finish.result (λ text. (made.lacks ≡ false) × (text ≡ made.text))
    (λ words. AreWordsOn bytes set (string_bytes words))
    (λ words whole.
    (let sizes = c.add_sizes.ensures whole.0 in
    let warned = c.add-2.ensures sizes.0 in
    let ordered = c.add.ensures warned.0 in
    let begun : List ℕ = string_bytes c.add.new.self.text in
    let first : begun ≡ orders =
    rw (c.new-words.ensures.text, c.as_str.ensures.value) at ordered.1 in
    let second : string_bytes c.add-2.new.self.text ≡ begun ++ warnings =
    rw c.as_str-2.ensures.value at warned.1 in
    let third : string_bytes made.text ≡ string_bytes c.add-2.new.self.text ++ told =
    rw (c.sizes_of-sizes.ensures, c.set.ensures.same) at sizes.1 in
    record {
      orders = orders;
      ordered = c.in_ok-orders.ensures {u = tt};
      warnings = warnings;
      warned = c.in_ok-warned.ensures {u = tt};
      are = ap (λ text. string_bytes text) whole.1
          ∙ more begun warnings told (string_bytes c.add-2.new.self.text) (string_bytes made.text)
          second third
          ∙ ap (λ (text : List ℕ). text ++ (warnings ++ told)) first;
    }))
    c.finish.ensures
