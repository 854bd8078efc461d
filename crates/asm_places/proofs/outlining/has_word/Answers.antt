use Rattle.std.proofs.Common.{◌≡◌, ◌∙◌, ◌∷◌, sym}
use Rattle.text.specs.Cut.{tokens_of}
use Rattle.asm_places.proofs.Words.{other_word}
use Rattle.asm_places.proofs.outlining.has_word.Goals as goal

pub returns-in-Some : goal.returns-in-Some
returns-in-Some c = λ other.
    let raw = c.args.raw.now in
    let word = c.in-Some.word.now in
    let tokens : tokens_of raw ≡ word ∷ c.next.new.self = sym c.of.ensures ∙ c.in-Some.ensures in
    other_word raw word c.next.new.self tokens (sym c.is_outline_word.ensures ∙ other)
