use Rattle.answer_explain.proofs.Images.{stable}
use Rattle.answer_explain.proofs.laws.rewriting_is_stable.Goals as goal

pub returns : goal.returns
returns c = λ set one other.
    stable c.bytes_spell_one.ensures c.images_are_faultless.ensures set one other
