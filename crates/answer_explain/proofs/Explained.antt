-- What is judged and said with words is what `explain` answers.
use Rattle.std.proofs.Common.{◌++◌, ◌⊎◌, ℕ, List, inl, inr, Err, Ok, Result}
use Rattle.model.specs.Set.{Set}
use Rattle.model.specs.Typable.{IsTypable}
use Rattle.drvhost_devices.specs.Answer.{Answer, FileSays}
use Rattle.drvhost_devices.specs.declared.extent.Extent.{Extent}
use Rattle.answer_explain.specs.Explained.{IsAcceptanceExplained, IsExplainedSaid, IsFaultExplained, IsRefusalExplained}

-- what is judged for bytes and said so
abbrev pub IsWorded : Extent → List ℕ → Answer → Type 0
IsWorded extent bytes answer =
    ((set : Set) × FileSays bytes (Ok set)
    × ((IsTypable set × IsAcceptanceExplained set answer) ⊎ IsRefusalExplained extent set answer))
    ⊎ IsFaultExplained bytes answer

pub explained_said : (extent : Extent) (bytes : List ℕ) (answer : Answer)
    → IsWorded extent bytes answer
    → (said : Result Set (List ℕ)) × FileSays bytes said × IsExplainedSaid extent said answer
explained_said extent bytes answer (inl (set, says, inl (typable, is))) = (Ok set, says, inl is)
explained_said extent bytes answer (inl (set, says, inr is)) = (Ok set, says, inr is)
explained_said extent bytes answer (inr (line, words, says, is)) = (Err line, says, (words, is))

-- an answer with words behind its output
abbrev pub with_words : List ℕ → Answer → Answer
with_words words told = record told { output = told.output ++ words }
