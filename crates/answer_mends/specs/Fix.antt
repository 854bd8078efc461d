-- What a fix is worth: edits of whole lines of a text.
use Rattle.std.specs.Prelude.{ℕ, ◌≡◌, ◌⊎◌, List, []}
use Rattle.mend_edits.specs.declared.lines.LineEdit.{LineEdit}
use Rattle.mend_edits.specs.Lines.{edited}
use Rattle.model.specs.declared.abs.Refusal.{Refusal}
use Rattle.answer_mends.specs.declared.judging.Extent.{Extent}
use Rattle.answer_mends.specs.Mend.{NamesOf}

-- there are no edits; or what they make of a text mends some of it, why the set is refused which it
-- names: the set that it names then is accepted, or its first fault is in a later routine
abbrev pub IsFix : Refusal → List ℕ → List LineEdit → Type 0
IsFix refusal text edits =
    (edits ≡ []) ⊎ ((extent : Extent) × NamesOf extent refusal (edited text edits))
