-- What is judged and said in a form is what is answered for what was read of a file.
use Rattle.std.proofs.Common.{◌≡◌, ℕ, List, codes, refl, subst}
use Rattle.std.specs.Borrow.{Bor}
use Rattle.drvhost_devices.specs.Answer.{Answer, IsVerdict}
use Rattle.drvhost_devices.specs.Device.{Bytes, Holds, Supply}
use Rattle.drvhost_devices.specs.declared.coloring.Coloring.{Coloring}
use Rattle.drvhost_devices.specs.declared.extent.Extent.{Extent}
use Rattle.report.specs.Fault.{unopened_line}
use Rattle.cli.specs.declared.job.Judging.{Judging}
use Rattle.cli.specs.declared.job.Judging.TheVariants.{Check, CheckJson, Explain, ExplainJson}
use Rattle.answer.proofs.AsText.{of_file}
use Rattle.answer.proofs.Checking.{json_of}
use Rattle.answer.specs.Judged.{IsOfContent, IsOfSet}
use Rattle.answer.specs.contracts.as_json.JsonForm.TheImpl.{ghosts as json_form}
use Rattle.answer.specs.contracts.as_text.TextForm.TheImpl.{ghosts as text_form}
use Rattle.answer.specs.declared.content.Content.{Content}
use Rattle.answer.specs.declared.content.Content.TheVariants.{Whole, Unread, Unopened}
use Rattle.answer.specs.declared.form.Form as form
use Rattle.answer_explain.proofs.Explained.{explained_said}
use Rattle.answer_explain.specs.Explained.{IsFileExplained, IsShownFor}
use Rattle.answer_explain.specs.contracts.explaining.ExplainedTextForm.TheImpl.{ghosts as words_form}
use Rattle.answer_explain.proofs.OfJson.{explained_told}
use Rattle.answer_explain.specs.contracts.in_json.ExplainedJsonForm.TheImpl.{ghosts as lines_form}
use Rattle.drvhost_many.specs.One.{IsJudged, IsJudgedFrom}
use Rattle.drvhost_many.specs.Painted.{IsShown}
use Rattle.drvhost_many.proofs.Known.{judged_known}
use Rattle.drvhost_many.proofs.Colored.{shown_rightly, unshown}
use Rattle.drvhost_many.proofs.Reading.{held_known}

-- what is right for bytes of a file is right for what has them
pub judged_of : (judging : Judging) (name : List ℕ) (supply : Supply) (answer : Answer)
    → ((bytes : List ℕ) × Holds supply bytes
    × ((called held : Bor (List ℕ)) × (called.now ≡ name) × (held.now ≡ bytes)
    × IsJudged judging called.now (Bytes held.now) answer))
    → IsJudged judging name supply answer
judged_of judging name supply answer (bytes, holds, (called, held, one, same, right)) =
    let P : List ℕ → Type 0 = λ n. IsJudged judging n (Bytes held.now) answer in
    let Q : List ℕ → Type 0 = λ b. IsJudged judging name (Bytes b) answer in
    judged_known judging name supply (Bytes bytes) (held_known supply bytes holds) answer
    (subst Q same (subst P one right))

-- what is judged of the set of a file, by what was read of it, and said in a form
abbrev pub IsVerdictIn : {F : Type 0} → form.Ghosts F → F → List ℕ → Content → Answer → Type 0
IsVerdictIn says it name content answer =
    IsOfContent says it name (IsOfSet says it name (says.is_accepted it name)) content answer

-- as text
pub check_from : (name : List ℕ) (content : Content) (answer : Answer)
    → IsVerdictIn text_form (record {}) name content answer
    → IsJudgedFrom Check name content answer
check_from name (Whole bytes) answer is =
    (bytes.now, refl, of_file (λ _. IsVerdict) bytes.now answer is)
check_from name Unread answer is = is
check_from name Unopened answer is = is

-- in JSON
pub check_json_from : (name : List ℕ) (content : Content) (answer : Answer)
    → IsVerdictIn json_form (record {}) name content answer
    → IsJudgedFrom CheckJson name content answer
check_json_from name (Whole bytes) answer is =
    (bytes.now, refl, json_of name bytes.now answer is)
check_json_from name Unread answer is = is
check_json_from name Unopened answer is = is

-- with words, and the command of a hunt behind those on a refused set, in colour or without
pub explain_from : (name : List ℕ) (extent : Extent) (coloring : Coloring) (content : Content)
    (answer : Answer)
    → IsShown coloring
    (IsShownFor name (IsVerdictIn words_form (record { extent = extent }) name content)) answer
    → IsJudgedFrom (Explain extent coloring) name content answer
explain_from name extent coloring (Whole bytes) answer is =
    shown_rightly
    (IsShownFor name (IsVerdictIn words_form (record { extent = extent }) name (Whole bytes)))
    (IsFileExplained extent name (Bytes bytes.now)) coloring answer
    (λ plain right. (
      right.0,
      (bytes.now, refl, explained_said extent bytes.now right.0 right.1),
      right.2,
    )) is
explain_from name extent coloring Unread answer is =
    unshown name (codes "read failed\n") coloring answer is
explain_from name extent coloring Unopened answer is =
    unshown name (unopened_line name) coloring answer is

-- with words, in JSON
pub explain_json_from : (name : List ℕ) (extent : Extent) (content : Content) (answer : Answer)
    → IsVerdictIn lines_form (record { extent = extent }) name content answer
    → IsJudgedFrom (ExplainJson extent) name content answer
explain_json_from name extent (Whole bytes) answer is =
    (bytes.now, refl, explained_told extent name bytes.now answer is)
explain_json_from name extent Unread answer is = is
explain_json_from name extent Unopened answer is = is
