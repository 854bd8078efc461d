-- The objects of verdicts that are explained.
use Rattle.std.specs.Prelude.{ℕ, List, [], ◌∷◌, codes, decimal, Option, None, Some, string_bytes}
use Rattle.json.specs.Json.{Json, null, number, string, array, object, Items, no_items, item, no_members, member}
use Rattle.mend_edits.specs.declared.lines.LineEdit.{LineEdit}
use Rattle.model.specs.declared.abs.Refusal.{Refusal}
use Rattle.model.specs.Words.{rule_word}
use Rattle.report.specs.Rule.{rule_name}
use Rattle.report_json.specs.declared.verdict.CertifiedRoutine.{CertifiedRoutine}
use Rattle.report_json.specs.Verdict.{routines_json}
use Rattle.report_sarif.specs.declared.log.Region.{Region}
use Rattle.report_sarif.specs.declared.log.Step.{Step}
use Rattle.answer_explain.specs.declared.shown.Shown.{Shown}

-- the name of the shape, and its edition
abbrev pub explanation_format : List ℕ
explanation_format = codes "pafteis.explanation/1"

-- where something stands in a text: the line, and in it the columns from 1, the end not counted in;
-- nowhere in an image
abbrev pub region_json : Option Region → Json
region_json None = null
region_json (Some region) =
    object
    (member (codes "line") (number (decimal region.line))
    (member (codes "column") (number (decimal region.start))
    (member (codes "end") (number (decimal region.end))
    no_members)))

-- a step of a path, and what is known where the path arrives there
abbrev pub step_json : Step → Json
step_json step =
    object
    (member (codes "position") (number (decimal step.position))
    (member (codes "region") (region_json step.region)
    (member (codes "known") (string (string_bytes step.known))
    no_members)))

abbrev pub steps_json : List Step → Items
steps_json [] = no_items
steps_json (step ∷ steps) = item (step_json step) (steps_json steps)

-- an edit of whole lines: from the number of the first up to that of the one behind the last, and
-- what stands there instead
abbrev pub edit_json : LineEdit → Json
edit_json edit =
    object
    (member (codes "start") (number (decimal edit.start))
    (member (codes "end") (number (decimal edit.end))
    (member (codes "text") (string (string_bytes edit.text))
    no_members)))

abbrev pub edits_json : List LineEdit → Items
edits_json [] = no_items
edits_json (edit ∷ edits) = item (edit_json edit) (edits_json edits)

-- what is told on a refusal: why the rule is broken, and how to mend it, in words and by edits of
-- the text
pub record Lesson : Type 0 where
  pub why : List ℕ
  pub fix : List ℕ
  pub edits : List LineEdit

-- a refusal, with what shows it
abbrev pub refusal_explained_json : List ℕ → Refusal → Option Region → Shown → Lesson → Json
refusal_explained_json file refusal region shown lesson =
    object
    (member (codes "format") (string explanation_format)
    (member (codes "file") (string file)
    (member (codes "verdict") (string (codes "refused"))
    (member (codes "rule") (string (rule_word refusal.rule))
    (member (codes "rule_name") (string (rule_name refusal.rule))
    (member (codes "driver") (number (decimal refusal.driver))
    (member (codes "routine") (number (decimal refusal.routine))
    (member (codes "position") (number (decimal refusal.at))
    (member (codes "region") (region_json region)
    (member (codes "path") (array (steps_json shown.path.items))
    (member (codes "other_path") (array (steps_json shown.other.items))
    (member (codes "why") (string lesson.why)
    (member (codes "fix") (string lesson.fix)
    (member (codes "edits") (array (edits_json lesson.edits))
    no_members))))))))))))))

-- an accepted set, with words on its routines and on the order in which its drivers take locks
abbrev pub acceptance_explained_json : List ℕ → List CertifiedRoutine → List ℕ → Json
acceptance_explained_json file routines words =
    object
    (member (codes "format") (string explanation_format)
    (member (codes "file") (string file)
    (member (codes "verdict") (string (codes "accepted"))
    (member (codes "routines") (array (routines_json routines))
    (member (codes "words") (string words)
    no_members)))))
