-- A log of SARIF 2.1.0 (OASIS, Static Analysis Results Interchange Format): the rules, and the
-- results for files, with the paths that lead to them. Members of objects stand in the order of
-- their names.
use Rattle.std.specs.Prelude.{ℕ, ◌++◌, Bool, true, bytes_eq, if◌then◌else◌, List, [], ◌∷◌, map, nat_lt, codes, decimal, Option, None, Some, position, string_bytes}
use Rattle.serde_json.specs.Data.{Data, Members, boolean, number, unsigned, string, array, object, no_items, item, member, no_members}
use Rattle.serde_json.specs.View.{items_of}
use Rattle.mend_edits.specs.declared.lines.LineEdit.{LineEdit}
use Rattle.report_sarif.specs.declared.log.Finding.{Finding}
use Rattle.report_sarif.specs.declared.log.Kind.{Kind}
use Rattle.report_sarif.specs.declared.log.Kind.TheVariants.{Fail, Pass}
use Rattle.report_sarif.specs.declared.log.Place.{Place}
use Rattle.report_sarif.specs.declared.log.Region.{Region}
use Rattle.report_sarif.specs.declared.log.RuleText.{RuleText}
use Rattle.report_sarif.specs.declared.log.Step.{Step}
use Rattle.report_sarif.specs.declared.log.TheConstants.{DOCUMENTS, VERSION}
use Rattle.report_sarif.specs.declared.message.Form.TheVariants.{Plain}
use Rattle.report_sarif.specs.Message.{markdown_of, message_of}
use Rattle.report_sarif.specs.Uri.{uri_of}

-- the message that shows a text (3.11), and a page in both forms (3.12)
abbrev pub message_data : List ℕ → Data
message_data text = object (member (codes "text") (string (message_of Plain text)) no_members)

abbrev pub help_data : List ℕ → Data
help_data page =
    object
    (member (codes "markdown") (string (markdown_of page))
    (member (codes "text") (string (message_of Plain page))
    no_members))

-- the word for whether something is wrong (3.27.9), and its level (3.27.10)
abbrev pub kind_word : Kind → List ℕ
kind_word Fail = codes "fail"
kind_word Pass = codes "pass"

abbrev pub level_word : Kind → List ℕ
level_word Fail = codes "error"
level_word Pass = codes "none"

-- a rule (3.49)
abbrev pub level_data : Kind → Data
level_data kind = object (member (codes "level") (string (level_word kind)) no_members)

abbrev pub rule_data : RuleText → Data
rule_data words =
    object
    (member (codes "defaultConfiguration") (level_data words.kind)
    (member (codes "fullDescription") (message_data (string_bytes words.page))
    (member (codes "help") (help_data (string_bytes words.page))
    (member (codes "id") (string (string_bytes words.id))
    (member (codes "name") (string (string_bytes words.name))
    (member (codes "shortDescription") (message_data (string_bytes words.name))
    no_members))))))

-- a region of a text (3.30): a line, and in it the columns from 1, the end not counted in
abbrev pub region_data : Region → Data
region_data region =
    object
    (member (codes "endColumn") (number (unsigned region.end))
    (member (codes "endLine") (number (unsigned region.line))
    (member (codes "startColumn") (number (unsigned region.start))
    (member (codes "startLine") (number (unsigned region.line))
    no_members))))

-- a place (3.28, 3.29): an image has no lines
abbrev pub artifact_data : List ℕ → Data
artifact_data file = object (member (codes "uri") (string (uri_of file)) no_members)

abbrev pub physical_data : List ℕ → Option Region → Data
physical_data file None =
    object (member (codes "artifactLocation") (artifact_data file) no_members)
physical_data file (Some region) =
    object
    (member (codes "artifactLocation") (artifact_data file)
    (member (codes "region") (region_data region)
    no_members))

abbrev pub location_data : List ℕ → Option Region → Data
location_data file region =
    object (member (codes "physicalLocation") (physical_data file region) no_members)

abbrev pub locations_data : Finding → Data
locations_data finding =
    array (item (location_data (string_bytes finding.file) finding.region) no_items)

-- a step of a path (3.38), with its position and what is known there
abbrev pub message_at : Step → List ℕ
message_at step =
    codes "at " ++ (decimal step.position ++ (codes ": " ++ string_bytes step.known))

abbrev pub step_data : List ℕ → Step → Data
step_data file step =
    object
    (member (codes "location")
    (object
    (member (codes "message") (message_data (message_at step))
    (member (codes "physicalLocation") (physical_data file step.region)
    no_members)))
    no_members)

-- a path as that of one thread (3.36, 3.37)
abbrev pub thread_data : List ℕ → List Step → Data
thread_data file steps =
    object (member (codes "locations") (array (items_of (map (step_data file) steps))) no_members)

abbrev pub flow_data : List ℕ → List Step → Data
flow_data file steps =
    object
    (member (codes "threadFlows") (array (item (thread_data file steps) no_items)) no_members)

-- the paths to what is wrong: none of no steps
abbrev pub steps_flows : List ℕ → List Step → List Data
steps_flows file [] = []
steps_flows file (step ∷ steps) = flow_data file (step ∷ steps) ∷ []

abbrev pub flows_data : Finding → List Data
flows_data finding =
    let file = string_bytes finding.file in
    steps_flows file finding.path.items ++ steps_flows file finding.other.items

-- the start of a line of a text that ends at a place: that place, where it ends before the line
abbrev pub start_of : Place → ℕ → Place
start_of end line = if nat_lt end.line line then end else record { line = line; column = 1 }

-- lines that are replaced, up to the start of the one behind them (3.57)
abbrev pub lines_data : Place → LineEdit → Data
lines_data end edit =
    object
    (member (codes "endColumn") (number (unsigned (start_of end edit.end).column))
    (member (codes "endLine") (number (unsigned (start_of end edit.end).line))
    (member (codes "startColumn") (number (unsigned (start_of end edit.start).column))
    (member (codes "startLine") (number (unsigned (start_of end edit.start).line))
    no_members))))

-- what stands there instead (3.3), which is no message; behind a last line without a line feed one
-- is put first
abbrev pub inserted : Place → LineEdit → List ℕ
inserted end edit =
    if nat_lt end.line edit.start then 10 ∷ string_bytes edit.text else string_bytes edit.text

abbrev pub content_data : List ℕ → Data
content_data text = object (member (codes "text") (string text) no_members)

abbrev pub replacement_data : Place → LineEdit → Data
replacement_data end edit =
    object
    (member (codes "deletedRegion") (lines_data end edit)
    (member (codes "insertedContent") (content_data (inserted end edit))
    no_members))

-- how a file is mended that ends at a place (3.55, 3.56): not, where there are no edits
abbrev pub change_data : List ℕ → Place → List LineEdit → Data
change_data file end edits =
    object
    (member (codes "artifactLocation") (artifact_data file)
    (member (codes "replacements") (array (items_of (map (replacement_data end) edits)))
    no_members))

abbrev pub fix_data : List ℕ → Place → List LineEdit → Data
fix_data file end edits =
    object
    (member (codes "artifactChanges")
    (array (item (change_data file end edits) no_items))
    no_members)

abbrev pub fixes_of : List ℕ → Place → List LineEdit → List Data
fixes_of file end [] = []
fixes_of file end (edit ∷ edits) = fix_data file end (edit ∷ edits) ∷ []

abbrev pub fixes_data : Finding → List Data
fixes_data finding = fixes_of (string_bytes finding.file) finding.end finding.fix

-- what is equal in two results that are the same, wherever their lines were moved (3.27.17)
abbrev pub fingerprints_data : List ℕ → Data
fingerprints_data fingerprint =
    object (member (codes "pafteis/v1") (string fingerprint) no_members)

-- a rule has this id
abbrev pub has_id : List ℕ → RuleText → Bool
has_id id words = bytes_eq (string_bytes words.id) id

-- the rule of a result (3.27.5), and its place among the rules, if it is one of them (3.27.6)
abbrev pub rule_members : List ℕ → Option ℕ → Members
rule_members id None = member (codes "ruleId") (string id) no_members
rule_members id (Some place) =
    member (codes "ruleId") (string id)
    (member (codes "ruleIndex") (number (unsigned place))
    no_members)

-- a result (3.27), under the rule of a place
abbrev pub result_under : Option ℕ → Finding → Data
result_under place finding =
    object
    (member (codes "codeFlows") (array (items_of (flows_data finding)))
    (member (codes "fixes") (array (items_of (fixes_data finding)))
    (member (codes "kind") (string (kind_word finding.kind))
    (member (codes "level") (string (level_word finding.kind))
    (member (codes "locations") (locations_data finding)
    (member (codes "message") (message_data (string_bytes finding.message))
    (member (codes "partialFingerprints") (fingerprints_data (string_bytes finding.fingerprint))
    (rule_members (string_bytes finding.rule) place))))))))

abbrev pub result_data : List RuleText → Finding → Data
result_data rules finding =
    result_under (position (has_id (string_bytes finding.rule)) rules) finding

-- the tool (3.18, 3.19)
abbrev pub driver_data : List RuleText → Data
driver_data rules =
    object
    (member (codes "informationUri") (string DOCUMENTS.now)
    (member (codes "name") (string (codes "drvhost"))
    (member (codes "rules") (array (items_of (map rule_data rules)))
    (member (codes "version") (string VERSION.now)
    no_members))))

abbrev pub tool_data : List RuleText → Data
tool_data rules = object (member (codes "driver") (driver_data rules) no_members)

-- that it ran to its end (3.20)
abbrev pub invocation_data : Data
invocation_data = object (member (codes "executionSuccessful") (boolean true) no_members)

-- its run (3.14)
abbrev pub run_data : List RuleText → List Finding → Data
run_data rules findings =
    object
    (member (codes "columnKind") (string (codes "utf16CodeUnits"))
    (member (codes "invocations") (array (item invocation_data no_items))
    (member (codes "results") (array (items_of (map (result_data rules) findings)))
    (member (codes "tool") (tool_data rules)
    no_members))))

-- the log (3.13)
abbrev pub log_data : List RuleText → List Finding → Data
log_data rules findings =
    object
    (member (codes "$schema") (string (codes "https://json.schemastore.org/sarif-2.1.0.json"))
    (member (codes "runs") (array (item (run_data rules findings) no_items))
    (member (codes "version") (string (codes "2.1.0"))
    no_members)))
