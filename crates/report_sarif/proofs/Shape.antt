-- The text of a log: how deep it nests, and that no number in it is a float.
use Rattle.std.proofs.Common.{◌≡◌, ◌≤◌, ◌++◌, ℕ, List, [], ◌∷◌, map, Option, None, Some, position, IfOk, Result, Ok, Err, String, false, refl, arith, string_bytes, subst}
use Rattle.std.specs.Global.{Global}
use Rattle.serde_json.specs.Data.{Data, depth, items_depth, members_depth}
use Rattle.serde_json.specs.Read.{max_depth, read}
use Rattle.serde_json.specs.View.{items_of}
use Rattle.serde_json.specs.Written.{compact_text, has_float, items_have_float, members_have_float}
use Rattle.mend_edits.specs.declared.lines.LineEdit.{LineEdit}
use Rattle.report_sarif.specs.declared.log.Finding.{Finding}
use Rattle.report_sarif.specs.declared.log.Place.{Place}
use Rattle.report_sarif.specs.declared.log.Region.{Region}
use Rattle.report_sarif.specs.declared.log.RuleText.{RuleText}
use Rattle.report_sarif.specs.declared.log.Step.{Step}
use Rattle.report_sarif.specs.Log.{fixes_data, fixes_of, flows_data, has_id, log_data, physical_data, replacement_data, result_data, result_under, rule_data, rule_members, step_data, steps_flows}

rules_shallow : (rules : List RuleText) → items_depth (items_of (map rule_data rules)) ≤ 2
rules_shallow [] = omega arith
rules_shallow (words ∷ rules) = omega (arith, rules_shallow rules)

physical_shallow : (file : List ℕ) (region : Option Region) → depth (physical_data file region) ≤ 2
physical_shallow file None = omega arith
physical_shallow file (Some region) = omega arith

steps_shallow : (file : List ℕ) (steps : List Step)
    → items_depth (items_of (map (step_data file) steps)) ≤ 5
steps_shallow file [] = omega arith
steps_shallow file (step ∷ steps) =
    omega (arith, physical_shallow file step.region, steps_shallow file steps)

-- behind the paths of some steps
behind_shallow : (file : List ℕ) (steps : List Step) (flows : List Data)
    → items_depth (items_of flows) ≤ 10
    → items_depth (items_of (steps_flows file steps ++ flows)) ≤ 10
behind_shallow file [] flows h = h
behind_shallow file (step ∷ steps) flows h =
    omega (arith, steps_shallow file (step ∷ steps), h)

alone_shallow : (file : List ℕ) (steps : List Step)
    → items_depth (items_of (steps_flows file steps)) ≤ 10
alone_shallow file [] = omega arith
alone_shallow file (step ∷ steps) = omega (arith, steps_shallow file (step ∷ steps))

flows_shallow : (finding : Finding) → items_depth (items_of (flows_data finding)) ≤ 10
flows_shallow finding =
    let file = string_bytes finding.file in
    behind_shallow file finding.path.items (steps_flows file finding.other.items)
    (alone_shallow file finding.other.items)

replacements_shallow : (end : Place) (all : List LineEdit)
    → items_depth (items_of (map (replacement_data end) all)) ≤ 2
replacements_shallow end [] = omega arith
replacements_shallow end (one ∷ all) = omega (arith, replacements_shallow end all)

fix_shallow : (file : List ℕ) (end : Place) (all : List LineEdit)
    → items_depth (items_of (fixes_of file end all)) ≤ 10
fix_shallow file end [] = omega arith
fix_shallow file end (one ∷ all) = omega (arith, replacements_shallow end (one ∷ all))

fixes_shallow : (finding : Finding) → items_depth (items_of (fixes_data finding)) ≤ 10
fixes_shallow finding = fix_shallow (string_bytes finding.file) finding.end finding.fix

rule_shallow : (id : List ℕ) (place : Option ℕ) → members_depth (rule_members id place) ≤ 1
rule_shallow id None = omega arith
rule_shallow id (Some place) = omega arith

result_shallow : (place : Option ℕ) (finding : Finding)
    → depth (result_under place finding) ≤ 20
result_shallow place finding =
    omega (
      arith,
      flows_shallow finding,
      fixes_shallow finding,
      physical_shallow (string_bytes finding.file) finding.region,
      rule_shallow (string_bytes finding.rule) place,
    )

results_shallow : (rules : List RuleText) (findings : List Finding)
    → items_depth (items_of (map (result_data rules) findings)) ≤ 20
results_shallow rules [] = omega arith
results_shallow rules (finding ∷ findings) =
    let place = position (has_id (string_bytes finding.rule)) rules in
    omega (arith, result_shallow place finding, results_shallow rules findings)

log_shallow : (rules : List RuleText) (findings : List Finding)
    → depth (log_data rules findings) ≤ max_depth
log_shallow rules findings = omega (arith, rules_shallow rules, results_shallow rules findings)

rules_plain : (rules : List RuleText) → items_have_float (items_of (map rule_data rules)) ≡ false
rules_plain [] = refl
rules_plain (words ∷ rules) = rules_plain rules

physical_plain : (file : List ℕ) (region : Option Region)
    → has_float (physical_data file region) ≡ false
physical_plain file None = refl
physical_plain file (Some region) = refl

steps_plain : (file : List ℕ) (steps : List Step)
    → items_have_float (items_of (map (step_data file) steps)) ≡ false
steps_plain file [] = refl
steps_plain file (step ∷ steps) =
    rw (physical_plain file step.region, steps_plain file steps) refl

behind_plain : (file : List ℕ) (steps : List Step) (flows : List Data)
    → items_have_float (items_of flows) ≡ false
    → items_have_float (items_of (steps_flows file steps ++ flows)) ≡ false
behind_plain file [] flows h = h
behind_plain file (step ∷ steps) flows h = rw (steps_plain file (step ∷ steps), h) refl

alone_plain : (file : List ℕ) (steps : List Step)
    → items_have_float (items_of (steps_flows file steps)) ≡ false
alone_plain file [] = refl
alone_plain file (step ∷ steps) = rw (steps_plain file (step ∷ steps)) refl

flows_plain : (finding : Finding) → items_have_float (items_of (flows_data finding)) ≡ false
flows_plain finding =
    let file = string_bytes finding.file in
    behind_plain file finding.path.items (steps_flows file finding.other.items)
    (alone_plain file finding.other.items)

replacements_plain : (end : Place) (all : List LineEdit)
    → items_have_float (items_of (map (replacement_data end) all)) ≡ false
replacements_plain end [] = refl
replacements_plain end (one ∷ all) = replacements_plain end all

fix_plain : (file : List ℕ) (end : Place) (all : List LineEdit)
    → items_have_float (items_of (fixes_of file end all)) ≡ false
fix_plain file end [] = refl
fix_plain file end (one ∷ all) = rw (replacements_plain end (one ∷ all)) refl

fixes_plain : (finding : Finding) → items_have_float (items_of (fixes_data finding)) ≡ false
fixes_plain finding = fix_plain (string_bytes finding.file) finding.end finding.fix

rule_plain : (id : List ℕ) (place : Option ℕ)
    → members_have_float (rule_members id place) ≡ false
rule_plain id None = refl
rule_plain id (Some place) = refl

result_plain : (place : Option ℕ) (finding : Finding)
    → has_float (result_under place finding) ≡ false
result_plain place finding =
    rw (
      flows_plain finding,
      fixes_plain finding,
      physical_plain (string_bytes finding.file) finding.region,
      rule_plain (string_bytes finding.rule) place,
    )
    refl

results_plain : (rules : List RuleText) (findings : List Finding)
    → items_have_float (items_of (map (result_data rules) findings)) ≡ false
results_plain rules [] = refl
results_plain rules (finding ∷ findings) =
    let place = position (has_id (string_bytes finding.rule)) rules in
    rw (result_plain place finding, results_plain rules findings) refl

log_plain : (rules : List RuleText) (findings : List Finding)
    → has_float (log_data rules findings) ≡ false
log_plain rules findings = rw (results_plain rules findings, rules_plain rules) refl

-- what is written for a value that is a log
pub written : {E : Type 0} (rules : List RuleText) (findings : List Finding) (value : Data)
    (r : Result (String Global) E) → value ≡ log_data rules findings
    → IfOk r (λ s. has_float value ≡ false → string_bytes s ≡ compact_text value)
    → IfOk r (λ s. string_bytes s ≡ compact_text (log_data rules findings))
written rules findings value (Ok s) is text =
    let P : Data → Type 0 = λ d. has_float d ≡ false → string_bytes s ≡ compact_text d in
    subst P is text (log_plain rules findings)
written rules findings value (Err e) is text = tt

-- and read back
pub reads_back : {E : Type 0} (rules : List RuleText) (findings : List Finding) (value : Data)
    (r : Result (String Global) E) → value ≡ log_data rules findings
    → IfOk r (λ s. depth value ≤ max_depth → read (string_bytes s) ≡ Some value)
    → IfOk r (λ s. read (string_bytes s) ≡ Some (log_data rules findings))
reads_back rules findings value (Ok s) is back =
    let P : Data → Type 0 = λ d. depth d ≤ max_depth → read (string_bytes s) ≡ Some d in
    subst P is back (log_shallow rules findings)
reads_back rules findings value (Err e) is back = tt
