-- How deep the objects of explanations nest.
use Rattle.std.proofs.Common.{◌≤◌, ℕ, List, [], ◌∷◌, Option, None, Some, arith}
use Rattle.json.specs.Json.{max_depth}
use Rattle.json.specs.Tree.{depth, items_depth}
use Rattle.mend_edits.specs.declared.lines.LineEdit.{LineEdit}
use Rattle.model.specs.declared.abs.Refusal.{Refusal}
use Rattle.report_json.specs.declared.verdict.CertifiedRoutine.{CertifiedRoutine}
use Rattle.report_json.specs.Nesting.{acceptance_nests}
use Rattle.report_sarif.specs.declared.log.Region.{Region}
use Rattle.report_sarif.specs.declared.log.Step.{Step}
use Rattle.answer_explain.specs.declared.shown.Shown.{Shown}
use Rattle.answer_explain.specs.Explanation.{Lesson, acceptance_explained_json, edits_json, refusal_explained_json, region_json, step_json, steps_json}

region_nests : (region : Option Region) → depth (region_json region) ≤ 1
region_nests None = omega arith
region_nests (Some region) = omega arith

step_nests : (step : Step) → depth (step_json step) ≤ 2
step_nests step = omega (arith, region_nests step.region)

steps_nest : (steps : List Step) → items_depth (steps_json steps) ≤ 2
steps_nest [] = omega arith
steps_nest (step ∷ steps) = omega (arith, step_nests step, steps_nest steps)

edits_nest : (edits : List LineEdit) → items_depth (edits_json edits) ≤ 1
edits_nest [] = omega arith
edits_nest (edit ∷ edits) = omega (arith, edits_nest edits)

pub explained_nests : (file : List ℕ) (refusal : Refusal) (region : Option Region) (shown : Shown)
    (lesson : Lesson) → depth (refusal_explained_json file refusal region shown lesson) ≤ max_depth
explained_nests file refusal region shown lesson =
    omega (
      arith,
      region_nests region,
      steps_nest shown.path.items,
      steps_nest shown.other.items,
      edits_nest lesson.edits,
    )

pub accepted_nests : (file : List ℕ) (routines : List CertifiedRoutine) (words : List ℕ)
    → depth (acceptance_explained_json file routines words) ≤ max_depth
accepted_nests file routines words = omega (arith, acceptance_nests file routines)
