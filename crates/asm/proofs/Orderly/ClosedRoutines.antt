-- A routine fits when it is closed, and then its labels are known.
use Rattle.std.proofs.Common.{◌≡◌, ℕ, ◌<◌, ◌≤◌, List, length, Option, Some, None, get_or, refl, sym, ◌∙◌, subst, arith}
use Rattle.std.specs.Prelude.{All, map, slice_get, unwrap_or, option_and_then}
use Rattle.std.proofs.lemmas.List.Elements.{All-map}
use Rattle.std.proofs.lemmas.List.{length-map}
use Rattle.std.proofs.lemmas.Option.{slice_get-get_or, slice_get_within}
use Rattle.model.specs.Sound.{LabelFits, OperandFits, queue_named}
use Rattle.model.specs.declared.set.Sort.{Sort}
use Rattle.model.specs.declared.instr.Instr.{Instr}
use Rattle.model.specs.declared.instr.Instr.TheVariants.{Jump}
use Rattle.asm.specs.declared.draft.ClosedRoutine.{ClosedRoutine}
use Rattle.asm.specs.declared.draft.Linked.{Linked}
use Rattle.asm.specs.declared.names.Use.{Use}
use Rattle.asm.specs.Outline.{Outline, with_label, label_resolved, target_position, number_of, ClosedFits, IsUse, QueueUsed, StepsOrderly}

-- a label's position, or 0, is below a count that is above the positions of all labels
number_fits : (count : ℕ) (positions : List ℕ) → 0 < count → All (λ p. p < count) positions
    → (o : Option ℕ) → unwrap_or (option_and_then (λ k. slice_get positions k) o) 0 < count
number_fits count positions some fit None = some
number_fits count positions some fit (Some k) = or_zero (slice_get positions k) refl
  where
    or_zero : (found : Option ℕ) → slice_get positions k ≡ found → unwrap_or found 0 < count
    or_zero None is = some
    or_zero (Some p) is =
        let inside = slice_get_within positions k p is in
        let same : Some p ≡ Some (get_or positions k p) =
        sym is ∙ slice_get-get_or positions k p inside in
        let here : p ≡ get_or positions k p = cc in
        omega (arith, here, fit k p inside)

target_fits : (count : ℕ) (labels : List (List ℕ)) (positions : List ℕ) → 0 < count
    → All (λ p. p < count) positions → (target : Option Use)
    → target_position labels positions target < count
target_fits count labels positions some fit None = some
target_fits count labels positions some fit (Some u) =
    number_fits count positions some fit (number_of labels u.name)

label_fits : (count label : ℕ) (i : Instr) → label < count → LabelFits count (with_label i label)
label_fits count label (Jump old) h = h
label_fits count label _ h = assumption h

-- the operands of an instruction fit still with its label's position
operands_labelled : (label : ℕ) (i : Instr) → OperandFits i → OperandFits (with_label i label)
operands_labelled label (Jump old) h = h
operands_labelled label _ h = h

-- an instruction names the same queue with its label's position
queue_labelled : (label : ℕ) (i : Instr) → queue_named (with_label i label) ≡ queue_named i
queue_labelled label (Jump old) = refl
queue_labelled label _ = refl

-- so a routine that is closed fits
pub closed_fits : {opened : List Sort} (o : Outline)
    → StepsOrderly opened o.positions o.steps (length o.queue_uses)
    → ClosedFits (length o.queue_uses)
    (record { sort = o.sort; code = map (label_resolved o.labels o.positions) o.steps })
closed_fits o h =
    let same = length-map o.steps (label_resolved o.labels o.positions) in
    let count = length (map (label_resolved o.labels o.positions) o.steps) in
    record {
      few = omega (arith, same, h.few);
      labels = All-map (λ (step : Linked). LabelFits count step.instr)
          (label_resolved o.labels o.positions) o.steps (λ i d inside.
          let step = get_or o.steps i d in
          let some : 0 < length o.steps = omega (arith, inside) in
          let below = target_fits (length o.steps) o.labels o.positions some h.positions_fit
          step.label in
          label_fits count (target_position o.labels o.positions step.label) step.instr
          (omega (arith, same, below)));
      operands = All-map (λ (step : Linked). OperandFits step.instr)
          (label_resolved o.labels o.positions) o.steps (λ i d inside.
          let step = get_or o.steps i d in
          operands_labelled (target_position o.labels o.positions step.label) step.instr
          (h.operands_fit i d inside));
      queues =
          All-map (λ (step : Linked). QueueUsed (length o.queue_uses) step.instr step.queue)
          (label_resolved o.labels o.positions) o.steps (λ i d inside.
          let step = get_or o.steps i d in
          subst (λ (named : Option ℕ). IsUse (length o.queue_uses) named step.queue)
          (sym (queue_labelled (target_position o.labels o.positions step.label) step.instr))
          (h.queues_used i d inside));
    }

-- a use is one still when there are more
pub use_stays : (m n : ℕ) (named place : Option ℕ) → m ≤ n → IsUse m named place
    → IsUse n named place
use_stays m n None place more h = tt
use_stays m n (Some q) None more h = absurd h
use_stays m n (Some q) (Some place) more h = omega (arith, h, more)

pub closed_stays : (m n : ℕ) (routine : ClosedRoutine) → m ≤ n → ClosedFits m routine
    → ClosedFits n routine
closed_stays m n routine more h =
    record {
      few = h.few;
      labels = h.labels;
      operands = h.operands;
      queues = λ i d inside.
          let step = get_or routine.code i d in
          use_stays m n (queue_named step.instr) step.queue more (h.queues i d inside);
    }
