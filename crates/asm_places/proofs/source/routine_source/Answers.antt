use Rattle.std.proofs.Common.{rules, ◌≡◌, ◌∙◌, ◌+◌, ◌++◌, ◌∷◌, ℕ, List, [], true, arith, subst, sym}
use Rattle.std.specs.Prelude.{All}
use Rattle.std.proofs.lemmas.List.{append-nil, append_assoc}
use Rattle.std.proofs.lemmas.List.Elements.{All-push}
use Rattle.text.specs.Places.{IsIn, numbers}
use Rattle.asm_places.specs.Outline.{outline_from}
use Rattle.asm_places.specs.Source.{instruction_lines, lines_from}
use Rattle.asm_places.specs.Standing.{AreLinesOf, Rises}
use Rattle.asm_places.proofs.Passing.{moved, passed, unlisted}
use Rattle.asm_places.proofs.Rising.{rise}
use Rattle.asm_places.proofs.Standing.{are_lines_of}
use Rattle.asm_places.proofs.source.routine_source.Goals as goal
use Rattle.asm_places.proofs.source.routine_source.Goals.{in-End-Step+in_ok-push, in-End+in-Blank-1, in-Driver-1, then-outlines+in_ok-push-2, else-outlines}

-- what is found with a line that is read, and behind it, is what is found from the line on
pub loop-raw-preserved-then-not-is_passed : goal.loop-raw-preserved-then-not-is_passed
loop-raw-preserved-then-not-is_passed c =
    let routine = c.args.routine in
    let raw = c.in-Some.raw.now in
    let old = c.loop-raw.left in
    let new = c.next.new.self in
    let left = new.left in
    let n = new.skipped + new.taken in
    let cut : old.left ≡ raw ∷ left = search rules in
    let text : new.text ≡ c.args.text.now = search rules in
    let whole : new.skipped ≡ 0 = search rules in
    let taken : new.taken ≡ old.taken + 1 = search rules in
    let before : old.taken + 1 ≡ n = omega (arith, whole, taken) in
    let next : new.taken + 1 ≡ n + 1 = omega (arith, whole) in
    let Is = IsIn 0 c.args.text.now in
    let lines : numbers c.match-sought.lines
    ++ lines_from routine c.past-sought.result (n + 1) left
    ≡ numbers c.loop-raw.lines ++ lines_from routine c.loop-raw.sought n (raw ∷ left) =
    elim c.match-sought.branch [
      | in-End-Step+in_ok-push w ↦
          let later = lines_from routine c.past-sought.result (n + 1) left in
          let grown : numbers c.match-sought.lines ≡ numbers c.loop-raw.lines ++ n ∷ [] =
          search rules in
          let found : lines_from routine c.loop-raw.sought n (raw ∷ left) ≡ n ∷ later =
          search rules in
          rw (grown, found) (append_assoc (numbers c.loop-raw.lines) (n ∷ []) later)
      | in-End+in-Blank-1 w ↦ search rules
      | in-Driver-1 w ↦ search rules
    ] in
    let outline : numbers c.if-outlines.outline ++ outline_from (n + 1) left
    ≡ numbers c.loop-raw.outline ++ outline_from n (raw ∷ left) =
    elim c.if-outlines.branch [
      | then-outlines+in_ok-push-2 w ↦
          let later = outline_from (n + 1) left in
          let grown : numbers c.if-outlines.outline ≡ numbers c.loop-raw.outline ++ n ∷ [] =
          search rules in
          let found : outline_from n (raw ∷ left) ≡ n ∷ later = search rules in
          rw (grown, found) (append_assoc (numbers c.loop-raw.outline) (n ∷ []) later)
      | else-outlines w ↦ search rules
    ] in
    let lines_there : All Is c.match-sought.lines =
    elim c.match-sought.branch [
      | in-End-Step+in_ok-push w ↦
          let is = moved new.skipped new.text c.args.text.now w.spot.result whole text
          w.spot.ensures.there in
          let grown : c.match-sought.lines ≡ c.loop-raw.lines ++ w.spot.result ∷ [] =
          search rules in
          rw grown
          (All-push Is c.loop-raw.lines w.spot.result c.loop-raw.invariant.lines_there is)
      | in-End+in-Blank-1 w ↦ search rules
      | in-Driver-1 w ↦ search rules
    ] in
    let outline_there : All Is c.if-outlines.outline =
    elim c.if-outlines.branch [
      | then-outlines+in_ok-push-2 w ↦
          let is = moved new.skipped new.text c.args.text.now w.spot-then-outlines.result whole text
          w.spot-then-outlines.ensures.there in
          let grown : c.if-outlines.outline ≡ c.loop-raw.outline ++ w.spot-then-outlines.result ∷ [] =
          search rules in
          rw grown
          (All-push Is c.loop-raw.outline w.spot-then-outlines.result c.loop-raw.invariant.outline_there is)
      | else-outlines w ↦ search rules
    ] in
    record {
      same = rw next (lines ∙ (rw (before, cut) at c.loop-raw.invariant.same));
      outlined = rw next (outline ∙ (rw (before, cut) at c.loop-raw.invariant.outlined));
      text = text;
      whole = whole;
      lines_there = lines_there;
      outline_there = outline_there;
    }

-- a line that is passed changes nothing
pub loop-raw-preserved : goal.loop-raw-preserved
loop-raw-preserved c =
    let routine = c.args.routine in
    let raw = c.in-Some.raw.now in
    let old = c.loop-raw.left in
    let new = c.next.new.self in
    let n = new.skipped + new.taken in
    let cut : old.left ≡ raw ∷ new.left = search rules in
    let whole : new.skipped ≡ 0 = search rules in
    let taken : new.taken ≡ old.taken + 1 = search rules in
    let before : old.taken + 1 ≡ n = omega (arith, whole, taken) in
    let next : new.taken + 1 ≡ n + 1 = omega (arith, whole) in
    let is : c.is_passed.result ≡ true = search rules in
    let outline = c.is_passed.ensures.outline is in
    let same = passed routine c.loop-raw.sought n raw new.left (c.is_passed.ensures.sought is)
    outline in
    let less = unlisted n raw new.left outline in
    record {
      same =
          rw (next, sym same) (rw (before, cut) at c.loop-raw.invariant.same);
      outlined =
          rw (next, sym less) (rw (before, cut) at c.loop-raw.invariant.outlined);
      text = search rules;
      whole = whole;
      lines_there = c.loop-raw.invariant.lines_there;
      outline_there = c.loop-raw.invariant.outline_there;
    }

-- the lines that were found are all of them
pub all_found : (numbers lines : List ℕ) → numbers ++ [] ≡ lines → numbers ≡ lines
all_found numbers lines h = sym (append-nil numbers) ∙ h

pub returns-clause-stand : goal.returns-clause-stand
returns-clause-stand c =
    let text = c.args.text.now in
    let lines = numbers c.loop-raw.lines in
    let all : lines ≡ instruction_lines c.args.driver c.args.routine text =
    all_found lines _ (rw c.in_default.ensures.0 at c.loop-raw.invariant.same) in
    let Are : List ℕ → Type 0 = AreLinesOf text c.args.driver c.args.routine in
    subst Are (sym all)
    (are_lines_of c.set_is_of_its_lines.ensures text c.args.driver c.args.routine)

pub returns-clause-rise : goal.returns-clause-rise
returns-clause-rise c =
    let text = c.args.text.now in
    let lines = numbers c.loop-raw.lines in
    let all : lines ≡ instruction_lines c.args.driver c.args.routine text =
    all_found lines _ (rw c.in_default.ensures.0 at c.loop-raw.invariant.same) in
    subst Rises (sym all) (rise c.args.driver c.args.routine text)
