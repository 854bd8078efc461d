use Rattle.std.proofs.Common.{rules, ◌≡◌, ◌∙◌, ◌+◌, ◌++◌, ◌∷◌, [], arith}
use Rattle.std.proofs.lemmas.List.{append_assoc}
use Rattle.std.proofs.lemmas.List.Elements.{All-push}
use Rattle.text.specs.Places.{IsIn, numbers}
use Rattle.asm_places.specs.Outline.{outline_from}
use Rattle.asm_places.proofs.Passing.{moved}
use Rattle.asm_places.proofs.outlining.outline.Goals as goal

pub loop-raw-preserved-then-outlines : goal.loop-raw-preserved-then-outlines
loop-raw-preserved-then-outlines c =
    let raw = c.in-Some.raw.now in
    let old = c.loop-raw.left in
    let new = c.next.new.self in
    let n = new.skipped + new.taken in
    let later = outline_from (n + 1) new.left in
    let cut : old.left ≡ raw ∷ new.left = search rules in
    let text : new.text ≡ c.args.text.now = search rules in
    let whole : new.skipped ≡ 0 = search rules in
    let taken : new.taken ≡ old.taken + 1 = search rules in
    let before : old.taken + 1 ≡ n = omega (arith, whole, taken) in
    let next : new.taken + 1 ≡ n + 1 = omega (arith, whole) in
    let grown : numbers c.push.new.self ≡ numbers c.loop-raw.found ++ n ∷ [] = search rules in
    let found : outline_from n (raw ∷ new.left) ≡ n ∷ later = search rules in
    let outline : numbers c.push.new.self ++ later
    ≡ numbers c.loop-raw.found ++ outline_from n (raw ∷ new.left) =
    rw (grown, found) (append_assoc (numbers c.loop-raw.found) (n ∷ []) later) in
    let Is = IsIn 0 c.args.text.now in
    let is = moved new.skipped new.text c.args.text.now c.spot.result whole text
    c.spot.ensures.there in
    let more : c.push.new.self ≡ c.loop-raw.found ++ c.spot.result ∷ [] = search rules in
    record {
      outlined = rw next (outline ∙ (rw (before, cut) at c.loop-raw.invariant.outlined));
      text = text;
      whole = whole;
      there =
          rw more (All-push Is c.loop-raw.found c.spot.result c.loop-raw.invariant.there is);
    }
