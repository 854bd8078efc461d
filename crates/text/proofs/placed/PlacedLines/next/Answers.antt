use Rattle.std.proofs.Common.{rules, ◌≡◌, ◌∙◌, ◌+◌, ◌-◌, ◌∷◌, arith, drop, length, sym}
use Rattle.text.specs.Cut.{lines_of}
use Rattle.text.specs.Places.{bytes_before}
use Rattle.text.proofs.Places.{few_before, grown, rest_of}
use Rattle.text.proofs.placed.PlacedLines.next.Goals as goal

pub overflow_add-self-2 : goal.overflow_add-self-2
overflow_add-self-2 c =
    let i = c.self.inside in
    let raw = c.in_ok-line.line.now in
    let left = c.next.new.self in
    let was : i.left ≡ raw ∷ left = search rules in
    let cut : drop i.taken (lines_of i.text.now) ≡ raw ∷ left = sym c.self.invariant.0 ∙ was in
    let on = grown (lines_of i.text.now) left raw i.taken cut in
    omega (arith, on, few_before i.text.now (i.taken + 1), c.self.invariant)

pub invariant_of-self-2 : goal.invariant_of-self-2
invariant_of-self-2 c =
    let i = c.self.inside in
    let text = i.text.now in
    let lines = lines_of text in
    let raw = c.in_ok-line.line.now in
    let left = c.next.new.self in
    let was : i.left ≡ raw ∷ left = search rules in
    let cut : drop i.taken lines ≡ raw ∷ left = sym c.self.invariant.0 ∙ was in
    let on : bytes_before text (i.taken + 1) ≡ bytes_before text i.taken + (length raw + 1) =
    grown lines left raw i.taken cut in
    let one : i.taken + 1 - 1 ≡ i.taken = omega arith in
    let two : i.taken + 1 - 2 ≡ i.taken - 1 = omega arith in
    let three : i.taken + 1 - 3 ≡ i.taken - 2 = omega arith in
    let few : length i.left ≡ length left + 1 = rw was (omega arith) in (
      sym (rest_of lines left raw i.taken cut),
      omega (arith, on, c.self.invariant.1),
      rw one c.self.invariant.1,
      rw two c.self.invariant.2,
      rw three c.self.invariant.3,
      omega (arith, few, c.self.invariant),
      omega (arith, few, c.self.invariant),
      omega (arith, c.self.invariant),
    )
