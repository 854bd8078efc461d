use Rattle.std.proofs.Common.{◌≡◌, arith, sym, ap, ◌∙◌, drop}
use Rattle.text.proofs.Cuts.{held_at, token_cut, token_none, token_on}
use Rattle.text.specs.Cut.{code_of, parts_from, tokens_of}
use Rattle.text.proofs.token.first_token.Goals as goal
use Rattle.text.proofs.token.first_token.Goals.{then-is_blank+else-start-i, else-is_blank+else-byte-eq59}

pub loop-i-preserved : goal.loop-i-preserved
loop-i-preserved c =
    let line = c.args.line.now in
    let i = c.loop-i.i in
    let start = c.loop-i.start in
    let inside = c.loop-i-test.true in
    let before = c.loop-i.invariant in
    elim c.if-is_blank.branch [
      | then-is_blank+else-start-i w ↦
          let here : start ≡ i = omega (arith, before.begun, w.if-start-i.false) in
          let none : parts_from (held_at line i i) (code_of (drop i line)) ≡ tokens_of line =
          sym (ap (λ s. parts_from (held_at line s i) (code_of (drop i line))) here)
          ∙ before.same in
          let same = token_none line i (tokens_of line) inside
          (sym c.is_blank.ensures ∙ w.if-is_blank.true) none in
          record { begun = omega arith; same = cc same }
      | else-is_blank+else-byte-eq59 w ↦
          let same = token_on line start i (tokens_of line) before.begun inside
          (sym c.is_blank.ensures ∙ w.if-is_blank.false) w.if-byte-eq59.false before.same in
          record { begun = omega arith; same = cc same }
    ]

pub returns-then-start-i : goal.returns-then-start-i
returns-then-start-i c =
    token_cut c.args.line.now c.loop-i.start c.loop-i.i (tokens_of c.args.line.now)
    c.if-start-i.true c.loop-i-test.true (sym c.is_blank.ensures ∙ c.if-is_blank.true)
    c.loop-i.invariant.same
