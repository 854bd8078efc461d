use Rattle.std.proofs.Common.{◌≡◌, arith}
use Rattle.report.proofs.Digits.{place_short, ready_with}
use Rattle.report.specs.Word.{word_text}
use Rattle.report.proofs.event_number.EventNumber.line_with.Goals.{then-not-is, else-not-is}
use Rattle.report.proofs.event_number.EventNumber.line_with.Goals as goal

pub put_word-requires : goal.put_word-requires
put_word-requires c =
    place_short c.self.inside.number c.self.inside.place (word_text c.self.inside.word)
    c.self.inside.line c.self.invariant.2 (omega (arith, c.self.invariant.0))

pub of-requires : goal.of-requires
of-requires c =
    elim c.if-not-is.branch [
      | then-not-is w ↦
          rw w.self-inside-is (record {
            ready = ready_with c.self.inside.number c.self.inside.place
                (word_text c.self.inside.word) (word_text c.args.word) c.self.inside.line
                w.put_word.new.line c.self.invariant.2 w.put_word.ensures;
          })
      | else-not-is w ↦
          let same : c.self.inside.word ≡ c.args.word = c.is.ensures.0 w.if-not-is.false in
          rw (w.self-inside-is, ← same) (record { ready = c.self.invariant.2 })
    ]

pub invariant_of-self : goal.invariant_of-self
invariant_of-self c =
    elim c.if-not-is.branch [
      | then-not-is w ↦
          rw w.self-inside-is (
            c.self.invariant.0,
            c.self.invariant.1,
            ready_with c.self.inside.number c.self.inside.place
                (word_text c.self.inside.word) (word_text c.args.word) c.self.inside.line
                w.put_word.new.line c.self.invariant.2 w.put_word.ensures,
          )
      | else-not-is w ↦ rw w.self-inside-is c.self.invariant
    ]
