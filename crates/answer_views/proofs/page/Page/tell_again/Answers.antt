use Rattle.std.proofs.Common.{◌∙◌, [], arith, refl, sym}
use Rattle.std.proofs.lemmas.List.{append-nil}
use Rattle.answer_views.specs.Told.{has_occurred}
use Rattle.answer_views.proofs.ToldLines.{line_told, none_left, told_more, told_none}
use Rattle.answer_views.proofs.page.Page.tell_again.Goals as goal

pub returns-then-is_left_out-clause-told : goal.returns-then-is_left_out-clause-told
returns-then-is_left_out-clause-told c = (
  [],
  sym (append-nil c.args.self.now.text.items),
  none_left c.args.self.now.detail c.args.count c.args.self.now.number
      (has_occurred c.args.happened.now) (sym c.is_left_out.ensures ∙ c.if-is_left_out.true),
)

pub loop-init : goal.loop-init
loop-init c =
    record {
      detail = refl;
      numbered = omega arith;
      few = omega arith;
      told =
          told_none c.args.self.now.detail c.args.self.now.number
          (has_occurred c.args.happened.now) c.args.self.now.text.items;
    }

pub loop-preserved : goal.loop-preserved
loop-preserved c =
    let (words, added) = c.in_ok-add_again.ensures.told in
    record {
      detail = c.in_ok-add_again.ensures.detail ∙ c.loop.invariant.detail;
      numbered =
          omega (arith, c.loop.invariant.numbered, c.in_ok-add_again.ensures.number);
      few = omega (arith, c.loop-test.true);
      told =
          told_more c.args.self.now.detail c.loop.counter c.args.self.now.number
          c.loop.self.number (has_occurred c.args.happened.now) c.args.self.now.text.items
          c.loop.self.text.items _ c.loop.invariant.told c.loop.invariant.numbered (
            words,
            line_told c.args.self.now.detail c.loop.self.number
                (has_occurred c.args.happened.now) c.loop.self.text.items _ words
                (sym c.is_left_out.ensures ∙ c.if-is_left_out.false) added,
          );
    }
