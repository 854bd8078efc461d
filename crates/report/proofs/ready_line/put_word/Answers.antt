use Rattle.std.proofs.Common.{◌≡◌, ◌+◌, ◌-◌, arith, length, rules, take}
use Rattle.report.proofs.WordLines.{placed, word_short}
use Rattle.report.specs.Word.{word_text}
use Rattle.report.proofs.ready_line.put_word.Goals as goal

pub returns : goal.returns
returns c =
    let room = c.copy_from_slice.new.self in
    let text = word_text c.args.word in
    let wide : take (length text) room ≡ text = rw c.copy_from_slice.ensures.after c.text.ensures in
    let twelve : length room ≡ 12 = rw c.copy_from_slice.ensures.after (search rules) in
    let size : c.args.end + 12 - c.args.end ≡ 12 = omega arith in
    let long : length c.args.line.now ≡ 32 = search rules in
    placed c.args.end (c.args.end + 12 - c.args.end) (length text) c.args.line.now room text
    (omega (arith, size, long, c.requires)) (omega (arith, twelve, size))
    (omega (arith, size, word_short c.args.word)) wide
