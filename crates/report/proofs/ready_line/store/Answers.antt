use Rattle.std.proofs.Common.{◌≡◌, ◌≤◌, ◌∙◌, ◌++◌, arith, rules, length, take, length-take-le, take-take}
use Rattle.std.proofs.lemmas.List.{take-append-le}
use Rattle.report.proofs.ready_line.store.Goals as goal

pub returns-in-Some-first_chunk_mut : goal.returns-in-Some-first_chunk_mut
returns-in-Some-first_chunk_mut c =
    let end = c.args.end in
    let line = c.args.line.now in
    let front : c.in-Some.front.now ≡ take 16 line = search rules in
    let short : end ≤ 16 = c.if-end-gt-SHORT_LINE.false in
    let long : length (take 16 line) ≡ 16 = length-take-le 16 line (search rules) in
    rw front
    (take-append-le end (take 16 line) _ (omega (arith, long, short)) ∙ take-take end 16 line short)
