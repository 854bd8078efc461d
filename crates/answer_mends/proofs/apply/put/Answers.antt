use Rattle.std.proofs.Common.{[], List, append-nil, refl, subst, sym, ℕ}
use Rattle.std.proofs.lemmas.Result.{err_from_is_err_and}
use Rattle.std.specs.Io.KnownBytes.{Appends}
use Rattle.answer_mends.proofs.apply.put.Goals as goal

pub returns-in_err-write_bytes-2-clause-shown : goal.returns-in_err-write_bytes-2-clause-shown
returns-in_err-write_bytes-2-clause-shown g c =
    let p = err_from_is_err_and c.from_residual-in_err-write_bytes-2.result
    c.from_residual-in_err-write_bytes-2.ensures.1 in
    let text = c.args.applying.now.reply.text.items in
    let A : List ℕ → Type 0 =
    Appends (g.O.Sink.contents c.args.out.now) (g.O.Sink.contents c.write_bytes.new.sink) in
    rw (p.1, p.2, c.in_err-write_bytes-2.ensures.fault) (
      refl,
      record {
        part = text;
        rest = [];
        split = sym (append-nil text);
        appended = subst A c.as_slice.ensures.value c.in_ok-write_bytes.ensures.written;
      },
    )
