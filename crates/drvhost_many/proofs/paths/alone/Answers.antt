use Rattle.std.proofs.Common.{◌≡◌, ◌∙◌, ap, arith, get_or, refl, rules, string_bytes, sym, true}
use Rattle.std.proofs.lemmas.Slice.Eq.{bytes_eq-Decides}
use Rattle.drvhost_many.proofs.Alone.{first_is, one_is}
use Rattle.drvhost_many.proofs.paths.alone.Goals as goal

pub returns-then-eq-clause-some : goal.returns-then-eq-clause-some
returns-then-eq-clause-some c =
    let found : string_bytes (get_or c.args.names.now 0 c.index-names-0.result)
    ≡ c.as_str.result.now =
    ap string_bytes (sym c.index-names-0.is) ∙ sym c.as_str.ensures.value in
    record {
      one = one_is (λ given. given.now) c.args.paths.now _ _
          (omega (arith, c.if-paths-ne1.false)) refl;
      itself = one_is string_bytes c.args.names.now c.index-names-0.result _
          (omega (arith, c.if-names-ne1.false)) (found ∙ search rules);
    }

pub returns-else-eq-clause-none : goal.returns-else-eq-clause-none
returns-else-eq-clause-none c = λ path alone.
    let other : c.as_str.result.now ≡ path =
    c.as_str.ensures.value ∙ ap string_bytes c.index-names-0.is
    ∙ first_is string_bytes c.args.names.now c.index-names-0.result path alone.itself in
    let equal : c.eq.result ≡ true =
    c.eq.ensures
    ∙ (bytes_eq-Decides _ _).1
    (other ∙ sym (first_is (λ given. given.now) c.args.paths.now _ path alone.one)) in
    absurd (cc (equal, c.if-eq.false))
