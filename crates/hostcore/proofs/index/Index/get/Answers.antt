use Rattle.std.proofs.Common.{◌≡◌, ◌<◌, ◌+◌, ◌-◌, ◌%◌, ℕ, Bor, Option, None, Some, get_or, length, arith, subst, sym, refl, ap, ◌∙◌}
use Rattle.std.specs.Prelude.{option_copied, option_map, if◌then◌else◌, slice_get, unwrap_or}
use Rattle.std.proofs.lemmas.Option.{slice_get_read}
use Rattle.std.proofs.lemmas.List.{get_or_read, length-take-le}
use Rattle.hostcore.proofs.Walk.{Finds, finds_first, finds_next}
use Rattle.hostcore.proofs.index.Index.get.Goals.{then-eq, else-eq}
use Rattle.hostcore.proofs.index.Index.get.Goals as goal

copied_or : (o : Option (Bor ℕ)) (d : ℕ)
    → unwrap_or (option_copied o) d ≡ unwrap_or (option_map (λ (x : Bor ℕ). x.now) o) d
copied_or None d = refl
copied_or (Some x) d = refl

pub loop-end-init : goal.loop-end-init
loop-end-init g c =
    let start : c.unwrap_or-end.result
    ≡ get_or c.self.inside.heads.items (c.number.result % c.self.inside.slots) 0 =
    c.unwrap_or-end.ensures
    ∙ (ap (λ o. unwrap_or o 0) c.copied.ensures
    ∙ (copied_or c.get.result 0
    ∙ (c.get.ensures.lookup.4 (omega arith) 0
    ∙ ap (λ l. get_or l (c.number.result % c.self.inside.slots) 0) c.deref.ensures.value))) in
    rw (start, c.number.ensures)
    (finds_first g.K.Numbered.number c.self.inside.slots g.K.PartialEq.eq
    g.met.K.Numbered.respects c.args.key c.self.inside.entries.items _ (c.self.invariant.6.ends _))

pub loop-end-preserved : goal.loop-end-preserved
loop-end-preserved g c =
    let place = c.loop-end.end - 1 in
    let some : 0 < c.loop-end.end = c.loop-end-test.true in
    let lt : place < length c.self.inside.entries.items =
    omega (arith, some, c.loop-end.invariant.within) in
    let on : c.loop-end.end ≡ place + 1 = omega (arith, some) in
    let at : slice_get c.self.inside.entries.items place ≡ Some c.index.result.now =
    slice_get_read c.self.inside.entries.items (length c.self.inside.entries.items) place
    c.index.result.now refl lt c.index.ensures in
    let next : c.index-in-loop-end.result.now ≡ get_or c.self.inside.nexts.items place 0 =
    get_or_read c.self.inside.nexts.items place c.index-in-loop-end.result.now
    (omega (arith, lt, c.self.invariant.6.long)) c.index-in-loop-end.ensures 0 in
    let chosen : c.if-eq.found
    ≡ (if g.K.PartialEq.eq c.index.result.now.0 c.args.key then Some c.index.result.now.1
    else c.loop-end.found) =
    elim c.if-eq.branch [
      | then-eq w ↦ rw (sym c.eq.ensures, w.if-eq.true) w.found-is
      | else-eq w ↦ rw (sym c.eq.ensures, w.if-eq.false) w.found-is
    ] in
    rw (chosen, next, c.number.ensures)
    (finds_next g.K.Numbered.number c.self.inside.slots g.K.PartialEq.eq
    g.met.K.Numbered.respects c.args.key c.self.inside.heads.items c.self.inside.nexts.items
    c.self.inside.entries.items c.self.invariant.6 place c.index.result.now at c.loop-end.found
    (subst (λ (n : ℕ). Finds g.K.Numbered.number c.self.inside.slots g.K.PartialEq.eq
    (n % c.self.inside.slots) c.args.key c.self.inside.entries.items (place + 1)
    c.loop-end.found) c.number.ensures
    (subst (λ (k : ℕ). Finds g.K.Numbered.number c.self.inside.slots g.K.PartialEq.eq
    (c.number.result % c.self.inside.slots) c.args.key c.self.inside.entries.items k
    c.loop-end.found) on c.loop-end.invariant)))

pub loop-end-smaller : goal.loop-end-smaller
loop-end-smaller g c =
    let place = c.loop-end.end - 1 in
    let some : 0 < c.loop-end.end = c.loop-end-test.true in
    let lt : place < length c.self.inside.entries.items =
    omega (arith, some, c.loop-end.invariant.within) in
    let at : slice_get c.self.inside.entries.items place ≡ Some c.index.result.now =
    slice_get_read c.self.inside.entries.items (length c.self.inside.entries.items) place
    c.index.result.now refl lt c.index.ensures in
    let next : c.index-in-loop-end.result.now ≡ get_or c.self.inside.nexts.items place 0 =
    get_or_read c.self.inside.nexts.items place c.index-in-loop-end.result.now
    (omega (arith, lt, c.self.invariant.6.long)) c.index-in-loop-end.ensures 0 in
    let link = c.self.invariant.6.links place c.index.result.now at in
    omega (arith, next, some, link.within, length-take-le place c.self.inside.entries.items (omega (arith, lt)))
