use Rattle.hostcore.proofs.Noting.{noted_more}
use Rattle.std.proofs.Common.{◌≡◌, ◌<◌, ◌%◌, ℕ, sym, subst, ◌++◌, ◌∷◌, [], get_or, length, rules, sym, ap, ◌∙◌}
use Rattle.std.proofs.lemmas.List.{get_or_read}
use Rattle.hostcore.specs.Linked.{IsLinked}
use Rattle.hostcore.proofs.Links.{linked_more}
use Rattle.hostcore.proofs.index.Index.note.Goals as goal

pub invariant_of-self : goal.invariant_of-self
invariant_of-self g c =
    let within : c.number.result % c.self.inside.slots < length c.reach.new.heads.items =
    search rules in
    let read : c.index.result.now ≡ get_or c.reach.new.heads.items
    (c.number.result % c.self.inside.slots) 0 =
    get_or_read c.reach.new.heads.items (c.number.result % c.self.inside.slots) c.index.result.now
    within c.index.ensures 0 in
    let pushed : c.push_reserved.new.self.items ≡ c.self.inside.nexts.items
    ++ get_or c.reach.new.heads.items (c.number.result % c.self.inside.slots) 0 ∷ [] =
    c.push_reserved.ensures.items ∙ ap (λ k. c.self.inside.nexts.items ++ k ∷ []) read in
    let counted : c.len.result ≡ length c.self.inside.entries.items = search rules in
    let is : IsLinked g.K.Numbered.number c.self.inside.slots c.self.inside.heads.items
    c.self.inside.nexts.items c.self.inside.entries.items = c.self.invariant.6 in (
      search rules,
      search rules,
      search rules,
      search rules,
      search rules,
      search rules,
      rw (pushed, counted, c.push_reserved-2.ensures.items, c.number.ensures)
          (linked_more g.K.Numbered.number c.self.inside.slots c.self.inside.heads.items
          c.self.inside.nexts.items c.reach.new.heads.items c.self.inside.entries.items
          (c.args.key, c.args.value) is c.reach.ensures.same (subst (λ (n : ℕ). n % c.self.inside.slots < length c.reach.new.heads.items) c.number.ensures within)),
    )

pub returns-clause-found : goal.returns-clause-found
returns-clause-found g c =
    λ other.
    rw (sym c.self.view_is)
    (noted_more g.K.PartialEq.eq c.self.inside.entries.items c.push_reserved-2.new.self.items
    c.args.key c.args.value c.push_reserved-2.ensures.items other)
