use Rattle.std.proofs.Common.{◌≡◌, ◌∙◌, ℕ, ◌+◌, ◌<◌, arith, false, length, rules, subst, sym}
use Rattle.std.specs.Prelude.{nat_eq, option_map}
use Rattle.std.proofs.lemmas.List.{length-append}
use Rattle.model.specs.History.{is_name}
use Rattle.hostcore.specs.Core.{Log}
use Rattle.hostcore.specs.Indexed.{Notes}
use Rattle.hostcore.proofs.Indexing.{indexed_more}
use Rattle.hostcore.proofs.Keeping.{below}
use Rattle.hostcore.proofs.log.Log.append.Goals as goal

pub invariant_of-self : goal.invariant_of-self
invariant_of-self c =
    let room : nat_eq (length c.self.inside.entries.items) c.self.inside.most ≡ false =
    subst (λ (log : Log). nat_eq (length log.entries) log.most ≡ false) (sym c.self.view_is)
    c.requires.room in
    let less : length c.self.inside.entries.items < c.self.inside.most =
    below _ _ room c.self.invariant.0 in
    let long : length c.push_reserved.new.self.items ≡ length c.self.inside.entries.items + 1 =
    rw c.push_reserved.ensures.items (length-append c.self.inside.entries.items _) in
    let place : c.len.result ≡ length c.self.inside.entries.items = search rules in
    let noted : Notes is_name c.self.inside.places c.note_name.new.places
    (option_map (λ name. (name, length c.self.inside.entries.items)) c.args.entry.name) =
    subst (λ (k : ℕ). Notes is_name c.self.inside.places c.note_name.new.places
    (option_map (λ name. (name, k)) c.args.entry.name)) place c.note_name.ensures.noted in (
      omega (arith, long, less),
      rw c.push_reserved.ensures.capacity c.self.invariant.1,
      c.note_name.ensures.room ∙ c.self.invariant.2,
      omega (arith, long, c.self.invariant.3, c.note_name.ensures.longer),
      c.note_top.ensures.room ∙ c.self.invariant.4,
      omega (arith, long, c.self.invariant.5, c.note_top.ensures.longer),
      rw (c.push_reserved.ensures.items, c.of.ensures)
          (indexed_more _ _ _ _ _ _ c.self.invariant.6 noted c.note_top.ensures.noted),
    )
