use Rattle.std.proofs.Common.{◌≡◌, ◌<◌, List, ◌∷◌, ℕ, length, Option, Some, rules, sym, subst}
use Rattle.std.specs.Prelude.{slice_get, reverse}
use Rattle.verifier_evidence.specs.declared.trail.Step.{Step}
use Rattle.verifier_evidence.specs.Path.{IsTrail}
use Rattle.verifier_evidence.proofs.Walked.{IsWalked, walked_start, walked_from, walked_more, walked_path, noted_at, never_blank, left, left_less}
use Rattle.verifier_evidence.proofs.trail.Arrivals.path.Goals as goal

pub loop-from-init : goal.loop-from-init
loop-from-init c =
    subst (λ (steps : List Step). IsWalked c.args.self.now.subject c.args.self.now.table.items
    c.args.last steps c.args.from) (sym c.new-steps.ensures.items)
    (walked_start c.args.self.now.subject c.args.self.now.table.items c.args.last c.args.from
    c.requires.comes)

pub index-requires : goal.index-requires
index-requires c =
    let within : c.in-Some.at < length c.args.self.now.table.items =
    walked_from c.args.self.now.subject c.args.self.now.table.items c.args.last
    c.loop-from.steps.items c.loop-from.from c.in-Some.at c.in-Some.is c.loop-from.invariant in
    search rules

pub unreachable-requires : goal.unreachable-requires
unreachable-requires c =
    never_blank c.args.self.now.subject c.args.self.now.table.items c.args.last
    c.loop-from.steps.items c.loop-from.from c.in-Some.at c.index.result.now c.in-Some.is
    c.loop-from.invariant c.index.ensures c.in_default-index.is

pub loop-from-smaller : goal.loop-from-smaller
loop-from-smaller c =
    let there : slice_get c.args.self.now.table.items c.in-Some.at
    ≡ Some (Some c.in-Some-index.arrival) =
    noted_at c.args.self.now.subject c.args.self.now.table.items c.args.last
    c.loop-from.steps.items c.loop-from.from c.in-Some.at c.index.result.now
    c.in-Some-index.arrival c.in-Some.is c.loop-from.invariant c.index.ensures c.in-Some-index.is in
    subst (λ (from : Option ℕ). left c.in-Some-index.arrival.from < left from) (sym c.in-Some.is)
    (left_less c.args.self.now.subject c.args.self.now.table.items c.in-Some.at
    c.in-Some-index.arrival c.requires.traced there)

pub loop-from-preserved : goal.loop-from-preserved
loop-from-preserved c =
    let there : slice_get c.args.self.now.table.items c.in-Some.at
    ≡ Some (Some c.in-Some-index.arrival) =
    noted_at c.args.self.now.subject c.args.self.now.table.items c.args.last
    c.loop-from.steps.items c.loop-from.from c.in-Some.at c.index.result.now
    c.in-Some-index.arrival c.in-Some.is c.loop-from.invariant c.index.ensures c.in-Some-index.is in
    subst (λ (steps : List Step). IsWalked c.args.self.now.subject c.args.self.now.table.items
    c.args.last steps c.in-Some-index.arrival.from) (sym (c.in_ok-push.ensures {u = tt}).items)
    (walked_more c.args.self.now.subject c.args.self.now.table.items c.args.last
    c.loop-from.steps.items c.in-Some.at c.in-Some-index.arrival c.requires.traced
    (subst (λ (from : Option ℕ). IsWalked c.args.self.now.subject c.args.self.now.table.items
    c.args.last c.loop-from.steps.items from) c.in-Some.is c.loop-from.invariant) there)

pub returns-clause-path : goal.returns-clause-path
returns-clause-path c =
    let items : c.of.result ≡ reverse c.loop-from.steps.items = search rules in
    subst (λ (list : List Step). IsTrail c.args.self.now.subject (c.args.last ∷ reverse list))
    (sym items)
    (walked_path c.args.self.now.subject c.args.self.now.table.items c.args.last
    c.loop-from.steps.items
    (subst (λ (from : Option ℕ). IsWalked c.args.self.now.subject c.args.self.now.table.items
    c.args.last c.loop-from.steps.items from) c.in_default.is c.loop-from.invariant))
