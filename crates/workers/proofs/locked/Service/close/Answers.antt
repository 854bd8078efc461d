use Rattle.std.proofs.Common.{◌≡◌, ◌∙◌, ap, refl, subst, sym, arith, ℕ}
use Rattle.std.specs.List.{range_with_len}
use Rattle.workers.specs.Ended.{EndsState, HaveEnded}
use Rattle.workers.specs.Kept.{AreBack, counts_of, station}
use Rattle.workers.proofs.Closing.{closed, seats_enough}
use Rattle.workers.proofs.Turning.{seats_long}
use Rattle.workers.proofs.locked.Service.close.Goals as goal

abbrev ends_of : ℕ → EndsState
ends_of started = record { missing = 0; started = started }

pub give_back-counts-requires-clause-few : goal.give_back-counts-requires-clause-few
give_back-counts-requires-clause-few g c =
    let long = seats_long g.B.Beginning.core g.B.Beginning.takers _ c.self.invariant.0 in
    omega (arith, long, c.requires.few)

pub give_back-counts-requires-clause-seats : goal.give_back-counts-requires-clause-seats
give_back-counts-requires-clause-seats g c =
    let long = seats_long g.B.Beginning.core g.B.Beginning.takers _ c.self.invariant.0 in
    c.self.invariant.0.seats ∙ ap (range_with_len 0) (sym long)

pub give_back-counts-requires-clause-core : goal.give_back-counts-requires-clause-core
give_back-counts-requires-clause-core g c =
    let long = seats_long g.B.Beginning.core g.B.Beginning.takers _ c.self.invariant.0 in
    let enough = seats_enough g.B.Beginning.core g.B.Beginning.takers _ c.self.invariant.0 in
    omega (arith, long, enough)

pub returns : goal.returns
returns g c =
    let long = seats_long g.B.Beginning.core g.B.Beginning.takers _ c.self.invariant.0 in
    let back = c.give_back-counts.ensures in
    let told : c.started.result ≡ c.args.all.amount = c.started.ensures ∙ ap (λ (e : EndsState). e.started) c.requires.ends in
    let counted = c.audit.ensures.whole c.requires.all in
    let ended : HaveEnded c.started.result c.args.ends = c.requires.ends ∙ ap ends_of (sym told) in
    closed g.B.Beginning.core g.B.Beginning.takers
    (station c.self.inside.core c.self.inside.seats.items c.self.inside.takers.items
    c.self.inside.started c.self.inside.held c.self.inside.full) c.give_back-counts.new.core
    c.self.invariant.0 c.requires.free
    (subst (λ (n : ℕ). AreBack n c.self.inside.core c.give_back-counts.new.core) long back.back)
    _ refl refl (back.counts ∙ ap (counts_of c.self.inside.core) long) c.list_held.ensures
    (told ∙ counted ∙ sym c.self.invariant.1) ended refl
