use Rattle.std.proofs.Common.{inl, inr}
use Rattle.scenario_together.proofs.Playing.{covered, ends_at, ends_nowhere, played_on}
use Rattle.scenario_together.proofs.play.played_by.Goals as goal

pub returns-in-Some : goal.returns-in-Some
returns-in-Some c =
    λ merges steps leaves.
    played_on merges steps c.args.home c.args.plays.items c.args.over c.in-Some.played leaves
    c.in-Some.is

pub returns-in-None : goal.returns-in-None
returns-in-None c =
    λ merges steps leaves.
    let home = c.args.home in
    let plays = c.args.plays.items in
    let now = c.first_or-now.result in
    let covers = covered merges steps home plays c.args.over leaves c.in-None.is in
    elim c.first_or-now.ensures [
      | inl none ↦ ends_nowhere merges home steps plays now covers none
      | inr first ↦ ends_at merges home steps plays now covers first
    ]
