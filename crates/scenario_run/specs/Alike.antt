-- Scenarios that go on alike: by as many events they have led to one world, and their replies told
-- the same, as far as a scenario asks for it. What an audit finds in the trace of a run that isn't
-- one of an accepted set may still be different.
use Rattle.std.specs.Prelude.{ℕ, ◌≡◌, List, length}
use Rattle.std.specs.List.{list_any}
use Rattle.checked.specs.SameWorlds.{StandAlike}
use Rattle.model.specs.declared.event.Event.{Event}
use Rattle.model.specs.declared.event.Reply.{Reply}
use Rattle.model.specs.History.{replies, top_out_of}
use Rattle.model.specs.Set.{Set}
use Rattle.scenario_run.specs.Holding.{is_bug}
use Rattle.scenario_run.specs.Playing.{Playing}

-- replies told the same: how packets topped out, and the numbers of bug checks
pub record TellAlike (told others : List Reply) : Type 0 where
  pub tops : (n : ℕ) → top_out_of told n ≡ top_out_of others n
  pub bugs : (n : ℕ) → list_any (is_bug n) told ≡ list_any (is_bug n) others

-- two runs of a set go on alike
pub record GoAlike (set : Set) (threads : ℕ) (events others : List Event) : Type 0 where
  pub long : length events ≡ length others
  pub stand : StandAlike set threads events threads others
  pub tell : TellAlike (replies set threads events) (replies set threads others)

-- two scenarios do so, if they are over the same set, on as many threads
abbrev pub AreAlike : Playing → Playing → Type 0
AreAlike p q =
    p.set ≡ q.set → p.threads ≡ q.threads → GoAlike p.set p.threads p.events q.events
