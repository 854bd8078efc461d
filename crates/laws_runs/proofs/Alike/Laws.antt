-- Runs of an accepted set that a machine may not tell apart go on alike.
use Rattle.laws_runs.proofs.Common.{ap, subst, sym, ◌∙◌, Bool, List, if◌then◌else◌, ℕ, ◌≡◌, effect, Answered, Run, refused, run, step, Set, Shared, World, Event, States, IsGood, led}
use Rattle.laws_runs.specs.AlikeRuns.{AlikeRunsGoOnAlike, GoOnAlike}
use Rattle.laws_runs.proofs.Accepted.Lasts.{GoesOn, Lasts, goes_on_at, lasts}
use Rattle.laws_runs.proofs.Alike.Events.{effects_alike}
use Rattle.laws_runs.proofs.Alike.Whole.{world_alike, world_shown}
use Rattle.laws_runs.proofs.Alike.Worlds.{AlikeChange, AlikeWorld}
use Rattle.laws_runs.proofs.Runs.Events.{Concerns, a_thread, answers_none, concerns, no_thread, set_in}

module _ (set : Set) (states : States) (good : IsGood set states) where
  -- an event on a run does what it does to its world
  pub record Does (r : Run) (e : Event) : Type 0 where
    pub world : (step set r e).run.world ≡ (effect set r.world e).world
    pub reply : (step set r e).reply ≡ (effect set r.world e).reply

  does_concerned : (threads : ℕ) (r : Run) (e : Event) → Lasts set states good threads r
      → Concerns set r.world e → Does r e
  does_concerned threads r e lasting (a_thread t is happens) =
      let on : GoesOn set states good threads r t (effect set r.world e) (step set r e) =
      goes_on_at set states good threads r lasting t e is happens in
      record {
        world = ap (λ (a : Answered). a.run.world) on.is;
        reply = ap (λ (a : Answered). a.reply) on.is;
      }
  does_concerned threads r e lasting (no_thread is of) =
      let same : step set r e ≡ set_in r (effect set r.world e) =
      answers_none set r e is
      ∙ ap (λ (stopped : Bool). if stopped then refused r else set_in r (effect set r.world e))
      lasting.on in
      record {
        world = ap (λ (a : Answered). a.run.world) same;
        reply = ap (λ (a : Answered). a.reply) same;
      }

  pub does : (threads : ℕ) (r : Run) (e : Event) → Lasts set states good threads r → Does r e
  does threads r e lasting = does_concerned threads r e lasting (concerns set r.world e)

  -- worlds that can't be told apart, one of them with the other's shared part
  changes_alike : (threads : ℕ) (r : Run) (v : World) (e : Event)
      → Lasts set states good threads r → AlikeWorld set states v r.world
      → AlikeChange set states (effect set v e) (effect set r.world e)
  changes_alike threads r v e lasting h =
      let w : World = r.world in
      subst (λ (s : Shared).
      AlikeChange set states (effect set (record { threads = v.threads; shared = s }) e)
      (effect set w e)) (sym h.shared)
      (effects_alike set states threads w r.past good lasting.keeps v.threads h.threads e)

  go_alike : (threads : ℕ) (events : List Event) (others : ℕ) (other : List Event) (e : Event)
      → AlikeWorld set states (run set threads events).world (run set others other).world
      → GoOnAlike set threads events others other e
  go_alike threads events others other e h =
      let one : Run = run set threads events in
      let two : Run = run set others other in
      let first : Does one e = does threads one e (lasts set states good threads events) in
      let second : Does two e = does others two e (lasts set states good others other) in
      let same : AlikeChange set states (effect set one.world e) (effect set two.world e) =
      changes_alike others two one.world e (lasts set states good others other) h in
      record {
        shows = rw (first.world, second.world) (world_shown set states good _ _ same.worlds);
        replies = first.reply ∙ same.reply ∙ sym second.reply;
      }

pub alike_go_on : AlikeRunsGoOnAlike
alike_go_on set typable sound threads events others other e shows =
    let states : States = (led set typable sound).0 in
    let good : IsGood set states = record { sound = sound; led = (led set typable sound).1 } in
    let one : Run = run set threads events in
    let two : Run = run set others other in
    go_alike set states good threads events others other e
    (world_alike set states good others threads one.world two.world two.past one.past
    (lasts set states good threads events).keeps (lasts set states good others other).keeps shows)
