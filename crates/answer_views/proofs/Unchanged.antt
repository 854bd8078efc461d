-- An event that waits, finds nothing to do or is refused leaves a run as it was, but for its trace.
use Rattle.std.proofs.Common.{◌≡◌, ◌∙◌, ℕ, Bool, true, false, List, [], ◌∷◌, ◌++◌, Option, None, Some, refl, sym, ap, if◌then◌else◌}
use Rattle.std.proofs.lemmas.Bool.{false≢true}
use Rattle.answer_runs.proofs.Following.{run_more}
use Rattle.laws_runs.specs.Waits.{WaitingChangesNothing, says_unchanged}
use Rattle.model.specs.declared.event.Bug.{Bug as BugOf}
use Rattle.model.specs.declared.event.Event.{Event}
use Rattle.model.specs.declared.event.Reply.{Reply}
use Rattle.model.specs.declared.event.Reply.TheVariants.{Started, Stepped, Finished, Topped, Waited, Idle, Refused, Bug, Wrong}
use Rattle.model.specs.Events.{Change, effect}
use Rattle.model.specs.Fault.{first_fault}
use Rattle.model.specs.Machine.{Machine, ShowsWhole, reply_to}
use Rattle.model.specs.Run.{Run, actor_on, answered_on, begun, goes, refused, run, step, thread_of, unless_fault, unless_wrong}
use Rattle.model.specs.Set.{Set}
use Rattle.model.specs.Trace.{Entry, recorded}

-- an event that leaves a run's world as it was doesn't stop it either
module _ (set : Set) (r : Run) where
  stopped_over : (t : ℕ) (past : List Entry) (c : Change) (over : Bool) → r.stopped ≡ false
      → (if over then refused r else goes set r t past c).run.stopped ≡ r.stopped
  stopped_over t past c true is = refl
  stopped_over t past c false is = sym is

  stopped_wrong : (t : ℕ) (past : List Entry) (c : Change) (reply : Reply) → r.stopped ≡ false
      → says_unchanged (unless_wrong set r t past c reply).reply ≡ true
      → (unless_wrong set r t past c reply).run.stopped ≡ r.stopped
  stopped_wrong t past c (Wrong place) is same = absurd (false≢true same)
  stopped_wrong t past c (Started packet) is same = stopped_over t past c c.over is
  stopped_wrong t past c Stepped is same = stopped_over t past c c.over is
  stopped_wrong t past c Finished is same = stopped_over t past c c.over is
  stopped_wrong t past c (Topped packet status info) is same = stopped_over t past c c.over is
  stopped_wrong t past c Waited is same = stopped_over t past c c.over is
  stopped_wrong t past c Idle is same = stopped_over t past c c.over is
  stopped_wrong t past c Refused is same = stopped_over t past c c.over is
  stopped_wrong t past c (Bug bug) is same = stopped_over t past c c.over is

  stopped_fault : (t : ℕ) (past : List Entry) (c : Change) (fault : Option BugOf)
      → r.stopped ≡ false → says_unchanged (unless_fault set r t past c fault).reply ≡ true
      → (unless_fault set r t past c fault).run.stopped ≡ r.stopped
  stopped_fault t past c (Some bug) is same = absurd (false≢true same)
  stopped_fault t past c None is same = stopped_wrong t past c c.reply is same

  stopped_on : (c : Change) (thread : Option ℕ) → r.stopped ≡ false
      → says_unchanged (answered_on set r c thread).reply ≡ true
      → (answered_on set r c thread).run.stopped ≡ r.stopped
  stopped_on c None is same = refl
  stopped_on c (Some t) is same =
      let actor = actor_on r t in
      stopped_fault actor.thread (recorded r.past actor c.actions) c
      (first_fault r.past actor c.actions) is same

  stopped_by : (e : Event) (stopped : Bool) → r.stopped ≡ stopped
      → says_unchanged (if stopped then refused r
      else answered_on set r (effect set r.world e) (thread_of e)).reply ≡ true
      → (if stopped then refused r
      else answered_on set r (effect set r.world e) (thread_of e)).run.stopped ≡ r.stopped
  stopped_by e true is same = refl
  stopped_by e false is same = stopped_on (effect set r.world e) (thread_of e) is same

  stopped_same : (e : Event) → says_unchanged (step set r e).reply ≡ true
      → (step set r e).run.stopped ≡ r.stopped
  stopped_same e same = stopped_by e r.stopped refl same

-- so a machine that showed the run before it shows the run after it too
pub shown_same : (m : Machine) (threads : ℕ) (past : List Event) (e : Event)
    → WaitingChangesNothing → ShowsWhole m threads past
    → says_unchanged (reply_to m.set threads past e) ≡ true
    → ShowsWhole m threads (past ++ e ∷ [])
shown_same m threads past e law shows same =
    let more : run m.set threads (past ++ e ∷ []) ≡ (step m.set (run m.set threads past) e).run =
    run_more m.set (begun m.set threads) past e in
    record {
      world = shows.world ∙ sym (law m.set threads past e same);
      stopped = shows.stopped ∙ sym (stopped_same m.set (run m.set threads past) e same)
          ∙ sym (ap (λ (r : Run). r.stopped) more);
    }
