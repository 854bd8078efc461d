-- What every run of an accepted set keeps, a field a family; no event has a bug check, goes wrong
-- or passes a bound; and each event keeps it.
use Rattle.laws_runs.proofs.Claims.Runs.{claimed_begun, claimed_kept}
use Rattle.laws_runs.proofs.Common.{refl, ◌∙◌, length-replicate, Bool, List, None, [], false, length, slice_get, ℕ, ◌≡◌, Action, Change, first_fault, begun, root_of, Set, Actor, Entry, recorded, World, idle_thread, States, Faultless, IsGood, Standing, right_event, standing_kept}
use Rattle.laws_runs.proofs.Accepted.Trace.{NoneWrong, recorded_right}
use Rattle.laws_runs.proofs.Depth.Granted.{same_count}
use Rattle.laws_runs.proofs.Depth.Kept.{AllFall, falls_begun, falls_event, within_bounds}
use Rattle.laws_runs.proofs.Holders.Once.{ToppedOnce, once_kept}
use Rattle.laws_runs.proofs.Holders.Runs.{held_kept, completion_faults_none, held_begun, top_holding}
use Rattle.laws_runs.proofs.Live.Kept.{Sees, sees_begun, sees_event, top_lent, touches_none}
use Rattle.laws_runs.proofs.Uses.Events.{KnownWorld, uses_begun, uses_event}
use Rattle.laws_runs.proofs.Uses.Fates.{UsesTell}
use Rattle.laws_runs.proofs.Holders.Sums.{Held}
use Rattle.laws_runs.proofs.Locks.Runs.{LocksAgree, locks_kept, lock_faults_none, locks_begun}
use Rattle.laws_runs.proofs.Past.Runs.{Telling, telling_begun, telling_happens, telling_queued}
use Rattle.laws_runs.proofs.Room.Runs.{Roomy, roomy_begun, call_faults_none, roomy_kept, roomy_lends, roomy_queued}
use Rattle.laws_runs.proofs.Claims.Sums.{Claimed}
use Rattle.laws_runs.proofs.Live.Claimed.{claims_live, entries_live}
use Rattle.laws_runs.proofs.Runs.Events.{Happens, StepsFrame, begins, nothing, steps}
use Rattle.laws_runs.proofs.Runs.Roots.{root_told}
use Rattle.laws_runs.proofs.Runs.Faultless.{recorded_faultless}
use Rattle.laws_runs.proofs.Runs.Kept.{GoesOnBy, with_queued}
use Rattle.laws_runs.proofs.States.Standing.{standing_begun, standing_queued}
use Rattle.laws_runs.proofs.Steps.Faults.{no_fault}
use Rattle.laws_runs.proofs.Tokens.Runs.{tokens_begun, tokens_kept, tokens_queued}
use Rattle.laws_runs.proofs.Tokens.Sums.{OneTokenEach}
use Rattle.laws_runs.proofs.Holders.Waits.{NextArmed}
use Rattle.laws_runs.proofs.Claims.Next.{next_armed}

pub record Keeps (set : Set) (states : States) (threads : ℕ) (w : World) (past : List Entry) : Type
    0 where
  pub stands : Standing set states w past
  pub told : Telling w past
  pub locks : LocksAgree states w past
  pub held : Held set states w
  pub claims : Claimed set states w
  pub tokens : OneTokenEach states w
  pub sees : Sees set states w
  pub room : Roomy set states w
  pub falls : AllFall set w
  pub «uses» : UsesTell w past
  pub once : ToppedOnce past
  pub faultless : Faultless past
  pub right : NoneWrong past
  pub count : length w.threads ≡ threads

-- before the first event
pub keeps_begun : (set : Set) (states : States) (threads : ℕ)
    → Keeps set states threads (begun set threads).world []
keeps_begun set states threads =
    record {
      stands = standing_begun set states threads;
      told = telling_begun set threads;
      locks = locks_begun set states threads;
      held = held_begun set states threads;
      claims = claimed_begun set states threads;
      tokens = tokens_begun set states threads;
      sees = sees_begun set states threads;
      room = roomy_begun set states threads;
      falls = falls_begun set threads;
      «uses» = uses_begun (begun set threads).world refl;
      once = λ n. refl;
      faultless = tt;
      right = tt;
      count = length-replicate threads idle_thread;
    }

module _ (set : Set) (states : States) (threads : ℕ) (w : World) (past : List Entry)
    (good : IsGood set states)
    (keeps : Keeps set states threads w past) where
  -- what is known of the world, for what happens to uses
  pub known_world : KnownWorld set states w past
  known_world =
      record {
        good = good;
        stands = keeps.stands;
        kept = keeps.held;
        sees = keeps.sees;
        lends = roomy_lends set states w keeps.room;
      }

  -- no event has a bug check or passes a bound
  quiet_event : (actor : Actor) (c : Change)
      → actor.root ≡ root_of (slice_get w.threads actor.thread)
      → Happens set w actor.thread c → first_fault past actor c.actions ≡ None
  quiet_event actor c root (nothing reply right) = refl
  quiet_event actor c root (begins i r beside) =
      root_told set w.shared (λ (actions : List Action). first_fault past actor actions ≡ None) refl
      (λ n stack. refl) r beside
  quiet_event actor c root (steps h) =
      no_fault past actor h.outcome.actions
      (record {
        locks = lock_faults_none set states w past good keeps.stands keeps.locks actor root h;
        touches = touches_none set states w past good keeps.stands keeps.sees actor h keeps.held
            (top_holding set states w past keeps.stands keeps.held actor.thread h)
            (claims_live set states w past good keeps.stands keeps.held keeps.claims actor.thread h)
            (entries_live set states w past good keeps.stands keeps.held keeps.claims);
        calls = call_faults_none set states w past good keeps.stands keeps.held keeps.room actor h;
        completions = completion_faults_none set states w past good keeps.stands keeps.held actor h;
      })

  within_event : (t : ℕ) (c : Change) → Happens set w t c → c.over ≡ false
  within_event t c (nothing reply right) = refl
  within_event t c (begins i root beside) = refl
  within_event t c (steps h) =
      within_bounds set states w t keeps.falls past h good keeps.stands keeps.held keeps.claims
      (falls_event set states w t keeps.falls past c good keeps.stands (steps h))

  -- so every event of a run goes on
  pub goes_on_by : (actor : Actor) (c : Change)
      → actor.root ≡ root_of (slice_get w.threads actor.thread)
      → Happens set w actor.thread c → GoesOnBy set w past actor c
  goes_on_by actor c root happens =
      record {
        happens = happens;
        root = root;
        quiet = quiet_event actor c root happens;
        within = within_event actor.thread c happens;
      }

  pub keeps_event : (actor : Actor) (c : Change) → GoesOnBy set w past actor c
      → Keeps set states threads c.world (recorded past actor c.actions)
  keeps_event actor c on =
      let t : ℕ = actor.thread in
      let armed : (h : StepsFrame set w t) → NextArmed set w.shared h.frame =
      next_armed set states w past good keeps.stands keeps.locks keeps.told.locks keeps.claims t in
      let happens : Happens set w t c = on.happens in
      record {
        stands = standing_kept set states w past good keeps.stands actor c happens on.quiet;
        told = telling_happens set good.sound w past actor c keeps.told happens on.quiet on.within;
        locks = locks_kept set states w past good keeps.stands keeps.locks actor c happens;
        held = held_kept set states w past good keeps.stands keeps.held keeps.tokens actor c
            (top_lent set states w keeps.sees t) armed happens on.quiet;
        claims = claimed_kept set states w past good keeps.stands keeps.claims keeps.locks
            keeps.told.locks keeps.held actor c happens on.quiet;
        tokens = tokens_kept set states w past good keeps.stands keeps.tokens actor c happens;
        sees = sees_event set states w past good keeps.stands keeps.sees t c happens;
        room = roomy_kept set states w past good keeps.stands keeps.held keeps.room keeps.claims
            actor armed c happens;
        falls = falls_event set states w t keeps.falls past c good keeps.stands happens;
        «uses» = uses_event set states w past actor c known_world keeps.«uses» happens on.quiet;
        once = once_kept set past actor keeps.once w c keeps.stands.tells happens;
        faultless = recorded_faultless past actor c.actions keeps.faultless on.quiet;
        right = recorded_right past actor c.actions keeps.right
            (right_event set states w past good keeps.stands t c happens).0;
        count = same_count set w t c happens ∙ keeps.count;
      }

  -- where a DPC is queued or isn't
  pub keeps_queued : (d : ℕ) (queued : Bool) → Keeps set states threads (with_queued w d queued)
      past
  keeps_queued d queued =
      record {
        stands = standing_queued set states w past good keeps.stands d queued;
        told = telling_queued w past d queued keeps.told;
        locks = keeps.locks;
        held = record { rights = keeps.held.rights; walks = keeps.held.walks };
        claims = record {
          balanced = record {
            backed = keeps.claims.balanced.backed;
            entered = keeps.claims.balanced.entered;
            standing = keeps.claims.balanced.standing;
            once = keeps.claims.balanced.once;
          };
          apart = keeps.claims.apart;
        };
        tokens = tokens_queued states w d queued keeps.tokens;
        sees = keeps.sees;
        room = roomy_queued set states w d queued keeps.room;
        falls = keeps.falls;
        «uses» = record { traced = keeps.«uses».traced; live = keeps.«uses».live };
        once = keeps.once;
        faultless = keeps.faultless;
        right = keeps.right;
        count = keeps.count;
      }
