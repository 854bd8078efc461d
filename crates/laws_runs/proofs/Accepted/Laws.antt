-- The laws of the runs of accepted sets, in their own words.
use Rattle.laws_runs.proofs.Common.{ap, refl, sym, ◌∙◌, List, None, false, length, slice_get, true, ℕ, ◌<◌, ◌≡◌, ◌≢◌, ◌≤◌, effect, reply_to, Answered, Run, frames_on, run, step, tags_on, Set, member, IsSound, IsTypable, Event, Step, Reply, Refused, CancelFrame, Walk, States, times_topped, IsGood, stands_inside, led}
use Rattle.laws_runs.specs.Holder.{HasOneHolder, PacketsHaveOneHolder}
use Rattle.laws_runs.specs.KindsAgree.{AcceptedRunsKeepKinds, RegistersAreOfTheirKinds}
use Rattle.laws_runs.specs.Lifetime.{KeepCertificates, ActivationsKeepTheirCertificate}
use Rattle.laws_runs.specs.NeverStops.{LetsGoOn, NeverStops, AcceptedRunsNeverStop}
use Rattle.laws_runs.specs.NothingSkipped.{SkipsNothing, NothingIsSkipped}
use Rattle.laws_runs.specs.NoWrong.{NeverGoesWrong, AcceptedRunsNeverGoWrong}
use Rattle.laws_runs.specs.OneToken.{BusyDevicesHaveOneToken, HasOneToken}
use Rattle.laws_runs.specs.PendingReturns.{AcceptedRunsAgreeOnPending}
use Rattle.laws_runs.specs.Rules.{AcceptedRunsKeepTheRules}
use Rattle.laws_runs.specs.TopsOnce.{PacketsTopOutOnce}
use Rattle.laws_runs.proofs.Accepted.Kinds.{kinds_agree}
use Rattle.laws_runs.proofs.Accepted.Lasts.{Lasts, GoesOn, goes_on_at, right_answer, lasts}
use Rattle.laws_runs.proofs.Accepted.Trace.{all_right}
use Rattle.laws_runs.proofs.Certificates.Kept.{all_kept, all_one, stands_within}
use Rattle.laws_runs.proofs.Depth.Granted.{is_refused, granted_step}
use Rattle.laws_runs.proofs.Holders.Once.{tops_at_most_once}
use Rattle.laws_runs.proofs.Claims.Once.{lists_live}
use Rattle.laws_runs.proofs.Holders.Runs.{one_holder, live_listed}
use Rattle.laws_runs.proofs.Pending.Entries.{all_say, as_many, has_uses, manager_tag, routine_tag}
use Rattle.laws_runs.proofs.Pending.Returned.{pending_agree}
use Rattle.laws_runs.proofs.Runs.Events.{stops_run, happens_step}
use Rattle.laws_runs.proofs.States.Follows.{alone_at}
use Rattle.laws_runs.specs.ArrivingStates.{StatesArrive}

-- a reply of a run that goes on
lets_go : (reply : Reply) → stops_run reply ≡ false → LetsGoOn reply
lets_go reply right =
    record {
      bug = λ bug same. (let no : true ≡ false = sym (ap stops_run same) ∙ right in cc);
      wrong = λ place same. (let no : true ≡ false = sym (ap stops_run same) ∙ right in cc);
    }

module _ (set : Set) (typable : IsTypable set) (sound : IsSound set) where
  abbrev states : States
  states = (led set typable sound).0

  good : IsGood set states
  good = record { sound = sound; led = (led set typable sound).1 }

  states_arrive : StatesArrive set states
  states_arrive =
      record {
        alone = λ driver number p routine there within.
            alone_at (member set driver number routine) (states driver number)
            (good.led.known driver number routine there).follows p within;
      }

  module _ (threads : ℕ) (events : List Event) where
    abbrev here : Run
    here = run set threads events

    lasting : Lasts set states good threads here
    lasting = lasts set states good threads events

    reply_right : (e : Event) → stops_run (reply_to set threads events e) ≡ false
    reply_right e = right_answer set states good threads here lasting e

    granted : (t : ℕ) → t < threads → reply_to set threads events (Step t) ≢ Refused
    granted t within same =
        let on : GoesOn set states good threads here t (effect set here.world (Step t))
        (step set here (Step t)) =
        goes_on_at set states good threads here lasting t (Step t) refl
        (happens_step set here.world t (slice_get here.world.threads t) refl) in
        let there : t < length here.world.threads = rw lasting.keeps.count within in
        let no : true ≡ false =
        sym (ap is_refused same) ∙ ap (λ (a : Answered). is_refused a.reply) on.is
        ∙ granted_step set here.world t there in
        cc

    never_stops : NeverStops set threads events
    never_stops = record {
      on = lasting.on;
      replies = λ e. lets_go _ (reply_right e);
      stepped =
          granted;
    }

    never_wrong : NeverGoesWrong set threads events
    never_wrong =
        record {
          trace = all_right here.past lasting.keeps.right;
          replies = λ e place. (never_stops.replies e).wrong place;
        }

    keep_certificates : KeepCertificates set threads events
    keep_certificates =
        record {
          kept = all_kept set here lasting.tally;
          one = all_one set here lasting.tally;
          standing = stands_within set here lasting.tally;
        }

    has_one_holder : HasOneHolder set states threads events
    has_one_holder =
        record {
          stand = λ t k a there.
              stands_inside set states here.world.shared.issued (frames_on here.world t) k a
              (lasting.keeps.stands.frames t) there;
          one = λ n. one_holder here lasting.keeps.stands.tells n set states lasting.keeps.held;
          once = λ n. lists_live set states here lasting.keeps.stands.tells lasting.keeps.held
              lasting.keeps.claims n;
          listed = λ n. live_listed here lasting.keeps.stands.tells n;
        }

    has_one_token : HasOneToken set states threads events
    has_one_token = record { one = lasting.keeps.tokens.one; idle = lasting.keeps.tokens.idle }

    kinds_kept : RegistersAreOfTheirKinds set threads events
    kinds_kept =
        record {
          each = kinds_agree set states threads here.world here.past good lasting.keeps;
        }

    at_most_once : (n : ℕ) → times_topped here.past n ≤ 1
    at_most_once n = tops_at_most_once here.past lasting.keeps.once n

    skips_nothing : SkipsNothing set threads events
    skips_nothing =
        record {
          tagged = λ t. as_many set states here.world here.past None (frames_on here.world t)
              (tags_on here t)
              (lasting.attends.serves_all t);
          routines = λ t k a there. routine_tag set states here.world here.past
              here.world.shared.issued None
              (frames_on here.world t) (tags_on here t) k a (lasting.attends.serves_all t)
              (lasting.keeps.stands.frames t) (λ b first. tt) there;
          managers = λ t k n there. manager_tag set states here.world here.past None
              (frames_on here.world t)
              (tags_on here t) k (Walk n) (λ tag is. is) (lasting.attends.serves_all t) there;
          cancellers = λ t k c there. manager_tag set states here.world here.past None
              (frames_on here.world t)
              (tags_on here t) k (CancelFrame c) (λ tag is. is) (lasting.attends.serves_all t)
              there;
          packets = has_uses here.world here.past lasting.keeps.«uses»;
          entries = all_say here.past lasting.says;
        }

pub accepted_go_on : AcceptedRunsNeverStop
accepted_go_on = never_stops

pub accepted_go_right : AcceptedRunsNeverGoWrong
accepted_go_right = never_wrong

pub accepted_certificates : ActivationsKeepTheirCertificate
accepted_certificates = keep_certificates

pub accepted_holders : PacketsHaveOneHolder
accepted_holders set typable sound =
    (states set typable sound, states_arrive set typable sound, has_one_holder set typable sound)

pub accepted_tokens : BusyDevicesHaveOneToken
accepted_tokens set typable sound =
    (states set typable sound, states_arrive set typable sound, has_one_token set typable sound)

pub accepted_kinds : AcceptedRunsKeepKinds
accepted_kinds = kinds_kept

pub accepted_tops : PacketsTopOutOnce
accepted_tops = at_most_once

pub accepted_agree : AcceptedRunsAgreeOnPending
accepted_agree set typable sound threads events =
    pending_agree (states set typable sound)
    (run set threads events).world
    (run set threads events).past
    (lasting set typable sound threads events).attends.agree

pub accepted_skip_nothing : NothingIsSkipped
accepted_skip_nothing = skips_nothing

pub accepted_rules : AcceptedRunsKeepTheRules
accepted_rules set typable sound threads events =
    record {
      faultless = (lasting set typable sound threads events).keeps.faultless;
      right = never_wrong set typable sound threads events;
      lasting = never_stops set typable sound threads events;
      certificates = keep_certificates set typable sound threads events;
      pending = accepted_agree set typable sound threads events;
      complete = skips_nothing set typable sound threads events;
      states = states set typable sound;
      arrive = states_arrive set typable sound;
      holders = has_one_holder set typable sound threads events;
      tokens = has_one_token set typable sound threads events;
      kinds = kinds_kept set typable sound threads events;
      topped = at_most_once set typable sound threads events;
    }
