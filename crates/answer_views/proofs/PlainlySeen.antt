-- Plain steps, as runs are told: the ledger stays as it is where one steps, and where it doesn't
-- the frame that acts is the one that is looked up after it.
use Rattle.std.proofs.Common.{◌≡◌, ◌≢◌, ◌∙◌, ℕ, List, [], ◌∷◌, ◌++◌, Option, true, false, refl, sym, ap, subst}
use Rattle.model.specs.declared.event.Event.{Event}
use Rattle.model.specs.declared.event.Reply.{Reply}
use Rattle.model.specs.declared.event.Reply.TheVariants.{Stepped}
use Rattle.model.specs.Machine.{AppliesWhole, Machine, ShowsWhole, reply_to}
use Rattle.model.specs.Run.{run}
use Rattle.model.specs.Set.{Set}
use Rattle.model.specs.World.{World}
use Rattle.tell_uses.specs.declared.acting.Acting.{Acting}
use Rattle.tell_uses.specs.declared.acts.UseStep.{UseStep}
use Rattle.tell_uses.specs.declared.acts.UseStep.TheVariants.{Nothing}
use Rattle.tell_uses.specs.Acting.{acting_in}
use Rattle.tell_uses.specs.Acts.{use_step}
use Rattle.tell_uses.specs.Computing.{computes}
use Rattle.tell_uses.specs.Ledger.{LedgerState, TellsOn}
use Rattle.tell_uses.specs.Plain.{PlainStepsKeepLedgers, PlainStepsStepOrStay, is_plain}
use Rattle.tell_uses.proofs.PlainSteps.{nothing_used}
use Rattle.answer_views.specs.Seen.{is_stepped}
use Rattle.drvhost_devices.specs.declared.manner.Detail.{Detail}
use Rattle.drvhost_devices.specs.declared.manner.Detail.TheVariants.{Quiet, Usual}
use Rattle.answer_views.specs.Told.{is_left_out}
use Rattle.tell_json.specs.Telling.{LedgerGoesOn}
use Rattle.answer_views.proofs.ToldAlone.{noted_by}

-- a step is left out: in quiet each, and usually one that only computes
pub quiet_left_out : (detail : Detail) (acting : Option Acting) → detail ≡ Quiet
    → is_left_out detail acting Stepped ≡ true
quiet_left_out detail acting is = ap (λ d. is_left_out d acting Stepped) is

pub usual_left_out : (detail : Detail) (acting : Option Acting) → detail ≡ Usual
    → computes acting ≡ true → is_left_out detail acting Stepped ≡ true
usual_left_out detail acting is only = ap (λ d. is_left_out d acting Stepped) is ∙ only

pub stepped : (reply : Reply) → is_stepped reply ≡ true → reply ≡ Stepped
stepped Stepped is = refl
stepped _ is = cc

pub not_stepped : (reply : Reply) → is_stepped reply ≡ false → reply ≢ Stepped
not_stepped reply is same =
    let no : true ≡ false = rw same at is in cc

module _ (m n : Machine) (e : Event) (reply : Reply) (plain : is_plain m.set m.world e ≡ true)
    (ran : AppliesWhole m e n reply) where
  plain_run : (threads : ℕ) (events : List Event) → ShowsWhole m threads events
      → is_plain m.set (run m.set threads events).world e ≡ true
  plain_run threads events shows =
      subst (λ (w : World). is_plain m.set w e ≡ true) shows.world plain

  pub keeps_ledger : (l : LedgerState) → PlainStepsKeepLedgers → reply ≡ Stepped
      → LedgerGoesOn m e l l
  keeps_ledger l law steps threads events shows tells =
      law m.set threads events e l (plain_run threads events shows)
      (sym (ran.replies threads events shows) ∙ steps) tells

  pub acts_after : (acting : Option Acting) → PlainStepsStepOrStay → reply ≢ Stepped
      → acting ≡ acting_in n.set n.world e
      → (threads : ℕ) (events : List Event) → ShowsWhole m threads events
      → acting ≡ acting_in m.set m.world e
  acts_after acting law other is threads events shows =
      let replied : reply_to m.set threads events e ≢ Stepped =
      λ steps. other (ran.replies threads events shows ∙ steps) in
      let world : n.world ≡ m.world =
      (ran.shows threads events shows).world
      ∙ ap (λ (s : Set). (run s threads (events ++ e ∷ [])).world) ran.set
      ∙ law m.set threads events e (plain_run threads events shows) replied
      ∙ sym shows.world in
      is ∙ ap (λ (s : Set). acting_in s n.world e) ran.set
      ∙ ap (λ (w : World). acting_in m.set w e) world

  pub uses_nothing : Nothing ≡ use_step m.set m.world e
  uses_nothing = sym (nothing_used m.set m.world e plain)

  pub notes_ledger : (l k : LedgerState) → TellsOn n.set n.world e Nothing reply l k
      → LedgerGoesOn m e l k
  notes_ledger l k noted =
      noted_by m n e reply l k ran
      (subst (λ (u : UseStep). TellsOn n.set n.world e u reply l k) uses_nothing noted)
