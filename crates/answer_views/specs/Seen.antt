-- What is seen of an event of a run that is told.
use Rattle.std.specs.Prelude.{ℕ, ◌≡◌, Bool, true, false, List}
use Rattle.model.specs.declared.event.Event.{Event}
use Rattle.model.specs.declared.event.Reply.{Reply}
use Rattle.model.specs.declared.event.Reply.TheVariants.{Stepped}
use Rattle.laws_runs.specs.Waits.{says_unchanged}
use Rattle.model.specs.Machine.{AppliesWhole, Machine, ShowsWhole}
use Rattle.tell_uses.specs.Acting.{acting_in}
use Rattle.tell_uses.specs.Acts.{use_step}
use Rattle.tell_uses.specs.Plain.{is_plain}
use Rattle.drvhost_devices.specs.declared.manner.Detail.{Detail}
use Rattle.answer_views.specs.declared.seeing.Sight.{Sight}
use Rattle.answer_views.specs.Told.{is_left_out}
use Rattle.tell_json.specs.Telling.{LedgerGoesOn}
use Rattle.tell_words.specs.declared.line.Happened.{Happened}

-- a reply that says that a step was made
abbrev pub is_stepped : Reply → Bool
is_stepped Stepped = true
is_stepped reply = false

-- an event is told as it was before a machine applied it: what it does to uses, and the frame that
-- acts, whatever run the machine shows
pub record HappensBefore (m : Machine) (e : Event) (happened : Happened) : Type 0 where
  pub event : happened.event ≡ e
  pub step : happened.step ≡ use_step m.set m.world e
  pub acting : (threads : ℕ) (events : List Event) → ShowsWhole m threads events
      → happened.moment.acting ≡ acting_in m.set m.world e

-- an event was applied and noted, and its reply is the last that is seen: a ledger that told a run
-- tells it with the event added, and is the same where nothing has changed
pub record Sees (m : Machine) (e : Event) (n : Machine) (old new : Sight) : Type 0 where
  pub applied : AppliesWhole m e n new.happened.reply
  pub noted : LedgerGoesOn m e old.ledger new.ledger
  pub kept : says_unchanged new.happened.reply ≡ true → new.ledger ≡ old.ledger

-- an event needs no look at it before it is applied: a plain step of which no line is told
pub record GoesUnseen (detail : Detail) (m : Machine) (e : Event) : Type 0 where
  pub left : is_left_out detail (acting_in m.set m.world e) Stepped ≡ true
  pub plain : is_plain m.set m.world e ≡ true
