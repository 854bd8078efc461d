-- What a step leaves of words is read as what it leaves of slots.
use Rattle.std.proofs.Common.{◌≡◌, ℕ, Bool, true, false, List, refl}
use Rattle.std.specs.Prelude.{if◌then◌else◌, Option, None, Some, ◌-◌}
use Rattle.model.specs.declared.limits.TheConstants.{REGISTERS}
use Rattle.model.specs.declared.set.Device.{Device}
use Rattle.model.specs.declared.status.Major.{Major}
use Rattle.model.specs.declared.world.Activation.{Activation}
use Rattle.model.specs.declared.world.Completion.{Completion}
use Rattle.model.specs.declared.world.Value.{Value}
use Rattle.model.specs.declared.world.Value.TheVariants.{Blank, Ref}
use Rattle.model.specs.Effect as model
use Rattle.model.specs.Set.{Set}
use Rattle.model.specs.World as model_world
use Rattle.laws_slots.specs.Slots.{SlotShared}
use Rattle.laws_slots.specs.SlotStep as slots
use Rattle.laws_slots.specs.declared.activation.WordActivation.{WordActivation}
use Rattle.laws_slots.specs.Reads.{Paired, ReadsFrame, ReadsRoutine, ReadsValue, in_words}
use Rattle.laws_slots.specs.Words.{completes_with, dispatched, entered}
use Rattle.laws_slots.specs.WordStep.{WordOutcome, goes_on}
use Rattle.laws_slots.proofs.Pairs.{paired_same}

pub record ReadsOutcome (o : slots.SlotOutcome) (p : WordOutcome) : Type 0 where
  pub shared : p.shared ≡ o.shared
  pub frames : Paired ReadsFrame o.frames p.frames
  pub reply : p.reply ≡ o.reply
  pub taken : p.taken_below ≡ o.taken_below
  pub told : p.told ≡ o.told

-- a routine goes on
pub routine_reads : (a : Activation) (words : List ℕ) → Paired ReadsValue a.registers words
    → ReadsRoutine a (in_words a words)
routine_reads a words h = record { rest = refl; registers = h }

pub goes : (s : SlotShared) (a : Activation) (words : List ℕ)
    → Paired ReadsValue a.registers words
    → ReadsOutcome (slots.goes_on s a) (goes_on s (in_words a words))
goes s a words h =
    record {
      shared = refl;
      frames = (routine_reads a words h, tt);
      reply = refl;
      taken = refl;
      told = refl;
    }

-- by a test, in one way or another
pub goes_by : (s : SlotShared) (test : Bool) (a c : Activation) (x y : WordActivation)
    → ReadsOutcome (slots.goes_on s a) (goes_on s x)
    → ReadsOutcome (slots.goes_on s c) (goes_on s y)
    → ReadsOutcome (slots.goes_on s (if test then a else c)) (goes_on s (if test then x else y))
goes_by s true a c x y one other = one
goes_by s false a c x y one other = other

-- routines that begin
pub entered_reads : (driver routine device : ℕ) (v : Value) (n : ℕ) → ReadsValue v n
    → ReadsRoutine (model_world.entered driver routine device v)
    (entered driver routine device n)
entered_reads driver routine device v n first =
    record {
      rest = refl;
      registers = (first, paired_same ReadsValue (REGISTERS - 1) Blank 0 tt);
    }

pub dispatched_reads : (set : Set) (device : ℕ) (target : Option Device) (major : Option Major)
    (k : ℕ)
    → ReadsRoutine (model.dispatched set device target major k)
    (dispatched set device target major k)
dispatched_reads set device None major k = entered_reads 0 _ device (Ref k) k refl
dispatched_reads set device (Some d) major k =
    entered_reads d.driver _ device (Ref k) k refl

pub completing_reads : (set : Set) (c : Completion) (k : ℕ)
    → ReadsRoutine (model.completes_with set c k) (completes_with set c k)
completing_reads set c k = entered_reads _ c.routine c.device (Ref k) k refl
