-- What a step leaves of slots, and what it leaves of what they mean.
use Rattle.std.proofs.Common.{◌≡◌, ℕ, false, List, [], ◌∷◌, refl, ap, subst, map, is_some}
use Rattle.model.specs.declared.world.Activation.{Activation}
use Rattle.model.specs.declared.world.Frame.TheVariants.{Routine}
use Rattle.model.specs.Action.{Action}
use Rattle.model.specs.Effect.{Outcome, goes_wrong}
use Rattle.model.specs.Effect as effect
use Rattle.model.specs.World.{Shared}
use Rattle.laws_runs.proofs.Runs.Events.{stops_run}
use Rattle.laws_slots.specs.Rep.{CancelStands, EachFrame, MeansShared, meant_frame, meant_routine, named}
use Rattle.laws_slots.specs.Slots.{SlotShared, packet_at}
use Rattle.laws_slots.specs.SlotStep.{SlotOutcome, goes_on}

-- the same slots are used, each by a packet of the same number
pub record SameSlots (s after : SlotShared) : Type 0 where
  pub name : (k : ℕ) → named after k ≡ named s k
  pub use_of : (k : ℕ) → is_some (packet_at after k) ≡ is_some (packet_at s k)
  pub order : after.order ≡ s.order
  pub issued : after.issued ≡ s.issued

-- a step doesn't go wrong
abbrev pub GoesRight : Outcome → Type 0
GoesRight o = stops_run o.reply ≡ false

module _ (name : ℕ → ℕ) (s : SlotShared) where
  pub record MeansOutcome (p : SlotOutcome) (o : Outcome) : Type 0 where
    pub shared : MeansShared name p.shared o.shared
    pub frames : map (meant_frame name) p.frames ≡ o.frames
    pub reply : p.reply ≡ o.reply
    pub taken : p.taken_below ≡ o.taken_below
    pub told : p.told ≡ o.told
    pub same : SameSlots s p.shared
    pub cancels : EachFrame (CancelStands s) p.frames

  pub same_slots : SameSlots s s
  same_slots = record { name = λ k. refl; use_of = λ k. refl; order = refl; issued = refl }

  -- what leaves the slots and their order alone
  pub kept_slots : (after : SlotShared) → after.slots ≡ s.slots → after.issued ≡ s.issued
      → after.order ≡ s.order → SameSlots s after
  kept_slots after slots issued order =
      record {
        name = λ k. (rw (slots, issued) refl);
        use_of = λ k. (rw slots refl);
        order = order;
        issued = issued;
      }

  -- a routine goes on
  pub on : (after : SlotShared) (r : Shared) (b c : Activation) (actions : List Action)
      → MeansShared name after r → SameSlots s after → meant_routine name b ≡ c
      → MeansOutcome (goes_on after b) (effect.goes_on r c actions)
  on after r b c actions means same is =
      record {
        shared = means;
        frames = ap (λ (d : Activation). Routine d ∷ []) is;
        reply = refl;
        taken = refl;
        told = refl;
        same = same;
        cancels = (tt, tt);
      }

  -- what goes by a look-up goes by the same one
  pub by_found : {A : Type 0} (p : SlotOutcome) (f : A → Outcome) (x y : A) → x ≡ y
      → (GoesRight (f x) → MeansOutcome p (f x)) → GoesRight (f y) → MeansOutcome p (f y)
  by_found {A = A} p f x y is one =
      subst (λ (z : A). GoesRight (f z) → MeansOutcome p (f z)) is one
