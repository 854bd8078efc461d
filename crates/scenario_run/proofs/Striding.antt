-- Steps that a thread makes by itself don't end where they are to end.
use Rattle.std.proofs.Common.{◌≡◌, ◌≢◌, ◌∙◌, ◌∷◌, [], ℕ, zero, suc, Bool, true, false, List, Option, None, Some, ap, inl, inr, refl, sym}
use Rattle.std.specs.Prelude.{◌&&◌, ◌||◌, not, is_none, is_some, nat_eq, option_and_then, option_map}
use Rattle.std.proofs.lemmas.Bool.Decides.{eqb_tells}
use Rattle.checked.specs.GoingOn.{GoesAlone, GoesOn, GoesUpTo, StepsAlone, here, is_there, more, nearer, none, with_top}
use Rattle.laws_runs.specs.Waiting.{acquired_by, other_owner, sought_by, waits_for}
use Rattle.laws_runs.proofs.Lists.{last_of, set_other}
use Rattle.model.specs.declared.event.Lock.{Lock}
use Rattle.model.specs.declared.event.Lock.TheVariants.{SystemCancel}
use Rattle.model.specs.declared.event.Place.{Place}
use Rattle.model.specs.declared.event.Reply.TheVariants.{Stepped}
use Rattle.model.specs.declared.instr.Instr.{Instr}
use Rattle.model.specs.declared.instr.Instr.TheVariants.{Acquire, AcquireCancel, Release}
use Rattle.model.specs.declared.world.Activation.{Activation}
use Rattle.model.specs.declared.world.Frame.{Frame}
use Rattle.model.specs.declared.world.Frame.TheVariants.{Routine}
use Rattle.model.specs.declared.world.Thread.{Thread}
use Rattle.model.specs.Action.{Action, Acquires, Executes}
use Rattle.model.specs.Effect.{Outcome, goes_on, goes_wrong, instruction_effect, routine_effect, top_of}
use Rattle.model.specs.Machine.{Machine}
use Rattle.model.specs.Run.{frames_of, frames_on}
use Rattle.model.specs.Set.{Set, instruction_at}
use Rattle.model.specs.View.{frame_view, has_frames, thread_at, thread_view}
use Rattle.model.specs.World.{World, owner_of, unused}
use Rattle.scenario_names.specs.declared.names.Spot.{Spot}
use Rattle.scenario_world.specs.declared.until.Until.{Until}
use Rattle.scenario_world.specs.declared.until.Until.TheVariants.{Never, At, Release as ReleaseUntil, Waiting, Alone}
use Rattle.scenario_world.specs.Releases.{is_release, releases, stands_before_release}
use Rattle.scenario_world.specs.States.{is_at, stands_at}
use Rattle.scenario_world.specs.Going.{goes_on as goes_on_in, other_goes_on}
use Rattle.scenario_world.specs.Until.{fits, wakes}
use Rattle.scenario_run.specs.Going.{Strides, halts, strides}

-- what a step that changes nothing but its activation doesn't do
module _ (set : Set) (a b : Activation) where
  -- such a step of an instruction
  abbrev Makes : Option Instr → Type 0
  Makes i = routine_effect set (unused 0) 0 None a i ≡ goes_on (unused 0) b []

  wrong : goes_wrong (unused 0) a ≡ goes_on (unused 0) b [] → ⊥
  wrong h =
      let no : (goes_wrong (unused 0) a).reply ≡ Stepped = ap (λ (o : Outcome). o.reply) h in cc

  beside : (o : Outcome) (action : Action) → o.actions ≡ Executes ∷ action ∷ []
      → o ≡ goes_on (unused 0) b [] → ⊥
  beside o action two h =
      let no : Executes ∷ action ∷ [] ≡ Executes ∷ [] =
      sym two ∙ ap (λ (x : Outcome). x.actions) h in cc

  releases_none : (lock : ℕ) (i : Option Instr) → Makes i → is_release lock i ≡ false
  releases_none lock None makes = refl
  releases_none lock (Some (Release l)) makes = absurd (wrong makes)
  releases_none lock (Some i) makes = refl

  acquires_none : (i : Option Instr) → Makes i → acquired_by a i ≡ None
  acquires_none None makes = refl
  acquires_none (Some (Acquire l)) makes = absurd (wrong makes)
  acquires_none (Some AcquireCancel) makes =
      absurd (beside (instruction_effect set (unused 0) 0 None a AcquireCancel)
      (Acquires SystemCancel) refl makes)
  acquires_none (Some i) makes = refl

  makes_here : GoesAlone set a b → Makes (instruction_at set a.driver a.routine a.position)
  makes_here alone = alone.goes (unused 0) 0 None

-- the thread that makes it
module _ (set : Set) (w : World) (t : ℕ) (v : World) (alone : StepsAlone set w t v) where
  abbrev running : Activation
  running = alone.before

  on_top : top_of (frames_on w t) ≡ Some (Routine running)
  on_top =
      ap (λ (o : Option Thread). top_of (frames_of o)) alone.there
      ∙ ap top_of alone.stack ∙ last_of alone.below (Routine running)

  no_release : (lock : ℕ) → stands_before_release set w t lock ≡ false
  no_release lock =
      ap (λ (f : Option Frame). releases set lock f) on_top
      ∙ releases_none set running alone.now lock
      (instruction_at set running.driver running.routine running.position)
      (makes_here set running alone.now alone.alone)

  no_wait : is_some (waits_for set w t) ≡ false
  no_wait =
      ap (λ (f : Option Frame). is_some (option_and_then (λ lock.
      other_owner t (owner_of w.shared.locks lock)) (option_and_then (λ g. sought_by set g) f)))
      on_top
      ∙ ap (λ (l : Option Lock). is_some (option_and_then (λ lock.
      other_owner t (owner_of w.shared.locks lock)) l))
      (acquires_none set running alone.now
      (instruction_at set running.driver running.routine running.position)
      (makes_here set running alone.now alone.alone))

  -- it stands at an instruction as its activation does
  abbrev At3 : Bool → Bool → Bool → Bool
  At3 x y z = x && y && z

  turned : (x y z : Bool) → At3 x y z ≡ At3 z y x
  turned true true true = refl
  turned true true false = refl
  turned true false true = refl
  turned true false false = refl
  turned false true true = refl
  turned false true false = refl
  turned false false true = refl
  turned false false false = refl

  not_there : (spot : Spot) (place : Place) → fits spot place
      → is_there (Some place) running ≡ false → stands_at spot (thread_at w t) ≡ false
  not_there spot place same short =
      ap (λ (o : Option Thread). stands_at spot (option_map thread_view o)) alone.there
      ∙ ap (λ (fs : List Frame). is_at spot (option_map frame_view (top_of fs))) alone.stack
      ∙ ap (λ (f : Option Frame). is_at spot (option_map frame_view f))
      (last_of alone.below (Routine running))
      ∙ turned (nat_eq running.driver spot.driver) (nat_eq running.routine spot.routine)
      (nat_eq running.position spot.position)
      ∙ ap (λ (n : ℕ). At3 (nat_eq running.position n) (nat_eq running.routine spot.routine)
      (nat_eq running.driver spot.driver)) (sym same.2)
      ∙ ap (λ (n : ℕ). At3 (nat_eq running.position place.position) (nat_eq running.routine n)
      (nat_eq running.driver spot.driver)) (sym same.1)
      ∙ ap (λ (n : ℕ). At3 (nat_eq running.position place.position)
      (nat_eq running.routine place.routine) (nat_eq running.driver n)) (sym same.0)
      ∙ short

  -- other threads go on as before
  abbrev Looks : ℕ → Option Thread → Bool
  Looks u o =
      has_frames (option_map thread_view o)
      && is_none (option_and_then (λ lock. other_owner u (owner_of w.shared.locks lock))
      (option_and_then (λ f. sought_by set f) (top_of (frames_of o))))

  looks_so : (u : ℕ) → u ≢ t → goes_on_in set v u ≡ goes_on_in set w u
  looks_so u apart =
      ap (λ (x : World). goes_on_in set x u) alone.left
      ∙ ap (λ (o : Option Thread). Looks u o)
      (set_other w.threads t u (with_top alone.thread alone.below alone.now)
      (λ same. apart (sym same)))

  abbrev Counts : World → ℕ → Bool → Bool
  Counts x u same = not same && goes_on_in set x u

  counts_so : (u : ℕ) → Counts v u (nat_eq u t) ≡ Counts w u (nat_eq u t)
  counts_so u =
      elim (eqb_tells u t) [
        | inl same ↦ ap (λ b. Counts v u b) same.0 ∙ sym (ap (λ b. Counts w u b) same.0)
        | inr apart ↦ ap (λ (b : Bool). not (nat_eq u t) && b) (looks_so u apart.1)
      ]

  others_kept : (threads : ℕ)
      → other_goes_on set v t threads ≡ other_goes_on set w t threads
  others_kept zero = refl
  others_kept (suc u) =
      ap (λ (b : Bool). b || Counts v u (nat_eq u t)) (others_kept u)
      ∙ ap (λ (b : Bool). other_goes_on set w t u || b) (counts_so u)

-- so many of them, wherever they are to end
never_strides : (t : ℕ) (m : Machine) (k : ℕ) (n : Machine) → GoesOn t m k n
    → Strides Never t m k n
never_strides t m j n none = halts
never_strides t m j p (more k n o before applies alone) =
    strides k n o (never_strides t m k n before) applies alone refl refl

release_strides : (lock t : ℕ) (m : Machine) (k : ℕ) (n : Machine) → GoesOn t m k n
    → Strides (ReleaseUntil lock) t m k n
release_strides lock t m j n none = halts
release_strides lock t m j p (more k n o before applies alone) =
    strides k n o (release_strides lock t m k n before) applies alone
    (no_release n.set n.world t o.world alone lock) refl

pub spot_strides : (spot : Spot) (place : Place) → fits spot place → (t : ℕ) (m : Machine)
    (k : ℕ) (n : Machine) → GoesUpTo (Some place) t m k n → Strides (At spot) t m k n
spot_strides spot place same t m j n here = halts
spot_strides spot place same t m j p (nearer k n o before applies alone short) =
    strides k n o (spot_strides spot place same t m k n before) applies alone
    (not_there n.set n.world t o.world alone spot place same short) refl

waiting_strides : (t : ℕ) (m : Machine) (k : ℕ) (n : Machine) → GoesOn t m k n
    → Strides Waiting t m k n
waiting_strides t m j n none = halts
waiting_strides t m j p (more k n o before applies alone) =
    strides k n o (waiting_strides t m k n before) applies alone
    (no_wait n.set n.world t o.world alone) refl

still_alone : (threads t : ℕ) (m : Machine) → other_goes_on m.set m.world t threads ≡ false
    → (k : ℕ) (n : Machine) → GoesOn t m k n
    → other_goes_on n.set n.world t threads ≡ false
still_alone threads t m lone j n none = lone
still_alone threads t m lone j p (more k n o before applies alone) =
    ap (λ (s : Set). other_goes_on s o.world t threads) applies.set
    ∙ others_kept n.set n.world t o.world alone threads
    ∙ still_alone threads t m lone k n before

lone_strides : (threads t : ℕ) (m : Machine) → other_goes_on m.set m.world t threads ≡ false
    → (k : ℕ) (n : Machine) → GoesOn t m k n → Strides (Alone threads) t m k n
lone_strides threads t m lone j n none = halts
lone_strides threads t m lone j p (more k n o before applies alone) =
    strides k n o (lone_strides threads t m lone k n before) applies alone
    (no_wait n.set n.world t o.world alone)
    (still_alone threads t m lone (suc k) o (more k n o before applies alone))

pub other_strides : (until : Until) (t : ℕ) (m : Machine) → ((spot : Spot) → until ≢ At spot)
    → wakes until m.set m.world t ≡ false → (k : ℕ) (n : Machine) → GoesOn t m k n
    → Strides until t m k n
other_strides Never t m other lone k n goes = never_strides t m k n goes
other_strides (At spot) t m other lone k n goes = absurd (other spot refl)
other_strides (ReleaseUntil lock) t m other lone k n goes = release_strides lock t m k n goes
other_strides Waiting t m other lone k n goes = waiting_strides t m k n goes
other_strides (Alone threads) t m other lone k n goes = lone_strides threads t m lone k n goes
