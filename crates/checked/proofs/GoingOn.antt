-- A routine that has gone on by itself has made steps of its thread.
use Rattle.std.proofs.Common.{◌≡◌, ◌<◌, ℕ, suc, List, [], ◌∷◌, ◌++◌, Option, None, Some, false, ap, refl, sym, ◌∙◌, subst, length}
use Rattle.std.specs.Prelude.{slice_get, slice_set}
use Rattle.std.proofs.lemmas.List.{get_or-set_same, length-set, set-set}
use Rattle.std.proofs.lemmas.Option.{slice_get_within, slice_get-get_or}
use Rattle.model.specs.declared.event.Event.TheVariants.{Step}
use Rattle.model.specs.declared.event.Place.{Place}
use Rattle.model.specs.declared.event.Reply.TheVariants.{Stepped}
use Rattle.model.specs.declared.instr.Instr.{Instr}
use Rattle.model.specs.declared.world.Activation.{Activation}
use Rattle.model.specs.declared.world.Frame.{Frame}
use Rattle.model.specs.declared.world.Frame.TheVariants.{Routine}
use Rattle.model.specs.declared.world.Thread.{Thread}
use Rattle.model.specs.Effect.{goes_on, instruction_effect, routine_effect, top_of}
use Rattle.model.specs.Events.{with_thread}
use Rattle.model.specs.Machine.{Machine}
use Rattle.model.specs.Set.{Set, instruction_at}
use Rattle.model.specs.Sound.{IsSound}
use Rattle.model.specs.World.{Shared, World}
use Rattle.irql_locks.specs.Owns.{OwningTells}
use Rattle.laws_runs.specs.PastTells.{PastTellsOfTheWorld}
use Rattle.laws_runs.proofs.Lists.{before_last, last_of}
use Rattle.checked.specs.GoingOn.{FrameGoes, GoesAlone, GoesOn, GoesUpTo, RoutineGoes, SameRoutine, ThreadGoes, WorldGoes, frame_rests, frame_runs, here, is_there, more, nearer, none, rests, runs, stays, steps, with_top, world_rests, world_runs}
use Rattle.checked.specs.Step.{State, machine_of, state_now}
use Rattle.checked.proofs.Compare.{put_back}
use Rattle.checked.proofs.Runs.{applies, taken_as}
use Rattle.checked.proofs.Stacks.{finished_more, root_more, with_items}

-- by its code
module _ (until : Option Place) (set : Set) (a : Activation) (code : List Instr)
    (coded : (p : ℕ) → instruction_at set a.driver a.routine p ≡ slice_get code p)
    (k : ℕ) (b : Activation) (goes : RoutineGoes until set a k b) (short : is_there until b ≡ false)
    (driver : b.driver ≡ a.driver) (routine : b.routine ≡ a.routine) where
  pub goes_more : (i : Instr) → slice_get code b.position ≡ Some i → (c : Activation)
      → ((s : Shared) (t : ℕ) (under : Option Frame)
      → instruction_effect set s t under b i ≡ goes_on s c [])
      → SameRoutine b c → RoutineGoes until set a (suc k) c
  goes_more i found c is same =
      let at : instruction_at set b.driver b.routine b.position ≡ Some i =
      rw (driver, routine) (coded b.position ∙ found) in
      steps k b c goes short
      (record {
        goes = λ s t under. ap (routine_effect set s t under b) at ∙ is s t under;
        same = same;
      })

-- what a frame does on top, its thread does
pub thread_goes : (until : Option Place) (set : Set) (x : Thread) (below : List Frame)
    (f g : Frame) (k : ℕ) → x.frames.items ≡ below ++ f ∷ [] → FrameGoes until set f k g
    → ThreadGoes until set x k (with_items x (below ++ g ∷ []))
thread_goes until set x below f g k split frame_rests =
    subst (λ (items : List Frame). ThreadGoes until set x 0 (with_items x items)) split rests
thread_goes until set x below f g k split (frame_runs a b j is goes) =
    runs below a b j (split ∙ ap (λ (h : Frame). below ++ h ∷ []) is) goes

-- what is written at a place is found there
pub found_set : (threads : List Thread) (t : ℕ) (x y : Thread)
    → slice_get threads t ≡ Some x → slice_get (slice_set threads t y) t ≡ Some y
found_set threads t x y found =
    let within : t < length threads = slice_get_within threads t x found in
    let still : t < length (slice_set threads t y) =
    rw (length-set threads t y) within in
    slice_get-get_or (slice_set threads t y) t y still
    ∙ ap (λ (z : Thread). Some z) (get_or-set_same threads t y y within)

-- a state that goes on
abbrev pub going : World → State
going w = record { world = w; stopped = false }

-- steps up to there are steps
pub steps_up_to : (until : Option Place) (t : ℕ) (m : Machine) (k : ℕ) (n : Machine)
    → GoesUpTo until t m k n → GoesOn t m k n
steps_up_to until t m j n here = none
steps_up_to until t m j o (nearer k n p before applies alone short) =
    more k n o (steps_up_to until t m k n before) applies alone

module _ (law : PastTellsOfTheWorld) (owning : OwningTells) (until : Option Place) (set : Set)
    (sound : IsSound set) (w : World) (t : ℕ) where
  module _ (x : Thread) (below : List Frame) (a : Activation)
      (found : slice_get w.threads t ≡ Some x)
      (stack : x.frames.items ≡ below ++ Routine a ∷ []) where
    abbrev world_of : Activation → World
    world_of b = with_thread w t w.shared (with_top x below b)

    first : w ≡ world_of a
    first =
        sym (put_back w t x found)
        ∙ ap (λ (items : List Frame). with_thread w t w.shared (with_items x items)) stack

    -- a step of the routine on top
    one_more : (b c : Activation) → GoesAlone set b c
        → taken_as (going (world_of c)) Stepped ≡ state_now set (going (world_of b)) (Step t)
    one_more b c alone =
        rw (
          found_set w.threads t x (with_top x below b) found,
          last_of below (Routine b),
          before_last below (Routine b),
          alone.goes w.shared t (top_of below),
          root_more x.root below (Routine c) [],
          finished_more below (Routine c) [] Stepped,
          set-set w.threads t (with_top x below b) (with_top x below c),
        ) refl

    chained : (k : ℕ) (b : Activation) → RoutineGoes until set a k b
        → GoesUpTo until t (machine_of set (going (world_of a))) k
        (machine_of set (going (world_of b)))
    chained m e stays = here
    chained m e (steps k b c goes short alone) =
        nearer k (machine_of set (going (world_of b))) (machine_of set (going (world_of c)))
        (chained k b goes)
        (applies law owning set (going (world_of b)) (going (world_of c)) sound (Step t) Stepped
        (one_more b c alone))
        (record {
          thread = with_top x below b;
          below = below;
          before = b;
          now = c;
          there = found_set w.threads t x (with_top x below b) found;
          stack = refl;
          alone = alone;
          left =
              ap (λ (threads : List Thread). record w { threads = threads })
              (sym (set-set w.threads t (with_top x below b) (with_top x below c)));
        })
        short

  -- a world whose thread has gone on is that of a state to which its steps were applied
  pub goes_state : (k : ℕ) (v : World) → WorldGoes until set w t k v
      → GoesUpTo until t (machine_of set (going w)) k (machine_of set (going v))
  goes_state m v world_rests = here
  goes_state m v (world_runs x y k found rests) =
      subst (λ (u : World). GoesUpTo until t (machine_of set (going w)) 0
      (machine_of set (going u)))
      (sym (put_back w t x found)) here
  goes_state m v (world_runs x y k found (runs below a b j stack goes)) =
      subst (λ (u : World). GoesUpTo until t (machine_of set (going u)) j
      (machine_of set (going (with_thread w t w.shared (with_top x below b)))))
      (sym (first x below a found stack)) (chained x below a found stack j b goes)
