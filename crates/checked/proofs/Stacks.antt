-- A step of a thread's top frame, where it stands.
use Rattle.std.proofs.Common.{◌≡◌, ◌≤◌, ◌-◌, ℕ, List, [], ◌∷◌, ◌++◌, ⊎_elim, Option, None, Some, true, false, length, drop, take, refl, ap, sym, ◌∙◌, arith, length-append, take-take, append_assoc, append-nil}
use Rattle.std.specs.List.{IsLastAndRest}
use Rattle.std.proofs.lemmas.Bool.{cases_lt}
use Rattle.std.proofs.lemmas.List.{drop_all, length-take, take-append-le, take_all}
use Rattle.model.specs.declared.event.Reply.{Reply}
use Rattle.model.specs.declared.world.Frame.{Frame}
use Rattle.model.specs.declared.world.Frame.TheVariants.{Routine, Walk, Cancel}
use Rattle.model.specs.declared.world.Irql.{Irql}
use Rattle.model.specs.declared.world.Thread.{Thread}
use Rattle.model.specs.Effect.{answered, told_to, told_top}
use Rattle.model.specs.Events.{finished_or, root_over, with_stack}
use Rattle.model.specs.Set.{Set}
use Rattle.model.specs.World.{Shared}
use Rattle.model.specs.declared.event.Reply.TheVariants.{Stepped}
use Rattle.model.specs.declared.status.Status.{Status}
use Rattle.checked.specs.Step.{Moved, moved_by, runner, thread_now, told_frame}
use Rattle.checked_parts.specs.Left.{Left, stays, frame_now}
use Rattle.laws_runs.proofs.Lists.{before_last, last_of}

-- a thread with frames has not finished, and keeps its level
pub finished_more : (below : List Frame) (f : Frame) (frames : List Frame) (reply : Reply)
    → finished_or (below ++ f ∷ frames) reply ≡ reply
finished_more [] f frames reply = refl
finished_more (b ∷ below) f frames reply = refl

pub root_more : (root : Irql) (below : List Frame) (f : Frame) (frames : List Frame)
    → root_over root (below ++ f ∷ frames) ≡ root
root_more root [] f frames = refl
root_more root (b ∷ below) f frames = refl

-- a place less of those that are taken, and there are no more than before
pub one_less : (depth : ℕ) (places : List Frame) → let less = length (take depth places) - 1 in
    take less places ≡ take less (take depth places)
one_less depth places =
    let taken = length-take depth places in
    let less = length (take depth places) - 1 in
    sym (take-take less depth places (omega arith))

pub less_deep : (depth most : ℕ) (places : List Frame) → depth ≤ most
    → length (take depth places) - 1 ≤ most
less_deep depth most places within =
    let taken = length-take depth places in omega (arith, within)

-- what was written over the taken places stands there
pub rewritten : (depth : ℕ) (places frames : List Frame)
    → length frames ≡ length (take depth places)
    → take depth (frames ++ drop depth places) ≡ frames
rewritten depth places frames long =
    let taken = length-take depth places in
    ⊎_elim
    (λ fewer. take-append-le depth frames (drop depth places) (omega (arith, long))
    ∙ take_all depth frames (omega (arith, long)))
    (λ all. ap (λ (rest : List Frame). take depth (frames ++ rest))
    (drop_all depth places (omega arith))
    ∙ ap (λ (fs : List Frame). take depth fs) (append-nil frames)
    ∙ take_all depth frames (omega (arith, long)))
    (cases_lt depth (length places))

-- a thread with other frames, of the same level
abbrev pub with_items : Thread → List Frame → Thread
with_items thread items = record thread { frames = record { items = items } }

abbrev pub moved_as : Shared → Thread → Reply → Moved
moved_as after thread reply = record { shared = after; thread = thread; reply = reply }

module _ (set : Set) (s : Shared) (n : ℕ) (thread : Thread) (below : List Frame) (f : Frame)
    (split : IsLastAndRest thread.frames.items f below) where
  -- what the step of the top frame has left is what the thread's step leaves
  moved : (left : Left) → left ≡ frame_now set s (runner n thread) below f
      → moved_by set thread below left ≡ thread_now set s n thread
  moved left same = rw (same, split.0, last_of below f, before_last below f) refl

  -- the frames with another one in the place of the top one
  abbrev pub written : Frame → List Frame
  written g = below ++ g ∷ []

  -- and the places that then are taken
  pub standing : (depth : ℕ) (places : List Frame) (g : Frame)
      → thread.frames.items ≡ take depth places
      → take depth (written g ++ drop depth places) ≡ written g
  standing depth places g frames =
      rewritten depth places (written g)
      (length-append below (g ∷ []) ∙ split.1 ∙ ap (λ (fs : List Frame). length fs) frames)

  pub moved_stays : (after : Shared) (g : Frame) (reply : Reply) (items : List Frame)
      → items ≡ written g → stays after g reply ≡ frame_now set s (runner n thread) below f →
      moved_as after (with_items thread items) reply ≡ thread_now set s n thread
  moved_stays after g reply items is same =
      let now : moved_by set thread below (stays after g reply) ≡ thread_now set s n thread =
      moved (stays after g reply) same in
      rw is (rw (root_more thread.root below g [], finished_more below g [] reply) at now)

  abbrev pub under : Shared → Frame → Frame → Left
  under after g h =
      record {
        shared = after;
        frames = g ∷ h ∷ [];
        reply = Stepped;
        taken_below = false;
        told = None;
      }

  pub moved_under : (after : Shared) (g h : Frame) (items : List Frame)
      → under after g h ≡ frame_now set s (runner n thread) below f →
      items ≡ written g ++ h ∷ [] → moved_as after (with_items thread items) Stepped
      ≡ thread_now set s n thread
  moved_under after g h items same is =
      let now : moved_by set thread below (under after g h) ≡ thread_now set s n thread =
      moved (under after g h) same in
      let whole : items ≡ below ++ g ∷ h ∷ [] =
      is ∙ append_assoc below (g ∷ []) (h ∷ []) in
      rw whole (rw (root_more thread.root below g (h ∷ []), finished_more below g (h ∷ []) Stepped)
      at now)

  -- the frame goes, and the one below is told a status or not
  abbrev pub gone : Shared → Reply → Option Status → Left
  gone after reply told =
      record { shared = after; frames = []; reply = reply; taken_below = false; told = told }

  pub popped : (g : Frame) → take (length (written g) - 1) (written g) ≡ below
  popped g = before_last below g

  pub moved_gone : (after : Shared) (reply : Reply) (told : Option Status)
      → gone after reply told ≡ frame_now set s (runner n thread) below f →
      moved_as after (with_stack thread (told_to set below told))
      (finished_or (told_to set below told) reply) ≡ thread_now set s n thread
  moved_gone after reply told same =
      let now : moved_by set thread below (gone after reply told) ≡ thread_now set s n thread =
      moved (gone after reply told) same in
      rw (append-nil (told_to set below told)) at now

  -- the frame goes, and the I/O manager's below it too
  abbrev pub stopped : Shared → Left
  stopped after =
      record { shared = after; frames = []; reply = Stepped; taken_below = true; told = None }

  pub moved_stopped : (after : Shared)
      → stopped after ≡ frame_now set s (runner n thread) below f →
      moved_as after (with_stack thread (take (length below - 1) below))
      (finished_or (take (length below - 1) below) Stepped) ≡ thread_now set s n thread
  moved_stopped after same =
      let now : moved_by set thread below (stopped after) ≡ thread_now set s n thread =
      moved (stopped after) same in
      rw (append-nil (take (length below - 1) below)) at now

-- the frame on the top is told a status
pub told_on_top : (set : Set) (below : List Frame) (f : Frame) (status : Status)
    → below ++ told_frame set status f ∷ [] ≡ told_top set (below ++ f ∷ []) status (Some f)
told_on_top set below (Walk n) status = refl
told_on_top set below (Cancel c) status = refl
told_on_top set below (Routine a) status =
    ap (λ (fs : List Frame). fs ++ Routine (answered set a status) ∷ [])
    (sym (before_last below (Routine a)))
