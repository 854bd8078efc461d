-- A step of a thread's top frame, where it stands.
use Rattle.std.proofs.Common.{◌≡◌, ◌≤◌, ◌-◌, ℕ, zero, suc, List, [], ◌∷◌, ◌++◌, Option, None, Some, true, false, length, take, drop, refl, ap, sym, ◌∙◌, arith, length-append, take-take, append_assoc, append-nil}
use Rattle.std.specs.List.{IsLastAndRest}
use Rattle.model.specs.declared.event.Reply.{Reply}
use Rattle.model.specs.declared.event.Reply.TheVariants.{Stepped}
use Rattle.model.specs.declared.status.Status.{Status}
use Rattle.model.specs.declared.world.Irql.{Irql}
use Rattle.laws_slots.specs.Words.{answered, WordCancel, WordFrame, WordRoutine, WordThread, WordWalk}
use Rattle.model.specs.Set.{Set}
use Rattle.laws_runs.proofs.Lists.{before_last, last_of}
use Rattle.machine_parts.specs.Frames.{told}
use Rattle.laws_slots.specs.WordStep.{WordOutcome, ends_or, frame_step, leaves, level_over, told_frame, told_frames, top_frame}
use Rattle.laws_slots.specs.Slots.{SlotShared}
use Rattle.machine.specs.Threads.{Moved, moved_by, standing_on, thread_moves}

-- a thread with frames has not finished, and keeps its level
pub finished_more : (below : List WordFrame) (f : WordFrame) (frames : List WordFrame) (reply : Reply)
    → ends_or (below ++ f ∷ frames) reply ≡ reply
finished_more [] f frames reply = refl
finished_more (b ∷ below) f frames reply = refl

pub root_more : (root : Irql) (below : List WordFrame) (f : WordFrame) (frames : List WordFrame)
    → level_over root (below ++ f ∷ frames) ≡ root
root_more root [] f frames = refl
root_more root (b ∷ below) f frames = refl

-- a thread with other frames, of the same level
abbrev pub with_items : WordThread → List WordFrame → WordThread
with_items thread items = record thread { frames = items }

abbrev pub moved_as : SlotShared → WordThread → Reply → Moved
moved_as after thread reply = record { shared = after; thread = thread; reply = reply }

-- the frame stays
abbrev pub stays : SlotShared → WordFrame → Reply → WordOutcome
stays s f reply = record (leaves s (f ∷ [])) { reply = reply }

-- of so many places those that are taken
few_taken : (depth : ℕ) (places : List WordFrame) → length (take depth places) ≤ depth
few_taken zero places = omega arith
few_taken (suc n) [] = omega arith
few_taken (suc n) (p ∷ places) = omega (arith, few_taken n places)

-- a frame less of those that stand before others, and there are no more than before
pub one_less : (depth : ℕ) (places : List WordFrame) → let less = length (take depth places) - 1 in
    take less places ≡ take less (take depth places)
one_less depth places =
    let less = length (take depth places) - 1 in
    sym (take-take less depth places (omega (arith, few_taken depth places)))

pub less_deep : (depth most : ℕ) (places : List WordFrame) → depth ≤ most
    → length (take depth places) - 1 ≤ most
less_deep depth most places within = omega (arith, few_taken depth places, within)

-- what was written over the taken places stands there
pub rewritten : (depth : ℕ) (places frames : List WordFrame)
    → length frames ≡ length (take depth places)
    → take depth (frames ++ drop depth places) ≡ frames
rewritten zero places [] long = refl
rewritten zero places (f ∷ frames) long = absurd (omega (arith, long))
rewritten (suc n) [] [] long = refl
rewritten (suc n) [] (f ∷ frames) long = absurd (omega (arith, long))
rewritten (suc n) (p ∷ places) [] long = absurd (omega (arith, long))
rewritten (suc n) (p ∷ places) (f ∷ frames) long =
    let rest : length frames ≡ length (take n places) = omega (arith, long) in
    ap (λ (fs : List WordFrame). f ∷ fs) (rewritten n places frames rest)

module _ (set : Set) (s : SlotShared) (n : ℕ) (thread : WordThread) (below : List WordFrame)
    (f : WordFrame) (split : IsLastAndRest thread.frames f below) where
  -- what the step of the top frame has left is what the thread's step leaves
  moved : (left : WordOutcome) → left ≡ frame_step set s n (top_frame below) f
      → moved_by set thread below left ≡ thread_moves set s n thread
  moved left same = rw (same, split.0, last_of below f, before_last below f) refl

  -- the frames with another one in the place of the top one
  abbrev pub written : WordFrame → List WordFrame
  written g = below ++ g ∷ []

  -- and the places that then are taken
  pub standing : (depth : ℕ) (places : List WordFrame) (g : WordFrame)
      → thread.frames ≡ take depth places
      → take depth (written g ++ drop depth places) ≡ written g
  standing depth places g frames =
      rewritten depth places (written g)
      (length-append below (g ∷ []) ∙ split.1 ∙ ap length frames)

  pub moved_stays : (after : SlotShared) (g : WordFrame) (reply : Reply) (items : List WordFrame)
      → items ≡ written g → stays after g reply ≡ frame_step set s n (top_frame below) f →
      moved_as after (with_items thread items) reply ≡ thread_moves set s n thread
  moved_stays after g reply items is same =
      let now : moved_by set thread below (stays after g reply) ≡ thread_moves set s n thread =
      moved (stays after g reply) same in
      rw is (rw (root_more thread.root below g [], finished_more below g [] reply) at now)

  abbrev pub under : SlotShared → WordFrame → WordFrame → WordOutcome
  under after g h =
      record {
        shared = after;
        frames = g ∷ h ∷ [];
        reply = Stepped;
        taken_below = false;
        told = None;
      }

  pub moved_under : (after : SlotShared) (g h : WordFrame) (items : List WordFrame)
      → under after g h ≡ frame_step set s n (top_frame below) f →
      items ≡ written g ++ h ∷ [] → moved_as after (with_items thread items) Stepped
      ≡ thread_moves set s n thread
  moved_under after g h items same is =
      let now : moved_by set thread below (under after g h) ≡ thread_moves set s n thread =
      moved (under after g h) same in
      let whole : items ≡ below ++ g ∷ h ∷ [] =
      is ∙ append_assoc below (g ∷ []) (h ∷ []) in
      rw whole (rw (root_more thread.root below g (h ∷ []), finished_more below g (h ∷ []) Stepped)
      at now)

  -- the frame goes, and the one below is told a status or not
  abbrev pub gone : SlotShared → Reply → Option Status → WordOutcome
  gone after reply told =
      record { shared = after; frames = []; reply = reply; taken_below = false; told = told }

  pub popped : (g : WordFrame) → take (length (written g) - 1) (written g) ≡ below
  popped g = before_last below g

  pub moved_gone : (after : SlotShared) (reply : Reply) (said : Option Status)
      → gone after reply said ≡ frame_step set s n (top_frame below) f →
      moved_as after (standing_on thread (told_frames set below said))
      (ends_or (told_frames set below said) reply) ≡ thread_moves set s n thread
  moved_gone after reply said same =
      let now : moved_by set thread below (gone after reply said) ≡ thread_moves set s n thread =
      moved (gone after reply said) same in
      rw (append-nil (told_frames set below said)) at now

  -- the frame goes, and the I/O manager's below it too
  abbrev pub stopped : SlotShared → WordOutcome
  stopped after =
      record { shared = after; frames = []; reply = Stepped; taken_below = true; told = None }

  pub moved_stopped : (after : SlotShared)
      → stopped after ≡ frame_step set s n (top_frame below) f →
      moved_as after (standing_on thread (take (length below - 1) below))
      (ends_or (take (length below - 1) below) Stepped) ≡ thread_moves set s n thread
  moved_stopped after same =
      let now : moved_by set thread below (stopped after) ≡ thread_moves set s n thread =
      moved (stopped after) same in
      rw (append-nil (take (length below - 1) below)) at now

-- the frame on the top is told a status
pub told_on_top : (set : Set) (below : List WordFrame) (f : WordFrame) (status : Status)
    → below ++ told set status f ∷ [] ≡ told_frame set (below ++ f ∷ []) status (Some f)
told_on_top set below (WordWalk k) status = refl
told_on_top set below (WordCancel k m step) status = refl
told_on_top set below (WordRoutine a) status =
    ap (λ (fs : List WordFrame). fs ++ WordRoutine (answered set a status) ∷ [])
    (sym (before_last below (WordRoutine a)))
