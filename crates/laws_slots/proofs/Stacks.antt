-- A thread's step: the frames below the one that ran, what stands in its place, and the reply, of
-- slots and of what they mean.
use Rattle.std.proofs.Common.{◌≡◌, ℕ, zero, suc, ◌-◌, Bool, true, false, List, [], ◌∷◌, ◌++◌, length, take, Option, None, Some, refl, sym, ◌∙◌, ap, map, is_some}
use Rattle.std.specs.Prelude.{option_map, slice_get, slice_set}
use Rattle.std.proofs.lemmas.List.{length-map, map-append, take-map}
use Rattle.model.specs.declared.event.Reply.{Reply}
use Rattle.model.specs.declared.status.Status.{Status}
use Rattle.model.specs.declared.world.Activation.{Activation}
use Rattle.model.specs.declared.world.Frame.{Frame}
use Rattle.model.specs.declared.world.Frame.TheVariants.{Routine}
use Rattle.model.specs.declared.world.Irql.{Irql}
use Rattle.model.specs.declared.world.Thread.{Thread}
use Rattle.model.specs.declared.world.Value.TheVariants.{Status as StatusValue}
use Rattle.model.specs.Effect.{Outcome, answered, answered_in, kept_below, operand_of, told_to, told_top, top_of}
use Rattle.model.specs.Events.{Change, finished_or, root_over, settled, standing, with_stack}
use Rattle.model.specs.Set.{Set, instruction_at}
use Rattle.model.specs.World.{World, packet_of}
use Rattle.laws_slots.specs.Rep.{CancelStands, EachFrame, EachThread, MeansShared, Ordered, meant_frame, meant_routine, meant_thread, named}
use Rattle.laws_slots.specs.Slots.{SlotCancel, SlotFrame, SlotRoutine, SlotShared, SlotThread, SlotWalk, SlotWorld}
use Rattle.laws_slots.specs.SlotStep.{SlotAnswer, SlotOutcome, ends_or, frames_after, frames_below, level_over, settled_step, told_frame, told_frames, top_frame}
use Rattle.laws_slots.proofs.Left.{Left, cancel_later}
use Rattle.laws_slots.proofs.Words.{map_get, map_put, written_meant}

module _ (name : ℕ → ℕ) where
  abbrev meant : List SlotFrame → List Frame
  meant frames = map (meant_frame name) frames

  pub top_meant : (below : List SlotFrame)
      → top_of (meant below) ≡ option_map (meant_frame name) (top_frame below)
  top_meant below =
      ap (λ (n : ℕ). slice_get (meant below) (n - 1)) (length-map below (meant_frame name))
      ∙ map_get (meant_frame name) below (length below - 1)

  pub before_meant : (below : List SlotFrame)
      → take (length (meant below) - 1) (meant below) ≡ meant (take (length below - 1) below)
  before_meant below =
      ap (λ (n : ℕ). take (n - 1) (meant below)) (length-map below (meant_frame name))
      ∙ take-map (meant_frame name) (length below - 1) below

  below_meant : (below : List SlotFrame) (taken : Bool)
      → meant (frames_below below taken) ≡ kept_below (meant below) taken
  below_meant below true = sym (before_meant below)
  below_meant below false = refl

  answered_meant : (a : Activation) (status : Status) (r : Option ℕ)
      → meant_routine name (answered_in a status r) ≡ answered_in (meant_routine name a) status r
  answered_meant a status None = refl
  answered_meant a status (Some r) = written_meant name a r (StatusValue status)

  told_one : (set : Set) (below : List SlotFrame) (status : Status) (top : Option SlotFrame)
      → meant (told_frame set below status top)
      ≡ told_top set (meant below) status (option_map (meant_frame name) top)
  told_one set below status None = refl
  told_one set below status (Some (SlotWalk k)) = refl
  told_one set below status (Some (SlotCancel k n step)) = refl
  told_one set below status (Some (SlotRoutine a)) =
      map-append (meant_frame name) (take (length below - 1) below)
      (SlotRoutine (answered set a status) ∷ [])
      ∙ ap (λ (b : Activation). meant (take (length below - 1) below) ++ Routine b ∷ [])
      (answered_meant a status
      (operand_of (instruction_at set a.driver a.routine (a.position - 1))))
      ∙ ap (λ (frames : List Frame).
      frames ++ Routine (answered set (meant_routine name a) status) ∷ [])
      (sym (before_meant below))

  told_meant : (set : Set) (below : List SlotFrame) (told : Option Status)
      → meant (told_frames set below told) ≡ told_to set (meant below) told
  told_meant set below None = refl
  told_meant set below (Some status) =
      told_one set below status (top_frame below)
      ∙ ap (told_top set (meant below) status) (sym (top_meant below))

  -- the frames that stand then
  pub standing_meant : (set : Set) (s : SlotShared) (below : List SlotFrame) (p : SlotOutcome)
      (o : Outcome) → Left name s p o
      → meant (frames_after set below p) ≡ standing set (meant below) o
  standing_meant set s below p o left =
      map-append (meant_frame name)
      (told_frames set (frames_below below p.taken_below) p.told) p.frames
      ∙ ap (λ (frames : List Frame).
      meant (told_frames set (frames_below below p.taken_below) p.told) ++ frames) left.frames
      ∙ ap (λ (frames : List Frame). frames ++ o.frames)
      (told_meant set (frames_below below p.taken_below) p.told
      ∙ ap (λ (frames : List Frame). told_to set frames p.told) (below_meant below p.taken_below)
      ∙ ap (λ (taken : Bool). told_to set (kept_below (meant below) taken) p.told) left.taken
      ∙ ap (λ (told : Option Status). told_to set (kept_below (meant below) o.taken_below) told)
      left.told)

  level_meant : (root : Irql) (frames : List SlotFrame)
      → level_over root frames ≡ root_over root (meant frames)
  level_meant root [] = refl
  level_meant root (f ∷ frames) = refl

  ends_meant : (frames : List SlotFrame) (reply : Reply)
      → ends_or frames reply ≡ finished_or (meant frames) reply
  ends_meant [] reply = refl
  ends_meant (f ∷ frames) reply = refl

  -- a world of slots after an event, and what it means then
  pub record MeansChange (b : SlotAnswer) (c : Change) : Type 0 where
    pub threads : map (meant_thread name) b.world.threads ≡ c.world.threads
    pub shared : MeansShared name b.world.shared c.world.shared
    pub reply : b.reply ≡ c.reply
    pub live : (j : ℕ) → is_some (packet_of c.world.shared (name j)) ≡ true
        → named b.world.shared j ≡ name j
    pub order : Ordered b.world.shared
    pub cancels : EachThread (CancelStands b.world.shared) b.world.threads

-- what holds of each frame
each_append : (P : SlotFrame → Type 0) (xs ys : List SlotFrame) → EachFrame P xs → EachFrame P ys
    → EachFrame P (xs ++ ys)
each_append P [] ys h g = g
each_append P (x ∷ xs) ys h g = (h.0, each_append P xs ys h.1 g)

pub each_take : (P : SlotFrame → Type 0) (n : ℕ) (xs : List SlotFrame) → EachFrame P xs
    → EachFrame P (take n xs)
each_take P zero xs h = tt
each_take P (suc n) [] h = tt
each_take P (suc n) (x ∷ xs) h = (h.0, each_take P n xs h.1)

pub each_at : (P : SlotFrame → Type 0) (xs : List SlotFrame) (i : ℕ) (x : SlotFrame)
    → EachFrame P xs → slice_get xs i ≡ Some x → P x
each_at P [] i x h there = cc
each_at P (y ∷ xs) zero x h there = let same : y ≡ x = cc in rw same at h.0
each_at P (y ∷ xs) (suc i) x h there = each_at P xs i x h.1 there

pub each_map : (P Q : SlotFrame → Type 0) (xs : List SlotFrame) → ((x : SlotFrame) → P x → Q x)
    → EachFrame P xs → EachFrame Q xs
each_map P Q [] f h = tt
each_map P Q (x ∷ xs) f h = (f x h.0, each_map P Q xs f h.1)

pub threads_map : (P Q : SlotFrame → Type 0) (xs : List SlotThread)
    → ((x : SlotFrame) → P x → Q x) → EachThread P xs → EachThread Q xs
threads_map P Q [] f h = tt
threads_map P Q (x ∷ xs) f h = (each_map P Q x.frames f h.0, threads_map P Q xs f h.1)

pub threads_at : (P : SlotFrame → Type 0) (xs : List SlotThread) (t : ℕ) (x : SlotThread)
    → EachThread P xs → slice_get xs t ≡ Some x → EachFrame P x.frames
threads_at P [] t x h there = cc
threads_at P (y ∷ xs) zero x h there = let same : y ≡ x = cc in rw same at h.0
threads_at P (y ∷ xs) (suc t) x h there = threads_at P xs t x h.1 there

pub threads_put : (P : SlotFrame → Type 0) (xs : List SlotThread) (t : ℕ) (x : SlotThread)
    → EachThread P xs → EachFrame P x.frames → EachThread P (slice_set xs t x)
threads_put P [] t x h new = tt
threads_put P (y ∷ xs) zero x h new = (new, h.1)
threads_put P (y ∷ xs) (suc t) x h new = (h.0, threads_put P xs t x h.1 new)

-- cancel frames go on as they are
module _ (set : Set) (s : SlotShared) where
  abbrev Cancels : List SlotFrame → Type 0
  Cancels frames = EachFrame (CancelStands s) frames

  cancels_told : (below : List SlotFrame) (status : Status) (top : Option SlotFrame)
      → Cancels below → Cancels (told_frame set below status top)
  cancels_told below status None h = h
  cancels_told below status (Some (SlotWalk k)) h = h
  cancels_told below status (Some (SlotCancel k n step)) h = h
  cancels_told below status (Some (SlotRoutine a)) h =
      each_append (CancelStands s) (take (length below - 1) below) _
      (each_take (CancelStands s) (length below - 1) below h) (tt, tt)

  cancels_told_to : (below : List SlotFrame) (told : Option Status) → Cancels below
      → Cancels (told_frames set below told)
  cancels_told_to below None h = h
  cancels_told_to below (Some status) h = cancels_told below status (top_frame below) h

  cancels_below : (below : List SlotFrame) (taken : Bool) → Cancels below
      → Cancels (frames_below below taken)
  cancels_below below true h = each_take (CancelStands s) (length below - 1) below h
  cancels_below below false h = h

  pub cancels_after : (below : List SlotFrame) (p : SlotOutcome) → Cancels below
      → Cancels p.frames → Cancels (frames_after set below p)
  cancels_after below p h new =
      each_append (CancelStands s) (told_frames set (frames_below below p.taken_below) p.told)
      p.frames
      (cancels_told_to (frames_below below p.taken_below) p.told
      (cancels_below below p.taken_below h)) new

-- the top frame's outcome
module _ (name : ℕ → ℕ) (set : Set) (v : SlotWorld) (w : World) (t : ℕ) (x : SlotThread)
    (threads : map (meant_thread name) v.threads ≡ w.threads)
    (cancels : EachThread (CancelStands v.shared) v.threads)
    (found : slice_get v.threads t ≡ Some x) where
  abbrev thread_after : List SlotFrame → SlotThread
  thread_after frames = record { root = level_over x.root frames; frames = frames }

  threads_after : (frames : List SlotFrame) (meant : List Frame)
      → map (meant_frame name) frames ≡ meant
      → map (meant_thread name) (slice_set v.threads t (thread_after frames))
      ≡ slice_set w.threads t (with_stack (meant_thread name x) meant)
  threads_after frames meant is =
      map_put (meant_thread name) v.threads t (thread_after frames)
      ∙ ap (λ (ys : List Thread). slice_set ys t (meant_thread name (thread_after frames))) threads
      ∙ ap (λ (root : Irql). slice_set w.threads t
      (record { root = root; frames = record { items = map (meant_frame name) frames } }))
      (level_meant name x.root frames)
      ∙ ap (λ (ys : List Frame). slice_set w.threads t (with_stack (meant_thread name x) ys)) is

  pub settles : (below : List SlotFrame) (p : SlotOutcome) (o : Outcome)
      → Left name v.shared p o → EachFrame (CancelStands v.shared) below
      → MeansChange name (settled_step set v t x below p)
      (settled set w t (meant_thread name x) (map (meant_frame name) below) o)
  settles below p o left under =
      let frames : List SlotFrame = frames_after set below p in
      let same : map (meant_frame name) frames ≡ standing set (map (meant_frame name) below) o =
      standing_meant name set v.shared below p o left in
      record {
        threads = threads_after frames (standing set (map (meant_frame name) below) o) same;
        shared = left.shared;
        reply = ends_meant name frames p.reply
            ∙ ap (λ (ys : List Frame). finished_or ys p.reply) same
            ∙ ap (finished_or (standing set (map (meant_frame name) below) o)) left.reply;
        live = left.live;
        order = left.order;
        cancels = threads_map (CancelStands v.shared) (CancelStands p.shared)
            (slice_set v.threads t (thread_after frames))
            (cancel_later v.shared p.shared left.fewer)
            (threads_put (CancelStands v.shared) v.threads t (thread_after frames) cancels
            (cancels_after set v.shared below p under left.cancels));
      }
