-- Keys that name other packets after a step: what shows a world by the old names shows it by the
-- new ones, if what names a packet that is live names it still. A register from which something may
-- be taken names a live one, if it is of a packet's kind.
use Rattle.std.proofs.Common.{◌≡◌, ℕ, suc, true, false, List, [], ◌∷◌, Option, Some, refl, sym, ◌∙◌, ap, subst, map, is_some}
use Rattle.std.specs.Prelude.{slice_get, slice_index_or}
use Rattle.model.specs.declared.abs.Kind.{Kind}
use Rattle.model.specs.declared.abs.Kind.TheVariants.{Blank as BlankKind, Num as NumKind, Lower}
use Rattle.model.specs.declared.world.Activation.{Activation}
use Rattle.model.specs.declared.world.Frame.{Frame}
use Rattle.model.specs.declared.world.Frame.TheVariants.{Routine, Walk, Cancel as CancelFrame}
use Rattle.model.specs.declared.world.Thread.{Thread}
use Rattle.model.specs.declared.world.Value.{Value}
use Rattle.model.specs.declared.world.Value.TheVariants.{Blank, Num, Ref, Status as StatusValue}
use Rattle.model.specs.Kinds.{is_blank}
use Rattle.model.specs.LocalRule.{kind_of}
use Rattle.model.specs.Set.{Set}
use Rattle.model.specs.Shown.{MayBeTaken, Reads, ShownRegister, ShowsFrame, ShowsFrames, ShowsThreads, blank_register, whole_frame, whole_register, whole_thread}
use Rattle.model.specs.World.{Shared, packet_of, register}
use Rattle.laws_runs.proofs.Alike.Shows.{whole_get}
use Rattle.laws_runs.specs.KindsAgree.{IsOfKind, NamesLive}
use Rattle.laws_slots.specs.Rep.{meant_frame, meant_thread, meant_value}
use Rattle.laws_slots.specs.Slots.{SlotCancel, SlotFrame, SlotRoutine, SlotThread, SlotWalk}
use Rattle.laws_slots.proofs.Words.{map_index}

-- a value of a kind other than blank that refers to a packet names a live one
live_named : (s : Shared) (v : Value) (n : ℕ) → NamesLive s v → v ≡ Ref n
    → is_some (packet_of s n) ≡ true
live_named s v n h is =
    let same : Ref h.0 ≡ Ref n = sym h.1 ∙ is in
    let one : h.0 ≡ n = cc in
    rw one at h.3

pub live_of_kind : (s : Shared) (k : Kind) (v : Value) (n : ℕ) → is_blank k ≡ false
    → IsOfKind s k v → v ≡ Ref n → is_some (packet_of s n) ≡ true
live_of_kind s BlankKind v n some h is = cc
live_of_kind s NumKind v n some h is = let no : Num h.0 ≡ Ref n = sym h.1 ∙ is in cc
live_of_kind s Lower v n some h is = let no : StatusValue h.0 ≡ Ref n = sym h.1 ∙ is in cc
live_of_kind s _ v n some h is = live_named s v n h is

-- registers from which something may be taken are of their kinds
module _ (set : Set) (s : Shared) where
  abbrev pub KindsOf : Option Frame → Frame → Type 0
  KindsOf above f =
      (a : Activation) (r : ℕ) → f ≡ Routine a → (may : MayBeTaken set above a r)
      → IsOfKind s (kind_of may.state r) (register a r)

  abbrev pub AllKinds : List Frame → Type 0
  AllKinds frames =
      (k : ℕ) (f : Frame) → slice_get frames k ≡ Some f → KindsOf (slice_get frames (suc k)) f

module _ (set : Set) (s : Shared) (name other : ℕ → ℕ)
    (live : (j : ℕ) → is_some (packet_of s (name j)) ≡ true → other j ≡ name j) where
  reads_renamed : (u v : Value) → ((n : ℕ) → v ≡ Ref n → is_some (packet_of s n) ≡ true)
      → Reads (whole_register (meant_value name u)) v
      → Reads (whole_register (meant_value other u)) v
  reads_renamed Blank v lives h = h
  reads_renamed (Num n) v lives h = h
  reads_renamed (StatusValue status) v lives h = h
  reads_renamed (Ref k) Blank lives h = tt
  reads_renamed (Ref k) (Num n) lives h = h
  reads_renamed (Ref k) (StatusValue status) lives h = h
  reads_renamed (Ref k) (Ref n) lives h =
      let one : name k ≡ n = cc in
      ap (λ (m : ℕ). Some m) (live k (rw one (lives n refl)) ∙ one)

  register_renamed : (values : List Value) (r : ℕ) (v : Value)
      → ((n : ℕ) → v ≡ Ref n → is_some (packet_of s n) ≡ true)
      → Reads (slice_index_or (map whole_register (map (meant_value name) values)) r blank_register)
      v
      → Reads
      (slice_index_or (map whole_register (map (meant_value other) values)) r blank_register)
      v
  register_renamed values r v lives h =
      let was : whole_register (slice_index_or (map (meant_value name) values) r Blank)
      ≡ whole_register (meant_value name (slice_index_or values r Blank)) =
      ap whole_register (map_index (meant_value name) values r Blank) in
      let is : whole_register (slice_index_or (map (meant_value other) values) r Blank)
      ≡ whole_register (meant_value other (slice_index_or values r Blank)) =
      ap whole_register (map_index (meant_value other) values r Blank) in
      subst (λ (x : ShownRegister). Reads x v)
      (sym (whole_get (map (meant_value other) values) r ∙ is))
      (reads_renamed (slice_index_or values r Blank) v lives
      (subst (λ (x : ShownRegister). Reads x v)
      (whole_get (map (meant_value name) values) r ∙ was) h))

  -- frames
  frame_renamed : (above : Option Frame) (x : SlotFrame) (f : Frame) → KindsOf set s above f
      → ShowsFrame set s above (whole_frame (meant_frame name x)) f
      → ShowsFrame set s above (whole_frame (meant_frame other x)) f
  frame_renamed above (SlotRoutine b) (Routine a) kinds h =
      record {
        driver = h.driver;
        routine = h.routine;
        device = h.device;
        position = h.position;
        loops = h.loops;
        registers = λ r may. register_renamed b.registers r (register a r)
            (λ n is. live_of_kind s (kind_of may.state r) (register a r) n may.kind
            (kinds a r refl may) is) (h.registers r may);
      }
  frame_renamed above (SlotWalk k) (Walk n) kinds h =
      λ lives. (let one : name k ≡ n = h lives in live k (rw one lives) ∙ one)
  frame_renamed above (SlotCancel k n step) (CancelFrame c) kinds h = h
  frame_renamed above (SlotRoutine b) (Walk n) kinds h = absurd h
  frame_renamed above (SlotRoutine b) (CancelFrame c) kinds h = absurd h
  frame_renamed above (SlotWalk k) (Routine a) kinds h = absurd h
  frame_renamed above (SlotWalk k) (CancelFrame c) kinds h = absurd h
  frame_renamed above (SlotCancel k n step) (Routine a) kinds h = absurd h
  frame_renamed above (SlotCancel k n step) (Walk m) kinds h = absurd h

  frames_renamed : (xs : List SlotFrame) (frames : List Frame) → AllKinds set s frames
      → ShowsFrames set s (map whole_frame (map (meant_frame name) xs)) frames
      → ShowsFrames set s (map whole_frame (map (meant_frame other) xs)) frames
  frames_renamed [] [] kinds h = tt
  frames_renamed [] (f ∷ frames) kinds h = absurd h
  frames_renamed (x ∷ xs) [] kinds h = absurd h
  frames_renamed (x ∷ xs) (f ∷ frames) kinds h = (
    frame_renamed (slice_get frames 0) x f (kinds 0 f refl) h.0,
    frames_renamed xs frames (λ k. kinds (suc k)) h.1,
  )

  pub threads_renamed : (xs : List SlotThread) (threads : List Thread)
      → ((t : ℕ) (thread : Thread) → slice_get threads t ≡ Some thread
      → AllKinds set s thread.frames.items)
      → ShowsThreads set s (map whole_thread (map (meant_thread name) xs)) threads
      → ShowsThreads set s (map whole_thread (map (meant_thread other) xs)) threads
  threads_renamed [] [] kinds h = tt
  threads_renamed [] (thread ∷ threads) kinds h = absurd h
  threads_renamed (x ∷ xs) [] kinds h = absurd h
  threads_renamed (x ∷ xs) (thread ∷ threads) kinds h = (
    (h.0.0, frames_renamed x.frames thread.frames.items (kinds 0 thread refl) h.0.1),
    threads_renamed xs threads (λ t. kinds (suc t)) h.1,
  )
