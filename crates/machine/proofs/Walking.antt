-- The I/O manager's frame on top of a thread holds its packet, so that is live.
use Rattle.std.proofs.Common.{◌≡◌, ℕ, zero, suc, ◌-◌, ◌≤◌, Bool, true, false, List, [], ◌∷◌, length, Option, None, Some, eq-eqb, refl, arith, sym, ◌∙◌}
use Rattle.std.specs.Prelude.{is_some, slice_get, if◌then◌else◌}
use Rattle.model.specs.declared.event.Event.{Event}
use Rattle.model.specs.declared.world.Frame.{Frame}
use Rattle.model.specs.declared.world.Frame.TheVariants.{Walk}
use Rattle.model.specs.declared.world.Packet.{Packet}
use Rattle.model.specs.declared.world.Thread.{Thread}
use Rattle.model.specs.Effect.{top_of}
use Rattle.model.specs.Run.{Run, run}
use Rattle.model.specs.Set.{Set}
use Rattle.model.specs.World.{packet_of}
use Rattle.laws_runs.specs.ArrivingStates.{States}
use Rattle.laws_runs.specs.Holder.{HasOneHolder, alive, all_walking, frame_walks, is_live, walking}

-- the top frame of two or more is that of those above the lowest
pub top_above : (f g : Frame) (frames : List Frame) → top_of (f ∷ g ∷ frames) ≡ top_of (g ∷ frames)
top_above f g frames =
    let last : length (f ∷ g ∷ frames) - 1 ≡ suc (length (g ∷ frames) - 1) = omega arith in
    rw last refl

-- it is counted
same_walks : (f : Frame) (n : ℕ) → f ≡ Walk n → frame_walks f n ≡ 1
same_walks f n h = rw h (rw (eq-eqb n n refl) refl)

walk_counted : (set : Set) (frames : List Frame) (n : ℕ) → top_of frames ≡ Some (Walk n)
    → 1 ≤ walking set frames n
walk_counted set [] n h = cc
walk_counted set (f ∷ []) n h =
    let is : f ≡ Walk n = cc in
    let one : frame_walks f n ≡ 1 = same_walks f n is in
    omega arith
walk_counted set (f ∷ g ∷ frames) n h =
    let more : 1 ≤ walking set (g ∷ frames) n =
    walk_counted set (g ∷ frames) n (sym (top_above f g frames) ∙ h) in
    omega arith

thread_counted : (set : Set) (threads : List Thread) (t : ℕ) (thread : Thread) (n : ℕ)
    → slice_get threads t ≡ Some thread
    → 1 ≤ walking set thread.frames.items n → 1 ≤ all_walking set threads n
thread_counted set [] t thread n there h = cc
thread_counted set (first ∷ threads) zero thread n there h =
    let is : first ≡ thread = cc in
    let counted : 1 ≤ walking set first.frames.items n = rw is h in
    omega arith
thread_counted set (first ∷ threads) (suc t) thread n there h =
    let counted : 1 ≤ all_walking set threads n = thread_counted set threads t thread n there h in
    omega arith

is_there : (o : Option Packet) → alive o ≡ 1 → is_some o ≡ true
is_there None h = absurd (omega arith)
is_there (Some p) h = refl

counted_live : (b : Bool) (sum other : ℕ) → 1 ≤ sum → sum ≡ (if b then 1 else 0)
    → other ≡ (if b then 1 else 0)
    → other ≡ 1
counted_live true sum other h is same = same
counted_live false sum other h is same = let none : sum ≡ 0 = is in absurd (omega arith)

pub top_walk_live : (set : Set) (states : States) (threads : ℕ) (events : List Event)
    → HasOneHolder set states threads events → (t : ℕ) (thread : Thread) (n : ℕ)
    → slice_get (run set threads events).world.threads t ≡ Some thread
    → top_of thread.frames.items ≡ Some (Walk n)
    → is_some (packet_of (run set threads events).world.shared n) ≡ true
top_walk_live set states threads events holder t thread n there top =
    let r : Run = run set threads events in
    let counted : 1 ≤ all_walking set r.world.threads n =
    thread_counted set r.world.threads t thread n there
    (walk_counted set thread.frames.items n top) in
    is_there (packet_of r.world.shared n)
    (counted_live (is_live r n) _ (alive (packet_of r.world.shared n)) (omega arith)
    (holder.one n) (holder.listed n))
