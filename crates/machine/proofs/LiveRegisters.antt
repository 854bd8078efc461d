-- What a register of a routine on the top of a thread has where it refers to a packet: a live one.
use Rattle.std.proofs.Common.{◌≡◌, ◌<◌, ◌+◌, ◌-◌, ℕ, List, Option, None, Some, false, length, sym, subst, arith}
use Rattle.std.specs.Prelude.{slice_get}
use Rattle.std.proofs.lemmas.Option.{slice_get_past, slice_get_within}
use Rattle.model.specs.declared.abs.Kind.{Kind}
use Rattle.model.specs.declared.abs.Kind.TheVariants.{Blank, Num, Lower, New, Own, Queued, View}
use Rattle.model.specs.declared.event.Event.{Event}
use Rattle.model.specs.declared.world.Activation.{Activation}
use Rattle.model.specs.declared.world.Frame.{Frame}
use Rattle.model.specs.declared.world.Frame.TheVariants.{Routine}
use Rattle.model.specs.declared.world.Thread.{Thread}
use Rattle.model.specs.declared.world.Value.{Value}
use Rattle.model.specs.declared.world.Value.TheVariants.{Num as NumValue, Ref, Status as StatusValue}
use Rattle.model.specs.Effect.{top_of}
use Rattle.model.specs.Kinds.{is_blank}
use Rattle.model.specs.LocalRule.{kind_of}
use Rattle.model.specs.Run.{frames_on, run}
use Rattle.model.specs.Set.{Set}
use Rattle.model.specs.Shown.{MayBeTaken}
use Rattle.model.specs.World.{Shared, World, register}
use Rattle.machine.specs.Slots.{IsLive}
use Rattle.laws_runs.specs.KindsAgree.{IsOfKind, NamesLive, RegistersAreOfTheirKinds}

live_named : (s : Shared) (n : ℕ) → NamesLive s (Ref n) → IsLive s n
live_named s n h =
    let is : Ref n ≡ Ref h.0 = h.1 in
    let same : n ≡ h.0 = cc in
    subst (λ (m : ℕ). IsLive s m) (sym same) (h.2, h.3)

-- a value that refers to a packet is of a kind that only live ones are of
live_of : (s : Shared) (k : Kind) (n : ℕ) → is_blank k ≡ false → IsOfKind s k (Ref n) → IsLive s n
live_of s Blank n kind h = cc
live_of s Num n kind h = let is : Ref n ≡ NumValue h.0 = h.1 in cc
live_of s Lower n kind h = let is : Ref n ≡ StatusValue h.0 = h.1 in cc
live_of s New n kind h = live_named s n h
live_of s Own n kind h = live_named s n h
live_of s (Queued name stage) n kind h = live_named s n h
live_of s View n kind h = live_named s n h

-- nothing stands on the top
above_top : (frames : List Frame) (f : Frame) → top_of frames ≡ Some f
    → slice_get frames (length frames - 1 + 1) ≡ None
above_top frames f top =
    let within : length frames - 1 < length frames =
    slice_get_within frames (length frames - 1) f top in
    slice_get_past frames (length frames - 1 + 1) (omega (arith, within))

module _ (set : Set) (threads : ℕ) (events : List Event)
    (kinds : RegistersAreOfTheirKinds set threads events) (t : ℕ) (thread : Thread)
    (a : Activation) (there : slice_get (run set threads events).world.threads t ≡ Some thread)
    (top : top_of thread.frames.items ≡ Some (Routine a)) where
  abbrev w : World
  w = (run set threads events).world

  abbrev k : ℕ
  k = length thread.frames.items - 1

  on_top : slice_get (frames_on w t) k ≡ Some (Routine a)
  on_top = rw there top

  over_top : slice_get (frames_on w t) (k + 1) ≡ None
  over_top = rw there (above_top thread.frames.items (Routine a) top)

  pub live_at : (r n : ℕ) → MayBeTaken set None a r → register a r ≡ Ref n → IsLive w.shared n
  live_at r n may is =
      let taken : MayBeTaken set (slice_get (frames_on w t) (k + 1)) a r =
      subst (λ (o : Option Frame). MayBeTaken set o a r) (sym over_top) may in
      live_of w.shared (kind_of taken.state r) n taken.kind
      (subst (λ (v : Value). IsOfKind w.shared (kind_of taken.state r) v) is
      (kinds.each t k a r on_top taken))
