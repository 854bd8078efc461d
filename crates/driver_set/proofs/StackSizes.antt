-- The devices of a sound set have stack sizes of at most so many locations.
use Rattle.std.proofs.Common.{◌≡◌, ◌≤◌, ℕ, zero, suc, List, [], ◌∷◌, Option, None, Some, length, refl}
use Rattle.std.specs.Prelude.{IfSome, slice_get}
use Rattle.model.specs.declared.limits.TheConstants.{MAX_STACK}
use Rattle.model.specs.declared.set.Device.{Device}
use Rattle.model.specs.Set.{Set}
use Rattle.model.specs.Sound.{IsSound, DeviceFits, DevicesFit}

stack_fits : (drivers number : ℕ) (devices : List Device) (i : ℕ) (d : Device)
    → DevicesFit drivers number devices →
    slice_get devices i ≡ Some d → d.stack ≤ MAX_STACK
stack_fits drivers number [] i d fits h = cc
stack_fits drivers number (e ∷ devices) zero d fits h =
    let same : e ≡ d = cc in
    let first : DeviceFits drivers number e = fits.0 in
    rw (← same) first.high
stack_fits drivers number (e ∷ devices) (suc i) d fits h =
    stack_fits drivers (suc number) devices i d fits.1 h

high_of : (set : Set) → IsSound set → (i : ℕ) (o : Option Device) → slice_get set.devices i ≡ o
    → IfSome o (λ d. d.stack ≤ MAX_STACK)
high_of set sound i None h = tt
high_of set sound i (Some d) h = stack_fits (length set.drivers) 0 set.devices i d sound.devices h

pub stack_at_most : (set : Set) → IsSound set → (i : ℕ)
    → IfSome (slice_get set.devices i) (λ d. d.stack ≤ MAX_STACK)
stack_at_most set sound i = high_of set sound i (slice_get set.devices i) refl
