-- The devices of a sound set: each fits at its place, and is the one that its routines are for.
use Rattle.laws_runs.proofs.Prelude.{arith, refl, subst, zero, List, None, Option, Some, [], length, slice_get, suc, ℕ, ◌+◌, ◌∷◌, ◌≡◌, dispatched, Set, DeviceFits, IsSound, Device, Major}
use Rattle.model.specs.Sound.{DevicesFit}

fits_from : (drivers first : ℕ) (devices : List Device) (i : ℕ) (d : Device)
    → DevicesFit drivers first devices
    → slice_get devices i ≡ Some d → DeviceFits drivers (first + i) d
fits_from drivers first [] i d fit there = cc
fits_from drivers first (e ∷ devices) zero d fit there =
    let same : e ≡ d = cc in
    let here : first + zero ≡ first = omega arith in
    subst (λ (x : Device). DeviceFits drivers (first + zero) x) same (rw here fit.0)
fits_from drivers first (e ∷ devices) (suc i) d fit there =
    let here : first + suc i ≡ suc first + i = omega arith in
    rw here (fits_from drivers (suc first) devices i d fit.1 there)

pub device_fits : (set : Set) (i : ℕ) (d : Device) → IsSound set → slice_get set.devices i ≡ Some d
    → DeviceFits (length set.drivers) i d
device_fits set i d sound there =
    let same : 0 + i ≡ i = omega arith in
    subst (λ (x : ℕ). DeviceFits (length set.drivers) x d) same
    (fits_from (length set.drivers) 0 set.devices i d sound.devices there)

-- a dispatch routine is for the device whose request it serves
pub dispatched_device : (set : Set) (device : ℕ) (o : Option Device) (major : Option Major) (n : ℕ)
    → (dispatched set device o major n).device ≡ device
dispatched_device set device None major n = refl
dispatched_device set device (Some d) major n = refl
