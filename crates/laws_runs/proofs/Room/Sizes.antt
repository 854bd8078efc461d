-- The stack sizes of devices: a device under another one has a smaller one.
use Rattle.laws_runs.proofs.Common.{ap, arith, inl, inr, sym, ◌∙◌, eq-eqb, leb_tells, None, Option, Some, false, length, nat_eq, nat_lt, option_and_then, slice_get, suc, true, ℕ, ◌&&◌, ◌+◌, ◌<◌, ◌≡◌, ◌≤◌, is_too_small, Set, lower_of, DeviceFits, IsSound, Device, Serves}
use Rattle.model.specs.Forwarding.{device_under, is_under}
use Rattle.laws_runs.proofs.Devices.{device_fits}
use Rattle.laws_runs.proofs.States.Entering.{any_false}
use Rattle.laws_runs.proofs.Tests.{not_and}

-- the stack size of a device
abbrev pub stack_of : Option Device → ℕ
stack_of None = 0
stack_of (Some d) = d.stack

abbrev pub stack_at : Set → ℕ → ℕ
stack_at set d = stack_of (slice_get set.devices d)

-- a device has a stack location
pub some_stack : (set : Set) (device : ℕ) (e : Device) → IsSound set
    → slice_get set.devices device ≡ Some e
    → 1 ≤ stack_at set device
some_stack set device e sound there =
    let fits : DeviceFits (length set.drivers) device e = device_fits set device e sound there in
    let low : 1 ≤ e.stack = fits.low in
    let is : stack_at set device ≡ e.stack = ap stack_of there in
    omega arith

-- the device under a device has a stack size that is smaller by so many locations
not_less : (a b : ℕ) → nat_lt a b ≡ false → b ≤ a
not_less a b h =
    elim (leb_tells (suc a) b) [
      | inl g ↦ let no : true ≡ false = sym g.0 ∙ h in cc
      | inr g ↦ let l : b < suc a = g.1 in omega arith
    ]

pub smaller : (set : Set) (device lower driver locations : ℕ) (e : Device)
    → Serves set device driver
    → lower_of set device ≡ Some lower → slice_get set.devices lower ≡ Some e
    → is_too_small set driver locations ≡ false → stack_at set lower + locations
    ≤ stack_at set device
smaller set device lower driver locations e served is there enough =
    let d : Device = served.0 in
    let own : (nat_eq d.driver driver && is_under locations d.stack (device_under set d)) ≡ false =
    any_false (λ x. nat_eq x.driver driver && is_under locations x.stack (device_under set x))
    set.devices device d
    enough served.1
    in
    let small : is_under locations d.stack (device_under set d) ≡ false =
    not_and (nat_eq d.driver driver) (is_under locations d.stack (device_under set d))
    (eq-eqb d.driver driver served.2) own
    in
    let lower_is : lower_of set device ≡ d.lower =
    ap (λ (o : Option Device). option_and_then (λ x. x.lower) o) served.1 in
    let under : device_under set d ≡ Some e =
    ap (λ (o : Option ℕ). option_and_then (λ n. slice_get set.devices n) o) (sym lower_is ∙ is)
    ∙ there in
    let least : e.stack + locations ≤ d.stack =
    not_less d.stack (e.stack + locations) (sym (ap (is_under locations d.stack) under) ∙ small) in
    let one : stack_at set lower ≡ e.stack = ap stack_of there in
    let two : stack_at set device ≡ d.stack = ap stack_of served.1 in
    omega arith
