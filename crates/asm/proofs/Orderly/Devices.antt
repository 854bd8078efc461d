-- The devices that were read, and one more.
use Rattle.std.proofs.Common.{◌≡◌, ℕ, suc, ◌+◌, ◌<◌, ◌≤◌, true, ◌&&◌, List, [], ◌∷◌, ◌++◌, length, Option, Some, None, IfSome, refl, sym, ◌∙◌, ap, subst, arith}
use Rattle.std.specs.Prelude.{bytes_eq, nat_le, option_to_list, option_map}
use Rattle.std.specs.List.{position_or_len}
use Rattle.std.proofs.lemmas.List.{length_push}
use Rattle.std.proofs.lemmas.Bool.Decides.{nat_tests}
use Rattle.model.specs.declared.set.Device.{Device}
use Rattle.model.specs.Sound.{DeviceFits, DevicesFit}
use Rattle.model.specs.declared.limits.TheConstants.{MAX_STACK}
use Rattle.asm.specs.declared.names.Use.{Use}
use Rattle.asm.specs.Outline.{Outline, is_among, is_stack_size, number_of, number_used, missed, earliest, device_added, DevicesKnown}
use Rattle.asm.proofs.Orderly.Names.{neither, number_below, number_there, is_there}

-- a device of an old driver is one still when there are more drivers
pub devices_stay : (m n number : ℕ) (devices : List Device) → m ≤ n → DevicesFit m number devices
    → DevicesFit n number devices
devices_stay m n number [] more fit = tt
devices_stay m n number (d ∷ ds) more fit =
    let one : DeviceFits m number d = fit.0 in (
      record {
        driver = omega (arith, one.driver, more);
        low = one.low;
        high = one.high;
        lower = one.lower;
      },
      devices_stay m n (suc number) ds more fit.1,
    )

-- a device more
devices_push : (drivers number count : ℕ) (devices : List Device) (d : Device)
    → count ≡ number + length devices → DevicesFit drivers number devices
    → DeviceFits drivers count d
    → DevicesFit drivers number (devices ++ d ∷ [])
devices_push drivers number count [] d is fit one =
    let same : count ≡ number = omega (arith, is) in
    (subst (λ (k : ℕ). DeviceFits drivers k d) same one, tt)
devices_push drivers number count (e ∷ es) d is fit one =
    (fit.0, devices_push drivers (suc number) count es d (omega (arith, is)) fit.1 one)

size_within : (n : ℕ) → (nat_le 1 n && nat_le n MAX_STACK) ≡ true → (1 ≤ n) × (n ≤ MAX_STACK)
size_within n h = grind (arith, nat_tests)

number_not_missed : (names : List (List ℕ)) (u : Use) → missed names (Some u) ≡ None
    → number_of names u.name ≡ None → ⊥
number_not_missed names u h none =
    let bad : Some (position_or_len (bytes_eq u.name) names) ≡ None =
    sym (number_there names u.name (is_there (is_among names u.name) u.line h)) ∙ none in
    cc

-- the number of a lower device is below the count of devices
lower_below : (names : List (List ℕ)) (u : Option Use)
    → IfSome (number_used names u) (λ lower. lower < length names)
lower_below names None = tt
lower_below names (Some u) = number_below names u.name

abbrev device_from : Outline → ℕ → Option Use → Option ℕ → Option Device
device_from o stack lower number =
    option_map
    (λ number. record { driver = number; stack = stack; lower = number_used o.device_names lower })
    number

-- a device more, of a driver that is there
device_known : (o : Outline) (stack : ℕ) (lower : Option Use) (number : Option ℕ)
    → IfSome number (λ k. k < length o.driver_names) → (number ≡ None → ⊥) → (1 ≤ stack)
    × (stack ≤ MAX_STACK) → DevicesKnown o.driver_names o.device_names o.devices
    → (length (o.devices ++ option_to_list (device_from o stack lower number))
    ≡ length o.devices + 1)
    × DevicesFit (length o.driver_names) 0
    (o.devices ++ option_to_list (device_from o stack lower number))
device_known o stack lower None below known size h = absurd (known refl)
device_known o stack lower (Some k) below known size h =
    let device : Device =
    record { driver = k; stack = stack; lower = number_used o.device_names lower } in
    let fits : DeviceFits (length o.driver_names) (length o.devices) device = record {
      driver = below;
      low = size.0;
      high = size.1;
      lower = subst (λ (n : ℕ). IfSome (number_used o.device_names lower) (λ l. l < n))
          (sym h.count) (lower_below o.device_names lower);
    } in (
      length_push o.devices device,
      devices_push (length o.driver_names) 0 (length o.devices)
          o.devices device (omega arith) h.fit fits,
    )

pub added_known : (o : Outline) (name : List ℕ) (u : Use) (stack : ℕ) (lower : Option Use)
    → is_stack_size stack ≡ true
    → (o.unknown ≡ None → DevicesKnown o.driver_names o.device_names o.devices)
    → (device_added o name u stack lower).unknown ≡ None
    → DevicesKnown o.driver_names (o.device_names ++ name ∷ [])
    (device_added o name u stack lower).devices
added_known o name u stack lower size h known =
    let both = neither o.unknown
    (earliest (missed o.driver_names (Some u)) (missed o.device_names lower)) known in
    let driver = (neither (missed o.driver_names (Some u)) (missed o.device_names lower) both.1).0
    in
    let old = h both.0 in
    let all = device_known o stack lower (number_of o.driver_names u.name)
    (number_below o.driver_names u.name) (number_not_missed o.driver_names u driver)
    (size_within stack size) old in
    let more = length_push o.device_names name in
    record { count = all.0 ∙ ap (λ (n : ℕ). n + 1) old.count ∙ sym more; fit = all.1 }
