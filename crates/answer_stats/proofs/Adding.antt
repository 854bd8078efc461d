-- Words that are added one behind another.
use Rattle.std.proofs.Common.{◌≡◌, ◌∙◌, ◌++◌, ℕ, List, ap, append_assoc}
use Rattle.std.specs.Prelude.{codes}
use Rattle.answer_stats.specs.declared.sizes.Sizes.{Sizes}
use Rattle.answer_stats.specs.Sizes.{input_name}
use Rattle.answer_stats.specs.Stats.{size_line, sizes_text}

pub more : (t ts us u v : List ℕ) → u ≡ t ++ ts → v ≡ u ++ us → v ≡ t ++ (ts ++ us)
more t ts us u v e f = f ∙ ap (λ (x : List ℕ). x ++ us) e ∙ append_assoc t ts us

-- the lines of sizes, one by one
pub all_added : (sizes : Sizes) (t u v w x y z all : List ℕ)
    → u ≡ t ++ size_line (codes "drivers") sizes.drivers
    → v ≡ u ++ size_line (codes "devices") sizes.devices
    → w ≡ v ++ size_line (codes "routines") sizes.routines
    → x ≡ w ++ size_line (codes "instructions") sizes.instructions
    → y ≡ x ++ size_line (codes "locks") sizes.locks
    → z ≡ y ++ input_name sizes.input
    → all ≡ z ++ size_line (codes " bytes") sizes.bytes
    → all ≡ t ++ sizes_text sizes
all_added sizes t u v w x y z all drivers devices routines instructions locks input bytes =
    let a : List ℕ = size_line (codes "devices") sizes.devices in
    let b : List ℕ = size_line (codes "routines") sizes.routines in
    let c : List ℕ = size_line (codes "instructions") sizes.instructions in
    let d : List ℕ = size_line (codes "locks") sizes.locks in
    let e : List ℕ = input_name sizes.input in
    let f : List ℕ = size_line (codes " bytes") sizes.bytes in
    let behind = more y e f z all input bytes in
    let five = more x d (e ++ f) y all locks behind in
    let four = more w c (d ++ (e ++ f)) x all instructions five in
    let three = more v b (c ++ (d ++ (e ++ f))) w all routines four in
    let two = more u a (b ++ (c ++ (d ++ (e ++ f)))) v all devices three in
    more t (size_line (codes "drivers") sizes.drivers) (a ++ (b ++ (c ++ (d ++ (e ++ f))))) u all drivers
    two
