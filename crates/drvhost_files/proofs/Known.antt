-- What a file holds agrees with what is known of its name.
use Rattle.std.proofs.Common.{ℕ, List, subst}
use Rattle.drvhost_devices.specs.Device.{Bytes, Closed, Holds, IsSuppliedAs, Supply, Unknown}

pub holds_known : (known supply : Supply) (bytes : List ℕ) → IsSuppliedAs known supply
    → Holds supply bytes → Holds known bytes
holds_known Unknown supply bytes h p = tt
holds_known Closed supply bytes h p = let P : Supply → Type 0 = λ s. Holds s bytes in subst P h p
holds_known (Bytes held) supply bytes h p =
    let P : Supply → Type 0 = λ s. Holds s bytes in subst P h p
