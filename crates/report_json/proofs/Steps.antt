-- What was written, and then some more.
use Rattle.std.proofs.Common.{rules, ◌≡◌, List, ◌++◌, Result, Ok, Err, OnOk, ap, ◌∙◌, append_assoc}
use Rattle.json.specs.Token.{Token}

pub more : (t ts us u v : List Token) → u ≡ t ++ ts → v ≡ u ++ us → v ≡ t ++ (ts ++ us)
more t ts us u v e f = f ∙ ap (λ x. x ++ us) e ∙ append_assoc t ts us

-- the last of it, if it was written
pub last : {A E : Type 0} (r : Result A E) (t ts us u v : List Token)
    → u ≡ t ++ ts → OnOk r (v ≡ u ++ us) → OnOk r (v ≡ t ++ (ts ++ us))
last (Ok x) t ts us u v e f = more t ts us u v e f
last (Err x) t ts us u v e f = f

-- what holds anyway
pub anyway : {A E : Type 0} {P : Type 0} (r : Result A E) → P → OnOk r P
anyway (Ok x) p = p
anyway (Err x) p = search rules
