-- What is found once one more is noted.
use Rattle.std.proofs.Common.{◌≡◌, ◌++◌, ◌∷◌, List, [], Bool, true, false, Option, None, Some, ap, refl, ◌∙◌}
use Rattle.std.specs.Prelude.{if◌then◌else◌, option_map}
use Rattle.std.specs.Option.{option_or}
use Rattle.std.proofs.lemmas.List.Folds.{find-append}
use Rattle.hostcore.specs.Noted.{first_of}

module _ {K V : Type 0} where
  value_or : (o other : Option (K × V))
      → option_map (λ (e : K × V). e.1) (option_or o other)
      ≡ option_or (option_map (λ (e : K × V). e.1) o) (option_map (λ (e : K × V). e.1) other)
  value_or None other = refl
  value_or (Some e) other = refl

  one : (b : Bool) (e : K × V)
      → option_map (λ (x : K × V). x.1) (if b then Some e else None)
      ≡ (if b then Some e.1 else None)
  one true e = refl
  one false e = refl

  pub noted_more : (eq : K → K → Bool) (before after : List (K × V)) (key : K) (value : V)
      → after ≡ before ++ (key, value) ∷ [] → (other : K)
      → first_of eq after other
      ≡ option_or (first_of eq before other) (if eq key other then Some value else None)
  noted_more eq before after key value more other =
      ap (λ (l : List (K × V)). first_of eq l other) more
      ∙ (ap (λ (o : Option (K × V)). option_map (λ (e : K × V). e.1) o)
      (find-append (λ (e : K × V). eq e.0 other) before ((key, value) ∷ []))
      ∙ (value_or _ _ ∙ ap (λ (o : Option V). option_or (first_of eq before other) o)
      (one (eq key other) (key, value))))
