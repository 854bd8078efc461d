-- A list of values that is made by one more.
use Rattle.std.proofs.Common.{◌≡◌, ◌∙◌, ◌+◌, ◌<◌, ◌++◌, ℕ, List, [], ◌∷◌, IfOk, IsOkAnd, Result, Ok, Err, ap, get_or, length, map, sym, take}
use Rattle.std.proofs.lemmas.List.{map_more}
use Rattle.serde_json.specs.declared.value.Value.{Value}
use Rattle.serde_json.specs.Data.{Data}
use Rattle.serde_json.specs.View.{view}

pub one_more : {A E : Type 0} (f : A → Data) (xs : List A) (x : A) (i : ℕ) (r : Result Value E)
    (before after : List Data) → i < length xs → x ≡ get_or xs i x
    → IfOk r (λ value. view value ≡ f x) → before ≡ map f (take i xs)
    → IsOkAnd r (λ value. after ≡ before ++ view value ∷ []) → after ≡ map f (take (i + 1) xs)
one_more f xs x i (Ok value) before after within is shows so added =
    added ∙ ap (λ l. l ++ view value ∷ []) so
    ∙ ap (λ d. map f (take i xs) ++ d ∷ []) (shows ∙ ap f is) ∙ sym (map_more f xs i x within)
one_more f xs x i (Err e) before after within is shows so added = absurd added
