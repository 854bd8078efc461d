-- Parts that are added to a text one behind another.
use Rattle.std.proofs.Common.{◌≡◌, ◌∙◌, ◌++◌, List, ℕ, ap, append_assoc, false, string_bytes}
use Rattle.words.specs.declared.Words.{Words}

-- where nothing is missing, one part was added, and then others
pub and_then : (start middle end : Words) (one others : List ℕ)
    → (middle.lacks ≡ false
    → (start.lacks ≡ false) × (string_bytes middle.text ≡ string_bytes start.text ++ one))
    → (end.lacks ≡ false
    → (middle.lacks ≡ false) × (string_bytes end.text ≡ string_bytes middle.text ++ others))
    → end.lacks ≡ false
    → (start.lacks ≡ false) × (string_bytes end.text ≡ string_bytes start.text ++ (one ++ others))
and_then start middle end one others before behind whole =
    let later = behind whole in
    let sooner = before later.0 in (
      sooner.0,
      later.1
          ∙ ap (λ (text : List ℕ). text ++ others) sooner.1
          ∙ append_assoc (string_bytes start.text) one others,
    )
