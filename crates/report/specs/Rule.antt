-- The words that name a rule: its number, or its name, as both stand in a refusal.
use Rattle.std.specs.Prelude.{ℕ, suc, ◌≡◌, ◌⊎◌, List, drop, length}
use Rattle.model.specs.declared.abs.Rule.{Rule}
use Rattle.model.specs.Words.{rule_text, rule_word}

-- the name is what stands behind the number
abbrev pub rule_name : Rule → List ℕ
rule_name rule = drop (suc (length (rule_word rule))) (rule_text rule)

abbrev pub IsRuleWord : List ℕ → Rule → Type 0
IsRuleWord word rule = (word ≡ rule_word rule) ⊎ (word ≡ rule_name rule)
