-- A block of bytes in which the line of a number and a word stands, but for the number's last digit.
use Rattle.std.specs.Prelude.{ℕ, ◌≡◌, ◌+◌, ◌%◌, List, [], ◌∷◌, ◌++◌, length}
use Rattle.std.specs.Fmt.{decimal}
use Rattle.report.specs.declared.word.Word.{Word}

-- the number of an event, and the word that it replied
pub record Said : Type 0 where
  pub number : ℕ
  pub word : Word

-- a number's digits and then a text stand at the beginning of a block, but that another byte may
-- stand at the place of the last digit
pub record IsReady (number place : ℕ) (text block : List ℕ) : Type 0 where
  pub front : List ℕ
  pub other : ℕ
  pub behind : List ℕ
  pub digits : decimal number ≡ front ++ (48 + number % 10) ∷ []
  pub long : length front ≡ place
  pub begins : block ≡ front ++ other ∷ (text ++ behind)
