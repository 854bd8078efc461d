-- A line of JSON.
use Rattle.std.specs.Prelude.{ℕ, List, [], ◌∷◌, ◌++◌}
use Rattle.json.specs.Json.{Json}
use Rattle.json.specs.Print.{print}
use Rattle.json.specs.Tree.{json_tokens}

-- the text of a value, without a space
abbrev pub json_text : Json → List ℕ
json_text value = print (json_tokens value)

-- the line of a value: its text, and an LF at the end
abbrev pub json_line : Json → List ℕ
json_line value = json_text value ++ 10 ∷ []
