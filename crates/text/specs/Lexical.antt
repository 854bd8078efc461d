-- Lines whose bytes and tokens are all of a form.
use Rattle.std.specs.Prelude.{ℕ, Bool, ◌&&◌, List}
use Rattle.std.specs.List.{list_all}
use Rattle.text.specs.Class.{is_token}
use Rattle.text.specs.Cut.{is_clean, tokens_of}

-- each byte of the line may stand there, and each token is of one of the four forms
abbrev pub is_lexical : List ℕ → Bool
is_lexical line = is_clean line && list_all is_token (tokens_of line)
