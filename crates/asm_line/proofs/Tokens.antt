-- Words with one space between them are read back as the tokens of their line, and lines with an LF
-- behind each as the lines of their text.
use Rattle.std.proofs.Common.{◌≡◌, ℕ, true, List, [], ◌∷◌, ◌++◌, refl, ap, ◌∙◌, append_assoc}
use Rattle.text.specs.Cut.{is_clean, lines_from, lines_of, tokens_of}
use Rattle.text.specs.Lexical.{is_lexical}
use Rattle.text.specs.Spaced.{ArePlain}
use Rattle.text.proofs.Spaced.{lines_on, plain_clean, plain_lexical, plain_tokens}
use Rattle.asm_line.specs.ListedWords.{joined}

pub tokens_back : (words : List (List ℕ)) → ArePlain words → tokens_of (joined words) ≡ words
tokens_back [] h = refl
tokens_back (word ∷ words) h = plain_tokens word words h.0 h.1

pub is_lexical_line : (words : List (List ℕ)) → ArePlain words → is_lexical (joined words) ≡ true
is_lexical_line [] h = refl
is_lexical_line (word ∷ words) h = plain_lexical word words h.0 h.1

pub joined_clean : (words : List (List ℕ)) → ArePlain words → is_clean (joined words) ≡ true
joined_clean [] h = refl
joined_clean (word ∷ words) h = plain_clean word words h.0 h.1

pub line_back : (line rest : List ℕ) → is_clean line ≡ true
    → lines_of ((line ++ 10 ∷ []) ++ rest) ≡ line ∷ lines_of rest
line_back line rest h =
    ap (λ (t : List ℕ). lines_from [] t) (append_assoc line (10 ∷ []) rest)
    ∙ lines_on [] line (10 ∷ rest) h
