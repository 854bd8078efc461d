-- What a shell reads the word of a name as.
use Rattle.std.proofs.Common.{◌≡◌, ◌++◌, ◌∷◌, ◌&&◌, ℕ, List, [], Bool, true, false, Some, codes}
use Rattle.std.proofs.Common.{if◌then◌else◌, refl, inl, inr, nat_eq}
use Rattle.std.proofs.lemmas.Bool.Decides.{eqb_tells}
use Rattle.std.specs.List.{list_all}
use Rattle.answer_explain.specs.Quoting.{all_between, is_bare, is_plain, quoted, read, WordsAreRead}
use Rattle.answer_explain.specs.Quoting.Reading.{Outside, Quoted}

-- bytes that are taken as they stand
plain_on : (b : ℕ) (bs : List ℕ) (p q : Bool) → is_plain b ≡ p → p && q ≡ true
    → (q ≡ true → read Outside bs ≡ Some bs) → read Outside (b ∷ bs) ≡ Some (b ∷ bs)
plain_on b bs true q is both rest = rw is (rw (rest both) refl)
plain_on b bs false q is both rest = let no : false ≡ true = both in cc

pub plain_read : (bytes : List ℕ) → list_all is_plain bytes ≡ true → read Outside bytes ≡ Some bytes
plain_read [] all = refl
plain_read (b ∷ bs) all =
    plain_on b bs (is_plain b) (list_all is_plain bs) refl all (plain_read bs)

pub bare_read : (bytes : List ℕ) → is_bare bytes ≡ true → read Outside bytes ≡ Some bytes
bare_read [] bare = refl
bare_read (b ∷ bs) bare = plain_read (b ∷ bs) bare

-- bytes between quotes, up to the quote behind them
pub between_read : (bytes : List ℕ) → read Quoted (all_between bytes ++ 39 ∷ []) ≡ Some bytes
between_read [] = refl
between_read (b ∷ bs) =
    elim (eqb_tells b 39) [
      | inl p ↦ rw p.0 (rw p.1 (rw (between_read bs) refl))
      | inr p ↦ rw p.0 (rw p.0 (rw (between_read bs) refl))
    ]

-- either of them
quoted_on : (bytes : List ℕ) (bare : Bool) → is_bare bytes ≡ bare
    → read Outside (if bare then bytes else 39 ∷ (all_between bytes ++ 39 ∷ [])) ≡ Some bytes
quoted_on bytes true is = bare_read bytes is
quoted_on bytes false is = between_read bytes

pub quoted_read : (bytes : List ℕ) → read Outside (quoted bytes) ≡ Some bytes
quoted_read bytes = quoted_on bytes (is_bare bytes) refl

-- a name, behind the folder or not
dashed_on : (name : List ℕ) (dashed : Bool)
    → read Outside ((if dashed then codes "./" else []) ++ quoted name)
    ≡ Some ((if dashed then codes "./" else []) ++ name)
dashed_on name true = rw (quoted_read name) refl
dashed_on name false = quoted_read name

pub words_read : WordsAreRead
words_read [] = quoted_read []
words_read (b ∷ []) = quoted_read (b ∷ [])
words_read (b ∷ c ∷ bs) = dashed_on (b ∷ c ∷ bs) (nat_eq b 45)
