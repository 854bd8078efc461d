-- What a table of commands has for a word.
use Rattle.std.proofs.Common.{◌≡◌, ◌∙◌, ◌+◌, ◌<◌, ℕ, Bool, true, false, List, Option, Some, bytes_eq, drop, get_or, if◌then◌else◌, length, map, refl, sym}
use Rattle.std.proofs.lemmas.List.{at_drop_more}
use Rattle.cli.specs.declared.table.Entry.{Entry}
use Rattle.cli.specs.declared.table.Subcommand.{Subcommand}
use Rattle.cli.specs.Choices.{named_in}
use Rattle.cli.specs.Table.{word_for}

if_true : (b : Bool) (x y : Option Subcommand) → b ≡ true → (if b then x else y) ≡ x
if_true true x y e = refl
if_true false x y e = cc

if_false : (b : Bool) (x y : Option Subcommand) → b ≡ false → (if b then x else y) ≡ y
if_false true x y e = cc
if_false false x y e = refl

module _ (entries : List Entry) (d : Entry) (word : List ℕ) (i : ℕ) (inside : i < length entries)
  where
    first : named_in (map word_for (drop i entries)) word
        ≡ (if bytes_eq word (get_or entries i d).name.now then Some (get_or entries i d).command
        else named_in (map word_for (drop (i + 1) entries)) word)
    first = at_drop_more (λ (es : List Entry). named_in (map word_for es) word) entries i d inside

    -- the one here
    pub word_here : bytes_eq word (get_or entries i d).name.now ≡ true
        → named_in (map word_for (drop i entries)) word ≡ Some (get_or entries i d).command
    word_here same = first ∙ if_true _ _ _ same

    -- or one behind it
    pub word_behind : bytes_eq word (get_or entries i d).name.now ≡ false
        → named_in (map word_for (drop (i + 1) entries)) word
        ≡ named_in (map word_for (drop i entries)) word
    word_behind other = sym (first ∙ if_false _ _ _ other)
