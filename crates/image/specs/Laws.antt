-- Laws of images, for every driver set that is one: for each that keeps the limits.
use Rattle.std.specs.Prelude.{ℕ, ◌≡◌, ◌↔◌, List, [], ◌++◌}
use Rattle.image.specs.declared.edition.Edition.{Edition}
use Rattle.image.specs.declared.edition.Edition.TheVariants.{Former, Current}
use Rattle.image.specs.declared.fault.ImageFault.{ImageFault}
use Rattle.image.specs.Reading.{IsFaultOf}
use Rattle.image.specs.Spelling.{Spells, SpellsIn}
use Rattle.model.specs.Edition.{edition_of}
use Rattle.model.specs.Set.{Set}
use Rattle.model.specs.Sound.{IsSound}

-- bytes spell at most one set, whatever the editions
abbrev pub BytesSpellOne : Type 0
BytesSpellOne =
    (bytes : List ℕ) (set other : Set) → IsSound set → IsSound other → Spells bytes set
    → Spells bytes other → set ≡ other

-- a set has one spelling in an edition
abbrev pub IsSpelledOnce : Edition → Set → Type 0
IsSpelledOnce edition set =
    (bytes : List ℕ) × SpellsIn edition bytes set
    × ((others : List ℕ) → SpellsIn edition others set → others ≡ bytes)

-- a set has one spelling in the second edition, and one in the first exactly if it is of that
-- edition; else it has none there
abbrev pub EditionsOfImages : Type 0
EditionsOfImages =
    (set : Set)
    → IsSpelledOnce Current set
    × (IsSpelledOnce Former set ↔ (edition_of set ≡ 1))
    × ((bytes : List ℕ) → SpellsIn Former bytes set → edition_of set ≡ 1)

-- no image begins another, of whichever editions they are
abbrev pub NoImageBeginsAnother : Type 0
NoImageBeginsAnother =
    (bytes others rest : List ℕ) (set other : Set) → IsSound set → IsSound other
    → Spells bytes set → Spells others other → bytes ++ rest ≡ others
    → (set ≡ other) × (rest ≡ [])

-- an image has no fault
abbrev pub ImagesAreFaultless : Type 0
ImagesAreFaultless =
    (bytes : List ℕ) (set : Set) (fault : ImageFault) → IsSound set → Spells bytes set
    → IsFaultOf bytes fault → ⊥

-- bytes have one first fault at most
abbrev pub FaultIsOne : Type 0
FaultIsOne =
    (bytes : List ℕ) (fault other : ImageFault) → IsFaultOf bytes fault → IsFaultOf bytes other
    → fault ≡ other
