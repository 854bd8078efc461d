-- What `mend` answers: offers of mends, each with a diff of the text that was checked.
use Rattle.std.specs.Prelude.{ℕ, ◌≡◌, ◌+◌, ◌<◌, ◌++◌, ◌&&◌, not, nat_eq, ◌⊎◌, All, Bool, true, false, List, [], ◌∷◌, Ok, Some, codes, decimal, string_bytes}
use Rattle.std.specs.List.{list_any, starts_with}
use Rattle.asm_line.specs.Listing.{listing}
use Rattle.drvhost_devices.specs.Answer.{Answer, FileSays, IsOfFile, ended, is_image}
use Rattle.drvhost_devices.specs.declared.fault.End.{End}
use Rattle.drvhost_devices.specs.declared.fault.End.TheVariants.{Complete, Stopped}
use Rattle.drvhost_devices.specs.Device.{Holds, Supply}
use Rattle.mend_edits.specs.Diff.{made_by}
use Rattle.model.specs.declared.abs.Refusal.{Refusal}
use Rattle.model.specs.Set.{Set}
use Rattle.model.specs.Typable.{IsFirstFault, IsTypable}
use Rattle.report.specs.Verdict.{refusal_line}
use Rattle.text.specs.Cut.{lines_of}
use Rattle.answer_mends.specs.declared.judged_offers.Offer.{Offer}
use Rattle.answer_mends.specs.declared.judging.Extent.{Extent}
use Rattle.answer_mends.specs.declared.judging.Extent.TheVariants.{Whole, Part}
use Rattle.answer_mends.specs.declared.mend.MendOptions.{MendOptions}

-- the text that is mended: the file's own, or of an image the listing of its set
abbrev pub text_of : Bool → List ℕ → Set → List ℕ
text_of true bytes set = listing set
text_of false bytes set = bytes

-- a refusal speaks of a later routine than another one
abbrev pub IsLater : Refusal → Refusal → Type 0
IsLater later refusal =
    (refusal.driver < later.driver)
    ⊎ ((later.driver ≡ refusal.driver) × (refusal.routine < later.routine))

-- a set is accepted; or the first fault that is left is in a later routine than the one that a
-- refusal tells
abbrev pub IsOf : Extent → Refusal → Set → Type 0
IsOf Whole refusal set = IsTypable set
IsOf (Part left) refusal set = IsFirstFault set left × IsLater left refusal

-- a text mends so much of a refused set: by the set that it names
abbrev pub NamesOf : Extent → Refusal → List ℕ → Type 0
NamesOf extent refusal made = (set : Set) × FileSays made (Ok set) × IsOf extent refusal set

-- a diff makes this text of another one, and mends so much by it
abbrev pub Makes : Extent → Refusal → List ℕ → List ℕ → List ℕ → Type 0
Makes extent refusal text diff made =
    (made_by diff text ≡ Some made) × NamesOf extent refusal made

-- words that can be told from a diff behind them: no line of theirs begins as the head of one does
abbrev pub begins_diff : List ℕ → Bool
begins_diff line = starts_with nat_eq line (codes "---")

abbrev pub are_words : List (List ℕ) → Bool
are_words [] = true
are_words (line ∷ lines) = not (begins_diff line) && are_words lines

-- an offer, by its number and what it mends, and the diff behind some words
abbrev pub extent_text : Extent → List ℕ
extent_text Whole = codes " of the whole: "
extent_text (Part left) = codes " of a part: "

abbrev pub offer_head : Extent → ℕ → List ℕ
offer_head extent number = codes "mend " ++ (decimal number ++ extent_text extent)

abbrev pub diff_shown : List ℕ → List ℕ
diff_shown diff = codes "\n--- set\n+++ mended\n" ++ diff

abbrev pub offer_text : ℕ → Offer → List ℕ
offer_text number offer =
    offer_head offer.extent number
    ++ (string_bytes offer.words ++ diff_shown (string_bytes offer.diff))

-- offers, one behind another, the first of which has this number
abbrev pub offers_text : ℕ → List Offer → List ℕ
offers_text number [] = []
offers_text number (offer ∷ offers) =
    offer_text number offer ++ offers_text (number + 1) offers

-- an offer mends something by its diff, which its words can be told from
abbrev pub IsOffer : Refusal → List ℕ → Offer → Type 0
IsOffer refusal text offer =
    (are_words (lines_of (string_bytes offer.words)) ≡ true)
    × Makes offer.extent refusal text (string_bytes offer.diff) offer.made

abbrev pub AreOffers : Refusal → List ℕ → List Offer → Type 0
AreOffers refusal text offers = All (IsOffer refusal text) offers

-- whether one of them is of the whole
abbrev pub is_whole : Extent → Bool
is_whole Whole = true
is_whole (Part left) = false

abbrev pub any_whole : List Offer → Bool
any_whole offers = list_any (λ offer. is_whole offer.extent) offers

-- words on an offer say that it is sure
abbrev pub is_sure : List ℕ → Bool
is_sure words = starts_with nat_eq words (codes "sure")

-- what is told of offers, or that there is none
abbrev pub none_told : ℕ → List ℕ
none_told tries = codes "no mend found in " ++ (decimal tries ++ codes " tries\n")

abbrev pub told : ℕ → List Offer → List ℕ
told tries [] = none_told tries
told tries (offer ∷ offers) = offers_text 1 (offer ∷ offers)

-- the exit status is 0 where the whole is mended
abbrev pub end_of : Bool → End
end_of true = Complete
end_of false = Stopped

-- a refused set: its first fault, and what mends it
pub record IsMended (asked : MendOptions) (text : List ℕ) (set : Set) (answer : Answer) : Type 0 where
  pub refusal : Refusal
  pub first : IsFirstFault set refusal
  pub offers : List Offer
  pub are : AreOffers refusal text offers
  pub is : answer ≡ ended (end_of (any_whole offers)) (refusal_line refusal ++ told asked.tries offers)

-- an accepted set has nothing to mend
abbrev pub nothing_told : List ℕ
nothing_told = codes "accepted: nothing to mend\n"

-- what is right for a set that the bytes of a file name
abbrev pub IsMend : MendOptions → List ℕ → Set → Answer → Type 0
IsMend asked bytes set answer =
    (IsTypable set × (answer ≡ ended Complete nothing_told))
    ⊎ IsMended asked (text_of (is_image bytes) bytes set) set answer

-- what `mend` answers for what its source has
abbrev pub IsMendOf : MendOptions → Supply → Answer → Type 0
IsMendOf asked supply answer =
    (bytes : List ℕ) × Holds supply bytes × IsOfFile (IsMend asked bytes) bytes answer
