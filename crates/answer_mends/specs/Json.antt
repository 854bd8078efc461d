-- The objects of mends.
use Rattle.std.specs.Prelude.{ℕ, ◌≡◌, ◌⊎◌, if◌then◌else◌, List, [], ◌∷◌, String, codes, decimal, string_bytes}
use Rattle.std.specs.Global.{Global}
use Rattle.answer.specs.Told.{IsToldOf, ended_line}
use Rattle.answer_mends.specs.declared.judged_offers.Offer.{Offer}
use Rattle.answer_mends.specs.declared.judging.Extent.{Extent}
use Rattle.answer_mends.specs.declared.judging.Extent.TheVariants.{Whole, Part}
use Rattle.answer_mends.specs.declared.mend.MendOptions.{MendOptions}
use Rattle.answer_mends.specs.Mend.{AreOffers, any_whole, end_of, is_sure, text_of}
use Rattle.drvhost_devices.specs.Answer.{Answer, is_image}
use Rattle.drvhost_devices.specs.declared.fault.End.TheVariants.{Complete}
use Rattle.drvhost_devices.specs.Device.{Supply}
use Rattle.json.specs.Json.{Json, array, null, number, string, object, Items, no_items, item, Members, no_members, member}
use Rattle.model.specs.declared.abs.Refusal.{Refusal}
use Rattle.model.specs.Set.{Set}
use Rattle.model.specs.Typable.{IsFirstFault, IsTypable}
use Rattle.report_json.specs.Verdict.{place_before}

-- the name of the shape, and its edition
abbrev pub mends_format : List ℕ
mends_format = codes "pafteis.mends/1"

-- how much an offer mends
abbrev pub extent_name : Extent → List ℕ
extent_name Whole = codes "whole"
extent_name (Part left) = codes "part"

-- and why the set is still refused where that is a part
abbrev pub left_json : Extent → Json
left_json Whole = null
left_json (Part left) = object (place_before left no_members)

-- how sure it is, by the words on it
abbrev pub standing_name : List ℕ → List ℕ
standing_name words = if is_sure words then codes "sure" else codes "guess"

-- sentences
abbrev pub sentences_json : List (String Global) → Items
sentences_json [] = no_items
sentences_json (sentence ∷ sentences) =
    item (string (string_bytes sentence)) (sentences_json sentences)

-- an offer: how much it mends, how sure it is, a sentence for each change, and the diff, without
-- names of files
abbrev pub offer_json : Offer → Json
offer_json offer =
    object
    (member (codes "mends") (string (extent_name offer.extent))
    (member (codes "left") (left_json offer.extent)
    (member (codes "standing") (string (standing_name (string_bytes offer.words)))
    (member (codes "sentences") (array (sentences_json offer.sentences.items))
    (member (codes "diff") (string (string_bytes offer.diff))
    no_members)))))

abbrev pub offers_json : List Offer → Items
offers_json [] = no_items
offers_json (offer ∷ offers) = item (offer_json offer) (offers_json offers)

-- what is told of the set of a file in so many tries
abbrev pub told_json : List ℕ → ℕ → Members → Json
told_json file tries members =
    object
    (member (codes "format") (string mends_format)
    (member (codes "file") (string file)
    (member (codes "tries") (number (decimal tries))
    members)))

-- an accepted set has nothing to mend
abbrev pub nothing_json : List ℕ → ℕ → Json
nothing_json file tries =
    told_json file tries (member (codes "verdict") (string (codes "accepted")) no_members)

-- a refused set: its first fault, and what mends it
abbrev pub mends_json : List ℕ → ℕ → Refusal → List Offer → Json
mends_json file tries refusal offers =
    told_json file tries
    (member (codes "verdict") (string (codes "refused"))
    (place_before refusal
    (member (codes "offers") (array (offers_json offers))
    no_members)))

pub record IsMendedJson (asked : MendOptions) (file text : List ℕ) (set : Set) (answer : Answer) : Type 0
  where
    pub refusal : Refusal
    pub first : IsFirstFault set refusal
    pub offers : List Offer
    pub are : AreOffers refusal text offers
    pub is : answer ≡ ended_line (end_of (any_whole offers)) (mends_json file asked.tries refusal offers)

-- what is right in JSON for a set that the bytes of the file of a name are
abbrev pub IsMendJson : MendOptions → List ℕ → List ℕ → Set → Answer → Type 0
IsMendJson asked name bytes set answer =
    (IsTypable set × (answer ≡ ended_line Complete (nothing_json name asked.tries)))
    ⊎ IsMendedJson asked name (text_of (is_image bytes) bytes set) set answer

-- what `mend` answers in JSON for what the source has that is the file of a name
abbrev pub IsMendJsonOf : MendOptions → List ℕ → Supply → Answer → Type 0
IsMendJsonOf asked name supply answer = IsToldOf (IsMendJson asked name) name supply answer
