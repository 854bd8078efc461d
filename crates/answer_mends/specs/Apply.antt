-- What `mend` answers where it applies one of its offers, and what it writes then.
use Rattle.std.specs.Prelude.{ℕ, zero, suc, ◌≡◌, ◌+◌, ◌++◌, ◌⊎◌, Bool, true, false, if◌then◌else◌, List, [], ◌∷◌, Option, None, Some, Ok, Err, Result, codes, decimal, slice_get, string_bytes}
use Rattle.std.specs.Io.KnownBytes.{Appends}
use Rattle.drvhost_devices.specs.Answer.{Answer, FileSays, IsOfFile, ended, is_image}
use Rattle.drvhost_devices.specs.declared.fault.End.{End}
use Rattle.drvhost_devices.specs.declared.fault.End.TheVariants.{Complete, Stopped}
use Rattle.drvhost_devices.specs.declared.fault.Fault.{Fault}
use Rattle.drvhost_devices.specs.declared.fault.Fault.TheVariants.{Write}
use Rattle.drvhost_devices.specs.Device.{Holds, Supply, TakesBeginning}
use Rattle.drvhost_devices.specs.declared.wanted.Wanted.{Wanted}
use Rattle.drvhost_devices.specs.declared.wanted.Wanted.TheVariants.{Sure, Number}
use Rattle.model.specs.declared.abs.Refusal.{Refusal}
use Rattle.model.specs.declared.abs.Rule.{Rule}
use Rattle.model.specs.Set.{Set}
use Rattle.model.specs.Typable.{IsFirstFault, IsTypable}
use Rattle.model.specs.Words.{rule_text}
use Rattle.report.specs.Verdict.{refusal_line}
use Rattle.answer_mends.specs.declared.judging.Extent.{Extent}
use Rattle.answer_mends.specs.declared.judging.Extent.TheVariants.{Whole, Part}
use Rattle.answer_mends.specs.declared.judged_offers.Offer.{Offer}
use Rattle.answer_mends.specs.declared.apply.Applied.{Applied}
use Rattle.answer_mends.specs.declared.apply.ApplyOptions.{ApplyOptions}
use Rattle.answer_mends.specs.Mend.{AreOffers, end_of, is_sure, is_whole, nothing_told, text_of, told}

-- what is told behind the offers: which one is applied, and of a part why the set that it makes is
-- still refused
abbrev pub rule_left : Rule → List ℕ
rule_left rule = codes " of a part: still refused by " ++ rule_text rule

abbrev pub place_left : Refusal → List ℕ
place_left left =
    codes " driver " ++ (decimal left.driver ++ (codes " routine " ++ (decimal left.routine
    ++ (codes " at " ++ (decimal left.at ++ codes "\n")))))

abbrev pub left_text : Extent → List ℕ
left_text Whole = codes "\n"
left_text (Part left) = rule_left left.rule ++ place_left left

abbrev pub applied_line : ℕ → Extent → List ℕ
applied_line number extent = codes "applied mend " ++ (decimal number ++ left_text extent)

-- or that none is
abbrev pub unapplied_line : Bool → List ℕ
unapplied_line true = codes "none applied: an image has no lines, and `list` writes its text\n"
unapplied_line false = codes "none applied: only a sure one is, or the one that --nth names\n"

abbrev pub last_line : Bool → Option Applied → List ℕ
last_line image None = unapplied_line image
last_line image (Some applied) = applied_line applied.number applied.extent

-- the offer of a number, where the first has number 1
abbrev pub taken : ℕ → Option Offer → Option Applied
taken number None = None
taken number (Some offer) =
    Some (record { number = number; extent = offer.extent; made = offer.made })

abbrev pub numbered : ℕ → List Offer → Option Applied
numbered zero offers = None
numbered (suc before) offers = taken (before + 1) (slice_get offers before)

-- the first one, if its words say that it is sure
abbrev pub first_sure : List Offer → Option Applied
first_sure [] = None
first_sure (offer ∷ offers) =
    if is_sure (string_bytes offer.words) then taken 1 (Some offer) else None

-- the one that is wanted
abbrev pub wanted_of : Wanted → List Offer → Option Applied
wanted_of Sure offers = first_sure offers
wanted_of (Number number) offers = numbered number offers

-- it is applied, but to no image
abbrev pub applied_of : Bool → Option Applied → Option Applied
applied_of true wanted = None
applied_of false wanted = wanted

-- what it makes is written, and the whole is mended, or not
abbrev pub written_of : Option Applied → Option (List ℕ)
written_of None = None
written_of (Some applied) = Some applied.made

abbrev pub end_with : Option Applied → End
end_with None = Stopped
end_with (Some applied) = end_of (is_whole applied.extent)

-- an answer on a refused text, or on the listing of an image: its first fault, the offers, and
-- which of them is applied. None is only where none is wanted, or of an image
pub record IsAppliedTo (asked : ApplyOptions) (image : Bool) (text : List ℕ) (set : Set)
    (written : Option (List ℕ)) (answer : Answer) : Type 0 where
  pub refusal : Refusal
  pub first : IsFirstFault set refusal
  pub offers : List Offer
  pub are : AreOffers refusal text offers
  pub writes : written ≡ written_of (applied_of image (wanted_of asked.wanted offers))
  pub is : answer ≡ ended (end_with (applied_of image (wanted_of asked.wanted offers)))
      (refusal_line refusal
      ++ (told asked.tries offers ++ last_line image (applied_of image (wanted_of asked.wanted offers))))

-- what is right for a set that the bytes of a file name, where such a text is written, or none
abbrev pub IsApply : ApplyOptions → List ℕ → Option (List ℕ) → Set → Answer → Type 0
IsApply asked bytes written set answer =
    (IsTypable set × (written ≡ None) × (answer ≡ ended Complete nothing_told))
    ⊎ IsAppliedTo asked (is_image bytes) (text_of (is_image bytes) bytes set) set written answer

-- what is right for what its source has: where a text is written, it has a set
abbrev pub IsApplyWith : ApplyOptions → Supply → Option (List ℕ) → Answer → Type 0
IsApplyWith asked supply None answer =
    (bytes : List ℕ) × Holds supply bytes × IsOfFile (IsApply asked bytes None) bytes answer
IsApplyWith asked supply (Some made) answer =
    (bytes : List ℕ) × Holds supply bytes
    × ((set : Set) × FileSays bytes (Ok set) × IsApply asked bytes (Some made) set answer)

abbrev pub IsApplyOf : ApplyOptions → Supply → Answer → Type 0
IsApplyOf asked supply answer =
    (written : Option (List ℕ)) × IsApplyWith asked supply written answer

-- a file was left as it was: by a fault, or since no text is written for what was shown
abbrev pub LeavesFor : ApplyOptions → Supply → Option (List ℕ) → Option (List ℕ) → ℕ → Type 0
LeavesFor asked supply shown_before shown_after status =
    (status ≡ 2) ⊎ (status ≡ 3)
    ⊎ ((answer : Answer) × IsApplyWith asked supply None answer × (status ≡ answer.status)
    × Appends shown_before shown_after answer.output)

-- or it has taken the text that the diff of an offer makes which was shown before, or a beginning
-- of it where a write failed
pub record TakesMade (asked : ApplyOptions) (supply : Supply)
    (shown_before shown_after before after : Option (List ℕ)) (status : ℕ) : Type 0 where
  pub answer : Answer
  pub made : List ℕ
  pub right : IsApplyWith asked supply (Some made) answer
  pub shown : Appends shown_before shown_after answer.output
  pub taken : ((status ≡ answer.status) × Appends before after made)
      ⊎ ((status ≡ 2) × TakesBeginning before after made)

-- an answer was shown, or a beginning of it where a write failed
abbrev pub Shows : End → List ℕ → Option (List ℕ) → Option (List ℕ) → Result End Fault → Type 0
Shows end output before after (Ok ended) = (ended ≡ end) × Appends before after output
Shows end output before after (Err fault) =
    (fault ≡ Write) × TakesBeginning before after output

-- a file that was left as it was by such a fact, or has taken a text, if one is written: not before
-- the answer was shown
abbrev pub TakesText : Type 0 → Option (List ℕ) → Option (List ℕ) → Option (List ℕ)
    → Option (List ℕ) → List ℕ → List ℕ → Result End Fault → Type 0
TakesText Same shown_before shown_after before after output made (Ok ended) =
    Appends before after made
TakesText Same shown_before shown_after before after output made (Err fault) =
    Same ⊎ (Appends shown_before shown_after output × TakesBeginning before after made)

abbrev pub Takes : Type 0 → Option (List ℕ) → Option (List ℕ) → Option (List ℕ)
    → Option (List ℕ) → List ℕ → Option (List ℕ) → Result End Fault → Type 0
Takes Same shown_before shown_after before after output None result = Same
Takes Same shown_before shown_after before after output (Some made) result =
    TakesText Same shown_before shown_after before after output made result
