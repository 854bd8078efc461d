-- Offers that are applied, and how a job goes that writes what one makes.
use Rattle.std.proofs.Common.{◌≡◌, ℕ, ◌++◌, ◌∙◌, ◌⊎◌, inl, inr, Bool, List, [], Option, Some, None, Result, Ok, Err, append_assoc, append-nil, refl, ap, sym, subst}
use Rattle.drvhost_devices.specs.Answer.{Answer, FileSays, IsOfFile, end_status, ended}
use Rattle.drvhost_devices.specs.Device.{Bytes, Holds, Supply}
use Rattle.drvhost_devices.specs.Ends.{IsOfSupply}
use Rattle.drvhost_devices.specs.Fault.{Goes, ReadsSet, fault_status, status_of}
use Rattle.drvhost_devices.specs.declared.fault.End.{End}
use Rattle.drvhost_devices.specs.declared.fault.Fault.{Fault}
use Rattle.drvhost_devices.specs.declared.fault.Fault.TheVariants.{Read, Write, Memory, Text, Image, Schedule as OfSchedule, Script as OfScript}
use Rattle.drvhost_devices.proofs.Doing.{goes_rightly, set_unread}
use Rattle.model.specs.declared.abs.Refusal.{Refusal}
use Rattle.model.specs.Set.{Set}
use Rattle.model.specs.Typable.{IsFirstFault}
use Rattle.report.specs.Verdict.{refusal_line}
use Rattle.answer_mends.specs.declared.apply.ApplyOptions.{ApplyOptions}
use Rattle.answer_mends.specs.declared.apply.Applied.{Applied}
use Rattle.answer_mends.specs.declared.judged_offers.Offer.{Offer}
use Rattle.answer_mends.specs.Apply.{IsAppliedTo, IsApply, IsApplyOf, IsApplyWith, LeavesFor, Shows, Takes, TakesMade, applied_of, end_with, last_line, wanted_of, written_of}
use Rattle.answer_mends.specs.Mend.{AreOffers, told}

-- what is told of a refused set, of whose offers one is applied, or none
pub applied_told : (asked : ApplyOptions) (image : Bool) (text : List ℕ) (set : Set) (refusal : Refusal)
    (offers : List Offer) (applied : Option Applied) (end : End) (answer output : List ℕ)
    → IsFirstFault set refusal → AreOffers refusal text offers
    → applied_of image (wanted_of asked.wanted offers) ≡ applied → end ≡ end_with applied
    → answer ≡ refusal_line refusal ++ told asked.tries offers
    → output ≡ answer ++ last_line image applied
    → IsAppliedTo asked image text set (written_of applied) (ended end output)
applied_told asked image text set refusal offers applied end answer output first are is ends said
    all =
    let line : List ℕ = refusal_line refusal in
    let offered : List ℕ = told asked.tries offers in
    let A : Option Applied → List ℕ = λ a. line ++ (offered ++ last_line image a) in
    let same : output ≡ A applied =
    all ∙ ap (λ t. t ++ last_line image applied) said
    ∙ append_assoc line offered (last_line image applied) in
    record {
      refusal = refusal;
      first = first;
      offers = offers;
      are = are;
      writes = ap written_of (sym is);
      is = ap (λ e. ended e output) ends ∙ ap (λ t. ended (end_with applied) t) same
          ∙ ap (λ a. ended (end_with a) (A a)) (sym is);
    }

-- what is right for the bytes that a source has is right for the source
pub source_right : (asked : ApplyOptions) (held : Supply) (bytes : List ℕ) (set : Set)
    (made : Option (List ℕ)) (answer : Answer) → Holds held bytes → ReadsSet (Bytes bytes) (Ok set)
    → IsApply asked bytes made set answer → IsApplyWith asked held made answer
source_right asked held bytes set None answer holds (other, same, says) right =
    let P : List ℕ → Type 0 = λ b. IsOfFile (IsApply asked bytes None) b answer in
    (bytes, holds, subst P same (Ok set, says, right))
source_right asked held bytes set (Some made) answer holds (other, same, says) right =
    let P : List ℕ → Type 0 = λ b. FileSays b (Ok set) in
    (bytes, holds, (set, subst P same says, right))

-- and where its bytes name no set
pub source_unread : (asked : ApplyOptions) (held : Supply) (bytes : List ℕ) (b : Option (List ℕ))
    (fault : Fault) → Holds held bytes → ReadsSet (Bytes bytes) (Err fault)
    → Goes (IsApplyOf asked held) b b [] [] (Err fault)
source_unread asked held bytes b fault holds unread =
    goes_rightly (IsOfSupply (IsApply asked bytes None) (Bytes bytes)) (IsApplyOf asked held) b b []
    [] (Err fault)
    (λ answer right.
    let P : List ℕ → Type 0 = λ c. IsOfFile (IsApply asked bytes None) c answer in
    (None, (bytes, holds, subst P right.1 right.2)))
    (set_unread (IsApply asked bytes None) (Bytes bytes) b [] [] fault unread)

-- a fault leaves the file
pub fault_leaves : (asked : ApplyOptions) (held : Supply) (b n : Option (List ℕ)) (fault : Fault)
    → LeavesFor asked held b n (fault_status fault)
fault_leaves asked held b n Read = inl refl
fault_leaves asked held b n Write = inl refl
fault_leaves asked held b n Memory = inr (inl refl)
fault_leaves asked held b n (Text fault) = inl refl
fault_leaves asked held b n (Image fault) = inl refl
fault_leaves asked held b n (OfSchedule fault) = inl refl
fault_leaves asked held b n (OfScript fault) = inl refl

module _ (asked : ApplyOptions) (held : Supply) (b n : Option (List ℕ)) (end : End) (output : List ℕ)
    (made : Option (List ℕ)) (right : IsApplyWith asked held made (ended end output)) where
  -- how the job goes by what was shown
  pub goes_shown : (result : Result End Fault) → Shows end output b n result
      → Goes (IsApplyOf asked held) b n [] [] result
  goes_shown (Ok e) (same, shown) =
      let P : End → Type 0 = λ x. Goes (IsApplyOf asked held) b n [] [] (Ok x) in
      subst P (sym same) (
        output,
        (made, right),
        record { written = output; appended = shown; whole = sym (append-nil output) },
      )
  goes_shown (Err fault) (is, begins) =
      let P : Fault → Type 0 = λ f. Goes (IsApplyOf asked held) b n [] [] (Err f) in
      subst P (sym is) (ended end output, (made, right), begins)

-- and what the file has then
pub file_touched : (asked : ApplyOptions) (held : Supply) (Same : Type 0) (b n c m : Option (List ℕ))
    (end : End) (output : List ℕ) (made : Option (List ℕ)) (result : Result End Fault)
    → IsApplyWith asked held made (ended end output) → Shows end output b n result
    → Takes Same b n c m output made result
    → (Same × LeavesFor asked held b n (status_of result))
    ⊎ TakesMade asked held b n c m (status_of result)
file_touched asked held Same b n c m end output None (Ok e) right (same, shown) takes =
    inl (takes, inr (inr (ended end output, right, ap end_status same, shown)))
file_touched asked held Same b n c m end output None (Err fault) right (is, begins) takes =
    inl (takes, inl (ap fault_status is))
file_touched asked held Same b n c m end output (Some text) (Ok e) right (same, shown) takes =
    inr (record {
      answer = ended end output;
      made = text;
      right = right;
      shown = shown;
      taken = inl (ap end_status same, takes);
    })
file_touched asked held Same b n c m end output (Some text) (Err fault) right (is, begins)
    (inl same) = inl (same, inl (ap fault_status is))
file_touched asked held Same b n c m end output (Some text) (Err fault) right (is, begins)
    (inr (shown, part)) =
    inr (record {
      answer = ended end output;
      made = text;
      right = right;
      shown = shown;
      taken = inr (ap fault_status is, part);
    })
