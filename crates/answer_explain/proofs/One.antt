-- Two answers for the same bytes are equal.
use Rattle.std.proofs.Common.{◌≡◌, ◌∙◌, ℕ, Bool, true, false, List, Result, Ok, Err, inl, inr, ap, sym, subst}
use Rattle.asm.specs.declared.fault.AsmFault.{AsmFault}
use Rattle.image.specs.Laws.{BytesSpellOne, FaultIsOne, ImagesAreFaultless}
use Rattle.model.specs.Set.{Set}
use Rattle.report.specs.Verdict.{refusal_line}
use Rattle.verifier.specs.FirstFault.{OneIsFirst, TypableHasNone}
use Rattle.drvhost_devices.specs.declared.fault.End.TheVariants.{Complete, Stopped}
use Rattle.drvhost_devices.specs.declared.verification.Verification.{Verification}
use Rattle.drvhost_devices.specs.declared.verification.Verification.TheVariants.{Required, Skipped}
use Rattle.asm.specs.Reading.{set_in}
use Rattle.interleave.specs.Listing.{schedule_in}
use Rattle.report.specs.Fault.{image_fault_line, text_fault_line}
use Rattle.drvhost_devices.specs.Answer.{Answer, ImageSays, IsCheck, IsIfAccepted, IsListing, IsOfFile, IsOfSaid, IsRefused, IsRewrite, IsRewritten, IsTraced, IsVerdict, SaysAs, TextSays, acceptance, ended, is_image, ran}
use Rattle.drvhost_devices.specs.Device.{Bytes}
use Rattle.drvhost_devices.specs.Ends.{IsRunOf, IsTrace}

refused_once : OneIsFirst → (set : Set) (one other : Answer) → IsRefused set one
    → IsRefused set other → one ≡ other
refused_once alone set one other a b =
    a.is ∙ ap (λ r. ended Stopped (refusal_line r)) (alone set a.refusal b.refusal a.first b.first)
    ∙ sym b.is

-- what a set that has to be accepted is answered with, where a run of it has one answer
accepted_once : OneIsFirst → TypableHasNone → (IsRun : Set → Answer → Type 0)
    → ((set : Set) (one other : Answer) → IsRun set one → IsRun set other → one ≡ other)
    → (set : Set) (one other : Answer) → IsIfAccepted IsRun set one → IsIfAccepted IsRun set other
    → one ≡ other
accepted_once alone none IsRun once set one other (inl a) (inl b) = once set one other a.1 b.1
accepted_once alone none IsRun once set one other (inl a) (inr b) =
    absurd (none set b.refusal b.first a.0)
accepted_once alone none IsRun once set one other (inr a) (inl b) =
    absurd (none set a.refusal a.first b.0)
accepted_once alone none IsRun once set one other (inr a) (inr b) =
    refused_once alone set one other a b

-- what `check` answers for a set
abbrev IsAcceptance : Set → Answer → Type 0
IsAcceptance set answer = answer ≡ ended Complete (acceptance set)

judged_once : OneIsFirst → TypableHasNone → (set : Set) (one other : Answer)
    → IsVerdict set one → IsVerdict set other → one ≡ other
judged_once alone none set one other a b =
    accepted_once alone none IsAcceptance (λ _ _ _ c d. c ∙ sym d) set one other a b

-- what `trace` answers for it, where a run of the set has one answer
traced_once : OneIsFirst → TypableHasNone → (v : Verification) (IsRun : Set → Answer → Type 0)
    → ((set : Set) (one other : Answer) → IsRun set one → IsRun set other → one ≡ other)
    → (set : Set) (one other : Answer) → IsTraced v IsRun set one → IsTraced v IsRun set other
    → one ≡ other
traced_once alone none Required IsRun once set one other a b =
    accepted_once alone none IsRun once set one other a b
traced_once alone none Skipped IsRun once set one other a b = once set one other a b

-- what is right for a set or a fault, where a set has one right answer
said_once : (R : Set → Answer → Type 0)
    → ((set : Set) (one other : Answer) → R set one → R set other → one ≡ other)
    → (said : Result Set (List ℕ)) (one other : Answer) → IsOfSaid R said one
    → IsOfSaid R said other → one ≡ other
said_once R once (Ok set) one other a b = once set one other a b
said_once R once (Err line) one other a b = a ∙ sym b

-- a run by a schedule has one answer
run_once : (schedule : List ℕ) (set : Set) (one other : Answer) → IsRunOf (Bytes schedule) set one
    → IsRunOf (Bytes schedule) set other → one ≡ other
run_once schedule set one other (text, is, a) (other_text, other_is, b) =
    a ∙ ap (λ x. ran set (schedule_in x)) (is ∙ sym other_is) ∙ sym b

-- a file says one thing
error_of : {A : Type 0} (r : Result A AsmFault) (one other : AsmFault) → r ≡ Err one → r ≡ Err other
    → one ≡ other
error_of r one other a b = let both : Err one ≡ Err other = sym a ∙ b in cc

named_of : (r : Result Set AsmFault) (one other : Set) → r ≡ Ok one → r ≡ Ok other → one ≡ other
named_of r one other a b = let both : Ok one ≡ Ok other = sym a ∙ b in cc

text_once : (text : List ℕ) (one other : Result Set (List ℕ)) → TextSays text one
    → TextSays text other → one ≡ other
text_once text (Ok set) (Ok other) a b = ap Ok (named_of (set_in text) set other a b)
text_once text (Ok set) (Err line) a b = let no : Ok set ≡ Err b.0 = sym a ∙ b.1 in cc
text_once text (Err line) (Ok set) a b = let no : Ok set ≡ Err a.0 = sym b ∙ a.1 in cc
text_once text (Err line) (Err other) a b =
    ap Err
    (a.2 ∙ ap text_fault_line (error_of (set_in text) a.0 b.0 a.1 b.1) ∙ sym b.2)

module _ (spell : BytesSpellOne) (faultless : ImagesAreFaultless) (single : FaultIsOne) where
  image_once : (bytes : List ℕ) (one other : Result Set (List ℕ)) → ImageSays bytes one
      → ImageSays bytes other → one ≡ other
  image_once bytes (Ok set) (Ok other) a b = ap Ok (spell bytes set other a.0 b.0 a.1 b.1)
  image_once bytes (Ok set) (Err line) a b = absurd (faultless bytes set b.0 a.0 a.1 b.1)
  image_once bytes (Err line) (Ok set) a b = absurd (faultless bytes set a.0 b.0 b.1 a.1)
  image_once bytes (Err line) (Err other) a b =
      ap Err (a.2 ∙ ap image_fault_line (single bytes a.0 b.0 a.1 b.1) ∙ sym b.2)

  says_once : (image : Bool) (bytes : List ℕ) (one other : Result Set (List ℕ))
      → SaysAs image bytes one → SaysAs image bytes other → one ≡ other
  says_once true bytes one other a b = image_once bytes one other a b
  says_once false bytes one other a b = text_once bytes one other a b

  -- so there is one answer
  file_once : (R : Set → Answer → Type 0)
      → ((set : Set) (one other : Answer) → R set one → R set other → one ≡ other)
      → (bytes : List ℕ) (one other : Answer) → IsOfFile R bytes one → IsOfFile R bytes other
      → one ≡ other
  file_once R once bytes one other a b =
      said_once R once b.0 one other
      (subst (λ (said : Result Set (List ℕ)). IsOfSaid R said one)
      (says_once (is_image bytes) bytes a.0 b.0 a.1 b.1) a.2) b.2

  pub check_once : OneIsFirst → TypableHasNone → (set : List ℕ) (one other : Answer)
      → IsCheck set one → IsCheck set other → one ≡ other
  check_once alone none set one other a b =
      file_once IsVerdict (judged_once alone none) set one other a b

  pub trace_once : OneIsFirst → TypableHasNone → (v : Verification) (set schedule : List ℕ)
      (one other : Answer) → IsTrace v set schedule one → IsTrace v set schedule other → one ≡ other
  trace_once alone none v set schedule one other a b =
      let IsRun : Set → Answer → Type 0 = IsRunOf (Bytes schedule) in
      let R : Set → Answer → Type 0 = IsTraced v IsRun in
      let P : List ℕ → Type 0 = λ bytes. IsOfFile R bytes one in
      file_once R (traced_once alone none v IsRun (run_once schedule)) b.0 one other
      (subst P (a.1 ∙ sym b.1) a.2) b.2

  pub list_once : (set : List ℕ) (one other : Answer) → IsOfFile IsListing set one
      → IsOfFile IsListing set other → one ≡ other
  list_once set one other a b = file_once IsListing (λ _ _ _ c d. c ∙ sym d) set one other a b

  pub rewrite_once : (set : List ℕ) (one other : Answer) → IsRewrite set one → IsRewrite set other
      → one ≡ other
  rewrite_once set one other a b =
      file_once IsRewritten (λ _ _ _ c d. c.1 ∙ sym d.1) set one other a b
