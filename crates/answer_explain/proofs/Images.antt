-- The image of a set, which has some bytes, and which a rewrite leaves as it is.
use Rattle.std.proofs.Common.{◌≡◌, ◌∙◌, ℕ, List, [], Ok, Err, inr, ap, refl, subst, sym}
use Rattle.std.specs.Global.{Vec}
use Rattle.image.specs.declared.edition.Edition.TheVariants.{Current}
use Rattle.image.specs.Laws.{BytesSpellOne, ImagesAreFaultless}
use Rattle.image.specs.Spelling.{spelling}
use Rattle.model.specs.Set.{Set}
use Rattle.model.specs.Sound.{IsSound}
use Rattle.drvhost_devices.specs.declared.fault.End.TheVariants.{Complete}
use Rattle.drvhost_devices.specs.Answer.{Answer, IsRewrite, IsRewritten, ended}
use Rattle.drvhost_devices.specs.Device.{Supply}
use Rattle.drvhost_devices.specs.Ends.{IsRewriteOf}
use Rattle.drvhost_devices.specs.Fault.{ReadsImage, ReadsSet}
use Rattle.answer_explain.specs.Laws.{RewritingIsStable}
use Rattle.drvhost_devices.proofs.Doing.{right_on}

-- the image of the set that a source has
pub image_read : (held : Supply) (set : Set) (image : Vec ℕ) → ReadsSet held (Ok set) → IsSound set
    → image.items ≡ spelling Current set → ReadsImage held (Ok image)
image_read held set image read sound is =
    right_on IsRewritten held set read (ended Complete image.items) (sound, ap (ended Complete) is)

-- an image has some bytes
pub image_some : (held : Supply) (answer : Answer) → IsRewriteOf held answer → answer.status ≡ 0
    → answer.output ≡ [] → ⊥
image_some held answer (bytes, holds, (Ok set, says, right)) zero none =
    let no : spelling Current set ≡ [] = sym (ap (λ a. a.output) right.1) ∙ none in cc
image_some held answer (bytes, holds, (Err line, says, right)) zero none =
    let no : 2 ≡ 0 = sym (ap (λ a. a.status) right) ∙ zero in cc

module _ (spell : BytesSpellOne) (faultless : ImagesAreFaultless) where
  -- the image of a set is rewritten as it is
  image_again : (set : Set) (other : Answer) → IsSound set
      → IsRewrite (spelling Current set) other → other ≡ ended Complete (spelling Current set)
  image_again set other sound (Ok found, says, right) =
      let same : found ≡ set =
      spell (spelling Current set) found set says.0 sound says.1 (inr (tt, refl)) in
      right.1 ∙ ap (λ x. ended Complete (spelling Current x)) same
  image_again set other sound (Err line, says, right) =
      absurd (faultless (spelling Current set) set says.0 sound (inr (tt, refl)) says.1)

  pub stable : RewritingIsStable
  stable bytes one other (Ok set, says, right) done again =
      let P : List ℕ → Type 0 = λ b. IsRewrite b other in
      image_again set other right.0 (subst P (ap (λ a. a.output) right.1) again) ∙ sym right.1
  stable bytes one other (Err line, says, right) done again =
      let no : 2 ≡ 0 = sym (ap (λ a. a.status) right) ∙ done in cc
