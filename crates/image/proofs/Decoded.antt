-- What decoding answers, by the two laws of reading.
use Rattle.std.proofs.Common.{◌≡◌, ◌⊎◌, List, [], ◌++◌, ℕ, refl, Result, Ok, Err, inl, inr, sym, ap, subst, ◌∙◌}
use Rattle.std.specs.Prelude.{IfOk, MatchResult}
use Rattle.std.proofs.lemmas.List.{append-nil}
use Rattle.image.specs.declared.edition.Edition.{Edition}
use Rattle.image.specs.declared.edition.Edition.TheVariants.{Former, Current}
use Rattle.image.specs.declared.fault.ImageFault.{ImageFault}
use Rattle.image.specs.declared.fault.ImageFault.TheVariants.{Memory}
use Rattle.image.specs.Reading.{set_at, set_in, IsFaultOf}
use Rattle.image.specs.Spelling.{HasSpelling, Spells, spelling}
use Rattle.image.specs.Laws.{BytesSpellOne, EditionsOfImages, FaultIsOne, ImagesAreFaultless, IsSpelledOnce, NoImageBeginsAnother}
use Rattle.image.proofs.Numbers.{ok_is}
use Rattle.image.proofs.Reread.{read_of_spelling, set_again}
use Rattle.image.proofs.Taken.{IsBytes, spelled}
use Rattle.model.specs.Set.{Set}
use Rattle.model.specs.Sound.{IsSound}

-- the set that was read, or the first fault
abbrev pub Reads : List ℕ → Result Set ImageFault → Type 0
Reads bytes result =
    MatchResult result (λ set. set_in bytes ≡ Ok set)
    (λ fault. (fault ≡ Memory) ⊎ IsFaultOf bytes fault)

pub is_spelled : (bytes : List ℕ) (result : Result Set ImageFault) → IsBytes bytes
    → Reads bytes result → IfOk result (λ set. Spells bytes set)
is_spelled bytes (Ok set) fits read = spelled bytes set fits read
is_spelled bytes (Err fault) fits read = tt

pub images_are_faultless : ImagesAreFaultless
images_are_faultless bytes set fault sound spells (inl said) =
    let back : set_in bytes ≡ Ok set = read_of_spelling bytes set sound spells in
    absurd cc
images_are_faultless bytes set fault sound spells (inr other) =
    let back : set_in bytes ≡ Ok set = read_of_spelling bytes set sound spells in
    let same : other.1.0 ≡ set = ok_is other.1.0 set (sym other.1.1 ∙ back) in
    absurd (other.1.2 (subst IsSound (sym same) sound))

pub is_read : (bytes : List ℕ) (set : Set) (result : Result Set ImageFault) → IsSound set
    → Spells bytes set → Reads bytes result
    → MatchResult result (λ found. found ≡ set) (λ fault. fault ≡ Memory)
is_read bytes set (Ok found) sound spells read =
    let back : set_in bytes ≡ Ok set = read_of_spelling bytes set sound spells in
    ok_is found set (sym read ∙ back)
is_read bytes set (Err fault) sound spells (inl memory) = memory
is_read bytes set (Err fault) sound spells (inr said) =
    absurd (images_are_faultless bytes set fault sound spells said)

pub bytes_spell_one : BytesSpellOne
bytes_spell_one bytes set other sound sound_too spells spells_too =
    let first : set_in bytes ≡ Ok set = read_of_spelling bytes set sound spells in
    let second : set_in bytes ≡ Ok other = read_of_spelling bytes other sound_too spells_too in
    ok_is set other (sym first ∙ second)

pub no_image_begins_another : NoImageBeginsAnother
no_image_begins_another bytes others rest set other sound sound_too spells spells_too e =
    let first : set_at (bytes ++ rest) ≡ Ok (set, rest) = set_again bytes set rest sound spells in
    let second : set_at others ≡ Ok (other, []) =
    ap set_at (sym (append-nil others)) ∙ set_again others other [] sound_too spells_too in
    let both : Set × List ℕ = (set, rest) in
    let alone : Set × List ℕ = (other, []) in
    let same : both ≡ alone = ok_is both alone (sym first ∙ ap set_at e ∙ second) in
    (ap (λ x. x.0) same, ap (λ x. x.1) same)

spelled_once : (edition : Edition) (set : Set) → HasSpelling edition set
    → IsSpelledOnce edition set
spelled_once edition set has =
    (spelling edition set, (has, refl), λ others spells. spells.1)

pub editions_of_images : EditionsOfImages
editions_of_images set = (
  spelled_once Current set tt,
  (λ once. once.1.0, λ is. spelled_once Former set is),
  λ bytes spells. spells.0,
)

err_is : {A : Type 0} (said : Result A ImageFault) (fault other : ImageFault) → said ≡ Err fault
    → said ≡ Err other → fault ≡ other
err_is said fault other e f = cc

pub fault_is_one : FaultIsOne
fault_is_one bytes fault other (inl said) (inl said_too) =
    err_is (set_in bytes) fault other said said_too
fault_is_one bytes fault other (inl said) (inr unsound) =
    let there = unsound.1.1 in absurd cc
fault_is_one bytes fault other (inr unsound) (inl said) =
    let there = unsound.1.1 in absurd cc
fault_is_one bytes fault other (inr unsound) (inr unsound_too) = unsound.0 ∙ sym unsound_too.0
