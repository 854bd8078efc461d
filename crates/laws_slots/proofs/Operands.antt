-- Registers that words are read as: where an instruction finds a number, a key or a status, the
-- word is that.
use Rattle.std.proofs.Common.{◌≡◌, ℕ, List, Some, refl, sym, ◌∙◌, ap, subst}
use Rattle.model.specs.declared.status.Status.{Status}
use Rattle.model.specs.declared.status.Status.TheVariants.{Success, Pending, Busy, Unsuccessful, InvalidParameter, InvalidDeviceRequest, Cancelled}
use Rattle.model.specs.declared.world.Activation.{Activation}
use Rattle.model.specs.declared.world.Value.{Value}
use Rattle.model.specs.declared.world.Value.TheVariants.{Blank, Num, Ref, Status as StatusValue}
use Rattle.model.specs.Status.{status_code}
use Rattle.model.specs.World.{register}
use Rattle.laws_slots.specs.Fits.{HasKey, HasNumber, HasStatus}
use Rattle.laws_slots.specs.Slots.{SlotShared}
use Rattle.laws_slots.specs.SlotStep.{key_at, key_read, number_at, number_read, status_read}
use Rattle.laws_slots.specs.declared.activation.WordActivation.{WordActivation}
use Rattle.laws_slots.specs.Reads.{Paired, ReadsValue, in_words}
use Rattle.laws_slots.specs.Words.{coded_status, status_of_word, status_or, word}
use Rattle.laws_slots.proofs.Pairs.{paired_index}

-- each status is read back
pub coded : (status : Status) → coded_status (status_code status) ≡ Some status
coded Success = refl
coded Pending = refl
coded Busy = refl
coded Unsuccessful = refl
coded InvalidParameter = refl
coded InvalidDeviceRequest = refl
coded Cancelled = refl

module _ (a : Activation) (words : List ℕ) (h : Paired ReadsValue a.registers words) where
  abbrev pub b : WordActivation
  b = in_words a words

  pub register_reads : (r : ℕ) → ReadsValue (register a r) (word b r)
  register_reads r = paired_index ReadsValue a.registers words r Blank 0 tt h

  reads_as : (r : ℕ) (v : Value) → register a r ≡ v → ReadsValue v (word b r)
  reads_as r v is = subst (λ (x : Value). ReadsValue x (word b r)) is (register_reads r)

  pub number_same : (r : ℕ) → HasNumber a r → number_at a r ≡ word b r
  number_same r has = ap number_read has.is ∙ sym (reads_as r (Num has.number) has.is)

  pub status_is : (r : ℕ) (has : HasStatus a r) → word b r ≡ status_code has.status
  status_is r has = reads_as r (StatusValue has.status) has.is

  pub status_same : (r : ℕ) → HasStatus a r → status_read (register a r) ≡ status_of_word (word b r)
  status_same r has =
      ap status_read has.is
      ∙ sym (ap status_or (ap coded_status (status_is r has) ∙ coded has.status))

  module _ (s : SlotShared) where
    pub key_is : (r : ℕ) (has : HasKey s a r) → word b r ≡ has.key
    key_is r has = reads_as r (Ref has.key) has.is

    pub key_same : (r : ℕ) → HasKey s a r → key_at a r ≡ word b r
    key_same r has = ap key_read has.is ∙ sym (key_is r has)
