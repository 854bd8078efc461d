-- A routine that has gone on by itself has made steps of its thread.
use Rattle.std.proofs.Common.{◌≡◌, ◌<◌, ◌+◌, ℕ, zero, suc, refl, arith, subst}
use Rattle.model.specs.declared.event.Event.TheVariants.{Step}
use Rattle.model.specs.declared.event.Reply.TheVariants.{Stepped}
use Rattle.model.specs.Set.{Set}
use Rattle.model.specs.Sound.{IsSound}
use Rattle.model.specs.Typable.{IsTypable}
use Rattle.machine.proofs.Applying.{applies_shown, meant_after}
use Rattle.machine.proofs.Stepping.{none_made, stepped_on}
use Rattle.machine.specs.Runs.{IsMeant}
use Rattle.machine.specs.Steps.{Stepping}
use Rattle.laws_slots.specs.WordsDone.{WordEventsShowRuns}
use Rattle.laws_slots.specs.WordsFit.{WordEventFits, WordEventsFit}
use Rattle.laws_slots.specs.ShownWords.{WordsMeanWhatTheyShow, WordsShowWhatTheyMean, shown_words}
use Rattle.laws_slots.specs.Words.{WordWorld}
use Rattle.machine.specs.GoingOn.{after, reply_after}

module _ (law : WordEventsShowRuns) (same : WordsMeanWhatTheyShow) (set : Set)
    (typable : IsTypable set) (sound : IsSound set)
    (v : WordWorld) (t : ℕ) (is : IsMeant set v) where
  -- after so many steps the words still mean some run's world
  pub still_meant : (k : ℕ) → IsMeant set (after set v t k)
  still_meant zero = is
  still_meant (suc k) =
      meant_after law same set typable sound (after set v t k) (after set v t (suc k)) (Step t)
      (reply_after set v t k) (still_meant k) refl

  -- so that each further step finds what it looks for
  pub all_fit : WordEventsFit → (k : ℕ) → WordEventFits set (after set v t k) (Step t)
  all_fit fit k =
      fit set typable sound (still_meant k).threads (still_meant k).events (after set v t k)
      (Step t) (still_meant k).means

  pub steps_made : WordsShowWhatTheyMean → (k : ℕ)
      → ((j : ℕ) → j < k → reply_after set v t j ≡ Stepped)
      → Stepping (shown_words set v) t k (shown_words set (after set v t k))
  steps_made show zero replies = none_made (shown_words set v) t
  steps_made show (suc k) replies =
      let next : k + 1 ≡ suc k = omega arith in
      subst (λ (n : ℕ). Stepping (shown_words set v) t n (shown_words set (after set v t (suc k))))
      next
      (stepped_on (shown_words set v) (shown_words set (after set v t k))
      (shown_words set (after set v t (suc k))) t k (reply_after set v t k)
      (steps_made show k (λ j low. replies j (omega (arith, low))))
      (applies_shown law same set typable sound (after set v t k) (after set v t (suc k)) (Step t)
      (reply_after set v t k) (still_meant k) refl show)
      (replies k (omega arith)))
