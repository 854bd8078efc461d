-- Words that mean the world of a run show it.
use Rattle.std.proofs.Common.{◌≡◌, ℕ, [], length, ap, sym, ◌∙◌, subst}
use Rattle.model.specs.Run.{run}
use Rattle.model.specs.Set.{Set}
use Rattle.laws_slots.specs.WordsDone.{FreeWordsMeanTheBeginning}
use Rattle.laws_slots.specs.Reads.{WordsMean}
use Rattle.laws_slots.specs.ShownWords.{WordsShowWhatTheyMean, shown_words}
use Rattle.laws_slots.specs.WordEvents.{opening_words}
use Rattle.laws_slots.specs.Words.{WordWorld}
use Rattle.machine.specs.Runs.{IsMeant, IsShown}

-- before the first event
pub opening_meant : FreeWordsMeanTheBeginning → (set given : Set) (v : WordWorld) (threads : ℕ)
    → given ≡ set → v ≡ opening_words (length given.devices) threads 0
    → WordsMean set v (run set threads []).world
opening_meant law set given v threads same is =
    let begun : v ≡ opening_words (length set.devices) threads 0 =
    is ∙ ap (λ (given : Set). opening_words (length given.devices) threads 0) same in
    subst (λ (v : WordWorld). WordsMean set v (run set threads []).world) (sym begun)
    (law set threads 0)

pub begun_meant : (set : Set) (v : WordWorld) (threads : ℕ)
    → WordsMean set v (run set threads []).world → IsMeant set v
begun_meant set v threads means = record { threads = threads; events = []; means = means }

-- words that mean the world of some run show that
pub run_shown : WordsShowWhatTheyMean → (set : Set) (v : WordWorld) → IsMeant set v
    → IsShown (shown_words set v)
run_shown law set v is =
    record {
      threads = is.threads;
      events = is.events;
      shows = law set v (run set is.threads is.events).world is.means;
    }
