-- What is told of words is told of each run that they show.
use Rattle.std.proofs.Common.{◌≡◌, ℕ, List, ◌∙◌}
use Rattle.model.specs.declared.event.Event.{Event}
use Rattle.model.specs.Machine.{Shows}
use Rattle.model.specs.Run.{run}
use Rattle.model.specs.Set.{Set}
use Rattle.model.specs.Shown.{ShowsWorld}
use Rattle.model.specs.Sound.{IsSound}
use Rattle.model.specs.Typable.{IsTypable}
use Rattle.model.specs.View.{due_at, due_view, packet_at, packet_view, thread_at}
use Rattle.laws_runs.specs.ArrivingStates.{States}
use Rattle.laws_runs.specs.Holder.{HasOneHolder}
use Rattle.laws_slots.specs.ShownSlots.{SlotsShowWhatTheyMean, meant, meant_shared, shown_slots}
use Rattle.machine.proofs.Telling.{tells_due, tells_packet, tells_thread}
use Rattle.machine.specs.Runs.{IsMeant}
use Rattle.laws_slots.specs.Reads.{WordsMean}
use Rattle.laws_slots.specs.ShownWords.{WordsMeanWhatTheyShow, shown_words}
use Rattle.laws_slots.specs.WordViews.{TellsAsSlots, WordsTellAsSlots, word_thread_at}
use Rattle.laws_slots.specs.Words.{WordWorld}

module _ (same : WordsMeanWhatTheyShow) (slots : SlotsShowWhatTheyMean) (tell : WordsTellAsSlots)
    (set : Set) (typable : IsTypable set) (sound : IsSound set) (w : WordWorld)
    (is : IsMeant set w) (threads : ℕ) (events : List Event)
    (shows : Shows (shown_words set w) threads events) where
  mean : WordsMean set w (run set threads events).world
  mean = same set typable sound is.threads threads is.events events w is.means shows

  shown : ShowsWorld (shown_slots set mean.slots) (run set threads events).world
  shown = slots set mean.slots (run set threads events).world mean.means

  told : TellsAsSlots mean.slots w
  told = tell mean.slots w mean.reads

  pub words_thread : (states : States) → HasOneHolder set states threads events → (t : ℕ)
      → word_thread_at w t ≡ thread_at (run set threads events).world t
  words_thread states holder t =
      told.threads t
      ∙ tells_thread set (meant mean.slots) threads events shown states holder t

  pub words_packet : (n : ℕ)
      → packet_view (meant_shared w.shared) n ≡ packet_at (run set threads events).world n
  words_packet n = told.packets n ∙ tells_packet set (meant mean.slots) threads events shown n

  pub words_due : (d : ℕ)
      → due_view (meant_shared w.shared) d ≡ due_at (run set threads events).world d
  words_due d = told.due d ∙ tells_due set (meant mean.slots) threads events shown d
