-- The words that are lent of a thread, and the slots that are told of.
use Rattle.std.proofs.Common.{◌≡◌, ◌<◌, ℕ, List, Option, None, Some, map, refl, sym, ◌∙◌, subst}
use Rattle.std.specs.Prelude.{slice_get, slice_index_or}
use Rattle.model.specs.declared.event.Event.{Event}
use Rattle.model.specs.declared.world.Activation.{Activation}
use Rattle.model.specs.declared.world.Value.{Value}
use Rattle.model.specs.declared.world.Value.TheVariants.{Blank, Num, Ref, Status as StatusValue}
use Rattle.model.specs.Machine.{Shows}
use Rattle.model.specs.Run.{run}
use Rattle.model.specs.Set.{Set}
use Rattle.model.specs.Shown.{Reads, Shown}
use Rattle.model.specs.Sound.{IsSound}
use Rattle.model.specs.Typable.{IsTypable}
use Rattle.model.specs.World.{Shared, World, register}
use Rattle.machine.proofs.LiveRegisters.{live_at}
use Rattle.machine.proofs.OverSlots.{are_slots, live_here, named_here}
use Rattle.machine.proofs.Registers.{StandsOn, registers_shown, stands_on, status_is, threads_none, unmapped}
use Rattle.machine.proofs.Whole.{run_shown}
use Rattle.machine.specs.Registers.{LendsWords, WordIs, WordsOfRoutine, routine_at}
use Rattle.machine.specs.Runs.{IsMeant, IsShown}
use Rattle.machine.specs.Slots.{HasSlots, IsLive, number_at}
use Rattle.laws_runs.specs.Rules.{AcceptedRunsKeepTheRules}
use Rattle.laws_slots.proofs.Keys.{Keyed}
use Rattle.laws_slots.proofs.Laws.{keyed_before}
use Rattle.laws_slots.specs.Rep.{named}
use Rattle.laws_slots.specs.Slots.{SlotShared}
use Rattle.laws_slots.specs.Reads.{WordsMean}
use Rattle.laws_slots.specs.ShownWords.{TellsRegisters, WordsMeanWhatTheyShow, WordsShowWhatTheyMean, WordsTellRegisters, shown_word, shown_words, words_at}
use Rattle.laws_slots.specs.Words.{WordWorld}

-- a word by what is shown of it
word_is : (name : ℕ → ℕ) (m : Shown) (s : Shared) (word : ℕ) (v : Value)
    → Reads (shown_word name word) v
    → ((n : ℕ) → v ≡ Ref n → name word ≡ n → (number_at m word ≡ Some n) × IsLive s n)
    → WordIs m s word v
word_is name m s word Blank reads packet = tt
word_is name m s word (Num n) reads packet = let same : word ≡ n = cc in same
word_is name m s word (StatusValue status) reads packet = status_is word status reads
word_is name m s word (Ref n) reads packet = let same : name word ≡ n = cc in packet n refl same

module _ (same : WordsMeanWhatTheyShow) (show : WordsShowWhatTheyMean) (set : Set)
    (typable : IsTypable set) (sound : IsSound set) (w : WordWorld) (is : IsMeant set w) where
  abbrev m : Shown
  m = shown_words set w

  abbrev name : ℕ → ℕ
  name = named w.shared

  mean : (threads : ℕ) (events : List Event) → Shows m threads events
      → WordsMean set w (run set threads events).world
  mean threads events shows =
      same set typable sound is.threads threads is.events events w is.means shows

  module _ (tell : WordsTellRegisters) (rules : AcceptedRunsKeepTheRules) (t threads : ℕ)
      (events : List Event) (shows : Shows m threads events) where
    abbrev world : World
    world = (run set threads events).world

    words_are : (o : Option Activation) → routine_at world t ≡ o
        → WordsOfRoutine m world.shared o (words_at w t)
    words_are None none =
        unmapped (map (shown_word name)) (words_at w t)
        (sym (registers_shown set w t)
        ∙ threads_none set world.shared m.threads world.threads t shows.threads none)
    words_are (Some a) stands =
        let on : StandsOn world t a =
        stands_on world t (slice_get world.threads t) a refl stands in
        let told : TellsRegisters set w a (words_at w t) =
        tell set w world (mean threads events shows) t on.thread a on.there on.top in
        record {
          found = told.found;
          is = told.is;
          all = told.all;
          tells = λ r less may.
              word_is name m world.shared (slice_index_or told.found r 0) (register a r)
              (told.tells r less may)
              (λ n refers names.
              let live : IsLive world.shared n =
              live_at set threads events (rules set typable sound threads events).kinds t
              on.thread a on.there on.top r n may refers in (
                named_here set w (slice_index_or told.found r 0) n names
                    (subst (λ (i : ℕ). n < i) (sym shows.issued) live.0),
                live,
              ));
        }

  pub words_lent : WordsTellRegisters → AcceptedRunsKeepTheRules → (t : ℕ)
      → LendsWords m t (words_at w t)
  words_lent tell rules t =
      record {
        shown = run_shown show set w is;
        tells = λ threads events shows.
            words_are tell rules t threads events shows
            (routine_at (run set threads events).world t) refl;
      }

  keyed : (threads : ℕ) (events : List Event) → Shows m threads events
      → Keyed name w.shared (run set threads events).world.shared
  keyed threads events shows =
      let its : WordsMean set w (run set threads events).world = mean threads events shows in
      subst (λ (v : SlotShared). Keyed (named v) v (run set threads events).world.shared)
      (sym its.reads.shared)
      (keyed_before set typable sound threads events its.slots its.means)

  pub has_slots : HasSlots m
  has_slots =
      let shown : IsShown m = run_shown show set w is in
      record {
        shown = shown;
        slots =
            are_slots set w (run set shown.threads shown.events).world.shared
            (keyed shown.threads shown.events shown.shows) shown.shows.packets;
        live = λ slot n h threads events shows.
            live_here set w (run set threads events).world.shared
            (keyed threads events shows) slot n h;
      }
