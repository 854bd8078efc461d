-- A cancel word that a routine finds set names the routine's device: it has a register at the stage
-- Armed or Taken for the packet, which the word backs, or a cancel routine that was called; and
-- there is none of these where the word is set, since a packet has one holder.
use Rattle.laws_runs.proofs.Claims.Tops.{named_some, top_there}
use Rattle.laws_runs.proofs.Common.{arith, refl, ◌∙◌, List, Some, length, true, ℕ, ◌+◌, ◌≡◌, ◌≤◌, is_at, is_exchanged, kind_of, Set, Entry, World, register, Kind, Queued, Armed, Taken, QueueName, Activation, Armer, Frame, Routine, Packet, States, IsGood, state_of, Standing}
use Rattle.laws_runs.proofs.Claims.Balance.{at_same, claim_le}
use Rattle.laws_runs.proofs.Claims.Sums.{Claimed, names_on}
use Rattle.laws_runs.proofs.Claims.WordSteps.{word_names}
use Rattle.laws_runs.proofs.Holders.Counts.{reads_ref}
use Rattle.laws_runs.proofs.Holders.Sums.{Held}
use Rattle.laws_runs.proofs.Past.LivePackets.{find, find_place}
use Rattle.laws_runs.proofs.Room.Routines.{NamesDevice}
use Rattle.laws_runs.proofs.Runs.Events.{StepsFrame}
use Rattle.laws_runs.proofs.Steps.Comes.{Reads}

module _ (set : Set) (states : States) (w : World) (past : List Entry) (good : IsGood set states)
    (stands : Standing set states w past) (held : Held set states w)
    (claimed : Claimed set states w)
  where
    backed_device : (d : ℕ) (q : QueueName) (n : ℕ) (p : Packet) (armer : Armer)
        → find w.shared.packets n ≡ Some p
        → p.armer ≡ Some armer
        → 1 ≤ names_on states (is_at Armed q) d n w.threads
        + names_on states (is_at Taken q) d n w.threads
        → armer.device ≡ d
    backed_device d q n p armer there is some =
        (word_names set states w held claimed d q n p armer (find_place w.shared.packets n ∙ there)
        is some).0

    module _ (t : ℕ) (h : StepsFrame set w t) (a : Activation) (top : h.frame ≡ Routine a) where
      exchanged_device : (k : Kind) (r n : ℕ) (p : Packet) (armer : Armer)
          → kind_of (state_of states a) r ≡ k → is_exchanged k ≡ true → Reads w.shared a r n
          → find w.shared.packets n ≡ Some p → p.armer ≡ Some armer → armer.device ≡ a.device
      exchanged_device (Queued q stage) r n p armer kind is reads there word =
          let some : 1 ≤ names_on states (is_at stage q) a.device n w.threads =
          named_some states w t (length h.below) a (top_there set w t h a top)
          (is_at stage q) refl r n
          (rw kind (at_same stage q)) (reads_ref w.shared (register a r) n reads) in
          backed_device a.device q n p armer there word (omega (
            arith,
            claim_le stage is (λ at. names_on states (is_at at q) a.device n w.threads),
          ))
      exchanged_device _ r n p armer kind is reads there word = cc

    frame_device : (t : ℕ) (h : StepsFrame set w t) (f : Frame) → h.frame ≡ f
        → NamesDevice states w.shared f
    frame_device t h (Routine a) top =
        λ r n p armer is reads there word.
        exchanged_device t h a top (kind_of (state_of states a) r) r n p armer refl is reads there
        word
    frame_device t h _ top = tt

    pub names_device : (t : ℕ) (h : StepsFrame set w t) → NamesDevice states w.shared h.frame
    names_device t h = frame_device t h h.frame refl
