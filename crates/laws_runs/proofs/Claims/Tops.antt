-- A register of a routine's frame, on top of its thread or below, is counted among all registers of
-- its kind.
use Rattle.laws_runs.proofs.Common.{ap, arith, refl, ◌∙◌, eq-eqb, Bool, List, Some, false, length, nat_eq, slice_get, true, ℕ, ◌≡◌, ◌≤◌, kind_of, frames_on, Set, World, register, Kind, BlankKind, Activation, Frame, Routine, Ref, States, named_as, named_in, get_at_length, state_of}
use Rattle.laws_runs.proofs.Claims.Sums.{frame_names, names_on}
use Rattle.laws_runs.proofs.Holders.Rights.{named_among}
use Rattle.laws_runs.proofs.Holders.Sums.{frame_le}
use Rattle.laws_runs.proofs.Runs.Events.{StepsFrame}
use Rattle.laws_runs.proofs.Runs.Threads.{frames_there}

-- the place of the top one
pub top_there : (set : Set) (w : World) (t : ℕ) (h : StepsFrame set w t) (a : Activation)
    → h.frame ≡ Routine a → slice_get (frames_on w t) (length h.below) ≡ Some (Routine a)
top_there set w t h a top =
    ap (λ (frames : List Frame). slice_get frames (length h.below))
    (frames_there w t h.thread h.found ∙ h.frames)
    ∙ get_at_length h.below h.frame ∙ ap (λ (f : Frame). Some f) top

module _ (states : States) (w : World) (t k : ℕ) (a : Activation)
    (there : slice_get (frames_on w t) k ≡ Some (Routine a)) (g : Kind → Bool)
    (blank : g BlankKind ≡ false) (r n : ℕ) (is : g (kind_of (state_of states a) r) ≡ true)
    (refers : register a r ≡ Ref n) where
  pub named_once : 1 ≤ named_in g (state_of states a).kinds a.registers n
  named_once =
      let one : named_as g (kind_of (state_of states a) r) (register a r) n ≡ 1 =
      rw (is, refers, eq-eqb n n refl) refl in
      omega (arith, named_among g blank (state_of states a).kinds a.registers r n)

  pub named_some : 1 ≤ names_on states g a.device n w.threads
  named_some =
      let once : 1 ≤ named_in g (state_of states a).kinds a.registers n = named_once in
      let own : frame_names states g (λ d. nat_eq d a.device) n (Routine a)
      ≡ named_in g (state_of states a).kinds a.registers n =
      rw (eq-eqb a.device a.device refl) refl in
      omega (
        arith,
        frame_le (frame_names states g (λ d. nat_eq d a.device) n) w t k (Routine a) there,
      )
