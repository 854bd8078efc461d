-- Every register of a packet's kind, in any frame of any thread, names a live packet: who has the
-- right to it holds it; who has a claim is backed by its cancel word or its cancel routine; and one
-- on its way up is the I/O manager's.
use Rattle.laws_runs.proofs.Common.{arith, inl, inr, refl, sym, ◌∙◌, cases_Bool, List, None, Option, Some, false, slice_get, true, ℕ, ◌≡◌, ◌≤◌, is_packet, is_right, is_view, is_hold, kind_of, frames_on, Set, sort_of, Entry, World, packet_of, register, Activation, Frame, CancelFrame, Routine, Walk, Packet, Ref, States, all_walking, frame_rights, IsGood, state_of, stands_inside, Standing}
use Rattle.laws_runs.specs.Holder.{StandsInside}
use Rattle.laws_runs.proofs.Claims.Sums.{Claimed}
use Rattle.laws_runs.proofs.Claims.Tops.{named_once}
use Rattle.laws_runs.proofs.Holders.Sums.{Held, frame_le, held, unheld, walked_if}
use Rattle.laws_runs.proofs.Holders.Walking.{under_at, walking_there}
use Rattle.laws_runs.proofs.Live.Claimed.{exchanged_lives}
use Rattle.laws_runs.proofs.Live.Kept.{Sees}
use Rattle.laws_runs.proofs.Live.Sees.{seen_at}
use Rattle.laws_runs.proofs.Live.Steps.{UnderLives, only_view, unheld_lives, view_lives}
use Rattle.laws_runs.proofs.Past.LivePackets.{find}
use Rattle.laws_runs.proofs.Past.Packets.{found}

module _ (set : Set) (states : States) (w : World) (past : List Entry) (good : IsGood set states)
    (stands : Standing set states w past) (kept : Held set states w)
    (claimed : Claimed set states w) (sees : Sees set states w)
    (t k : ℕ) (a : Activation) (there : slice_get (frames_on w t) k ≡ Some (Routine a)) where
  -- a right
  owner_lives : (r n : ℕ) → is_right (kind_of (state_of states a) r) ≡ true → register a r ≡ Ref n
      → 1 ≤ unheld (find w.shared.packets n)
  owner_lives r n right refers =
      let once : 1 ≤ frame_rights states (Routine a) n =
      named_once states w t k a there is_right refl r n right refers in
      omega (arith, frame_le (λ f. frame_rights states f n) w t k (Routine a) there, kept.rights n)

  -- the packet of the I/O manager's frame under it
  walk_lives : (n : ℕ) → under_at None (frames_on w t) k ≡ Some (Walk n)
      → is_hold (sort_of set a.driver a.routine) ≡ false → packet_of w.shared n ≡ None → ⊥
  walk_lives n is free gone =
      let some : 1 ≤ all_walking set w.threads n = walking_there set w t k n a there is free in
      let all : all_walking set w.threads n ≡ held (find w.shared.packets n) = kept.walks n in
      let its : (p : Packet) × (find w.shared.packets n ≡ Some p) × (p.completing ≡ true) =
      walked_if (find w.shared.packets n) (omega arith) in
      let no : None ≡ Some its.0 = sym (found w.shared n None gone) ∙ its.1 in
      cc

  under_lives : (o : Option Frame) → under_at None (frames_on w t) k ≡ o
      → UnderLives set w.shared o (Routine a)
  under_lives None is = tt
  under_lives (Some (Routine b)) is = tt
  under_lives (Some (Walk n)) is = λ free gone. walk_lives n is free gone
  under_lives (Some (CancelFrame c)) is = tt

  up_lives : (r n : ℕ) → is_view (kind_of (state_of states a) r) ≡ true → register a r ≡ Ref n
      → packet_of w.shared n ≡ None → ⊥
  up_lives r n view refers gone =
      let inside : StandsInside set a =
      stands_inside set states w.shared.issued (frames_on w t) k a (stands.frames t) there in
      view_lives set states w.shared past a inside.routine inside.is_of
      ((good.led.known a.driver a.routine inside.routine inside.is_of).follows.arrives a.position
      inside.inside)
      (under_at None (frames_on w t) k) r n
      (seen_at set states None (frames_on w t) k (Routine a) (sees t) there)
      (under_lives (under_at None (frames_on w t) k) refl) view refers gone

  -- any packet that a register names
  pub named_lives : (r n : ℕ) → is_packet (kind_of (state_of states a) r) ≡ true
      → register a r ≡ Ref n → packet_of w.shared n ≡ None → ⊥
  named_lives r n packet refers gone =
      elim (cases_Bool (is_right (kind_of (state_of states a) r))) [
        | inl right ↦
            unheld_lives set states w.shared past n (owner_lives r n right refers) gone
        | inr free ↦
            elim (only_view (kind_of (state_of states a) r) packet free) [
              | inl view ↦ up_lives r n view refers gone
              | inr claim ↦
                  unheld_lives set states w.shared past n
                  (exchanged_lives set states w past good stands kept claimed t k a there
                  (kind_of (state_of states a) r) r n refl claim refers) gone
            ]
      ]
