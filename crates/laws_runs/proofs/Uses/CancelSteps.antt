-- What a step of IoCancelIrp does to each packet and its uses: nothing, since it writes a packet's
-- cancel flag and cancel word alone.
use Rattle.laws_runs.proofs.Common.{ap, refl, list_any, Bool, List, None, Some, [], false, slice_get, ℕ, ◌∷◌, ◌≡◌, Action, Exchanges, Releases, Outcome, goes_on_cancelling, leaves, routine_of_device, Set, Actor, Entry, Shared, cancelled, entered, packet_of, with_armer, with_packet, SystemCancel, CancelStep, Exchange, Frame, CancelFrame, Routine, Packet, Ref, States, Cancels, awaits_cancel, calls_cancel, exchanges_gone, finds_empty, finds_none, flags_gone, retakes_cancel, sets_flag, takes_cancel}
use Rattle.laws_runs.proofs.Past.LivePackets.{find}
use Rattle.laws_runs.proofs.Uses.Fates.{late_in}
use Rattle.laws_runs.proofs.Uses.Steps.{UseStep, apart_at, written_step}
use Rattle.laws_runs.proofs.Uses.Traced.{is_about}

module _ (set : Set) (states : States) (s : Shared) (past : List Entry) (actor : Actor) (t n : ℕ)
  where
    abbrev frame : CancelStep → Frame
    frame step = CancelFrame (record { packet = n; next = step })

    abbrev Used : CancelStep → Outcome → Type 0
    Used step o = UseStep states s past actor None (frame step) o

    -- nothing of packets is written
    packets_stay : (step : CancelStep) (o : Outcome) → o.shared.packets ≡ s.packets
        → ((m : ℕ) → list_any (is_about m) o.actions ≡ false)
        → ((returned : Bool) (m : ℕ) → late_in states returned m None o.frames ≡ 0)
        → Used step o
    packets_stay step o packets quiet late m =
        apart_at states s past actor None (frame step) o m
        (record {
          there = ap (λ (ps : List Packet). find ps m) packets;
          quiet = quiet m;
          late = λ p there. late p.pending_returned m;
        })

    -- its cancel word is empty
    word_emptied : (step : CancelStep) (p : Packet) (frames : List Frame) (actions : List Action)
        → packet_of s n ≡ Some p
        → ((m : ℕ) → list_any (is_about m) actions ≡ false)
        → ((returned : Bool) (m : ℕ) → late_in states returned m None frames ≡ 0)
        → Used step (leaves (with_packet s n (with_armer p None)) frames actions)
    word_emptied step p frames actions there quiet late =
        written_step states s past actor None (frame step) n p (with_armer p None) frames actions
        there
        refl refl (λ k. refl) refl refl refl (λ done. done) quiet late

    pub cancel_used : (step : CancelStep) (o : Outcome) → Cancels set s t n step o → Used step o
    cancel_used step o (takes_cancel free) =
        packets_stay step o refl (λ m. refl) (λ returned m. refl)
    cancel_used step o (retakes_cancel owned) =
        packets_stay step o refl (λ m. refl) (λ returned m. refl)
    cancel_used step o (awaits_cancel owner owned other) =
        packets_stay step o refl (λ m. refl) (λ returned m. refl)
    cancel_used step o (flags_gone gone) = packets_stay step o refl (λ m. refl) (λ returned m. refl)
    cancel_used step o (exchanges_gone gone) =
        packets_stay step o refl (λ m. refl) (λ returned m. refl)
    cancel_used step o (sets_flag p there) =
        written_step states s past actor None (frame step) n p (cancelled p)
        (goes_on_cancelling n Exchange) []
        there refl refl (λ k. refl) refl refl refl (λ done. done) (λ m. refl) (λ returned m. refl)
    cancel_used step o (finds_empty p there empty) =
        word_emptied step p [] (Exchanges n false ∷ Releases SystemCancel ∷ []) there (λ m. refl)
        (λ returned m. refl)
    cancel_used step o (finds_none p armer there is none) =
        word_emptied step p [] (Exchanges n false ∷ Releases SystemCancel ∷ []) there (λ m. refl)
        (λ returned m. refl)
    cancel_used step o (calls_cancel p armer routine there is named) =
        word_emptied step p
        (Routine (entered (routine_of_device (slice_get set.devices armer.device)) routine
        armer.device
        (Ref n)) ∷ [])
        (Exchanges n false ∷ []) there (λ m. refl) (λ returned m. refl)
