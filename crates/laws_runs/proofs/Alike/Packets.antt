-- Whether the I/O manager has a packet need not be shown: it has what nothing else holds. So worlds
-- of runs of an accepted set that a machine may not tell apart share the same.
use Rattle.laws_runs.proofs.Common.{ap, arith, inl, inr, map, refl, sym, zero, ◌∙◌, eq-eqb, eqb_tells, Bool, List, None, Option, Some, [], false, if◌then◌else◌, slice_get, slice_index_or, slice_set, suc, true, ℕ, ◌+◌, ◌∷◌, ◌≡◌, answered_in, is_blank, is_right, Set, shown_packet, Shared, World, packet_of, Kind, BlankKind, Lower, NumKind, View, Status, Success, Activation, Frame, CancelFrame, Routine, Walk, Packet, Thread, Value, Ref, StatusValue, States, frame_rights, named_as, rights, stack_sum, thread_sum, times_named, times_waiting, Ready, state_of, waits_under, HasKinds, Suits, Stacked, Stands}
use Rattle.model.specs.Shown.{ShownPacket}
use Rattle.laws_runs.proofs.Alike.Frames.{AlikeFrame, AlikeFrames, waiting_for}
use Rattle.laws_runs.proofs.Alike.Registers.{SameRegisters}
use Rattle.laws_runs.proofs.Alike.Stacks.{AlikeThreads}
use Rattle.laws_runs.proofs.Holders.Sums.{Held, unheld}
use Rattle.laws_runs.proofs.Past.LivePackets.{Rises, find, find_below, find_place}
use Rattle.laws_runs.proofs.States.Inside.{Waits}

-- a right is to the same packet
right_some : (k : Kind) → is_right k ≡ true → is_blank k ≡ false
right_some BlankKind is = cc
right_some NumKind is = cc
right_some Lower is = cc
right_some View is = cc
right_some _ is = refl

same_named : (k : Kind) (u v : Value) (n : ℕ) (b : Bool) → is_right k ≡ b
    → (is_blank k ≡ false → u ≡ v) → named_as is_right k u n ≡ named_as is_right k v n
same_named k u v n true is h = rw (is, h (right_some k is)) refl
same_named k u v n false is h = rw is refl

pub same_rights : (kinds : List Kind) (us vs : List Value) (n : ℕ) → SameRegisters kinds us vs
    → rights kinds us n ≡ rights kinds vs n
same_rights [] us vs n h = refl
same_rights (k ∷ kinds) [] [] n h = refl
same_rights (k ∷ kinds) (u ∷ us) (v ∷ vs) n h =
    let one : named_as is_right k u n ≡ named_as is_right k v n =
    same_named k u v n (is_right k) refl h.0 in
    omega (arith, same_rights kinds us vs n h.1)
same_rights (k ∷ kinds) _ _ n h = absurd h

-- a register that waits for a status has no right
rights_but : (kinds : List Kind) (us vs : List Value) (r n : ℕ)
    → is_right (slice_index_or kinds r BlankKind) ≡ false
    → SameRegisters (slice_set kinds r BlankKind) us vs → rights kinds us n ≡ rights kinds vs n
rights_but [] us vs r n free h = refl
rights_but (k ∷ kinds) [] [] r n free h = refl
rights_but (k ∷ kinds) (u ∷ us) (v ∷ vs) zero n free h =
    rw free (ap (λ (m : ℕ). 0 + m) (same_rights kinds us vs n h.1))
rights_but (k ∷ kinds) (u ∷ us) (v ∷ vs) (suc r) n free h =
    let one : named_as is_right k u n ≡ named_as is_right k v n =
    same_named k u v n (is_right k) refl h.0 in
    omega (arith, rights_but kinds us vs r n free h.1)
rights_but (k ∷ kinds) _ _ zero n free h = absurd h
rights_but (k ∷ kinds) _ _ (suc r) n free h = absurd h

status_free : (issued : ℕ) (k : Kind) (status : Status) → Suits issued k (StatusValue status)
    → is_right k ≡ false
status_free issued BlankKind status h = refl
status_free issued NumKind status h = refl
status_free issued Lower status h = refl
status_free issued View status h = refl
status_free issued _ status h = let no : StatusValue status ≡ Ref h.0 = h.1 in cc

told_free : (issued : ℕ) (kinds : List Kind) (vs : List Value) (r : ℕ) (status : Status)
    → HasKinds issued kinds (slice_set vs r (StatusValue status))
    → is_right (slice_index_or kinds r BlankKind) ≡ false
told_free issued [] vs r status h = refl
told_free issued (k ∷ kinds) [] zero status h = absurd h
told_free issued (k ∷ kinds) [] (suc r) status h = absurd h
told_free issued (k ∷ kinds) (v ∷ vs) zero status h = status_free issued k status h.0
told_free issued (k ∷ kinds) (v ∷ vs) (suc r) status h = told_free issued kinds vs r status h.1

module _ (set : Set) (states : States) (s : Shared) (issued n : ℕ) where
  abbrev count : Frame → ℕ
  count f = frame_rights states f n

  rights_waiting : (a : Activation) (us : List Value) (r : Option ℕ)
      → Ready set states issued (answered_in a Success r)
      → SameRegisters (waiting_for r (state_of states a).kinds) us a.registers
      → count (Routine (record a { registers = us })) ≡ count (Routine a)
  rights_waiting a us None ready h = same_rights (state_of states a).kinds us a.registers n h
  rights_waiting a us (Some r) ready h =
      rights_but (state_of states a).kinds us a.registers r n
      (told_free issued (state_of states a).kinds a.registers r Success ready.1.kinds) h

  frame_counts : (above : Option Frame) (g f : Frame) → Stands set states issued above f
      → AlikeFrame set states s above g f → count g ≡ count f
  frame_counts above (Routine b) (Routine a) stands h =
      let waits : Waits set states issued above a = waits_under set states issued above a stands in
      ap (λ (c : Activation). count (Routine c)) h.is
      ∙ rights_waiting a h.registers waits.register waits.ready (rw waits.told at h.same)
  frame_counts above (Walk m) (Walk k) stands h = refl
  frame_counts above (CancelFrame b) (CancelFrame c) stands h = refl
  frame_counts above _ _ stands h = absurd h

  stack_counts : (xs ys : List Frame) → Stacked set states issued ys
      → AlikeFrames set states s None xs ys → stack_sum count xs ≡ stack_sum count ys
  stack_counts [] [] stands h = refl
  stack_counts (x ∷ xs) (y ∷ []) stands h =
      omega (arith, frame_counts None x y stands h.0, stack_counts xs [] tt h.1)
  stack_counts (x ∷ xs) (y ∷ v ∷ ys) stands h =
      omega (arith, frame_counts (Some v) x y stands.0 h.0, stack_counts xs (v ∷ ys) stands.1 h.1)
  stack_counts _ _ stands h = absurd h

  pub thread_counts : (xs ys : List Thread)
      → ((t : ℕ) (y : Thread) → slice_get ys t ≡ Some y
      → Stacked set states issued y.frames.items)
      → AlikeThreads set states s xs ys → thread_sum count xs ≡ thread_sum count ys
  thread_counts [] [] stands h = refl
  thread_counts (x ∷ xs) (y ∷ ys) stands h =
      let one : stack_sum count x.frames.items ≡ stack_sum count y.frames.items =
      stack_counts x.frames.items y.frames.items (stands 0 y refl) h.0.frames in
      omega (arith, thread_counts xs ys (λ t. stands (suc t)) h.1)
  thread_counts _ _ stands h = absurd h

-- packets that are shown alike
abbrev shown : List Packet → List ShownPacket
shown packets = map shown_packet packets

same_word : (ps qs : List Packet) (n : ℕ) → shown ps ≡ shown qs
    → times_named (find ps n) ≡ times_named (find qs n)
same_word [] [] n h = refl
same_word (p ∷ ps) (q ∷ qs) n h =
    let one : shown_packet p ≡ shown_packet q = cc in
    let others : shown ps ≡ shown qs = cc in
    let number : p.number ≡ q.number = ap (λ (x : ShownPacket). x.number) one in
    let armer : p.armer ≡ q.armer = ap (λ (x : ShownPacket). x.armer) one in
    elim (eqb_tells q.number n) [
      | inl here ↦ rw (number, here.0, armer) refl
      | inr other ↦ rw (number, other.0) (same_word ps qs n others)
    ]
same_word _ _ n h = cc

abbrev unless_bit : Bool → ℕ
unless_bit b = if b then 0 else 1

same_bit : (b c : Bool) → unless_bit b ≡ unless_bit c → b ≡ c
same_bit true true h = refl
same_bit false false h = refl
same_bit _ _ h = absurd (omega arith)

abbrev of_shown : ShownPacket → Bool → Packet
of_shown x completing =
    record {
      number = x.number;
      depth = x.depth;
      locations = record { items = x.locations };
      status = x.status;
      info = x.info;
      completing = completing;
      pending_returned = x.pending_returned;
      cancel = x.cancel;
      armer = x.armer;
    }

same_packet : (p q : Packet) → shown_packet p ≡ shown_packet q → p.completing ≡ q.completing
    → p ≡ q
same_packet p q h completing =
    ap (λ (x : ShownPacket). of_shown x p.completing) h ∙ ap (of_shown (shown_packet q)) completing

-- after the first
same_rest : (high : ℕ) (p q : Packet) (ps qs : List Packet) → p.number ≡ q.number
    → Rises (suc p.number) ps high → Rises (suc q.number) qs high
    → ((n : ℕ) → unheld (find (p ∷ ps) n) ≡ unheld (find (q ∷ qs) n)) → (n : ℕ)
    → unheld (find ps n) ≡ unheld (find qs n)
same_rest high p q ps qs number rises up same n =
    elim (eqb_tells q.number n) [
      | inl here ↦
          let is : q.number ≡ n = here.1 in
          rw (
            find_below (suc p.number) ps high n rises (omega arith),
            find_below (suc q.number) qs high n up (omega arith),
          ) refl
      | inr other ↦ rw (number, other.0) at (same n)
    ]

same_packets : (low high : ℕ) (ps qs : List Packet) → Rises low ps high → Rises low qs high
    → shown ps ≡ shown qs → ((n : ℕ) → unheld (find ps n) ≡ unheld (find qs n)) → ps ≡ qs
same_packets low high [] [] rises up h same = refl
same_packets low high (p ∷ ps) (q ∷ qs) rises up h same =
    let one : shown_packet p ≡ shown_packet q = cc in
    let others : shown ps ≡ shown qs = cc in
    let number : p.number ≡ q.number = ap (λ (x : ShownPacket). x.number) one in
    let here : p.completing ≡ q.completing =
    same_bit p.completing q.completing
    (let both : unheld (find (p ∷ ps) q.number) ≡ unheld (find (q ∷ qs) q.number) =
    same q.number in rw (number, eq-eqb q.number q.number refl) at both) in
    let rest : ps ≡ qs =
    same_packets (suc p.number) high ps qs rises.1 (rw (← number) at up.1) others
    (same_rest high p q ps qs number rises.1 up.1 same) in
    rw (same_packet p q one here, rest) refl
same_packets low high _ _ rises up h same = cc

-- worlds with alike threads that share the same but for whether the I/O manager has a packet
module _ (set : Set) (states : States) (v w : World) (held : Held set states v)
    (kept : Held set states w) (rises : Rises 0 v.shared.packets v.shared.issued)
    (up : Rises 0 w.shared.packets w.shared.issued)
    (stands : (t : ℕ) (y : Thread) → slice_get w.threads t ≡ Some y
    → Stacked set states w.shared.issued y.frames.items)
    (alike : AlikeThreads set states w.shared v.threads w.threads)
    (packets : shown v.shared.packets ≡ shown w.shared.packets)
    (issued : v.shared.issued ≡ w.shared.issued) (queues : v.shared.queues ≡ w.shared.queues)
    (starts : v.shared.starts ≡ w.shared.starts) where
  same_unheld : (n : ℕ) → unheld (find v.shared.packets n) ≡ unheld (find w.shared.packets n)
  same_unheld n =
      let words : times_named (packet_of v.shared n) ≡ times_named (packet_of w.shared n) =
      ap times_named (find_place v.shared.packets n)
      ∙ same_word v.shared.packets w.shared.packets n packets
      ∙ ap times_named (sym (find_place w.shared.packets n)) in
      let waiting : times_waiting set v.shared n ≡ times_waiting set w.shared n =
      rw (queues, starts, words) refl in
      omega (
        arith,
        thread_counts set states w.shared w.shared.issued n v.threads w.threads stands alike,
        held.rights n,
        kept.rights n,
      )

  pub packets_alike : v.shared.packets ≡ w.shared.packets
  packets_alike =
      same_packets 0 w.shared.issued v.shared.packets w.shared.packets (rw issued at rises) up
      packets same_unheld
