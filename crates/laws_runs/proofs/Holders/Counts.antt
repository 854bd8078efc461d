-- What a change of one packet does to the counts of packets that a register holds and that the I/O
-- manager has; and the packet that a register has a right to.
use Rattle.laws_runs.proofs.Common.{ap, arith, inl, inr, refl, subst, sym, ◌∙◌, cases_Bool, eq-eqb, eqb_tells, Bool, List, None, Option, Some, [], false, if◌then◌else◌, is_some, nat_eq, nat_lt, remove, slice_set, true, ℕ, ◌++◌, ◌+◌, ◌∷◌, ◌≡◌, ◌≤◌, is_right, kind_of, StartState, Set, Entry, Shared, packet_in, packet_of, place_of, register, with_packet, without_packet, Activation, Frame, Routine, Walk, Packet, Value, Ref, States, frame_rights, frame_walks, right, rights, times_named, times_plain, times_started, times_waiting, state_of, HasKinds}
use Rattle.laws_runs.proofs.Holders.Rights.{one_right, right_le}
use Rattle.laws_runs.proofs.Holders.Sums.{unheld, unheld_one, held, held_apart, own_if, walked_if}
use Rattle.laws_runs.proofs.Past.LivePackets.{Rises, find, find_place, find_above, find_set, find_remove, find_push}
use Rattle.laws_runs.proofs.Past.Packets.{Tells, found}
use Rattle.laws_runs.proofs.Steps.Comes.{Reads}

-- where one packet is found otherwise: it counts as before, or for less, or for more
module _ (count : Option Packet → ℕ) (before after : ℕ → Option Packet) (n : ℕ) (o : Option Packet)
    (finds : (m : ℕ) → after m ≡ (if nat_eq n m then o else before m)) where
  kept_count : count o ≡ count (before n) → (m : ℕ) → count (after m) ≡ count (before m)
  kept_count same m =
      rw (finds m) (elim (eqb_tells n m) [
        | inl here ↦ rw (here.0, ← here.1) same
        | inr other ↦ rw other.0 refl
      ])

  lost_count : count o + 1 ≡ count (before n) → (m : ℕ)
      → count (after m) + (if nat_eq n m then 1 else 0) ≡ count (before m)
  lost_count less m =
      rw (finds m) (elim (eqb_tells n m) [
        | inl here ↦ rw (here.0, ← here.1) less
        | inr other ↦ rw other.0 (omega arith)
      ])

  won_count : count o ≡ 1 + count (before n) → (m : ℕ)
      → count (after m) ≡ (if nat_eq n m then 1 else 0) + count (before m)
  won_count more m =
      rw (finds m) (elim (eqb_tells n m) [
        | inl here ↦ rw (here.0, ← here.1) more
        | inr other ↦ rw other.0 (omega arith)
      ])

module _ (s : Shared) (n : ℕ) (p : Packet) (there : find s.packets n ≡ Some p) where
  module _ (q : Packet) (number : q.number ≡ n) where
    abbrev found_after : ℕ → Option Packet
    found_after m = find (slice_set s.packets (place_of s.packets n) q) m

    pub unheld_set : q.completing ≡ p.completing → (m : ℕ)
        → unheld (found_after m) ≡ unheld (find s.packets m)
    unheld_set same =
        kept_count unheld (find s.packets) found_after n (Some q)
        (find_set s.packets n p q there number)
        (rw (there, same) refl)

    pub held_set : q.completing ≡ p.completing → (m : ℕ)
        → held (found_after m) ≡ held (find s.packets m)
    held_set same =
        kept_count held (find s.packets) found_after n (Some q)
        (find_set s.packets n p q there number)
        (rw (there, same) refl)

    pub unheld_taken : p.completing ≡ false → q.completing ≡ true → (m : ℕ)
        → unheld (found_after m) + (if nat_eq n m then 1 else 0) ≡ unheld (find s.packets m)
    unheld_taken free done =
        lost_count unheld (find s.packets) found_after n (Some q)
        (find_set s.packets n p q there number)
        (rw (there, free, done) refl)

    pub held_taken : p.completing ≡ false → q.completing ≡ true → (m : ℕ)
        → held (found_after m) ≡ (if nat_eq n m then 1 else 0) + held (find s.packets m)
    held_taken free done =
        won_count held (find s.packets) found_after n (Some q)
        (find_set s.packets n p q there number)
        (rw (there, free, done) refl)

    pub unheld_lent : p.completing ≡ true → q.completing ≡ false → (m : ℕ)
        → unheld (found_after m) ≡ (if nat_eq n m then 1 else 0) + unheld (find s.packets m)
    unheld_lent done free =
        won_count unheld (find s.packets) found_after n (Some q)
        (find_set s.packets n p q there number)
        (rw (there, free, done) refl)

    pub held_lent : p.completing ≡ true → q.completing ≡ false → (m : ℕ)
        → held (found_after m) + (if nat_eq n m then 1 else 0) ≡ held (find s.packets m)
    held_lent done free =
        lost_count held (find s.packets) found_after n (Some q)
        (find_set s.packets n p q there number)
        (rw (there, free, done) refl)

    -- its cancel word is as it was, gets a cancel routine, or is emptied
    word_set : is_some q.armer ≡ is_some p.armer → (m : ℕ)
        → times_named (found_after m) ≡ times_named (find s.packets m)
    word_set same =
        kept_count times_named (find s.packets) found_after n (Some q)
        (find_set s.packets n p q there number)
        (rw (there, same) refl)

    word_won : is_some p.armer ≡ false → is_some q.armer ≡ true → (m : ℕ)
        → times_named (found_after m) ≡ (if nat_eq n m then 1 else 0)
        + times_named (find s.packets m)
    word_won free armed =
        won_count times_named (find s.packets) found_after n (Some q)
        (find_set s.packets n p q there number)
        (rw (there, free, armed) refl)

    word_lost : is_some p.armer ≡ true → is_some q.armer ≡ false → (m : ℕ)
        → times_named (found_after m) + (if nat_eq n m then 1 else 0)
        ≡ times_named (find s.packets m)
    word_lost armed free =
        lost_count times_named (find s.packets) found_after n (Some q)
        (find_set s.packets n p q there number)
        (rw (there, free, armed) refl)

    -- and so is what waits
    module _ (set : Set) where
      named_after : (m : ℕ)
          → times_named (packet_of (with_packet s n q) m) ≡ times_named (found_after m)
      named_after m = ap times_named (find_place (with_packet s n q).packets m)

      named_before : (m : ℕ) → times_named (packet_of s m) ≡ times_named (find s.packets m)
      named_before m = ap times_named (find_place s.packets m)

      pub waits_set : is_some q.armer ≡ is_some p.armer → (m : ℕ)
          → times_waiting set (with_packet s n q) m ≡ times_waiting set s m
      waits_set same m =
          omega (arith, named_after m, named_before m, word_set same m)

      pub waits_won : is_some p.armer ≡ false → is_some q.armer ≡ true → (m : ℕ)
          → times_waiting set (with_packet s n q) m
          ≡ times_waiting set s m + (if nat_eq n m then 1 else 0)
      waits_won free armed m =
          omega (arith, named_after m, named_before m, word_won free armed m)

      pub waits_lost : is_some p.armer ≡ true → is_some q.armer ≡ false → (m : ℕ)
          → times_waiting set (with_packet s n q) m + (if nat_eq n m then 1 else 0)
          ≡ times_waiting set s m
      waits_lost armed free m =
          omega (arith, named_after m, named_before m, word_lost armed free m)

  module _ (rises : Rises 0 s.packets s.issued) (done : p.completing ≡ true) where
    pub unheld_removed : (m : ℕ)
        → unheld (find (remove s.packets (place_of s.packets n)) m) ≡ unheld (find s.packets m)
    unheld_removed =
        kept_count unheld (find s.packets) (find (remove s.packets (place_of s.packets n))) n None
        (find_remove 0 s.packets s.issued n rises) (rw (there, done) refl)

    pub held_removed : (m : ℕ)
        → held (find (remove s.packets (place_of s.packets n)) m) + (if nat_eq n m then 1 else 0)
        ≡ held (find s.packets m)
    held_removed =
        lost_count held (find s.packets) (find (remove s.packets (place_of s.packets n))) n None
        (find_remove 0 s.packets s.issued n rises) (rw (there, done) refl)

    -- one whose cancel word is empty tops out
    pub waits_removed : (set : Set) → is_some p.armer ≡ false → (m : ℕ)
        → times_waiting set (without_packet s n) m ≡ times_waiting set s m
    waits_removed set free m =
        let after : times_named (packet_of (without_packet s n) m)
        ≡ times_named (find (remove s.packets (place_of s.packets n)) m) =
        ap times_named (find_place (without_packet s n).packets m) in
        let before : times_named (packet_of s m) ≡ times_named (find s.packets m) =
        ap times_named (find_place s.packets m) in
        let word : times_named (find (remove s.packets (place_of s.packets n)) m)
        ≡ times_named (find s.packets m) =
        kept_count times_named (find s.packets) (find (remove s.packets (place_of s.packets n))) n
        None
        (find_remove 0 s.packets s.issued n rises) (rw (there, free) refl) m in
        omega arith

-- a packet is issued
module _ (s : Shared) (p : Packet) (rises : Rises 0 s.packets s.issued)
    (number : p.number ≡ s.issued)
    (free : p.completing ≡ false) where
  new_none : find s.packets s.issued ≡ None
  new_none = find_above 0 s.packets s.issued s.issued rises (omega arith)

  pub new_unheld : (m : ℕ)
      → unheld (find (s.packets ++ p ∷ []) m) ≡ (if nat_eq s.issued m then 1 else 0) + unheld
      (find s.packets m)
  new_unheld =
      won_count unheld (find s.packets) (find (s.packets ++ p ∷ [])) s.issued (Some p)
      (find_push 0 s.packets s.issued p rises number) (rw (new_none, free) refl)

  pub new_held : (m : ℕ) → held (find (s.packets ++ p ∷ []) m) ≡ held (find s.packets m)
  new_held =
      kept_count held (find s.packets) (find (s.packets ++ p ∷ [])) s.issued (Some p)
      (find_push 0 s.packets s.issued p rises number) (rw (new_none, free) refl)

  -- its cancel word is empty
  pub new_waits : (set : Set) (after : Shared) → after.packets ≡ s.packets ++ p ∷ []
      → after.queues ≡ s.queues → after.starts ≡ s.starts → p.armer ≡ None → (m : ℕ)
      → times_waiting set after m ≡ times_waiting set s m
  new_waits set after packets queues starts empty m =
      let now : times_named (packet_of after m) ≡ times_named (find (s.packets ++ p ∷ []) m) =
      ap times_named (find_place after.packets m)
      ∙ ap (λ (ps : List Packet). times_named (find ps m)) packets in
      let before : times_named (packet_of s m) ≡ times_named (find s.packets m) =
      ap times_named (find_place s.packets m) in
      let word : times_named (find (s.packets ++ p ∷ []) m) ≡ times_named (find s.packets m) =
      kept_count times_named (find s.packets) (find (s.packets ++ p ∷ [])) s.issued (Some p)
      (find_push 0 s.packets s.issued p rises number) (rw (new_none, empty) refl) m in
      let in_queues : times_plain set 0 after.queues m ≡ times_plain set 0 s.queues m =
      ap (λ (qs : List (List (List ℕ))). times_plain set 0 qs m) queues in
      let to_start : times_started set 0 after.starts m ≡ times_started set 0 s.starts m =
      ap (λ (xs : List StartState). times_started set 0 xs m) starts in
      omega arith

-- a frame's rights are to live packets, and to others than those that wait in lists and slots
pub record Holding (set : Set) (states : States) (s : Shared) (past : List Entry) (f : Frame) : Type
    0 where
  pub tells : Tells s past
  pub rights : (n : ℕ) → frame_rights states f n ≤ unheld (find s.packets n)
  pub waiting : (n : ℕ) → frame_rights states f n + times_waiting set s n
      ≤ unheld (find s.packets n)
  pub walks : (n : ℕ) → frame_walks f n ≤ held (find s.packets n)

-- an empty cancel word
empty_bit : (b : Bool) → (if b then 1 else 0) ≤ 0 → b ≡ false
empty_bit true h = absurd (omega arith)
empty_bit false h = refl

pub empty_word : (p : Packet) (o : Option Packet) → o ≡ Some p → times_named o ≤ 0
    → is_some p.armer ≡ false
empty_word p None is h = cc
empty_word p (Some q) is h =
    let same : q ≡ p = cc in
    let free : is_some q.armer ≡ false = empty_bit (is_some q.armer) h in
    subst (λ (x : Packet). is_some x.armer ≡ false) same free

-- what a register refers to
pub reads_ref : (s : Shared) (v : Value) (n : ℕ) → packet_in s v ≡ Some n → v ≡ Ref n
reads_ref s (Ref k) n h =
    elim (cases_Bool (nat_lt k s.issued)) [
      | inl low ↦ let same : Some k ≡ Some n = rw low at h in let one : k ≡ n =
          cc in ap (λ (x : ℕ). Ref x) one
      | inr high ↦ let no : None ≡ Some n = rw high at h in cc
    ]
reads_ref s _ n h = cc

-- a packet that a register has a right to is live, and isn't completing
module _ (set : Set) (states : States) (s : Shared) (past : List Entry) (a : Activation)
    (h : Holding set states s past (Routine a))
    (kinds : HasKinds s.issued (state_of states a).kinds a.registers) (r n : ℕ)
    (is : is_right (kind_of (state_of states a) r) ≡ true) (reads : Reads s a r n) where
  right_unheld : 1 ≤ unheld (find s.packets n)
  right_unheld =
      omega (
        arith,
        one_right (kind_of (state_of states a) r) (register a r) n is (reads_ref s (register a r) n reads),
        right_le s.issued (state_of states a).kinds a.registers r n kinds,
        h.rights n,
      )

  pub right_free : (p : Packet) → packet_of s n ≡ Some p → p.completing ≡ false
  right_free p there =
      let own : (q : Packet) × (find s.packets n ≡ Some q) × (q.completing ≡ false) =
      own_if (find s.packets n) right_unheld in
      let both : Some own.0 ≡ Some p = sym own.1 ∙ found s n (Some p) there in
      let same : own.0 ≡ p = cc in
      ap (λ (x : Packet). x.completing) (sym same) ∙ own.2

  pub right_lives : packet_of s n ≡ None → ⊥
  right_lives none =
      let own : (q : Packet) × (find s.packets n ≡ Some q) × (q.completing ≡ false) =
      own_if (find s.packets n) right_unheld in
      let no : None ≡ Some own.0 = sym (found s n None none) ∙ own.1 in
      cc

  -- and its cancel word is empty
  pub right_unarmed : (p : Packet) → packet_of s n ≡ Some p → is_some p.armer ≡ false
  right_unarmed p there =
      let one : right (kind_of (state_of states a) r) (register a r) n ≡ 1 =
      one_right (kind_of (state_of states a) r) (register a r) n is
      (reads_ref s (register a r) n reads) in
      let le : right (kind_of (state_of states a) r) (register a r) n
      ≤ rights (state_of states a).kinds a.registers n =
      right_le s.issued (state_of states a).kinds a.registers r n kinds in
      let all : rights (state_of states a).kinds a.registers n + times_waiting set s n
      ≤ unheld (find s.packets n) = h.waiting n in
      let single : unheld (find s.packets n) ≤ 1 = unheld_one (find s.packets n) in
      empty_word p (packet_of s n) there (omega arith)

-- and so is the one that the I/O manager's frame completes
module _ (set : Set) (states : States) (s : Shared) (past : List Entry) (n : ℕ)
    (h : Holding set states s past (Walk n)) where
  pub walk_held : 1 ≤ held (find s.packets n)
  walk_held = let one : frame_walks (Walk n) n ≤ held (find s.packets n) =
      h.walks n in rw (eq-eqb n n refl) at one

  pub walk_taken : (p : Packet) → packet_of s n ≡ Some p → p.completing ≡ true
  walk_taken p there =
      let its : (q : Packet) × (find s.packets n ≡ Some q) × (q.completing ≡ true) =
      walked_if (find s.packets n) walk_held in
      let both : Some its.0 ≡ Some p = sym its.1 ∙ found s n (Some p) there in
      let same : its.0 ≡ p = cc in
      ap (λ (x : Packet). x.completing) (sym same) ∙ its.2

  pub walk_lives : packet_of s n ≡ None → ⊥
  walk_lives none =
      let its : (q : Packet) × (find s.packets n ≡ Some q) × (q.completing ≡ true) =
      walked_if (find s.packets n) walk_held in
      let no : None ≡ Some its.0 = sym (found s n None none) ∙ its.1 in
      cc

  -- its cancel word is empty
  pub walk_unarmed : (p : Packet) → packet_of s n ≡ Some p → is_some p.armer ≡ false
  walk_unarmed p there =
      let nobody : unheld (find s.packets n) ≡ 0 = held_apart (find s.packets n) walk_held in
      let all : frame_rights states (Walk n) n + times_waiting set s n ≤ unheld (find s.packets n) =
      h.waiting n in
      empty_word p (packet_of s n) there (omega arith)
