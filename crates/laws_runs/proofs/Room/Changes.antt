-- What a change of one packet, or the end of one, leaves of the others: each is as it was, with its
-- way up and its cancel word.
use Rattle.laws_runs.proofs.Common.{arith, inl, inr, refl, subst, sym, ◌∙◌, cases_lt, eqb_tells, List, None, Some, if◌then◌else◌, nat_eq, ℕ, ◌+◌, ◌≡◌, ◌≢◌, ◌≤◌, ◌⊎◌, Set, Entry, Shared, packet_of, with_packet, without_packet, Armer, Frame, Packet, States, frame_rights, frame_walks, times_waiting}
use Rattle.laws_runs.proofs.Holders.Counts.{Holding}
use Rattle.laws_runs.proofs.Holders.Sums.{held, held_apart, unheld, unheld_one}
use Rattle.laws_runs.proofs.Past.LivePackets.{Rises, find, find_remove, find_set}
use Rattle.laws_runs.proofs.Past.Packets.{found, numbered}
use Rattle.laws_runs.proofs.Room.Waiting.{Keeps, SameWaiting}
use Rattle.laws_runs.proofs.Room.Ways.{Stays, WayUp, stays_same}

abbrev pub AllKeep : Shared → Shared → Type 0
AllKeep s after = (n : ℕ) → Keeps s after n

-- the way up of each live packet
abbrev pub AllWays : Set → Shared → Type 0
AllWays set s = (n : ℕ) (p : Packet) → find s.packets n ≡ Some p → WayUp set p

pub all_keep : (s : Shared) → AllKeep s s
all_keep s n q there = (q, there, stays_same q q refl refl)

pub ways_kept : (set : Set) (s after : Shared) → AllKeep s after → AllWays set s → AllWays set after
ways_kept set s after keeps ways n q there =
    let old : (p : Packet) × (find s.packets n ≡ Some p) × Stays p q = keeps n q there in
    old.2.way set (ways n old.0 old.1)

-- one packet is written back
module _ (s : Shared) (n : ℕ) (p q : Packet) (there : packet_of s n ≡ Some p)
    (same : q.number ≡ p.number) where
  pub changed : (m : ℕ) (r : Packet) → find (with_packet s n q).packets m ≡ Some r
      → ((n ≡ m) × (r ≡ q)) ⊎ ((n ≢ m) × (find s.packets m ≡ Some r))
  changed m r is =
      let after : find (with_packet s n q).packets m
      ≡ (if nat_eq n m then Some q else find s.packets m) =
      find_set s.packets n p q (found s n (Some p) there) (same ∙ numbered s n p there) m in
      let now : (if nat_eq n m then Some q else find s.packets m) ≡ Some r = sym after ∙ is in
      elim (eqb_tells n m) [
        | inl g ↦
            let both : Some q ≡ Some r = rw g.0 at now in
            let one : r ≡ q = cc in
            inl (g.1, one)
        | inr g ↦ inr (g.1, rw g.0 at now)
      ]

  pub keeps_other : (m : ℕ) → n ≢ m → Keeps s (with_packet s n q) m
  keeps_other m apart r is =
      elim (changed m r is) [
        | inl g ↦ absurd (apart g.0)
        | inr g ↦ (r, g.1, stays_same r r refl refl)
      ]

  pub keeps_set : Stays p q → AllKeep s (with_packet s n q)
  keeps_set stays m r is =
      elim (changed m r is) [
        | inl g ↦ (
          p,
          subst (λ (k : ℕ). find s.packets k ≡ Some p) g.0 (found s n (Some p) there),
          subst (λ (x : Packet). Stays p x) (sym g.1) stays,
        )
        | inr g ↦ (r, g.1, stays_same r r refl refl)
      ]

  pub ways_set : (set : Set) → (WayUp set p → WayUp set q) → AllWays set s
      → AllWays set (with_packet s n q)
  ways_set set on ways m r is =
      elim (changed m r is) [
        | inl g ↦
            subst (WayUp set) (sym g.1) (on (ways n p (found s n (Some p) there)))
        | inr g ↦ ways m r g.1
      ]

  pub words_set : ((armer : Armer) → q.armer ≡ Some armer → p.armer ≡ Some armer)
      → SameWaiting s (with_packet s n q)
  words_set kept =
      record {
        queues = refl;
        starts = refl;
        words = λ m r armer is named. elim (changed m r is) [
          | inl g ↦ (
            p,
            subst (λ (k : ℕ). find s.packets k ≡ Some p) g.0 (found s n (Some p) there),
            kept armer (subst (λ (x : Packet). x.armer ≡ Some armer) g.1 named),
          )
          | inr g ↦ (r, g.1, named)
        ];
      }

-- one is removed
pub found_before : (s : Shared) (n m : ℕ) (q : Packet) → Rises 0 s.packets s.issued
    → find (without_packet s n).packets m ≡ Some q → find s.packets m ≡ Some q
found_before s n m q rises there =
    let now : (if nat_eq n m then None else find s.packets m) ≡ Some q =
    sym (find_remove 0 s.packets s.issued n rises m) ∙ there in
    elim (eqb_tells n m) [
      | inl g ↦ let no : None ≡ Some q = rw g.0 at now in cc
      | inr g ↦ rw g.0 at now
    ]

-- a packet that waits in a list, a slot or by its cancel word is another one than those that a
-- frame has the right to, or completes
pub waits_apart : (set : Set) (states : States) (s : Shared) (past : List Entry) (f : Frame)
    → Holding set states s past f → (n : ℕ) → 1 ≤ times_waiting set s n
    → (frame_rights states f n ≡ 0) × (frame_walks f n ≡ 0)
waits_apart set states s past f holding n some =
    let all : frame_rights states f n + times_waiting set s n ≤ unheld (find s.packets n) =
    holding.waiting n in
    let one : unheld (find s.packets n) ≤ 1 = unheld_one (find s.packets n) in
    let walks : frame_walks f n ≤ held (find s.packets n) = holding.walks n in (
      omega arith,
      elim (cases_lt 0 (frame_walks f n)) [
        | inl walked ↦
            let none : unheld (find s.packets n) ≡ 0 = held_apart (find s.packets n) (omega arith)
            in
            absurd (omega arith)
        | inr free ↦ omega arith
      ],
    )
