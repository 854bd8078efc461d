-- What a step of a frame does to each packet and its uses, and to the marks that have still to be
-- carried up.
use Rattle.laws_runs.proofs.Common.{ap, arith, inl, inr, refl, subst, sym, ◌∙◌, eq-eqb, eqb_tells, list_any, Bool, List, None, Option, Some, false, length, nat_eq, slice_get, slice_set, true, ℕ, ◌+◌, ◌≡◌, ◌≤◌, Action, Outcome, leaves, Actor, Entry, recorded, Shared, completion_of, is_marked, packet_of, place_of, with_packet, Frame, Walk, Packet, States}
use Rattle.laws_runs.proofs.Holders.Sums.{held}
use Rattle.laws_runs.proofs.Past.LivePackets.{find, find_set}
use Rattle.laws_runs.proofs.Past.Packets.{found, numbered}
use Rattle.laws_runs.proofs.Uses.Becomes.{Becomes, Turns, keeps_marks, never_live}
use Rattle.laws_runs.proofs.Uses.Fates.{late_in, late_on}
use Rattle.laws_runs.proofs.Uses.Traced.{SameUses, is_about, noted_recorded, opened_recorded, same_recorded}

-- the marks that have still to be carried up, by Irp->PendingReturned, before a step of a frame
-- over another one and after it
pub record Lates (states : States) (n : ℕ) (under : Option Frame) (f : Frame) (frames : List Frame)
    (o : Option Packet) (late lately : Bool → ℕ) : Type 0 where
  pub even : (returned : Bool) → lately returned + late_on states returned n under f
      ≡ late returned + late_in states returned n under frames
  pub own : (returned : Bool) → late_on states returned n under f ≤ late returned
  pub free : held o ≡ 0 → (returned : Bool) → late returned ≡ 0
  pub walked : f ≡ Walk n → (returned : Bool) → late returned ≡ 0

-- of a packet, if it is live
abbrev pub late_of : (Bool → ℕ) → Option Packet → ℕ
late_of late None = 0
late_of late (Some p) = late p.pending_returned

pub turn_recorded : (past : List Entry) (actor : Actor) (actions : List Action) (n : ℕ)
    (before after : Option Packet) (late lately : ℕ)
    → Becomes past (recorded past actor actions) n before after late lately
    → Turns past (recorded past actor actions) n before after late lately
turn_recorded past actor actions n before after late lately how =
    inl (record {
      grows = opened_recorded past actor actions;
      noted = λ v k marked h. noted_recorded past actor actions v k marked h;
      how = how;
    })

-- nothing happens to a packet
pub apart_becomes : (past later : List Entry) (n : ℕ) (before after : Option Packet)
    (late lately : Bool → ℕ)
    → SameUses past later n → after ≡ before
    → ((p : Packet) → before ≡ Some p → lately p.pending_returned ≡ late p.pending_returned)
    → Becomes past later n before after (late_of late before) (late_of lately after)
apart_becomes past later n None after late lately same there h =
    never_live (record { same = same; was = refl; gone = there })
apart_becomes past later n (Some p) after late lately same there h =
    keeps_marks (record {
      p = p;
      q = p;
      was = refl;
      now = there;
      same = same;
      marks = λ k. refl;
      routed = refl;
      deep = refl;
      long = refl;
      stays = ap (late_of lately) there ∙ h p refl;
      completing = λ done. done;
    })

-- a packet that is written back is found, and the others are as before
pub found_put : (s : Shared) (n : ℕ) (p q : Packet) → find s.packets n ≡ Some p → q.number ≡ n
    → find (slice_set s.packets (place_of s.packets n) q) n ≡ Some q
found_put s n p q there number = find_set s.packets n p q there number n ∙ rw (eq-eqb n n refl) refl

pub found_other : (s : Shared) (n m : ℕ) (p q : Packet) → find s.packets n ≡ Some p → q.number ≡ n
    → nat_eq n m ≡ false → find (slice_set s.packets (place_of s.packets n) q) m ≡ find s.packets m
found_other s n m p q there number apart = find_set s.packets n p q there number m ∙ rw apart refl

-- what a step does to a packet, and to each
module _ (states : States) (s : Shared) (past : List Entry) (actor : Actor) (under : Option Frame)
    (f : Frame) where
  abbrev pub UseAt : Outcome → ℕ → Type 0
  UseAt o n =
      (late lately : Bool → ℕ) → Lates states n under f o.frames (find s.packets n) late lately
      → Turns past (recorded past actor o.actions) n (find s.packets n) (find o.shared.packets n)
      (late_of late (find s.packets n)) (late_of lately (find o.shared.packets n))

  abbrev pub UseStep : Outcome → Type 0
  UseStep o = (n : ℕ) → UseAt o n

  pub becomes_at : (o : Outcome) (n : ℕ)
      → ((late lately : Bool → ℕ) → Lates states n under f o.frames (find s.packets n) late lately
      → Becomes past (recorded past actor o.actions) n (find s.packets n) (find o.shared.packets n)
      (late_of late (find s.packets n)) (late_of lately (find o.shared.packets n))) → UseAt o n
  becomes_at o n h late lately lates =
      turn_recorded past actor o.actions n (find s.packets n) (find o.shared.packets n)
      (late_of late (find s.packets n)) (late_of lately (find o.shared.packets n))
      (h late lately lates)

  pub record Apart (o : Outcome) (n : ℕ) : Type 0 where
    pub there : find o.shared.packets n ≡ find s.packets n
    pub quiet : list_any (is_about n) o.actions ≡ false
    pub late : (p : Packet) → find s.packets n ≡ Some p
        → late_in states p.pending_returned n under o.frames
        ≡ late_on states p.pending_returned n under f

  pub apart_at : (o : Outcome) (n : ℕ) → Apart o n → UseAt o n
  apart_at o n h =
      becomes_at o n (λ late lately lates.
      apart_becomes past (recorded past actor o.actions) n (find s.packets n)
      (find o.shared.packets n) late lately
      (same_recorded past actor o.actions n h.quiet) h.there
      (λ p there.
      omega (arith, lates.even p.pending_returned, h.late p there)))

  -- something happens to one packet alone
  pub split_step : (o : Outcome) (n : ℕ) → UseAt o n → ((m : ℕ) → nat_eq n m ≡ false → Apart o m)
      → UseStep o
  split_step o n own others m =
      elim (eqb_tells n m) [
        | inl e ↦ subst (λ (k : ℕ). UseAt o k) e.1 own
        | inr e ↦ apart_at o m (others m e.0)
      ]

  -- its marks stay, and what has to be carried up
  pub record Keeps (o : Outcome) (n : ℕ) (p q : Packet) : Type 0 where
    pub there : find s.packets n ≡ Some p
    pub now : find o.shared.packets n ≡ Some q
    pub returned : q.pending_returned ≡ p.pending_returned
    pub marks : (k : ℕ)
        → is_marked (slice_get q.locations.items k) ≡ is_marked (slice_get p.locations.items k)
    pub routed : completion_of (slice_get q.locations.items 0)
        ≡ completion_of (slice_get p.locations.items 0)
    pub deep : q.depth ≡ p.depth
    pub long : length q.locations.items ≡ length p.locations.items
    pub completing : p.completing ≡ true → q.completing ≡ true
    pub quiet : list_any (is_about n) o.actions ≡ false
    pub late : late_in states p.pending_returned n under o.frames
        ≡ late_on states p.pending_returned n under f

  pub kept_at : (o : Outcome) (n : ℕ) (p q : Packet) → Keeps o n p q → UseAt o n
  kept_at o n p q h =
      becomes_at o n (λ late lately lates.
      let even : lately p.pending_returned + late_on states p.pending_returned n under f
      ≡ late p.pending_returned + late_in states p.pending_returned n under o.frames =
      lates.even p.pending_returned in
      let same : late_in states p.pending_returned n under o.frames
      ≡ late_on states p.pending_returned n under f =
      h.late in
      let stays : lately p.pending_returned ≡ late p.pending_returned = omega arith in
      keeps_marks (record {
        p = p;
        q = q;
        was = h.there;
        now = h.now;
        same = same_recorded past actor o.actions n h.quiet;
        marks = h.marks;
        routed = h.routed;
        deep = h.deep;
        long = h.long;
        stays = ap (late_of lately) h.now ∙ ap lately h.returned ∙ stays
            ∙ sym (ap (late_of late) h.there);
        completing = h.completing;
      }))

  -- one packet is written back with its marks as they were
  pub written_step : (n : ℕ) (p q : Packet) (frames : List Frame) (actions : List Action)
      → packet_of s n ≡ Some p
      → q.number ≡ p.number → q.pending_returned ≡ p.pending_returned
      → ((k : ℕ) → is_marked (slice_get q.locations.items k)
      ≡ is_marked (slice_get p.locations.items k))
      → completion_of (slice_get q.locations.items 0)
      ≡ completion_of (slice_get p.locations.items 0)
      → q.depth ≡ p.depth → length q.locations.items ≡ length p.locations.items
      → (p.completing ≡ true → q.completing ≡ true)
      → ((m : ℕ) → list_any (is_about m) actions ≡ false)
      → ((returned : Bool) (m : ℕ) → late_in states returned m under frames
      ≡ late_on states returned m under f)
      → UseStep (leaves (with_packet s n q) frames actions)
  written_step n p q frames actions there number returned marks routed deep long completing quiet
      late =
      let at : find s.packets n ≡ Some p = found s n (Some p) there in
      let same : q.number ≡ n = number ∙ numbered s n p there in
      let o : Outcome = leaves (with_packet s n q) frames actions in
      split_step o n
      (kept_at o n p q
      (record {
        there = at;
        now = found_put s n p q at same;
        returned = returned;
        marks = marks;
        routed = routed;
        deep = deep;
        long = long;
        completing = completing;
        quiet = quiet n;
        late = late p.pending_returned n;
      }))
      (λ m apart. record {
        there = found_other s n m p q at same apart;
        quiet = quiet m;
        late = λ x is. late x.pending_returned m;
      })
