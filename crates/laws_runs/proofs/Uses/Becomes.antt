-- What an event does to a packet and its uses: what becomes of it, case by case; and what a live
-- packet and the trace tell of each other is kept.
use Rattle.laws_runs.proofs.Common.{ap, arith, drop, inl, inr, refl, subst, sym, ◌-◌, ◌∙◌, eq-eqb, eqb_tells, length-replicate, length-set, Bool, List, None, Option, Some, [], false, if◌then◌else◌, length, replicate, slice_get, slice_set, true, ℕ, ◌<◌, ◌||◌, ◌∷◌, ◌≡◌, ◌≢◌, ◌≤◌, ◌⊎◌, depth, stack_size, is_use, marks_left, was_marked, Entry, Serving, current_use, uses, uses_opened, completion_of, copied_location, current_location, is_marked, mark_current, marked_location, new_packet, sent_down, unused_location, Major, Completion, Location, Packet, set_other}
use Rattle.laws_runs.proofs.Uses.Fates.{nth_use, Falls, MarksTell, PacketUses, Traced, Unleft}
use Rattle.laws_runs.proofs.Room.Locations.{marked_completion, marked_here, marked_other}
use Rattle.laws_runs.proofs.Uses.FateFacts.{copied_unmarked, written_unmarked}
use Rattle.laws_runs.proofs.Past.Stacks.{marked_length}
use Rattle.laws_runs.proofs.Uses.Traced.{SameUses}

-- what may become of a packet; the numbers are of the marks that a completion routine has still to
-- carry up
module _ (past later : List Entry) (n : ℕ) (before after : Option Packet) (late lately : ℕ) where
  -- nothing, to one that isn't live
  pub record IsGone : Type 0 where
    pub same : SameUses past later n
    pub was : before ≡ None
    pub gone : after ≡ None

  -- its marks stay, and what is carried up
  pub record IsKept : Type 0 where
    pub p : Packet
    pub q : Packet
    pub was : before ≡ Some p
    pub now : after ≡ Some q
    pub same : SameUses past later n
    pub marks : (k : ℕ)
        → is_marked (slice_get q.locations.items k) ≡ is_marked (slice_get p.locations.items k)
    pub routed : completion_of (slice_get q.locations.items 0)
        ≡ completion_of (slice_get p.locations.items 0)
    pub deep : q.depth ≡ p.depth
    pub long : length q.locations.items ≡ length p.locations.items
    pub stays : lately ≡ late
    pub completing : p.completing ≡ true → q.completing ≡ true

  -- its current location is marked, by the routine that it was handed or where a mark has to be
  -- carried up
  pub record IsMarked : Type 0 where
    pub p : Packet
    pub was : before ≡ Some p
    pub now : after ≡ Some (mark_current p)
    pub used : uses later n ≡ uses past n
    pub marked : (u : ℕ) → was_marked later (nth_use n u)
        ≡ (is_use n (current_use past n) (nth_use n u) || was_marked past (nth_use n u))
    pub left : (u : ℕ) → marks_left later (nth_use n u) ≡ marks_left past (nth_use n u)
    pub sized : stack_size later n ≡ stack_size past n
    pub due : (p.completing ≡ false) ⊎ (1 ≤ late)

  -- it is sent down in a location of its own
  pub record IsCalled : Type 0 where
    pub p : Packet
    pub device : ℕ
    pub completion : Option Completion
    pub was : before ≡ Some p
    pub now : after ≡ Some (sent_down p device completion)
    pub used : uses later n ≡ uses_opened past ∷ uses past n
    pub marked : (u : ℕ) → was_marked later (nth_use n u) ≡ was_marked past (nth_use n u)
    pub left : (u : ℕ) → marks_left later (nth_use n u) ≡ marks_left past (nth_use n u)
    pub sized : stack_size later n ≡ stack_size past n
    pub room : depth past n < stack_size past n
    pub free : p.completing ≡ false
    pub none : late ≡ 0
    pub still : lately ≡ 0

  -- whether a use was left as the current one
  abbrev pub LeavesCurrent : Type 0
  LeavesCurrent =
      (u : ℕ) → marks_left later (nth_use n u) ≡ (if is_use n (current_use past n) (nth_use n u)
      then was_marked past (nth_use n u) ∷ marks_left past (nth_use n u)
      else marks_left past (nth_use n u))

  -- its completion leaves the current location, whose mark has to be carried up; or it is lent, and
  -- the location above is marked
  pub record IsLeft : Type 0 where
    pub p : Packet
    pub q : Packet
    pub was : before ≡ Some p
    pub now : after ≡ Some q
    pub alike : q.locations.items ≡ p.locations.items
    pub higher : q.depth ≡ p.depth - 1
    pub used : uses later n ≡ drop 1 (uses past n)
    pub marked : (u : ℕ) → was_marked later (nth_use n u) ≡ was_marked past (nth_use n u)
    pub left : LeavesCurrent
    pub sized : stack_size later n ≡ stack_size past n
    pub more : 1 ≤ p.depth → completion_of (slice_get p.locations.items 0) ≡ None → 1 < p.depth
    pub done : p.completing ≡ true
    pub none : late ≡ 0
    pub carried : ((lately ≡ (if is_marked (current_location p) then 1 else 0))
        × (q.completing ≡ true))
        ⊎ ((lately ≡ 0) × (1 < p.depth → is_marked (current_location q) ≡ true))

  -- it tops out
  pub record IsTopped : Type 0 where
    pub p : Packet
    pub was : before ≡ Some p
    pub gone : after ≡ None
    pub left : LeavesCurrent
    pub shallow : p.depth ≤ 1
    pub none : late ≡ 0

  -- it is issued
  pub record IsIssued : Type 0 where
    pub device : ℕ
    pub major : Major
    pub argument : ℕ
    pub stack : ℕ
    pub was : before ≡ None
    pub now : after ≡ Some (new_packet n device major argument stack)
    pub used : uses later n ≡ uses_opened past ∷ []
    pub marked : (u : ℕ) → was_marked later (nth_use n u) ≡ was_marked past (nth_use n u)
    pub left : (u : ℕ) → marks_left later (nth_use n u) ≡ marks_left past (nth_use n u)
    pub sized : stack_size later n ≡ stack

-- what becomes of it
pub data Becomes (past later : List Entry) (n : ℕ) (before after : Option Packet) (late lately : ℕ)
    : Type 0 where
  never_live : IsGone past later n before after late lately
      → Becomes past later n before after late lately
  keeps_marks : IsKept past later n before after late lately
      → Becomes past later n before after late lately
  gets_marked : IsMarked past later n before after late lately
      → Becomes past later n before after late lately
  goes_down : IsCalled past later n before after late lately
      → Becomes past later n before after late lately
  goes_up : IsLeft past later n before after late lately
      → Becomes past later n before after late lately
  goes_out : IsTopped past later n before after late lately
      → Becomes past later n before after late lately
  comes_in : IsIssued past later n before after late lately
      → Becomes past later n before after late lately

pub record Turn (past later : List Entry) (n : ℕ) (before after : Option Packet) (late lately : ℕ)
    : Type 0 where
  pub grows : uses_opened past ≤ uses_opened later
  pub noted : (v : Serving) (k : ℕ) (marked : Bool) → slice_get (marks_left past v) k ≡ Some marked
      → (j : ℕ) × (slice_get (marks_left later v) j ≡ Some marked)
  pub how : Becomes past later n before after late lately

-- what a trace tells of a packet, if it is live
abbrev pub UsesIn : List Entry → ℕ → Option Packet → Type 0
UsesIn past n o = (p : Packet) → o ≡ Some p → PacketUses past n p

-- one other than the current use
pub not_use : (n v u : ℕ) → v ≢ u → is_use n (Some v) (nth_use n u) ≡ false
not_use n v u apart =
    elim (eqb_tells v u) [ inl e ↦ absurd (apart e.1) | inr e ↦ rw (e.0, eq-eqb n n refl) refl ]

pub own_use : (n u : ℕ) → is_use n (Some u) (nth_use n u) ≡ true
own_use n u = rw (eq-eqb n n refl, eq-eqb u u refl) refl

pub length_left : (used : List ℕ) → length (drop 1 used) ≡ length used - 1
length_left [] = refl
length_left (u ∷ upper) = omega arith

-- from one past to a later one
module _ (past later : List Entry) (n : ℕ) where
  -- uses before a number were left as before
  pub unleft_as : (bound : ℕ) (used : List ℕ) → Falls bound used
      → ((u : ℕ) → u < bound → marks_left later (nth_use n u) ≡ marks_left past (nth_use n u))
      → Unleft past n used → Unleft later n used
  unleft_as bound [] falls same h = tt
  unleft_as bound (u ∷ upper) falls same h =
      let l : u < bound = falls.0 in
      (same u l ∙ h.0, unleft_as u upper falls.1 (λ v m. same v (omega arith)) h.1)

  -- and their locations are marked as before
  pub marks_as : (bound : ℕ) (used : List ℕ) (locations others : List Location) → Falls bound used
      → ((u : ℕ) → u < bound → was_marked later (nth_use n u) ≡ was_marked past (nth_use n u))
      → ((k : ℕ) → k < length used → is_marked (slice_get others k)
      ≡ is_marked (slice_get locations k))
      → MarksTell past n used locations → MarksTell later n used others
  marks_as bound [] locations others falls same marks h = tt
  marks_as bound (u ∷ upper) locations others falls same marks h =
      let l : u < bound = falls.0 in (
        marks (length upper) (omega arith) ∙ h.0 ∙ sym (same u l),
        marks_as u upper locations others falls.1 (λ v m. same v (omega arith))
            (λ k m. marks k (omega arith)) h.1,
      )

  marked_tells : (bound : ℕ) (used : List ℕ) (locations : List Location) (place : ℕ)
      → Falls bound used → ((u : ℕ) → was_marked later (nth_use n u)
      ≡ (is_use n (slice_get used 0) (nth_use n u) || was_marked past (nth_use n u)))
      → place ≡ length used - 1 → length used ≤ length locations → MarksTell past n used locations
      → MarksTell later n used (marked_location (slice_get locations place) locations place)
  marked_tells bound [] locations place falls marked here within h = tt
  marked_tells bound (u ∷ upper) locations place falls marked here within h =
      let at : length upper ≡ place = omega arith in
      let inside : place < length locations = omega arith in (
        subst (λ (k : ℕ).
            is_marked (slice_get (marked_location (slice_get locations place) locations place) k)
            ≡ was_marked later (nth_use n u)) (sym at)
            (marked_here locations place inside ∙ sym (marked u ∙ rw (own_use n u) refl)),
        marks_as u upper locations (marked_location (slice_get locations place) locations place)
            falls.1
            (λ v l. marked v
            ∙ rw (not_use n u v (λ e. (let same : u ≡ v = e in absurd (omega arith)))) refl)
            (λ k l. ap is_marked (marked_other (slice_get locations place) locations place k
            (λ e. (let same : place ≡ k = e in absurd (omega arith))))) h.1,
      )

  -- the uses above one that was left
  left_unleft : (used : List ℕ) (bound : ℕ) → Falls bound used
      → ((u : ℕ) → marks_left later (nth_use n u) ≡ (if is_use n (slice_get used 0) (nth_use n u)
      then was_marked past (nth_use n u) ∷ marks_left past (nth_use n u)
      else marks_left past (nth_use n u))) → Unleft past n used → Unleft later n (drop 1 used)
  left_unleft [] bound falls left h = tt
  left_unleft (u ∷ upper) bound falls left h =
      unleft_as u upper falls.1
      (λ v l. left v ∙ rw (not_use n u v (λ e. (let same : u ≡ v = e in absurd (omega arith))))
      refl) h.1

  left_marks : (used : List ℕ) (bound : ℕ) (locations : List Location) → Falls bound used
      → ((u : ℕ) → was_marked later (nth_use n u) ≡ was_marked past (nth_use n u))
      → MarksTell past n used locations → MarksTell later n (drop 1 used) locations
  left_marks [] bound locations falls marked h = tt
  left_marks (u ∷ upper) bound locations falls marked h =
      marks_as u upper locations locations falls.1 (λ v l. marked v) (λ k l. refl) h.1

-- what a live packet and the trace tell of each other is kept, whatever becomes of the packet
module _ (past later : List Entry) (n : ℕ) (before after : Option Packet) (late lately : ℕ)
    (traced : Traced past) (h : UsesIn past n before) where
  uses_of : (q : Packet) → after ≡ Some q → PacketUses later n q → UsesIn later n after
  uses_of q now uses_now p there =
      let both : Some q ≡ Some p = sym now ∙ there in
      let same : q ≡ p = cc in
      subst (λ (x : Packet). PacketUses later n x) same uses_now

  no_uses : after ≡ None → UsesIn later n after
  no_uses gone p there = let no : None ≡ Some p = sym gone ∙ there in cc

  kept_uses : IsKept past later n before after late lately → UsesIn later n after
  kept_uses turn =
      let used : PacketUses past n turn.p = h turn.p turn.was in
      let deep : length (uses past n) ≡ turn.p.depth = used.deep in
      let within : turn.p.depth ≤ length turn.p.locations.items = used.within in
      let sized : stack_size past n ≤ length turn.p.locations.items = used.sized in
      let size : stack_size later n ≡ stack_size past n = turn.same.sized in
      let depth_same : turn.q.depth ≡ turn.p.depth = turn.deep in
      let long : length turn.q.locations.items ≡ length turn.p.locations.items = turn.long in
      uses_of turn.q turn.now (record {
        deep = ap length turn.same.used ∙ deep ∙ sym depth_same;
        some = let some : 1 ≤ turn.p.depth = used.some in omega arith;
        rooted = turn.routed ∙ used.rooted;
        within = omega arith;
        sized = omega arith;
        unleft = subst (λ (all : List ℕ). Unleft later n all) (sym turn.same.used)
            (unleft_as past later n (uses_opened past) (uses past n) (traced.falls n)
            (λ u l. turn.same.left u) used.unleft);
        marks = subst (λ (all : List ℕ). MarksTell later n all turn.q.locations.items)
            (sym turn.same.used)
            (marks_as past later n (uses_opened past) (uses past n) turn.p.locations.items
            turn.q.locations.items
            (traced.falls n) (λ u l. turn.same.marked u) (λ k l. turn.marks k) used.marks);
      })

  marked_uses : IsMarked past later n before after late lately → UsesIn later n after
  marked_uses turn =
      let p : Packet = turn.p in
      let used : PacketUses past n p = h p turn.was in
      let deep : length (uses past n) ≡ p.depth = used.deep in
      let within : p.depth ≤ length p.locations.items = used.within in
      let sized : stack_size past n ≤ length p.locations.items = used.sized in
      let size : stack_size later n ≡ stack_size past n = turn.sized in
      let place : ℕ = p.depth - 1 in
      let long : length (marked_location (slice_get p.locations.items place) p.locations.items
      place)
      ≡ length p.locations.items =
      marked_length (slice_get p.locations.items place) p.locations.items place in
      uses_of (mark_current p) turn.now (record {
        deep = ap length turn.used ∙ deep;
        some = used.some;
        rooted = marked_completion p.locations.items place 0 ∙ used.rooted;
        within = omega arith;
        sized = omega arith;
        unleft = subst (λ (all : List ℕ). Unleft later n all) (sym turn.used)
            (unleft_as past later n (uses_opened past) (uses past n) (traced.falls n)
            (λ u l. turn.left u) used.unleft);
        marks = subst (λ (all : List ℕ). MarksTell later n all (mark_current p).locations.items)
            (sym turn.used)
            (marked_tells past later n (uses_opened past) (uses past n) p.locations.items place
            (traced.falls n)
            turn.marked (omega arith) (omega arith) used.marks);
      })

  called_uses : IsCalled past later n before after late lately → UsesIn later n after
  called_uses turn =
      let p : Packet = turn.p in
      let l : Location = copied_location (current_location p) turn.device turn.completion in
      let used : PacketUses past n p = h p turn.was in
      let deep : length (uses past n) ≡ p.depth = used.deep in
      let depths : depth past n ≡ length (uses past n) = traced.depths n in
      let room : depth past n < stack_size past n = turn.room in
      let within : p.depth ≤ length p.locations.items = used.within in
      let sized : stack_size past n ≤ length p.locations.items = used.sized in
      let size : stack_size later n ≡ stack_size past n = turn.sized in
      let long : length (slice_set p.locations.items p.depth l) ≡ length p.locations.items =
      length-set p.locations.items p.depth l in
      let fresh : marks_left past (nth_use n (uses_opened past)) ≡ [] =
      traced.never_left (nth_use n (uses_opened past)) (omega arith) in
      let unmarked : was_marked past (nth_use n (uses_opened past)) ≡ false =
      traced.never_marked (nth_use n (uses_opened past)) (omega arith) in
      uses_of (sent_down p turn.device turn.completion) turn.now (record {
        deep = ap length turn.used ∙ omega arith;
        some = omega arith;
        rooted = ap completion_of (set_other p.locations.items p.depth 0 l
            (λ e. (let none : p.depth ≡ 0 = e in let some : 1 ≤ p.depth =
            used.some in absurd (omega arith))))
            ∙ used.rooted;
        within = omega arith;
        sized = omega arith;
        unleft = subst (λ (all : List ℕ). Unleft later n all) (sym turn.used) (
          turn.left (uses_opened past) ∙ fresh,
          unleft_as past later n (uses_opened past) (uses past n) (traced.falls n)
              (λ u m. turn.left u) used.unleft,
        );
        marks = subst
            (λ (all : List ℕ). MarksTell later n all (slice_set p.locations.items p.depth l))
            (sym turn.used) (
              subst (λ (k : ℕ). is_marked (slice_get (slice_set p.locations.items p.depth l) k)
                  ≡ was_marked later (nth_use n (uses_opened past))) (sym deep)
                  (written_unmarked p.locations.items p.depth l
                  (copied_unmarked (current_location p) turn.device turn.completion) (omega arith)
                  ∙ sym (turn.marked (uses_opened past) ∙ unmarked)),
              marks_as past later n (uses_opened past) (uses past n) p.locations.items
                  (slice_set p.locations.items p.depth l) (traced.falls n) (λ u m. turn.marked u)
                  (λ k m. ap is_marked (set_other p.locations.items p.depth k l
                  (λ e. (let same : p.depth ≡ k = e in absurd (omega arith))))) used.marks,
            );
      })

  left_uses : IsLeft past later n before after late lately → UsesIn later n after
  left_uses turn =
      let p : Packet = turn.p in
      let q : Packet = turn.q in
      let used : PacketUses past n p = h p turn.was in
      let deep : length (uses past n) ≡ p.depth = used.deep in
      let within : p.depth ≤ length p.locations.items = used.within in
      let sized : stack_size past n ≤ length p.locations.items = used.sized in
      let size : stack_size later n ≡ stack_size past n = turn.sized in
      let higher : q.depth ≡ p.depth - 1 = turn.higher in
      let long : length q.locations.items ≡ length p.locations.items = ap length turn.alike in
      uses_of q turn.now (record {
        deep = ap length turn.used ∙ length_left (uses past n) ∙ ap (λ (d : ℕ). d - 1) deep
            ∙ sym higher;
        some = omega (arith, turn.more used.some used.rooted);
        rooted = ap (λ (ls : List Location). completion_of (slice_get ls 0)) turn.alike
            ∙ used.rooted;
        within = omega arith;
        sized = omega arith;
        unleft = subst (λ (all : List ℕ). Unleft later n all) (sym turn.used)
            (left_unleft past later n (uses past n) (uses_opened past) (traced.falls n) turn.left
            used.unleft);
        marks = subst (λ (all : List ℕ). MarksTell later n all q.locations.items) (sym turn.used)
            (subst (λ (ls : List Location). MarksTell later n (drop 1 (uses past n)) ls)
            (sym turn.alike)
            (left_marks past later n (uses past n) (uses_opened past) p.locations.items
            (traced.falls n) turn.marked
            used.marks));
      })

  issued_uses : IsIssued past later n before after late lately → UsesIn later n after
  issued_uses turn =
      let long : length (replicate (turn.stack - 1) unused_location) ≡ turn.stack - 1 =
      length-replicate (turn.stack - 1) unused_location in
      let fresh : marks_left past (nth_use n (uses_opened past)) ≡ [] =
      traced.never_left (nth_use n (uses_opened past)) (omega arith) in
      let unmarked : was_marked past (nth_use n (uses_opened past)) ≡ false =
      traced.never_marked (nth_use n (uses_opened past)) (omega arith) in
      let size : stack_size later n ≡ turn.stack = turn.sized in
      let p : Packet = new_packet n turn.device turn.major turn.argument turn.stack in
      uses_of p turn.now (record {
        deep = ap length turn.used;
        some = omega arith;
        rooted = refl;
        within = omega arith;
        sized = omega arith;
        unleft = subst (λ (all : List ℕ). Unleft later n all) (sym turn.used)
            (turn.left (uses_opened past) ∙ fresh, tt);
        marks = subst (λ (all : List ℕ). MarksTell later n all p.locations.items) (sym turn.used)
            (sym (turn.marked (uses_opened past) ∙ unmarked), tt);
      })

  becomes_uses : Becomes past later n before after late lately → UsesIn later n after
  becomes_uses (never_live gone) = no_uses gone.gone
  becomes_uses (keeps_marks kept) = kept_uses kept
  becomes_uses (gets_marked marked) = marked_uses marked
  becomes_uses (goes_down called) = called_uses called
  becomes_uses (goes_up left) = left_uses left
  becomes_uses (goes_out topped) = no_uses topped.gone
  becomes_uses (comes_in issued) = issued_uses issued

  pub uses_turn : Turn past later n before after late lately → UsesIn later n after
  uses_turn turn = becomes_uses turn.how

-- two turns, one after the other
pub record TurnsTwice (past later : List Entry) (n : ℕ) (before after : Option Packet)
    (late lately : ℕ) : Type 0 where
  pub middle : List Entry
  pub between : Option Packet
  pub midway : ℕ
  pub traced : Traced past → Traced middle
  pub first : Turn past middle n before between late midway
  pub second : Turn middle later n between after midway lately

abbrev pub Turns : List Entry → List Entry → ℕ → Option Packet → Option Packet → ℕ → ℕ → Type 0
Turns past later n before after late lately =
    Turn past later n before after late lately ⊎ TurnsTwice past later n before after late lately

pub uses_turns : (past later : List Entry) (n : ℕ) (before after : Option Packet) (late lately : ℕ)
    → Traced past
    → UsesIn past n before → Turns past later n before after late lately → UsesIn later n after
uses_turns past later n before after late lately traced h (inl turn) =
    uses_turn past later n before after late lately traced h turn
uses_turns past later n before after late lately traced h (inr turns) =
    uses_turn turns.middle later n turns.between after turns.midway lately (turns.traced traced)
    (uses_turn past turns.middle n before turns.between late turns.midway traced h turns.first)
    turns.second
