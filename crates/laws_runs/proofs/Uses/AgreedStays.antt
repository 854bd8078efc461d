-- What was agreed on for a use isn't broken by what becomes of its packet, and what waits for the
-- use below goes on to, until that is left.
use Rattle.laws_runs.proofs.Common.{ap, arith, drop, inl, inr, refl, subst, sym, zero, ◌-◌, ◌∙◌, lt-ltb, eqb_tells, All, Bool, List, None, Option, Some, [], false, if◌then◌else◌, length, nat_eq, nat_lt, slice_get, slice_set, suc, true, ℕ, ◌<◌, ◌||◌, ◌∷◌, ◌≡◌, ◌≤◌, ◌⊎◌, is_use, marks_left, was_marked, Entry, Serving, uses, uses_opened, copied_location, current_location, is_marked, mark_current, marked_location, new_packet, sent_down, Location, Packet, set_other}
use Rattle.laws_runs.proofs.Uses.Fates.{nth_use, Falls, MarksTell, PacketUses, Traced, fate_in}
use Rattle.laws_runs.proofs.Room.Locations.{marked_here}
use Rattle.laws_runs.proofs.Uses.FateFacts.{copied_unmarked, fate_absent, fate_head, fate_marked, fate_rest, fate_same, fate_there, fate_true, written_unmarked}
use Rattle.laws_runs.proofs.Uses.Becomes.{Becomes, comes_in, gets_marked, goes_down, goes_out, goes_up, keeps_marks, never_live, IsCalled, IsIssued, IsKept, IsLeft, IsMarked, IsTopped, LeavesCurrent, Turn, Turns, UsesIn, not_use, uses_turn}

-- what is agreed on for a use of a packet, by the packet and the marks that have still to be
-- carried up
pub record AgreedIn (past : List Entry) (v : Serving) (o : Option Packet) (late : ℕ) (b : Bool)
    : Type 0 where
  pub opened : v.«use» < uses_opened past
  pub left : All (λ marked. marked ≡ b) (marks_left past v)
  pub stands : (p : Packet) (marked : Bool) → o ≡ Some p
      → fate_in (uses past v.packet) p.locations.items (nat_lt 0 late) v.«use» ≡ Some marked
      → (marked ≡ b) × ((b ≡ true) ⊎ (p.completing ≡ true))

-- a live packet's fate alone counts
pub stands_of : (later : List Entry) (v : Serving) (after : Option Packet) (lately : ℕ) (b : Bool)
    (q : Packet)
    → after ≡ Some q
    → ((marked : Bool) → fate_in (uses later v.packet) q.locations.items (nat_lt 0 lately) v.«use»
    ≡ Some marked
    → (marked ≡ b) × ((b ≡ true) ⊎ (q.completing ≡ true)))
    → (p : Packet) (marked : Bool) → after ≡ Some p
    → fate_in (uses later v.packet) p.locations.items (nat_lt 0 lately) v.«use» ≡ Some marked
    → (marked ≡ b) × ((b ≡ true) ⊎ (p.completing ≡ true))
stands_of later v after lately b q now h p marked there =
    let both : Some q ≡ Some p = sym now ∙ there in
    let same : q ≡ p = cc in
    subst (λ (x : Packet). fate_in (uses later v.packet) x.locations.items (nat_lt 0 lately) v.«use»
    ≡ Some marked
    → (marked ≡ b) × ((b ≡ true) ⊎ (x.completing ≡ true))) same (h marked)

completes_still : (p q : Packet) (b : Bool) → (p.completing ≡ true → q.completing ≡ true)
    → (b ≡ true) ⊎ (p.completing ≡ true) → (b ≡ true) ⊎ (q.completing ≡ true)
completes_still p q b h (inl is) = inl is
completes_still p q b h (inr is) = inr (h is)

-- where the current location is marked, every fate is true
all_marked : (used : List ℕ) (locations : List Location) (below : Bool) (u : ℕ) (marked : Bool)
    (place : ℕ)
    → place ≡ length used - 1 → length used ≤ length locations
    → fate_in used (marked_location (slice_get locations place) locations place) below u
    ≡ Some marked
    → marked ≡ true
all_marked [] locations below u marked place at within h = cc
all_marked (v ∷ upper) locations below u marked place at within h =
    let here : length upper ≡ place = omega arith in
    fate_marked (v ∷ upper) (marked_location (slice_get locations place) locations place) below u
    marked v upper refl
    (subst (λ (k : ℕ).
    is_marked (slice_get (marked_location (slice_get locations place) locations place) k)
    ≡ true)
    (sym here) (marked_here locations place (omega arith))) h

-- a mark that is due: what was agreed on is true
due_true : (used : List ℕ) (p : Packet) (late u : ℕ) (marked b : Bool) → (p.completing ≡ false)
    ⊎ (1 ≤ late)
    → fate_in used p.locations.items (nat_lt 0 late) u ≡ Some marked → marked ≡ b
    → (b ≡ true) ⊎ (p.completing ≡ true) → b ≡ true
due_true used p late u marked b (inl free) is same (inl known_true) = known_true
due_true used p late u marked b (inl free) is same (inr done) = let no : false ≡ true =
    sym free ∙ done in cc
due_true used p zero u marked b (inr due) is same known = absurd (omega arith)
due_true used p (suc late) u marked b (inr due) is same known =
    let more : nat_lt 0 (suc late) ≡ true = lt-ltb 0 (suc late) (omega arith) in
    sym same ∙ fate_true used p.locations.items u marked (rw more at is)

all_cons : (P : Bool → Type 0) (x : Bool) (xs : List Bool) → P x → All P xs → All P (x ∷ xs)
all_cons P x xs one others zero d l = one
all_cons P x xs one others (suc k) d l = others k d (omega arith)

-- the marks that a use was left with, after its packet's current one was left
left_all : (past later : List Entry) (n u : ℕ) (b : Bool) (now : Bool)
    → marks_left later (nth_use n u) ≡ (if now then was_marked past (nth_use n u) ∷ marks_left past
    (nth_use n u) else marks_left past (nth_use n u))
    → (now ≡ true → was_marked past (nth_use n u) ≡ b)
    → All (λ marked. marked ≡ b) (marks_left past (nth_use n u))
    → All (λ marked. marked ≡ b) (marks_left later (nth_use n u))
left_all past later n u b true left known h =
    subst (λ (xs : List Bool). All (λ marked. marked ≡ b) xs) (sym left)
    (all_cons (λ marked. marked ≡ b) (was_marked past (nth_use n u))
    (marks_left past (nth_use n u)) (known refl) h)
left_all past later n u b false left known h =
    subst (λ (xs : List Bool). All (λ marked. marked ≡ b) xs) (sym left) h

-- the current use is left with the mark that was agreed on
current_known : (past : List Entry) (n u : ℕ) (used : List ℕ) (p : Packet) (late : ℕ) (b : Bool)
    → late ≡ 0
    → MarksTell past n used p.locations.items
    → ((marked : Bool) → fate_in used p.locations.items (nat_lt 0 late) u ≡ Some marked
    → marked ≡ b)
    → is_use n (slice_get used 0) (nth_use n u) ≡ true → was_marked past (nth_use n u) ≡ b
current_known past n u [] p late b none tells known is = cc
current_known past n u (v ∷ upper) p late b none tells known is =
    elim (eqb_tells v u) [
      | inl e ↦
          subst (λ (x : ℕ). was_marked past (nth_use n x) ≡ b) e.1
          (sym tells.0 ∙ known (is_marked (slice_get p.locations.items (length upper)))
          (subst (λ (x : ℕ). fate_in (v ∷ upper) p.locations.items (nat_lt 0 late) x
          ≡ Some (is_marked (slice_get p.locations.items (length upper)))) e.1
          (fate_head v upper p.locations.items (nat_lt 0 late) ∙ rw none refl)))
      | inr e ↦ let no : false ≡ true = sym (not_use n v u e.1) ∙ is in cc
    ]

pub bit_below : (b : Bool) → nat_lt 0 (if b then 1 else 0) ≡ b
bit_below true = refl
bit_below false = refl

-- the fates of the others are as before
left_fates : (used : List ℕ) (bound : ℕ) (locations : List Location) (late lately place u : ℕ)
    (marked : Bool)
    → Falls bound used → late ≡ 0
    → lately ≡ (if is_marked (slice_get locations place) then 1 else 0) → place ≡ length used - 1
    → fate_in (drop 1 used) locations (nat_lt 0 lately) u ≡ Some marked
    → fate_in used locations (nat_lt 0 late) u ≡ Some marked
left_fates [] bound locations late lately place u marked falls none carried at h = cc
left_fates (v ∷ upper) bound locations late lately place u marked falls none carried at h =
    let here : length upper ≡ place = omega arith in
    let below : nat_lt 0 lately ≡ is_marked (slice_get locations (length upper)) =
    ap (λ (x : ℕ). nat_lt 0 x) carried ∙ bit_below (is_marked (slice_get locations place))
    ∙ ap (λ (k : ℕ). is_marked (slice_get locations k)) (sym here) in
    elim (eqb_tells v u) [
      | inl e ↦
          let same : v ≡ u = e.1 in
          let absent : fate_in upper locations (nat_lt 0 lately) u ≡ None =
          fate_absent v upper locations (nat_lt 0 lately) u falls.1 (omega arith) in
          let no : None ≡ Some marked = sym absent ∙ h in cc
      | inr e ↦ fate_rest v u upper locations (nat_lt 0 late) e.0 ∙ rw (none, ← below) h
    ]

-- where the location above is marked, the others were true and are
lent_true : (used : List ℕ) (bound : ℕ) (locations : List Location) (below under : Bool)
    (place u : ℕ)
    (marked : Bool)
    → Falls bound used → place ≡ length used - 1 - 1 → is_marked (slice_get locations place) ≡ true
    → fate_in (drop 1 used) locations under u ≡ Some marked
    → (marked ≡ true) × (fate_in used locations below u ≡ Some true)
lent_true (v ∷ x ∷ upper) bound locations below under place u marked falls at here h =
    let same : length upper ≡ place = omega arith in
    let is : is_marked (slice_get locations (length upper)) ≡ true =
    ap (λ (k : ℕ). is_marked (slice_get locations k)) same ∙ here in
    let next : Bool = below || is_marked (slice_get locations (length (x ∷ upper))) in
    let there : (other : Bool) × (fate_in (x ∷ upper) locations next u ≡ Some other) =
    fate_there (x ∷ upper) locations locations under next u marked h in
    let all : there.0 ≡ true =
    fate_marked (x ∷ upper) locations next u there.0 x upper refl is there.1 in (
      fate_marked (x ∷ upper) locations under u marked x upper refl is h,
      elim (eqb_tells v u) [
        | inl e ↦
            let same_use : v ≡ u = e.1 in
            let absent : fate_in (x ∷ upper) locations under u ≡ None =
            fate_absent v (x ∷ upper) locations under u falls.1 (omega arith) in
            let no : None ≡ Some marked = sym absent ∙ h in cc
        | inr e ↦ fate_rest v u (x ∷ upper) locations below e.0 ∙ there.1
            ∙ ap (λ (b : Bool). Some b) all
      ],
    )
lent_true _ bound locations below under place u marked falls at here h = cc

-- whatever becomes of the packet
module _ (past later : List Entry) (v : Serving) (before after : Option Packet) (late lately : ℕ)
    (b : Bool)
    (traced : Traced past) (in_past : UsesIn past v.packet before)
    (grows : uses_opened past ≤ uses_opened later)
    (h : AgreedIn past v before late b) where
  abbrev Stays : Type 0
  Stays = AgreedIn later v after lately b

  still_opened : v.«use» < uses_opened later
  still_opened = let opened : v.«use» < uses_opened past = h.opened in omega arith

  not_fresh : nat_eq (uses_opened past) v.«use» ≡ false
  not_fresh =
      let opened : v.«use» < uses_opened past = h.opened in
      elim (eqb_tells (uses_opened past) v.«use») [
        | inl e ↦ let same : uses_opened past ≡ v.«use» = e.1 in absurd (omega arith)
        | inr e ↦ e.0
      ]

  left_as : marks_left later v ≡ marks_left past v → All (λ marked. marked ≡ b) (marks_left later v)
  left_as same = subst (λ (xs : List Bool). All (λ marked. marked ≡ b) xs) (sym same) h.left

  -- its current use is left
  left_now : (p : Packet) → before ≡ Some p → late ≡ 0
      → LeavesCurrent past later v.packet before after late lately
      → All (λ marked. marked ≡ b) (marks_left later v)
  left_now p was none left =
      left_all past later v.packet v.«use» b (is_use v.packet (slice_get (uses past v.packet) 0) v)
      (left v.«use»)
      (current_known past v.packet v.«use» (uses past v.packet) p late b none (in_past p was).marks
      (λ marked is. (h.stands p marked was is).0)) h.left

  agreed_gone : marks_left later v ≡ marks_left past v → after ≡ None → Stays
  agreed_gone same gone =
      record {
        opened = still_opened;
        left = left_as same;
        stands = λ p marked there. (let no : None ≡ Some p = sym gone ∙ there in cc);
      }

  agreed_kept : IsKept past later v.packet before after late lately → Stays
  agreed_kept turn =
      let same : fate_in (uses later v.packet) turn.q.locations.items (nat_lt 0 lately) v.«use»
      ≡ fate_in (uses past v.packet) turn.p.locations.items (nat_lt 0 late) v.«use» =
      ap (λ (used : List ℕ). fate_in used turn.q.locations.items (nat_lt 0 lately) v.«use»)
      turn.same.used
      ∙ ap (λ (x : ℕ). fate_in (uses past v.packet) turn.q.locations.items (nat_lt 0 x) v.«use»)
      turn.stays
      ∙ fate_same (uses past v.packet) turn.p.locations.items turn.q.locations.items (nat_lt 0 late)
      v.«use»
      (λ k l. turn.marks k)
      in
      record {
        opened = still_opened;
        left = left_as (turn.same.left v.«use»);
        stands = stands_of later v after lately b turn.q turn.now (λ marked is.
            let before_is : (marked ≡ b) × ((b ≡ true) ⊎ (turn.p.completing ≡ true)) =
            h.stands turn.p marked turn.was (sym same ∙ is) in
            (before_is.0, completes_still turn.p turn.q b turn.completing before_is.1));
      }

  agreed_marked_on : IsMarked past later v.packet before after late lately → Stays
  agreed_marked_on turn =
      let p : Packet = turn.p in
      let place : ℕ = p.depth - 1 in
      let told : PacketUses past v.packet p = in_past p turn.was in
      let deep : length (uses past v.packet) ≡ p.depth = told.deep in
      let within : p.depth ≤ length p.locations.items = told.within in
      record {
        opened = still_opened;
        left = left_as (turn.left v.«use»);
        stands = stands_of later v after lately b (mark_current p) turn.now (λ marked is.
            let here : fate_in (uses past v.packet)
            (marked_location (slice_get p.locations.items place) p.locations.items place)
            (nat_lt 0 lately) v.«use»
            ≡ Some marked =
            subst (λ (used : List ℕ). fate_in used
            (marked_location (slice_get p.locations.items place) p.locations.items place)
            (nat_lt 0 lately) v.«use»
            ≡ Some marked) turn.used is
            in
            let all : marked ≡ true =
            all_marked (uses past v.packet) p.locations.items (nat_lt 0 lately) v.«use» marked place
            (omega arith)
            (omega arith) here in
            let earlier : (x : Bool)
            × (fate_in (uses past v.packet) p.locations.items (nat_lt 0 late) v.«use» ≡ Some x)
            =
            fate_there (uses past v.packet)
            (marked_location (slice_get p.locations.items place) p.locations.items place)
            p.locations.items (nat_lt 0 lately) (nat_lt 0 late) v.«use» marked here in
            let known : (earlier.0 ≡ b) × ((b ≡ true) ⊎ (p.completing ≡ true)) =
            h.stands p earlier.0 turn.was earlier.1 in
            let agreed_true : b ≡ true =
            due_true (uses past v.packet) p late v.«use» earlier.0 b turn.due earlier.1 known.0
            known.1 in
            (all ∙ sym agreed_true, inl agreed_true));
      }

  agreed_called : IsCalled past later v.packet before after late lately → Stays
  agreed_called turn =
      let p : Packet = turn.p in
      let l : Location = copied_location (current_location p) turn.device turn.completion in
      let others : List Location = slice_set p.locations.items p.depth l in
      let told : PacketUses past v.packet p = in_past p turn.was in
      let deep : length (uses past v.packet) ≡ p.depth = told.deep in
      let within : p.depth ≤ length p.locations.items = told.within in
      let depths : _ ≡ length (uses past v.packet) = traced.depths v.packet in
      let room : _ < _ = turn.room in
      let sized : _ ≤ length p.locations.items = told.sized in
      let unmarked : is_marked (slice_get others (length (uses past v.packet))) ≡ false =
      subst (λ (k : ℕ). is_marked (slice_get others k) ≡ false) (sym deep)
      (written_unmarked p.locations.items p.depth l
      (copied_unmarked (current_location p) turn.device turn.completion) (omega arith)) in
      let same : fate_in (uses later v.packet) others (nat_lt 0 lately) v.«use»
      ≡ fate_in (uses past v.packet) p.locations.items (nat_lt 0 late) v.«use» =
      ap (λ (used : List ℕ). fate_in used others (nat_lt 0 lately) v.«use») turn.used
      ∙ fate_rest (uses_opened past) v.«use» (uses past v.packet) others (nat_lt 0 lately) not_fresh
      ∙ rw (unmarked, turn.still, turn.none)
      (fate_same (uses past v.packet) p.locations.items others false v.«use»
      (λ k m. ap is_marked (set_other p.locations.items p.depth k l
      (λ e. (let here : p.depth ≡ k = e in absurd (omega arith))))))
      in
      record {
        opened = still_opened;
        left = left_as (turn.left v.«use»);
        stands = stands_of later v after lately b (sent_down p turn.device turn.completion) turn.now
            (λ marked is.
            h.stands p marked turn.was (sym same ∙ is));
      }

  agreed_left : IsLeft past later v.packet before after late lately → Stays
  agreed_left turn =
      let p : Packet = turn.p in
      let q : Packet = turn.q in
      let told : PacketUses past v.packet p = in_past p turn.was in
      let deep : length (uses past v.packet) ≡ p.depth = told.deep in
      let higher : q.depth ≡ p.depth - 1 = turn.higher in
      let above : (marked : Bool)
      → fate_in (uses later v.packet) q.locations.items (nat_lt 0 lately) v.«use» ≡ Some marked
      → fate_in (drop 1 (uses past v.packet)) p.locations.items (nat_lt 0 lately) v.«use»
      ≡ Some marked =
      λ marked is.
      ap (λ (ls : List Location). fate_in (drop 1 (uses past v.packet)) ls (nat_lt 0 lately)
      v.«use»)
      (sym turn.alike)
      ∙ ap (λ (used : List ℕ). fate_in used q.locations.items (nat_lt 0 lately) v.«use»)
      (sym turn.used)
      ∙ is in
      record {
        opened = still_opened;
        left = left_now p turn.was turn.none turn.left;
        stands = stands_of later v after lately b q turn.now (λ marked is.
            elim turn.carried [
              | inl carried ↦ (
                (h.stands p marked turn.was
                    (left_fates (uses past v.packet) (uses_opened past) p.locations.items late
                    lately
                    (p.depth - 1) v.«use» marked
                    (traced.falls v.packet) turn.none carried.0 (omega arith) (above marked is))).0,
                inr carried.1,
              )
              | inr lent ↦
                  let more : 1 < p.depth = turn.more told.some told.rooted in
                  let here : is_marked (slice_get p.locations.items (p.depth - 1 - 1)) ≡ true =
                  ap (λ (k : ℕ). is_marked (slice_get p.locations.items (k - 1))) (sym higher)
                  ∙ ap (λ (ls : List Location). is_marked (slice_get ls (q.depth - 1)))
                  (sym turn.alike)
                  ∙ lent.1 more in
                  let all : (marked ≡ true)
                  × (fate_in (uses past v.packet) p.locations.items (nat_lt 0 late) v.«use»
                  ≡ Some true) =
                  lent_true (uses past v.packet) (uses_opened past) p.locations.items
                  (nat_lt 0 late) (nat_lt 0 lately) (p.depth - 1 - 1) v.«use» marked
                  (traced.falls v.packet) (omega arith) here (above marked is) in
                  let known : true ≡ b = (h.stands p true turn.was all.1).0 in
                  (all.0 ∙ known, inl (sym known))
            ]);
      }

  agreed_topped : IsTopped past later v.packet before after late lately → Stays
  agreed_topped turn =
      record {
        opened = still_opened;
        left = left_now turn.p turn.was turn.none turn.left;
        stands = λ p marked there. (let no : None ≡ Some p = sym turn.gone ∙ there in cc);
      }

  agreed_issued : IsIssued past later v.packet before after late lately → Stays
  agreed_issued turn =
      let p : Packet = new_packet v.packet turn.device turn.major turn.argument turn.stack in
      let none : fate_in (uses later v.packet) p.locations.items (nat_lt 0 lately) v.«use» ≡ None =
      ap (λ (used : List ℕ). fate_in used p.locations.items (nat_lt 0 lately) v.«use») turn.used
      ∙ fate_rest (uses_opened past) v.«use» [] p.locations.items (nat_lt 0 lately) not_fresh in
      record {
        opened = still_opened;
        left = left_as (turn.left v.«use»);
        stands = stands_of later v after lately b p turn.now (λ marked is.
            let no : None ≡ Some marked = sym none ∙ is in cc);
      }

  becomes_agreed : Becomes past later v.packet before after late lately → Stays
  becomes_agreed (never_live gone) = agreed_gone (gone.same.left v.«use») gone.gone
  becomes_agreed (keeps_marks kept) = agreed_kept kept
  becomes_agreed (gets_marked marked) = agreed_marked_on marked
  becomes_agreed (goes_down called) = agreed_called called
  becomes_agreed (goes_up left) = agreed_left left
  becomes_agreed (goes_out topped) = agreed_topped topped
  becomes_agreed (comes_in issued) = agreed_issued issued

pub agreed_turn : (past later : List Entry) (v : Serving) (before after : Option Packet)
    (late lately : ℕ) (b : Bool)
    → Traced past → UsesIn past v.packet before → Turn past later v.packet before after late lately
    → AgreedIn past v before late b → AgreedIn later v after lately b
agreed_turn past later v before after late lately b traced in_past turn h =
    becomes_agreed past later v before after late lately b traced in_past turn.grows h turn.how

pub agreed_turns : (past later : List Entry) (v : Serving) (before after : Option Packet)
    (late lately : ℕ) (b : Bool)
    → Traced past → UsesIn past v.packet before → Turns past later v.packet before after late lately
    → AgreedIn past v before late b → AgreedIn later v after lately b
agreed_turns past later v before after late lately b traced in_past (inl turn) h =
    agreed_turn past later v before after late lately b traced in_past turn h
agreed_turns past later v before after late lately b traced in_past (inr turns) h =
    agreed_turn turns.middle later v turns.between after turns.midway lately b (turns.traced traced)
    (uses_turn past turns.middle v.packet before turns.between late turns.midway traced in_past
    turns.first) turns.second
    (agreed_turn past turns.middle v before turns.between late turns.midway b traced in_past
    turns.first h)
