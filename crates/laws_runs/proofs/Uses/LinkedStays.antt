-- A use that waits for the one below it goes on to, until that one is left; then what it was left
-- with is agreed on for the use above.
use Rattle.laws_runs.proofs.Common.{ap, arith, drop, inl, inr, refl, subst, sym, ◌-◌, ◌∙◌, All-nil, All, Bool, List, None, Option, Some, [], false, length, nat_lt, slice_get, slice_set, suc, true, ℕ, ◌+◌, ◌<◌, ◌||◌, ◌∷◌, ◌≡◌, ◌≤◌, ◌⊎◌, marks_left, was_marked, Entry, Serving, uses, uses_opened, copied_location, current_location, is_marked, mark_current, marked_location, sent_down, Location, Packet, set_other}
use Rattle.laws_runs.proofs.Uses.AgreedStays.{AgreedIn, agreed_turn, bit_below, stands_of}
use Rattle.laws_runs.proofs.Uses.Fates.{nth_use, Falls, MarksTell, PacketUses, Traced, Unleft, WaitsAbove, fate_in}
use Rattle.laws_runs.proofs.Room.Locations.{marked_other}
use Rattle.laws_runs.proofs.Uses.FateFacts.{fate_head}
use Rattle.laws_runs.proofs.Uses.Becomes.{Becomes, comes_in, gets_marked, goes_down, goes_out, goes_up, keeps_marks, never_live, IsCalled, IsKept, IsLeft, IsMarked, Turn, Turns, UsesIn, not_use, own_use, uses_turn}

-- a use waits for the mark of the one below it
pub record WaitsIn (past : List Entry) (v lower : Serving) (o : Option Packet) : Type 0 where
  pub packet : lower.packet ≡ v.packet
  pub live : Packet
  pub there : o ≡ Some live
  pub above : WaitsAbove (uses past v.packet) live.locations.items v.«use» lower.«use»

-- the one below was left so, and that is agreed on
pub record FollowedIn (past : List Entry) (v lower : Serving) (o : Option Packet) (late : ℕ) : Type
    0 where
  pub marked : Bool
  pub turn : ℕ
  pub left : slice_get (marks_left past lower) turn ≡ Some marked
  pub agreed : AgreedIn past v o late marked

abbrev pub LinkedIn : List Entry → Serving → Serving → Option Packet → ℕ → Type 0
LinkedIn past v lower o late = WaitsIn past v lower o ⊎ FollowedIn past v lower o late

-- the locations above the current one are marked as before
waits_same : (used : List ℕ) (locations others : List Location) (u lower : ℕ)
    → ((k : ℕ) → k + 1 < length used → is_marked (slice_get others k)
    ≡ is_marked (slice_get locations k))
    → WaitsAbove used locations u lower → WaitsAbove used others u lower
waits_same (x ∷ y ∷ upper) locations others u lower same (inl here) =
    inl (here.0, here.1, same (length upper) (omega arith) ∙ here.2)
waits_same (x ∷ y ∷ upper) locations others u lower same (inr above) =
    inr (waits_same (y ∷ upper) locations others u lower (λ k l. same k (omega arith)) above)
waits_same _ locations others u lower same h = absurd h

-- below a new use
waits_called : (used : List ℕ) (locations : List Location) (u lower fresh : ℕ)
    → WaitsAbove used locations u lower
    → WaitsAbove (fresh ∷ used) locations u lower
waits_called [] locations u lower fresh h = absurd h
waits_called (x ∷ used) locations u lower fresh h = inr h

-- it isn't one of at most one use
waits_few : (used : List ℕ) (locations : List Location) (u lower : ℕ) → length used ≤ 1
    → WaitsAbove used locations u lower → ⊥
waits_few [] locations u lower few h = h
waits_few (x ∷ []) locations u lower few h = h
waits_few (x ∷ y ∷ upper) locations u lower few h = absurd (omega arith)

-- whatever becomes of the packet
module _ (past later : List Entry) (v lower : Serving) (before after : Option Packet)
    (late lately : ℕ)
    (traced : Traced past) (in_past : UsesIn past v.packet before)
    (grows : uses_opened past ≤ uses_opened later) where
  abbrev Above : Packet → Type 0
  Above p = WaitsAbove (uses past v.packet) p.locations.items v.«use» lower.«use»

  above_of : (p : Packet) → before ≡ Some p → WaitsIn past v lower before → Above p
  above_of p was h =
      let both : Some h.live ≡ Some p = sym h.there ∙ was in
      let same : h.live ≡ p = cc in
      subst Above same h.above

  kept_waits : IsKept past later v.packet before after late lately → WaitsIn past v lower before
      → WaitsIn later v lower after
  kept_waits turn h =
      let above : Above turn.p = above_of turn.p turn.was h in
      record {
        packet = h.packet;
        live = turn.q;
        there = turn.now;
        above = subst (λ (used : List ℕ). WaitsAbove used turn.q.locations.items v.«use»
            lower.«use»)
            (sym turn.same.used)
            (waits_same (uses past v.packet) turn.p.locations.items turn.q.locations.items v.«use»
            lower.«use»
            (λ k l. turn.marks k) above);
      }

  marked_waits : IsMarked past later v.packet before after late lately → WaitsIn past v lower before
      → WaitsIn later v lower after
  marked_waits turn h =
      let p : Packet = turn.p in
      let above : Above p = above_of p turn.was h in
      let told : PacketUses past v.packet p = in_past p turn.was in
      let deep : length (uses past v.packet) ≡ p.depth = told.deep in
      let place : ℕ = p.depth - 1 in
      record {
        packet = h.packet;
        live = mark_current p;
        there = turn.now;
        above = subst
            (λ (used : List ℕ). WaitsAbove used (mark_current p).locations.items v.«use»
            lower.«use»)
            (sym turn.used)
            (waits_same (uses past v.packet) p.locations.items
            (marked_location (slice_get p.locations.items place) p.locations.items place) v.«use»
            lower.«use»
            (λ k l. ap is_marked
            (marked_other (slice_get p.locations.items place) p.locations.items place k
            (λ e. (let here : place ≡ k = e in absurd (omega arith))))) above);
      }

  called_waits : IsCalled past later v.packet before after late lately
      → WaitsIn past v lower before → WaitsIn later v lower after
  called_waits turn h =
      let p : Packet = turn.p in
      let l : Location = copied_location (current_location p) turn.device turn.completion in
      let others : List Location = slice_set p.locations.items p.depth l in
      let above : Above p = above_of p turn.was h in
      let told : PacketUses past v.packet p = in_past p turn.was in
      let deep : length (uses past v.packet) ≡ p.depth = told.deep in
      record {
        packet = h.packet;
        live = sent_down p turn.device turn.completion;
        there = turn.now;
        above = subst (λ (used : List ℕ). WaitsAbove used others v.«use» lower.«use»)
            (sym turn.used)
            (waits_called (uses past v.packet) others v.«use» lower.«use» (uses_opened past)
            (waits_same (uses past v.packet) p.locations.items others v.«use» lower.«use»
            (λ k m. ap is_marked (set_other p.locations.items p.depth k l
            (λ e. (let here : p.depth ≡ k = e in absurd (omega arith))))) above));
      }

  -- the use below is left: it was the current one, or one under it was
  abbrev LeftOr : List ℕ → List Location → Type 0
  LeftOr used locations =
      FollowedIn later v lower after lately ⊎ WaitsAbove (drop 1 used) locations v.«use» lower.«use»

  left_or : (used : List ℕ) (p : Packet)
      → lower.packet ≡ v.packet → uses past v.packet ≡ used → Falls (uses_opened past) used
      → Unleft past v.packet used → MarksTell past v.packet used p.locations.items
      → length used ≡ p.depth → IsLeft past later v.packet (Some p) after late lately
      → WaitsAbove used p.locations.items v.«use» lower.«use» → LeftOr used p.locations.items
  left_or (x ∷ y ∷ upper) p packet is falls unleft marks deep turn (inr above) =
      inr above
  left_or (x ∷ y ∷ upper) p packet is falls unleft marks deep turn (inl here) =
      let n : ℕ = v.packet in
      let both : Some turn.p ≡ Some p = sym turn.was in
      let same : turn.p ≡ p = cc in
      let mark : Bool = was_marked past (nth_use n x) in
      let first : x < uses_opened past = falls.0 in
      let second : y < x = falls.1.0 in
      let use_is : y ≡ v.«use» = here.1 in
      let lower_is : lower ≡ record { packet = n; «use» = x } =
      rw (← packet, here.0) refl in
      let noted : marks_left later (nth_use n x) ≡ mark ∷ marks_left past (nth_use n x) =
      turn.left x ∙ rw (is, own_use n x) refl in
      let unnoted : marks_left later (nth_use n y) ≡ [] =
      turn.left y ∙ rw (is, not_use n x y (λ e. (let equal : x ≡ y = e in absurd (omega arith))))
      unleft.1.0 in
      let place : p.depth - 1 ≡ suc (length upper) = omega arith in
      let higher : turn.q.depth ≡ turn.p.depth - 1 = turn.higher in
      let deep_same : turn.p.depth ≡ p.depth = ap (λ (q : Packet). q.depth) same in
      let locations : turn.q.locations.items ≡ p.locations.items =
      turn.alike ∙ ap (λ (q : Packet). q.locations.items) same in
      elim turn.carried [
        | inr lent ↦
            let last : turn.q.depth - 1 ≡ length upper = omega arith in
            let marked_above : is_marked (slice_get p.locations.items (length upper)) ≡ true =
            ap (λ (k : ℕ). is_marked (slice_get p.locations.items k)) (sym last)
            ∙ ap (λ (ls : List Location). is_marked (slice_get ls (turn.q.depth - 1)))
            (sym locations)
            ∙ lent.1 (omega arith) in
            let no : true ≡ false = sym marked_above ∙ here.2 in cc
        | inl went ↦
            let carried : nat_lt 0 lately ≡ mark =
            ap (λ (c : ℕ). nat_lt 0 c) went.0
            ∙ bit_below (is_marked (current_location turn.p))
            ∙ ap (λ (q : Packet). is_marked (current_location q)) same
            ∙ ap (λ (k : ℕ). is_marked (slice_get p.locations.items k)) place
            ∙ marks.0 in
            inl (record {
              marked = mark;
              turn = 0;
              left = ap (λ (s : Serving). slice_get (marks_left later s) 0) lower_is
                  ∙ ap (λ (xs : List Bool). slice_get xs 0) noted;
              agreed = record {
                opened = omega arith;
                left = subst (λ (xs : List Bool). All (λ m. m ≡ mark) xs)
                    (sym (ap (λ (u : ℕ). marks_left later (nth_use n u)) (sym use_is) ∙ unnoted))
                    (All-nil (λ m. m ≡ mark));
                stands = stands_of later v after lately mark turn.q turn.now
                    (λ m fate_is.
                    let all : fate_in (uses later n) turn.q.locations.items (nat_lt 0 lately)
                    v.«use»
                    ≡ Some (mark || false) =
                    ap (λ (used : List ℕ). fate_in used turn.q.locations.items (nat_lt 0 lately)
                    v.«use»)
                    (turn.used ∙ ap (λ (used : List ℕ). drop 1 used) is)
                    ∙ ap (λ (ls : List Location). fate_in (y ∷ upper) ls (nat_lt 0 lately) v.«use»)
                    locations
                    ∙ ap (λ (u : ℕ). fate_in (y ∷ upper) p.locations.items (nat_lt 0 lately) u)
                    (sym use_is)
                    ∙ fate_head y upper p.locations.items (nat_lt 0 lately)
                    ∙ rw (carried, here.2) refl
                    in
                    let one : Some (mark || false) ≡ Some m = sym all ∙ fate_is in
                    let two : (mark || false) ≡ m = cc in (
                      sym two ∙ elim mark as (λ b. (b || false) ≡ b) [ true ↦ refl | false ↦ refl ],
                      inr went.1,
                    ));
              };
            })
      ]
  left_or _ p packet is falls unleft marks deep turn h = absurd h

  left_waits : IsLeft past later v.packet before after late lately
      → WaitsIn past v lower before → LinkedIn later v lower after lately
  left_waits turn h =
      let p : Packet = turn.p in
      let above : Above p = above_of p turn.was h in
      let told : PacketUses past v.packet p = in_past p turn.was in
      elim (left_or (uses past v.packet) p h.packet refl (traced.falls v.packet)
      told.unleft told.marks told.deep
      (subst (λ (o : Option Packet). IsLeft past later v.packet o after late lately) turn.was turn)
      above) [
        | inl followed ↦ inr followed
        | inr waits ↦ inl (record {
          packet = h.packet;
          live = turn.q;
          there = turn.now;
          above = subst
              (λ (used : List ℕ). WaitsAbove used turn.q.locations.items v.«use» lower.«use»)
              (sym turn.used)
              (subst (λ (ls : List Location). WaitsAbove (drop 1 (uses past v.packet)) ls v.«use»
              lower.«use») (sym turn.alike) waits);
        })
      ]

  becomes_waits : Becomes past later v.packet before after late lately
      → WaitsIn past v lower before → LinkedIn later v lower after lately
  becomes_waits (never_live gone) h =
      let no : None ≡ Some h.live = sym gone.was ∙ h.there in cc
  becomes_waits (keeps_marks kept) h = inl (kept_waits kept h)
  becomes_waits (gets_marked marked) h = inl (marked_waits marked h)
  becomes_waits (goes_down called) h = inl (called_waits called h)
  becomes_waits (goes_up left) h = left_waits left h
  becomes_waits (goes_out topped) h =
      let deep : length (uses past v.packet) ≡ topped.p.depth = (in_past topped.p topped.was).deep
      in
      let shallow : topped.p.depth ≤ 1 = topped.shallow in
      absurd (waits_few (uses past v.packet) h.live.locations.items v.«use» lower.«use»
      (omega arith) h.above)
  becomes_waits (comes_in issued) h =
      let no : None ≡ Some h.live = sym issued.was ∙ h.there in cc

pub linked_turn : (past later : List Entry) (v lower : Serving) (before after : Option Packet)
    (late lately : ℕ)
    → Traced past → UsesIn past v.packet before → Turn past later v.packet before after late lately
    → LinkedIn past v lower before late → LinkedIn later v lower after lately
linked_turn past later v lower before after late lately traced in_past turn (inl waits) =
    becomes_waits past later v lower before after late lately traced in_past turn.grows turn.how
    waits
linked_turn past later v lower before after late lately traced in_past turn (inr followed) =
    let noted : (j : ℕ) × (slice_get (marks_left later lower) j ≡ Some followed.marked) =
    turn.noted lower followed.turn followed.marked followed.left in
    inr (record {
      marked = followed.marked;
      turn = noted.0;
      left = noted.1;
      agreed = agreed_turn past later v before after late lately followed.marked traced in_past turn
          followed.agreed;
    })

pub linked_turns : (past later : List Entry) (v lower : Serving) (before after : Option Packet)
    (late lately : ℕ)
    → Traced past → UsesIn past v.packet before → Turns past later v.packet before after late lately
    → LinkedIn past v lower before late → LinkedIn later v lower after lately
linked_turns past later v lower before after late lately traced in_past (inl turn) h =
    linked_turn past later v lower before after late lately traced in_past turn h
linked_turns past later v lower before after late lately traced in_past (inr turns) h =
    linked_turn turns.middle later v lower turns.between after turns.midway lately
    (turns.traced traced)
    (uses_turn past turns.middle v.packet before turns.between late turns.midway traced in_past
    turns.first) turns.second
    (linked_turn past turns.middle v lower before turns.between late turns.midway traced in_past
    turns.first h)
