-- Where something is agreed on for a use: its location is the current one and marked, or its packet
-- is on its way up and it isn't; and what is agreed on for the use below is agreed on for one that
-- is linked to it.
use Rattle.laws_runs.proofs.Common.{ap, arith, inl, inr, refl, subst, sym, ◌-◌, ◌∙◌, eqb_tells, All-nil, All, Bool, List, Some, [], false, length, nat_eq, nat_lt, slice_get, suc, true, ℕ, ◌<◌, ◌||◌, ◌∷◌, ◌≡◌, ◌⊎◌, marks_left, Entry, Serving, current_use, uses, uses_opened, World, current_location, is_marked, Location, Packet, States, all_at}
use Rattle.laws_runs.proofs.Tests.{or_second}
use Rattle.laws_runs.proofs.Uses.Fates.{nth_use, Agreed, Falls, Linked, PacketUses, Unleft, UsesTell, WaitsAbove, fate, fate_in, late_marks}
use Rattle.laws_runs.proofs.Uses.FateFacts.{fate_head, fate_rest}
use Rattle.laws_runs.proofs.Past.LivePackets.{find}

-- the current use, and the others
abbrev pub Others : List Entry → ℕ → ℕ → Type 0
Others past n u = (upper : List ℕ) × (uses past n ≡ u ∷ upper)

others_of : (used : List ℕ) (u : ℕ) → slice_get used 0 ≡ Some u
    → (upper : List ℕ) × (used ≡ u ∷ upper)
others_of [] u h = cc
others_of (v ∷ upper) u h = (upper, let same : v ≡ u = cc in rw same refl)

pub current_others : (past : List Entry) (n u : ℕ) → current_use past n ≡ Some u → Others past n u
current_others past n u h = others_of (uses past n) u h

-- a use that waits has the fate of the one below it
waits_less : (bound : ℕ) (used : List ℕ) (locations : List Location) (u lower : ℕ)
    → Falls bound used
    → WaitsAbove used locations u lower → (u < bound) × (lower < bound)
waits_less bound (x ∷ y ∷ upper) locations u lower falls (inl here) =
    let first : x < bound = falls.0 in
    let second : y < x = falls.1.0 in
    let lower_is : x ≡ lower = here.0 in
    let use_is : y ≡ u = here.1 in
    (omega arith, omega arith)
waits_less bound (x ∷ y ∷ upper) locations u lower falls (inr above) =
    let first : x < bound = falls.0 in
    let less : (u < x) × (lower < x) = waits_less x (y ∷ upper) locations u lower falls.1 above in
    let one : u < x = less.0 in
    let other : lower < x = less.1 in
    (omega arith, omega arith)
waits_less bound _ locations u lower falls h = absurd h

not_equal : (x u : ℕ) → u < x → nat_eq x u ≡ false
not_equal x u l =
    elim (eqb_tells x u) [ inl e ↦ let same : x ≡ u = e.1 in absurd (omega arith) | inr e ↦ e.0 ]

or_false : (b : Bool) → (b || false) ≡ b
or_false true = refl
or_false false = refl

waits_fate : (bound : ℕ) (used : List ℕ) (locations : List Location) (u lower : ℕ) (below : Bool)
    → Falls bound used
    → WaitsAbove used locations u lower
    → fate_in used locations below u ≡ fate_in used locations below lower
waits_fate bound (x ∷ y ∷ upper) locations u lower below falls (inl here) =
    let second : y < x = falls.1.0 in
    let use_is : y ≡ u = here.1 in
    let under : Bool = below || is_marked (slice_get locations (length (y ∷ upper))) in
    fate_rest x u (y ∷ upper) locations below (not_equal x u (omega arith))
    ∙ ap (λ (k : ℕ). fate_in (y ∷ upper) locations under k) (sym use_is)
    ∙ fate_head y upper locations under
    ∙ ap (λ (b : Bool). Some (under || b)) here.2 ∙ ap (λ (b : Bool). Some b) (or_false under)
    ∙ sym (ap (λ (k : ℕ). fate_in (x ∷ y ∷ upper) locations below k) (sym here.0)
    ∙ fate_head x (y ∷ upper) locations below)
waits_fate bound (x ∷ y ∷ upper) locations u lower below falls (inr above) =
    let less : (u < x) × (lower < x) = waits_less x (y ∷ upper) locations u lower falls.1 above in
    let under : Bool = below || is_marked (slice_get locations (length (y ∷ upper))) in
    fate_rest x u (y ∷ upper) locations below (not_equal x u less.0)
    ∙ waits_fate x (y ∷ upper) locations u lower under falls.1 above
    ∙ sym (fate_rest x lower (y ∷ upper) locations below (not_equal x lower less.1))
waits_fate bound _ locations u lower below falls h = absurd h

module _ (states : States) (w : World) (past : List Entry) where
  -- a current use wasn't left, and its fate is that of its location, or of what has to be carried
  -- up
  pub record IsCurrent (n : ℕ) (p : Packet) (u : ℕ) : Type 0 where
    pub opened : u < uses_opened past
    pub unleft : marks_left past (nth_use n u) ≡ []
    pub fates : fate states w past n p u
        ≡ Some (nat_lt 0 (late_marks states p.pending_returned n w.threads)
        || is_marked (current_location p))

  pub current_is : (n : ℕ) (p : Packet) (u : ℕ) → UsesTell w past
      → find w.shared.packets n ≡ Some p → current_use past n ≡ Some u → IsCurrent n p u
  current_is n p u told there current =
      let others : Others past n u = current_others past n u current in
      let used : PacketUses past n p = told.live n p there in
      let late : Bool = nat_lt 0 (late_marks states p.pending_returned n w.threads) in
      let falls : Falls (uses_opened past) (u ∷ others.0) =
      subst (λ (all : List ℕ). Falls (uses_opened past) all) others.1 (told.traced.falls n) in
      let unleft : Unleft past n (u ∷ others.0) =
      subst (λ (all : List ℕ). Unleft past n all) others.1 used.unleft in
      let long : length (uses past n) ≡ suc (length others.0) = ap length others.1 in
      let deep : length (uses past n) ≡ p.depth = used.deep in
      let place : length others.0 ≡ p.depth - 1 = omega arith in
      record {
        opened = falls.0;
        unleft = unleft.0;
        fates = ap (λ (all : List ℕ). fate_in all p.locations.items late u) others.1
            ∙ fate_head u others.0 p.locations.items late
            ∙ ap (λ (k : ℕ). Some (late || is_marked (slice_get p.locations.items k))) place;
      }

  -- of a live packet whose fate is this
  agreed_current : (n : ℕ) (p : Packet) (u : ℕ) (b : Bool)
      → IsCurrent n p u → find w.shared.packets n ≡ Some p
      → (nat_lt 0 (late_marks states p.pending_returned n w.threads)
      || is_marked (current_location p)) ≡ b
      → (b ≡ true) ⊎ (p.completing ≡ true)
      → Agreed states w past (nth_use n u) b
  agreed_current n p u b current there is known =
      record {
        opened = current.opened;
        left = subst (λ (xs : List Bool). All (λ marked. marked ≡ b) xs) (sym current.unleft)
            (All-nil (λ marked. marked ≡ b));
        stands = λ q marked found_q fate_is.
            let both : Some p ≡ Some q = sym there ∙ found_q in
            let same : p ≡ q = cc in
            let here : fate states w past n p u ≡ Some marked =
            subst (λ (x : Packet). fate states w past n x u ≡ Some marked) (sym same) fate_is in
            let one : Some b ≡ Some marked = sym (current.fates ∙ ap (λ (x : Bool). Some x) is)
            ∙ here in
            let two : b ≡ marked = cc in
            (sym two, subst (λ (x : Packet). (b ≡ true) ⊎ (x.completing ≡ true)) same known);
      }

  -- the current location is marked
  pub agreed_marked : (n : ℕ) (p : Packet) (u : ℕ) → UsesTell w past
      → find w.shared.packets n ≡ Some p → current_use past n ≡ Some u
      → is_marked (current_location p) ≡ true
      → Agreed states w past (nth_use n u) true
  agreed_marked n p u told there current marked =
      agreed_current n p u true (current_is n p u told there current) there
      (or_second (nat_lt 0 (late_marks states p.pending_returned n w.threads))
      (is_marked (current_location p)) marked)
      (inl refl)

  -- the packet is on its way up from an unmarked location, and no mark has to be carried up to it
  pub agreed_finished : (n : ℕ) (p : Packet) (u : ℕ)
      → UsesTell w past
      → find w.shared.packets n ≡ Some p → current_use past n ≡ Some u
      → is_marked (current_location p) ≡ false
      → p.completing ≡ true → late_marks states p.pending_returned n w.threads ≡ 0
      → Agreed states w past (nth_use n u) false
  agreed_finished n p u told there current unmarked done none =
      agreed_current n p u false (current_is n p u told there current) there
      (rw (none, unmarked) refl) (inr done)

  waits_unleft : (n : ℕ) (used : List ℕ) (locations : List Location) (u lower : ℕ)
      → Unleft past n used
      → WaitsAbove used locations u lower → marks_left past (nth_use n u) ≡ []
  waits_unleft n (x ∷ y ∷ upper) locations u lower unleft (inl here) =
      subst (λ (k : ℕ). marks_left past (nth_use n k) ≡ []) here.1 unleft.1.0
  waits_unleft n (x ∷ y ∷ upper) locations u lower unleft (inr above) =
      waits_unleft n (y ∷ upper) locations u lower unleft.1 above
  waits_unleft n _ locations u lower unleft h = absurd h

  waits_agree : (n u lower : ℕ) (p : Packet) (b : Bool)
      → UsesTell w past → find w.shared.packets n ≡ Some p
      → WaitsAbove (uses past n) p.locations.items u lower
      → Agreed states w past (nth_use n lower) b
      → Agreed states w past (nth_use n u) b
  waits_agree n u lower p b told there above h =
      let used : PacketUses past n p = told.live n p there in
      record {
        opened = (waits_less (uses_opened past) (uses past n) p.locations.items u lower
            (told.traced.falls n) above).0;
        left = subst (λ (xs : List Bool). All (λ marked. marked ≡ b) xs)
            (sym (waits_unleft n (uses past n) p.locations.items u lower used.unleft above))
            (All-nil (λ marked. marked ≡ b));
        stands = λ q marked found_q is.
            let both : Some p ≡ Some q = sym there ∙ found_q in
            let same : p ≡ q = cc in
            let over : WaitsAbove (uses past n) q.locations.items u lower =
            subst (λ (x : Packet). WaitsAbove (uses past n) x.locations.items u lower) same above in
            h.stands q marked found_q
            (sym (waits_fate (uses_opened past) (uses past n) q.locations.items u lower
            (nat_lt 0 (late_marks states q.pending_returned n w.threads)) (told.traced.falls n)
            over) ∙ is);
      }

  -- what is agreed on for the use below is agreed on for one that is linked to it
  pub linked_agrees : (v lower : Serving) (b : Bool) → UsesTell w past
      → Linked states w past v lower → Agreed states w past lower b → Agreed states w past v b
  linked_agrees v lower b told (inl same) h =
      subst (λ (x : Serving). Agreed states w past x b) (sym same) h
  linked_agrees v lower b told (inr (inl waits)) h =
      waits_agree v.packet v.«use» lower.«use» waits.live b told waits.there waits.above
      (subst (λ (n : ℕ). Agreed states w past (nth_use n lower.«use») b) waits.packet h)
  linked_agrees v lower b told (inr (inr followed)) h =
      let same : followed.marked ≡ b =
      all_at (λ marked. marked ≡ b) (marks_left past lower) followed.turn followed.marked h.left
      followed.left in
      subst (λ (x : Bool). Agreed states w past v x) same followed.agreed

  -- a use is linked to the one that stands directly below it, where its location is unmarked
  pub linked_waits : (n u lower : ℕ) (upper : List ℕ) (p : Packet)
      → find w.shared.packets n ≡ Some p → uses past n ≡ lower ∷ u ∷ upper
      → is_marked (slice_get p.locations.items (length upper)) ≡ false
      → Linked states w past (nth_use n u) (nth_use n lower)
  linked_waits n u lower upper p there used unmarked =
      inr (inl (record {
        packet = refl;
        live = p;
        there = there;
        above = subst (λ (all : List ℕ). WaitsAbove all p.locations.items u lower) (sym used)
            (inl (refl, refl, unmarked));
      }))
