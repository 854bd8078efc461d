-- What the table says after a state has been handed on.
use Rattle.std.proofs.Common.{◌≡◌, ◌≢◌, ℕ, ◌<◌, ◌⊎◌, inl, inr, true, List, length, Option, None, Some, slice_index_or, refl, arith, sym, subst, ◌∙◌, ap}
use Rattle.std.proofs.lemmas.Bool.{cases_eq}
use Rattle.std.proofs.lemmas.List.{get_or-set_same, get_or-set_other, length-set}
use Rattle.model.specs.declared.abs.Abs.{Abs}
use Rattle.model.specs.LocalRule.{outs_by}
use Rattle.model.specs.Set.{Flow, Onward, Branches, Jumps, Opens, Closes, Leaves, label_in}
use Rattle.verifier.specs.declared.seen.Seen.{Seen}
use Rattle.verifier.specs.declared.seen.Seen.TheVariants.{Nothing, One, Several}
use Rattle.verifier.specs.Pass.{opens}
use Rattle.verifier.specs.Table.{Describes, IsJoined, IsNoted, IsKept, IsArrived}
use Rattle.verifier.proofs.Arrivals.{described_same}

other_same : (P Q : Abs → Type 0) (first s other : Abs) → ((x : Abs) → Q x → P x ⊎ (x ≡ s))
    → ((x : Abs) → P x → x ≡ first) → first ≡ s
    → P other ⊎ (other ≡ s) → other ≡ first
other_same P Q first s other less alone same (inl h) = alone other h
other_same P Q first s other less alone same (inr h) = h ∙ sym same

joined_one : (new : Seen) (first s : Abs) (P Q : Abs → Type 0) → ((x : Abs) → P x → Q x) → Q s
    → ((x : Abs) → Q x → P x ⊎ (x ≡ s))
    → ((first ≡ s) × (new ≡ One first)) ⊎ ((first ≢ s) × (new ≡ Several))
    → P first × ((other : Abs) → P other → other ≡ first) → Describes new Q
joined_one new first s P Q more here less (inl h) was =
    let one : Describes (One first) Q =
    (more first was.0, λ other q. other_same P Q first s other less was.1 h.0 (less other q)) in
    subst (λ (seen : Seen). Describes seen Q) (sym h.1) one
joined_one new first s P Q more here less (inr h) was =
    let several : Describes Several Q = (first, s, more first was.0, here, h.0) in
    subst (λ (seen : Seen). Describes seen Q) (sym h.1) several

only_new : (P : Abs → Type 0) (s other : Abs) → ((x : Abs) → P x → ⊥) → P other ⊎ (other ≡ s)
    → other ≡ s
only_new P s other never (inl h) = absurd (never other h)
only_new P s other never (inr h) = h

-- one state more
described_joined : (seen new : Seen) (s : Abs) (P Q : Abs → Type 0) → ((x : Abs) → P x → Q x) → Q s
    → ((x : Abs) → Q x → P x ⊎ (x ≡ s))
    → IsJoined seen s new → Describes seen P → Describes new Q
described_joined Nothing new s P Q more here less joined was =
    let one : Describes (One s) Q = (here, λ other q. only_new P s other was (less other q)) in
    subst (λ (seen : Seen). Describes seen Q) (sym joined) one
described_joined (One first) new s P Q more here less joined was =
    joined_one new first s P Q more here less joined was
described_joined Several new s P Q more here less joined was =
    let several : Describes Several Q = (was.0, was.1, more was.0 was.2, more was.1 was.3, was.4) in
    subst (λ (seen : Seen). Describes seen Q) (sym joined) several

-- the states of a family, and the one that is handed on to a position
abbrev pub With : (Abs → Type 0) → Option ℕ → Option Abs → ℕ → Abs → Type 0
With P to state p x = P x ⊎ ((to ≡ Some p) × (state ≡ Some x))

with_here : (P : Abs → Type 0) (to p : ℕ) (s x : Abs) → With P (Some to) (Some s) p x
    → P x ⊎ (x ≡ s)
with_here P to p s x (inl h) = inl h
with_here P to p s x (inr h) = let same : Some s ≡ Some x = h.1 in inr cc

with_none : (P : Abs → Type 0) (to : Option ℕ) (state : Option Abs) (p : ℕ) (x : Abs)
    → ((to ≡ Some p) × (state ≡ Some x) → ⊥) → With P to state p x → P x
with_none P to state p x never (inl h) = h
with_none P to state p x never (inr h) = absurd (never h)

noted : (old new : List Seen) (to p : ℕ) (s : Abs) (P : Abs → Type 0) → IsNoted old to s new
    → p < length old → (p ≡ to) ⊎ (p ≡ to → ⊥)
    → Describes (slice_index_or old p Nothing) P
    → Describes (slice_index_or new p Nothing) (With P (Some to) (Some s) p)
noted old new to p s P h within (inl same) was =
    let joined : IsJoined (slice_index_or old p Nothing) s (slice_index_or new p Nothing) =
    subst (λ (q : ℕ). IsJoined (slice_index_or old q Nothing) s (slice_index_or new q Nothing))
    (sym same)
    (h.here (subst (λ (q : ℕ). q < length old) same within))
    in
    described_joined (slice_index_or old p Nothing) (slice_index_or new p Nothing) s P
    (With P (Some to) (Some s) p)
    (λ x. inl) (inr (ap Some (sym same), refl)) (λ x. with_here P to p s x) joined was
noted old new to p s P h within (inr differs) was =
    subst (λ (seen : Seen). Describes seen (With P (Some to) (Some s) p)) (sym (h.others p differs))
    (described_same (slice_index_or old p Nothing) P (With P (Some to) (Some s) p) (λ x. inl)
    (λ x. with_none P (Some to) (Some s) p x
    (λ both. differs (let same : Some to ≡ Some p = both.0 in cc)))
    was)

same_table : (old new : List Seen) (to : Option ℕ) (state : Option Abs) (p : ℕ) (P : Abs → Type 0)
    → new ≡ old
    → ((x : Abs) → (to ≡ Some p) × (state ≡ Some x) → ⊥)
    → Describes (slice_index_or old p Nothing) P
    → Describes (slice_index_or new p Nothing) (With P to state p)
same_table old new to state p P same never was =
    subst (λ (table : List Seen). Describes (slice_index_or table p Nothing) (With P to state p))
    (sym same)
    (described_same (slice_index_or old p Nothing) P (With P to state p) (λ x. inl)
    (λ x. with_none P to state p x (never x)) was)

-- what the table says of a position ahead, after an instruction was passed
pub kept_ahead : (old new : List Seen) (at p : ℕ) (f : Flow) (before next jump : Abs)
    (P : Abs → Type 0) → IsKept f at before jump old new
    → at < p → p < length old → Describes (slice_index_or old p Nothing) P
    → Describes (slice_index_or new p Nothing) (With P (label_in f) (outs_by f next jump).jump p)
kept_ahead old new at p Onward before next jump P h above within was =
    same_table old new None None p P h (λ x both. let no : None ≡ Some p = both.0 in cc) was
kept_ahead old new at p (Branches label) before next jump P h above within was =
    noted old new label p jump P h within (cases_eq p label) was
kept_ahead old new at p (Jumps label) before next jump P h above within was =
    noted old new label p jump P h within (cases_eq p label) was
kept_ahead old new at p (Opens turns) before next jump P h above within was =
    let differs : p ≡ at → ⊥ = λ same. absurd (omega arith) in
    let same : slice_index_or new p Nothing ≡ slice_index_or old p Nothing =
    ap (λ (table : List Seen). slice_index_or table p Nothing) h
    ∙ get_or-set_other old at p (One before) Nothing differs
    in
    subst (λ (seen : Seen). Describes seen (With P None None p)) (sym same)
    (described_same (slice_index_or old p Nothing) P (With P None None p) (λ x. inl)
    (λ x. with_none P None None p x (λ both. let no : None ≡ Some p = both.0 in cc)) was)
kept_ahead old new at p Closes before next jump P h above within was =
    same_table old new None None p P h (λ x both. let no : None ≡ Some p = both.0 in cc) was
kept_ahead old new at p Leaves before next jump P h above within was =
    same_table old new None None p P h (λ x both. let no : None ≡ Some p = both.0 in cc) was

-- and of one below, where jumps lead up
pub kept_below : (old new : List Seen) (at q : ℕ) (f : Flow) (before jump : Abs)
    → IsKept f at before jump old new
    → ((label : ℕ) → label_in f ≡ Some label → at < label) → q < at
    → slice_index_or new q Nothing ≡ slice_index_or old q Nothing
kept_below old new at q Onward before jump h up low =
    ap (λ (table : List Seen). slice_index_or table q Nothing) h
kept_below old new at q (Branches label) before jump h up low =
    let above : at < label = up label refl in h.others q (λ same. absurd (omega arith))
kept_below old new at q (Jumps label) before jump h up low =
    let above : at < label = up label refl in h.others q (λ same. absurd (omega arith))
kept_below old new at q (Opens turns) before jump h up low =
    ap (λ (table : List Seen). slice_index_or table q Nothing) h
    ∙ get_or-set_other old at q (One before) Nothing (λ same. absurd (omega arith))
kept_below old new at q Closes before jump h up low =
    ap (λ (table : List Seen). slice_index_or table q Nothing) h
kept_below old new at q Leaves before jump h up low =
    ap (λ (table : List Seen). slice_index_or table q Nothing) h

-- and of the position itself, where a loop starts
pub kept_start : (old new : List Seen) (at : ℕ) (f : Flow) (before jump : Abs)
    → IsKept f at before jump old new → at < length old → opens f ≡ true
    → slice_index_or new at Nothing ≡ One before
kept_start old new at Onward before jump h within start = cc
kept_start old new at (Branches label) before jump h within start = cc
kept_start old new at (Jumps label) before jump h within start = cc
kept_start old new at (Opens turns) before jump h within start =
    ap (λ (table : List Seen). slice_index_or table at Nothing) h
    ∙ get_or-set_same old at (One before) Nothing within
kept_start old new at Closes before jump h within start = cc
kept_start old new at Leaves before jump h within start = cc

pub kept_long : (old new : List Seen) (at : ℕ) (f : Flow) (before jump : Abs)
    → IsKept f at before jump old new → length new ≡ length old
kept_long old new at Onward before jump h = ap (λ (table : List Seen). length table) h
kept_long old new at (Branches label) before jump h = h.long
kept_long old new at (Jumps label) before jump h = h.long
kept_long old new at (Opens turns) before jump h = ap (λ (table : List Seen). length table) h
    ∙ length-set old at (One before)
kept_long old new at Closes before jump h = ap (λ (table : List Seen). length table) h
kept_long old new at Leaves before jump h = ap (λ (table : List Seen). length table) h

-- what has been seen at the next position
joined_there : (there new : Seen) (to : ℕ) (next : Abs) (P : Abs → Type 0) → IsJoined there next new
    → Describes there P
    → Describes new (With P (Some to) (Some next) to)
joined_there there new to next P joined was =
    described_joined there new next P (With P (Some to) (Some next) to) (λ x. inl)
    (inr (refl, refl)) (λ x. with_here P to to next x) joined was

same_there : (there new : Seen) (to : ℕ) (P : Abs → Type 0) → new ≡ there → Describes there P
    → Describes new (With P (Some to) None to)
same_there there new to P same was =
    subst (λ (seen : Seen). Describes seen (With P (Some to) None to)) (sym same)
    (described_same there P (With P (Some to) None to) (λ x. inl)
    (λ x. with_none P (Some to) None to x (λ both. let no : None ≡ Some x = both.1 in cc)) was)

pub arrived : (there new : Seen) (to : ℕ) (f : Flow) (next jump : Abs) (P : Abs → Type 0)
    → IsArrived f next there new → Describes there P
    → Describes new (With P (Some to) (outs_by f next jump).next to)
arrived there new to Onward next jump P h was = joined_there there new to next P h was
arrived there new to (Branches label) next jump P h was = joined_there there new to next P h was
arrived there new to (Jumps label) next jump P h was = same_there there new to P h was
arrived there new to (Opens turns) next jump P h was = joined_there there new to next P h was
arrived there new to Closes next jump P h was = joined_there there new to next P h was
arrived there new to Leaves next jump P h was = same_there there new to P h was

-- nothing is handed on to another position
pub not_arrived : (seen : Seen) (to : ℕ) (state : Option Abs) (p : ℕ) (P : Abs → Type 0)
    → (to ≡ p → ⊥) → Describes seen P
    → Describes seen (With P (Some to) state p)
not_arrived seen to state p P differs was =
    described_same seen P (With P (Some to) state p) (λ x. inl)
    (λ x. with_none P (Some to) state p x
    (λ both. differs (let same : Some to ≡ Some p = both.0 in cc))) was
