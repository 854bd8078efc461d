-- What the frames that a step of a dispatch routine leaves serve: the routine its use still, and
-- the one that it asks the use that it was handed.
use Rattle.laws_runs.proofs.Common.{ap, arith, drop, inl, inr, refl, subst, sym, ◌∙◌, eq-eqb, Bool, List, None, Option, Some, [], false, if◌then◌else◌, nat_eq, slice_get, true, ℕ, ◌+◌, ◌<◌, ◌||◌, ◌∷◌, ◌≡◌, ◌≤◌, ◌⊎◌, Calls, Executes, Marks, Touches, answered, is_new, is_pending, is_use, was_marked, new_tag, Set, sort_of, Activated, Actor, Entry, Serving, current_use, recorded, uses, uses_opened, World, register, Duty, Finished, Fresh, GivenDown, NoDuty, Pending, Sort, Dispatch, Status, Activation, Routine, Packet, Value, Ref, States, frame_rights, state_of, HoldOf}
use Rattle.model.specs.Run.{serving_by, serving_in, serving_with}
use Rattle.laws_runs.proofs.Past.LivePackets.{find}
use Rattle.laws_runs.proofs.Pending.LowerStatuses.{Lowers}
use Rattle.laws_runs.proofs.Pending.Serving.{Handed, Current, IsFollowed, KeepsAgreed, Says, ServesUse, current_same}
use Rattle.laws_runs.proofs.Uses.Fates.{Agreed, Linked, late_marks}
use Rattle.laws_runs.proofs.Uses.Traced.{SameUses}
use Rattle.laws_runs.proofs.Live.Sees.{RefersTo}

-- what an event does to uses: what was agreed on stays, the marks of current locations say what
-- will be left, and a use that is opened under another one is followed by it
pub record Settles (states : States) (w : World) (past : List Entry) (later_w : World)
    (later : List Entry)
    : Type 0 where
  pub keeps : KeepsAgreed states w past later_w later
  pub marked : (v : Serving) (p : Packet) → find later_w.shared.packets v.packet ≡ Some p
      → current_use later v.packet ≡ Some v.«use» → was_marked later v ≡ true
      → Agreed states later_w later v true
  pub finished : (v : Serving) (p : Packet) → find later_w.shared.packets v.packet ≡ Some p
      → current_use later v.packet ≡ Some v.«use» → was_marked later v ≡ false → p.completing ≡ true
      → late_marks states p.pending_returned v.packet later_w.threads ≡ 0
      → Agreed states later_w later v false
  pub called : (n u x : ℕ) (upper : List ℕ) (p : Packet) → find later_w.shared.packets n ≡ Some p
      → uses later n ≡ x ∷ u ∷ upper → was_marked later (record { packet = n; «use» = u }) ≡ false
      → Linked states later_w later (record { packet = n; «use» = u })
      (record { packet = n; «use» = x })
  pub follows : IsFollowed states later_w later
  pub unmarked : (v : Serving) → uses_opened past < v.«use» + 1 → was_marked past v ≡ false

-- a routine goes on as another activation of itself
pub record GoesOnAs (states : States) (a b : Activation) : Type 0 where
  pub driver : b.driver ≡ a.driver
  pub routine : b.routine ≡ a.routine
  pub duty : (state_of states b).duty ≡ (state_of states a).duty
  pub lowers : (x : Bool) → Lowers x (state_of states a).kinds a.registers
      → Lowers x (state_of states b).kinds b.registers
  pub news : (m : ℕ) → HoldOf is_new (RefersTo m) (state_of states a).kinds a.registers
      → HoldOf is_new (RefersTo m) (state_of states b).kinds b.registers

-- a packet is the one that the routine was handed, and nothing was done about it
pub record IsHandedOver (states : States) (a : Activation) (n : ℕ) : Type 0 where
  pub fresh : (state_of states a).duty ≡ Fresh
  pub is : (m : ℕ) → HoldOf is_new (RefersTo m) (state_of states a).kinds a.registers → n ≡ m

-- it is completed, or another one, that the routine owns
abbrev pub Completed : States → Activation → Activation → ℕ → Type 0
Completed states a b n =
    (IsHandedOver states a n × ((state_of states b).duty ≡ Finished)) ⊎ GoesOnAs states a b

-- a packet that a routine was handed is given down: what the lower driver returns will be the one
-- status of its kind
pub record GivesDown (set : Set) (states : States) (a b : Activation) (n : ℕ) : Type 0 where
  pub before : IsHandedOver states a n
  pub after : (state_of states b).duty ≡ GivenDown
  pub answer : (status : Status) → Lowers (is_pending status) (state_of states b).kinds
      (answered set b status).registers

-- or another one is, that the routine owns
pub record GivesOwn (set : Set) (states : States) (a b : Activation) (n : ℕ) : Type 0 where
  pub on : GoesOnAs states a b
  pub answer : (x : Bool) (status : Status) → Lowers x (state_of states a).kinds a.registers
      → Lowers x (state_of states b).kinds (answered set b status).registers
  pub other : (m : ℕ) → (state_of states a).duty ≡ Fresh
      → HoldOf is_new (RefersTo m) (state_of states a).kinds a.registers → nat_eq n m ≡ false

abbrev pub Called : Set → States → Activation → Activation → ℕ → Type 0
Called set states a b n = GivesDown set states a b n ⊎ GivesOwn set states a b n

-- a dispatch routine that begins with a packet
pub record BeginsServing (set : Set) (states : States) (c : Activation) (n : ℕ) : Type 0 where
  pub of_sort : sort_of set c.driver c.routine ≡ Dispatch
  pub fresh : (state_of states c).duty ≡ Fresh
  pub first : register c 0 ≡ Ref n
  pub rights : (m : ℕ) → frame_rights states (Routine c) m ≡ (if nat_eq n m then 1 else 0)
  pub refers : HoldOf is_new (RefersTo n) (state_of states c).kinds c.registers

-- a use that is named is the current one
was_use : (v : Serving) (n : ℕ) (o : Option ℕ) → n ≡ v.packet → o ≡ Some v.«use»
    → is_use n o v ≡ true
was_use v n None packet is = cc
was_use v n (Some u) packet is =
    let same : u ≡ v.«use» = cc in
    rw (eq-eqb n v.packet packet, eq-eqb u v.«use» same) refl

-- uses of a packet that is sent down
called_uses : (past : List Entry) (actor : Actor) (n : ℕ)
    → uses (recorded past actor (Executes ∷ Touches n ∷ Calls n ∷ [])) n
    ≡ uses_opened past ∷ uses past n
called_uses past actor n = rw (eq-eqb n n refl) refl

first_of_used : (used : List ℕ) (u : ℕ) → slice_get used 0 ≡ Some u → used ≡ u ∷ drop 1 used
first_of_used [] u h = cc
first_of_used (x ∷ upper) u h = let same : x ≡ u = cc in rw same refl

module _ (set : Set) (states : States) where
  -- the tag of a routine that begins, which serves the current use of what it was handed
  pub new_serving : (past : List Entry) (number : ℕ) (c : Activation) (n : ℕ) (v : Serving)
      → BeginsServing set states c n → n ≡ v.packet → current_use past v.packet ≡ Some v.«use»
      → new_tag set past number (Routine c) ≡ Activated number c.driver c.routine (Some v)
  new_serving past number c n v begins packet now =
      let here : current_use past n ≡ Some v.«use» = ap (λ (m : ℕ). current_use past m) packet
      ∙ now in
      ap (λ (sort : Sort). Activated number c.driver c.routine (serving_by past c sort))
      begins.of_sort
      ∙ ap (λ (x : Value). Activated number c.driver c.routine (serving_in past x)) begins.first
      ∙ ap (λ (o : Option ℕ). Activated number c.driver c.routine (serving_with o n)) here
      ∙ ap (λ (m : ℕ). Activated number c.driver c.routine
      (Some (record { packet = m; «use» = v.«use» }))) packet

  pub begun_serves : (w : World) (past : List Entry) (v : Serving) (c : Activation) (n : ℕ)
      → BeginsServing set states c n → n ≡ v.packet → Current past v false
      → ServesUse set states w past v c None
  begun_serves w past v c n begins packet current =
      record {
        says = subst (λ (d : Duty). Says set states w past v c None d) (sym begins.fresh)
            (record {
              refers = subst
                  (λ (m : ℕ). HoldOf is_new (RefersTo m) (state_of states c).kinds c.registers)
                  packet
                  begins.refers;
              current = λ some. current;
            });
      }

  -- a routine that serves a use goes on; where nothing was done about the packet that it was
  -- handed, it has the right to it
  module _ (w later_w : World) (past later : List Entry) (v : Serving) (a b : Activation)
      (serves_use : ServesUse set states w past v a None)
      (owns : (m : ℕ) → (state_of states a).duty ≡ Fresh
      → HoldOf is_new (RefersTo m) (state_of states a).kinds a.registers
      → 1 ≤ frame_rights states (Routine a) m) where
    handed : (state_of states a).duty ≡ Fresh → Handed set states w past v a
    handed fresh = subst (λ (d : Duty). Says set states w past v a None d) fresh serves_use.says

    pub owned_current : (n : ℕ) → IsHandedOver states a n → (n ≡ v.packet) × Current past v false
    owned_current n over =
        let known : Handed set states w past v a = handed over.fresh in
        (over.is v.packet known.refers, known.current (owns v.packet over.fresh known.refers))

    -- nothing is told of its packet, as long as nothing was done about it
    on_says : (d : Duty) → (state_of states a).duty ≡ d → GoesOnAs states a b
        → KeepsAgreed states w past later_w later
        → ((state_of states a).duty ≡ Fresh
        → HoldOf is_new (RefersTo v.packet) (state_of states a).kinds a.registers
        → SameUses past later v.packet)
        → Says set states w past v a None d → Says set states later_w later v b None d
    on_says Fresh is on keeps same h =
        record {
          refers = on.news v.packet h.refers;
          current = λ some. current_same past later v false (same is h.refers)
              (h.current (owns v.packet is h.refers));
        }
    on_says Pending is on keeps same h = keeps.agreed v true h
    on_says Finished is on keeps same h = keeps.agreed v false h
    on_says GivenDown is on keeps same h =
        record {
          pending = h.pending;
          lowers = on.lowers h.pending h.lowers;
          agreed = keeps.agreed v h.pending h.agreed;
        }
    on_says NoDuty is on keeps same h = tt

    pub plain_serves : KeepsAgreed states w past later_w later
        → ((state_of states a).duty ≡ Fresh
        → HoldOf is_new (RefersTo v.packet) (state_of states a).kinds a.registers
        → SameUses past later v.packet)
        → GoesOnAs states a b
        → ServesUse set states later_w later v b None
    plain_serves keeps same on =
        record {
          says = subst (λ (d : Duty). Says set states later_w later v b None d) (sym on.duty)
              (on_says (state_of states a).duty refl on keeps same serves_use.says);
        }

    -- a completion
    pub done_serves : (n : ℕ) (p : Packet) → Settles states w past later_w later
        → ((m : ℕ) → SameUses past later m)
        → find later_w.shared.packets n ≡ Some p → p.completing ≡ true
        → late_marks states p.pending_returned n later_w.threads ≡ 0
        → Completed states a b n
        → ServesUse set states later_w later v b None
    done_serves n p settles same there done late (inl fresh) =
        let own : (n ≡ v.packet) × Current past v false = owned_current n fresh.0 in
        let free : Current later v false = current_same past later v false (same v.packet) own.1 in
        record {
          says = subst (λ (d : Duty). Says set states later_w later v b None d) (sym fresh.1)
              (settles.finished v p
              (subst (λ (m : ℕ). find later_w.shared.packets m ≡ Some p) own.0 there) free.0 free.1
              done
              (subst (λ (m : ℕ). late_marks states p.pending_returned m later_w.threads ≡ 0) own.0
              late));
        }
    done_serves n p settles same there done late (inr on) =
        plain_serves settles.keeps (λ fresh refers. same v.packet) on

    -- a packet is passed on: the lower routine serves the same use
    pub passed_serves : (n : ℕ) → SameUses past later v.packet
        → GivesDown set states a b n → (n ≡ v.packet) × Current later v false
        × ServesUse set states later_w later v b (Some v)
    passed_serves n same gives =
        let own : (n ≡ v.packet) × Current past v false = owned_current n gives.before in
        let free : Current later v false = current_same past later v false same own.1 in (
          own.0,
          free,
          record {
            says = subst (λ (d : Duty). Says set states later_w later v b (Some v) d)
                (sym gives.after)
                (inl (record { linked = inl refl; answer = gives.answer }));
          },
        )

    -- a packet that it owns is sent down: the lower routine serves a use of that one
    own_says : (lower : Serving) (n : ℕ) (d : Duty) → (state_of states a).duty ≡ d
        → GivesOwn set states a b n
        → KeepsAgreed states w past later_w later
        → (nat_eq n v.packet ≡ false → SameUses past later v.packet)
        → Says set states w past v a None d → Says set states later_w later v b (Some lower) d
    own_says lower n Fresh is gives keeps same h =
        record {
          refers = gives.on.news v.packet h.refers;
          current = λ some. current_same past later v false
              (same (gives.other v.packet is h.refers))
              (h.current (owns v.packet is h.refers));
        }
    own_says lower n Pending is gives keeps same h = keeps.agreed v true h
    own_says lower n Finished is gives keeps same h = keeps.agreed v false h
    own_says lower n GivenDown is gives keeps same h =
        inr (record {
          pending = h.pending;
          answer = λ status. gives.answer h.pending status h.lowers;
          agreed = keeps.agreed v h.pending h.agreed;
        })
    own_says lower n NoDuty is gives keeps same h = tt

    pub own_serves : (lower : Serving) (n : ℕ) → GivesOwn set states a b n
        → KeepsAgreed states w past later_w later
        → (nat_eq n v.packet ≡ false → SameUses past later v.packet)
        → ServesUse set states later_w later v b (Some lower)
    own_serves lower n gives keeps same =
        record {
          says = subst (λ (d : Duty). Says set states later_w later v b (Some lower) d)
              (sym gives.on.duty)
              (own_says lower n (state_of states a).duty refl gives keeps same serves_use.says);
        }

  -- a mark
  module _ (w later_w : World) (past : List Entry) (actor : Actor) (v : Serving) (a b : Activation)
      (serves_use : ServesUse set states w past v a None)
      (owns : (m : ℕ) → (state_of states a).duty ≡ Fresh
      → HoldOf is_new (RefersTo m) (state_of states a).kinds a.registers
      → 1 ≤ frame_rights states (Routine a) m) where
    pub mark_serves : (n : ℕ) (p : Packet)
        → Settles states w past later_w (recorded past actor (Executes ∷ Touches n ∷ Marks n ∷ []))
        → find later_w.shared.packets n ≡ Some p → IsHandedOver states a n
        → (state_of states b).duty ≡ Pending
        → ServesUse set states later_w (recorded past actor (Executes ∷ Touches n ∷ Marks n ∷ [])) v
        b None
    mark_serves n p settles there over duty =
        let later : List Entry = recorded past actor (Executes ∷ Touches n ∷ Marks n ∷ []) in
        let own : (n ≡ v.packet) × Current past v false =
        owned_current w later_w past later v a b serves_use owns n over in
        let now : current_use past v.packet ≡ Some v.«use» = own.1.0 in
        let same : is_use n (current_use past n) v ≡ true =
        was_use v n (current_use past n) own.0 (ap (λ (m : ℕ). current_use past m) own.0 ∙ now) in
        let marked : was_marked later v ≡ true = ap (λ (b : Bool). b || was_marked past v) same in
        record {
          says = subst (λ (d : Duty). Says set states later_w later v b None d) (sym duty)
              (settles.marked v p
              (subst (λ (m : ℕ). find later_w.shared.packets m ≡ Some p) own.0 there) now
              marked);
        }

    -- the packet that it was handed is sent down in a location of its own: the lower routine serves
    -- a new use
    pub called_serves : (p : Packet)
        → Settles states w past later_w
        (recorded past actor (Executes ∷ Touches v.packet ∷ Calls v.packet ∷ []))
        → find later_w.shared.packets v.packet ≡ Some p
        → GivesDown set states a b v.packet
        → ServesUse set states later_w
        (recorded past actor (Executes ∷ Touches v.packet ∷ Calls v.packet ∷ [])) v b
        (Some (record { packet = v.packet; «use» = uses_opened past }))
    called_serves p settles there gives =
        let later : List Entry =
        recorded past actor (Executes ∷ Touches v.packet ∷ Calls v.packet ∷ []) in
        let lower : Serving = record { packet = v.packet; «use» = uses_opened past } in
        let free : Current past v false =
        (owned_current w later_w past later v a b serves_use owns v.packet gives.before).1 in
        let used : uses later v.packet ≡ uses_opened past ∷ v.«use» ∷ drop 1 (uses past v.packet) =
        called_uses past actor v.packet
        ∙ ap (λ (xs : List ℕ). uses_opened past ∷ xs)
        (first_of_used (uses past v.packet) v.«use» free.0)
        in
        record {
          says = subst (λ (d : Duty). Says set states later_w later v b (Some lower) d)
              (sym gives.after)
              (inl (record {
                linked =
                    settles.called v.packet v.«use» (uses_opened past) (drop 1 (uses past v.packet))
                    p there used free.1;
                answer = gives.answer;
              }));
        }

pub called_current : (states : States) (w later_w : World) (past : List Entry) (actor : Actor)
    (n : ℕ)
    → Settles states w past later_w (recorded past actor (Executes ∷ Touches n ∷ Calls n ∷ []))
    → Current (recorded past actor (Executes ∷ Touches n ∷ Calls n ∷ []))
    (record { packet = n; «use» = uses_opened past }) false
called_current states w later_w past actor n settles = (
  ap (λ (used : List ℕ). slice_get used 0) (called_uses past actor n),
  settles.unmarked (record { packet = n; «use» = uses_opened past }) (omega arith),
)
