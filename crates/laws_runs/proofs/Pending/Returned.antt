-- The statuses that were returned from uses are as agreed on: so pending agreement holds of the
-- trace. And which actions tell something of uses.
use Rattle.laws_runs.proofs.Common.{ap, arith, cond, inl, inr, refl, subst, sym, zero, ◌∙◌, eqb_tells, list_any, All, Bool, List, Some, [], false, nat_eq, not, slice_index_or, suc, true, ℕ, ◌∷◌, ◌≡◌, Action, Executes, OfRoutine, OnLocation, is_pending, PendingAgree, statuses_returned, Activated, Actor, Entry, Serving, Tag, entry, recorded, World, Status, States, and_left, and_right, or_left, or_right}
use Rattle.std.proofs.lemmas.Bool.{eqb-true}
use Rattle.model.specs.Action.{Issue, Call, Return, Returns}
use Rattle.model.specs.PendingAgreement.{serves}
use Rattle.laws_runs.proofs.Pending.Serving.{KeepsAgreed, served}
use Rattle.laws_runs.proofs.Uses.Fates.{Agreed}
use Rattle.laws_runs.proofs.Uses.Traced.{SameUses, is_about, same_recorded}

-- an action tells something of a use, its mark or a status
abbrev pub is_telling : Action → Bool
is_telling (OnLocation n act) = true
is_telling (OfRoutine (Return status)) = true
is_telling _ = false

-- of another packet, or a status
abbrev pub tells_beyond : ℕ → Action → Bool
tells_beyond m (OnLocation n (Issue stack)) = true
tells_beyond m (OnLocation n Call) = true
tells_beyond m (OnLocation n _) = not (nat_eq n m)
tells_beyond m (OfRoutine (Return status)) = true
tells_beyond m _ = false

-- it returns a status
abbrev pub is_return : Action → Bool
is_return (OfRoutine (Return status)) = true
is_return _ = false

pub any_less : {A : Type 0} (f g : A → Bool) (xs : List A) → ((x : A) → f x ≡ false → g x ≡ false)
    → list_any f xs ≡ false → list_any g xs ≡ false
any_less f g [] less h = refl
any_less f g (x ∷ xs) less h =
    let one : g x ≡ false = less x (or_left (f x) (list_any f xs) h) in
    let others : list_any g xs ≡ false = any_less f g xs less (or_right (f x) (list_any f xs) h) in
    rw (one, others) refl

telling_return : (action : Action) → is_telling action ≡ false → is_return action ≡ false
telling_return (OfRoutine (Return status)) h = cc
telling_return _ h = refl

pub silent_returns : (actions : List Action) → list_any is_telling actions ≡ false
    → list_any is_return actions ≡ false
silent_returns actions h = any_less is_telling is_return actions telling_return h

beyond_return : (m : ℕ) (action : Action) → tells_beyond m action ≡ false → is_return action ≡ false
beyond_return m (OfRoutine (Return status)) h = cc
beyond_return m _ h = refl

pub beyond_returns : (m : ℕ) (actions : List Action) → list_any (tells_beyond m) actions ≡ false
    → list_any is_return actions ≡ false
beyond_returns m actions h = any_less (tells_beyond m) is_return actions (beyond_return m) h

telling_about : (n : ℕ) (action : Action) → is_telling action ≡ false → is_about n action ≡ false
telling_about n (OnLocation m act) h = cc
telling_about n _ h = refl

pub silent_about : (n : ℕ) (actions : List Action) → list_any is_telling actions ≡ false
    → list_any (is_about n) actions ≡ false
silent_about n actions silent = any_less is_telling (is_about n) actions (telling_about n) silent

not_equal : (k m n : ℕ) → not (nat_eq k m) ≡ false → nat_eq m n ≡ false → nat_eq k n ≡ false
not_equal k m n h apart =
    elim (eqb_tells k m) [
      | inl e ↦ let same : k ≡ m = e.1 in rw same apart
      | inr e ↦ let no : true ≡ false = rw e.0 at h in cc
    ]

beyond_about : (m n : ℕ) (action : Action) → nat_eq m n ≡ false → tells_beyond m action ≡ false
    → is_about n action ≡ false
beyond_about m n (OnLocation k (Issue stack)) apart h = cc
beyond_about m n (OnLocation k Call) apart h = cc
beyond_about m n (OnLocation k _) apart h = not_equal k m n h apart
beyond_about m n _ apart h = refl

pub beyond_uses : (past : List Entry) (actor : Actor) (actions : List Action) (m n : ℕ)
    → list_any (tells_beyond m) actions ≡ false → nat_eq m n ≡ false
    → SameUses past (recorded past actor actions) n
beyond_uses past actor actions m n silent apart =
    same_recorded past actor actions n
    (any_less (tells_beyond m) (is_about n) actions (λ action h. beyond_about m n action apart h)
    silent)

-- every status that was returned from a use is as agreed on
abbrev pub AllAgree : States → World → List Entry → Type 0
AllAgree states w past = (v : Serving) → All (λ status. Agreed states w past v (is_pending status))
    (statuses_returned past v)

all_more : {A : Type 0} (P : A → Type 0) (x : A) (xs : List A) → P x → All P xs → All P (x ∷ xs)
all_more P x xs one others zero d within = one
all_more P x xs one others (suc k) d within = others k d (omega arith)

-- an action that returns none
either_same : {A : Type 0} (b : Bool) (x y : A) → y ≡ x → cond {A = A} b y x ≡ x
either_same true x y same = same
either_same false x y same = refl

entry_statuses : (past : List Entry) (actor : Actor) (action : Action) (v : Serving)
    → is_return action ≡ false
    → statuses_returned (entry past actor action ∷ past) v ≡ statuses_returned past v
entry_statuses past actor (OfRoutine (Return status)) v h = cc
entry_statuses past actor _ v h =
    either_same (serves actor.tag v) (statuses_returned past v) (statuses_returned past v) refl

statuses_same : (past : List Entry) (actor : Actor) (actions : List Action) (v : Serving)
    → list_any is_return actions ≡ false
    → statuses_returned (recorded past actor actions) v ≡ statuses_returned past v
statuses_same past actor [] v h = refl
statuses_same past actor (action ∷ actions) v h =
    statuses_same (entry past actor action ∷ past) actor actions v
    (or_right (is_return action) (list_any is_return actions) h)
    ∙ entry_statuses past actor action v (or_left (is_return action) (list_any is_return actions) h)

-- a status that a use's routine returns
serving_same : (v u : Serving) → v.packet ≡ u.packet → v.«use» ≡ u.«use» → v ≡ u
serving_same v u packet same =
    ap (λ (n : ℕ). record { packet = n; «use» = v.«use» }) packet
    ∙ ap (λ (x : ℕ). record { packet = u.packet; «use» = x }) same

served_same : (tag : Tag) (v u : Serving) → served tag ≡ Some v → serves tag u ≡ true → v ≡ u
served_same (Activated g driver routine (Some x)) v u is h =
    let same : x ≡ v = cc in
    sym same
    ∙ serving_same x u
    (eqb-true x.packet u.packet
    (and_left (nat_eq x.packet u.packet) (nat_eq x.«use» u.«use») h))
    (eqb-true x.«use» u.«use» (and_right (nat_eq x.packet u.packet) (nat_eq x.«use» u.«use») h))
served_same _ v u is h = cc

returned_more : (b : Bool) (P : Status → Type 0) (status : Status) (xs : List Status)
    → (b ≡ true → P status)
    → All P xs → All P
    (cond {A = List Status} b (status ∷ cond {A = List Status} b xs xs)
    (cond {A = List Status} b xs xs))
returned_more true P status xs one others = all_more P status xs (one refl) others
returned_more false P status xs one others = others

module _ (states : States) (w later_w : World) (past : List Entry) (actor : Actor) where
  pub agree_kept : (actions : List Action)
      → KeepsAgreed states w past later_w (recorded past actor actions)
      → list_any is_return actions ≡ false → AllAgree states w past
      → AllAgree states later_w (recorded past actor actions)
  agree_kept actions keeps silent h v =
      subst (λ (statuses : List Status).
      All (λ status. Agreed states later_w (recorded past actor actions) v
      (is_pending status)) statuses)
      (sym (statuses_same past actor actions v silent))
      (λ k d within. keeps.agreed v (is_pending (slice_index_or (statuses_returned past v) k d))
      (h v k d within))

  pub agree_returned : (v : Serving) (status : Status) → served actor.tag ≡ Some v
      → KeepsAgreed states w past later_w (recorded past actor (Executes ∷ Returns status ∷ []))
      → Agreed states later_w (recorded past actor (Executes ∷ Returns status ∷ [])) v
      (is_pending status)
      → AllAgree states w past
      → AllAgree states later_w (recorded past actor (Executes ∷ Returns status ∷ []))
  agree_returned v status is keeps agreed h u =
      let later : List Entry = recorded past actor (Executes ∷ Returns status ∷ []) in
      returned_more (serves actor.tag u) (λ x. Agreed states later_w later u (is_pending x)) status
      (statuses_returned past u)
      (λ yes. subst (λ (x : Serving). Agreed states later_w later x (is_pending status))
      (served_same actor.tag v u is yes) agreed)
      (λ k d within. keeps.agreed u (is_pending (slice_index_or (statuses_returned past u) k d))
      (h u k d within))

-- what was returned agrees with what was left
pub pending_agree : (states : States) (w : World) (past : List Entry) → AllAgree states w past
    → PendingAgree past
pending_agree states w past h v k d within j e inside =
    sym ((h v k d within).left j e inside)

pub agree_begun : (states : States) (w : World) → AllAgree states w []
agree_begun states w v k d within = absurd (omega arith)
