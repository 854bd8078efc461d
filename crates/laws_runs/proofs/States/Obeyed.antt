-- What an instruction that breaks no rule tells of the state before it: where it sends a packet
-- down, completes one, or returns.
use Rattle.laws_runs.proofs.Prelude.{refl, subst, sym, ◌∙◌, list_any, Bool, List, None, Some, [], false, true, ℕ, ◌&&◌, ◌∷◌, ◌≡◌, is_too_small, lacks_lower, is_kept, is_right, a_new_one, an_owned_one, broken_if, complete_kind, completion_sort_fault, demanded, duty_fault, form_fault, forward_fault, forward_sort_fault, given_down, gives_back, handed, holds_lock, holds_spin_lock, is_completion, is_dropped, is_hold, is_pending, kept_fault, kind_of, least_of, one_handed_or_owned, refuses, settled_fault, Set, Abs, Kind, New, Own, CancelSpinLock, CompletionRule, Dropped, SpinLock, Instr, Call, Complete, Pass, Ret, Return, Sort, Dispatch, Hold, Status}
use Rattle.model.specs.declared.abs.Rule.TheVariants.{MarkIrpPending, LockHeld, StackTooSmall, NoLower}
use Rattle.laws_runs.proofs.States.NoViews.{is_queued}
use Rattle.laws_runs.proofs.States.Rules.{first_none, second_none, unbroken}
use Rattle.laws_runs.proofs.Steps.Words.{Forwarding, work_of, packet_operand}
use Rattle.laws_runs.proofs.Tests.{or_left, or_right, or_both}

-- how many locations more a packet needs that an instruction sends down
abbrev pub locations_wanted : Instr → ℕ
locations_wanted (Call r f) = 1
locations_wanted _ = 0

pub forwards_of : (sort : Sort) → forward_sort_fault sort ≡ None → sort ≡ Dispatch
forwards_of Dispatch h = refl
forwards_of _ h = cc

new_right : (k : Kind) → demanded a_new_one k ≡ None → is_right k ≡ true
new_right New h = refl
new_right _ h = cc

owned_right : (k : Kind) → demanded one_handed_or_owned k ≡ None → is_right k ≡ true
owned_right New h = refl
owned_right Own h = refl
owned_right _ h = cc

new_unqueued : (k : Kind) → demanded a_new_one k ≡ None → is_queued k ≡ false
new_unqueued New h = refl
new_unqueued _ h = cc

owned_unqueued : (k : Kind) → demanded one_handed_or_owned k ≡ None → is_queued k ≡ false
owned_unqueued New h = refl
owned_unqueued Own h = refl
owned_unqueued _ h = cc

pub inserts_right : (k : Kind) → demanded an_owned_one k ≡ None → k ≡ Own
inserts_right Own h = refl
inserts_right _ h = cc

complete_right : (k : Kind) → complete_kind k ≡ None → is_right k ≡ true
complete_right New h = refl
complete_right Own h = refl
complete_right _ h = cc

-- where a routine that was lent no packet returns, it keeps none
dropped_kept : (k : Kind) → is_dropped false k ≡ is_kept k
dropped_kept k = and_true (is_kept k)
  where
    and_true : (b : Bool) → (b && true) ≡ b
    and_true false = refl
    and_true true = refl

no_kept : (kinds : List Kind) → list_any (is_dropped false) kinds ≡ false
    → list_any is_kept kinds ≡ false
no_kept [] h = refl
no_kept (k ∷ kinds) h =
    or_both (is_kept k) (list_any is_kept kinds)
    (sym (dropped_kept k) ∙ or_left (is_dropped false k) (list_any (is_dropped false) kinds) h)
    (no_kept kinds (or_right (is_dropped false k) (list_any (is_dropped false) kinds) h))

pub never_back : (sort : Sort) (form : Return) → is_hold sort ≡ false → gives_back sort form ≡ false
never_back Hold form lends = cc
never_back _ form lends = refl

pub nothing_kept : (sort : Sort) (form : Return) (kinds : List Kind) → is_hold sort ≡ false
    → list_any (is_dropped (gives_back sort form)) kinds ≡ false → list_any is_kept kinds ≡ false
nothing_kept sort form kinds lends none =
    no_kept kinds
    (subst (λ (back : Bool). list_any (is_dropped back) kinds ≡ false) (never_back sort form lends)
    none)

module _ (s : Abs) (sort : Sort) (set : Set) (driver : ℕ) where
  -- a packet is sent down
  pub record SendsDown (i : Instr) (r : ℕ) : Type 0 where
    pub right : is_right (kind_of s r) ≡ true
    pub unqueued : is_queued (kind_of s r) ≡ false
    pub free : holds_lock s ≡ false
    pub dispatch : sort ≡ Dispatch
    pub room : is_too_small set driver (locations_wanted i) ≡ false
    pub lower : lacks_lower set driver ≡ false
    pub after : handed set driver s i ≡ given_down s r (kind_of s r)

  sends_by : (i : Instr) (q r : ℕ) → Some q ≡ Some r → is_right (kind_of s q) ≡ true
      → is_queued (kind_of s q) ≡ false → forward_fault s sort set driver (locations_wanted i)
      ≡ None
      → handed set driver s i ≡ given_down s q (kind_of s q)
      → SendsDown i r
  sends_by i q r same right unqueued rule after =
      let one : q ≡ r = cc in
      let later : least_of (forward_sort_fault sort)
      (least_of (broken_if (is_too_small set driver (locations_wanted i)) StackTooSmall)
      (broken_if (lacks_lower set driver) NoLower)) ≡ None = second_none _ _ rule in
      record {
        right = rw one at right;
        unqueued = rw one at unqueued;
        free = unbroken (holds_lock s) LockHeld (first_none _ _ rule);
        dispatch = forwards_of sort (first_none _ _ later);
        room = unbroken (is_too_small set driver (locations_wanted i)) StackTooSmall
            (first_none _ _ (second_none _ _ later));
        lower = unbroken (lacks_lower set driver) NoLower (second_none _ _ (second_none _ _ later));
        after = rw one at after;
      }

  pub sends_down : (i : Instr) (r : ℕ) → refuses s i sort set driver ≡ None → work_of i ≡ Forwarding
      → packet_operand i ≡ Some r → SendsDown i r
  sends_down (Pass q) r h is operand =
      sends_by (Pass q) q r operand (new_right (kind_of s q) (first_none _ _ h))
      (new_unqueued (kind_of s q) (first_none _ _ h)) (second_none _ _ h) refl
  sends_down (Call q f) r h is operand =
      sends_by (Call q f) q r operand (owned_right (kind_of s q) (first_none _ _ h))
      (owned_unqueued (kind_of s q) (first_none _ _ h)) (first_none _ _ (second_none _ _ h)) refl
  sends_down _ r h is operand = cc

  -- one is completed
  pub record CompletesOne (r : ℕ) (status : Status) : Type 0 where
    pub right : is_right (kind_of s r) ≡ true
    pub final : is_pending status ≡ false
    pub free : holds_lock s ≡ false
    pub above : is_completion sort ≡ false

  pub completes_one : (r : ℕ) (status : Status) → refuses s (Complete r status) sort set driver
      ≡ None
      → CompletesOne r status
  completes_one r status h =
      let later : least_of (broken_if (is_pending status) MarkIrpPending)
      (least_of (broken_if (holds_lock s) LockHeld) (completion_sort_fault sort)) ≡ None =
      second_none _ _ h in
      record {
        right = complete_right (kind_of s r) (first_none _ _ h);
        final = unbroken (is_pending status) MarkIrpPending (first_none _ _ later);
        free = unbroken (holds_lock s) LockHeld (first_none _ _ (second_none _ _ later));
        above = unbroken (is_completion sort) CompletionRule
            (second_none _ _ (second_none _ _ later));
      }

  -- the routine returns
  pub record ReturnsBy (form : Return) : Type 0 where
    pub duty : duty_fault s form ≡ None
    pub free : holds_lock s ≡ false
    pub nothing_left : list_any (is_dropped (gives_back sort form)) s.kinds ≡ false
    pub of_form : form_fault sort form ≡ None
    pub settled : settled_fault sort s form ≡ None

  pub returns_by : (form : Return) → refuses s (Ret form) sort set driver ≡ None → ReturnsBy form
  returns_by form h =
      let back : Bool = gives_back sort form in
      let rest : least_of (kept_fault s back)
      (least_of (form_fault sort form) (settled_fault sort s form)) ≡ None =
      second_none _ _ h in
      let kept : kept_fault s back ≡ None = first_none _ _ rest in
      record {
        duty = first_none _ _ h;
        free = or_both s.cancel (holds_spin_lock s)
            (unbroken s.cancel CancelSpinLock (first_none _ _ kept))
            (unbroken (holds_spin_lock s) SpinLock (first_none _ _ (second_none _ _ kept)));
        nothing_left = unbroken (list_any (is_dropped back) s.kinds) Dropped
            (first_none _ _ (second_none _ _ (second_none _ _ kept)));
        of_form = first_none _ _ (second_none _ _ rest);
        settled = second_none _ _ (second_none _ _ rest);
      }
