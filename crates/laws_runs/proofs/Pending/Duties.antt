-- What a dispatch routine's registers are by its duty, in every state that arrives at one of its
-- positions: a packet that it was handed goes with no duty done yet, and a lower driver's status
-- with a packet that was given down. A packet that it owns, which it marked or removed from a
-- queue, goes with any duty.
use Rattle.laws_runs.proofs.Common.{ap, arith, refl, subst, sym, zero, ◌∙◌, cond_both, eq-eqb, length-set, All, Bool, List, None, Option, Some, [], false, if◌then◌else◌, length, slice_index_or, slice_set, suc, true, ℕ, ◌+◌, ◌<◌, ◌∷◌, ◌≡◌, ◌≤◌, all_let_go, duty_completed, is_guard, is_lower, is_new, is_packet, kind_disarmed, kind_inserted, kind_removed, left_behind, let_go, a_new_one, complete_kind, demanded, entered_with, entry_of_sort, given_down, handed, handed_at_label, kind_of, mark_fault, marked, one_handed_or_owned, queued_kind, refuses, with_kind, Arrives, Member, Set, cancel_routine_of, cancels_for, guard_named, OperandFits, Abs, Duty, Finished, Fresh, GivenDown, NoDuty, Pending, Kind, Lower, New, Own, Queued, View, SettledMark, Armed, Instr, Arm, Begin, Call, Clear, Complete, Const, Dequeue, Disarm, Get, IfPending, Insert, Load, LoadPaged, Mark, Move, Pass, Release, ReleaseCancel, Remove, Start, Take, Unlink, Guard, CancelLock, DeviceLock, QueueName, Declared, Sort, Dispatch, Value, right, rights, all_at, copied, arrives_keep, HoldOf, HasKinds, Suits, handed_long, left_none, inserts_right, first_none, second_none, unbroken}
use Rattle.model.specs.declared.abs.Kind.TheVariants.{Blank, Num}
use Rattle.laws_runs.proofs.Live.Sees.{RefersTo}
use Rattle.laws_runs.proofs.States.Lent.{queued_not_new}

-- how many registers are so
abbrev pub counted : (Kind → Bool) → Kind → ℕ
counted f k = if f k then 1 else 0

abbrev pub kinds_that : (Kind → Bool) → List Kind → ℕ
kinds_that f [] = 0
kinds_that f (k ∷ kinds) = counted f k + kinds_that f kinds

-- what registers there may be by the duty
abbrev pub Dutied : Duty → List Kind → Type 0
Dutied Fresh kinds = (kinds_that is_new kinds ≡ 1) × (kinds_that is_lower kinds ≡ 0)
Dutied Pending kinds = kinds_that is_new kinds ≡ 0
Dutied Finished kinds = kinds_that is_new kinds ≡ 0
Dutied GivenDown kinds = kinds_that is_new kinds ≡ 0
Dutied NoDuty kinds = ⊥

abbrev pub Dutiful : Abs → Type 0
Dutiful s = Dutied s.duty s.kinds

-- one register's kind becomes another
count_set : (f : Kind → Bool) (kinds : List Kind) (r : ℕ) (k : Kind) → r < length kinds
    → kinds_that f (slice_set kinds r k) + counted f (slice_index_or kinds r Blank)
    ≡ kinds_that f kinds + counted f k
count_set f [] r k within = absurd (omega arith)
count_set f (j ∷ kinds) zero k within = omega arith
count_set f (j ∷ kinds) (suc r) k within =
    let others : kinds_that f (slice_set kinds r k) + counted f (slice_index_or kinds r Blank)
    ≡ kinds_that f kinds + counted f k =
    count_set f kinds r k (omega arith)
    in
    omega arith

count_gone : (f : Kind → Bool) (kinds : List Kind) (r : ℕ) (k : Kind) → f Blank ≡ false
    → f k ≡ false
    → kinds_that f (slice_set kinds r k) + counted f (slice_index_or kinds r Blank)
    ≡ kinds_that f kinds
count_gone f [] r k blank none = rw blank refl
count_gone f (j ∷ kinds) zero k blank none = rw none (omega arith)
count_gone f (j ∷ kinds) (suc r) k blank none =
    omega (arith, count_gone f kinds r k blank none)

count_one : (f : Kind → Bool) (kinds : List Kind) (r : ℕ) → f Blank ≡ false
    → counted f (slice_index_or kinds r Blank) ≤ kinds_that f kinds
count_one f [] r blank = rw blank (omega arith)
count_one f (j ∷ kinds) zero blank = omega arith
count_one f (j ∷ kinds) (suc r) blank =
    omega (arith, count_one f kinds r blank)

-- one that is moved
count_move : (f : Kind → Bool) (kinds : List Kind) (r q : ℕ) → f Blank ≡ false → f Num ≡ false
    → r < length kinds
    → kinds_that f (slice_set (slice_set kinds r (slice_index_or kinds q Blank)) q
    (left_behind (slice_index_or kinds q Blank))) + counted f (slice_index_or kinds r Blank)
    ≡ kinds_that f kinds
count_move f kinds r q blank number within =
    let k : Kind = slice_index_or kinds q Blank in
    let ks : List Kind = slice_set kinds r k in
    let left : f (left_behind k) ≡ false = left_none f blank number k in
    let there : counted f (slice_index_or ks q Blank) ≡ counted f k =
    ap (counted f) (copied kinds r q Blank) in
    omega (arith, count_set f kinds r k within, count_gone f ks q (left_behind k) blank left)

-- the same packets, and no more statuses of lower drivers
dutied_less : (d : Duty) (kinds now : List Kind) → kinds_that is_new now ≡ kinds_that is_new kinds
    → kinds_that is_lower now ≤ kinds_that is_lower kinds
    → Dutied d kinds → Dutied d now
dutied_less Fresh kinds now news lowers h =
    (news ∙ h.0, let none : kinds_that is_lower kinds ≡ 0 = h.1 in omega arith)
dutied_less Pending kinds now news lowers h = news ∙ h
dutied_less Finished kinds now news lowers h = news ∙ h
dutied_less GivenDown kinds now news lowers h = news ∙ h
dutied_less NoDuty kinds now news lowers h = absurd h

uncounted : (f : Kind → Bool) (k : Kind) → f k ≡ false → counted f k ≡ 0
uncounted f k h = rw h refl

not_new : (k : Kind) → is_packet k ≡ false → is_new k ≡ false
not_new New h = cc
not_new _ h = refl

-- a register with no packet that was handed over gets another kind
dutied_written : (d : Duty) (kinds : List Kind) (r : ℕ) (k : Kind)
    → is_new (slice_index_or kinds r Blank) ≡ false
    → is_new k ≡ false → is_lower k ≡ false → Dutied d kinds → Dutied d (slice_set kinds r k)
dutied_written d kinds r k free plain low h =
    let news : kinds_that is_new (slice_set kinds r k)
    + counted is_new (slice_index_or kinds r Blank)
    ≡ kinds_that is_new kinds = count_gone is_new kinds r k refl plain in
    let lowers : kinds_that is_lower (slice_set kinds r k) + counted is_lower
    (slice_index_or kinds r Blank)
    ≡ kinds_that is_lower kinds = count_gone is_lower kinds r k refl low in
    let new : counted is_new (slice_index_or kinds r Blank) ≡ 0 =
    uncounted is_new (slice_index_or kinds r Blank) free in
    dutied_less d kinds (slice_set kinds r k) (omega arith) (omega arith) h

dutied_moved : (d : Duty) (kinds : List Kind) (r q : ℕ)
    → is_packet (slice_index_or kinds r Blank) ≡ false
    → r < length kinds → Dutied d kinds
    → Dutied d (slice_set (slice_set kinds r (slice_index_or kinds q Blank)) q
    (left_behind (slice_index_or kinds q Blank)))
dutied_moved d kinds r q free within h =
    let now : List Kind = slice_set (slice_set kinds r (slice_index_or kinds q Blank)) q
    (left_behind (slice_index_or kinds q Blank)) in
    let news : kinds_that is_new now + counted is_new (slice_index_or kinds r Blank)
    ≡ kinds_that is_new kinds =
    count_move is_new kinds r q refl refl within in
    let lowers : kinds_that is_lower now + counted is_lower (slice_index_or kinds r Blank)
    ≡ kinds_that is_lower kinds = count_move is_lower kinds r q refl refl within in
    let new : counted is_new (slice_index_or kinds r Blank) ≡ 0 =
    uncounted is_new (slice_index_or kinds r Blank) (not_new (slice_index_or kinds r Blank) free) in
    dutied_less d kinds now (omega arith) (omega arith) h

-- a packet that was handed over: nothing was done about it
fresh_if : (d : Duty) (kinds : List Kind) → Dutied d kinds → 1 ≤ kinds_that is_new kinds → d ≡ Fresh
fresh_if Fresh kinds h some = refl
fresh_if Pending kinds h some = let none : kinds_that is_new kinds ≡ 0 = h in absurd (omega arith)
fresh_if Finished kinds h some = let none : kinds_that is_new kinds ≡ 0 = h in absurd (omega arith)
fresh_if GivenDown kinds h some = let none : kinds_that is_new kinds ≡ 0 = h in absurd (omega arith)
fresh_if NoDuty kinds h some = absurd h

pub new_fresh : (s : Abs) (r : ℕ) → Dutiful s → kind_of s r ≡ New → s.duty ≡ Fresh
new_fresh s r h is =
    let one : counted is_new (kind_of s r) ≡ 1 = ap (counted is_new) is in
    let le : counted is_new (kind_of s r) ≤ kinds_that is_new s.kinds = count_one is_new s.kinds r
    refl in
    fresh_if s.duty s.kinds h (omega arith)

-- the packet that was handed over is given up: no other one is left
handed_up : (s : Abs) (r : ℕ) (k : Kind) → Dutiful s → kind_of s r ≡ New → is_new k ≡ false
    → kinds_that is_new (slice_set s.kinds r k) ≡ 0
handed_up s r k h is new =
    let fresh : Dutied Fresh s.kinds = subst (λ (d : Duty). Dutied d s.kinds) (new_fresh s r h is) h
    in
    let one : counted is_new (kind_of s r) ≡ 1 = ap (counted is_new) is in
    let news : kinds_that is_new (slice_set s.kinds r k) + counted is_new (kind_of s r)
    ≡ kinds_that is_new s.kinds =
    count_gone is_new s.kinds r k refl new in
    let all : kinds_that is_new s.kinds ≡ 1 = fresh.0 in
    omega arith

-- a packet that is owned is given up, or one becomes so: the duty stays as it was
pub owned_up : (s : Abs) (r : ℕ) → Dutiful s → kind_of s r ≡ Own
    → Dutied s.duty (slice_set s.kinds r Blank)
owned_up s r h is = dutied_written s.duty s.kinds r Blank (rw is refl) refl refl h

marked_dutiful : (s : Abs) (r : ℕ) (k : Kind) → mark_fault s.settled k ≡ None → kind_of s r ≡ k
    → Dutiful s
    → Dutiful (marked s r k)
marked_dutiful s r New rule is h = handed_up s r Own h is refl
marked_dutiful s r View rule is h = h
marked_dutiful s r _ rule is h = cc

given_dutiful : (s : Abs) (r : ℕ) (k : Kind) → demanded one_handed_or_owned k ≡ None
    → kind_of s r ≡ k → Dutiful s
    → Dutiful (given_down s r k)
given_dutiful s r New rule is h = handed_up s r Lower h is refl
given_dutiful s r Own rule is h = owned_up s r h is
given_dutiful s r _ rule is h = cc

completed_dutiful : (s : Abs) (r : ℕ) (k : Kind) → complete_kind k ≡ None → kind_of s r ≡ k
    → Dutiful s → Dutied (duty_completed k s.duty) (slice_set s.kinds r Blank)
completed_dutiful s r New rule is h = handed_up s r Blank h is refl
completed_dutiful s r Own rule is h = owned_up s r h is
completed_dutiful s r _ rule is h = cc

-- a packet that is passed on could be sent down in a location of its own as well
pub passes_new : (k : Kind) → demanded a_new_one k ≡ None → k ≡ New
passes_new New h = refl
passes_new _ h = cc

-- what goes into a queue, out of one, or is let go with its guard isn't handed over, nor a status
inserted_plain : (cancel : Option ℕ) (name : QueueName)
    → (is_new (kind_inserted cancel name) ≡ false) × (is_lower (kind_inserted cancel name) ≡ false)
inserted_plain None name = (refl, refl)
inserted_plain (Some routine) name = (refl, refl)

removed_plain : (cancel : Option ℕ) (name : QueueName)
    → (is_new (kind_removed cancel name) ≡ false) × (is_lower (kind_removed cancel name) ≡ false)
removed_plain None name = (refl, refl)
removed_plain (Some routine) name = (refl, refl)

disarmed_plain : (fits : Bool) (k : Kind) → queued_kind fits k ≡ None
    → (is_new (kind_disarmed k) ≡ false) × (is_lower (kind_disarmed k) ≡ false)
disarmed_plain fits New rule = cc
disarmed_plain fits Lower rule = cc
disarmed_plain fits (Queued name Armed) rule = (refl, refl)
disarmed_plain fits _ rule = (refl, refl)

module _ (set : Set) (driver : ℕ) (lock : Guard) (f : Kind → Bool) (blank : f Blank ≡ false)
    (armed : (name : QueueName) → f (Queued name Armed) ≡ false) where
  let_go_same : (k : Kind) → f (let_go set driver lock k) ≡ f k
  let_go_same (Queued name Armed) =
      cond_both (is_guard (guard_named set driver name) lock) Blank (Queued name Armed)
      (λ k. f k ≡ f (Queued name Armed)) (λ guards. blank ∙ sym (armed name)) (λ other. refl)
  let_go_same _ = refl

  count_let_go : (kinds : List Kind)
      → kinds_that f (all_let_go set driver lock kinds) ≡ kinds_that f kinds
  count_let_go [] = refl
  count_let_go (k ∷ kinds) = rw (let_go_same k, count_let_go kinds) refl

released_dutiful : (s : Abs) (set : Set) (driver : ℕ) (lock : Guard) → Dutiful s
    → Dutied s.duty (all_let_go set driver lock s.kinds)
released_dutiful s set driver lock h =
    let lowers : kinds_that is_lower (all_let_go set driver lock s.kinds)
    ≡ kinds_that is_lower s.kinds =
    count_let_go set driver lock is_lower refl (λ name. refl) s.kinds in
    dutied_less s.duty s.kinds (all_let_go set driver lock s.kinds)
    (count_let_go set driver lock is_new refl (λ name. refl) s.kinds) (omega arith) h

-- every instruction that breaks no rule
handed_dutiful : (s : Abs) (i : Instr) (set : Set) (driver : ℕ)
    → refuses s i Dispatch set driver ≡ None → OperandFits i
    → length s.kinds ≡ 16 → Dutiful s → Dutiful (handed set driver s i)
handed_dutiful s (Const r n) set driver rule fits long h =
    dutied_written s.duty s.kinds r Num (not_new _ (unbroken _ _ rule)) refl refl h
handed_dutiful s (Move r q) set driver rule fits long h =
    let small : r < 16 = fits.0 in
    dutied_moved s.duty s.kinds r q (unbroken _ _ rule) (omega arith) h
handed_dutiful s (Clear r) set driver rule fits long h =
    dutied_written s.duty s.kinds r Blank (not_new _ (unbroken _ _ rule)) refl refl h
handed_dutiful s (Load r c) set driver rule fits long h =
    dutied_written s.duty s.kinds r Num (not_new _ (unbroken _ _ rule)) refl refl h
handed_dutiful s (LoadPaged r c) set driver rule fits long h =
    dutied_written s.duty s.kinds r Num (not_new _ (unbroken _ _ (second_none _ _ rule))) refl refl
    h
handed_dutiful s (Get r q field) set driver rule fits long h =
    dutied_written s.duty s.kinds r Num (not_new _ (unbroken _ _ (second_none _ _ rule))) refl refl
    h
handed_dutiful s (Mark r) set driver rule fits long h = marked_dutiful s r (kind_of s r) rule refl h
handed_dutiful s (Insert r q) set driver rule fits long h =
    let plain = inserted_plain (cancel_routine_of set driver q) (Declared q) in
    dutied_written s.duty s.kinds r (kind_inserted (cancel_routine_of set driver q) (Declared q))
    (ap is_new (inserts_right (kind_of s r) (first_none _ _ rule))) plain.0 plain.1 h
handed_dutiful s (Remove r q label) set driver rule fits long h =
    let plain = removed_plain (cancel_routine_of set driver q) (Declared q) in
    dutied_written s.duty s.kinds r (kind_removed (cancel_routine_of set driver q) (Declared q))
    (not_new _ (unbroken _ _ (first_none _ _ (second_none _ _ rule)))) plain.0 plain.1 h
handed_dutiful s (Unlink r q) set driver rule fits long h =
    dutied_written s.duty s.kinds r Own (queued_not_new _ (kind_of s r) (first_none _ _ rule)) refl
    refl h
handed_dutiful s (Dequeue r) set driver rule fits long h =
    dutied_written s.duty s.kinds r Own (queued_not_new _ (kind_of s r) (first_none _ _ rule)) refl
    refl h
handed_dutiful s (Arm r q) set driver rule fits long h =
    dutied_written s.duty s.kinds r (Queued (Declared q) Armed)
    (queued_not_new _ (kind_of s r) (first_none _ _ rule)) refl refl h
handed_dutiful s (Disarm r label) set driver rule fits long h =
    let plain = disarmed_plain _ (kind_of s r) rule in
    dutied_written s.duty s.kinds r (kind_disarmed (kind_of s r))
    (queued_not_new _ (kind_of s r) rule) plain.0 plain.1 h
handed_dutiful s (Release lock) set driver rule fits long h =
    released_dutiful s set driver (DeviceLock lock) h
handed_dutiful s ReleaseCancel set driver rule fits long h =
    released_dutiful s set driver CancelLock h
handed_dutiful s (Start r) set driver rule fits long h =
    owned_up s r h (inserts_right (kind_of s r) (first_none _ _ rule))
handed_dutiful s (Take r label) set driver rule fits long h =
    dutied_written s.duty s.kinds r Own (not_new _ (unbroken _ _ (second_none _ _ rule))) refl refl
    h
handed_dutiful s (Begin r) set driver rule fits long h =
    owned_up s r h (inserts_right (kind_of s r) (first_none _ _ rule))
handed_dutiful s (Pass r) set driver rule fits long h =
    given_dutiful s r (kind_of s r)
    (ap (demanded one_handed_or_owned) (passes_new (kind_of s r) (first_none _ _ rule))) refl h
handed_dutiful s (Call r f) set driver rule fits long h =
    given_dutiful s r (kind_of s r) (first_none _ _ rule) refl h
handed_dutiful s (Complete r status) set driver rule fits long h =
    completed_dutiful s r (kind_of s r) (first_none _ _ rule) refl h
handed_dutiful s _ set driver rule fits long h = h

-- what arrives in a dispatch routine
pub record Arrived (s : Abs) : Type 0 where
  pub long : length s.kinds ≡ 16
  pub dutiful : Dutiful s

-- a jump where there was no packet to take, or none to take back
emptied : (s : Abs) (r : ℕ) → is_new (kind_of s r) ≡ false → Arrived s
    → Arrived (with_kind s r Blank)
emptied s r free h =
    record {
      long = length-set s.kinds r Blank ∙ h.long;
      dutiful = dutied_written s.duty s.kinds r Blank free refl refl h.dutiful;
    }

label_arrived : (s : Abs) (i : Instr) (set : Set) (driver : ℕ)
    → refuses s i Dispatch set driver ≡ None
    → Arrived s → Arrived (handed_at_label s i)
label_arrived s (Remove r q label) set driver rule h =
    emptied s r (not_new _ (unbroken _ _ (first_none _ _ (second_none _ _ rule)))) h
label_arrived s (Take r label) set driver rule h =
    emptied s r (not_new _ (unbroken _ _ (second_none _ _ rule))) h
label_arrived s (Disarm r label) set driver rule h =
    emptied s r (queued_not_new _ (kind_of s r) rule) h
label_arrived s (IfPending r label) set driver rule h =
    record { long = h.long; dutiful = h.dutiful }
label_arrived s _ set driver rule h = h

pub dispatch_arrived : (m : Member) (p : ℕ) (s : Abs) → m.routine.sort ≡ Dispatch
    → All OperandFits m.routine.code → Arrives m p s → Arrived s
dispatch_arrived m p s is fit arrives =
    arrives_keep Arrived m
    (λ first there.
    let start : Some (entered_with New Fresh SettledMark false) ≡ Some first =
    sym (ap (λ (sort : Sort). entry_of_sort sort (cancels_for m.set m.driver m.number)) is)
    ∙ there in
    let same : entered_with New Fresh SettledMark false ≡ first = cc in
    subst Arrived same (record { long = refl; dutiful = (refl, refl) }))
    (λ before i q at rule h.
    record {
      long = handed_long m.set m.driver before i ∙ h.long;
      dutiful = handed_dutiful before i m.set m.driver
          (ap (λ (sort : Sort). refuses before i sort m.set m.driver) (sym is) ∙ rule)
          (all_at OperandFits m.routine.code q i fit at) h.long h.dutiful;
    })
    (λ before i q at rule h. label_arrived before i m.set m.driver
    (ap (λ (sort : Sort). refuses before i sort m.set m.driver) (sym is) ∙ rule) h) p s arrives

-- where a packet was handed over and nothing was done about it, there is a right to it
handed_right : (k : Kind) (v : Value) (issued m : ℕ) (b : Bool) → is_new k ≡ b → Suits issued k v
    → (is_new k ≡ true → RefersTo m v)
    → counted is_new k ≤ right k v m
handed_right k v issued m false is suits refers = rw is (omega arith)
handed_right New v issued m true is suits refers =
    let same : suits.0 ≡ m = subst (λ (x : Value). RefersTo m x) suits.1 (refers refl) in
    rw (suits.1, eq-eqb suits.0 m same) (omega arith)
handed_right _ v issued m true is suits refers = cc

handed_rights : (kinds : List Kind) (values : List Value) (issued m : ℕ)
    → HasKinds issued kinds values
    → HoldOf is_new (RefersTo m) kinds values → kinds_that is_new kinds ≤ rights kinds values m
handed_rights [] values issued m h refers = omega arith
handed_rights (k ∷ kinds) [] issued m h refers = absurd h
handed_rights (k ∷ kinds) (v ∷ values) issued m h refers =
    let one : counted is_new k ≤ right k v m =
    handed_right k v issued m (is_new k) refl h.0 refers.0 in
    omega (arith, handed_rights kinds values issued m h.1 refers.1)

pub fresh_rights : (s : Abs) (values : List Value) (issued m : ℕ) → Dutiful s → s.duty ≡ Fresh
    → HasKinds issued s.kinds values → HoldOf is_new (RefersTo m) s.kinds values
    → 1 ≤ rights s.kinds values m
fresh_rights s values issued m h fresh kinds refers =
    let new : Dutied Fresh s.kinds = subst (λ (d : Duty). Dutied d s.kinds) fresh h in
    let one : kinds_that is_new s.kinds ≡ 1 = new.0 in
    omega (arith, handed_rights s.kinds values issued m kinds refers)
