-- A register becomes one with a packet that was handed over, or one with a packet on its way up,
-- where a routine begins alone: a dispatch routine and a deferred routine have no packet on its way
-- up, in no state that arrives at a position, and a deferred routine and a completion routine have
-- none that was handed over.
use Rattle.laws_runs.proofs.Prelude.{ap, refl, subst, sym, zero, ◌-◌, ◌∙◌, cond_both, list_any, Bool, List, None, Option, Some, [], false, replicate, slice_index_or, slice_set, suc, true, ℕ, ◌&&◌, ◌∷◌, ◌≡◌, all_let_go, is_at, is_guard, is_new, is_stage, is_view, kind_disarmed, kind_inserted, kind_removed, left_behind, let_go, entered_with, entry_of_cancel, entry_of_sort, entry_state, given_down, handed, handed_at_label, kind_of, marked, queued_kind, refuses, Arrives, Member, Set, cancel_routine_of, cancels_for, guard_named, Abs, Fresh, NoDuty, Kind, Lower, New, Own, Queued, View, SettledMark, Stage, Armed, Cancelling, Listed, Taken, Instr, Arm, Begin, Call, Clear, Complete, Const, Dequeue, Disarm, Get, Insert, Load, LoadPaged, Mark, Move, Pass, Release, ReleaseCancel, Remove, Start, Take, Unlink, REGISTERS, Guard, CancelLock, DeviceLock, QueueName, Declared, Sort, Cancel, Dispatch, Dpc, Hold, Propagate, StartIo}
use Rattle.model.specs.declared.abs.Kind.TheVariants.{Blank, Num}
use Rattle.laws_runs.proofs.States.Along.{arrives_keep}
use Rattle.laws_runs.proofs.States.Rules.{first_none}
use Rattle.laws_runs.proofs.Tests.{or_left, or_right, or_both}

-- kinds that no instruction makes
pub record IsHanded (f : Kind → Bool) : Type 0 where
  pub blank : f Blank ≡ false
  pub number : f Num ≡ false
  pub lower : f Lower ≡ false
  pub own : f Own ≡ false
  pub queued : (name : QueueName) (stage : Stage) → f (Queued name stage) ≡ false

pub handed_views : IsHanded is_view
handed_views =
    record {
      blank = refl;
      number = refl;
      lower = refl;
      own = refl;
      queued = λ name stage. refl;
    }

pub handed_news : IsHanded is_new
handed_news =
    record {
      blank = refl;
      number = refl;
      lower = refl;
      own = refl;
      queued = λ name stage. refl;
    }

-- a packet that stands in a list with a cancel routine, or was taken off it, or handed to that
abbrev pub is_queued : Kind → Bool
is_queued Blank = false
is_queued Num = false
is_queued Lower = false
is_queued New = false
is_queued Own = false
is_queued (Queued name stage) = true
is_queued View = false

-- kinds that no instruction of a driver makes where there are none and it breaks no rule
pub record NeverMade (set : Set) (driver : ℕ) (f : Kind → Bool) : Type 0 where
  pub blank : f Blank ≡ false
  pub number : f Num ≡ false
  pub lower : f Lower ≡ false
  pub own : f Own ≡ false
  pub inserted : (q : ℕ) → f (kind_inserted (cancel_routine_of set driver q) (Declared q)) ≡ false
  pub removed : (q : ℕ) → f (kind_removed (cancel_routine_of set driver q) (Declared q)) ≡ false
  pub armed : (q : ℕ) (k : Kind) → queued_kind (is_at Listed (Declared q) k) k ≡ None → f k ≡ false
      → f (Queued (Declared q) Armed) ≡ false
  pub disarmed : (k : Kind) → f k ≡ false → f (kind_disarmed k) ≡ false

module _ (f : Kind → Bool) (given : IsHanded f) where
  pub handed_inserted : (cancel : Option ℕ) (name : QueueName)
      → f (kind_inserted cancel name) ≡ false
  handed_inserted None name = given.blank
  handed_inserted (Some routine) name = given.queued name Listed

  pub handed_removed : (cancel : Option ℕ) (name : QueueName)
      → f (kind_removed cancel name) ≡ false
  handed_removed None name = given.own
  handed_removed (Some routine) name = given.queued name Taken

  handed_disarmed : (k : Kind) → f k ≡ false → f (kind_disarmed k) ≡ false
  handed_disarmed (Queued name Armed) h = given.queued name Listed
  handed_disarmed (Queued name Taken) h = given.own
  handed_disarmed _ h = h

  pub handed_never : (set : Set) (driver : ℕ) → NeverMade set driver f
  handed_never set driver =
      record {
        blank = given.blank;
        number = given.number;
        lower = given.lower;
        own = given.own;
        inserted = λ q. handed_inserted (cancel_routine_of set driver q) (Declared q);
        removed = λ q. handed_removed (cancel_routine_of set driver q) (Declared q);
        armed = λ q k keeps h. given.queued (Declared q) Armed;
        disarmed = handed_disarmed;
      }

abbrev pub HasNone : (Kind → Bool) → Abs → Type 0
HasNone f s = list_any f s.kinds ≡ false

abbrev pub HasNoView : Abs → Type 0
HasNoView s = HasNone is_view s

none_set : (f : Kind → Bool) (kinds : List Kind) (r : ℕ) (k : Kind) → f k ≡ false
    → list_any f kinds ≡ false → list_any f (slice_set kinds r k) ≡ false
none_set f [] r k is h = refl
none_set f (j ∷ kinds) zero k is h =
    or_both (f k) (list_any f kinds) is (or_right (f j) (list_any f kinds) h)
none_set f (j ∷ kinds) (suc r) k is h =
    or_both (f j) (list_any f (slice_set kinds r k))
    (or_left (f j) (list_any f kinds) h)
    (none_set f kinds r k is (or_right (f j) (list_any f kinds) h))

pub left_none : (f : Kind → Bool) → f Blank ≡ false → f Num ≡ false → (k : Kind)
    → f (left_behind k) ≡ false
left_none f blank number Num = number
left_none f blank number _ = blank

pub none_blank : (f : Kind → Bool) → f Blank ≡ false → (kinds : List Kind) (r : ℕ)
    → list_any f kinds ≡ false → f (slice_index_or kinds r Blank) ≡ false
none_blank f blank [] r h = blank
none_blank f blank (j ∷ kinds) zero h = or_left (f j) (list_any f kinds) h
none_blank f blank (j ∷ kinds) (suc r) h =
    none_blank f blank kinds r (or_right (f j) (list_any f kinds) h)

pub none_at : (f : Kind → Bool) → IsHanded f → (kinds : List Kind) (r : ℕ)
    → list_any f kinds ≡ false
    → f (slice_index_or kinds r Blank) ≡ false
none_at f given kinds r h = none_blank f given.blank kinds r h

module _ (set : Set) (driver : ℕ) (f : Kind → Bool) (never : NeverMade set driver f) where
  go_none : (lock : Guard) (k : Kind) → f k ≡ false → f (let_go set driver lock k) ≡ false
  go_none lock (Queued name stage) h =
      cond_both (is_stage stage Armed && is_guard (guard_named set driver name) lock) Blank
      (Queued name stage) (λ k. f k ≡ false) (λ guards. never.blank) (λ other. h)
  go_none lock _ h = h

  all_go_none : (lock : Guard) (kinds : List Kind) → list_any f kinds ≡ false
      → list_any f (all_let_go set driver lock kinds) ≡ false
  all_go_none lock [] h = refl
  all_go_none lock (k ∷ kinds) h =
      or_both (f (let_go set driver lock k)) (list_any f (all_let_go set driver lock kinds))
      (go_none lock k (or_left (f k) (list_any f kinds) h))
      (all_go_none lock kinds (or_right (f k) (list_any f kinds) h))

  marked_none : (s : Abs) (r : ℕ) (k : Kind) → HasNone f s → HasNone f (marked s r k)
  marked_none s r New h = none_set f s.kinds r Own never.own h
  marked_none s r _ h = h

  given_none : (s : Abs) (r : ℕ) (k : Kind) → HasNone f s → HasNone f (given_down s r k)
  given_none s r New h = none_set f s.kinds r Lower never.lower h
  given_none s r Own h = none_set f s.kinds r Blank never.blank h
  given_none s r _ h = h

  handed_none : (s : Abs) (i : Instr) (sort : Sort) → refuses s i sort set driver ≡ None
      → HasNone f s
      → HasNone f (handed set driver s i)
  handed_none s (Const r n) sort keeps h = none_set f s.kinds r Num never.number h
  handed_none s (Move r q) sort keeps h =
      none_set f (slice_set s.kinds r (kind_of s q)) q (left_behind (kind_of s q))
      (left_none f never.blank never.number (kind_of s q))
      (none_set f s.kinds r (kind_of s q) (none_blank f never.blank s.kinds q h) h)
  handed_none s (Clear r) sort keeps h = none_set f s.kinds r Blank never.blank h
  handed_none s (Load r c) sort keeps h = none_set f s.kinds r Num never.number h
  handed_none s (LoadPaged r c) sort keeps h = none_set f s.kinds r Num never.number h
  handed_none s (Get r q field) sort keeps h = none_set f s.kinds r Num never.number h
  handed_none s (Mark r) sort keeps h = marked_none s r (kind_of s r) h
  handed_none s (Insert r q) sort keeps h =
      none_set f s.kinds r (kind_inserted (cancel_routine_of set driver q) (Declared q))
      (never.inserted q) h
  handed_none s (Remove r q label) sort keeps h =
      none_set f s.kinds r (kind_removed (cancel_routine_of set driver q) (Declared q))
      (never.removed q) h
  handed_none s (Unlink r q) sort keeps h = none_set f s.kinds r Own never.own h
  handed_none s (Dequeue r) sort keeps h = none_set f s.kinds r Own never.own h
  handed_none s (Arm r q) sort keeps h =
      none_set f s.kinds r (Queued (Declared q) Armed)
      (never.armed q (kind_of s r) (first_none _ _ keeps) (none_blank f never.blank s.kinds r h)) h
  handed_none s (Disarm r label) sort keeps h =
      none_set f s.kinds r (kind_disarmed (kind_of s r))
      (never.disarmed (kind_of s r) (none_blank f never.blank s.kinds r h)) h
  handed_none s (Release lock) sort keeps h = all_go_none (DeviceLock lock) s.kinds h
  handed_none s ReleaseCancel sort keeps h = all_go_none CancelLock s.kinds h
  handed_none s (Start r) sort keeps h = none_set f s.kinds r Blank never.blank h
  handed_none s (Take r label) sort keeps h = none_set f s.kinds r Own never.own h
  handed_none s (Begin r) sort keeps h = none_set f s.kinds r Blank never.blank h
  handed_none s (Pass r) sort keeps h = given_none s r (kind_of s r) h
  handed_none s (Call r f) sort keeps h = given_none s r (kind_of s r) h
  handed_none s (Complete r status) sort keeps h = none_set f s.kinds r Blank never.blank h
  handed_none s _ sort keeps h = h

  label_none : (s : Abs) (i : Instr) → HasNone f s → HasNone f (handed_at_label s i)
  label_none s (Remove r q label) h = none_set f s.kinds r Blank never.blank h
  label_none s (Disarm r label) h = none_set f s.kinds r Blank never.blank h
  label_none s (Take r label) h = none_set f s.kinds r Blank never.blank h
  label_none s _ h = h

-- a routine that begins with none has none
pub none_arrives : (f : Kind → Bool) (m : Member) (p : ℕ) (s : Abs) → NeverMade m.set m.driver f
    → ((first : Abs) → entry_state m ≡ Some first → HasNone f first) → Arrives m p s → HasNone f s
none_arrives f m p s never none arrives =
    arrives_keep (HasNone f) m none
    (λ before i q at rule h. handed_none m.set m.driver f never before i m.routine.sort rule h)
    (λ before i q at rule h. label_none m.set m.driver f never before i h) p s arrives

-- a routine of a sort that begins with none has none
arrives_none : (f : Kind → Bool) (given : IsHanded f) (m : Member) (p : ℕ) (s : Abs) (sort : Sort)
    (entry : Abs) → m.routine.sort ≡ sort
    → entry_of_sort sort (cancels_for m.set m.driver m.number) ≡ Some entry → HasNone f entry
    → Arrives m p s → HasNone f s
arrives_none f given m p s sort entry is enters none arrives =
    none_arrives f m p s (handed_never f given m.set m.driver)
    (λ first there.
    let start : Some entry ≡ Some first =
    sym (ap (λ (x : Sort). entry_of_sort x (cancels_for m.set m.driver m.number)) is ∙ enters)
    ∙ there
    in
    let same : entry ≡ first = cc in
    subst (HasNone f) same none) arrives

pub no_view_at : (kinds : List Kind) (r : ℕ) → list_any is_view kinds ≡ false
    → is_view (slice_index_or kinds r Blank) ≡ false
no_view_at kinds r h = none_at is_view handed_views kinds r h

pub dispatch_no_view : (m : Member) (p : ℕ) (s : Abs) → m.routine.sort ≡ Dispatch → Arrives m p s
    → HasNoView s
dispatch_no_view m p s is arrives =
    arrives_none is_view handed_views m p s Dispatch (entered_with New Fresh SettledMark false) is
    refl
    refl arrives

-- deferred routines: StartIo, DPC and cancel routines, which serve no use
abbrev pub is_deferred : Sort → Bool
is_deferred Dispatch = false
is_deferred StartIo = true
is_deferred Dpc = true
is_deferred Propagate = false
is_deferred Hold = false
is_deferred Cancel = true

pub hold_no_view : (m : Member) (p : ℕ) (s : Abs) → m.routine.sort ≡ Hold → Arrives m p s
    → HasNoView s
hold_no_view m p s is arrives =
    arrives_none is_view handed_views m p s Hold (entered_with New Fresh SettledMark false) is refl
    refl arrives

cancel_none : (f : Kind → Bool) (name : Option QueueName) (s : Abs)
    → ((name : QueueName) → f (Queued name Cancelling) ≡ false)
    → list_any f (replicate (REGISTERS - 1) Blank) ≡ false
    → entry_of_cancel name ≡ Some s → HasNone f s
cancel_none f None s none blank enters = cc
cancel_none f (Some name) s none blank enters =
    let same : record (entered_with (Queued name Cancelling) NoDuty SettledMark false)
    { cancel = true }
    ≡ s = cc in
    subst (HasNone f) same (or_both (f (Queued name Cancelling)) _ (none name) blank)

deferred_none : (f : Kind → Bool) → IsHanded f
    → HasNone f (entered_with Own NoDuty SettledMark true)
    → HasNone f (entered_with Blank NoDuty SettledMark false)
    → list_any f (replicate (REGISTERS - 1) Blank) ≡ false
    → (m : Member) (p : ℕ) (s : Abs) (sort : Sort) → m.routine.sort ≡ sort
    → is_deferred sort ≡ true → Arrives m p s → HasNone f s
deferred_none f given startio dpc blank m p s StartIo is deferred arrives =
    arrives_none f given m p s StartIo (entered_with Own NoDuty SettledMark true) is refl startio
    arrives
deferred_none f given startio dpc blank m p s Dpc is deferred arrives =
    arrives_none f given m p s Dpc (entered_with Blank NoDuty SettledMark false) is refl dpc arrives
deferred_none f given startio dpc blank m p s Cancel is deferred arrives =
    none_arrives f m p s (handed_never f given m.set m.driver)
    (λ first enters. cancel_none f (cancels_for m.set m.driver m.number) first
    (λ name. given.queued name Cancelling) blank
    (sym (ap (λ (x : Sort). entry_of_sort x (cancels_for m.set m.driver m.number)) is) ∙ enters))
    arrives
deferred_none f given startio dpc blank m p s _ is deferred arrives = cc

pub deferred_no_view : (m : Member) (p : ℕ) (s : Abs) (sort : Sort) → m.routine.sort ≡ sort
    → is_deferred sort ≡ true → Arrives m p s → HasNone is_view s
deferred_no_view = deferred_none is_view handed_views refl refl refl

pub deferred_no_new : (m : Member) (p : ℕ) (s : Abs) (sort : Sort) → m.routine.sort ≡ sort
    → is_deferred sort ≡ true → Arrives m p s → HasNone is_new s
deferred_no_new = deferred_none is_new handed_news refl refl refl
