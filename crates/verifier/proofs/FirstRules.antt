-- Where no register holds a packet of the device queue, the rules of both editions are the same,
-- and no register comes to hold one.
use Rattle.std.proofs.Common.{◌≡◌, ℕ, zero, suc, ◌||◌, ◌&&◌, inl, inr, true, false, Bool, List, [], ◌∷◌, Option, None, Some, refl, subst, ◌∙◌, ap}
use Rattle.std.specs.Prelude.{not, if◌then◌else◌, option_map, slice_get, slice_set, slice_index_or}
use Rattle.std.specs.List.{list_any}
use Rattle.model.specs.declared.abs.Abs.{Abs}
use Rattle.model.specs.declared.abs.Kind.{Kind}
use Rattle.model.specs.declared.abs.Kind.TheVariants.{Blank, Num, Lower, New, Own, Queued}
use Rattle.model.specs.declared.abs.Stage.TheVariants.{Armed, Taken}
use Rattle.model.specs.declared.abs.Outs.{Outs}
use Rattle.model.specs.declared.abs.Rule.{Rule}
use Rattle.model.specs.declared.abs.Rule.TheVariants.{CancelSpinLock, Guard as GuardRule, Token, Sort as SortRule}
use Rattle.model.specs.declared.instr.Instr.{Instr}
use Rattle.model.specs.declared.instr.Instr.TheVariants.{Const, Move, Clear, Load, LoadPaged, Get, Mark, Release, ReleaseCancel, Insert, Remove, Unlink, Arm, Disarm, Start, Take, Begin, Next, Dequeue, Pass, Call, Complete}
use Rattle.model.specs.declared.set.Guard.{Guard}
use Rattle.model.specs.declared.set.Guard.TheVariants.{DeviceLock, CancelLock}
use Rattle.model.specs.declared.set.QueueName.TheVariants.{Declared, DeviceQueue}
use Rattle.model.specs.declared.set.Sort.{Sort}
use Rattle.model.specs.Edition.{First}
use Rattle.model.specs.Kinds.{is_guard, is_stage, stays_under_guard, needs_guard, let_go, all_let_go, left_behind, kind_inserted, kind_removed, kind_disarmed}
use Rattle.model.specs.LocalRule.{kind_of, with_cancel, least_of, broken_if, unless, demanded, an_owned_one, has_startio, guard_fault, waiting_fault, refuses, refuses_under, marked, given_down, handed, handed_under, handed_at_label, outs_by, outs, outs_under, rule_or, local_rule, local_rule_under}
use Rattle.model.specs.Paths.{HandsOn, is_malformed_under}
use Rattle.model.specs.Set.{Set, Flow, Onward, Branches, Jumps, Opens, Closes, Leaves, guard_of, guard_named, cancel_routine_of, has_cancel, flow_of}
use Rattle.verifier.specs.FirstEdition.{waits, NoneWaits}
use Rattle.verifier.specs.FirstLaw.{FirstHasItsRows}

pub neither : (a b : Bool) → (a || b) ≡ false → (a ≡ false) × (b ≡ false)
neither true b none = cc
neither false b none = record { 0 = refl; 1 = none }

both_no : (a b : Bool) → a ≡ false → b ≡ false → (a || b) ≡ false
both_no true b first none = cc
both_no false b first none = none

second_no : (a b : Bool) → b ≡ false → (a && b) ≡ false
second_no true b none = none
second_no false b none = refl

-- no queue is guarded by the system cancel lock
spin_guard : (guard : Option ℕ)
    → is_guard (option_map (λ (lock : ℕ). DeviceLock lock) guard) CancelLock ≡ false
spin_guard None = refl
spin_guard (Some lock) = refl

needs_none : (set : Set) (driver : ℕ) (kind : Kind) → waits kind ≡ false
    → needs_guard set driver CancelLock kind ≡ false
needs_none set driver (Queued (Declared q) stage) free =
    second_no (stays_under_guard stage (Declared q))
    (is_guard (guard_named set driver (Declared q)) CancelLock) (spin_guard (guard_of set driver q))
needs_none set driver (Queued DeviceQueue stage) free = cc
needs_none set driver kind free = refl

need_none : (set : Set) (driver : ℕ) (kinds : List Kind) → list_any waits kinds ≡ false
    → list_any (needs_guard set driver CancelLock) kinds ≡ false
need_none set driver [] free = refl
need_none set driver (kind ∷ kinds) free =
    let none = neither (waits kind) (list_any waits kinds) free in
    both_no (needs_guard set driver CancelLock kind)
    (list_any (needs_guard set driver CancelLock) kinds) (needs_none set driver kind none.0)
    (need_none set driver kinds none.1)

kept_if : (b : Bool) (kind : Kind) → b ≡ false → (if b then Blank else kind) ≡ kind
kept_if true kind fails = cc
kept_if false kind fails = refl

keeps_kind : (set : Set) (driver : ℕ) (kind : Kind) → waits kind ≡ false
    → let_go set driver CancelLock kind ≡ kind
keeps_kind set driver (Queued (Declared q) stage) free =
    kept_if (is_stage stage Armed && is_guard (guard_named set driver (Declared q)) CancelLock)
    (Queued (Declared q) stage)
    (second_no (is_stage stage Armed)
    (is_guard (guard_named set driver (Declared q)) CancelLock)
    (spin_guard (guard_of set driver q)))
keeps_kind set driver (Queued DeviceQueue stage) free = cc
keeps_kind set driver kind free = refl

keeps_kinds : (set : Set) (driver : ℕ) (kinds : List Kind) → list_any waits kinds ≡ false
    → all_let_go set driver CancelLock kinds ≡ kinds
keeps_kinds set driver [] free = refl
keeps_kinds set driver (kind ∷ kinds) free =
    let none = neither (waits kind) (list_any waits kinds) free in
    ap (λ (first : Kind). first ∷ all_let_go set driver CancelLock kinds)
    (keeps_kind set driver kind none.0)
    ∙ ap (λ (rest : List Kind). kind ∷ rest) (keeps_kinds set driver kinds none.1)

-- what an instruction breaks
least_none : (broken : Option Rule) → least_of broken None ≡ broken
least_none None = refl
least_none (Some rule) = refl

unasked : (b : Bool) (broken : Option Rule) → b ≡ false → (if b then broken else None) ≡ None
unasked true broken fails = cc
unasked false broken fails = refl

waiting_none : (s : Abs) (set : Set) (driver : ℕ) → has_cancel set driver DeviceQueue ≡ false
    → waiting_fault s set driver ≡ None
waiting_none s set driver none =
    unasked (has_cancel set driver DeviceQueue) (guard_fault s set driver DeviceQueue) none

pub refuses_alike : (s : Abs) (i : Instr) (sort : Sort) (set : Set) (driver : ℕ) → NoneWaits s
    → has_cancel set driver DeviceQueue ≡ false
    → refuses s i sort set driver ≡ refuses_under First s i sort set driver
refuses_alike s ReleaseCancel sort set driver free none =
    ap
    (λ (b : Bool). least_of (broken_if (not s.cancel) CancelSpinLock) (broken_if b GuardRule))
    (need_none set driver s.kinds free)
    ∙ least_none (broken_if (not s.cancel) CancelSpinLock)
refuses_alike s (Start r) sort set driver free none =
    ap
    (λ (broken : Option Rule). least_of (demanded an_owned_one (kind_of s r))
    (least_of broken (unless (has_startio set driver) SortRule)))
    (waiting_none s set driver none)
refuses_alike s Next sort set driver free none =
    ap (λ (broken : Option Rule). least_of broken (unless s.token Token))
    (waiting_none s set driver none)
refuses_alike s i sort set driver free none = refl

-- the states after it
handed_alike : (set : Set) (driver : ℕ) (s : Abs) (i : Instr) → NoneWaits s
    → handed set driver s i ≡ handed_under First set driver s i
handed_alike set driver s ReleaseCancel free =
    ap (λ (kinds : List Kind). record (with_cancel s false) { kinds = kinds })
    (keeps_kinds set driver s.kinds free)
handed_alike set driver s i free = refl

pub rules_alike : (s : Abs) (i : Instr) (sort : Sort) (set : Set) (driver : ℕ) → NoneWaits s
    → has_cancel set driver DeviceQueue ≡ false
    → local_rule s i sort set driver ≡ local_rule_under First s i sort set driver
rules_alike s i sort set driver free none =
    ap (λ (broken : Option Rule). rule_or broken (outs set driver s i))
    (refuses_alike s i sort set driver free none)
    ∙ ap
    (λ (next : Abs). rule_or (refuses_under First s i sort set driver)
    (outs_by (flow_of i) next (handed_at_label s i)))
    (handed_alike set driver s i free)

-- no register comes to hold a packet of the device queue
kind_free : (kinds : List Kind) (r : ℕ) → list_any waits kinds ≡ false
    → waits (slice_index_or kinds r Blank) ≡ false
kind_free [] r free = refl
kind_free (kind ∷ kinds) zero free = (neither (waits kind) (list_any waits kinds) free).0
kind_free (kind ∷ kinds) (suc r) free =
    kind_free kinds r (neither (waits kind) (list_any waits kinds) free).1

set_free : (kinds : List Kind) (r : ℕ) (new : Kind) → waits new ≡ false
    → list_any waits kinds ≡ false → list_any waits (slice_set kinds r new) ≡ false
set_free [] r new right free = refl
set_free (kind ∷ kinds) zero new right free =
    both_no (waits new) (list_any waits kinds) right
    (neither (waits kind) (list_any waits kinds) free).1
set_free (kind ∷ kinds) (suc r) new right free =
    let none = neither (waits kind) (list_any waits kinds) free in
    both_no (waits kind) (list_any waits (slice_set kinds r new)) none.0
    (set_free kinds r new right none.1)

left_free : (kind : Kind) → waits (left_behind kind) ≡ false
left_free Num = refl
left_free kind = refl

inserted_free : (cancel : Option ℕ) (q : ℕ) → waits (kind_inserted cancel (Declared q)) ≡ false
inserted_free None q = refl
inserted_free (Some cancel) q = refl

removed_free : (cancel : Option ℕ) (q : ℕ) → waits (kind_removed cancel (Declared q)) ≡ false
removed_free None q = refl
removed_free (Some cancel) q = refl

disarmed_free : (kind : Kind) → waits kind ≡ false → waits (kind_disarmed kind) ≡ false
disarmed_free (Queued name Armed) free = free
disarmed_free (Queued name Taken) free = refl
disarmed_free kind free = free

marked_free : (s : Abs) (r : ℕ) (kind : Kind) → NoneWaits s → NoneWaits (marked s r kind)
marked_free s r New free = set_free s.kinds r Own refl free
marked_free s r kind free = free

given_free : (s : Abs) (r : ℕ) (kind : Kind) → NoneWaits s → NoneWaits (given_down s r kind)
given_free s r New free = set_free s.kinds r Lower refl free
given_free s r Own free = set_free s.kinds r Blank refl free
given_free s r kind free = free

blank_or_free : (b : Bool) (kind : Kind) → waits kind ≡ false
    → waits (if b then Blank else kind) ≡ false
blank_or_free true kind free = refl
blank_or_free false kind free = free

let_go_free : (set : Set) (driver : ℕ) (lock : Guard) (kind : Kind) → waits kind ≡ false
    → waits (let_go set driver lock kind) ≡ false
let_go_free set driver lock (Queued name stage) free =
    blank_or_free (is_stage stage Armed && is_guard (guard_named set driver name) lock)
    (Queued name stage) free
let_go_free set driver lock kind free = free

all_free : (set : Set) (driver : ℕ) (lock : Guard) (kinds : List Kind)
    → list_any waits kinds ≡ false → list_any waits (all_let_go set driver lock kinds) ≡ false
all_free set driver lock [] free = refl
all_free set driver lock (kind ∷ kinds) free =
    let none = neither (waits kind) (list_any waits kinds) free in
    both_no (waits (let_go set driver lock kind))
    (list_any waits (all_let_go set driver lock kinds))
    (let_go_free set driver lock kind none.0) (all_free set driver lock kinds none.1)

handed_free : (set : Set) (driver : ℕ) (s : Abs) (i : Instr) → NoneWaits s
    → NoneWaits (handed set driver s i)
handed_free set driver s (Const r n) free = set_free s.kinds r Num refl free
handed_free set driver s (Move r q) free =
    set_free (slice_set s.kinds r (kind_of s q)) q (left_behind (kind_of s q))
    (left_free (kind_of s q))
    (set_free s.kinds r (kind_of s q) (kind_free s.kinds q free) free)
handed_free set driver s (Clear r) free = set_free s.kinds r Blank refl free
handed_free set driver s (Load r c) free = set_free s.kinds r Num refl free
handed_free set driver s (LoadPaged r c) free = set_free s.kinds r Num refl free
handed_free set driver s (Get r q field) free = set_free s.kinds r Num refl free
handed_free set driver s (Mark r) free = marked_free s r (kind_of s r) free
handed_free set driver s (Release lock) free = all_free set driver (DeviceLock lock) s.kinds free
handed_free set driver s ReleaseCancel free = all_free set driver CancelLock s.kinds free
handed_free set driver s (Insert r q) free =
    set_free s.kinds r (kind_inserted (cancel_routine_of set driver q) (Declared q))
    (inserted_free (cancel_routine_of set driver q) q) free
handed_free set driver s (Remove r q label) free =
    set_free s.kinds r (kind_removed (cancel_routine_of set driver q) (Declared q))
    (removed_free (cancel_routine_of set driver q) q) free
handed_free set driver s (Unlink r q) free = set_free s.kinds r Own refl free
handed_free set driver s (Arm r q) free = set_free s.kinds r (Queued (Declared q) Armed) refl free
handed_free set driver s (Disarm r label) free =
    set_free s.kinds r (kind_disarmed (kind_of s r))
    (disarmed_free (kind_of s r) (kind_free s.kinds r free)) free
handed_free set driver s (Start r) free = set_free s.kinds r Blank refl free
handed_free set driver s (Take r label) free = set_free s.kinds r Own refl free
handed_free set driver s (Begin r) free = set_free s.kinds r Blank refl free
handed_free set driver s (Dequeue r) free = set_free s.kinds r Own refl free
handed_free set driver s (Pass r) free = given_free s r (kind_of s r) free
handed_free set driver s (Call r f) free = given_free s r (kind_of s r) free
handed_free set driver s (Complete r status) free = set_free s.kinds r Blank refl free
handed_free set driver s i free = free

label_free : (s : Abs) (i : Instr) → NoneWaits s → NoneWaits (handed_at_label s i)
label_free s (Remove r q label) free = set_free s.kinds r Blank refl free
label_free s (Disarm r label) free = set_free s.kinds r Blank refl free
label_free s (Take r label) free = set_free s.kinds r Blank refl free
label_free s i free = free

-- nor a state that it hands on
abbrev AreFree : Outs → Type 0
AreFree o =
    ((s : Abs) → o.next ≡ Some s → NoneWaits s) × ((s : Abs) → o.jump ≡ Some s → NoneWaits s)

given_free_state : (x s : Abs) → NoneWaits x → Some x ≡ Some s → NoneWaits s
given_free_state x s free given =
    let same : x ≡ s = cc in subst (λ (y : Abs). NoneWaits y) same free

not_given : (s : Abs) → None ≡ Some s → NoneWaits s
not_given s given = cc

outs_free_by : (f : Flow) (next jump : Abs) → NoneWaits next → NoneWaits jump
    → AreFree (outs_by f next jump)
outs_free_by Onward next jump here there =
    record { 0 = λ s given. given_free_state next s here given; 1 = λ s given. not_given s given }
outs_free_by (Branches label) next jump here there = record {
  0 = λ s given. given_free_state next s here given;
  1 = λ s given. given_free_state jump s there given;
}
outs_free_by (Jumps label) next jump here there =
    record { 0 = λ s given. not_given s given; 1 = λ s given. given_free_state jump s there given }
outs_free_by (Opens turns) next jump here there =
    record { 0 = λ s given. given_free_state next s here given; 1 = λ s given. not_given s given }
outs_free_by Closes next jump here there =
    record { 0 = λ s given. given_free_state next s here given; 1 = λ s given. not_given s given }
outs_free_by Leaves next jump here there =
    record { 0 = λ s given. not_given s given; 1 = λ s given. not_given s given }

hands_free : (broken : Option Rule) (o : Outs) (label : Option ℕ) (q p : ℕ) (s : Abs) → AreFree o
    → HandsOn (rule_or broken o) label q p s → NoneWaits s
hands_free (Some rule) o label q p s free h = absurd h
hands_free None o label q p s free (inl h) = free.0 s h.1
hands_free None o label q p s free (inr h) = free.1 s h.1

pub handed_on_free : (before : Abs) (i : Instr) (sort : Sort) (set : Set) (driver : ℕ)
    (label : Option ℕ) (q p : ℕ) (s : Abs) → NoneWaits before
    → HandsOn (local_rule before i sort set driver) label q p s → NoneWaits s
handed_on_free before i sort set driver label q p s free h =
    hands_free (refuses before i sort set driver) (outs set driver before i) label q p s
    (outs_free_by (flow_of i) (handed set driver before i) (handed_at_label before i)
    (handed_free set driver before i free) (label_free before i free)) h

-- the rows of the first edition
starts_alike : (s : Abs) (r : ℕ) (sort : Sort) (set other : Set) (driver : ℕ)
    → has_startio set driver ≡ has_startio other driver
    → local_rule_under First s (Start r) sort set driver
    ≡ local_rule_under First s (Start r) sort other driver
starts_alike s r sort set other driver alike =
    ap (λ (has : Bool). rule_or
    (least_of (demanded an_owned_one (kind_of s r)) (unless has SortRule))
    (outs_under First set driver s (Start r))) alike

no_dequeue : (code : List Instr) (p r : ℕ) → slice_get code p ≡ Some (Dequeue r)
    → is_malformed_under First code p ≡ true
no_dequeue code p r here = rw here refl

pub its_rows : FirstHasItsRows
its_rows s sort set other driver r code p =
    (refl, (refl, (starts_alike s r sort set other driver, no_dequeue code p r)))
