-- The statuses of lower drivers in a routine's registers: all STATUS_PENDING, or none.
use Rattle.laws_runs.proofs.Common.{arith, zero, cond_both, Bool, List, [], false, slice_index_or, slice_set, suc, true, ℕ, ⊤, ◌∷◌, ◌≡◌, all_let_go, is_guard, is_lower, left_behind, let_go, handed, is_pending, Set, guard_named, Abs, Kind, BlankKind, Lower, NumKind, Queued, Armed, Instr, Arm, Begin, Call, Clear, Complete, Const, Dequeue, Disarm, Get, Insert, Load, LoadPaged, Mark, Move, Pass, Release, ReleaseCancel, Remove, Start, Take, Unlink, Guard, CancelLock, DeviceLock, Value, Blank, Ref, StatusValue, is_giving, keeps_registers, work_of}
use Rattle.laws_runs.proofs.Pending.Duties.{counted, kinds_that}

-- a status is STATUS_PENDING, or it isn't
abbrev pub StatusIs : Bool → Value → Type 0
StatusIs b (StatusValue status) = is_pending status ≡ b
StatusIs b _ = ⊤

abbrev pub LowerIs : Bool → Kind → Value → Type 0
LowerIs b Lower v = StatusIs b v
LowerIs b _ v = ⊤

abbrev pub Lowers : Bool → List Kind → List Value → Type 0
Lowers b [] values = ⊤
Lowers b (k ∷ kinds) [] = ⊤
Lowers b (k ∷ kinds) (v ∷ values) = LowerIs b k v × Lowers b kinds values

-- what is no status says nothing
pub lower_blank : (b : Bool) (k : Kind) → LowerIs b k Blank
lower_blank b Lower = tt
lower_blank b _ = tt

pub lower_ref : (b : Bool) (k : Kind) (n : ℕ) → LowerIs b k (Ref n)
lower_ref b Lower n = tt
lower_ref b _ n = tt

-- one register
pub lowers_get : (b : Bool) (kinds : List Kind) (values : List Value) (r : ℕ)
    → Lowers b kinds values
    → LowerIs b (slice_index_or kinds r BlankKind) (slice_index_or values r Blank)
lowers_get b [] values r h = tt
lowers_get b (k ∷ kinds) [] r h = lower_blank b (slice_index_or (k ∷ kinds) r BlankKind)
lowers_get b (k ∷ kinds) (v ∷ values) zero h = h.0
lowers_get b (k ∷ kinds) (v ∷ values) (suc r) h = lowers_get b kinds values r h.1

pub lowers_set : (b : Bool) (kinds : List Kind) (values : List Value) (r : ℕ) (k : Kind) (v : Value)
    → Lowers b kinds values → LowerIs b k v → Lowers b (slice_set kinds r k) (slice_set values r v)
lowers_set b [] values r k v h is = tt
lowers_set b (j ∷ kinds) [] zero k v h is = tt
lowers_set b (j ∷ kinds) [] (suc r) k v h is = tt
lowers_set b (j ∷ kinds) (w ∷ values) zero k v h is = (is, h.1)
lowers_set b (j ∷ kinds) (w ∷ values) (suc r) k v h is =
    (h.0, lowers_set b kinds values r k v h.1 is)

pub lowers_turn : (b : Bool) (kinds : List Kind) (values : List Value) (r : ℕ) (k : Kind)
    → Lowers b kinds values
    → LowerIs b k (slice_index_or values r Blank) → Lowers b (slice_set kinds r k) values
lowers_turn b [] values r k h is = tt
lowers_turn b (j ∷ kinds) [] zero k h is = tt
lowers_turn b (j ∷ kinds) [] (suc r) k h is = tt
lowers_turn b (j ∷ kinds) (w ∷ values) zero k h is = (is, h.1)
lowers_turn b (j ∷ kinds) (w ∷ values) (suc r) k h is = (h.0, lowers_turn b kinds values r k h.1 is)

left_lower : (b : Bool) (k : Kind) (v : Value) → LowerIs b (left_behind k) v
left_lower b NumKind v = tt
left_lower b _ v = tt

pub lowers_move : (b : Bool) (kinds : List Kind) (values : List Value) (r q : ℕ)
    → Lowers b kinds values
    → Lowers b
    (slice_set (slice_set kinds r (slice_index_or kinds q BlankKind)) q
    (left_behind (slice_index_or kinds q BlankKind)))
    (slice_set values r (slice_index_or values q Blank))
lowers_move b kinds values r q h =
    lowers_turn b (slice_set kinds r (slice_index_or kinds q BlankKind))
    (slice_set values r (slice_index_or values q Blank)) q
    (left_behind (slice_index_or kinds q BlankKind))
    (lowers_set b kinds values r (slice_index_or kinds q BlankKind) (slice_index_or values q Blank)
    h
    (lowers_get b kinds values q h))
    (left_lower b (slice_index_or kinds q BlankKind)
    (slice_index_or (slice_set values r (slice_index_or values q Blank)) q Blank))

none_here : (b : Bool) (k : Kind) (v : Value) → counted is_lower k ≡ 0 → LowerIs b k v
none_here b Lower v h = cc
none_here b _ v h = tt

-- where no register holds one
pub lowers_none : (b : Bool) (kinds : List Kind) (values : List Value)
    → kinds_that is_lower kinds ≡ 0
    → Lowers b kinds values
lowers_none b [] values h = tt
lowers_none b (k ∷ kinds) [] h = tt
lowers_none b (k ∷ kinds) (v ∷ values) h =
    (none_here b k v (omega arith), lowers_none b kinds values (omega arith))

-- a release lets armed registers go
go_lower : (b : Bool) (set : Set) (driver : ℕ) (lock : Guard) (k : Kind) (v : Value) → LowerIs b k v
    → LowerIs b (let_go set driver lock k) v
go_lower b set driver lock (Queued name Armed) v h =
    cond_both (is_guard (guard_named set driver name) lock) BlankKind (Queued name Armed)
    (λ k. LowerIs b k v) (λ guards. tt) (λ other. tt)
go_lower b set driver lock _ v h = h

lowers_go : (b : Bool) (set : Set) (driver : ℕ) (lock : Guard) (kinds : List Kind)
    (values : List Value)
    → Lowers b kinds values → Lowers b (all_let_go set driver lock kinds) values
lowers_go b set driver lock [] values h = tt
lowers_go b set driver lock (k ∷ kinds) [] h = tt
lowers_go b set driver lock (k ∷ kinds) (v ∷ values) h =
    (go_lower b set driver lock k v h.0, lowers_go b set driver lock kinds values h.1)

-- an instruction that leaves the registers alone, and the packets with who has them
pub lowers_kept : (b : Bool) (set : Set) (driver : ℕ) (s : Abs) (i : Instr) (values : List Value)
    → keeps_registers i ≡ true → is_giving (work_of i) ≡ false → Lowers b s.kinds values
    → Lowers b (handed set driver s i).kinds values
lowers_kept b set driver s (Const r n) values same quiet h = cc
lowers_kept b set driver s (Move r q) values same quiet h = cc
lowers_kept b set driver s (Clear r) values same quiet h = cc
lowers_kept b set driver s (Load r c) values same quiet h = cc
lowers_kept b set driver s (LoadPaged r c) values same quiet h = cc
lowers_kept b set driver s (Get r q field) values same quiet h = cc
lowers_kept b set driver s (Mark r) values same quiet h = cc
lowers_kept b set driver s (Insert r q) values same quiet h = cc
lowers_kept b set driver s (Remove r q label) values same quiet h = cc
lowers_kept b set driver s (Unlink r q) values same quiet h = cc
lowers_kept b set driver s (Dequeue r) values same quiet h = cc
lowers_kept b set driver s (Arm r q) values same quiet h = cc
lowers_kept b set driver s (Disarm r label) values same quiet h = cc
lowers_kept b set driver s (Release lock) values same quiet h =
    lowers_go b set driver (DeviceLock lock) s.kinds values h
lowers_kept b set driver s ReleaseCancel values same quiet h =
    lowers_go b set driver CancelLock s.kinds values h
lowers_kept b set driver s (Start r) values same quiet h = cc
lowers_kept b set driver s (Take r label) values same quiet h = cc
lowers_kept b set driver s (Begin r) values same quiet h = cc
lowers_kept b set driver s (Pass r) values same quiet h = cc
lowers_kept b set driver s (Call r f) values same quiet h = cc
lowers_kept b set driver s (Complete r status) values same quiet h = cc
lowers_kept b set driver s _ values same quiet h = h
