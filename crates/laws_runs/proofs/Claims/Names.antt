-- What an instruction does to the registers with packets of queues with a cancel routine: most do
-- nothing, and those that do change the kind of one register.
use Rattle.laws_runs.proofs.Common.{ap, arith, refl, subst, sym, ◌∙◌, Bool, List, None, Some, [], false, if◌then◌else◌, length, slice_index_or, slice_set, true, ℕ, ◌&&◌, ◌+◌, ◌<◌, ◌∷◌, ◌≡◌, ◌≤◌, all_let_go, is_at, is_guard, is_packet, is_stage, let_go, given_down, handed, handed_at_label, kind_of, marked, number_kind, refuses, Set, flow_of, guard_named, label_of, sort_of, OperandFits, Shared, at_label, next, register, with_register, Abs, Kind, BlankKind, LowerKind, New, NumKind, Own, Queued, Stage, Armed, Instr, Add, Arm, Begin, Call, Clear, Complete, Const, Dequeue, Disarm, Get, Insert, Load, LoadPaged, Mark, Move, Pass, Release, ReleaseCancel, Remove, Start, Subtract, Take, Unlink, REGISTERS, Guard, QueueName, Sort, Activation, Value, Blank, Num, Ref, States, named_as, named_in, all_at, Runs, state_of, HasKinds, kinds_get, kinds_set, label_kinds, number_kinds, arrives, arrives_next, has_next, first_none, second_none, unbroken, GoesTo, Written, jumping, keeps_all, makes_blank, makes_number, moves_over, onward, is_giving, keeps_registers, numbered_by, work_of}
use Rattle.laws_runs.proofs.Claims.Sums.{was_taken}
use Rattle.laws_runs.proofs.Holders.Rights.{OfPackets, named_both, named_move, named_none, named_turn, named_write}
use Rattle.laws_runs.proofs.Locks.Says.{is_locking}
use Rattle.laws_runs.proofs.States.NoViews.{is_queued}

-- kinds of packets of queues with a cancel routine
abbrev pub OfQueues : (Kind → Bool) → Type 0
OfQueues f = (k : Kind) → is_queued k ≡ false → f k ≡ false

unpacked : (k : Kind) → is_packet k ≡ false → is_queued k ≡ false
unpacked (Queued name stage) h = cc
unpacked _ h = refl

pub queue_packets : (f : Kind → Bool) → OfQueues f → OfPackets f
queue_packets f queues k h = queues k (unpacked k h)

pub at_queues : (stage : Stage) (name : QueueName) → OfQueues (is_at stage name)
at_queues stage name (Queued other at) h = cc
at_queues stage name _ h = refl

pub was_queues : OfQueues was_taken
was_queues (Queued other stage) h = cc
was_queues _ h = refl

-- what leaves the packets with who has them, and no lock, leaves the kinds as they are
still_so : (set : Set) (driver : ℕ) (s : Abs) (i : Instr) → is_locking (work_of i) ≡ false
    → keeps_registers i ≡ true → is_giving (work_of i) ≡ false
    → (handed set driver s i).kinds ≡ s.kinds
still_so set driver s (Const r n) free same quiet = cc
still_so set driver s (Move r q) free same quiet = cc
still_so set driver s (Clear r) free same quiet = cc
still_so set driver s (Load r c) free same quiet = cc
still_so set driver s (LoadPaged r c) free same quiet = cc
still_so set driver s (Get r q field) free same quiet = cc
still_so set driver s (Mark r) free same quiet = cc
still_so set driver s (Insert r q) free same quiet = cc
still_so set driver s (Remove r q label) free same quiet = cc
still_so set driver s (Unlink r q) free same quiet = cc
still_so set driver s (Dequeue r) free same quiet = cc
still_so set driver s (Arm r q) free same quiet = cc
still_so set driver s (Disarm r label) free same quiet = cc
still_so set driver s (Release lock) free same quiet = cc
still_so set driver s ReleaseCancel free same quiet = cc
still_so set driver s (Start r) free same quiet = cc
still_so set driver s (Take r label) free same quiet = cc
still_so set driver s (Begin r) free same quiet = cc
still_so set driver s (Pass r) free same quiet = cc
still_so set driver s (Call r f) free same quiet = cc
still_so set driver s (Complete r status) free same quiet = cc
still_so set driver s _ free same quiet = refl

-- the release of a guard: claims are given up
module _ (set : Set) (driver : ℕ) (lock : Guard) (f : Kind → Bool) (queues : OfQueues f) where
  gone_le : (b : Bool) (k : Kind) (v : Value) (n : ℕ)
      → named_as f (if b then BlankKind else k) v n ≤ named_as f k v n
  gone_le true k v n =
      let none : named_as f BlankKind v n ≡ 0 = named_none f BlankKind v n (queues BlankKind refl)
      in
      omega arith
  gone_le false k v n = omega arith

  go_le : (k : Kind) (v : Value) (n : ℕ)
      → named_as f (let_go set driver lock k) v n ≤ named_as f k v n
  go_le (Queued name stage) v n =
      gone_le (is_stage stage Armed && is_guard (guard_named set driver name) lock)
      (Queued name stage) v n
  go_le _ v n = omega arith

  pub gone_names : (kinds : List Kind) (values : List Value) (n : ℕ)
      → named_in f (all_let_go set driver lock kinds) values n ≤ named_in f kinds values n
  gone_names [] values n = omega arith
  gone_names (k ∷ kinds) [] n = omega arith
  gone_names (k ∷ kinds) (v ∷ values) n =
      omega (arith, go_le k v n, gone_names kinds values n)

  module _ (unarmed : (name : QueueName) → f (Queued name Armed) ≡ false) where
    stays_so : (b : Bool) (name : QueueName) (v : Value) (n : ℕ)
        → named_as f (if b then BlankKind else Queued name Armed) v n
        ≡ named_as f (Queued name Armed) v n
    stays_so true name v n =
        named_none f BlankKind v n (queues BlankKind refl)
        ∙ sym (named_none f (Queued name Armed) v n (unarmed name))
    stays_so false name v n = refl

    stay_so : (k : Kind) (v : Value) (n : ℕ)
        → named_as f (let_go set driver lock k) v n ≡ named_as f k v n
    stay_so (Queued name Armed) v n =
        stays_so (is_guard (guard_named set driver name) lock) name v n
    stay_so _ v n = refl

    pub stay_names : (kinds : List Kind) (values : List Value) (n : ℕ)
        → named_in f (all_let_go set driver lock kinds) values n ≡ named_in f kinds values n
    stay_names [] values n = refl
    stay_names (k ∷ kinds) [] n = refl
    stay_names (k ∷ kinds) (v ∷ values) n =
        omega (arith, stay_so k v n, stay_names kinds values n)

-- the packets that an activation's registers name
abbrev pub names : States → (Kind → Bool) → Activation → ℕ → ℕ
names states f a n = named_in f (state_of states a).kinds a.registers n

-- an activation goes on with the same packets of queues with a cancel routine; with one register's
-- packet of another kind
abbrev pub KeepsNames : States → Activation → Activation → Type 0
KeepsNames states a b =
    (f : Kind → Bool) → OfQueues f → (n : ℕ) → names states f b n ≡ names states f a n

abbrev pub TurnsNames : States → Activation → Activation → Kind → Kind → ℕ → Type 0
TurnsNames states a b j k m =
    (f : Kind → Bool) → OfQueues f → (n : ℕ)
    → names states f b n + named_as f j (Ref m) n ≡ names states f a n + named_as f k (Ref m) n

module _ (f : Kind → Bool) where
  -- from a kind that isn't of a queue to another
  pub unqueued_turn : (issued : ℕ) (kinds : List Kind) (values : List Value) (r : ℕ) (k : Kind)
      (n : ℕ)
      → HasKinds issued kinds values → f (slice_index_or kinds r BlankKind) ≡ false → f k ≡ false
      → named_in f (slice_set kinds r k) values n ≡ named_in f kinds values n
  unqueued_turn issued kinds values r k n h was is =
      omega (
        arith,
        named_turn f issued kinds values r k n h,
        named_none f (slice_index_or kinds r BlankKind) (slice_index_or values r Blank) n was,
        named_none f k (slice_index_or values r Blank) n is,
      )

module _ (f : Kind → Bool) (queues : OfQueues f) where
  -- a mark, and what is given down
  pub mark_names : (issued : ℕ) (s : Abs) (values : List Value) (r : ℕ) (k : Kind) (n : ℕ)
      → HasKinds issued s.kinds values → k ≡ kind_of s r
      → named_in f (marked s r k).kinds values n ≡ named_in f s.kinds values n
  mark_names issued s values r New n h is =
      unqueued_turn f issued s.kinds values r Own n h (ap f (sym is) ∙ queues New refl)
      (queues Own refl)
  mark_names issued s values r _ n h is = refl

  pub given_names : (issued : ℕ) (s : Abs) (values : List Value) (r : ℕ) (k : Kind) (n : ℕ)
      → HasKinds issued s.kinds values → k ≡ kind_of s r
      → named_in f (given_down s r k).kinds values n ≡ named_in f s.kinds values n
  given_names issued s values r New n h is =
      unqueued_turn f issued s.kinds values r LowerKind n h (ap f (sym is) ∙ queues New refl)
      (queues LowerKind refl)
  given_names issued s values r Own n h is =
      unqueued_turn f issued s.kinds values r BlankKind n h (ap f (sym is) ∙ queues Own refl)
      (queues BlankKind refl)
  given_names issued s values r _ n h is = refl

-- a register that becomes a number had no packet
number_unpacked : (k : Kind) → number_kind k ≡ None → is_packet k ≡ false
number_unpacked NumKind h = refl
number_unpacked _ h = cc

numbered_unpacked : (s : Abs) (i : Instr) (r : ℕ) (sort : Sort) (set : Set) (driver : ℕ)
    → numbered_by i ≡ Some r → refuses s i sort set driver ≡ None
    → is_packet (kind_of s r) ≡ false
numbered_unpacked s (Const q n) r sort set driver is h =
    let one : q ≡ r = cc in rw (← one) (unbroken _ _ h)
numbered_unpacked s (Load q c) r sort set driver is h =
    let one : q ≡ r = cc in rw (← one) (unbroken _ _ h)
numbered_unpacked s (LoadPaged q c) r sort set driver is h =
    let one : q ≡ r = cc in rw (← one) (unbroken _ _ (second_none _ _ h))
numbered_unpacked s (Get q p field) r sort set driver is h =
    let one : q ≡ r = cc in rw (← one) (unbroken _ _ (second_none _ _ h))
numbered_unpacked s (Add q p) r sort set driver is h =
    let one : q ≡ r = cc in rw (← one) (number_unpacked _ (first_none _ _ h))
numbered_unpacked s (Subtract q p) r sort set driver is h =
    let one : q ≡ r = cc in rw (← one) (number_unpacked _ (first_none _ _ h))
numbered_unpacked s _ r sort set driver is h = cc

-- how an activation goes on
module _ (set : Set) (states : States) (s : Shared) (a : Activation) where
  module _ (f : Kind → Bool) (queues : OfQueues f) where
    written_names : (i : Instr) (registers : List Value) → Runs set states s a i
        → is_locking (work_of i) ≡ false
        → is_giving (work_of i) ≡ false → Written a i registers → (n : ℕ)
        → named_in f (handed set a.driver (state_of states a) i).kinds registers n
        ≡ names states f a n
    written_names i registers h free quiet (keeps_all _ same) n =
        ap (λ (kinds : List Kind). named_in f kinds a.registers n)
        (still_so set a.driver (state_of states a) i free same quiet)
    written_names i registers h free quiet (makes_number _ r m is) n =
        ap (λ (kinds : List Kind). named_in f kinds (slice_set a.registers r (Num m)) n)
        (number_kinds (state_of states a) (sort_of set a.driver a.routine) set a.driver i r h.obeys
        is)
        ∙ named_write f s.issued (state_of states a).kinds a.registers r NumKind (Num m) n
        h.stays.kinds
        (queue_packets f queues (kind_of (state_of states a) r)
        (numbered_unpacked (state_of states a) i r (sort_of set a.driver a.routine) set a.driver is
        h.obeys)) (queues NumKind refl)
    written_names i registers h free quiet (moves_over r q) n =
        let small : r < REGISTERS =
        (all_at OperandFits h.routine.code a.position (Move r q) h.known.operands h.here).0 in
        let long : length (state_of states a).kinds ≡ REGISTERS = h.stays.sixteen in
        named_move f (queue_packets f queues) s.issued (state_of states a).kinds a.registers r q n
        h.stays.kinds (omega arith)
        (queue_packets f queues (kind_of (state_of states a) r) (unbroken _ _ h.obeys))
        (kinds_set s.issued (state_of states a).kinds a.registers r (kind_of (state_of states a) q)
        (register a q)
        h.stays.kinds (kinds_get s.issued (state_of states a).kinds a.registers q h.stays.kinds))
    written_names i registers h free quiet (makes_blank r) n =
        named_write f s.issued (state_of states a).kinds a.registers r BlankKind Blank n
        h.stays.kinds
        (queue_packets f queues (kind_of (state_of states a) r) (unbroken _ _ h.obeys))
        (queues BlankKind refl)

module _ (set : Set) (states : States) (s : Shared) (a : Activation) (i : Instr)
    (h : Runs set states s a i) where
  pub goes_names : (b : Activation) (jumped : Bool) → is_locking (work_of i) ≡ false
      → is_giving (work_of i) ≡ false → GoesTo a i b jumped → KeepsNames states a b
  goes_names b jumped free quiet (onward registers on written) f queues n =
      ap (λ (state : Abs). named_in f state.kinds registers n)
      (arrives set states s a i h _ false (onward registers on written))
      ∙ written_names set states s a f queues i registers h free quiet written n
  goes_names b jumped free quiet (jumping label labelled) f queues n =
      ap (λ (state : Abs). named_in f state.kinds a.registers n)
      (arrives set states s a i h _ true (jumping label labelled))
      ∙ ap (λ (kinds : List Kind). named_in f kinds a.registers n)
      (label_kinds (state_of states a) i quiet)

  -- at the next position, with the same values
  pub next_names : has_next (flow_of i) ≡ true → (f : Kind → Bool) → (n : ℕ)
      → names states f (next a) n
      ≡ named_in f (handed set a.driver (state_of states a) i).kinds a.registers n
  next_names on f n =
      ap (λ (state : Abs). named_in f state.kinds a.registers n)
      (arrives_next set states s a i h on)

  pub kinds_names : has_next (flow_of i) ≡ true
      → (handed set a.driver (state_of states a) i).kinds ≡ (state_of states a).kinds
      → KeepsNames states a (next a)
  kinds_names on same f queues n =
      next_names on f n ∙ ap (λ (kinds : List Kind). named_in f kinds a.registers n) same

  module _ (r : ℕ) where
    abbrev with : Kind → List Kind
    with k = slice_set (state_of states a).kinds r k

    turns : (f : Kind → Bool) (k : Kind) (m n : ℕ) → register a r ≡ Ref m
        → named_in f (with k) a.registers n
        + named_as f (kind_of (state_of states a) r) (Ref m) n
        ≡ names states f a n + named_as f k (Ref m) n
    turns f k m n refers =
        subst (λ (v : Value). named_in f (with k) a.registers n
        + named_as f (kind_of (state_of states a) r) v n
        ≡ names states f a n + named_as f k v n) refers
        (named_turn f s.issued (state_of states a).kinds a.registers r k n h.stays.kinds)

    -- with a packet's register of another kind, at the next position or at the label
    pub next_turns : (j k : Kind) (m : ℕ) → has_next (flow_of i) ≡ true
        → (handed set a.driver (state_of states a) i).kinds ≡ with k
        → kind_of (state_of states a) r ≡ j
        → register a r ≡ Ref m → TurnsNames states a (next a) j k m
    next_turns j k m on kinds was refers f queues n =
        let now : names states f (next a) n ≡ named_in f (with k) a.registers n =
        next_names on f n ∙ ap (λ (kinds : List Kind). named_in f kinds a.registers n) kinds in
        let before : named_as f (kind_of (state_of states a) r) (Ref m) n ≡ named_as f j (Ref m) n =
        ap (λ (kind : Kind). named_as f kind (Ref m) n) was in
        omega (arith, turns f k m n refers)

    pub label_turns : (j : Kind) (m label : ℕ) → label_of i ≡ Some label
        → (handed_at_label (state_of states a) i).kinds ≡ with BlankKind
        → kind_of (state_of states a) r ≡ j
        → register a r ≡ Ref m → TurnsNames states a (at_label a label) j BlankKind m
    label_turns j m label labelled kinds was refers f queues n =
        let now : names states f (at_label a label) n ≡ named_in f (with BlankKind) a.registers n =
        ap (λ (state : Abs). named_in f state.kinds a.registers n)
        (arrives set states s a i h _ true (jumping label labelled))
        ∙ ap (λ (kinds : List Kind). named_in f kinds a.registers n) kinds in
        let before : named_as f (kind_of (state_of states a) r) (Ref m) n ≡ named_as f j (Ref m) n =
        ap (λ (kind : Kind). named_as f kind (Ref m) n) was in
        omega (arith, turns f BlankKind m n refers)

    -- where nothing was taken
    pub label_names : (label : ℕ) → label_of i ≡ Some label
        → (handed_at_label (state_of states a) i).kinds ≡ with BlankKind
        → is_packet (kind_of (state_of states a) r) ≡ false → KeepsNames states a (at_label a label)
    label_names label labelled kinds free f queues n =
        ap (λ (state : Abs). named_in f state.kinds a.registers n)
        (arrives set states s a i h _ true (jumping label labelled))
        ∙ ap (λ (kinds : List Kind). named_in f kinds a.registers n) kinds
        ∙ unqueued_turn f s.issued (state_of states a).kinds a.registers r BlankKind n
        h.stays.kinds (queue_packets f queues (kind_of (state_of states a) r) free)
        (queues BlankKind refl)

    -- a register gets a packet
    pub next_takes : (k : Kind) (m : ℕ) → has_next (flow_of i) ≡ true
        → (handed set a.driver (state_of states a) i).kinds ≡ with k
        → is_packet (kind_of (state_of states a) r) ≡ false → r < REGISTERS
        → TurnsNames states a (next (with_register a r (Ref m))) BlankKind k m
    next_takes k m on kinds free small f queues n =
        let long : length (state_of states a).kinds ≡ REGISTERS = h.stays.sixteen in
        let none : named_as f (kind_of (state_of states a) r) (register a r) n ≡ 0 =
        named_none f (kind_of (state_of states a) r) (register a r) n
        (queue_packets f queues (kind_of (state_of states a) r) free) in
        let blank : named_as f BlankKind (Ref m) n ≡ 0 =
        named_none f BlankKind (Ref m) n (queues BlankKind refl) in
        let both : named_in f (with k) (slice_set a.registers r (Ref m)) n
        + named_as f (kind_of (state_of states a) r) (register a r) n
        ≡ names states f a n + named_as f k (Ref m) n =
        named_both f s.issued (state_of states a).kinds a.registers r k (Ref m) n h.stays.kinds
        (omega arith) in
        let now : names states f (next (with_register a r (Ref m))) n
        ≡ named_in f (with k) (slice_set a.registers r (Ref m)) n =
        ap (λ (state : Abs). named_in f state.kinds (slice_set a.registers r (Ref m)) n)
        (arrives_next set states s a i h on)
        ∙ ap (λ (kinds : List Kind). named_in f kinds (slice_set a.registers r (Ref m)) n) kinds in
        omega arith

-- a register turns from a kind that isn't of a queue to another
pub turns_nothing : (states : States) (a b : Activation) (j k : Kind) (m : ℕ) → is_queued j ≡ false
    → is_queued k ≡ false → TurnsNames states a b j k m → KeepsNames states a b
turns_nothing states a b j k m was is turns f queues n =
    omega (
      arith,
      turns f queues n,
      named_none f j (Ref m) n (queues j was),
      named_none f k (Ref m) n (queues k is),
    )
