-- The packets that a frame's registers of some kinds name, and those that they have rights to, as
-- they are written.
use Rattle.laws_runs.proofs.Common.{ap, arith, refl, zero, ◌-◌, ◌∙◌, eq-eqb, list_any, Bool, List, None, Option, Some, [], false, if◌then◌else◌, is_some, length, nat_eq, replicate, slice_index_or, slice_set, suc, true, ℕ, ◌+◌, ◌<◌, ◌∷◌, ◌≡◌, ◌≤◌, is_packet, is_right, left_behind, is_dropped, Set, cancels_for, Abs, Kind, BlankKind, New, NumKind, Own, Queued, View, Cancelling, REGISTERS, QueueName, Sort, Cancel, Dispatch, Dpc, Hold, Propagate, StartIo, Status, Activation, Routine, Value, Blank, Ref, StatusValue, States, frame_rights, named_as, named_in, right, rights, copied, Begins, Enters, first_state, HasKinds, Suits, left_none, if_none, or_left, or_right}

pub no_right : (k : Kind) (v : Value) (n : ℕ) → is_right k ≡ false → right k v n ≡ 0
no_right k v n h = rw h refl

pub one_right : (k : Kind) (v : Value) (n : ℕ) → is_right k ≡ true → v ≡ Ref n → right k v n ≡ 1
one_right k v n is h = rw (is, h, eq-eqb n n refl) refl

-- a packet's register isn't a status
no_status : (issued : ℕ) (k : Kind) (status : Status) → is_packet k ≡ true
    → Suits issued k (StatusValue status) → ⊥
no_status issued New status is h = let no : StatusValue status ≡ Ref h.0 = h.1 in cc
no_status issued Own status is h = let no : StatusValue status ≡ Ref h.0 = h.1 in cc
no_status issued (Queued name stage) status is h = let no : StatusValue status ≡ Ref h.0 = h.1 in cc
no_status issued View status is h = let no : StatusValue status ≡ Ref h.0 = h.1 in cc
no_status issued _ status is h = cc

-- kinds of packets
abbrev pub OfPackets : (Kind → Bool) → Type 0
OfPackets f = (k : Kind) → is_packet k ≡ false → f k ≡ false

pub right_packets : OfPackets is_right
right_packets New h = cc
right_packets Own h = cc
right_packets (Queued name stage) h = cc
right_packets _ h = refl

pub named_none : (f : Kind → Bool) (k : Kind) (v : Value) (n : ℕ) → f k ≡ false
    → named_as f k v n ≡ 0
named_none f k v n h = rw h refl

module _ (f : Kind → Bool) where
  -- a register that names no packet gets a value, or a kind and a value without one
  pub named_write : (issued : ℕ) (kinds : List Kind) (values : List Value) (r : ℕ) (k : Kind)
      (v : Value) (n : ℕ)
      → HasKinds issued kinds values
      → f (slice_index_or kinds r BlankKind) ≡ false → f k ≡ false
      → named_in f (slice_set kinds r k) (slice_set values r v) n ≡ named_in f kinds values n
  named_write issued [] [] r k v n h free is = refl
  named_write issued [] (w ∷ values) r k v n h free is = absurd h
  named_write issued (j ∷ kinds) [] r k v n h free is = absurd h
  named_write issued (j ∷ kinds) (w ∷ values) zero k v n h free is = rw (free, is) refl
  named_write issued (j ∷ kinds) (w ∷ values) (suc r) k v n h free is =
      ap (λ (sum : ℕ). named_as f j w n + sum) (named_write issued kinds values r k v n h.1 free is)

  -- a register's name goes, and another one comes
  pub named_both : (issued : ℕ) (kinds : List Kind) (values : List Value) (r : ℕ) (k : Kind)
      (v : Value) (n : ℕ)
      → HasKinds issued kinds values → r < length kinds
      → named_in f (slice_set kinds r k) (slice_set values r v) n
      + named_as f (slice_index_or kinds r BlankKind) (slice_index_or values r Blank) n
      ≡ named_in f kinds values n + named_as f k v n
  named_both issued [] [] r k v n h within = absurd (omega arith)
  named_both issued [] (w ∷ values) r k v n h within = absurd h
  named_both issued (j ∷ kinds) [] r k v n h within = absurd h
  named_both issued (j ∷ kinds) (w ∷ values) zero k v n h within = omega arith
  named_both issued (j ∷ kinds) (w ∷ values) (suc r) k v n h within =
      let others : named_in f (slice_set kinds r k) (slice_set values r v) n
      + named_as f (slice_index_or kinds r BlankKind) (slice_index_or values r Blank) n
      ≡ named_in f kinds values n + named_as f k v n =
      named_both issued kinds values r k v n h.1 (omega arith)
      in
      omega arith

  no_name : (k : Kind) (n : ℕ) → named_as f k Blank n ≡ 0
  no_name k n = if_none (f k)

  pub named_turn : (issued : ℕ) (kinds : List Kind) (values : List Value) (r : ℕ) (k : Kind) (n : ℕ)
      → HasKinds issued kinds values
      → named_in f (slice_set kinds r k) values n
      + named_as f (slice_index_or kinds r BlankKind) (slice_index_or values r Blank) n
      ≡ named_in f kinds values n + named_as f k (slice_index_or values r Blank) n
  named_turn issued [] [] r k n h =
      omega (arith, no_name BlankKind n, no_name k n)
  named_turn issued [] (w ∷ values) r k n h = absurd h
  named_turn issued (j ∷ kinds) [] r k n h = absurd h
  named_turn issued (j ∷ kinds) (w ∷ values) zero k n h = omega arith
  named_turn issued (j ∷ kinds) (w ∷ values) (suc r) k n h =
      omega (arith, named_turn issued kinds values r k n h.1)

  -- one register's name is among all
  pub named_le : (issued : ℕ) (kinds : List Kind) (values : List Value) (r n : ℕ)
      → HasKinds issued kinds values
      → named_as f (slice_index_or kinds r BlankKind) (slice_index_or values r Blank) n
      ≤ named_in f kinds values n
  named_le issued [] [] r n h =
      omega (arith, no_name BlankKind n)
  named_le issued [] (w ∷ values) r n h = absurd h
  named_le issued (j ∷ kinds) [] r n h = absurd h
  named_le issued (j ∷ kinds) (w ∷ values) zero n h = omega arith
  named_le issued (j ∷ kinds) (w ∷ values) (suc r) n h =
      omega (arith, named_le issued kinds values r n h.1)

  -- also where there needn't be as many registers as kinds
  pub named_among : f BlankKind ≡ false → (kinds : List Kind) (values : List Value) (r n : ℕ)
      → named_as f (slice_index_or kinds r BlankKind) (slice_index_or values r Blank) n
      ≤ named_in f kinds values n
  named_among blank [] values r n =
      omega (arith, named_none f BlankKind (slice_index_or values r Blank) n blank)
  named_among blank (j ∷ kinds) [] r n =
      omega (arith, no_name (slice_index_or (j ∷ kinds) r BlankKind) n)
  named_among blank (j ∷ kinds) (w ∷ values) zero n = omega arith
  named_among blank (j ∷ kinds) (w ∷ values) (suc r) n =
      omega (arith, named_among blank kinds values r n)

  pub named_nowhere : (kinds : List Kind) (values : List Value) (n : ℕ)
      → list_any f kinds ≡ false → named_in f kinds values n ≡ 0
  named_nowhere [] values n h = refl
  named_nowhere (k ∷ kinds) [] n h = refl
  named_nowhere (k ∷ kinds) (v ∷ values) n h =
      omega (
        arith,
        named_none f k v n (or_left (f k) (list_any f kinds) h),
        named_nowhere kinds values n (or_right (f k) (list_any f kinds) h),
      )

  module _ (packets : OfPackets f) where
    -- a move takes the name along
    left_name : (k : Kind) (v : Value) (n : ℕ) → named_as f (left_behind k) v n ≡ 0
    left_name k v n =
        named_none f (left_behind k) v n
        (left_none f (packets BlankKind refl) (packets NumKind refl) k)

    pub named_move : (issued : ℕ) (kinds : List Kind) (values : List Value) (r q n : ℕ)
        → HasKinds issued kinds values
        → r < length kinds
        → f (slice_index_or kinds r BlankKind) ≡ false
        → HasKinds issued (slice_set kinds r (slice_index_or kinds q BlankKind))
        (slice_set values r (slice_index_or values q Blank))
        → named_in f (slice_set (slice_set kinds r (slice_index_or kinds q BlankKind)) q
        (left_behind (slice_index_or kinds q BlankKind)))
        (slice_set values r (slice_index_or values q Blank)) n
        ≡ named_in f kinds values n
    named_move issued kinds values r q n h within free moved =
        let k : Kind = slice_index_or kinds q BlankKind in
        let v : Value = slice_index_or values q Blank in
        let ks : List Kind = slice_set kinds r k in
        let vs : List Value = slice_set values r v in
        let there : named_as f (slice_index_or ks q BlankKind) (slice_index_or vs q Blank) n
        ≡ named_as f k v n =
        rw (copied kinds r q BlankKind, copied values r q Blank) refl in
        omega (
          arith,
          named_both issued kinds values r k v n h within,
          named_none f (slice_index_or kinds r BlankKind) (slice_index_or values r Blank) n free,
          named_turn issued ks vs q (left_behind k) n moved,
          left_name k (slice_index_or vs q Blank) n,
        )

    -- a register that is told a status names no packet
    not_told : (issued : ℕ) (k : Kind) (status : Status) (b : Bool) → is_packet k ≡ b
        → Suits issued k (StatusValue status) → f k ≡ false
    not_told issued k status false is h = packets k is
    not_told issued k status true is h = absurd (no_status issued k status is h)

    pub named_told : (issued : ℕ) (kinds : List Kind) (values : List Value) (r : ℕ)
        (status : Status)
        (n : ℕ)
        → HasKinds issued kinds (slice_set values r (StatusValue status))
        → named_in f kinds (slice_set values r (StatusValue status)) n ≡ named_in f kinds values n
    named_told issued [] values r status n h = refl
    named_told issued (k ∷ kinds) [] r status n h = refl
    named_told issued (k ∷ kinds) (v ∷ values) zero status n h =
        rw (not_told issued k status (is_packet k) refl h.0) refl
    named_told issued (k ∷ kinds) (v ∷ values) (suc r) status n h =
        ap (λ (sum : ℕ). named_as f k v n + sum) (named_told issued kinds values r status n h.1)

    -- a routine that begins, handed a packet or nothing
    blank_names : (count n : ℕ)
        → named_in f (replicate count BlankKind) (replicate count Blank) n ≡ 0
    blank_names zero n = refl
    blank_names (suc count) n =
        omega (arith, no_name BlankKind n, blank_names count n)

    pub handed_names : (k : Kind) (v : Value) (n : ℕ)
        → named_in f (k ∷ replicate (REGISTERS - 1) BlankKind)
        (v ∷ replicate (REGISTERS - 1) Blank) n ≡ named_as f k v n
    handed_names k v n =
        omega (arith, blank_names (REGISTERS - 1) n)

-- and rights: a register that has no right gets a value, or a kind and a value without one
pub rights_write : (issued : ℕ) (kinds : List Kind) (values : List Value) (r : ℕ) (k : Kind)
    (v : Value) (n : ℕ)
    → HasKinds issued kinds values
    → is_right (slice_index_or kinds r BlankKind) ≡ false → is_right k ≡ false
    → rights (slice_set kinds r k) (slice_set values r v) n ≡ rights kinds values n
rights_write issued kinds values r k v n h free is =
    named_write is_right issued kinds values r k v n h free is

pub rights_both : (issued : ℕ) (kinds : List Kind) (values : List Value) (r : ℕ) (k : Kind)
    (v : Value) (n : ℕ)
    → HasKinds issued kinds values → r < length kinds
    → rights (slice_set kinds r k) (slice_set values r v) n
    + right (slice_index_or kinds r BlankKind)
    (slice_index_or values r Blank) n
    ≡ rights kinds values n + right k v n
rights_both issued kinds values r k v n h within =
    named_both is_right issued kinds values r k v n h within

pub rights_turn : (issued : ℕ) (kinds : List Kind) (values : List Value) (r : ℕ) (k : Kind) (n : ℕ)
    → HasKinds issued kinds values
    → rights (slice_set kinds r k) values n + right (slice_index_or kinds r BlankKind)
    (slice_index_or values r Blank)
    n
    ≡ rights kinds values n + right k (slice_index_or values r Blank) n
rights_turn issued kinds values r k n h = named_turn is_right issued kinds values r k n h

pub right_le : (issued : ℕ) (kinds : List Kind) (values : List Value) (r n : ℕ)
    → HasKinds issued kinds values
    → right (slice_index_or kinds r BlankKind) (slice_index_or values r Blank) n
    ≤ rights kinds values n
right_le issued kinds values r n h = named_le is_right issued kinds values r n h

pub rights_move : (issued : ℕ) (kinds : List Kind) (values : List Value) (r q n : ℕ)
    → HasKinds issued kinds values
    → r < length kinds
    → is_right (slice_index_or kinds r BlankKind) ≡ false
    → HasKinds issued (slice_set kinds r (slice_index_or kinds q BlankKind))
    (slice_set values r (slice_index_or values q Blank))
    → rights (slice_set (slice_set kinds r (slice_index_or kinds q BlankKind)) q
    (left_behind (slice_index_or kinds q BlankKind)))
    (slice_set values r (slice_index_or values q Blank)) n
    ≡ rights kinds values n
rights_move issued kinds values r q n h within free moved =
    named_move is_right right_packets issued kinds values r q n h within free moved

pub rights_told : (issued : ℕ) (kinds : List Kind) (values : List Value) (r : ℕ) (status : Status)
    (n : ℕ)
    → HasKinds issued kinds (slice_set values r (StatusValue status))
    → rights kinds (slice_set values r (StatusValue status)) n ≡ rights kinds values n
rights_told issued kinds values r status n h =
    named_told is_right right_packets issued kinds values r status n h

-- a register that may be written over has no right, and no register that may be left behind
pub not_right : (k : Kind) → is_packet k ≡ false → is_right k ≡ false
not_right New h = cc
not_right Own h = cc
not_right (Queued name stage) h = cc
not_right _ h = refl

not_left : (k : Kind) → is_dropped false k ≡ false → is_right k ≡ false
not_left New h = cc
not_left Own h = cc
not_left (Queued name stage) h = cc
not_left _ h = refl

pub no_rights : (kinds : List Kind) (values : List Value) (n : ℕ)
    → list_any (is_dropped false) kinds ≡ false → rights kinds values n ≡ 0
no_rights [] values n h = refl
no_rights (k ∷ kinds) [] n h = refl
no_rights (k ∷ kinds) (v ∷ values) n h =
    omega (
      arith,
      no_right k v n (not_left k (or_left (is_dropped false k) (list_any (is_dropped false) kinds) h)),
      no_rights kinds values n (or_right (is_dropped false k) (list_any (is_dropped false) kinds) h),
    )

-- a routine begins with a right to the packet that it is handed, if it is to serve it
blank_rights : (count n : ℕ) → rights (replicate count BlankKind) (replicate count Blank) n ≡ 0
blank_rights count n = blank_names is_right right_packets count n

abbrev pub handed_over : Sort → ℕ → ℕ → ℕ
handed_over Dispatch m n = if nat_eq m n then 1 else 0
handed_over StartIo m n = if nat_eq m n then 1 else 0
handed_over Dpc m n = 0
handed_over Propagate m n = 0
handed_over Hold m n = if nat_eq m n then 1 else 0
handed_over Cancel m n = if nat_eq m n then 1 else 0

handed_rights : (k : Kind) (m n : ℕ) → is_right k ≡ true
    → rights (k ∷ replicate (REGISTERS - 1) BlankKind) (Ref m ∷ replicate (REGISTERS - 1) Blank) n
    ≡ (if nat_eq m n then 1 else 0)
handed_rights k m n is =
    rw is (omega (arith, blank_rights (REGISTERS - 1) n))

handed_none : (k : Kind) (m n : ℕ) → is_right k ≡ false
    → rights (k ∷ replicate (REGISTERS - 1) BlankKind) (Ref m ∷ replicate (REGISTERS - 1) Blank) n
    ≡ 0
handed_none k m n is =
    rw is (omega (arith, blank_rights (REGISTERS - 1) n))

first_rights : (sort : Sort) (name : Option QueueName) (m n : ℕ)
    → (sort ≡ Cancel → is_some name ≡ true)
    → rights (first_state sort name).kinds (Ref m ∷ replicate (REGISTERS - 1) Blank) n
    ≡ handed_over sort m n
first_rights Dispatch name m n named = handed_rights New m n refl
first_rights StartIo name m n named = handed_rights Own m n refl
first_rights Dpc name m n named = handed_none BlankKind m n refl
first_rights Propagate name m n named = handed_none View m n refl
first_rights Hold name m n named = handed_rights New m n refl
first_rights Cancel None m n named = let no : false ≡ true = named refl in cc
first_rights Cancel (Some list) m n named = handed_rights (Queued list Cancelling) m n refl

pub begun_rights : (set : Set) (states : States) (issued : ℕ) (a : Activation) (sort : Sort)
    (m n : ℕ)
    → Begins set states issued a sort m → frame_rights states (Routine a) n ≡ handed_over sort m n
begun_rights set states issued a sort m n begins =
    let name : Option QueueName = cancels_for set a.driver a.routine in
    ap (λ (state : Abs). rights state.kinds a.registers n) begins.start
    ∙ ap (λ (values : List Value). rights (first_state sort name).kinds values n) begins.registers
    ∙ first_rights sort name m n (λ is. begins.named (begins.of_sort ∙ is))

-- a DPC routine begins with none
pub dpc_rights : (set : Set) (states : States) (issued : ℕ) (a : Activation) (n : ℕ)
    → Enters set states issued a Dpc Blank → frame_rights states (Routine a) n ≡ 0
dpc_rights set states issued a n enters =
    ap (λ (state : Abs). rights state.kinds a.registers n) enters.start
    ∙ ap (λ (values : List Value). rights (first_state Dpc
    (cancels_for set a.driver a.routine)).kinds values n) enters.registers
    ∙ (omega (arith, blank_rights (REGISTERS - 1) n))
