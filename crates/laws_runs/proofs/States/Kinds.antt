-- Registers hold what their kinds say: a number, a status, or a packet that was issued; and an
-- instruction that breaks no rule finds its operands there, and leaves registers of the kinds that
-- the local rule says.
use Rattle.laws_runs.proofs.Prelude.{ap, arith, inl, inr, refl, subst, sym, zero, ◌∙◌, cond_both, lt-ltb, length-set, set-get_or, Bool, List, None, Option, Some, [], false, length, nat_lt, slice_index_or, slice_set, suc, true, ℕ, ⊤, ◌&&◌, ◌<◌, ◌||◌, ◌∷◌, ◌≡◌, ◌≤◌, ◌⊎◌, all_let_go, is_at, is_exchanged, is_guard, is_lower, is_packet, is_right, is_stage, kind_disarmed, kind_inserted, kind_removed, left_behind, let_go, a_new_one, an_owned_one, complete_kind, demanded, given_down, handed, handed_at_label, kind_of, mark_fault, marked, number_kind, one_handed_or_owned, queued_kind, refuses, Set, cancel_routine_of, guard_named, Shared, number_in, packet_in, status_in, Abs, Kind, BlankKind, Lower, New, NumKind, Own, Queued, View, Armed, Cancelling, Listed, Taken, Instr, Acquire, Add, Arm, Begin, Call, Clear, Complete, Const, Dequeue, Disarm, Get, IfCancel, IfPending, Insert, JumpIfLess, JumpIfZero, Load, LoadPaged, Mark, Move, Pass, Put, Release, ReleaseCancel, Remove, Start, Store, StorePaged, Subtract, Take, Unlink, Guard, CancelLock, DeviceLock, QueueName, Declared, DeviceQueue, Sort, Status, Activation, Value, Blank, Num, Ref, StatusValue}
use Rattle.model.specs.LocalRule.{Wanted, any_packet, one_to_mark, one_to_look_at}
use Rattle.laws_runs.proofs.Lists.{copied}
use Rattle.laws_runs.proofs.States.NoViews.{is_queued}
use Rattle.laws_runs.proofs.States.Rules.{first_none, second_none}
use Rattle.laws_runs.proofs.Steps.Comes.{Written, keeps_all, makes_number, moves_over, makes_blank}
use Rattle.laws_runs.proofs.Steps.Words.{work_of, is_forwarding, goes_next, packet_operand, number_operand, second_operand, keeps_registers, numbered_by, is_giving}

abbrev pub IsPacket : ℕ → Value → Type 0
IsPacket issued v = (n : ℕ) × (v ≡ Ref n) × (n < issued)

abbrev pub Suits : ℕ → Kind → Value → Type 0
Suits issued BlankKind v = ⊤
Suits issued NumKind v = (n : ℕ) × (v ≡ Num n)
Suits issued Lower v = (status : Status) × (v ≡ StatusValue status)
Suits issued New v = IsPacket issued v
Suits issued Own v = IsPacket issued v
Suits issued (Queued name stage) v = IsPacket issued v
Suits issued View v = IsPacket issued v

abbrev pub HasKinds : ℕ → List Kind → List Value → Type 0
HasKinds issued [] [] = ⊤
HasKinds issued [] (v ∷ values) = ⊥
HasKinds issued (k ∷ kinds) [] = ⊥
HasKinds issued (k ∷ kinds) (v ∷ values) = Suits issued k v × HasKinds issued kinds values

module _ (issued : ℕ) where
  -- one register
  pub kinds_get : (kinds : List Kind) (values : List Value) (r : ℕ) → HasKinds issued kinds values
      → Suits issued (slice_index_or kinds r BlankKind) (slice_index_or values r Blank)
  kinds_get [] [] r h = tt
  kinds_get [] (v ∷ values) r h = absurd h
  kinds_get (k ∷ kinds) [] r h = absurd h
  kinds_get (k ∷ kinds) (v ∷ values) zero h = h.0
  kinds_get (k ∷ kinds) (v ∷ values) (suc r) h = kinds_get kinds values r h.1

  -- a register is written, with the kind of what it becomes
  pub kinds_set : (kinds : List Kind) (values : List Value) (r : ℕ) (k : Kind) (v : Value)
      → HasKinds issued kinds values → Suits issued k v
      → HasKinds issued (slice_set kinds r k) (slice_set values r v)
  kinds_set [] [] r k v h suits = tt
  kinds_set [] (w ∷ values) r k v h suits = absurd h
  kinds_set (j ∷ kinds) [] r k v h suits = absurd h
  kinds_set (j ∷ kinds) (w ∷ values) zero k v h suits = (suits, h.1)
  kinds_set (j ∷ kinds) (w ∷ values) (suc r) k v h suits =
      (h.0, kinds_set kinds values r k v h.1 suits)

  -- a register gets another kind that suits it too
  pub kinds_turn : (kinds : List Kind) (values : List Value) (r : ℕ) (k : Kind)
      → HasKinds issued kinds values
      → Suits issued k (slice_index_or values r Blank)
      → HasKinds issued (slice_set kinds r k) values
  kinds_turn [] [] r k h suits = tt
  kinds_turn [] (w ∷ values) r k h suits = absurd h
  kinds_turn (j ∷ kinds) [] r k h suits = absurd h
  kinds_turn (j ∷ kinds) (w ∷ values) zero k h suits = (suits, h.1)
  kinds_turn (j ∷ kinds) (w ∷ values) (suc r) k h suits =
      (h.0, kinds_turn kinds values r k h.1 suits)

  left_suits : (k : Kind) (v : Value) → Suits issued k v → Suits issued (left_behind k) v
  left_suits NumKind v h = h
  left_suits _ v h = tt

  -- a register is moved to another one
  pub kinds_move : (kinds : List Kind) (values : List Value) (r q : ℕ)
      → HasKinds issued kinds values
      → HasKinds issued
      (slice_set (slice_set kinds r (slice_index_or kinds q BlankKind)) q
      (left_behind (slice_index_or kinds q BlankKind)))
      (slice_set values r (slice_index_or values q Blank))
  kinds_move kinds values r q h =
      let k : Kind = slice_index_or kinds q BlankKind in
      let v : Value = slice_index_or values q Blank in
      let suits : Suits issued k v = kinds_get kinds values q h in
      kinds_turn (slice_set kinds r k) (slice_set values r v) q (left_behind k)
      (kinds_set kinds values r k v h suits)
      (subst (λ (w : Value). Suits issued (left_behind k) w) (sym (copied values r q Blank))
      (left_suits k v suits))

-- more packets were issued
suits_later : (issued more : ℕ) (k : Kind) (v : Value) → issued ≤ more → Suits issued k v
    → Suits more k v
suits_later issued more BlankKind v le h = tt
suits_later issued more NumKind v le h = h
suits_later issued more Lower v le h = h
suits_later issued more _ v le h = (h.0, h.1, (let l : h.0 < issued = h.2 in omega arith))

pub kinds_later : (issued more : ℕ) (kinds : List Kind) (values : List Value) → issued ≤ more
    → HasKinds issued kinds values → HasKinds more kinds values
kinds_later issued more [] [] le h = tt
kinds_later issued more (k ∷ kinds) (v ∷ values) le h =
    (suits_later issued more k v le h.0, kinds_later issued more kinds values le h.1)
kinds_later issued more _ _ le h = absurd h

-- what a register of a kind holds
pub number_there : (issued : ℕ) (v : Value) → Suits issued NumKind v
    → (n : ℕ) × (number_in v ≡ Some n)
number_there issued v h = (h.0, ap number_in h.1)

pub status_there : (issued : ℕ) (k : Kind) (v : Value) → is_lower k ≡ true → Suits issued k v
    → (status : Status) × (status_in v ≡ Some status)
status_there issued Lower v is h = (h.0, ap status_in h.1)
status_there issued _ v is h = cc

packet_found : (s : Shared) (v : Value) (h : IsPacket s.issued v) → packet_in s v ≡ Some h.0
packet_found s v h = let l : nat_lt h.0 s.issued ≡ true = lt-ltb h.0 s.issued h.2 in rw (h.1, l)
    refl

pub packet_ref : (s : Shared) (k : Kind) (v : Value) → is_packet k ≡ true → Suits s.issued k v
    → (n : ℕ) × (v ≡ Ref n) × (packet_in s v ≡ Some n)
packet_ref s BlankKind v is h = cc
packet_ref s NumKind v is h = cc
packet_ref s Lower v is h = cc
packet_ref s _ v is h = (h.0, h.1, packet_found s v h)

-- what an instruction demands of its operands
pub demanded_packet : (wanted : Wanted) (k : Kind) → demanded wanted k ≡ None → is_packet k ≡ true
demanded_packet wanted BlankKind h = cc
demanded_packet wanted NumKind h = cc
demanded_packet wanted Lower h = cc
demanded_packet wanted _ h = refl

complete_packet : (k : Kind) → complete_kind k ≡ None → is_packet k ≡ true
complete_packet BlankKind h = cc
complete_packet NumKind h = cc
complete_packet Lower h = cc
complete_packet _ h = refl

queued_packet : (fits : Bool) (k : Kind) → queued_kind fits k ≡ None → is_packet k ≡ true
queued_packet fits BlankKind h = cc
queued_packet fits NumKind h = cc
queued_packet fits Lower h = cc
queued_packet fits _ h = refl

number_is : (k : Kind) → number_kind k ≡ None → k ≡ NumKind
number_is NumKind h = refl
number_is _ h = cc

-- what a packet becomes in its register is still one
packet_suits : (issued : ℕ) (k : Kind) (v : Value) → is_packet k ≡ true → Suits issued k v
    → IsPacket issued v
packet_suits issued BlankKind v is h = cc
packet_suits issued NumKind v is h = cc
packet_suits issued Lower v is h = cc
packet_suits issued _ v is h = h

inserted_suits : (issued : ℕ) (cancel : Option ℕ) (name : QueueName) (v : Value)
    → IsPacket issued v → Suits issued (kind_inserted cancel name) v
inserted_suits issued None name v h = tt
inserted_suits issued (Some routine) name v h = h

pub removed_suits : (issued : ℕ) (cancel : Option ℕ) (name : QueueName) (v : Value)
    → IsPacket issued v → Suits issued (kind_removed cancel name) v
removed_suits issued None name v h = h
removed_suits issued (Some routine) name v h = h

disarmed_suits : (issued : ℕ) (k : Kind) (v : Value) → Suits issued k v
    → Suits issued (kind_disarmed k) v
disarmed_suits issued (Queued name Armed) v h = h
disarmed_suits issued (Queued name Taken) v h = h
disarmed_suits issued _ v h = h

-- the kinds after the release of a guard
module _ (set : Set) (driver : ℕ) (lock : Guard) where
  go_suits : (issued : ℕ) (k : Kind) (v : Value) → Suits issued k v
      → Suits issued (let_go set driver lock k) v
  go_suits issued (Queued name stage) v h =
      cond_both (is_stage stage Armed && is_guard (guard_named set driver name) lock) BlankKind
      (Queued name stage) (λ k. Suits issued k v) (λ guards. tt) (λ other. h)
  go_suits issued _ v h = h

  go_kinds : (issued : ℕ) (kinds : List Kind) (values : List Value) → HasKinds issued kinds values
      → HasKinds issued (all_let_go set driver lock kinds) values
  go_kinds issued [] [] h = tt
  go_kinds issued (k ∷ kinds) (v ∷ values) h =
      (go_suits issued k v h.0, go_kinds issued kinds values h.1)
  go_kinds issued _ _ h = absurd h

  go_long : (kinds : List Kind) → length (all_let_go set driver lock kinds) ≡ length kinds
  go_long [] = refl
  go_long (k ∷ kinds) = ap suc (go_long kinds)

module _ (s : Abs) (sort : Sort) (set : Set) (driver : ℕ) where
  abbrev Obeys : Instr → Type 0
  Obeys i = refuses s i sort set driver ≡ None

  abbrev IsPacketAt : ℕ → Type 0
  IsPacketAt r = is_packet (kind_of s r) ≡ true

  demands : (wanted : Wanted) (q r : ℕ) → demanded wanted (kind_of s q) ≡ None → Some q ≡ Some r
      → IsPacketAt r
  demands wanted q r h same =
      let one : q ≡ r = cc in
      subst IsPacketAt one (demanded_packet wanted (kind_of s q) h)

  pub packet_wanted : (i : Instr) (r : ℕ) → Obeys i → packet_operand i ≡ Some r → IsPacketAt r
  packet_wanted (Get p q field) r h is = demands any_packet q r (first_none _ _ h) is
  packet_wanted (Put q p) r h is = demands any_packet q r (first_none _ _ h) is
  packet_wanted (Mark q) r h is = demands one_to_mark q r (first_none _ _ h) is
  packet_wanted (Insert q list) r h is = demands an_owned_one q r (first_none _ _ h) is
  packet_wanted (Start q) r h is = demands an_owned_one q r (first_none _ _ h) is
  packet_wanted (Begin q) r h is = demands an_owned_one q r (first_none _ _ h) is
  packet_wanted (Pass q) r h is = demands a_new_one q r (first_none _ _ h) is
  packet_wanted (Call q f) r h is = demands one_handed_or_owned q r (first_none _ _ h) is
  packet_wanted (Complete q status) r h is =
      let one : q ≡ r = cc in
      subst IsPacketAt one (complete_packet (kind_of s q) (first_none _ _ h))
  packet_wanted (Unlink q list) r h is =
      let one : q ≡ r = cc in
      subst IsPacketAt one
      (queued_packet
      (is_at Listed (Declared list) (kind_of s q) || is_at Cancelling (Declared list) (kind_of s q))
      (kind_of s q) (first_none _ _ h))
  packet_wanted (Arm q list) r h is =
      let one : q ≡ r = cc in
      subst IsPacketAt one
      (queued_packet (is_at Listed (Declared list) (kind_of s q)) (kind_of s q) (first_none _ _ h))
  packet_wanted (Disarm q label) r h is =
      let one : q ≡ r = cc in
      subst IsPacketAt one (queued_packet (is_exchanged (kind_of s q)) (kind_of s q) h)
  packet_wanted (IfCancel q label) r h is = demands any_packet q r h is
  packet_wanted (Dequeue q) r h is =
      let one : q ≡ r = cc in
      subst IsPacketAt one
      (queued_packet (is_at Cancelling DeviceQueue (kind_of s q)) (kind_of s q) (first_none _ _ h))
  packet_wanted (IfPending q label) r h is = demands one_to_look_at q r (first_none _ _ h) is
  packet_wanted _ r h is = cc

  numbers : (q r : ℕ) → number_kind (kind_of s q) ≡ None → Some q ≡ Some r → kind_of s r ≡ NumKind
  numbers q r h same =
      let one : q ≡ r = cc in
      subst (λ (x : ℕ). kind_of s x ≡ NumKind) one (number_is (kind_of s q) h)

  first_wanted : (i : Instr) (r : ℕ) → Obeys i → number_operand i ≡ Some r → kind_of s r ≡ NumKind
  first_wanted (Add p q) r h is = numbers p r (first_none _ _ h) is
  first_wanted (Subtract p q) r h is = numbers p r (first_none _ _ h) is
  first_wanted (JumpIfZero p label) r h is = numbers p r h is
  first_wanted (JumpIfLess p q label) r h is = numbers p r (first_none _ _ h) is
  first_wanted (Store c p) r h is = numbers p r h is
  first_wanted (StorePaged c p) r h is = numbers p r (first_none _ _ h) is
  first_wanted (Put q p) r h is = numbers p r (second_none _ _ h) is
  first_wanted _ r h is = cc

  second_wanted : (i : Instr) (r : ℕ) → Obeys i → second_operand i ≡ Some r → kind_of s r ≡ NumKind
  second_wanted (Add p q) r h is = numbers q r (second_none _ _ h) is
  second_wanted (Subtract p q) r h is = numbers q r (second_none _ _ h) is
  second_wanted (JumpIfLess p q label) r h is = numbers q r (second_none _ _ h) is
  second_wanted _ r h is = cc

  pub number_wanted : (i : Instr) (r : ℕ) → Obeys i → (number_operand i ≡ Some r)
      ⊎ (second_operand i ≡ Some r)
      → kind_of s r ≡ NumKind
  number_wanted i r h (inl is) = first_wanted i r h is
  number_wanted i r h (inr is) = second_wanted i r h is

  -- the kinds after an instruction that makes a register a number
  becomes_number : (q r : ℕ) → Some q ≡ Some r → slice_set s.kinds q NumKind
      ≡ slice_set s.kinds r NumKind
  becomes_number q r same = let one : q ≡ r = cc in rw one refl

  stays_number : (q r : ℕ) → number_kind (kind_of s q) ≡ None → Some q ≡ Some r
      → s.kinds ≡ slice_set s.kinds r NumKind
  stays_number q r h same =
      sym (ap (λ (k : Kind). slice_set s.kinds r k) (sym (numbers q r h same))
      ∙ set-get_or s.kinds r BlankKind)

  pub number_kinds : (i : Instr) (r : ℕ) → Obeys i → numbered_by i ≡ Some r
      → (handed set driver s i).kinds ≡ slice_set s.kinds r NumKind
  number_kinds (Const q n) r h is = becomes_number q r is
  number_kinds (Load q c) r h is = becomes_number q r is
  number_kinds (LoadPaged q c) r h is = becomes_number q r is
  number_kinds (Get q p field) r h is = becomes_number q r is
  number_kinds (Add q p) r h is = stays_number q r (first_none _ _ h) is
  number_kinds (Subtract q p) r h is = stays_number q r (first_none _ _ h) is
  number_kinds _ r h is = cc

  -- the kinds after one that leaves the registers alone and sends no packet down
  mark_kinds : (issued : ℕ) (values : List Value) (r : ℕ) (k : Kind) → mark_fault s.settled k ≡ None
      → Suits issued k (slice_index_or values r Blank) → HasKinds issued s.kinds values
      → HasKinds issued (marked s r k).kinds values
  mark_kinds issued values r New keeps suits h = kinds_turn issued s.kinds values r Own h suits
  mark_kinds issued values r _ keeps suits h = h

  packet_there : (issued : ℕ) (values : List Value) (i : Instr) (r : ℕ) → Obeys i
      → packet_operand i ≡ Some r → HasKinds issued s.kinds values
      → IsPacket issued (slice_index_or values r Blank)
  packet_there issued values i r keeps is h =
      packet_suits issued (kind_of s r) (slice_index_or values r Blank) (packet_wanted i r keeps is)
      (kinds_get issued s.kinds values r h)

  same_kinds : (issued : ℕ) (values : List Value) (i : Instr) → Obeys i → keeps_registers i ≡ true
      → goes_next i ≡ true → is_forwarding (work_of i) ≡ false → HasKinds issued s.kinds values
      → HasKinds issued (handed set driver s i).kinds values
  same_kinds issued values (Const r n) keeps same on stays h = cc
  same_kinds issued values (Move r q) keeps same on stays h = cc
  same_kinds issued values (Clear r) keeps same on stays h = cc
  same_kinds issued values (Load r c) keeps same on stays h = cc
  same_kinds issued values (LoadPaged r c) keeps same on stays h = cc
  same_kinds issued values (Get r q field) keeps same on stays h = cc
  same_kinds issued values (Remove r q label) keeps same on stays h = cc
  same_kinds issued values (Take r label) keeps same on stays h = cc
  same_kinds issued values (Pass r) keeps same on stays h = cc
  same_kinds issued values (Call r f) keeps same on stays h = cc
  same_kinds issued values (Mark r) keeps same on stays h =
      mark_kinds issued values r (kind_of s r) keeps (kinds_get issued s.kinds values r h) h
  same_kinds issued values (Insert r q) keeps same on stays h =
      kinds_turn issued s.kinds values r
      (kind_inserted (cancel_routine_of set driver q) (Declared q)) h
      (inserted_suits issued (cancel_routine_of set driver q) (Declared q)
      (slice_index_or values r Blank)
      (packet_there issued values (Insert r q) r keeps refl h))
  same_kinds issued values (Unlink r q) keeps same on stays h =
      kinds_turn issued s.kinds values r Own h
      (packet_there issued values (Unlink r q) r keeps refl h)
  same_kinds issued values (Dequeue r) keeps same on stays h =
      kinds_turn issued s.kinds values r Own h
      (packet_there issued values (Dequeue r) r keeps refl h)
  same_kinds issued values (Arm r q) keeps same on stays h =
      kinds_turn issued s.kinds values r (Queued (Declared q) Armed) h
      (packet_there issued values (Arm r q) r keeps refl h)
  same_kinds issued values (Disarm r label) keeps same on stays h =
      kinds_turn issued s.kinds values r (kind_disarmed (kind_of s r)) h
      (disarmed_suits issued (kind_of s r) (slice_index_or values r Blank)
      (kinds_get issued s.kinds values r h))
  same_kinds issued values (Release lock) keeps same on stays h =
      go_kinds set driver (DeviceLock lock) issued s.kinds values h
  same_kinds issued values ReleaseCancel keeps same on stays h =
      go_kinds set driver CancelLock issued s.kinds values h
  same_kinds issued values (Start r) keeps same on stays h =
      kinds_turn issued s.kinds values r BlankKind h tt
  same_kinds issued values (Begin r) keeps same on stays h =
      kinds_turn issued s.kinds values r BlankKind h tt
  same_kinds issued values (Complete r status) keeps same on stays h =
      kinds_turn issued s.kinds values r BlankKind h tt
  same_kinds issued values _ keeps same on stays h = h

  pub written_kinds : (issued : ℕ) (a : Activation) (i : Instr) (registers : List Value) → Obeys i
      → goes_next i ≡ true
      → is_forwarding (work_of i) ≡ false → Written a i registers
      → HasKinds issued s.kinds a.registers
      → HasKinds issued (handed set driver s i).kinds registers
  written_kinds issued a i registers keeps on stays (keeps_all _ same) h =
      same_kinds issued a.registers i keeps same on stays h
  written_kinds issued a i registers keeps on stays (makes_number _ r n is) h =
      rw (number_kinds i r keeps is) (kinds_set issued s.kinds a.registers r NumKind (Num n) h
      (n, refl))
  written_kinds issued a i registers keeps on stays (moves_over r q) h =
      kinds_move issued s.kinds a.registers r q h
  written_kinds issued a i registers keeps on stays (makes_blank r) h =
      kinds_set issued s.kinds a.registers r BlankKind Blank h tt

  -- a status in the register of a packet that was sent down
  pub given_kinds : (issued : ℕ) (values : List Value) (r : ℕ) (k : Kind) (status : Status)
      → is_right k ≡ true → is_queued k ≡ false
      → HasKinds issued s.kinds values
      → HasKinds issued (given_down s r k).kinds (slice_set values r (StatusValue status))
  given_kinds issued values r New status is plain h =
      kinds_set issued s.kinds values r Lower (StatusValue status) h (status, refl)
  given_kinds issued values r Own status is plain h =
      kinds_set issued s.kinds values r BlankKind (StatusValue status) h tt
  given_kinds issued values r _ status is plain h = cc

-- no step changes how many kinds and spin locks there are
marked_long : (s : Abs) (r : ℕ) (k : Kind) → length (marked s r k).kinds ≡ length s.kinds
marked_long s r New = length-set s.kinds r Own
marked_long s r _ = refl

given_long : (s : Abs) (r : ℕ) (k : Kind) → length (given_down s r k).kinds ≡ length s.kinds
given_long s r New = length-set s.kinds r Lower
given_long s r Own = length-set s.kinds r BlankKind
given_long s r _ = refl

pub handed_long : (set : Set) (driver : ℕ) (s : Abs) (i : Instr)
    → length (handed set driver s i).kinds ≡ length s.kinds
handed_long set driver s (Const r n) = length-set s.kinds r NumKind
handed_long set driver s (Move r q) =
    length-set (slice_set s.kinds r (kind_of s q)) q (left_behind (kind_of s q))
    ∙ length-set s.kinds r (kind_of s q)
handed_long set driver s (Clear r) = length-set s.kinds r BlankKind
handed_long set driver s (Load r c) = length-set s.kinds r NumKind
handed_long set driver s (LoadPaged r c) = length-set s.kinds r NumKind
handed_long set driver s (Get r q field) = length-set s.kinds r NumKind
handed_long set driver s (Mark r) = marked_long s r (kind_of s r)
handed_long set driver s (Insert r q) =
    length-set s.kinds r (kind_inserted (cancel_routine_of set driver q) (Declared q))
handed_long set driver s (Remove r q label) =
    length-set s.kinds r (kind_removed (cancel_routine_of set driver q) (Declared q))
handed_long set driver s (Unlink r q) = length-set s.kinds r Own
handed_long set driver s (Dequeue r) = length-set s.kinds r Own
handed_long set driver s (Arm r q) = length-set s.kinds r (Queued (Declared q) Armed)
handed_long set driver s (Disarm r label) = length-set s.kinds r (kind_disarmed (kind_of s r))
handed_long set driver s (Release lock) = go_long set driver (DeviceLock lock) s.kinds
handed_long set driver s ReleaseCancel = go_long set driver CancelLock s.kinds
handed_long set driver s (Start r) = length-set s.kinds r BlankKind
handed_long set driver s (Take r label) = length-set s.kinds r Own
handed_long set driver s (Begin r) = length-set s.kinds r BlankKind
handed_long set driver s (Pass r) = given_long s r (kind_of s r)
handed_long set driver s (Call r f) = given_long s r (kind_of s r)
handed_long set driver s (Complete r status) = length-set s.kinds r BlankKind
handed_long set driver s _ = refl

pub marked_locks : (s : Abs) (r : ℕ) (k : Kind) → (marked s r k).locks ≡ s.locks
marked_locks s r View = refl
marked_locks s r _ = refl

pub given_locks : (s : Abs) (r : ℕ) (k : Kind) → (given_down s r k).locks ≡ s.locks
given_locks s r New = refl
given_locks s r _ = refl

pub handed_locks : (set : Set) (driver : ℕ) (s : Abs) (i : Instr)
    → length (handed set driver s i).locks ≡ length s.locks
handed_locks set driver s (Mark r) = ap length (marked_locks s r (kind_of s r))
handed_locks set driver s (Pass r) = ap length (given_locks s r (kind_of s r))
handed_locks set driver s (Call r f) = ap length (given_locks s r (kind_of s r))
handed_locks set driver s (Acquire lock) = length-set s.locks lock true
handed_locks set driver s (Release lock) = length-set s.locks lock false
handed_locks set driver s _ = refl

-- nor does a jump: it changes the kinds where there was no packet to take alone, and no locks
pub label_long : (s : Abs) (i : Instr) → length (handed_at_label s i).kinds ≡ length s.kinds
label_long s (Remove r q label) = length-set s.kinds r BlankKind
label_long s (Disarm r label) = length-set s.kinds r BlankKind
label_long s (Take r label) = length-set s.kinds r BlankKind
label_long s _ = refl

pub label_kinds : (s : Abs) (i : Instr) → is_giving (work_of i) ≡ false
    → (handed_at_label s i).kinds ≡ s.kinds
label_kinds s (Remove r q label) quiet = cc
label_kinds s (Disarm r label) quiet = cc
label_kinds s (Take r label) quiet = cc
label_kinds s _ quiet = refl

pub label_suits : (issued : ℕ) (s : Abs) (i : Instr) (values : List Value)
    → HasKinds issued s.kinds values
    → HasKinds issued (handed_at_label s i).kinds values
label_suits issued s (Remove r q label) values h = kinds_turn issued s.kinds values r BlankKind h tt
label_suits issued s (Disarm r label) values h = kinds_turn issued s.kinds values r BlankKind h tt
label_suits issued s (Take r label) values h = kinds_turn issued s.kinds values r BlankKind h tt
label_suits issued s _ values h = h

pub label_locks : (s : Abs) (i : Instr) → (handed_at_label s i).locks ≡ s.locks
label_locks s (IfPending r label) = refl
label_locks s _ = refl
