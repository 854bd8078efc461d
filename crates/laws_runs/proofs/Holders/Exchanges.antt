-- What exchanges of a packet's cancel word do to its rights: a routine that sets a cancel routine
-- gives its right to the word, and one that empties the word gets it. The release of a lock leaves
-- all rights as they are.
use Rattle.laws_runs.proofs.Common.{ap, arith, refl, subst, sym, cond_both, Bool, List, None, Option, Some, [], false, if◌then◌else◌, is_none, is_some, nat_eq, true, ℕ, ◌+◌, ◌∷◌, ◌≡◌, all_let_go, is_at, is_claim, is_exchanged, is_guard, is_right, kind_disarmed, let_go, handed, kind_of, queued_kind, Set, guard_named, Entry, Shared, packet_of, with_armer, with_packet, Abs, Kind, BlankKind, Queued, CancelState, Armed, Listed, Taken, Instr, Arm, Begin, Call, Clear, Complete, Const, Dequeue, Disarm, Get, Insert, Load, LoadPaged, Mark, Move, Pass, Release, ReleaseCancel, Remove, Start, Take, Unlink, Guard, CancelLock, DeviceLock, Declared, Activation, Armer, Routine, Packet, Value, States, frame_rights, names, right, rights, times_waiting, Runs, state_of, first_none, granted, Exchanged, GoesTo, arms_for, disarms, jumping, keeps_all, makes_number, onward, is_giving, keeps_registers, packet_operand, work_of}
use Rattle.laws_runs.proofs.Holders.Counts.{Holding, right_unarmed, waits_lost, waits_set, waits_won}
use Rattle.laws_runs.proofs.Holders.Waits.{rights_lost, rights_missed, rights_won}
use Rattle.laws_runs.proofs.Past.LivePackets.{find}
use Rattle.laws_runs.proofs.Past.Packets.{found, numbered}
use Rattle.laws_runs.proofs.Steps.Comes.{Reads}

-- the kinds before and after
armed_before : (q : ℕ) (k : Kind) → queued_kind (is_at Listed (Declared q) k) k ≡ None
    → is_right k ≡ true
armed_before q (Queued name Listed) h = refl
armed_before q _ h = cc

disarmed_before : (k : Kind) → queued_kind (is_exchanged k) k ≡ None → is_right k ≡ false
disarmed_before (Queued name stage) h = rw (granted (is_claim stage) CancelState h) refl
disarmed_before _ h = cc

disarmed_after : (k : Kind) → queued_kind (is_exchanged k) k ≡ None
    → is_right (kind_disarmed k) ≡ true
disarmed_after (Queued name Armed) h = refl
disarmed_after (Queued name Taken) h = refl
disarmed_after _ h = cc

-- the release of a lock
let_go_right : (set : Set) (driver : ℕ) (lock : Guard) (k : Kind)
    → is_right (let_go set driver lock k) ≡ is_right k
let_go_right set driver lock (Queued name Armed) =
    cond_both (is_guard (guard_named set driver name) lock) BlankKind (Queued name Armed)
    (λ (k : Kind). is_right k ≡ false) (λ guards. refl) (λ other. refl)
let_go_right set driver lock _ = refl

all_go_rights : (set : Set) (driver : ℕ) (lock : Guard) (kinds : List Kind) (values : List Value)
    (n : ℕ)
    → rights (all_let_go set driver lock kinds) values n ≡ rights kinds values n
all_go_rights set driver lock [] values n = refl
all_go_rights set driver lock (k ∷ kinds) [] n = refl
all_go_rights set driver lock (k ∷ kinds) (v ∷ values) n =
    let first : right (let_go set driver lock k) v n ≡ right k v n =
    ap (λ (b : Bool). if b then names v n else 0) (let_go_right set driver lock k) in
    omega (arith, all_go_rights set driver lock kinds values n)

-- so what leaves the registers alone, and the packets with who has them, leaves the rights as they
-- are
pub rights_still : (set : Set) (driver : ℕ) (s : Abs) (i : Instr) (values : List Value) (n : ℕ)
    → keeps_registers i ≡ true → is_giving (work_of i) ≡ false
    → rights (handed set driver s i).kinds values n ≡ rights s.kinds values n
rights_still set driver s (Const r c) values n same quiet = cc
rights_still set driver s (Move r q) values n same quiet = cc
rights_still set driver s (Clear r) values n same quiet = cc
rights_still set driver s (Load r c) values n same quiet = cc
rights_still set driver s (LoadPaged r c) values n same quiet = cc
rights_still set driver s (Get r q field) values n same quiet = cc
rights_still set driver s (Mark r) values n same quiet = cc
rights_still set driver s (Insert r q) values n same quiet = cc
rights_still set driver s (Remove r q label) values n same quiet = cc
rights_still set driver s (Unlink r q) values n same quiet = cc
rights_still set driver s (Dequeue r) values n same quiet = cc
rights_still set driver s (Arm r q) values n same quiet = cc
rights_still set driver s (Disarm r label) values n same quiet = cc
rights_still set driver s (Release lock) values n same quiet =
    all_go_rights set driver (DeviceLock lock) s.kinds values n
rights_still set driver s ReleaseCancel values n same quiet =
    all_go_rights set driver CancelLock s.kinds values n
rights_still set driver s (Start r) values n same quiet = cc
rights_still set driver s (Take r label) values n same quiet = cc
rights_still set driver s (Begin r) values n same quiet = cc
rights_still set driver s (Pass r) values n same quiet = cc
rights_still set driver s (Call r f) values n same quiet = cc
rights_still set driver s (Complete r status) values n same quiet = cc
rights_still set driver s _ values n same quiet = refl

-- a routine's frame and the word together have the packet as often as before
module _ (set : Set) (states : States) (s : Shared) (past : List Entry) (a : Activation)
    (holding : Holding set states s past (Routine a)) (n : ℕ) (p : Packet)
    (there : packet_of s n ≡ Some p) where
  abbrev EvenWord : Activation → Option Armer → Type 0
  EvenWord b armer =
      (m : ℕ)
      → frame_rights states (Routine b) m + times_waiting set (with_packet s n (with_armer p armer))
      m
      ≡ frame_rights states (Routine a) m + times_waiting set s m

  at_place : find s.packets n ≡ Some p
  at_place = found s n (Some p) there

  its_number : p.number ≡ n
  its_number = numbered s n p there

  arms_rights : (r q : ℕ) (armer : Armer) (b : Activation) → Runs set states s a (Arm r q)
      → GoesTo a (Arm r q) b false → Reads s a r n → EvenWord b (Some armer)
  arms_rights r q armer b h (onward registers on (keeps_all _ same)) reads m =
      let own : is_right (kind_of (state_of states a) r) ≡ true =
      armed_before q (kind_of (state_of states a) r) (first_none _ _ h.obeys) in
      let gone : frame_rights states (Routine b) m + (if nat_eq n m then 1 else 0)
      ≡ frame_rights states (Routine a) m =
      rights_lost set states s a (Arm r q) h r (Queued (Declared q) Armed) n refl refl refl own
      reads m in
      let free : is_some p.armer ≡ false =
      right_unarmed set states s past a holding h.stays.kinds r n own reads p there in
      let word : times_waiting set (with_packet s n (with_armer p (Some armer))) m
      ≡ times_waiting set s m + (if nat_eq n m then 1 else 0) =
      waits_won s n p at_place (with_armer p (Some armer)) its_number set free refl m in
      omega arith
  arms_rights r q armer b h (onward registers on (makes_number _ t k is)) reads m = cc

  disarms_rights : (r label : ℕ) (b : Activation) (jumped : Bool)
      → Runs set states s a (Disarm r label) → jumped ≡ is_none p.armer
      → GoesTo a (Disarm r label) b jumped → Reads s a r n → EvenWord b None
  disarms_rights r label b jumped h is (onward registers on (keeps_all _ same)) reads m =
      let before : is_right (kind_of (state_of states a) r) ≡ false =
      disarmed_before (kind_of (state_of states a) r) h.obeys in
      let won : frame_rights states (Routine b) m
      ≡ frame_rights states (Routine a) m + (if nat_eq n m then 1 else 0) =
      rights_won set states s a (Disarm r label) h r (kind_disarmed (kind_of (state_of states a) r))
      n
      refl refl (disarmed_after (kind_of (state_of states a) r) h.obeys) before reads m in
      let word : times_waiting set (with_packet s n (with_armer p None)) m
      + (if nat_eq n m then 1 else 0) ≡ times_waiting set s m =
      waits_lost s n p at_place (with_armer p None) its_number set (there_word p.armer (sym is))
      refl
      m in
      omega arith
    where
      there_word : (o : Option Armer) → is_none o ≡ false → is_some o ≡ true
      there_word None none = cc
      there_word (Some armer) none = refl
  disarms_rights r label b jumped h is (onward registers on (makes_number _ t k its)) reads m = cc
  disarms_rights r label b jumped h is (jumping l labelled) reads m =
      let same : frame_rights states (Routine b) m ≡ frame_rights states (Routine a) m =
      rights_missed set states s a (Disarm r label) h r l labelled refl
      (disarmed_before (kind_of (state_of states a) r) h.obeys) m in
      omega (
        arith,
        waits_set s n p at_place (with_armer p None) its_number set (sym (no_word p.armer (sym is))) m,
      )
    where
      no_word : (o : Option Armer) → is_none o ≡ true → is_some o ≡ false
      no_word None none = refl
      no_word (Some armer) none = cc

  pub exchange_rights : (i : Instr) (r : ℕ) (b : Activation) (jumped : Bool) (armer : Option Armer)
      → Runs set states s a i → GoesTo a i b jumped → packet_operand i ≡ Some r → Reads s a r n
      → Exchanged set a p i jumped armer → EvenWord b armer
  exchange_rights i r b jumped armer h goes operand reads (arms_for t q routine is) =
      let same : t ≡ r = cc in
      arms_rights t q _ b h goes (subst (λ (x : ℕ). Reads s a x n) (sym same) reads)
  exchange_rights i r b jumped armer h goes operand reads (disarms t label) =
      let same : t ≡ r = cc in
      disarms_rights t label b jumped h refl goes
      (subst (λ (x : ℕ). Reads s a x n) (sym same) reads)
