-- A step does the same to routines that a machine may not tell apart, over frames below that it may
-- not tell apart either.
use Rattle.laws_runs.proofs.Common.{ap, inl, inr, refl, subst, sym, ◌∙◌, length-set, List, None, Option, Some, [], false, is_some, length, nat_lt, not, slice_get, slice_set, true, ℕ, ⊤, ◌++◌, ◌+◌, ◌<◌, ◌∷◌, ◌≡◌, ◌⊎◌, Action, Execute, OfRoutine, OnPacket, Touch, Outcome, arm_effect, ask_effect, begin_effect, call_effect, complete_effect, dequeue_effect, difference_of, disarm_effect, frame_effect, get_effect, insert_effect, instruction_effect, is_less_at, is_walk, is_zero_at, jump_effect, let_on, look_effect, mark_effect, number_effect, pass_effect, put_effect, return_effect, return_lower, routine_effect, spin_lock, start_effect, store_effect, store_paged_effect, sum_of, unlink_effect, is_blank, is_lower, broken_if, duty_fault, kind_of, Set, cancel_routine_of, instruction_at, lower_of, sort_of, Shared, innermost, number_in, owner_of, packet_in, packet_of, queue_of, register, start_of, status_in, Kind, BlankKind, LowerKind, Rule, SystemCancel, Instr, Acquire, AcquireCancel, Add, Arm, Begin, Call, Clear, Complete, Const, Dequeue, Disarm, End, Get, IfCancel, IfPending, Insert, Jump, JumpIfLess, JumpIfZero, Load, LoadPaged, Loop, Mark, Move, Next, Pass, Put, Release, ReleaseCancel, Remove, Ret, Start, Store, StorePaged, Subtract, Take, Unlink, Return, Continue, Stop, Void, WithStatus, MAX_LOOPS, Sort, Cancel, Dispatch, Dpc, Hold, Propagate, StartIo, Status, Activation, Frame, CancelFrame, Routine, Walk, Packet, Value, Blank, States, Runs, state_of, returns_by, OnTop, runs, first_none, Comes, Executing, resumes_gone, touches_gone, number_operand, packet_operand, second_operand}
use Rattle.model.specs.declared.instr.Return.TheVariants.{Lower}
use Rattle.laws_runs.proofs.Alike.Frames.{AlikeActivation, AlikeFrame, IsLive}
use Rattle.laws_runs.proofs.Alike.Outcomes.{AlikeOutcome, by_same, by_one, wrong, packet_same, number_same, on_next, on_number, on_set, on_label}
use Rattle.laws_runs.proofs.Alike.Registers.{SameRegisters, same_get, same_move}
use Rattle.laws_runs.proofs.Alike.Words.{numbers, jumps, opens, closes, loads, loads_paged, stores, stores_paged, puts, marks, arms, takes, frees, inserts_one, unlinks_one, starts_one, begins_one, starts_next_one, completes, passes, calls, disarms, asks_for, looks, gets, removes, takes_out, dequeues_one}
use Rattle.laws_runs.proofs.Past.Packets.{named}
use Rattle.laws_runs.proofs.Past.Walks.{UnderIssued}

lower_some : (k : Kind) (rule : Rule) → broken_if (not (is_lower k)) rule ≡ None
    → is_blank k ≡ false
lower_some LowerKind rule h = refl
lower_some _ rule h = cc

pub live_of : (o : Option Packet) → (o ≡ None → ⊥) → is_some o ≡ true
live_of None h = absurd (h refl)
live_of (Some p) h = refl

-- the packet that a step touches first
abbrev pub first_touch : List Action → Option ℕ
first_touch (OnPacket n Touch ∷ actions) = Some n
first_touch (OfRoutine Execute ∷ OnPacket n Touch ∷ actions) = Some n
first_touch _ = None

-- what is touched is live
abbrev pub TouchesLive : Set → Shared → ℕ → Option Frame → Frame → Type 0
TouchesLive set s t under f =
    (n : ℕ) (o : Outcome) → Comes set s t under f o → first_touch o.actions ≡ Some n
    → n < s.issued → packet_of s n ≡ None → ⊥

module _ (set : Set) (states : States) (s : Shared) where
  -- what stands below a frame
  abbrev pub AlikeUnder : Frame → Option Frame → Option Frame → Type 0
  AlikeUnder top None None = ⊤
  AlikeUnder top (Some g) (Some f) = AlikeFrame set states s (Some top) g f
  AlikeUnder top _ _ = ⊥

module _ (set : Set) (states : States) (s : Shared) (t : ℕ) (a : Activation) where
  abbrev Under : Option Frame → Option Frame → Type 0
  Under = AlikeUnder set states s (Routine a)

  under_walk : (g f : Option Frame) → Under g f → is_walk g ≡ is_walk f
  under_walk None None h = refl
  under_walk (Some (Routine b)) (Some (Routine c)) h = refl
  under_walk (Some (Walk m)) (Some (Walk n)) h = refl
  under_walk (Some (CancelFrame b)) (Some (CancelFrame c)) h = refl
  under_walk _ _ h = absurd h

  module _ (us : List Value) (long : length us ≡ length a.registers)
      (h : SameRegisters (state_of states a).kinds us a.registers) where
    abbrev b : Activation
    b = record a { registers = us }

    -- returns
    lowers : (o : Option Status)
        → AlikeOutcome set states (return_lower s b o) (return_lower s a o)
    lowers None = wrong set states s a us long h
    lowers (Some status) = record { others = refl; frames = tt }

    lower_same : (r : ℕ) → Runs set states s a (Ret (Lower r)) → register b r ≡ register a r
    lower_same r run =
        let rule : duty_fault (state_of states a) (Lower r) ≡ None =
        (returns_by (state_of states a) (sort_of set a.driver a.routine) set a.driver (Lower r)
        run.obeys).duty in
        same_get (state_of states a).kinds us a.registers r h
        (lower_some (kind_of (state_of states a) r) _ (first_none _ _ rule))

    lets : (g f : Option Frame) → Under g f → UnderIssued s.issued f
        → Executing set a (Ret Continue) → sort_of set a.driver a.routine ≡ Hold
        → TouchesLive set s t f (Routine a) → AlikeOutcome set states (let_on s g) (let_on s f)
    lets None None h low at sort lives = record { others = refl; frames = tt }
    lets (Some (Routine c)) (Some (Routine d)) h low at sort lives =
        record { others = refl; frames = tt }
    lets (Some (Walk m)) (Some (Walk n)) h low at sort lives =
        let live : IsLive s n =
        live_of (packet_of s n) (λ gone. lives n _ (resumes_gone a n at sort gone) refl low gone)
        in
        let same : m ≡ n = h live in
        rw same (record { others = refl; frames = tt })
    lets (Some (CancelFrame c)) (Some (CancelFrame d)) h low at sort lives =
        record { others = refl; frames = tt }
    lets _ _ h low at sort lives = absurd h

    returns : (g f : Option Frame) (sort : Sort) (form : Return) → Under g f
        → UnderIssued s.issued f → TouchesLive set s t f (Routine a) → Executing set a (Ret form)
        → sort_of set a.driver a.routine ≡ sort → Runs set states s a (Ret form)
        → AlikeOutcome set states (return_effect s b g sort form) (return_effect s a f sort form)
    returns g f Dispatch (WithStatus status) under low lives at sort run =
        record { others = refl; frames = tt }
    returns g f Dispatch (Lower r) under low lives at sort run =
        by_same set states (return_lower s b) (return_lower s a) (status_in (register b r))
        (status_in (register a r)) (ap status_in (lower_same r run)) lowers
    returns g f StartIo Void under low lives at sort run = record { others = refl; frames = tt }
    returns g f Dpc Void under low lives at sort run = record { others = refl; frames = tt }
    returns g f Cancel Void under low lives at sort run = record { others = refl; frames = tt }
    returns g f Propagate Continue under low lives at sort run =
        record { others = refl; frames = tt }
    returns g f Propagate Stop under low lives at sort run =
        record { others = rw (under_walk g f under) refl; frames = tt }
    returns g f Hold Continue under low lives at sort run = lets g f under low at sort lives
    returns g f Hold Stop under low lives at sort run =
        record { others = rw (under_walk g f under) refl; frames = tt }
    returns g f _ _ under low lives at sort run = wrong set states s a us long h

    -- each instruction
    module _ (g f : Option Frame) (under : Under g f) (low : UnderIssued s.issued f)
        (lives : TouchesLive set s t f (Routine a)) where
      packets : (i : Instr) (run : Runs set states s a i) (r : ℕ) → packet_operand i ≡ Some r
          → packet_in s (register b r) ≡ packet_in s (register a r)
      packets i run r is = ap (packet_in s) (packet_same set states s a us long h i run r is)

      numbers_in : (i : Instr) (run : Runs set states s a i) (r : ℕ)
          → (number_operand i ≡ Some r) ⊎ (second_operand i ≡ Some r)
          → number_in (register b r) ≡ number_in (register a r)
      numbers_in i run r is = ap number_in (number_same set states s a us long h i run r is)

      -- what looks at the packet or the number in an operand alone
      by_packet : (i : Instr) → Runs set states s a i → (r : ℕ) → packet_operand i ≡ Some r
          → (effect : Activation → Option ℕ → Outcome)
          → ((o : Option ℕ) → AlikeOutcome set states (effect b o) (effect a o))
          → AlikeOutcome set states (effect b (packet_in s (register b r)))
          (effect a (packet_in s (register a r)))
      by_packet i run r is effect =
          by_same set states (effect b) (effect a) (packet_in s (register b r))
          (packet_in s (register a r)) (packets i run r is)

      by_number : (i : Instr) → Runs set states s a i → (r : ℕ) → number_operand i ≡ Some r
          → (effect : Activation → Option ℕ → Outcome)
          → ((o : Option ℕ) → AlikeOutcome set states (effect b o) (effect a o))
          → AlikeOutcome set states (effect b (number_in (register b r)))
          (effect a (number_in (register a r)))
      by_number i run r is effect =
          by_same set states (effect b) (effect a) (number_in (register b r))
          (number_in (register a r)) (numbers_in i run r (inl is))

      executes : (i : Instr) → Runs set states s a i → Executing set a i
          → AlikeOutcome set states (instruction_effect set s t g b i)
          (instruction_effect set s t f a i)
      executes (Const r n) run at =
          record {
            others = refl;
            frames = (on_number set states s a us long h (Const r n) run refl r n refl, tt);
          }
      executes (Move r q) run at =
          record {
            others = refl;
            frames = (
              on_next set states s a us long h (Move r q) run refl a.loops.items
                  (slice_set us r (register b q)) (slice_set a.registers r (register a q))
                  (length-set us r (register b q) ∙ long
                  ∙ sym (length-set a.registers r (register a q)))
                  (same_move (state_of states a).kinds us a.registers r q h),
              tt,
            );
          }
      executes (Clear r) run at =
          record {
            others = refl;
            frames = (
              on_set set states s a us long h (Clear r) run refl r BlankKind Blank Blank
                  refl (λ some. refl),
              tt,
            );
          }
      executes (Add r q) run at =
          by_same set states (number_effect s b r) (number_effect s a r) (sum_of b r q)
          (sum_of a r q)
          (rw (numbers_in (Add r q) run r (inl refl), numbers_in (Add r q) run q (inr refl)) refl)
          (numbers set states s t a us long h (Add r q) run r refl refl)
      executes (Subtract r q) run at =
          by_same set states (number_effect s b r) (number_effect s a r) (difference_of b r q)
          (difference_of a r q)
          (rw (
            numbers_in (Subtract r q) run r (inl refl),
            numbers_in (Subtract r q) run q (inr refl),
          ) refl)
          (numbers set states s t a us long h (Subtract r q) run r refl refl)
      executes (JumpIfZero r label) run at =
          by_same set states (jump_effect s b label) (jump_effect s a label) (is_zero_at b r)
          (is_zero_at a r) (rw (numbers_in (JumpIfZero r label) run r (inl refl)) refl)
          (jumps set states s t a us long h (JumpIfZero r label) run label refl refl refl)
      executes (JumpIfLess r q label) run at =
          by_same set states (jump_effect s b label) (jump_effect s a label) (is_less_at b r q)
          (is_less_at a r q)
          (rw (
            numbers_in (JumpIfLess r q label) run r (inl refl),
            numbers_in (JumpIfLess r q label) run q (inr refl),
          ) refl)
          (jumps set states s t a us long h (JumpIfLess r q label) run label refl refl refl)
      executes (Jump label) run at =
          record {
            others = refl;
            frames = (on_label set states s a us long h (Jump label) run label refl, tt);
          }
      executes (Loop turns) run at =
          opens set states s t a us long h turns run (nat_lt (length a.loops.items) MAX_LOOPS)
          (a.loops.items ++ record { start = a.position + 1; turns = turns } ∷ [])
      executes End run at = closes set states s t a us long h run (innermost a) refl
      executes (Load r c) run at =
          loads set states s t a us long h r c run (slice_get s.cells a.device)
      executes (Store c r) run at =
          by_number (Store c r) run r refl
          (λ d o. store_effect s d c o (slice_get s.cells a.device))
          (λ o. stores set states s t a us long h (Store c r) run refl refl c o
          (slice_get s.cells a.device))
      executes (LoadPaged r c) run at =
          loads_paged set states s t a us long h r c run (slice_get s.cells a.device)
      executes (StorePaged c r) run at =
          by_number (StorePaged c r) run r refl
          (λ d o. store_paged_effect s d c o (slice_get s.cells a.device))
          (λ o. stores_paged set states s t a us long h (StorePaged c r) run refl refl c o
          (slice_get s.cells a.device))
      executes (Get r q field) run at =
          by_one set states (get_effect s b r field) (get_effect s a r field)
          (packet_in s (register b q)) (packet_in s (register a q))
          (packets (Get r q field) run q refl)
          (gets set states s t a us long h r q field run (packet_in s (register a q))
          (λ n reads gone. lives n _
          (touches_gone a (Get r q field) q n at refl refl refl reads gone) refl
          (named s (register a q) n reads) gone))
      executes (Put q r) run at =
          by_number (Put q r) run r refl (λ d o. put_effect s d o (packet_in s (register d q)))
          (λ o. by_packet (Put q r) run q refl (λ d. put_effect s d o)
          (puts set states s t a us long h (Put q r) run refl refl o))
      executes (Mark r) run at =
          by_packet (Mark r) run r refl (mark_effect s)
          (marks set states s t a us long h (Mark r) run refl refl)
      executes (Acquire lock) run at =
          takes set states s t a us long h (Acquire lock) run refl refl (spin_lock a lock)
          (owner_of s.locks (spin_lock a lock))
      executes (Release lock) run at =
          frees set states s t a us long h (Release lock) run refl refl (spin_lock a lock)
          (owner_of s.locks (spin_lock a lock))
      executes AcquireCancel run at =
          takes set states s t a us long h AcquireCancel run refl refl SystemCancel
          (owner_of s.locks SystemCancel)
      executes ReleaseCancel run at =
          frees set states s t a us long h ReleaseCancel run refl refl SystemCancel
          (owner_of s.locks SystemCancel)
      executes (Insert r q) run at =
          by_packet (Insert r q) run r refl (λ d o. insert_effect s d q o (queue_of s a.device q))
          (λ o. inserts_one set states s t a us long h (Insert r q) run refl refl q o
          (queue_of s a.device q))
      executes (Remove r q label) run at =
          removes set states s t a us long h r q label run (queue_of s a.device q)
      executes (Unlink r q) run at =
          by_packet (Unlink r q) run r refl (λ d o. unlink_effect s d q o (queue_of s a.device q))
          (λ o. unlinks_one set states s t a us long h (Unlink r q) run refl refl q o
          (queue_of s a.device q))
      executes (Arm r q) run at =
          by_packet (Arm r q) run r refl
          (λ d o. arm_effect s d q o (cancel_routine_of set a.driver q))
          (λ o. arms set states s t a us long h (Arm r q) run refl refl q o
          (cancel_routine_of set a.driver q))
      executes (Disarm r label) run at =
          by_packet (Disarm r label) run r refl (λ d. disarm_effect s d label)
          (disarms set states s t a us long h (Disarm r label) run refl refl label refl)
      executes (IfCancel r label) run at =
          by_packet (IfCancel r label) run r refl (λ d. ask_effect s d label)
          (asks_for set states s t a us long h (IfCancel r label) run refl refl label refl)
      executes (Start r) run at =
          by_packet (Start r) run r refl (λ d o. start_effect set s d o (start_of s a.device))
          (λ o. starts_one set states s t a us long h (Start r) run refl refl o
          (start_of s a.device))
      executes (Take r label) run at =
          takes_out set states s t a us long h r label run (start_of s a.device)
      executes (Begin r) run at =
          by_packet (Begin r) run r refl (λ d o. begin_effect s d o (start_of s a.device))
          (λ o. begins_one set states s t a us long h (Begin r) run refl refl o
          (start_of s a.device))
      executes Next run at =
          starts_next_one set states s t a us long h Next run refl refl (start_of s a.device)
      executes (Dequeue r) run at =
          by_packet (Dequeue r) run r refl (λ d o. dequeue_effect s d o (start_of s a.device))
          (λ o. dequeues_one set states s t a us long h (Dequeue r) run refl refl o
          (start_of s a.device))
      executes (Pass r) run at =
          by_packet (Pass r) run r refl (λ d o. pass_effect set s d o (lower_of set a.device))
          (λ o. passes set states s t a us long h (Pass r) run refl refl o (lower_of set a.device))
      executes (Call r c) run at =
          by_packet (Call r c) run r refl (λ d o. call_effect set s d c o (lower_of set a.device))
          (λ o. calls set states s t a us long h (Call r c) run refl refl c o
          (lower_of set a.device))
      executes (Complete r status) run at =
          by_packet (Complete r status) run r refl (λ d. complete_effect s d status)
          (completes set states s t a us long h (Complete r status) run refl refl status)
      executes (IfPending r label) run at =
          by_packet (IfPending r label) run r refl (λ d. look_effect s d label)
          (looks set states s t a us long h (IfPending r label) run refl refl label refl)
      executes (Ret form) run at =
          returns g f (sort_of set a.driver a.routine) form under low lives at refl run

  -- the routine's frame steps
  module _ (h : OnTop set states s (Routine a)) (g f : Option Frame) (under : Under g f)
      (low : UnderIssued s.issued f) (lives : TouchesLive set s t f (Routine a)) where
    at_routine : (c : Activation) (like : AlikeActivation set states None c a) (o : Option Instr)
        → instruction_at set a.driver a.routine a.position ≡ o
        → AlikeOutcome set states
        (routine_effect set s t g (record a { registers = like.registers }) o)
        (routine_effect set s t f a o)
    at_routine c like None at = wrong set states s a like.registers like.long like.same
    at_routine c like (Some i) at =
        executes like.registers like.long like.same g f under low lives i
        (runs set states s a i h at) at

    pub routine_steps : (c : Activation) → AlikeActivation set states None c a
        → AlikeOutcome set states (frame_effect set s t g (Routine c))
        (frame_effect set s t f (Routine a))
    routine_steps c like =
        subst (λ (d : Activation). AlikeOutcome set states (frame_effect set s t g (Routine d))
        (frame_effect set s t f (Routine a))) (sym like.is)
        (at_routine c like (instruction_at set a.driver a.routine a.position) refl)
