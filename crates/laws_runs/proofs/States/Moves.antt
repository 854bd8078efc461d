-- How a step moves a routine's frame: where it goes on, its registers hold what the state there
-- says, its loops are those that are open there, and it has less left to execute.
use Rattle.laws_runs.proofs.Prelude.{ap, arith, drop, refl, subst, sym, ◌∙◌, ltb-true, Bool, List, Option, Some, [], false, length, nat_lt, slice_get, suc, true, ℕ, ◌&&◌, ◌+◌, ◌<◌, ◌∷◌, ◌≡◌, ◌≤◌, handed, handed_at_label, outs_by, loops_round, open_at, open_by, goes_forward, Branches, Closes, Flow, Jumps, Leaves, Onward, Opens, Set, flow_of, label_in, label_of, OperandFits, Shared, at_label, next, Abs, Instr, Loop, REGISTERS, SPIN_LOCKS, Activation, OpenLoop, Value}
use Rattle.std.proofs.lemmas.Bool.{eqb-true}
use Rattle.model.specs.declared.set.Routine.{Routine}
use Rattle.model.specs.Paths.{are_same_positions}
use Rattle.laws_runs.proofs.Lists.{from_here, all_at}
use Rattle.laws_runs.proofs.States.Follows.{next_state, jump_state, label_at, goes_to_label}
use Rattle.laws_runs.proofs.States.Frames.{Nested, extra, due_in, due, due_is, state_of, Moved, Runs}
use Rattle.laws_runs.proofs.States.Kinds.{HasKinds, written_kinds, handed_long, handed_locks, label_suits, label_long, label_locks}
use Rattle.laws_runs.proofs.States.Known.{RoutineOperandsFit}
use Rattle.laws_runs.proofs.States.Remaining.{rest, rest_by, IsFormed, HasTurns, round_open, summed, summed_same, forward_le}
use Rattle.laws_runs.specs.ArrivingStates.{States}
use Rattle.laws_runs.proofs.Steps.Comes.{GoesTo, keeps_all, onward, jumping}
use Rattle.laws_runs.proofs.Steps.Words.{work_of, is_forwarding, falls_through, goes_next, keeps_registers}
use Rattle.laws_runs.proofs.Tests.{and_left, and_right}

-- the state that an instruction which breaks no rule leads to, at the next position or at its label
abbrev pub onto : Set → ℕ → Abs → Instr → Bool → Abs
onto set driver s i false = handed set driver s i
onto set driver s i true = handed_at_label s i

-- what leads to the next position, and what opens and closes no loop
abbrev pub has_next : Flow → Bool
has_next Onward = true
has_next (Branches label) = true
has_next (Jumps label) = false
has_next (Opens turns) = true
has_next Closes = true
has_next Leaves = false

abbrev pub is_plain : Flow → Bool
is_plain Onward = true
is_plain (Branches label) = true
is_plain (Jumps label) = true
is_plain (Opens turns) = false
is_plain Closes = false
is_plain Leaves = true

pub falls_next : (f : Flow) → falls_through f ≡ true → has_next f ≡ true
falls_next Onward h = refl
falls_next (Branches label) h = refl
falls_next _ h = cc

pub falls_plain : (f : Flow) → falls_through f ≡ true → is_plain f ≡ true
falls_plain Onward h = refl
falls_plain (Branches label) h = refl
falls_plain _ h = cc

label_plain : (f : Flow) (label : ℕ) → label_in f ≡ Some label → is_plain f ≡ true
label_plain (Branches l) label h = refl
label_plain (Jumps l) label h = refl
label_plain _ label h = cc

next_out : (f : Flow) (next jump : Abs) → has_next f ≡ true → (outs_by f next jump).next ≡ Some next
next_out Onward next jump h = refl
next_out (Branches label) next jump h = refl
next_out (Opens turns) next jump h = refl
next_out Closes next jump h = refl
next_out _ next jump h = cc

jump_out : (f : Flow) (label : ℕ) (next jump : Abs) → label_in f ≡ Some label
    → (outs_by f next jump).jump ≡ Some jump
jump_out (Branches l) label next jump h = refl
jump_out (Jumps l) label next jump h = refl
jump_out _ label next jump h = cc

record IsPlain (f : Flow) : Type 0 where
  loops : (p : ℕ) (open_before : List ℕ) → open_by f p open_before ≡ open_before
  first : (after : ℕ → ℕ) → rest_by f after 0 ≡ 1 + after 0
  others : (after : ℕ → ℕ) (d : ℕ) → rest_by f after (suc d) ≡ after (suc d)

plain : (f : Flow) → is_plain f ≡ true → IsPlain f
plain (Opens turns) h = cc
plain Closes h = cc
plain _ h = record {
  loops = λ p open_before. refl;
  first = λ after. refl;
  others = λ after d. refl;
}

summed_plain : (loops : List ℕ) (left after : ℕ → ℕ) → left 0 ≡ 1 + after 0
    → ((d : ℕ) → left (suc d) ≡ after (suc d))
    → summed loops left ≡ 1 + summed loops after
summed_plain [] left after first others = first
summed_plain (q ∷ loops) left after first others =
    omega (arith, summed_same loops (λ d. left (suc d)) (λ d. after (suc d)) others)

-- the same positions
same_positions : (ps qs : List ℕ) → are_same_positions ps qs ≡ true → ps ≡ qs
same_positions [] [] h = refl
same_positions [] (q ∷ qs) h = cc
same_positions (p ∷ ps) [] h = cc
same_positions (p ∷ ps) (q ∷ qs) h =
    let first : p ≡ q = eqb-true p q (and_left _ _ h) in
    let others : ps ≡ qs = same_positions ps qs (and_right _ _ h) in
    rw (first, others) refl

-- what a jump forward says beside that it leads forward
abbrev is_round_both : List Instr → ℕ → ℕ → Bool
is_round_both code p label = are_same_positions (loops_round code p) (loops_round code label)

abbrev lands : List Instr → ℕ → ℕ → Bool
lands code p label = nat_lt label (length code) && is_round_both code p label

module _ (code : List Instr) (p : ℕ) where
  plus_one : p + 1 ≡ suc p
  plus_one = omega arith

  pub open_next : (i : Instr) → slice_get code p ≡ Some i
      → open_at code (p + 1) ≡ open_by (flow_of i) p (open_at code p)
  open_next i here = rw (plus_one, here) refl

  pub rest_here : (i : Instr) → slice_get code p ≡ Some i
      → rest (drop p code) ≡ rest_by (flow_of i) (rest (drop (p + 1) code))
  rest_here i here = rw plus_one (ap rest (from_here code p i here))

pub turns_of_known : (routine : Routine) → RoutineOperandsFit routine → HasTurns routine.code
turns_of_known routine fit p turns there =
    (all_at OperandFits routine.code p (Loop turns) fit there).0

module _ (set : Set) (states : States) (s : Shared) (a : Activation) (i : Instr)
    (h : Runs set states s a i) where
  -- to any position of the routine
  pub goes : (q : ℕ) (items : List OpenLoop) (values : List Value) (to : Abs)
      → states a.driver a.routine q ≡ to
      → q < length h.routine.code → Nested items (open_at h.routine.code q)
      → HasKinds s.issued to.kinds values
      → length to.locks ≡ SPIN_LOCKS → length to.kinds ≡ REGISTERS
      → 1 + (summed (open_at h.routine.code q) (rest (drop q h.routine.code)) + extra h.routine.code
      items)
      ≤ due_in h.routine.code a
      → Moved set states s.issued a
      (record a { position = q; loops = record { items = items }; registers = values }) to
  goes q items values to arrives within nested kinds eight sixteen less =
      let b : Activation =
      record a { position = q; loops = record { items = items }; registers = values } in
      let before : due set a ≡ due_in h.routine.code a = due_is set h.routine a h.stays.is_of in
      let after : due set b ≡ due_in h.routine.code b = due_is set h.routine b h.stays.is_of in
      record {
        ready = (
          h.routine,
          record {
            is_of = h.stays.is_of;
            serves = h.stays.serves;
            within = within;
            nested = nested;
            kinds = subst (λ (state : Abs). HasKinds s.issued state.kinds values) (sym arrives)
                kinds;
            eight = ap (λ (state : Abs). length state.locks) arrives ∙ eight;
            sixteen = ap (λ (state : Abs). length state.kinds) arrives ∙ sixteen;
          },
        );
        driver = refl;
        routine = refl;
        device = refl;
        arrives = arrives;
        less = omega arith;
      }

  -- the next position
  pub next_at : has_next (flow_of i) ≡ true
      → (a.position + 1 < length h.routine.code)
      × (states a.driver a.routine (a.position + 1) ≡ handed set a.driver (state_of states a) i)
  next_at leads =
      h.known.follows.next a.position (handed set a.driver (state_of states a) i) h.stays.within
      (subst (λ (x : Option Instr). next_state set a.driver (state_of states a) x
      ≡ Some (handed set a.driver (state_of states a) i)) (sym h.here)
      (next_out (flow_of i) (handed set a.driver (state_of states a) i)
      (handed_at_label (state_of states a) i) leads))

  -- and the label
  label_there : (label : ℕ) → label_of i ≡ Some label
      → label_at (slice_get h.routine.code a.position) ≡ Some label
  label_there label labelled =
      subst (λ (x : Option Instr). label_at x ≡ Some label) (sym h.here) labelled

  pub jump_at : (label : ℕ) → label_of i ≡ Some label
      → (label < length h.routine.code)
      × (states a.driver a.routine label ≡ handed_at_label (state_of states a) i)
  jump_at label labelled =
      h.known.follows.jump a.position label (handed_at_label (state_of states a) i) h.stays.within
      (label_there label labelled)
      (subst (λ (x : Option Instr). jump_state set a.driver (state_of states a) x
      ≡ Some (handed_at_label (state_of states a) i))
      (sym h.here)
      (jump_out (flow_of i) label (handed set a.driver (state_of states a) i)
      (handed_at_label (state_of states a) i) labelled))

  -- what a plain instruction leaves to execute
  pub plain_open : is_plain (flow_of i) ≡ true
      → open_at h.routine.code (a.position + 1) ≡ open_at h.routine.code a.position
  plain_open is =
      open_next h.routine.code a.position i h.here
      ∙ (plain (flow_of i) is).loops a.position (open_at h.routine.code a.position)

  pub plain_left : is_plain (flow_of i) ≡ true
      → summed (open_at h.routine.code a.position) (rest (drop a.position h.routine.code))
      ≡ 1 + summed (open_at h.routine.code a.position) (rest (drop (a.position + 1) h.routine.code))
  plain_left is =
      let known : IsPlain (flow_of i) = plain (flow_of i) is in
      let after : ℕ → ℕ = rest (drop (a.position + 1) h.routine.code) in
      ap (λ (left : ℕ → ℕ). summed (open_at h.routine.code a.position) left)
      (rest_here h.routine.code a.position i h.here)
      ∙ summed_plain (open_at h.routine.code a.position) (rest_by (flow_of i) after) after
      (known.first after)
      (known.others after)

  plain_goes : is_plain (flow_of i) ≡ true → (q : ℕ) (values : List Value) (to : Abs)
      → states a.driver a.routine q ≡ to → q < length h.routine.code
      → open_at h.routine.code q ≡ open_at h.routine.code a.position
      → summed (open_at h.routine.code a.position) (rest (drop q h.routine.code))
      ≤ summed (open_at h.routine.code a.position) (rest (drop (a.position + 1) h.routine.code))
      → HasKinds s.issued to.kinds values → length to.locks ≡ length (state_of states a).locks
      → length to.kinds ≡ length (state_of states a).kinds
      → Moved set states s.issued a (record a { position = q; registers = values }) to
  plain_goes is q values to arrives within same le kinds locks long =
      let before : summed (open_at h.routine.code a.position)
      (rest (drop a.position h.routine.code))
      ≡ 1 + summed (open_at h.routine.code a.position) (rest (drop (a.position + 1) h.routine.code))
      = plain_left is in
      let after : summed (open_at h.routine.code q) (rest (drop q h.routine.code))
      ≡ summed (open_at h.routine.code a.position) (rest (drop q h.routine.code)) =
      ap (λ (loops : List ℕ). summed loops (rest (drop q h.routine.code))) same in
      goes q a.loops.items values to arrives within
      (subst (λ (loops : List ℕ). Nested a.loops.items loops) (sym same) h.stays.nested) kinds
      (locks ∙ h.stays.eight)
      (long ∙ h.stays.sixteen) (omega arith)

  -- on to the next position
  pub moved_next : goes_next i ≡ true → (values : List Value)
      → HasKinds s.issued (handed set a.driver (state_of states a) i).kinds values
      → Moved set states s.issued a (record a { position = a.position + 1; registers = values })
      (handed set a.driver (state_of states a) i)
  moved_next on values kinds =
      let there : (a.position + 1 < length h.routine.code)
      × (states a.driver a.routine (a.position + 1) ≡ handed set a.driver (state_of states a) i) =
      next_at (falls_next (flow_of i) on) in
      let is : is_plain (flow_of i) ≡ true = falls_plain (flow_of i) on in
      plain_goes is (a.position + 1) values (handed set a.driver (state_of states a) i) there.1
      there.0
      (plain_open is) (omega arith) kinds (handed_locks set a.driver (state_of states a) i)
      (handed_long set a.driver (state_of states a) i)

  -- to a label: no more is left there than at the next position
  label_open : (label : ℕ) → label_of i ≡ Some label → label < length h.routine.code
      → open_at h.routine.code label ≡ open_at h.routine.code a.position
  label_open label labelled room =
      let code : List Instr = h.routine.code in
      let formed : IsFormed code = h.known.follows.formed in
      let within : a.position < length code = h.stays.within in
      let forward : goes_forward code a.position label ≡ true =
      goes_to_label code a.position label (formed a.position within) (label_there label labelled) in
      let round : loops_round code a.position ≡ loops_round code label =
      same_positions (loops_round code a.position) (loops_round code label)
      (and_right (nat_lt label (length code)) (is_round_both code a.position label)
      (and_right (nat_lt a.position label) (lands code a.position label) forward))
      in
      sym (round_open code label formed (omega arith)) ∙ sym round
      ∙ round_open code a.position formed (omega arith)

  label_later : (label : ℕ) → label_of i ≡ Some label → a.position < label
  label_later label labelled =
      let code : List Instr = h.routine.code in
      ltb-true a.position label
      (and_left (nat_lt a.position label) (lands code a.position label)
      (goes_to_label code a.position label (h.known.follows.formed a.position h.stays.within)
      (label_there label labelled)))

  label_left : (label : ℕ) → label_of i ≡ Some label → label < length h.routine.code
      → summed (open_at h.routine.code a.position) (rest (drop label h.routine.code))
      ≤ summed (open_at h.routine.code a.position) (rest (drop (a.position + 1) h.routine.code))
  label_left label labelled room =
      let code : List Instr = h.routine.code in
      let later : a.position < label = label_later label labelled in
      let onwards : open_at code (a.position + 1) ≡ open_at code a.position =
      plain_open (label_plain (flow_of i) label labelled) in
      subst (λ (loops : List ℕ). summed loops (rest (drop label code))
      ≤ summed loops (rest (drop (a.position + 1) code)))
      onwards
      (forward_le code (a.position + 1) label h.known.follows.formed
      (turns_of_known h.routine h.known.operands)
      (omega arith) (omega arith) (label_open label labelled room ∙ sym onwards))

  pub moved_label : (label : ℕ) → label_of i ≡ Some label
      → Moved set states s.issued a (at_label a label) (handed_at_label (state_of states a) i)
  moved_label label labelled =
      let there : (label < length h.routine.code)
      × (states a.driver a.routine label ≡ handed_at_label (state_of states a) i) =
      jump_at label labelled in
      plain_goes (label_plain (flow_of i) label labelled) label a.registers
      (handed_at_label (state_of states a) i)
      there.1 there.0 (label_open label labelled there.0) (label_left label labelled there.0)
      (label_suits s.issued (state_of states a) i a.registers h.stays.kinds)
      (ap length (label_locks (state_of states a) i)) (label_long (state_of states a) i)

  -- whichever way it goes on, but for what sends a packet down: its register waits for a status
  pub moved : (b : Activation) (jumped : Bool) → is_forwarding (work_of i) ≡ false
      → GoesTo a i b jumped
      → Moved set states s.issued a b (onto set a.driver (state_of states a) i jumped)
  moved b jumped stays (onward registers on written) =
      moved_next on registers
      (written_kinds (state_of states a) _ set a.driver s.issued a i registers h.obeys on stays
      written h.stays.kinds)
  moved b jumped stays (jumping label labelled) = moved_label label labelled

  -- an instruction that leaves the registers alone and goes on
  pub moved_on : goes_next i ≡ true → keeps_registers i ≡ true → is_forwarding (work_of i) ≡ false
      → Moved set states s.issued a (next a) (handed set a.driver (state_of states a) i)
  moved_on on keeps stays = moved (next a) false stays (onward a.registers on (keeps_all i keeps))

  -- the state there
  pub arrives_next : has_next (flow_of i) ≡ true
      → states a.driver a.routine (a.position + 1) ≡ handed set a.driver (state_of states a) i
  arrives_next leads = (next_at leads).1

  pub arrives : (b : Activation) (jumped : Bool) → GoesTo a i b jumped
      → state_of states b ≡ onto set a.driver (state_of states a) i jumped
  arrives b jumped (onward registers on written) = arrives_next (falls_next (flow_of i) on)
  arrives b jumped (jumping label labelled) = (jump_at label labelled).1

  -- an instruction that is about to be executed is still due
  pub some_due : is_plain (flow_of i) ≡ true → 1 ≤ due set a
  some_due is =
      omega (arith, plain_left is, due_is set h.routine a h.stays.is_of)
