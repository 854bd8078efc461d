-- The top frame of a thread of an accepted set: it stands as it should, what it executes is the
-- instruction of a routine that breaks no rule, and it lacks nothing that the instruction wants.
use Rattle.laws_runs.proofs.Prelude.{ap, subst, sym, ◌∙◌, None, Option, Some, option_and_then, slice_get, ℕ, ◌≡◌, ◌⊎◌, kind_of, refuses, Set, instruction_at, member, routine_of, sort_in, sort_of, fault_in, Shared, number_in, packet_in, register, NumKind, Instr, RoutineOf, Sort, Activation, Frame, Routine, Ref}
use Rattle.laws_runs.proofs.States.Fits.{Fits}
use Rattle.laws_runs.proofs.States.Frames.{state_of, Stays, IsGood, Runs}
use Rattle.laws_runs.proofs.States.Kinds.{Suits, kinds_get, number_there, packet_ref, packet_wanted, number_wanted}
use Rattle.laws_runs.proofs.States.Known.{IsKnown}
use Rattle.laws_runs.proofs.States.Listed.{KindFits, arrives_fits, fits_at}
use Rattle.laws_runs.specs.ArrivingStates.{States}
use Rattle.laws_runs.proofs.States.Stacks.{Stands}
use Rattle.laws_runs.proofs.Steps.Comes.{Executing}
use Rattle.laws_runs.proofs.Steps.Words.{packet_operand, number_operand, second_operand}

-- a frame on top of its thread
pub record OnTop (set : Set) (states : States) (s : Shared) (f : Frame) : Type 0 where
  pub good : IsGood set states
  pub fits : Fits set s
  pub stands : Stands set states s.issued None f

-- the instruction at a position of a routine that is there
pub at_routine : (set : Set) (routine : RoutineOf) (a : Activation)
    → routine_of set a.driver a.routine ≡ Some routine
    → instruction_at set a.driver a.routine a.position ≡ slice_get routine.code a.position
at_routine set routine a there =
    ap (λ (o : Option RoutineOf). option_and_then (λ r. slice_get r.code a.position) o) there

module _ (set : Set) (states : States) (s : Shared) (a : Activation) where
  pub runs : (i : Instr) → OnTop set states s (Routine a) → Executing set a i
      → Runs set states s a i
  runs i h at =
      let stays : Stays set states s.issued h.stands.0 a = h.stands.1 in
      let known : IsKnown (member set a.driver a.routine h.stands.0) (states a.driver a.routine) =
      h.good.led.known a.driver a.routine h.stands.0 stays.is_of in
      let here : slice_get h.stands.0.code a.position ≡ Some i =
      sym (at_routine set h.stands.0 a stays.is_of) ∙ at in
      let sort : sort_of set a.driver a.routine ≡ h.stands.0.sort = ap sort_in stays.is_of in
      record {
        routine = h.stands.0;
        stays = stays;
        known = known;
        here = here;
        sort = sort;
        obeys = subst (λ (x : Sort). refuses (state_of states a) i x set a.driver ≡ None) (sym sort)
            (subst (λ (x : Option Instr). fault_in (member set a.driver a.routine h.stands.0)
            (state_of states a) x
            ≡ None) here (known.follows.keeps a.position stays.within));
        fits = h.fits;
        good = h.good;
      }

  -- what a register's kind says of a queue with a cancel routine
  pub listed_fits : (i : Instr) → Runs set states s a i → (r : ℕ)
      → KindFits set a.driver (state_of states a).locks (state_of states a).cancel
      (kind_of (state_of states a) r)
  listed_fits i h r =
      fits_at set a.driver (state_of states a).locks (state_of states a).cancel
      (state_of states a).kinds r
      (arrives_fits (member set a.driver a.routine h.routine) a.position (state_of states a)
      (h.known.follows.arrives a.position h.stays.within))

  pub value_suits : (i : Instr) (r : ℕ) → Runs set states s a i
      → Suits s.issued (kind_of (state_of states a) r) (register a r)
  value_suits i r h = kinds_get s.issued (state_of states a).kinds a.registers r h.stays.kinds

  -- its operands
  pub packet_there : (i : Instr) (r : ℕ) → Runs set states s a i → packet_operand i ≡ Some r
      → packet_in s (register a r) ≡ None → ⊥
  packet_there i r h is none =
      let ref : (n : ℕ) × (register a r ≡ Ref n) × (packet_in s (register a r) ≡ Some n) =
      packet_ref s (kind_of (state_of states a) r) (register a r)
      (packet_wanted (state_of states a) _ set a.driver i r h.obeys is) (value_suits i r h) in
      let no : None ≡ Some ref.0 = sym none ∙ ref.2 in
      cc

  pub number_found : (i : Instr) (r : ℕ) → Runs set states s a i
      → (number_operand i ≡ Some r) ⊎ (second_operand i ≡ Some r) → number_in (register a r) ≡ None
      → ⊥
  number_found i r h is none =
      let kind : kind_of (state_of states a) r ≡ NumKind =
      number_wanted (state_of states a) _ set a.driver i r h.obeys is in
      let number : (n : ℕ) × (number_in (register a r) ≡ Some n) =
      number_there s.issued (register a r) (rw kind at (value_suits i r h)) in
      let no : None ≡ Some number.0 = sym none ∙ number.1 in
      cc
