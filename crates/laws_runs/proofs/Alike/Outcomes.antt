-- What a step leaves of a routine's frame that a machine may not tell from another one: the same
-- but for what stands in registers from which nothing may be taken.
use Rattle.laws_runs.proofs.Common.{ap, refl, subst, sym, ◌∙◌, length-set, Bool, List, None, Option, Some, [], false, length, nat_lt, slice_set, true, ℕ, ◌+◌, ◌∷◌, ◌≡◌, ◌⊎◌, Outcome, goes_wrong, turned, is_blank, handed, Set, flow_of, label_of, Shared, at_label, innermost, next, register, with_register, Kind, NumKind, Instr, End, Activation, Frame, CancelFrame, Routine, Walk, OpenLoop, Value, Num, States, Runs, state_of, number_kinds, moved_end, arrives_next, has_next, keeps_registers, number_operand, numbered_by, packet_operand, second_operand}
use Rattle.laws_runs.proofs.Alike.Frames.{AlikeFrame, AlikeFrames, AlikeActivation}
use Rattle.laws_runs.proofs.Alike.Registers.{SameRegisters, same_get, same_set, same_refl, same_handed, same_labelled, operand_some}
use Rattle.laws_runs.proofs.States.Kinds.{number_wanted}
use Rattle.laws_runs.proofs.States.Moves.{jump_at}

-- an outcome without its frames and its actions
abbrev pub unframed : Outcome → Outcome
unframed o = record o { frames = []; actions = [] }

module _ (set : Set) (states : States) where
  pub record AlikeOutcome (p o : Outcome) : Type 0 where
    pub others : unframed p ≡ unframed o
    pub frames : AlikeFrames set states o.shared None p.frames o.frames

  -- the same frames
  pub alike_self : (s : Shared) (above : Option Frame) (f : Frame)
      → AlikeFrame set states s above f f
  alike_self s above (Routine a) =
      record {
        registers = a.registers;
        is = refl;
        long = refl;
        same = same_refl _ a.registers;
      }
  alike_self s above (Walk n) = λ live. refl
  alike_self s above (CancelFrame c) = refl

  pub alike_same : (s : Shared) (above : Option Frame) (frames : List Frame)
      → AlikeFrames set states s above frames frames
  alike_same s above [] = tt
  alike_same s above (f ∷ frames) = (alike_self s _ f, alike_same s above frames)

  pub outcome_same : (o : Outcome) → AlikeOutcome o o
  outcome_same o = record { others = refl; frames = alike_same o.shared None o.frames }

  -- what goes by a look-up goes by the same one
  pub by_same : {A : Type 0} (f g : A → Outcome) (x y : A) → x ≡ y
      → ((z : A) → AlikeOutcome (f z) (g z)) → AlikeOutcome (f x) (g y)
  by_same {A = A} f g x y e all = subst (λ (z : A). AlikeOutcome (f x) (g z)) e (all x)

  pub by_one : {A : Type 0} (f g : A → Outcome) (x y : A) → x ≡ y → AlikeOutcome (f y) (g y)
      → AlikeOutcome (f x) (g y)
  by_one {A = A} f g x y e one = subst (λ (z : A). AlikeOutcome (f z) (g y)) (sym e) one

  -- a routine that is about to execute an instruction, with other registers
  module _ (s : Shared) (a : Activation) (us : List Value) (long : length us ≡ length a.registers)
      (h : SameRegisters (state_of states a).kinds us a.registers) where
    abbrev pub other : Activation
    other = record a { registers = us }

    -- it goes on at a position
    goes : (p : ℕ) (loops : List OpenLoop) (xs ys : List Value)
        → length xs ≡ length ys → SameRegisters (states a.driver a.routine p).kinds xs ys
        → AlikeActivation set states None
        (record a { position = p; loops = record { items = loops }; registers = xs })
        (record a { position = p; loops = record { items = loops }; registers = ys })
    goes p loops xs ys even same =
        record { registers = xs; is = refl; long = even; same = same }

    pub stays : AlikeActivation set states None other a
    stays = record { registers = us; is = refl; long = long; same = h }

    pub wrong : AlikeOutcome (goes_wrong s other) (goes_wrong s a)
    wrong = record { others = refl; frames = (stays, tt) }

    module _ (i : Instr) (run : Runs set states s a i) where
      -- the operands are the same
      pub packet_same : (r : ℕ) → packet_operand i ≡ Some r → register other r ≡ register a r
      packet_same r is =
          same_get (state_of states a).kinds us a.registers r h
          (operand_some (state_of states a) _ set a.driver i r run.obeys is)

      pub number_same : (r : ℕ) → (number_operand i ≡ Some r) ⊎ (second_operand i ≡ Some r)
          → register other r ≡ register a r
      number_same r is =
          same_get (state_of states a).kinds us a.registers r h
          (ap is_blank (number_wanted (state_of states a) _ set a.driver i r run.obeys is))

      -- to the next position
      pub on_next : has_next (flow_of i) ≡ true → (loops : List OpenLoop) (xs ys : List Value)
          → length xs ≡ length ys
          → SameRegisters (handed set a.driver (state_of states a) i).kinds xs ys
          → AlikeActivation set states None
          (record a {
            position = a.position + 1;
            loops = record { items = loops };
            registers = xs;
          })
          (record a {
            position = a.position + 1;
            loops = record { items = loops };
            registers = ys;
          })
      on_next leads loops xs ys even same =
          goes (a.position + 1) loops xs ys even
          (subst (λ state. SameRegisters state.kinds xs ys)
          (sym (arrives_next set states s a i run leads)) same)

      -- with its registers as they were
      pub on_kept : has_next (flow_of i) ≡ true → keeps_registers i ≡ true
          → AlikeActivation set states None (next other) (next a)
      on_kept leads keeps =
          on_next leads a.loops.items us a.registers long
          (same_handed (state_of states a) _ set a.driver us a.registers i run.obeys keeps h)

      -- with another value in one of them
      pub on_set : has_next (flow_of i) ≡ true → (r : ℕ) (k : Kind) (u v : Value)
          → (handed set a.driver (state_of states a) i).kinds
          ≡ slice_set (state_of states a).kinds r k
          → (is_blank k ≡ false → u ≡ v)
          → AlikeActivation set states None (next (with_register other r u))
          (next (with_register a r v))
      on_set leads r k u v is new =
          on_next leads a.loops.items (slice_set us r u) (slice_set a.registers r v)
          (length-set us r u ∙ long ∙ sym (length-set a.registers r v))
          (subst (λ kinds. SameRegisters kinds (slice_set us r u) (slice_set a.registers r v))
          (sym is) (same_set (state_of states a).kinds us a.registers r k u v h new))

      pub on_number : has_next (flow_of i) ≡ true → (r n : ℕ) → numbered_by i ≡ Some r
          → AlikeActivation set states None (next (with_register other r (Num n)))
          (next (with_register a r (Num n)))
      on_number leads r n is =
          on_set leads r NumKind (Num n) (Num n)
          (number_kinds (state_of states a) _ set a.driver i r run.obeys is) (λ some. refl)

      -- to its label
      pub on_label : (label : ℕ) → label_of i ≡ Some label
          → AlikeActivation set states None (at_label other label) (at_label a label)
      on_label label labelled =
          goes label a.loops.items us a.registers long
          (subst (λ state. SameRegisters state.kinds us a.registers)
          (sym (jump_at set states s a i run label labelled).1)
          (same_labelled (state_of states a) us a.registers i h))

    -- round a loop or out of it
    turned_like : (l : OpenLoop) (b : Bool) → nat_lt 1 l.turns ≡ b
        → (turned other l ≡ record (turned a l) { registers = us })
        × ((turned a l).registers ≡ a.registers)
    turned_like l true more = (rw more refl, rw more refl)
    turned_like l false last = (rw last refl, rw last refl)

    pub on_turn : (run : Runs set states s a End) (l : OpenLoop) → innermost a ≡ Some l
        → AlikeActivation set states None (turned other l) (turned a l)
    on_turn run l inner =
        let like : (turned other l ≡ record (turned a l) { registers = us })
        × ((turned a l).registers ≡ a.registers) = turned_like l (nat_lt 1 l.turns) refl in
        record {
          registers = us;
          is = like.0;
          long = long ∙ sym (ap length like.1);
          same = subst (λ state. SameRegisters state.kinds us (turned a l).registers)
              (sym (moved_end set states s a run l inner).arrives)
              (subst (λ vs. SameRegisters (state_of states a).kinds us vs) (sym like.1) h);
        }
