-- Where a routine goes on, it is the same one's, for the same device.
use Rattle.laws_runs.proofs.Prelude.{refl, cond_both, Bool, nat_lt, ◌≡◌, turned, Instr, Activation, OpenLoop}
use Rattle.laws_runs.proofs.Steps.Comes.{GoesTo, onward, jumping}

abbrev pub SameRoutine : Activation → Activation → Type 0
SameRoutine a b = (b.driver ≡ a.driver) × (b.routine ≡ a.routine)

-- after an instruction
pub goes_same : (a : Activation) (i : Instr) (b : Activation) (jumped : Bool) → GoesTo a i b jumped
    → SameRoutine a b
goes_same a i b jumped (onward registers on written) = (refl, refl)
goes_same a i b jumped (jumping label labelled) = (refl, refl)

pub goes_device : (a : Activation) (i : Instr) (b : Activation) (jumped : Bool)
    → GoesTo a i b jumped → b.device ≡ a.device
goes_device a i b jumped (onward registers on written) = refl
goes_device a i b jumped (jumping label labelled) = refl

-- at the end of a loop
pub turned_same : (a : Activation) (l : OpenLoop) → SameRoutine a (turned a l)
turned_same a l =
    cond_both (nat_lt 1 l.turns) _ _ (SameRoutine a) (λ more. (refl, refl)) (λ last. (refl, refl))

pub turned_device : (a : Activation) (l : OpenLoop) → (turned a l).device ≡ a.device
turned_device a l =
    cond_both (nat_lt 1 l.turns) _ _ (λ (b : Activation). b.device ≡ a.device) (λ more. refl)
    (λ last. refl)

pub turned_registers : (a : Activation) (l : OpenLoop) → (turned a l).registers ≡ a.registers
turned_registers a l =
    cond_both (nat_lt 1 l.turns) _ _ (λ (b : Activation). b.registers ≡ a.registers) (λ more. refl)
    (λ last. refl)
