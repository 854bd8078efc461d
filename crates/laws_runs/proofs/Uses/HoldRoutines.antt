-- A completion routine that is lent a packet has no mark to carry up, and sees no packet on its way
-- up, in any state that arrives at a position.
use Rattle.laws_runs.proofs.Common.{ap, refl, subst, sym, ◌∙◌, None, Some, false, ℕ, ◌≡◌, entered_with, entry_of_sort, entry_state, given_down, handed, handed_at_label, kind_of, look_fault, marked, refuses, Arrives, Member, Set, cancels_for, Abs, Fresh, Kind, New, View, SettledMark, Instr, Call, IfPending, Mark, Pass, Sort, Hold, arrives_keep}

abbrev IsSettled : Abs → Type 0
IsSettled s = s.settled ≡ SettledMark

-- it begins with nothing to carry up
hold_begins : (m : Member) (first : Abs) → m.routine.sort ≡ Hold → entry_state m ≡ Some first
    → entered_with New Fresh SettledMark false ≡ first
hold_begins m first is enters =
    let start : Some (entered_with New Fresh SettledMark false) ≡ Some first =
    sym (ap (λ (x : Sort). entry_of_sort x (cancels_for m.set m.driver m.number)) is) ∙ enters in
    cc

marked_settled : (s : Abs) (r : ℕ) (k : Kind) → IsSettled s → IsSettled (marked s r k)
marked_settled s r View h = refl
marked_settled s r _ h = h

pub given_settled : (s : Abs) (r : ℕ) (k : Kind) → (given_down s r k).settled ≡ s.settled
given_settled s r New = refl
given_settled s r _ = refl

handed_settled : (set : Set) (driver : ℕ) (s : Abs) (i : Instr) → IsSettled s
    → IsSettled (handed set driver s i)
handed_settled set driver s (Mark r) h = marked_settled s r (kind_of s r) h
handed_settled set driver s (Pass r) h = given_settled s r (kind_of s r) ∙ h
handed_settled set driver s (Call r f) h = given_settled s r (kind_of s r) ∙ h
handed_settled set driver s (IfPending r label) h = refl
handed_settled set driver s _ h = h

-- nothing is looked at where all is settled
never_looks : (k : Kind) → look_fault SettledMark k ≡ None → ⊥
never_looks View h = cc
never_looks _ h = cc

label_settled : (set : Set) (driver : ℕ) (s : Abs) (i : Instr) (sort : Sort)
    → refuses s i sort set driver ≡ None → IsSettled s → IsSettled (handed_at_label s i)
label_settled set driver s (IfPending r label) sort keeps h =
    absurd (never_looks (kind_of s r) (rw h at keeps))
label_settled set driver s _ sort keeps h = h

pub hold_settled : (m : Member) (p : ℕ) (s : Abs) → m.routine.sort ≡ Hold → Arrives m p s
    → IsSettled s
hold_settled m p s is arrives =
    arrives_keep IsSettled m
    (λ first enters. subst IsSettled (hold_begins m first is enters) refl)
    (λ before i q at keeps h. handed_settled m.set m.driver before i h)
    (λ before i q at keeps h. label_settled m.set m.driver before i m.routine.sort keeps h) p s
    arrives
