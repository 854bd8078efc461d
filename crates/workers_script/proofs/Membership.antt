-- What weighs no more than commands, by every weight of them, is one of them.
use Rattle.std.proofs.Common.{◌≡◌, ◌≤◌, ℕ, zero, suc, inl, inr, Bool, true, false, List, [], ◌∷◌, Some, cond, sum_by, refl, sym, ap, ◌∙◌, arith}
use Rattle.std.specs.Prelude.{◌&&◌, nat_eq, slice_get}
use Rattle.std.proofs.lemmas.Bool.{and_from, and_parts, cases_Bool, eq-eqb, eqb-true}
use Rattle.std.proofs.lemmas.List.Sums.{sum_by-cons}
use Rattle.model.specs.declared.history.Command.{Command}
use Rattle.model.specs.declared.history.Command.TheVariants.{Request, Cancel, Interrupt}
use Rattle.model.specs.declared.history.Name.{Name}
use Rattle.model.specs.declared.status.Major.{Major}
use Rattle.model.specs.declared.status.Major.TheVariants.{Read, Write, Control}
use Rattle.model.specs.History.{NamedCommand, is_name}
use Rattle.intake.specs.Lists.{name_of, weigh}

-- one, where a test is true
abbrev pub one_if : Bool → ℕ
one_if b = cond b 1 0

pub one_true : (b : Bool) → b ≡ true → one_if b ≡ 1
one_true b h = ap one_if h

pub none_false : (b : Bool) → b ≡ false → one_if b ≡ 0
none_false b h = ap one_if h

pub name_same : (a : Name) → is_name a a ≡ true
name_same a = and_from _ _ (eq-eqb a.submitter a.submitter refl) (eq-eqb a.count a.count refl)

pub name_is : (a b : Name) → is_name a b ≡ true → a ≡ b
name_is a b h =
    let parts = and_parts (nat_eq a.submitter b.submitter) (nat_eq a.count b.count) h in
    ap (λ (n : ℕ). name_of n a.count) (eqb-true a.submitter b.submitter parts.0)
    ∙ ap (λ (n : ℕ). name_of b.submitter n) (eqb-true a.count b.count parts.1)

abbrev same_major : Major → Major → Bool
same_major Read Read = true
same_major Write Write = true
same_major Control Control = true
same_major _ _ = false

major_same : (a : Major) → same_major a a ≡ true
major_same Read = refl
major_same Write = refl
major_same Control = refl

major_is : (a b : Major) → same_major a b ≡ true → a ≡ b
major_is Read Read h = refl
major_is Write Write h = refl
major_is Control Control h = refl
major_is _ _ h = cc

abbrev same_command : Command → Command → Bool
same_command (Request d major argument) (Request e other value) =
    nat_eq d e && (same_major major other && nat_eq argument value)
same_command (Cancel name level) (Cancel other height) = is_name name other && nat_eq level height
same_command (Interrupt d) (Interrupt e) = nat_eq d e
same_command _ _ = false

command_same : (a : Command) → same_command a a ≡ true
command_same (Request d major argument) =
    and_from _ _ (eq-eqb d d refl)
    (and_from _ _ (major_same major) (eq-eqb argument argument refl))
command_same (Cancel name level) = and_from _ _ (name_same name) (eq-eqb level level refl)
command_same (Interrupt d) = eq-eqb d d refl

command_is : (a b : Command) → same_command a b ≡ true → a ≡ b
command_is (Request d major argument) (Request e other value) h =
    let first = and_parts (nat_eq d e) (same_major major other && nat_eq argument value) h in
    let second = and_parts (same_major major other) (nat_eq argument value) first.1 in
    let device : d ≡ e = eqb-true d e first.0 in
    let kind : major ≡ other = major_is major other second.0 in
    let number : argument ≡ value = eqb-true argument value second.1 in
    cc
command_is (Cancel name level) (Cancel other height) h =
    let parts = and_parts (is_name name other) (nat_eq level height) h in
    let whose : name ≡ other = name_is name other parts.0 in
    let high : level ≡ height = eqb-true level height parts.1 in
    cc
command_is (Interrupt d) (Interrupt e) h = let device : d ≡ e = eqb-true d e h in cc
command_is _ _ h = cc

-- one, at the command itself
abbrev is_asked : NamedCommand → NamedCommand → Bool
is_asked a b = is_name a.name b.name && same_command a.command b.command

asked_same : (a : NamedCommand) → is_asked a a ≡ true
asked_same a = and_from _ _ (name_same a.name) (command_same a.command)

abbrev pub with_command : Name → Command → NamedCommand
with_command name command = record { name = name; command = command }

asked_is : (a b : NamedCommand) → is_asked a b ≡ true → a ≡ b
asked_is a b h =
    let parts = and_parts (is_name a.name b.name) (same_command a.command b.command) h in
    ap (λ (n : Name). with_command n a.command) (name_is a.name b.name parts.0)
    ∙ ap (λ (c : Command). with_command b.name c) (command_is a.command b.command parts.1)

-- where the elements that pass a test weigh something, there is one
pub some_passes : {A : Type 0} (test : A → Bool) (xs : List A)
    → 1 ≤ sum_by (λ (x : A). one_if (test x)) xs
    → (i : ℕ) × (x : A) × (slice_get xs i ≡ Some x) × (test x ≡ true)
some_passes test [] some = absurd (omega (arith, some))
some_passes {A = A} test (x ∷ xs) some =
    elim (cases_Bool (test x)) [
      | inl p ↦ (zero, x, refl, p)
      | inr p ↦
          let none = none_false (test x) p in
          let parts = sum_by-cons (λ (y : A). one_if (test y)) x xs in
          let later = some_passes test xs (omega (arith, some, none, parts)) in
          (suc later.0, later.1, later.2, later.3)
    ]

-- by every weight of commands, it weighs no more than those
abbrev pub IsWeighed : NamedCommand → List NamedCommand → Type 0
IsWeighed asked commands = (h : NamedCommand → ℕ) → h asked ≤ weigh h commands

pub is_among : (asked : NamedCommand) (commands : List NamedCommand) → IsWeighed asked commands
    → (i : ℕ) × (slice_get commands i ≡ Some asked)
is_among asked commands weighed =
    let least = weighed (λ (x : NamedCommand). one_if (is_asked asked x)) in
    let itself = one_true (is_asked asked asked) (asked_same asked) in
    let found = some_passes (is_asked asked) commands (omega (arith, least, itself)) in
    let same : asked ≡ found.1 = asked_is asked found.1 found.3 in
    (found.0, found.2 ∙ ap (λ (x : NamedCommand). Some x) (sym same))
