-- The commands of a script under their names.
use Rattle.std.proofs.Common.{◌≡◌, ◌≢◌, ◌<◌, ◌≤◌, ◌+◌, ◌++◌, inl, inr, ℕ, zero, suc, Bool, true, false, List, [], ◌∷◌, None, Some, length, take, refl, sym, ap, ◌∙◌, arith}
use Rattle.std.specs.Prelude.{count_by, slice_get}
use Rattle.std.specs.List.{find}
use Rattle.std.proofs.lemmas.Bool.{cases_Bool, ne_eqb}
use Rattle.std.proofs.lemmas.Bool.Decides.{eqb_tells}
use Rattle.std.proofs.lemmas.List.{take_more}
use Rattle.std.proofs.lemmas.List.Sums.{sum_by-cons}
use Rattle.std.proofs.lemmas.Option.{get_or_from_slice_get, slice_get_within}
use Rattle.model.specs.declared.history.Command.{Command}
use Rattle.model.specs.declared.history.Name.{Name}
use Rattle.model.specs.History.{NamedCommand, is_name}
use Rattle.intake.specs.Lists.{name_of, weigh}
use Rattle.workers_script.specs.Served.{command_name, named_at, named_from}
use Rattle.workers_script.proofs.Membership.{name_is, none_false, one_if, one_true, with_command}
use Rattle.workers_script.proofs.ThreadSums.{command_of}

-- names of different numbers differ
name_apart : (i k : ℕ) → i ≢ k → is_name (command_name i) (command_name k) ≡ false
name_apart i k apart = ne_eqb i k apart

pub name_number : (i k : ℕ) → is_name (command_name i) (command_name k) ≡ true → i ≡ k
name_number i k h = ap (λ (n : Name). n.count) (name_is (command_name i) (command_name k) h)

not_asked : (i k : ℕ) (c : Command) → i ≢ k → command_of (command_name k) (named_at i c) ≡ 0
not_asked i k c apart = none_false _ (name_apart i k apart)

at_most : (n : Name) (asked : NamedCommand) → command_of n asked ≤ 1
at_most n asked =
    elim (cases_Bool (is_name asked.name n)) [
      | inl p ↦ omega (arith, one_true (is_name asked.name n) p)
      | inr p ↦ omega (arith, none_false (is_name asked.name n) p)
    ]

-- no command has a number below the first, or from the last on
none_below : (k from : ℕ) (commands : List Command) → k < from
    → weigh (command_of (command_name k)) (named_from from commands) ≡ 0
none_below k from [] below = refl
none_below k from (c ∷ commands) below =
    omega (
      arith,
      not_asked from k c (λ same. omega (arith, same, below)),
      none_below k (from + 1) commands (omega (arith, below)),
      sum_by-cons (command_of (command_name k)) (named_at from c) (named_from (from + 1) commands),
    )

pub none_above : (k from : ℕ) (commands : List Command) → from + length commands ≤ k
    → weigh (command_of (command_name k)) (named_from from commands) ≡ 0
none_above k from [] above = refl
none_above k from (c ∷ commands) above =
    omega (
      arith,
      not_asked from k c (λ same. omega (arith, same, above)),
      none_above k (from + 1) commands (omega (arith, above)),
      sum_by-cons (command_of (command_name k)) (named_at from c) (named_from (from + 1) commands),
    )

-- and at most one has a number
pub once_at_most : (k from : ℕ) (commands : List Command)
    → weigh (command_of (command_name k)) (named_from from commands) ≤ 1
once_at_most k from [] = omega arith
once_at_most k from (c ∷ commands) =
    let its = command_of (command_name k) in
    let parts = sum_by-cons its (named_at from c) (named_from (from + 1) commands) in
    elim (eqb_tells from k) [
      | inl p ↦ omega (
        arith,
        parts,
        at_most (command_name k) (named_at from c),
        none_below k (from + 1) commands (omega (arith, p.1)),
      )
      | inr p ↦ omega (
        arith,
        parts,
        not_asked from k c p.1,
        once_at_most k (from + 1) commands,
      )
    ]

-- one of them is the command at its place, under the place's name
at_place : (from : ℕ) (commands : List Command) (i : ℕ) (asked : NamedCommand)
    → slice_get (named_from from commands) i ≡ Some asked
    → (c : Command) × (slice_get commands i ≡ Some c) × (asked ≡ named_at (from + i) c)
at_place from [] i asked at = cc
at_place from (c ∷ commands) zero asked at =
    let same : named_at from c ≡ asked = cc in
    let number : from ≡ from + 0 = omega arith in
    (c, refl, sym same ∙ ap (λ (k : ℕ). named_at k c) number)
at_place from (c ∷ commands) (suc i) asked at =
    let rest = at_place (from + 1) commands i asked at in
    let number : from + 1 + i ≡ from + suc i = omega arith in
    (rest.0, rest.1, rest.2 ∙ ap (λ (k : ℕ). named_at k rest.0) number)

pub at_number : (commands : List Command) (k : ℕ) (asked : NamedCommand)
    → slice_get (named_from 0 commands) k ≡ Some asked
    → (c : Command) × (slice_get commands k ≡ Some c) × (asked ≡ named_at k c)
at_number commands k asked at =
    let its = at_place 0 commands k asked at in
    let number : 0 + k ≡ k = omega arith in
    (its.0, its.1, its.2 ∙ ap (λ (i : ℕ). named_at i its.0) number)

-- the commands that were put, with one more
named_push : (from : ℕ) (commands : List Command) (c : Command)
    → named_from from (commands ++ c ∷ [])
    ≡ named_from from commands ++ named_at (from + length commands) c ∷ []
named_push from [] c =
    let number : from ≡ from + 0 = omega arith in
    ap (λ (k : ℕ). named_at k c ∷ []) number
named_push from (d ∷ commands) c =
    let number : from + 1 + length commands ≡ from + suc (length commands) = omega arith in
    ap (λ (xs : List NamedCommand). named_at from d ∷ xs) (named_push (from + 1) commands c
    ∙ ap (λ (k : ℕ). named_from (from + 1) commands ++ named_at k c ∷ []) number)

pub length_named : (from : ℕ) (commands : List Command)
    → length (named_from from commands) ≡ length commands
length_named from [] = refl
length_named from (c ∷ commands) = omega (arith, length_named (from + 1) commands)

pub long_taken : {A : Type 0} (n : ℕ) (xs : List A) → n ≤ length xs → length (take n xs) ≡ n
long_taken zero xs long = refl
long_taken (suc n) [] long = absurd (omega (arith, long))
long_taken (suc n) (x ∷ xs) long = omega (arith, long_taken n xs (omega (arith, long)))

pub put_more : (put : List NamedCommand) (commands : List Command) (i : ℕ) (c : Command)
    (ticket : Name) → put ≡ named_from 0 (take i commands) → slice_get commands i ≡ Some c
    → ticket ≡ name_of 0 (length put)
    → put ++ record { name = ticket; command = c } ∷ [] ≡ named_from 0 (take (i + 1) commands)
put_more put commands i c ticket so_far at its =
    let within : i < length commands = slice_get_within commands i c at in
    let few : length (take i commands) ≡ i = long_taken i commands (omega (arith, within)) in
    let long = ap length so_far in
    let same = length_named 0 (take i commands) in
    let count : length put ≡ 0 + length (take i commands) = omega (arith, long, same) in
    let more : take (i + 1) commands ≡ take i commands ++ c ∷ [] =
    take_more commands i c within ∙ ap (λ (d : Command). take i commands ++ d ∷ [])
    (get_or_from_slice_get commands i c c at) in
    ap (λ (xs : List NamedCommand). xs ++ with_command ticket c ∷ []) so_far
    ∙ ap (λ (n : Name). named_from 0 (take i commands) ++ with_command n c ∷ [])
    (its ∙ ap (name_of 0) count)
    ∙ sym (named_push 0 (take i commands) c)
    ∙ ap (named_from 0) (sym more)

-- the first so many of a list
pub get_take : {A : Type 0} (n : ℕ) (xs : List A) (i : ℕ) (x : A)
    → slice_get (take n xs) i ≡ Some x → slice_get xs i ≡ Some x
get_take zero xs i x at = cc
get_take (suc n) [] i x at = at
get_take (suc n) (y ∷ xs) zero x at = at
get_take (suc n) (y ∷ xs) (suc i) x at = get_take n xs i x at

pub few_taken : {A : Type 0} (n : ℕ) (xs : List A) → length (take n xs) ≤ n
few_taken zero xs = omega arith
few_taken (suc n) [] = omega arith
few_taken (suc n) (x ∷ xs) = omega (arith, few_taken n xs)

pub get_within : {A : Type 0} (xs : List A) (i : ℕ) → i < length xs
    → (x : A) × (slice_get xs i ≡ Some x)
get_within [] i within = absurd (omega (arith, within))
get_within (x ∷ xs) zero within = (x, refl)
get_within (x ∷ xs) (suc i) within = get_within xs i (omega (arith, within))

-- where none passes a test, none is found
pub none_found : {A : Type 0} (test : A → Bool) (xs : List A) → count_by test xs ≡ 0
    → find test xs ≡ None
none_found test [] none = refl
none_found {A = A} test (x ∷ xs) none =
    let parts = sum_by-cons (λ (y : A). one_if (test y)) x xs in
    elim (cases_Bool (test x)) [
      | inl p ↦ let one = one_true (test x) p in
          absurd (omega (arith, none, parts, one))
      | inr p ↦ rw p (none_found test xs (omega (arith, none, parts)))
    ]
