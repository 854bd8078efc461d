-- The position that a label names is that of the instruction on its line.
use Rattle.std.proofs.Common.{◌≡◌, ℕ, ◌+◌, ◌≤◌, inl, inr, Bool, true, false, not, cond, List, [], ◌∷◌, ◌++◌, length, suc, Option, Some, None, refl, ap, sym, ◌∙◌, arith}
use Rattle.std.specs.Prelude.{bytes_eq, nat_lt, slice_get, unwrap_or, option_map, option_and_then, option_to_list, if◌then◌else◌}
use Rattle.std.specs.List.{cons_option, position_or_len}
use Rattle.std.proofs.lemmas.Option.{slice_get_cases}
use Rattle.std.proofs.lemmas.Bool.Decides.{nat_tests}
use Rattle.model.specs.declared.instr.Instr.{Instr}
use Rattle.asm_line.specs.declared.line.Body.{Body}
use Rattle.asm_line.specs.declared.line.Body.TheVariants.{Step as TakeStep}
use Rattle.asm_line.specs.declared.line.Line.{Line}
use Rattle.asm.specs.declared.roles.Role.TheVariants.{Completion}
use Rattle.asm.specs.Outline.{position_of}
use Rattle.asm.specs.Names.{number_in, Inventory}
use Rattle.asm.specs.Parts.{said}
use Rattle.asm.specs.Said.{instruction_on, jump_place, label_place, queue_number, with_label, with_queue, with_routine}

-- the labels on lines of a routine, and their positions, where the first instruction has position p
abbrev pub labels_at : Option (List ℕ) → Body → List (List ℕ)
labels_at label (TakeStep instr used) = option_to_list label
labels_at label _ = []

abbrev pub labels_in : List Line → List (List ℕ)
labels_in [] = []
labels_in (l ∷ ls) = labels_at l.label l.body ++ labels_in ls

abbrev pub positions_at : ℕ → Option (List ℕ) → Body → List ℕ
positions_at p label (TakeStep instr used) = option_to_list (option_map (λ label. p) label)
positions_at p label _ = []

abbrev pub next_position : ℕ → Body → ℕ
next_position p (TakeStep instr used) = p + 1
next_position p _ = p

abbrev pub positions_in : ℕ → List Line → List ℕ
positions_in p [] = []
positions_in p (l ∷ ls) = positions_at p l.label l.body ++ positions_in (next_position p l.body) ls

lengths_at : (p : ℕ) (label : Option (List ℕ)) (body : Body) (ls : List Line)
    → length (positions_in (next_position p body) ls) ≡ length (labels_in ls)
    → length (positions_at p label body ++ positions_in (next_position p body) ls)
    ≡ length (labels_at label body ++ labels_in ls)
lengths_at p None (TakeStep instr used) ls h = h
lengths_at p (Some label) (TakeStep instr used) ls h = ap (λ (n : ℕ). suc n) h
lengths_at p label _ ls h = h

same_lengths : (p : ℕ) (ls : List Line) → length (positions_in p ls) ≡ length (labels_in ls)
same_lengths p [] = refl
same_lengths p (l ∷ ls) = lengths_at p l.label l.body ls (same_lengths (next_position p l.body) ls)

-- the position at a label's place among the labels is that of its line
first_of : (b : Bool) (p k : ℕ) (positions : List ℕ) (found : Option ℕ)
    → slice_get positions k ≡ found → slice_get (p ∷ positions) (cond (not b) (1 + k) 0)
    ≡ (if b then Some p else found)
first_of true p k positions found h = refl
first_of false p k positions found h = let next : 1 + k ≡ suc k = omega arith in rw next h

found_at : (name : List ℕ) (p : ℕ) (label : Option (List ℕ)) (body : Body) (ls : List Line)
    → slice_get (positions_in (next_position p body) ls)
    (position_or_len (bytes_eq name) (labels_in ls)) ≡ label_place name (next_position p body)
    ls
    → slice_get (positions_in p (record { label = label; body = body } ∷ ls))
    (position_or_len (bytes_eq name) (labels_in (record { label = label; body = body } ∷ ls)))
    ≡ label_place name p (record { label = label; body = body } ∷ ls)
found_at name p None (TakeStep instr used) ls h = h
found_at name p (Some label) (TakeStep instr used) ls h =
    first_of (bytes_eq name label) p (position_or_len (bytes_eq name) (labels_in ls))
    (positions_in (p + 1) ls) (label_place name (p + 1) ls) h
found_at name p label _ ls h = h

found_in : (name : List ℕ) (p : ℕ) (ls : List Line)
    → slice_get (positions_in p ls) (position_or_len (bytes_eq name) (labels_in ls))
    ≡ label_place name p ls
found_in name p [] = refl
found_in name p (l ∷ ls) =
    found_at name p l.label l.body ls (found_in name (next_position p l.body) ls)

past_end : (xs : List ℕ) (n : ℕ) → length xs ≤ n → slice_get xs n ≡ None
past_end xs n past =
    elim (slice_get_cases xs n).1 [ inl h ↦ absurd (omega (arith, past, h.1)) | inr h ↦ h.1 ]

not_below : (b : Bool) (n count : ℕ) → nat_lt n count ≡ b → b ≡ false → count ≤ n
not_below b n count is refused = let h : nat_lt n count ≡ false =
    is ∙ refused in grind (arith, nat_tests)

by_place : (b : Bool) (n count : ℕ) (positions : List ℕ) → nat_lt n count ≡ b
    → length positions ≡ count
    → option_and_then (λ k. slice_get positions k) (cond b (Some n) None) ≡ slice_get positions n
by_place true n count positions is same = refl
by_place false n count positions is same = let past = not_below false n count is refl
    in sym (past_end positions n (omega (arith, past, same)))

named_place : (name : List ℕ) (ls : List Line) → position_of (labels_in ls) (positions_in 0 ls) name
    ≡ label_place name 0 ls
named_place name ls =
    let n = position_or_len (bytes_eq name) (labels_in ls) in
    by_place (nat_lt n (length (labels_in ls))) n (length (labels_in ls)) (positions_in 0 ls) refl
    (same_lengths 0 ls) ∙ found_in name 0 ls

-- where an instruction jumps to, if labels have these positions
abbrev pub jump_to : List (List ℕ) → List ℕ → Option (List ℕ) → ℕ
jump_to labels positions None = 0
jump_to labels positions (Some name) = unwrap_or (position_of labels positions name) 0

-- the instructions on lines, with labels of these positions, in a driver that has these things
abbrev linked_on : Inventory → List (List ℕ) → List ℕ → Body → Option Instr
linked_on has labels positions (TakeStep (Some i) used) =
    Some (with_queue (with_routine (with_label i (jump_to labels positions used.label))
    (number_in has Completion used.routine)) (queue_number has used.queue))
linked_on has labels positions _ = None

abbrev pub linked_lines : Inventory → List (List ℕ) → List ℕ → List Line → List Instr
linked_lines has labels positions [] = []
linked_lines has labels positions (l ∷ ls) =
    cons_option (linked_on has labels positions l.body) (linked_lines has labels positions ls)

jump_linked : (all : List Line) (label : Option (List ℕ))
    → jump_to (labels_in all) (positions_in 0 all) label ≡ jump_place all label
jump_linked all None = refl
jump_linked all (Some name) = ap (λ (o : Option ℕ). unwrap_or o 0) (named_place name all)

one_linked : (has : Inventory) (all : List Line) (body : Body)
    → linked_on has (labels_in all) (positions_in 0 all) body ≡ instruction_on has all body
one_linked has all (TakeStep (Some i) used) =
    ap (λ (p : ℕ). Some (with_queue (with_routine (with_label i p) (number_in has Completion used.routine))
    (queue_number has used.queue))) (jump_linked all used.label)
one_linked has all _ = refl

pub all_linked : (has : Inventory) (all ls : List Line)
    → linked_lines has (labels_in all) (positions_in 0 all) ls ≡ said (instruction_on has all) ls
all_linked has all [] = refl
all_linked has all (l ∷ ls) = rw (one_linked has all l.body, all_linked has all ls) refl
