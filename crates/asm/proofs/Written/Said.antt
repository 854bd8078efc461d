-- The instructions that a text says are those ahead of its lines.
use Rattle.std.proofs.Common.{◌≡◌, ℕ, List, [], ◌∷◌, ◌++◌, Option, Some, None, refl, ap, ◌∙◌}
use Rattle.std.specs.Prelude.{option_to_list}
use Rattle.std.specs.List.{cons_option}
use Rattle.asm_line.specs.declared.line.Body.{Body}
use Rattle.asm_line.specs.declared.line.Body.TheVariants.{OpenDriver, CloseDriver, OpenRoutine, CloseRoutine}
use Rattle.asm_line.specs.declared.line.Line.{Line}
use Rattle.asm.proofs.Codes.{all_codes, codes_from, codes_of, driver_code, driver_codes, drivers_from, instructions_on, inventory_ahead, routine_code, routine_codes, routine_lines, unless_end}
use Rattle.asm.specs.Names.{inventory, Inventory}
use Rattle.asm.specs.Parts.{closes_driver, closes_routine, said, up_to}
use Rattle.asm.specs.Said.{drivers_on, instruction_on, routines_on}
use Rattle.asm.proofs.Declared.Known.{queues_said, routines_said, sorts_said}

one_more : {A : Type 0} (x : Option A) (xs ys : List A) → xs ≡ ys
    → cons_option x xs ≡ option_to_list x ++ ys
one_more None xs ys h = h
one_more (Some x) xs ys h = ap (λ (rest : List _). x ∷ rest) h

instructions_said : (has : Inventory) (all ls : List Line)
    → said (instruction_on has all) ls ≡ instructions_on has all ls
instructions_said has all [] = refl
instructions_said has all (l ∷ ls) =
    one_more (instruction_on has all l.body) (said (instruction_on has all) ls)
    (instructions_on has all ls) (instructions_said has all ls)

line_said : (label : Option (List ℕ)) (body : Body) (ls : List Line)
    → up_to closes_routine ls ≡ routine_lines ls
    → up_to closes_routine (record { label = label; body = body } ∷ ls)
    ≡ unless_end (record { label = label; body = body }) body (routine_lines ls)
line_said label CloseRoutine ls h = refl
line_said label body ls h = ap (λ (rest : List Line). record { label = label; body = body } ∷ rest) h

lines_said : (ls : List Line) → up_to closes_routine ls ≡ routine_lines ls
lines_said [] = refl
lines_said (l ∷ ls) = line_said l.label l.body ls (lines_said ls)

code_said : (has : Inventory) (ls : List Line)
    → said (instruction_on has (up_to closes_routine ls)) (up_to closes_routine ls)
    ≡ routine_code has ls
code_said has ls =
    ap (λ (all : List Line). said (instruction_on has all) all) (lines_said ls)
    ∙ instructions_said has (routine_lines ls) (routine_lines ls)

routine_said : (has : Inventory) (label : Option (List ℕ)) (body : Body) (ls : List Line)
    → codes_of (routines_on has ls) ≡ routine_codes has ls
    → codes_of (routines_on has (record { label = label; body = body } ∷ ls))
    ≡ codes_from body (routine_code has ls) (routine_codes has ls)
routine_said has label CloseDriver ls h = refl
routine_said has label (OpenRoutine name sort) ls h = rw (code_said has ls, h) refl
routine_said has label _ ls h = h

codes_said : (has : Inventory) (ls : List Line)
    → codes_of (routines_on has ls) ≡ routine_codes has ls
codes_said has [] = refl
codes_said has (l ∷ ls) = routine_said has l.label l.body ls (codes_said has ls)

driver_said : (label : Option (List ℕ)) (body : Body) (ls : List Line)
    → all_codes (drivers_on ls) ≡ driver_codes ls
    → all_codes (drivers_on (record { label = label; body = body } ∷ ls))
    ≡ drivers_from body (driver_code ls) (driver_codes ls)
driver_said label (OpenDriver name) ls h =
    let same : inventory (up_to closes_driver ls) ≡ inventory_ahead ls =
    rw (routines_said ls, sorts_said ls, queues_said ls) refl in
    rw (codes_said (inventory (up_to closes_driver ls)) ls, same, h) refl
driver_said label _ ls h = h

pub drivers_said : (ls : List Line) → all_codes (drivers_on ls) ≡ driver_codes ls
drivers_said [] = refl
drivers_said (l ∷ ls) = driver_said l.label l.body ls (drivers_said ls)
