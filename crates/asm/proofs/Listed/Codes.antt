-- The instructions on the lines of a listing are those of the set.
use Rattle.std.proofs.Common.{◌≡◌, ◌≢◌, ℕ, ◌+◌, ◌<◌, ◌≤◌, Bool, true, false, inl, inr, ◌⊎◌, List, [], ◌∷◌, ◌++◌, length, map, Option, Some, None, IfSome, refl, ap, sym, ◌∙◌, arith, append-nil, All}
use Rattle.std.specs.Prelude.{get_or, option_map, option_to_list, if◌then◌else◌}
use Rattle.std.specs.List.{list_any}
use Rattle.std.proofs.lemmas.Bool.Decides.{eqb_tells}
use Rattle.std.proofs.lemmas.List.{length-map}
use Rattle.std.proofs.lemmas.List.Elements.{All-head, All-tail}
use Rattle.std.proofs.lemmas.List.Folds.{list_any_at}
use Rattle.std.proofs.lemmas.Option.{slice_get_within}
use Rattle.model.specs.declared.instr.Instr.{Instr}
use Rattle.model.specs.declared.instr.Instr.TheVariants.{Jump}
use Rattle.model.specs.declared.set.Driver.{Driver}
use Rattle.model.specs.declared.set.Routine.{Routine}
use Rattle.model.specs.declared.set.Device.{Device}
use Rattle.model.specs.Set.{label_of, Set}
use Rattle.model.specs.Sound.{completion_named, queue_named, CallsFit, DriverFits, IsCompletion, QueuesFit, RoutineFits, IsSound}
use Rattle.asm_line.specs.declared.line.Body.TheVariants.{Step as TakeStep}
use Rattle.asm_line.specs.declared.line.Line.{Line}
use Rattle.asm.specs.declared.roles.Role.{Role}
use Rattle.asm.specs.declared.roles.Role.TheVariants.{Completion}
use Rattle.asm.specs.Names.{number_in, routine_named, Inventory}
use Rattle.asm.specs.Said.{instruction_on, is_labelled, jump_place, label_place, queue_number, with_label, with_queue, with_routine}
use Rattle.asm.proofs.Codes.{all_codes, codes_of, driver_code, driver_codes, instructions_on, inventory_ahead, routine_code, routine_codes, routine_lines as code_lines}
use Rattle.asm_line.specs.declared.entry.Entry.{Entry}
use Rattle.asm_line.specs.declared.entry.Entry.TheVariants as line
use Rattle.asm_line.specs.ListedWords.{label, queue, routine}
use Rattle.asm_line.specs.Listing.{device_lines, driver_lines, is_position, jumps_to, label_at, listed, queue_lines, routine_lines, set_lines, step_lines, table_lines}
use Rattle.asm_line.proofs.Digits.{IsSmall}
use Rattle.asm_line.proofs.Meaning.{meant, names_used, unlinked}
use Rattle.asm.proofs.Listed.Ahead.{before, before_all, before_append, driver_rest, each_append, looked_past, queues_each, queues_past, queues_there, rest_split, routines_there, sorts_there, steps_each, steps_past, table_each, table_past, Each, IsPast, IsTarget}
use Rattle.asm.proofs.Listed.Closing.{Served}
use Rattle.asm.proofs.Listed.Names.{differ, names_from, numbered_as, same_bytes}
use Rattle.asm.proofs.Listed.Sets.{is_completion, served, sorts_of}

-- what a driver has
abbrev pub has_of : Driver → Inventory
has_of d = record {
  routines = names_from 102 0 (length d.routines);
  sorts = sorts_of d.routines;
  queues = names_from 113 0 (length d.queues);
}

-- what an instruction of a routine of the driver names is there
pub record InstrKnown (d : Driver) (code : List Instr) (i : Instr) : Type 0 where
  pub label : IfSome (label_of i) (IsTarget code)
  pub routine : Served Completion (sorts_of d.routines) (completion_named i)
  pub queue : IfSome (queue_named i) (λ q. q < length d.queues)

-- a label of an instruction is a target
jumps : (code : List Instr) (k : ℕ) (e : Instr) → k < length code
    → IfSome (label_of (get_or code k e)) (λ to. to < length code)
    → IfSome (label_of (get_or code k e)) (IsTarget code)
jumps code k e inside fits = by (label_of (get_or code k e)) refl fits
  where
    by : (o : Option ℕ) → label_of (get_or code k e) ≡ o → IfSome o (λ to. to < length code)
        → IfSome o (IsTarget code)
    by None is fits = tt
    by (Some to) is fits = record {
      inside = fits;
      jumped = list_any_at (jumps_to to) code k e inside
          (ap (λ o. is_position to o) is
          ∙ (elim (eqb_tells to to) [ inl same ↦ same.0 | inr other ↦ absurd (other.1 refl) ]));
    }

pub all_known : (d : Driver) (r : Routine) → RoutineFits r → CallsFit d.routines r
    → QueuesFit (length d.queues) r → All (InstrKnown d r.code) r.code
all_known d r fits calls queues k e inside = record {
  label = jumps r.code k e inside (fits.labels k e inside);
  routine = served IsCompletion Completion is_completion d.routines _ (calls k e inside);
  queue = queues k e inside;
}

-- a routine that is named for a role is found
pub routine_found : (d : Driver) (role : Role) (r : ℕ) → length d.routines ≤ 32
    → Served role (sorts_of d.routines) (Some r)
    → routine_named (names_from 102 0 (length d.routines)) (sorts_of d.routines) role (routine r)
    ≡ Some r
routine_found d role r few h =
    let within = slice_get_within (sorts_of d.routines) r h.0 h.1 in
    let long = length-map d.routines (λ (r : Routine). r.sort) in
    rw (
      numbered_as 102 (length d.routines) r (omega (arith, within, long, few))
          (omega (arith, within, long)),
      h.1,
      h.2,
    ) refl

-- the label's position
place_found : (b : Bool) (p k : ℕ) (later : Option ℕ) → IsSmall p → IsSmall k
    → ((b ≡ true) × (p ≡ k)) ⊎ ((p ≢ k) × (later ≡ Some k))
    → (if is_labelled (option_map label (if b then Some p else None)) (label k)
    then Some p else later) ≡ Some k
place_found true p k later small fits (inl same) = rw (same.1, same_bytes (label k)) refl
place_found true p k later small fits (inr other) =
    rw (differ 97 k p fits small (λ is. other.0 (sym is))) other.1
place_found false p k later small fits (inl same) = let bad = same.0 in cc
place_found false p k later small fits (inr other) = other.1

label_found : (code : List Instr) (p : ℕ) (is : List Instr) (k : ℕ) → p + length is ≤ 1024
    → p ≤ k → k < p + length is → list_any (jumps_to k) code ≡ true
    → label_place (label k) p (before (listed (step_lines code) p is) []) ≡ Some k
label_found code p [] k few low high jumped = absurd (omega (arith, low, high))
label_found code p (i ∷ is) k few low high jumped =
    place_found (list_any (jumps_to p) code) p k
    (label_place (label k) (p + 1) (before (listed (step_lines code) (p + 1) is) []))
    (omega (arith, few)) (omega (arith, few, high)) (elim (eqb_tells p k) [
      | inl same ↦ inl (ap (λ x. list_any (jumps_to x) code) same.1 ∙ jumped, same.1)
      | inr other ↦
          let past : p + 1 ≤ k = by_other p k low other.1 in
          inr (
            other.1,
            label_found code (p + 1) is k (omega (arith, few)) past (omega (arith, high))
                jumped,
          )
    ])
  where
    by_other : (p k : ℕ) → p ≤ k → p ≢ k → p + 1 ≤ k
    by_other p k low other = grind (arith, low, other)

-- the instruction whose line it is
relinked : (i : Instr) (to q : ℕ) (f : Option ℕ) → IfSome (label_of i) (λ k. to ≡ k)
    → f ≡ completion_named i → IfSome (queue_named i) (λ k. q ≡ k)
    → with_queue (with_routine (with_label (unlinked i) to) f) q ≡ i
relinked (Jump k) to q f h g j = cc
relinked _ to q f h g j = cc

jump_found : (code : List Instr) (o : Option ℕ) → length code ≤ 1024 → IfSome o (IsTarget code)
    → IfSome o (λ k. jump_place (before (listed (step_lines code) 0 code) []) (option_map label o)
    ≡ k)
jump_found code None few h = tt
jump_found code (Some k) few h =
    let inside = h.inside in
    rw (label_found code 0 code k (omega (arith, few)) (omega arith)
    (omega (arith, inside)) h.jumped)
    refl

call_found : (d : Driver) (f : Option ℕ) → length d.routines ≤ 32
    → Served Completion (sorts_of d.routines) f
    → number_in (has_of d) Completion (option_map routine f) ≡ f
call_found d None few h = refl
call_found d (Some r) few h = routine_found d Completion r few h

queue_found : (d : Driver) (o : Option ℕ) → length d.queues ≤ 4
    → IfSome o (λ q. q < length d.queues)
    → IfSome o (λ k. queue_number (has_of d) (option_map queue o) ≡ k)
queue_found d None few h = tt
queue_found d (Some q) few h = rw (numbered_as 113 (length d.queues) q
    (omega (arith, few, h)) h) refl

instruction_found : (d : Driver) (code : List Instr) (i : Instr) → length code ≤ 1024
    → length d.routines ≤ 32 → length d.queues ≤ 4 → InstrKnown d code i
    → instruction_on (has_of d) (before (listed (step_lines code) 0 code) [])
    (TakeStep (Some (unlinked i)) (names_used i))
    ≡ Some i
instruction_found d code i few routines queues h =
    ap (λ x. Some x) (relinked i _ _ _ (jump_found code (label_of i) few h.label)
    (call_found d (completion_named i) routines h.routine)
    (queue_found d (queue_named i) queues h.queue))

code_found : (d : Driver) (code : List Instr) (p : ℕ) (is : List Instr) → length code ≤ 1024
    → length d.routines ≤ 32 → length d.queues ≤ 4 → All (InstrKnown d code) is
    → instructions_on (has_of d) (before (listed (step_lines code) 0 code) [])
    (before (listed (step_lines code) p is) []) ≡ is
code_found d code p [] few routines queues h = refl
code_found d code p (i ∷ is) few routines queues h =
    ap (λ o. option_to_list o ++ instructions_on (has_of d)
    (before (listed (step_lines code) 0 code) []) (before (listed (step_lines code) (p + 1) is) []))
    (instruction_found d code i few routines queues (All-head (InstrKnown d code) i is h))
    ∙ ap (λ xs. i ∷ xs) (code_found d code (p + 1) is few routines queues
    (All-tail (InstrKnown d code) i is h))

-- the lines of a routine end at its `endr`
ends_there : (code : List Instr) (p : ℕ) (is : List Instr) (rest : List Line)
    → code_lines (before (listed (step_lines code) p is) (meant line.EndRoutine ∷ rest))
    ≡ before (listed (step_lines code) p is) []
ends_there code p [] rest = refl
ends_there code p (i ∷ is) rest = ap (λ ls. meant (line.Step (label_at code p) i) ∷ ls)
    (ends_there code (p + 1) is rest)

routine_found_code : (d : Driver) (r : Routine) (rest : List Line) → length r.code ≤ 1024
    → length d.routines ≤ 32 → length d.queues ≤ 4 → All (InstrKnown d r.code) r.code
    → routine_code (has_of d)
    (before (listed (step_lines r.code) 0 r.code) (meant line.EndRoutine ∷ rest)) ≡ r.code
routine_found_code d r rest few routines queues h =
    ap (λ ls. instructions_on (has_of d) ls ls) (ends_there r.code 0 r.code rest)
    ∙ code_found d r.code 0 r.code few routines queues h

-- the codes of the routines of a driver
codes_found : (d : Driver) (k : ℕ) (rs : List Routine) (rest : List Line)
    → length d.routines ≤ 32 → length d.queues ≤ 4 → All RoutineFits rs
    → All (CallsFit d.routines) rs → All (QueuesFit (length d.queues)) rs
    → routine_codes (has_of d) (before (listed routine_lines k rs) (meant line.EndDriver ∷ rest))
    ≡ codes_of rs
codes_found d k [] rest routines queues fits calls uses = refl
codes_found d k (r ∷ rs) rest routines queues fits calls uses =
    let has = has_of d in
    let steps = listed (step_lines r.code) 0 r.code in
    let later = before (listed routine_lines (k + 1) rs) (meant line.EndDriver ∷ rest) in
    let one = All-head RoutineFits r rs fits in
    let known = all_known d r one (All-head (CallsFit d.routines) r rs calls)
    (All-head (QueuesFit (length d.queues)) r rs uses) in
    ap (λ ls. routine_codes has ls)
    (before_append (routine_lines k r) (listed routine_lines (k + 1) rs)
    (meant line.EndDriver ∷ rest))
    ∙ ap (λ ls. routine_code has ls ∷ routine_codes has ls)
    (before_append steps (line.EndRoutine ∷ []) later)
    ∙ ap (λ c. c ∷ routine_codes has (before steps (meant line.EndRoutine ∷ later)))
    (routine_found_code d r later one.few routines queues known)
    ∙ ap (λ cs. r.code ∷ cs)
    (steps_past (routine_codes has) (λ at i ls. refl) r.code _
    ∙ codes_found d (k + 1) rs rest routines queues (All-tail RoutineFits r rs fits)
    (All-tail (CallsFit d.routines) r rs calls) (All-tail (QueuesFit (length d.queues)) r rs uses))

has_there : (d : Driver) (rest : List Line)
    → inventory_ahead (before (driver_rest d) rest) ≡ has_of d
has_there d rest =
    let a = routines_there d rest in
    let b = sorts_there d rest in
    let c = queues_there d rest in
    rw (a, b, c) refl

driver_code_found : (d : Driver) (rest : List Line) → DriverFits d
    → driver_code (before (driver_rest d) rest) ≡ codes_of d.routines
driver_code_found d rest fits =
    let has = has_of d in
    ap (λ has. routine_codes has (before (driver_rest d) rest)) (has_there d rest)
    ∙ ap (λ ls. routine_codes has ls) (rest_split d rest)
    ∙ queues_past (routine_codes has) (λ k q ls. refl) d _
    ∙ table_past (routine_codes has) (λ major r ls. refl) (λ r c ls. refl) (λ r ls. refl) d _
    ∙ codes_found d 0 d.routines rest fits.few fits.few_queues fits.routines fits.calls fits.queues

-- lines that open no driver
abbrev IsWithin : Entry → Type 0
IsWithin e = IsPast driver_codes e

routines_within : (k : ℕ) (rs : List Routine) → Each IsWithin (listed routine_lines k rs)
routines_within k [] = tt
routines_within k (r ∷ rs) = (
  λ ls. refl,
  each_append IsWithin (listed (step_lines r.code) 0 r.code ++ line.EndRoutine ∷ []) _
      (each_append IsWithin (listed (step_lines r.code) 0 r.code) (line.EndRoutine ∷ [])
      (steps_each IsWithin (λ at i ls. refl) r.code 0 r.code) (λ ls. refl, tt))
      (routines_within (k + 1) rs),
)

rest_within : (d : Driver) → Each IsWithin (driver_rest d)
rest_within d =
    each_append IsWithin (listed queue_lines 0 d.queues) _
    (queues_each IsWithin (λ k q ls. refl) 0 d.queues)
    (each_append IsWithin (table_lines d) _
    (table_each IsWithin (λ major r ls. refl) (λ r c ls. refl) (λ r ls. refl) d)
    (each_append IsWithin (listed routine_lines 0 d.routines) _ (routines_within 0 d.routines)
    (λ ls. refl, tt)))

devices_within : (k : ℕ) (ds : List Device) → Each IsWithin (listed device_lines k ds)
devices_within k [] = tt
devices_within k (d ∷ ds) = (λ ls. refl, devices_within (k + 1) ds)

drivers_found : (k : ℕ) (ds : List Driver) (rest : List Line) → All DriverFits ds
    → driver_codes (before (listed driver_lines k ds) rest) ≡ all_codes ds ++ driver_codes rest
drivers_found k [] rest h = refl
drivers_found k (d ∷ ds) rest h =
    let later = before (listed driver_lines (k + 1) ds) rest in
    ap (λ ls. driver_codes ls) (before_append (driver_lines k d)
    (listed driver_lines (k + 1) ds) rest)
    ∙ ap (λ c. c ∷ driver_codes (before (driver_rest d) later))
    (driver_code_found d later (All-head DriverFits d ds h))
    ∙ ap (λ cs. codes_of d.routines ∷ cs)
    (looked_past driver_codes (driver_rest d) later (rest_within d)
    ∙ drivers_found (k + 1) ds rest (All-tail DriverFits d ds h))

-- the instructions on the lines of a listing are those of the set
pub listed_codes : (set : Set) → IsSound set
    → driver_codes (map meant (set_lines set)) ≡ all_codes set.drivers
listed_codes set h =
    let devices = listed device_lines 0 set.devices in
    ap (λ ls. driver_codes ls) (before_all (set_lines set)
    ∙ before_append (listed driver_lines 0 set.drivers) devices [])
    ∙ drivers_found 0 set.drivers (before devices []) h.drivers
    ∙ ap (λ cs. all_codes set.drivers ++ cs)
    (looked_past driver_codes devices [] (devices_within 0 set.devices))
    ∙ append-nil (all_codes set.drivers)
