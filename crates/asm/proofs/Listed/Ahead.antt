-- What the lines of a listing have ahead: the names and sorts of routines, the names of queues, and
-- labels.
use Rattle.std.proofs.Common.{◌≡◌, ◌≢◌, ℕ, ◌+◌, ◌<◌, ◌≤◌, Bool, true, false, ◌||◌, inl, inr, ◌⊎◌, List, [], ◌∷◌, ◌++◌, length, map, Option, Some, None, refl, ap, ◌∙◌, arith, append-nil}
use Rattle.std.specs.Prelude.{⊤, bytes_eq, option_map, option_to_list, if◌then◌else◌}
use Rattle.std.specs.List.{list_any}
use Rattle.std.proofs.Math.Bool.{or-true}
use Rattle.std.proofs.lemmas.Bool.Decides.{eqb_tells}
use Rattle.model.specs.declared.instr.Instr.{Instr}
use Rattle.model.specs.declared.set.Driver.{Driver}
use Rattle.model.specs.declared.set.Queue.{Queue}
use Rattle.model.specs.declared.set.Routine.{Routine}
use Rattle.model.specs.declared.status.Major.{Major}
use Rattle.model.specs.declared.status.Major.TheVariants.{Read, Write, Control}
use Rattle.asm_line.specs.declared.line.Line.{Line}
use Rattle.asm.specs.Outline.{is_among}
use Rattle.asm.proofs.Scopes.{labels_ahead, queues_ahead, routines_ahead, sorts_ahead}
use Rattle.asm_line.specs.declared.entry.Entry.{Entry}
use Rattle.asm_line.specs.declared.entry.Entry.TheVariants as line
use Rattle.asm_line.specs.ListedWords.{label, numbered}
use Rattle.asm_line.specs.Listing.{jumps_to, label_at, listed, naming, queue_lines, routine_lines, step_lines, table_lines}
use Rattle.asm_line.proofs.Digits.{IsSmall}
use Rattle.asm_line.proofs.Meaning.{meant}
use Rattle.asm.proofs.Listed.Names.{names_from, same_bytes}
use Rattle.asm.proofs.Listed.Sets.{sorts_of}

-- lines before others, by what they say
abbrev pub before : List Entry → List Line → List Line
before [] rest = rest
before (e ∷ es) rest = meant e ∷ before es rest

pub before_append : (es ds : List Entry) (rest : List Line)
    → before (es ++ ds) rest ≡ before es (before ds rest)
before_append [] ds rest = refl
before_append (e ∷ es) ds rest = ap (λ ls. meant e ∷ ls) (before_append es ds rest)

pub before_all : (es : List Entry) → map meant es ≡ before es []
before_all [] = refl
before_all (e ∷ es) = ap (λ ls. meant e ∷ ls) (before_all es)

abbrev pub Each : (Entry → Type 0) → List Entry → Type 0
Each P [] = ⊤
Each P (e ∷ es) = P e × Each P es

pub each_append : (P : Entry → Type 0) (es ds : List Entry) → Each P es → Each P ds
    → Each P (es ++ ds)
each_append P [] ds h k = k
each_append P (e ∷ es) ds h k = (h.0, each_append P es ds h.1 k)

pub steps_each : (P : Entry → Type 0) → ((at : Option ℕ) (i : Instr) → P (line.Step at i))
    → (code : List Instr) (p : ℕ) (is : List Instr) → Each P (listed (step_lines code) p is)
steps_each P each code p [] = tt
steps_each P each code p (i ∷ is) = (each (label_at code p) i, steps_each P each code (p + 1) is)

pub queues_each : (P : Entry → Type 0) → ((k : ℕ) (q : Queue) → P (line.Queue k q)) → (k : ℕ)
    (qs : List Queue) → Each P (listed queue_lines k qs)
queues_each P each k [] = tt
queues_each P each k (q ∷ qs) = (each k q, queues_each P each (k + 1) qs)

naming_each : (P : Entry → Type 0) (names : ℕ → Entry) (number : Option ℕ)
    → ((r : ℕ) → P (names r)) → Each P (naming names number)
naming_each P names None each = tt
naming_each P names (Some r) each = (each r, tt)

pub table_each : (P : Entry → Type 0) → ((major : Major) (r : ℕ) → P (line.Handler major r))
    → ((r : ℕ) (c : Option ℕ) → P (line.StartIo r c)) → ((r : ℕ) → P (line.Dpc r)) → (d : Driver)
    → Each P (table_lines d)
table_each P handler startio dpc d =
    each_append P (naming _ d.read) _ (naming_each P _ d.read (handler Read))
    (each_append P (naming _ d.write) _ (naming_each P _ d.write (handler Write))
    (each_append P (naming _ d.control) _ (naming_each P _ d.control (handler Control))
    (each_append P (naming _ d.startio) _
    (naming_each P _ d.startio (λ r. startio r d.startio_cancel))
    (naming_each P _ d.dpc dpc))))

-- a function looks past a line
abbrev pub IsPast : {X : Type 0} → (List Line → X) → Entry → Type 0
IsPast F e = (ls : List Line) → F (meant e ∷ ls) ≡ F ls

pub looked_past : {X : Type 0} (F : List Line → X) (es : List Entry) (rest : List Line)
    → Each (IsPast F) es → F (before es rest) ≡ F rest
looked_past F [] rest h = refl
looked_past F (e ∷ es) rest h = h.0 (before es rest) ∙ looked_past F es rest h.1

-- past the instructions of a routine, the queues of a driver, its table
pub steps_past : {X : Type 0} (F : List Line → X)
    → ((at : Option ℕ) (i : Instr) → IsPast F (line.Step at i)) → (code : List Instr)
    (rest : List Line) → F (before (listed (step_lines code) 0 code) rest) ≡ F rest
steps_past F one code rest =
    looked_past F (listed (step_lines code) 0 code) rest (steps_each (IsPast F) one code 0 code)

pub queues_past : {X : Type 0} (F : List Line → X)
    → ((k : ℕ) (q : Queue) → IsPast F (line.Queue k q)) → (d : Driver) (rest : List Line)
    → F (before (listed queue_lines 0 d.queues) rest) ≡ F rest
queues_past F one d rest =
    looked_past F (listed queue_lines 0 d.queues) rest (queues_each (IsPast F) one 0 d.queues)

pub table_past : {X : Type 0} (F : List Line → X)
    → ((major : Major) (r : ℕ) → IsPast F (line.Handler major r))
    → ((r : ℕ) (c : Option ℕ) → IsPast F (line.StartIo r c)) → ((r : ℕ) → IsPast F (line.Dpc r))
    → (d : Driver) (rest : List Line) → F (before (table_lines d) rest) ≡ F rest
table_past F handler startio dpc d rest =
    looked_past F (table_lines d) rest (table_each (IsPast F) handler startio dpc d)

-- the routines of a driver
routine_names : (k : ℕ) (rs : List Routine) (rest : List Line)
    → routines_ahead (before (listed routine_lines k rs) rest)
    ≡ names_from 102 k (length rs) ++ routines_ahead rest
routine_names k [] rest = refl
routine_names k (r ∷ rs) rest =
    let steps = listed (step_lines r.code) 0 r.code in
    let later = listed routine_lines (k + 1) rs in
    ap (λ ls. routines_ahead ls) (before_append (routine_lines k r) later rest)
    ∙ ap (λ ls. numbered 102 k ∷ routines_ahead ls)
    (before_append steps (line.EndRoutine ∷ []) (before later rest))
    ∙ ap (λ ns. numbered 102 k ∷ ns)
    (steps_past routines_ahead (λ at i ls. refl) r.code _
    ∙ routine_names (k + 1) rs rest)

routine_sorts : (k : ℕ) (rs : List Routine) (rest : List Line)
    → sorts_ahead (before (listed routine_lines k rs) rest) ≡ sorts_of rs ++ sorts_ahead rest
routine_sorts k [] rest = refl
routine_sorts k (r ∷ rs) rest =
    let steps = listed (step_lines r.code) 0 r.code in
    let later = listed routine_lines (k + 1) rs in
    ap (λ ls. sorts_ahead ls) (before_append (routine_lines k r) later rest)
    ∙ ap (λ ls. r.sort ∷ sorts_ahead ls)
    (before_append steps (line.EndRoutine ∷ []) (before later rest))
    ∙ ap (λ ns. r.sort ∷ ns)
    (steps_past sorts_ahead (λ at i ls. refl) r.code _
    ∙ routine_sorts (k + 1) rs rest)

-- they name no queue
routine_queues : (k : ℕ) (rs : List Routine) (rest : List Line)
    → queues_ahead (before (listed routine_lines k rs) rest) ≡ queues_ahead rest
routine_queues k [] rest = refl
routine_queues k (r ∷ rs) rest =
    let steps = listed (step_lines r.code) 0 r.code in
    let later = listed routine_lines (k + 1) rs in
    ap (λ ls. queues_ahead ls) (before_append (routine_lines k r) later rest)
    ∙ ap (λ ls. queues_ahead ls) (before_append steps (line.EndRoutine ∷ []) (before later rest))
    ∙ steps_past queues_ahead (λ at i ls. refl) r.code _
    ∙ routine_queues (k + 1) rs rest

queue_names : (k : ℕ) (qs : List Queue) (rest : List Line)
    → queues_ahead (before (listed queue_lines k qs) rest)
    ≡ names_from 113 k (length qs) ++ queues_ahead rest
queue_names k [] rest = refl
queue_names k (q ∷ qs) rest = ap (λ ns. numbered 113 k ∷ ns) (queue_names (k + 1) qs rest)

-- the lines of a driver behind its first
abbrev pub driver_rest : Driver → List Entry
driver_rest d =
    listed queue_lines 0 d.queues
    ++ (table_lines d ++ (listed routine_lines 0 d.routines ++ line.EndDriver ∷ []))

pub rest_split : (d : Driver) (rest : List Line) → before (driver_rest d) rest
    ≡ before (listed queue_lines 0 d.queues) (before (table_lines d)
    (before (listed routine_lines 0 d.routines) (meant line.EndDriver ∷ rest)))
rest_split d rest =
    let queues = listed queue_lines 0 d.queues in
    let routines = listed routine_lines 0 d.routines in
    before_append queues (table_lines d ++ (routines ++ line.EndDriver ∷ [])) rest
    ∙ ap (λ ls. before queues ls)
    (before_append (table_lines d) (routines ++ line.EndDriver ∷ []) rest
    ∙ ap (λ ls. before (table_lines d) ls) (before_append routines (line.EndDriver ∷ []) rest))

pub routines_there : (d : Driver) (rest : List Line)
    → routines_ahead (before (driver_rest d) rest) ≡ names_from 102 0 (length d.routines)
routines_there d rest =
    let routines = listed routine_lines 0 d.routines in
    ap (λ ls. routines_ahead ls) (rest_split d rest)
    ∙ queues_past routines_ahead (λ k q ls. refl) d _
    ∙ table_past routines_ahead (λ major r ls. refl) (λ r c ls. refl) (λ r ls. refl) d _
    ∙ routine_names 0 d.routines (meant line.EndDriver ∷ rest)
    ∙ append-nil (names_from 102 0 (length d.routines))

pub sorts_there : (d : Driver) (rest : List Line)
    → sorts_ahead (before (driver_rest d) rest) ≡ sorts_of d.routines
sorts_there d rest =
    let routines = listed routine_lines 0 d.routines in
    ap (λ ls. sorts_ahead ls) (rest_split d rest)
    ∙ queues_past sorts_ahead (λ k q ls. refl) d _
    ∙ table_past sorts_ahead (λ major r ls. refl) (λ r c ls. refl) (λ r ls. refl) d _
    ∙ routine_sorts 0 d.routines (meant line.EndDriver ∷ rest)
    ∙ append-nil (sorts_of d.routines)

pub queues_there : (d : Driver) (rest : List Line)
    → queues_ahead (before (driver_rest d) rest) ≡ names_from 113 0 (length d.queues)
queues_there d rest =
    ap (λ ls. queues_ahead ls) (rest_split d rest)
    ∙ queue_names 0 d.queues _
    ∙ ap (λ ns. names_from 113 0 (length d.queues) ++ ns)
    (table_past queues_ahead (λ major r ls. refl) (λ r c ls. refl) (λ r ls. refl) d _
    ∙ routine_queues 0 d.routines (meant line.EndDriver ∷ rest))
    ∙ append-nil (names_from 113 0 (length d.queues))

-- a position of the code that is jumped to
pub record IsTarget (code : List Instr) (k : ℕ) : Type 0 where
  pub inside : k < length code
  pub jumped : list_any (jumps_to k) code ≡ true

-- so its label is ahead
found_label : (b : Bool) (p k : ℕ) (after : List (List ℕ)) → IsSmall p → IsSmall k
    → ((b ≡ true) × (p ≡ k)) ⊎ (is_among after (label k) ≡ true)
    → is_among (option_to_list (option_map label (if b then Some p else None)) ++ after) (label k)
    ≡ true
found_label true p k after small fits (inl same) =
    rw (same.1, same_bytes (label k)) refl
found_label true p k after small fits (inr later) =
    ap (λ b. bytes_eq (label k) (label p) || b) later ∙ or-true (bytes_eq (label k) (label p))
found_label false p k after small fits (inl same) = let bad = same.0 in cc
found_label false p k after small fits (inr later) = later

pub label_there : (code : List Instr) (p : ℕ) (is : List Instr) (k : ℕ) (rest : List Line)
    → p + length is ≤ 1024 → p ≤ k → k < p + length is → list_any (jumps_to k) code ≡ true
    → is_among (labels_ahead (before (listed (step_lines code) p is) rest)) (label k) ≡ true
label_there code p [] k rest few low high jumped = absurd (omega (arith, low, high))
label_there code p (i ∷ is) k rest few low high jumped =
    found_label (list_any (jumps_to p) code) p k
    (labels_ahead (before (listed (step_lines code) (p + 1) is) rest)) (omega (arith, few))
    (omega (arith, few, high)) (elim (eqb_tells p k) [
      | inl same ↦
          inl (ap (λ x. list_any (jumps_to x) code) same.1 ∙ jumped, same.1)
      | inr other ↦
          let past : p + 1 ≤ k = by_other p k low other.1 in
          inr (label_there code (p + 1) is k rest (omega (arith, few)) past (omega (arith, high))
          jumped)
    ])
  where
    by_other : (p k : ℕ) → p ≤ k → p ≢ k → p + 1 ≤ k
    by_other p k low other = grind (arith, low, other)
