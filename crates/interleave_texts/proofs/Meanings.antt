-- A text is read as what it says.
use Rattle.std.proofs.Common.{◌≡◌, ℕ, ◌+◌, ◌<◌, ◌≤◌, nat_lt, true, false, Bool, List, [], ◌∷◌, ◌++◌, length, Option, Some, None, Result, Ok, Err, refl, sym, ap, subst, ◌↔◌, ◌∙◌, if◌then◌else◌, arith, length-append, append_assoc}
use Rattle.std.proofs.lemmas.Bool.{lt-ltb}
use Rattle.std.proofs.lemmas.List.{append-nil}
use Rattle.model.specs.declared.history.Command.{Command}
use Rattle.text.specs.Cut.{lines_of}
use Rattle.interleave.specs.Line.{and_then}
use Rattle.interleave.specs.Listing.{at_line}
use Rattle.interleave.specs.declared.schedule.ScheduleFault.{ScheduleFault}
use Rattle.interleave.specs.declared.schedule.ScheduleKind.{ScheduleKind}
use Rattle.interleave.specs.declared.schedule.ScheduleKind.TheVariants.{TooLong}
use Rattle.interleave_texts.specs.Script.{command_line, commands_after, lengthened, listing, script_in}
use Rattle.interleave_texts.proofs.Cancels.{script_good}
use Rattle.interleave_texts.specs.Meaning.{IsFirstFault, IsScript, Tell, given}

-- the rest of the commands, as the lines tell them
abbrev Told : List Command → List (List ℕ) → List Command → Type 0
Told before lines all = (rest : List Command) × (all ≡ before ++ rest) × Tell before lines rest

told_some : (before : List Command) (n : ℕ) (line : List ℕ) (lines : List (List ℕ))
    (all : List Command) (c : Command) (b : Bool) → command_line before line ≡ Ok (Some c)
    → at_line n (if b then Ok (before ++ c ∷ []) else Err TooLong)
    (λ more. listing more (n + 1) lines) ≡ Ok all
    → ((more : List Command) → listing more (n + 1) lines ≡ Ok all → Told more lines all)
    → Told before (line ∷ lines) all
told_some before n line lines all c true is e later =
    let told = later (before ++ c ∷ []) e in (
      c ∷ told.0,
      told.1 ∙ append_assoc before (c ∷ []) told.0,
      (Some c, told.0, is, refl, told.2),
    )
told_some before n line lines all c false is e later = let no : ⊥ = cc in absurd no

told_line : (before : List Command) (n : ℕ) (line : List ℕ) (lines : List (List ℕ))
    (all : List Command) (r : Result (Option Command) ScheduleKind) → command_line before line ≡ r
    → at_line n (and_then (lengthened before) r) (λ more. listing more (n + 1) lines) ≡ Ok all
    → ((more : List Command) → listing more (n + 1) lines ≡ Ok all → Told more lines all)
    → Told before (line ∷ lines) all
told_line before n line lines all (Ok (Some c)) is e later =
    told_some before n line lines all c (nat_lt (length before) 65536) is e later
told_line before n line lines all (Ok None) is e later =
    let told = later before e in
    let tells : Tell (before ++ []) lines told.0 =
    subst (λ (b : List Command). Tell b lines told.0) (sym (append-nil before)) told.2 in
    (told.0, told.1, (None, told.0, is, refl, tells))
told_line before n line lines all (Err kind) is e later = let no : ⊥ = cc in absurd no

told : (before : List Command) (n : ℕ) (lines : List (List ℕ)) (all : List Command)
    → listing before n lines ≡ Ok all → Told before lines all
told before n [] all e = let same : before ≡ all =
    cc in ([], sym same ∙ sym (append-nil before), refl)
told before n (line ∷ lines) all e =
    told_line before n line lines all (command_line before line) refl e
    (λ more m. told more (n + 1) lines all m)

-- what lines tell is listed
listed_line : (before : List Command) (n : ℕ) (lines : List (List ℕ)) (c : Option Command)
    (rest : List Command) → length before + length (given c ++ rest) ≤ 65536
    → (length (before ++ given c) + length rest ≤ 65536
    → listing (before ++ given c) (n + 1) lines ≡ Ok ((before ++ given c) ++ rest))
    → at_line n (lengthened before c) (λ more. listing more (n + 1) lines)
    ≡ Ok (before ++ (given c ++ rest))
listed_line before n lines None rest few later =
    subst (λ (b : List Command). length b + length rest ≤ 65536
    → listing b (n + 1) lines ≡ Ok (b ++ rest)) (append-nil before) later few
listed_line before n lines (Some c) rest few later =
    let more : length (before ++ c ∷ []) ≡ length before + 1 = length-append before (c ∷ []) in
    let fits : length before < 65536 = omega arith in
    let next = later (omega arith) in
    rw (lt-ltb (length before) 65536 fits) (next ∙ ap Ok (append_assoc before (c ∷ []) rest))

listed : (before : List Command) (n : ℕ) (lines : List (List ℕ)) (rest : List Command)
    → Tell before lines rest → length before + length rest ≤ 65536
    → listing before n lines ≡ Ok (before ++ rest)
listed before n [] rest tells few = rw (tells, append-nil before) refl
listed before n (line ∷ lines) rest (c, after, is, same, tells) few =
    rw (is, same)
    (listed_line before n lines c after (rw same at few)
    (λ short. listed (before ++ given c) (n + 1) lines after tells short))

-- the commands that are read are those that the text gives
pub meaning : (text : List ℕ) (commands : List Command)
    → (script_in text ≡ Ok commands) ↔ IsScript text commands
meaning text commands = (
  λ lists. let all = told [] 1 (lines_of text) commands lists in
      record {
        tells = subst (Tell [] (lines_of text)) (sym all.1) all.2;
        few = (script_good text commands lists).few;
      },
  λ m. listed [] 1 (lines_of text) commands m.tells (omega (arith, m.few)),
)

-- the first of these lines that is faulty after these commands
abbrev FaultAfter : List Command → ℕ → List (List ℕ) → ScheduleFault → Type 0
FaultAfter before n lines f =
    (good : List (List ℕ)) × (line : List ℕ) × (rest : List (List ℕ)) × (told : List Command)
    × (lines ≡ good ++ line ∷ rest) × Tell before good told
    × (commands_after (before ++ told) line ≡ Err f.kind) × (f.line ≡ n + length good)

fault_here : (before : List Command) (n : ℕ) (line : List ℕ) (lines : List (List ℕ))
    (f : ScheduleFault) (kind : ScheduleKind) → commands_after before line ≡ Err kind
    → record { line = n; kind = kind } ≡ f → FaultAfter before n (line ∷ lines) f
fault_here before n line lines f kind is same =
    let P : ScheduleFault → Type 0 = FaultAfter before n (line ∷ lines) in
    let here : commands_after (before ++ []) line ≡ Err kind = rw (append-nil before) is in
    subst P same ([], line, lines, [], refl, refl, here, omega arith)

-- a good line, and then a fault
fault_later : (before : List Command) (n : ℕ) (line : List ℕ) (lines : List (List ℕ))
    (f : ScheduleFault) (c : Option Command) → command_line before line ≡ Ok c
    → FaultAfter (before ++ given c) (n + 1) lines f → FaultAfter before n (line ∷ lines) f
fault_later before n line lines f c is (good, at, rest, told, parts, tells, faulty, number) =
    let here : commands_after (before ++ (given c ++ told)) at ≡ Err f.kind =
    rw (sym (append_assoc before (given c) told)) faulty in (
      line ∷ good,
      at,
      rest,
      given c ++ told,
      ap (λ t. line ∷ t) parts,
      (c, told, is, refl, tells),
      here,
      omega (arith, number),
    )

fault_some : (before : List Command) (n : ℕ) (line : List ℕ) (lines : List (List ℕ))
    (f : ScheduleFault) (c : Command) (b : Bool) → command_line before line ≡ Ok (Some c)
    → nat_lt (length before) 65536 ≡ b
    → at_line n (if b then Ok (before ++ c ∷ []) else Err TooLong)
    (λ more. listing more (n + 1) lines) ≡ Err f
    → ((more : List Command) → listing more (n + 1) lines ≡ Err f → FaultAfter more (n + 1) lines f)
    → FaultAfter before n (line ∷ lines) f
fault_some before n line lines f c true is test e later =
    fault_later before n line lines f (Some c) is (later (before ++ c ∷ []) e)
fault_some before n line lines f c false is test e later =
    fault_here before n line lines f TooLong (rw (is, test) refl) (cc)

fault_line : (before : List Command) (n : ℕ) (line : List ℕ) (lines : List (List ℕ))
    (f : ScheduleFault) (r : Result (Option Command) ScheduleKind) → command_line before line ≡ r
    → at_line n (and_then (lengthened before) r) (λ more. listing more (n + 1) lines) ≡ Err f
    → ((more : List Command) → listing more (n + 1) lines ≡ Err f → FaultAfter more (n + 1) lines f)
    → FaultAfter before n (line ∷ lines) f
fault_line before n line lines f (Ok (Some c)) is e later =
    fault_some before n line lines f c (nat_lt (length before) 65536) is refl e later
fault_line before n line lines f (Ok None) is e later =
    let P : List Command → Type 0 = λ (b : List Command). FaultAfter b (n + 1) lines f in
    fault_later before n line lines f None is (subst P (sym (append-nil before)) (later before e))
fault_line before n line lines f (Err kind) is e later =
    fault_here before n line lines f kind (rw is refl) (cc)

fault_told : (before : List Command) (n : ℕ) (lines : List (List ℕ)) (f : ScheduleFault)
    → listing before n lines ≡ Err f → FaultAfter before n lines f
fault_told before n [] f e = let no : ⊥ = cc in absurd no
fault_told before n (line ∷ lines) f e =
    fault_line before n line lines f (command_line before line) refl e
    (λ more m. fault_told more (n + 1) lines f m)

-- the fault that is read is the first of the text
pub first_fault : (text : List ℕ) (fault : ScheduleFault) → script_in text ≡ Err fault
    → IsFirstFault text fault
first_fault text fault e =
    let at = fault_told [] 1 (lines_of text) fault e in
    record {
      before = at.0;
      line = at.1;
      rest = at.2;
      commands = at.3;
      parts = at.4;
      tells = at.5;
      faulty = at.6;
      number = omega (arith, at.7);
    }
