-- A text is read as what it says.
use Rattle.std.proofs.Common.{◌≡◌, ℕ, ◌+◌, ◌≤◌, nat_le, true, false, Bool, List, [], ◌∷◌, ◌++◌, length, replicate, All, Option, Some, None, Result, Ok, Err, refl, sym, ap, subst, ◌↔◌, ◌∙◌, if◌then◌else◌, arith, length-append, append_assoc}
use Rattle.std.proofs.lemmas.Bool.{le-leb}
use Rattle.std.proofs.lemmas.List.{append-nil, length-replicate}
use Rattle.std.proofs.lemmas.List.Elements.{All-nil, All-cons, All-head, All-tail}
use Rattle.model.specs.declared.event.Event.{Event}
use Rattle.text.specs.Cut.{lines_of}
use Rattle.interleave.specs.Line.{and_then, opening_line, event_line}
use Rattle.interleave.specs.Listing.{lengthened, events_after, at_line, listing, with_threads, started, start, opened, opening, schedule_in, Lists}
use Rattle.interleave.specs.Meaning.{times, Tell, IsBlank, Opens, IsListing, IsFirstFault, Blank, InOpening, InEvents}
use Rattle.interleave.specs.declared.read.Repeated.{Repeated}
use Rattle.interleave.specs.declared.schedule.Schedule.{Schedule}
use Rattle.interleave.specs.declared.schedule.ScheduleFault.{ScheduleFault}
use Rattle.interleave.specs.declared.schedule.ScheduleKind.{ScheduleKind}
use Rattle.interleave.specs.declared.schedule.ScheduleKind.TheVariants.{UnknownWord, TooLong}
use Rattle.interleave.proofs.Limits.{listed_within}

-- the rest of the events, as the lines tell them
abbrev Told : List Event → List (List ℕ) → List Event → Type 0
Told events lines all = (rest : List Event) × (all ≡ events ++ rest) × Tell lines rest

told_some : (events : List Event) (n : ℕ) (line : List ℕ) (lines : List (List ℕ)) (all : List Event)
    (r : Repeated) (b : Bool) → event_line line ≡ Ok (Some r)
    → at_line n (if b then Ok (events ++ replicate r.count r.event) else Err TooLong)
    (λ more. listing more (n + 1) lines) ≡ Ok all
    → ((more : List Event) → listing more (n + 1) lines ≡ Ok all → Told more lines all)
    → Told events (line ∷ lines) all
told_some events n line lines all r true is e later =
    let told = later (events ++ replicate r.count r.event) e in (
      replicate r.count r.event ++ told.0,
      told.1
          ∙ append_assoc events (replicate r.count r.event) told.0,
      (Some r, told.0, is, refl, told.2),
    )
told_some events n line lines all r false is e later = let no : ⊥ = cc in absurd no

told_line : (events : List Event) (n : ℕ) (line : List ℕ) (lines : List (List ℕ)) (all : List Event)
    (r : Result (Option Repeated) ScheduleKind) → event_line line ≡ r
    → at_line n (and_then (lengthened events) r) (λ more. listing more (n + 1) lines) ≡ Ok all
    → ((more : List Event) → listing more (n + 1) lines ≡ Ok all → Told more lines all)
    → Told events (line ∷ lines) all
told_line events n line lines all (Ok (Some r)) is e later =
    told_some events n line lines all r (nat_le (length events + r.count) 1000000) is e later
told_line events n line lines all (Ok None) is e later = let told =
    later events e in (told.0, told.1, (None, told.0, is, refl, told.2))
told_line events n line lines all (Err kind) is e later = let no : ⊥ = cc in absurd no

told : (events : List Event) (n : ℕ) (lines : List (List ℕ)) (all : List Event)
    → listing events n lines ≡ Ok all → Told events lines all
told events n [] all e = let same : events ≡ all =
    cc in ([], sym same ∙ sym (append-nil events), refl)
told events n (line ∷ lines) all e =
    told_line events n line lines all (event_line line) refl e
    (λ more m. told more (n + 1) lines all m)

-- what lines tell is listed
listed_line : (events : List Event) (n : ℕ) (lines : List (List ℕ)) (r : Option Repeated)
    (rest : List Event) → length events + length (times r ++ rest) ≤ 1000000
    → ((more : List Event) → length more + length rest ≤ 1000000
    → listing more (n + 1) lines ≡ Ok (more ++ rest))
    → at_line n (lengthened events r) (λ more. listing more (n + 1) lines)
    ≡ Ok (events ++ (times r ++ rest))
listed_line events n lines None rest few later = later events few
listed_line events n lines (Some r) rest few later =
    let here = replicate r.count r.event in
    let long : length here ≡ r.count = length-replicate r.count r.event in
    let both : length (here ++ rest) ≡ length here + length rest = length-append here rest in
    let more : length (events ++ here) ≡ length events + length here = length-append events here in
    let fits : length events + r.count ≤ 1000000 = omega arith in
    let next = later (events ++ here) (omega arith) in
    rw (le-leb (length events + r.count) 1000000 fits)
    (next ∙ ap Ok (append_assoc events here rest))

listed : (events : List Event) (n : ℕ) (lines : List (List ℕ)) (rest : List Event) → Tell lines rest
    → length events + length rest ≤ 1000000
    → listing events n lines ≡ Ok (events ++ rest)
listed events n [] rest tells few = rw (tells, append-nil events) refl
listed events n (line ∷ lines) rest (r, after, is, same, tells) few =
    rw (is, same)
    (listed_line events n lines r after (rw same at few)
    (λ more short. listed more (n + 1) lines after tells short))

-- the lines open with the threads of the schedule, and tell its events
abbrev Opened : List (List ℕ) → Schedule → Type 0
Opened lines s = (blanks : List (List ℕ)) × (rest : List (List ℕ))
    × Opens lines blanks s.threads rest × Tell rest s.events

opened_told : (n : ℕ) (line : List ℕ) (lines : List (List ℕ)) (s : Schedule) (k : ℕ)
    (r : Result (List Event) ScheduleFault) → opening_line line ≡ Ok (Some k)
    → listing [] (n + 1) lines ≡ r → with_threads k r ≡ Ok s → Opened (line ∷ lines) s
opened_told n line lines s k (Ok events) is was e =
    let same : record { threads = k; events = events } ≡ s = cc in
    let rest = told [] (n + 1) lines events was in
    let tells : Tell lines events = subst (Tell lines) (sym rest.1) rest.2 in
    let P : Schedule → Type 0 = Opened (line ∷ lines) in
    subst P same (
      [],
      lines,
      record { line = line; parts = refl; blank = All-nil IsBlank; says = is },
      tells,
    )
opened_told n line lines s k (Err fault) is was e = let no : ⊥ = cc in absurd no

told_opening : (n : ℕ) (line : List ℕ) (lines : List (List ℕ)) (s : Schedule)
    (t : Result (Option ℕ) ScheduleKind) → opening_line line ≡ t
    → opened (at_line n t (λ threads. started n lines threads (start (n + 1) lines))) ≡ Ok s
    → (opening (n + 1) lines ≡ Ok s → Opened lines s) → Opened (line ∷ lines) s
told_opening n line lines s (Ok (Some k)) is e later =
    opened_told n line lines s k (listing [] (n + 1) lines) is refl e
told_opening n line lines s (Ok None) is e later =
    let o = later e in (
      line ∷ o.0,
      o.1,
      record {
        line = o.2.line;
        parts = ap (λ t. line ∷ t) o.2.parts;
        blank =
            All-cons IsBlank line o.0 is o.2.blank;
        says = o.2.says;
      },
      o.3,
    )
told_opening n line lines s (Err kind) is e later = let no : ⊥ = cc in absurd no

opening_told : (n : ℕ) (lines : List (List ℕ)) (s : Schedule) → opening n lines ≡ Ok s
    → Opened lines s
opening_told n [] s e = let no : ⊥ = cc in absurd no
opening_told n (line ∷ lines) s e =
    told_opening n line lines s (opening_line line) refl e (opening_told (n + 1) lines s)

opening_listed : (n : ℕ) (blanks : List (List ℕ)) (line : List ℕ) (rest : List (List ℕ))
    (s : Schedule) → All IsBlank blanks → opening_line line ≡ Ok (Some s.threads)
    → Tell rest s.events → length s.events ≤ 1000000 → opening n (blanks ++ line ∷ rest) ≡ Ok s
opening_listed n [] line rest s blank is tells few =
    rw (is, listed [] (n + 1) rest s.events tells (omega arith)) refl
opening_listed n (b ∷ blanks) line rest s blank is tells few =
    rw (All-head IsBlank b blanks blank)
    (opening_listed (n + 1) blanks line rest s (All-tail IsBlank b blanks blank) is tells few)

-- the schedule that is read is the one that the text gives
pub meaning : (text : List ℕ) (schedule : Schedule) → Lists text schedule ↔ IsListing text schedule
meaning text s = (
  λ lists. let o = opening_told 1 (lines_of text) s lists in
      record {
        blanks = o.0;
        rest = o.1;
        opens = o.2;
        tells = o.3;
        few =
            (listed_within text s lists).most_events;
      },
  λ m. rw m.opens.parts
      (opening_listed 1 m.blanks m.opens.line m.rest s m.opens.blank m.opens.says m.tells m.few),
)

-- the first of these lines that is faulty after these events
abbrev FaultAfter : List Event → ℕ → List (List ℕ) → ScheduleFault → Type 0
FaultAfter events n lines f =
    (before : List (List ℕ)) × (line : List ℕ) × (rest : List (List ℕ)) × (told : List Event)
    × (lines ≡ before ++ line ∷ rest) × Tell before told
    × (events_after (events ++ told) line ≡ Err f.kind) × (f.line ≡ n + length before)

fault_here : (events : List Event) (n : ℕ) (line : List ℕ) (lines : List (List ℕ))
    (f : ScheduleFault) (kind : ScheduleKind) → events_after events line ≡ Err kind
    → record { line = n; kind = kind } ≡ f → FaultAfter events n (line ∷ lines) f
fault_here events n line lines f kind is same =
    let P : ScheduleFault → Type 0 = FaultAfter events n (line ∷ lines) in
    let here : events_after (events ++ []) line ≡ Err kind = rw (append-nil events) is in
    subst P same ([], line, lines, [], refl, refl, here, omega arith)

fault_some : (events : List Event) (n : ℕ) (line : List ℕ) (lines : List (List ℕ))
    (f : ScheduleFault) (r : Repeated) (b : Bool) → event_line line ≡ Ok (Some r)
    → nat_le (length events + r.count) 1000000 ≡ b
    → at_line n (if b then Ok (events ++ replicate r.count r.event) else Err TooLong)
    (λ more. listing more (n + 1) lines) ≡ Err f
    → ((more : List Event) → listing more (n + 1) lines ≡ Err f → FaultAfter more (n + 1) lines f)
    → FaultAfter events n (line ∷ lines) f
fault_some events n line lines f r true is test e later =
    let here = replicate r.count r.event in
    let o = later (events ++ here) e in
    let faulty : events_after (events ++ (here ++ o.3)) o.1 ≡ Err f.kind =
    rw (sym (append_assoc events here o.3)) o.6 in (
      line ∷ o.0,
      o.1,
      o.2,
      here ++ o.3,
      ap (λ t. line ∷ t) o.4,
      (Some r, o.3, is, refl, o.5),
      faulty,
      omega (arith, o.7),
    )
fault_some events n line lines f r false is test e later =
    fault_here events n line lines f TooLong (rw (is, test) refl) (cc)

fault_line : (events : List Event) (n : ℕ) (line : List ℕ) (lines : List (List ℕ))
    (f : ScheduleFault) (r : Result (Option Repeated) ScheduleKind) → event_line line ≡ r
    → at_line n (and_then (lengthened events) r) (λ more. listing more (n + 1) lines) ≡ Err f
    → ((more : List Event) → listing more (n + 1) lines ≡ Err f → FaultAfter more (n + 1) lines f)
    → FaultAfter events n (line ∷ lines) f
fault_line events n line lines f (Ok (Some r)) is e later =
    fault_some events n line lines f r (nat_le (length events + r.count) 1000000) is refl e later
fault_line events n line lines f (Ok None) is e later =
    let o = later events e
    in (
      line ∷ o.0,
      o.1,
      o.2,
      o.3,
      ap (λ t. line ∷ t) o.4,
      (None, o.3, is, refl, o.5),
      o.6,
      omega (arith, o.7),
    )
fault_line events n line lines f (Err kind) is e later =
    fault_here events n line lines f kind (rw is refl) (cc)

fault_told : (events : List Event) (n : ℕ) (lines : List (List ℕ)) (f : ScheduleFault)
    → listing events n lines ≡ Err f → FaultAfter events n lines f
fault_told events n [] f e = let no : ⊥ = cc in absurd no
fault_told events n (line ∷ lines) f e =
    fault_line events n line lines f (event_line line) refl e
    (λ more m. fault_told more (n + 1) lines f m)

-- a fault after a blank line
later_fault : (n : ℕ) (line : List ℕ) (lines : List (List ℕ)) (f : ScheduleFault) → IsBlank line
    → IsFirstFault (n + 1) lines f → IsFirstFault n (line ∷ lines) f
later_fault n line lines f is (Blank all same) =
    let number : n + 1 + length lines ≡ n + length (line ∷ lines) = omega arith in
    Blank (All-cons IsBlank line lines is all)
    (same ∙ ap (λ m. record { line = m; kind = UnknownWord }) number)
later_fault n line lines f is (InOpening blanks at rest parts blank faulty number) =
    InOpening (line ∷ blanks) at rest (ap (λ t. line ∷ t) parts)
    (All-cons IsBlank line blanks is blank) faulty (omega arith)
later_fault n line lines f is
    (InEvents blanks before at rest threads events opens tells faulty number) =
    InEvents (line ∷ blanks) before at rest threads events
    (record {
      line = opens.line;
      parts = ap (λ t. line ∷ t) opens.parts;
      blank =
          All-cons IsBlank line blanks is opens.blank;
      says = opens.says;
    }) tells faulty (omega arith)

in_events : (n : ℕ) (line : List ℕ) (lines : List (List ℕ)) (f : ScheduleFault) (k : ℕ)
    → opening_line line ≡ Ok (Some k) → FaultAfter [] (n + 1) lines f
    → IsFirstFault n (line ∷ lines) f
in_events n line lines f k is (before, at, rest, told, parts, tells, faulty, number) =
    InEvents [] before at rest k told
    (record {
      line = line;
      parts = ap (λ t. line ∷ t) parts;
      blank = All-nil IsBlank;
      says =
          is;
    }) tells faulty (omega arith)

events_fault : (n : ℕ) (line : List ℕ) (lines : List (List ℕ)) (f : ScheduleFault) (k : ℕ)
    (r : Result (List Event) ScheduleFault) → opening_line line ≡ Ok (Some k)
    → listing [] (n + 1) lines ≡ r → with_threads k r ≡ Err f → IsFirstFault n (line ∷ lines) f
events_fault n line lines f k (Ok events) is was e = let no : ⊥ = cc in absurd no
events_fault n line lines f k (Err g) is was e =
    let same : g ≡ f =
    cc in in_events n line lines f k is (fault_told [] (n + 1) lines f (rw same at was))

fault_opening : (n : ℕ) (line : List ℕ) (lines : List (List ℕ)) (f : ScheduleFault)
    (t : Result (Option ℕ) ScheduleKind) → opening_line line ≡ t
    → opened (at_line n t (λ threads. started n lines threads (start (n + 1) lines))) ≡ Err f
    → (opening (n + 1) lines ≡ Err f → IsFirstFault (n + 1) lines f)
    → IsFirstFault n (line ∷ lines) f
fault_opening n line lines f (Ok (Some k)) is e later =
    events_fault n line lines f k (listing [] (n + 1) lines) is refl e
fault_opening n line lines f (Ok None) is e later = later_fault n line lines f is (later e)
fault_opening n line lines f (Err kind) is e later =
    let same : record { line = n; kind = kind } ≡ f = cc in
    let P : ScheduleFault → Type 0 = IsFirstFault n (line ∷ lines) in
    subst P same (InOpening [] line lines refl (All-nil IsBlank) is (omega arith))

opening_fault : (n : ℕ) (lines : List (List ℕ)) (f : ScheduleFault) → opening n lines ≡ Err f
    → IsFirstFault n lines f
opening_fault n [] f e =
    let same : record { line = n; kind = UnknownWord } ≡ f = cc in
    let number : n ≡ n + 0 = omega arith in
    Blank (All-nil IsBlank) (sym same ∙ ap (λ m. record { line = m; kind = UnknownWord }) number)
opening_fault n (line ∷ lines) f e =
    fault_opening n line lines f (opening_line line) refl e (opening_fault (n + 1) lines f)

-- the fault that is read is the first of the text
pub first_fault : (text : List ℕ) (fault : ScheduleFault) → schedule_in text ≡ Err fault
    → IsFirstFault 1 (lines_of text) fault
first_fault text fault e = opening_fault 1 (lines_of text) fault e
