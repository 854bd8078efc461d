-- What a text lists is within the limits of a schedule.
use Rattle.std.proofs.Common.{◌≡◌, ℕ, ◌+◌, ◌≤◌, nat_le, true, Bool, List, [], ◌∷◌, ◌++◌, length, replicate, Option, Some, None, Result, Ok, Err, IfOk, IfSome, ◌&&◌, bytes_eq, codes, refl, if◌then◌else◌, arith, length-append}
use Rattle.std.proofs.lemmas.Bool.{and_parts, leb-true, cond_both}
use Rattle.std.proofs.lemmas.List.{length-replicate}
use Rattle.model.specs.declared.event.Event.{Event}
use Rattle.model.specs.declared.limits.TheConstants.{MAX_THREADS}
use Rattle.text.specs.Class.{is_number}
use Rattle.text.specs.Cut.{lines_of}
use Rattle.text.specs.Number.{number_in}
use Rattle.text.specs.declared.number.Numeral.{Numeral}
use Rattle.text.specs.declared.number.Numeral.TheVariants.{Other, TooLarge, Number}
use Rattle.interleave.specs.Line.{within, number_within, ranged, threads_line, opening_of, checked_tokens, and_then, opening_line, event_line}
use Rattle.interleave.specs.Listing.{lengthened, events_after, at_line, listing, with_threads, started, start, opened, opening, Lists, IsWithinLimits}
use Rattle.interleave.specs.declared.read.Repeated.{Repeated}
use Rattle.interleave.specs.declared.schedule.Schedule.{Schedule}
use Rattle.interleave.specs.declared.schedule.ScheduleFault.{ScheduleFault}
use Rattle.interleave.specs.declared.schedule.ScheduleKind.{ScheduleKind}
use Rattle.interleave.specs.declared.schedule.ScheduleKind.TheVariants.{UnknownWord, TooLong}

-- a fact of a result, where the test holds
if_ok : {A E : Type 0} (P : A → Type 0) (b : Bool) (r : Result A E) (e : E) → (b ≡ true → IfOk r P)
    → IfOk (if b then r else Err e) P
if_ok P b r e here = cond_both b r (Err e) (λ r. IfOk r P) here (λ other. tt)

-- a number that was read is within its range
within_bounds : (least most : ℕ) (n : Numeral)
    → IfSome (within least most n) (λ m. (least ≤ m) × (m ≤ most))
within_bounds least most (Number n) =
    cond_both (nat_le least n && nat_le n most) (Some n) None
    (λ o. IfSome o (λ m. (least ≤ m) × (m ≤ most)))
    (λ both. let parts = and_parts (nat_le least n) (nat_le n most) both
    in (leb-true least n parts.0, leb-true n most parts.1))
    (λ other. tt)
within_bounds least most TooLarge = tt
within_bounds least most Other = tt

-- a number of threads
abbrev pub IsThreads : Option ℕ → Type 0
IsThreads t = IfSome t (λ k. (1 ≤ k) × (k ≤ MAX_THREADS))

ranged_bounds : (t : Option ℕ) → IsThreads t → IfOk (ranged t) IsThreads
ranged_bounds None here = tt
ranged_bounds (Some k) here = here

threads_line_bounds : (operands : List (List ℕ)) → IfOk (threads_line operands) IsThreads
threads_line_bounds [] = tt
threads_line_bounds (count ∷ []) =
    if_ok IsThreads (is_number count) (ranged (number_within 1 MAX_THREADS count)) UnknownWord
    (λ _. ranged_bounds (number_within 1 MAX_THREADS count)
    (within_bounds 1 MAX_THREADS (number_in count)))
threads_line_bounds (count ∷ more ∷ rest) = tt

opening_bounds : (tokens : List (List ℕ)) → IfOk (opening_of tokens) IsThreads
opening_bounds [] = tt
opening_bounds (word ∷ operands) =
    if_ok IsThreads (bytes_eq word (codes "threads")) (threads_line operands) UnknownWord
    (λ _. threads_line_bounds operands)

and_then_bounds : {A B : Type 0} (P : B → Type 0) (next : A → Result B ScheduleKind)
    (r : Result A ScheduleKind) → ((a : A) → IfOk (next a) P) → IfOk (and_then next r) P
and_then_bounds P next (Ok a) later = later a
and_then_bounds P next (Err kind) later = tt

pub threads_bounds : (line : List ℕ) → IfOk (opening_line line) IsThreads
threads_bounds line = and_then_bounds IsThreads opening_of (checked_tokens line) opening_bounds

-- a line takes the events to 1,000,000 at most
lengthened_bound : (events : List Event) (r : Option Repeated) → length events ≤ 1000000
    → IfOk (lengthened events r) (λ more. length more ≤ 1000000)
lengthened_bound events None few = few
lengthened_bound events (Some r) few =
    let total = length events + r.count in
    let longer : length (events ++ replicate r.count r.event) ≡ total =
    simp (length-append, length-replicate) refl in
    if_ok (λ (more : List Event). length more ≤ 1000000) (nat_le total 1000000)
    (Ok (events ++ replicate r.count r.event)) TooLong
    (λ small. let most = leb-true total 1000000 small in omega (arith, longer))

after_bound : (events : List Event) (r : Result (Option Repeated) ScheduleKind)
    → length events ≤ 1000000
    → IfOk (and_then (lengthened events) r) (λ more. length more ≤ 1000000)
after_bound events (Ok r) few = lengthened_bound events r few
after_bound events (Err kind) few = tt

-- what follows a line, where it follows from what the line gives
line_bound : {A B : Type 0} (P : A → Type 0) (Q : B → Type 0) (n : ℕ) (r : Result A ScheduleKind)
    (next : A → Result B ScheduleFault)
    → IfOk r P → ((a : A) → P a → IfOk (next a) Q) → IfOk (at_line n r next) Q
line_bound P Q n (Ok a) next here later = later a here
line_bound P Q n (Err kind) next here later = tt

listing_bound : (events : List Event) (n : ℕ) (lines : List (List ℕ)) → length events ≤ 1000000
    → IfOk (listing events n lines) (λ more. length more ≤ 1000000)
listing_bound events n [] few = few
listing_bound events n (line ∷ lines) few =
    line_bound (λ (more : List Event). length more ≤ 1000000)
    (λ (more : List Event). length more ≤ 1000000) n (events_after events line)
    (λ more. listing more (n + 1) lines)
    (after_bound events (event_line line) few)
    (λ more short. listing_bound more (n + 1) lines short)

threads_within : (k : ℕ) (r : Result (List Event) ScheduleFault) → 1 ≤ k → k ≤ MAX_THREADS
    → IfOk r (λ events. length events ≤ 1000000) → IfOk (with_threads k r) IsWithinLimits
threads_within k (Ok events) some most few =
    record { some_threads = some; most_threads = most; most_events = few }
threads_within k (Err fault) some most few = tt

opened_within : (n : ℕ) (lines : List (List ℕ)) (t : Result (Option ℕ) ScheduleKind)
    → IfOk t IsThreads → IfOk (opening (n + 1) lines) IsWithinLimits
    → IfOk (opened (at_line n t (λ threads. started n lines threads (start (n + 1) lines))))
    IsWithinLimits
opened_within n lines (Ok (Some k)) here there =
    threads_within k (listing [] (n + 1) lines) here.0 here.1
    (listing_bound [] (n + 1) lines (omega arith))
opened_within n lines (Ok None) here there = there
opened_within n lines (Err kind) here there = tt

opening_within : (n : ℕ) (lines : List (List ℕ)) → IfOk (opening n lines) IsWithinLimits
opening_within n [] = tt
opening_within n (line ∷ lines) =
    opened_within n lines (opening_line line) (threads_bounds line) (opening_within (n + 1) lines)

-- a schedule that a text lists is within the limits
pub listed_within : (text : List ℕ) (schedule : Schedule) → Lists text schedule
    → IsWithinLimits schedule
listed_within text schedule lists = rw lists at (opening_within 1 (lines_of text))
