-- Each cancel of a script names an earlier request of it, and a script has 65,536 commands at most.
use Rattle.std.proofs.Common.{◌≡◌, ℕ, zero, suc, ◌+◌, ◌^◌, ◌-◌, ◌≤◌, ◌⊎◌, inl, inr, ⊎_elim, nat_lt, true, Bool, List, [], ◌∷◌, ◌++◌, length, Option, Some, None, Result, Ok, Err, ◌&&◌, bytes_eq, codes, refl, ap, subst, if◌then◌else◌, arith, length-append}
use Rattle.std.specs.Prelude.{⊤, IfOk, IfSome, slice_get, option_and_then}
use Rattle.std.proofs.lemmas.Bool.{cond_both, ltb-true}
use Rattle.std.proofs.lemmas.Option.{get_or_from_slice_get, slice_get_within}
use Rattle.model.specs.declared.history.Command.{Command}
use Rattle.model.specs.declared.history.Command.TheVariants.{Request, Cancel, Interrupt}
use Rattle.model.specs.declared.history.Name.{Name}
use Rattle.model.specs.declared.status.Major.{Major}
use Rattle.text.specs.Class.{is_number}
use Rattle.text.specs.Cut.{lines_of}
use Rattle.text.specs.Major.{major_of}
use Rattle.interleave.specs.Line.{and_then, checked_tokens, number_within, ranged}
use Rattle.interleave.specs.Listing.{at_line}
use Rattle.interleave.specs.declared.schedule.ScheduleFault.{ScheduleFault}
use Rattle.interleave.specs.declared.schedule.ScheduleKind.{ScheduleKind}
use Rattle.interleave.specs.declared.schedule.ScheduleKind.TheVariants.{UnknownWord, TooLong}
use Rattle.interleave_texts.specs.Script.{cancel_line, cancelling, cancels, command_line, command_of, commands_after, interrupt_line, interrupts, interruption, lengthened, listing, name_at, named, request, request_as, request_line, requests, script_in}
use Rattle.interleave_texts.specs.Meaning.{CancelsEarlier, IsOfEarlier}

-- where commands stand in a longer list
get_left : (commands : List Command) (i : ℕ) (x c : Command) → slice_get commands i ≡ Some x
    → slice_get (commands ++ c ∷ []) i ≡ Some x
get_left [] i x c h = cc
get_left (first ∷ commands) zero x c h = h
get_left (first ∷ commands) (suc i) x c h = get_left commands i x c h

get_push : (commands : List Command) (c x : Command) (i : ℕ)
    → slice_get (commands ++ c ∷ []) i ≡ Some x
    → (slice_get commands i ≡ Some x) ⊎ ((i ≡ length commands) × (c ≡ x))
get_push [] c x zero e = inr (refl, get_or_from_slice_get (c ∷ []) 0 x c e)
get_push [] c x (suc i) e = inl e
get_push (first ∷ commands) c x zero e = inl e
get_push (first ∷ commands) c x (suc i) e =
    ⊎_elim (λ h. inl h) (λ h. inr (ap suc h.0, h.1)) (get_push commands c x i e)

-- a command that may follow these: if it is a cancel, it names one of their requests
abbrev Follows : List Command → Command → Type 0
Follows before c = (name : Name) (level : ℕ) → c ≡ Cancel name level
    → IsOfEarlier before (length before) name

-- a fact of a result, where the test holds
if_ok : {A E : Type 0} (P : A → Type 0) (b : Bool) (r : Result A E) (e : E) → (b ≡ true → IfOk r P)
    → IfOk (if b then r else Err e) P
if_ok P b r e here = cond_both b r (Err e) (λ r. IfOk r P) here (λ other. tt)

abbrev MayFollow : List Command → Option Command → Type 0
MayFollow before c = IfSome c (Follows before)

ranged_follows : (before : List Command) (c : Option Command) → MayFollow before c
    → IfOk (ranged c) (MayFollow before)
ranged_follows before None here = tt
ranged_follows before (Some c) here = here

request_follows : (before : List Command) (device : Option ℕ) (major : Major) (argument : Option ℕ)
    → MayFollow before (request device major argument)
request_follows before (Some device) major (Some argument) = λ name level e. let no : ⊥ =
    cc in absurd no
request_follows before (Some device) major None = tt
request_follows before None major argument = tt

request_as_follows : (before : List Command) (device : List ℕ) (major : Option Major)
    (argument : List ℕ) → IfOk (request_as device major argument) (MayFollow before)
request_as_follows before device None argument = tt
request_as_follows before device (Some major) argument =
    ranged_follows before (requests device major argument)
    (request_follows before (number_within 0 255 device) major
    (number_within 0 (2 ^ 64 - 1) argument))

request_line_follows : (before : List Command) (operands : List (List ℕ))
    → IfOk (request_line operands) (MayFollow before)
request_line_follows before [] = tt
request_line_follows before (device ∷ []) = tt
request_line_follows before (device ∷ major ∷ []) = tt
request_line_follows before (device ∷ major ∷ argument ∷ []) =
    if_ok (MayFollow before) (is_number device && is_number argument)
    (request_as device (major_of major) argument) UnknownWord
    (λ _. request_as_follows before device (major_of major) argument)
request_line_follows before (device ∷ major ∷ argument ∷ more ∷ rest) = tt

named_earlier : (before : List Command) (count : ℕ) (c : Option Command)
    → slice_get before count ≡ c
    → IfSome (named count c) (IsOfEarlier before (length before))
named_earlier before count (Some (Request device major argument)) e =
    record {
      submitter = refl;
      earlier = slice_get_within before count (Request device major argument) e;
      request = record { device = device; major = major; argument = argument; is = e };
    }
named_earlier before count (Some (Cancel name level)) e = tt
named_earlier before count (Some (Interrupt device)) e = tt
named_earlier before count None e = tt

named_there : (before : List Command) (count : Option ℕ)
    → IfSome (option_and_then (name_at before) count) (IsOfEarlier before (length before))
named_there before (Some count) = named_earlier before count (slice_get before count) refl
named_there before None = tt

cancelling_follows : (before : List Command) (name : Option Name) (level : Option ℕ)
    → IfSome name (IsOfEarlier before (length before)) → MayFollow before (cancelling name level)
cancelling_follows before (Some name) (Some level) here = λ other at e.
    let same : name ≡ other = cc in subst (IsOfEarlier before (length before)) same here
cancelling_follows before (Some name) None here = tt
cancelling_follows before None level here = tt

cancel_line_follows : (before : List Command) (operands : List (List ℕ))
    → IfOk (cancel_line before operands) (MayFollow before)
cancel_line_follows before [] = tt
cancel_line_follows before (count ∷ []) = tt
cancel_line_follows before (count ∷ level ∷ []) =
    if_ok (MayFollow before) (is_number count && is_number level)
    (ranged (cancels before count level)) UnknownWord
    (λ _. ranged_follows before (cancels before count level)
    (cancelling_follows before
    (option_and_then (name_at before) (number_within 0 (2 ^ 64 - 1) count))
    (number_within 0 255 level) (named_there before (number_within 0 (2 ^ 64 - 1) count))))
cancel_line_follows before (count ∷ level ∷ more ∷ rest) = tt

interruption_follows : (before : List Command) (device : Option ℕ)
    → MayFollow before (interruption device)
interruption_follows before (Some device) = λ name level e. let no : ⊥ = cc in absurd no
interruption_follows before None = tt

interrupt_line_follows : (before : List Command) (operands : List (List ℕ))
    → IfOk (interrupt_line operands) (MayFollow before)
interrupt_line_follows before [] = tt
interrupt_line_follows before (device ∷ []) =
    if_ok (MayFollow before) (is_number device) (ranged (interrupts device)) UnknownWord
    (λ _. ranged_follows before (interrupts device)
    (interruption_follows before (number_within 0 255 device)))
interrupt_line_follows before (device ∷ more ∷ rest) = tt

command_follows : (before : List Command) (tokens : List (List ℕ))
    → IfOk (command_of before tokens) (MayFollow before)
command_follows before [] = tt
command_follows before (word ∷ operands) =
    let P : Result (Option Command) ScheduleKind → Type 0 = λ r. IfOk r (MayFollow before) in
    let interrupt : Result (Option Command) ScheduleKind =
    if bytes_eq word (codes "interrupt") then interrupt_line operands else Err UnknownWord in
    let cancel : Result (Option Command) ScheduleKind =
    if bytes_eq word (codes "cancel") then cancel_line before operands else interrupt in
    cond_both (bytes_eq word (codes "request")) (request_line operands) cancel P
    (λ _. request_line_follows before operands)
    (λ _. cond_both (bytes_eq word (codes "cancel")) (cancel_line before operands) interrupt P
    (λ _. cancel_line_follows before operands)
    (λ _. if_ok (MayFollow before) (bytes_eq word (codes "interrupt")) (interrupt_line operands)
    UnknownWord (λ _. interrupt_line_follows before operands)))

-- what is known of the commands so far
pub record IsGood (commands : List Command) : Type 0 where
  pub cancels : CancelsEarlier commands
  pub few : length commands ≤ 65536

earlier_more : (before : List Command) (c : Command) (i j : ℕ) (name : Name) → i ≤ j
    → IsOfEarlier before i name → IsOfEarlier (before ++ c ∷ []) j name
earlier_more before c i j name low here =
    let r = here.request in
    record {
      submitter = here.submitter;
      earlier = omega (arith, here.earlier, low);
      request =
          record {
            device = r.device;
            major = r.major;
            argument = r.argument;
            is =
                get_left before name.count (Request r.device r.major r.argument) c r.is;
          };
    }

cancels_more : (before : List Command) (c : Command) → CancelsEarlier before → Follows before c
    → CancelsEarlier (before ++ c ∷ [])
cancels_more before c good here = λ i name level e.
    elim (get_push before c (Cancel name level) i e) [
      | inl old ↦ earlier_more before c i i name (omega arith) (good i name level old)
      | inr new ↦ earlier_more before c (length before) i name (omega (arith, new.0))
          (here name level new.1)
    ]

lengthened_good : (before : List Command) (c : Option Command) → IsGood before
    → MayFollow before c → IfOk (lengthened before c) IsGood
lengthened_good before None good here = good
lengthened_good before (Some c) good here =
    if_ok IsGood (nat_lt (length before) 65536) (Ok (before ++ c ∷ [])) TooLong
    (λ test. let room = ltb-true (length before) 65536 test in
    let long : length (before ++ c ∷ []) ≡ length before + 1 = length-append before (c ∷ []) in
    record { cancels = cancels_more before c good.cancels here; few = omega (arith, room, long) })

and_then_ok : {A B : Type 0} (P : A → Type 0) (Q : B → Type 0) (next : A → Result B ScheduleKind)
    (r : Result A ScheduleKind) → IfOk r P → ((a : A) → P a → IfOk (next a) Q)
    → IfOk (and_then next r) Q
and_then_ok P Q next (Ok a) here later = later a here
and_then_ok P Q next (Err kind) here later = tt

after_good : (before : List Command) (line : List ℕ) → IsGood before
    → IfOk (commands_after before line) IsGood
after_good before line good =
    and_then_ok (MayFollow before) IsGood (lengthened before) (command_line before line)
    (and_then_ok (λ _. ⊤) (MayFollow before) (command_of before) (checked_tokens line)
    (any_ok (checked_tokens line)) (λ tokens _. command_follows before tokens))
    (λ c here. lengthened_good before c good here)
  where
    any_ok : {A : Type 0} (r : Result A ScheduleKind) → IfOk r (λ _. ⊤)
    any_ok (Ok a) = tt
    any_ok (Err kind) = tt

-- what follows a line, where it follows from what the line gives
line_good : {A B : Type 0} (P : A → Type 0) (Q : B → Type 0) (n : ℕ) (r : Result A ScheduleKind)
    (next : A → Result B ScheduleFault)
    → IfOk r P → ((a : A) → P a → IfOk (next a) Q) → IfOk (at_line n r next) Q
line_good P Q n (Ok a) next here later = later a here
line_good P Q n (Err kind) next here later = tt

listing_good : (before : List Command) (n : ℕ) (lines : List (List ℕ)) → IsGood before
    → IfOk (listing before n lines) IsGood
listing_good before n [] good = good
listing_good before n (line ∷ lines) good =
    line_good IsGood IsGood n (commands_after before line) (λ more. listing more (n + 1) lines)
    (after_good before line good) (λ more better. listing_good more (n + 1) lines better)

-- a script's cancels name earlier requests, and it has 65,536 commands at most
pub script_good : (text : List ℕ) (commands : List Command) → script_in text ≡ Ok commands
    → IsGood commands
script_good text commands lists =
    rw lists at (listing_good [] 1 (lines_of text)
    (record { cancels = λ i name level e. cc; few = omega arith }))
