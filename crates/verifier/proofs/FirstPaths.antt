-- In a set of the first edition, the same states arrive at each position by the rules of both
-- editions, and at each the rules are the same.
use Rattle.std.proofs.Common.{◌≡◌, ℕ, zero, suc, ◌+◌, ◌||◌, true, false, Bool, List, [], ◌∷◌, Option, None, Some, refl, sym, subst, ◌∙◌, ap}
use Rattle.std.specs.Prelude.{if◌then◌else◌, is_some, slice_get, option_and_then}
use Rattle.std.specs.List.{list_any}
use Rattle.model.specs.declared.abs.Abs.{Abs}
use Rattle.model.specs.declared.instr.Instr.{Instr}
use Rattle.model.specs.declared.set.Driver.{Driver}
use Rattle.model.specs.declared.set.Queue.{Queue}
use Rattle.model.specs.declared.set.QueueName.{QueueName}
use Rattle.model.specs.declared.set.QueueName.TheVariants.{Declared, DeviceQueue}
use Rattle.model.specs.declared.set.Routine.{Routine}
use Rattle.model.specs.declared.set.Sort.{Sort}
use Rattle.model.specs.declared.set.Sort.TheVariants.{Dispatch, StartIo, Dpc, Propagate, Hold, Cancel}
use Rattle.model.specs.Edition.{First, Second, is_dequeue, dequeues, is_of_second, edition_of}
use Rattle.model.specs.LocalRule.{cancelled_queues, cancels_under, entry_of_cancel, entry_of_sort, entry_state, entry_under, local_rule, local_rule_under}
use Rattle.model.specs.Paths.{HandsOn, LeadsFrom, LeadsFromUnder, Along, AlongUnder, Arrives, ArrivesUnder, is_malformed, is_malformed_under, is_unknown}
use Rattle.model.specs.Set.{Set, Member, member, is_named, cancelled_from, cancelled_in, only_one, cancels_for, has_cancel, label_of}
use Rattle.model.specs.Typable.{fault_in, fault_under}
use Rattle.verifier.specs.FirstEdition.{is_waiting, NoneWaits, IsOfFirst}
use Rattle.verifier.proofs.FirstRules.{neither, refuses_alike, rules_alike, handed_on_free}

-- what no element of a list is, the one at a position isn't
none_at : {X : Type 0} (f : X → Bool) (xs : List X) (i : ℕ) (x : X) → list_any f xs ≡ false
    → slice_get xs i ≡ Some x → f x ≡ false
none_at f [] i x none here = cc
none_at f (y ∷ xs) zero x none here =
    let same : y ≡ x = cc in
    subst (λ z. f z ≡ false) same (neither (f y) (list_any f xs) none).0
none_at f (y ∷ xs) (suc i) x none here =
    none_at f xs i x (neither (f y) (list_any f xs) none).1 here

-- the routines of a set of the first edition
abbrev edition_if : Bool → ℕ
edition_if b = if b then 2 else 1

first_if : (b : Bool) → edition_if b ≡ 1 → b ≡ false
first_if true first = cc
first_if false first = refl

uncancelled_in : (driver : Option Driver) (d : Driver) → driver ≡ Some d
    → is_some d.startio_cancel ≡ false
    → is_some (option_and_then (λ (one : Driver). one.startio_cancel) driver) ≡ false
uncancelled_in None d here none = cc
uncancelled_in (Some one) d here none =
    let same : one ≡ d = cc in
    subst (λ (x : Driver). is_some x.startio_cancel ≡ false) (sym same) none

pub of_first : (set : Set) (number : ℕ) (d : Driver) (r : ℕ) (routine : Routine)
    → edition_of set ≡ 1 → slice_get set.drivers number ≡ Some d
    → slice_get d.routines r ≡ Some routine → IsOfFirst (member set number r routine)
of_first set number d r routine first driver_at routine_at =
    let none = none_at is_of_second set.drivers number d
    (first_if (list_any is_of_second set.drivers) first) driver_at in
    let both = neither (is_some d.startio_cancel) (list_any dequeues d.routines) none in
    record {
      uncancelled = uncancelled_in (slice_get set.drivers number) d driver_at both.0;
      plain = none_at dequeues d.routines r routine both.1 routine_at;
    }

-- they are entered in the same state, in which no register holds a packet of the device queue
not_named : (cancel : Option ℕ) (number : ℕ) → is_some cancel ≡ false
    → is_named cancel number ≡ false
not_named None number none = refl
not_named (Some cancel) number none = cc

other_if : {X : Type 0} (b : Bool) (x y : X) → b ≡ false → (if b then x else y) ≡ y
other_if true x y fails = cc
other_if false x y fails = refl

cancelled_alike : (driver : Option Driver) (number : ℕ)
    → is_some (option_and_then (λ (one : Driver). one.startio_cancel) driver) ≡ false
    → cancelled_in driver number ≡ cancelled_queues driver number
cancelled_alike None number none = refl
cancelled_alike (Some d) number none =
    other_if (is_named d.startio_cancel number) (DeviceQueue ∷ cancelled_from d.queues 0 number)
    (cancelled_from d.queues 0 number) (not_named d.startio_cancel number none)

cancels_alike : (set : Set) (driver number : ℕ) → has_cancel set driver DeviceQueue ≡ false
    → cancels_for set driver number ≡ cancels_under First set driver number
cancels_alike set driver number none =
    ap only_one (cancelled_alike (slice_get set.drivers driver) number none)

pub entry_alike : (m : Member) → IsOfFirst m → entry_state m ≡ entry_under First m
entry_alike m first =
    ap (entry_of_sort m.routine.sort) (cancels_alike m.set m.driver m.number first.uncancelled)

either_none : (b : Bool) (q : ℕ) (names : List QueueName) → list_any is_waiting names ≡ false
    → list_any is_waiting (if b then Declared q ∷ names else names) ≡ false
either_none true q names none = none
either_none false q names none = none

queues_alone : (queues : List Queue) (q number : ℕ)
    → list_any is_waiting (cancelled_from queues q number) ≡ false
queues_alone [] q number = refl
queues_alone (queue ∷ queues) q number =
    either_none (is_named queue.cancel number) q (cancelled_from queues (q + 1) number)
    (queues_alone queues (q + 1) number)

first_alone : (driver : Option Driver) (number : ℕ)
    → list_any is_waiting (cancelled_queues driver number) ≡ false
first_alone None number = refl
first_alone (Some d) number = queues_alone d.queues 0 number

abbrev is_none_or_queue : Option QueueName → Bool
is_none_or_queue None = false
is_none_or_queue (Some name) = is_waiting name

one_alone : (names : List QueueName) → list_any is_waiting names ≡ false
    → is_none_or_queue (only_one names) ≡ false
one_alone [] none = refl
one_alone (name ∷ []) none = (neither (is_waiting name) false none).0
one_alone (name ∷ other ∷ names) none = refl

given_none : (x s : Abs) → NoneWaits x → Some x ≡ Some s → NoneWaits s
given_none x s free given =
    let same : x ≡ s = cc in subst (λ (y : Abs). NoneWaits y) same free

either_false : (b : Bool) → b ≡ false → (b || false) ≡ false
either_false true fails = cc
either_false false fails = refl

cancel_free : (name : Option QueueName) (s : Abs) → is_none_or_queue name ≡ false
    → entry_of_cancel name ≡ Some s → NoneWaits s
cancel_free None s none entered = cc
cancel_free (Some name) s none entered =
    given_none _ s (either_false (is_waiting name) none) entered

sort_free : (sort : Sort) (name : Option QueueName) (s : Abs) → is_none_or_queue name ≡ false
    → entry_of_sort sort name ≡ Some s → NoneWaits s
sort_free Dispatch name s none entered = given_none _ s refl entered
sort_free StartIo name s none entered = given_none _ s refl entered
sort_free Dpc name s none entered = given_none _ s refl entered
sort_free Propagate name s none entered = given_none _ s refl entered
sort_free Hold name s none entered = given_none _ s refl entered
sort_free Cancel name s none entered = cancel_free name s none entered

entry_free : (m : Member) (s : Abs) → entry_under First m ≡ Some s → NoneWaits s
entry_free m s entered =
    sort_free m.routine.sort (cancels_under First m.set m.driver m.number) s
    (one_alone (cancelled_queues (slice_get m.set.drivers m.driver) m.number)
    (first_alone (slice_get m.set.drivers m.driver) m.number)) entered

-- the same is malformed in them
known : (m : Member) (o : Option Instr) (p : ℕ) → IsOfFirst m → slice_get m.routine.code p ≡ o
    → is_unknown First o ≡ false
known m None p first here = refl
known m (Some i) p first here = none_at is_dequeue m.routine.code p i first.plain here

pub formed_alike : (m : Member) (p : ℕ) → IsOfFirst m
    → is_malformed m.routine.code p ≡ is_malformed_under First m.routine.code p
formed_alike m p first =
    sym (ap (λ (b : Bool). b || is_malformed m.routine.code p)
    (known m (slice_get m.routine.code p) p first refl))

-- an instruction leads to the same states
leads_to : (m : Member) (o : Option Instr) (q : ℕ) (before : Abs) (p : ℕ) (s : Abs) → IsOfFirst m
    → NoneWaits before → LeadsFrom m o q before p s
    → LeadsFromUnder First m o q before p s × NoneWaits s
leads_to m None q before p s first free h = absurd h
leads_to m (Some i) q before p s first free h =
    let same : local_rule before i m.routine.sort m.set m.driver
    ≡ local_rule_under First before i m.routine.sort m.set m.driver =
    rules_alike before i m.routine.sort m.set m.driver free first.uncancelled
    in
    record {
      0 = subst (λ rule. HandsOn rule (label_of i) q p s) same h;
      1 = handed_on_free before i m.routine.sort m.set m.driver (label_of i) q p s free h;
    }

leads_back : (m : Member) (o : Option Instr) (q : ℕ) (before : Abs) (p : ℕ) (s : Abs)
    → IsOfFirst m → NoneWaits before → LeadsFromUnder First m o q before p s
    → LeadsFrom m o q before p s
leads_back m None q before p s first free h = h
leads_back m (Some i) q before p s first free h =
    subst (λ rule. HandsOn rule (label_of i) q p s)
    (sym (rules_alike before i m.routine.sort m.set m.driver free first.uncancelled))
    h

along_to : (m : Member) (path : List ℕ) (s : Abs) → IsOfFirst m → Along m path s
    → AlongUnder First m path s × NoneWaits s
along_to m [] s first h = absurd h
along_to m (p ∷ []) s first h =
    let entered : entry_under First m ≡ Some s = sym (entry_alike m first) ∙ h.1 in
    record { 0 = (h.0, entered); 1 = entry_free m s entered }
along_to m (p ∷ q ∷ path) s first h =
    let rest = along_to m (q ∷ path) h.0 first h.1 in
    let leads = leads_to m (slice_get m.routine.code q) q h.0 p s first rest.1 h.2.1 in
    record { 0 = (h.0, rest.0, (sym (formed_alike m q first) ∙ h.2.0, leads.0)); 1 = leads.1 }

along_back : (m : Member) (path : List ℕ) (s : Abs) → IsOfFirst m → AlongUnder First m path s
    → Along m path s
along_back m [] s first h = h
along_back m (p ∷ []) s first h = (h.0, entry_alike m first ∙ h.1)
along_back m (p ∷ q ∷ path) s first h =
    let rest = along_back m (q ∷ path) h.0 first h.1 in
    let free = (along_to m (q ∷ path) h.0 first rest).1 in
    let leads = leads_back m (slice_get m.routine.code q) q h.0 p s first free h.2.1 in
    (h.0, rest, (formed_alike m q first ∙ h.2.0, leads))

pub arrives_to : (m : Member) (p : ℕ) (s : Abs) → IsOfFirst m → Arrives m p s
    → ArrivesUnder First m p s
arrives_to m p s first h = (h.0, (along_to m (p ∷ h.0) s first h.1).0)

pub arrives_back : (m : Member) (p : ℕ) (s : Abs) → IsOfFirst m → ArrivesUnder First m p s
    → Arrives m p s
arrives_back m p s first h = (h.0, along_back m (p ∷ h.0) s first h.1)

pub arrives_free : (m : Member) (p : ℕ) (s : Abs) → IsOfFirst m → Arrives m p s → NoneWaits s
arrives_free m p s first h = (along_to m (p ∷ h.0) s first h.1).1

-- and breaks the same there
fault_by : (m : Member) (o : Option Instr) (s : Abs) → IsOfFirst m → NoneWaits s
    → fault_in m s o ≡ fault_under First m s o
fault_by m None s first free = refl
fault_by m (Some i) s first free =
    refuses_alike s i m.routine.sort m.set m.driver free first.uncancelled

pub fault_alike : (m : Member) (p : ℕ) (s : Abs) → IsOfFirst m → Arrives m p s
    → fault_in m s (slice_get m.routine.code p) ≡ fault_under First m s (slice_get m.routine.code p)
fault_alike m p s first h =
    fault_by m (slice_get m.routine.code p) s first (arrives_free m p s first h)
