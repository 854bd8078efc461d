-- Which events are tried, and runs of such.
use Rattle.laws_runs.proofs.Prelude.{ap, arith, cases_lt, eqb-true, get_or, inl, inr, ltb-true, map, refl, subst, sym, zero, ◌∙◌, Bool, List, Option, Some, [], false, list_any, nat_eq, nat_lt, not, slice_get, slice_get-get_or, suc, true, ℕ, length, ◌&&◌, ◌++◌, ◌+◌, ◌<◌, ◌||◌, ◌∷◌, ◌≡◌, ◌≤◌, ◌⊎◌, run, Event, Set, World, Reply}
use Rattle.std.proofs.Common.{take}
use Rattle.std.proofs.lemmas.List.{take_all, take_more}
use Rattle.laws_runs.proofs.Tests.{and_left, and_right}
use Rattle.hunt_facts.specs.declared.requests.Request.{Request}
use Rattle.hunt_facts.specs.Requests.{request_on}
use Rattle.hunt_exact.specs.Moves.{begins_below, begins_on, cancels_of, cancels_on, interrupts, is_level, is_request, is_tried, requests_on, routines_on, steps, tried_events}
use Rattle.hunt_exact.specs.Exact.{scope_of}
use Rattle.hunt_exact.specs.Searched.{StandsWithin}
use Rattle.hunt_exact.specs.Within.{AreWithin, IsAllowed, IsOne, Scope, is_open, world_of}
use Rattle.hunt_exact.proofs.Following.{no_events, within_more}
use Rattle.model.specs.declared.event.Event.TheVariants.{Issue, Cancel, Interrupt, Dpc, StartIo, Step}
use Rattle.model.specs.declared.status.Major.{Major}
use Rattle.model.specs.declared.status.Major.TheVariants.{Read, Write, Control}
use Rattle.model.specs.Machine.{AppliesWhole, Machine, ShowsWhole}
use Rattle.model.specs.Status.{major_code}

-- one of some events is one of more
get_left : (xs ys : List Event) (x : Event) (k : ℕ) → slice_get xs k ≡ Some x
    → slice_get (xs ++ ys) k ≡ Some x
get_left [] ys x k h = cc
get_left (z ∷ xs) ys x zero h = h
get_left (z ∷ xs) ys x (suc k) h = get_left xs ys x k h

one_left : (some more : List Event) (e : Event) → IsOne some e → IsOne (some ++ more) e
one_left some more e is = (is.0, get_left some more e is.0 is.1)

one_right : (more some : List Event) (e : Event) → IsOne some e → IsOne (more ++ some) e
one_right [] some e is = is
one_right (x ∷ more) some e is =
    let later : IsOne (more ++ some) e = one_right more some e is in (suc later.0, later.1)

-- and one of a piece is one of all pieces
one_piece : (whole piece : ℕ → List Event) → ((n : ℕ) → whole (suc n) ≡ whole n ++ piece n)
    → (n k : ℕ) (e : Event) → k < n → IsOne (piece k) e → IsOne (whole n) e
one_piece whole piece grows zero k e low is = absurd (omega (arith, low))
one_piece whole piece grows (suc n) k e low is =
    subst (λ (es : List Event). IsOne es e) (sym (grows n))
    (elim (cases_lt k n) [
      | inl before ↦ one_left (whole n) (piece n) e (one_piece whole piece grows n k e before is)
      | inr behind ↦
          let same : k ≡ n = omega (arith, low, behind) in
          one_right (whole n) (piece n) e (subst (λ (j : ℕ). IsOne (piece j) e) same is)
    ])

-- by kinds of events
one_step : (threads t : ℕ) → t < threads → IsOne (steps threads) (Step t)
one_step threads t low =
    let here : IsOne (Step t ∷ []) (Step t) = (0, refl) in
    one_piece steps (λ (n : ℕ). Step n ∷ []) (λ n. refl) threads t (Step t) low here

one_interrupt : (devices d : ℕ) → d < devices → IsOne (interrupts devices) (Interrupt d)
one_interrupt devices d low =
    let here : IsOne (Interrupt d ∷ []) (Interrupt d) = (0, refl) in
    one_piece interrupts (λ (n : ℕ). Interrupt n ∷ []) (λ n. refl) devices d (Interrupt d) low here

one_dpc : (t devices d : ℕ) → d < devices → IsOne (routines_on t devices) (Dpc t d)
one_dpc t devices d low =
    let here : IsOne (Dpc t d ∷ StartIo t d ∷ []) (Dpc t d) = (0, refl) in
    one_piece (routines_on t) (λ (n : ℕ). Dpc t n ∷ StartIo t n ∷ []) (λ n. refl) devices d
    (Dpc t d) low here

one_start : (t devices d : ℕ) → d < devices → IsOne (routines_on t devices) (StartIo t d)
one_start t devices d low =
    let here : IsOne (Dpc t d ∷ StartIo t d ∷ []) (StartIo t d) = (1, refl) in
    one_piece (routines_on t) (λ (n : ℕ). Dpc t n ∷ StartIo t n ∷ []) (λ n. refl) devices d
    (StartIo t d) low here

either : (a b : Bool) → (a || b) ≡ true → (a ≡ true) ⊎ (b ≡ true)
either true b is = inl refl
either false b is = inr is

one_passive : (raised : Bool) (t n : ℕ) → IsOne (cancels_of t raised n) (Cancel t n 0)
one_passive false t n = (0, refl)
one_passive true t n = (0, refl)

one_raised : (t n : ℕ) → IsOne (cancels_of t true n) (Cancel t n 2)
one_raised t n = (1, refl)

one_level : (raised : Bool) (t n level : ℕ) → is_level raised level ≡ true
    → IsOne (cancels_of t raised n) (Cancel t n level)
one_level raised t n level is =
    elim (either (nat_eq level 0) (raised && nat_eq level 2) is) [
      | inl low ↦
          subst (λ (l : ℕ). IsOne (cancels_of t raised n) (Cancel t n l))
          (sym (eqb-true level 0 low)) (one_passive raised t n)
      | inr high ↦
          subst (λ (b : Bool). IsOne (cancels_of t b n) (Cancel t n level))
          (sym (and_left raised (nat_eq level 2) high))
          (subst (λ (l : ℕ). IsOne (cancels_of t true n) (Cancel t n l))
          (sym (eqb-true level 2 (and_right raised (nat_eq level 2) high))) (one_raised t n))
    ]

one_cancel : (raised : Bool) (t packets n level : ℕ) → n < packets
    → is_level raised level ≡ true
    → IsOne (cancels_on t raised packets) (Cancel t n level)
one_cancel raised t packets n level low is =
    one_piece (cancels_on t raised) (cancels_of t raised) (λ n. refl) packets n (Cancel t n level)
    low (one_level raised t n level is)

one_major : (m n : Major) → nat_eq (major_code m) (major_code n) ≡ true → m ≡ n
one_major Read Read is = refl
one_major Read Write is = cc
one_major Read Control is = cc
one_major Write Read is = cc
one_major Write Write is = refl
one_major Write Control is = cc
one_major Control Read is = cc
one_major Control Write is = cc
one_major Control Control is = refl

same_request : (t d argument : ℕ) (major : Major) (r : Request)
    → is_request d major argument r ≡ true → request_on t r ≡ Issue t d major argument
same_request t d argument major r is =
    let first : (nat_eq r.device d && nat_eq (major_code r.major) (major_code major)) ≡ true =
    and_left _ (nat_eq r.argument argument) is in
    let device : r.device ≡ d = eqb-true r.device d (and_left _ _ first) in
    let its : r.major ≡ major = one_major r.major major (and_right _ _ first) in
    let number : r.argument ≡ argument =
    eqb-true r.argument argument (and_right (nat_eq r.device d
    && nat_eq (major_code r.major) (major_code major)) _ is) in
    ap (λ (n : ℕ). Issue t n r.major r.argument) device
    ∙ ap (λ (m : Major). Issue t d m r.argument) its
    ∙ ap (λ (n : ℕ). Issue t d major n) number

one_request : (t d argument : ℕ) (major : Major) (requests : List Request)
    → list_any (is_request d major argument) requests ≡ true
    → IsOne (requests_on t requests) (Issue t d major argument)
one_request t d argument major [] is = cc
one_request t d argument major (r ∷ requests) is =
    elim (either (is_request d major argument r) (list_any (is_request d major argument) requests)
    is) [
      | inl here ↦ (0, ap (λ (e : Event). Some e) (same_request t d argument major r here))
      | inr there ↦
          let later : IsOne (requests_on t requests) (Issue t d major argument) =
          one_request t d argument major requests there in
          (suc later.0, later.1)
    ]

module _ (requests : List Request) (raised : Bool) (packets devices threads : ℕ) where
  abbrev moves : List Event
  moves = tried_events requests raised packets devices threads

  abbrev begins : ℕ → List Event
  begins t = begins_on requests raised packets devices t

  abbrev all_begins : ℕ → List Event
  all_begins n = begins_below requests raised packets devices n

  one_begun : (t : ℕ) (e : Event) → t < threads → IsOne (begins t) e → IsOne moves e
  one_begun t e low is =
      one_right (steps threads ++ interrupts devices) (all_begins threads) e
      (one_piece all_begins begins (λ n. refl) threads t e low is)

  one_before : (e : Event) → IsOne (steps threads ++ interrupts devices) e → IsOne moves e
  one_before e is = one_left (steps threads ++ interrupts devices) (all_begins threads) e is

  abbrev calls : ℕ → List Event
  calls t = routines_on t devices ++ requests_on t requests

  one_routine : (t : ℕ) (e : Event) → t < threads → IsOne (routines_on t devices) e
      → IsOne moves e
  one_routine t e low is =
      one_begun t e low (one_left (calls t) (cancels_on t raised packets) e
      (one_left (routines_on t devices) (requests_on t requests) e is))

  low_thread : (t : ℕ) (b : Bool) → (nat_lt t threads && b) ≡ true → t < threads
  low_thread t b is = ltb-true t threads (and_left _ _ is)

  pub is_one : (e : Event) → is_tried requests raised packets devices threads e ≡ true
      → IsOne moves e
  is_one (Step t) is =
      one_before (Step t) (one_left (steps threads) (interrupts devices) (Step t)
      (one_step threads t (ltb-true t threads is)))
  is_one (Interrupt d) is =
      one_before (Interrupt d) (one_right (steps threads) (interrupts devices) (Interrupt d)
      (one_interrupt devices d (ltb-true d devices is)))
  is_one (Dpc t d) is =
      one_routine t (Dpc t d) (low_thread t (nat_lt d devices) is)
      (one_dpc t devices d (ltb-true d devices (and_right _ _ is)))
  is_one (StartIo t d) is =
      one_routine t (StartIo t d) (low_thread t (nat_lt d devices) is)
      (one_start t devices d (ltb-true d devices (and_right _ _ is)))
  is_one (Cancel t n level) is =
      let first : (nat_lt t threads && nat_lt n packets) ≡ true =
      and_left _ (is_level raised level) is in
      one_begun t (Cancel t n level) (low_thread t (nat_lt n packets) first)
      (one_right (calls t) (cancels_on t raised packets) (Cancel t n level)
      (one_cancel raised t packets n level (ltb-true n packets (and_right _ _ first))
      (and_right (nat_lt t threads && nat_lt n packets) _ is)))
  is_one (Issue t d major argument) is =
      one_begun t (Issue t d major argument)
      (low_thread t (list_any (is_request d major argument) requests) is)
      (one_left (calls t) (cancels_on t raised packets) (Issue t d major argument)
      (one_right (routines_on t devices) (requests_on t requests) (Issue t d major argument)
      (one_request t d argument major requests (and_right _ _ is))))

-- runs of events that are allowed
stands_first : (scope : Scope) (m : Machine) → m.set ≡ scope.set
    → ShowsWhole m scope.threads [] → StandsWithin scope m []
stands_first scope m set shows =
    record {
      set = set;
      shows = shows;
      within = λ before e after is. absurd (no_events before e after is);
    }

is_true : (b : Bool) → not b ≡ false → b ≡ true
is_true true is = refl
is_true false is = cc

module _ (set : Set) (threads packets : ℕ) (requests : List Request) (raised : Bool) where
  abbrev its_scope : Scope
  its_scope = scope_of set threads packets requests raised

  -- an event that isn't barred
  allowed_in : (w : World) (e : Event) (barred : Bool)
      → barred ≡ not (is_tried requests raised packets (length set.devices) threads e
      && is_open packets w e)
      → barred ≡ false → IsAllowed its_scope w e
  allowed_in w e barred is free =
      let both : (is_tried requests raised packets (length set.devices) threads e
      && is_open packets w e) ≡ true =
      is_true _ (sym is ∙ free) in
      record {
        tried =
            is_one requests raised packets (length set.devices) threads e (and_left _ _ both);
        may = and_right _ _ both;
      }

  module _ (events : List Event) (i : ℕ) (d : Event) (m k : Machine) (reply : Reply)
      (barred : Bool) (inside : i < length events)
      (is : barred ≡ not (is_tried requests raised packets (length m.set.devices) threads
      (get_or events i d) && is_open packets m.world (get_or events i d)))
      (free : barred ≡ false) (ran : AppliesWhole m (get_or events i d) k reply)
      (stands : StandsWithin its_scope m (take i events)) where
    its_world : m.world ≡ world_of its_scope (take i events)
    its_world =
        stands.shows.world
        ∙ ap (λ (s : Set). (run s threads (take i events)).world) stands.set

    is_allowed : IsAllowed its_scope (world_of its_scope (take i events)) (get_or events i d)
    is_allowed =
        subst (λ (w : World). IsAllowed its_scope w (get_or events i d)) its_world
        (allowed_in m.world (get_or events i d) barred
        (subst (λ (s : Set). barred ≡ not (is_tried requests raised packets (length s.devices)
        threads (get_or events i d) && is_open packets m.world (get_or events i d))) stands.set is)
        free)

    pub stands_next : StandsWithin its_scope k (take (i + 1) events)
    stands_next =
        subst (λ (es : List Event). StandsWithin its_scope k es) (sym (take_more events i d inside))
        (record {
          set = ran.set ∙ stands.set;
          shows = ran.shows threads (take i events) stands.shows;
          within = within_more its_scope (take i events) (get_or events i d) stands.within is_allowed;
        })

pub within_all : (scope : Scope) (events : List Event) (n : ℕ) (m : Machine) → length events ≤ n
    → StandsWithin scope m (take n events) → AreWithin scope events
within_all scope events n m all stands =
    subst (λ (es : List Event). AreWithin scope es) (take_all n events all) stands.within

-- from the first event on
pub within_from : (set : Set) (threads packets : ℕ) (requests : List Request) (raised : Bool)
    (events : List Event) (m : Machine) (within : Bool) → m.set ≡ set → ShowsWhole m threads []
    → (within ≡ true → StandsWithin (scope_of m.set threads packets requests raised) m []
    → AreWithin (scope_of m.set threads packets requests raised) events)
    → within ≡ true → AreWithin (scope_of set threads packets requests raised) events
within_from set threads packets requests raised events m within same shows goes holds =
    subst (λ (s : Set). AreWithin (scope_of s threads packets requests raised) events) same
    (goes holds (stands_first (scope_of m.set threads packets requests raised) m refl shows))
