-- Which edges the passes over the routines of a driver find: each that there is, and no other.
use Rattle.laws_runs.proofs.Common.{ap, arith, inl, inr, refl, subst, sym, zero, ◌-◌, ◌∙◌, cases_eq, eq-eqb, ne_eqb, cases_lt, slice_get-get_or, slice_get_within, get_or_from_slice_get, All, Bool, List, None, Option, Some, [], false, length, nat_eq, option_and_then, option_map, slice_get, slice_index_or, suc, true, ℕ, ◌++◌, ◌+◌, ◌<◌, ◌∷◌, ◌≡◌, ◌≢◌, ◌≤◌, ◌⊎◌, Member, Set, member, routine_of, default_number, default_routine, default_code, IsTypable, IsTypableRoutine, entry_of_sort, handed_at_label, Arrives, Abs, Instr, Acquire, AcquireCancel, IfPending, Remove, Disarm, Take, CancelLock, DeviceLock, Guard, Driver, RoutineOf, Sort, Cancel, Dispatch, Dpc, Hold, Propagate, StartIo, QueueName, arrives_keep}
use Rattle.std.proofs.lemmas.List.Elements.{All-push}
use Rattle.model.specs.LocalRule.{holds_guard, is_held}
use Rattle.model.specs.Typable.{IsFineAt}
use Rattle.verifier_evidence.specs.declared.arrivals.Arrival.{Arrival}
use Rattle.verifier_evidence.specs.Path.{member_of}
use Rattle.verifier_evidence.specs.Table.{AreKnown, HasArrival}
use Rattle.laws_runs.specs.Order.{TakesUnder, lock_named}
use Rattle.verifier_orders.specs.declared.ranking.NumberedEdge.{NumberedEdge}
use Rattle.verifier_orders.specs.Edges.{AreAdded, AreEdgesOf, AreEdgesTo, AreInOrder, AreOnce, HasEdge, IsAdded, IsFirstEdge, IsNew, IsNumberedEdge, IsPast, edge, holds_number, number_of, number_taken}
use Rattle.verifier_orders.specs.Ranking.{AreWithin, IsWithin}
use Rattle.verifier_evidence.proofs.Known.{known_covered}
use Rattle.verifier_orders.proofs.Sorting.{adds_first, adds_in_order, all_past_next, all_past_routine, get_last}
use Rattle.laws_runs.proofs.States.Kinds.{handed_locks}

-- the default routine takes no lock
default_none : (p : ℕ) (i : Instr) (g : Guard) → slice_get default_code p ≡ Some i
    → lock_named i ≡ Some g → ⊥
default_none zero i g at takes = cc
default_none (suc zero) i g at takes = cc
default_none (suc (suc p)) i g at takes = cc

module _ (set : Set) (driver : ℕ) (held taken : Guard) (u : TakesUnder set driver held taken) where
  not_default : u.number ≢ default_number
  not_default same =
      let is : Some default_routine ≡ Some u.routine =
      subst (λ (n : ℕ). routine_of set driver n ≡ Some u.routine) same u.is_of in
      let one : default_routine ≡ u.routine = cc in
      default_none u.position u.instruction taken
      (subst (λ (r : RoutineOf). slice_get r.code u.position ≡ Some u.instruction) (sym one) u.at)
      u.takes

  own_routine : option_and_then (λ d. slice_get d.routines u.number) (slice_get set.drivers driver)
      ≡ Some u.routine
  own_routine =
      let apart : nat_eq u.number default_number ≡ false = ne_eqb u.number default_number not_default in
      let is : routine_of set driver u.number ≡ Some u.routine = u.is_of in
      rw apart at is

  pub its_member : member_of set driver u.number ≡ Some (member set driver u.number u.routine)
  its_member =
      ap (λ (o : Option RoutineOf). option_map (λ routine. member set driver u.number routine) o)
      own_routine

-- a routine of an accepted set is typable
module _ (set : Set) (typable : IsTypable set) (driver number : ℕ) where
  typable_in : (d : Driver) (m : Member) → slice_get set.drivers driver ≡ Some d
      → (o : Option RoutineOf) → slice_get d.routines number ≡ o
      → option_map (λ routine. member set driver number routine) o ≡ Some m → IsTypableRoutine m
  typable_in d m there None at is = cc
  typable_in d m there (Some routine) at is =
      let same : member set driver number routine ≡ m = cc in
      subst IsTypableRoutine same
      (typable.drivers driver d (slice_get_within set.drivers driver d there) there number routine
      (slice_get_within d.routines number routine at) at)

  typable_by : (m : Member) (o : Option Driver) → slice_get set.drivers driver ≡ o
      → option_map (λ routine. member set driver number routine)
      (option_and_then (λ d. slice_get d.routines number) o) ≡ Some m → IsTypableRoutine m
  typable_by m None there is = cc
  typable_by m (Some d) there is = typable_in d m there (slice_get d.routines number) refl is

  pub typable_member : (m : Member) → member_of set driver number ≡ Some m → IsTypableRoutine m
  typable_member m is = typable_by m (slice_get set.drivers driver) refl is

-- locks by number
named_number : (i : Instr) (g : Guard) → lock_named i ≡ Some g
    → number_taken i ≡ Some (number_of g)
named_number (Acquire l) g is = (let same : DeviceLock l ≡ g = cc in rw (← same) refl)
named_number AcquireCancel g is = (let same : CancelLock ≡ g = cc in rw (← same) refl)
named_number _ g is = cc

number_named : (i : Instr) (n : ℕ) → number_taken i ≡ Some n
    → (g : Guard) × (lock_named i ≡ Some g) × (n ≡ number_of g)
number_named (Acquire l) n is = (DeviceLock l, refl, (let same : l ≡ n = cc in sym same))
number_named AcquireCancel n is = (CancelLock, refl, (let same : 8 ≡ n = cc in sym same))
number_named _ n is = cc

-- edges that are there stay
get_before : (xs ys : List NumberedEdge) (k : ℕ) (e : NumberedEdge) → slice_get xs k ≡ Some e
    → slice_get (xs ++ ys) k ≡ Some e
get_before [] ys k e there = cc
get_before (x ∷ xs) ys zero e there = there
get_before (x ∷ xs) ys (suc k) e there = get_before xs ys k e there

get_after : (xs ys : List NumberedEdge) (k : ℕ) (e : NumberedEdge) → slice_get ys k ≡ Some e
    → (j : ℕ) × (slice_get (xs ++ ys) j ≡ Some e)
get_after [] ys k e there = (k, there)
get_after (x ∷ xs) ys k e there =
    let rest : (j : ℕ) × (slice_get (xs ++ ys) j ≡ Some e) = get_after xs ys k e there in
    (suc rest.0, rest.1)

pub has_more : (xs ys : List NumberedEdge) (held taken : Guard) → HasEdge xs held taken
    → HasEdge (xs ++ ys) held taken
has_more xs ys held taken has = (has.0, has.1, get_before xs ys has.0 has.1 has.2, has.3, has.4)

has_after : (xs ys : List NumberedEdge) (held taken : Guard) → HasEdge ys held taken
    → HasEdge (xs ++ ys) held taken
has_after xs ys held taken has =
    let place : (j : ℕ) × (slice_get (xs ++ ys) j ≡ Some has.1) =
    get_after xs ys has.0 has.1 has.2 in
    (place.0, has.1, place.1, has.3, has.4)

-- a state that arrives tells of eight spin locks
eight_of : (e s : Abs) → length e.locks ≡ 8 → Some e ≡ Some s → length s.locks ≡ 8
eight_of e s eight is = (let same : e ≡ s = cc in subst (λ (x : Abs). length x.locks ≡ 8) same eight)

eight_entry : (sort : Sort) (name : Option QueueName) (s : Abs) → entry_of_sort sort name ≡ Some s
    → length s.locks ≡ 8
eight_entry Dispatch name s is = eight_of _ s refl is
eight_entry StartIo name s is = eight_of _ s refl is
eight_entry Dpc name s is = eight_of _ s refl is
eight_entry Propagate name s is = eight_of _ s refl is
eight_entry Hold name s is = eight_of _ s refl is
eight_entry Cancel None s is = cc
eight_entry Cancel (Some list) s is = eight_of _ s refl is

eight_label : (s : Abs) (i : Instr) → length (handed_at_label s i).locks ≡ length s.locks
eight_label s (IfPending r label) = refl
eight_label s (Remove r q label) = refl
eight_label s (Disarm r label) = refl
eight_label s (Take r label) = refl
eight_label s _ = refl

pub eight_arrives : (m : Member) (p : ℕ) (s : Abs) → Arrives m p s → length s.locks ≡ 8
eight_arrives m p s arrives =
    arrives_keep (λ x. length x.locks ≡ 8) m (λ x is. eight_entry m.routine.sort _ x is)
    (λ x i q at rule eight. handed_locks m.set m.driver x i ∙ eight) (λ x i q at rule eight. eight_label x i ∙ eight)
    p s arrives

-- before the first routine there is none
none_early : (number position : ℕ) → (number < 0) ⊎ ((number ≡ 0) × (position < 0)) → ⊥
none_early number position (inl low) = absurd (omega arith)
none_early number position (inr low) =
    (let l : position < 0 = low.1 in absurd (omega arith))

pub no_edges : (set : Set) (driver : ℕ) → AreEdgesTo set driver 0 0 []
no_edges set driver =
    record {
      within = λ k d l. absurd (omega arith);
      once = λ j k e f first second held taken. cc;
      each = λ k d l. absurd (omega arith);
      all = λ held taken u early. absurd (none_early u.number u.position early);
      past = λ k d l. absurd (omega arith);
      ordered = λ j k e f low first second. cc;
      first = λ k d l. absurd (omega arith);
    }

-- routines one after another
module _ (set : Set) (driver n : ℕ) (edges : List NumberedEdge) where
  module _ (at : ℕ) (h : AreEdgesTo set driver n at edges) where
    next_by : ((held taken : Guard) (u : TakesUnder set driver held taken) → u.number ≡ n
        → at ≤ u.position → ⊥) → (held taken : Guard) (u : TakesUnder set driver held taken)
        → u.number < n + 1 → (u.number < n) ⊎ (n ≤ u.number)
        → (u.position < at) ⊎ (at ≤ u.position) → HasEdge edges held taken
    next_by never held taken u low (inl less) place = h.all held taken u (inl less)
    next_by never held taken u low (inr least) (inl before) =
        h.all held taken u (inr (omega arith, before))
    next_by never held taken u low (inr least) (inr late) =
        absurd (never held taken u (omega arith) late)

    next_in : ((held taken : Guard) (u : TakesUnder set driver held taken) → u.number ≡ n
        → at ≤ u.position → ⊥) → (held taken : Guard) (u : TakesUnder set driver held taken)
        → (u.number < n + 1) ⊎ ((u.number ≡ n + 1) × (u.position < 0)) → HasEdge edges held taken
    next_in never held taken u (inl low) =
        next_by never held taken u low (cases_lt u.number n) (cases_lt u.position at)
    next_in never held taken u (inr none) = absurd (omega (arith, none.1))

    pub next_routine : ((held taken : Guard) (u : TakesUnder set driver held taken)
        → u.number ≡ n → at ≤ u.position → ⊥) → AreEdgesTo set driver (n + 1) 0 edges
    next_routine never =
        record {
          within = h.within;
          once = h.once;
          each = h.each;
          all = next_in never;
          past = all_past_routine n at edges h.past;
          ordered = h.ordered;
          first = h.first;
        }

    -- positions one after another
    module _ (new : List NumberedEdge)
        (stay : (held taken : Guard) → HasEdge edges held taken → HasEdge new held taken) where
      on_by : ((held taken : Guard) (u : TakesUnder set driver held taken) → u.number ≡ n
          → u.position ≡ at → HasEdge new held taken)
          → (held taken : Guard) (u : TakesUnder set driver held taken)
          → (u.number < n) ⊎ ((u.number ≡ n) × (u.position < at + 1)) → HasEdge new held taken
      on_by here held taken u (inl less) = stay held taken (h.all held taken u (inl less))
      on_by here held taken u (inr low) =
          elim (cases_lt u.position at) [
            | inl before ↦ stay held taken (h.all held taken u (inr (low.0, before)))
            | inr late ↦ here held taken u low.0 (let l : u.position < at + 1 = low.1 in omega arith)
          ]

      pub next_position : AreWithin new → AreOnce new → All (IsNumberedEdge set driver) new
          → AreInOrder new × All (IsPast n (at + 1)) new → All (IsFirstEdge set driver) new
          → ((held taken : Guard) (u : TakesUnder set driver held taken) → u.number ≡ n
          → u.position ≡ at → HasEdge new held taken)
          → AreEdgesTo set driver n (at + 1) new
      next_position small once each ordered first here =
          record {
            within = small;
            once = once;
            each = each;
            all = on_by here;
            past = ordered.1;
            ordered = ordered.0;
            first = first;
          }

-- an edge is added once
first_apart : (e : NumberedEdge) (edges : List NumberedEdge) (held taken : ℕ)
    → (e.taken ≡ taken → e.held ≡ held → ⊥) → IsNew edges held taken
    → IsNew (e ∷ edges) held taken
first_apart e edges held taken apart rest zero d l = apart
first_apart e edges held taken apart rest (suc k) d l = rest k d (omega arith)

abbrev Pair : List NumberedEdge → ℕ → ℕ → Type 0
Pair edges held taken =
    (k : ℕ) × (e : NumberedEdge) × (slice_get edges k ≡ Some e) × (e.held ≡ held)
    × (e.taken ≡ taken)

pair_by : (e : NumberedEdge) (edges : List NumberedEdge) (held taken : ℕ)
    → (e.held ≡ held) ⊎ (e.held ≢ held) → (e.taken ≡ taken) ⊎ (e.taken ≢ taken)
    → ((e.taken ≡ taken → e.held ≡ held → ⊥) → Pair edges held taken)
    → Pair (e ∷ edges) held taken
pair_by e edges held taken (inl first) (inl second) rest = (zero, e, refl, first, second)
pair_by e edges held taken (inl first) (inr apart) rest =
    (let there : Pair edges held taken = rest (λ t h. apart t) in
    (suc there.0, there.1, there.2, there.3, there.4))
pair_by e edges held taken (inr apart) second rest =
    (let there : Pair edges held taken = rest (λ t h. apart h) in
    (suc there.0, there.1, there.2, there.3, there.4))

not_new : (edges : List NumberedEdge) (held taken : ℕ) → (IsNew edges held taken → ⊥)
    → Pair edges held taken
not_new [] held taken old = absurd (old (λ k d l. absurd (omega arith)))
not_new (e ∷ edges) held taken old =
    pair_by e edges held taken (cases_eq e.held held) (cases_eq e.taken taken)
    (λ apart. not_new edges held taken
    (λ rest. old (first_apart e edges held taken apart rest)))

module _ (is : Bool) (e : NumberedEdge) (old new : List NumberedEdge) where
  added_all : (P : NumberedEdge → Type 0) → IsAdded is e old new → All P old
      → (is ≡ true → P e) → All P new
  added_all P (inl same) all one = subst (λ (xs : List NumberedEdge). All P xs) (sym same.0) all
  added_all P (inr more) all one =
      subst (λ (xs : List NumberedEdge). All P xs) (sym more.2) (All-push P old e all (one more.0))

  added_stays : (held taken : Guard) → IsAdded is e old new → HasEdge old held taken
      → HasEdge new held taken
  added_stays held taken (inl same) has =
      subst (λ (xs : List NumberedEdge). HasEdge xs held taken) (sym same.0) has
  added_stays held taken (inr more) has =
      subst (λ (xs : List NumberedEdge). HasEdge xs held taken) (sym more.2)
      (has_more old (e ∷ []) held taken has)

  added_has : (held taken : Guard) → IsAdded is e old new → is ≡ true
      → e.held ≡ number_of held → e.taken ≡ number_of taken → HasEdge new held taken
  added_has held taken (inl same) one first second =
      let there : Pair old e.held e.taken = not_new old e.held e.taken (same.1 one) in
      subst (λ (xs : List NumberedEdge). HasEdge xs held taken) (sym same.0)
      (there.0, there.1, there.2, there.3 ∙ first, there.4 ∙ second)
  added_has held taken (inr more) one first second =
      subst (λ (xs : List NumberedEdge). HasEdge xs held taken) (sym more.2)
      (has_after old (e ∷ []) held taken (zero, e, refl, first, second))

module _ (old : List NumberedEdge) (e : NumberedEdge) (fresh : IsNew old e.held e.taken)
    (once : AreOnce old) where
  never_there : (k : ℕ) (f : NumberedEdge) → slice_get old k ≡ Some f → f.taken ≡ e.taken
      → f.held ≡ e.held → ⊥
  never_there k f there =
      subst (λ (g : NumberedEdge). g.taken ≡ e.taken → g.held ≡ e.held → ⊥)
      (get_or_from_slice_get old k f f there) (fresh k f (slice_get_within old k f there))

  once_by : (j k : ℕ) (f g : NumberedEdge)
      → (slice_get old j ≡ Some f) ⊎ ((j ≡ length old) × (e ≡ f))
      → (slice_get old k ≡ Some g) ⊎ ((k ≡ length old) × (e ≡ g))
      → f.held ≡ g.held → f.taken ≡ g.taken → j ≡ k
  once_by j k f g (inl first) (inl second) held taken = once j k f g first second held taken
  once_by j k f g (inl first) (inr second) held taken =
      absurd (never_there j f first (taken ∙ ap (λ (x : NumberedEdge). x.taken) (sym second.1))
      (held ∙ ap (λ (x : NumberedEdge). x.held) (sym second.1)))
  once_by j k f g (inr first) (inl second) held taken =
      absurd (never_there k g second
      (sym taken ∙ ap (λ (x : NumberedEdge). x.taken) (sym first.1))
      (sym held ∙ ap (λ (x : NumberedEdge). x.held) (sym first.1)))
  once_by j k f g (inr first) (inr second) held taken = first.0 ∙ sym second.0

  once_more : AreOnce (old ++ e ∷ [])
  once_more = λ j k f g first second.
      once_by j k f g (get_last old e f j first) (get_last old e g k second)

added_once : (is : Bool) (e : NumberedEdge) (old new : List NumberedEdge) → IsAdded is e old new
    → AreOnce old → AreOnce new
added_once is e old new (inl same) once = subst AreOnce (sym same.0) once
added_once is e old new (inr more) once = subst AreOnce (sym more.2) (once_more old e more.1 once)

-- and so are those of an instruction
module _ (s : Abs) (k n at : ℕ) (old : List NumberedEdge) where
  adds_all : (P : NumberedEdge → Type 0) (count : ℕ) (new : List NumberedEdge)
      → AreAdded s k n at count old new → All P old
      → ((lock : ℕ) → lock < count → holds_number s lock ≡ true → P (edge lock k n at))
      → All P new
  adds_all P zero new added all each =
      subst (λ (xs : List NumberedEdge). All P xs) (sym added) all
  adds_all P (suc lock) new added all each =
      added_all (holds_number s lock) (edge lock k n at) added.0 new P added.2
      (adds_all P lock added.0 added.1 all (λ l low. each l (omega arith)))
      (each lock (omega arith))

  adds_stay : (held taken : Guard) (count : ℕ) (new : List NumberedEdge)
      → AreAdded s k n at count old new → HasEdge old held taken → HasEdge new held taken
  adds_stay held taken zero new added has =
      subst (λ (xs : List NumberedEdge). HasEdge xs held taken) (sym added) has
  adds_stay held taken (suc lock) new added has =
      added_stays (holds_number s lock) (edge lock k n at) added.0 new held taken added.2
      (adds_stay held taken lock added.0 added.1 has)

  adds_once : (count : ℕ) (new : List NumberedEdge) → AreAdded s k n at count old new
      → AreOnce old → AreOnce new
  adds_once zero new added once = subst AreOnce (sym added) once
  adds_once (suc lock) new added once =
      added_once (holds_number s lock) (edge lock k n at) added.0 new added.2
      (adds_once lock added.0 added.1 once)

  adds_has : (held taken : Guard) (lock count : ℕ) (new : List NumberedEdge) → lock < count
      → AreAdded s k n at count old new → lock ≡ number_of held → k ≡ number_of taken
      → holds_number s lock ≡ true → HasEdge new held taken
  adds_has held taken lock zero new low added is to holds = absurd (omega arith)
  adds_has held taken lock (suc count) new low added is to holds =
      elim (cases_eq lock count) [
        | inl same ↦
            added_has (holds_number s count) (edge count k n at) added.0 new held taken added.2
            (ap (λ (l : ℕ). holds_number s l) (sym same) ∙ holds) (sym same ∙ is) to
        | inr apart ↦
            added_stays (holds_number s count) (edge count k n at) added.0 new held taken added.2
            (adds_has held taken lock count added.0 (omega arith) added.1 is to holds)
      ]

-- the edges that one instruction makes
module _ (set : Set) (driver number at n : ℕ) (s : Abs) (routine : RoutineOf) (i : Instr)
    (is_of : routine_of set driver number ≡ Some routine)
    (there : slice_get routine.code at ≡ Some i) (takes : number_taken i ≡ Some n)
    (arrives : Arrives (member set driver number routine) at s) where
  abbrev what : (g : Guard) × (lock_named i ≡ Some g) × (n ≡ number_of g)
  what = number_named i n takes

  is_edge : (held : Guard) (lock : ℕ) → lock ≡ number_of held → holds_guard s held ≡ true
      → IsNumberedEdge set driver (edge lock n number at)
  is_edge held lock is holds =
      record {
        held = held;
        taken = what.0;
        under = record {
          number = number;
          routine = routine;
          is_of = is_of;
          position = at;
          state = s;
          arrives = arrives;
          holds = holds;
          instruction = i;
          at = there;
          takes = what.1;
        };
        held_is = is;
        taken_is = what.2;
        routine = refl;
        position = refl;
      }

  numbered_edge : (lock : ℕ) (b : Bool) → nat_eq lock 8 ≡ b → (lock ≡ 8) ⊎ (lock ≢ 8)
      → holds_number s lock ≡ true → IsNumberedEdge set driver (edge lock n number at)
  numbered_edge lock true is (inl same) holds =
      is_edge CancelLock lock same (rw is at holds)
  numbered_edge lock false is (inr apart) holds =
      is_edge (DeviceLock lock) lock refl (rw is at holds)
  numbered_edge lock true is (inr apart) holds =
      (let no : nat_eq lock 8 ≡ false = ne_eqb lock 8 apart in let x : true ≡ false = sym is ∙ no in cc)
  numbered_edge lock false is (inl same) holds =
      (let no : nat_eq lock 8 ≡ true = eq-eqb lock 8 same in let x : false ≡ true = sym is ∙ no in cc)

  pub one_edge : (lock : ℕ) → holds_number s lock ≡ true
      → IsNumberedEdge set driver (edge lock n number at)
  one_edge lock holds = numbered_edge lock (nat_eq lock 8) refl (cases_eq lock 8) holds

pub beyond_false : (locks : List Bool) (l : ℕ) → length locks ≤ l → slice_index_or locks l false ≡ false
beyond_false [] l h = refl
beyond_false (b ∷ locks) zero h = absurd (omega arith)
beyond_false (b ∷ locks) (suc l) h = beyond_false locks l (omega arith)

held_by : (s : Abs) (l : ℕ) → length s.locks ≡ 8 → is_held s l ≡ true
    → (l < 8) ⊎ (8 ≤ l) → (l < 9) × (holds_number s l ≡ true)
held_by s l eight holds (inl low) =
    let apart : nat_eq l 8 ≡ false = ne_eqb l 8 (λ is. absurd (omega arith)) in
    (omega arith, rw apart holds)
held_by s l eight holds (inr high) =
    let none : is_held s l ≡ false = beyond_false s.locks l (omega (arith, eight)) in
    let no : true ≡ false = sym holds ∙ none in
    cc

held_number : (s : Abs) (held : Guard) → length s.locks ≡ 8 → holds_guard s held ≡ true
    → (number_of held < 9) × (holds_number s (number_of held) ≡ true)
held_number s CancelLock eight holds = (omega arith, holds)
held_number s (DeviceLock l) eight holds = held_by s l eight holds (cases_lt l 8)

-- the routine of a number
pub record Found (set : Set) (driver n : ℕ) (m : Member) : Type 0 where
  pub routine : RoutineOf
  pub is : m ≡ member set driver n routine
  pub is_of : routine_of set driver n ≡ Some routine

found_by : (set : Set) (driver n : ℕ) (m : Member) (o : Option RoutineOf)
    → option_and_then (λ d. slice_get d.routines n) (slice_get set.drivers driver) ≡ o
    → option_map (λ routine. member set driver n routine) o ≡ Some m → n < 255
    → Found set driver n m
found_by set driver n m None there is own = cc
found_by set driver n m (Some routine) there is own =
    let apart : nat_eq n default_number ≡ false = ne_eqb n default_number (λ e. absurd (omega arith)) in
    record {
      routine = routine;
      is = (let same : member set driver n routine ≡ m = cc in sym same);
      is_of = rw apart there;
    }

module _ (set : Set) (typable : IsTypable set) (driver n : ℕ) where
  pub none_routine : (edges : List NumberedEdge) → member_of set driver n ≡ None
      → AreEdgesTo set driver n 0 edges → AreEdgesTo set driver (n + 1) 0 edges
  none_routine edges none h =
      next_routine set driver n edges 0 h
      (λ held taken u same late.
      let there : member_of set driver n ≡ Some (member set driver u.number u.routine) =
      subst (λ (k : ℕ). member_of set driver k ≡ Some (member set driver u.number u.routine)) same
      (its_member set driver held taken u) in
      let no : None ≡ Some (member set driver u.number u.routine) = sym none ∙ there in
      cc)

  module _ (m : Member) (own : n < 255) (found : member_of set driver n ≡ Some m) where
    right : IsTypableRoutine m
    right = typable_member set typable driver n m found

    parts : Found set driver n m
    parts = found_by set driver n m
        (option_and_then (λ d. slice_get d.routines n) (slice_get set.drivers driver)) refl found
        own

    its_code : (held taken : Guard) (u : TakesUnder set driver held taken) → u.number ≡ n
        → slice_get m.routine.code u.position ≡ Some u.instruction
    its_code held taken u same =
        let there : member_of set driver n ≡ Some (member set driver u.number u.routine) =
        subst (λ (k : ℕ). member_of set driver k ≡ Some (member set driver u.number u.routine)) same
        (its_member set driver held taken u) in
        let is : Some m ≡ Some (member set driver u.number u.routine) = sym found ∙ there in
        let one : m ≡ member set driver u.number u.routine = cc in
        subst (λ (x : Member). slice_get x.routine.code u.position ≡ Some u.instruction) (sym one)
        u.at

    its_state : (held taken : Guard) (u : TakesUnder set driver held taken) → u.number ≡ n
        → Arrives m u.position u.state
    its_state held taken u same =
        let there : member_of set driver n ≡ Some (member set driver u.number u.routine) =
        subst (λ (k : ℕ). member_of set driver k ≡ Some (member set driver u.number u.routine)) same
        (its_member set driver held taken u) in
        let is : Some m ≡ Some (member set driver u.number u.routine) = sym found ∙ there in
        let one : m ≡ member set driver u.number u.routine = cc in
        subst (λ (x : Member). Arrives x u.position u.state) (sym one) u.arrives

    pub done_routine : (at : ℕ) (edges : List NumberedEdge) → length m.routine.code ≤ at
        → AreEdgesTo set driver n at edges → AreEdgesTo set driver (n + 1) 0 edges
    done_routine at edges late h =
        next_routine set driver n edges at h
        (λ held taken u same after.
        let within : u.position < length m.routine.code =
        slice_get_within m.routine.code u.position u.instruction (its_code held taken u same) in
        absurd (omega arith))

    pub all_fine : (p : ℕ) → p < length m.routine.code - 1 → IsFineAt m p
    all_fine p low = right.each p (omega arith)

    module _ (at : ℕ) (i : Instr) (there : slice_get m.routine.code at ≡ Some i)
        (edges : List NumberedEdge) (h : AreEdgesTo set driver n at edges) where
      within : at < length m.routine.code
      within = slice_get_within m.routine.code at i there

      its_instruction : (held taken : Guard) (u : TakesUnder set driver held taken)
          → u.number ≡ n → u.position ≡ at → i ≡ u.instruction
      its_instruction held taken u same place =
          let its : slice_get m.routine.code at ≡ Some u.instruction =
          subst (λ (p : ℕ). slice_get m.routine.code p ≡ Some u.instruction) place
          (its_code held taken u same) in
          let is : Some i ≡ Some u.instruction = sym there ∙ its in
          cc

      pub position_none : number_taken i ≡ None → AreEdgesTo set driver n (at + 1) edges
      position_none none =
          next_position set driver n edges at h edges (λ held taken has. has) h.within h.once h.each
          (h.ordered, all_past_next n at edges h.past) h.first
          (λ held taken u same place.
          let is : i ≡ u.instruction = its_instruction held taken u same place in
          let takes : number_taken i ≡ Some (number_of taken) =
          subst (λ (x : Instr). number_taken x ≡ Some (number_of taken)) (sym is)
          (named_number u.instruction taken u.takes) in
          let no : None ≡ Some (number_of taken) = sym none ∙ takes in
          cc)

      module _ (table : List (Option Arrival))
          (known : AreKnown m (length m.routine.code - 1) table) where
        pub position_reached : slice_get table at ≡ Some None → ⊥
        position_reached blank =
            let fine : IsFineAt m at = right.each at within in
            let has : HasArrival table at =
            known_covered m (length m.routine.code - 1) at table known (omega (arith, within)) within
            fine.state fine.arrival.arrives in
            let no : Some None ≡ Some (Some has.0) = sym blank ∙ has.1 in
            cc

        pub position_some : (a : Arrival) (k : ℕ) → slice_get table at ≡ Some (Some a)
            → number_taken i ≡ Some k → k < 9 → (new : List NumberedEdge)
            → AreAdded a.state k n at 9 edges new → AreEdgesTo set driver n (at + 1) new
        position_some a k noted takes few new added =
            let s : Abs = a.state in
            let arrives : Arrives m at s = (known.traced at a noted).arrives in
            let fine : IsFineAt m at = right.each at within in
            let here : Arrives (member set driver n parts.routine) at s =
            subst (λ (x : Member). Arrives x at s) parts.is arrives in
            let code : slice_get parts.routine.code at ≡ Some i =
            subst (λ (x : Member). slice_get x.routine.code at ≡ Some i) parts.is there in
            next_position set driver n edges at h new
            (λ held taken has. adds_stay s k n at edges held taken 9 new added has)
            (adds_all s k n at edges IsWithin 9 new added h.within (λ lock low holds. (low, few)))
            (adds_once s k n at edges 9 new added h.once)
            (adds_all s k n at edges (IsNumberedEdge set driver) 9 new added h.each
            (λ lock low. one_edge set driver n at k s parts.routine i parts.is_of code takes here
            lock))
            (adds_in_order s k n at edges 9 new added h.ordered h.past)
            (adds_first s k n at edges set driver (adds_stay s k n at edges) h.all 9 new added h.first)
            (λ held taken u same place.
            let is : i ≡ u.instruction = its_instruction held taken u same place in
            let its : Some k ≡ Some (number_of taken) =
            sym takes
            ∙ subst (λ (x : Instr). number_taken x ≡ Some (number_of taken)) (sym is)
            (named_number u.instruction taken u.takes) in
            let to : k ≡ number_of taken = cc in
            let one : u.state ≡ s =
            fine.arrival.alone u.state
            (subst (λ (p : ℕ). Arrives m p u.state) place (its_state held taken u same))
            ∙ sym (fine.arrival.alone s arrives) in
            let holds : holds_guard s held ≡ true =
            subst (λ (x : Abs). holds_guard x held ≡ true) one u.holds in
            let low : (number_of held < 9) × (holds_number s (number_of held) ≡ true) =
            held_number s held (eight_arrives m at s arrives) holds in
            adds_has s k n at edges held taken (number_of held) 9 new low.0 added refl to low.1)

-- all routines of the driver
pub all_routines : (set : Set) (driver n : ℕ) (edges : List NumberedEdge)
    → AreEdgesTo set driver n 0 edges
    → ((held taken : Guard) (u : TakesUnder set driver held taken) → n ≤ u.number → ⊥)
    → AreEdgesOf set driver edges
all_routines set driver n edges h never =
    record {
      within = h.within;
      once = h.once;
      each = h.each;
      all = λ held taken u. elim (cases_lt u.number n) [
        | inl less ↦ h.all held taken u (inl less)
        | inr more ↦ absurd (never held taken u more)
      ];
      ordered = h.ordered;
      first = h.first;
    }

no_by : (set : Set) (driver n : ℕ) (held taken : Guard) (u : TakesUnder set driver held taken)
    → ((d : Driver) → slice_get set.drivers driver ≡ Some d → length d.routines ≤ n)
    → n ≤ u.number → (o : Option Driver) → slice_get set.drivers driver ≡ o
    → option_and_then (λ d. slice_get d.routines u.number) o ≡ Some u.routine → ⊥
no_by set driver n held taken u few late None there is = cc
no_by set driver n held taken u few late (Some d) there is =
    let low : u.number < length d.routines = slice_get_within d.routines u.number u.routine is in
    let least : length d.routines ≤ n = few d there in
    absurd (omega arith)

pub no_routine : (set : Set) (driver n : ℕ) (held taken : Guard)
    (u : TakesUnder set driver held taken)
    → ((d : Driver) → slice_get set.drivers driver ≡ Some d → length d.routines ≤ n)
    → n ≤ u.number → ⊥
no_routine set driver n held taken u few late =
    no_by set driver n held taken u few late (slice_get set.drivers driver) refl
    (own_routine set driver held taken u)

pub instruction_at : (code : List Instr) (p : ℕ) (i : Instr) → p < length code
    → i ≡ slice_index_or code p i → slice_get code p ≡ Some i
instruction_at code p i within is =
    slice_get-get_or code p i within ∙ ap (λ (x : Instr). Some x) (sym is)
