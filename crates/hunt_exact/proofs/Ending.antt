-- How a search ends.
use Rattle.laws_runs.proofs.Prelude.{arith, ap, refl, subst, sym, zero, ◌∙◌, IfSome, List, None, Option, Some, [], length, slice_get, suc, ℕ, Set, run, reply_to, ◌+◌, ◌<◌, ◌++◌, ◌∷◌, ◌≡◌, ◌≤◌, ◌⊎◌, inr, true, slice_get_within, Event}
use Rattle.model.specs.Run.{Run}
use Rattle.tell_audit.specs.declared.amiss.Amiss.{Amiss}
use Rattle.tell_audit.specs.declared.ending.Ending.{Ending}
use Rattle.tell_audit.specs.declared.ending.Ending.TheVariants.{Fails}
use Rattle.tell_audit.specs.Findings.{ringed_threads}
use Rattle.tell_audit.specs.Left.{left_locks}
use Rattle.tell_audit.specs.Naming.{lost_packets}
use Rattle.tell_audit.specs.Ends.{EndsSo, stops_with}
use Rattle.hunt_exact.specs.declared.search.Exactly.{Exactly}
use Rattle.hunt_exact.specs.declared.search.Searched.{Searched}
use Rattle.hunt_exact.specs.declared.search.Limits.{Limits}
use Rattle.hunt_exact.specs.declared.search.Shortest.{Shortest}
use Rattle.hunt_exact.specs.Amiss.{is_sought}
use Rattle.hunt_exact.specs.Exact.{HasGivenUp, IsAmissBehind, IsEnded, IsExact, IsFar, IsShortest, IsVisited, LeadToAll, ended_by, lists_up_to}
use Rattle.hunt_exact.specs.Searched.{HasExpanded, IsCounted, IsExpanded, IsFound}
use Rattle.hunt_exact.specs.Within.{AreWithin, EndsAmiss, FineUpTo, NeverAmiss, Scope}
use Rattle.hunt_exact.proofs.Counting.{few_kept}
use Rattle.hunt_exact.proofs.Fine.{sought_found}
use Rattle.hunt_exact.proofs.Following.{one_of_two, searched_begun, within_more}
use Rattle.hunt_exact.proofs.Reaching.{fine_up_to, lead_to_all, never_amiss}

none_past : {A : Type 0} (xs : List A) (k : ℕ) → slice_get xs k ≡ None → length xs ≤ k
none_past [] k none = omega arith
none_past (x ∷ xs) zero none = cc
none_past (x ∷ xs) (suc k) none =
    let few : length xs ≤ k = none_past xs k none in omega (arith, few)

pub all_ended : (scope : Scope) (paths : List (List Event)) (front n : ℕ) → n ≡ length paths
    → slice_get paths front ≡ None → IsCounted scope paths front
    → NeverAmiss scope × LeadToAll scope n
all_ended scope paths front n is none counted = (
  never_amiss scope paths front counted.searched (none_past paths front none),
  lead_to_all scope paths front n counted.searched (none_past paths front none) is,
)

pub more_ended : (scope : Scope) (limits : Limits) (paths : List (List Event)) (front n m : ℕ)
    (path : List Event) → n ≡ length paths → slice_get paths front ≡ Some path → m ≡ length path
    → IsFar limits.events m ⊎ (limits.worlds < n) → IsCounted scope paths front
    → FineUpTo scope m × HasGivenUp scope limits n m
more_ended scope limits paths front n m path is at long reached counted =
    let fine : FineUpTo scope m =
    subst (λ (k : ℕ). FineUpTo scope k) (sym long)
    (fine_up_to scope paths front path counted.searched at) in
    let few : n ≤ lists_up_to (length scope.moves) (suc m) =
    subst (λ (k : ℕ). k ≤ lists_up_to (length scope.moves) (suc m)) (sym is)
    (subst (λ (k : ℕ). length paths ≤ lists_up_to (length scope.moves) (suc k)) (sym long)
    (few_kept scope paths front path counted.searched at)) in
    (fine, record { reached = reached; few = few })

-- where the limit on worlds is at the front, more were met
pub limit_ended : (scope : Scope) (limits : Limits) (paths : List (List Event)) (n m : ℕ)
    (path : List Event) → n ≡ length paths → slice_get paths limits.worlds ≡ Some path
    → m ≡ length path → IsCounted scope paths limits.worlds
    → FineUpTo scope m × HasGivenUp scope limits n m
limit_ended scope limits paths n m path is at long counted =
    let inside : limits.worlds < length paths = slice_get_within paths limits.worlds path at in
    more_ended scope limits paths limits.worlds n m path is at long
    (inr (subst (λ (k : ℕ). limits.worlds < k) (sym is) inside)) counted

pub amiss_ended : (scope : Scope) (paths later : List (List Event)) (front : ℕ)
    (path front_path : List Event) (found : Option Event) (e : Event)
    → slice_get paths front ≡ Some path → front_path ≡ path
    → HasExpanded scope front_path paths later found → found ≡ Some e
    → IsCounted scope paths front → IsAmissBehind scope later front e
amiss_ended scope paths later front path front_path found e at same expanded is counted =
    let there : slice_get paths front ≡ Some front_path =
    at ∙ ap (λ (p : List Event). Some p) (sym same) in
    let come : IsFound scope front_path later front e =
    subst (λ (o : Option Event). IsExpanded scope front_path later front o) is
    (expanded front counted there) in
    record {
      path = front_path;
      kept = come.at;
      within = within_more scope front_path e (come.searched.within front front_path come.at)
          come.allowed;
      shortest = fine_up_to scope later front front_path come.searched come.at;
    }

pub goes_on_from : (scope : Scope) (paths later : List (List Event)) (front : ℕ)
    (path front_path : List Event) (found : Option Event) → slice_get paths front ≡ Some path
    → front_path ≡ path → HasExpanded scope front_path paths later found → found ≡ None
    → IsCounted scope paths front → IsCounted scope later (front + 1)
goes_on_from scope paths later front path front_path found at same expanded is counted =
    let there : slice_get paths front ≡ Some front_path =
    at ∙ ap (λ (p : List Event). Some p) (sym same) in
    let one : suc front ≡ front + 1 = omega arith in
    subst (λ (n : ℕ). IsCounted scope later n) one
    (subst (λ (o : Option Event). IsExpanded scope front_path later front o) is
    (expanded front counted there))

-- a find
ends_here : (scope : Scope) (set : Set) (threads : ℕ) (path before : List Event) (e : Event)
    (o : Option Ending) (ending : Ending) → set ≡ scope.set → threads ≡ scope.threads
    → path ≡ before → EndsSo set threads path e o → o ≡ Some ending
    → EndsSo scope.set scope.threads before e (Some ending)
ends_here scope set threads path before e o ending over on same ends is =
    subst (λ (s : Set). EndsSo s scope.threads before e (Some ending)) over
    (subst (λ (n : ℕ). EndsSo set n before e (Some ending)) on
    (subst (λ (p : List Event). EndsSo set threads p e (Some ending)) same
    (subst (λ (x : Option Ending). EndsSo set threads path e x) is ends)))

pub ends_amiss : (scope : Scope) (set : Set) (threads : ℕ) (path before : List Event) (e : Event)
    (o : Option Ending) (amiss : Amiss) → set ≡ scope.set → threads ≡ scope.threads
    → path ≡ before → EndsSo set threads path e o → o ≡ Some (Fails amiss)
    → is_sought amiss ≡ true → EndsAmiss scope before e amiss
ends_amiss scope set threads path before e o amiss over on same ends is sought =
    let last : Run = run scope.set scope.threads (before ++ e ∷ []) in
    sought_found (stops_with (reply_to scope.set scope.threads before e)) (lost_packets last.world)
    (left_locks last.world (length scope.set.devices)) (ringed_threads scope.set last.world) _
    amiss
    (ends_here scope set threads path before e o (Fails amiss) over on same ends is) sought

pub found_by : (scope : Scope) (paths : List (List Event)) (number : ℕ) (path items : List Event)
    (e : Event) (find : Shortest) → slice_get paths number ≡ Some path → items ≡ path
    → (AreWithin scope (items ++ e ∷ []) → FineUpTo scope (length items) → IsShortest scope find)
    → IsAmissBehind scope paths number e → IsShortest scope find
found_by scope paths number path items e find at same told behind =
    let one : behind.path ≡ items =
    one_of_two (slice_get paths number) behind.path path behind.kept at ∙ sym same in
    told (subst (λ (p : List Event). AreWithin scope (p ++ e ∷ [])) one behind.within)
    (subst (λ (p : List Event). FineUpTo scope (length p)) one behind.shortest)

-- what is sought at an end is sought where there is one
pub sought_more : (o : Option Ending) (ending : Ending) (found : Option Amiss) → o ≡ Some ending
    → IfSome found (λ amiss. (ending ≡ Fails amiss) × (is_sought amiss ≡ true))
    → IfSome found (λ amiss. (o ≡ Some (Fails amiss)) × (is_sought amiss ≡ true))
sought_more o ending None is found = found
sought_more o ending (Some amiss) is found =
    (is ∙ ap (λ (e : Ending). Some e) found.0, found.1)

-- a visit, and the search that goes on by it
pub visited : (scope : Scope) (limits : Limits) (paths later : List (List Event)) (front : ℕ)
    (path front_path : List Event) (found : Option Event) (ended : Option Searched)
    → slice_get paths front ≡ Some path → front_path ≡ path
    → HasExpanded scope front_path paths later found → ended ≡ ended_by front found
    → IsCounted scope paths front → IsVisited scope limits later front ended
visited scope limits paths later front path front_path None ended at same expanded is counted =
    subst (λ (o : Option Searched). IsVisited scope limits later front o) (sym is)
    (goes_on_from scope paths later front path front_path None at same expanded refl counted)
visited scope limits paths later front path front_path (Some e) ended at same expanded is counted =
    subst (λ (o : Option Searched). IsVisited scope limits later front o) (sym is)
    (amiss_ended scope paths later front path front_path (Some e) e at same expanded refl
    counted)

pub counted_on : (scope : Scope) (limits : Limits) (paths later : List (List Event)) (front : ℕ)
    (ended : Option Searched)
    → (IsCounted scope paths front → IsVisited scope limits later front ended) → ended ≡ None
    → IsCounted scope paths front → IsCounted scope later (front + 1)
counted_on scope limits paths later front ended visit is counted =
    subst (λ (o : Option Searched). IsVisited scope limits later front o) is (visit counted)

pub ended_on : (scope : Scope) (limits : Limits) (paths later : List (List Event)) (front : ℕ)
    (visited : Option Searched) (ended : Searched)
    → (IsCounted scope paths front → IsVisited scope limits later front visited)
    → visited ≡ Some ended → IsCounted scope paths front → IsEnded scope limits later ended
ended_on scope limits paths later front visited ended visit is counted =
    subst (λ (o : Option Searched). IsVisited scope limits later front o) is (visit counted)

pub ended_at : (scope : Scope) (limits : Limits) (paths : List (List Event)) (n m : ℕ)
    (ended : Searched) → n ≡ m
    → ((s : Scope) → IsCounted s paths m → IsEnded s limits paths ended)
    → IsCounted scope paths n → IsEnded scope limits paths ended
ended_at scope limits paths n m ended same stands counted =
    stands scope (subst (λ (k : ℕ). IsCounted scope paths k) same counted)

-- from the first run on
pub begun_and_ended : (scope : Scope) (limits : Limits) (seen : List (List Event))
    (answer : Exactly) → seen ≡ [] ∷ []
    → (IsCounted scope seen 0 → IsExact scope limits answer) → IsExact scope limits answer
begun_and_ended scope limits seen answer first goes =
    goes (subst (λ (ps : List (List Event)). IsCounted scope ps 0) (sym first)
    (searched_begun scope refl))

pub exact_of : (scope other : Scope) (limits : Limits) (answer : Exactly) → scope ≡ other
    → IsExact scope limits answer → IsExact other limits answer
exact_of scope other limits answer same exact =
    subst (λ (s : Scope). IsExact s limits answer) same exact
