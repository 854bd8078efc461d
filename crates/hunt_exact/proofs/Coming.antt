-- What comes of an event that is tried where a machine stands.
use Rattle.laws_runs.proofs.Prelude.{ap, arith, get_or, refl, slice_get-get_or, subst, sym, ◌∙◌, Bool, List, None, Option, Some, [], false, length, slice_get, suc, true, ℕ, ◌+◌, ◌++◌, ◌<◌, ◌∷◌, ◌≡◌, ◌≤◌, run, reply_to, Set, World, Event, Reply}
use Rattle.hunt_exact.specs.Amiss.{amiss_at}
use Rattle.hunt_exact.specs.Searched.{Came, Followed, GoesTo, HasCome, HasExpanded, HasFollowed, HasFollowedEach, IsAt, IsCounted, IsFollowing, IsFound, IsKept, is_new, was_met, IsKeptFrom, IsMet, IsSearched, IsThere, Leads, LeadsThere}
use Rattle.hunt_exact.specs.Within.{IsAllowed, Scope, is_open, run_of, world_of}
use Rattle.hunt_exact.proofs.Following.{followed_on, front_on, passed_over}
use Rattle.hunt_exact.specs.declared.visiting.Outcome.{Outcome}
use Rattle.hunt_exact.specs.declared.visiting.Outcome.TheVariants.{Goes, Stays}
use Rattle.laws_runs.specs.Waits.{WaitingChangesNothing, says_unchanged}
use Rattle.model.specs.Machine.{AppliesWhole, Machine, ShowsWhole}

-- a machine of the set that shows a run which hasn't stopped
pub at_path : (scope : Scope) (path : List Event) (m : Machine) → m.set ≡ scope.set
    → ShowsWhole m scope.threads path → (run_of scope path).stopped ≡ false → IsAt scope path m
at_path scope path m set shows on =
    record {
      set = set;
      shows = shows;
      on = shows.stopped ∙ ap (λ (s : Set). (run s scope.threads path).stopped) set ∙ on;
    }

pub still_at : (scope : Scope) (path : List Event) (m : Machine) → IsAt scope path m
    → (run_of scope path).stopped ≡ false
still_at scope path m at =
    sym (at.shows.stopped ∙ ap (λ (s : Set). (run s scope.threads path).stopped) at.set) ∙ at.on

pub world_at : (scope : Scope) (path : List Event) (m : Machine) → IsAt scope path m
    → m.world ≡ world_of scope path
world_at scope path m at =
    at.shows.world ∙ ap (λ (s : Set). (run s scope.threads path).world) at.set

module _ (scope : Scope) (path : List Event) (m k : Machine) (e : Event) (reply : Reply)
    (at : IsAt scope path m) (ran : AppliesWhole m e k reply) (quiet : k.stopped ≡ false) where
  over : k.set ≡ scope.set
  over = ran.set ∙ at.set

  pub behind : IsAt scope (path ++ e ∷ []) k
  behind =
      record { set = over; shows = ran.shows scope.threads path at.shows; on = quiet }

  -- the machine shows each run that leads to the same world
  shows_too : (events : List Event) → world_of scope events ≡ world_of scope path
      → (run_of scope events).stopped ≡ false → ShowsWhole m scope.threads events
  shows_too events same still =
      record {
        world = world_at scope path m at ∙ sym same
            ∙ sym (ap (λ (s : Set). (run s scope.threads events).world) at.set);
        stopped = at.on ∙ sym still
            ∙ sym (ap (λ (s : Set). (run s scope.threads events).stopped) at.set);
      }

  module _ (none : amiss_at k.set k.world reply ≡ None) where
    leads_on : (events : List Event) → ShowsWhole m scope.threads events
        → Leads scope events e k.world
    leads_on events shows =
        let after : ShowsWhole k scope.threads (events ++ e ∷ []) =
        ran.shows scope.threads events shows in
        let there : world_of scope (events ++ e ∷ []) ≡ k.world =
        sym (after.world
        ∙ ap (λ (s : Set). (run s scope.threads (events ++ e ∷ [])).world) over) in
        let told : reply ≡ reply_to scope.set scope.threads events e =
        ran.replies scope.threads events shows
        ∙ ap (λ (s : Set). reply_to s scope.threads events e) at.set in
        record {
          fine =
              ap (λ (w : World). amiss_at scope.set w (reply_to scope.set scope.threads events e))
              there
              ∙ sym (ap (λ (y : Reply). amiss_at scope.set k.world y) told)
              ∙ sym (ap (λ (s : Set). amiss_at s k.world reply) over) ∙ none;
          on =
              sym (after.stopped
              ∙ ap (λ (s : Set). (run s scope.threads (events ++ e ∷ [])).stopped) over)
              ∙ quiet;
          world = there;
        }

    pub goes_on : GoesTo scope path e k.world
    goes_on events same still = leads_on events (shows_too events same still)

    -- an event that changes nothing leads back
    module _ (waits : WaitingChangesNothing) (unchanged : says_unchanged reply ≡ true) where
      back : k.world ≡ world_of scope path
      back =
          let told : reply ≡ reply_to scope.set scope.threads path e =
          ran.replies scope.threads path at.shows
          ∙ ap (λ (s : Set). reply_to s scope.threads path e) at.set in
          world_at scope (path ++ e ∷ []) k behind
          ∙ waits scope.set scope.threads path e
          (subst (λ (y : Reply). says_unchanged y ≡ true) told unchanged)

      pub stays_at : IsAt scope path k
      stays_at =
          record {
            set = over;
            shows = record {
              world = back ∙ sym (ap (λ (s : Set). (run s scope.threads path).world) over);
              stopped = quiet ∙ sym (still_at scope path m at)
                  ∙ sym (ap (λ (s : Set). (run s scope.threads path).stopped) over);
            };
            on = quiet;
          }

      pub goes_back : GoesTo scope path e (world_of scope path)
      goes_back = subst (λ (w : World). GoesTo scope path e w) back goes_on

-- a world that was met, and one that is met now
pub kept_old : (scope : Scope) (path : List Event) (e : Event) (m : Machine)
    (paths : List (List Event)) → IsThere scope paths m → IsKeptFrom scope path e m paths paths
kept_old scope path e m paths there at near =
    let met : (n : ℕ) × IsMet scope paths n m.world = there (path ++ e ∷ []) at in
    was_met paths (record {
      number = met.1.number;
      path = met.1.path;
      kept = met.1.kept;
      near = near met.1.number met.1.path met.1.kept;
      same = met.1.same;
      on = met.1.on;
    })

pub kept_new : (scope : Scope) (path : List Event) (e : Event) (m : Machine)
    (paths later : List (List Event)) (longer : List Event) → longer ≡ path ++ e ∷ []
    → later ≡ paths ++ longer ∷ [] → IsKeptFrom scope path e m paths later
kept_new scope path e m paths later longer is grown at near =
    subst (λ (ps : List (List Event)). IsKept scope path e m.world paths ps)
    (sym (grown ∙ ap (λ (q : List Event). paths ++ q ∷ []) is)) (is_new paths)

-- an event that is followed behind the run at the front
module _ (scope : Scope) (path : List Event) (e : Event) (m k : Machine)
    (paths : List (List Event)) (front tried : ℕ)
    (following : IsFollowing scope paths front path tried)
    (there : slice_get scope.moves tried ≡ Some e) (at : IsAt scope path m) where
  near_front : (number : ℕ) (other : List Event) → slice_get paths number ≡ Some other
      → length other ≤ suc (length path)
  near_front number other kept =
      following.searched.near front number path other (omega arith) following.at kept

  allowed_here : is_open scope.packets m.world e ≡ true → IsAllowed scope (world_of scope path) e
  allowed_here may =
      record {
        tried = (tried, there);
        may =
            subst (λ (w : World). is_open scope.packets w e ≡ true) (world_at scope path m at) may;
      }

  pub not_open : (is_open scope.packets m.world e ≡ true → ⊥) → Followed scope path front tried e m paths paths false
  not_open shut = (
    passed_over scope paths front path tried following e there
        (λ allowed.
        shut (subst (λ (w : World). is_open scope.packets w e ≡ true) (sym (world_at scope path m at)) allowed.may)),
    at,
  )

  pub stayed : is_open scope.packets m.world e ≡ true → IsAt scope path k
      → GoesTo scope path e (world_of scope path)
      → Followed scope path front tried e k paths paths false
  stayed may stays goes = (
    followed_on scope paths front path tried following e there (world_of scope path) goes
        (allowed_here may) paths
        (was_met paths (record {
          number = front;
          path = path;
          kept = following.at;
          near = omega arith;
          same = refl;
          on = still_at scope path m at;
        })),
    stays,
  )

  pub went : (w : World) (later : List (List Event)) → is_open scope.packets m.world e ≡ true → IsAt scope path k
      → GoesTo scope path e w
      → (((number : ℕ) (other : List Event) → slice_get paths number ≡ Some other
      → length other ≤ suc (length path)) → IsKept scope path e w paths later)
      → Followed scope path front tried e k paths later false
  went w later may stays goes kept = (
    followed_on scope paths front path tried following e there w goes (allowed_here may)
        later (kept near_front),
    stays,
  )

  pub found_here : is_open scope.packets m.world e ≡ true → Followed scope path front tried e k paths paths true
  found_here may = (refl, allowed_here may)

-- before the first event is followed, and behind the last one
pub following_begun : (scope : Scope) (paths : List (List Event)) (front : ℕ) (path : List Event)
    → IsCounted scope paths front → slice_get paths front ≡ Some path
    → IsFollowing scope paths front path 0
following_begun scope paths front path counted at =
    record {
      searched = counted.searched;
      few = omega (arith, counted.few);
      most = omega arith;
      at = at;
      followed = λ i e less kept allowed. absurd (omega (arith, less));
    }

-- what comes of all events behind the run at the front
pub found_each : (scope : Scope) (path : List Event) (paths later : List (List Event))
    (front tried : ℕ) (e : Event) (k : Machine) → IsFollowing scope paths front path tried
    → Followed scope path front tried e k paths later true → IsFound scope path later front e
found_each scope path paths later front tried e k following found =
    record {
      searched =
          subst (λ (ps : List (List Event)). IsSearched scope ps front) (sym found.0)
          following.searched;
      at =
          subst (λ (ps : List (List Event)). slice_get ps front ≡ Some path) (sym found.0)
          following.at;
      allowed = found.1;
    }

-- the front is followed where a machine stands there
pub expanded : (scope : Scope) (path : List Event) (m : Machine)
    (paths later : List (List Event)) (found : Option Event) → m.set ≡ scope.set
    → ShowsWhole m scope.threads path → HasFollowedEach scope path m paths later found
    → HasExpanded scope path paths later found
expanded scope path m paths later found set shows each front counted at =
    each front (following_begun scope paths front path counted at)
    (at_path scope path m set shows (counted.searched.on front path at))

-- in the words of the code
pub came_back : (m k : Machine) (e : Event) (reply : Reply) (halted amiss idle : Bool)
    → AppliesWhole m e k reply → halted ≡ k.stopped → halted ≡ false
    → (amiss ≡ false → amiss_at k.set k.world reply ≡ None) → amiss ≡ false
    → WaitingChangesNothing → idle ≡ says_unchanged reply → idle ≡ true → HasCome e m k Stays
came_back m k e reply halted amiss idle ran is quiet fine none waits told unchanged scope path at = (
  stays_at scope path m k e reply at ran (sym is ∙ quiet) (fine none) waits
      (sym told ∙ unchanged),
  goes_back scope path m k e reply at ran (sym is ∙ quiet) (fine none) waits
      (sym told ∙ unchanged),
)

pub came_on : (m k : Machine) (e : Event) (reply : Reply) (halted amiss : Bool)
    → AppliesWhole m e k reply → halted ≡ k.stopped → halted ≡ false
    → (amiss ≡ false → amiss_at k.set k.world reply ≡ None) → amiss ≡ false
    → HasCome e m k Goes
came_on m k e reply halted amiss ran is quiet fine none scope path at = (
  behind scope path m k e reply at ran (sym is ∙ quiet),
  goes_on scope path m k e reply at ran (sym is ∙ quiet) (fine none),
)

pub leads_same : (scope : Scope) (path : List Event) (there m : Machine) (halted same : Bool)
    → there.set ≡ scope.set → ShowsWhole there scope.threads path → halted ≡ there.stopped
    → halted ≡ false
    → (same ≡ true → (threads more : ℕ) (events others : List Event)
    → ShowsWhole there threads events → ShowsWhole m more others → there.stopped ≡ false
    → m.stopped ≡ false → there.world ≡ m.world)
    → same ≡ true → LeadsThere scope path m
leads_same scope path there m halted same set shows is quiet one holds others at = (
  sym (shows.world ∙ ap (λ (s : Set). (run s scope.threads path).world) set)
      ∙ one holds scope.threads scope.threads path others shows at.shows (sym is ∙ quiet) at.on,
  sym (shows.stopped ∙ ap (λ (s : Set). (run s scope.threads path).stopped) set)
      ∙ sym is ∙ quiet,
)

pub is_there_by : (scope : Scope) (paths : List (List Event)) (number : ℕ) (path : List Event)
    (m : Machine) (leads : Bool) → slice_get paths number ≡ Some path
    → (leads ≡ true → LeadsThere scope path m) → leads ≡ true → IsThere scope paths m
is_there_by scope paths number path m leads kept there holds others at = (
  length path,
  record {
    number = number;
    path = path;
    kept = kept;
    near = omega arith;
    same = (there holds others at).0;
    on = (there holds others at).1;
  },
)

pub kept_met : (scope : Scope) (path : List Event) (e : Event) (m : Machine)
    (paths later : List (List Event)) (met : Bool) → later ≡ paths
    → (met ≡ true → IsThere scope later m) → met ≡ true → IsKeptFrom scope path e m paths later
kept_met scope path e m paths later met same there holds =
    subst (λ (ps : List (List Event)). IsKeptFrom scope path e m ps later) same
    (kept_old scope path e m later (there holds))

pub kept_grown : (scope : Scope) (path : List Event) (e : Event) (m : Machine)
    (paths between later : List (List Event)) (longer : List Event) → between ≡ paths
    → longer ≡ path ++ e ∷ [] → later ≡ between ++ longer ∷ []
    → IsKeptFrom scope path e m paths later
kept_grown scope path e m paths between later longer same is grown =
    subst (λ (ps : List (List Event)). IsKeptFrom scope path e m ps later) same
    (kept_new scope path e m between later longer is grown)

pub followed_back : (scope : Scope) (path : List Event) (e : Event) (m k : Machine)
    (paths : List (List Event)) (outcome : Outcome) → HasCome e m k outcome → outcome ≡ Stays
    → is_open scope.packets m.world e ≡ true → HasFollowed scope path e m k paths paths false
followed_back scope path e m k paths outcome come is may front tried following there at =
    let came : Came scope path e k Stays =
    subst (λ (o : Outcome). Came scope path e k o) is (come scope path at) in
    stayed scope path e m k paths front tried following there at may came.0 came.1

pub followed_kept : (scope : Scope) (path : List Event) (e : Event) (m k n : Machine)
    (paths later : List (List Event)) (outcome : Outcome) → HasCome e m k outcome
    → outcome ≡ Goes → is_open scope.packets m.world e ≡ true
    → IsKeptFrom scope path e k paths later → n.set ≡ scope.set
    → ShowsWhole n scope.threads path → HasFollowed scope path e m n paths later false
followed_kept scope path e m k n paths later outcome come is may kept set shows front tried
    following there at =
    let came : Came scope path e k Goes =
    subst (λ (o : Outcome). Came scope path e k o) is (come scope path at) in
    went scope path e m n paths front tried following there at k.world later may
    (at_path scope path n set shows (still_at scope path m at)) came.1
    (λ near. kept came.0 near)

pub followed_found : (scope : Scope) (path : List Event) (e : Event) (m k : Machine)
    (paths : List (List Event)) → is_open scope.packets m.world e ≡ true
    → HasFollowed scope path e m k paths paths true
followed_found scope path e m k paths may front tried following there at =
    found_here scope path e m k paths front tried following there at may

pub followed_shut : (scope : Scope) (path : List Event) (e : Event) (m : Machine)
    (paths : List (List Event)) (may : Bool) (packets : ℕ) → packets ≡ scope.packets
    → may ≡ is_open packets m.world e → may ≡ false
    → HasFollowed scope path e m m paths paths false
followed_shut scope path e m paths may packets same is shut front tried following there at =
    not_open scope path e m m paths front tried following there at
    (λ holds. let no : true ≡ false =
    sym holds ∙ sym (is ∙ ap (λ (n : ℕ). is_open n m.world e) same) ∙ shut in cc)

-- the events of the list in turn
module _ (scope : Scope) (path : List Event) (moves : List Event) (is : moves ≡ scope.moves)
    (i : ℕ) where
  at_place : (d : Event) → i < length moves → slice_get scope.moves i ≡ Some (get_or moves i d)
  at_place d inside =
      subst (λ (es : List Event). slice_get es i ≡ Some (get_or moves i d)) is
      (slice_get-get_or moves i d inside)

  module _ (d : Event) (m k : Machine) (paths later : List (List Event)) (ends : Bool)
      (inside : i < length moves)
      (followed : HasFollowed scope path (get_or moves i d) m k paths later ends) (front : ℕ)
      (following : IsFollowing scope paths front path i) (at : IsAt scope path m) where
    pub followed_next : ends ≡ false
        → IsFollowing scope later front path (i + 1) × IsAt scope path k
    followed_next goes =
        let one : suc i ≡ i + 1 = omega arith in
        let on : Followed scope path front i (get_or moves i d) k paths later false =
        subst (λ (b : Bool). Followed scope path front i (get_or moves i d) k paths later b) goes
        (followed front i following (at_place d inside) at) in
        (subst (λ (n : ℕ). IsFollowing scope later front path n) one on.0, on.1)

    pub found_next : ends ≡ true → IsFound scope path later front (get_or moves i d)
    found_next holds =
        found_each scope path paths later front i (get_or moves i d) k following
        (subst (λ (b : Bool). Followed scope path front i (get_or moves i d) k paths later b) holds
        (followed front i following (at_place d inside) at))

  pub searched_next : (paths : List (List Event)) (front : ℕ)
      → IsFollowing scope paths front path i → length moves ≤ i
      → IsCounted scope paths (suc front)
  searched_next paths front following all =
      front_on scope paths front path i following
      (subst (λ (es : List Event). length es ≤ i) is all)
