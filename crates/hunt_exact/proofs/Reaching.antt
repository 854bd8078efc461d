-- Every run within the bounds leads to a world that a search has met.
use Rattle.laws_runs.proofs.Prelude.{ap, append-nil, append_assoc, arith, cases_lt, inl, inr, length-append, refl, subst, sym, ◌∙◌, List, Some, [], false, length, slice_get, suc, ℕ, ◌++◌, ◌+◌, ◌<◌, ◌∷◌, ◌≡◌, ◌≤◌, World, Event}
use Rattle.laws_runs.proofs.Prelude.{slice_get_within}
use Rattle.hunt_exact.specs.Exact.{LeadToAll}
use Rattle.hunt_exact.specs.Searched.{IsFollowed, IsMet, IsSearched, Leads}
use Rattle.hunt_exact.specs.Within.{AreWithin, FineUpTo, IsAllowed, NeverAmiss, Scope, run_of, world_of}

length_more : (events : List Event) (e : Event)
    → length (events ++ e ∷ []) ≡ suc (length events)
length_more events e =
    let long : length (events ++ e ∷ []) ≡ length events + 1 = length-append events (e ∷ []) in
    omega (arith, long)

-- a run that hasn't stopped leads to a world that was met
pub record IsReached (scope : Scope) (paths : List (List Event)) (events : List Event) : Type 0 where
  pub on : (run_of scope events).stopped ≡ false
  pub met : IsMet scope paths (length events) (world_of scope events)

-- the kept runs that are shorter than a number stand before the front
abbrev pub AreBefore : List (List Event) → ℕ → ℕ → Type 0
AreBefore paths front n =
    (k : ℕ) (path : List Event) → slice_get paths k ≡ Some path → length path < n → k < front

module _ (scope : Scope) (paths : List (List Event)) (front : ℕ)
    (searched : IsSearched scope paths front) (n : ℕ) (far : AreBefore paths front n) where
  -- an event that is allowed behind a run that is reached leads on
  leads_on : (events : List Event) (e : Event) → IsReached scope paths events → length events < n
      → IsAllowed scope (world_of scope events) e
      → (w : World) × Leads scope events e w × IsMet scope paths (suc (length events)) w
  leads_on events e reached short allowed =
      let met : IsMet scope paths (length events) (world_of scope events) = reached.met in
      let before : met.number < front =
      far met.number met.path met.kept (omega (arith, met.near, short)) in
      let behind : IsAllowed scope (world_of scope met.path) e =
      subst (λ (w : World). IsAllowed scope w e) (sym met.same) allowed in
      let on : IsFollowed scope paths met.path e =
      searched.followed met.number met.path e before met.kept behind in (
        on.world,
        on.goes events (sym met.same) reached.on,
        record {
          number = on.met.number;
          path = on.met.path;
          kept = on.met.kept;
          near = omega (arith, on.met.near, met.near);
          same = on.met.same;
          on = on.met.on;
        },
      )

  reached_on : (events : List Event) (e : Event) → IsReached scope paths events
      → length events < n → IsAllowed scope (world_of scope events) e
      → IsReached scope paths (events ++ e ∷ [])
  reached_on events e reached short allowed =
      let on : (w : World) × Leads scope events e w × IsMet scope paths (suc (length events)) w =
      leads_on events e reached short allowed in
      record {
        on = on.1.on;
        met = record {
          number = on.2.number;
          path = on.2.path;
          kept = on.2.kept;
          near = rw (length_more events e) on.2.near;
          same = on.2.same ∙ sym on.1.world;
          on = on.2.on;
        };
      }

  -- so every run within the bounds is reached that isn't too long
  reached_by : (before after : List Event) → AreWithin scope (before ++ after)
      → length (before ++ after) ≤ n → IsReached scope paths before
      → IsReached scope paths (before ++ after)
  reached_by before [] within short reached = rw (append-nil before) reached
  reached_by before (e ∷ after) within short reached =
      let regrouped : (before ++ e ∷ []) ++ after ≡ before ++ e ∷ after =
      append_assoc before (e ∷ []) after in
      let long : length (before ++ e ∷ after) ≡ length before + length (e ∷ after) =
      length-append before (e ∷ after) in
      let here : IsReached scope paths (before ++ e ∷ []) =
      reached_on before e reached (omega (arith, short, long)) (within before e after refl) in
      subst (λ (events : List Event). IsReached scope paths events) regrouped
      (reached_by (before ++ e ∷ []) after
      (subst (λ (events : List Event). AreWithin scope events) (sym regrouped) within)
      (subst (λ (events : List Event). length events ≤ n) (sym regrouped) short) here)

  begun_reached : IsReached scope paths []
  begun_reached =
      record {
        on = searched.on 0 [] searched.first;
        met = record {
          number = 0;
          path = [];
          kept = searched.first;
          near = omega arith;
          same = refl;
          on = searched.on 0 [] searched.first;
        };
      }

  pub reached_within : (events : List Event) → AreWithin scope events → length events ≤ n
      → IsReached scope paths events
  reached_within events within short = reached_by [] events within short begun_reached

  -- what is within the bounds up to its end is so before
  within_before : (before : List Event) (e : Event) → AreWithin scope (before ++ e ∷ [])
      → AreWithin scope before
  within_before before e within =
      λ first f after is.
      within first f (after ++ e ∷ [])
      (ap (λ (events : List Event). events ++ e ∷ []) is ∙ append_assoc first (f ∷ after) (e ∷ []))

  -- so none ends amiss that isn't longer
  pub fine_before : FineUpTo scope n
  fine_before before e within short =
      let reached : IsReached scope paths before =
      reached_within before (within_before before e within) (omega (arith, short)) in
      let on : (w : World) × Leads scope before e w × IsMet scope paths (suc (length before)) w =
      leads_on before e reached short (within before e [] refl) in
      on.1.fine

-- where all runs that are kept stand before the front, no run within the bounds ends amiss, and each
-- leads to the world of one of these
all_before : (paths : List (List Event)) (front n : ℕ) → length paths ≤ front
    → AreBefore paths front n
all_before paths front n all k path kept short =
    let inside : k < length paths = slice_get_within paths k path kept in
    omega (arith, inside, all)

pub never_amiss : (scope : Scope) (paths : List (List Event)) (front : ℕ)
    → IsSearched scope paths front → length paths ≤ front → NeverAmiss scope
never_amiss scope paths front searched all before e within =
    fine_before scope paths front searched (suc (length before))
    (all_before paths front (suc (length before)) all) before e within (omega arith)

pub lead_to_all : (scope : Scope) (paths : List (List Event)) (front n : ℕ)
    → IsSearched scope paths front → length paths ≤ front → n ≡ length paths
    → LeadToAll scope n
lead_to_all scope paths front n searched all is =
    record {
      runs = paths;
      many = sym is;
      within = searched.within;
      all = λ events within.
          let reached : IsReached scope paths events =
          reached_within scope paths front searched (length events)
          (all_before paths front (length events) all) events within (omega arith) in
          (reached.met.number, reached.met.path, reached.met.kept, reached.met.same);
    }

-- and else none of up to as many events as that at the front has
pub fine_up_to : (scope : Scope) (paths : List (List Event)) (front : ℕ) (path : List Event)
    → IsSearched scope paths front → slice_get paths front ≡ Some path
    → FineUpTo scope (length path)
fine_up_to scope paths front path searched at =
    fine_before scope paths front searched (length path)
    (λ k other kept short.
    elim (cases_lt k front) [
      | inl before ↦ before
      | inr behind ↦
          let more : length path ≤ length other =
          searched.sorted front k path other behind at kept in
          absurd (omega (arith, more, short))
    ])
