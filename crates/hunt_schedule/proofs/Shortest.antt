-- What is told of a search is what may be told of an exact hunt.
use Rattle.std.proofs.Common.{◌≡◌, ◌+◌, Bool, List, Result, Ok, ℕ, subst, sym, length}
use Rattle.std.specs.Global.{Vec}
use Rattle.hunt_facts.specs.declared.bounds.Bounds.{Bounds}
use Rattle.hunt_exact.specs.declared.search.Exactly.{Exactly}
use Rattle.hunt_exact.specs.declared.search.Exactly.TheVariants.{Never, More as MoreFound}
use Rattle.hunt_exact.specs.declared.search.Shortest.{Shortest}
use Rattle.hunt_exact.specs.Exact.{HasGivenUp, IsExact, IsShortest, LeadToAll}
use Rattle.hunt_exact.specs.Within.{AreWithin, FineUpTo, NeverAmiss, Scope}
use Rattle.hunt_schedule.specs.declared.telling.Told.{Told}
use Rattle.hunt_schedule.specs.declared.telling.Told.TheVariants.{Found, Unlisted, All, More}
use Rattle.hunt_schedule.specs.Exact.{TellsExactly, TellsShortest, TellsWithin, limits_of}
use Rattle.hunt_schedule.specs.Lines.{fine_line, never_line}
use Rattle.hunt_schedule.specs.Telling.{TellsItsEnd}
use Rattle.hunt_search.specs.Hunts.{TellsRefused}
use Rattle.interleave.specs.declared.schedule.Schedule.{Schedule}
use Rattle.interleave.specs.Listing.{Lists}

pub tells_shortest : (scope : Scope) (bounds : Bounds) (find : Shortest) (told : Told)
    → IsShortest scope find → TellsShortest scope bounds find told
    → TellsExactly scope bounds told
tells_shortest scope bounds find (Found text) shortest tells =
    record { find = find; shortest = shortest; tells = tells }
tells_shortest scope bounds find (Unlisted line) shortest tells =
    record { find = find; shortest = shortest; says = tells }
tells_shortest scope bounds find (All line worlds) shortest tells = absurd tells
tells_shortest scope bounds find (More line worlds events) shortest tells = absurd tells

pub tells_never : (scope : Scope) (bounds : Bounds) (found : Exactly) (worlds : ℕ)
    (refused : Bool) (line : Vec ℕ) → found ≡ Never worlds → TellsRefused scope.set refused
    → line.items ≡ never_line bounds worlds refused → IsExact scope (limits_of bounds) found
    → TellsExactly scope bounds (All line worlds)
tells_never scope bounds found worlds refused line is verdict says exact =
    let none : NeverAmiss scope × LeadToAll scope worlds =
    subst (λ (x : Exactly). IsExact scope (limits_of bounds) x) is exact in
    (none.0, none.1, record { refused = refused; verdict = verdict; says = says })

pub tells_more : (scope : Scope) (bounds : Bounds) (found : Exactly) (worlds events : ℕ)
    (refused : Bool) (line : Vec ℕ) → found ≡ MoreFound worlds events
    → TellsRefused scope.set refused → line.items ≡ fine_line bounds worlds events refused
    → IsExact scope (limits_of bounds) found
    → TellsExactly scope bounds (More line worlds events)
tells_more scope bounds found worlds events refused line is verdict says exact =
    let none : FineUpTo scope events × HasGivenUp scope (limits_of bounds) worlds events =
    subst (λ (x : Exactly). IsExact scope (limits_of bounds) x) is exact in
    (none.0, none.1, record { refused = refused; verdict = verdict; says = says })

-- a text lists one schedule
one_ok : {A E : Type 0} (r : Result A E) (x y : A) → r ≡ Ok x → r ≡ Ok y → x ≡ y
one_ok r x y h g = cc

pub tells_within : (scope : Scope) (bounds : Bounds) (text : List ℕ)
    → TellsItsEnd scope.set bounds text
    → ((schedule : Schedule) × Lists text schedule × AreWithin scope schedule.events)
    → TellsWithin scope bounds text
tells_within scope bounds text tells listed =
    record {
      tells = tells;
      within =
          subst (λ (s : Schedule). AreWithin scope s.events)
          (one_ok _ listed.0 tells.schedule listed.1 tells.lists) listed.2;
    }
