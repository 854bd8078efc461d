-- What is done to the world of a handle.
use Rattle.std.proofs.Common.{ℕ, ◌≡◌, ◌∙◌, Bool, true, false, List, [], Option, Some}
use Rattle.model.specs.declared.event.Event.{Event}
use Rattle.model.specs.Machine.{Shows}
use Rattle.model.specs.Set.{Set}
use Rattle.model.specs.Shown.{Shown}
use Rattle.laws_runs.specs.Rules.{KeepsTheRules}
use Rattle.pafteis_values.specs.declared.verdict.Verdict.{Verdict}
use Rattle.pafteis_values.specs.declared.verdict.Verdict.TheVariants.{Accepted, Refused, Text, Image, NoMemory}
use Rattle.pafteis_world.specs.declared.handle.Handle.{Handle}
use Rattle.pafteis_world.specs.Again.{IsBegun}
use Rattle.pafteis_world.specs.Driven.{Does, Holds, IsOpened, Opens, OpensFree, shown_if}
use Rattle.pafteis_world.specs.Judged.{Names}

-- a world was taken out, something was done to it, and it was put back
pub does : {A : Type 0} (Done : Shown → A → Shown → Type 0) (before : Option Shown) (live : Bool)
    (world m n : Shown) (answer : A) → before ≡ Some m → live ≡ true → world ≡ n
    → Done m answer n → Does Done before (Some answer) (shown_if live world)
does Done before live world m n answer e f g h = rw (e, f, g) h

-- a world was made of a set that bytes name, and put into a handle
pub opened : (bytes : List ℕ) (threads : ℕ) (live : Bool) (world m : Shown) (set : Set)
    → live ≡ true → world ≡ m → m.set ≡ set → Names bytes set → Shows m threads []
    → ((events : List Event) → KeepsTheRules set threads events)
    → Holds (IsOpened bytes threads) (shown_if live world)
opened bytes threads live world m set e f g named shows rules =
    let h : IsOpened bytes threads m =
    record { named = rw g named; shows = shows; rules = λ events. rw g (rules events) }
    in rw (e, f) h

-- a handle was empty, and then opened, or stayed
pub opens_free : (bytes : List ℕ) (threads : ℕ) (verdict : Verdict) (before after : Handle)
    → before.live ≡ false → Opens bytes threads verdict before after
    → OpensFree bytes threads verdict after
opens_free bytes threads Accepted before after e h = h
opens_free bytes threads (Refused refusal) before after e h = rw h e
opens_free bytes threads (Text fault) before after e h = rw h e
opens_free bytes threads (Image fault) before after e h = rw h e
opens_free bytes threads NoMemory before after e h = rw h e

-- a world was made of a copy of a set
pub begun : (set copy accepted : Set) (threads : ℕ) (m world : Shown) → copy ≡ set
    → accepted ≡ copy → m.set ≡ accepted → Shows m threads []
    → ((events : List Event) → KeepsTheRules accepted threads events) → world ≡ m
    → IsBegun set threads world
begun set copy accepted threads m world e f g shows rules h =
    let is : IsBegun set threads m =
    record { same = g ∙ f ∙ e; shows = shows; rules = λ events. rw g (rules events) }
    in rw h is
