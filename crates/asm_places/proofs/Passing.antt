-- A line that begins and ends no driver and no routine leaves what is sought as it was.
use Rattle.std.proofs.Common.{◌≡◌, ◌+◌, ℕ, List, ◌∷◌, Option, false, refl}
use Rattle.model.specs.declared.instr.Instr.{Instr}
use Rattle.model.specs.declared.status.Major.{Major}
use Rattle.asm_line.specs.declared.line.Body.{Body}
use Rattle.asm_line.specs.declared.line.Body.TheVariants.{Blank, OpenDriver, CloseDriver, AddQueue, Handle, HandleStartIo, HandleDpc, OpenRoutine, CloseRoutine, AddDevice, Step}
use Rattle.asm_line.specs.declared.line.UsedNames.{UsedNames}
use Rattle.text.specs.Places.{IsIn}
use Rattle.text.specs.declared.spot.Spot.{Spot}
use Rattle.asm_places.specs.declared.source.Sought.{Sought}
use Rattle.asm_places.specs.declared.source.Sought.TheVariants.{Driver as InDriver, Routine as InRoutine, End, Nothing}
use Rattle.asm_places.specs.Outline.{outline_from, outlines}
use Rattle.asm_places.specs.Source.{body_on, counted, lines_from, past, seeks_end}

-- what holds of each other line
of_others : (P : Body → Type 0) → P Blank
    → ((major : Major) (handler : List ℕ) → P (Handle major handler))
    → ((handler : List ℕ) (cancel : Option (List ℕ)) → P (HandleStartIo handler cancel))
    → ((handler : List ℕ) → P (HandleDpc handler))
    → ((instr : Option Instr) (used : UsedNames) → P (Step instr used))
    → (b : Body) → outlines b ≡ false → P b
of_others P blank handle startio dpc step Blank e = blank
of_others P blank handle startio dpc step (OpenDriver name) e = cc
of_others P blank handle startio dpc step CloseDriver e = cc
of_others P blank handle startio dpc step (AddQueue name guard cancel) e = cc
of_others P blank handle startio dpc step (Handle major handler) e = handle major handler
of_others P blank handle startio dpc step (HandleStartIo handler cancel) e = startio handler cancel
of_others P blank handle startio dpc step (HandleDpc handler) e = dpc handler
of_others P blank handle startio dpc step (OpenRoutine name sort) e = cc
of_others P blank handle startio dpc step CloseRoutine e = cc
of_others P blank handle startio dpc step (AddDevice name driver stack lower) e = cc
of_others P blank handle startio dpc step (Step instr used) e = step instr used

in_driver : (routine before : ℕ) (b : Body) → outlines b ≡ false
    → past routine (InDriver before) b ≡ InDriver before
in_driver routine before b e =
    of_others (λ b. past routine (InDriver before) b ≡ InDriver before) refl (λ major handler. refl)
    (λ handler cancel. refl) (λ handler. refl) (λ instr used. refl) b e

in_routine : (routine before : ℕ) (b : Body) → outlines b ≡ false
    → past routine (InRoutine before) b ≡ InRoutine before
in_routine routine before b e =
    of_others (λ b. past routine (InRoutine before) b ≡ InRoutine before) refl
    (λ major handler. refl) (λ handler cancel. refl) (λ handler. refl) (λ instr used. refl) b e

same_sought : (routine : ℕ) (sought : Sought) (b : Body) → seeks_end sought ≡ false
    → outlines b ≡ false → past routine sought b ≡ sought
same_sought routine (InDriver before) b e q = in_driver routine before b q
same_sought routine (InRoutine before) b e q = in_routine routine before b q
same_sought routine End b e q = cc
same_sought routine Nothing b e q = refl

none_counted : (sought : Sought) (b : Body) (n : ℕ) (later : List ℕ) → seeks_end sought ≡ false
    → counted sought b n later ≡ later
none_counted (InDriver before) b n later e = refl
none_counted (InRoutine before) b n later e = refl
none_counted End b n later e = cc
none_counted Nothing b n later e = refl

-- behind such a line the lines of the routine are found as from it on
pub passed : (routine : ℕ) (sought : Sought) (n : ℕ) (raw : List ℕ) (raws : List (List ℕ))
    → seeks_end sought ≡ false → outlines (body_on raw) ≡ false
    → lines_from routine sought n (raw ∷ raws) ≡ lines_from routine sought (n + 1) raws
passed routine sought n raw raws e q =
    let b = body_on raw in
    rw (
      same_sought routine sought b e q,
      none_counted sought b n (lines_from routine sought (n + 1) raws) e,
    ) refl

-- and so are the lines of the outline
pub unlisted : (n : ℕ) (raw : List ℕ) (raws : List (List ℕ)) → outlines (body_on raw) ≡ false
    → outline_from n (raw ∷ raws) ≡ outline_from (n + 1) raws
unlisted n raw raws q = rw q refl

-- a place, where no lines stand before the text
pub moved : (skipped : ℕ) (text all : List ℕ) (spot : Spot) → skipped ≡ 0 → text ≡ all
    → IsIn skipped text spot → IsIn 0 all spot
moved skipped text all spot none same is = rw (none, same) at is
