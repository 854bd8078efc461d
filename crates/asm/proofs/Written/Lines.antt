-- The drivers that are read are those of the lines.
use Rattle.std.proofs.Common.{◌≡◌, ℕ, ◌+◌, true, false, List, [], ◌∷◌, Option, Some, None, refl, ap, sym, ◌∙◌, subst, append-nil}
use Rattle.asm_line.specs.declared.line.Body.{Body}
use Rattle.asm_line.specs.declared.line.Body.TheVariants.{Blank, OpenDriver, CloseDriver, AddQueue, Handle, HandleStartIo, HandleDpc, OpenRoutine, CloseRoutine, AddDevice, Step as TakeStep}
use Rattle.asm_line.specs.declared.line.Line.{Line}
use Rattle.asm.specs.declared.draft.Place.{Place}
use Rattle.asm.specs.declared.draft.Place.TheVariants.{Outside, InDriver, InRoutine}
use Rattle.asm.specs.Outline.{Outline, draft_is_again, noted}
use Rattle.asm.specs.Faults.{is_out_of_range, stands}
use Rattle.asm.proofs.Scopes.{Reads}
use Rattle.asm.specs.Parts.{place_next}
use Rattle.asm.proofs.Written.Codes.{left, Turn}
use Rattle.asm.proofs.Tidy.{IsTidy, tidy_on}
use Rattle.asm.proofs.Fitting.{fitting}
use Rattle.asm.proofs.Written.Instructions.{step_turn, routine_closed_turn, routine_opened_turn}
use Rattle.asm.proofs.Written.Drivers.{dpc_turn, driver_opened_turn, driver_closed_turn, handled_turn, queue_added_turn, startio_turn}

blank_same : (o : Outline) (p : Place) (label : Option (List ℕ)) (ls : List Line)
    → left o p (record { label = label; body = Blank } ∷ ls) ≡ left o p ls
blank_same o Outside label ls = refl
blank_same o InDriver label ls = refl
blank_same o InRoutine label ls = refl

turn : (o : Outline) (n : ℕ) (p : Place) (label : Option (List ℕ)) (body : Body) (ls : List Line)
    → o.place ≡ p → stands p body ≡ true → draft_is_again o label body ≡ false
    → is_out_of_range body ≡ false → IsTidy o
    → Turn o (noted o n label body) p label body ls
turn o n p label Blank ls at stood fresh range h =
    record { place = at; same = blank_same o p label ls }
turn o n Outside label (OpenDriver name) ls at stood fresh range h =
    driver_opened_turn o name label ls (h.outside at)
turn o n _ label (OpenDriver name) ls at stood fresh range h = cc
turn o n InDriver label CloseDriver ls at stood fresh range h = driver_closed_turn o label ls
turn o n _ label CloseDriver ls at stood fresh range h = cc
turn o n InDriver label (Handle major name) ls at stood fresh range h =
    handled_turn o (record { line = n; name = name }) major label ls at fresh
turn o n _ label (Handle major name) ls at stood fresh range h = cc
turn o n InDriver label (AddQueue name (Some guard) cancel) ls at stood fresh range h =
    queue_added_turn o n name guard cancel label ls at
turn o n _ label (AddQueue name (Some guard) cancel) ls at stood fresh range h = cc
turn o n p label (AddQueue name None cancel) ls at stood fresh range h = cc
turn o n InDriver label (HandleStartIo name cancel) ls at stood fresh range h =
    startio_turn o (record { line = n; name = name }) n cancel label ls at fresh
turn o n _ label (HandleStartIo name cancel) ls at stood fresh range h = cc
turn o n InDriver label (HandleDpc name) ls at stood fresh range h =
    dpc_turn o (record { line = n; name = name }) label ls at fresh
turn o n _ label (HandleDpc name) ls at stood fresh range h = cc
turn o n InDriver label (OpenRoutine name sort) ls at stood fresh range h =
    routine_opened_turn o name sort label ls (h.idle (λ is. let bad = sym at ∙ is in cc))
turn o n _ label (OpenRoutine name sort) ls at stood fresh range h = cc
turn o n InRoutine label CloseRoutine ls at stood fresh range h = routine_closed_turn o label ls
turn o n _ label CloseRoutine ls at stood fresh range h = cc
turn o n Outside label (AddDevice name driver stack lower) ls at stood fresh range h =
    record { place = at; same = refl }
turn o n _ label (AddDevice name driver stack lower) ls at stood fresh range h = cc
turn o n InRoutine label (TakeStep (Some i) used) ls at stood fresh range h =
    step_turn o n label i used ls at
turn o n _ label (TakeStep (Some i) used) ls at stood fresh range h = cc
turn o n p label (TakeStep None used) ls at stood fresh range h = cc

-- at the end of the text nothing is left
none_left : (o : Outline) (p : Place) → p ≡ Outside → left o p [] ≡ o.drivers
none_left o Outside is = append-nil o.drivers
none_left o InDriver is = cc
none_left o InRoutine is = cc

pub drivers_read : (o : Outline) (n : ℕ) (p : Place) (raws : List (List ℕ)) (ls : List Line)
    (end : Outline)
    → Reads o n raws ls end → end.place ≡ Outside → o.place ≡ p → IsTidy o
    → end.drivers ≡ left o p ls
drivers_read o n p [] [] end read closed at h =
    let here : p ≡ Outside = sym at ∙ ap (λ (x : Outline). x.place) read ∙ closed in
    ap (λ (x : Outline). x.drivers) (sym read) ∙ sym (none_left o p here)
drivers_read o n p [] (l ∷ ls) end read closed at h = absurd read
drivers_read o n p (raw ∷ raws) [] end read closed at h = absurd read
drivers_read o n p (raw ∷ raws) (l ∷ ls) end read closed at h =
    let fits = fitting o l read.1.0 in
    let stood : stands p l.body ≡ true =
    subst (λ (q : Place). stands q l.body ≡ true) at fits.standing in
    let next = turn o n p l.label l.body ls at stood fits.fresh fits.in_range h in
    drivers_read (noted o n l.label l.body) (n + 1) (place_next l.body p) raws ls end read.1.1
    closed
    next.place
    (tidy_on o n l.label l.body fits.standing h) ∙ sym next.same
