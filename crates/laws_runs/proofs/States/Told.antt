-- What a step tells the frame below the one that ran: the last of those below is told, and the
-- frame under the next.
use Rattle.laws_runs.proofs.Prelude.{ap, arith, get_or, refl, sym, take, ◌-◌, ◌∙◌, slice_get-get_or, List, None, Option, Some, [], length, slice_get, ◌++◌, ◌∷◌, ◌≡◌, answered, told_to, told_top, top_of, Set, Status, Frame, CancelFrame, Routine, Walk}
use Rattle.laws_runs.proofs.Lists.{last_split}

-- a frame is told a status, if any
abbrev pub told_frame : Set → Option Status → Frame → Frame
told_frame set (Some status) (Routine a) = Routine (answered set a status)
told_frame set _ f = f

-- where the frame that is told is the last of those below
abbrev pub told_last : Set → Option Status → List Frame → List Frame
told_last set told [] = []
told_last set told (g ∷ []) = told_frame set told g ∷ []
told_last set told (g ∷ e ∷ below) = g ∷ told_last set told (e ∷ below)

pub last_same : (set : Set) (below : List Frame) → told_last set None below ≡ below
last_same set [] = refl
last_same set (Routine a ∷ []) = refl
last_same set (Walk n ∷ []) = refl
last_same set (CancelFrame c ∷ []) = refl
last_same set (g ∷ e ∷ below) = ap (λ (frames : List Frame). g ∷ frames) (last_same set (e ∷ below))

last_told : (set : Set) (xs : List Frame) (status : Status) (f : Frame)
    → told_last set (Some status) (xs ++ f ∷ []) ≡ xs ++ told_frame set (Some status) f ∷ []
last_told set [] status f = refl
last_told set (g ∷ []) status f = refl
last_told set (g ∷ e ∷ xs) status f =
    ap (λ (frames : List Frame). g ∷ frames) (last_told set (e ∷ xs) status f)

some_top : (g : Frame) (below : List Frame) → slice_get (g ∷ below) (length (g ∷ below) - 1) ≡ None
    → ⊥
some_top g below h =
    let there : slice_get (g ∷ below) (length (g ∷ below) - 1)
    ≡ Some (get_or (g ∷ below) (length (g ∷ below) - 1) g) =
    slice_get-get_or (g ∷ below) (length (g ∷ below) - 1) g (omega arith)
    in
    let no : None ≡ Some (get_or (g ∷ below) (length (g ∷ below) - 1) g) = sym h ∙ there in
    cc

last_top : (set : Set) (below : List Frame) (status : Status) (o : Option Frame) → top_of below ≡ o
    → told_top set below status o ≡ told_last set (Some status) below
last_top set below status (Some (Routine a)) h =
    let split : below ≡ take (length below - 1) below ++ Routine a ∷ [] =
    last_split below (Routine a) h in
    sym (last_told set (take (length below - 1) below) status (Routine a))
    ∙ ap (told_last set (Some status)) (sym split)
last_top set below status (Some (Walk n)) h =
    let split : below ≡ take (length below - 1) below
    ++ Walk n ∷ [] = last_split below (Walk n) h in
    split ∙ sym (last_told set (take (length below - 1) below) status (Walk n))
    ∙ ap (told_last set (Some status)) (sym split)
last_top set below status (Some (CancelFrame c)) h =
    let split : below ≡ take (length below - 1) below ++ CancelFrame c ∷ [] =
    last_split below (CancelFrame c) h in
    split ∙ sym (last_told set (take (length below - 1) below) status (CancelFrame c))
    ∙ ap (told_last set (Some status)) (sym split)
last_top set [] status None h = refl
last_top set (g ∷ below) status None h = absurd (some_top g below h)

-- the frames that are told are those with the last one told
pub told_is : (set : Set) (below : List Frame) (told : Option Status)
    → told_to set below told ≡ told_last set told below
told_is set below None = sym (last_same set below)
told_is set below (Some status) = last_top set below status (top_of below) refl

-- the frame under the next one
abbrev pub last_under : Option Frame → List Frame → Option Frame
last_under under [] = under
last_under under (f ∷ frames) = last_under (Some f) frames
