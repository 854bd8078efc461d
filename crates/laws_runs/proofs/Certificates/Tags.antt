-- The tags of the frames that stand: that of a routine's frame names its own routine, under a
-- number that no other activation has.
use Rattle.laws_runs.proofs.Prelude.{arith, inl, inr, refl, subst, sym, zero, List, Option, Some, [], slice_get, suc, ℕ, ⊤, ◌++◌, ◌+◌, ◌∷◌, ◌≡◌, ◌≤◌, ◌⊎◌, activations_after, tags_after, Set, Activated, Entry, Managing, Serving, Tag, Activation, Frame, CancelFrame, Routine, Walk}

-- a tag is among these
abbrev pub IsAmong : Tag → List Tag → Type 0
IsAmong tag [] = ⊥
IsAmong tag (x ∷ tags) = (x ≡ tag) ⊎ IsAmong tag tags

pub among_left : (tag : Tag) (tags more : List Tag) → IsAmong tag tags → IsAmong tag (tags ++ more)
among_left tag [] more h = absurd h
among_left tag (x ∷ tags) more (inl here) = inl here
among_left tag (x ∷ tags) more (inr later) = inr (among_left tag tags more later)

pub among_right : (tag : Tag) (tags more : List Tag) → IsAmong tag more → IsAmong tag (tags ++ more)
among_right tag [] more h = h
among_right tag (x ∷ tags) more h = inr (among_right tag tags more h)

-- it is the I/O manager's, or among those that were given out
abbrev pub IsKnown : List Tag → Tag → Type 0
IsKnown given Managing = ⊤
IsKnown given (Activated g driver routine serving) =
    IsAmong (Activated g driver routine serving) given

pub known_left : (given more : List Tag) (tag : Tag) → IsKnown given tag
    → IsKnown (given ++ more) tag
known_left given more Managing h = tt
known_left given more (Activated g driver routine serving) h = among_left _ given more h

-- and it is that of a frame
abbrev pub Fits : List Tag → Tag → Frame → Type 0
Fits given Managing (Walk n) = ⊤
Fits given Managing (CancelFrame c) = ⊤
Fits given Managing (Routine a) = ⊥
Fits given (Activated g driver routine serving) (Walk n) = ⊥
Fits given (Activated g driver routine serving) (CancelFrame c) = ⊥
Fits given (Activated g driver routine serving) (Routine a) =
    (driver ≡ a.driver) × (routine ≡ a.routine) × IsAmong (Activated g driver routine serving) given

abbrev pub Matched : List Tag → List Frame → List Tag → Type 0
Matched given [] [] = ⊤
Matched given [] (tag ∷ tags) = ⊥
Matched given (f ∷ frames) [] = ⊥
Matched given (f ∷ frames) (tag ∷ tags) = Fits given tag f × Matched given frames tags

pub fits_known : (given : List Tag) (tag : Tag) (f : Frame) → Fits given tag f → IsKnown given tag
fits_known given Managing f h = tt
fits_known given (Activated g driver routine serving) (Routine a) h = h.2
fits_known given (Activated g driver routine serving) _ h = absurd h

pub fits_more : (given more : List Tag) (tag : Tag) (f : Frame) → Fits given tag f
    → Fits (given ++ more) tag f
fits_more given more Managing (Walk n) h = tt
fits_more given more Managing (CancelFrame c) h = tt
fits_more given more Managing (Routine a) h = absurd h
fits_more given more (Activated g driver routine serving) (Walk n) h = absurd h
fits_more given more (Activated g driver routine serving) (CancelFrame c) h = absurd h
fits_more given more (Activated g driver routine serving) (Routine a) h =
    (h.0, h.1, among_left _ given more h.2)

pub matched_more : (given more : List Tag) (frames : List Frame) (tags : List Tag)
    → Matched given frames tags
    → Matched (given ++ more) frames tags
matched_more given more [] [] h = tt
matched_more given more (f ∷ frames) (tag ∷ tags) h =
    (fits_more given more tag f h.0, matched_more given more frames tags h.1)
matched_more given more _ _ h = absurd h

pub matched_append : (given : List Tag) (below frames : List Frame) (tags row : List Tag)
    → Matched given below tags
    → Matched given frames row → Matched given (below ++ frames) (tags ++ row)
matched_append given [] frames [] row h more = more
matched_append given (f ∷ below) frames (tag ∷ tags) row h more =
    (h.0, matched_append given below frames tags row h.1 more)
matched_append given _ frames _ row h more = absurd h

-- the tag of a routine's frame
pub record Named (given : List Tag) (tags : List Tag) (k : ℕ) (a : Activation) : Type 0 where
  pub number : ℕ
  pub serving : Option Serving
  pub there : slice_get tags k ≡ Some (Activated number a.driver a.routine serving)
  pub among : IsAmong (Activated number a.driver a.routine serving) given

named_by : (given : List Tag) (tag : Tag) (tags : List Tag) (a : Activation)
    → Fits given tag (Routine a)
    → Named given (tag ∷ tags) 0 a
named_by given Managing tags a h = absurd h
named_by given (Activated g driver routine serving) tags a h =
    record {
      number = g;
      serving = serving;
      there = rw (h.0, h.1) refl;
      among = subst (λ (r : ℕ). IsAmong (Activated g a.driver r serving) given) h.1
          (subst (λ (d : ℕ). IsAmong (Activated g d routine serving) given) h.0 h.2);
    }

pub named : (given : List Tag) (frames : List Frame) (tags : List Tag) (k : ℕ) (a : Activation)
    → Matched given frames tags → slice_get frames k ≡ Some (Routine a) → Named given tags k a
named given [] tags k a h found = cc
named given (f ∷ frames) [] k a h found = absurd h
named given (f ∷ frames) (tag ∷ tags) zero a h found =
    let is : f ≡ Routine a = cc in
    named_by given tag tags a (subst (λ (x : Frame). Fits given tag x) is h.0)
named given (f ∷ frames) (tag ∷ tags) (suc k) a h found =
    let later : Named given tags k a = named given frames tags k a h.1 found in
    record {
      number = later.number;
      serving = later.serving;
      there = later.there;
      among =
          later.among;
    }

-- activations are numbered from one number on, and another comes next
abbrev pub Numbered : ℕ → List Tag → ℕ → Type 0
Numbered first [] following = first ≡ following
Numbered first (Managing ∷ tags) following = Numbered first tags following
Numbered first (Activated g driver routine serving ∷ tags) following =
    (g ≡ first) × Numbered (first + 1) tags following

pub numbered_append : (first middle following : ℕ) (tags more : List Tag)
    → Numbered first tags middle
    → Numbered middle more following → Numbered first (tags ++ more) following
numbered_append first middle following [] more h later =
    subst (λ (n : ℕ). Numbered n more following) (sym h) later
numbered_append first middle following (Managing ∷ tags) more h later =
    numbered_append first middle following tags more h later
numbered_append first middle following (Activated g driver routine serving ∷ tags) more h later =
    (h.0, numbered_append (first + 1) middle following tags more h.1 later)

-- so no number is below the first, and a number is of one activation
pub numbered_from : (first following : ℕ) (tags : List Tag) (g driver routine : ℕ)
    (serving : Option Serving)
    → Numbered first tags following
    → IsAmong (Activated g driver routine serving) tags → first ≤ g
numbered_from first following [] g driver routine serving h among = absurd among
numbered_from first following (Managing ∷ tags) g driver routine serving h (inl here) = cc
numbered_from first following (Managing ∷ tags) g driver routine serving h (inr later) =
    numbered_from first following tags g driver routine serving h later
numbered_from first following (Activated k d r s ∷ tags) g driver routine serving h (inl here) =
    let same : k ≡ g = cc in
    let start : k ≡ first = h.0 in
    omega arith
numbered_from first following (Activated k d r s ∷ tags) g driver routine serving h (inr later) =
    omega (arith, numbered_from (first + 1) following tags g driver routine serving h.1 later)

-- the frames that stand anew have tags of their own routines, numbered in their order
abbrev pub fresh_tags : Set → List Entry → ℕ → List Frame → List Tag
fresh_tags set past number frames = tags_after set past number [] [] frames

pub fresh_numbered : (set : Set) (past : List Entry) (number : ℕ) (frames : List Frame)
    → Numbered number (fresh_tags set past number frames) (activations_after number [] frames)
fresh_numbered set past number [] = refl
fresh_numbered set past number (Routine a ∷ frames) =
    (refl, fresh_numbered set past (number + 1) frames)
fresh_numbered set past number (Walk n ∷ frames) = fresh_numbered set past number frames
fresh_numbered set past number (CancelFrame c ∷ frames) = fresh_numbered set past number frames

pub fresh_matched : (set : Set) (past : List Entry) (number : ℕ) (frames : List Frame)
    (given : List Tag)
    → ((tag : Tag) → IsAmong tag (fresh_tags set past number frames) → IsAmong tag given)
    → Matched given frames (fresh_tags set past number frames)
fresh_matched set past number [] given h = tt
fresh_matched set past number (Routine a ∷ frames) given h = (
  (refl, refl, h _ (inl refl)),
  fresh_matched set past (number + 1) frames given (λ tag among. h tag (inr among)),
)
fresh_matched set past number (Walk n ∷ frames) given h =
    (tt, fresh_matched set past number frames given (λ tag among. h tag (inr among)))
fresh_matched set past number (CancelFrame c ∷ frames) given h =
    (tt, fresh_matched set past number frames given (λ tag among. h tag (inr among)))
