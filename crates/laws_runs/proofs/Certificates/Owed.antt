-- What the frames that stand still owe under each activation's number, and what it is after a step.
-- How much a frame owes is any measure of it here.
use Rattle.laws_runs.proofs.Common.{ap, arith, inl, inr, refl, sym, zero, ◌∙◌, eqb_tells, Bool, List, Option, Some, [], false, if◌then◌else◌, nat_eq, slice_get, slice_set, suc, true, ℕ, ⊤, ◌++◌, ◌+◌, ◌<◌, ◌∷◌, ◌≡◌, ◌≤◌, Action, certificate_of, activations_after, counted_kept, kept_tag, tags_after, Set, Activated, Actor, Entry, Managing, Serving, Tag, entry, recorded, Activation, Canceller, Frame, CancelFrame, Routine, Walk, Thread, executions, if_le, if_none}
use Rattle.laws_runs.specs.Lifetime.{is_activation, instructions_in}
use Rattle.laws_runs.proofs.Certificates.Tags.{IsAmong, Fits, Matched, Numbered, fresh_tags, fresh_matched, fresh_numbered, fits_more, matched_more, matched_append, among_right, numbered_from}

-- a number of one tag
abbrev pub if_own : ℕ → Tag → ℕ → ℕ
if_own g tag n = if is_activation g tag then n else 0

own_add : (b : Bool) (m n k : ℕ) → m + n ≤ k → (if b then m else 0) + (if b then n else 0)
    ≤ (if b then k else 0)
own_add true m n k h = h
own_add false m n k h = omega arith

own_sum : (b : Bool) (m n : ℕ) → (if b then m + n else 0) ≡ (if b then m else 0)
    + (if b then n else 0)
own_sum true m n = refl
own_sum false m n = refl

-- what was given out: the certificates of the routines that tags name
abbrev pub certified : Set → Tag → ℕ
certified set Managing = 0
certified set (Activated g driver routine serving) = certificate_of set driver routine

abbrev pub allowed : Set → ℕ → List Tag → ℕ
allowed set g [] = 0
allowed set g (tag ∷ tags) = if_own g tag (certified set tag) + allowed set g tags

pub allowed_append : (set : Set) (g : ℕ) (tags more : List Tag)
    → allowed set g (tags ++ more) ≡ allowed set g tags + allowed set g more
allowed_append set g [] more = omega arith
allowed_append set g (tag ∷ tags) more =
    omega (arith, allowed_append set g tags more)

-- numbers differ, so what was given out under one is the certificate of its activation
allowed_below : (set : Set) (g first following : ℕ) (tags : List Tag)
    → Numbered first tags following → g < first
    → allowed set g tags ≡ 0
allowed_below set g first following [] h less = refl
allowed_below set g first following (Managing ∷ tags) h less =
    omega (arith, allowed_below set g first following tags h less)
allowed_below set g first following (Activated k driver routine serving ∷ tags) h less =
    let others : allowed set g tags ≡ 0 =
    allowed_below set g (first + 1) following tags h.1 (omega arith) in
    elim (eqb_tells k g) [
      | inl same ↦ let here : k ≡ g = same.1 in let start : k ≡ first = h.0 in absurd (omega arith)
      | inr apart ↦ rw (apart.0, others) refl
    ]

pub allowed_one : (set : Set) (first following : ℕ) (tags : List Tag) (g driver routine : ℕ)
    (serving : Option Serving)
    → Numbered first tags following → IsAmong (Activated g driver routine serving) tags
    → allowed set g tags ≡ certificate_of set driver routine
allowed_one set first following [] g driver routine serving h among = absurd among
allowed_one set first following (Managing ∷ tags) g driver routine serving h (inl here) = cc
allowed_one set first following (Managing ∷ tags) g driver routine serving h (inr later) =
    omega (arith, allowed_one set first following tags g driver routine serving h later)
allowed_one set first following (Activated k d r s ∷ tags) g driver routine serving h (inl here) =
    let same : k ≡ g = cc in
    let one : d ≡ driver = cc in
    let two : r ≡ routine = cc in
    let start : k ≡ first = h.0 in
    let others : allowed set g tags ≡ 0 =
    allowed_below set g (first + 1) following tags h.1 (omega arith) in
    elim (eqb_tells k g) [
      | inl is ↦ rw (is.0, others, one, two) (omega arith)
      | inr apart ↦ absurd (apart.1 same)
    ]
allowed_one set first following (Activated k d r s ∷ tags) g driver routine serving h (inr later) =
    let others : allowed set g tags ≡ certificate_of set driver routine =
    allowed_one set (first + 1) following tags g driver routine serving h.1 later in
    let more : first + 1 ≤ g =
    numbered_from (first + 1) following tags g driver routine serving h.1 later in
    let start : k ≡ first = h.0 in
    elim (eqb_tells k g) [
      | inl same ↦ let here : k ≡ g = same.1 in absurd (omega arith)
      | inr apart ↦ rw (apart.0, others) (omega arith)
    ]

-- and one number is of one routine
pub one_routine : (set : Set) (first following : ℕ) (tags : List Tag) (g driver routine d r : ℕ)
    (serving s : Option Serving)
    → Numbered first tags following → IsAmong (Activated g driver routine serving) tags
    → IsAmong (Activated g d r s) tags → (driver ≡ d) × (routine ≡ r)
one_routine set first following [] g driver routine d r serving s h one other = absurd one
one_routine set first following (Managing ∷ tags) g driver routine d r serving s h (inl here)
    other =
    cc
one_routine set first following (Managing ∷ tags) g driver routine d r serving s h (inr one)
    (inl here) = cc
one_routine set first following (Managing ∷ tags) g driver routine d r serving s h (inr one)
    (inr other) =
    one_routine set first following tags g driver routine d r serving s h one other
one_routine set first following (Activated k x y z ∷ tags) g driver routine d r serving s h
    (inl one) (inl other) =
    (let same : driver ≡ d = cc in same, let same : routine ≡ r = cc in same)
one_routine set first following (Activated k x y z ∷ tags) g driver routine d r serving s h
    (inl one) (inr other) =
    let more : first + 1 ≤ g = numbered_from (first + 1) following tags g d r s h.1 other in
    let same : k ≡ g = cc in
    let start : k ≡ first = h.0 in
    absurd (omega arith)
one_routine set first following (Activated k x y z ∷ tags) g driver routine d r serving s h
    (inr one) (inl other) =
    let more : first + 1 ≤ g =
    numbered_from (first + 1) following tags g driver routine serving h.1 one in
    let same : k ≡ g = cc in
    let start : k ≡ first = h.0 in
    absurd (omega arith)
one_routine set first following (Activated k x y z ∷ tags) g driver routine d r serving s h
    (inr one) (inr other) =
    one_routine set (first + 1) following tags g driver routine d r serving s h.1 one other

-- what is executed
abbrev pub executed_in : List Action → ℕ
executed_in [] = 0
executed_in (action ∷ actions) = instructions_in action + executed_in actions

pub executions_after : (past : List Entry) (actor : Actor) (actions : List Action) (g : ℕ)
    → executions (recorded past actor actions) g ≡ executions past g + if_own g actor.tag
    (executed_in actions)
executions_after past actor [] g =
    omega (arith, if_none (is_activation g actor.tag))
executions_after past actor (action ∷ actions) g =
    omega (
      arith,
      executions_after (entry past actor action ∷ past) actor actions g,
      own_sum (is_activation g actor.tag) (instructions_in action) (executed_in actions),
    )

same_routine : (given : List Tag) (tag : Tag) (a b : Activation) → b.driver ≡ a.driver
    → b.routine ≡ a.routine
    → Fits given tag (Routine a) → Fits given tag (Routine b)
same_routine given Managing a b driver routine fits = absurd fits
same_routine given (Activated g d r serving) a b driver routine fits =
    (fits.0 ∙ sym driver, fits.1 ∙ sym routine, fits.2)

module _ (cost : Frame → ℕ) where
  -- what frames owe under a number
  abbrev pub owed : ℕ → List Frame → List Tag → ℕ
  owed g [] tags = 0
  owed g (f ∷ frames) [] = 0
  owed g (f ∷ frames) (tag ∷ tags) = if_own g tag (cost f) + owed g frames tags

  abbrev pub all_owed : ℕ → List Thread → List (List Tag) → ℕ
  all_owed g [] tags = 0
  all_owed g (thread ∷ threads) [] = 0
  all_owed g (thread ∷ threads) (row ∷ tags) =
      owed g thread.frames.items row + all_owed g threads tags

  pub owed_append : (g : ℕ) (given : List Tag) (below frames : List Frame) (tags row : List Tag)
      → Matched given below tags → owed g (below ++ frames) (tags ++ row) ≡ owed g below tags + owed
      g frames row
  owed_append g given [] frames [] row h = omega arith
  owed_append g given (f ∷ below) frames (tag ∷ tags) row h =
      omega (arith, owed_append g given below frames tags row h.1)
  owed_append g given _ frames _ row h = absurd h

  pub all_owed_set : (g : ℕ) (threads : List Thread) (tags : List (List Tag)) (t : ℕ)
      (thread after : Thread)
      (row new : List Tag)
      → slice_get threads t ≡ Some thread → slice_get tags t ≡ Some row
      → all_owed g (slice_set threads t after) (slice_set tags t new)
      + owed g thread.frames.items row
      ≡ all_owed g threads tags + owed g after.frames.items new
  all_owed_set g (x ∷ threads) (y ∷ tags) zero thread after row new found there =
      let one : x ≡ thread = cc in
      let two : y ≡ row = cc in
      rw (one, two) (omega arith)
  all_owed_set g (x ∷ threads) (y ∷ tags) (suc t) thread after row new found there =
      omega (arith, all_owed_set g threads tags t thread after row new found there)
  all_owed_set g _ _ t thread after row new found there = cc

  -- a frame that goes on is of the same routine and owes as much
  abbrev pub Alike : Frame → Frame → Type 0
  Alike (Routine a) (Routine b) = (b.driver ≡ a.driver) × (b.routine ≡ a.routine)
      × (cost (Routine b) ≡ cost (Routine a))
  Alike (Walk m) (Walk n) = ⊤
  Alike (CancelFrame c) (CancelFrame d) = ⊤
  Alike (Routine a) (Walk n) = ⊥
  Alike (Routine a) (CancelFrame d) = ⊥
  Alike (Walk m) (Routine b) = ⊥
  Alike (Walk m) (CancelFrame d) = ⊥
  Alike (CancelFrame c) (Routine b) = ⊥
  Alike (CancelFrame c) (Walk n) = ⊥

  abbrev pub AllAlike : List Frame → List Frame → Type 0
  AllAlike [] [] = ⊤
  AllAlike [] (g ∷ now) = ⊥
  AllAlike (f ∷ below) [] = ⊥
  AllAlike (f ∷ below) (g ∷ now) = Alike f g × AllAlike below now

  pub self_alike : (f : Frame) → Alike f f
  self_alike (Routine a) = (refl, refl, refl)
  self_alike _ = tt

  alike_kept : (set : Set) (given : List Tag) (past : List Entry) (number : ℕ) (f g : Frame)
      (tag : Tag)
      → Alike f g → Fits given tag f → kept_tag set past number f tag g ≡ tag
  alike_kept set given past number (Routine a) (Routine b) tag h fits = refl
  alike_kept set given past number (Walk m) (Walk n) Managing h fits = refl
  alike_kept set given past number (Walk m) (Walk n) (Activated k driver routine serving) h fits =
      absurd fits
  alike_kept set given past number (Routine a) (Walk n) tag h fits = absurd h
  alike_kept set given past number (Walk m) (Routine b) tag h fits = absurd h
  alike_kept set given past number (CancelFrame c) (CancelFrame d) Managing h fits = refl
  alike_kept set given past number (CancelFrame c) (CancelFrame d)
      (Activated k driver routine serving) h
      fits =
      absurd fits
  alike_kept set given past number _ _ tag h fits = absurd h

  alike_counted : (f g : Frame) (number : ℕ) → Alike f g → counted_kept f g number ≡ number
  alike_counted (Routine a) (Routine b) number h = refl
  alike_counted (Walk m) (Walk n) number h = refl
  alike_counted (Routine a) (Walk n) number h = absurd h
  alike_counted (Walk m) (Routine b) number h = absurd h
  alike_counted (CancelFrame c) (CancelFrame d) number h = refl
  alike_counted _ _ number h = absurd h

  alike_owes : (g : ℕ) (given : List Tag) (tag : Tag) (f now : Frame) → Alike f now
      → Fits given tag f
      → if_own g tag (cost now) ≡ if_own g tag (cost f)
  alike_owes g given tag (Routine a) (Routine b) h fits = ap (if_own g tag) h.2
  alike_owes g given Managing (Walk m) (Walk n) h fits = refl
  alike_owes g given (Activated k driver routine serving) (Walk m) (Walk n) h fits = absurd fits
  alike_owes g given tag (Routine a) (Walk n) h fits = absurd h
  alike_owes g given tag (Walk m) (Routine b) h fits = absurd h
  alike_owes g given Managing (CancelFrame c) (CancelFrame d) h fits = refl
  alike_owes g given (Activated k driver routine serving) (CancelFrame c) (CancelFrame d) h fits =
      absurd fits
  alike_owes g given tag _ _ h fits = absurd h

  alike_fits : (given : List Tag) (tag : Tag) (f now : Frame) → Alike f now → Fits given tag f
      → Fits given tag now
  alike_fits given tag (Routine a) (Routine b) h fits = same_routine given tag a b h.0 h.1 fits
  alike_fits given Managing (Walk m) (Walk n) h fits = fits
  alike_fits given (Activated k driver routine serving) (Walk m) (Walk n) h fits = absurd fits
  alike_fits given tag (Routine a) (Walk n) h fits = absurd h
  alike_fits given tag (Walk m) (Routine b) h fits = absurd h
  alike_fits given Managing (CancelFrame c) (CancelFrame d) h fits = fits
  alike_fits given (Activated k driver routine serving) (CancelFrame c) (CancelFrame d) h fits =
      absurd fits
  alike_fits given tag _ _ h fits = absurd h

  owed_alike : (g : ℕ) (given : List Tag) (below now : List Frame) (tags : List Tag)
      → AllAlike below now
      → Matched given below tags → owed g now tags ≡ owed g below tags
  owed_alike g given [] [] tags h matched = refl
  owed_alike g given [] (e ∷ now) tags h matched = absurd h
  owed_alike g given (f ∷ below) [] tags h matched = absurd h
  owed_alike g given (f ∷ below) (e ∷ now) [] h matched = absurd matched
  owed_alike g given (f ∷ below) (e ∷ now) (tag ∷ tags) h matched =
      rw (alike_owes g given tag f e h.0 matched.0, owed_alike g given below now tags h.1 matched.1)
      refl

  matched_alike : (given : List Tag) (below now : List Frame) (tags : List Tag) → AllAlike below now
      → Matched given below tags → Matched given now tags
  matched_alike given [] [] tags h matched = matched
  matched_alike given [] (e ∷ now) tags h matched = absurd h
  matched_alike given (f ∷ below) [] tags h matched = absurd h
  matched_alike given (f ∷ below) (e ∷ now) [] h matched = absurd matched
  matched_alike given (f ∷ below) (e ∷ now) (tag ∷ tags) h matched =
      (alike_fits given tag f e h.0 matched.0, matched_alike given below now tags h.1 matched.1)

  tags_below : (set : Set) (given : List Tag) (past : List Entry) (number : ℕ)
      (below now old frames : List Frame)
      (tags rest : List Tag) → AllAlike below now → Matched given below tags
      → tags_after set past number (below ++ old) (tags ++ rest) (now ++ frames)
      ≡ tags ++ tags_after set past number old rest frames
  tags_below set given past number [] [] old frames [] rest alike h = refl
  tags_below set given past number [] [] old frames (tag ∷ tags) rest alike h = absurd h
  tags_below set given past number [] (g ∷ now) old frames tags rest alike h = absurd alike
  tags_below set given past number (f ∷ below) [] old frames tags rest alike h = absurd alike
  tags_below set given past number (f ∷ below) (g ∷ now) old frames [] rest alike h = absurd h
  tags_below set given past number (f ∷ below) (g ∷ now) old frames (tag ∷ tags) rest alike h =
      rw (alike_kept set given past number f g tag alike.0 h.0, alike_counted f g number alike.0)
      (ap (λ (row : List Tag). tag ∷ row)
      (tags_below set given past number below now old frames tags rest alike.1 h.1))

  count_below : (number : ℕ) (below now old frames : List Frame) → AllAlike below now
      → activations_after number (below ++ old) (now ++ frames)
      ≡ activations_after number old frames
  count_below number [] [] old frames alike = refl
  count_below number (f ∷ below) (g ∷ now) old frames alike =
      rw (alike_counted f g number alike.0) (count_below number below now old frames alike.1)
  count_below number _ _ old frames alike = absurd alike

  -- a routine that begins owes at most its certificate
  abbrev pub IsFresh : Set → Frame → Type 0
  IsFresh set (Routine a) = cost (Routine a) ≤ certificate_of set a.driver a.routine
  IsFresh set (Walk n) = ⊤
  IsFresh set (CancelFrame c) = ⊤

  abbrev pub AllFresh : Set → List Frame → Type 0
  AllFresh set [] = ⊤
  AllFresh set (f ∷ frames) = IsFresh set f × AllFresh set frames

  -- what a frame's step executes is paid for by what the frame owed; where its routine goes on it
  -- owes the rest, and every other routine's frame is a fresh one
  abbrev pub Pays : Set → Frame → ℕ → List Frame → Type 0
  Pays set f n [] = n ≤ cost f
  Pays set (Routine a) n (Routine b ∷ frames) =
      (n + cost (Routine b) ≤ cost (Routine a)) × (b.driver ≡ a.driver) × (b.routine ≡ a.routine)
      × AllFresh set frames
  Pays set (Routine a) n (Walk m ∷ frames) = (n ≤ cost (Routine a)) × AllFresh set frames
  Pays set (Routine a) n (CancelFrame c ∷ frames) = ⊥
  Pays set (Walk k) n (g ∷ frames) = AllFresh set (g ∷ frames)
  Pays set (CancelFrame c) n (g ∷ frames) = AllFresh set (g ∷ frames)

  fresh_owed : (set : Set) (g : ℕ) (past : List Entry) (number : ℕ) (frames : List Frame)
      → AllFresh set frames
      → owed g frames (fresh_tags set past number frames)
      ≤ allowed set g (fresh_tags set past number frames)
  fresh_owed set g past number [] h = omega arith
  fresh_owed set g past number (Routine a ∷ frames) h =
      omega (
        arith,
        fresh_owed set g past (number + 1) frames h.1,
        if_le (nat_eq number g) (cost (Routine a)) (certificate_of set a.driver a.routine) h.0,
      )
  fresh_owed set g past number (Walk n ∷ frames) h =
      omega (arith, fresh_owed set g past number frames h.1)
  fresh_owed set g past number (CancelFrame c ∷ frames) h =
      omega (arith, fresh_owed set g past number frames h.1)

  -- what stands in place of frames: which tags are new, that what was executed is paid for, and
  -- that tags are right
  pub record Follows (set : Set) (given : List Tag) (past : List Entry) (number : ℕ)
      (old : List Frame) (row : List Tag)
      (tag : Tag) (n : ℕ) (frames : List Frame) : Type 0 where
    pub new : List Tag
    pub numbered : Numbered number new (activations_after number old frames)
    pub paid : (g : ℕ) → if_own g tag n + owed g frames (tags_after set past number old row frames)
        ≤ owed g old row + allowed set g new
    pub matched : Matched (given ++ new) frames (tags_after set past number old row frames)

  -- frames on an idle thread
  pub follows_idle : (set : Set) (given : List Tag) (past : List Entry) (number : ℕ)
      (row : List Tag) (tag : Tag)
      (frames : List Frame) → Matched given [] row → AllFresh set frames
      → Follows set given past number [] row tag 0 frames
  follows_idle set given past number [] tag frames h fresh =
      let others : (g : ℕ) → owed g frames (fresh_tags set past number frames)
      ≤ allowed set g (fresh_tags set past number frames) =
      λ g. fresh_owed set g past number frames fresh in
      record {
        new = fresh_tags set past number frames;
        numbered = fresh_numbered set past number frames;
        paid = λ g.
            omega (arith, others g, if_none (is_activation g tag));
        matched = fresh_matched set past number frames (given ++ fresh_tags set past number frames)
            (λ x among. among_right x given (fresh_tags set past number frames) among);
      }
  follows_idle set given past number (x ∷ row) tag frames h fresh = absurd h

  -- the top frame alone
  going_on : (set : Set) (given : List Tag) (past : List Entry) (number : ℕ) (tag : Tag) (n : ℕ)
      (a b : Activation)
      (frames : List Frame) → Fits given tag (Routine a)
      → Pays set (Routine a) n (Routine b ∷ frames)
      → Follows set given past number (Routine a ∷ []) (tag ∷ []) tag n (Routine b ∷ frames)
  going_on set given past number tag n a b frames fits pays =
      record {
        new = fresh_tags set past number frames;
        numbered = fresh_numbered set past number frames;
        paid = λ g.
            omega (
              arith,
              own_add (is_activation g tag) n (cost (Routine b)) (cost (Routine a)) pays.0,
              fresh_owed set g past number frames pays.3,
            );
        matched = (
          fits_more given (fresh_tags set past number frames) tag (Routine b)
              (same_routine given tag a b pays.1 pays.2 fits),
          fresh_matched set past number frames (given ++ fresh_tags set past number frames)
              (λ x among. among_right x given (fresh_tags set past number frames) among),
        );
      }

  -- the I/O manager's frame is first, and others are new
  walking_on : (set : Set) (given : List Tag) (past : List Entry) (number : ℕ) (a : Activation)
      (tag : Tag) (n m : ℕ)
      (frames : List Frame) → n ≤ cost (Routine a) → AllFresh set frames
      → Follows set given past number (Routine a ∷ []) (tag ∷ []) tag n (Walk m ∷ frames)
  walking_on set given past number a tag n m frames paid fresh =
      record {
        new = fresh_tags set past number frames;
        numbered = fresh_numbered set past number frames;
        paid = λ g.
            omega (
              arith,
              if_le (is_activation g tag) n (cost (Routine a)) paid,
              fresh_owed set g past number frames fresh,
            );
        matched = (
          tt,
          fresh_matched set past number frames (given ++ fresh_tags set past number frames)
              (λ x among. among_right x given (fresh_tags set past number frames) among),
        );
      }

  -- the top frame is the I/O manager's, and others are new in its place
  abbrev Begun : Set → List Tag → List Entry → ℕ → ℕ → Frame → List Frame → Type 0
  Begun set given past number n f frames =
      Follows set given past number (f ∷ []) (Managing ∷ []) Managing n frames

  walk_begun : (set : Set) (given : List Tag) (past : List Entry) (number k n : ℕ) (f : Frame)
      (frames : List Frame)
      → AllFresh set (f ∷ frames) → Begun set given past number n (Walk k) (f ∷ frames)
  walk_begun set given past number k n f frames fresh =
      record {
        new = fresh_tags set past number (f ∷ frames);
        numbered = fresh_numbered set past number (f ∷ frames);
        paid = λ g.
            omega (arith, fresh_owed set g past number (f ∷ frames) fresh);
        matched =
            fresh_matched set past number (f ∷ frames)
            (given ++ fresh_tags set past number (f ∷ frames))
            (λ x among. among_right x given (fresh_tags set past number (f ∷ frames)) among);
      }

  cancel_begun : (set : Set) (given : List Tag) (past : List Entry) (number n : ℕ) (c : Canceller)
      (f : Frame) (frames : List Frame)
      → AllFresh set (f ∷ frames) → Begun set given past number n (CancelFrame c) (f ∷ frames)
  cancel_begun set given past number n c f frames fresh =
      let walks : Begun set given past number n (Walk c.packet) (f ∷ frames) =
      walk_begun set given past number c.packet n f frames fresh in
      record {
        new = walks.new;
        numbered = walks.numbered;
        paid = walks.paid;
        matched = walks.matched;
      }

  follows_top : (set : Set) (given : List Tag) (past : List Entry) (number : ℕ) (f : Frame)
      (tag : Tag) (n : ℕ)
      (frames : List Frame) → Fits given tag f → Pays set f n frames
      → Follows set given past number (f ∷ []) (tag ∷ []) tag n frames
  follows_top set given past number f tag n [] fits pays =
      record {
        new = [];
        numbered = refl;
        paid = λ g.
            omega (arith, if_le (is_activation g tag) n (cost f) pays);
        matched = tt;
      }
  follows_top set given past number (Routine a) tag n (Routine b ∷ frames) fits pays =
      going_on set given past number tag n a b frames fits pays
  follows_top set given past number (Routine a) tag n (Walk m ∷ frames) fits pays =
      walking_on set given past number a tag n m frames pays.0 pays.1
  follows_top set given past number (Routine a) tag n (CancelFrame c ∷ frames) fits pays =
      absurd pays
  follows_top set given past number (Walk k) (Activated h driver routine serving) n (g ∷ frames)
      fits pays =
      absurd fits
  follows_top set given past number (Walk k) Managing n (g ∷ frames) fits pays =
      walk_begun set given past number k n g frames pays
  follows_top set given past number (CancelFrame c) (Activated h driver routine serving) n
      (g ∷ frames) fits pays =
      absurd fits
  follows_top set given past number (CancelFrame c) Managing n (g ∷ frames) fits pays =
      cancel_begun set given past number n c g frames pays

  -- over frames that go on as they were
  follows_over : (set : Set) (given : List Tag) (past : List Entry) (number : ℕ)
      (below now old frames : List Frame) (tags row : List Tag) (tag : Tag) (n : ℕ)
      → AllAlike below now → Matched given below tags
      → Follows set given past number old row tag n frames
      → Follows set given past number (below ++ old) (tags ++ row) tag n (now ++ frames)
  follows_over set given past number below now old frames tags row tag n alike others top =
      let after : List Tag = tags_after set past number old row frames in
      let whole : tags_after set past number (below ++ old) (tags ++ row) (now ++ frames)
      ≡ tags ++ after =
      tags_below set given past number below now old frames tags row alike others
      in
      record {
        new = top.new;
        numbered = rw (count_below number below now old frames alike) top.numbered;
        paid = λ g. rw whole
            (omega (
              arith,
              owed_append g given now frames tags after (matched_alike given below now tags alike others),
              owed_alike g given below now tags alike others,
              owed_append g given below old tags row others,
              top.paid g,
            ));
        matched = rw whole
            (matched_append (given ++ top.new) now frames tags after
            (matched_more given top.new now tags (matched_alike given below now tags alike others))
            top.matched);
      }

  -- a step of the top frame
  pub follows_step : (set : Set) (given : List Tag) (past : List Entry) (number : ℕ)
      (below now : List Frame) (f : Frame)
      (tags : List Tag) (tag : Tag) (n : ℕ) (frames : List Frame)
      → AllAlike below now → Matched given below tags → Fits given tag f → Pays set f n frames
      → Follows set given past number (below ++ f ∷ []) (tags ++ tag ∷ []) tag n (now ++ frames)
  follows_step set given past number below now f tags tag n frames alike others fits pays =
      follows_over set given past number below now (f ∷ []) frames tags (tag ∷ []) tag n alike
      others
      (follows_top set given past number f tag n frames fits pays)

  -- with which the frame below it is gone too
  pub follows_stop : (set : Set) (given : List Tag) (past : List Entry) (number : ℕ)
      (below : List Frame) (g f : Frame) (tags : List Tag) (lower tag : Tag) (n : ℕ)
      → AllAlike below below → Matched given below tags → n ≤ cost f
      → Follows set given past number (below ++ g ∷ f ∷ []) (tags ++ lower ∷ tag ∷ []) tag n
      (below ++ [])
  follows_stop set given past number below g f tags lower tag n alike others paid =
      follows_over set given past number below below (g ∷ f ∷ []) [] tags (lower ∷ tag ∷ []) tag n
      alike others
      (record {
        new = [];
        numbered = refl;
        paid = λ x.
            omega (arith, if_le (is_activation x tag) n (cost f) paid);
        matched = tt;
      })
