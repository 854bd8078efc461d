-- What stands for the tags of frames, when other frames stand.
use Rattle.std.proofs.Common.{◌≡◌, ◌∙◌, ℕ, zero, suc, ◌-◌, ◌<◌, ◌≤◌, List, [], ◌∷◌, Option, None, Some, refl, ap, length, arith}
use Rattle.std.specs.Prelude.{⊤, slice_get, slice_index_or, slice_set}
use Rattle.model.specs.declared.set.Sort.{Sort}
use Rattle.model.specs.declared.set.Sort.TheVariants.{Cancel, Dispatch, Dpc, Hold, Propagate, StartIo}
use Rattle.model.specs.declared.world.Activation.{Activation}
use Rattle.model.specs.declared.world.Frame.{Frame}
use Rattle.model.specs.declared.world.Frame.TheVariants.{Routine as RoutineFrame, Walk, Cancel as CancelFrame}
use Rattle.model.specs.declared.world.Value.{Value}
use Rattle.model.specs.declared.world.Value.TheVariants.{Blank, Num, Ref, Status as StatusValue}
use Rattle.model.specs.Run.{counted_kept, counted_new, kept_tag, new_tag, serving_by, serving_in, serving_with, tags_after, top_tag}
use Rattle.model.specs.Set.{Set, sort_of}
use Rattle.model.specs.Trace.{Activated, Entry, Managing, Serving, Tag, current_use, uses, uses_opened}
use Rattle.model.specs.World.{register}
use Rattle.laws_runs.proofs.Uses.Fates.{Falls}
use Rattle.tell_uses.specs.declared.ledger.Server.{Server}
use Rattle.tell_uses.specs.declared.ledger.Server.TheVariants.{Manager, Routine}
use Rattle.tell_uses.specs.Knowing.{Knows}
use Rattle.tell_uses.specs.Ledger.{new_server, of_server, rows_of, served_as, served_in, served_on, server_of, servers_of, serving_as, settled, settled_as}
use Rattle.tell_uses.specs.Uses.{UsesState, current_at}
use Rattle.tell_uses.proofs.Noting.{Counted, WasOpened, served_by}

-- frames with their tags: an activation's is a routine's frame, and no other
abbrev pub TagFits : Frame → Tag → Type 0
TagFits (RoutineFrame a) Managing = ⊥
TagFits (RoutineFrame a) (Activated g driver routine serving) = ⊤
TagFits (Walk n) Managing = ⊤
TagFits (Walk n) (Activated g driver routine serving) = ⊥
TagFits (CancelFrame c) Managing = ⊤
TagFits (CancelFrame c) (Activated g driver routine serving) = ⊥

abbrev pub Fits : List Frame → List Tag → Type 0
Fits [] [] = ⊤
Fits [] (tag ∷ tags) = ⊥
Fits (f ∷ frames) [] = ⊥
Fits (f ∷ frames) (tag ∷ tags) = TagFits f tag × Fits frames tags

-- tags that serve uses that were opened
abbrev pub AllOpened : ℕ → List Tag → Type 0
AllOpened opened [] = ⊤
AllOpened opened (tag ∷ tags) = WasOpened opened (served_by tag) × AllOpened opened tags

pub opened_later : (opened more : ℕ) (o : Option Serving) → opened ≤ more → WasOpened opened o
    → WasOpened more o
opened_later opened more None le h = tt
opened_later opened more (Some u) le h = let below : u.«use» < opened = h in omega arith

pub all_later : (opened more : ℕ) (tags : List Tag) → opened ≤ more → AllOpened opened tags
    → AllOpened more tags
all_later opened more [] le h = tt
all_later opened more (tag ∷ tags) le h =
    (opened_later opened more (served_by tag) le h.0, all_later opened more tags le h.1)

top_opened : (opened : ℕ) (tags : List Tag) (k : ℕ) → AllOpened opened tags
    → WasOpened opened (served_by (slice_index_or tags k Managing))
top_opened opened [] k h = tt
top_opened opened (tag ∷ tags) zero h = h.0
top_opened opened (tag ∷ tags) (suc k) h = top_opened opened tags k h.1

pub actor_opened : (opened : ℕ) (tags : List Tag) → AllOpened opened tags
    → WasOpened opened (served_by (top_tag tags))
actor_opened opened tags h = top_opened opened tags (length tags - 1) h

module _ (set : Set) (past : List Entry) where
  new_fits : (number : ℕ) (f : Frame) → TagFits f (new_tag set past number f)
  new_fits number (RoutineFrame a) = tt
  new_fits number (Walk n) = tt
  new_fits number (CancelFrame c) = tt

  kept_fits : (number : ℕ) (o : Frame) (tag : Tag) (f : Frame) → TagFits o tag
      → TagFits f (kept_tag set past number o tag f)
  kept_fits number (RoutineFrame b) Managing (RoutineFrame a) h = absurd h
  kept_fits number (RoutineFrame b) (Activated g driver routine serving) (RoutineFrame a) h = tt
  kept_fits number (RoutineFrame b) tag (Walk n) h = tt
  kept_fits number (RoutineFrame b) tag (CancelFrame c) h = tt
  kept_fits number (Walk m) tag f h = new_fits number f
  kept_fits number (CancelFrame c) tag f h = new_fits number f

  pub after_fits : (number : ℕ) (old : List Frame) (tags : List Tag) (frames : List Frame)
      → Fits old tags → Fits frames (tags_after set past number old tags frames)
  after_fits number old tags [] h = tt
  after_fits number [] [] (f ∷ frames) h =
      (new_fits number f, after_fits (counted_new f number) [] [] frames tt)
  after_fits number [] (tag ∷ tags) (f ∷ frames) h = absurd h
  after_fits number (o ∷ old) [] (f ∷ frames) h = absurd h
  after_fits number (o ∷ old) (tag ∷ tags) (f ∷ frames) h = (
    kept_fits number o tag f h.0,
    after_fits (counted_kept o f number) old tags frames h.1,
  )

  -- a use that is current was opened
  current_opened : Counted past → (n : ℕ) → WasOpened (uses_opened past)
      (serving_with (current_use past n) n)
  current_opened h n = first_opened (uses past n) (h.traced.falls n)
    where
      first_opened : (used : List ℕ) → Falls (uses_opened past) used
          → WasOpened (uses_opened past) (serving_with (slice_get used 0) n)
      first_opened [] falls = tt
      first_opened (u ∷ upper) falls = falls.0

  value_opened : Counted past → (v : Value) → WasOpened (uses_opened past) (serving_in past v)
  value_opened h Blank = tt
  value_opened h (Num n) = tt
  value_opened h (Ref n) = current_opened h n
  value_opened h (StatusValue status) = tt

  sort_opened : Counted past → (a : Activation) (sort : Sort)
      → WasOpened (uses_opened past) (serving_by past a sort)
  sort_opened h a Dispatch = value_opened h (register a 0)
  sort_opened h a StartIo = tt
  sort_opened h a Dpc = tt
  sort_opened h a Propagate = tt
  sort_opened h a Hold = tt
  sort_opened h a Cancel = tt

  new_opened : Counted past → (number : ℕ) (f : Frame)
      → WasOpened (uses_opened past) (served_by (new_tag set past number f))
  new_opened h number (RoutineFrame a) = sort_opened h a (sort_of set a.driver a.routine)
  new_opened h number (Walk n) = tt
  new_opened h number (CancelFrame c) = tt

  kept_opened : Counted past → (number : ℕ) (o : Frame) (tag : Tag) (f : Frame)
      → WasOpened (uses_opened past) (served_by tag)
      → WasOpened (uses_opened past) (served_by (kept_tag set past number o tag f))
  kept_opened h number (RoutineFrame b) tag (RoutineFrame a) is = is
  kept_opened h number (RoutineFrame b) tag (Walk n) is = tt
  kept_opened h number (RoutineFrame b) tag (CancelFrame c) is = tt
  kept_opened h number (Walk m) tag f is = new_opened h number f
  kept_opened h number (CancelFrame c) tag f is = new_opened h number f

  pub after_opened : Counted past → (number : ℕ) (old : List Frame) (tags : List Tag)
      (frames : List Frame)
      → AllOpened (uses_opened past) tags
      → AllOpened (uses_opened past) (tags_after set past number old tags frames)
  after_opened h number old tags [] all = tt
  after_opened h number [] tags (f ∷ frames) all =
      (new_opened h number f, after_opened h (counted_new f number) [] [] frames tt)
  after_opened h number (o ∷ old) [] (f ∷ frames) all =
      (new_opened h number f, after_opened h (counted_new f number) old [] frames tt)
  after_opened h number (o ∷ old) (tag ∷ tags) (f ∷ frames) all = (
    kept_opened h number o tag f all.0,
    after_opened h (counted_kept o f number) old tags frames all.1,
  )

  -- what stands for a new tag, and for one that is kept
  module _ (l : UsesState) (know : Knows past l) where
    current_serves : (n : ℕ) → serving_as n (current_at l n) ≡ serving_with (current_use past n) n
    current_serves n =
        ap (λ (stack : List ℕ). serving_as n (slice_get stack 0)) (know.stacks n)
        ∙ as_with (slice_get (uses past n) 0)
      where
        as_with : (o : Option ℕ) → serving_as n o ≡ serving_with o n
        as_with None = refl
        as_with (Some u) = refl

    value_serves : (v : Value) → served_in l v ≡ serving_in past v
    value_serves Blank = refl
    value_serves (Num n) = refl
    value_serves (Ref n) = current_serves n
    value_serves (StatusValue status) = refl

    sort_serves : (a : Activation) (sort : Sort) → served_as l a sort ≡ serving_by past a sort
    sort_serves a Dispatch = value_serves (register a 0)
    sort_serves a StartIo = refl
    sort_serves a Dpc = refl
    sort_serves a Propagate = refl
    sort_serves a Hold = refl
    sort_serves a Cancel = refl

    new_stands : (number : ℕ) (f : Frame)
        → new_server set l f ≡ server_of (new_tag set past number f)
    new_stands number (RoutineFrame a) =
        ap (λ (serving : Option Serving). Routine serving)
        (sort_serves a (sort_of set a.driver a.routine))
    new_stands number (Walk n) = refl
    new_stands number (CancelFrame c) = refl

    kept_stands : (number : ℕ) (o : Frame) (tag : Tag) (f : Frame) → TagFits o tag
        → settled_as set l (server_of tag) f ≡ server_of (kept_tag set past number o tag f)
    kept_stands number (RoutineFrame b) Managing f h = absurd h
    kept_stands number (RoutineFrame b) (Activated g driver routine serving) (RoutineFrame a) h =
        refl
    kept_stands number (RoutineFrame b) (Activated g driver routine serving) (Walk n) h = refl
    kept_stands number (RoutineFrame b) (Activated g driver routine serving) (CancelFrame c) h =
        refl
    kept_stands number (Walk m) Managing (RoutineFrame a) h = new_stands number (RoutineFrame a)
    kept_stands number (Walk m) Managing (Walk n) h = refl
    kept_stands number (Walk m) Managing (CancelFrame c) h = refl
    kept_stands number (Walk m) (Activated g driver routine serving) f h = absurd h
    kept_stands number (CancelFrame c) Managing (RoutineFrame a) h =
        new_stands number (RoutineFrame a)
    kept_stands number (CancelFrame c) Managing (Walk n) h = refl
    kept_stands number (CancelFrame c) Managing (CancelFrame d) h = refl
    kept_stands number (CancelFrame c) (Activated g driver routine serving) f h = absurd h

    both : (x y : Server) (xs ys : List Server) → x ≡ y → xs ≡ ys → x ∷ xs ≡ y ∷ ys
    both x y xs ys p q = ap (λ (z : Server). z ∷ xs) p ∙ ap (λ (zs : List Server). y ∷ zs) q

    pub after_stands : (number : ℕ) (old : List Frame) (tags : List Tag) (frames : List Frame)
        → Fits old tags
        → settled set l (servers_of tags) frames
        ≡ servers_of (tags_after set past number old tags frames)
    after_stands number old tags [] h = refl
    after_stands number [] [] (f ∷ frames) h =
        both _ _ _ _ (new_stands number f) (after_stands (counted_new f number) [] [] frames tt)
    after_stands number [] (tag ∷ tags) (f ∷ frames) h = absurd h
    after_stands number (o ∷ old) [] (f ∷ frames) h = absurd h
    after_stands number (o ∷ old) (tag ∷ tags) (f ∷ frames) h =
        both _ _ _ _ (kept_stands number o tag f h.0)
        (after_stands (counted_kept o f number) old tags frames h.1)

-- frames that stand as before
module _ (set : Set) (l : UsesState) where
  same_stands : (f : Frame) (tag : Tag) → TagFits f tag
      → settled_as set l (server_of tag) f ≡ server_of tag
  same_stands (RoutineFrame a) Managing h = absurd h
  same_stands (RoutineFrame a) (Activated g driver routine serving) h = refl
  same_stands (Walk n) Managing h = refl
  same_stands (Walk n) (Activated g driver routine serving) h = absurd h
  same_stands (CancelFrame c) Managing h = refl
  same_stands (CancelFrame c) (Activated g driver routine serving) h = absurd h

  pub settled_same : (frames : List Frame) (tags : List Tag) → Fits frames tags
      → settled set l (servers_of tags) frames ≡ servers_of tags
  settled_same [] [] h = refl
  settled_same [] (tag ∷ tags) h = absurd h
  settled_same (f ∷ frames) [] h = absurd h
  settled_same (f ∷ frames) (tag ∷ tags) h =
      ap (λ (z : Server). z ∷ settled set l (servers_of tags) frames) (same_stands f tag h.0)
      ∙ ap (λ (zs : List Server). server_of tag ∷ zs) (settled_same frames tags h.1)

-- a thread's row
pub rows_get : (rows : List (List Tag)) (t : ℕ) (row : List Tag) → slice_get rows t ≡ Some row
    → slice_get (rows_of rows) t ≡ Some (servers_of row)
rows_get [] t row h = cc
rows_get (r ∷ rows) zero row h = let same : r ≡ row = cc in rw same refl
rows_get (r ∷ rows) (suc t) row h = rows_get rows t row h

pub rows_none : (rows : List (List Tag)) (t : ℕ) → slice_get rows t ≡ None
    → slice_get (rows_of rows) t ≡ None
rows_none [] t h = refl
rows_none (r ∷ rows) zero h = cc
rows_none (r ∷ rows) (suc t) h = rows_none rows t h

pub rows_set : (rows : List (List Tag)) (t : ℕ) (row : List Tag)
    → rows_of (slice_set rows t row) ≡ slice_set (rows_of rows) t (servers_of row)
rows_set [] t row = refl
rows_set (r ∷ rows) zero row = refl
rows_set (r ∷ rows) (suc t) row =
    ap (λ (xs : List (List Server)). servers_of r ∷ xs) (rows_set rows t row)

pub set_back : {A : Type 0} (xs : List A) (i : ℕ) (x : A) → slice_get xs i ≡ Some x
    → slice_set xs i x ≡ xs
set_back [] i x h = refl
set_back (z ∷ xs) zero x h = let same : z ≡ x = cc in rw same refl
set_back {A = A} (z ∷ xs) (suc i) x h = ap (λ (ys : List A). z ∷ ys) (set_back xs i x h)

pub set_past : {A : Type 0} (xs : List A) (i : ℕ) (x : A) → slice_get xs i ≡ None
    → slice_set xs i x ≡ xs
set_past [] i x h = refl
set_past (z ∷ xs) zero x h = cc
set_past {A = A} (z ∷ xs) (suc i) x h = ap (λ (ys : List A). z ∷ ys) (set_past xs i x h)

pub row_there : {A : Type 0} (xs : List A) (i : ℕ) (x d : A) → slice_get xs i ≡ Some x
    → slice_index_or xs i d ≡ x
row_there [] i x d h = cc
row_there (z ∷ xs) zero x d h = cc
row_there (z ∷ xs) (suc i) x d h = row_there xs i x d h

pub row_absent : {A : Type 0} (xs : List A) (i : ℕ) (d : A) → slice_get xs i ≡ None
    → slice_index_or xs i d ≡ d
row_absent [] i d h = refl
row_absent (z ∷ xs) zero d h = cc
row_absent (z ∷ xs) (suc i) d h = row_absent xs i d h

-- the use that a thread's top frame serves
many_servers : (tags : List Tag) → length (servers_of tags) ≡ length tags
many_servers [] = refl
many_servers (tag ∷ tags) = ap (λ (k : ℕ). suc k) (many_servers tags)

server_at : (tags : List Tag) (k : ℕ)
    → of_server (slice_index_or (servers_of tags) k Manager)
    ≡ served_by (slice_index_or tags k Managing)
server_at [] k = refl
server_at (Managing ∷ tags) zero = refl
server_at (Activated g driver routine serving ∷ tags) zero = refl
server_at (tag ∷ tags) (suc k) = server_at tags k

top_server : (tags : List Tag)
    → of_server (slice_index_or (servers_of tags) (length (servers_of tags) - 1) Manager)
    ≡ served_by (top_tag tags)
top_server tags =
    ap (λ (k : ℕ). of_server (slice_index_or (servers_of tags) (k - 1) Manager)) (many_servers tags)
    ∙ server_at tags (length tags - 1)

pub served_there : (rows : List (List Tag)) (t : ℕ) (o : Option (List Tag)) → slice_get rows t ≡ o
    → served_on (rows_of rows) t ≡ served_by (top_tag (slice_index_or rows t []))
served_there rows t None h =
    rw (rows_none rows t h, row_absent rows t [] h) refl
served_there rows t (Some row) h =
    rw (rows_get rows t row h, row_there rows t row [] h) (top_server row)
