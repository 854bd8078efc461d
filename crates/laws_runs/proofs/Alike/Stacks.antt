-- Threads that a machine may not tell apart: their frames from the lowest on, and what stands below
-- the top ones, which is told what it is to know.
use Rattle.laws_runs.proofs.Common.{ap, refl, subst, zero, ◌∙◌, List, None, Option, Some, [], slice_get, slice_set, suc, ℕ, ⊤, ◌++◌, ◌<◌, ◌∷◌, ◌≡◌, told_to, told_top, Set, Shared, Status, Frame, CancelFrame, Routine, Walk, Thread, States, Each, before_last, last_of, told_frame}
use Rattle.laws_runs.proofs.Alike.Frames.{AlikeFrame, AlikeFrames, IsLive, above_in}
use Rattle.laws_runs.proofs.Past.Walks.{WalkIssued}

module _ (set : Set) (states : States) where
  pub record AlikeThread (s : Shared) (x y : Thread) : Type 0 where
    pub root : x.root ≡ y.root
    pub frames : AlikeFrames set states s None x.frames.items y.frames.items

  abbrev pub AlikeThreads : Shared → List Thread → List Thread → Type 0
  AlikeThreads s [] [] = ⊤
  AlikeThreads s (x ∷ xs) (y ∷ ys) = AlikeThread s x y × AlikeThreads s xs ys
  AlikeThreads s _ _ = ⊥

  -- two threads of a number, if there are any
  abbrev pub AlikeAt : Shared → Option Thread → Option Thread → Type 0
  AlikeAt s None None = ⊤
  AlikeAt s (Some x) (Some y) = AlikeThread s x y
  AlikeAt s _ _ = ⊥

  pub alike_at : (s : Shared) (xs ys : List Thread) (t : ℕ) → AlikeThreads s xs ys
      → AlikeAt s (slice_get xs t) (slice_get ys t)
  alike_at s [] [] t h = tt
  alike_at s (x ∷ xs) (y ∷ ys) zero h = h.0
  alike_at s (x ∷ xs) (y ∷ ys) (suc t) h = alike_at s xs ys t h.1
  alike_at s _ _ t h = absurd h

  pub alike_put : (s : Shared) (xs ys : List Thread) (t : ℕ) (x y : Thread) → AlikeThreads s xs ys
      → AlikeThread s x y → AlikeThreads s (slice_set xs t x) (slice_set ys t y)
  alike_put s [] [] t x y h new = tt
  alike_put s (u ∷ xs) (v ∷ ys) zero x y h new = (new, h.1)
  alike_put s (u ∷ xs) (v ∷ ys) (suc t) x y h new = (h.0, alike_put s xs ys t x y h.1 new)
  alike_put s _ _ t x y h new = absurd h

  -- packets that were issued and are live now were live before
  module _ (s after : Shared) (before : (n : ℕ) → n < s.issued → IsLive after n → IsLive s n) where
    frame_later : (above : Option Frame) (g f : Frame) → WalkIssued s.issued f
        → AlikeFrame set states s above g f → AlikeFrame set states after above g f
    frame_later above (Routine b) (Routine a) low h = h
    frame_later above (Walk m) (Walk n) low h = λ live. h (before n low live)
    frame_later above (CancelFrame b) (CancelFrame c) low h = h
    frame_later above _ _ low h = absurd h

    pub frames_later : (above : Option Frame) (others frames : List Frame)
        → Each (WalkIssued s.issued) frames → AlikeFrames set states s above others frames
        → AlikeFrames set states after above others frames
    frames_later above [] [] low h = tt
    frames_later above (g ∷ others) (f ∷ frames) low h = (
      frame_later (above_in set states above frames) g f low.0 h.0,
      frames_later above others frames low.1 h.1,
    )
    frames_later above _ _ low h = absurd h

    pub threads_later : (xs ys : List Thread)
        → ((t : ℕ) (y : Thread) → slice_get ys t ≡ Some y
        → Each (WalkIssued s.issued) y.frames.items)
        → AlikeThreads s xs ys → AlikeThreads after xs ys
    threads_later [] [] low h = tt
    threads_later (x ∷ xs) (y ∷ ys) low h = (
      record {
        root = h.0.root;
        frames = frames_later None x.frames.items y.frames.items (low 0 y refl) h.0.frames;
      },
      threads_later xs ys (λ t. low (suc t)) h.1,
    )
    threads_later _ _ low h = absurd h

  -- the top frames, and those below
  pub record AlikeTops (s : Shared) (above : Option Frame) (others frames : List Frame) : Type 0
    where
      pub left : List Frame
      pub right : List Frame
      pub one : Frame
      pub other : Frame
      pub left_is : others ≡ left ++ one ∷ []
      pub right_is : frames ≡ right ++ other ∷ []
      pub below : AlikeFrames set states s (Some other) left right
      pub top : AlikeFrame set states s above one other

  pub tops : (s : Shared) (above : Option Frame) (g : Frame) (others : List Frame) (f : Frame)
      (frames : List Frame)
      → AlikeFrames set states s above (g ∷ others) (f ∷ frames)
      → AlikeTops s above (g ∷ others) (f ∷ frames)
  tops s above g [] f [] h =
      record {
        left = [];
        right = [];
        one = g;
        other = f;
        left_is = refl;
        right_is = refl;
        below = tt;
        top = h.0;
      }
  tops s above g (d ∷ others) f (e ∷ frames) h =
      let on : AlikeTops s above (d ∷ others) (e ∷ frames) = tops s above d others e frames h.1 in
      record {
        left = g ∷ on.left;
        right = f ∷ on.right;
        one = on.one;
        other = on.other;
        left_is = ap (λ (xs : List Frame). g ∷ xs) on.left_is;
        right_is = ap (λ (xs : List Frame). f ∷ xs) on.right_is;
        below = (
          subst (λ (o : Option Frame). AlikeFrame set states s o g f)
              (first_of e frames on.right on.other on.right_is) h.0,
          on.below,
        );
        top = on.top;
      }
    where
      first_of : (e : Frame) (frames right : List Frame) (other : Frame)
          → e ∷ frames ≡ right ++ other ∷ []
          → Some e ≡ above_in set states (Some other) right
      first_of e frames [] other is = let same : e ≡ other = cc in ap (λ (x : Frame). Some x) same
      first_of e frames (d ∷ right) other is =
          let same : e ≡ d = cc in ap (λ (x : Frame). Some x) same
  tops s above g _ f _ h = absurd h.1

  -- on another frame, or none
  pub reend : (s : Shared) (above other : Option Frame) (xs ys : List Frame)
      → ((g f : Frame) → AlikeFrame set states s above g f → AlikeFrame set states s other g f)
      → AlikeFrames set states s above xs ys → AlikeFrames set states s other xs ys
  reend s above other [] [] same h = tt
  reend s above other (g ∷ xs) (f ∷ []) same h =
      (same g f h.0, reend s above other xs [] same h.1)
  reend s above other (g ∷ xs) (f ∷ e ∷ ys) same h =
      (h.0, reend s above other xs (e ∷ ys) same h.1)
  reend s above other _ _ same h = absurd h

  -- frames on frames
  pub join : (s : Shared) (above : Option Frame) (xs ys others frames : List Frame)
      → AlikeFrames set states s (above_in set states above frames) xs ys
      → AlikeFrames set states s above others frames
      → AlikeFrames set states s above (xs ++ others) (ys ++ frames)
  join s above [] [] others frames h new = new
  join s above (c ∷ xs) (d ∷ []) others frames h new =
      (h.0, join s above xs [] others frames h.1 new)
  join s above (c ∷ xs) (d ∷ b ∷ ys) others frames h new =
      (h.0, join s above xs (b ∷ ys) others frames h.1 new)
  join s above _ _ others frames h new = absurd h

  -- the frame under those that stand in place of the one that ran is told
  told_split : (below : List Frame) (g : Frame) (status : Status)
      → told_top set (below ++ g ∷ []) status (Some g)
      ≡ below ++ told_frame set (Some status) g ∷ []
  told_split below (Routine a) status =
      ap (λ (xs : List Frame). xs ++ told_frame set (Some status) (Routine a) ∷ [])
      (before_last below (Routine a))
  told_split below _ status = refl

  pub told_above : (below : List Frame) (g : Frame) (told : Option Status)
      → told_to set (below ++ g ∷ []) told ≡ below ++ told_frame set told g ∷ []
  told_above below g None = refl
  told_above below g (Some status) =
      ap (told_top set (below ++ g ∷ []) status) (last_of below g) ∙ told_split below g status
