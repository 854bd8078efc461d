-- The frames of a thread serve on when its top frame takes a step: those below it, and what it
-- leaves.
use Rattle.laws_runs.proofs.Common.{ap, arith, refl, subst, sym, List, None, Option, Some, [], ℕ, ⊤, ◌++◌, ◌∷◌, ◌≡◌, ◌≤◌, counted_kept, kept_tag, tags_after, Set, Entry, Managing, Serving, Tag, World, Status, Frame, CancelFrame, Routine, Walk, States, frame_rights, stack_sum, last_under, told_frame, told_last}
use Rattle.laws_runs.proofs.Pending.Serving.{Agreeing, AllServe, FrameServes, IsFollowed, KeepsAgreed, first_served, frame_kept, frame_told, served}
use Rattle.laws_runs.proofs.Uses.Traced.{SameUses}

-- frames, each with a tag: that of the I/O manager's has no number
abbrev pub TagOf : Frame → Tag → Type 0
TagOf (Routine a) tag = ⊤
TagOf (Walk n) tag = tag ≡ Managing
TagOf (CancelFrame c) tag = tag ≡ Managing

abbrev pub Tagged : List Frame → List Tag → Type 0
Tagged [] [] = ⊤
Tagged [] (tag ∷ tags) = ⊥
Tagged (f ∷ frames) [] = ⊥
Tagged (f ∷ frames) (tag ∷ tags) = TagOf f tag × Tagged frames tags

-- frames that stay, or are told something, keep their tags
module _ (set : Set) (later : List Entry) (number : ℕ) where
  kept_self : (f : Frame) (tag : Tag) → TagOf f tag → kept_tag set later number f tag f ≡ tag
  kept_self (Routine a) tag h = refl
  kept_self _ tag h = sym h

  counted_self : (f : Frame) → counted_kept f f number ≡ number
  counted_self (Routine a) = refl
  counted_self (Walk n) = refl
  counted_self (CancelFrame c) = refl

  kept_told : (told : Option Status) (f : Frame) (tag : Tag) → TagOf f tag
      → kept_tag set later number f tag (told_frame set told f) ≡ tag
  kept_told None (Routine a) tag h = refl
  kept_told (Some status) (Routine a) tag h = refl
  kept_told _ _ tag h = sym h

  counted_told : (told : Option Status) (f : Frame) → counted_kept f (told_frame set told f) number
      ≡ number
  counted_told None (Routine a) = refl
  counted_told (Some status) (Routine a) = refl
  counted_told None (Walk n) = refl
  counted_told None (CancelFrame c) = refl
  counted_told (Some status) (Walk n) = refl
  counted_told (Some status) (CancelFrame c) = refl

  pub row_same : (frames : List Frame) (row : List Tag) → Tagged frames row
      → tags_after set later number frames row frames ≡ row
  row_same [] [] h = refl
  row_same (f ∷ frames) (tag ∷ row) h =
      rw (kept_self f tag h.0, counted_self f)
      (ap (λ (tags : List Tag). tag ∷ tags) (row_same frames row h.1))
  row_same _ _ h = absurd h

  pub tags_kept : (told : Option Status) (below old frames : List Frame) (tags rest : List Tag)
      → Tagged below tags
      → tags_after set later number (below ++ old) (tags ++ rest)
      (told_last set told below ++ frames)
      ≡ tags ++ tags_after set later number old rest frames
  tags_kept told [] old frames [] rest h = refl
  tags_kept told [] old frames (tag ∷ tags) rest h = absurd h
  tags_kept told (f ∷ below) old frames [] rest h = absurd h
  tags_kept told (f ∷ []) old frames (tag ∷ []) rest h =
      rw (kept_told told f tag h.0, counted_told told f) refl
  tags_kept told (f ∷ []) old frames (tag ∷ other ∷ tags) rest h = absurd h.1
  tags_kept told (f ∷ g ∷ below) old frames (tag ∷ tags) rest h =
      rw (kept_self f tag h.0, counted_self f)
      (ap (λ (row : List Tag). tag ∷ row) (tags_kept told (g ∷ below) old frames tags rest h.1))

-- the use on a dispatch routine stays the same, where one is on it
abbrev pub SameOver : Option Frame → Option Serving → Option Serving → Type 0
SameOver None x y = ⊤
SameOver (Some (Routine b)) x y = x ≡ y
SameOver (Some (Walk m)) x y = ⊤
SameOver (Some (CancelFrame c)) x y = ⊤

module _ (set : Set) (states : States) (w : World) (past : List Entry) where
  pub tagged_all : (under : Option Frame) (frames : List Frame) (tags : List Tag)
      → AllServe set states w past under frames tags → Tagged frames tags
  tagged_all under [] [] h = tt
  tagged_all under [] (tag ∷ tags) h = absurd h
  tagged_all under (f ∷ frames) [] h = absurd h
  tagged_all under (Routine a ∷ frames) (tag ∷ tags) h =
      (tt, tagged_all (Some (Routine a)) frames tags h.1)
  tagged_all under (Walk n ∷ frames) (tag ∷ tags) h =
      (h.0, tagged_all (Some (Walk n)) frames tags h.1)
  tagged_all under (CancelFrame c ∷ frames) (tag ∷ tags) h =
      (h.0, tagged_all (Some (CancelFrame c)) frames tags h.1)

  -- the tags of a thread whose top frame is known, and what that one serves
  pub record TopServes (under : Option Frame) (below : List Frame) (f : Frame) (row : List Tag)
      : Type 0 where
    pub tags : List Tag
    pub tag : Tag
    pub is : row ≡ tags ++ tag ∷ []
    pub tagged : Tagged below tags
    pub top : FrameServes set states w past (last_under under below) None f tag

  pub top_serves : (under : Option Frame) (below : List Frame) (f : Frame) (row : List Tag)
      → AllServe set states w past under (below ++ f ∷ []) row → TopServes under below f row
  top_serves under [] f [] h = absurd h
  top_serves under [] f (tag ∷ []) h =
      record { tags = []; tag = tag; is = refl; tagged = tt; top = h.0 }
  top_serves under [] f (tag ∷ other ∷ row) h = absurd h.1
  top_serves under (g ∷ below) f [] h = absurd h
  top_serves under (g ∷ below) f (tag ∷ row) h =
      let top : TopServes (Some g) below f row = top_serves (Some g) below f row h.1 in
      record {
        tags = tag ∷ top.tags;
        tag = top.tag;
        is = ap (λ (tags : List Tag). tag ∷ tags) top.is;
        tagged = (tag_of g h.0, top.tagged);
        top = top.top;
      }
    where
      tag_of : (e : Frame) → FrameServes set states w past under (first_served row) e tag
          → TagOf e tag
      tag_of (Routine a) serves = tt
      tag_of (Walk n) serves = serves
      tag_of (CancelFrame c) serves = serves

  -- what stands below the top frame serves, down from one of the I/O manager's
  pub walk_below_serves : (under : Option Frame) (others : List Frame) (n : ℕ) (f : Frame)
      (tags : List Tag) (tag : Tag) → Tagged (others ++ Walk n ∷ []) tags
      → AllServe set states w past under ((others ++ Walk n ∷ []) ++ f ∷ []) (tags ++ tag ∷ [])
      → AllServe set states w past under (others ++ Walk n ∷ []) tags
  walk_below_serves under [] n f [] tag tagged h = absurd tagged
  walk_below_serves under [] n f (x ∷ []) tag tagged h = (h.0, tt)
  walk_below_serves under [] n f (x ∷ y ∷ tags) tag tagged h = absurd tagged.1
  walk_below_serves under (g ∷ others) n f [] tag tagged h = absurd tagged
  walk_below_serves under (g ∷ []) n f (x ∷ []) tag tagged h = absurd tagged.1
  walk_below_serves under (g ∷ e ∷ others) n f (x ∷ []) tag tagged h = absurd tagged.1
  walk_below_serves under (g ∷ others) n f (x ∷ y ∷ tags) tag tagged h =
      (h.0, walk_below_serves (Some g) others n f (y ∷ tags) tag tagged.1 h.1)

  over_changed : (under : Option Frame) (x y : Option Serving) (g : Frame) (tag : Tag)
      → SameOver (Some g) x y
      → FrameServes set states w past under x g tag → FrameServes set states w past under y g tag
  over_changed under x y (Routine a) tag same h =
      subst (λ (over : Option Serving). FrameServes set states w past under over (Routine a) tag)
      same h
  over_changed under x y _ tag same h = h

-- frames below the one that ran serve on, and so do those that stand on them
module _ (set : Set) (states : States) (w later_w : World) (past later : List Entry)
    (keeps : KeepsAgreed states w past later_w later) where
  pub all_on : (under : Option Frame) (below : List Frame) (tags : List Tag) (f : Frame) (tag : Tag)
      (frames : List Frame) (new : List Tag)
      → ((n : ℕ) → 1 ≤ stack_sum (λ g. frame_rights states g n) below → SameUses past later n)
      → Tagged below tags
      → AllServe set states w past under (below ++ f ∷ []) (tags ++ tag ∷ [])
      → SameOver (last_under under below) (served tag) (first_served new)
      → AllServe set states later_w later (last_under under below) frames new
      → AllServe set states later_w later under (below ++ frames) (tags ++ new)
  all_on under [] [] f tag frames new same tagged h over others = others
  all_on under [] (x ∷ tags) f tag frames new same tagged h over others = absurd tagged
  all_on under (g ∷ below) [] f tag frames new same tagged h over others = absurd tagged
  all_on under (g ∷ []) (x ∷ []) f tag frames new same tagged h over others = (
    over_changed set states later_w later under (served tag) (first_served new) g x over
        (frame_kept set states w later_w past later keeps under (served tag) g x
        (λ n some. same n (omega arith)) h.0),
    others,
  )
  all_on under (g ∷ []) (x ∷ y ∷ tags) f tag frames new same tagged h over others = absurd tagged.1
  all_on under (g ∷ e ∷ below) (x ∷ []) f tag frames new same tagged h over others = absurd tagged.1
  all_on under (g ∷ e ∷ below) (x ∷ y ∷ tags) f tag frames new same tagged h over others = (
    frame_kept set states w later_w past later keeps under (served y) g x
        (λ n some. same n (omega arith)) h.0,
    all_on (Some g) (e ∷ below) (y ∷ tags) f tag frames new (λ n some. same n (omega arith))
        tagged.1 h.1 over others,
  )

  -- of the frames below, the last alone is told a status, and serves the same use
  pub all_told : (under : Option Frame) (below : List Frame) (tags : List Tag) (f : Frame)
      (tag : Tag)
      (status : Status) → IsFollowed states later_w later
      → ((n : ℕ) → 1 ≤ stack_sum (λ g. frame_rights states g n) below → SameUses past later n)
      → Tagged below tags
      → ((g : Frame) → last_under under below ≡ Some g → (n : ℕ)
      → frame_rights states (told_frame set (Some status) g) n ≡ frame_rights states g n)
      → AllServe set states w past under (below ++ f ∷ []) (tags ++ tag ∷ [])
      → Agreeing states later_w later (last_under under below) (served tag) status
      → AllServe set states later_w later under (told_last set (Some status) below) tags
  all_told under [] [] f tag status follows same tagged alike h agreed = tt
  all_told under [] (x ∷ tags) f tag status follows same tagged alike h agreed = absurd tagged
  all_told under (g ∷ below) [] f tag status follows same tagged alike h agreed = absurd tagged
  all_told under (g ∷ []) (x ∷ []) f tag status follows same tagged alike h agreed = (
    frame_told set states later_w later follows status under g (served tag) x (alike g refl)
        (frame_kept set states w later_w past later keeps under (served tag) g x
        (λ n some. same n (omega arith)) h.0)
        agreed,
    tt,
  )
  all_told under (g ∷ []) (x ∷ y ∷ tags) f tag status follows same tagged alike h agreed =
      absurd tagged.1
  all_told under (g ∷ e ∷ below) (x ∷ []) f tag status follows same tagged alike h agreed =
      absurd tagged.1
  all_told under (g ∷ e ∷ below) (x ∷ y ∷ tags) f tag status follows same tagged alike h agreed = (
    frame_kept set states w later_w past later keeps under (served y) g x
        (λ n some. same n (omega arith)) h.0,
    all_told (Some g) (e ∷ below) (y ∷ tags) f tag status follows (λ n some. same n (omega arith))
        tagged.1 alike h.1
        agreed,
  )
