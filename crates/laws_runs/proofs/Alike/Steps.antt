-- A step does the same to threads that a machine may not tell apart.
use Rattle.laws_runs.proofs.Common.{ap, append-nil, refl, subst, sym, take, ◌-◌, ◌∙◌, Bool, List, None, Option, Some, [], false, length, true, ℕ, ◌++◌, ◌<◌, ◌∷◌, ◌≡◌, Outcome, cancel_step, frame_effect, kept_below, told_to, top_of, walk_packet, standing, is_completion, Set, sort_of, Shared, packet_of, Sort, Cancel, Dispatch, Dpc, Hold, Propagate, StartIo, Status, Activation, Frame, CancelFrame, Routine, Walk, States, Each, before_last, each_after, each_before, last_of, OnTop, told_frame, cancel_takes, Comes, cancels, carries_up, ends_cancel, ends_dpc, ends_startio, errs, lends_to, lets_go, lets_walk, resumes_gone, resumes_none, resumes_walk, returns_status, stops_none, stops_walk, tops_out, walks_gone, walks_to, walks_up}
use Rattle.laws_runs.proofs.Alike.Frames.{AlikeFrame, AlikeFrames, IsLive, above_in, is_routine, alike_told, alike_under, alike_still, alike_unless}
use Rattle.laws_runs.proofs.Alike.Outcomes.{AlikeOutcome, outcome_same}
use Rattle.laws_runs.proofs.Alike.Routines.{AlikeUnder, TouchesLive, live_of, routine_steps}
use Rattle.laws_runs.proofs.Alike.Stacks.{AlikeTops, tops, reend, join, told_above, frames_later}
use Rattle.laws_runs.proofs.Lists.{each_push}
use Rattle.laws_runs.proofs.Live.Sees.{Seen}
use Rattle.laws_runs.proofs.Past.Walks.{UnderIssued, WalkIssued}

module _ (set : Set) (states : States) (s : Shared) (t : ℕ) where
  -- the top frame's outcome
  pub frame_steps : (g f : Option Frame) (x y : Frame) → OnTop set states s y
      → AlikeFrame set states s None x y
      → AlikeUnder set states s y g f → UnderIssued s.issued f → TouchesLive set s t f y
      → AlikeOutcome set states (frame_effect set s t g x) (frame_effect set s t f y)
  frame_steps g f (Routine b) (Routine a) h like under low lives =
      routine_steps set states s t a h g f under low lives b like
  frame_steps g f (Walk m) (Walk n) h like under low lives =
      let live : IsLive s n =
      live_of (packet_of s n) (λ gone. lives n _ (walks_gone n gone) refl h.stands gone) in
      let same : m ≡ n = like live in
      rw same (outcome_same set states (walk_packet set s n (packet_of s n)))
  frame_steps g f (CancelFrame b) (CancelFrame c) h like under low lives =
      rw like (outcome_same set states (cancel_step set s t c.packet c.next))
  frame_steps g f _ _ h like under low lives = absurd like

  -- the frame under one that is gone, of a routine that isn't a dispatch routine
  apart : (a : Activation) (sort : Sort) (x y : Frame) → sort_of set a.driver a.routine ≡ sort
      → (sort ≡ Dispatch → ⊥) → Seen set states (Some y) (Routine a)
      → AlikeFrame set states s (Some (Routine a)) x y → AlikeFrame set states s None x y
  apart a sort x (Routine c) is isnt seen h = absurd (isnt (sym is ∙ seen))
  apart a sort x (Walk n) is isnt seen h =
      alike_unless set states s (Some (Routine a)) None x (Walk n) refl h
  apart a sort x (CancelFrame c) is isnt seen h =
      alike_unless set states s (Some (Routine a)) None x (CancelFrame c) refl h

  completes_not : (sort : Sort) → is_completion sort ≡ true → sort ≡ Dispatch → ⊥
  completes_not sort is same = let no : true ≡ false = sym is ∙ ap is_completion same in cc

  -- what stood under the frame that ran stands under what is in its place, and is told
  follows : (x y f : Frame) (o : Outcome) → Comes set s t (Some y) f o
      → Seen set states (Some y) f → o.taken_below ≡ false
      → AlikeFrame set states s (Some f) x y
      → AlikeFrame set states s (above_in set states None o.frames) (told_frame set o.told x)
      (told_frame set o.told y)
  follows x y f o (returns_status a form status at sort is) seen kept h =
      alike_told set states s a status x y h
  follows x y f o (lets_go a at sort free) seen kept h =
      apart a Propagate x y sort (λ e. cc) seen h
  follows x y f o (lets_walk a n at sort) seen kept h =
      alike_unless set states s (Some f) None x y refl h
  follows x y f o (resumes_walk a n p at sort there) seen kept h =
      alike_unless set states s (Some f) None x y refl h
  follows x y f o (resumes_gone a n at sort gone) seen kept h =
      alike_unless set states s (Some f) None x y refl h
  follows x y f o (resumes_none a at sort free) seen kept h =
      apart a Hold x y sort (λ e. cc) seen h
  follows x y f o (stops_walk a n at sort) seen kept h = cc
  follows x y f o (stops_none a at sort free) seen kept h =
      apart a (sort_of set a.driver a.routine) x y refl
      (completes_not (sort_of set a.driver a.routine) sort) seen h
  follows x y f o (ends_startio a at sort) seen kept h =
      apart a StartIo x y sort (λ e. cc) seen h
  follows x y f o (ends_dpc a at sort) seen kept h = apart a Dpc x y sort (λ e. cc) seen h
  follows x y f o (ends_cancel a at sort) seen kept h = apart a Cancel x y sort (λ e. cc) seen h
  follows x y f o (walks_gone n gone) seen kept h =
      alike_under set states s (Some f) None x y refl h
  follows x y f o (walks_to n p c there next free) seen kept h =
      alike_under set states s (Some f) _ x y refl h
  follows x y f o (lends_to n p c there next lends) seen kept h =
      alike_under set states s (Some f) _ x y refl h
  follows x y f o (walks_up n p there none deep unmarked) seen kept h =
      alike_under set states s (Some f) _ x y refl h
  follows x y f o (carries_up n p there none deep marked) seen kept h =
      alike_under set states s (Some f) _ x y refl h
  follows x y f o (tops_out n p there none last) seen kept h =
      alike_under set states s (Some f) None x y refl h
  follows x y f o (cancels n step made moves) seen kept h = absurd seen
  follows x y f o _ seen kept h =
      alike_still set states s (Some f) (above_in set states None o.frames) x y refl refl h

  -- and on that what was below it
  told_over : (told : Option Status) (above : Frame) (x y : Frame)
      → AlikeFrame set states s (Some above) x y
      → AlikeFrame set states s (Some (told_frame set told above)) x y
  told_over None above x y h = h
  told_over (Some status) (Routine a) x y h =
      alike_still set states s (Some (Routine a)) _ x y refl refl h
  told_over (Some status) _ x y h = h

  none_below : (taken : Bool) (told : Option Status) → told_to set (kept_below [] taken) told ≡ []
  none_below true None = refl
  none_below true (Some status) = refl
  none_below false None = refl
  none_below false (Some status) = refl

  -- where a completion is stopped
  pub record TakesWalk (y : Frame) (o : Outcome) : Type 0 where
    pub walks : is_routine set states (Some y) ≡ false
    pub told : o.told ≡ None
    pub frames : o.frames ≡ []

  takes_walk : (y f : Frame) (o : Outcome) → Comes set s t (Some y) f o → o.taken_below ≡ true
      → TakesWalk y o
  takes_walk y f o (stops_walk a n at sort) taken =
      record { walks = refl; told = refl; frames = refl }
  takes_walk y f o (errs a lacks) taken = cc
  takes_walk y f o (cancels n step made moves) taken =
      let no : true ≡ false = sym taken ∙ cancel_takes set s t n step o moves in cc
  takes_walk y f o _ taken = cc

  told_low : (told : Option Status) (y : Frame) → WalkIssued s.issued y
      → WalkIssued s.issued (told_frame set told y)
  told_low None y h = h
  told_low (Some status) (Routine a) h = tt
  told_low (Some status) (Walk n) h = h
  told_low (Some status) (CancelFrame c) h = tt

  standing_taken : (below : List Frame) (x : Frame) (o : Outcome) → o.taken_below ≡ true
      → o.told ≡ None → o.frames ≡ [] → standing set (below ++ x ∷ []) o ≡ below
  standing_taken below x o taken told frames =
      rw (taken, told, frames)
      (append-nil (take (length (below ++ x ∷ []) - 1) (below ++ x ∷ [])) ∙ before_last below x)

  standing_kept : (below : List Frame) (x : Frame) (o : Outcome) → o.taken_below ≡ false
      → standing set (below ++ x ∷ []) o ≡ (below ++ told_frame set o.told x ∷ []) ++ o.frames
  standing_kept below x o kept =
      rw kept (ap (λ (xs : List Frame). xs ++ o.frames) (told_above set states below x o.told))

  standing_none : (o : Outcome) → standing set [] o ≡ o.frames
  standing_none o = ap (λ (xs : List Frame). xs ++ o.frames) (none_below o.taken_below o.told)

  no_frames : (above : Option Frame) (r : Shared) (xs ys : List Frame)
      → AlikeFrames set states r above xs ys → ys ≡ [] → xs ≡ []
  no_frames above r [] ys h none = refl
  no_frames above r (x ∷ xs) [] h none = absurd h
  no_frames above r (x ∷ xs) (y ∷ ys) h none = cc

  module _ (f : Frame) (p o : Outcome) (alike : AlikeOutcome set states p o)
      (before : (n : ℕ) → n < s.issued → IsLive o.shared n → IsLive s n) where
    same_taken : p.taken_below ≡ o.taken_below
    same_taken = ap (λ (q : Outcome). q.taken_below) alike.others

    same_told : p.told ≡ o.told
    same_told = ap (λ (q : Outcome). q.told) alike.others

    -- over frames of which one stands under the one that ran
    stood_on : (l r : List Frame) (x y : Frame) (taken : Bool) → o.taken_below ≡ taken
        → AlikeFrames set states s (Some y) l r → AlikeFrame set states s (Some f) x y
        → Comes set s t (Some y) f o → Seen set states (Some y) f
        → Each (WalkIssued s.issued) (r ++ y ∷ [])
        → AlikeFrames set states o.shared None (standing set (l ++ x ∷ []) p)
        (standing set (r ++ y ∷ []) o)
    stood_on l r x y true taken below top comes sees low =
        let takes : TakesWalk y o = takes_walk y f o comes taken in
        let none : p.frames ≡ [] =
        no_frames None o.shared p.frames o.frames alike.frames takes.frames in
        rw (
          standing_taken l x p (same_taken ∙ taken) (same_told ∙ takes.told) none,
          standing_taken r y o taken takes.told takes.frames,
        )
        (frames_later set states s o.shared before None l r
        (each_before (WalkIssued s.issued) r (y ∷ []) low)
        (reend set states s (Some y) None l r
        (λ u v h. alike_under set states s (Some y) None u v takes.walks h) below))
    stood_on l r x y false kept below top comes sees low =
        let above : Option Frame = above_in set states None o.frames in
        let one : AlikeFrame set states s above (told_frame set o.told x)
        (told_frame set o.told y) = follows x y f o comes sees kept top in
        let others : AlikeFrames set states s (Some (told_frame set o.told y)) l r =
        reend set states s (Some y) (Some (told_frame set o.told y)) l r
        (λ u v h. told_over o.told y u v h) below in
        let all : AlikeFrames set states s above (l ++ told_frame set o.told x ∷ [])
        (r ++ told_frame set o.told y ∷ []) =
        join set states s above l r (told_frame set o.told x ∷ []) (told_frame set o.told y ∷ [])
        others (one, tt) in
        let lows : Each (WalkIssued s.issued) (r ++ told_frame set o.told y ∷ []) =
        each_push (WalkIssued s.issued) r (told_frame set o.told y)
        (each_before (WalkIssued s.issued) r (y ∷ []) low)
        (told_low o.told y (each_after (WalkIssued s.issued) r (y ∷ []) low).0) in
        rw (standing_kept l x p (same_taken ∙ kept), standing_kept r y o kept, same_told)
        (join set states o.shared None (l ++ told_frame set o.told x ∷ [])
        (r ++ told_frame set o.told y ∷ []) p.frames o.frames
        (frames_later set states s o.shared before above (l ++ told_frame set o.told x ∷ [])
        (r ++ told_frame set o.told y ∷ []) lows all) alike.frames)

    pub stood_over : (left right : List Frame) → AlikeFrames set states s (Some f) left right
        → Comes set s t (top_of right) f o
        → ((y : Frame) → top_of right ≡ Some y → Seen set states (Some y) f)
        → Each (WalkIssued s.issued) right
        → AlikeFrames set states o.shared None (standing set left p) (standing set right o)
    stood_over [] [] h comes sees low = rw (standing_none p, standing_none o) alike.frames
    stood_over (x ∷ left) (y ∷ right) h comes sees low =
        let on : AlikeTops set states s (Some f) (x ∷ left) (y ∷ right) =
        tops set states s (Some f) x left y right h in
        let top : top_of (y ∷ right) ≡ Some on.other =
        ap top_of on.right_is ∙ last_of on.right on.other in
        subst (λ (frames : List Frame).
        AlikeFrames set states o.shared None (standing set frames p)
        (standing set (y ∷ right) o)) (sym on.left_is)
        (subst (λ (frames : List Frame).
        AlikeFrames set states o.shared None (standing set (on.left ++ on.one ∷ []) p)
        (standing set frames o)) (sym on.right_is)
        (stood_on on.left on.right on.one on.other o.taken_below refl on.below on.top
        (subst (λ (under : Option Frame). Comes set s t under f o) top comes) (sees on.other top)
        (subst (λ (frames : List Frame). Each (WalkIssued s.issued) frames) on.right_is low)))
    stood_over _ _ h comes sees low = absurd h
