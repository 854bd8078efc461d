-- Every activation of a run of an accepted set keeps its routine's certificate.
use Rattle.laws_runs.proofs.Common.{ap, arith, inl, inr, refl, subst, sym, zero, ◌∙◌, append_assoc, set-get_or, get_or_from_slice_get, All, List, None, Some, [], slice_get, slice_set, suc, true, ℕ, ◌++◌, ◌∷◌, ◌≡◌, ◌≤◌, Outcome, told_to, top_of, Change, settled, standing, unchanged, with_stack, with_thread, Run, activations_after, actor_on, frames_on, goes, tags_after, tags_on, top_tag, Set, Activated, Entry, Managing, Tag, recorded, World, Idle, Activation, Frame, CancelFrame, Routine, Walk, Irql, Thread, States, AreOneRoutine, KeepsCertificate, last_of, RootFrame, root_cancels, root_enters, IsGood, Standing, on_top, root_there, stood}
use Rattle.std.proofs.lemmas.List.{append-nil}
use Rattle.laws_runs.specs.Lifetime.{IsOneRoutine, StandsWithin}
use Rattle.laws_runs.proofs.Certificates.Owed.{executed_in, Follows, follows_idle, follows_step, Pays, IsFresh, follows_stop}
use Rattle.laws_runs.proofs.Certificates.Steps.{frame_due, pays, told_alike}
use Rattle.laws_runs.proofs.Certificates.Tags.{Fits, IsKnown, Matched, Named, fits_known, named}
use Rattle.laws_runs.proofs.Certificates.Tally.{AllKnown, Tally, known_kept, one_of_known, turned}
use Rattle.laws_runs.proofs.Runs.Events.{StepsFrame, Happens, nothing, steps, past_with, begins}
use Rattle.laws_runs.proofs.Runs.Kept.{with_queued}
use Rattle.laws_runs.proofs.Runs.Roots.{Root, root_told, IdleThread, root_begun, with_root}
use Rattle.laws_runs.proofs.Runs.Threads.{frames_there, frames_put}

-- the tags of a thread whose top frame is known
record TopTag (given : List Tag) (below : List Frame) (f : Frame) (row : List Tag) : Type 0 where
  tags : List Tag
  tag : Tag
  is : row ≡ tags ++ tag ∷ []
  others : Matched given below tags
  fits : Fits given tag f

top_matched : (given : List Tag) (below : List Frame) (f : Frame) (row : List Tag)
    → Matched given (below ++ f ∷ []) row → TopTag given below f row
top_matched given [] f [] h = absurd h
top_matched given [] f (tag ∷ []) h =
    record { tags = []; tag = tag; is = refl; others = tt; fits = h.0 }
top_matched given [] f (tag ∷ other ∷ row) h = absurd h.1
top_matched given (g ∷ below) f [] h = absurd h
top_matched given (g ∷ below) f (tag ∷ row) h =
    let top : TopTag given below f row = top_matched given below f row h.1 in
    record {
      tags = tag ∷ top.tags;
      tag = top.tag;
      is = ap (λ (tags : List Tag). tag ∷ tags) top.is;
      others = (h.0, top.others);
      fits = top.fits;
    }

pub top_is : (row tags : List Tag) (tag : Tag) → row ≡ tags ++ tag ∷ [] → top_tag row ≡ tag
top_is row tags tag is =
    ap top_tag is ∙ get_or_from_slice_get (tags ++ tag ∷ []) _ tag _ (last_of tags tag)

-- a run's tags and numbers
abbrev pub Tallied : Set → Run → Type 0
Tallied set r = Tally (frame_due set) set r.world r.tags r.activations r.past

-- the same frames keep their tags, and no activation is new
tags_same : (set : Set) (given : List Tag) (past : List Entry) (number : ℕ) (frames : List Frame)
    (row : List Tag)
    → Matched given frames row → tags_after set past number frames row frames ≡ row
tags_same set given past number [] [] h = refl
tags_same set given past number [] (tag ∷ row) h = absurd h
tags_same set given past number (f ∷ frames) [] h = absurd h
tags_same set given past number (Routine a ∷ frames) (tag ∷ row) h =
    ap (λ (tags : List Tag). tag ∷ tags) (tags_same set given past number frames row h.1)
tags_same set given past number (Walk n ∷ frames) (Managing ∷ row) h =
    ap (λ (tags : List Tag). Managing ∷ tags) (tags_same set given past number frames row h.1)
tags_same set given past number (Walk n ∷ frames) (Activated g driver routine serving ∷ row) h =
    absurd h.0
tags_same set given past number (CancelFrame c ∷ frames) (Managing ∷ row) h =
    ap (λ (tags : List Tag). Managing ∷ tags) (tags_same set given past number frames row h.1)
tags_same set given past number (CancelFrame c ∷ frames) (Activated g driver routine serving ∷ row)
    h =
    absurd h.0

count_same : (number : ℕ) (frames : List Frame) → activations_after number frames frames ≡ number
count_same number [] = refl
count_same number (Routine a ∷ frames) = count_same number frames
count_same number (Walk n ∷ frames) = count_same number frames
count_same number (CancelFrame c ∷ frames) = count_same number frames

idle_known : (given row : List Tag) → Matched given [] row → IsKnown given (top_tag row)
idle_known given [] h = tt
idle_known given (tag ∷ row) h = absurd h

follows_as : (set : Set) (given : List Tag) (past : List Entry) (number n : ℕ)
    (old old_now : List Frame)
    (row row_now : List Tag) (tag tag_now : Tag) (frames frames_now : List Frame) → old ≡ old_now
    → row ≡ row_now
    → tag ≡ tag_now → frames ≡ frames_now
    → Follows (frame_due set) set given past number old row tag n frames
    → Follows (frame_due set) set given past number old_now row_now tag_now n frames_now
follows_as set given past number n old old_now row row_now tag tag_now frames frames_now one two
    three four h =
    rw (sym one, sym two, sym three, sym four) h

-- the top frame is gone, and the I/O manager's below it
stops_follow : (set : Set) (given : List Tag) (past : List Entry) (number n : ℕ)
    (others : List Frame) (k : ℕ) (below : List Frame) (f : Frame) (row : List Tag)
    → below ≡ others ++ Walk k ∷ [] → (top : TopTag given below f row) → n ≤ frame_due set f
    → Follows (frame_due set) set given past number (below ++ f ∷ []) row top.tag n others
stops_follow set given past number n others k below f row is top paid =
    let walk : TopTag given others (Walk k) top.tags =
    top_matched given others (Walk k) top.tags
    (subst (λ (frames : List Frame). Matched given frames top.tags) is top.others) in
    let frames : others ++ Walk k ∷ f ∷ [] ≡ below ++ f ∷ [] =
    sym (ap (λ (lower : List Frame). lower ++ f ∷ []) is
    ∙ append_assoc others (Walk k ∷ []) (f ∷ [])) in
    let tags : walk.tags ++ walk.tag ∷ top.tag ∷ [] ≡ row =
    sym (top.is ∙ ap (λ (lower : List Tag). lower ++ top.tag ∷ []) walk.is
    ∙ append_assoc walk.tags (walk.tag ∷ []) (top.tag ∷ [])) in
    follows_as set given past number n (others ++ Walk k ∷ f ∷ []) (below ++ f ∷ [])
    (walk.tags ++ walk.tag ∷ top.tag ∷ []) row top.tag top.tag (others ++ []) others frames tags
    refl
    (append-nil others)
    (follows_stop (frame_due set) set given past number others (Walk k) f walk.tags walk.tag top.tag
    n
    (told_alike set None others) walk.others paid)

module _ (set : Set) (states : States) (good : IsGood set states) (r : Run) (t : ℕ)
    (stands : Standing set states r.world r.past) (tally : Tallied set r) where
  steps_tally : (h : StepsFrame set r.world t)
      → Tallied set (goes set r t (past_with r t (settled set r.world t h.thread h.below h.outcome))
      (settled set r.world t h.thread h.below h.outcome)).run
  steps_tally h =
      let c : Change = settled set r.world t h.thread h.below h.outcome in
      let o : Outcome = h.outcome in
      let row : List Tag = tags_on r t in
      let here : frames_on r.world t ≡ h.below ++ h.frame ∷ [] =
      frames_there r.world t h.thread h.found ∙ h.frames in
      let matched : Matched tally.given (h.below ++ h.frame ∷ []) row =
      subst (λ (frames : List Frame). Matched tally.given frames row) here (tally.matched t) in
      let top : TopTag tally.given h.below h.frame row =
      top_matched tally.given h.below h.frame row matched in
      let acting : top_tag row ≡ top.tag = top_is row top.tags top.tag top.is in
      let later : List Entry = past_with r t c in
      let paid : Pays (frame_due set) set h.frame (executed_in o.actions) o.frames =
      pays set states r.world.shared t (top_of h.below) h.frame o
      (on_top set states r.world r.past good stands t h) h.comes in
      let follows : Follows (frame_due set) set tally.given later r.activations
      h.thread.frames.items row (top_tag row)
      (executed_in o.actions) (standing set h.below o) =
      elim (stood set r.world.shared t h.below h.frame o h.comes) [
        | inl kept ↦
            follows_as set tally.given later r.activations (executed_in o.actions)
            (h.below ++ h.frame ∷ [])
            h.thread.frames.items (top.tags ++ top.tag ∷ []) row top.tag (top_tag row)
            (told_to set h.below o.told ++ o.frames) (standing set h.below o) (sym h.frames)
            (sym top.is) (sym acting) (sym kept)
            (follows_step (frame_due set) set tally.given later r.activations h.below
            (told_to set h.below o.told) h.frame
            top.tags top.tag (executed_in o.actions) o.frames (told_alike set o.told h.below)
            top.others top.fits paid)
        | inr gone ↦
            follows_as set tally.given later r.activations (executed_in o.actions)
            (h.below ++ h.frame ∷ []) h.thread.frames.items row row top.tag (top_tag row)
            gone.others (standing set h.below o) (sym h.frames) refl (sym acting) (sym gone.stands)
            (stops_follow set tally.given later r.activations (executed_in o.actions) gone.others
            gone.n h.below h.frame row gone.below_is top
            (subst (λ (frames : List Frame). Pays (frame_due set) set h.frame
            (executed_in o.actions)
            frames) gone.frames paid))
      ]
      in
      rw (
        frames_there r.world t h.thread h.found,
        frames_put r.world t o.shared (with_stack h.thread (standing set h.below o)) h.thread
            h.found,
      )
      (turned (frame_due set) set r.world c.world r.tags r.activations r.past (actor_on r t)
      o.actions h.thread
      (with_stack h.thread (standing set h.below o)) tally h.found refl
      (subst (λ (tag : Tag). IsKnown tally.given tag) (sym acting)
      (fits_known tally.given top.tag h.frame top.fits))
      follows)

  -- a frame stands on an idle thread: a routine's with its certificate left
  begins_tally : (i : IdleThread r.world t) (root : Root) → executed_in root.actions ≡ 0
      → IsFresh (frame_due set) set root.frame
      → Tallied set
      (goes set r t (recorded r.past (actor_on r t) root.actions)
      (root_begun r.world t i.thread root)).run
  begins_tally i root silent fresh =
      let after : Thread = with_root i.thread root in
      let now : World = with_thread r.world t root.shared after in
      let row : List Tag = tags_on r t in
      let here : frames_on r.world t ≡ [] = frames_there r.world t i.thread i.found ∙ i.idle in
      let matched : Matched tally.given [] row =
      subst (λ (frames : List Frame). Matched tally.given frames row) here (tally.matched t) in
      let later : List Entry = recorded r.past (actor_on r t) root.actions in
      let acting : IsKnown tally.given (top_tag row) = idle_known tally.given row matched in
      let follows : Follows (frame_due set) set tally.given later r.activations
      i.thread.frames.items row (top_tag row) 0 (root.frame ∷ []) =
      follows_as set tally.given later r.activations 0 [] i.thread.frames.items row row
      (top_tag row) (top_tag row)
      (root.frame ∷ []) (root.frame ∷ []) (sym i.idle) refl refl refl
      (follows_idle (frame_due set) set tally.given later r.activations row (top_tag row)
      (root.frame ∷ []) matched (fresh, tt))
      in
      rw (
        frames_there r.world t i.thread i.found,
        frames_put r.world t root.shared after i.thread i.found,
      )
      (turned (frame_due set) set r.world now r.tags r.activations r.past (actor_on r t)
      root.actions i.thread after tally i.found refl acting
      (subst (λ (n : ℕ). Follows (frame_due set) set tally.given later r.activations
      i.thread.frames.items row (top_tag row) n (root.frame ∷ [])) (sym silent) follows))

  nothing_tally : Tallied set (goes set r t r.past (unchanged r.world Idle)).run
  nothing_tally =
      let row : tags_after set r.past r.activations (frames_on r.world t) (tags_on r t)
      (frames_on r.world t)
      ≡ tags_on r t =
      tags_same set tally.given r.past r.activations (frames_on r.world t) (tags_on r t)
      (tally.matched t) in
      let tags : slice_set r.tags t
      (tags_after set r.past r.activations (frames_on r.world t) (tags_on r t)
      (frames_on r.world t)) ≡ r.tags =
      ap (λ (new : List Tag). slice_set r.tags t new) row ∙ set-get_or r.tags t [] in
      rw (tags, count_same r.activations (frames_on r.world t)) tally

  root_fresh : {issued : ℕ} {level : Irql} {f : Frame} → RootFrame set states issued level f
      → IsFresh (frame_due set) set f
  root_fresh (root_enters a sort first root enters) = enters.due
  root_fresh (root_cancels n low) = tt

  pub tally_kept : (c : Change) → Happens set r.world t c
      → Tallied set (goes set r t (past_with r t c) c).run
  tally_kept c (nothing reply right) = nothing_tally
  tally_kept c (steps h) = steps_tally h
  tally_kept c (begins i root beside) =
      begins_tally i root
      (root_told set r.world.shared (λ actions. executed_in actions ≡ 0) refl (λ n stack. refl) root
      beside)
      (root_fresh (root_there set states r.world r.past good stands root beside))

-- where a DPC is queued
pub tally_queued : (set : Set) (r : Run) (d : ℕ) → Tallied set r
    → Tallied set (record r { world = with_queued r.world d true })
tally_queued set r d tally =
    record {
      given = tally.given;
      rows = tally.rows;
      numbered = tally.numbered;
      matched = tally.matched;
      owing = tally.owing;
      known = tally.known;
    }

-- the law, in its own words
known_all : (given : List Tag) (past : List Entry) (P : Tag → Type 0)
    → ((tag : Tag) → IsKnown given tag → P tag)
    → AllKnown given past → All (λ (e : Entry). P e.actor.tag) past
known_all given [] P each h k d within = absurd (omega arith)
known_all given (e ∷ past) P each h zero d within = each e.actor.tag h.0
known_all given (e ∷ past) P each h (suc k) d within =
    known_all given past P each h.1 k d (omega arith)

module _ (set : Set) (r : Run) (tally : Tallied set r) where
  one_tag : (tag : Tag) → IsKnown tally.given tag → IsOneRoutine r.past tag
  one_tag tag known =
      known_all tally.given r.past (λ other. AreOneRoutine tag other)
      (λ other also. one_of_known (frame_due set) set r.activations tally.given tag other
      tally.numbered known also)
      tally.known

  tag_kept : (tag : Tag) → IsKnown tally.given tag → KeepsCertificate set r.past tag
  tag_kept tag known =
      known_kept (frame_due set) set r.world r.tags r.activations r.past tag tally known

  pub all_kept : All (λ (e : Entry). KeepsCertificate set r.past e.actor.tag) r.past
  all_kept = known_all tally.given r.past (λ tag. KeepsCertificate set r.past tag) tag_kept
      tally.known

  pub all_one : All (λ (e : Entry). IsOneRoutine r.past e.actor.tag) r.past
  all_one = known_all tally.given r.past (λ tag. IsOneRoutine r.past tag) one_tag tally.known

  pub stands_within : (t k : ℕ) (a : Activation) → slice_get (frames_on r.world t) k
      ≡ Some (Routine a)
      → StandsWithin set r t k a
  stands_within t k a found =
      let of_frame : Named tally.given (tags_on r t) k a =
      named tally.given (frames_on r.world t) (tags_on r t) k a (tally.matched t) found in
      let tag : Tag = Activated of_frame.number a.driver a.routine of_frame.serving in
      record {
        number = of_frame.number;
        serving = of_frame.serving;
        tag = of_frame.there;
        one = one_tag tag of_frame.among;
        kept = tag_kept tag of_frame.among;
      }
