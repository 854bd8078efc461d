-- Worlds of runs of an accepted set that a machine may not tell apart: a step of a thread leaves
-- such worlds, and is answered alike.
use Rattle.laws_runs.proofs.Common.{ap, refl, subst, sym, take, ◌-◌, ◌∙◌, List, None, Option, Some, [], length, slice_get, ℕ, ◌++◌, ◌<◌, ◌∷◌, ◌≡◌, Outcome, frame_effect, top_of, Change, finished_or, root_over, settled, standing, step_thread, top_effect, unchanged, with_stack, with_thread, Set, Entry, Shared, World, Reply, Idle, Refused, Frame, Irql, Thread, States, Each, before_last, each_before, last_of, IsGood, on_top, stands_there, comes}
use Rattle.laws_runs.proofs.Accepted.Keeps.{Keeps}
use Rattle.laws_runs.proofs.Alike.Frames.{AlikeFrames, AlikeFrame, IsLive}
use Rattle.laws_runs.proofs.Alike.Lives.{lives_before, touches_live}
use Rattle.laws_runs.proofs.Alike.Outcomes.{AlikeOutcome}
use Rattle.laws_runs.proofs.Alike.Routines.{AlikeUnder}
use Rattle.laws_runs.proofs.Alike.Stacks.{AlikeThread, AlikeThreads, AlikeAt, AlikeTops, alike_at, alike_put, threads_later, tops}
use Rattle.laws_runs.proofs.Alike.Steps.{frame_steps, stood_over}
use Rattle.laws_runs.proofs.Live.Kept.{last_is_top}
use Rattle.laws_runs.proofs.Live.Sees.{AllSeen, Seen, seen_top}
use Rattle.laws_runs.proofs.Past.Walks.{WalkIssued, under_issued}
use Rattle.laws_runs.proofs.Runs.Events.{StepsFrame, steps}
use Rattle.laws_runs.proofs.Runs.Threads.{frames_there}
use Rattle.laws_runs.proofs.States.Stacks.{walks_stand}

module _ (set : Set) (states : States) where
  pub record AlikeWorld (v w : World) : Type 0 where
    pub shared : v.shared ≡ w.shared
    pub threads : AlikeThreads set states w.shared v.threads w.threads

  pub record AlikeChange (b c : Change) : Type 0 where
    pub worlds : AlikeWorld b.world c.world
    pub reply : b.reply ≡ c.reply

  -- what goes by whether frames stand
  same_roots : (s : Shared) (above : Option Frame) (one other : Irql) (xs ys : List Frame)
      → one ≡ other → AlikeFrames set states s above xs ys → root_over one xs ≡ root_over other ys
  same_roots s above one other [] [] is h = refl
  same_roots s above one other (x ∷ xs) (y ∷ ys) is h = is
  same_roots s above one other _ _ is h = absurd h

  same_ends : (s : Shared) (above : Option Frame) (reply : Reply) (xs ys : List Frame)
      → AlikeFrames set states s above xs ys → finished_or xs reply ≡ finished_or ys reply
  same_ends s above reply [] [] h = refl
  same_ends s above reply (x ∷ xs) (y ∷ ys) h = refl
  same_ends s above reply _ _ h = absurd h

  -- a thread's top frame, and those below
  step_is : (w : World) (t : ℕ) (thread : Thread) (below : List Frame) (f : Frame)
      → thread.frames.items ≡ below ++ f ∷ []
      → step_thread set w t (Some thread)
      ≡ settled set w t thread below (frame_effect set w.shared t (top_of below) f)
  step_is w t thread below f is =
      ap (λ (frames : List Frame).
      top_effect set w t thread (take (length frames - 1) frames)
      (slice_get frames (length frames - 1))) is
      ∙ ap (λ (o : Option Frame).
      top_effect set w t thread (take (length (below ++ f ∷ []) - 1) (below ++ f ∷ [])) o)
      (last_of below f)
      ∙ ap (λ (frames : List Frame). top_effect set w t thread frames (Some f))
      (before_last below f)

  step_idle : (w : World) (t : ℕ) (thread : Thread) → thread.frames.items ≡ []
      → step_thread set w t (Some thread) ≡ unchanged w Idle
  step_idle w t thread is =
      ap (λ (frames : List Frame).
      top_effect set w t thread (take (length frames - 1) frames)
      (slice_get frames (length frames - 1))) is

  pub under_same : (s : Shared) (top : Frame) (xs ys : List Frame)
      → AlikeFrames set states s (Some top) xs ys
      → AlikeUnder set states s top (top_of xs) (top_of ys)
  under_same s top [] [] h = tt
  under_same s top (x ∷ xs) (y ∷ ys) h =
      let on : AlikeTops set states s (Some top) (x ∷ xs) (y ∷ ys) =
      tops set states s (Some top) x xs y ys h in
      let left : top_of (x ∷ xs) ≡ Some on.one = ap top_of on.left_is ∙ last_of on.left on.one in
      let right : top_of (y ∷ ys) ≡ Some on.other =
      ap top_of on.right_is ∙ last_of on.right on.other in
      subst (λ (o : Option Frame). AlikeUnder set states s top o (top_of (y ∷ ys))) (sym left)
      (subst (λ (o : Option Frame). AlikeUnder set states s top (Some on.one) o) (sym right) on.top)
  under_same s top _ _ h = absurd h

module _ (set : Set) (states : States) (threads : ℕ) (w : World) (past : List Entry)
    (good : IsGood set states) (keeps : Keeps set states threads w past) (others : List Thread)
    (alike : AlikeThreads set states w.shared others w.threads) where
  abbrev pub other_world : World
  other_world = record { threads = others; shared = w.shared }

  pub unchanged_alike : (reply : Reply)
      → AlikeChange set states (unchanged other_world reply) (unchanged w reply)
  unchanged_alike reply =
      record { worlds = record { shared = refl; threads = alike }; reply = refl }

  walks_low : (t : ℕ) (y : Thread) → slice_get w.threads t ≡ Some y
      → Each (WalkIssued w.shared.issued) y.frames.items
  walks_low t y found =
      walks_stand set states w.shared.issued y.frames.items
      (rw (frames_there w t y found) at (keeps.stands.frames t))

  pub threads_kept : (s : Shared)
      → ((n : ℕ) → n < w.shared.issued → IsLive s n → IsLive w.shared n)
      → AlikeThreads set states s others w.threads
  threads_kept s before =
      threads_later set states w.shared s before others w.threads walks_low alike

  -- a thread stands in place of one
  pub put_alike : (s : Shared) (t : ℕ) (x y : Thread)
      → ((n : ℕ) → n < w.shared.issued → IsLive s n → IsLive w.shared n)
      → AlikeThread set states s x y
      → AlikeWorld set states (with_thread other_world t s x) (with_thread w t s y)
  put_alike s t x y before new =
      record {
        shared = refl;
        threads = alike_put set states s others w.threads t x y (threads_kept s before) new;
      }

  module _ (t : ℕ) (x y : Thread) (found : slice_get w.threads t ≡ Some y)
      (like : AlikeThread set states w.shared x y) where
    top_steps : (l r : List Frame) (g f : Frame) → x.frames.items ≡ l ++ g ∷ []
        → y.frames.items ≡ r ++ f ∷ [] → AlikeFrames set states w.shared (Some f) l r
        → AlikeFrame set states w.shared None g f
        → AlikeChange set states
        (settled set other_world t x l (frame_effect set w.shared t (top_of l) g))
        (settled set w t y r (frame_effect set w.shared t (top_of r) f))
    top_steps l r g f left right below top =
        let s : Shared = w.shared in
        let p : Outcome = frame_effect set s t (top_of l) g in
        let o : Outcome = frame_effect set s t (top_of r) f in
        let h : StepsFrame set w t = record {
          thread = y;
          below = r;
          frame = f;
          outcome = o;
          found = found;
          frames = right;
          comes = comes set s t (top_of r) f;
        } in
        let low : Each (WalkIssued s.issued) r =
        each_before (WalkIssued s.issued) r (f ∷ [])
        (walks_stand set states s.issued (r ++ f ∷ [])
        (stands_there set states w past good keeps.stands t h)) in
        let same : AlikeOutcome set states p o =
        frame_steps set states s t (top_of l) (top_of r) g f
        (on_top set states w past good keeps.stands t h) top
        (under_same set states s f l r below)
        (under_issued s.issued r low)
        (touches_live set states threads w past good keeps t h) in
        let before : (n : ℕ) → n < s.issued → IsLive o.shared n → IsLive s n =
        lives_before set states threads w past good keeps t (settled set w t y r o) (steps h) in
        let seen : AllSeen set states None (r ++ f ∷ []) =
        subst (λ (frames : List Frame). AllSeen set states None frames)
        (frames_there w t y found ∙ right) (keeps.sees t) in
        let sees : Seen set states (top_of r) f =
        subst (λ (under : Option Frame). Seen set states under f) (last_is_top r)
        (seen_top set states None r (f ∷ []) seen).0 in
        let stood : AlikeFrames set states o.shared None (standing set l p) (standing set r o) =
        stood_over set states s t f p o same before l r below h.comes
        (λ e is. subst (λ (under : Option Frame). Seen set states under f) is sees) low in
        let shared : p.shared ≡ o.shared = ap (λ (q : Outcome). q.shared) same.others in
        let worlds : AlikeWorld set states
        (with_thread other_world t o.shared (with_stack x (standing set l p)))
        (with_thread w t o.shared (with_stack y (standing set r o))) =
        put_alike o.shared t (with_stack x (standing set l p)) (with_stack y (standing set r o))
        before
        (record {
          root = same_roots set states o.shared None x.root y.root (standing set l p)
              (standing set r o) like.root stood;
          frames = stood;
        }) in
        record {
          worlds = record { shared = shared; threads = worlds.threads };
          reply = ap (finished_or (standing set l p)) (ap (λ (q : Outcome). q.reply) same.others)
              ∙ same_ends set states o.shared None o.reply (standing set l p) (standing set r o)
              stood;
        }

    frames_step : (xs ys : List Frame) → x.frames.items ≡ xs → y.frames.items ≡ ys
        → AlikeFrames set states w.shared None xs ys
        → AlikeChange set states (step_thread set other_world t (Some x))
        (step_thread set w t (Some y))
    frames_step [] [] left right h =
        rw (step_idle set states other_world t x left, step_idle set states w t y right)
        (unchanged_alike Idle)
    frames_step (g ∷ xs) (f ∷ ys) left right h =
        let on : AlikeTops set states w.shared None (g ∷ xs) (f ∷ ys) =
        tops set states w.shared None g xs f ys h in
        rw (
          step_is set states other_world t x on.left on.one (left ∙ on.left_is),
          step_is set states w t y on.right on.other (right ∙ on.right_is),
        )
        (top_steps on.left on.right on.one on.other (left ∙ on.left_is) (right ∙ on.right_is)
        on.below on.top)
    frames_step _ _ left right h = absurd h

  thread_steps : (t : ℕ) (o p : Option Thread) → slice_get w.threads t ≡ p
      → AlikeAt set states w.shared o p
      → AlikeChange set states (step_thread set other_world t o) (step_thread set w t p)
  thread_steps t None None found h = unchanged_alike Refused
  thread_steps t (Some x) (Some y) found h =
      frames_step t x y found h x.frames.items y.frames.items refl refl h.frames
  thread_steps t _ _ found h = absurd h

  pub step_alike : (t : ℕ)
      → AlikeChange set states (step_thread set other_world t (slice_get others t))
      (step_thread set w t (slice_get w.threads t))
  step_alike t =
      thread_steps t (slice_get others t) (slice_get w.threads t) refl
      (alike_at set states w.shared others w.threads t alike)
