-- Every event keeps that the dispatch routines serve their uses, and that what they return is as
-- agreed on.
use Rattle.laws_runs.proofs.Common.{ap, arith, inl, inr, refl, subst, sym, ◌-◌, ◌∙◌, cases_eq, eq-eqb, ne_eqb, append_assoc, get_or-set_other, get_or-set_same, length-replicate, length-set, set-get_or, slice_get_within, list_any, Bool, List, None, Option, Some, [], false, length, nat_eq, slice_get, slice_index_or, slice_set, suc, ℕ, ◌++◌, ◌+◌, ◌<◌, ◌∷◌, ◌≡◌, ◌≢◌, ◌≤◌, Issues, Outcome, told_to, top_of, Change, dpc_activation, serves_request, standing, unchanged, with_stack, with_thread, first_fault, is_hold, was_marked, begun, frames_on, new_tag, tags_after, top_tag, Set, Activated, Actor, Entry, Managing, Serving, Tag, current_use, recorded, uses, uses_opened, Shared, World, current_location, idle_thread, is_marked, Idle, Dpc, StartIo, Status, Activation, Frame, Routine, Walk, Packet, Thread, States, all_walking, frame_rights, stack_sum, startio_enters, begins_dpc, begins_request, startio_activation, StepLeaves, leaves_fine, Replaces, Stacked, Stands, on_top, stands_there, last_same, last_under, told_is, told_last, StopsBelow, stood}
use Rattle.std.proofs.lemmas.List.{append-nil}
use Rattle.laws_runs.proofs.Certificates.Kept.{top_is}
use Rattle.laws_runs.proofs.Certificates.Tally.{no_row, no_tags}
use Rattle.laws_runs.proofs.Holders.Apart.{IsApart, apart_below, apart_other, not_yet}
use Rattle.laws_runs.proofs.Holders.Counts.{Holding, walk_held}
use Rattle.laws_runs.proofs.Holders.Runs.{frame_told_rights, top_holding}
use Rattle.laws_runs.proofs.Holders.Sums.{stack_append}
use Rattle.laws_runs.proofs.Live.Sees.{deferred_sort}
use Rattle.laws_runs.proofs.Past.LivePackets.{find}
use Rattle.laws_runs.proofs.Pending.FramesServe.{Turned, frame_turned, same_over}
use Rattle.laws_runs.proofs.Pending.Returned.{AllAgree, agree_begun, agree_kept, is_return}
use Rattle.laws_runs.proofs.Pending.Serving.{AllServe, Current, FrameServes, KeepsAgreed, all_kept, served}
use Rattle.laws_runs.proofs.Pending.Threads.{Tagged, TopServes, walk_below_serves, all_on, all_told, row_same, tagged_all, tags_kept, top_serves}
use Rattle.laws_runs.proofs.Pending.TopDispatch.{begins_serving}
use Rattle.laws_runs.proofs.Pending.UsesServed.{BeginsServing, Settles, begun_serves, new_serving}
use Rattle.laws_runs.proofs.Runs.Events.{Happens, StepsFrame, nothing, steps, begins}
use Rattle.laws_runs.proofs.Runs.Roots.{Root, root_told, Beside, IdleThread, issues, root_begun, takes_dpc, takes_first, takes_nothing, with_root}
use Rattle.laws_runs.proofs.Runs.Kept.{with_queued}
use Rattle.laws_runs.proofs.Runs.Threads.{frames_put, frames_there, idle_frames, others_put, thread_put}
use Rattle.laws_runs.proofs.Uses.CurrentUses.{Others, agreed_finished, agreed_marked, current_others, linked_agrees, linked_waits}
use Rattle.laws_runs.proofs.Uses.Events.{KnownWorld, agreed_by, all_carried, event_turns, known_top, linked_by}
use Rattle.laws_runs.proofs.Uses.Fates.{MarksTell, PacketUses, UsesTell}
use Rattle.laws_runs.proofs.Holders.Walking.{walking_under}
use Rattle.laws_runs.proofs.Uses.LateMarks.{no_late_walk}
use Rattle.laws_runs.proofs.Uses.Traced.{SameUses, same_recorded, same_uses}

-- the frames of all threads, with their tags, serve, and every status that was returned is as
-- agreed on
pub record Attends (set : Set) (states : States) (w : World) (past : List Entry)
    (tags : List (List Tag)) : Type 0 where
  pub rows : length tags ≡ length w.threads
  pub serves_all : (t : ℕ) → AllServe set states w past None (frames_on w t)
      (slice_index_or tags t [])
  pub agree : AllAgree states w past

-- a current location is marked as the trace says of its use, and the location above it of the use
-- above
located : (w : World) (past : List Entry) (n : ℕ) (p : Packet) (u : ℕ) → UsesTell w past
    → find w.shared.packets n ≡ Some p → current_use past n ≡ Some u
    → is_marked (current_location p) ≡ was_marked past (record { packet = n; «use» = u })
located w past n p u told there current =
    let others : Others past n u = current_others past n u current in
    let used : PacketUses past n p = told.live n p there in
    let marks : MarksTell past n (u ∷ others.0) p.locations.items =
    subst (λ (all : List ℕ). MarksTell past n all p.locations.items) others.1 used.marks in
    let long : length (uses past n) ≡ suc (length others.0) = ap length others.1 in
    let deep : length (uses past n) ≡ p.depth = used.deep in
    let place : p.depth - 1 ≡ length others.0 = omega arith in
    ap (λ (k : ℕ). is_marked (slice_get p.locations.items k)) place ∙ marks.0

located_above : (w : World) (past : List Entry) (n x u : ℕ) (upper : List ℕ) (p : Packet)
    → UsesTell w past
    → find w.shared.packets n ≡ Some p → uses past n ≡ x ∷ u ∷ upper
    → is_marked (slice_get p.locations.items (length upper)) ≡ was_marked past
    (record { packet = n; «use» = u })
located_above w past n x u upper p told there used =
    let marks : MarksTell past n (x ∷ u ∷ upper) p.locations.items =
    subst (λ (all : List ℕ). MarksTell past n all p.locations.items) used
    (told.live n p there).marks in
    marks.1.0

-- what an event does to uses, from what packets tell before it and after it
settles_of : (states : States) (w later_w : World) (past later : List Entry)
    → KeepsAgreed states w past later_w later → UsesTell w past → UsesTell later_w later
    → Settles states w past later_w later
settles_of states w later_w past later keeps told told_later =
    record {
      keeps = keeps;
      marked = λ v p there current marked.
          agreed_marked states later_w later v.packet p v.«use» told_later there current
          (located later_w later v.packet p v.«use» told_later there current ∙ marked);
      finished = λ v p there current unmarked done late.
          agreed_finished states later_w later v.packet p v.«use» told_later there current
          (located later_w later v.packet p v.«use» told_later there current ∙ unmarked) done late;
      called = λ n u x upper p there used unmarked.
          linked_waits states later_w later n u x upper p there used
          (located_above later_w later n x u upper p told_later there used ∙ unmarked);
      follows = λ v lower b linked agreed. linked_agrees states later_w later v lower b told_later
          linked agreed;
      unmarked = λ v l. told.traced.never_marked v l;
    }

-- the frame below the one that steps
stands_last : (set : Set) (states : States) (number : ℕ) (under : Option Frame) (below : List Frame)
    (f g : Frame)
    → Stacked set states number (below ++ f ∷ []) → last_under under below ≡ Some g → under ≡ None
    → Stands set states number (Some f) g
stands_last set states number under [] f g h is none = let no : None ≡ Some g = sym none ∙ is in cc
stands_last set states number under (e ∷ []) f g h is none =
    let same : e ≡ g = cc in subst (λ (x : Frame). Stands set states number (Some f) x) same h.0
stands_last set states number under (e ∷ c ∷ below) f g h is none =
    stands_last set states number None (c ∷ below) f g h.1 (over is) refl
  where
    over : last_under (Some c) below ≡ Some g → last_under None (c ∷ below) ≡ Some g
    over there = there

module _ (set : Set) (states : States) (w : World) (past : List Entry) (tags : List (List Tag))
    (number : ℕ)
    (actor : Actor) (known : KnownWorld set states w past)
    (attends : Attends set states w past tags) where
  abbrev row : List Tag
  row = slice_index_or tags actor.thread []

  -- other frames on the thread
  attend_put : (later : List Entry) (s : Shared) (thread after : Thread) (new : List Tag)
      → slice_get w.threads actor.thread ≡ Some thread
      → KeepsAgreed states w past (with_thread w actor.thread s after) later
      → AllServe set states (with_thread w actor.thread s after) later None after.frames.items new
      → ((k : ℕ) → actor.thread ≢ k → (n : ℕ)
      → 1 ≤ stack_sum (λ g. frame_rights states g n) (frames_on w k)
      → SameUses past later n) → AllAgree states (with_thread w actor.thread s after) later
      → Attends set states (with_thread w actor.thread s after) later
      (slice_set tags actor.thread new)
  attend_put later s thread after new found keeps serve others agree =
      let t : ℕ = actor.thread in
      let now : World = with_thread w t s after in
      let long : length tags ≡ length w.threads = attends.rows in
      let inside : t < length w.threads = slice_get_within w.threads t thread found in
      let within : t < length tags = omega arith in
      record {
        rows = length-set tags t new ∙ attends.rows ∙ sym (length-set w.threads t after);
        serves_all = λ k. elim (cases_eq t k) [
          | inl same ↦
              subst (λ (j : ℕ). AllServe set states now later None (frames_on now j)
              (slice_index_or (slice_set tags t new) j [])) same
              (subst (λ (x : List Tag). AllServe set states now later None (frames_on now t) x)
              (sym (get_or-set_same tags t new [] within))
              (subst (λ (items : List Frame). AllServe set states now later None items new)
              (sym (frames_put w t s after thread found)) serve))
          | inr apart ↦
              subst (λ (x : List Tag). AllServe set states now later None (frames_on now k) x)
              (sym (get_or-set_other tags t k new [] (λ same. apart (sym same))))
              (subst (λ (items : List Frame). AllServe set states now later None items
              (slice_index_or tags k []))
              (sym (others_put w t s after k apart))
              (all_kept set states w now past later keeps None (frames_on w k)
              (slice_index_or tags k [])
              (others k apart) (attends.serves_all k)))
        ];
        agree = agree;
      }

  -- the tags of all threads after an event
  abbrev pub tags_by : Change → List (List Tag)
  tags_by c =
      slice_set tags actor.thread
      (tags_after set (recorded past actor c.actions) number (frames_on w actor.thread) row
      (frames_on c.world actor.thread))

  -- a step of the thread's top frame
  module _ (h : StepsFrame set w actor.thread) (acts : actor.tag ≡ top_tag row)
      (quiet : first_fault past actor h.outcome.actions ≡ None) where
    abbrev o : Outcome
    o = h.outcome

    abbrev later : List Entry
    later = recorded past actor o.actions

    abbrev after : Thread
    after = with_stack h.thread (standing set h.below o)

    abbrev later_w : World
    later_w = with_thread w actor.thread o.shared after

    module _ (known_later : KnownWorld set states later_w later)
        (settles : Settles states w past later_w later) where
      step_leaves : StepLeaves set states w.shared h.frame o
      step_leaves =
          leaves_fine set states w.shared past actor known.stands.tells (top_of h.below) h.frame o
          (on_top set states w past known.good known.stands actor.thread h) quiet h.comes

      stacked : Stacked set states w.shared.issued (h.below ++ h.frame ∷ [])
      stacked = stands_there set states w past known.good known.stands actor.thread h

      step_turned : FrameServes set states w past (last_under None h.below) None h.frame actor.tag
          → Turned set states w later_w past actor number (last_under None h.below) o h.frame
      step_turned serves =
          let under : Option Frame = last_under None h.below in
          frame_turned set states w later_w past actor number under o (top_of h.below) h.frame
          serves h.comes
          (record {
            known = known_top set states w past known actor.thread h;
            quiet = quiet;
            walked = λ m a is propagates on.
                let some : 1 ≤ all_walking set w.threads m =
                walking_under set w.threads actor.thread h.thread h.below a m h.found
                (h.frames ∙ ap (λ (f : Frame). h.below ++ f ∷ []) is) on
                (ap is_hold propagates) in
                omega (arith, known.kept.walks m);
            own = λ m is.
                walk_held set states w.shared past m
                (subst (λ (f : Frame). Holding set states w.shared past f) is
                (top_holding set states w past known.stands known.kept actor.thread h));
            shared = refl;
            settles = settles;
            agree = attends.agree;
            late = λ b n is returned.
                elim (stood set w.shared actor.thread h.below h.frame o h.comes) [
                  | inl on ↦
                      no_late_walk set states later_w actor.thread n after
                      (told_to set h.below o.told ++ Routine b ∷ []) returned
                      known_later.kept (all_carried set states later_w later known_later)
                      (thread_put w actor.thread o.shared after h.thread h.found)
                      (on ∙ ap (λ (frames : List Frame). told_to set h.below o.told ++ frames) is
                      ∙ sym (append_assoc (told_to set h.below o.told) (Routine b ∷ [])
                      (Walk n ∷ [])))
                  | inr stops ↦ let no : [] ≡ Routine b ∷ Walk n ∷ [] = sym stops.frames ∙ is in cc
                ];
          })

      -- the frames of the thread, with their tags
      thread_serves : (below_tags : List Tag) → Tagged h.below below_tags
          → AllServe set states w past None (h.below ++ h.frame ∷ []) (below_tags ++ actor.tag ∷ [])
          → Turned set states w later_w past actor number (last_under None h.below) o h.frame
          → AllServe set states later_w later None (told_last set o.told h.below ++ o.frames)
          (below_tags ++ tags_after set later number (h.frame ∷ []) (actor.tag ∷ []) o.frames)
      thread_serves below_tags tagged serves turn =
          let new : List Tag = tags_after set later number (h.frame ∷ []) (actor.tag ∷ []) o.frames
          in
          let same : (n : ℕ) → 1 ≤ stack_sum (λ g. frame_rights states g n) h.below
          → SameUses past later n =
          λ n some.
          (let apart : IsApart states w.shared h.frame n =
          apart_below set states w past known.stands known.kept actor.thread h n some in
          turn.spares n apart.some apart.right) in
          elim turn.goes [
            | inl on ↦
                subst (λ (told : Option Status). AllServe set states later_w later None
                (told_last set told h.below ++ o.frames) (below_tags ++ new)) (sym on.0)
                (subst (λ (frames : List Frame). AllServe set states later_w later None
                (frames ++ o.frames)
                (below_tags ++ new)) (sym (last_same set h.below))
                (all_on set states w later_w past later settles.keeps None h.below below_tags
                h.frame actor.tag o.frames
                new same tagged serves on.1 turn.serve))
            | inr told ↦
                subst (λ (frames : List Frame). AllServe set states later_w later None
                (told_last set o.told h.below ++ frames)
                (below_tags ++ tags_after set later number (h.frame ∷ []) (actor.tag ∷ []) frames))
                (sym told.2)
                (subst (λ (x : Option Status). AllServe set states later_w later None
                (told_last set x h.below ++ [])
                (below_tags ++ [])) (sym told.1)
                (subst (λ (frames : List Frame). AllServe set states later_w later None frames
                (below_tags ++ []))
                (sym (append-nil (told_last set (Some told.0) h.below)))
                (subst (λ (ts : List Tag). AllServe set states later_w later None
                (told_last set (Some told.0) h.below) ts) (sym (append-nil below_tags))
                (all_told set states w later_w past later settles.keeps None h.below below_tags
                h.frame actor.tag told.0
                settles.follows same tagged
                (λ g is n.
                let replaces : Replaces set states w.shared.issued h.frame (Some told.0) [] =
                subst (λ (x : Option Status). Replaces set states w.shared.issued h.frame x [])
                told.1
                (subst (λ (x : List Frame). Replaces set states w.shared.issued h.frame o.told x)
                told.2
                step_leaves.stands) in
                frame_told_rights set states w.shared.issued n (Some told.0) g
                (replaces g (stands_last set states w.shared.issued None h.below h.frame g stacked
                is refl)))
                serves told.3))))
          ]

      -- those below the I/O manager's frame, where the completion is stopped
      stopped_serves : (stops : StopsBelow set w.shared h.below h.frame o) (below_tags : List Tag)
          → Tagged h.below below_tags
          → AllServe set states w past None (h.below ++ h.frame ∷ []) (below_tags ++ actor.tag ∷ [])
          → Turned set states w later_w past actor number (last_under None h.below) o h.frame
          → AllServe set states later_w later None stops.others
          (tags_after set later number (h.below ++ h.frame ∷ []) (below_tags ++ actor.tag ∷ [])
          stops.others)
      stopped_serves stops below_tags tagged serves turn =
          let walk : Frame = Walk stops.n in
          let under : AllServe set states w past None (stops.others ++ walk ∷ []) below_tags =
          walk_below_serves set states w past None stops.others stops.n h.frame below_tags actor.tag
          (subst (λ (frames : List Frame). Tagged frames below_tags) stops.below_is tagged)
          (subst (λ (frames : List Frame). AllServe set states w past None (frames ++ h.frame ∷ [])
          (below_tags ++ actor.tag ∷ [])) stops.below_is serves) in
          let top : TopServes set states w past None stops.others walk below_tags =
          top_serves set states w past None stops.others walk below_tags under in
          let managing : top.tag ≡ Managing = top.top in
          let same : (n : ℕ) → 1 ≤ stack_sum (λ g. frame_rights states g n) stops.others
          → SameUses past later n =
          λ n some.
          (let parts : stack_sum (λ g. frame_rights states g n) h.below
          ≡ stack_sum (λ g. frame_rights states g n) stops.others
          + stack_sum (λ g. frame_rights states g n) (walk ∷ []) =
          ap (stack_sum (λ g. frame_rights states g n)) stops.below_is
          ∙ stack_append (λ g. frame_rights states g n) stops.others (walk ∷ []) in
          let apart : IsApart states w.shared h.frame n =
          apart_below set states w past known.stands known.kept actor.thread h n (omega arith) in
          turn.spares n apart.some apart.right) in
          let left : AllServe set states later_w later None (stops.others ++ []) (top.tags ++ []) =
          all_on set states w later_w past later settles.keeps None stops.others top.tags walk
          top.tag
          [] [] same top.tagged
          (subst (λ (ts : List Tag). AllServe set states w past None (stops.others ++ walk ∷ []) ts)
          top.is under)
          (same_over (last_under None stops.others) (served top.tag) None (ap served managing)) tt
          in
          let kept : tags_after set later number (h.below ++ h.frame ∷ [])
          (below_tags ++ actor.tag ∷ []) stops.others ≡ top.tags ++ [] =
          ap (λ (frames : List Frame). tags_after set later number (frames ++ h.frame ∷ [])
          (below_tags ++ actor.tag ∷ []) stops.others) stops.below_is
          ∙ ap (λ (frames : List Frame). tags_after set later number frames
          (below_tags ++ actor.tag ∷ []) stops.others)
          (append_assoc stops.others (walk ∷ []) (h.frame ∷ []))
          ∙ ap (λ (ts : List Tag). tags_after set later number (stops.others ++ walk ∷ h.frame ∷ [])
          ts stops.others)
          (ap (λ (ts : List Tag). ts ++ actor.tag ∷ []) top.is
          ∙ append_assoc top.tags (top.tag ∷ []) (actor.tag ∷ []))
          ∙ ap (λ (frames : List Frame). tags_after set later number
          (stops.others ++ walk ∷ h.frame ∷ []) (top.tags ++ top.tag ∷ actor.tag ∷ []) frames)
          (sym (append-nil (told_last set None stops.others) ∙ last_same set stops.others))
          ∙ tags_kept set later number None stops.others (walk ∷ h.frame ∷ []) [] top.tags
          (top.tag ∷ actor.tag ∷ []) top.tagged in
          subst (λ (ts : List Tag). AllServe set states later_w later None stops.others ts)
          (sym kept)
          (subst (λ (frames : List Frame). AllServe set states later_w later None frames
          (top.tags ++ [])) (append-nil stops.others) left)

      -- and those that stand after the step, whatever it is
      stood_serves : (below_tags : List Tag) → Tagged h.below below_tags
          → AllServe set states w past None (h.below ++ h.frame ∷ []) (below_tags ++ actor.tag ∷ [])
          → Turned set states w later_w past actor number (last_under None h.below) o h.frame
          → AllServe set states later_w later None (standing set h.below o)
          (tags_after set later number (h.below ++ h.frame ∷ []) (below_tags ++ actor.tag ∷ [])
          (standing set h.below o))
      stood_serves below_tags tagged serves turn =
          elim (stood set w.shared actor.thread h.below h.frame o h.comes) [
            | inl on ↦
                let told : standing set h.below o ≡ told_last set o.told h.below ++ o.frames =
                on ∙ ap (λ (frames : List Frame). frames ++ o.frames) (told_is set h.below o.told)
                in
                let kept : tags_after set later number (h.below ++ h.frame ∷ [])
                (below_tags ++ actor.tag ∷ []) (told_last set o.told h.below ++ o.frames)
                ≡ below_tags ++ tags_after set later number (h.frame ∷ []) (actor.tag ∷ [])
                o.frames =
                tags_kept set later number o.told h.below (h.frame ∷ []) o.frames below_tags
                (actor.tag ∷ []) tagged in
                subst (λ (frames : List Frame). AllServe set states later_w later None frames
                (tags_after set later number (h.below ++ h.frame ∷ [])
                (below_tags ++ actor.tag ∷ [])
                frames)) (sym told)
                (subst (λ (ts : List Tag). AllServe set states later_w later None
                (told_last set o.told h.below ++ o.frames) ts) (sym kept)
                (thread_serves below_tags tagged serves turn))
            | inr stops ↦
                subst (λ (frames : List Frame). AllServe set states later_w later None frames
                (tags_after set later number (h.below ++ h.frame ∷ [])
                (below_tags ++ actor.tag ∷ [])
                frames)) (sym stops.stands)
                (stopped_serves stops below_tags tagged serves turn)
          ]

      step_attends : Attends set states later_w later
          (slice_set tags actor.thread
          (tags_after set later number (frames_on w actor.thread) row
          (frames_on later_w actor.thread)))
      step_attends =
          let items : frames_on w actor.thread ≡ h.below ++ h.frame ∷ [] =
          frames_there w actor.thread h.thread h.found ∙ h.frames in
          let top : TopServes set states w past None h.below h.frame row =
          top_serves set states w past None h.below h.frame row
          (subst (λ (all : List Frame). AllServe set states w past None all row) items
          (attends.serves_all actor.thread)) in
          let tag_is : actor.tag ≡ top.tag = acts ∙ top_is row top.tags top.tag top.is in
          let row_is : row ≡ top.tags ++ actor.tag ∷ [] =
          top.is ∙ ap (λ (tag : Tag). top.tags ++ tag ∷ []) (sym tag_is) in
          let turn : Turned set states w later_w past actor number (last_under None h.below) o
          h.frame =
          step_turned (subst
          (λ (tag : Tag). FrameServes set states w past (last_under None h.below) None h.frame
          tag)
          (sym tag_is) top.top) in
          let now : frames_on later_w actor.thread ≡ standing set h.below o =
          frames_put w actor.thread o.shared after h.thread h.found in
          let kept : tags_after set later number (frames_on w actor.thread) row
          (frames_on later_w actor.thread)
          ≡ tags_after set later number (h.below ++ h.frame ∷ []) (top.tags ++ actor.tag ∷ [])
          (standing set h.below o) =
          ap (λ (all : List Frame). tags_after set later number all row
          (frames_on later_w actor.thread)) items
          ∙ ap (λ (ts : List Tag). tags_after set later number (h.below ++ h.frame ∷ []) ts
          (frames_on later_w actor.thread)) row_is
          ∙ ap (λ (all : List Frame). tags_after set later number (h.below ++ h.frame ∷ [])
          (top.tags ++ actor.tag ∷ []) all) now in
          let serves : AllServe set states w past None (h.below ++ h.frame ∷ [])
          (top.tags ++ actor.tag ∷ []) =
          subst (λ (ts : List Tag). AllServe set states w past None (h.below ++ h.frame ∷ []) ts)
          row_is
          (subst (λ (all : List Frame). AllServe set states w past None all row) items
          (attends.serves_all actor.thread)) in
          attend_put later o.shared h.thread after
          (tags_after set later number (frames_on w actor.thread) row
          (frames_on later_w actor.thread)) h.found
          settles.keeps
          (subst (λ (ts : List Tag). AllServe set states later_w later None (standing set h.below o)
          ts) (sym kept)
          (stood_serves top.tags top.tagged serves turn))
          (λ k apart n some.
          let other : IsApart states w.shared h.frame n =
          apart_other set states w past known.stands known.kept actor.thread h n k apart some in
          turn.spares n other.some other.right)
          turn.agree

  -- a packet is issued: the routine that is entered serves its first use
  issued_use : (n stack : ℕ) → current_use (recorded past actor (Issues n stack ∷ [])) n
      ≡ Some (uses_opened past)
  issued_use n stack = rw (eq-eqb n n refl) refl

  -- a root that begins serves the use of a packet that is new, or none
  root_serves : (i : IdleThread w actor.thread) (root : Root) → Beside set w.shared root
      → Settles states w past (root_begun w actor.thread i.thread root).world
      (recorded past actor root.actions)
      → FrameServes set states (root_begun w actor.thread i.thread root).world
      (recorded past actor root.actions) None None root.frame
      (new_tag set (recorded past actor root.actions) number root.frame)
  root_serves i root (issues h) settles =
      let n : ℕ = w.shared.issued in
      let a : Activation = serves_request set h.d h.device h.major n in
      let later_w : World = (root_begun w actor.thread i.thread root).world in
      let later : List Entry = recorded past actor root.actions in
      let beginning : BeginsServing set states a n =
      begins_serving set states (n + 1) a n
      (begins_request set states known.good (n + 1) n (omega arith) h.d h.device h.major h.there) in
      let v : Serving = record { packet = n; «use» = uses_opened past } in
      let current : Current later v false =
      (issued_use n h.device.stack, settles.unmarked v (omega arith)) in
      let tagged : new_tag set later number (Routine a)
      ≡ Activated number a.driver a.routine (Some v) =
      new_serving set states later number a n v beginning refl current.0 in
      subst (λ (tag : Tag). FrameServes set states later_w later None None (Routine a) tag)
      (sym tagged)
      ((refl, refl), inl (begun_serves set states later_w later v a n beginning refl current))
  root_serves i root (takes_dpc d routine there) settles = (
    (refl, refl),
    inr (deferred_sort set (dpc_activation set d routine) Dpc
        (begins_dpc set states known.good w.shared.issued d routine there).of_sort refl),
  )
  root_serves i root (takes_first h) settles = (
    (refl, refl),
    inr (deferred_sort set (startio_activation set h.d h.routine h.n) StartIo
        (startio_enters set states known.good w.shared known.stands.fits h).of_sort refl),
  )
  root_serves i root (takes_nothing n level p there) settles = refl

  root_spares : (root : Root) → Beside set w.shared root → (k m : ℕ)
      → 1 ≤ stack_sum (λ g. frame_rights states g m) (frames_on w k)
      → SameUses past (recorded past actor root.actions) m
  root_spares root (issues h) k m some =
      same_recorded past actor root.actions m
      (let other : nat_eq w.shared.issued m ≡ false =
      ne_eqb w.shared.issued m (not_yet set states w past known.stands known.kept k m some) in
      rw other refl)
  root_spares root _ k m some = same_uses past m

  root_attends : (i : IdleThread w actor.thread) (root : Root) → Beside set w.shared root
      → Settles states w past (root_begun w actor.thread i.thread root).world
      (recorded past actor root.actions)
      → Attends set states (root_begun w actor.thread i.thread root).world
      (recorded past actor root.actions) (tags_by (root_begun w actor.thread i.thread root))
  root_attends i root beside settles =
      let after : Thread = with_root i.thread root in
      let later_w : World = (root_begun w actor.thread i.thread root).world in
      let later : List Entry = recorded past actor root.actions in
      let before : frames_on w actor.thread ≡ [] =
      frames_there w actor.thread i.thread i.found ∙ i.idle in
      let now : frames_on later_w actor.thread ≡ root.frame ∷ [] =
      frames_put w actor.thread root.shared after i.thread i.found in
      subst (λ (all : List Frame). Attends set states later_w later
      (slice_set tags actor.thread
      (tags_after set later number all row (frames_on later_w actor.thread)))) (sym before)
      (subst (λ (all : List Frame). Attends set states later_w later
      (slice_set tags actor.thread (tags_after set later number [] row all))) (sym now)
      (attend_put later root.shared i.thread after (new_tag set later number root.frame ∷ [])
      i.found settles.keeps (root_serves i root beside settles, tt)
      (λ k apart m some. root_spares root beside k m some)
      (agree_kept states w later_w past actor root.actions settles.keeps
      (root_told set w.shared (λ actions. list_any is_return actions ≡ false) refl
      (λ n stack. refl) root beside) attends.agree)))

  -- where a DPC is queued or isn't
  pub attends_queued : (d : ℕ) (queued : Bool) → UsesTell w past
      → Attends set states (with_queued w d queued) past tags
  attends_queued d queued told =
      let now : World = with_queued w d queued in
      let keeps : KeepsAgreed states w past now past =
      record {
        agreed = agreed_by states w now past past told
            (event_turns set states w past known actor (unchanged w Idle) (nothing Idle refl) refl);
        linked = linked_by states w now past past told
            (event_turns set states w past known actor (unchanged w Idle) (nothing Idle refl) refl);
      } in
      record {
        rows = attends.rows;
        serves_all = λ t. all_kept set states w now past past keeps None (frames_on w t)
            (slice_index_or tags t []) (λ n some. same_uses past n) (attends.serves_all t);
        agree = agree_kept states w now past actor [] keeps refl attends.agree;
      }

  -- every event
  pub attend_event : (c : Change) → Happens set w actor.thread c → actor.tag ≡ top_tag row
      → first_fault past actor c.actions ≡ None
      → KnownWorld set states c.world (recorded past actor c.actions) → UsesTell w past
      → UsesTell c.world (recorded past actor c.actions)
      → Attends set states c.world (recorded past actor c.actions) (tags_by c)
  attend_event c happens acts quiet known_later told told_later =
      attends_by c happens quiet known_later
      (settles_of states w c.world past (recorded past actor c.actions)
      (record {
        agreed = agreed_by states w c.world past (recorded past actor c.actions) told
            (event_turns set states w past known actor c happens quiet);
        linked = linked_by states w c.world past (recorded past actor c.actions) told
            (event_turns set states w past known actor c happens quiet);
      }) told told_later)
    where
      attends_by : (c : Change) → Happens set w actor.thread c
          → first_fault past actor c.actions ≡ None
          → KnownWorld set states c.world (recorded past actor c.actions)
          → Settles states w past c.world (recorded past actor c.actions)
          → Attends set states c.world (recorded past actor c.actions) (tags_by c)
      attends_by c (nothing reply right) quiet known_later settles =
          let same : tags_after set past number (frames_on w actor.thread) row
          (frames_on w actor.thread) ≡ row =
          row_same set past number (frames_on w actor.thread) row
          (tagged_all set states w past None (frames_on w actor.thread) row
          (attends.serves_all actor.thread)) in
          subst (λ (ts : List Tag). Attends set states w past (slice_set tags actor.thread ts))
          (sym same)
          (subst (λ (ts : List (List Tag)). Attends set states w past ts)
          (sym (set-get_or tags actor.thread []))
          attends)
      attends_by c (steps h) quiet known_later settles =
          step_attends h acts quiet known_later settles
      attends_by c (begins i root beside) quiet known_later settles =
          root_attends i root beside settles

-- before the first event
pub attends_begun : (set : Set) (states : States) (threads : ℕ)
    → Attends set states (begun set threads).world (begun set threads).past (begun set threads).tags
attends_begun set states threads =
    record {
      rows = length-replicate threads no_tags ∙ sym (length-replicate threads idle_thread);
      serves_all = λ t. rw (idle_frames threads t, no_row threads t) tt;
      agree = agree_begun states (begun set threads).world;
    }
