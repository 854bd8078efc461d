-- The sums of names over threads after a step: those of the frame that ran go, and those of the
-- frames in place of it come.
use Rattle.laws_runs.proofs.Common.{ap, arith, inl, inr, refl, ◌-◌, ◌∙◌, Bool, List, None, Option, Some, [], if◌then◌else◌, slice_set, ℕ, ◌++◌, ◌+◌, ◌∷◌, ◌≡◌, Outcome, answered_in, operand_of, told_to, standing, with_stack, Set, instruction_at, Entry, World, Kind, Status, Activation, Frame, CancelFrame, Routine, Walk, Thread, States, stack_sum, thread_sum, StepLeaves, IsGood, Ready, state_of, Replaces, Stacked, Stands, Standing, stands_there, last_same, told_frame, told_is, told_last, stood}
use Rattle.laws_runs.proofs.Claims.Names.{OfQueues, queue_packets}
use Rattle.laws_runs.proofs.Claims.Sums.{frame_names}
use Rattle.laws_runs.proofs.Holders.Rights.{named_told}
use Rattle.laws_runs.proofs.Holders.Sums.{stack_append, thread_set}
use Rattle.laws_runs.proofs.Runs.Events.{StepsFrame}

module _ (set : Set) (states : States) (f : Kind → Bool) (queues : OfQueues f) (on : ℕ → Bool)
    (n : ℕ) where
  abbrev count : Frame → ℕ
  count g = frame_names states f on n g

  -- a frame that is told a status names the same packets
  answered_names : (issued : ℕ) (a : Activation) (status : Status) (r : Option ℕ)
      → Ready set states issued (answered_in a status r)
      → count (Routine (answered_in a status r)) ≡ count (Routine a)
  answered_names issued a status None h = refl
  answered_names issued a status (Some r) h =
      ap (λ (sum : ℕ). if on a.device then sum else 0)
      (named_told f (queue_packets f queues) issued (state_of states a).kinds a.registers r status n
      h.1.kinds)

  told_names : (issued : ℕ) (told : Option Status) (g : Frame)
      → Stands set states issued None (told_frame set told g)
      → count (told_frame set told g) ≡ count g
  told_names issued None (Routine a) h = refl
  told_names issued None (Walk m) h = refl
  told_names issued (Some status) (Walk m) h = refl
  told_names issued None (CancelFrame c) h = refl
  told_names issued (Some status) (CancelFrame c) h = refl
  told_names issued (Some status) (Routine a) h =
      answered_names issued a status
      (operand_of (instruction_at set a.driver a.routine (a.position - 1))) h

  last_names : (issued : ℕ) (below : List Frame) (g : Frame) (told : Option Status)
      → Stacked set states issued (below ++ g ∷ [])
      → Replaces set states issued g told []
      → stack_sum count (told_last set told below) ≡ stack_sum count below
  last_names issued [] g told h to = refl
  last_names issued (e ∷ []) g told h to =
      omega (arith, told_names issued told e (to e h.0))
  last_names issued (e ∷ x ∷ below) g told h to =
      ap (λ (sum : ℕ). count e + sum) (last_names issued (x ∷ below) g told h.1 to)

  last_after : (issued : ℕ) (below : List Frame) (g : Frame) (told : Option Status)
      (frames : List Frame)
      → Stacked set states issued (below ++ g ∷ []) → Replaces set states issued g told frames
      → stack_sum count (told_last set told below) ≡ stack_sum count below
  last_after issued below g told [] h to = last_names issued below g told h to
  last_after issued below g None (e ∷ frames) h to = ap (stack_sum count) (last_same set below)
  last_after issued below g (Some status) (e ∷ frames) h to =
      let no : Some status ≡ None = to.0 in cc

  pub changed : (w : World) (past : List Entry) → IsGood set states → Standing set states w past
      → (t : ℕ) (h : StepsFrame set w t) → StepLeaves set states w.shared h.frame h.outcome
      → thread_sum (frame_names states f on n)
      (slice_set w.threads t (with_stack h.thread (standing set h.below h.outcome)))
      + frame_names states f on n h.frame
      ≡ thread_sum (frame_names states f on n) w.threads
      + stack_sum (frame_names states f on n) h.outcome.frames
  changed w past good stands t h leaves =
      let o : Outcome = h.outcome in
      let after : Thread = with_stack h.thread (standing set h.below o) in
      let sums : thread_sum count (slice_set w.threads t after)
      + stack_sum count h.thread.frames.items
      ≡ thread_sum count w.threads + stack_sum count after.frames.items =
      thread_set count w.threads t h.thread after h.found in
      let old : stack_sum count h.thread.frames.items
      ≡ stack_sum count h.below + stack_sum count (h.frame ∷ []) =
      ap (stack_sum count) h.frames ∙ stack_append count h.below (h.frame ∷ []) in
      let new : stack_sum count (standing set h.below o)
      ≡ stack_sum count h.below + stack_sum count o.frames =
      elim (stood set w.shared t h.below h.frame o h.comes) [
        | inl is ↦
            let same : stack_sum count (told_to set h.below o.told)
            ≡ stack_sum count (told_last set o.told h.below) =
            ap (stack_sum count) (told_is set h.below o.told) in
            let stand : stack_sum count (standing set h.below o)
            ≡ stack_sum count (told_to set h.below o.told ++ o.frames) = ap (stack_sum count) is in
            omega (
              arith,
              last_after w.shared.issued h.below h.frame o.told o.frames (stands_there set states w past good stands t h) leaves.stands,
              stack_append count (told_to set h.below o.told) o.frames,
            )
        | inr stops ↦
            let stand : stack_sum count (standing set h.below o) ≡ stack_sum count stops.others =
            ap (stack_sum count) stops.stands in
            let under : stack_sum count h.below
            ≡ stack_sum count stops.others + stack_sum count (Walk stops.n ∷ []) =
            ap (stack_sum count) stops.below_is ∙ stack_append count stops.others
            (Walk stops.n ∷ []) in
            let none : stack_sum count o.frames ≡ 0 = ap (stack_sum count) stops.frames in
            let walk : stack_sum count (Walk stops.n ∷ []) ≡ 0 = refl in
            omega arith
      ] in
      omega arith
