-- In every run of an accepted set a busy device has one token, and an idle one none.
use Rattle.laws_runs.proofs.Common.{ap, arith, inl, inr, refl, sym, ◌∙◌, cases_eq, Bool, List, Some, [], false, if◌then◌else◌, length, replicate, slice_get, slice_set, true, ℕ, ◌++◌, ◌+◌, ◌∷◌, ◌≡◌, ◌≢◌, Outcome, top_of, Change, settled, standing, with_stack, StartState, head_of, idle, without_first_to_start, without_head, begun, Set, Actor, Entry, World, start_of, StartIo, Activation, Frame, Routine, Walk, DispatchLevel, Thread, States, stack_sum, thread_sum, frame_tokens, start_tokens, tokens, set_other, set_same, startio_enters, Begins, begins_dpc, begins_request, startio_activation, IsGood, state_of, Standing, on_top, told_is, told_last, stood}
use Rattle.model.specs.Events.{rooted}
use Rattle.laws_runs.proofs.Holders.Runs.{idle_sum, top_changed}
use Rattle.laws_runs.proofs.Holders.Sums.{first_frame, last_sum, stack_append}
use Rattle.laws_runs.proofs.Lists.{each_at, each_same}
use Rattle.laws_runs.proofs.Runs.Events.{Happens, StepsFrame, begins, nothing, steps}
use Rattle.laws_runs.proofs.Runs.Roots.{Root, Beside, TakesFirst, IdleThread, issues, root_begun, startio_root, takes_dpc, takes_first, takes_nothing, with_root}
use Rattle.laws_runs.proofs.Runs.Kept.{with_queued}
use Rattle.laws_runs.proofs.Tokens.Steps.{EvenFor, TokenStep, begun_tokens, frame_told_tokens, other_tokens, own_tokens, token_step}
use Rattle.laws_runs.proofs.Tokens.Sums.{OneTokenEach, few_tokens}
use Rattle.std.proofs.lemmas.List.{append-nil}

-- StartIo begins for the first packet of a start list
without_first : (entries : List ℕ) (n : ℕ) → head_of entries ≡ Some n
    → length entries ≡ length (without_head entries) + 1
without_first [] n first = cc
without_first (m ∷ entries) n first = omega arith

module _ (set : Set) (states : States) (w : World) (past : List Entry) (good : IsGood set states)
    (stands : Standing set states w past) (each : OneTokenEach states w) where
  -- a frame without a token stands on an idle thread, and what the devices have is as before
  begun_each : (t : ℕ) (i : IdleThread w t) (root : Root)
      → root.shared.starts ≡ w.shared.starts
      → ((d : ℕ) → frame_tokens states d root.frame ≡ 0)
      → OneTokenEach states (root_begun w t i.thread root).world
  begun_each t i root starts none =
      record {
        one = λ d start there.
            omega (
              arith,
              each.one d start (had d start there),
              first_frame (λ g. frame_tokens states d g) w.threads t i.thread
                  (with_root i.thread root) root.frame i.found i.idle refl,
              none d,
            );
        idle = λ d start there free. each.idle d start (had d start there) free;
      }
    where
      had : (d : ℕ) (start : StartState) → start_of root.shared d ≡ Some start
          → start_of w.shared d ≡ Some start
      had d start there = ap (λ (lists : List StartState). slice_get lists d) (sym starts) ∙ there

  -- the StartIo routine of a device begins: the token goes from the start list to its frame
  startio_each : (t : ℕ) (i : IdleThread w t) (h : TakesFirst set w.shared)
      → OneTokenEach states
      (root_begun w t i.thread (startio_root set w.shared h.d h.routine h.n h.start)).world
  startio_each t i h =
      record {
        one = λ d start there. elim (cases_eq h.d d) [
          | inl same ↦ one_here d start there same
          | inr apart ↦ one_other d start there apart
        ];
        idle = λ d start there free. elim (cases_eq h.d d) [
          | inl same ↦ idle_here d start there same free
          | inr apart ↦ each.idle d start (had d start there apart) free
        ];
      }
    where
      a : Activation
      a = startio_activation set h.d h.routine h.n

      now : World
      now = (root_begun w t i.thread (startio_root set w.shared h.d h.routine h.n h.start)).world

      sum : (d : ℕ) → thread_sum (λ f. frame_tokens states d f) now.threads
          ≡ frame_tokens states d (Routine a) + thread_sum (λ f. frame_tokens states d f) w.threads
      sum d = first_frame (λ f. frame_tokens states d f) w.threads t i.thread
          (rooted i.thread DispatchLevel a) (Routine a) i.found i.idle refl

      had : (d : ℕ) (start : StartState) → start_of now.shared d ≡ Some start → h.d ≢ d
          → start_of w.shared d ≡ Some start
      had d start there apart =
          sym (set_other w.shared.starts h.d d (without_first_to_start h.start) apart) ∙ there

      is : (d : ℕ) (start : StartState) → start_of now.shared d ≡ Some start → h.d ≡ d
          → without_first_to_start h.start ≡ start
      is d start there same =
          let put : start_of now.shared d ≡ Some (without_first_to_start h.start) =
          rw (← same) (set_same w.shared.starts h.d h.start (without_first_to_start h.start)
          h.has) in
          let both : Some (without_first_to_start h.start) ≡ Some start = sym put ∙ there in
          cc

      one_other : (d : ℕ) (start : StartState) → start_of now.shared d ≡ Some start → h.d ≢ d
          → tokens states now.threads d start ≡ (if start.busy then 1 else 0)
      one_other d start there apart =
          omega (
            arith,
            each.one d start (had d start there apart),
            other_tokens states a d apart,
            sum d,
          )

      one_here : (d : ℕ) (start : StartState) → start_of now.shared d ≡ Some start → h.d ≡ d
          → tokens states now.threads d start ≡ (if start.busy then 1 else 0)
      one_here d start there same =
          let enters : Begins set states w.shared.issued a StartIo h.n =
          startio_enters set states good w.shared stands.fits h in
          let has : (state_of states a).token ≡ true =
          ap (λ state. state.token) enters.start in
          let own : frame_tokens states d (Routine a) ≡ 1 =
          own_tokens states a d same ∙ rw has refl in
          let before : tokens states w.threads d h.start ≡ (if h.start.busy then 1 else 0) =
          each.one d h.start (rw (← same) h.has) in
          rw (← is d start there same) (omega (
            arith,
            sum d,
            without_first h.start.start_list h.n h.first,
          ))

      idle_here : (d : ℕ) (start : StartState) → start_of now.shared d ≡ Some start → h.d ≡ d
          → start.busy ≡ false → start.device_queue ≡ []
      idle_here d start there same free =
          let same_start : without_first_to_start h.start ≡ start = is d start there same in
          rw (← same_start) (each.idle h.d h.start h.has
          (ap (λ (x : StartState). x.busy) same_start ∙ free))

  -- the frames that stay below the top one have as many tokens as those that stood there: one that
  -- is told a status has the same, and an I/O manager's frame that is taken away had none
  lower_tokens : (t : ℕ) (h : StepsFrame set w t) (d : ℕ)
      → (lower : List Frame) × (standing set h.below h.outcome ≡ lower ++ h.outcome.frames)
      × (stack_sum (λ f. frame_tokens states d f) lower
      ≡ stack_sum (λ f. frame_tokens states d f) h.below)
  lower_tokens t h d =
      elim (stood set w.shared t h.below h.frame h.outcome h.comes) [
        | inl kept ↦ (
          told_last set h.outcome.told h.below,
          kept ∙ ap (λ (below : List Frame). below ++ h.outcome.frames)
              (told_is set h.below h.outcome.told),
          last_sum set (λ f. frame_tokens states d f) h.outcome.told
              (frame_told_tokens set states d h.outcome.told) h.below,
        )
        | inr gone ↦ (
          gone.others,
          gone.stands ∙ sym (append-nil gone.others)
              ∙ ap (λ (frames : List Frame). gone.others ++ frames) (sym gone.frames),
          (let all : stack_sum (λ f. frame_tokens states d f) h.below
              ≡ stack_sum (λ f. frame_tokens states d f) gone.others
              + stack_sum (λ f. frame_tokens states d f) (Walk gone.n ∷ []) =
              ap (stack_sum (λ f. frame_tokens states d f)) gone.below_is
              ∙ stack_append (λ f. frame_tokens states d f) gone.others (Walk gone.n ∷ []) in
              let none : stack_sum (λ f. frame_tokens states d f) (Walk gone.n ∷ []) ≡ 0 = refl in
              omega arith),
        )
      ]

  -- the top frame of a thread steps
  stepped_each : (t : ℕ) (h : StepsFrame set w t)
      → OneTokenEach states (settled set w t h.thread h.below h.outcome).world
  stepped_each t h =
      record {
        one = λ d start there.
            let even : EvenFor states w.shared h.frame o.frames d start = step d start there in
            let sums : stack_sum (λ f. frame_tokens states d f) o.frames + start_tokens start
            + (if even.start.busy then 1 else 0)
            ≡ frame_tokens states d h.frame + start_tokens even.start
            + (if start.busy then 1 else 0) = even.even in
            omega (arith, each.one d even.start even.has, sum d);
        idle = λ d start there.
            (step d start there).idle
            (each.idle d (step d start there).start (step d start there).has);
      }
    where
      o : Outcome
      o = h.outcome

      after : Thread
      after = with_stack h.thread (standing set h.below h.outcome)

      step : TokenStep states w.shared h.frame h.outcome
      step =
          token_step set states w.shared t (top_of h.below) h.frame h.outcome
          (on_top set states w past good stands t h) (few_tokens set states w each t h) h.comes

      sum : (d : ℕ) → thread_sum (λ f. frame_tokens states d f)
          (slice_set w.threads t (with_stack h.thread (standing set h.below h.outcome)))
          + frame_tokens states d h.frame
          ≡ thread_sum (λ f. frame_tokens states d f) w.threads
          + stack_sum (λ f. frame_tokens states d f) h.outcome.frames
      sum d =
          top_changed (λ f. frame_tokens states d f) w.threads t h.thread
          (with_stack h.thread (standing set h.below h.outcome)) h.below
          (lower_tokens t h d).0 h.frame h.outcome.frames h.found h.frames
          (lower_tokens t h d).1 (lower_tokens t h d).2

  root_each : (t : ℕ) (i : IdleThread w t) (root : Root) → Beside set w.shared root
      → OneTokenEach states (root_begun w t i.thread root).world
  root_each t i root (issues h) =
      let n : ℕ = w.shared.issued in
      begun_each t i root refl
      (begun_tokens (begins_request set states good (n + 1) n (omega arith) h.d h.device h.major
      h.there)
      refl)
  root_each t i root (takes_dpc d routine there) =
      begun_each t i root refl
      (begun_tokens (begins_dpc set states good w.shared.issued d routine there) refl)
  root_each t i root (takes_first h) = startio_each t i h
  root_each t i root (takes_nothing n level p there) = begun_each t i root refl (λ d. refl)

  pub tokens_kept : (actor : Actor) (c : Change) → Happens set w actor.thread c
      → OneTokenEach states c.world
  tokens_kept actor c (nothing reply right) = each
  tokens_kept actor c (steps h) = stepped_each actor.thread h
  tokens_kept actor c (begins i root beside) = root_each actor.thread i root beside

-- before the first event
pub tokens_begun : (set : Set) (states : States) (threads : ℕ)
    → OneTokenEach states (begun set threads).world
tokens_begun set states threads =
    record {
      one = λ d start there.
          rw (unused d start there) (omega (
            arith,
            idle_sum (λ f. frame_tokens states d f) threads,
          ));
      idle = λ d start there free. rw (unused d start there) refl;
    }
  where
    unused : (d : ℕ) (start : StartState) → start_of (begun set threads).world.shared d ≡ Some start
        → start ≡ idle
    unused d start there =
        each_at (λ (x : StartState). x ≡ idle) (replicate (length set.devices) idle) d start
        (each_same (λ (x : StartState). x ≡ idle) (length set.devices) idle refl) there

-- where a DPC is queued or isn't
pub tokens_queued : (states : States) (w : World) (d : ℕ) (queued : Bool) → OneTokenEach states w
    → OneTokenEach states (with_queued w d queued)
tokens_queued states w d queued each = record { one = each.one; idle = each.idle }
