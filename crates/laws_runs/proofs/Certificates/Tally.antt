-- What the activations of a run have executed, and what their frames still owe, are at most their
-- certificates: kept by every event with which a run goes on. How much a frame owes is any measure
-- of it here.
use Rattle.laws_runs.proofs.Common.{ap, arith, inl, inr, refl, subst, sym, zero, ◌∙◌, cases_eq, get_or-set_other, get_or-set_same, length-replicate, length-set, slice_get-get_or, slice_get_within, List, Some, [], length, replicate, slice_get, slice_index_or, slice_set, suc, ℕ, ⊤, ◌++◌, ◌+◌, ◌<◌, ◌∷◌, ◌≡◌, ◌≤◌, Action, activations_after, begun, frames_of, frames_on, tags_after, Set, Activated, Actor, Entry, Managing, Tag, entry, recorded, World, idle_thread, Frame, Thread, AreOneRoutine, KeepsCertificate, executions, set_other, set_same}
use Rattle.laws_runs.proofs.Runs.Threads.{idle_frames}
use Rattle.laws_runs.proofs.Certificates.Tags.{IsAmong, IsKnown, known_left, Matched, matched_more, Numbered, numbered_append}
use Rattle.laws_runs.proofs.Certificates.Owed.{allowed, allowed_one, one_routine, allowed_append, executed_in, executions_after, all_owed, all_owed_set, Follows}

-- every action of a past is the I/O manager's, or of an activation that was given out
abbrev pub AllKnown : List Tag → List Entry → Type 0
AllKnown given [] = ⊤
AllKnown given (e ∷ past) = IsKnown given e.actor.tag × AllKnown given past

all_known_more : (given more : List Tag) (past : List Entry) → AllKnown given past
    → AllKnown (given ++ more) past
all_known_more given more [] h = tt
all_known_more given more (e ∷ past) h =
    (known_left given more e.actor.tag h.0, all_known_more given more past h.1)

known_recorded : (given : List Tag) (past : List Entry) (actor : Actor) (actions : List Action)
    → IsKnown given actor.tag → AllKnown given past → AllKnown given (recorded past actor actions)
known_recorded given past actor [] acts h = h
known_recorded given past actor (action ∷ actions) acts h =
    known_recorded given (entry past actor action ∷ past) actor actions acts (acts, h)

abbrev pub no_tags : List Tag
no_tags = []

pub no_row : (threads t : ℕ) → slice_index_or (replicate threads no_tags) t no_tags ≡ no_tags
no_row zero t = refl
no_row (suc threads) zero = refl
no_row (suc threads) (suc t) = no_row threads t

module _ (cost : Frame → ℕ) where
  -- the tags that were given out, and what was executed and is owed under each number
  pub record Tally (set : Set) (w : World) (tags : List (List Tag)) (number : ℕ) (past : List Entry)
      : Type 0 where
    pub given : List Tag
    pub rows : length tags ≡ length w.threads
    pub numbered : Numbered 0 given number
    pub matched : (t : ℕ) → Matched given (frames_on w t) (slice_index_or tags t [])
    pub owing : (g : ℕ) → executions past g + all_owed cost g w.threads tags ≤ allowed set g given
    pub known : AllKnown given past

  pub row_there : (set : Set) (w : World) (tags : List (List Tag)) (number : ℕ) (past : List Entry)
      (t : ℕ)
      (thread : Thread) → Tally set w tags number past → slice_get w.threads t ≡ Some thread
      → slice_get tags t ≡ Some (slice_index_or tags t [])
  row_there set w tags number past t thread tally found =
      let within : t < length w.threads = slice_get_within w.threads t thread found in
      let rows : length tags ≡ length w.threads = tally.rows in
      slice_get-get_or tags t [] (omega arith)

  -- another thread stands in place of one, whose frames follow those that stood
  pub turned : (set : Set) (w now : World) (tags : List (List Tag)) (number : ℕ) (past : List Entry)
      (actor : Actor)
      (actions : List Action) (thread after : Thread) → (tally : Tally set w tags number past)
      → slice_get w.threads actor.thread ≡ Some thread
      → now.threads ≡ slice_set w.threads actor.thread after
      → IsKnown tally.given actor.tag
      → Follows cost set tally.given (recorded past actor actions) number thread.frames.items
      (slice_index_or tags actor.thread []) actor.tag (executed_in actions) after.frames.items
      → Tally set now
      (slice_set tags actor.thread
      (tags_after set (recorded past actor actions) number thread.frames.items
      (slice_index_or tags actor.thread [])
      after.frames.items))
      (activations_after number thread.frames.items after.frames.items)
      (recorded past actor actions)
  turned set w now tags number past actor actions thread after tally found is acts follows =
      let t : ℕ = actor.thread in
      let row : List Tag = slice_index_or tags t [] in
      let later : List Entry = recorded past actor actions in
      let new_row : List Tag = tags_after set later number thread.frames.items row
      after.frames.items in
      let there : slice_get tags t ≡ Some row = row_there set w tags number past t thread tally
      found in
      let within : t < length tags = slice_get_within tags t row there in
      let frames_are : (k : ℕ)
      → frames_on now k ≡ frames_of (slice_get (slice_set w.threads t after) k) =
      λ k. ap (λ (threads : List Thread). frames_of (slice_get threads k)) is in
      record {
        given = tally.given ++ follows.new;
        rows = length-set tags t new_row ∙ tally.rows
            ∙ sym (ap length is ∙ length-set w.threads t after);
        numbered = numbered_append 0 number
            (activations_after number thread.frames.items after.frames.items)
            tally.given follows.new tally.numbered follows.numbered;
        matched = λ k. elim (cases_eq t k) [
          | inl same ↦
              subst (λ (j : ℕ). Matched (tally.given ++ follows.new) (frames_on now j)
              (slice_index_or (slice_set tags t new_row) j [])) same
              (rw (
                frames_are t,
                set_same w.threads t thread after found,
                get_or-set_same tags t new_row [] within,
              )
              follows.matched)
          | inr apart ↦
              rw (
                frames_are k,
                set_other w.threads t k after apart,
                get_or-set_other tags t k new_row [] (λ same. apart (sym same)),
              )
              (matched_more tally.given follows.new (frames_on w k) (slice_index_or tags k [])
              (tally.matched k))
        ];
        owing = λ g.
            let threads : all_owed cost g now.threads (slice_set tags t new_row)
            ≡ all_owed cost g (slice_set w.threads t after) (slice_set tags t new_row) =
            ap (λ (threads : List Thread). all_owed cost g threads (slice_set tags t new_row)) is
            in
            omega (
              arith,
              executions_after past actor actions g,
              all_owed_set cost g w.threads tags t thread after row new_row found there,
              follows.paid g,
              tally.owing g,
              allowed_append set g tally.given follows.new,
            );
        known =
            known_recorded (tally.given ++ follows.new) past actor actions
            (known_left tally.given follows.new actor.tag acts)
            (all_known_more tally.given follows.new past tally.known);
      }

  nothing_owed : (g threads : ℕ)
      → all_owed cost g (replicate threads idle_thread) (replicate threads []) ≡ 0
  nothing_owed g zero = refl
  nothing_owed g (suc threads) =
      omega (arith, nothing_owed g threads)

  -- before the first event
  pub tally_begun : (set : Set) (threads : ℕ)
      → Tally set (begun set threads).world (begun set threads).tags 0 []
  tally_begun set threads =
      record {
        given = [];
        rows = length-replicate threads no_tags ∙ sym (length-replicate threads idle_thread);
        numbered = refl;
        matched = λ t. rw (idle_frames threads t, no_row threads t) tt;
        owing = λ g. (omega (arith, nothing_owed g threads));
        known = tt;
      }

  -- the law, in its own words
  pub known_kept : (set : Set) (w : World) (tags : List (List Tag)) (number : ℕ) (past : List Entry)
      (tag : Tag)
      → (tally : Tally set w tags number past) → IsKnown tally.given tag
      → KeepsCertificate set past tag
  known_kept set w tags number past Managing tally known = tt
  known_kept set w tags number past (Activated g driver routine serving) tally known =
      omega (
        arith,
        tally.owing g,
        allowed_one set 0 number tally.given g driver routine serving tally.numbered known,
      )

  pub one_of_known : (set : Set) (number : ℕ) (given : List Tag) (one other : Tag)
      → Numbered 0 given number
      → IsKnown given one → IsKnown given other → AreOneRoutine one other
  one_of_known set number given Managing other numbered known also = tt
  one_of_known set number given (Activated g driver routine serving) Managing numbered known also =
      tt
  one_of_known set number given (Activated g driver routine serving) (Activated h d r s) numbered
      known also =
      λ same. one_routine set 0 number given g driver routine d r serving s numbered known
      (subst (λ (k : ℕ). IsAmong (Activated k d r s) given) (sym same) also)
