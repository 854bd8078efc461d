-- A ledger that tells a run and notes an event tells the run with the event added.
use Rattle.std.proofs.Common.{◌≡◌, ◌≢◌, ◌∙◌, ℕ, zero, suc, ◌≤◌, List, [], ◌∷◌, ◌++◌, Bool, true, false, Option, None, Some, refl, sym, ap, subst, inl, inr}
use Rattle.std.specs.Prelude.{slice_get, slice_index_or, slice_set, replicate, if◌then◌else◌}
use Rattle.std.proofs.lemmas.Bool.{cases_eq}
use Rattle.model.specs.declared.event.Event.{Event}
use Rattle.model.specs.declared.event.Reply.{Reply}
use Rattle.model.specs.declared.event.Bug.{Bug}
use Rattle.model.specs.declared.event.Place.{Place}
use Rattle.model.specs.declared.event.Reply.TheVariants.{Bug as BugCheckReply, Refused, Stepped, Wrong}
use Rattle.model.specs.declared.world.CancelStep.{CancelStep}
use Rattle.model.specs.declared.world.Frame.{Frame}
use Rattle.model.specs.Action.{Action}
use Rattle.model.specs.Effect.{Outcome, top_of}
use Rattle.model.specs.Events.{Change, effect, finished_or, standing, with_stack}
use Rattle.model.specs.Fault.{first_fault}
use Rattle.model.specs.Run.{Answered, Run, actor_on, begun, frames_on, goes, refused, run, step, stops, tags_after, tags_on, thread_of}
use Rattle.model.specs.Set.{Set}
use Rattle.model.specs.Trace.{Entry, Serving, Tag, uses_opened}
use Rattle.model.specs.World.{Shared, World}
use Rattle.laws_runs.specs.Waits.{says_unchanged}
use Rattle.laws_runs.proofs.History.Waits.{run_more, waits_same}
use Rattle.laws_runs.proofs.Lists.{set_other}
use Rattle.laws_runs.proofs.Runs.Events.{Answers, Concerns, Happens, Sets, a_thread, answers, answers_none, begins, concerns, fault_with, goes_on_with, no_thread, nothing, past_with, queues, refuses_over, refuses_stopped, set_in, sets_nothing, steps, stops_for, stops_wrong}
use Rattle.laws_runs.proofs.Runs.Kept.{kept_run}
use Rattle.laws_runs.proofs.Runs.Roots.{Beside, Root, issues, with_root}
use Rattle.laws_runs.proofs.Runs.Threads.{idle_frames, others_put}
use Rattle.laws_runs.proofs.Steps.Comes.{Cancels, Comes, awaits_cancel, awaits_lock, cancels}
use Rattle.laws_runs.proofs.Uses.Traced.{opened_recorded, traced_begun}
use Rattle.tell_uses.specs.declared.acts.UseStep.{UseStep}
use Rattle.tell_uses.specs.declared.ledger.Server.{Server}
use Rattle.tell_uses.specs.Acts.{actions_of, use_step}
use Rattle.tell_uses.specs.Knowing.{Knows}
use Rattle.tell_uses.specs.Ledger.{LedgerState, Notes, NotesIf, NotesOn, Tells, TellsOn, row_settled, rows_of, served_on, servers_of}
use Rattle.tell_uses.specs.Uses.{DoesAll, UsesState, stack_at}
use Rattle.tell_uses.proofs.Doing.{told_by}
use Rattle.tell_uses.proofs.Knowing.{KnownOn, counted_all, known_all, uses_in}
use Rattle.tell_uses.proofs.Noting.{Counted, WasOpened, counted_begun, served_by}
use Rattle.tell_uses.proofs.Rows.{AllOpened, Fits, actor_opened, after_fits, after_opened, after_stands, all_later, row_absent, row_there, rows_get, rows_none, rows_set, served_there, set_back, set_past, settled_same}

-- of a run of any set: its trace is counted, and its tags fit its frames and serve uses that were
-- opened
pub record Tagged (r : Run) : Type 0 where
  pub counted : Counted r.past
  pub fits : (t : ℕ) (row : List Tag) → slice_get r.tags t ≡ Some row → Fits (frames_on r.world t) row
  pub opened : (t : ℕ) (row : List Tag) → slice_get r.tags t ≡ Some row
      → AllOpened (uses_opened r.past) row

-- what stands in a list after a write
put_gives : {A : Type 0} (xs : List A) (i : ℕ) (x y : A) → slice_get (slice_set xs i y) i ≡ Some x
    → (y ≡ x) × ((z : A) × (slice_get xs i ≡ Some z))
put_gives [] i x y h = cc
put_gives (z ∷ xs) zero x y h = let same : y ≡ x = cc in (same, (z, refl))
put_gives (z ∷ xs) (suc i) x y h = put_gives xs i x y h

module _ (set : Set) (w : World) (t : ℕ) where
  -- the other threads' frames
  others_stand : (c : Change) → Happens set w t c → (k : ℕ) → t ≢ k
      → frames_on c.world k ≡ frames_on w k
  others_stand c (nothing reply right) k apart = refl
  others_stand c (steps h) k apart =
      others_put w t h.outcome.shared (with_stack h.thread (standing set h.below h.outcome)) k apart
  others_stand c (begins i root beside) k apart =
      others_put w t root.shared (with_root i.thread root) k apart

-- a step that says that nothing changes makes no action
module _ (set : Set) (s : Shared) (t : ℕ) where
  silent_cancel : (n : ℕ) (stage : CancelStep) (o : Outcome) → Cancels set s t n stage o
      → says_unchanged o.reply ≡ true → o.actions ≡ []
  silent_cancel n stage o (awaits_cancel owner its other) says = refl
  silent_cancel n stage o _ says = cc

  silent_step : (under : Option Frame) (f : Frame) (o : Outcome) → Comes set s t under f o
      → says_unchanged o.reply ≡ true → o.actions ≡ []
  silent_step under f o (awaits_lock a i lock owner at takes its other) says = refl
  silent_step under f o (cancels n stage made moves) says = silent_cancel n stage made moves says
  silent_step under f o _ says = cc

finished_says : (frames : List Frame) (reply : Reply)
    → says_unchanged (finished_or frames reply) ≡ true → says_unchanged reply ≡ true
finished_says [] Stepped says = cc
finished_says [] _ says = says
finished_says (f ∷ frames) reply says = says

silent_root : (set : Set) (s : Shared) (root : Root) → Beside set s root
    → says_unchanged root.reply ≡ true → root.actions ≡ []
silent_root set s root (issues h) says = cc
silent_root set s root _ says = cc

silent_event : (set : Set) (w : World) (t : ℕ) (c : Change) → Happens set w t c
    → says_unchanged c.reply ≡ true → c.actions ≡ []
silent_event set w t c (nothing reply right) says = refl
silent_event set w t c (steps h) says =
    silent_step set w.shared t (top_of h.below) h.frame h.outcome h.comes
    (finished_says (standing set h.below h.outcome) h.outcome.reply says)
silent_event set w t c (begins i root beside) says =
    silent_root set w.shared root beside says

module _ (set : Set) (r : Run) (t : ℕ) (tagged : Tagged r) where
  actor_served : WasOpened (uses_opened r.past) (served_by (actor_on r t).tag)
  actor_served = actor_opened (uses_opened r.past) (tags_on r t) (row_opened (slice_get r.tags t) refl)
    where
      row_opened : (o : Option (List Tag)) → slice_get r.tags t ≡ o
          → AllOpened (uses_opened r.past) (slice_index_or r.tags t [])
      row_opened None is = rw (row_absent r.tags t [] is) tt
      row_opened (Some row) is = rw (row_there r.tags t row [] is) (tagged.opened t row is)

  module _ (c : Change) where
    later_counted : Counted (past_with r t c)
    later_counted = counted_all (actor_on r t) r.past c.actions actor_served tagged.counted

    later_more : uses_opened r.past ≤ uses_opened (past_with r t c)
    later_more = opened_recorded r.past (actor_on r t) c.actions

    abbrev new_row : List Tag
    new_row =
        tags_after set (past_with r t c) r.activations (frames_on r.world t) (tags_on r t)
        (frames_on c.world t)

    here_fits : (row z : List Tag) → new_row ≡ row → slice_get r.tags t ≡ Some z
        → Fits (frames_on c.world t) row
    here_fits row z is there =
        let old : Fits (frames_on r.world t) (tags_on r t) =
        rw (row_there r.tags t z [] there) (tagged.fits t z there) in
        subst (λ (row : List Tag). Fits (frames_on c.world t) row) is
        (after_fits set (past_with r t c) r.activations (frames_on r.world t) (tags_on r t)
        (frames_on c.world t) old)

    here_opened : (row z : List Tag) → new_row ≡ row → slice_get r.tags t ≡ Some z
        → AllOpened (uses_opened (past_with r t c)) row
    here_opened row z is there =
        let old : AllOpened (uses_opened (past_with r t c)) (tags_on r t) =
        subst (λ (tags : List Tag). AllOpened (uses_opened (past_with r t c)) tags)
        (sym (row_there r.tags t z [] there))
        (all_later (uses_opened r.past) (uses_opened (past_with r t c)) z later_more
        (tagged.opened t z there)) in
        subst (λ (row : List Tag). AllOpened (uses_opened (past_with r t c)) row) is
        (after_opened set (past_with r t c) later_counted r.activations (frames_on r.world t)
        (tags_on r t) (frames_on c.world t) old)

    tagged_goes : Happens set r.world t c → Tagged (goes set r t (past_with r t c) c).run
    tagged_goes happens =
        record {
          counted = later_counted;
          fits = λ k row is. elim (cases_eq t k) [
            | inl same ↦
                let at : slice_get (slice_set r.tags t new_row) t ≡ Some row =
                subst (λ (j : ℕ). slice_get (slice_set r.tags t new_row) j ≡ Some row)
                (sym same) is in
                let gives = put_gives r.tags t row new_row at in
                subst (λ (j : ℕ). Fits (frames_on c.world j) row) same
                (here_fits row gives.1.0 gives.0 gives.1.1)
            | inr apart ↦
                subst (λ (frames : List Frame). Fits frames row)
                (sym (others_stand set r.world t c happens k apart))
                (tagged.fits k row (sym (set_other r.tags t k new_row apart) ∙ is))
          ];
          opened = λ k row is. elim (cases_eq t k) [
            | inl same ↦
                let at : slice_get (slice_set r.tags t new_row) t ≡ Some row =
                subst (λ (j : ℕ). slice_get (slice_set r.tags t new_row) j ≡ Some row)
                (sym same) is in
                let gives = put_gives r.tags t row new_row at in
                here_opened row gives.1.0 gives.0 gives.1.1
            | inr apart ↦
                all_later (uses_opened r.past) (uses_opened (past_with r t c)) row later_more
                (tagged.opened k row (sym (set_other r.tags t k new_row apart) ∙ is))
          ];
        }

    tagged_stops : (reply : Reply) → Tagged (stops r (past_with r t c) reply).run
    tagged_stops reply =
        record {
          counted = later_counted;
          fits = tagged.fits;
          opened = λ k row is. all_later (uses_opened r.past) (uses_opened (past_with r t c)) row
              later_more (tagged.opened k row is);
        }

    tagged_answered : (a : Answered) → Happens set r.world t c → Answers set r t c a → Tagged a.run
    tagged_answered a happens (refuses_stopped on) = tagged
    tagged_answered a happens (refuses_over on quiet over) = tagged
    tagged_answered a happens (goes_on_with on quiet within) = tagged_goes happens
    tagged_answered a happens (stops_for bug on fault) = tagged_stops (BugCheckReply bug)
    tagged_answered a happens (stops_wrong place on is) = tagged_stops (Wrong place)

module _ (set : Set) where
  tagged_sets : (r : Run) (c : Change) (stopped : Bool) → Tagged r → Sets set r.world c
      → Tagged (if stopped then refused r else set_in r c).run
  tagged_sets r c true tagged of = tagged
  tagged_sets r c false tagged (sets_nothing reply right) =
      record { counted = tagged.counted; fits = tagged.fits; opened = tagged.opened }
  tagged_sets r c false tagged (queues d) =
      record { counted = tagged.counted; fits = tagged.fits; opened = tagged.opened }

  tagged_concerned : (r : Run) (e : Event) → Tagged r → Concerns set r.world e
      → Tagged (step set r e).run
  tagged_concerned r e tagged (a_thread t is happens) =
      tagged_answered set r t tagged (effect set r.world e) (step set r e) happens
      (answers set r t e is)
  tagged_concerned r e tagged (no_thread is of) =
      subst (λ (a : Answered). Tagged a.run) (sym (answers_none set r e is))
      (tagged_sets r (effect set r.world e) r.stopped tagged of)

  tagged_step : (r : Run) (e : Event) → Tagged r → Tagged (step set r e).run
  tagged_step r e tagged = tagged_concerned r e tagged (concerns set r.world e)

  empty_row : (threads t : ℕ) (row : List Tag) → slice_get (replicate threads []) t ≡ Some row
      → [] ≡ row
  empty_row zero t row h = cc
  empty_row (suc threads) zero row h = cc
  empty_row (suc threads) (suc t) row h = empty_row threads t row h

  tagged_begun : (threads : ℕ) → Tagged (begun set threads)
  tagged_begun threads =
      record {
        counted = counted_begun traced_begun;
        fits = λ t row is.
            rw (idle_frames threads t, sym (empty_row threads t row is)) tt;
        opened = λ t row is. rw (sym (empty_row threads t row is)) tt;
      }

  pub tagged_run : (threads : ℕ) (events : List Event) → Tagged (run set threads events)
  tagged_run threads events = kept_run Tagged set tagged_step threads events (tagged_begun threads)

-- a thread's row after an event
module _ (set : Set) (r : Run) (t : ℕ) (tagged : Tagged r) (l m : LedgerState) (tells : Tells r l)
  where
    served_same : served_on l.rows t ≡ served_by (actor_on r t).tag
    served_same =
        ap (λ rows. served_on rows t) tells.rows ∙ served_there r.tags t (slice_get r.tags t) refl

    -- where the run goes on
    rows_go : (past : List Entry) (w : World) (o : Option (List Tag)) → slice_get r.tags t ≡ o
        → Knows past m.uses → m.rows ≡ row_settled set w m.uses t l.rows (slice_get l.rows t)
        → m.rows ≡ rows_of (slice_set r.tags t
        (tags_after set past r.activations (frames_on r.world t) (tags_on r t) (frames_on w t)))
    rows_go past w None there know is =
        let gone : slice_get l.rows t ≡ None =
        ap (λ rows. slice_get rows t) tells.rows ∙ rows_none r.tags t there in
        is ∙ ap (λ o. row_settled set w m.uses t l.rows o) gone ∙ tells.rows
        ∙ sym (ap (λ rows. rows_of rows) (set_past r.tags t _ there))
    rows_go past w (Some row) there know is =
        let found : slice_get l.rows t ≡ Some (servers_of row) =
        ap (λ rows. slice_get rows t) tells.rows ∙ rows_get r.tags t row there in
        let own : tags_on r t ≡ row = row_there r.tags t row [] there in
        is ∙ ap (λ o. row_settled set w m.uses t l.rows o) found
        ∙ ap (λ servers. slice_set l.rows t servers)
        (after_stands set past m.uses know r.activations (frames_on r.world t) row (frames_on w t)
        (tagged.fits t row there))
        ∙ ap (λ rows. slice_set rows t (servers_of
        (tags_after set past r.activations (frames_on r.world t) row (frames_on w t)))) tells.rows
        ∙ sym (rows_set r.tags t
        (tags_after set past r.activations (frames_on r.world t) row (frames_on w t)))
        ∙ ap (λ (tags : List Tag). rows_of (slice_set r.tags t
        (tags_after set past r.activations (frames_on r.world t) tags (frames_on w t)))) (sym own)

    -- where frames of the same kinds stand
    pub row_fits : (w : World)
        → ((row : List Tag) → slice_get r.tags t ≡ Some row → Fits (frames_on w t) row)
        → (o : Option (List Tag)) → slice_get r.tags t ≡ o
        → row_settled set w m.uses t l.rows (slice_get l.rows t) ≡ l.rows
    row_fits w fits None there =
        let gone : slice_get l.rows t ≡ None =
        ap (λ rows. slice_get rows t) tells.rows ∙ rows_none r.tags t there in
        ap (λ o. row_settled set w m.uses t l.rows o) gone
    row_fits w fits (Some row) there =
        let found : slice_get l.rows t ≡ Some (servers_of row) =
        ap (λ rows. slice_get rows t) tells.rows ∙ rows_get r.tags t row there in
        ap (λ o. row_settled set w m.uses t l.rows o) found
        ∙ ap (λ servers. slice_set l.rows t servers)
        (settled_same set m.uses (frames_on w t) row (fits row there))
        ∙ set_back l.rows t (servers_of row) found

    -- where the frames stay
    row_kept : (o : Option (List Tag)) → slice_get r.tags t ≡ o
        → row_settled set r.world m.uses t l.rows (slice_get l.rows t) ≡ l.rows
    row_kept o there = row_fits r.world (tagged.fits t) o there

    -- what is known of the uses
    uses_known : (c : Change) (actions : List Action) → uses_in c.actions ≡ actions
        → DoesAll (served_on l.rows t) actions l.uses m.uses
        → KnownOn (past_with r t c) m.uses
    uses_known c actions is does =
        known_all (actor_on r t) r.past c.actions l.uses m.uses (actor_served set r t tagged)
        tagged.counted tells.knows
        (subst (λ (serving : Option Serving). DoesAll serving (uses_in c.actions) l.uses m.uses)
        served_same
        (subst (λ (xs : List Action). DoesAll (served_on l.rows t) xs l.uses m.uses) (sym is) does))

    -- the run goes on
    pub tells_goes : (c : Change) (actions : List Action) → uses_in c.actions ≡ actions
        → DoesAll (served_on l.rows t) actions l.uses m.uses
        → m.rows ≡ row_settled set c.world m.uses t l.rows (slice_get l.rows t)
        → Tells (goes set r t (past_with r t c) c).run m
    tells_goes c actions is does rows =
        let known : KnownOn (past_with r t c) m.uses = uses_known c actions is does in
        record {
          knows = known.knows;
          rows = rows_go (past_with r t c) c.world (slice_get r.tags t) refl known.knows rows;
        }

    -- it stops
    tells_stops : (c : Change) (actions : List Action) (reply : Reply) → uses_in c.actions ≡ actions
        → DoesAll (served_on l.rows t) actions l.uses m.uses
        → m.rows ≡ row_settled set r.world m.uses t l.rows (slice_get l.rows t)
        → Tells (stops r (past_with r t c) reply).run m
    tells_stops c actions reply is does rows =
        let known : KnownOn (past_with r t c) m.uses = uses_known c actions is does in
        record {
          knows = known.knows;
          rows = rows ∙ row_kept (slice_get r.tags t) refl ∙ tells.rows;
        }

    -- nothing changes
    tells_still : (c : Change) → m ≡ l → c.actions ≡ [] → c.world ≡ r.world
        → Tells (goes set r t (past_with r t c) c).run m
    tells_still c same none world =
        tells_goes c [] (ap (λ (xs : List Action). uses_in xs) none)
        (ap (λ (x : LedgerState). x.uses) same)
        (ap (λ (x : LedgerState). x.rows) same
        ∙ sym (row_kept (slice_get r.tags t) refl)
        ∙ ap (λ (w : World). row_settled set w m.uses t l.rows (slice_get l.rows t)) (sym world))

-- an event of a run
module _ (set : Set) (r : Run) (e : Event) (tagged : Tagged r) (l m : LedgerState) (tells : Tells r l)
  where
    abbrev change : Change
    change = effect set r.world e

    abbrev does_step : UseStep
    does_step = use_step set r.world e

    tells_on_going : (t : ℕ) (b : Bool) → thread_of e ≡ Some t → says_unchanged change.reply ≡ b
        → Happens set r.world t change → (b ≡ true → change.world ≡ r.world)
        → NotesIf set change.world t does_step b l m
        → Tells (goes set r t (past_with r t change) change).run m
    tells_on_going t true is says happens stays notes =
        tells_still set r t tagged l m tells change notes
        (silent_event set r.world t change happens says) (stays refl)
    tells_on_going t false is says happens stays notes =
        elim (told_by set r.world t e is) [
          | inl told ↦
              tells_goes set r t tagged l m tells change (actions_of does_step) told notes.uses
              notes.rows
          | inr none ↦ let no : true ≡ false = rw none.1 at says in cc
        ]

    tells_on_stop : (t : ℕ) (reply : Reply) → thread_of e ≡ Some t
        → ((change.actions ≡ []) → change.reply ≡ Refused → ⊥)
        → Notes set r.world t does_step l m
        → Tells (stops r (past_with r t change) reply).run m
    tells_on_stop t reply is never notes =
        elim (told_by set r.world t e is) [
          | inl told ↦
              tells_stops set r t tagged l m tells change (actions_of does_step) reply told notes.uses
              notes.rows
          | inr none ↦ absurd (never none.0 none.1)
        ]

    no_fault : (t : ℕ) (bug : Bug) → fault_with r t change ≡ Some bug → change.actions ≡ [] → ⊥
    no_fault t bug fault none =
        let no : None ≡ Some bug =
        sym (ap (λ (xs : List Action). first_fault r.past (actor_on r t) xs) none) ∙ fault in
        cc

    no_wrong : (place : Place) → change.reply ≡ Wrong place → change.reply ≡ Refused → ⊥
    no_wrong place wrong is = let no : Refused ≡ Wrong place = sym is ∙ wrong in cc

    same_tells : m ≡ l → Tells r m
    same_tells same =
        record {
          knows = record {
            notes = ap (λ (x : LedgerState). x.uses.notes) same ∙ tells.knows.notes;
            stacks = λ n.
                ap (λ (x : LedgerState). stack_at x.uses n) same ∙ tells.knows.stacks n;
          };
          rows = ap (λ (x : LedgerState). x.rows) same ∙ tells.rows;
        }

    tells_answered : (t : ℕ) (a : Answered) → thread_of e ≡ Some t → Happens set r.world t change
        → Answers set r t change a
        → (says_unchanged a.reply ≡ true → a.run.world ≡ r.world)
        → NotesIf set a.run.world t does_step (says_unchanged a.reply) l m → Tells a.run m
    tells_answered t a is happens (refuses_stopped on) stays notes = same_tells notes
    tells_answered t a is happens (refuses_over on quiet over) stays notes = same_tells notes
    tells_answered t a is happens (goes_on_with on quiet within) stays notes =
        tells_on_going t (says_unchanged change.reply) is refl happens stays notes
    tells_answered t a is happens (stops_for bug on fault) stays notes =
        tells_on_stop t (BugCheckReply bug) is (λ none refused. no_fault t bug fault none) notes
    tells_answered t a is happens (stops_wrong place on wrong) stays notes =
        tells_on_stop t (Wrong place) is (λ none refused. no_wrong place wrong refused) notes

    tells_sets : (c : Change) (stopped : Bool) → Sets set r.world c → m ≡ l
        → Tells (if stopped then refused r else set_in r c).run m
    tells_sets c true of same = same_tells same
    tells_sets c false (sets_nothing reply right) same =
        let told : Tells r m = same_tells same in
        record { knows = told.knows; rows = told.rows }
    tells_sets c false (queues d) same =
        let told : Tells r m = same_tells same in
        record { knows = told.knows; rows = told.rows }

    tells_concerned : Concerns set r.world e
        → (says_unchanged (step set r e).reply ≡ true → (step set r e).run.world ≡ r.world)
        → NotesOn set (step set r e).run.world (thread_of e) does_step (step set r e).reply l m
        → Tells (step set r e).run m
    tells_concerned (a_thread t is happens) stays notes =
        tells_answered t (step set r e) is happens (answers set r t e is) stays
        (subst (λ (o : Option ℕ). NotesOn set (step set r e).run.world o does_step
        (step set r e).reply l m) is notes)
    tells_concerned (no_thread is of) stays notes =
        subst (λ (a : Answered). Tells a.run m) (sym (answers_none set r e is))
        (tells_sets change r.stopped of
        (subst (λ (o : Option ℕ). NotesOn set (step set r e).run.world o does_step
        (step set r e).reply l m) is notes))

pub noted_tells : (set : Set) (w : World) (e : Event) (u : UseStep) (reply : Reply)
    (l m : LedgerState)
    → NotesOn set w (thread_of e) u reply l m → TellsOn set w e u reply l m
noted_tells set w e u reply l m notes threads events u_is reply_is w_is tells =
    let r : Run = run set threads events in
    let more : run set threads (events ++ e ∷ []) ≡ (step set r e).run =
    run_more set (begun set threads) events e in
    let world : w ≡ (step set r e).run.world = w_is ∙ ap (λ (x : Run). x.world) more in
    let stays : says_unchanged (step set r e).reply ≡ true
    → (step set r e).run.world ≡ r.world =
    λ says. sym (ap (λ (x : Run). x.world) more) ∙ waits_same set threads events e says in
    subst (λ (x : Run). Tells x m) (sym more)
    (tells_concerned set r e (tagged_run set threads events) l m tells (concerns set r.world e) stays
    (subst (λ (x : World). NotesOn set x (thread_of e) (use_step set r.world e) (step set r e).reply
    l m) world
    (subst (λ (x : UseStep). NotesOn set w (thread_of e) x (step set r e).reply l m) u_is
    (subst (λ (x : Reply). NotesOn set w (thread_of e) u x l m) reply_is notes))))

-- by what the ledger does
module _ (set : Set) (w : World) (e : Event) (u : UseStep) (reply : Reply) (l m : LedgerState) where
  pub noted_none : thread_of e ≡ None → TellsOn set w e u reply l l
  noted_none is =
      noted_tells set w e u reply l l
      (subst (λ (o : Option ℕ). NotesOn set w o u reply l l) (sym is) refl)

  pub noted_unchanged : (t : ℕ) → thread_of e ≡ Some t → says_unchanged reply ≡ true
      → TellsOn set w e u reply l l
  noted_unchanged t is says =
      noted_tells set w e u reply l l
      (subst (λ (o : Option ℕ). NotesOn set w o u reply l l) (sym is)
      (subst (λ (b : Bool). NotesIf set w t u b l l) (sym says) refl))

  pub noted_on : (t : ℕ) → thread_of e ≡ Some t → says_unchanged reply ≡ false
      → Notes set w t u l m → TellsOn set w e u reply l m
  noted_on t is says notes =
      noted_tells set w e u reply l m
      (subst (λ (o : Option ℕ). NotesOn set w o u reply l m) (sym is)
      (subst (λ (b : Bool). NotesIf set w t u b l m) (sym says) notes))

-- before the first event
empty_rows : (threads : ℕ) → replicate threads [] ≡ rows_of (replicate threads [])
empty_rows zero = refl
empty_rows (suc threads) = ap (λ (rows : List (List Server)). [] ∷ rows) (empty_rows threads)

pub tells_begun : (set : Set) (threads : ℕ) (l : LedgerState)
    → l.uses ≡ record { notes = []; stacks = [] } → l.rows ≡ replicate threads []
    → Tells (begun set threads) l
tells_begun set threads l uses rows =
    record {
      knows = record {
        notes = ap (λ (x : UsesState). x.notes) uses;
        stacks = λ n. ap (λ (x : UsesState). stack_at x n) uses;
      };
      rows = rows ∙ empty_rows threads;
    }
