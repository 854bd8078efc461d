-- What a station keeps through a turn.
use Rattle.std.proofs.Common.{◌≡◌, ◌≢◌, ℕ, ◌+◌, ◌<◌, ◌≤◌, inl, inr, true, false, List, [], ◌∷◌, ◌++◌, Option, None, Some, length, sym, subst, ap, ◌∙◌, append_assoc, arith, length-append}
use Rattle.std.specs.Prelude.{slice_get, slice_set}
use Rattle.std.proofs.lemmas.Bool.Decides.{eqb_tells}
use Rattle.std.proofs.Math.ListN.{length-set}
use Rattle.std.proofs.lemmas.List.Elements.{All-push}
use Rattle.std.proofs.lemmas.Option.{slice_get_within}
use Rattle.laws_runs.proofs.Lists.{set_other, set_same}
use Rattle.model.specs.declared.history.Entry.{Entry}
use Rattle.model.specs.History.{NamedCommand}
use Rattle.hostcore.specs.Core.{CoreState, counted, with_entry}
use Rattle.intake.specs.Ends.{TakerState}
use Rattle.workers.specs.declared.locked.Held.{Held}
use Rattle.workers.specs.Kept.{Keeps, Station, kept_by, kept_of, station}
use Rattle.workers.specs.Turned.{took}
use Rattle.workers.specs.Worked.{Worked, count_named, count_of_thread, count_taken}
use Rattle.workers.proofs.Counting.{count_here, count_there, counted_here, taken_at, worked_elsewhere, worked_kept}

module _ (began : CoreState) (takers : List TakerState) (s : Station) (i : ℕ) (b a : TakerState)
    (kept : Keeps began takers s) (some : slice_get takers i ≡ Some b)
    (at : slice_get s.takers i ≡ Some a) (there : i < s.started) (going : s.full ≡ false) where
  within : i < length takers
  within = slice_get_within takers i b some

  -- the taker of a worker that was started changed, and no other
  untaken_at : (after : TakerState) (j : ℕ) → s.started ≤ j
      → slice_get (slice_set s.takers i after) j ≡ slice_get takers j
  untaken_at after j past =
      set_other s.takers i j after (λ same. absurd (omega (arith, past, same, there)))
      ∙ kept.untaken j past

  -- nothing is held yet
  nothing : s.held ≡ None
  nothing = kept.holds going

  pub its_work : Worked began.history kept.new i b a []
  its_work = subst (λ (held : Option Held). Worked began.history kept.new i b a (kept_by held i))
      nothing (kept.each i b a some at)

  -- one entry more of the thread
  module _ (e : Entry) (after : TakerState) (n : ℕ) (here : e.thread ≡ i)
      (named : count_named (kept.new ++ e ∷ []) ≡ count_named kept.new + n)
      (more : length after.taken ≡ length a.taken + n)
      (work : Worked began.history (kept.new ++ e ∷ []) i b after []) where
    new : List Entry
    new = kept.new ++ e ∷ []

    seats_at : counted s.core.seats e.thread
        ≡ slice_set s.core.seats i (Some (count_of_thread i kept.new + 1))
    seats_at =
        ap (counted s.core.seats) here
        ∙ counted_here s.core.seats i (count_of_thread i kept.new) (kept.seated i within)

    seated_at : (j : ℕ) → j < length takers
        → slice_get (counted s.core.seats e.thread) j
        ≡ Some (Some (count_of_thread j (kept.new ++ e ∷ [])))
    seated_at j few =
        elim (eqb_tells i j) [
          | inl p ↦ subst (λ (k : ℕ). slice_get (counted s.core.seats e.thread) k
              ≡ Some (Some (count_of_thread k (kept.new ++ e ∷ [])))) p.1
              (ap (λ (xs : List (Option ℕ)). slice_get xs i) seats_at
              ∙ (set_same s.core.seats i (Some (count_of_thread i kept.new))
              (Some (count_of_thread i kept.new + 1)) (kept.seated i within)
              ∙ ap (λ (k : ℕ). Some (Some k)) (sym (count_here i kept.new e here))))
          | inr p ↦ ap (λ (xs : List (Option ℕ)). slice_get xs j) seats_at
              ∙ (set_other s.core.seats i j (Some (count_of_thread i kept.new + 1)) p.1
              ∙ (kept.seated j few
              ∙ ap (λ (k : ℕ). Some (Some k))
              (sym (count_there j kept.new e (λ same. p.1 (sym here ∙ same))))))
        ]

    unseated_at : (j : ℕ) → length takers ≤ j
        → slice_get (counted s.core.seats e.thread) j ≡ slice_get began.seats j
    unseated_at j past =
        let apart : i ≢ j = λ same. absurd (omega (arith, within)) in
        ap (λ (xs : List (Option ℕ)). slice_get xs j) seats_at
        ∙ (set_other s.core.seats i j (Some (count_of_thread i kept.new + 1)) apart
        ∙ kept.unseated j past)

    each_at : (j : ℕ) (b' a' : TakerState) → slice_get takers j ≡ Some b'
        → slice_get (slice_set s.takers i after) j ≡ Some a'
        → Worked began.history (kept.new ++ e ∷ []) j b' a' (kept_by s.held j)
    each_at j b' a' first last =
        elim (eqb_tells i j) [
          | inl p ↦
              let one : slice_get takers j ≡ Some b = subst (λ (k : ℕ). slice_get takers k ≡ Some b) p.1 some in
              let two : slice_get (slice_set s.takers i after) j ≡ Some after = subst (λ (k : ℕ). slice_get (slice_set s.takers i after) k ≡ Some after) p.1 (set_same s.takers i a after at) in
              let same_b : b ≡ b' = cc in
              let same_a : after ≡ a' = cc in
              rw (nothing, ← same_b, ← same_a, ← p.1) work
          | inr p ↦
              let two : slice_get s.takers j ≡ Some a' = sym (set_other s.takers i j after p.1) ∙ last in
              worked_elsewhere began.history kept.new j b' a' (kept_by s.held j) e
              (λ same. p.1 (sym here ∙ same)) (kept.each j b' a' first two)
        ]

    pub entered : Keeps began takers
        (station (with_entry s.core e) s.seats (slice_set s.takers i after) s.started s.held s.full)
    entered =
        let took_more : count_taken (slice_set s.takers i after) ≡ count_taken s.takers + n = taken_at s.takers i a after n at more in
        let before = kept.taken in
        record {
          new = kept.new ++ e ∷ [];
          set = kept.set;
          threads = kept.threads;
          log = kept.log;
          history = ap (λ (xs : List Entry). xs ++ e ∷ []) kept.history
              ∙ append_assoc began.history kept.new (e ∷ []);
          seats = kept.seats;
          seated = seated_at;
          unseated = unseated_at;
          started = kept.started;
          workers = All-push (λ (x : Entry). x.thread < s.started) kept.new e kept.workers
              (rw here there);
          count = length-set s.takers i after ∙ kept.count;
          untaken = untaken_at after;
          each = each_at;
          taken = omega arith;
          holder = kept.holder;
          holds = kept.holds;
          full = λ full. let no = going in cc;
        }

  -- the history is full, and no command was taken
  pub met_full : length s.core.history ≡ s.core.log
      → Keeps began takers (station s.core s.seats s.takers s.started s.held true)
  met_full full =
      record {
        new = kept.new;
        set = kept.set;
        threads = kept.threads;
        log = kept.log;
        history = kept.history;
        seats = kept.seats;
        seated = kept.seated;
        unseated = kept.unseated;
        started = kept.started;
        workers = kept.workers;
        count = kept.count;
        untaken = kept.untaken;
        each = kept.each;
        taken = kept.taken;
        holder = kept.holder;
        holds = λ no. cc;
        full = λ _. full;
      }

  -- the history is full, and a command was taken
  module _ (asked : NamedCommand) where
    held : Held
    held = record { worker = i; taken = asked }

    each_held : (j : ℕ) (b' a' : TakerState) → slice_get takers j ≡ Some b'
        → slice_get (slice_set s.takers i (took a asked)) j ≡ Some a'
        → Worked began.history kept.new j b' a' (kept_by (Some (record { worker = i; taken = asked })) j)
    each_held j b' a' first last =
        elim (eqb_tells i j) [
          | inl p ↦
              let one : slice_get takers j ≡ Some b = subst (λ (k : ℕ). slice_get takers k ≡ Some b) p.1 some in
              let two : slice_get (slice_set s.takers i (took a asked)) j ≡ Some (took a asked) = subst (λ (k : ℕ). slice_get (slice_set s.takers i (took a asked)) k ≡ Some (took a asked)) p.1 (set_same s.takers i a (took a asked) at) in
              let same_b : b ≡ b' = cc in
              let same_a : took a asked ≡ a' = cc in
              rw (p.0, ← same_b, ← same_a, ← p.1) (worked_kept began.history kept.new i b a asked its_work)
          | inr p ↦
              let two : slice_get s.takers j ≡ Some a' = sym (set_other s.takers i j (took a asked) p.1) ∙ last in
              rw p.0 (subst (λ (o : Option Held). Worked began.history kept.new j b' a' (kept_by o j))
              nothing (kept.each j b' a' first two))
        ]

    pub kept_command : length s.core.history ≡ s.core.log → Keeps began takers
        (station s.core s.seats (slice_set s.takers i (took a asked)) s.started
        (Some (record { worker = i; taken = asked })) true)
    kept_command full =
        let long : length (took a asked).taken ≡ length a.taken + 1 = length-append a.taken (asked ∷ []) in
        let took_more : count_taken (slice_set s.takers i (took a asked)) ≡ count_taken s.takers + 1 = taken_at s.takers i a (took a asked) 1 at long in
        let before = kept.taken in
        let none : length (kept_of s.held) ≡ 0 = ap (λ (o : Option Held). length (kept_of o)) nothing in
        record {
          new = kept.new;
          set = kept.set;
          threads = kept.threads;
          log = kept.log;
          history = kept.history;
          seats = kept.seats;
          seated = kept.seated;
          unseated = kept.unseated;
          started = kept.started;
          workers = kept.workers;
          count = length-set s.takers i (took a asked) ∙ kept.count;
          untaken = untaken_at (took a asked);
          each = each_held;
          taken = omega arith;
          holder = within;
          holds = λ no. cc;
          full = λ _. full;
        }

-- one worker more is started
pub one_started : (began : CoreState) (takers : List TakerState) (s : Station)
    → Keeps began takers s → s.started < length takers
    → Keeps began takers (station s.core s.seats s.takers (s.started + 1) s.held s.full)
one_started began takers s kept few =
    record {
      new = kept.new;
      set = kept.set;
      threads = kept.threads;
      log = kept.log;
      history = kept.history;
      seats = kept.seats;
      seated = kept.seated;
      unseated = kept.unseated;
      started = omega (arith, few);
      workers = λ i d within. let before = kept.workers i d within in omega (arith, before);
      count = kept.count;
      untaken = λ i past. kept.untaken i (omega (arith, past));
      each = kept.each;
      taken = kept.taken;
      holder = kept.holder;
      holds = kept.holds;
      full = kept.full;
    }
