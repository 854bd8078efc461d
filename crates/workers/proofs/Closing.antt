-- What a station that ends has done, and what a call does that serves nothing.
use Rattle.std.proofs.Common.{◌≡◌, ℕ, zero, suc, ◌<◌, ◌≤◌, inl, inr, false, List, [], ◌++◌, Option, None, Some, length, map, replicate, refl, sym, subst, ap, ◌∙◌, arith}
use Rattle.std.specs.Prelude.{All, slice_get, sum}
use Rattle.std.specs.List.{range_with_len}
use Rattle.std.proofs.lemmas.Bool.{cases_lt}
use Rattle.std.proofs.lemmas.List.{append-nil}
use Rattle.std.proofs.lemmas.Option.{slice_get_within}
use Rattle.model.specs.declared.history.Entry.{Entry}
use Rattle.model.specs.Set.{Set}
use Rattle.hostcore.specs.Core.{CoreState, count_of}
use Rattle.intake.specs.Ends.{TakerState}
use Rattle.workers.specs.declared.served.Served.{Served}
use Rattle.workers.specs.Kept.{AreBack, Keeps, Station, counts_of, kept_by, kept_of}
use Rattle.workers.specs.Ended.{HaveEnded}
use Rattle.workers.specs.Serves.{Serves}
use Rattle.workers.specs.Worked.{Worked, count_of_thread}
use Rattle.workers.proofs.Counting.{same_by_get}
use Rattle.workers.proofs.Opening.{idle}
use Rattle.workers.proofs.Totals.{count_none, gathered_held, gathered_nothing, get_replicate, map_within, sum_counts, zeros}

abbrev core_of : Set → ℕ → ℕ → List Entry → List (Option ℕ) → CoreState
core_of set threads log history seats =
    record { set = set; threads = threads; log = log; history = history; seats = seats }

same_core : (a b : CoreState) → a.set ≡ b.set → a.threads ≡ b.threads → a.log ≡ b.log
    → a.history ≡ b.history → a.seats ≡ b.seats → a ≡ b
same_core a b set threads log history seats =
    ap (λ (x : Set). core_of x a.threads a.log a.history a.seats) set
    ∙ (ap (λ (x : ℕ). core_of b.set x a.log a.history a.seats) threads
    ∙ (ap (λ (x : ℕ). core_of b.set b.threads x a.history a.seats) log
    ∙ (ap (λ (x : List Entry). core_of b.set b.threads b.log x a.seats) history
    ∙ ap (λ (x : List (Option ℕ)). core_of b.set b.threads b.log b.history x) seats)))

-- entries of the first threads are of more of them
pub fewer : (m n : ℕ) (new : List Entry) → m ≤ n → All (λ (e : Entry). e.thread < m) new
    → All (λ (e : Entry). e.thread < n) new
fewer m n new less all = λ i d within. let first = all i d within in omega (arith, first, less)

module _ (began : CoreState) (takers : List TakerState) (s : Station) (core : CoreState)
    (kept : Keeps began takers s)
    (free : (i : ℕ) → i < length takers → slice_get began.seats i ≡ Some None)
    (are : AreBack (length takers) s.core core) where
  seats_back : core.seats ≡ began.seats
  seats_back =
      same_by_get core.seats began.seats (λ i.
      elim (cases_lt i (length takers)) [
        | inl few ↦ are.back i few ∙ sym (free i few)
        | inr past ↦ are.others i past ∙ kept.unseated i past
      ])

  core_back : core ≡ record began { history = began.history ++ kept.new }
  core_back =
      same_core core (record began { history = began.history ++ kept.new })
      (ap (λ (c : CoreState). c.set) are.same ∙ kept.set)
      (ap (λ (c : CoreState). c.threads) are.same ∙ kept.threads)
      (ap (λ (c : CoreState). c.log) are.same ∙ kept.log)
      (ap (λ (c : CoreState). c.history) are.same ∙ kept.history)
      seats_back

  counts_are : counts_of s.core (length takers)
      ≡ map (λ i. count_of_thread i kept.new) (range_with_len 0 (length takers))
  counts_are =
      map_within (λ i. count_of (slice_get s.core.seats i)) (λ i. count_of_thread i kept.new) 0
      (length takers)
      (λ i low high. ap count_of (kept.seated i (omega (arith, high))))

  pub closed : (ended : Served) → ended.core ≡ core → ended.takers.items ≡ s.takers
      → ended.counts.items ≡ counts_of s.core (length takers)
      → ended.held.items ≡ kept_of s.held → ended.started ≡ s.started
      → HaveEnded ended.started ended.ends → ended.full ≡ s.full → Serves began takers ended
  closed ended its_core its_takers its_counts its_held its_started its_ends its_full =
      let all : ended.counts.items ≡ map (λ i. count_of_thread i kept.new) (range_with_len 0 (length takers)) = its_counts ∙ counts_are in
      let seated : All (λ (e : Entry). e.thread < ended.started) kept.new = subst (λ (n : ℕ). All (λ (e : Entry). e.thread < n) kept.new) (sym its_started) kept.workers in
      let few_started : ended.started ≤ length takers = rw its_started kept.started in
      let few : All (λ (e : Entry). e.thread < length takers) kept.new = fewer ended.started (length takers) kept.new few_started seated in
      record {
        new = kept.new;
        core = its_core ∙ core_back;
        started = few_started;
        ends = its_ends;
        workers = seated;
        counts = all;
        total = ap sum all ∙ sum_counts (length takers) kept.new few;
        unstarted = λ i past within. ap (λ (xs : List ℕ). slice_get xs i) all
            ∙ count_none (length takers) ended.started kept.new seated i past within;
        untaken = λ i past. ap (λ (xs : List TakerState). slice_get xs i) its_takers
            ∙ kept.untaken i (rw (← its_started) past);
        count = ap length its_takers ∙ kept.count;
        kept = kept_by s.held;
        each = λ i b a first last. kept.each i b a first
            (subst (λ (xs : List TakerState). slice_get xs i ≡ Some a) its_takers last);
        held = its_held ∙ sym (gathered_held s.held (length takers) kept.holder);
        taken = rw (its_held, its_takers) kept.taken;
        holds = λ no. its_held ∙ ap kept_of (kept.holds (sym its_full ∙ no));
        full = λ yes.
            ap (λ (c : CoreState). length c.history) (its_core ∙ are.same)
            ∙ (kept.full (sym its_full ∙ yes)
            ∙ sym (ap (λ (c : CoreState). c.log) (its_core ∙ are.same)));
      }

-- a core has a seat for each worker
as_long : {A : Type 0} (xs : List A) (n : ℕ) (f : ℕ → A)
    → ((i : ℕ) → i < n → slice_get xs i ≡ Some (f i)) → n ≤ length xs
as_long xs zero f each = omega arith
as_long xs (suc n) f each = slice_get_within xs n (f n) (each n (omega arith))

pub seats_enough : (began : CoreState) (takers : List TakerState) (s : Station)
    → Keeps began takers s → length takers ≤ length s.core.seats
seats_enough began takers s kept =
    as_long s.core.seats (length takers) (λ i. Some (count_of_thread i kept.new)) kept.seated

-- nothing was served
pub unserved : (began : CoreState) (takers : List TakerState) (ended : Served)
    → ended.core ≡ began → ended.takers.items ≡ takers
    → ended.counts.items ≡ replicate (length takers) 0 → ended.held.items ≡ []
    → ended.started ≡ 0 → HaveEnded ended.started ended.ends → ended.full ≡ false
    → Serves began takers ended
unserved began takers ended its_core its_takers its_counts its_held its_started its_ends its_full =
    let all : ended.counts.items ≡ map (λ i. count_of_thread i []) (range_with_len 0 (length takers)) = its_counts ∙ zeros (length takers) 0 in
    record {
      new = [];
      core = its_core ∙ same_core began (record began { history = began.history ++ [] }) refl refl
          refl (sym (append-nil began.history)) refl;
      started = rw its_started (omega arith);
      ends = its_ends;
      workers = λ i d few. absurd (omega (arith, few));
      counts = all;
      total = ap sum all ∙ sum_counts (length takers) [] (λ i d few. absurd (omega (arith, few)));
      unstarted = λ i past few. ap (λ (xs : List ℕ). slice_get xs i) its_counts
          ∙ get_replicate 0 (length takers) i few;
      untaken = λ i past. ap (λ (xs : List TakerState). slice_get xs i) its_takers;
      count = ap length its_takers;
      kept = λ i. [];
      each = λ i b a first last.
          let here : slice_get takers i ≡ Some a = subst (λ (xs : List TakerState). slice_get xs i ≡ Some a) its_takers last in
          let same : b ≡ a = cc in
          subst (λ (x : TakerState). Worked began.history [] i b x []) same (idle began.history i b);
      held = its_held ∙ sym (gathered_nothing (λ i. []) (λ i. refl) (length takers));
      taken = rw (its_held, its_takers) (omega arith);
      holds = λ _. its_held;
      full = λ yes. let no = its_full in cc;
    }
