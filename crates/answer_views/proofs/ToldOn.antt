-- How the telling of a run goes on, where an event happens several times in a row.
use Rattle.std.proofs.Common.{◌≡◌, ◌∙◌, ℕ, zero, suc, ◌+◌, ◌≤◌, Bool, true, false, ◌||◌, List, [], ◌∷◌, ◌++◌, Option, inl, inr, refl, sym, ap, arith, length, replicate, subst, append_assoc, if◌then◌else◌}
use Rattle.std.proofs.lemmas.Bool.{cases_Bool}
use Rattle.std.proofs.lemmas.List.{append-nil, length-append, length-replicate}
use Rattle.std.proofs.lemmas.List.Folds.{list_any-append}
use Rattle.std.specs.List.{list_any}
use Rattle.drvhost_devices.specs.Answer.{is_last}
use Rattle.answer_views.specs.declared.page.Page.{Page}
use Rattle.drvhost_devices.specs.declared.manner.Detail.{Detail}
use Rattle.answer_views.specs.declared.telling.Telling.{Telling}
use Rattle.answer_runs.specs.Repeats.{RepeatsBy}
use Rattle.answer_views.specs.Seen.{HappensBefore}
use Rattle.answer_views.specs.Told.{InRuns, IsTelling, IsTold, Occurrence, ToldTimes, happens_again, has_occurred, is_left_out, occurrences, occurs, occurs_in, times_of, told_line}
use Rattle.answer_runs.specs.Watching.{Takes, TellsOn}
use Rattle.answer_runs.proofs.Following.{run_more}
use Rattle.answer_runs.proofs.Observing.{replies_told, takes_same}
use Rattle.answer_runs.proofs.Repeating.{again, once}
use Rattle.answer_views.proofs.Unchanged.{shown_same}
use Rattle.laws_runs.specs.Waits.{WaitingChangesNothing, says_unchanged}
use Rattle.model.specs.declared.event.Event.{Event}
use Rattle.model.specs.declared.event.Reply.{Reply}
use Rattle.model.specs.declared.event.Reply.TheVariants.{Stepped, Waited, Idle, Bug, Wrong}
use Rattle.model.specs.History.{replies}
use Rattle.model.specs.Machine.{AppliesWhole, Machine, ShowsWhole, reply_to}
use Rattle.model.specs.Run.{Run, begun, run, run_from, step}
use Rattle.model.specs.Set.{Set}
use Rattle.model.specs.World.{World}
use Rattle.report.specs.Reply.{worded_line}
use Rattle.tell_uses.specs.declared.acting.Acting.{Acting}
use Rattle.tell_uses.specs.Acting.{acting_in}
use Rattle.tell_uses.specs.Ledger.{LedgerState, Tells as TellsRun}
use Rattle.tell_words.specs.declared.line.Happened.{Happened}
use Rattle.tell_json.specs.Telling.{LedgerGoesOn, is_refused}

-- whether any of several that are the same is so
any_same : (f : Reply → Bool) (count : ℕ) (reply : Reply) → 1 ≤ count
    → list_any f (replicate count reply) ≡ f reply
any_same f zero reply some = absurd (omega (arith, some))
any_same f (suc zero) reply some =
    elim (cases_Bool (f reply)) [ inl is ↦ rw is refl | inr is ↦ rw is refl ]
any_same f (suc (suc count)) reply some =
    let later : list_any f (replicate (suc count) reply) ≡ f reply =
    any_same f (suc count) reply (omega arith) in
    elim (cases_Bool (f reply)) [
      | inl is ↦ rw is refl
      | inr is ↦ ap (λ (b : Bool). b || list_any f (replicate (suc count) reply)) is ∙ later
    ]

-- the occurrences of events, and of those after them
occurrences_on : (set : Set) (r : Run) (events more : List Event)
    → occurrences set r (events ++ more)
    ≡ occurrences set r events ++ occurrences set (run_from set r events) more
occurrences_on set r [] more = refl
occurrences_on set r (e ∷ events) more =
    ap (λ (later : List Occurrence). occurs (acting_in set r.world e) (step set r e).reply ∷ later)
    (occurrences_on set (step set r e).run events more)

length_occurrences : (set : Set) (r : Run) (events : List Event)
    → length (occurrences set r events) ≡ length events
length_occurrences set r [] = refl
length_occurrences set r (e ∷ events) =
    ap (λ n. suc n) (length_occurrences set (step set r e).run events)

-- what is told of occurrences, and of those after them
told_on : (detail : Detail) (number : ℕ) (some more : List Occurrence) (text added : List ℕ)
    → IsTold detail number some text → IsTold detail (number + length some) more added
    → IsTold detail number (some ++ more) (text ++ added)
told_on detail number [] more text added nothing told =
    let numbers : number + 0 ≡ number = omega arith in
    subst (λ (x : List ℕ). IsTold detail number more (x ++ added)) (sym nothing)
    (subst (λ (n : ℕ). IsTold detail n more added) numbers told)
told_on detail number (o ∷ some) more text added (words, (later, is, rest)) told =
    let numbers : number + suc (length some) ≡ number + 1 + length some = omega arith in (
      words,
      (
        later ++ added,
        ap (λ (x : List ℕ). x ++ added) is
            ∙ append_assoc (told_line detail number o words) later added,
        told_on detail (number + 1) some more later added rest
            (subst (λ (n : ℕ). IsTold detail n more added) numbers told),
      ),
    )

-- an event that a machine applies occurs as in its run
module _ (m n : Machine) (e : Event) (reply : Reply) (ran : AppliesWhole m e n reply) where
  occur_once : (threads : ℕ) (past : List Event) → ShowsWhole m threads past
      → occurs (acting_in m.set (run m.set threads past).world e)
      (step m.set (run m.set threads past) e).reply
      ≡ occurs_in m e reply
  occur_once threads past shows =
      ap (λ (w : World). occurs (acting_in m.set w e) (reply_to m.set threads past e))
      (sym shows.world)
      ∙ ap (λ (r : Reply). occurs_in m e r) (sym (ran.replies threads past shows))

  -- where nothing has changed by it
  module _ (law : WaitingChangesNothing) (same : says_unchanged reply ≡ true) where
    stays : (threads : ℕ) (past : List Event) → ShowsWhole m threads past
        → ShowsWhole m threads (past ++ e ∷ [])
    stays threads past shows =
        shown_same m threads past e law shows
        (ap (λ (r : Reply). says_unchanged r) (sym (ran.replies threads past shows)) ∙ same)

    occur_again : (count : ℕ) (threads : ℕ) (past : List Event) → ShowsWhole m threads past
        → occurrences m.set (run m.set threads past) (replicate count e)
        ≡ replicate count (occurs_in m e reply)
    occur_again zero threads past shows = refl
    occur_again (suc count) threads past shows =
        let after = (step m.set (run m.set threads past) e).run in
        ap (λ (o : Occurrence). o ∷ occurrences m.set after (replicate count e))
        (occur_once threads past shows)
        ∙ ap (λ (r : Run). occurs_in m e reply ∷ occurrences m.set r (replicate count e))
        (sym (run_more m.set (begun m.set threads) past e))
        ∙ ap (λ (later : List Occurrence). occurs_in m e reply ∷ later)
        (occur_again count threads (past ++ e ∷ []) (stays threads past shows))

    -- a ledger that it leaves as it was tells the run with it
    tell_again : (l : LedgerState) → LedgerGoesOn m e l l → (count : ℕ) (threads : ℕ)
        (past : List Event) → ShowsWhole m threads past → TellsRun (run m.set threads past) l
        → TellsRun (run m.set threads (past ++ replicate count e)) l
    tell_again l noted zero threads past shows tells =
        subst (λ (events : List Event). TellsRun (run m.set threads events) l)
        (sym (append-nil past)) tells
    tell_again l noted (suc count) threads past shows tells =
        subst (λ (events : List Event). TellsRun (run m.set threads events) l)
        (append_assoc past (e ∷ []) (replicate count e))
        (tell_again l noted count threads (past ++ e ∷ []) (stays threads past shows)
        (noted threads past shows tells))

-- an event that is told again has changed nothing, and one that ends the run isn't
unchanged_again : (reply : Reply) → happens_again reply ≡ true → says_unchanged reply ≡ true
unchanged_again Waited is = refl
unchanged_again Idle is = refl
unchanged_again _ is = cc

last_once : (reply : Reply) → is_last reply ≡ true → happens_again reply ≡ false
last_once (Bug bug) is = refl
last_once (Wrong place) is = refl
last_once _ is = cc

-- the same event so often as it is told at once
module _ (m n : Machine) (e : Event) (reply : Reply) (count : ℕ) (ran : AppliesWhole m e n reply)
    (law : WaitingChangesNothing) (some : 1 ≤ count) where
  abbrev times : ℕ
  times = times_of reply count

  abbrev ByTimes : ℕ → Type 0
  ByTimes k = RepeatsBy (λ (x : Machine). x.set) ShowsWhole m e n (replicate k reply)

  pub some_times : 1 ≤ times
  some_times =
      elim (cases_Bool (happens_again reply)) [
        | inl more ↦ rw more some
        | inr one ↦ rw one (omega arith)
      ]

  pub few_times : times ≤ count
  few_times =
      elim (cases_Bool (happens_again reply)) [
        | inl more ↦ rw more (omega arith)
        | inr one ↦ rw one some
      ]

  ran_times : ByTimes times
  ran_times =
      elim (cases_Bool (happens_again reply)) [
        | inl more ↦ rw more (again (λ (x : Machine). x.set) ShowsWhole m n e reply ran
            (stays m n e reply ran law (unchanged_again reply more)) count some)
        | inr one ↦ rw one (once (λ (x : Machine). x.set) ShowsWhole m n e reply ran)
      ]

  once_last : is_last reply ≡ true → times ≡ 1
  once_last ends = rw (last_once reply ends) refl

  pub takes_times : Takes (λ (x : Machine). x.set) ShowsWhole m e n times (is_last reply)
  takes_times =
      takes_same (λ (x : Machine). x.set) ShowsWhole m n e times reply ran_times some_times
      once_last

  occur_times : (threads : ℕ) (past : List Event) → ShowsWhole m threads past
      → occurrences m.set (run m.set threads past) (replicate times e)
      ≡ replicate times (occurs_in m e reply)
  occur_times threads past shows =
      elim (cases_Bool (happens_again reply)) [
        | inl more ↦ rw more (occur_again m n e reply ran law (unchanged_again reply more) count
            threads past shows)
        | inr one ↦ rw one (ap (λ (o : Occurrence). o ∷ []) (occur_once m n e reply ran threads past
            shows))
      ]

  tell_times : (l k : LedgerState) → LedgerGoesOn m e l k → (says_unchanged reply ≡ true → k ≡ l)
      → (threads : ℕ) (past : List Event) → ShowsWhole m threads past
      → TellsRun (run m.set threads past) l
      → TellsRun (run m.set threads (past ++ replicate times e)) k
  tell_times l k noted kept threads past shows tells =
      elim (cases_Bool (happens_again reply)) [
        | inl more ↦ (let same = unchanged_again reply more in
            let stayed : k ≡ l = kept same in
            rw more
            (subst (λ (x : LedgerState). TellsRun (run m.set threads (past ++ replicate count e)) x)
            (sym stayed)
            (tell_again m n e reply ran law same l
            (subst (λ (x : LedgerState). LedgerGoesOn m e l x) stayed noted) count threads past
            shows tells)))
        | inr one ↦ rw one (noted threads past shows tells)
      ]

-- events of a run were told behind those before them
abbrev pub ToldBehind : Machine → Event → ℕ → Page → List ℕ → Type 0
ToldBehind m e count old more =
    (threads : ℕ) (past : List Event) → ShowsWhole m threads past
    → (added : List ℕ) × (more ≡ old.text.items ++ added)
    × IsTold old.detail old.number
    (occurrences m.set (run m.set threads past) (replicate count e)) added

-- so the telling goes on
module _ (m n : Machine) (e : Event) (reply : Reply) (count : ℕ) (old new : Telling)
    (ran : RepeatsBy (λ (x : Machine). x.set) ShowsWhole m e n (replicate count reply))
    (some : 1 ≤ count) (detail : new.page.detail ≡ old.page.detail)
    (number : new.page.number ≡ old.page.number + count)
    (refuses : new.refused ≡ old.refused || is_refused reply)
    (tells : (threads : ℕ) (past : List Event) → ShowsWhole m threads past
    → TellsRun (run m.set threads past) old.sight.ledger
    → TellsRun (run m.set threads (past ++ replicate count e)) new.sight.ledger)
    (told : ToldBehind m e count old.page new.page.text.items) where
  all_told : (start : Telling) (threads : ℕ) (past : List Event) → ShowsWhole m threads past
      → IsTelling start old m.set threads past
      → IsTold new.page.detail 0
      (occurrences m.set (begun m.set threads) (past ++ replicate count e)) new.page.text.items
  all_told start threads past shows t =
      let before = occurrences m.set (begun m.set threads) past in
      let behind = occurrences m.set (run m.set threads past) (replicate count e) in
      let all = occurrences m.set (begun m.set threads) (past ++ replicate count e) in
      let place : old.page.number ≡ 0 + length before =
      omega (arith, t.numbered, length_occurrences m.set (begun m.set threads) past) in
      let (added, is, lines) = told threads past shows in
      let whole : IsTold old.page.detail 0 (before ++ behind) (old.page.text.items ++ added) =
      told_on old.page.detail 0 before behind old.page.text.items added t.told
      (subst (λ (k : ℕ). IsTold old.page.detail k behind added) place lines) in
      subst (λ (d : Detail). IsTold d 0 all new.page.text.items) (sym detail)
      (subst (λ (x : List ℕ). IsTold old.page.detail 0 all x) (sym is)
      (subst (λ (x : List Occurrence). IsTold old.page.detail 0 x (old.page.text.items ++ added))
      (sym (occurrences_on m.set (begun m.set threads) past (replicate count e))) whole))

  all_refused : (start : Telling) (threads : ℕ) (past : List Event) → ShowsWhole m threads past
      → IsTelling start old m.set threads past
      → new.refused ≡ list_any is_refused (replies m.set threads (past ++ replicate count e))
  all_refused start threads past shows t =
      let before = replies m.set threads past in
      let behind : List Reply = replicate count reply in
      let all : replies m.set threads (past ++ replicate count e) ≡ before ++ behind =
      ap (λ (k : ℕ). replies m.set threads (past ++ replicate k e))
      (sym (length-replicate count reply))
      ∙ replies_told m.set threads e behind past (ran.are threads past shows) in
      refuses ∙ ap (λ (b : Bool). b || is_refused reply) t.refused
      ∙ ap (λ (b : Bool). list_any is_refused before || b)
      (sym (any_same is_refused count reply some))
      ∙ sym (list_any-append is_refused before behind)
      ∙ sym (ap (λ (x : List Reply). list_any is_refused x) all)

  pub telling_on : TellsOn (λ (x : Machine). x.set) ShowsWhole IsTelling IsTelling m old new
      (replicate count e)
  telling_on start threads past shows t =
      record {
        detail = detail ∙ t.detail;
        numbered = omega (
          arith,
          number,
          t.numbered,
          length-append past (replicate count e),
          length-replicate count e,
        );
        told = all_told start threads past shows t;
        refused = all_refused start threads past shows t;
        tells = tells threads past shows t.tells;
      }

-- an event is told, and those behind it that do nothing
pub telling_next : WaitingChangesNothing → (m n : Machine) (e : Event) (reply : Reply)
    (count made : ℕ) (old new : Telling) → 1 ≤ count → made ≡ times_of reply count
    → AppliesWhole m e n reply → LedgerGoesOn m e old.sight.ledger new.sight.ledger
    → (says_unchanged reply ≡ true → new.sight.ledger ≡ old.sight.ledger)
    → new.page.detail ≡ old.page.detail → new.page.number ≡ old.page.number + made
    → new.refused ≡ old.refused || is_refused reply
    → InRuns m (ToldTimes old.page.detail old.page.number (occurs_in m e reply) made
    old.page.text.items new.page.text.items)
    → TellsOn (λ (x : Machine). x.set) ShowsWhole IsTelling IsTelling m old new (replicate made e)
telling_next law m n e reply count made old new some is ran noted kept detail number refuses told =
    subst (λ (k : ℕ). TellsOn (λ (x : Machine). x.set) ShowsWhole IsTelling IsTelling m old new
    (replicate k e)) (sym is)
    (telling_on m n e reply (times_of reply count) old new
    (ran_times m n e reply count ran law some) (some_times m n e reply count ran law some) detail
    (number ∙ ap (λ k. old.page.number + k) is) refuses
    (tell_times m n e reply count ran law some old.sight.ledger new.sight.ledger noted kept)
    (λ threads past shows.
    let (added, whole, lines) = told threads past shows in (
      added,
      whole,
      subst (λ (x : List Occurrence). IsTold old.page.detail old.page.number x added)
          (ap (λ k. replicate k (occurs_in m e reply)) is
          ∙ sym (occur_times m n e reply count ran law some threads past shows)) lines,
    )))

-- it goes on from a state in which as much is known, of a machine that is the same
pub telling_from : (m k : Machine) (events : List Event) (old mid new : Telling) → k ≡ m
    → mid.page.detail ≡ old.page.detail → mid.page.number ≡ old.page.number
    → mid.page.text.items ≡ old.page.text.items → mid.refused ≡ old.refused
    → mid.sight.ledger ≡ old.sight.ledger
    → TellsOn (λ (x : Machine). x.set) ShowsWhole IsTelling IsTelling k mid new events
    → TellsOn (λ (x : Machine). x.set) ShowsWhole IsTelling IsTelling m old new events
telling_from m k events old mid new same detail number text refused ledger on =
    subst (λ (x : Machine). TellsOn (λ (y : Machine). y.set) ShowsWhole IsTelling IsTelling x old
    new events) same
    (λ start threads past shows t.
    let all = occurrences k.set (begun k.set threads) past in
    let there : IsTelling start mid k.set threads past =
    record {
      detail = detail ∙ t.detail;
      numbered = number ∙ t.numbered;
      told = subst (λ (d : Detail). IsTold d 0 all mid.page.text.items) (sym detail)
          (subst (λ (x : List ℕ). IsTold old.page.detail 0 all x) (sym text) t.told);
      refused = refused ∙ t.refused;
      tells = subst (λ (l : LedgerState). TellsRun (run k.set threads past) l) (sym ledger)
          t.tells;
    } in
    on start threads past shows there)

-- an event that was seen is told as it occurs
pub seen_times : (detail : Detail) (number : ℕ) (m : Machine) (e : Event) (happened : Happened)
    (times : ℕ) (text more : List ℕ) → HappensBefore m e happened
    → ToldTimes detail number (has_occurred happened) times text more
    → InRuns m (ToldTimes detail number (occurs_in m e happened.reply) times text more)
seen_times detail number m e happened times text more before told =
    λ threads events shows. subst (λ (a : Option Acting).
    ToldTimes detail number (occurs a happened.reply) times text more)
    (before.acting threads events shows) told

-- a step that is left out is told by nothing
pub passed_once : (detail : Detail) (number : ℕ) (acting : Option Acting) (reply : Reply)
    (text : List ℕ) → is_left_out detail acting Stepped ≡ true → reply ≡ Stepped
    → ToldTimes detail number (occurs acting reply) 1 text text
passed_once detail number acting reply text out stepped =
    let none : told_line detail number (occurs acting reply) [] ≡ [] =
    ap (λ (b : Bool). if b then [] else worded_line number reply [])
    (ap (λ (r : Reply). is_left_out detail acting r) stepped ∙ out) in
    ([], sym (append-nil text), ([], ([], sym (ap (λ (x : List ℕ). x ++ []) none), refl)))
