-- Steps that change nothing but the activation on their thread's top, as runs are told.
use Rattle.std.proofs.Common.{◌≡◌, ◌∙◌, ℕ, zero, suc, ◌+◌, ◌≤◌, Bool, false, if◌then◌else◌, List, [], ◌∷◌, ◌++◌, append_assoc, arith, length, refl, replicate, subst, sym, ap}
use Rattle.std.proofs.Math.Bool.{or-false}
use Rattle.std.proofs.lemmas.Bool.{false≢true}
use Rattle.std.proofs.lemmas.List.{append-nil, length-replicate}
use Rattle.checked.specs.GoingOn.{GoesOn, StepsAlone, more as goes_more, none}
use Rattle.drvhost_devices.specs.declared.manner.Detail.{Detail}
use Rattle.drvhost_devices.specs.declared.manner.Detail.TheVariants.{Every, Quiet}
use Rattle.answer_views.specs.declared.telling.Telling.{Telling}
use Rattle.answer_runs.specs.Repeats.{AreReplies, RepeatsBy}
use Rattle.answer_views.specs.Told.{GoesAlone, IsTelling, IsTold, TellsAlike, ToldAlone, ToldOnce, occurrences, occurs, told_line, unknown_step}
use Rattle.answer_runs.specs.Watching.{Takes, TellsOn}
use Rattle.answer_runs.proofs.Following.{run_more}
use Rattle.answer_runs.proofs.Observing.{takes_same}
use Rattle.answer_runs.proofs.Repeating.{added as added_one}
use Rattle.answer_views.proofs.ToldLines.{none_left, told_more, told_none}
use Rattle.answer_views.proofs.ToldOn.{telling_on}
use Rattle.model.specs.declared.event.Event.{Event}
use Rattle.model.specs.declared.event.Event.TheVariants.{Step}
use Rattle.model.specs.declared.event.Reply.{Reply}
use Rattle.model.specs.declared.event.Reply.TheVariants.{Stepped}
use Rattle.model.specs.Machine.{AppliesWhole, Machine, ShowsWhole, reply_to}
use Rattle.model.specs.Run.{Run, begun, run, step}
use Rattle.model.specs.Set.{Set}
use Rattle.model.specs.World.{World}
use Rattle.report.specs.Reply.{worded_line}
use Rattle.tell_json.specs.Telling.{LedgerGoesOn}
use Rattle.tell_uses.specs.Acting.{acting_in}
use Rattle.tell_uses.specs.Acts.{use_step}
use Rattle.tell_uses.specs.GoingOn.{GoingOnKeepsLedgers}
use Rattle.tell_uses.specs.Ledger.{LedgerState, Tells as TellsRun, TellsOn as LedgerTellsOn}

-- an event that is noted
pub noted_by : (m n : Machine) (e : Event) (reply : Reply) (l k : LedgerState)
    → AppliesWhole m e n reply
    → LedgerTellsOn n.set n.world e (use_step m.set m.world e) reply l k → LedgerGoesOn m e l k
noted_by m n e reply l k ran noted threads events shows tells =
    let on : LedgerTellsOn m.set n.world e (use_step m.set m.world e) reply l k =
    subst (λ (s : Set). LedgerTellsOn s n.world e (use_step m.set m.world e) reply l k) ran.set
    noted in
    on threads events (ap (λ (w : World). use_step m.set w e) shows.world)
    (ran.replies threads events shows)
    ((ran.shows threads events shows).world
    ∙ ap (λ (s : Set). (run s threads (events ++ e ∷ [])).world) ran.set) tells

-- where none was made
pub goes_nowhere : (e : Event) (m : Machine) → GoesAlone e m 0 m
goes_nowhere (Step t) m = none
goes_nowhere _ m = (refl, refl)

pub stays_on : (t : ℕ) (m : Machine) (k : ℕ) (n : Machine) → GoesOn t m k n → k ≡ 0 → n ≡ m
stays_on t m j n none is = refl
stays_on t m j o (goes_more k n p before applies alone) is = absurd (omega (arith, is))

-- a step more
pub goes_one : (t : ℕ) (m : Machine) (k : ℕ) (n o : Machine) (j : ℕ) → GoesOn t m k n
    → GoesOn t n j o → j ≤ 1 → 1 ≤ j → GoesOn t m (k + 1) o
goes_one t m k n o i before none few some = absurd (omega (arith, some))
goes_one t m k n o i before (goes_more j p q first applies alone) few some =
    let one : suc k ≡ k + 1 = omega arith in
    let zero : j ≡ 0 = omega (arith, few) in
    let same : p ≡ n = stays_on t n j p first zero in
    subst (λ (x : ℕ). GoesOn t m x o) one
    (goes_more k n o before
    (subst (λ (x : Machine). AppliesWhole x (Step t) o Stepped) same applies)
    (subst (λ (x : Machine). StepsAlone x.set x.world t o.world) same alone))

-- one line more of such events
pub told_one : (detail : Detail) (k number at : ℕ) (text before more : List ℕ)
    → ToldAlone detail number k text before → at ≡ number + k
    → ToldOnce detail at unknown_step before more → ToldAlone detail number (k + 1) text more
told_one detail k number at text before more (alike, told) numbered once =
    (alike, told_more detail k number at unknown_step text before more told numbered once)

-- none is told yet
pub alone_none : (number : ℕ) (text : List ℕ) → ToldAlone Every number 0 text text
alone_none number text = (λ acting. refl, told_none Every number unknown_step text)

-- in quiet nothing is told
pub told_quiet : (number k : ℕ) (text : List ℕ) → ToldAlone Quiet number k text text
told_quiet number k text =
    (λ acting. refl, ([], sym (append-nil text), none_left Quiet k number unknown_step refl))

-- a step more was run
module _ (set : Set) (threads : ℕ) (e : Event) where
  are_more : (k : ℕ) (past : List Event) → AreReplies set threads past e (replicate k Stepped)
      → Stepped ≡ reply_to set threads (past ++ replicate k e) e
      → AreReplies set threads past e (replicate (suc k) Stepped)
  are_more zero past are is =
      (subst (λ (es : List Event). Stepped ≡ reply_to set threads es e) (append-nil past) is, tt)
  are_more (suc k) past are is = (
    are.0,
    are_more k (past ++ e ∷ []) are.1
        (subst (λ (es : List Event). Stepped ≡ reply_to set threads es e)
        (sym (append_assoc past (e ∷ []) (replicate k e))) is),
  )

abbrev Steps : Machine → Event → Machine → ℕ → Type 0
Steps m e n k = RepeatsBy (λ (x : Machine). x.set) ShowsWhole m e n (replicate k Stepped)

more_ran : (m n o : Machine) (e : Event) (k : ℕ) → Steps m e n k → AppliesWhole n e o Stepped
    → Steps m e o (suc k)
more_ran m n o e k ran applies =
    let same : length (replicate k Stepped) ≡ k = length-replicate k Stepped in
    let one_more : k + 1 ≡ suc k = omega arith in
    let shown : (threads : ℕ) (past : List Event) → ShowsWhole m threads past
    → ShowsWhole n threads (past ++ replicate k e) =
    λ threads past shows. subst (λ (j : ℕ). ShowsWhole n threads (past ++ replicate j e)) same
    (ran.shows threads past shows) in
    record {
      set = applies.set ∙ ran.set;
      shows = λ threads past shows.
          subst (λ (j : ℕ). ShowsWhole o threads (past ++ replicate j e))
          (one_more ∙ sym (length-replicate (suc k) Stepped))
          (subst (λ (es : List Event). ShowsWhole o threads es) (added_one e k past)
          (applies.shows threads (past ++ replicate k e) (shown threads past shows)));
      are = λ threads past shows.
          are_more m.set threads e k past (ran.are threads past shows)
          (subst (λ (s : Set). Stepped ≡ reply_to s threads (past ++ replicate k e) e) ran.set
          (applies.replies threads (past ++ replicate k e) (shown threads past shows)));
    }

alone_ran : (t : ℕ) (m : Machine) (k : ℕ) (n : Machine) → GoesOn t m k n → Steps m (Step t) n k
alone_ran t m j n none =
    record {
      set = refl;
      shows = λ threads past shows.
          subst (λ (es : List Event). ShowsWhole m threads es) (sym (append-nil past)) shows;
      are = λ threads past shows. tt;
    }
alone_ran t m j p (goes_more k n o before applies alone) =
    more_ran m n o (Step t) k (alone_ran t m k n before) applies

-- steps are told, whatever acted in them
module _ (detail : Detail) (alike : TellsAlike detail) (set : Set) (threads : ℕ) (e : Event) where
  alone_told : (k number : ℕ) (past : List Event) (added : List ℕ)
      → AreReplies set threads past e (replicate k Stepped)
      → IsTold detail number (replicate k unknown_step) added
      → IsTold detail number (occurrences set (run set threads past) (replicate k e)) added
  alone_told zero number past added are told = told
  alone_told (suc k) number past added are (words, (later, is, rest)) =
      let here = run set threads past in
      let acting = acting_in set here.world e in
      let same : told_line detail number unknown_step words
      ≡ told_line detail number (occurs acting (step set here e).reply) words =
      ap (λ (b : Bool). if b then [] else worded_line number Stepped words) (sym (alike acting))
      ∙ ap (λ (r : Reply). told_line detail number (occurs acting r) words) are.0 in
      let behind : IsTold detail (number + 1)
      (occurrences set (step set here e).run (replicate k e)) later =
      subst (λ (r : Run). IsTold detail (number + 1) (occurrences set r (replicate k e)) later)
      (run_more set (begun set threads) past e)
      (alone_told k (number + 1) (past ++ e ∷ []) later are.1 rest) in
      (words, (later, is ∙ ap (λ (x : List ℕ). x ++ later) same, behind))

-- they are taken, and the telling goes on
module _ (m n : Machine) (k : ℕ) (some : 1 ≤ k) where
  pub alone_takes : (e : Event) → GoesAlone e m k n
      → Takes (λ (x : Machine). x.set) ShowsWhole m e n k false
  alone_takes (Step t) goes =
      takes_same (λ (x : Machine). x.set) ShowsWhole m n (Step t) k Stepped (alone_ran t m k n goes)
      some (λ ends. absurd (false≢true ends))
  alone_takes e goes = absurd (omega (arith, goes.0, some))

  pub alone_telling : GoingOnKeepsLedgers → (e : Event) (old new : Telling) → GoesAlone e m k n
      → new.page.detail ≡ old.page.detail → new.page.number ≡ old.page.number + k
      → new.refused ≡ old.refused → new.sight.ledger ≡ old.sight.ledger
      → ToldAlone old.page.detail old.page.number k old.page.text.items new.page.text.items
      → TellsOn (λ (x : Machine). x.set) ShowsWhole IsTelling IsTelling m old new (replicate k e)
  alone_telling law (Step t) old new goes detail number refused ledger
      (alike, (added, is, told)) =
      let ran = alone_ran t m k n goes in
      telling_on m n (Step t) Stepped k old new ran some detail number
      (refused ∙ sym (or-false old.refused))
      (λ threads past shows tells.
      subst (λ (l : LedgerState). TellsRun (run m.set threads (past ++ replicate k (Step t))) l)
      (sym ledger) (law t k m n old.sight.ledger threads past goes shows tells))
      (λ threads past shows. (
        added,
        is,
        alone_told old.page.detail alike m.set threads (Step t) k old.page.number past added
            (ran.are threads past shows) told,
      ))
  alone_telling law e old new goes detail number refused ledger told =
      absurd (omega (arith, goes.0, some))
