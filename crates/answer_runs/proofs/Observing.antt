-- How the observation of a run goes on.
use Rattle.std.proofs.Common.{◌≡◌, ◌∙◌, ℕ, zero, suc, ◌+◌, ◌-◌, ◌^◌, ◌<◌, ◌≤◌, Bool, true, false, List, [], ◌∷◌, ◌++◌, length, replicate, Result, Ok, Err, inl, inr, refl, sym, ap, arith, subst, append_assoc, if◌then◌else◌}
use Rattle.std.proofs.lemmas.Bool.{cases_Bool}
use Rattle.std.proofs.lemmas.List.{append-nil, length-append, length-replicate, replicate-append-replicate}
use Rattle.std.specs.List.{list_any}
use Rattle.model.specs.declared.event.Event.{Event}
use Rattle.model.specs.declared.event.Reply.{Reply}
use Rattle.model.specs.History.{replies, replies_from}
use Rattle.model.specs.Run.{Run, begun, run, run_from, step}
use Rattle.model.specs.Set.{Set}
use Rattle.drvhost_devices.specs.declared.fault.End.{End}
use Rattle.drvhost_devices.specs.declared.fault.End.TheVariants.{Complete, Stopped}
use Rattle.drvhost_devices.specs.declared.fault.Fault.{Fault}
use Rattle.drvhost_devices.specs.Answer.{is_last, shown_replies}
use Rattle.answer_runs.specs.Repeats.{AreReplies, RepeatsBy}
use Rattle.answer_runs.specs.Watching.{BreaksOff, CanTell, Observes, RunsTo, ShowsOf, Takes, TellsOn, UpToLast, end_by, until_end}
use Rattle.answer_runs.proofs.Following.{any_on, counted, none_last, run_more}

-- the replies to events, and to those after them
pub replies_on : (set : Set) (r : Run) (events more : List Event)
    → replies_from set r (events ++ more)
    ≡ replies_from set r events ++ replies_from set (run_from set r events) more
replies_on set r [] more = refl
replies_on set r (e ∷ events) more =
    ap (λ later. (step set r e).reply ∷ later) (replies_on set (step set r e).run events more)

-- and to an event that happens once for each of these replies
pub replies_told : (set : Set) (threads : ℕ) (e : Event) (told : List Reply) (past : List Event)
    → AreReplies set threads past e told
    → replies set threads (past ++ replicate (length told) e) ≡ replies set threads past ++ told
replies_told set threads e [] past are =
    ap (λ (events : List Event). replies set threads events) (append-nil past)
    ∙ sym (append-nil (replies set threads past))
replies_told set threads e (reply ∷ told) past are =
    let more = replicate (length told) e in
    let one : replies set threads (past ++ e ∷ []) ≡ replies set threads past ++ reply ∷ [] =
    replies_on set (begun set threads) past (e ∷ [])
    ∙ ap (λ x. replies set threads past ++ x ∷ []) (sym are.0) in
    sym (ap (λ (events : List Event). replies set threads events) (append_assoc past (e ∷ []) more))
    ∙ replies_told set threads e told (past ++ e ∷ []) are.1
    ∙ ap (λ x. x ++ told) one
    ∙ append_assoc (replies set threads past) (reply ∷ []) told

pub length_replies : (set : Set) (r : Run) (events : List Event)
    → length (replies_from set r events) ≡ length events
length_replies set r [] = refl
length_replies set r (e ∷ events) = ap (λ n. suc n) (length_replies set (step set r e).run events)

-- the replies that are shown of a run are those up to its end
pub shown_until : (set : Set) (r : Run) (events : List Event)
    → shown_replies set r events ≡ replies_from set r (until_end set r events)
shown_until set r [] = refl
shown_until set r (e ∷ events) =
    elim (cases_Bool (is_last (step set r e).reply)) [
      | inl ends ↦ rw ends refl
      | inr goes ↦ rw goes
          (ap (λ later. (step set r e).reply ∷ later) (shown_until set (step set r e).run events))
    ]

pub shown_past : (set : Set) (threads : ℕ) (events past : List Event) (end : End)
    → RunsTo set threads events past end
    → shown_replies set (begun set threads) events ≡ replies set threads past
shown_past set threads events past end runs =
    shown_until set (begun set threads) events
    ∙ ap (λ (all : List Event). replies set threads all) runs.all

-- the events of a run from here on, where these are the first replies
abbrev until_told : Set → ℕ → List Event → List Event → List Reply → List Event
until_told set threads past rest told =
    if list_any is_last told then [] else until_end set (run set threads past) rest

module _ (set : Set) (threads : ℕ) (e : Event) (rest : List Event) where
  -- the first event, and those after it
  first_of : (reply : Reply) (later past : List Event)
      → reply ≡ (step set (run set threads past) e).reply
      → until_end set (run set threads past) (e ∷ later)
      ≡ e ∷ (if is_last reply then []
      else until_end set (run set threads (past ++ e ∷ [])) later)
  first_of reply later past is =
      let answered = step set (run set threads past) e in
      ap (λ x. e ∷ (if is_last x then [] else until_end set answered.run later)) (sym is)
      ∙ ap (λ (r : Run). e ∷ (if is_last reply then [] else until_end set r later))
      (sym (run_more set (begun set threads) past e))

  not_empty : (reply : Reply) (told : List Reply) → reply ∷ told ≡ [] → ⊥
  not_empty reply told is =
      let long : suc (length told) ≡ 0 = ap (λ (xs : List Reply). length xs) is in omega (arith, long)

  pub until_on : (told : List Reply) (past : List Event) → AreReplies set threads past e told
      → UpToLast told
      → until_end set (run set threads past) (replicate (length told) e ++ rest)
      ≡ replicate (length told) e
      ++ until_told set threads (past ++ replicate (length told) e) rest told
  until_on [] past are up =
      ap (λ (events : List Event). until_end set (run set threads events) rest)
      (sym (append-nil past))
  until_on (reply ∷ []) past are up =
      first_of reply rest past are.0
      ∙ elim (cases_Bool (is_last reply)) [
        | inl ends ↦ rw ends refl
        | inr goes ↦ rw goes refl
      ]
  until_on (reply ∷ (next ∷ told)) past are (inl none, up) = absurd (not_empty next told none)
  until_on (reply ∷ (next ∷ told)) past are (inr goes, up) =
      let more = replicate (length (next ∷ told)) e in
      first_of reply (more ++ rest) past are.0
      ∙ rw goes (ap (λ (x : List Event). e ∷ x)
      (until_on (next ∷ told) (past ++ e ∷ []) are.1 up)
      ∙ ap (λ (events : List Event). e ∷ (more ++ until_told set threads events rest (next ∷ told)))
      (append_assoc past (e ∷ []) more))

-- replies of which none but the last one ends a run
up_one : (reply : Reply) → UpToLast (reply ∷ [])
up_one reply = (inl refl, tt)

pub up_same : (count : ℕ) (reply : Reply) → (is_last reply ≡ true → count ≡ 1)
    → UpToLast (replicate count reply)
up_same zero reply once = tt
up_same (suc zero) reply once = up_one reply
up_same (suc (suc count)) reply once =
    elim (cases_Bool (is_last reply)) [
      | inl ends ↦ absurd (omega (arith, once ends))
      | inr goes ↦ (inr goes, up_same (suc count) reply (λ ends. absurd (omega (arith, once ends))))
    ]

pub any_same : (count : ℕ) (reply : Reply) → (is_last reply ≡ true → count ≡ 1) → 1 ≤ count
    → list_any is_last (replicate count reply) ≡ is_last reply
any_same zero reply once some = absurd (omega (arith, some))
any_same (suc count) reply once some =
    elim (cases_Bool (is_last reply)) [
      | inl ends ↦ rw ends refl
      | inr goes ↦ rw goes (none_last count reply goes)
    ]

-- an event was taken so often, with the same reply each time
pub takes_same : {M : Type 0} (set_of : M → Set) (ShowsRun : M → ℕ → List Event → Type 0)
    (m n : M) (e : Event) (count : ℕ) (reply : Reply)
    → RepeatsBy set_of ShowsRun m e n (replicate count reply) → 1 ≤ count
    → (is_last reply ≡ true → count ≡ 1)
    → Takes set_of ShowsRun m e n count (is_last reply)
takes_same set_of ShowsRun m n e count reply ran some once =
    record {
      told = replicate count reply;
      ran = ran;
      up = up_same count reply once;
      counted = length-replicate count reply;
      ends = any_same count reply once some;
    }

-- nothing is left of an event that has happened
pub none_left : (e : Event) (made : ℕ) (rest : List Event) → 1 ≤ made → made ≤ 1
    → replicate (1 - made) e ++ rest ≡ rest
none_left e made rest some few =
    let none : 1 - made ≡ 0 = omega (arith, some) in
    ap (λ n. replicate n e ++ rest) none

-- a run is observed, of which these events are still to come
pub record Observed {M W : Type 0} (set_of : M → Set) (ShowsRun : M → ℕ → List Event → Type 0)
    (Told : W → W → Set → ℕ → List Event → Type 0) (set : Set) (threads : ℕ) (events : List Event)
    (start : W) (m : M) (now : W) (rest : List Event) : Type 0 where
  pub past : List Event
  pub same : set_of m ≡ set
  pub shows : ShowsRun m threads past
  pub told : Told start now set threads past
  pub all : until_end set (begun set threads) events
      ≡ past ++ until_end set (run set threads past) rest
  pub none : list_any is_last (replies set threads past) ≡ false
  pub number : length past + length rest ≡ length events

module _ {M W : Type 0} (set_of : M → Set) (ShowsRun : M → ℕ → List Event → Type 0)
    (Told : W → W → Set → ℕ → List Event → Type 0)
    (Broken : W → W → Fault → Set → ℕ → List Event → Type 0) (threads : ℕ) (events : List Event)
    (start : W) where
  abbrev Observes_in : M → Set → W → Result End Fault → Type 0
  Observes_in m set now result =
      Observes (ShowsOf set_of ShowsRun m set) (Told start now set)
      (λ fault. Broken start now fault set) set threads events result

  pub observed_first : (m : M) → ShowsRun m threads [] → Told start start (set_of m) threads []
      → Observed set_of ShowsRun Told (set_of m) threads events start m start events
  observed_first m shows told =
      record {
        past = [];
        same = refl;
        shows = shows;
        told = told;
        all = refl;
        none = refl;
        number = omega arith;
      }

  module _ (set : Set) (m : M) (now : W) where
    -- no event is left
    pub observed_all : Observed set_of ShowsRun Told set threads events start m now []
        → Observes_in m set now (Ok Complete)
    observed_all o = (
      o.past,
      record {
        all = o.all ∙ append-nil o.past;
        ends = sym (ap (λ b. end_by b) o.none);
      },
      (o.same, o.shows),
      o.told,
    )

    -- there is room to count the next ones
    pub observed_fits : (e : Event) (count : ℕ) (rest : List Event)
        → Observed set_of ShowsRun Told set threads events start m now (replicate count e ++ rest)
        → length events < 2 ^ 64 → CanTell set_of ShowsRun Told m now count
    observed_fits e count rest o limit = (
      start,
      threads,
      o.past,
      o.shows,
      subst (λ s. Told start now s threads o.past) (sym o.same) o.told,
      omega (arith, o.number, counted count e rest, limit),
    )

    module _ (e : Event) (count : ℕ) (rest : List Event)
        (o : Observed set_of ShowsRun Told set threads events start m now (replicate count e ++ rest))
      where
        -- those that were taken of an event, and those after them
        all_told : (told : List Reply) → AreReplies (set_of m) threads o.past e told → UpToLast told
            → length told ≤ count
            → until_end set (begun set threads) events
            ≡ (o.past ++ replicate (length told) e)
            ++ until_told set threads (o.past ++ replicate (length told) e)
            (replicate (count - length told) e ++ rest) told
        all_told told are up few =
            let are_in : AreReplies set threads o.past e told =
            subst (λ s. AreReplies s threads o.past e told) o.same are in
            let left = replicate (count - length told) e ++ rest in
            let some = replicate (length told) e in
            let whole : length told + (count - length told) ≡ count = omega (arith, few) in
            let split : replicate count e ++ rest ≡ some ++ left =
            ap (λ n. replicate n e ++ rest) (sym whole)
            ∙ ap (λ (xs : List Event). xs ++ rest)
            (sym (replicate-append-replicate (length told) (count - length told) e))
            ∙ append_assoc some (replicate (count - length told) e) rest in
            o.all
            ∙ ap (λ (xs : List Event). o.past ++ until_end set (run set threads o.past) xs) split
            ∙ ap (λ (x : List Event). o.past ++ x)
            (until_on set threads e left told o.past are_in up)
            ∙ sym (append_assoc o.past some (until_told set threads (o.past ++ some) left told))

        -- the telling breaks off
        pub observed_broken : (next : W) (fault : Fault)
            → BreaksOff set_of ShowsRun Told (λ a b. Broken a b fault) m e now next count
            → (n : M) → Observes_in n set next (Err fault)
        observed_broken next fault b n =
            let told : Told start now (set_of m) threads o.past =
            subst (λ s. Told start now s threads o.past) (sym o.same) o.told in (
              o.past ++ replicate (length b.told) e,
              (_, all_told b.told (b.are threads o.past o.shows) b.up b.few),
              subst (λ s. Broken start next fault s threads (o.past ++ replicate (length b.told) e))
                  o.same (b.breaks start threads o.past o.shows told),
            )

        module _ (n : M) (next : W) (made : ℕ) (ended : Bool)
            (t : Takes set_of ShowsRun m e n made ended) (few : made ≤ count)
            (on : TellsOn set_of ShowsRun Told Told m now next (replicate made e)) where
          abbrev later : List Event
          later = o.past ++ replicate made e

          shows_later : ShowsRun n threads later
          shows_later =
              subst (λ k. ShowsRun n threads (o.past ++ replicate k e)) t.counted
              (t.ran.shows threads o.past o.shows)

          told_later : Told start next set threads later
          told_later =
              subst (λ s. Told start next s threads later) o.same
              (on start threads o.past o.shows
              (subst (λ s. Told start now s threads o.past) (sym o.same) o.told))

          are_told : AreReplies (set_of m) threads o.past e t.told
          are_told = t.ran.are threads o.past o.shows

          all_later : until_end set (begun set threads) events
              ≡ later ++ until_told set threads later (replicate (count - made) e ++ rest) t.told
          all_later =
              subst (λ k. until_end set (begun set threads) events
              ≡ (o.past ++ replicate k e)
              ++ until_told set threads (o.past ++ replicate k e)
              (replicate (count - k) e ++ rest) t.told) t.counted
              (all_told t.told are_told t.up (omega (arith, t.counted, few)))

          any_later : list_any is_last (replies set threads later) ≡ ended
          any_later =
              ap (λ rs. list_any is_last rs)
              (ap (λ k. replies set threads (o.past ++ replicate k e)) (sym t.counted)
              ∙ replies_told set threads e t.told o.past
              (subst (λ s. AreReplies s threads o.past e t.told) o.same are_told))
              ∙ any_on (replies set threads o.past) t.told o.none ∙ t.ends

          -- what is still to come, by whether the run ends with it
          until_later : (ends : Bool) → ended ≡ ends → until_end set (begun set threads) events
              ≡ later ++ (if ends then []
              else until_end set (run set threads later) (replicate (count - made) e ++ rest))
          until_later ends is =
              all_later
              ∙ ap (λ (b : Bool). later ++ (if b then []
              else until_end set (run set threads later) (replicate (count - made) e ++ rest)))
              (t.ends ∙ is)

          -- the run ends with it
          pub observed_end : ended ≡ true → Observes_in n set next (Ok Stopped)
          observed_end ends = (
            later,
            record {
              all = until_later true ends ∙ append-nil later;
              ends = sym (ap (λ b. end_by b) (any_later ∙ ends));
            },
            (t.ran.set ∙ o.same, shows_later),
            told_later,
          )

          -- or goes on
          pub observed_on : (left : List Event) → ended ≡ false
              → replicate (count - made) e ++ rest ≡ left
              → Observed set_of ShowsRun Told set threads events start n next left
          observed_on left goes same =
              subst (λ (xs : List Event). Observed set_of ShowsRun Told set threads events start n next
              xs) same
              (record {
                past = later;
                same = t.ran.set ∙ o.same;
                shows = shows_later;
                told = told_later;
                all = until_later false goes;
                none = any_later ∙ goes;
                number = omega (
                  arith,
                  o.number,
                  few,
                  counted count e rest,
                  counted (count - made) e rest,
                  length-append o.past (replicate made e),
                  length-replicate made e,
                );
              })
