-- What is kept of a run, with more of it.
use Rattle.std.proofs.Common.{◌≡◌, ◌∙◌, ◌+◌, ◌<◌, ◌≤◌, ℕ, List, [], ◌∷◌, ◌++◌, append_assoc, arith, get_or, length, set, take, refl, replicate, sym, ap, subst}
use Rattle.std.proofs.lemmas.List.{append-nil, length-append, length-replicate, length-set, replicate-append-replicate, take_all, take_more, take_more_set}
use Rattle.interleave.specs.declared.read.Repeated.{Repeated}
use Rattle.model.specs.declared.event.Event.{Event}
use Rattle.model.specs.declared.event.Event.TheVariants.{Step}
use Rattle.model.specs.declared.event.Reply.{Reply}
use Rattle.model.specs.History.{replies}
use Rattle.model.specs.Machine.{Machine}
use Rattle.model.specs.Run.{begun}
use Rattle.model.specs.Set.{Set}
use Rattle.scenario_world.specs.declared.until.Until.{Until}
use Rattle.scenario_run.specs.declared.runner.Runner.{Runner}
use Rattle.scenario_run.specs.declared.told.Told.{Told}
use Rattle.scenario_run.specs.declared.walking.Walked.{Walked}
use Rattle.scenario_run.specs.Past.{IsPast, events_of}
use Rattle.scenario_run.specs.Running.{Runs, RunsOn, StaysBegun}
use Rattle.scenario_run.specs.Told.{Adds, AreTold}
use Rattle.scenario_run.specs.Walking.{WalksOn, replied, steps_in}
use Rattle.scenario_run.proofs.Going.{replies_more}

-- the events with those of an entry more
pub events_more : (past : List Repeated) (h : Repeated)
    → events_of (past ++ h ∷ []) ≡ events_of past ++ replicate h.count h.event
events_more [] h = append-nil (replicate h.count h.event)
events_more (x ∷ past) h =
    ap (λ (later : List Event). replicate x.count x.event ++ later) (events_more past h)
    ∙ sym (append_assoc (replicate x.count x.event) (events_of past) (replicate h.count h.event))

-- those of so many entries, and of the next one
pub events_further : (past : List Repeated) (i : ℕ) (d : Repeated) → i < length past
    → events_of (take (i + 1) past)
    ≡ events_of (take i past) ++ replicate (get_or past i d).count (get_or past i d).event
events_further past i d inside =
    ap (λ (xs : List Repeated). events_of xs) (take_more past i d inside)
    ∙ events_more (take i past) (get_or past i d)

-- an entry that happens as often again
pub events_again : (past : List Repeated) (last h : Repeated) → last.event ≡ h.event
    → events_of (past ++ record { event = h.event; count = last.count + h.count } ∷ [])
    ≡ events_of (past ++ last ∷ []) ++ replicate h.count h.event
events_again past last h same =
    let e : Event = h.event in
    let times : ℕ → List Event = λ n. replicate n e in
    events_more past (record { event = e; count = last.count + h.count })
    ∙ ap (λ (later : List Event). events_of past ++ later)
    (sym (replicate-append-replicate last.count h.count e))
    ∙ sym (append_assoc (events_of past) (times last.count) (times h.count))
    ∙ ap (λ (x : Event). (events_of past ++ replicate last.count x) ++ times h.count) (sym same)
    ∙ ap (λ (earlier : List Event). earlier ++ times h.count) (sym (events_more past last))

-- the same where the entry is the one at the last place
module _ (past : List Repeated) (place : ℕ) (last : Repeated) (ends : place + 1 ≡ length past)
    (there : last ≡ get_or past place last) where
  abbrev front : List Repeated
  front = take place past

  pub last_split : past ≡ front ++ last ∷ []
  last_split =
      sym (take_all (place + 1) past (omega (arith, ends)))
      ∙ take_more past place last (omega (arith, ends))
      ∙ ap (λ (h : Repeated). front ++ h ∷ []) (sym there)

  pub events_again_at : (h : Repeated) → last.event ≡ h.event → (now : List Repeated)
      → now ≡ set past place (record { event = h.event; count = last.count + h.count })
      → events_of now ≡ events_of past ++ replicate h.count h.event
  events_again_at h same now changed =
      let entry : Repeated = record { event = h.event; count = last.count + h.count } in
      let long : length (set past place entry) ≤ place + 1 =
      omega (arith, length-set past place entry, ends) in
      let split : set past place entry ≡ front ++ entry ∷ [] =
      sym (take_all (place + 1) (set past place entry) long)
      ∙ take_more_set past place entry (omega (arith, ends)) in
      ap (λ (xs : List Repeated). events_of xs) (changed ∙ split)
      ∙ events_again front last h same
      ∙ ap (λ (xs : List Repeated). events_of xs ++ replicate h.count h.event) (sym last_split)

-- there are at least as many events as an entry has
pub last_few : (past : List Repeated) (last : Repeated)
    → last.count ≤ length (events_of (past ++ last ∷ []))
last_few past last =
    let all = ap (λ (es : List Event). length es) (events_more past last) in
    let both = length-append (events_of past) (replicate last.count last.event) in
    let times = length-replicate last.count last.event in
    omega (arith, all, both, times)

module _ (r n : Runner) (threads count : ℕ) (past later : List Repeated) (told now : Told)
    (same : n.machine.set ≡ r.machine.set) (is : IsPast r threads count past told) where
  -- an entry more, by which the run goes on
  pub past_longer : (h : Repeated) (more : List Reply)
      → events_of later ≡ events_of past ++ replicate h.count h.event
      → Runs n threads (events_of past ++ replicate h.count h.event)
      → replies r.machine.set threads (events_of past ++ replicate h.count h.event)
      ≡ replies r.machine.set threads (events_of past) ++ more
      → Adds told more now → IsPast n threads (count + h.count) later now
  past_longer h more all runs replied adds =
      let events : List Event = events_of past in
      let added : List Event = replicate h.count h.event in
      let long : length (events ++ added) ≡ length events + length added =
      length-append events added in
      let times : length added ≡ h.count = length-replicate h.count h.event in
      let counts : count + h.count ≡ length (events ++ added) =
      omega (arith, is.counts, long, times) in
      record {
        some = is.some;
        few = is.few;
        runs = subst (λ (es : List Event). Runs n threads es) (sym all) runs;
        counts = counts ∙ ap (λ (es : List Event). length es) (sym all);
        tells = subst (λ (rs : List Reply). AreTold now rs)
            (sym replied
            ∙ ap (λ (s : Set). replies s threads (events ++ added)) (sym same)
            ∙ ap (λ (es : List Event). replies n.machine.set threads es) (sym all))
            (adds (replies r.machine.set threads events) is.tells);
      }

-- an event more
pub past_more : (r n : Runner) (threads count : ℕ) (past later : List Repeated)
    (told now : Told) (e : Event) (reply : Reply)
    → events_of later ≡ events_of past ++ replicate 1 e → RunsOn r e n reply
    → Adds told (reply ∷ []) now → IsPast r threads count past told
    → IsPast n threads (count + 1) later now
past_more r n threads count past later told now e reply all on adds is =
    let events : List Event = events_of past in
    let h : Repeated = record { event = e; count = 1 } in
    past_longer r n threads count past later told now on.set is h (reply ∷ []) all
    (on.runs threads events is.runs)
    (replies_more r.machine.set (begun r.machine.set threads) events e
    ∙ ap (λ (y : Reply). replies r.machine.set threads events ++ y ∷ [])
    (sym (on.replies threads events is.runs))) adds

-- steps that a thread made
pub past_walked : (until : Until) (r n : Runner) (t threads count : ℕ) (w : Walked)
    (past later : List Repeated) (told now : Told) → events_of later ≡ events_of past ++ replicate (steps_in w) (Step t)
    → WalksOn until t r w n → Adds told (replied w.made w.last) now → IsPast r threads count past told
    → IsPast n threads (count + steps_in w) later now
past_walked until r n t threads count w past later told now all walks adds is =
    let events : List Event = events_of past in
    let h : Repeated = record { event = Step t; count = steps_in w } in
    past_longer r n threads count past later told now walks.set is h (replied w.made w.last) all
    (walks.runs threads events is.runs) (walks.replies threads events is.runs) adds

-- with a ledger that begins where nothing has happened
no_events : (events : List Event) → 0 ≡ length events → events ≡ []
no_events [] none = refl
no_events (e ∷ events) none = absurd (omega (arith, none))

pub past_begun : (r n : Runner) (threads count : ℕ) (past : List Repeated) (told : Told)
    → count ≡ 0 → n.machine ≡ r.machine → StaysBegun threads r n
    → IsPast r threads count past told → IsPast n threads count past told
past_begun r n threads count past told first same begun is =
    let none : events_of past ≡ [] = no_events (events_of past) (sym first ∙ is.counts) in
    record {
      some = is.some;
      few = is.few;
      runs = subst (λ (es : List Event). Runs n threads es) (sym none)
          (begun (subst (λ (es : List Event). Runs r threads es) none is.runs));
      counts = is.counts;
      tells = subst (λ (m : Machine). AreTold told (replies m.set threads (events_of past)))
          (sym same) is.tells;
    }
