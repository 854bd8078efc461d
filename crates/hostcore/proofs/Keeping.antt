-- What a core keeps, where an event is added to its history, and where one is left out.
use Rattle.std.proofs.Common.{◌≡◌, ℕ, ◌+◌, ◌≤◌, ◌<◌, inl, inr, List, [], ◌∷◌, ◌++◌, length, true, false, Option, None, Some, refl, sym, subst, ap, ◌∙◌, arith}
use Rattle.std.specs.Prelude.{All, IfSome, nat_eq, replicate, slice_get, slice_index_or}
use Rattle.model.specs.declared.limits.TheConstants.{MAX_HISTORY}
use Rattle.std.proofs.lemmas.Bool.{cases_lt, eqb-false}
use Rattle.std.proofs.lemmas.List.{length-append, map-append}
use Rattle.std.proofs.lemmas.Option.{get_or_from_slice_get, slice_get_within}
use Rattle.std.proofs.lemmas.List.Elements.{All-replicate, All-set}
use Rattle.model.specs.declared.event.Event.{Event}
use Rattle.model.specs.declared.event.Reply.{Reply}
use Rattle.model.specs.declared.event.Reply.TheVariants.{Waited, Idle}
use Rattle.model.specs.declared.history.Command.{Command}
use Rattle.model.specs.declared.history.Command.TheVariants.{Cancel, Interrupt, Request}
use Rattle.model.specs.declared.history.Entry.{Entry}
use Rattle.model.specs.History.{IsLegal, event_of, events_of, is_kept, replies_from}
use Rattle.model.specs.Machine.{Applies, Shows, reply_to}
use Rattle.model.specs.Run.{Run, begun, run, run_from, step, thread_of}
use Rattle.model.specs.Set.{Set}
use Rattle.model.specs.Shown.{Shown, ShowsWorld}
use Rattle.model.specs.World.{World}
use Rattle.laws_runs.specs.NeverStops.{LetsGoOn}
use Rattle.laws_runs.specs.Rules.{KeepsTheRules}
use Rattle.laws_runs.specs.Waits.{WaitingChangesNothing, says_unchanged}
use Rattle.hostcore.specs.Core.{Log, counted, counted_at}
use Rattle.hostcore.specs.Kept.{IsKept}

-- the replies to one event more
replies_more : (set : Set) (r : Run) (events : List Event) (e : Event)
    → replies_from set r (events ++ e ∷ [])
    ≡ replies_from set r events ++ (step set (run_from set r events) e).reply ∷ []
replies_more set r [] e = refl
replies_more set r (f ∷ events) e =
    ap (λ (rest : List Reply). (step set r f).reply ∷ rest)
    (replies_more set (step set r f).run events e)

events_more : (history : List Entry) (e : Entry)
    → events_of (history ++ e ∷ []) ≡ events_of history ++ e.event ∷ []
events_more history e = map-append (λ (x : Entry). x.event) history (e ∷ [])

legal_more : (set : Set) (threads : ℕ) (history : List Entry) (e : Entry)
    → IsLegal set threads history
    → e.reply ≡ reply_to set threads (events_of history) e.event
    → IsLegal set threads (history ++ e ∷ [])
legal_more set threads history e legal reply =
    map-append (λ (x : Entry). x.reply) history (e ∷ [])
    ∙ (ap (λ (x : List Reply). x ++ e.reply ∷ []) legal
    ∙ (ap (λ (x : Reply). replies_from set (begun set threads) (events_of history) ++ x ∷ []) reply
    ∙ (sym (replies_more set (begun set threads) (events_of history) e.event)
    ∙ ap (λ (x : List Event). replies_from set (begun set threads) x) (sym (events_more history e)))))

unkept_unchanged : (reply : Reply) → is_kept reply ≡ false → says_unchanged reply ≡ true
unkept_unchanged Waited h = refl
unkept_unchanged Idle h = refl
unkept_unchanged _ h = cc

-- a command as an event is about its thread or about none
pub own_event : (history : List Entry) (t : ℕ) (command : Command)
    → IfSome (thread_of (event_of history t command)) (λ s. s ≡ t)
own_event history t (Request device major argument) = refl
own_event history t (Cancel name level) = refl
own_event history t (Interrupt device) = tt

-- a count of entries is one of more
still_counted : (seat : Option ℕ) (n : ℕ) → IfSome seat (λ k. k ≤ n) → IfSome seat (λ k. k ≤ n + 1)
still_counted None n h = tt
still_counted (Some k) n h = omega arith

pub below : (n m : ℕ) → nat_eq n m ≡ false → n ≤ m → n < m
below n m apart le =
    elim (cases_lt n m) [
      | inl lt ↦ lt
      | inr ge ↦ absurd (eqb-false n m apart (omega arith))
    ]

abbrev CountsUpTo : ℕ → List (Option ℕ) → Type 0
CountsUpTo n seats = All (λ (seat : Option ℕ). IfSome seat (λ k. k ≤ n)) seats

still_all : (seats : List (Option ℕ)) (n : ℕ) → CountsUpTo n seats → CountsUpTo (n + 1) seats
still_all seats n h = λ k d within. still_counted (slice_index_or seats k d) n (h k d within)

counts_at : (seats : List (Option ℕ)) (t n : ℕ) (o : Option (Option ℕ)) → slice_get seats t ≡ o
    → CountsUpTo n seats → CountsUpTo (n + 1) (counted_at seats t o)
counts_at seats t n None there h = still_all seats n h
counts_at seats t n (Some None) there h = still_all seats n h
counts_at seats t n (Some (Some count)) there h =
    let at : t < length seats = slice_get_within seats t (Some count) there in
    let same : slice_index_or seats t None ≡ Some count = get_or_from_slice_get seats t (Some count) None there in
    let few : IfSome (slice_index_or seats t None) (λ k. k ≤ n) = h t None at in
    let few_there : count ≤ n =
    subst (λ (seat : Option ℕ). IfSome seat (λ k. k ≤ n)) same few in
    All-set (λ (seat : Option ℕ). IfSome seat (λ k. k ≤ n + 1)) seats t (Some (count + 1))
    (omega arith) (still_all seats n h)

module _ (before after : Shown) (threads : ℕ) (log : Log) (seats : List (Option ℕ)) (e : Event)
    (reply : Reply) (kept : IsKept before threads log seats)
    (applies : Applies before e after reply) where
  pub shows_next : Shows after threads (events_of log.entries ++ e ∷ [])
  shows_next = applies.shows threads (events_of log.entries) kept.shows

  pub reply_is : reply ≡ reply_to before.set threads (events_of log.entries) e
  reply_is = applies.replies threads (events_of log.entries) kept.shows

  -- no reply stops the run
  pub lets_go_on : LetsGoOn reply
  lets_go_on =
      subst (λ (x : Reply). LetsGoOn x) (sym reply_is)
      ((kept.rules (events_of log.entries)).lasting.replies e)

  still_rules : (events : List Event) → KeepsTheRules after.set threads events
  still_rules events = rw applies.set (kept.rules events)

  -- an event that is kept is one entry more
  kept_with : (entry : Entry) → entry.event ≡ e → entry.reply ≡ reply
      → nat_eq (length log.entries) log.most ≡ false
      → IsKept after threads (record log { entries = log.entries ++ entry ∷ [] })
      (counted seats entry.thread)
  kept_with entry event told room =
      let long : length (log.entries ++ entry ∷ []) ≡ length log.entries + 1 =
      length-append log.entries (entry ∷ []) in
      record {
        shows = subst (λ (events : List Event). Shows after threads events)
            (sym (events_more log.entries entry
            ∙ ap (λ (x : Event). events_of log.entries ++ x ∷ []) event)) shows_next;
        legal = rw applies.set (legal_more before.set threads log.entries entry kept.legal
            (told ∙ (reply_is
            ∙ ap (λ (x : Event). reply_to before.set threads (events_of log.entries) x)
            (sym event))));
        rules = still_rules;
        room = let less : length log.entries < log.most = below _ _ room kept.room in
            omega (arith, long, less);
        short = kept.short;
        counts = rw long (counts_at seats entry.thread (length log.entries)
            (slice_get seats entry.thread) refl kept.counts);
      }

  pub kept_more : (entry : Entry) (grown : Log) (more : List (Option ℕ)) → entry.event ≡ e
      → entry.reply ≡ reply → nat_eq (length log.entries) log.most ≡ false
      → grown ≡ record log { entries = log.entries ++ entry ∷ [] }
      → more ≡ counted seats entry.thread → IsKept after threads grown more
  kept_more entry grown more event told room log_is seats_are =
      rw (log_is, seats_are) (kept_with entry event told room)

  -- one that says that nothing has changed leaves the world as it was
  pub world_same : WaitingChangesNothing → says_unchanged reply ≡ true
      → (run before.set threads (events_of log.entries ++ e ∷ [])).world
      ≡ (run before.set threads (events_of log.entries)).world
  world_same law says =
      law before.set threads (events_of log.entries) e
      (subst (λ (x : Reply). says_unchanged x ≡ true) reply_is says)

  pub kept_unchanged : WaitingChangesNothing → says_unchanged reply ≡ true
      → IsKept after threads log seats
  kept_unchanged law says =
      record {
        shows = subst (λ (s : Set). ShowsWorld after (run s threads (events_of log.entries)).world)
            (sym applies.set)
            (subst (λ (w : World). ShowsWorld after w) (world_same law says)
            (subst (λ (s : Set). ShowsWorld after
            (run s threads (events_of log.entries ++ e ∷ [])).world) applies.set shows_next));
        legal = rw applies.set kept.legal;
        rules = still_rules;
        room = kept.room;
        short = kept.short;
        counts = kept.counts;
      }

  -- so does one that isn't kept
  pub kept_same : WaitingChangesNothing → is_kept reply ≡ false → IsKept after threads log seats
  kept_same law waits = kept_unchanged law (unkept_unchanged reply waits)

-- a new core has an empty history and no seat given out
pub kept_new : (world : Shown) (threads most : ℕ) (log : Log) (seats : List (Option ℕ))
    → log ≡ record { most = most; entries = [] } → most ≤ MAX_HISTORY
    → seats ≡ replicate threads None → Shows world threads []
    → ((events : List Event) → KeepsTheRules world.set threads events)
    → IsKept world threads log seats
kept_new world threads most log seats empty few free shows rules =
    rw (empty, free)
    (record {
      shows = shows;
      legal = refl;
      rules = rules;
      room = omega arith;
      short = few;
      counts = All-replicate (λ (seat : Option ℕ). IfSome seat (λ n. n ≤ 0)) threads None tt;
    })
