-- What a turn of a worker keeps.
use Rattle.std.proofs.Common.{◌≡◌, ℕ, ◌+◌, ◌<◌, inl, inr, Bool, true, false, List, [], ◌∷◌, ◌++◌, Option, None, Some, get_or, length, refl, sym, subst, ap, ◌∙◌, arith, length-append}
use Rattle.std.specs.Prelude.{◌⊎◌, MatchBool, slice_get, slice_set}
use Rattle.std.proofs.lemmas.List.FromFn.{get_or-range_with_len, length-range_with_len}
use Rattle.std.proofs.lemmas.Option.{slice_get-get_or, slice_get_read}
use Rattle.model.specs.declared.event.Event.{Event}
use Rattle.model.specs.declared.event.Event.TheVariants.{Dpc, StartIo, Step}
use Rattle.model.specs.declared.history.Entry.{Entry}
use Rattle.model.specs.History.{NamedCommand}
use Rattle.model.specs.View.{busy_at}
use Rattle.model.specs.World.{World}
use Rattle.hostcore.specs.Core.{CoreState, count_of, entry_in, event_in, world_of}
use Rattle.atomic_table.specs.Seated.{TableId}
use Rattle.intake.specs.Ends.{AreTakersOf, TakerState}
use Rattle.workers.specs.declared.locked.Held.{Held}
use Rattle.workers.specs.declared.turns.Turn.TheVariants.{Entered, Full}
use Rattle.workers.specs.Kept.{Keeps, Station, held_by, station}
use Rattle.workers.specs.Turned.{IsFirstDue, Turned, start_by, took}
use Rattle.workers.specs.Worked.{IsCommand, IsOwn, IsOwnEvent, count_named, count_of_thread}
use Rattle.workers.proofs.Counting.{named_more, named_same, set_self, worked_command, worked_own}
use Rattle.workers.proofs.Entering.{entered, its_work, kept_command, met_full}

-- what an idle thread starts is its own
started_own : (first second : Bool) (t d : ℕ) (event : Event)
    → start_by (first, second) t d ≡ Some event
    → (event ≡ StartIo t d) ⊎ (event ≡ Dpc t d)
started_own true second t d event h = let same : event ≡ StartIo t d = cc in inl same
started_own false true t d event h = let same : event ≡ Dpc t d = cc in inr same
started_own false false t d event h = cc

next_own : (w : World) (t : ℕ) (event : Event) (busy : Bool)
    → MatchBool busy (Some event ≡ Some (Step t)) (IsFirstDue w t (Some event))
    → IsOwnEvent t event
next_own w t event true h = let same : event ≡ Step t = cc in inl same
next_own w t event false h = inr (h.0, started_own _ _ t h.0 event h.1)

-- each worker has a seat
pub seats_long : (began : CoreState) (takers : List TakerState) (s : Station)
    → Keeps began takers s → length s.seats ≡ length takers
seats_long began takers s kept =
    ap length kept.seats ∙ length-range_with_len 0 (length takers)

-- a worker's seat is that of its thread
module _ (began : CoreState) (takers : List TakerState) (s : Station) (i : ℕ)
    (kept : Keeps began takers s) (within : i < length takers) where
  pub own_seat : slice_get s.seats i ≡ Some i
  own_seat =
      slice_get_read s.seats (length takers) i i (sym (seats_long began takers s kept)) within
      (sym (ap (λ (xs : List ℕ). get_or xs i i) kept.seats
      ∙ (get_or-range_with_len 0 (length takers) i i within ∙ omega arith)))

  pub is_own_seat : (seat : ℕ) → seat ≡ get_or s.seats i seat → seat ≡ i
  is_own_seat seat there =
      let here : slice_get s.seats i ≡ Some seat = slice_get_read s.seats (length takers) i seat (sym (seats_long began takers s kept)) within there in
      let its = own_seat in
      cc

  -- what it has counted
  pub seat_counts : (seat count : ℕ) → seat ≡ get_or s.seats i seat
      → count ≡ count_of (slice_get s.core.seats seat)
      → slice_get s.core.seats i ≡ Some (Some count)
  seat_counts seat count there is =
      let at = kept.seated i within in
      let same : count ≡ count_of_thread i kept.new = is
      ∙ ap (λ (t : ℕ). count_of (slice_get s.core.seats t)) (is_own_seat seat there)
      ∙ ap count_of at in
      at ∙ ap (λ (k : ℕ). Some (Some k)) (sym same)

-- an entry more makes the history longer by one
pub longer : (t : ℕ) (before after : CoreState) (taker taker' : TakerState)
    → Turned t before after taker taker' Entered
    → length after.history ≡ length before.history + 1
longer t before after taker taker' (inl turned) =
    let e : Entry = entry_in before t turned.0.event None in
    ap (λ (c : CoreState). length c.history) turned.0.entered
    ∙ length-append before.history (e ∷ [])
longer t before after taker taker' (inr takes) =
    let e : Entry = entry_in before t (event_in before t takes.asked) (Some takes.asked.name) in
    ap (λ (c : CoreState). length c.history) takes.entered
    ∙ length-append before.history (e ∷ [])

module _ (began : CoreState) (takers : List TakerState) (s : Station) (i : ℕ) (a : TakerState)
    (kept : Keeps began takers s) (within : i < length takers)
    (read : a ≡ get_or s.takers i a) where
  some : slice_get takers i ≡ Some (get_or takers i a)
  some = slice_get-get_or takers i a within

  at : slice_get s.takers i ≡ Some a
  at = slice_get_read s.takers (length takers) i a (sym kept.count) within read

  seat_at : slice_get s.seats i ≡ Some i
  seat_at = own_seat began takers s i kept within

  -- the taker is one of the queue that those of the beginning are of
  pub its_queue : (queue : TableId) → AreTakersOf queue takers → a.queue ≡ queue
  its_queue queue are =
      (kept.each i (get_or takers i a) a some at).queue ∙ are i a within

  seat_is : (seat : ℕ) → seat ≡ get_or s.seats i seat → seat ≡ i
  seat_is = is_own_seat began takers s i kept within

  module _ (started : i < s.started) (going : s.full ≡ false) (core : CoreState)
      (after : TakerState) where
    keeps_entered : Turned i s.core core a after Entered
        → Keeps began takers (station core s.seats (slice_set s.takers i after) s.started s.held s.full)
    keeps_entered (inl turned) =
        let goes = turned.0 in
        let e : Entry = entry_in s.core i goes.event None in
        let its : IsOwn i e = record {
          thread = refl;
          event = next_own (world_of s.core) i goes.event (busy_at (world_of s.core) i) goes.next;
          name = refl;
        } in
        let same : count_named (kept.new ++ e ∷ []) ≡ count_named kept.new = named_same kept.new e refl in
        let unnamed_more : count_named (kept.new ++ e ∷ []) ≡ count_named kept.new + 0 = omega (arith, same) in
        let none_more : length a.taken ≡ length a.taken + 0 = omega arith in
        rw (goes.entered, turned.1)
        (entered began takers s i (get_or takers i a) a kept some at started going e a 0 refl
        unnamed_more none_more
        (worked_own began.history kept.new i (get_or takers i a) a [] e its
        (its_work began takers s i (get_or takers i a) a kept some at started going)))
    keeps_entered (inr takes) =
        let asked : NamedCommand = takes.asked in
        let e : Entry = entry_in s.core i (event_in s.core i asked) (Some asked.name) in
        let its : IsCommand (began.history ++ kept.new) i asked e = rw (← kept.history) (record {
          thread = refl;
          event = refl;
          name = refl;
        }) in
        rw (takes.entered, takes.taken)
        (entered began takers s i (get_or takers i a) a kept some at started going e (took a asked) 1 refl
        (named_more kept.new e asked.name refl) (length-append a.taken (asked ∷ []))
        (worked_command began.history kept.new i (get_or takers i a) a e asked its
        (its_work began takers s i (get_or takers i a) a kept some at started going)))

    keeps_full : Turned i s.core core a after (Full None)
        → Keeps began takers (station core s.seats (slice_set s.takers i after) s.started s.held true)
    keeps_full turned =
        rw (turned.1, turned.2, set_self s.takers i a at)
        (met_full began takers s i (get_or takers i a) a kept some at started going turned.0)

    keeps_command : (asked : NamedCommand) → Turned i s.core core a after (Full (Some asked))
        → Keeps began takers (station core s.seats (slice_set s.takers i after) s.started
        (Some (record { worker = i; taken = asked })) true)
    keeps_command asked turned =
        rw (turned.1, turned.2)
        (kept_command began takers s i (get_or takers i a) a kept some at started going asked turned.0)

    module _ (seat seat' : ℕ) (there : seat ≡ get_or s.seats i seat) (still : seat' ≡ seat) where
      seats_stay : slice_set s.seats i seat' ≡ s.seats
      seats_stay =
          ap (λ (t : ℕ). slice_set s.seats i t) (still ∙ seat_is seat there)
          ∙ set_self s.seats i i seat_at

      pub turn_entered : Turned seat s.core core a after Entered → Keeps began takers
          (station core (slice_set s.seats i seat') (slice_set s.takers i after) s.started s.held s.full)
      turn_entered turned =
          rw seats_stay (keeps_entered (subst (λ (t : ℕ). Turned t s.core core a after Entered)
          (seat_is seat there) turned))

      turn_full : Turned seat s.core core a after (Full None) → Keeps began takers
          (station core (slice_set s.seats i seat') (slice_set s.takers i after) s.started s.held true)
      turn_full turned =
          rw seats_stay (keeps_full (subst (λ (t : ℕ). Turned t s.core core a after (Full None))
          (seat_is seat there) turned))

      turn_command : (asked : NamedCommand)
          → Turned seat s.core core a after (Full (Some asked)) → Keeps began takers
          (station core (slice_set s.seats i seat') (slice_set s.takers i after) s.started
          (Some (record { worker = i; taken = asked })) true)
      turn_command asked turned =
          rw seats_stay (keeps_command asked
          (subst (λ (t : ℕ). Turned t s.core core a after (Full (Some asked)))
          (seat_is seat there) turned))

      pub turn_met : (taken : Option NamedCommand) → Turned seat s.core core a after (Full taken)
          → Keeps began takers (station core (slice_set s.seats i seat')
          (slice_set s.takers i after) s.started (held_by i taken) true)
      turn_met None turned =
          subst (λ (held : Option Held). Keeps began takers (station core
          (slice_set s.seats i seat') (slice_set s.takers i after) s.started held true))
          (kept.holds going) (turn_full turned)
      turn_met (Some asked) turned = turn_command asked turned
