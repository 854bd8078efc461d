-- The entries of lists are live packets, in every run of an accepted set: so keys that name other
-- packets after a step, but for live ones, name the same entries.
use Rattle.std.proofs.Common.{◌≡◌, ◌≤◌, ◌+◌, ℕ, true, List, [], ◌∷◌, Option, None, Some, refl, ◌∙◌, ap, map, is_some, arith, nat_eq, false}
use Rattle.std.specs.Prelude.{option_map, if◌then◌else◌, ⊤}
use Rattle.std.proofs.lemmas.Bool.{eq-eqb}
use Rattle.model.specs.declared.event.Event.{Event}
use Rattle.model.specs.declared.world.Packet.{Packet}
use Rattle.model.specs.Queues.{StartState}
use Rattle.model.specs.Run.{Run, run}
use Rattle.model.specs.Set.{Set}
use Rattle.model.specs.World.{Shared, packet_of}
use Rattle.laws_runs.specs.ArrivingStates.{States}
use Rattle.laws_runs.specs.Holder.{HasOneHolder, alive, holders, is_live, times_at, times_in, times_in_slot, times_listed, times_on, times_queued, times_started, times_waiting, times_to_start}
use Rattle.laws_slots.specs.Rep.{MeansShared, meant_lists, meant_start}
use Rattle.laws_slots.specs.Slots.{SlotShared}

times_own : (n more : ℕ) → 1 ≤ (if nat_eq n n then 1 else 0) + more
times_own n more = rw (eq-eqb n n refl) (omega arith)

-- how often a packet stands anywhere in what devices have for StartIo
abbrev times_anywhere : List StartState → ℕ → ℕ
times_anywhere [] n = 0
times_anywhere (start ∷ starts) n = times_at false start n + times_anywhere starts n

-- where it does, it stands in a list or in a current slot
anywhere_le : (set : Set) (d : ℕ) (starts : List StartState) (n : ℕ)
    → times_anywhere starts n ≤ times_to_start starts n + times_started set d starts n
anywhere_le set d [] n = omega arith
anywhere_le set d (start ∷ starts) n =
    omega (arith, anywhere_le set (d + 1) starts n)

module _ (s : Shared) where
  abbrev Lives : ℕ → Type 0
  Lives n = is_some (packet_of s n) ≡ true

  -- live packets
  abbrev AllLive : List ℕ → Type 0
  AllLive [] = ⊤
  AllLive (n ∷ entries) = Lives n × AllLive entries

  -- what stands in a list lives, if whatever stands in it does
  entries_live : (entries : List ℕ) → ((n : ℕ) → 1 ≤ times_in entries n → Lives n)
      → AllLive entries
  entries_live [] h = tt
  entries_live (n ∷ entries) h = (
    h n (times_own n (times_in entries n)),
    entries_live entries (λ m some. h m (omega arith)),
  )

  module _ (name other : ℕ → ℕ) (live : (j : ℕ) → Lives (name j) → other j ≡ name j) where
    list_renamed : (keys entries : List ℕ) → map name keys ≡ entries → AllLive entries
        → map other keys ≡ entries
    list_renamed [] entries is lives = is
    list_renamed (k ∷ keys) [] is lives = cc
    list_renamed (k ∷ keys) (n ∷ entries) is lives =
        let one : name k ≡ n = cc in
        let later : map name keys ≡ entries = cc in
        let first : other k ≡ n = live k (rw one lives.0) ∙ one in
        rw (first, list_renamed keys entries later lives.1) refl

    entries_renamed : (keys entries : List ℕ) → map name keys ≡ entries
        → ((n : ℕ) → 1 ≤ times_in entries n → Lives n) → map other keys ≡ entries
    entries_renamed keys entries is h =
        list_renamed keys entries is (entries_live entries h)

    lists_renamed : (keys lists : List (List ℕ)) → meant_lists name keys ≡ lists
        → ((n : ℕ) → 1 ≤ times_on lists n → Lives n) → meant_lists other keys ≡ lists
    lists_renamed [] lists is h = is
    lists_renamed (k ∷ keys) [] is h = cc
    lists_renamed (k ∷ keys) (entries ∷ lists) is h =
        let first : map name k ≡ entries = cc in
        let later : meant_lists name keys ≡ lists = cc in
        rw (
          entries_renamed k entries first (λ n some. h n (omega arith)),
          lists_renamed keys lists later (λ n some. h n (omega arith)),
        ) refl

    queues_renamed : (keys queues : List (List (List ℕ))) → map (meant_lists name) keys ≡ queues
        → ((n : ℕ) → 1 ≤ times_queued queues n → Lives n)
        → map (meant_lists other) keys ≡ queues
    queues_renamed [] queues is h = is
    queues_renamed (k ∷ keys) [] is h = cc
    queues_renamed (k ∷ keys) (lists ∷ queues) is h =
        let first : meant_lists name k ≡ lists = cc in
        let later : map (meant_lists name) keys ≡ queues = cc in
        rw (
          lists_renamed k lists first (λ n some. h n (omega arith)),
          queues_renamed keys queues later (λ n some. h n (omega arith)),
        ) refl

    slot_renamed : (key slot : Option ℕ) → option_map name key ≡ slot
        → ((n : ℕ) → 1 ≤ times_in_slot slot n → Lives n) → option_map other key ≡ slot
    slot_renamed None slot is h = is
    slot_renamed (Some k) None is h = cc
    slot_renamed (Some k) (Some n) is h =
        let one : name k ≡ n = cc in
        let some : 1 ≤ times_in_slot (Some n) n = rw (eq-eqb n n refl) (omega arith) in
        ap (λ (m : ℕ). Some m) (live k (rw one (h n some)) ∙ one)

    start_renamed : (key start : StartState) → meant_start name key ≡ start
        → ((n : ℕ) → 1 ≤ times_at false start n → Lives n) → meant_start other key ≡ start
    start_renamed key start is h =
        let starts : map name key.start_list ≡ start.start_list =
        ap (λ (x : StartState). x.start_list) is in
        let waiting : map name key.device_queue ≡ start.device_queue =
        ap (λ (x : StartState). x.device_queue) is in
        let busy : key.busy ≡ start.busy = ap (λ (x : StartState). x.busy) is in
        let slot : option_map name key.slot ≡ start.slot = ap (λ (x : StartState). x.slot) is in
        rw (
          entries_renamed key.start_list start.start_list starts (λ n some. h n (omega arith)),
          entries_renamed key.device_queue start.device_queue waiting (λ n some. h n (omega arith)),
          busy,
          slot_renamed key.slot start.slot slot (λ n some. h n (omega arith)),
        ) refl

    starts_renamed : (keys starts : List StartState) → map (meant_start name) keys ≡ starts
        → ((n : ℕ) → 1 ≤ times_anywhere starts n → Lives n)
        → map (meant_start other) keys ≡ starts
    starts_renamed [] starts is h = is
    starts_renamed (k ∷ keys) [] is h = cc
    starts_renamed (k ∷ keys) (start ∷ starts) is h =
        let first : meant_start name k ≡ start = cc in
        let later : map (meant_start name) keys ≡ starts = cc in
        rw (
          start_renamed k start first (λ n some. h n (omega arith)),
          starts_renamed keys starts later (λ n some. h n (omega arith)),
        ) refl

    pub shared_renamed : (keys : SlotShared) → MeansShared name keys s
        → ((n : ℕ) → 1 ≤ times_queued s.queues n → Lives n)
        → ((n : ℕ) → 1 ≤ times_anywhere s.starts n → Lives n)
        → MeansShared other keys s
    shared_renamed keys means queued started =
        record {
          packets = means.packets;
          issued = means.issued;
          locks = means.locks;
          cells = means.cells;
          queues = queues_renamed keys.queues s.queues means.queues queued;
          starts = starts_renamed keys.starts s.starts means.starts started;
          dpcs = means.dpcs;
        }

-- in a run
alive_some : (o : Option Packet) → 1 ≤ alive o → is_some o ≡ true
alive_some None h = absurd (omega arith)
alive_some (Some p) h = refl

module _ (set : Set) (states : States) (threads : ℕ) (events : List Event)
    (one : HasOneHolder set states threads events) where
  abbrev here : Run
  here = run set threads events

  pub queued_live : (n : ℕ) → 1 ≤ times_queued here.world.shared.queues n
      → is_some (packet_of here.world.shared n) ≡ true
  queued_live n some =
      let few : times_listed here.world.shared n ≤ (if is_live here n then 1 else 0) = one.once n in
      let there : alive (packet_of here.world.shared n) ≡ (if is_live here n then 1 else 0) =
      one.listed n in
      alive_some (packet_of here.world.shared n) (omega arith)

  pub started_live : (n : ℕ) → 1 ≤ times_anywhere here.world.shared.starts n
      → is_some (packet_of here.world.shared n) ≡ true
  started_live n some =
      let all : holders set states here.world.threads n + times_waiting set here.world.shared n
      ≡ (if is_live here n then 1 else 0) = one.one n in
      let few : times_listed here.world.shared n ≤ (if is_live here n then 1 else 0) = one.once n in
      let there : alive (packet_of here.world.shared n) ≡ (if is_live here n then 1 else 0) =
      one.listed n in
      alive_some (packet_of here.world.shared n)
      (omega (arith, anywhere_le set 0 here.world.shared.starts n))
