-- What the commands of a script came to, where threads served them.
use Rattle.std.proofs.Common.{◌≡◌, ◌<◌, ◌≤◌, ◌+◌, ◌++◌, ◌⊎◌, inl, inr, ⊎_elim, ℕ, zero, suc, true, List, [], ◌∷◌, Option, None, Some, get_or, length, take, refl, sym, subst, ap, ◌∙◌, arith}
use Rattle.std.specs.Prelude.{All, slice_get}
use Rattle.std.proofs.lemmas.List.Sums.{get_or-le-sum_by}
use Rattle.std.proofs.lemmas.Option.{get_or_from_slice_get, slice_get-get_or, slice_get_within}
use Rattle.laws_runs.proofs.Lists.{all_at}
use Rattle.model.specs.declared.history.Command.{Command}
use Rattle.model.specs.declared.history.Entry.{Entry}
use Rattle.model.specs.declared.history.Name.{Name}
use Rattle.model.specs.History.{NamedCommand, entry_named, has_name}
use Rattle.hostcore.specs.Core.{CoreState}
use Rattle.intake.specs.Ends.{TakerState, weigh_taken}
use Rattle.intake.specs.Lists.{weigh}
use Rattle.workers.specs.declared.served.Served.{Served}
use Rattle.workers.specs.Ended.{EndsState, HaveEnded}
use Rattle.workers.specs.Serves.{Serves}
use Rattle.workers.specs.Worked.{IsCommand, IsOwn, Worked}
use Rattle.workers.proofs.Closing.{fewer}
use Rattle.workers_script.specs.Served.{Accounts, AreStarted, IsLeft, IsOfScript, StandsOnce, command_name, named_at, named_from}
use Rattle.workers_script.proofs.Membership.{IsWeighed, is_among, some_passes}
use Rattle.workers_script.proofs.NumberedCommands.{at_number, few_taken, get_take, get_within, name_number, none_above, none_found, once_at_most}
use Rattle.workers_script.proofs.TakerLists.{AreOfPut}
use Rattle.workers_script.proofs.ThreadSums.{Performed, command_of, count_at, count_entries, count_performed, done_taken, over, over_takers, over_threads, performed_at}

-- an entry performs the command of a number of a script
record IsItsCommand (commands : List Command) (new : List Entry) (e : Entry) : Type 0 where
  number : ℕ
  c : Command
  found : slice_get commands number ≡ Some c
  first : List Entry
  later : List Entry
  parts : new ≡ first ++ e ∷ later
  its : IsCommand first e.thread (named_at number c) e

-- an entry with the name of a number performs the command of that number, once
stands : (commands : List Command) (new : List Entry) (e : Entry) (k : ℕ) (c : Command)
    → slice_get commands k ≡ Some c → has_name e.name (command_name k) ≡ true
    → count_entries (command_name k) new ≡ 1
    → IsOwn e.thread e ⊎ IsItsCommand commands new e → StandsOnce new (named_at k c)
stands commands new e k c at named once (inl own) =
    let none = ap (λ (o : Option Name). has_name o (command_name k)) own.name in
    cc
stands commands new e k c at named once (inr p) =
    let its = ap (λ (o : Option Name). has_name o (command_name k)) p.its.name in
    let number : p.number ≡ k = name_number p.number k (sym its ∙ named) in
    let there = subst (λ (i : ℕ). slice_get commands i ≡ Some p.c) number p.found in
    let same : p.c ≡ c = cc in
    record {
      before = p.first;
      entry = e;
      after = p.later;
      parts = p.parts;
      performs = subst (λ (x : Command). IsCommand p.first e.thread (named_at k x) e) same
          (subst (λ (i : ℕ). IsCommand p.first e.thread (named_at i p.c) e) number p.its);
      once = once;
    }

of_script : (commands : List Command) (new : List Entry) (e : Entry)
    → IsOwn e.thread e ⊎ IsItsCommand commands new e → IsOwn e.thread e ⊎ IsOfScript commands e
of_script commands new e (inl own) = inl own
of_script commands new e (inr p) =
    inr (record { number = p.number; command = p.c; found = p.found; name = p.its.name })

-- what one taker took weighs no more than what all took
weighs_within : (h : NamedCommand → ℕ) (takers : List TakerState) (t : ℕ) (a : TakerState)
    → slice_get takers t ≡ Some a → weigh h a.taken ≤ weigh_taken h takers
weighs_within h takers t a at =
    omega (
      arith,
      get_or-le-sum_by (λ (x : TakerState). weigh h x.taken) takers t a
          (slice_get_within takers t a at),
      ap (λ (x : TakerState). weigh h x.taken) (get_or_from_slice_get takers t a a at),
    )

module _ (began : CoreState) (takers : List TakerState) (ended : Served) (commands : List Command)
    (m : ℕ) (put : List NamedCommand) (s : Serves began takers ended)
    (fresh : began.history ≡ []) (its_put : put ≡ named_from 0 (take m commands))
    (among : AreOfPut put ended.takers.items) where
  history : ended.core.history ≡ s.new
  history =
      ap (λ (c : CoreState). c.history) s.core
      ∙ ap (λ (xs : List Entry). xs ++ s.new) fresh

  workers : All (λ (e : Entry). e.thread < length takers) s.new
  workers = fewer ended.started (length takers) s.new s.started s.workers

  -- what all took weighs no more than what was put
  taken_put : (h : NamedCommand → ℕ)
      → weigh_taken h ended.takers.items ≤ weigh h (named_from 0 (take m commands))
  taken_put h =
      let same : weigh h put ≡ weigh h (named_from 0 (take m commands)) = ap (weigh h) its_put in
      omega (arith, among.1 h, same)

  -- a worker's work
  work : (t : ℕ) (a : TakerState) → slice_get ended.takers.items t ≡ Some a
      → (b : TakerState) × (kept : List NamedCommand) × Worked began.history s.new t b a kept
  work t a at =
      let after : t < length ended.takers.items = slice_get_within ended.takers.items t a at in
      let its = get_within takers t (omega (arith, after, s.count)) in
      (its.0, s.kept t, s.each t its.0 a its.1 at)

  -- a worker has no more entries of a name than its taker took commands of it
  entries_taken : (n : Name) (t : ℕ) (a : TakerState) → slice_get ended.takers.items t ≡ Some a
      → count_at n s.new t ≤ weigh (command_of n) a.taken
  entries_taken n t a at =
      let w = work t a at in
      omega (
        arith,
        count_performed n began.history t s.new w.2.done w.2.performs,
        done_taken began.history s.new t w.0 a w.1 w.2 (command_of n),
      )

  -- no more entries have a name than commands of it were put
  named_most : (n : Name)
      → count_entries n s.new ≤ weigh (command_of n) (named_from 0 (take m commands))
  named_most n =
      omega (
        arith,
        over_threads n (length takers) s.new workers,
        ap (over (count_at n s.new) 0) s.count,
        over_takers (count_at n s.new) (command_of n) 0 ended.takers.items (entries_taken_at n),
        taken_put (command_of n),
      )
    where
      entries_taken_at : (n : Name) (i t : ℕ) (a : TakerState) → t ≡ 0 + i
          → slice_get ended.takers.items i ≡ Some a
          → count_at n s.new t ≤ weigh (command_of n) a.taken
      entries_taken_at n i t a same at =
          let place : i ≡ t = omega (arith, same) in
          entries_taken n t a
          (subst (λ (k : ℕ). slice_get ended.takers.items k ≡ Some a) place at)

  -- a command that a worker performed weighs no more than what was put
  weighed_put : (t : ℕ) (a b : TakerState) (kept : List NamedCommand)
      (w : Worked began.history s.new t b a kept) → slice_get ended.takers.items t ≡ Some a
      → (asked : NamedCommand) → IsWeighed asked w.done
      → IsWeighed asked (named_from 0 (take m commands))
  weighed_put t a b kept w at asked weighed h =
      omega (
        arith,
        weighed h,
        done_taken began.history s.new t b a kept w h,
        weighs_within h ended.takers.items t a at,
        taken_put h,
      )

  -- so it is the command of a number of the script
  its_command : (e : Entry) (done : List NamedCommand)
      (p : Performed began.history s.new e.thread e done)
      → IsWeighed p.asked (named_from 0 (take m commands)) → IsItsCommand commands s.new e
  its_command e done p weighed =
      let among_put = is_among p.asked (named_from 0 (take m commands)) weighed in
      let placed = at_number (take m commands) among_put.0 p.asked among_put.1 in
      record {
        number = among_put.0;
        c = placed.0;
        found = get_take m commands among_put.0 placed.0 placed.1;
        first = p.first;
        later = p.later;
        parts = p.parts;
        its = subst (λ (x : NamedCommand). IsCommand p.first e.thread x e) placed.2
            (subst (λ (xs : List Entry). IsCommand (xs ++ p.first) e.thread p.asked e) fresh
            p.its);
      }

  -- each entry is its thread's own or performs a command of the script
  told : (i : ℕ) (e : Entry) → slice_get s.new i ≡ Some e
      → IsOwn e.thread e ⊎ IsItsCommand commands s.new e
  told i e at =
      let few = all_at (λ (d : Entry). d.thread < length takers) s.new i e workers at in
      let its = get_within ended.takers.items e.thread (omega (arith, few, s.count)) in
      let w = work e.thread its.0 its.1 in
      ⊎_elim (λ own. inl own)
      (λ p. inr (its_command e w.2.done p
      (weighed_put e.thread its.0 w.0 w.1 w.2 its.1 p.asked p.weighed)))
      (performed_at began.history e.thread s.new w.2.done w.2.performs i e at refl)

  each_once : (k : ℕ) (c : Command) → slice_get commands k ≡ Some c → (n : ℕ)
      → count_entries (command_name k) s.new ≡ n
      → StandsOnce s.new (named_at k c) ⊎ IsLeft s.new (named_at k c)
  each_once k c at zero none =
      inr (none_found (λ (e : Entry). has_name e.name (command_name k)) s.new none)
  each_once k c at (suc n) some =
      let least : 1 ≤ count_entries (command_name k) s.new = omega (arith, some) in
      let found = some_passes (λ (e : Entry). has_name e.name (command_name k)) s.new least in
      let most = named_most (command_name k) in
      let one = once_at_most k 0 (take m commands) in
      let once : count_entries (command_name k) s.new ≡ 1 = omega (arith, some, most, one) in
      inl (stands commands s.new found.1 k c at found.3 once (told found.0 found.1 found.2))

  accounts : Accounts (length takers) commands s.new
  accounts =
      record {
        seated = workers;
        each = λ k c at. each_once k c at (count_entries (command_name k) s.new) refl;
        others = λ i d within. of_script commands s.new (get_or s.new i d)
            (told i (get_or s.new i d) (slice_get-get_or s.new i d within));
      }

  -- where the first so many commands of a script were put into a queue, and what workers took was
  -- put there, each command stands once in the history or was left
  pub accounted : Accounts (length takers) commands ended.core.history
  accounted = subst (Accounts (length takers) commands) (sym history) accounts

  -- the workers that were started have ended, and each entry is of one of them
  pub are_started : 1 ≤ ended.ends.started
      → AreStarted (length takers) ended.core.history ended.ends
  are_started some =
      let same : ended.started ≡ ended.ends.started = ap (λ (e : EndsState). e.started) (sym s.ends) in
      record {
        ended = subst (λ (n : ℕ). HaveEnded n ended.ends) same s.ends;
        some = some;
        few = omega (arith, same, s.started);
        seated = subst (λ (n : ℕ). All (λ (e : Entry). e.thread < n) ended.core.history) same
            (subst (λ (xs : List Entry). All (λ (e : Entry). e.thread < ended.started) xs) (sym history)
            s.workers);
      }

  -- a command that wasn't put into the queue was left
  pub left_unput : (k : ℕ) → m ≤ k → entry_named ended.core.history (command_name k) ≡ None
  left_unput k unput =
      let none : count_entries (command_name k) s.new ≡ 0 = omega (
        arith,
        named_most (command_name k),
        none_above k 0 (take m commands) (omega (arith, few_taken m commands, unput)),
      ) in
      rw history (none_found (λ (e : Entry). has_name e.name (command_name k)) s.new none)
