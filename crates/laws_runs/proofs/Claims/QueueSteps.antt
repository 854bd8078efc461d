-- An instruction about queues keeps claims: a packet goes into a queue or off it, or to what a
-- device has for StartIo.
use Rattle.laws_runs.proofs.Common.{ap, arith, inl, inr, refl, subst, ◌∙◌, list_any, Bool, List, None, Option, Some, [], false, if◌then◌else◌, nat_eq, true, ℕ, ◌+◌, ◌∷◌, ◌≡◌, ◌≤◌, is_at, kind_inserted, kind_removed, guard_fault, is_guarded, kind_of, unlink_kind, inserted, unlinked, Set, cancel_routine_of, guard_named, OperandFits, Entry, World, next, queue_of, register, with_queue, with_register, Kind, BlankKind, Own, Queued, GuardRule, Armed, Cancelling, Listed, Taken, Instr, Insert, Remove, Unlink, QueueName, Declared, DeviceQueue, Activation, Routine, Ref, States, named_as, named_in, stack_sum, thread_sum, times_in, times_listed, times_waiting, all_at, StepLeaves, IsGood, Runs, state_of, inserts_right, first_none, granted, second_none, unbroken, Standing, or_left, or_right}
use Rattle.std.proofs.Common.{eq-eqb}
use Rattle.model.specs.Kinds.{names_list}
use Rattle.laws_runs.proofs.Claims.Balance.{KindTurns, balanced_cancels, balanced_inserts, balanced_joins, balanced_leaves, balanced_removes, balanced_unlinks, hit, once_turned}
use Rattle.laws_runs.proofs.Claims.Guards.{NeedsGuard, at_needs, excluded}
use Rattle.laws_runs.proofs.Claims.Held.{is_own, one_holder, own_alone, owns_in}
use Rattle.laws_runs.proofs.Claims.Names.{KeepsNames, OfQueues, TurnsNames, names, next_takes, next_turns}
use Rattle.laws_runs.proofs.Claims.Queues.{unlinked_other, unlinked_out, entries_fewer, entries_more, entries_others, unlinked_fewer}
use Rattle.laws_runs.proofs.Claims.Quiet.{apart_keeps, frame_keeps}
use Rattle.laws_runs.proofs.Claims.Steps.{after, all_apart, apart_here, kind_turns, names_among, same_balance, same_sums}
use Rattle.laws_runs.proofs.Claims.Sums.{Claimed, FrameApart, frame_names, names_on, numbers, takes_in, times_of, word_at}
use Rattle.laws_runs.proofs.Claims.Working.{Unlinks, apart_down, apart_up, cancelable_is, some_none, taken_le, unlinked_kind}
use Rattle.laws_runs.proofs.Claims.Waiting.{once_more}
use Rattle.laws_runs.proofs.Holders.Counts.{reads_ref}
use Rattle.laws_runs.proofs.Holders.Queued.{times_le, times_pushed, times_put}
use Rattle.laws_runs.proofs.Holders.Rights.{named_le, named_nowhere}
use Rattle.laws_runs.proofs.Holders.Sums.{Held, top_le}
use Rattle.laws_runs.proofs.Locks.Runs.{LocksAgree}
use Rattle.laws_runs.proofs.Past.LivePackets.{find}
use Rattle.laws_runs.proofs.Past.Owners.{Owned}
use Rattle.laws_runs.proofs.Runs.Events.{StepsFrame}
use Rattle.laws_runs.proofs.Steps.Comes.{Reads}
use Rattle.laws_runs.proofs.Claims.Queues.{Puts, puts_queue, unlinked_times}
use Rattle.laws_runs.proofs.Claims.WordSteps.{list_le}
use Rattle.laws_runs.proofs.Claims.Sums.{list_of, is_cancelable}
use Rattle.laws_runs.proofs.Claims.Balance.{name_same}

module _ (set : Set) (states : States) (w : World) (past : List Entry) (good : IsGood set states)
    (stands : Standing set states w past) (c : Claimed set states w) (t : ℕ)
    (h : StepsFrame set w t)
    (leaves : StepLeaves set states w.shared h.frame h.outcome) (kept : Held set states w)
    (a : Activation) (frame : h.frame ≡ Routine a) where
  -- a packet of the routine's own stands in no list, and was taken off none
  pub owned_here : (i : Instr) (r m : ℕ) → Runs set states w.shared a i
      → kind_of (state_of states a) r ≡ Own → Reads w.shared a r m → 1 ≤ owns_in states m w.threads
  owned_here i r m run is reads =
      let refers : register a r ≡ Ref m = reads_ref w.shared (register a r) m reads in
      let le : named_as is_own (kind_of (state_of states a) r) (register a r) m
      ≤ named_in is_own (state_of states a).kinds a.registers m =
      named_le is_own w.shared.issued (state_of states a).kinds a.registers r m run.stays.kinds in
      let one : named_as is_own (kind_of (state_of states a) r) (register a r) m ≡ 1 =
      rw (is, refers, eq-eqb m m refl) refl in
      let top : frame_names states is_own (λ e. true) m h.frame ≤ owns_in states m w.threads =
      top_le (frame_names states is_own (λ e. true) m) w.threads t h.thread h.below h.frame
      h.found h.frames in
      let same : frame_names states is_own (λ e. true) m h.frame
      ≡ named_in is_own (state_of states a).kinds a.registers m =
      ap (frame_names states is_own (λ e. true) m) frame in
      omega arith

  pub own_there : (i : Instr) (r m : ℕ) → Runs set states w.shared a i
      → kind_of (state_of states a) r ≡ Own → Reads w.shared a r m
      → takes_in states m w.threads + times_listed w.shared m ≡ 0
  own_there i r m run is reads =
      own_alone set states w kept m c.balanced (owned_here i r m run is reads)

  -- one more list, for a packet that stood in none
  pub once_put : (m : ℕ) → takes_in states m w.threads + times_listed w.shared m ≡ 0
      → ((n : ℕ) → times_listed h.outcome.shared n
      ≡ times_listed w.shared n + (if nat_eq m n then 1 else 0))
      → (n : ℕ) → takes_in states n w.threads + times_listed h.outcome.shared n ≤ 1
  once_put m none lists =
      once_more m (λ n. takes_in states n w.threads + times_listed w.shared n)
      (λ n. takes_in states n w.threads + times_listed h.outcome.shared n)
      c.balanced.once none
      (λ n. omega (arith, lists n))

  pub once_less : ((n : ℕ) → times_listed h.outcome.shared n ≤ times_listed w.shared n)
      → (n : ℕ) → takes_in states n w.threads + times_listed h.outcome.shared n ≤ 1
  once_less lists n =
      omega (arith, lists n, c.balanced.once n)

module _ (set : Set) (states : States) (w : World) (past : List Entry) (good : IsGood set states)
    (stands : Standing set states w past) (c : Claimed set states w) (t : ℕ)
    (h : StepsFrame set w t)
    (leaves : StepLeaves set states w.shared h.frame h.outcome) (kept : Held set states w)
    (a : Activation) (frame : h.frame ≡ Routine a)
    (packets : h.outcome.shared.packets ≡ w.shared.packets) where
  abbrev to : World
  to = after set states w past good stands c t h leaves

  abbrev Changes : Kind → Kind → ℕ → Type 0
  Changes j k m = KindTurns (numbers states w) (numbers states to) j k a.device m

  words_same : (d : ℕ) (q : QueueName) (n : ℕ) → word_at (find to.shared.packets n) d q
      ≡ word_at (find w.shared.packets n) d q
  words_same d q n = rw packets refl

  -- the packets that registers name stay so, and queues are as before; or lists alone change
  pub lists_claims : (b : Activation) → KeepsNames states a b → b.device ≡ a.device
      → h.outcome.frames ≡ Routine b ∷ []
      → h.outcome.shared.queues ≡ w.shared.queues
      → ((d n : ℕ) → is_cancelable set d DeviceQueue ≡ true
      → times_of (list_of to.shared d DeviceQueue) n ≤ times_of (list_of w.shared d DeviceQueue) n)
      → ((n : ℕ) → takes_in states n w.threads + times_listed h.outcome.shared n ≤ 1)
      → Claimed set states to
  lists_claims b keeps device frames queues waiting once =
      let same : (g : Kind → Bool) → OfQueues g → (on : ℕ → Bool) (n : ℕ)
      → thread_sum (frame_names states g on n) to.threads
      ≡ thread_sum (frame_names states g on n) w.threads =
      λ g of on n. same_sums set states w past good stands c t h leaves g of on n
      (let was : frame_names states g on n h.frame ≡ frame_names states g on n (Routine a) =
      ap (frame_names states g on n) frame in
      let now : stack_sum (frame_names states g on n) h.outcome.frames
      ≡ frame_names states g on n (Routine b) + 0 =
      ap (stack_sum (frame_names states g on n)) frames in
      omega (arith, frame_keeps states a b keeps device g of on n)) in
      record {
        balanced = same_balance set states w to c.balanced same words_same queues waiting once;
        apart = all_apart set states w past good stands c t h leaves
            (rw frames (
              apart_keeps states a b keeps
                  (subst (FrameApart states) frame
                  (apart_here set states w past good stands c t h leaves)),
              tt,
            ));
      }

  apart_a : FrameApart states (Routine a)
  apart_a = subst (FrameApart states) frame (apart_here set states w past good stands c t h leaves)

  -- a packet is put into a queue
  module _ (r q m : ℕ) (entries : List ℕ) (run : Runs set states w.shared a (Insert r q))
      (reads : Reads w.shared a r m) (there : queue_of w.shared a.device q ≡ Some entries)
      (frames : h.outcome.frames ≡ Routine (next a) ∷ [])
      (queues : h.outcome.shared.queues ≡ (with_queue w.shared a.device q
      (inserted entries m)).queues)
      (starts : h.outcome.shared.starts ≡ w.shared.starts) where
    inserted_own : kind_of (state_of states a) r ≡ Own
    inserted_own = inserts_right (kind_of (state_of states a) r) (first_none _ _ run.obeys)

    inserted_lists : (n : ℕ) → times_listed h.outcome.shared n
        ≡ times_listed w.shared n + (if nat_eq m n then 1 else 0)
    inserted_lists n =
        rw (queues, starts) (omega (
          arith,
          times_put w.shared a.device q entries (inserted entries m) n there,
          times_pushed entries m n,
        ))

    inserted_turns : TurnsNames states a (next a) Own
        (kind_inserted (cancel_routine_of set a.driver q) (Declared q)) m
    inserted_turns =
        next_turns set states w.shared a (Insert r q) run r Own
        (kind_inserted (cancel_routine_of set a.driver q) (Declared q)) m refl refl inserted_own
        (reads_ref w.shared (register a r) m reads)

    inserted_entries : (d : ℕ) (p : QueueName) (n : ℕ) → times_of (list_of to.shared d p) n
        ≡ times_of (list_of w.shared d p) n + hit a.device (Declared q) m d p n
    inserted_entries d p n =
        entries_more w.shared to.shared a.device (Declared q) m entries (inserted entries m)
        (puts_queue w.shared to.shared a.device q entries (inserted entries m) there queues starts)
        (λ n. times_pushed entries m n) d p n

    inserts_by : (cancel : Option ℕ) → cancel_routine_of set a.driver q ≡ cancel
        → TurnsNames states a (next a) Own (kind_inserted cancel (Declared q)) m
        → Claimed set states to
    inserts_by None none turns =
        let changes : Changes Own BlankKind m =
        kind_turns set states w past good stands c t h leaves a (next a) Own BlankKind m frame
        frames refl turns in
        record {
          balanced = balanced_joins set (numbers states w) (numbers states to) c.balanced
              (once_turned (numbers states w) (numbers states to) Own BlankKind
              a.device m changes refl
              (once_put set states w past good stands c t h leaves kept a frame m
              (own_there set states w past good stands c t h leaves kept a frame
              (Insert r q) r m run inserted_own reads) inserted_lists))
              a.device (Declared q) m
              (cancelable_is set a.device a.driver (Declared q) None run.stays.serves none)
              changes
              words_same inserted_entries;
          apart = all_apart set states w past good stands c t h leaves
              (rw frames (
                apart_down states a (next a) Own BlankKind m turns
                    (λ p. (refl, refl, refl)) apart_a,
                tt,
              ));
        }
    inserts_by (Some cancel) some turns =
        let changes : Changes Own (Queued (Declared q) Listed) m =
        kind_turns set states w past good stands c t h leaves a (next a) Own
        (Queued (Declared q) Listed) m
        frame frames refl turns in
        record {
          balanced = balanced_inserts set (numbers states w) (numbers states to) c.balanced
              (once_turned (numbers states w) (numbers states to) Own (Queued (Declared q) Listed)
              a.device m changes refl
              (once_put set states w past good stands c t h leaves kept a frame m
              (own_there set states w past good stands c t h leaves kept a frame
              (Insert r q) r m run inserted_own reads) inserted_lists))
              a.device (Declared q) m
              changes
              words_same inserted_entries;
          apart = all_apart set states w past good stands c t h leaves
              (rw frames (
                apart_down states a (next a) Own (Queued (Declared q) Listed) m turns
                    (λ p. (refl, refl, refl)) apart_a,
                tt,
              ));
        }

    pub inserts_claims : Claimed set states to
    inserts_claims = inserts_by (cancel_routine_of set a.driver q) refl inserted_turns

  -- who holds the guard of a queue is alone with its packets
  module _ (agree : LocksAgree states w past) (owned : Owned w.shared.locks past) where
    alone : (i : Instr) (name : QueueName) → Runs set states w.shared a i
        → guard_fault (state_of states a) set a.driver name ≡ None → (g : Kind → Bool)
        → NeedsGuard set a.driver g name → (n : ℕ)
        → names_on states g a.device n w.threads ≡ names states g a n
    alone i name run rule g needs n =
        excluded set states w past good stands agree owned t h a name g frame run.stays.serves
        (granted (is_guarded (state_of states a) (guard_named set a.driver name)) GuardRule rule)
        needs n

    -- a packet is taken off a queue
    module _ (r q label m : ℕ) (entries : List ℕ) (run : Runs set states w.shared a
        (Remove r q label))
        (there : queue_of w.shared a.device q ≡ Some (m ∷ entries))
        (frames : h.outcome.frames ≡ Routine (next (with_register a r (Ref m))) ∷ [])
        (queues : h.outcome.shared.queues ≡ (with_queue w.shared a.device q entries).queues)
        (starts : h.outcome.shared.starts ≡ w.shared.starts) where
      abbrev taker : Activation
      taker = next (with_register a r (Ref m))

      no_names : list_any (names_list (Declared q)) (state_of states a).kinds ≡ false
      no_names = unbroken _ _ (second_none _ _ (second_none _ _ run.obeys))

      none_listed : (n : ℕ) → names states (is_at Listed (Declared q)) a n ≡ 0
      none_listed n =
          named_nowhere (is_at Listed (Declared q)) (state_of states a).kinds a.registers n
          (some_none (is_at Listed (Declared q)) (names_list (Declared q)) (λ k h. or_left _ _ h)
          (state_of states a).kinds no_names)

      none_armed : (n : ℕ) → names states (is_at Armed (Declared q)) a n ≡ 0
      none_armed n =
          named_nowhere (is_at Armed (Declared q)) (state_of states a).kinds a.registers n
          (some_none (is_at Armed (Declared q)) (names_list (Declared q))
          (λ k h. or_left _ _ (or_right _ _ h)) (state_of states a).kinds no_names)

      none_cancelling : (n : ℕ) → names states (is_at Cancelling (Declared q)) a n ≡ 0
      none_cancelling n =
          named_nowhere (is_at Cancelling (Declared q)) (state_of states a).kinds a.registers n
          (some_none (is_at Cancelling (Declared q)) (names_list (Declared q))
          (λ k h. or_right _ _ (or_right _ _ h)) (state_of states a).kinds no_names)

      removed_listed : names_on states (is_at Listed (Declared q)) a.device m w.threads ≡ 0
      removed_listed =
          alone (Remove r q label) (Declared q) run (first_none _ _ run.obeys)
          (is_at Listed (Declared q))
          (at_needs set a.driver (Declared q) Listed refl) m ∙ none_listed m

      removed_armed : names_on states (is_at Armed (Declared q)) a.device m w.threads ≡ 0
      removed_armed =
          alone (Remove r q label) (Declared q) run (first_none _ _ run.obeys)
          (is_at Armed (Declared q))
          (at_needs set a.driver (Declared q) Armed refl) m ∙ none_armed m

      -- it stands in the queue, so that it wasn't taken off one
      removed_takes : takes_in states m w.threads ≡ 0
      removed_takes =
          let first : times_in (m ∷ entries) m ≡ 1
          + times_in entries m = rw (eq-eqb m m refl) refl in
          omega (arith, times_le w.shared a.device q (m ∷ entries) m there, c.balanced.once m)

      removed_taken : names_on states (is_at Taken (Declared q)) a.device m w.threads ≡ 0
      removed_taken =
          let none : takes_in states m w.threads ≡ 0 = removed_takes in
          omega (arith, taken_le states w a.device (Declared q) m)

      removed_fewer : (n : ℕ) → times_in entries n + (if nat_eq m n then 1 else 0)
          ≡ times_in (m ∷ entries) n
      removed_fewer n = omega arith

      removed_lists : (n : ℕ) → times_listed h.outcome.shared n + (if nat_eq m n then 1 else 0)
          ≡ times_listed w.shared n
      removed_lists n =
          rw (queues, starts) (omega (
            arith,
            times_put w.shared a.device q (m ∷ entries) entries n there,
            removed_fewer n,
          ))

      removed_entries : (d : ℕ) (p : QueueName) (n : ℕ)
          → times_of (list_of to.shared d p) n + hit a.device (Declared q) m d p n
          ≡ times_of (list_of w.shared d p) n
      removed_entries d p n =
          entries_fewer w.shared to.shared a.device (Declared q) m (m ∷ entries) entries
          (puts_queue w.shared to.shared a.device q (m ∷ entries) entries there queues starts)
          removed_fewer d p n

      removed_turns : TurnsNames states a taker BlankKind
          (kind_removed (cancel_routine_of set a.driver q) (Declared q)) m
      removed_turns =
          next_takes set states w.shared a (Remove r q label) run r
          (kind_removed (cancel_routine_of set a.driver q) (Declared q)) m refl refl
          (unbroken _ _ (first_none _ _ (second_none _ _ run.obeys)))
          (all_at OperandFits run.routine.code a.position (Remove r q label) run.known.operands
          run.here)

      removes_by : (cancel : Option ℕ) → cancel_routine_of set a.driver q ≡ cancel
          → TurnsNames states a taker BlankKind (kind_removed cancel (Declared q)) m
          → Claimed set states to
      removes_by None none turns =
          let changes : Changes BlankKind Own m =
          kind_turns set states w past good stands c t h leaves a taker BlankKind Own m frame frames
          refl turns in
          record {
            balanced = balanced_leaves set (numbers states w) (numbers states to) c.balanced
                (once_turned (numbers states w) (numbers states to) BlankKind Own
                a.device m changes refl
                (once_less set states w past good stands c t h leaves kept a frame (λ n.
                omega (arith, removed_lists n))))
                a.device (Declared q) m removed_armed removed_listed
                changes
                words_same removed_entries;
            apart = all_apart set states w past good stands c t h leaves
                (rw frames (
                  apart_down states a taker BlankKind Own m turns
                      (λ p. (refl, refl, refl)) apart_a,
                  tt,
                ));
          }
      removes_by (Some cancel) some turns =
          let changes : Changes BlankKind (Queued (Declared q) Taken) m =
          kind_turns set states w past good stands c t h leaves a taker BlankKind
          (Queued (Declared q) Taken) m frame frames refl turns in
          record {
            balanced = balanced_removes set (numbers states w) (numbers states to) c.balanced
                (λ n.
                omega (arith, changes.takes n, removed_lists n, c.balanced.once n))
                a.device (Declared q) m
                (cancelable_is set a.device a.driver (Declared q)
                (Some cancel) run.stays.serves some)
                removed_armed removed_taken removed_listed
                changes
                words_same removed_entries;
            apart = all_apart set states w past good stands c t h leaves
                (rw frames (
                  apart_up states a taker BlankKind (Queued (Declared q) Taken) m (Declared q) turns
                      ((λ p n e. omega arith), (λ p. refl))
                      (let none : names_on states (is_at Taken (Declared q)) a.device m w.threads
                      ≡ 0 =
                      removed_taken in
                      omega (
                        arith,
                        none_armed m,
                        none_cancelling m,
                        names_among set states w past good stands c t h leaves a
                            (is_at Taken (Declared q)) m frame,
                      ))
                      apart_a,
                  tt,
                ));
          }

      pub removes_claims : Claimed set states to
      removes_claims = removes_by (cancel_routine_of set a.driver q) refl removed_turns

    -- a packet is taken off a list by the cancel routine that was called for it
    module _ (i : Instr) (name : QueueName) (r m : ℕ) (entries : List ℕ)
        (run : Runs set states w.shared a i)
        (reads : Reads w.shared a r m) (there : list_of w.shared a.device name ≡ Some entries)
        (frames : h.outcome.frames ≡ Routine (next a) ∷ [])
        (put : Puts w.shared to.shared a.device name entries (unlinked entries m))
        (less : (n : ℕ) → times_listed h.outcome.shared n ≤ times_listed w.shared n)
        (rule : guard_fault (state_of states a) set a.driver name ≡ None)
        (is : kind_of (state_of states a) r ≡ Queued name Cancelling)
        (turns : TurnsNames states a (next a) (Queued name Cancelling) Own m) where
      cancelled_name : 1 ≤ names states (is_at Cancelling name) a m
      cancelled_name =
          let one : named_as (is_at Cancelling name) (kind_of (state_of states a) r) (register a r)
          m
          ≡ 1 =
          rw (is, name_same name, reads_ref w.shared (register a r) m reads, eq-eqb m m refl) refl
          in
          omega (
            arith,
            named_le (is_at Cancelling name) w.shared.issued
                (state_of states a).kinds a.registers r m run.stays.kinds,
          )

      pub unlinks_cancelled : Claimed set states to
      unlinks_cancelled =
          let one : 1 ≤ names states (is_at Cancelling name) a m = cancelled_name in
          let among : names states (is_at Cancelling name) a m
          ≤ names_on states (is_at Cancelling name) a.device m w.threads =
          names_among set states w past good stands c t h leaves a (is_at Cancelling name) m frame
          in
          let holder : names_on states (is_at Listed name) a.device m w.threads
          + names_on states (is_at Cancelling name) a.device m w.threads
          + owns_in states m w.threads + times_waiting set w.shared m ≤ 1 =
          one_holder set states w kept m a.device name in
          let free : names states (is_at Armed name) a m + names states (is_at Taken name) a m
          + names states (is_at Cancelling name) a m ≤ 1 = apart_a name m in
          let armed : names_on states (is_at Armed name) a.device m w.threads
          ≡ names states (is_at Armed name) a m =
          alone i name run rule (is_at Armed name) (at_needs set a.driver name Armed refl) m in
          let taken : names_on states (is_at Taken name) a.device m w.threads
          ≡ names states (is_at Taken name) a m =
          alone i name run rule (is_at Taken name) (at_needs set a.driver name Taken refl) m in
          let its : times_of (list_of w.shared a.device name) m ≡ times_in entries m =
          ap (λ (o : Option (List ℕ)). times_of o m) there in
          let le : times_of (list_of w.shared a.device name) m ≤ times_listed w.shared m =
          list_le w.shared a.device name m in
          let once : takes_in states m w.threads + times_listed w.shared m
          ≤ 1 = c.balanced.once m in
          let few : times_in entries m ≤ 1 = omega arith in
          let changes : Changes (Queued name Cancelling) Own m =
          kind_turns set states w past good stands c t h leaves a (next a) (Queued name Cancelling)
          Own m frame frames refl turns in
          record {
            balanced = balanced_cancels set (numbers states w) (numbers states to) c.balanced
                (once_turned (numbers states w) (numbers states to) (Queued name Cancelling) Own
                a.device m changes refl
                (once_less set states w past good stands c t h leaves kept a frame less))
                a.device name m (omega arith) (omega arith) (omega arith)
                (unlinked_out w.shared to.shared a.device name m entries put few)
                (λ d p n none. entries_others w.shared to.shared a.device name m entries
                (unlinked entries m) put (λ n other. unlinked_other entries m n other) d p n none)
                changes
                words_same;
            apart = all_apart set states w past good stands c t h leaves
                (rw frames (
                  apart_down states a (next a) (Queued name Cancelling) Own m turns
                      (λ p. (refl, refl, refl)) apart_a,
                  tt,
                ));
          }

    -- a packet is unlinked
    module _ (r q m : ℕ) (entries : List ℕ) (run : Runs set states w.shared a (Unlink r q))
        (reads : Reads w.shared a r m) (there : queue_of w.shared a.device q ≡ Some entries)
        (frames : h.outcome.frames ≡ Routine (next a) ∷ [])
        (queues : h.outcome.shared.queues ≡ (with_queue w.shared a.device q
        (unlinked entries m)).queues)
        (starts : h.outcome.shared.starts ≡ w.shared.starts) where
      unlinked_turns : (j : Kind) → kind_of (state_of states a) r ≡ j
          → TurnsNames states a (next a) j Own m
      unlinked_turns j is =
          next_turns set states w.shared a (Unlink r q) run r j Own m refl refl is
          (reads_ref w.shared (register a r) m reads)

      -- a register of the kind names it
      unlinked_name : (j : Kind) (g : Kind → Bool) → kind_of (state_of states a) r ≡ j → g j ≡ true
          → 1 ≤ names states g a m
      unlinked_name j g is of =
          let one : named_as g (kind_of (state_of states a) r) (register a r) m ≡ 1 =
          rw (is, of, reads_ref w.shared (register a r) m reads, eq-eqb m m refl) refl in
          omega (
            arith,
            named_le g w.shared.issued (state_of states a).kinds a.registers r m run.stays.kinds,
          )

      unlinked_lists : (n : ℕ) → times_listed h.outcome.shared n ≤ times_listed w.shared n
      unlinked_lists n =
          rw (queues, starts) (omega (
            arith,
            times_put w.shared a.device q entries (unlinked entries m) n there,
            unlinked_times entries m n,
          ))

      put : Puts w.shared to.shared a.device (Declared q) entries (unlinked entries m)
      put = puts_queue w.shared to.shared a.device q entries
          (unlinked entries m) there queues starts

      unlinks_by : Unlinks (Declared q) (kind_of (state_of states a) r) → Claimed set states to
      unlinks_by (inl is) =
          let turns : TurnsNames states a (next a) (Queued (Declared q) Listed) Own m =
          unlinked_turns (Queued (Declared q) Listed) is in
          let one : 1 ≤ names states (is_at Listed (Declared q)) a m =
          unlinked_name (Queued (Declared q) Listed) (is_at Listed (Declared q)) is
          (eq-eqb q q refl) in
          let among : names states (is_at Listed (Declared q)) a m
          ≤ names_on states (is_at Listed (Declared q)) a.device m w.threads =
          names_among set states w past good stands c t h leaves a (is_at Listed (Declared q)) m
          frame
          in
          let stand : names_on states (is_at Listed (Declared q)) a.device m w.threads
          + names_on states (is_at Armed (Declared q)) a.device m w.threads
          ≤ times_of (queue_of w.shared a.device q) m =
          c.balanced.standing a.device (Declared q) m refl in
          let its : times_of (queue_of w.shared a.device q) m ≡ times_in entries m =
          ap (λ (o : Option (List ℕ)). times_of o m) there in
          let some : 1 ≤ times_in entries m = omega arith in
          let changes : Changes (Queued (Declared q) Listed) Own m =
          kind_turns set states w past good stands c t h leaves a (next a)
          (Queued (Declared q) Listed) Own
          m frame frames refl turns in
          record {
            balanced = balanced_unlinks set (numbers states w) (numbers states to) c.balanced
                (once_turned (numbers states w) (numbers states to) (Queued (Declared q) Listed) Own
                a.device m changes refl
                (once_less set states w past good stands c t h leaves kept a frame unlinked_lists))
                a.device (Declared q) m
                changes
                words_same
                (λ d p n. entries_fewer w.shared to.shared a.device (Declared q) m entries
                (unlinked entries m) put (λ n. unlinked_fewer entries m n some) d p n);
            apart = all_apart set states w past good stands c t h leaves
                (rw frames (
                  apart_down states a (next a) (Queued (Declared q) Listed) Own m turns
                      (λ p. (refl, refl, refl)) apart_a,
                  tt,
                ));
          }
      unlinks_by (inr is) =
          unlinks_cancelled (Unlink r q) (Declared q) r m entries run reads there frames put
          unlinked_lists
          (second_none (unlink_kind (Declared q) (kind_of (state_of states a) r))
          (guard_fault (state_of states a) set a.driver (Declared q)) run.obeys) is
          (unlinked_turns (Queued (Declared q) Cancelling) is)

      pub unlinks_claims : Claimed set states to
      unlinks_claims =
          unlinks_by
          (unlinked_kind (Declared q) (kind_of (state_of states a) r) (first_none _ _ run.obeys))
