-- After every step what the threads share tells what the past tells: of the packets, and, where
-- there was no bug check, of the owners of the locks.
use Rattle.laws_runs.proofs.Prelude.{ap, cond, inl, inr, refl, sym, ◌-◌, ◌∙◌, eq-eqb, list_any, Bool, List, None, Option, Some, [], false, is_some, nat_eq, not, true, ℕ, ◌&&◌, ◌+◌, ◌∷◌, ◌≡◌, Acquires, Action, Calls, Completes, Continues, Exchanges, Executes, Lends, Marks, Releases, TopsOut, Touches, Ups, Outcome, set_by, bug_if, armed, completing, depth, depth_after, ends_armed, ends_completing, ends_held, first_fault, holds, is_lock, is_top_out, location_acts, lock_acts, packet_acts, stack_after, stack_size, topped, Set, Actor, Entry, recorded, Shared, cancelled, completed, left_location, mark_current, moved_up, owner_of, packet_of, register, sent_down, shared_with, with_armer, with_info, with_packet, Armer, Packet, with_owner, Bug, SpinLockAlreadyOwned, SpinLockNotOwned, Lock, SystemCancel, LockSubject, CancelStep, Frame}
use Rattle.model.specs.Action.{LockAct, Acquire, Release, Exchange, Leaves}
use Rattle.laws_runs.proofs.Past.Owners.{Owned, lock_told, owns, owned_acquire, owned_release, owner_its}
use Rattle.laws_runs.proofs.Past.Packets.{Tells, named, Others, tells_changed, tells_kept, tells_late, tells_top}
use Rattle.laws_runs.proofs.Past.Stacks.{Changed, changed_info, changed_mark, changed_completed, changed_share, changed_down, changed_up, changed_marked_up, changed_flag, changed_word, changed_back, changed_lent}
use Rattle.laws_runs.proofs.Past.Walks.{UnderIssued}
use Rattle.laws_runs.proofs.Steps.Faults.{none_first}
use Rattle.laws_runs.proofs.Steps.Comes.{Cancels, takes_cancel, retakes_cancel, flags_gone, sets_flag, exchanges_gone, finds_empty, finds_none, calls_cancel, Comes, writes_info, marks_packet, exchanges, resumes_walk, resumes_gone, takes_lock, retakes_lock, frees_lock, completes_packet, completes_gone, passes_down, calls_down, walks_to, lends_to, cancels, walks_up, carries_up, tops_out, works_on_queues, works_on_waiting}
use Rattle.laws_runs.proofs.Steps.Queues.{queued_touches}

module _ (set : Set) (s : Shared) (past : List Entry) (actor : Actor) (tells : Tells s past) where
  -- the packets: one whose cancel routine was exchanged, one that the I/O manager has again, and
  -- one that moved between its locations
  module _ (n : ℕ) (p : Packet) (there : packet_of s n ≡ Some p) (later : List Entry)
      (others : Others past later n) where
    exchanged : (armer : Option Armer)
        → packet_acts later n ≡ Exchange (is_some armer) ∷ packet_acts past n
        → location_acts later n ≡ location_acts past n
        → Tells (with_packet s n (with_armer p armer)) later
    exchanged armer acts places =
        tells_changed s past tells n p (with_armer p armer) there later p.completing
        (is_some armer) p.depth (changed_word p armer)
        (record {
          untopped = ap (list_any is_top_out) acts;
          taken = λ is. ap ends_completing acts ∙ is;
          armed = λ is. ap ends_armed acts;
          count = ap stack_after places;
          place = λ is. ap depth_after places ∙ is;
        })
        others

    taken : (q : Packet) → Changed p q true (is_some p.armer) p.depth
        → topped later n ≡ topped past n → completing later n ≡ true
        → armed later n ≡ armed past n → location_acts later n ≡ location_acts past n
        → Tells (with_packet s n q) later
    taken q changed untopped now held places =
        tells_changed s past tells n p q there later true (is_some p.armer) p.depth changed
        (record {
          untopped = untopped;
          taken = λ is. now;
          armed = λ is. held ∙ is;
          count = ap stack_after places;
          place = λ is. ap depth_after places ∙ is;
        })
        others

    moved : (q : Packet) (place : ℕ) → Changed p q p.completing (is_some p.armer) place
        → packet_acts later n ≡ packet_acts past n → stack_size later n ≡ stack_size past n
        → (depth past n ≡ p.depth → depth later n ≡ place)
        → Tells (with_packet s n q) later
    moved q place changed acts count deep =
        tells_changed s past tells n p q there later p.completing (is_some p.armer) place changed
        (record {
          untopped = ap (list_any is_top_out) acts;
          taken = λ is. ap ends_completing acts ∙ is;
          armed = λ is. ap ends_armed acts ∙ is;
          count = count;
          place = deep;
        })
        others

  same : (n : ℕ) → nat_eq n n ≡ true
  same n = eq-eqb n n refl

  less : (d e : ℕ) → d ≡ e → d - 1 ≡ e - 1
  less d e is = ap (λ (x : ℕ). x - 1) is

  cancel_packets : (n : ℕ) (step : CancelStep) (o : Outcome)
      → Cancels set s actor.thread n step o → Tells o.shared (recorded past actor o.actions)
  cancel_packets n step o (sets_flag p there) =
      tells_kept s past tells n p (cancelled p) there (changed_flag p)
  cancel_packets n step o (finds_empty p there word) =
      exchanged n p there (recorded past actor (Exchanges n false ∷ Releases SystemCancel ∷ []))
      (λ m other. (rw other refl, refl)) None (rw (same n) refl) refl
  cancel_packets n step o (finds_none p armer there word named_none) =
      exchanged n p there (recorded past actor (Exchanges n false ∷ Releases SystemCancel ∷ []))
      (λ m other. (rw other refl, refl)) None (rw (same n) refl) refl
  cancel_packets n step o (calls_cancel p armer routine there word named_it) =
      exchanged n p there (recorded past actor (Exchanges n false ∷ []))
      (λ m other. (rw other refl, refl)) None (rw (same n) refl) refl
  cancel_packets n step o _ = tells

  pub told_packets : (under : Option Frame) (f : Frame) (o : Outcome)
      → UnderIssued s.issued under
      → Comes set s actor.thread under f o → Tells o.shared (recorded past actor o.actions)
  told_packets under f o low (writes_info a q r n p info at reads there number) =
      tells_kept s past tells n p (with_info p info) there (changed_info p info)
  told_packets under f o low (marks_packet a r n p at reads there) =
      moved n p there (recorded past actor (Executes ∷ Touches n ∷ Marks n ∷ []))
      (λ m other. (refl, rw other refl)) (mark_current p) p.depth (changed_mark p) refl
      (rw (same n) refl) (λ is. rw (same n) is)
  told_packets under f o low (completes_packet a r status n p at reads there) =
      taken n p there (recorded past actor (Executes ∷ Completes n ∷ []))
      (λ m other. (rw other refl, refl)) (completed p status) (changed_completed p status)
      (rw (same n) refl) (rw (same n) refl) (rw (same n) refl) refl
  told_packets under f o low (completes_gone a r status n at reads none) =
      tells_late s past tells (recorded past actor (Executes ∷ Completes n ∷ [])) n
      (λ m other. (rw other refl, refl)) (named s (register a r) n reads) none
      (rw (same n) refl)
  told_packets under f o low (passes_down a r n p lower at reads there below) =
      tells_kept s past tells n p (shared_with p lower) there (changed_share p lower)
  told_packets under f o low (calls_down a r g n p lower at reads there below) =
      moved n p there (recorded past actor (Executes ∷ Touches n ∷ Calls n ∷ []))
      (λ m other. (refl, rw other refl)) (sent_down p lower (set_by a g)) (p.depth + 1)
      (changed_down p lower (set_by a g)) refl
      (rw (same n) refl) (λ is. rw (same n) (ap (λ (d : ℕ). d + 1) is))
  told_packets under f o low (walks_to n p c there with lends) =
      moved n p there (recorded past actor (Touches n ∷ Leaves n ∷ Ups n ∷ []))
      (λ m other. (refl, rw other refl)) (moved_up (left_location p)) (p.depth - 1) (changed_up p)
      refl (rw (same n) refl) (λ is. rw (same n) (less (depth past n) p.depth is))
  told_packets under f o low (lends_to n p c there with lends) =
      tells_changed s past tells n p
      (record (moved_up (left_location p)) { completing = false }) there
      (recorded past actor (Touches n ∷ Leaves n ∷ Ups n ∷ Lends n ∷ [])) false
      (is_some p.armer) (p.depth - 1) (changed_lent p)
      (record {
        untopped = rw (same n) refl;
        taken = λ is. rw (same n) refl;
        armed = λ is. rw (same n) is;
        count = rw (same n) refl;
        place = λ is. rw (same n) (less (depth past n) p.depth is);
      })
      (λ m other. (rw other refl, rw other refl))
  told_packets under f o low (resumes_walk a n p at sort there) =
      taken n p there (recorded past actor (Executes ∷ Touches n ∷ Continues n ∷ []))
      (λ m other. (rw other refl, refl)) (record p { completing = true }) (changed_back p)
      (rw (same n) refl) (rw (same n) refl) (rw (same n) refl) refl
  told_packets under f o low (resumes_gone a n at sort none) =
      tells_late s past tells (recorded past actor (Executes ∷ Touches n ∷ Continues n ∷ [])) n
      (λ m other. (rw other refl, refl)) low none (rw (same n) refl)
  told_packets under f o low
      (exchanges a i b jumped r n p armer at work goes is reads there how) =
      exchanged n p there
      (recorded past actor (Executes ∷ Touches n ∷ Exchanges n (is_some armer) ∷ []))
      (λ m other. (rw other refl, refl)) armer (rw (same n) refl) refl
  told_packets under f o low (cancels n step made moves) = cancel_packets n step made moves
  told_packets under f o low (walks_up n p there without deep unmarked) =
      moved n p there (recorded past actor (Touches n ∷ Leaves n ∷ Ups n ∷ []))
      (λ m other. (refl, rw other refl)) (moved_up (left_location p)) (p.depth - 1) (changed_up p)
      refl (rw (same n) refl) (λ is. rw (same n) (less (depth past n) p.depth is))
  told_packets under f o low (carries_up n p there without deep marked) =
      moved n p there (recorded past actor (Touches n ∷ Leaves n ∷ Ups n ∷ Marks n ∷ []))
      (λ m other. (refl, rw other refl)) (mark_current (moved_up (left_location p)))
      (p.depth - 1) (changed_marked_up p)
      refl (rw (same n) refl) (λ is. rw (same n) (less (depth past n) p.depth is))
  told_packets under f o low (tops_out n p there without first) =
      tells_top s past tells (recorded past actor (Touches n ∷ Leaves n ∷ TopsOut n ∷ [])) n
      (λ m other. (rw other refl, rw other refl)) p there (rw (same n) refl)
  told_packets under f o low (works_on_queues a i b queues starts actions full at queued) =
      elim (queued_touches queued) [ inl none ↦ rw none tells | inr one ↦ rw one.1 tells ]
  told_packets under f o low (works_on_waiting a i starts n p armer full at there waits) =
      exchanged n p there
      (recorded past actor (Executes ∷ Touches n ∷ Exchanges n (is_some armer) ∷ []))
      (λ m other. (rw other refl, refl)) armer (rw (same n) refl) refl
  told_packets under f o low _ = tells

module _ (set : Set) (s : Shared) (past : List Entry) (actor : Actor) where
  -- what one more act of the thread says of its locks
  one_more : (act : LockAct) (m : Lock) (k : ℕ) (l : Lock)
      → ends_held (cond (nat_eq actor.thread k && is_lock m l) (act ∷ lock_acts past k l)
      (lock_acts past k l))
      ≡ cond (nat_eq actor.thread k && is_lock m l) (ends_held (act ∷ lock_acts past k l))
      (holds past k l)
  one_more act m k l = lock_told act (nat_eq actor.thread k && is_lock m l) (lock_acts past k l)

  -- a lock that is freed was the thread's, or there was a bug check
  freed : (after : List Entry) (lock : Lock) (owner : Option ℕ) → owner_of s.locks lock ≡ Some owner
      → Owned s.locks past
      → ((k : ℕ) (l : Lock) → holds after k l
      ≡ cond (nat_eq actor.thread k && is_lock lock l) false (holds past k l))
      → (own : Bool) → holds past actor.thread lock ≡ own
      → bug_if (not own) SpinLockNotOwned (LockSubject lock) ≡ None
      → Owned (with_owner s.locks lock None) after
  freed after lock owner there owned told true own quiet =
      let mine : owns s.locks actor.thread lock ≡ true = sym (owned actor.thread lock) ∙ own in
      let its : owner_of s.locks lock ≡ Some (Some actor.thread) =
      there ∙ ap (λ (o : Option ℕ). Some o) (owner_its actor.thread owner (rw there at mine)) in
      owned_release s.locks past after actor.thread lock owned its told
  freed after lock owner there owned told false own quiet = cc

  -- a lock that the thread owns isn't acquired, or there was a bug check
  retaken : (lock : Lock) → owner_of s.locks lock ≡ Some (Some actor.thread) → Owned s.locks past
      → bug_if (holds past actor.thread lock) SpinLockAlreadyOwned (LockSubject lock) ≡ None → ⊥
  retaken lock its owned quiet =
      let own : holds past actor.thread lock ≡ true =
      owned actor.thread lock ∙ (rw its (eq-eqb actor.thread actor.thread refl)) in
      let bug : Bug = record { check = SpinLockAlreadyOwned; subject = LockSubject lock } in
      let no : Some bug ≡ None = rw own at quiet in
      cc

  -- IoCancelIrp frees the lock that it took
  cancel_freed : (actions : List Action) → Owned s.locks past
      → ((k : ℕ) (l : Lock) → holds (recorded past actor actions) k l
      ≡ cond (nat_eq actor.thread k && is_lock SystemCancel l) false (holds past k l))
      → bug_if (not (holds past actor.thread SystemCancel)) SpinLockNotOwned
      (LockSubject SystemCancel)
      ≡ None
      → Owned (with_owner s.locks SystemCancel None) (recorded past actor actions)
  cancel_freed actions owned told quiet =
      freed (recorded past actor actions) SystemCancel s.locks.system_cancel refl owned told
      (holds past actor.thread SystemCancel) refl quiet

  cancel_locks : (n : ℕ) (step : CancelStep) (o : Outcome) → Owned s.locks past
      → Cancels set s actor.thread n step o → first_fault past actor o.actions ≡ None
      → Owned o.shared.locks (recorded past actor o.actions)
  cancel_locks n step o owned (takes_cancel free) quiet =
      owned_acquire s.locks past (recorded past actor (Acquires SystemCancel ∷ [])) actor.thread
      SystemCancel owned free (one_more Acquire SystemCancel)
  cancel_locks n step o owned (retakes_cancel its) quiet =
      absurd (retaken SystemCancel its owned (none_first _ _ quiet))
  cancel_locks n step o owned (flags_gone none) quiet =
      cancel_freed (Releases SystemCancel ∷ []) owned (one_more Release SystemCancel)
      (none_first _ _ quiet)
  cancel_locks n step o owned (exchanges_gone none) quiet =
      cancel_freed (Releases SystemCancel ∷ []) owned (one_more Release SystemCancel)
      (none_first _ _ quiet)
  cancel_locks n step o owned (finds_empty p there word) quiet =
      cancel_freed (Exchanges n false ∷ Releases SystemCancel ∷ []) owned
      (one_more Release SystemCancel)
      (none_first _ _ quiet)
  cancel_locks n step o owned (finds_none p armer there word named_none) quiet =
      cancel_freed (Exchanges n false ∷ Releases SystemCancel ∷ []) owned
      (one_more Release SystemCancel)
      (none_first _ _ quiet)
  cancel_locks n step o owned _ quiet = owned

  -- the owners of the locks
  pub told_locks : (under : Option Frame) (f : Frame) (o : Outcome) → Owned s.locks past
      → Comes set s actor.thread under f o → first_fault past actor o.actions ≡ None
      → Owned o.shared.locks (recorded past actor o.actions)
  told_locks under f o owned (takes_lock a i lock at takes free) quiet =
      owned_acquire s.locks past (recorded past actor (Executes ∷ Acquires lock ∷ [])) actor.thread
      lock owned free (one_more Acquire lock)
  told_locks under f o owned (retakes_lock a i lock at takes its) quiet =
      absurd (retaken lock its owned (none_first _ _ quiet))
  told_locks under f o owned (frees_lock a i lock owner at frees there) quiet =
      freed (recorded past actor (Executes ∷ Releases lock ∷ [])) lock owner there owned
      (one_more Release lock)
      (holds past actor.thread lock) refl (none_first _ _ quiet)
  told_locks under f o owned (cancels n step made moves) quiet =
      cancel_locks n step made owned moves quiet
  told_locks under f o owned (works_on_queues a i b queues starts actions full at queued) quiet =
      elim (queued_touches queued) [ inl none ↦ rw none owned | inr one ↦ rw one.1 owned ]
  told_locks under f o owned _ quiet = owned
