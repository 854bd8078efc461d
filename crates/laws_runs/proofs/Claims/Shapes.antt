-- Every shape of a step keeps claims.
use Rattle.laws_runs.proofs.Common.{ap, arith, inl, inr, refl, subst, sym, ◌∙◌, Bool, List, None, Option, Some, [], false, is_none, option_map, slice_get, true, ℕ, ◌+◌, ◌<◌, ◌∷◌, ◌≡◌, ◌≤◌, Action, Outcome, armer_of, routine_of_device, is_at, is_right, kind_of, queued_kind, StartState, dequeued, head_of, next_started, started, with_slot, Set, cancel_routine_named, has_cancel, OperandFits, Actor, Entry, World, at_label, cancelled, next, packet_of, register, start_of, with_armer, with_packet, with_register, with_start, Kind, BlankKind, Own, QueuedKind, Armed, Cancelling, Taken, Lock, Instr, Arm, Begin, Dequeue, Disarm, Next, Release, ReleaseCancel, Remove, Start, Take, CancelLock, DeviceLock, Declared, DeviceQueue, Activation, Armer, CancelStep, Frame, CancelFrame, Routine, Walk, Packet, Ref, States, times_in, times_listed, times_queued, times_to_start, all_at, StepLeaves, ArmerLeads, word_leads, IsGood, Runs, state_of, never_lacks, inserts_right, OnTop, runs, first_none, second_none, unbroken, Standing, head_low, start_issued, Cancels, Comes, Exchanged, Executing, GoesTo, Waits, arms_for, arms_waiting, awaits_cancel, calls_cancel, cancels, dequeues_packet, disarms, disarms_next, errs, exchanges, exchanges_gone, finds_empty, finds_none, flags_gone, frees_lock, inserts, jumping, keeps_all, makes_number, onward, puts_in, queued_to, removes, removes_none, retakes_cancel, sets_flag, starts_gone, starts_next, starts_packet, takes_cancel, takes_none, takes_out, tops_out, unlinks, waited_to, waits_armed, works_on_queues, works_on_waiting, fault_among, is_touch, topped_faults, is_gone, lock_freed, packet_operand}
use Rattle.laws_runs.proofs.Claims.Names.{KeepsNames, kinds_names, label_names, next_takes, next_turns, turns_nothing}
use Rattle.laws_runs.proofs.Claims.Quiet.{word_kept, Quiet, quiet_step}
use Rattle.laws_runs.proofs.Claims.Steps.{after, quiet_claims}
use Rattle.laws_runs.proofs.Claims.Sums.{Claimed, takes_in}
use Rattle.laws_runs.proofs.Claims.Waiting.{to_start_put}
use Rattle.laws_runs.proofs.Holders.Started.{waits_given, waits_in, waits_next}
use Rattle.laws_runs.proofs.Holders.Counts.{reads_ref, Holding, right_lives}
use Rattle.laws_runs.proofs.Holders.Sums.{Held}
use Rattle.laws_runs.proofs.Locks.Runs.{LocksAgree}
use Rattle.laws_runs.proofs.Past.Owners.{Owned}
use Rattle.laws_runs.proofs.Runs.Events.{StepsFrame}
use Rattle.laws_runs.proofs.Steps.Comes.{Queued, Reads}
use Rattle.laws_runs.proofs.Claims.WordSteps.{arms_claims, empties_claims, gives_claims, releases_claims}
use Rattle.laws_runs.proofs.States.Fits.{WordLeads}
use Rattle.laws_runs.proofs.Claims.CancelSteps.{cancel_quiet, calls_claims, tops_quiet}
use Rattle.laws_runs.proofs.Claims.QueueSteps.{inserts_claims, lists_claims, once_put, own_there, removes_claims, unlinks_claims}
use Rattle.laws_runs.proofs.Claims.Sums.{is_cancelable, list_of, names_on, times_of}
use Rattle.laws_runs.proofs.Claims.Guards.{NeedsGuard, at_needs}
use Rattle.laws_runs.proofs.Claims.Next.{is_waiting, next_word, no_waiting, none_waits}
use Rattle.laws_runs.proofs.Claims.Queues.{puts_waiting, unlinked_times, waiting_less}
use Rattle.laws_runs.proofs.Claims.QueueSteps.{unlinks_cancelled}
use Rattle.laws_runs.proofs.Claims.WaitSteps.{next_loses, starts_claims, waits_claims}
use Rattle.laws_runs.proofs.Holders.Waits.{and_both, first_both, served_waits}
use Rattle.laws_runs.proofs.Past.Packets.{gone_topped}
use Rattle.laws_runs.proofs.Holders.Counts.{right_lives}

-- the entries of a device queue
abbrev waiting_of : List StartState → ℕ → Option (List ℕ)
waiting_of starts d = option_map (λ start. start.device_queue) (slice_get starts d)

module _ (set : Set) (states : States) (w : World) (past : List Entry) (good : IsGood set states)
    (stands : Standing set states w past) (agree : LocksAgree states w past)
    (owned : Owned w.shared.locks past) (kept : Held set states w) (c : Claimed set states w)
    (actor : Actor) (h : StepsFrame set w actor.thread)
    (leaves : StepLeaves set states w.shared h.frame h.outcome) where
  abbrev t : ℕ
  t = actor.thread

  abbrev to : World
  to = after set states w past good stands c t h leaves

  -- what is quiet
  quiet_by : (f : Frame) (o : Outcome) → h.frame ≡ f → h.outcome ≡ o → Quiet states w.shared f o
      → Claimed set states to
  quiet_by f o frame outcome quiet =
      quiet_claims set states w past good stands c t h leaves
      (subst (λ (g : Frame). Quiet states w.shared g h.outcome) (sym frame)
      (subst (λ (x : Outcome). Quiet states w.shared f x) (sym outcome) quiet))

  -- a lock is freed
  frees_by : (a : Activation) (i : Instr) (lock : Lock) (o : Outcome) → h.frame ≡ Routine a
      → h.outcome ≡ o → Runs set states w.shared a i → lock_freed a i ≡ Some lock
      → o.frames ≡ Routine (next a) ∷ [] → o.shared.packets ≡ w.shared.packets
      → o.shared.queues ≡ w.shared.queues → o.shared.starts ≡ w.shared.starts
      → Claimed set states to
  frees_by a (Release l) lock o frame outcome run is frames packets queues starts =
      releases_claims set states w past good stands c t h leaves kept a frame (DeviceLock l)
      (Release l) run refl refl
      (ap (λ (x : Outcome). x.frames) outcome ∙ frames)
      (ap (λ (x : Outcome). x.shared.packets) outcome ∙ packets)
      (ap (λ (x : Outcome). x.shared.queues) outcome ∙ queues)
      (ap (λ (x : Outcome). x.shared.starts) outcome ∙ starts)
  frees_by a ReleaseCancel lock o frame outcome run is frames packets queues starts =
      releases_claims set states w past good stands c t h leaves kept a frame CancelLock
      ReleaseCancel run refl refl
      (ap (λ (x : Outcome). x.frames) outcome ∙ frames)
      (ap (λ (x : Outcome). x.shared.packets) outcome ∙ packets)
      (ap (λ (x : Outcome). x.shared.queues) outcome ∙ queues)
      (ap (λ (x : Outcome). x.shared.starts) outcome ∙ starts)
  frees_by a _ lock o frame outcome run is frames packets queues starts = cc

  -- a cancel word is exchanged
  arms_by : (a : Activation) (x q n : ℕ) (p : Packet) (b : Activation) (o : Outcome)
      → h.frame ≡ Routine a → h.outcome ≡ o
      → Runs set states w.shared a (Arm x q) → GoesTo a (Arm x q) b false
      → Reads w.shared a x n → packet_of w.shared n ≡ Some p
      → o.frames ≡ Routine b ∷ []
      → o.shared ≡ with_packet w.shared n (with_armer p (Some (armer_of a q)))
      → Claimed set states to
  arms_by a x q n p b o frame outcome run (onward registers on (keeps_all _ same)) reads there
      frames
      shared =
      arms_claims set states w past good stands c t h leaves kept a frame x q n p run reads there
      (ap (λ (y : Outcome). y.frames) outcome ∙ frames)
      (ap (λ (y : Outcome). y.shared) outcome ∙ shared)
  arms_by a x q n p b o frame outcome run (onward registers on (makes_number _ r k is)) reads there
      frames shared = cc

  empties_by : (a : Activation) (x label n : ℕ) (p : Packet) (o : Outcome) (word : Option Armer)
      → h.frame ≡ Routine a → h.outcome ≡ o
      → Runs set states w.shared a (Disarm x label) → false ≡ is_none word → p.armer ≡ word
      → Reads w.shared a x n → packet_of w.shared n ≡ Some p
      → o.frames ≡ Routine (next a) ∷ []
      → o.shared ≡ with_packet w.shared n (with_armer p None)
      → Claimed set states to
  empties_by a x label n p o None frame outcome run is word reads there frames shared = cc
  empties_by a x label n p o (Some armer) frame outcome run is word reads there frames shared =
      empties_claims set states w past good stands c t h leaves kept a frame x label n p run reads
      there
      (ap (λ (y : Outcome). y.shared) outcome ∙ shared) armer word
      (ap (λ (y : Outcome). y.frames) outcome ∙ frames)

  gives_by : (a : Activation) (x label n : ℕ) (p : Packet) (o : Outcome) (word : Option Armer)
      → h.frame ≡ Routine a → h.outcome ≡ o
      → Runs set states w.shared a (Disarm x label) → true ≡ is_none word → p.armer ≡ word
      → Reads w.shared a x n → packet_of w.shared n ≡ Some p
      → o.frames ≡ Routine (at_label a label) ∷ []
      → o.shared ≡ with_packet w.shared n (with_armer p None)
      → Claimed set states to
  gives_by a x label n p o (Some armer) frame outcome run is word reads there frames shared = cc
  gives_by a x label n p o None frame outcome run is word reads there frames shared =
      gives_claims set states w past good stands c t h leaves kept a frame x label n p run reads
      there
      (ap (λ (y : Outcome). y.shared) outcome ∙ shared) word
      (ap (λ (y : Outcome). y.frames) outcome ∙ frames)

  disarms_by : (a : Activation) (x label n : ℕ) (p : Packet) (b : Activation) (jumped : Bool)
      (o : Outcome) → h.frame ≡ Routine a → h.outcome ≡ o
      → Runs set states w.shared a (Disarm x label) → jumped ≡ is_none p.armer
      → GoesTo a (Disarm x label) b jumped
      → Reads w.shared a x n → packet_of w.shared n ≡ Some p
      → o.frames ≡ Routine b ∷ []
      → o.shared ≡ with_packet w.shared n (with_armer p None)
      → Claimed set states to
  disarms_by a x label n p b jumped o frame outcome run is (onward registers on (keeps_all _ same))
      reads
      there frames shared =
      empties_by a x label n p o p.armer frame outcome run is refl reads there frames shared
  disarms_by a x label n p b jumped o frame outcome run is
      (onward registers on (makes_number _ r k its))
      reads there frames shared = cc
  disarms_by a x label n p b jumped o frame outcome run is (jumping l labelled) reads there frames
      shared =
      let same : label ≡ l = cc in
      gives_by a x label n p o p.armer frame outcome run is refl reads there
      (frames ∙ ap (λ (y : ℕ). Routine (at_label a y) ∷ []) (sym same)) shared

  exchanges_by : (a : Activation) (i : Instr) (b : Activation) (jumped : Bool) (r n : ℕ)
      (p : Packet)
      (armer : Option Armer) (o : Outcome) → h.frame ≡ Routine a → h.outcome ≡ o
      → Runs set states w.shared a i → GoesTo a i b jumped → packet_operand i ≡ Some r
      → Reads w.shared a r n → packet_of w.shared n ≡ Some p → Exchanged set a p i jumped armer
      → o.frames ≡ Routine b ∷ [] → o.shared ≡ with_packet w.shared n (with_armer p armer)
      → Claimed set states to
  exchanges_by a i b jumped r n p armer o frame outcome run goes operand reads there
      (arms_for x q routine is) frames shared =
      let same : x ≡ r = cc in
      arms_by a x q n p b o frame outcome run goes
      (subst (λ (y : ℕ). Reads w.shared a y n) (sym same) reads) there frames shared
  exchanges_by a i b jumped r n p armer o frame outcome run goes operand reads there
      (disarms x label) frames shared =
      let same : x ≡ r = cc in
      disarms_by a x label n p b jumped o frame outcome run refl goes
      (subst (λ (y : ℕ). Reads w.shared a y n) (sym same) reads) there frames shared

  -- an instruction leaves the queues as they are, but not what its device has for StartIo
  waiting_by : {b : Activation} (lists : List StartState) {actions : List Action} {full : Bool}
      → h.outcome ≡ queued_to w.shared b w.shared.queues lists actions full
      → ((d n : ℕ) → is_cancelable set d DeviceQueue ≡ true
      → times_of (waiting_of lists d) n ≤ times_of (list_of w.shared d DeviceQueue) n)
      → (d n : ℕ) → is_cancelable set d DeviceQueue ≡ true
      → times_of (list_of to.shared d DeviceQueue) n ≤ times_of (list_of w.shared d DeviceQueue) n
  waiting_by lists outcome waiting d n may =
      let now : times_of (list_of h.outcome.shared d DeviceQueue) n
      ≡ times_of (waiting_of lists d) n =
      ap (λ (x : Outcome). times_of (list_of x.shared d DeviceQueue) n) outcome in
      omega (arith, waiting d n may)

  lists_by : (a b : Activation) (lists : List StartState) {actions : List Action} {full : Bool}
      → h.frame ≡ Routine a → h.outcome ≡ queued_to w.shared b w.shared.queues lists actions full
      → KeepsNames states a b → b.device ≡ a.device
      → ((d n : ℕ) → is_cancelable set d DeviceQueue ≡ true
      → times_of (waiting_of lists d) n ≤ times_of (list_of w.shared d DeviceQueue) n)
      → ((n : ℕ) → takes_in states n w.threads
      + (times_queued w.shared.queues n + times_to_start lists n) ≤ 1)
      → Claimed set states to
  lists_by a b lists frame outcome names device waiting once =
      lists_claims set states w past good stands c t h leaves kept a frame
      (ap (λ (x : Outcome). x.shared.packets) outcome) b names device
      (ap (λ (x : Outcome). x.frames) outcome) (ap (λ (x : Outcome). x.shared.queues) outcome)
      (waiting_by lists outcome waiting)
      (λ n.
      let now : times_listed h.outcome.shared n
      ≡ times_queued w.shared.queues n + times_to_start lists n =
      ap (λ (x : Outcome). times_listed x.shared n) outcome in
      omega (arith, once n))

  same_by : (a b : Activation) {actions : List Action} {full : Bool} → h.frame ≡ Routine a
      → h.outcome ≡ queued_to w.shared b w.shared.queues w.shared.starts actions full
      → KeepsNames states a b → b.device ≡ a.device → Claimed set states to
  same_by a b frame outcome names device =
      lists_by a b w.shared.starts frame outcome names device (λ d n may. omega arith)
      c.balanced.once

  start_by : (a b : Activation) (i : Instr)
      (start after : StartState) {actions : List Action} {full : Bool}
      → h.frame ≡ Routine a
      → Runs set states w.shared a i
      → h.outcome ≡ queued_to w.shared b w.shared.queues
      (with_start w.shared a.device after).starts actions full
      → KeepsNames states a b → b.device ≡ a.device → start_of w.shared a.device ≡ Some start
      → ((n : ℕ) → waits_in after n ≡ waits_in start n)
      → ((n : ℕ) → times_in after.device_queue n ≤ times_in start.device_queue n)
      → Claimed set states to
  start_by a b i start after frame run outcome names device there same loses =
      lists_by a b (with_start w.shared a.device after).starts frame outcome names device
      (λ d n may. waiting_less set w.shared a.device a.driver start after there
      (served_waits set states w.shared a i run) (λ has. loses) d n may)
      (λ n.
      omega (
        arith,
        to_start_put w.shared.starts a.device start after n there,
        same n,
        c.balanced.once n,
      ))

  -- an instruction about queues
  -- the packet of a device that is started waits only where nothing has to hold it then
  not_waiting : (a : Activation) (start : StartState) (n : ℕ) → waits_armed set a start ≡ false
      → has_cancel set a.driver DeviceQueue ≡ true → (m : ℕ)
      → times_in (started start n).device_queue m ≤ times_in start.device_queue m
  not_waiting a start n plain has m =
      let idle : start.busy ≡ false = rw has at plain in rw idle (omega arith)

  -- a register's packet was handed to the cancel routine of the device queue
  dequeued_kind : (k : Kind) → queued_kind (is_at Cancelling DeviceQueue k) k ≡ None
      → k ≡ QueuedKind DeviceQueue Cancelling
  dequeued_kind (QueuedKind (Declared q) Cancelling) h = cc
  dequeued_kind (QueuedKind DeviceQueue Cancelling) h = refl
  dequeued_kind _ h = cc

  queues_by : (a : Activation) (i : Instr) → h.frame ≡ Routine a → Runs set states w.shared a i
      → {b : Activation} {queues : List (List (List ℕ))} {lists : List StartState}
      {actions : List Action} {full : Bool}
      → h.outcome ≡ queued_to w.shared b queues lists actions full
      → Holding set states w.shared past (Routine a)
      → (queued : Queued set w.shared a i b queues lists actions full) → is_gone queued ≡ false
      → Claimed set states to
  queues_by a i frame run outcome holding (inserts r q n entries reads there) quiet =
      inserts_claims set states w past good stands c t h leaves kept a frame
      (ap (λ (x : Outcome). x.shared.packets) outcome) r q n entries run
      reads there (ap (λ (x : Outcome). x.frames) outcome)
      (ap (λ (x : Outcome). x.shared.queues) outcome)
      (ap (λ (x : Outcome). x.shared.starts) outcome)
  queues_by a i frame run outcome holding (removes r q label n entries there) quiet =
      removes_claims set states w past good stands c t h leaves kept a frame
      (ap (λ (x : Outcome). x.shared.packets) outcome) agree owned
      r q label n entries run there (ap (λ (x : Outcome). x.frames) outcome)
      (ap (λ (x : Outcome). x.shared.queues) outcome)
      (ap (λ (x : Outcome). x.shared.starts) outcome)
  queues_by a i frame run outcome holding (unlinks r q n entries reads there) quiet =
      unlinks_claims set states w past good stands c t h leaves kept a frame
      (ap (λ (x : Outcome). x.shared.packets) outcome) agree owned
      r q n entries run reads there (ap (λ (x : Outcome). x.frames) outcome)
      (ap (λ (x : Outcome). x.shared.queues) outcome)
      (ap (λ (x : Outcome). x.shared.starts) outcome)
  queues_by a i frame run outcome holding (removes_none r q label there) quiet =
      same_by a (at_label a label) frame outcome
      (label_names set states w.shared a (Remove r q label) run r label refl refl
      (unbroken _ _ (first_none _ _ (second_none _ _ run.obeys)))) refl
  queues_by a i frame run outcome holding (starts_packet r n start reads there plain) quiet =
      let plainly : waits_armed set a start ≡ false =
      elim plain [
        | inl may ↦ may
        | inr gone ↦ absurd (right_lives set states w.shared past a holding run.stays.kinds r n
            (ap is_right (inserts_right (kind_of (state_of states a) r) (first_none _ _ run.obeys)))
            reads gone)
      ] in
      let own : kind_of (state_of states a) r ≡ Own =
      inserts_right (kind_of (state_of states a) r) (first_none _ _ run.obeys) in
      lists_claims set states w past good stands c t h leaves kept a frame
      (ap (λ (x : Outcome). x.shared.packets) outcome) (next a)
      (turns_nothing states a (next a) Own BlankKind n refl refl
      (next_turns set states w.shared a (Start r) run r Own BlankKind n refl refl own
      (reads_ref w.shared (register a r) n reads))) refl
      (ap (λ (x : Outcome). x.frames) outcome) (ap (λ (x : Outcome). x.shared.queues) outcome)
      (waiting_by (with_start w.shared a.device (started start n)).starts outcome
      (λ d m may. waiting_less set w.shared a.device a.driver start (started start n) there
      (served_waits set states w.shared a (Start r) run) (not_waiting a start n plainly) d m may))
      (once_put set states w past good stands c t h leaves kept a frame n
      (own_there set states w past good stands c t h leaves kept a frame (Start r) r n run own
      reads)
      (λ m.
      let now : times_listed h.outcome.shared m
      ≡ times_queued w.shared.queues m
      + times_to_start (with_start w.shared a.device (started start n)).starts m =
      ap (λ (x : Outcome). times_listed x.shared m) outcome in
      omega (
        arith,
        to_start_put w.shared.starts a.device start (started start n) m there,
        waits_given start n m,
      )))
  queues_by a i frame run outcome holding (takes_out r label n start there slot) quiet =
      start_by a (next (with_register a r (Ref n))) (Take r label) start
      (with_slot start None) frame
      run outcome
      (turns_nothing states a (next (with_register a r (Ref n))) BlankKind Own n refl refl
      (next_takes set states w.shared a (Take r label) run r Own n refl refl
      (unbroken _ _ (second_none _ _ run.obeys))
      (all_at OperandFits run.routine.code a.position (Take r label) run.known.operands run.here)))
      refl there (λ m. refl) (λ m. omega arith)
  queues_by a i frame run outcome holding (takes_none r label start there slot) quiet =
      same_by a (at_label a label) frame outcome
      (label_names set states w.shared a (Take r label) run r label refl refl
      (unbroken _ _ (second_none _ _ run.obeys))) refl
  queues_by a i frame run outcome holding (puts_in r n start reads there) quiet =
      let own : kind_of (state_of states a) r ≡ Own =
      inserts_right (kind_of (state_of states a) r) (first_none _ _ run.obeys) in
      start_by a (next a) (Begin r) start (with_slot start (Some n)) frame run outcome
      (turns_nothing states a (next a) Own BlankKind n refl refl
      (next_turns set states w.shared a (Begin r) run r Own BlankKind n refl refl own
      (reads_ref w.shared (register a r) n reads))) refl there (λ m. refl) (λ m. omega arith)
  queues_by a i frame run outcome holding (starts_next start there none) quiet =
      start_by a (next a) Next start (next_started start) frame run outcome
      (kinds_names set states w.shared a Next run refl refl) refl there (waits_next start)
      (next_loses start)
  queues_by a i frame run outcome holding (starts_gone n start there first gone) quiet = cc
  queues_by a i frame run outcome holding (dequeues_packet r n start reads there) quiet =
      let is : kind_of (state_of states a) r ≡ QueuedKind DeviceQueue Cancelling =
      dequeued_kind (kind_of (state_of states a) r) (first_none _ _ run.obeys) in
      unlinks_cancelled set states w past good stands c t h leaves kept a frame
      (ap (λ (x : Outcome). x.shared.packets) outcome) agree owned
      (Dequeue r) DeviceQueue r n start.device_queue run reads (rw there refl)
      (ap (λ (x : Outcome). x.frames) outcome)
      (puts_waiting w.shared to.shared a.device start (dequeued start n) there
      (ap (λ (x : Outcome). x.shared.queues) outcome)
      (ap (λ (x : Outcome). x.shared.starts) outcome))
      (λ m.
      let now : times_listed h.outcome.shared m
      ≡ times_queued w.shared.queues m
      + times_to_start (with_start w.shared a.device (dequeued start n)).starts m =
      ap (λ (x : Outcome). times_listed x.shared m) outcome in
      omega (
        arith,
        to_start_put w.shared.starts a.device start (dequeued start n) m there,
        unlinked_times start.device_queue n m,
      ))
      (first_none _ _ (second_none _ _ run.obeys)) is
      (next_turns set states w.shared a (Dequeue r) run r (QueuedKind DeviceQueue Cancelling) Own n
      refl refl
      is (reads_ref w.shared (register a r) n reads))

  -- an instruction that exchanges the cancel routine of a packet of the device queue
  waits_by : (a : Activation) (i : Instr) (starts : List StartState) (n : ℕ) (p : Packet)
      (armer : Option Armer) (full : Bool) → h.frame ≡ Routine a → Runs set states w.shared a i
      → Executing set a i → packet_of w.shared n ≡ Some p
      → h.outcome ≡ waited_to w.shared a starts n p armer full
      → Waits set w.shared a i starts n armer full → Claimed set states to
  waits_by a i starts n p armer full frame run at there outcome
      (arms_waiting r m start reads is armed) =
      waits_claims set states w past good stands c t h leaves kept a frame r n p start run reads is
      (and_both (has_cancel set a.driver DeviceQueue) start.busy armed).1 there
      (ap (λ (x : Outcome). x.frames) outcome) (ap (λ (x : Outcome). x.shared) outcome)
  waits_by a i starts n p armer full frame run at there outcome (disarms_next m start is first) =
      let both : (has_cancel set a.driver DeviceQueue ≡ true)
      × (head_of start.device_queue ≡ Some n) =
      first_both (has_cancel set a.driver DeviceQueue) (head_of start.device_queue) n first in
      let word : (armer : Armer) × (p.armer ≡ Some armer) × (armer.device ≡ a.device)
      × (armer.queue ≡ DeviceQueue) =
      next_word set states w past good stands agree owned c t h a frame run both.0 n start p is
      both.1 there in
      let none : (g : Kind → Bool) → NeedsGuard set a.driver g DeviceQueue
      → ((k : Kind) → is_waiting k ≡ false → g k ≡ false) → (m : ℕ)
      → names_on states g a.device m w.threads ≡ 0 =
      none_waits set states w past good stands agree owned c t h a frame run both.0 in
      starts_claims set states w past good stands c t h leaves kept a frame n p start run is both.1
      there word.0 word.1 (word.2, word.3)
      (none (is_at Armed DeviceQueue) (at_needs set a.driver DeviceQueue Armed refl)
      (no_waiting Armed refl) n)
      (none (is_at Taken DeviceQueue) (at_needs set a.driver DeviceQueue Taken refl)
      (no_waiting Taken refl) n)
      (ap (λ (x : Outcome). x.frames) outcome) (ap (λ (x : Outcome). x.shared) outcome)

  -- IoCancelIrp
  never_finds : (p : Packet) (armer : Armer) → p.armer ≡ Some armer → WordLeads set p
      → cancel_routine_named set (routine_of_device (slice_get set.devices armer.device))
      armer.queue
      ≡ None → ⊥
  never_finds p armer is leads none =
      let its : ArmerLeads set (Some armer) = subst (ArmerLeads set) is leads in
      let driver : routine_of_device (slice_get set.devices armer.device) ≡ its.0.driver =
      ap routine_of_device its.1 in
      let no : None ≡ Some its.2 =
      sym none ∙ ap (λ (d : ℕ). cancel_routine_named set d armer.queue) driver ∙ its.3 in
      cc

  cancels_by : (n : ℕ) (step : CancelStep) (o : Outcome)
      → h.frame ≡ CancelFrame (record { packet = n; next = step }) → h.outcome ≡ o
      → n < w.shared.issued → Cancels set w.shared t n step o → Claimed set states to
  cancels_by n step o frame outcome low (takes_cancel free) =
      quiet_by _ o frame outcome (cancel_quiet states w.shared _ _ o refl (λ g of on m. refl)
      (tt, tt)
      (λ m d q. refl) refl refl)
  cancels_by n step o frame outcome low (retakes_cancel its) =
      quiet_by _ o frame outcome (cancel_quiet states w.shared _ _ o refl (λ g of on m. refl)
      (tt, tt)
      (λ m d q. refl) refl refl)
  cancels_by n step o frame outcome low (awaits_cancel owner its other) =
      quiet_by _ o frame outcome (cancel_quiet states w.shared _ _ o refl (λ g of on m. refl)
      (tt, tt)
      (λ m d q. refl) refl refl)
  cancels_by n step o frame outcome low (flags_gone gone) =
      quiet_by _ o frame outcome (cancel_quiet states w.shared _ _ o refl (λ g of on m. refl) tt
      (λ m d q. refl) refl refl)
  cancels_by n step o frame outcome low (sets_flag p there) =
      quiet_by _ o frame outcome (cancel_quiet states w.shared _ _ o refl (λ g of on m. refl)
      (tt, tt)
      (word_kept w.shared n p (cancelled p) there refl refl) refl refl)
  cancels_by n step o frame outcome low (exchanges_gone gone) =
      quiet_by _ o frame outcome (cancel_quiet states w.shared _ _ o refl (λ g of on m. refl) tt
      (λ m d q. refl) refl refl)
  cancels_by n step o frame outcome low (finds_empty p there empty) =
      quiet_by _ o frame outcome (cancel_quiet states w.shared _ _ o refl (λ g of on m. refl) tt
      (word_kept w.shared n p (with_armer p None) there refl (sym empty)) refl refl)
  cancels_by n step o frame outcome low (finds_none p armer there is none) =
      absurd (never_finds p armer is (word_leads set w.shared stands.fits n p there) none)
  cancels_by n step o frame outcome low (calls_cancel p armer routine there is named) =
      calls_claims set states w past good stands c t h leaves (record { packet = n; next = step }) n
      p armer routine frame low there is named
      (ap (λ (x : Outcome). x.frames) outcome) (ap (λ (x : Outcome). x.shared) outcome)

  -- every shape
  pub shape_claims : (under : Option Frame) (f : Frame) (o : Outcome) → h.frame ≡ f → h.outcome ≡ o
      → OnTop set states w.shared f → Holding set states w.shared past f
      → fault_among is_touch past actor o.actions ≡ None
      → Comes set w.shared t under f o → Claimed set states to
  shape_claims under f o frame outcome top holding quiet
      (exchanges a i b jumped r n p armer at is goes operand reads there how) =
      exchanges_by a i b jumped r n p armer o frame outcome (runs set states w.shared a i top at)
      goes
      operand reads there how refl refl
  shape_claims under f o frame outcome top holding quiet
      (frees_lock a i lock owner at frees there) =
      frees_by a i lock o frame outcome (runs set states w.shared a i top at) frees refl refl refl
      refl
  shape_claims under f o frame outcome top holding quiet
      (works_on_queues a i b queues starts actions full at (starts_gone n start there first gone)) =
      let low : n < w.shared.issued =
      head_low w.shared.issued start
      (start_issued set w.shared a.device start there top.fits.starts)
      start.device_queue n
      (start_issued set w.shared a.device start there top.fits.starts).device_queue
      (first_both (has_cancel set a.driver DeviceQueue) (head_of start.device_queue) n first).1 in
      absurd (topped_faults past n (gone_topped w.shared past n holding.tells low gone) quiet)
  shape_claims under f o frame outcome top holding quiet
      (works_on_queues a i b queues starts actions full at queued) =
      queues_by a i frame (runs set states w.shared a i top at) outcome holding queued refl
  shape_claims under f o frame outcome top holding quiet
      (works_on_waiting a i starts n p armer full at there waits) =
      waits_by a i starts n p armer full frame (runs set states w.shared a i top at) at there
      outcome waits
  shape_claims under f o frame outcome top holding quiet (tops_out n p there none last) =
      quiet_by (Walk n) o frame outcome
      (tops_quiet states w.shared set w past n p o refl kept holding there refl refl)
  shape_claims under f o frame outcome top holding quiet (cancels n step made moves) =
      cancels_by n step o frame outcome top.stands moves
  shape_claims under f o frame outcome top holding quiet (errs a lacks) =
      absurd (never_lacks set states w.shared a top lacks)
  shape_claims under f o frame outcome top holding quiet come =
      quiet_by f o frame outcome
      (quiet_step set states w.shared past actor under f o top holding come refl quiet)
