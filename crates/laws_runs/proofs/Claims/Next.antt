-- The packet in a device queue that IoStartNextPacket starts has its cancel routine set, where the
-- packets there have one: it stands in the queue, so that its word or the cancel routine has it;
-- and while the routine holds the system cancel spin lock no other one has a packet that was handed
-- to the cancel routine, nor has this one, which has the token of its device.
use Rattle.laws_runs.proofs.Common.{ap, arith, refl, subst, sym, ◌∙◌, Bool, List, None, Option, Some, [], false, not, option_map, true, ℕ, ◌&&◌, ◌+◌, ◌∷◌, ◌≡◌, ◌≤◌, is_at, is_stage, kind_disarmed, kind_inserted, kind_removed, broken_if, entered_with, entry_of_sort, free_kind, given_down, guard_fault, handed, handed_at_label, is_guarded, kind_of, marked, refuses, take_fault, Arrives, StartState, head_of, Member, Set, cancel_routine_of, cancels_for, guard_named, has_cancel, member, Entry, World, packet_of, start_of, Abs, Fresh, NoDuty, Kind, BlankKind, New, Own, Queued, View, GuardRule, Token, Open, SettledMark, Stage, Armed, Cancelling, Listed, Taken, Instr, Begin, Call, IfPending, Mark, Next, Pass, Take, QueueName, Declared, DeviceQueue, Sort, Cancel, Dispatch, Dpc, Hold, Propagate, StartIo, Activation, Armer, Frame, CancelFrame, Routine, Walk, Packet, States, times_in, arrives_keep, IsGood, Runs, state_of, stage_same, HasNone, OnTop, runs, first_none, granted, second_none, Standing, on_top, and_false}
use Rattle.std.proofs.Common.{eq-eqb}
use Rattle.model.specs.LocalRule.{waiting_fault}
use Rattle.model.specs.declared.abs.Rule.TheVariants.{Sort as SortRule}
use Rattle.laws_runs.proofs.Claims.Guards.{NeedsGuard, excluded, at_needs}
use Rattle.laws_runs.proofs.Claims.Sums.{Claimed, is_cancelable, is_declared, list_of, names_on, times_of, word_at, word_for}
use Rattle.laws_runs.proofs.Claims.WordSteps.{IsFor, word_is_for}
use Rattle.laws_runs.proofs.Claims.Working.{some_none}
use Rattle.laws_runs.proofs.Holders.Rights.{named_nowhere}
use Rattle.laws_runs.proofs.Holders.Waits.{NextArmed, first_both, served_waits}
use Rattle.laws_runs.proofs.Locks.Runs.{LocksAgree}
use Rattle.laws_runs.proofs.Past.LivePackets.{find}
use Rattle.laws_runs.proofs.Past.Owners.{Owned}
use Rattle.laws_runs.proofs.Past.Packets.{found}
use Rattle.laws_runs.proofs.Runs.Events.{StepsFrame}
use Rattle.laws_runs.proofs.States.NoViews.{NeverMade, none_arrives}

-- kinds that no instruction makes: of a packet of the device queue in a register, but for one that
-- is being cancelled; and of one that is being cancelled at all
abbrev pub is_waiting : Kind → Bool
is_waiting (Queued name stage) = not (is_stage stage Cancelling) && not (is_declared name)
is_waiting _ = false

abbrev is_handed_over : Kind → Bool
is_handed_over (Queued name Cancelling) = true
is_handed_over _ = false

-- one of the device queue that isn't waiting is being cancelled
is_cancelled : (cancelling : Bool) → (not cancelling && true) ≡ false → cancelling ≡ true
is_cancelled true h = refl
is_cancelled false h = cc

pub no_waiting : (stage : Stage) → is_stage Cancelling stage ≡ false → (k : Kind)
    → is_waiting k ≡ false → is_at stage DeviceQueue k ≡ false
no_waiting stage other (Queued (Declared q) at) h = and_false (is_stage at stage)
no_waiting stage other (Queued DeviceQueue at) h =
    rw (stage_same at Cancelling (is_cancelled _ h), other) refl
no_waiting stage other _ h = refl

no_handed : (k : Kind) → is_handed_over k ≡ false → is_at Cancelling DeviceQueue k ≡ false
no_handed (Queued name Cancelling) h = cc
no_handed _ h = refl

module _ (set : Set) (driver : ℕ) where
  waits_inserted : (o : Option ℕ) (q : ℕ) → is_waiting (kind_inserted o (Declared q)) ≡ false
  waits_inserted None q = refl
  waits_inserted (Some routine) q = refl

  waits_removed : (o : Option ℕ) (q : ℕ) → is_waiting (kind_removed o (Declared q)) ≡ false
  waits_removed None q = refl
  waits_removed (Some routine) q = refl

  waits_disarmed : (k : Kind) → is_waiting k ≡ false → is_waiting (kind_disarmed k) ≡ false
  waits_disarmed (Queued (Declared q) Armed) h = refl
  waits_disarmed (Queued DeviceQueue Armed) h = cc
  waits_disarmed (Queued name Taken) h = refl
  waits_disarmed _ h = h

  waits_never : NeverMade set driver is_waiting
  waits_never =
      record {
        blank = refl;
        number = refl;
        lower = refl;
        own = refl;
        inserted = λ q. waits_inserted (cancel_routine_of set driver q) q;
        removed = λ q. waits_removed (cancel_routine_of set driver q) q;
        armed = λ q k keeps h. refl;
        disarmed = waits_disarmed;
      }

  over_inserted : (o : Option ℕ) (q : ℕ) → is_handed_over (kind_inserted o (Declared q)) ≡ false
  over_inserted None q = refl
  over_inserted (Some routine) q = refl

  over_removed : (o : Option ℕ) (q : ℕ) → is_handed_over (kind_removed o (Declared q)) ≡ false
  over_removed None q = refl
  over_removed (Some routine) q = refl

  over_disarmed : (k : Kind) → is_handed_over k ≡ false → is_handed_over (kind_disarmed k) ≡ false
  over_disarmed (Queued name Armed) h = refl
  over_disarmed (Queued name Taken) h = refl
  over_disarmed _ h = h

  over_never : NeverMade set driver is_handed_over
  over_never =
      record {
        blank = refl;
        number = refl;
        lower = refl;
        own = refl;
        inserted = λ q. over_inserted (cancel_routine_of set driver q) q;
        removed = λ q. over_removed (cancel_routine_of set driver q) q;
        armed = λ q k keeps h. refl;
        disarmed = over_disarmed;
      }

-- in the states of entry
waits_first : (sort : Sort) (name : Option QueueName) (first : Abs)
    → entry_of_sort sort name ≡ Some first → HasNone is_waiting first
waits_first Dispatch name first h =
    let same : entered_with New Fresh SettledMark false ≡ first = cc in rw (← same) refl
waits_first StartIo name first h =
    let same : entered_with Own NoDuty SettledMark true ≡ first = cc in rw (← same) refl
waits_first Dpc name first h =
    let same : entered_with BlankKind NoDuty SettledMark false ≡ first = cc in rw (← same) refl
waits_first Propagate name first h =
    let same : entered_with View NoDuty Open false ≡ first = cc in rw (← same) refl
waits_first Hold name first h =
    let same : entered_with New Fresh SettledMark false ≡ first = cc in rw (← same) refl
waits_first Cancel None first h = cc
waits_first Cancel (Some name) first h =
    let same : record (entered_with (Queued name Cancelling) NoDuty SettledMark false)
    { cancel = true }
    ≡ first = cc in
    rw (← same) refl

abbrev is_of_cancel : Sort → Bool
is_of_cancel Cancel = true
is_of_cancel _ = false

over_first : (sort : Sort) (name : Option QueueName) (first : Abs) → is_of_cancel sort ≡ false
    → entry_of_sort sort name ≡ Some first → HasNone is_handed_over first
over_first Dispatch name first other h =
    let same : entered_with New Fresh SettledMark false ≡ first = cc in rw (← same) refl
over_first StartIo name first other h =
    let same : entered_with Own NoDuty SettledMark true ≡ first = cc in rw (← same) refl
over_first Dpc name first other h =
    let same : entered_with BlankKind NoDuty SettledMark false ≡ first = cc in rw (← same) refl
over_first Propagate name first other h =
    let same : entered_with View NoDuty Open false ≡ first = cc in rw (← same) refl
over_first Hold name first other h =
    let same : entered_with New Fresh SettledMark false ≡ first = cc in rw (← same) refl
over_first Cancel name first other h = cc

-- a cancel routine never has the token
abbrev TokenFree : Abs → Type 0
TokenFree s = s.token ≡ false

free_first : (name : Option QueueName) (first : Abs) → entry_of_sort Cancel name ≡ Some first
    → TokenFree first
free_first None first h = cc
free_first (Some name) first h =
    let same : record (entered_with (Queued name Cancelling) NoDuty SettledMark false)
    { cancel = true }
    ≡ first = cc in
    rw (← same) refl

free_marked : (s : Abs) (r : ℕ) (k : Kind) → TokenFree s → TokenFree (marked s r k)
free_marked s r New h = h
free_marked s r View h = h
free_marked s r _ h = h

free_given : (s : Abs) (r : ℕ) (k : Kind) → TokenFree s → TokenFree (given_down s r k)
free_given s r New h = h
free_given s r Own h = h
free_given s r _ h = h

free_handed : (set : Set) (driver : ℕ) (s : Abs) (i : Instr)
    → refuses s i Cancel set driver ≡ None → TokenFree s → TokenFree (handed set driver s i)
free_handed set driver s (Take r label) keeps h =
    let rule : take_fault s Cancel ≡ None =
    first_none (take_fault s Cancel) (free_kind (kind_of s r)) keeps in
    let no : Some SortRule ≡ None =
    second_none (broken_if s.token Token) (Some SortRule) rule in
    cc
free_handed set driver s (Begin r) keeps h = refl
free_handed set driver s Next keeps h = refl
free_handed set driver s (Mark r) keeps h = free_marked s r (kind_of s r) h
free_handed set driver s (Pass r) keeps h = free_given s r (kind_of s r) h
free_handed set driver s (Call r f) keeps h = free_given s r (kind_of s r) h
free_handed set driver s _ keeps h = h

free_label : (s : Abs) (i : Instr) → TokenFree s → TokenFree (handed_at_label s i)
free_label s (IfPending r label) h = h
free_label s _ h = h

cancel_free : (m : Member) (p : ℕ) (s : Abs) → m.routine.sort ≡ Cancel → Arrives m p s → TokenFree s
cancel_free m p s sort arrives =
    arrives_keep TokenFree m
    (λ first enters. free_first (cancels_for m.set m.driver m.number) first
    (rw sort at enters))
    (λ before i q at rule h. free_handed m.set m.driver before i (rw sort at rule) h)
    (λ before i q at rule h. free_label before i h) p s arrives

none_over : (m : Member) (p : ℕ) (s : Abs) → s.token ≡ true → Arrives m p s
    → HasNone is_handed_over s
none_over m p s has arrives = by m.routine.sort refl
  where
    by : (sort : Sort) → m.routine.sort ≡ sort → HasNone is_handed_over s
    by Cancel is =
        let no : true ≡ false = sym has ∙ cancel_free m p s is arrives in cc
    by sort is =
        none_arrives is_handed_over m p s (over_never m.set m.driver)
        (λ first enters. over_first m.routine.sort (cancels_for m.set m.driver m.number) first
        (rw is refl) enters) arrives

pub head_counts : (entries : List ℕ) (n : ℕ) → head_of entries ≡ Some n → 1 ≤ times_in entries n
head_counts [] n first = cc
head_counts (m ∷ entries) n first =
    let same : m ≡ n = cc in rw (same, eq-eqb n n refl) (omega arith)

-- the word of a packet that names a list of a device
word_says : (o : Option Armer) (d : ℕ) (q : QueueName) → 1 ≤ word_for o d q
    → (armer : Armer) × (o ≡ Some armer) × (armer.device ≡ d) × (armer.queue ≡ q)
word_says None d q h = absurd (omega arith)
word_says (Some armer) d q h =
    let is : IsFor armer d q = word_is_for armer d q h in (armer, refl, is.0, is.1)

module _ (set : Set) (states : States) (w : World) (past : List Entry) (good : IsGood set states)
    (stands : Standing set states w past) (agree : LocksAgree states w past)
    (owned : Owned w.shared.locks past) (c : Claimed set states w) (t : ℕ)
    (h : StepsFrame set w t) where
  module _ (a : Activation) (frame : h.frame ≡ Routine a)
      (run : Runs set states w.shared a Next) (has : has_cancel set a.driver DeviceQueue ≡ true)
    where
      abbrev its : Member
      its = member set a.driver a.routine run.routine

      arrives : Arrives its a.position (state_of states a)
      arrives = run.known.follows.arrives a.position run.stays.within

      rule : guard_fault (state_of states a) set a.driver DeviceQueue ≡ None
      rule =
          let first : waiting_fault (state_of states a) set a.driver ≡ None =
          first_none _ _ run.obeys in
          rw has at first

      token : (state_of states a).token ≡ true
      token = granted (state_of states a).token Token (second_none _ _ run.obeys)

      -- no register names one that waits, nor does one of another thread
      pub none_waits : (g : Kind → Bool) → NeedsGuard set a.driver g DeviceQueue
          → ((k : Kind) → is_waiting k ≡ false → g k ≡ false) → (n : ℕ)
          → names_on states g a.device n w.threads ≡ 0
      none_waits g needs among n =
          excluded set states w past good stands agree owned t h a DeviceQueue g
          frame run.stays.serves
          (granted (is_guarded (state_of states a) (guard_named set a.driver DeviceQueue)) GuardRule
          rule) needs n
          ∙ named_nowhere g (state_of states a).kinds a.registers n
          (some_none g is_waiting among (state_of states a).kinds
          (none_arrives is_waiting its a.position (state_of states a)
          (waits_never its.set its.driver)
          (λ first enters. waits_first its.routine.sort (cancels_for its.set its.driver its.number)
          first enters) arrives))

      none_handed : (n : ℕ) → names_on states (is_at Cancelling DeviceQueue) a.device n w.threads
          ≡ 0
      none_handed n =
          excluded set states w past good stands agree owned t h a DeviceQueue
          (is_at Cancelling DeviceQueue) frame run.stays.serves
          (granted (is_guarded (state_of states a) (guard_named set a.driver DeviceQueue)) GuardRule
          rule) (at_needs set a.driver DeviceQueue Cancelling refl) n
          ∙ named_nowhere (is_at Cancelling DeviceQueue) (state_of states a).kinds a.registers n
          (some_none (is_at Cancelling DeviceQueue) is_handed_over no_handed
          (state_of states a).kinds
          (none_over its a.position (state_of states a) token arrives))

      pub next_word : (n : ℕ) (start : StartState) (p : Packet)
          → start_of w.shared a.device ≡ Some start → head_of start.device_queue ≡ Some n
          → packet_of w.shared n ≡ Some p
          → (armer : Armer) × (p.armer ≡ Some armer) × (armer.device ≡ a.device)
          × (armer.queue ≡ DeviceQueue)
      next_word n start p is first there =
          let may : is_cancelable set a.device DeviceQueue ≡ true =
          served_waits set states w.shared a Next run ∙ has in
          let stands_there : times_of (list_of w.shared a.device DeviceQueue) n
          ≡ times_in start.device_queue n =
          ap (λ (o : Option StartState). times_of (option_map (λ start. start.device_queue) o) n) is
          in
          let entered : times_of (list_of w.shared a.device DeviceQueue) n
          ≤ word_at (find w.shared.packets n) a.device DeviceQueue
          + names_on states (is_at Cancelling DeviceQueue) a.device n w.threads
          + names_on states (is_at Listed DeviceQueue) a.device n w.threads =
          c.balanced.entered a.device DeviceQueue n may in
          let word : word_at (find w.shared.packets n) a.device DeviceQueue
          ≡ word_for p.armer a.device DeviceQueue =
          ap (λ (o : Option Packet). word_at o a.device DeviceQueue)
          (found w.shared n (Some p) there) in
          word_says p.armer a.device DeviceQueue
          (omega (
            arith,
            head_counts start.device_queue n first,
            none_waits (is_at Listed DeviceQueue) (at_needs set a.driver DeviceQueue Listed refl)
                (no_waiting Listed refl) n,
            none_handed n,
          ))

  next_by : (f : Frame) → h.frame ≡ f → NextArmed set w.shared f
  next_by (Routine a) frame =
      λ n start p at is first there.
      let run : Runs set states w.shared a Next =
      runs set states w.shared a Next
      (subst (λ (f : Frame). OnTop set states w.shared f) frame
      (on_top set states w past good stands t h)) at in
      let both : (has_cancel set a.driver DeviceQueue ≡ true)
      × (head_of start.device_queue ≡ Some n) =
      first_both (has_cancel set a.driver DeviceQueue) (head_of start.device_queue) n first in
      next_word a frame run both.0 n start p is both.1 there
  next_by (Walk n) frame = tt
  next_by (CancelFrame c) frame = tt

  pub next_armed : NextArmed set w.shared h.frame
  next_armed = next_by h.frame refl
