-- An exchange of a packet's cancel word keeps claims, and so does the release of a lock: the word
-- has the right that a register at the stage Listed had, and gives it back, or to the cancel
-- routine.
use Rattle.laws_runs.proofs.Common.{ap, arith, eqb-true, inl, inr, refl, subst, sym, ◌∙◌, cases_Bool, eqb_tells, Bool, List, None, Option, Some, [], false, if◌then◌else◌, is_some, nat_eq, option_map, slice_get, slice_set, true, ℕ, ◌&&◌, ◌+◌, ◌∷◌, ◌≡◌, ◌≤◌, ◌⊎◌, armer_of, all_let_go, is_at, is_claim, is_exchanged, is_name, is_stage, kind_disarmed, handed, kind_of, queued_kind, StartState, Set, flow_of, Entry, Shared, World, at_label, next, packet_of, queue_of, register, start_of, with_armer, with_packet, Kind, BlankKind, Own, Queued, Stage, Armed, Cancelling, Listed, Taken, Instr, Arm, Disarm, Guard, QueueName, Declared, DeviceQueue, Activation, Armer, Routine, Packet, States, named_as, named_in, stack_sum, thread_sum, times_listed, times_named, times_queued, times_to_start, times_waiting, sum_le, StepLeaves, IsGood, Runs, state_of, named_same, has_next, first_none, Standing, if_le}
use Rattle.std.proofs.Common.{eq-eqb}
use Rattle.laws_runs.proofs.Claims.Balance.{KindTurns, balanced_gives, balanced_less, hit, balanced_arms, balanced_disarms, balanced_keeps_taken, once_turned, names_tell, name_same}
use Rattle.laws_runs.proofs.Claims.Held.{one_holder, owns_in, word_holds}
use Rattle.laws_runs.proofs.Claims.Names.{OfQueues, TurnsNames, at_queues, names, next_turns, was_queues, gone_names, label_turns, next_names, stay_names}
use Rattle.laws_runs.proofs.Claims.Quiet.{word_kept, word_put}
use Rattle.laws_runs.proofs.Claims.Steps.{after, all_apart, apart_here, kind_turns, names_among, same_sums, less_sums}
use Rattle.laws_runs.proofs.Claims.Sums.{Claimed, FrameApart, frame_names, names_on, numbers, takes_in, times_of, was_taken, word_at, word_for, list_of}
use Rattle.laws_runs.proofs.Claims.Working.{apart_down, apart_up, taken_le}
use Rattle.laws_runs.proofs.Holders.Counts.{reads_ref}
use Rattle.laws_runs.proofs.Holders.Queued.{times_le}
use Rattle.laws_runs.proofs.Holders.Rights.{named_le}
use Rattle.laws_runs.proofs.Holders.Sums.{Held}
use Rattle.laws_runs.proofs.Past.LivePackets.{find}
use Rattle.laws_runs.proofs.Runs.Events.{StepsFrame}
use Rattle.laws_runs.proofs.Steps.Comes.{Reads}
use Rattle.laws_runs.proofs.Past.Packets.{found}
use Rattle.laws_runs.proofs.Holders.Started.{waits_in}

-- an exchange wants a packet that stands in a queue, or a claim
armed_kind : (q : QueueName) (k : Kind) → queued_kind (is_at Listed q k) k ≡ None
    → k ≡ Queued q Listed
armed_kind q (Queued p Listed) h =
    elim (names_tell p q) [
      | inl same ↦ ap (λ (x : QueueName). Queued x Listed) same.1
      | inr apart ↦ let no = rw apart.0 at h in cc
    ]
armed_kind q _ h = cc

abbrev pub Claims : Kind → Type 0
Claims k = (q : QueueName) × ((k ≡ Queued q Armed) ⊎ (k ≡ Queued q Taken))

disarmed_kind : (k : Kind) → queued_kind (is_exchanged k) k ≡ None → Claims k
disarmed_kind (Queued q Armed) h = (q, inl refl)
disarmed_kind (Queued q Taken) h = (q, inr refl)
disarmed_kind _ h = cc

pub no_armer : (o : Option Armer) → (if is_some o then 1 else 0) ≤ 0 → o ≡ None
no_armer None h = refl
no_armer (Some armer) h = absurd (omega arith)

-- an armer that a word for a queue of a device names
names_both : (here its : Bool) → 1 ≤ (if here && its then 1 else 0) → (here ≡ true) × (its ≡ true)
names_both true true h = (refl, refl)
names_both _ _ h = absurd (omega arith)

abbrev pub IsFor : Armer → ℕ → QueueName → Type 0
IsFor armer d q = (armer.device ≡ d) × (armer.queue ≡ q)

pub word_is_for : (armer : Armer) (d : ℕ) (q : QueueName) → 1 ≤ word_for (Some armer) d q
    → IsFor armer d q
word_is_for armer d q h =
    let both : (nat_eq armer.device d ≡ true) × (is_name armer.queue q ≡ true) =
    names_both (nat_eq armer.device d) (is_name armer.queue q) h in
    (eqb-true armer.device d both.0, named_same armer.queue q both.1)

if_both : (here its : Bool) (one : ℕ) → (if here && its then one else 0)
    ≡ (if its then (if here then one else 0) else 0)
if_both true its one = refl
if_both false true one = refl
if_both false false one = refl

-- what a word says of each queue
word_hit : (armer : Armer) (d : ℕ) (q : QueueName) (m e : ℕ) (p : QueueName) → IsFor armer d q
    → word_for (Some armer) e p ≡ hit d q m e p m
word_hit armer d q m e p is =
    rw (is.0, is.1, eq-eqb m m refl) (if_both (nat_eq d e) (is_name q p) 1)

-- a packet's word before and after: filled, or emptied
module _ (s : Shared) (m d : ℕ) (q : QueueName) (p : Packet) (there : packet_of s m ≡ Some p)
    (armer : Armer)
    (is : IsFor armer d q) where
  pub hit_other : (e : ℕ) (l : QueueName) (n : ℕ) → nat_eq m n ≡ false → hit d q m e l n ≡ 0
  hit_other e l n other =
      rw other (elim (cases_Bool (is_name q l)) [
        | inr apart ↦ rw apart refl
        | inl its ↦ rw its (elim (cases_Bool (nat_eq d e)) [
          | inr apart ↦ rw apart refl
          | inl here ↦ rw here refl
        ])
      ])

  word_there : (e : ℕ) (l : QueueName) → word_at (find s.packets m) e l ≡ word_for p.armer e l
  word_there e l = ap (λ (o : Option Packet). word_at o e l) (found s m (Some p) there)

  pub word_filled : p.armer ≡ None → (e : ℕ) (l : QueueName) (n : ℕ)
      → word_at (find (with_packet s m (with_armer p (Some armer))).packets n) e l
      ≡ word_at (find s.packets n) e l + hit d q m e l n
  word_filled empty e l n =
      let put : word_at (find (with_packet s m (with_armer p (Some armer))).packets n) e l
      ≡ (if nat_eq m n then word_for (Some armer) e l else word_at (find s.packets n) e l) =
      word_put s m p (with_armer p (Some armer)) there refl n e l in
      elim (eqb_tells m n) [
        | inr other ↦
            let now : word_at (find (with_packet s m (with_armer p (Some armer))).packets n) e l
            ≡ word_at (find s.packets n) e l = put ∙ (rw other.0 refl) in
            omega (arith, hit_other e l n other.0)
        | inl same ↦
            let now : word_at (find (with_packet s m (with_armer p (Some armer))).packets n) e l
            ≡ word_for (Some armer) e l = put ∙ (rw same.0 refl) in
            let moved : hit d q m e l m ≡ hit d q m e l n =
            ap (λ (x : ℕ). hit d q m e l x) same.1 in
            let before : word_at (find s.packets m) e l ≡ 0 =
            word_there e l ∙ ap (λ (o : Option Armer). word_for o e l) empty in
            let here : word_at (find s.packets m) e l ≡ word_at (find s.packets n) e l =
            ap (λ (x : ℕ). word_at (find s.packets x) e l) same.1 in
            omega (arith, word_hit armer d q m e l is)
      ]

  pub word_emptied : p.armer ≡ Some armer → (e : ℕ) (l : QueueName) (n : ℕ)
      → word_at (find (with_packet s m (with_armer p None)).packets n) e l + hit d q m e l n
      ≡ word_at (find s.packets n) e l
  word_emptied set_to e l n =
      let put : word_at (find (with_packet s m (with_armer p None)).packets n) e l
      ≡ (if nat_eq m n then 0 else word_at (find s.packets n) e l) =
      word_put s m p (with_armer p None) there refl n e l in
      elim (eqb_tells m n) [
        | inr other ↦
            let now : word_at (find (with_packet s m (with_armer p None)).packets n) e l
            ≡ word_at (find s.packets n) e l = put ∙ (rw other.0 refl) in
            omega (arith, hit_other e l n other.0)
        | inl same ↦
            let now : word_at (find (with_packet s m (with_armer p None)).packets n) e l
            ≡ 0 = put ∙ (rw same.0 refl) in
            let moved : hit d q m e l m ≡ hit d q m e l n =
            ap (λ (x : ℕ). hit d q m e l x) same.1 in
            let before : word_at (find s.packets m) e l ≡ word_for (Some armer) e l =
            word_there e l ∙ ap (λ (o : Option Armer). word_for o e l) set_to in
            let here : word_at (find s.packets m) e l ≡ word_at (find s.packets n) e l =
            ap (λ (x : ℕ). word_at (find s.packets x) e l) same.1 in
            omega (arith, word_hit armer d q m e l is)
      ]

-- a packet that stands in a list stands in all
pub waiting_le : (starts : List StartState) (d : ℕ) (start : StartState) (n : ℕ)
    → slice_get starts d ≡ Some start → waits_in start n ≤ times_to_start starts n
waiting_le starts d start n there =
    sum_le (λ start. waits_in start n) (λ starts. times_to_start starts n) (λ x xs. refl) starts d
    start there

waiting_of_le : (s : Shared) (d n : ℕ) (o : Option StartState) → start_of s d ≡ o
    → times_of (option_map (λ start. start.device_queue) o) n ≤ times_to_start s.starts n
waiting_of_le s d n None there = omega arith
waiting_of_le s d n (Some start) there = omega (arith, waiting_le s.starts d start n there)

pub times_of_le : (s : Shared) (d q n : ℕ) (o : Option (List ℕ)) → queue_of s d q ≡ o
    → times_of o n ≤ times_queued s.queues n
times_of_le s d q n None there = omega arith
times_of_le s d q n (Some entries) there = times_le s d q entries n there

pub list_le : (s : Shared) (d : ℕ) (q : QueueName) (n : ℕ)
    → times_of (list_of s d q) n ≤ times_listed s n
list_le s d (Declared q) n =
    omega (arith, times_of_le s d q n (queue_of s d q) refl)
list_le s d DeviceQueue n =
    omega (arith, waiting_of_le s d n (start_of s d) refl)

lists_same : (s to : Shared) → to.queues ≡ s.queues → to.starts ≡ s.starts → (d : ℕ)
    (q : QueueName) (n : ℕ) → times_of (list_of to d q) n ≡ times_of (list_of s d q) n
lists_same s to queues starts d (Declared q) n = rw queues refl
lists_same s to queues starts d DeviceQueue n = rw starts refl

-- a cancel word that isn't empty is for the queue of a claim
pub word_names : (set : Set) (states : States) (w : World) → Held set states w
    → Claimed set states w
    → (d : ℕ) (q : QueueName) (m : ℕ) (p : Packet) (armer : Armer) → packet_of w.shared m ≡ Some p
    → p.armer ≡ Some armer
    → 1 ≤ names_on states (is_at Armed q) d m w.threads
    + names_on states (is_at Taken q) d m w.threads
    → IsFor armer d q
word_names set states w kept c d q m p armer there is claims =
    let backed : names_on states (is_at Armed q) d m w.threads
    + names_on states (is_at Taken q) d m w.threads
    ≤ word_at (find w.shared.packets m) d q
    + names_on states (is_at Cancelling q) d m w.threads = c.balanced.backed d q m in
    let named : times_named (packet_of w.shared m) ≡ 1 = rw (there, is) refl in
    let holder : names_on states (is_at Listed q) d m w.threads
    + names_on states (is_at Cancelling q) d m w.threads
    + owns_in states m w.threads + times_waiting set w.shared m ≤ 1 =
    one_holder set states w kept m d q in
    let word : word_at (find w.shared.packets m) d q ≡ word_for (Some armer) d q =
    ap (λ (o : Option Packet). word_at o d q) (found w.shared m (Some p) there)
    ∙ ap (λ (o : Option Armer). word_for o d q) is in
    word_is_for armer d q (omega arith)

-- a right is no armed packet
right_apart : (stage : Stage) → is_claim stage ≡ false → is_stage Armed stage ≡ false
right_apart Armed h = cc
right_apart Listed h = refl
right_apart Taken h = refl
right_apart Cancelling h = refl

module _ (set : Set) (states : States) (w : World) (past : List Entry) (good : IsGood set states)
    (stands : Standing set states w past) (c : Claimed set states w) (t : ℕ)
    (h : StepsFrame set w t)
    (leaves : StepLeaves set states w.shared h.frame h.outcome) (kept : Held set states w)
    (a : Activation) (frame : h.frame ≡ Routine a) where
  abbrev to : World
  to = after set states w past good stands c t h leaves

  abbrev Changes : Kind → Kind → ℕ → Type 0
  Changes j k m = KindTurns (numbers states w) (numbers states to) j k a.device m

  apart_a : FrameApart states (Routine a)
  apart_a = subst (FrameApart states) frame (apart_here set states w past good stands c t h leaves)

  -- a register of a kind names a packet
  module _ (i : Instr) (r m : ℕ) (run : Runs set states w.shared a i) (reads : Reads w.shared a r m)
    where
      named_here : (j : Kind) (g : Kind → Bool) → kind_of (state_of states a) r ≡ j → g j ≡ true
          → 1 ≤ names_on states g a.device m w.threads
      named_here j g is of =
          let one : named_as g (kind_of (state_of states a) r) (register a r) m ≡ 1 =
          rw (is, of, reads_ref w.shared (register a r) m reads, eq-eqb m m refl) refl in
          omega (
            arith,
            named_le g w.shared.issued (state_of states a).kinds a.registers r m run.stays.kinds,
            names_among set states w past good stands c t h leaves a g m frame,
          )

  -- a cancel routine is set
  module _ (r q m : ℕ) (p : Packet) (run : Runs set states w.shared a (Arm r q))
      (reads : Reads w.shared a r m) (there : packet_of w.shared m ≡ Some p)
      (frames : h.outcome.frames ≡ Routine (next a) ∷ [])
      (shared : h.outcome.shared ≡ with_packet w.shared m (with_armer p (Some (armer_of a q))))
    where
      pub arms_claims : Claimed set states to
      arms_claims =
          let is : kind_of (state_of states a) r ≡ Queued (Declared q) Listed =
          armed_kind (Declared q) (kind_of (state_of states a) r) (first_none _ _ run.obeys) in
          let turns : TurnsNames states a (next a) (Queued (Declared q) Listed)
          (Queued (Declared q) Armed) m =
          next_turns set states w.shared a (Arm r q) run r (Queued (Declared q) Listed)
          (Queued (Declared q) Armed) m refl refl is (reads_ref w.shared (register a r) m reads) in
          let one : 1 ≤ names_on states (is_at Listed (Declared q)) a.device m w.threads =
          named_here (Arm r q) r m run reads (Queued (Declared q) Listed)
          (is_at Listed (Declared q)) is
          (eq-eqb q q refl) in
          let holder : names_on states (is_at Listed (Declared q)) a.device m w.threads
          + names_on states (is_at Cancelling (Declared q)) a.device m w.threads
          + owns_in states m w.threads + times_waiting set w.shared m ≤ 1 =
          one_holder set states w kept m a.device (Declared q) in
          let named : times_named (packet_of w.shared m) ≡ (if is_some p.armer then 1 else 0) =
          ap times_named there in
          let empty : p.armer ≡ None = no_armer p.armer (omega arith) in
          let word : word_at (find w.shared.packets m) a.device (Declared q)
          ≤ times_waiting set w.shared m =
          word_holds set states w kept m a.device (Declared q) in
          let backed : names_on states (is_at Armed (Declared q)) a.device m w.threads
          + names_on states (is_at Taken (Declared q)) a.device m w.threads
          ≤ word_at (find w.shared.packets m) a.device (Declared q)
          + names_on states (is_at Cancelling (Declared q)) a.device m w.threads =
          c.balanced.backed a.device (Declared q) m in
          let armed : names states (is_at Armed (Declared q)) a m
          ≤ names_on states (is_at Armed (Declared q)) a.device m w.threads =
          names_among set states w past good stands c t h leaves a (is_at Armed (Declared q)) m
          frame
          in
          let taken : names states (is_at Taken (Declared q)) a m
          ≤ names_on states (is_at Taken (Declared q)) a.device m w.threads =
          names_among set states w past good stands c t h leaves a (is_at Taken (Declared q)) m
          frame
          in
          let cancelling : names states (is_at Cancelling (Declared q)) a m
          ≤ names_on states (is_at Cancelling (Declared q)) a.device m w.threads =
          names_among set states w past good stands c t h leaves a (is_at Cancelling (Declared q)) m
          frame in
          let changes : Changes (Queued (Declared q) Listed) (Queued (Declared q) Armed) m =
          kind_turns set states w past good stands c t h leaves a (next a)
          (Queued (Declared q) Listed)
          (Queued (Declared q) Armed) m frame frames refl turns in
          record {
            balanced = balanced_arms set (numbers states w) (numbers states to) c.balanced
                (once_turned (numbers states w) (numbers states to) (Queued (Declared q) Listed)
                (Queued (Declared q) Armed) a.device m changes refl
                (λ n. rw shared (c.balanced.once n)))
                a.device (Declared q) m
                changes
                (λ d l n. rw shared
                (word_filled w.shared m a.device (Declared q) p there (armer_of a q)
                (refl, refl)
                empty d l n))
                (λ d l n. rw shared refl);
            apart = all_apart set states w past good stands c t h leaves
                (rw frames (
                  apart_up states a (next a) (Queued (Declared q) Listed)
                      (Queued (Declared q) Armed) m
                      (Declared q) turns
                      ((λ l n e. omega arith), (λ l. refl)) (omega arith) apart_a,
                  tt,
                ));
          }

  -- the word is emptied
  module _ (r label m : ℕ) (p : Packet) (run : Runs set states w.shared a (Disarm r label))
      (reads : Reads w.shared a r m) (there : packet_of w.shared m ≡ Some p)
      (shared : h.outcome.shared ≡ with_packet w.shared m (with_armer p None)) where
    disarmed_turns : (j : Kind) → kind_of (state_of states a) r ≡ j
        → TurnsNames states a (next a) j (kind_disarmed j) m
    disarmed_turns j is =
        next_turns set states w.shared a (Disarm r label) run r j (kind_disarmed j) m refl
        (ap (λ (k : Kind). slice_set (state_of states a).kinds r (kind_disarmed k)) is) is
        (reads_ref w.shared (register a r) m reads)

    module _ (armer : Armer) (is_set : p.armer ≡ Some armer)
        (frames : h.outcome.frames ≡ Routine (next a) ∷ []) where
      empties_by : (q : QueueName) → (kind_of (state_of states a) r ≡ Queued q Armed)
          ⊎ (kind_of (state_of states a) r ≡ Queued q Taken) → Claimed set states to
      empties_by q (inl is) =
          let turns : TurnsNames states a (next a) (Queued q Armed) (Queued q Listed) m =
          disarmed_turns (Queued q Armed) is in
          let one : 1 ≤ names_on states (is_at Armed q) a.device m w.threads =
          named_here (Disarm r label) r m run reads (Queued q Armed) (is_at Armed q) is
          (name_same q) in
          let its : IsFor armer a.device q =
          word_names set states w kept c a.device q m p armer there is_set (omega arith) in
          let changes : Changes (Queued q Armed) (Queued q Listed) m =
          kind_turns set states w past good stands c t h leaves a (next a) (Queued q Armed)
          (Queued q Listed) m frame frames refl turns in
          record {
            balanced = balanced_disarms set (numbers states w) (numbers states to) c.balanced
                (once_turned (numbers states w) (numbers states to) (Queued q Armed)
                (Queued q Listed) a.device m changes refl
                (λ n. rw shared (c.balanced.once n)))
                a.device q m
                changes
                (λ d l n. rw shared (word_emptied w.shared m a.device q p there armer its is_set d l
                n))
                (λ d l n. rw shared refl);
            apart = all_apart set states w past good stands c t h leaves
                (rw frames (
                  apart_down states a (next a) (Queued q Armed) (Queued q Listed) m
                      turns (λ l. (refl, refl, refl)) apart_a,
                  tt,
                ));
          }
      empties_by q (inr is) =
          let turns : TurnsNames states a (next a) (Queued q Taken) Own m =
          disarmed_turns (Queued q Taken) is in
          let one : 1 ≤ names_on states (is_at Taken q) a.device m w.threads =
          named_here (Disarm r label) r m run reads (Queued q Taken) (is_at Taken q) is
          (name_same q) in
          let its : IsFor armer a.device q =
          word_names set states w kept c a.device q m p armer there is_set (omega arith) in
          let takes : names_on states (is_at Taken q) a.device m w.threads
          ≤ takes_in states m w.threads = taken_le states w a.device q m in
          let once : takes_in states m w.threads + times_listed w.shared m
          ≤ 1 = c.balanced.once m in
          let entries : times_of (list_of w.shared a.device q) m ≤ times_listed w.shared m =
          list_le w.shared a.device q m in
          let changes : Changes (Queued q Taken) Own m =
          kind_turns set states w past good stands c t h leaves a (next a) (Queued q Taken) Own
          m frame frames refl turns in
          record {
            balanced = balanced_keeps_taken set (numbers states w) (numbers states to) c.balanced
                (once_turned (numbers states w) (numbers states to) (Queued q Taken) Own
                a.device m changes refl
                (λ n. rw shared (c.balanced.once n)))
                a.device q m (omega arith)
                changes
                (λ d l n. rw shared (word_emptied w.shared m a.device q p there armer its is_set d l
                n))
                (λ d l n. rw shared refl);
            apart = all_apart set states w past good stands c t h leaves
                (rw frames (
                  apart_down states a (next a) (Queued q Taken) Own m
                      turns (λ l. (refl, refl, refl)) apart_a,
                  tt,
                ));
          }

      pub empties_claims : Claimed set states to
      empties_claims =
          let claims : Claims (kind_of (state_of states a) r) =
          disarmed_kind (kind_of (state_of states a) r) run.obeys in
          empties_by claims.0 claims.1

    -- it was empty: the claim is given up
    module _ (is_empty : p.armer ≡ None) (frames : h.outcome.frames
        ≡ Routine (at_label a label) ∷ [])
      where
        gives_up : (j : Kind) → kind_of (state_of states a) r ≡ j
            → ((q : QueueName) → (is_at Listed q j ≡ false)
            × (is_at Cancelling q j ≡ false))
            → Claimed set states to
        gives_up j is plain =
            let turns : TurnsNames states a (at_label a label) j BlankKind m =
            label_turns set states w.shared a (Disarm r label) run r j m label refl refl is
            (reads_ref w.shared (register a r) m reads) in
            let changes : Changes j BlankKind m =
            kind_turns set states w past good stands c t h leaves a (at_label a label) j BlankKind m
            frame frames refl turns in
            record {
              balanced = balanced_gives set (numbers states w) (numbers states to) c.balanced
                  (once_turned (numbers states w) (numbers states to) j BlankKind
                  a.device m changes refl
                  (λ n. rw shared (c.balanced.once n)))
                  j a.device m plain changes
                  (λ d l n. rw shared (word_kept w.shared m p (with_armer p None) there refl
                  (sym is_empty) n d l))
                  (λ d l n. rw shared refl);
              apart = all_apart set states w past good stands c t h leaves
                  (rw frames (
                    apart_down states a (at_label a label) j BlankKind m
                        turns (λ l. (refl, refl, refl)) apart_a,
                    tt,
                  ));
            }

        pub gives_claims : Claimed set states to
        gives_claims =
            let claims : Claims (kind_of (state_of states a) r) =
            disarmed_kind (kind_of (state_of states a) r) run.obeys in
            elim claims.1 [
              | inl is ↦ gives_up (Queued claims.0 Armed) is (λ q. (refl, refl))
              | inr is ↦ gives_up (Queued claims.0 Taken) is (λ q. (refl, refl))
            ]

  -- a lock is released that may be a guard
  pub releases_claims : (lock : Guard) (i : Instr) (run : Runs set states w.shared a i)
      → has_next (flow_of i) ≡ true
      → (handed set a.driver (state_of states a) i).kinds
      ≡ all_let_go set a.driver lock (state_of states a).kinds
      → h.outcome.frames ≡ Routine (next a) ∷ []
      → h.outcome.shared.packets ≡ w.shared.packets → h.outcome.shared.queues ≡ w.shared.queues
      → h.outcome.shared.starts ≡ w.shared.starts → Claimed set states to
  releases_claims lock i run on goes frames packets queues starts =
      let named : (g : Kind → Bool) (n : ℕ) → names states g (next a) n
      ≡ named_in g (all_let_go set a.driver lock (state_of states a).kinds) a.registers n =
      λ g n. next_names set states w.shared a i run on g n
      ∙ ap (λ (kinds : List Kind). named_in g kinds a.registers n) goes in
      let less : (g : Kind → Bool) → OfQueues g → (n : ℕ)
      → names states g (next a) n ≤ names states g a n =
      λ g of n.
      omega (
        arith,
        named g n,
        gone_names set a.driver lock g of (state_of states a).kinds a.registers n,
      ) in
      let same : (g : Kind → Bool) → OfQueues g
      → ((name : QueueName) → g (Queued name Armed) ≡ false)
      → (n : ℕ) → names states g (next a) n ≡ names states g a n =
      λ g of free n.
      named g n
      ∙ stay_names set a.driver lock g of free (state_of states a).kinds a.registers n in
      let less_all : (g : Kind → Bool) → OfQueues g → (on : ℕ → Bool) (n : ℕ)
      → thread_sum (frame_names states g on n) to.threads
      ≤ thread_sum (frame_names states g on n) w.threads =
      λ g of on n. less_sums set states w past good stands c t h leaves g of on n
      (let was : frame_names states g on n h.frame ≡ frame_names states g on n (Routine a) =
      ap (frame_names states g on n) frame in
      let now : stack_sum (frame_names states g on n) h.outcome.frames
      ≡ frame_names states g on n (Routine (next a)) + 0 =
      ap (stack_sum (frame_names states g on n)) frames in
      omega (
        arith,
        if_le (on a.device) (names states g (next a) n) (names states g a n) (less g of n),
      )) in
      let same_all : (g : Kind → Bool) → OfQueues g
      → ((name : QueueName) → g (Queued name Armed) ≡ false)
      → (on : ℕ → Bool) (n : ℕ)
      → thread_sum (frame_names states g on n) to.threads
      ≡ thread_sum (frame_names states g on n) w.threads =
      λ g of free on n. same_sums set states w past good stands c t h leaves g of on n
      (let one : frame_names states g on n (Routine (next a))
      ≡ frame_names states g on n (Routine a) =
      ap (λ (sum : ℕ). if on a.device then sum else 0) (same g of free n) in
      let was : frame_names states g on n h.frame ≡ frame_names states g on n (Routine a) =
      ap (frame_names states g on n) frame in
      let now : stack_sum (frame_names states g on n) h.outcome.frames
      ≡ frame_names states g on n (Routine (next a)) + 0 =
      ap (stack_sum (frame_names states g on n)) frames in
      omega arith) in
      record {
        balanced = balanced_less set (numbers states w) (numbers states to) c.balanced
            (λ n.
            let lists : times_listed h.outcome.shared n ≡ times_listed w.shared n =
            rw (queues, starts) refl in
            omega (arith, less_all was_taken was_queues (λ e. true) n, c.balanced.once n))
            (λ stage claim d l n. less_all (is_at stage l) (at_queues stage l) (λ e. nat_eq e d) n)
            (λ stage right d l n. same_all (is_at stage l) (at_queues stage l)
            (λ name. ap (λ (armed : Bool). armed && is_name name l) (right_apart stage right))
            (λ e. nat_eq e d) n)
            (λ d l n. rw packets refl)
            (λ d l n is. lists_same w.shared to.shared queues starts d l n)
            (λ d l n is. omega (arith, lists_same w.shared to.shared queues starts d l n));
        apart = all_apart set states w past good stands c t h leaves
            (rw frames (
              (λ q n.
                  omega (
                    arith,
                    less (is_at Armed q) (at_queues Armed q) n,
                    less (is_at Taken q) (at_queues Taken q) n,
                    less (is_at Cancelling q) (at_queues Cancelling q) n,
                    apart_a q n,
                  )),
              tt,
            ));
      }
