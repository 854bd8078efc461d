-- Queues and what devices have for StartIo: an instruction does to the lists of packets that keys
-- mean what it does to the lists of keys.
use Rattle.std.proofs.Common.{◌≡◌, ℕ, Bool, true, false, List, [], ◌∷◌, ◌++◌, Option, None, Some, refl, sym, ◌∙◌, ap, map, inl, inr, subst}
use Rattle.std.specs.Prelude.{not, option_and_then, option_map, slice_get, slice_index_or, slice_set, ◌&&◌, if◌then◌else◌}
use Rattle.std.proofs.lemmas.Bool.Decides.{eqb_tells}
use Rattle.std.proofs.lemmas.List.{map-append}
use Rattle.model.specs.declared.world.Activation.{Activation}
use Rattle.model.specs.declared.world.Value.TheVariants.{Ref}
use Rattle.model.specs.Action.{Action, Touches}
use Rattle.model.specs.Effect.{Outcome, begin_effect, insert_effect, next_effect, remove_effect, start_effect, take_effect, take_from, unlink_effect, armer_waiting, dequeue_effect, next_disarmed, next_waiting, start_packet}
use Rattle.model.specs.Effect as effect
use Rattle.model.specs.Queues.{StartState, has_room_for_next, has_room_to_start, inserted, is_full, next_of, next_started, started, unlinked, with_slot, dequeued, head_of}
use Rattle.model.specs.World.{Shared, at_label, next, queue_of, start_of, with_queue, with_register, with_start, with_armer, with_packet}
use Rattle.laws_slots.specs.Rep.{MeansShared, meant_lists, meant_routine, meant_start, slotted}
use Rattle.laws_slots.specs.Slots.{SlotShared, slot_queue, slot_start, with_slot_queue, with_slot_start, with_packet_at}
use Rattle.laws_slots.specs.SlotStep.{SlotOutcome, begin_step, goes_on, insert_step, next_step, remove_step, start_step, take_from_step, take_step, unlink_step, dequeue_step, next_waiting_step, start_packet_step}
use Rattle.laws_slots.proofs.Keys.{Found, Keyed, found_alone, found_name, written, written_same}
use Rattle.laws_slots.proofs.Local.{b, goes}
use Rattle.laws_slots.proofs.Outcomes.{GoesRight, MeansOutcome, kept_slots, on, SameSlots}
use Rattle.laws_slots.proofs.Touching.{Finds}
use Rattle.laws_slots.proofs.Words.{map_get, map_index, map_put, written_meant}
use Rattle.model.specs.declared.set.QueueName.TheVariants.{DeviceQueue}
use Rattle.model.specs.declared.world.Packet.{Packet}
use Rattle.model.specs.Set.{Set, has_cancel}

-- a queue of a device of which each has lists
looked_up : (name : ℕ → ℕ) (q : ℕ) (o : Option (List (List ℕ)))
    → option_and_then (λ queues. slice_get queues q) (option_map (meant_lists name) o)
    ≡ option_map (map name) (option_and_then (λ queues. slice_get queues q) o)
looked_up name q None = refl
looked_up name q (Some lists) = map_get (map name) lists q

-- entries without the first of a packet
unlinked_meant : (name : ℕ → ℕ) (k n : ℕ) → name k ≡ n → ((j : ℕ) → name j ≡ n → j ≡ k)
    → (entries : List ℕ) → map name (unlinked entries k) ≡ unlinked (map name entries) n
unlinked_meant name k n is alone [] = refl
unlinked_meant name k n is alone (j ∷ entries) =
    elim (eqb_tells j k) [
      | inl same ↦
          elim (eqb_tells (name j) n) [
            | inl there ↦ rw (same.0, there.0) refl
            | inr apart ↦ absurd (apart.1 (ap name same.1 ∙ is))
          ]
      | inr other ↦
          elim (eqb_tells (name j) n) [
            | inl there ↦ absurd (other.1 (alone j there.1))
            | inr apart ↦
                rw (other.0, apart.0)
                (ap (λ (xs : List ℕ). name j ∷ xs) (unlinked_meant name k n is alone entries))
          ]
    ]

-- what a device has for StartIo
abbrev holding : List ℕ → List ℕ → Bool → Option ℕ → StartState
holding starts waiting busy slot =
    record { start_list = starts; device_queue = waiting; busy = busy; slot = slot }

pushed_meant : (name : ℕ → ℕ) (k n : ℕ) (keys : List ℕ) → name k ≡ n
    → map name (inserted keys k) ≡ inserted (map name keys) n
pushed_meant name k n keys is =
    map-append name keys (k ∷ []) ∙ ap (λ (m : ℕ). map name keys ++ m ∷ []) is

started_meant : (name : ℕ → ℕ) (k n : ℕ) (starts waiting : List ℕ) (busy : Bool)
    (slot : Option ℕ) → name k ≡ n
    → meant_start name (started (holding starts waiting busy slot) k)
    ≡ started (meant_start name (holding starts waiting busy slot)) n
started_meant name k n starts waiting true slot is =
    ap (λ (xs : List ℕ). holding (map name starts) xs true (option_map name slot))
    (pushed_meant name k n waiting is)
started_meant name k n starts waiting false slot is =
    ap (λ (xs : List ℕ). holding xs (map name waiting) true (option_map name slot))
    (pushed_meant name k n starts is)

next_meant : (name : ℕ → ℕ) (start : StartState) (waiting : List ℕ)
    → meant_start name (next_of start waiting)
    ≡ next_of (meant_start name start) (map name waiting)
next_meant name start [] = refl
next_meant name start (k ∷ waiting) =
    ap (λ (starts : List ℕ).
    record (meant_start name start) { start_list = starts; device_queue = map name waiting })
    (map-append name start.start_list (k ∷ []))

module _ (name : ℕ → ℕ) (s : SlotShared) (r : Shared) (means : MeansShared name s r) where
  pub start_meant : (d : ℕ) → option_map (meant_start name) (slot_start s d) ≡ start_of r d
  start_meant d =
      sym (map_get (meant_start name) s.starts d)
      ∙ ap (λ (starts : List StartState). slice_get starts d) means.starts

  pub start_put : (d : ℕ) (one other : StartState) → meant_start name one ≡ other
      → MeansShared name (with_slot_start s d one) (with_start r d other)
  start_put d one other is =
      record {
        packets = means.packets;
        issued = means.issued;
        locks = means.locks;
        cells = means.cells;
        queues = means.queues;
        starts = map_put (meant_start name) s.starts d one
            ∙ ap (λ (x : StartState). slice_set (map (meant_start name) s.starts) d x) is
            ∙ ap (λ (starts : List StartState). slice_set starts d other) means.starts;
        dpcs = means.dpcs;
      }

module _ (name : ℕ → ℕ) (s : SlotShared) (r : Shared) (keyed : Keyed name s r) (a : Activation)
  where
    abbrev c : Activation
    c = b name s r keyed.means a

    abbrev means : MeansShared name s r
    means = keyed.means

    abbrev Means : SlotOutcome → Outcome → Type 0
    Means p o = MeansOutcome name s p o

    pub queue_meant : (d q : ℕ) → option_map (map name) (slot_queue s d q) ≡ queue_of r d q
    queue_meant d q =
        sym (looked_up name q (slice_get s.queues d))
        ∙ ap (λ (o : Option (List (List ℕ))). option_and_then (λ queues. slice_get queues q) o)
        (sym (map_get (meant_lists name) s.queues d)
        ∙ ap (λ (queues : List (List (List ℕ))). slice_get queues d) means.queues)

    queues_put : (d q : ℕ) (keys entries : List ℕ) → map name keys ≡ entries
        → map (meant_lists name) (with_slot_queue s d q keys).queues
        ≡ (with_queue r d q entries).queues
    queues_put d q keys entries is =
        map_put (meant_lists name) s.queues d (slice_set (slice_index_or s.queues d []) q keys)
        ∙ ap (λ (lists : List (List ℕ)). slice_set (map (meant_lists name) s.queues) d lists)
        (map_put (map name) (slice_index_or s.queues d []) q keys
        ∙ ap (λ (lists : List (List ℕ)). slice_set lists q (map name keys))
        (sym (map_index (meant_lists name) s.queues d []))
        ∙ ap (λ (xs : List ℕ).
        slice_set (slice_index_or (map (meant_lists name) s.queues) d []) q xs) is)
        ∙ ap (λ (queues : List (List (List ℕ))).
        slice_set queues d (slice_set (slice_index_or queues d []) q entries)) means.queues

    queue_put : (d q : ℕ) (keys entries : List ℕ) → map name keys ≡ entries
        → MeansShared name (with_slot_queue s d q keys) (with_queue r d q entries)
    queue_put d q keys entries is =
        record {
          packets = means.packets;
          issued = means.issued;
          locks = means.locks;
          cells = means.cells;
          queues = queues_put d q keys entries is;
          starts = means.starts;
          dpcs = means.dpcs;
        }

    -- a queue has other entries then
    queued : (q : ℕ) (keys entries : List ℕ) → map name keys ≡ entries → (d e : Activation)
        (actions : List Action) → meant_routine name d ≡ e
        → Means (goes_on (with_slot_queue s a.device q keys) d)
        (effect.goes_on (with_queue r a.device q entries) e actions)
    queued q keys entries is d e actions same =
        on name s (with_slot_queue s a.device q keys) (with_queue r a.device q entries) d e actions
        (queue_put a.device q keys entries is)
        (kept_slots name s (with_slot_queue s a.device q keys) refl refl refl) same

    filling : (p : SlotOutcome) (o : Outcome) (full : Bool) → Means p o
        → Means p (record o { full = full })
    filling p o full h =
        record {
          shared = h.shared;
          frames = h.frames;
          reply = h.reply;
          taken = h.taken;
          told = h.told;
          same = h.same;
          cancels = h.cancels;
        }

    pub inserts : (q k : ℕ) (o : Option ℕ) (keys : Option (List ℕ)) → Finds s r k o
        → GoesRight (insert_effect r c q o (option_map (map name) keys))
        → Means (insert_step s a q k keys) (insert_effect r c q o (option_map (map name) keys))
    inserts q k None keys finds right = cc
    inserts q k (Some n) None finds right = cc
    inserts q k (Some n) (Some keys) finds right =
        filling _ _ (is_full (map name keys))
        (queued q (inserted keys k) (inserted (map name keys) n)
        (pushed_meant name k n keys (found_name name s r keyed k n (finds n refl)))
        (next a) (next c) (Touches n ∷ []) refl)

    pub removes : (i q label : ℕ) (keys : Option (List ℕ))
        → GoesRight (remove_effect r c i q label (option_map (map name) keys))
        → Means (remove_step s a i q label keys)
        (remove_effect r c i q label (option_map (map name) keys))
    removes i q label None right = cc
    removes i q label (Some []) right =
        goes name s r means a (at_label a label) (at_label c label) [] refl
    removes i q label (Some (k ∷ keys)) right =
        queued q keys (map name keys) refl (next (with_register a i (Ref k)))
        (next (with_register c i (Ref (name k)))) (Touches (name k) ∷ [])
        (ap next (written_meant name a i (Ref k)))

    pub unlinks : (q k : ℕ) (o : Option ℕ) (keys : Option (List ℕ)) → Finds s r k o
        → GoesRight (unlink_effect r c q o (option_map (map name) keys))
        → Means (unlink_step s a q k keys) (unlink_effect r c q o (option_map (map name) keys))
    unlinks q k None keys finds right = cc
    unlinks q k (Some n) None finds right = cc
    unlinks q k (Some n) (Some keys) finds right =
        let found : Found s r k n = finds n refl in
        queued q (unlinked keys k) (unlinked (map name keys) n)
        (unlinked_meant name k n (found_name name s r keyed k n found)
        (λ j is. found_alone name s r keyed j k n found is) keys) (next a) (next c)
        (Touches n ∷ []) refl

    -- what a device has for StartIo
    restarted : (one other : StartState) → meant_start name one ≡ other → (d e : Activation)
        (actions : List Action) → meant_routine name d ≡ e
        → Means (goes_on (with_slot_start s a.device one) d)
        (effect.goes_on (with_start r a.device other) e actions)
    restarted one other is d e actions same =
        on name s (with_slot_start s a.device one) (with_start r a.device other) d e actions
        (start_put name s r means a.device one other is)
        (kept_slots name s (with_slot_start s a.device one) refl refl refl) same

    -- and the word of a packet is set or emptied
    exchanged : (k n : ℕ) (found : Found s r k n) (q : Packet) → q.number ≡ n
        → (one other : StartState) → meant_start name one ≡ other → (d e : Activation)
        (actions : List Action) → meant_routine name d ≡ e
        → Means (goes_on (with_slot_start (with_packet_at s k (slotted q)) a.device one) d)
        (effect.goes_on (with_start (with_packet r n q) a.device other) e actions)
    exchanged k n found q same one other is d e actions goes =
        let kept : SameSlots s (with_packet_at s k (slotted q)) =
        written_same name s r keyed k n found q same in
        on name s (with_slot_start (with_packet_at s k (slotted q)) a.device one)
        (with_start (with_packet r n q) a.device other) d e actions
        (start_put name (with_packet_at s k (slotted q)) (with_packet r n q)
        (written name s r keyed k n found q same) a.device one other is)
        (record {
          name = kept.name;
          use_of = kept.use_of;
          order = kept.order;
          issued = kept.issued;
        })
        goes

    starts_one : (k n : ℕ) (start : StartState) → Found s r k n → (waits : Bool)
        → Means (start_packet_step s a k start waits)
        (start_packet r c n (meant_start name start) waits)
    starts_one k n start found false =
        restarted (started start k) (started (meant_start name start) n)
        (started_meant name k n start.start_list start.device_queue start.busy start.slot
        (found_name name s r keyed k n found)) (next a) (next c) (Touches n ∷ []) refl
    starts_one k n start found true =
        rw (found.at, found.of)
        (exchanged k n found (with_armer found.packet (Some (armer_waiting a))) found.number
        (started start k) (started (meant_start name start) n)
        (started_meant name k n start.start_list start.device_queue start.busy start.slot
        (found_name name s r keyed k n found)) (next a) (next c) _ refl)

    pub starts : (set : Set) (k : ℕ) (o : Option ℕ) (start : Option StartState) → Finds s r k o
        → GoesRight (start_effect set r c o (option_map (meant_start name) start))
        → Means (start_step set s a k start)
        (start_effect set r c o (option_map (meant_start name) start))
    starts set k None start finds right = cc
    starts set k (Some n) None finds right = cc
    starts set k (Some n) (Some start) finds right =
        filling _ _ (not (has_room_to_start (meant_start name start)))
        (starts_one k n start (finds n refl) (has_cancel set a.driver DeviceQueue && start.busy))

    takes_from : (i label : ℕ) (start : StartState) (o : Option ℕ)
        → Means (take_from_step s a i label start o)
        (take_from r c i label (meant_start name start) (option_map name o))
    takes_from i label start None =
        goes name s r means a (at_label a label) (at_label c label) [] refl
    takes_from i label start (Some k) =
        restarted (with_slot start None) (with_slot (meant_start name start) None) refl
        (next (with_register a i (Ref k))) (next (with_register c i (Ref (name k)))) []
        (ap next (written_meant name a i (Ref k)))

    pub takes_out : (i label : ℕ) (start : Option StartState)
        → GoesRight (take_effect r c i label (option_map (meant_start name) start))
        → Means (take_step s a i label start)
        (take_effect r c i label (option_map (meant_start name) start))
    takes_out i label None right = cc
    takes_out i label (Some start) right = takes_from i label start start.slot

    pub begins : (k : ℕ) (o : Option ℕ) (start : Option StartState) → Finds s r k o
        → GoesRight (begin_effect r c o (option_map (meant_start name) start))
        → Means (begin_step s a k start)
        (begin_effect r c o (option_map (meant_start name) start))
    begins k None start finds right = cc
    begins k (Some n) None finds right = cc
    begins k (Some n) (Some start) finds right =
        restarted (with_slot start (Some k)) (with_slot (meant_start name start) (Some n))
        (ap (λ (m : ℕ). with_slot (meant_start name start) (Some m))
        (found_name name s r keyed k n (finds n refl))) (next a) (next c) (Touches n ∷ []) refl

    -- the next one is started, and what it is named is found
    pub head_meant : (keys : List ℕ) → head_of (map name keys) ≡ option_map name (head_of keys)
    head_meant [] = refl
    head_meant (k ∷ keys) = refl

    disarmed_meant : (has : Bool) (keys : List ℕ)
        → (if has then head_of (map name keys) else None)
        ≡ option_map name (if has then head_of keys else None)
    disarmed_meant true keys = head_meant keys
    disarmed_meant false keys = refl

    next_on : (start : StartState) (o : Option ℕ) → ((k : ℕ) → o ≡ Some k → Found s r k (name k))
        → Means (next_waiting_step s a start o)
        (next_waiting r c (meant_start name start) (option_map name o))
    next_on start None finds =
        restarted (next_started start) (next_started (meant_start name start))
        (next_meant name start start.device_queue) (next a) (next c) [] refl
    next_on start (Some k) finds =
        let found : Found s r k (name k) = finds k refl in
        rw (found.at, found.of)
        (exchanged k (name k) found (with_armer found.packet None) found.number
        (next_started start) (next_started (meant_start name start))
        (next_meant name start start.device_queue) (next a) (next c) _ refl)

    pub nexts : (set : Set) (start : Option StartState)
        → ((x : StartState) (k : ℕ) → start ≡ Some x → next_disarmed set a x ≡ Some k
        → Found s r k (name k))
        → GoesRight (next_effect set r c (option_map (meant_start name) start))
        → Means (next_step set s a start)
        (next_effect set r c (option_map (meant_start name) start))
    nexts set None finds right = cc
    nexts set (Some start) finds right =
        filling _ _ (not (has_room_for_next (meant_start name start)))
        (subst (λ (o : Option ℕ). Means (next_waiting_step s a start (next_disarmed set a start))
        (next_waiting r c (meant_start name start) o))
        (sym (disarmed_meant (has_cancel set a.driver DeviceQueue) start.device_queue))
        (next_on start (next_disarmed set a start) (λ k is. finds start k refl is)))

    -- one is taken off the device queue
    pub dequeues : (k : ℕ) (o : Option ℕ) (start : Option StartState) → Finds s r k o
        → GoesRight (dequeue_effect r c o (option_map (meant_start name) start))
        → Means (dequeue_step s a k start)
        (dequeue_effect r c o (option_map (meant_start name) start))
    dequeues k None start finds right = cc
    dequeues k (Some n) None finds right = cc
    dequeues k (Some n) (Some start) finds right =
        let found : Found s r k n = finds n refl in
        restarted (dequeued start k) (dequeued (meant_start name start) n)
        (ap (λ (xs : List ℕ). record (meant_start name start) { device_queue = xs })
        (unlinked_meant name k n (found_name name s r keyed k n found)
        (λ j is. found_alone name s r keyed j k n found is) start.device_queue)) (next a) (next c)
        (Touches n ∷ []) refl
