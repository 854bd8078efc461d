-- What an instruction does to the packet of a register, it does to the one that the slot means.
use Rattle.std.proofs.Common.{◌≡◌, ℕ, Bool, true, false, List, [], ◌∷◌, Option, None, Some, refl, is_none}
use Rattle.std.specs.Prelude.{if◌then◌else◌}
use Rattle.model.specs.declared.instr.Field.{Field}
use Rattle.model.specs.declared.world.Activation.{Activation}
use Rattle.model.specs.declared.world.Packet.{Packet}
use Rattle.model.specs.declared.world.Value.TheVariants.{Num}
use Rattle.model.specs.Action.{Action, Touches}
use Rattle.model.specs.Effect.{Outcome, arm_effect, arm_packet, armer_of, ask_effect, ask_packet, disarm_effect, disarm_packet, get_effect, get_packet, look_effect, look_packet, mark_effect, mark_packet, put_effect, put_packet}
use Rattle.model.specs.Effect as effect
use Rattle.model.specs.World.{Shared, at_label, field_of, mark_current, next, packet_of, with_armer, with_info, with_packet}
use Rattle.laws_slots.specs.Rep.{meant_routine, slotted}
use Rattle.laws_slots.specs.Slots.{SlotShared, packet_at, with_packet_at}
use Rattle.laws_slots.specs.SlotStep.{SlotOutcome, arm_step, ask_step, disarm_step, get_step, goes_on, jump_step, look_step, mark_step, put_step}
use Rattle.laws_slots.proofs.Keys.{Found, Keyed, written, written_same}
use Rattle.laws_slots.proofs.Local.{b, jumps_or_not, sets}
use Rattle.laws_slots.proofs.Outcomes.{GoesRight, MeansOutcome, on}
use Rattle.laws_slots.proofs.Words.{Tells}

-- the packet that an operand names, if it names one
abbrev pub Finds : SlotShared → Shared → ℕ → Option ℕ → Type 0
Finds s r k o = (n : ℕ) → o ≡ Some n → Found s r k n

module _ (name : ℕ → ℕ) (s : SlotShared) (r : Shared) (keyed : Keyed name s r) (a : Activation)
  where
    abbrev c : Activation
    c = b name s r keyed.means a

    abbrev Means : SlotOutcome → Outcome → Type 0
    Means p o = MeansOutcome name s p o

    -- a packet is changed, and the routine goes on
    pub changes : (k n : ℕ) (found : Found s r k n) (q : Packet) → q.number ≡ n → (d e : Activation)
        (actions : List Action) → meant_routine name d ≡ e
        → Means (goes_on (with_packet_at s k (slotted q)) d)
        (effect.goes_on (with_packet r n q) e actions)
    changes k n found q same d e actions is =
        on name s (with_packet_at s k (slotted q)) (with_packet r n q) d e actions
        (written name s r keyed k n found q same) (written_same name s r keyed k n found q same) is

    -- it is looked at
    pub gets : (i k : ℕ) (field : Field) (o : Option ℕ) → Finds s r k o
        → GoesRight (get_effect r c i field o)
        → Means (get_step s a i field (packet_at s k)) (get_effect r c i field o)
    gets i k field None finds right = cc
    gets i k field (Some n) finds right =
        let found : Found s r k n = finds n refl in
        rw (found.at, found.of)
        (sets name s r keyed.means a i (Num (field_of found.packet field))
        (Num (field_of found.packet field)) (Touches n ∷ []) refl)

    pub asks : (label k : ℕ) (o : Option ℕ) → Finds s r k o → GoesRight (ask_effect r c label o)
        → Means (ask_step s a label (packet_at s k)) (ask_effect r c label o)
    asks label k None finds right = cc
    asks label k (Some n) finds right =
        let found : Found s r k n = finds n refl in
        rw (found.at, found.of)
        (jumps_or_not name s r keyed.means a label found.packet.cancel (Touches n ∷ []))

    pub looks : (label k : ℕ) (o : Option ℕ) → Finds s r k o → GoesRight (look_effect r c label o)
        → Means (look_step s a label (packet_at s k)) (look_effect r c label o)
    looks label k None finds right = cc
    looks label k (Some n) finds right =
        let found : Found s r k n = finds n refl in
        rw (found.at, found.of)
        (jumps_or_not name s r keyed.means a label found.packet.pending_returned (Touches n ∷ []))

    -- it is written to
    puts_info : (k n info m : ℕ) → Found s r k n → m ≡ info
        → Means (put_step s a k info (packet_at s k)) (put_packet r c m n (packet_of r n))
    puts_info k n info m found is =
        rw (found.at, found.of, ← is)
        (changes k n found (with_info found.packet m) found.number (next a) (next c) _ refl)

    pub puts : (k info : ℕ) (number o : Option ℕ) → Tells number info → Finds s r k o
        → GoesRight (put_effect r c number o)
        → Means (put_step s a k info (packet_at s k)) (put_effect r c number o)
    puts k info None o tells finds right = cc
    puts k info (Some m) None tells finds right = cc
    puts k info (Some m) (Some n) tells finds right =
        puts_info k n info m (finds n refl) (tells m refl)

    pub marks : (k : ℕ) (o : Option ℕ) → Finds s r k o → GoesRight (mark_effect r c o)
        → Means (mark_step s a k (packet_at s k)) (mark_effect r c o)
    marks k None finds right = cc
    marks k (Some n) finds right =
        let found : Found s r k n = finds n refl in
        rw (found.at, found.of)
        (changes k n found (mark_current found.packet) found.number (next a) (next c) _ refl)

    pub arms : (q k : ℕ) (o cancel : Option ℕ) → Finds s r k o
        → GoesRight (arm_effect r c q o cancel)
        → Means (arm_step s a q k (packet_at s k)) (arm_effect r c q o cancel)
    arms q k None cancel finds right = cc
    arms q k (Some n) None finds right = cc
    arms q k (Some n) (Some cancel) finds right =
        let found : Found s r k n = finds n refl in
        rw (found.at, found.of)
        (changes k n found (with_armer found.packet (Some (armer_of a q))) found.number (next a)
        (next c) _ refl)

    jumps_after : (label k n : ℕ) (found : Found s r k n) (q : Packet) → q.number ≡ n
        → (jumped : Bool) (actions : List Action)
        → Means (jump_step (with_packet_at s k (slotted q)) a label jumped)
        (effect.goes_on (with_packet r n q) (if jumped then at_label c label else next c) actions)
    jumps_after label k n found q same true actions =
        changes k n found q same (at_label a label) (at_label c label) actions refl
    jumps_after label k n found q same false actions =
        changes k n found q same (next a) (next c) actions refl

    pub disarms : (label k : ℕ) (o : Option ℕ) → Finds s r k o
        → GoesRight (disarm_effect r c label o)
        → Means (disarm_step s a label k (packet_at s k)) (disarm_effect r c label o)
    disarms label k None finds right = cc
    disarms label k (Some n) finds right =
        let found : Found s r k n = finds n refl in
        rw (found.at, found.of)
        (jumps_after label k n found (with_armer found.packet None) found.number
        (is_none found.packet.armer) _)
