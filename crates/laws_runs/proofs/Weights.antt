-- How much is left to do: a weight for each frame, and the depth of each live packet. A routine's
-- frame weighs what it has left to execute, at a price that pays for what one instruction may push:
-- a routine of a lower device with all that it has to execute, and one location more; or the I/O
-- manager's frame. A step of the I/O manager leaves a location, which pays for the completion
-- routine that it may push, and that pushes nothing.
use Rattle.laws_runs.proofs.Common.{ap, arith, inl, inr, refl, subst, zero, ◌*◌, ◌-◌, eqb_tells, slice_get_within, Bool, List, None, Option, Some, [], false, if◌then◌else◌, length, option_and_then, remove, slice_get, slice_set, suc, true, ℕ, ◌+◌, ◌<◌, ◌∷◌, ◌≡◌, ◌≢◌, ◌≤◌, certificate, certificate_of, is_completion, Set, Member, default_number, member, routine_of, sort_of, IsTypable, IsTypableRoutine, Shared, packet_of, place_of, Driver, RoutineOf, Activation, CancelStep, AcquireStep, Exchange, SetFlag, Frame, CancelFrame, Routine, Walk, Packet, World, stack_sum, thread_sum, sum_put, answered_in, operand_of, instruction_at, told_frame, Status}
use Rattle.std.proofs.Math.Nat.{mul-le-mul_left, mul-le-mul_right}
use Rattle.std.proofs.lemmas.Nat.{mul-le}
use Rattle.model.specs.declared.limits.TheConstants.{MAX_CERTIFICATE}
use Rattle.laws_runs.specs.Rest.{price, up}
use Rattle.model.specs.Certificate.{certificate_in, certificate_to}
use Rattle.laws_runs.proofs.Certificates.Owed.{Pays}
use Rattle.laws_runs.proofs.Certificates.Steps.{frame_due}
use Rattle.laws_runs.proofs.Depth.Falls.{Short}
use Rattle.laws_runs.proofs.States.Frames.{due, due_of}

-- no routine of an accepted set has a certificate above the limit
small_code : (m : Member) → IsTypableRoutine m → certificate m.routine.code ≤ MAX_CERTIFICATE
small_code m h =
    let n : ℕ = length m.routine.code in
    let some : n ≢ 0 = h.some in
    let last : suc (n - 1) ≡ n = omega arith in
    subst (λ (k : ℕ). certificate_to m.routine.code k ≤ MAX_CERTIFICATE) last
    (h.each (n - 1) (omega arith)).short

module _ (set : Set) (typable : IsTypable set) (driver number : ℕ) where
  small_in : (d : Driver) → slice_get set.drivers driver ≡ Some d → (o : Option RoutineOf)
      → slice_get d.routines number ≡ o → certificate_in o ≤ MAX_CERTIFICATE
  small_in d there None at = omega arith
  small_in d there (Some routine) at =
      small_code (member set driver number routine)
      (typable.drivers driver d (slice_get_within set.drivers driver d there) there number routine
      (slice_get_within d.routines number routine at) at)

  small_of : (o : Option Driver) → slice_get set.drivers driver ≡ o
      → certificate_in (option_and_then (λ d. slice_get d.routines number) o) ≤ MAX_CERTIFICATE
  small_of None there = omega arith
  small_of (Some d) there = small_in d there (slice_get d.routines number) refl

  pub small : certificate_of set driver number ≤ MAX_CERTIFICATE
  small =
      elim (eqb_tells number default_number) [
        | inl e ↦ rw e.0 (omega arith)
        | inr e ↦ rw e.0 (small_of (slice_get set.drivers driver) refl)
      ]

pub price_some : (d : ℕ) → up + 2 ≤ price d
price_some zero = omega arith
price_some (suc d) = omega arith

price_more : (d : ℕ) → price d ≤ price (suc d)
price_more zero = omega arith
price_more (suc d) =
    omega (arith, mul-le-mul_left MAX_CERTIFICATE (price_more d))

price_rises : (d more : ℕ) → price d ≤ price (more + d)
price_rises d zero = let none : zero + d ≡ d = omega arith in rw none (omega arith)
price_rises d (suc more) =
    let next : suc more + d ≡ suc (more + d) = omega arith in
    rw next (omega (arith, price_rises d more, price_more (more + d)))

pub price_le : (d e : ℕ) → d ≤ e → price d ≤ price e
price_le d e h =
    let same : e - d + d ≡ e = omega arith in
    subst (λ (k : ℕ). price d ≤ price k) same (price_rises d (e - d))

price_under : (d e : ℕ) → d ≤ e → up + 2 + MAX_CERTIFICATE * price d ≤ price (suc e)
price_under d e h = omega (arith, mul-le-mul_left MAX_CERTIFICATE (price_le d e h))

-- a routine of a lower device is paid for with all that it has to execute
pub price_lower : (lower device : ℕ) → lower < device
    → up + 2 + MAX_CERTIFICATE * price lower ≤ price device
price_lower lower zero h = absurd (omega arith)
price_lower lower (suc d) h = price_under lower d (omega arith)

-- before each step of IoCancelIrp
abbrev pub stage : CancelStep → ℕ
stage AcquireStep = 3
stage SetFlag = 2
stage Exchange = 1

-- what packets weigh: how far down they are
abbrev pub depths : List Packet → ℕ
depths [] = 0
depths (p ∷ packets) = p.depth + depths packets

module _ (set : Set) where
  -- a completion routine pushes nothing
  abbrev pub price_by : Bool → ℕ → ℕ
  price_by completion device = if completion then 1 else price device

  abbrev pub completes : Activation → Bool
  completes a = is_completion (sort_of set a.driver a.routine)

  abbrev pub price_of : Activation → ℕ
  price_of a = price_by (completes a) a.device

  abbrev pub weight : Frame → ℕ
  weight (Routine a) = due set a * price_of a
  weight (Walk n) = 1
  weight (CancelFrame c) = stage c.next + MAX_CERTIFICATE * price (length set.devices)

  abbrev pub measure : World → ℕ
  measure w = thread_sum weight w.threads + up * depths w.shared.packets

  -- what an instruction may cost beside the frame that it pushes
  abbrev pub extra : Activation → ℕ
  extra a = if completes a then 0 else up

  pub extra_paid : (b : Bool) (d : ℕ) → 1 + (if b then 0 else up) ≤ price_by b d
  extra_paid true d = omega arith
  extra_paid false d = omega (arith, price_some d)

  price_of_le : (b : Bool) (d : ℕ) → price_by b d ≤ price d
  price_of_le true d = omega (arith, price_some d)
  price_of_le false d = omega arith

  -- a routine that begins
  pub fresh_weight : (a : Activation) → due set a ≤ MAX_CERTIFICATE
      → weight (Routine a) ≤ MAX_CERTIFICATE * price a.device
  fresh_weight a h =
      mul-le (due set a) (price_of a) MAX_CERTIFICATE (price a.device) h
      (price_of_le (completes a) a.device)

  spend : (x y k : ℕ) → 1 + x ≤ y → x * k + k ≤ y * k
  spend x y k h = omega (arith, mul-le-mul_right k h)

  -- the routine goes on
  price_same : (a b : Activation) → b.driver ≡ a.driver → b.routine ≡ a.routine
      → b.device ≡ a.device → price_of b ≡ price_of a
  price_same a b driver routine device = rw (driver, routine, device) refl

  spent : (a b : Activation) → 1 + due set b ≤ due set a → b.driver ≡ a.driver
      → b.routine ≡ a.routine → b.device ≡ a.device
      → weight (Routine b) + price_of a ≤ weight (Routine a)
  spent a b less driver routine device =
      rw (price_same a b driver routine device)
      (spend (due set b) (due set a) (price_of a) less)

  -- what a routine's instruction leaves in place of its frame, with its other cost, is paid for
  pub pays_frames : (a : Activation) (n : ℕ) (frames : List Frame) → n ≡ 1
      → IsTypable set
      → Pays (frame_due set) set (Routine a) n frames → Short set (Routine a) frames
      → stack_sum weight frames + 1 + extra a ≤ weight (Routine a)
  pays_frames a n [] one typable pays short =
      let some : 1 + 0 ≤ due set a = (let h : n ≤ due set a = pays in omega arith) in
      omega (arith, spend 0 (due set a) (price_of a) some, extra_paid (completes a) a.device)
  pays_frames a n (Routine b ∷ []) one typable pays short =
      let less : 1 + due set b ≤ due set a = (let h : n + due set b ≤ due set a = pays.0 in omega arith) in
      omega (arith, spent a b less pays.1 pays.2 short, extra_paid (completes a) a.device)
  pays_frames a n (Routine b ∷ Walk m ∷ []) one typable pays short =
      let less : 1 + due set b ≤ due set a = (let h : n + due set b ≤ due set a = pays.0 in omega arith) in
      let price : price_of a ≡ price a.device = ap (λ (c : Bool). price_by c a.device) short.1 in
      let more : extra a ≡ up = ap (λ (c : Bool). if c then 0 else up) short.1 in
      omega (arith, spent a b less pays.1 pays.2 short.0, price_some a.device)
  pays_frames a n (Routine b ∷ Routine c ∷ []) one typable pays short =
      let less : 1 + due set b ≤ due set a = (let h : n + due set b ≤ due set a = pays.0 in omega arith) in
      let not : completes a ≡ false = ap is_completion short.2 in
      let price : price_of a ≡ price a.device = ap (λ (c : Bool). price_by c a.device) not in
      let more : extra a ≡ up = ap (λ (c : Bool). if c then 0 else up) not in
      let fresh : due set c ≤ MAX_CERTIFICATE =
      (let h : due set c ≤ certificate_of set c.driver c.routine = pays.3.0 in
      omega (arith, small set typable c.driver c.routine)) in
      omega (
        arith,
        spent a b less pays.1 pays.2 short.0,
        fresh_weight c fresh,
        price_lower c.device a.device short.1,
      )
  pays_frames a n (Routine b ∷ Walk m ∷ g ∷ frames) one typable pays short = absurd short
  pays_frames a n (Routine b ∷ Routine c ∷ g ∷ frames) one typable pays short = absurd short
  pays_frames a n (Routine b ∷ CancelFrame c ∷ frames) one typable pays short = absurd short
  pays_frames a n (Walk m ∷ frames) one typable pays short = absurd short
  pays_frames a n (CancelFrame c ∷ frames) one typable pays short = absurd short

  -- a frame that is told a status weighs as before
  told_due : (o : Option RoutineOf) (a : Activation) (status : Status) (r : Option ℕ)
      → due_of o (answered_in a status r) ≡ due_of o a
  told_due None a status None = refl
  told_due None a status (Some r) = refl
  told_due (Some routine) a status None = refl
  told_due (Some routine) a status (Some r) = refl

  told_weight : (a : Activation) (status : Status) (r : Option ℕ)
      → weight (Routine (answered_in a status r)) ≡ weight (Routine a)
  told_weight a status None = refl
  told_weight a status (Some r) =
      ap (λ (n : ℕ). n * price_of a) (told_due (routine_of set a.driver a.routine) a status (Some r))

  pub told_weighs : (told : Option Status) (f : Frame)
      → weight (told_frame set told f) ≡ weight f
  told_weighs None (Routine a) = refl
  told_weighs None (Walk n) = refl
  told_weighs None (CancelFrame c) = refl
  told_weighs (Some status) (Walk n) = refl
  told_weighs (Some status) (CancelFrame c) = refl
  told_weighs (Some status) (Routine a) =
      told_weight a status (operand_of (instruction_at set a.driver a.routine (a.position - 1)))

-- another packet in place of one, and none
pub depth_put : (s : Shared) (n : ℕ) (p q : Packet) → packet_of s n ≡ Some p
    → depths (slice_set s.packets (place_of s.packets n) q) + p.depth ≡ depths s.packets + q.depth
depth_put s n p q there =
    sum_put (λ (x : Packet). x.depth) depths (λ x xs. refl) s.packets (place_of s.packets n) p q
    there

pub depth_same : (s : Shared) (n : ℕ) (p q : Packet) → packet_of s n ≡ Some p
    → q.depth ≡ p.depth
    → depths (slice_set s.packets (place_of s.packets n) q) ≡ depths s.packets
depth_same s n p q there same = omega (arith, depth_put s n p q there)

pub depth_removed : (packets : List Packet) (i : ℕ) → depths (remove packets i) ≤ depths packets
depth_removed [] zero = omega arith
depth_removed [] (suc i) = omega arith
depth_removed (p ∷ packets) zero = omega arith
depth_removed (p ∷ packets) (suc i) = omega (arith, depth_removed packets i)
