-- Dispatch routines that serve uses: the packet is the use's while the routine has it, and what the
-- routine will return is what is agreed on for the use.
use Rattle.laws_runs.proofs.Common.{ap, arith, inl, inr, refl, subst, sym, ◌-◌, ◌∙◌, Bool, List, None, Option, Some, [], false, slice_get, true, ℕ, ⊤, ◌∷◌, ◌≡◌, ◌≤◌, ◌⊎◌, answered, answered_in, operand_of, is_new, is_pending, was_marked, Set, instruction_at, Activated, Entry, Managing, Serving, Tag, current_use, World, Abs, Duty, Finished, Fresh, GivenDown, NoDuty, Pending, Status, Activation, Frame, CancelFrame, Routine, Walk, StatusValue, States, frame_rights, stack_sum, state_of, HoldOf, hold_told, handed_news, told_frame}
use Rattle.laws_runs.proofs.Pending.LowerStatuses.{Lowers}
use Rattle.laws_runs.proofs.Uses.Fates.{Agreed, Linked}
use Rattle.laws_runs.proofs.Uses.Traced.{SameUses}
use Rattle.laws_runs.proofs.Live.Sees.{IsDeferred, RefersTo, answered_in_deferred}

-- a use is its packet's current one, and was marked or not
abbrev pub Current : List Entry → Serving → Bool → Type 0
Current past v b = (current_use past v.packet ≡ Some v.«use») × (was_marked past v ≡ b)

-- the use that the frame of a tag serves
abbrev pub served : Tag → Option Serving
served Managing = None
served (Activated g driver routine v) = v

abbrev pub first_served : List Tag → Option Serving
first_served [] = None
first_served (tag ∷ tags) = served tag

-- a tag names a routine of a driver
abbrev pub TagNames : ℕ → ℕ → Tag → Type 0
TagNames driver routine Managing = ⊥
TagNames driver routine (Activated g d r v) = (d ≡ driver) × (r ≡ routine)

module _ (set : Set) (states : States) where
  module _ (w : World) (past : List Entry) where
    -- a lower driver has returned: the statuses that are left of it are as agreed on
    pub record Learned (v : Serving) (a : Activation) : Type 0 where
      pub pending : Bool
      pub lowers : Lowers pending (state_of states a).kinds a.registers
      pub agreed : Agreed states w past v pending

    -- one has returned, and another one, which was given a packet that the routine owns, is still
    -- to
    pub record Knows (v : Serving) (a : Activation) : Type 0 where
      pub pending : Bool
      pub answer : (status : Status) → Lowers pending (state_of states a).kinds
          (answered set a status).registers
      pub agreed : Agreed states w past v pending

    -- it is still to return: what is agreed on for its use is so for the one above
    pub record Awaits (v lower : Serving) (a : Activation) : Type 0 where
      pub linked : Linked states w past v lower
      pub answer : (status : Status) → Lowers (is_pending status) (state_of states a).kinds
          (answered set a status).registers

    abbrev pub GivenSays : Serving → Activation → Option Serving → Type 0
    GivenSays v a None = Learned v a
    GivenSays v a (Some lower) = Awaits v lower a ⊎ Knows v a

    -- nothing was done about the packet that it was handed, which is its use's
    pub record Handed (v : Serving) (a : Activation) : Type 0 where
      pub refers : HoldOf is_new (RefersTo v.packet) (state_of states a).kinds a.registers
      pub current : 1 ≤ frame_rights states (Routine a) v.packet → Current past v false

    -- what a routine will return, by its duty; the routine on it may serve a lower use
    abbrev pub Says : Serving → Activation → Option Serving → Duty → Type 0
    Says v a over Fresh = Handed v a
    Says v a over Pending = Agreed states w past v true
    Says v a over Finished = Agreed states w past v false
    Says v a over GivenDown = GivenSays v a over
    Says v a over NoDuty = ⊤

    pub record ServesUse (v : Serving) (a : Activation) (over : Option Serving) : Type 0 where
      pub says : Says v a over (state_of states a).duty

    abbrev pub MustServe : Activation → Option Serving → Option Serving → Type 0
    MustServe a over None = ⊥
    MustServe a over (Some v) = ServesUse v a over

    -- a dispatch routine serves a use; a deferred routine and completion routines, which stand on
    -- the I/O manager's frames, serve none; nothing stands on a frame of IoCancelIrp
    abbrev pub UnderServes : Option Frame → Activation → Option Serving → Option Serving → Type 0
    UnderServes None a over v = MustServe a over v ⊎ IsDeferred set a
    UnderServes (Some (Routine b)) a over v = MustServe a over v
    UnderServes (Some (Walk m)) a over v = ⊤
    UnderServes (Some (CancelFrame c)) a over v = ⊥

    -- a frame on another one, or on none, has a tag that names its routine and the use that it
    -- serves
    abbrev pub FrameServes : Option Frame → Option Serving → Frame → Tag → Type 0
    FrameServes under over (Routine a) tag = TagNames a.driver a.routine tag
        × UnderServes under a over (served tag)
    FrameServes under over (Walk n) tag = tag ≡ Managing
    FrameServes under over (CancelFrame c) tag = tag ≡ Managing

    -- frames on another one, or on none, the lowest first, with their tags
    abbrev pub AllServe : Option Frame → List Frame → List Tag → Type 0
    AllServe under [] [] = ⊤
    AllServe under [] (tag ∷ tags) = ⊥
    AllServe under (f ∷ frames) [] = ⊥
    AllServe under (f ∷ frames) (tag ∷ tags) =
        FrameServes under (first_served tags) f tag × AllServe (Some f) frames tags

-- what an event does to what was agreed on
pub record KeepsAgreed (states : States) (w : World) (past : List Entry) (later_w : World)
    (later : List Entry)
    : Type 0 where
  pub agreed : (v : Serving) (b : Bool) → Agreed states w past v b → Agreed states later_w later v b
  pub linked : (v lower : Serving) → Linked states w past v lower
      → Linked states later_w later v lower

pub current_same : (past later : List Entry) (v : Serving) (b : Bool) → SameUses past later v.packet
    → Current past v b → Current later v b
current_same past later v b same h =
    (ap (λ (used : List ℕ). slice_get used 0) same.used ∙ h.0, same.marked v.«use» ∙ h.1)

-- a frame that does nothing serves on, where nothing happens to the uses of the packet that it has
module _ (set : Set) (states : States) (w later_w : World) (past later : List Entry)
    (keeps : KeepsAgreed states w past later_w later) where
  given_kept : (v : Serving) (a : Activation) (over : Option Serving)
      → GivenSays set states w past v a over
      → GivenSays set states later_w later v a over
  given_kept v a None h =
      record { pending = h.pending; lowers = h.lowers; agreed = keeps.agreed v h.pending h.agreed }
  given_kept v a (Some lower) (inl h) =
      inl (record { linked = keeps.linked v lower h.linked; answer = h.answer })
  given_kept v a (Some lower) (inr h) =
      inr (record {
        pending = h.pending;
        answer = h.answer;
        agreed = keeps.agreed v h.pending
            h.agreed;
      })

  pub says_kept : (v : Serving) (a : Activation) (over : Option Serving) (d : Duty)
      → (1 ≤ frame_rights states (Routine a) v.packet → SameUses past later v.packet)
      → Says set states w past v a over d → Says set states later_w later v a over d
  says_kept v a over Fresh same h =
      record {
        refers = h.refers;
        current = λ some. current_same past later v false (same some) (h.current some);
      }
  says_kept v a over Pending same h = keeps.agreed v true h
  says_kept v a over Finished same h = keeps.agreed v false h
  says_kept v a over GivenDown same h = given_kept v a over h
  says_kept v a over NoDuty same h = tt

  must_kept : (a : Activation) (over v : Option Serving)
      → ((n : ℕ) → 1 ≤ frame_rights states (Routine a) n → SameUses past later n)
      → MustServe set states w past a over v → MustServe set states later_w later a over v
  must_kept a over None same h = absurd h
  must_kept a over (Some v) same h =
      record { says = says_kept v a over (state_of states a).duty (same v.packet) h.says }

  under_kept : (under : Option Frame) (a : Activation) (over v : Option Serving)
      → ((n : ℕ) → 1 ≤ frame_rights states (Routine a) n → SameUses past later n)
      → UnderServes set states w past under a over v
      → UnderServes set states later_w later under a over v
  under_kept None a over v same h =
      elim h [ inl must ↦ inl (must_kept a over v same must) | inr is ↦ inr is ]
  under_kept (Some (Routine b)) a over v same h = must_kept a over v same h
  under_kept (Some (Walk m)) a over v same h = tt
  under_kept (Some (CancelFrame c)) a over v same h = absurd h

  pub frame_kept : (under : Option Frame) (over : Option Serving) (f : Frame) (tag : Tag)
      → ((n : ℕ) → 1 ≤ frame_rights states f n → SameUses past later n)
      → FrameServes set states w past under over f tag
      → FrameServes set states later_w later under over f tag
  frame_kept under over (Routine a) tag same h =
      (h.0, under_kept under a over (served tag) same h.1)
  frame_kept under over _ tag same h = h

  pub all_kept : (under : Option Frame) (frames : List Frame) (tags : List Tag)
      → ((n : ℕ) → 1 ≤ stack_sum (λ f. frame_rights states f n) frames → SameUses past later n)
      → AllServe set states w past under frames tags
      → AllServe set states later_w later under frames tags
  all_kept under [] [] same h = tt
  all_kept under (f ∷ frames) (tag ∷ tags) same h = (
    frame_kept under (first_served tags) f tag (λ n some. same n (omega arith)) h.0,
    all_kept (Some f) frames tags (λ n some. same n (omega arith)) h.1,
  )
  all_kept under _ _ same h = absurd h

-- what is agreed on for the use below is agreed on for one that is linked to it
abbrev pub IsFollowed : States → World → List Entry → Type 0
IsFollowed states w past = (v lower : Serving) (b : Bool) → Linked states w past v lower
    → Agreed states w past lower b
    → Agreed states w past v b

answered_at : (states : States) (a : Activation) (status : Status) (r : Option ℕ)
    → state_of states (answered_in a status r) ≡ state_of states a
answered_at states a status None = refl
answered_at states a status (Some r) = refl

answered_names : (a : Activation) (status : Status) (r : Option ℕ) (tag : Tag)
    → TagNames a.driver a.routine tag
    → TagNames (answered_in a status r).driver (answered_in a status r).routine tag
answered_names a status None tag h = h
answered_names a status (Some r) tag h = h

-- the one below is told what was returned from the use on it
abbrev pub Agreeing : States → World → List Entry → Option Frame → Option Serving → Status → Type 0
Agreeing states w past (Some (Routine b)) (Some lower) status =
    Agreed states w past lower (is_pending status)
Agreeing states w past (Some (Routine b)) None status = ⊥
Agreeing states w past (Some (Walk m)) over status = ⊤
Agreeing states w past (Some (CancelFrame c)) over status = ⊤
Agreeing states w past None over status = ⊤

answered_hold : (states : States) (m : ℕ) (a : Activation) (status : Status) (r : Option ℕ)
    → HoldOf is_new (RefersTo m) (state_of states a).kinds a.registers
    → HoldOf is_new (RefersTo m) (state_of states (answered_in a status r)).kinds
    (answered_in a status r).registers
answered_hold states m a status None h = h
answered_hold states m a status (Some r) h =
    hold_told is_new handed_news (RefersTo m) (state_of states a).kinds a.registers r
    (StatusValue status) tt h

-- a frame that is told a status
module _ (set : Set) (states : States) (w : World) (past : List Entry)
    (follows : IsFollowed states w past)
    (status : Status) where
  says_told : (v lower : Serving) (a : Activation) (d : Duty)
      → Says set states w past v a (Some lower) d
      → Agreed states w past lower (is_pending status)
      → state_of states (answered set a status) ≡ state_of states a
      → ((n : ℕ) → frame_rights states (Routine (answered set a status)) n ≡ frame_rights states
      (Routine a) n)
      → Says set states w past v (answered set a status) None d
  says_told v lower a Fresh h agreed same rights =
      record {
        refers = answered_hold states v.packet a status
            (operand_of (instruction_at set a.driver a.routine (a.position - 1))) h.refers;
        current = λ some.
            let alike : frame_rights states (Routine (answered set a status)) v.packet
            ≡ frame_rights states (Routine a) v.packet = rights v.packet in
            h.current (omega arith);
      }
  says_told v lower a Pending h agreed same rights = h
  says_told v lower a Finished h agreed same rights = h
  says_told v lower a GivenDown (inr h) agreed same rights =
      record {
        pending = h.pending;
        lowers = subst (λ (s : Abs). Lowers h.pending s.kinds (answered set a status).registers)
            (sym same) (h.answer status);
        agreed = h.agreed;
      }
  says_told v lower a GivenDown (inl h) agreed same rights =
      record {
        pending = is_pending status;
        lowers = subst
            (λ (s : Abs). Lowers (is_pending status) s.kinds (answered set a status).registers)
            (sym same)
            (h.answer status);
        agreed = follows v lower (is_pending status) h.linked agreed;
      }
  says_told v lower a NoDuty h agreed same rights = tt

  must_told : (a : Activation) (lower : Serving) (v : Option Serving)
      → ((n : ℕ) → frame_rights states (Routine (answered set a status)) n ≡ frame_rights states
      (Routine a) n)
      → MustServe set states w past a (Some lower) v
      → Agreed states w past lower (is_pending status)
      → MustServe set states w past (answered set a status) None v
  must_told a lower None rights h agreed = absurd h
  must_told a lower (Some v) rights h agreed =
      let same : state_of states (answered set a status) ≡ state_of states a =
      answered_at states a status (operand_of (instruction_at set a.driver a.routine
      (a.position - 1))) in
      record {
        says = subst (λ (s : Abs). Says set states w past v (answered set a status) None s.duty)
            (sym same)
            (says_told v lower a (state_of states a).duty h.says agreed same rights);
      }

  under_told : (under : Option Frame) (a : Activation) (lower : Serving) (v : Option Serving)
      → ((n : ℕ) → frame_rights states (Routine (answered set a status)) n ≡ frame_rights states
      (Routine a) n)
      → UnderServes set states w past under a (Some lower) v
      → Agreed states w past lower (is_pending status)
      → UnderServes set states w past under (answered set a status) None v
  under_told None a lower v rights h agreed =
      elim h [
        | inl must ↦ inl (must_told a lower v rights must agreed)
        | inr is ↦
            inr (answered_in_deferred set a status
            (operand_of (instruction_at set a.driver a.routine (a.position - 1))) is)
      ]
  under_told (Some (Routine b)) a lower v rights h agreed = must_told a lower v rights h agreed
  under_told (Some (Walk m)) a lower v rights h agreed = tt
  under_told (Some (CancelFrame c)) a lower v rights h agreed = absurd h

  pub frame_told : (under : Option Frame) (g : Frame) (over : Option Serving) (tag : Tag)
      → ((n : ℕ) → frame_rights states (told_frame set (Some status) g) n ≡ frame_rights states g n)
      → FrameServes set states w past under over g tag → Agreeing states w past (Some g) over status
      → FrameServes set states w past under None (told_frame set (Some status) g) tag
  frame_told under (Walk n) over tag rights h agreed = h
  frame_told under (CancelFrame c) over tag rights h agreed = h
  frame_told under (Routine a) None tag rights h agreed = absurd agreed
  frame_told under (Routine a) (Some lower) tag rights h agreed = (
    answered_names a status (operand_of (instruction_at set a.driver a.routine (a.position - 1)))
        tag h.0,
    under_told under a lower (served tag) rights h.1 agreed,
  )
