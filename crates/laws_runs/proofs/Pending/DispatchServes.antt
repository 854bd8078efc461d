-- What a step of a dispatch routine does with the packet that it serves: nothing, or it marks it,
-- completes it, passes it on, sends it down in a location of its own, or returns a status. What it
-- leaves serves on.
use Rattle.laws_runs.proofs.Common.{ap, arith, inl, inr, refl, subst, sym, ◌∙◌, eqb_tells, list_any, Bool, List, None, Option, Some, [], false, nat_eq, true, ℕ, ⊤, ◌∷◌, ◌≡◌, ◌≤◌, ◌⊎◌, Action, Calls, Completes, Executes, Marks, Touches, Outcome, goes_on, leaves, returned, is_new, is_pending, new_tag, tags_after, Set, Activated, Actor, Entry, Serving, Tag, recorded, uses_opened, Shared, World, next, Duty, Finished, Fresh, GivenDown, NoDuty, Pending, Kind, Reply, Status, Activation, Frame, CancelFrame, Routine, Walk, Packet, Value, States, frame_rights, state_of, HoldOf}
use Rattle.laws_runs.proofs.Past.LivePackets.{find}
use Rattle.laws_runs.proofs.Pending.LowerStatuses.{Lowers}
use Rattle.laws_runs.proofs.Pending.Returned.{AllAgree, agree_kept, agree_returned, is_telling, silent_about, silent_returns}
use Rattle.laws_runs.proofs.Pending.Serving.{AllServe, Current, FrameServes, Says, ServesUse, TagNames, UnderServes, first_served, served}
use Rattle.laws_runs.proofs.Pending.UsesServed.{own_serves, IsHandedOver, owned_current, GivesOwn, called_serves, GoesOnAs, BeginsServing, Called, Completed, GivesDown, Settles, begun_serves, called_current, done_serves, mark_serves, new_serving, passed_serves, plain_serves}
use Rattle.laws_runs.proofs.Uses.Fates.{Agreed, late_marks}
use Rattle.laws_runs.proofs.Uses.Traced.{SameUses, is_about, same_recorded}
use Rattle.laws_runs.proofs.Live.Sees.{RefersTo}

-- it returns a status as its duty says
abbrev pub AsDuty : Duty → Bool → List Kind → List Value → Type 0
AsDuty Fresh b kinds values = ⊥
AsDuty Pending b kinds values = b ≡ true
AsDuty Finished b kinds values = b ≡ false
AsDuty GivenDown b kinds values = (x : Bool) → Lowers x kinds values → b ≡ x
AsDuty NoDuty b kinds values = ⊥

pub data Does (set : Set) (states : States) (a : Activation) : Outcome → Type 0 where
  -- one frame goes on, and nothing is told
  stays_quiet : (after : Shared) (b : Activation) (actions : List Action) (reply : Reply)
      (full : Bool)
      → GoesOnAs states a b
      → list_any is_telling actions ≡ false
      → Does set states a
      (record (leaves after (Routine b ∷ []) actions) { reply = reply; full = full })
  -- a packet that it was handed is marked
  marks_own : (after : Shared) (n : ℕ) (p : Packet) → find after.packets n ≡ Some p
      → 1 ≤ frame_rights states (Routine a) n → IsHandedOver states a n
      → (state_of states (next a)).duty ≡ Pending
      → Does set states a (goes_on after (next a) (Touches n ∷ Marks n ∷ []))
  -- a packet that it was handed or owns is completed
  completes_own : (after : Shared) (n : ℕ) (p : Packet) → find after.packets n ≡ Some p
      → p.completing ≡ true
      → 1 ≤ frame_rights states (Routine a) n
      → Completed states a (next a) n
      → Does set states a (leaves after (Routine (next a) ∷ Walk n ∷ [])
      (Executes ∷ Completes n ∷ []))
  -- a packet that it was handed is passed on, or one that it has is sent down in a location of its
  -- own
  passes_own : (after : Shared) (n : ℕ) (c : Activation) → BeginsServing set states c n
      → 1 ≤ frame_rights states (Routine a) n → GivesDown set states a (next a) n
      → Does set states a (leaves after (Routine (next a) ∷ Routine c ∷ [])
      (Executes ∷ Touches n ∷ []))
  calls_own : (after : Shared) (n : ℕ) (p : Packet) (c : Activation) → find after.packets n ≡ Some p
      → BeginsServing set states c n → 1 ≤ frame_rights states (Routine a) n
      → Called set states a (next a) n
      → Does set states a
      (leaves after (Routine (next a) ∷ Routine c ∷ []) (Executes ∷ Touches n ∷ Calls n ∷ []))
  -- it returns a status
  returns_own : (after : Shared) (status : Status)
      → AsDuty (state_of states a).duty (is_pending status) (state_of states a).kinds a.registers
      → Does set states a (returned after status)

-- it leaves packets alone that it has no right to
owned_apart : (states : States) (a : Activation) (m n : ℕ) → 1 ≤ frame_rights states (Routine a) m
    → frame_rights states (Routine a) n ≡ 0 → nat_eq m n ≡ false
owned_apart states a m n owned none =
    elim (eqb_tells m n) [
      | inl e ↦
          let same : frame_rights states (Routine a) m ≡ frame_rights states (Routine a) n =
          ap (λ (k : ℕ). frame_rights states (Routine a) k) e.1 in
          absurd (omega arith)
      | inr e ↦ e.0
    ]

pub does_spare : (set : Set) (states : States) (a : Activation) (o : Outcome) → Does set states a o
    → (n : ℕ)
    → frame_rights states (Routine a) n ≡ 0 → list_any (is_about n) o.actions ≡ false
does_spare set states a o (stays_quiet after b actions reply full same silent) n none =
    silent_about n actions silent
does_spare set states a o (marks_own after m p there owned over duty) n none =
    let apart : nat_eq m n ≡ false = owned_apart states a m n owned none in rw apart refl
does_spare set states a o (calls_own after m p c there begins owned gives) n none =
    let apart : nat_eq m n ≡ false = owned_apart states a m n owned none in rw apart refl
does_spare set states a o _ n none = refl

-- on a frame that is a routine's, or on none
abbrev pub OnRoutine : Option Frame → Type 0
OnRoutine None = ⊤
OnRoutine (Some (Routine b)) = ⊤
OnRoutine (Some (Walk m)) = ⊥
OnRoutine (Some (CancelFrame c)) = ⊥

-- what is agreed on is returned
returned_agreed : (set : Set) (states : States) (w : World) (past : List Entry) (v : Serving)
    (a : Activation)
    (d : Duty) (b : Bool) → AsDuty d b (state_of states a).kinds a.registers
    → Says set states w past v a None d
    → Agreed states w past v b
returned_agreed set states w past v a Fresh b duty h = absurd duty
returned_agreed set states w past v a Pending b duty h =
    subst (λ (x : Bool). Agreed states w past v x) (sym duty) h
returned_agreed set states w past v a Finished b duty h =
    subst (λ (x : Bool). Agreed states w past v x) (sym duty) h
returned_agreed set states w past v a GivenDown b duty h =
    subst (λ (x : Bool). Agreed states w past v x) (sym (duty h.pending h.lowers)) h.agreed
returned_agreed set states w past v a NoDuty b duty h = absurd duty

module _ (set : Set) (states : States) (w later_w : World) (past : List Entry) (actor : Actor)
    (number : ℕ)
    (under : Option Frame) (v : Serving) (a : Activation) where
  -- what is known when a dispatch routine takes a step
  pub record Stepping (o : Outcome) : Type 0 where
    pub on : OnRoutine under
    pub names : TagNames a.driver a.routine actor.tag
    pub tagged : served actor.tag ≡ Some v
    pub shared : later_w.shared ≡ o.shared
    pub serves_use : ServesUse set states w past v a None
    pub settles : Settles states w past later_w (recorded past actor o.actions)
    pub agree : AllAgree states w past
    pub owns : (m : ℕ) → (state_of states a).duty ≡ Fresh
        → HoldOf is_new (RefersTo m) (state_of states a).kinds a.registers
        → 1 ≤ frame_rights states (Routine a) m
    pub late : (b : Activation) (n : ℕ) → o.frames ≡ Routine b ∷ Walk n ∷ [] → (returned : Bool)
        → late_marks states returned n later_w.threads ≡ 0

  abbrev pub tags_for : Outcome → List Tag
  tags_for o = tags_after set (recorded past actor o.actions) number (Routine a ∷ [])
      (actor.tag ∷ []) o.frames

  -- the routine goes on serving its use, or a status is returned from it
  pub record ReturnsFrom (o : Outcome) : Type 0 where
    pub status : Status
    pub is : o.told ≡ Some status
    pub none : o.frames ≡ []
    pub agreed : Agreed states later_w (recorded past actor o.actions) v (is_pending status)

  pub record StepServes (o : Outcome) : Type 0 where
    pub serve : AllServe set states later_w (recorded past actor o.actions) under o.frames
        (tags_for o)
    pub goes : ((o.told ≡ None) × (first_served (tags_for o) ≡ Some v)) ⊎ ReturnsFrom o
    pub agree : AllAgree states later_w (recorded past actor o.actions)

  serve_put : (later : List Entry) (over : Option Serving) (b : Activation) → OnRoutine under
      → (b.driver ≡ a.driver) × (b.routine ≡ a.routine) → TagNames a.driver a.routine actor.tag
      → served actor.tag ≡ Some v → ServesUse set states later_w later v b over
      → FrameServes set states later_w later under over (Routine b) actor.tag
  serve_put later over b on same names tagged h = (
    rw (same.0, same.1) names,
    subst (λ (x : Option Serving). UnderServes set states later_w later under b over x) (sym tagged)
        (under_put under on),
  )
    where
      under_put : (u : Option Frame) → OnRoutine u
          → UnderServes set states later_w later u b over (Some v)
      under_put None on = inl h
      under_put (Some (Routine c)) on = h
      under_put _ on = absurd on

  silent_uses : (o : Outcome) → list_any is_telling o.actions ≡ false → (n : ℕ)
      → SameUses past (recorded past actor o.actions) n
  silent_uses o silent n = same_recorded past actor o.actions n (silent_about n o.actions silent)

  there_then : (o : Outcome) (n : ℕ) (p : Packet) → Stepping o → find o.shared.packets n ≡ Some p
      → find later_w.shared.packets n ≡ Some p
  there_then o n p h there = ap (λ (s : Shared). find s.packets n) h.shared ∙ there

  -- the routine that is asked is given its tag
  asked_serve : (later : List Entry) (b c : Activation) (lower : Serving) (tag : Tag)
      → tag ≡ Activated number c.driver c.routine (Some lower) → OnRoutine under
      → (b.driver ≡ a.driver) × (b.routine ≡ a.routine) → TagNames a.driver a.routine actor.tag
      → served actor.tag ≡ Some v → ServesUse set states later_w later v b (Some lower)
      → ServesUse set states later_w later lower c None
      → AllServe set states later_w later under (Routine b ∷ Routine c ∷ []) (actor.tag ∷ tag ∷ [])
  asked_serve later b c lower tag is on same names tagged one other =
      subst (λ (x : Tag). AllServe set states later_w later under (Routine b ∷ Routine c ∷ [])
      (actor.tag ∷ x ∷ []))
      (sym is) (
        serve_put later (Some lower) b on same names tagged one,
        (((refl, refl), other), tt),
      )

  -- of the packet of its own use
  calls_serves : (after : Shared) (p : Packet) (c : Activation)
      → find after.packets v.packet ≡ Some p
      → BeginsServing set states c v.packet
      → GivesDown set states a (next a) v.packet
      → Stepping (leaves after (Routine (next a) ∷ Routine c ∷ [])
      (Executes ∷ Touches v.packet ∷ Calls v.packet ∷ []))
      → StepServes (leaves after (Routine (next a) ∷ Routine c ∷ [])
      (Executes ∷ Touches v.packet ∷ Calls v.packet ∷ []))
  calls_serves after p c there begins gives h =
      let n : ℕ = v.packet in
      let o : Outcome =
      leaves after (Routine (next a) ∷ Routine c ∷ []) (Executes ∷ Touches n ∷ Calls n ∷ []) in
      let later : List Entry = recorded past actor o.actions in
      let lower : Serving = record { packet = n; «use» = uses_opened past } in
      let current : Current later lower false = called_current states w later_w past actor n
      h.settles in
      record {
        serve = asked_serve later (next a) c lower (new_tag set later number (Routine c))
            (new_serving set states later number c n lower begins refl current.0) h.on (refl, refl)
            h.names h.tagged
            (called_serves set states w later_w past actor v a (next a) h.serves_use h.owns p
            h.settles
            (there_then o n p h there) gives)
            (begun_serves set states later_w later lower c n begins refl current);
        goes = inl (refl, h.tagged);
        agree = agree_kept states w later_w past actor o.actions h.settles.keeps refl h.agree;
      }

  -- of a packet that it owns
  calls_other : (after : Shared) (n : ℕ) (p : Packet) (c : Activation)
      → find after.packets n ≡ Some p
      → BeginsServing set states c n → GivesOwn set states a (next a) n
      → Stepping (leaves after (Routine (next a) ∷ Routine c ∷ [])
      (Executes ∷ Touches n ∷ Calls n ∷ []))
      → StepServes (leaves after (Routine (next a) ∷ Routine c ∷ [])
      (Executes ∷ Touches n ∷ Calls n ∷ []))
  calls_other after n p c there begins gives h =
      let o : Outcome =
      leaves after (Routine (next a) ∷ Routine c ∷ []) (Executes ∷ Touches n ∷ Calls n ∷ []) in
      let later : List Entry = recorded past actor o.actions in
      let lower : Serving = record { packet = n; «use» = uses_opened past } in
      let current : Current later lower false = called_current states w later_w past actor n
      h.settles in
      record {
        serve = asked_serve later (next a) c lower (new_tag set later number (Routine c))
            (new_serving set states later number c n lower begins refl current.0) h.on (refl, refl)
            h.names h.tagged
            (own_serves set states w later_w past later v a (next a) h.serves_use h.owns lower n
            gives
            h.settles.keeps (λ apart. same_recorded past actor o.actions v.packet (rw apart refl)))
            (begun_serves set states later_w later lower c n begins refl current);
        goes = inl (refl, h.tagged);
        agree = agree_kept states w later_w past actor o.actions h.settles.keeps refl h.agree;
      }

  -- every step of a dispatch routine
  pub dispatch_serves : (o : Outcome) → Does set states a o → Stepping o → StepServes o
  dispatch_serves o (stays_quiet after b actions reply full same silent) h =
      let o : Outcome =
      record (leaves after (Routine b ∷ []) actions) { reply = reply; full = full } in
      let later : List Entry = recorded past actor actions in
      record {
        serve = (
          serve_put later None b h.on (same.driver, same.routine) h.names h.tagged
              (plain_serves set states w later_w past later v a b h.serves_use h.owns
              h.settles.keeps
              (λ fresh refers. silent_uses o silent v.packet) same),
          tt,
        );
        goes = inl (refl, h.tagged);
        agree = agree_kept states w later_w past actor actions h.settles.keeps
            (silent_returns actions silent) h.agree;
      }
  dispatch_serves o (marks_own after n p there owned over duty) h =
      let o : Outcome = goes_on after (next a) (Touches n ∷ Marks n ∷ []) in
      record {
        serve = (
          serve_put (recorded past actor o.actions) None (next a) h.on (refl, refl) h.names h.tagged
              (mark_serves set states w later_w past actor v a (next a) h.serves_use h.owns
              n p h.settles (there_then o n p h there) over duty),
          tt,
        );
        goes = inl (refl, h.tagged);
        agree = agree_kept states w later_w past actor o.actions h.settles.keeps refl h.agree;
      }
  dispatch_serves o (completes_own after n p there done owned completed) h =
      let o : Outcome = leaves after (Routine (next a) ∷ Walk n ∷ []) (Executes ∷ Completes n ∷ [])
      in
      let later : List Entry = recorded past actor o.actions in
      record {
        serve = (
          serve_put later None (next a) h.on (refl, refl) h.names h.tagged
              (done_serves set states w later_w past later v a (next a) h.serves_use h.owns n p
              h.settles (silent_uses o refl)
              (there_then o n p h there) done (h.late (next a) n refl p.pending_returned)
              completed),
          (refl, tt),
        );
        goes = inl (refl, h.tagged);
        agree = agree_kept states w later_w past actor o.actions h.settles.keeps refl h.agree;
      }
  dispatch_serves o (passes_own after n c begins owned gives) h =
      let o : Outcome = leaves after (Routine (next a) ∷ Routine c ∷ []) (Executes ∷ Touches n ∷ [])
      in
      let later : List Entry = recorded past actor o.actions in
      let both : (n ≡ v.packet) × Current later v false
      × ServesUse set states later_w later v (next a) (Some v) =
      passed_serves set states w later_w past later v a (next a) h.serves_use h.owns n
      (silent_uses o refl v.packet) gives
      in
      record {
        serve = asked_serve later (next a) c v (new_tag set later number (Routine c))
            (new_serving set states later number c n v begins both.0 both.1.0) h.on (refl, refl)
            h.names h.tagged both.2
            (begun_serves set states later_w later v c n begins both.0 both.1);
        goes = inl (refl, h.tagged);
        agree = agree_kept states w later_w past actor o.actions h.settles.keeps refl h.agree;
      }
  dispatch_serves o (calls_own after n p c there begins owned (inl gives)) h =
      let packet : n ≡ v.packet =
      (owned_current set states w later_w past past v a (next a) h.serves_use h.owns n
      gives.before).0 in
      subst (λ (m : ℕ). find after.packets m ≡ Some p → BeginsServing set states c m
      → GivesDown set states a (next a) m
      → Stepping (leaves after (Routine (next a) ∷ Routine c ∷ [])
      (Executes ∷ Touches m ∷ Calls m ∷ []))
      → StepServes (leaves after (Routine (next a) ∷ Routine c ∷ [])
      (Executes ∷ Touches m ∷ Calls m ∷ [])))
      (sym packet) (λ t b gives. calls_serves after p c t b gives) there
      begins gives h
  dispatch_serves o (calls_own after n p c there begins owned (inr gives)) h =
      calls_other after n p c there begins gives h
  dispatch_serves o (returns_own after status duty) h =
      let o : Outcome = returned after status in
      let later : List Entry = recorded past actor o.actions in
      let agreed : Agreed states later_w later v (is_pending status) =
      h.settles.keeps.agreed v (is_pending status)
      (returned_agreed set states w past v a (state_of states a).duty (is_pending status) duty
      h.serves_use.says)
      in
      record {
        serve = tt;
        goes = inr (record { status = status; is = refl; none = refl; agreed = agreed });
        agree = agree_returned states w later_w past actor v status h.tagged h.settles.keeps agreed
            h.agree;
      }
