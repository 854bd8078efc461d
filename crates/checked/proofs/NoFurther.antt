-- What a routine can't make by itself: where nothing is shared, each instruction that isn't local is
-- wrong or does something else.
use Rattle.std.proofs.Common.{◌≡◌, ◌≢◌, ◌<◌, ◌≤◌, ◌⊎◌, ◌∙◌, ℕ, zero, suc, Bool, true, false, List, [], ◌∷◌, ◌++◌, Option, None, Some, length, ap, sym, subst, refl, inl, inr, arith}
use Rattle.std.specs.Prelude.{nat_lt, slice_get}
use Rattle.std.proofs.lemmas.Bool.Decides.{leb_tells}
use Rattle.std.proofs.lemmas.Option.{slice_get_past}
use Rattle.model.specs.declared.event.Lock.TheVariants.{SystemCancel}
use Rattle.model.specs.declared.event.Place.{Place}
use Rattle.model.specs.declared.event.Reply.TheVariants.{Stepped}
use Rattle.model.specs.declared.instr.Instr.{Instr}
use Rattle.model.specs.declared.instr.Instr.TheVariants.{Const, Move, Clear, Add, Subtract, JumpIfZero, JumpIfLess, Jump, Loop, End, Load, Store, LoadPaged, StorePaged, Get, Put, Mark, Acquire, Release, AcquireCancel, ReleaseCancel, Insert, Remove, Unlink, Arm, Disarm, IfCancel, Start, Take, Begin, Next, Dequeue, Pass, Call, Complete, IfPending, Ret}
use Rattle.model.specs.declared.instr.Return.{Return}
use Rattle.model.specs.declared.instr.Return.TheVariants.{WithStatus, Lower, Continue, Stop, Void}
use Rattle.model.specs.declared.set.Sort.{Sort}
use Rattle.model.specs.declared.set.Sort.TheVariants.{Dispatch, StartIo, Dpc, Propagate, Hold, Cancel}
use Rattle.model.specs.declared.status.Status.{Status}
use Rattle.model.specs.declared.status.Status.TheVariants.{InvalidDeviceRequest}
use Rattle.model.specs.declared.world.Activation.{Activation}
use Rattle.model.specs.declared.world.Frame.{Frame}
use Rattle.model.specs.declared.world.Frame.TheVariants.{Routine}
use Rattle.model.specs.declared.world.Thread.{Thread}
use Rattle.model.specs.declared.world.Value.{Value}
use Rattle.model.specs.declared.world.Value.TheVariants.{Blank, Num, Ref, Status as StatusValue}
use Rattle.model.specs.Action.{Action, Acquires, Executes, Releases}
use Rattle.model.specs.Effect.{Outcome, continued, ended, goes_on, goes_wrong, instruction_effect, let_on, put_effect, return_effect, return_lower, returned, routine_effect, stopped, store_effect, store_paged_effect, top_of}
use Rattle.model.specs.Events.{with_thread}
use Rattle.model.specs.Set.{Set, default_number, instruction_at, routine_of, sort_of}
use Rattle.model.specs.World.{World, number_in, packet_in, register, status_in, unused}
use Rattle.checked.specs.GoingOn.{FrameGoesNoFurther, Makes, MakesAlone, RoutineGoesNoFurther, ThreadGoesNoFurther, WorldGoesNoFurther}
use Rattle.checked.proofs.GoingOn.{found_set}
use Rattle.laws_runs.proofs.Lists.{last_of}

-- no value refers to a packet there
no_packet : (v : Value) → packet_in (unused 0) v ≡ None
no_packet Blank = refl
no_packet (Num n) = refl
no_packet (Ref n) =
    elim (leb_tells (suc n) 0) [
      | inl l ↦ let low : suc n ≤ 0 = l.1 in absurd (omega arith)
      | inr l ↦ rw l.0 refl
    ]
no_packet (StatusValue status) = refl

module _ (set : Set) (a b : Activation) where
  -- an outcome there that is no routine's going on
  abbrev Other : Outcome → Type 0
  Other o = o ≡ goes_on (unused 0) b [] → ⊥

  wrong : Other (goes_wrong (unused 0) a)
  wrong h =
      let no : (goes_wrong (unused 0) a).reply ≡ Stepped = ap (λ (o : Outcome). o.reply) h in cc

  -- one whose frame is gone
  gone : (o : Outcome) → o.frames ≡ [] → Other o
  gone o none h =
      let no : [] ≡ Routine b ∷ [] = sym none ∙ ap (λ (x : Outcome). x.frames) h in cc

  -- and one whose step does something beside
  beside : (o : Outcome) (action : Action) → o.actions ≡ Executes ∷ action ∷ [] → Other o
  beside o action two h =
      let no : Executes ∷ action ∷ [] ≡ Executes ∷ [] =
      sym two ∙ ap (λ (x : Outcome). x.actions) h in cc

  stores : (c : ℕ) (n : Option ℕ) → Other (store_effect (unused 0) a c n None)
  stores c None = wrong
  stores c (Some n) = wrong

  stores_paged : (c : ℕ) (n : Option ℕ) → Other (store_paged_effect (unused 0) a c n None)
  stores_paged c None = wrong
  stores_paged c (Some n) = wrong

  puts : (info : Option ℕ) → Other (put_effect (unused 0) a info None)
  puts None = wrong
  puts (Some info) = wrong

  returns_lower : (status : Option Status) → Other (return_lower (unused 0) a status)
  returns_lower None = wrong
  returns_lower (Some status) = gone (returned (unused 0) status) refl

  returns : (sort : Sort) (form : Return) → Other (return_effect (unused 0) a None sort form)
  returns Dispatch (WithStatus status) = gone (returned (unused 0) status) refl
  returns Dispatch (Lower r) = returns_lower (status_in (register a r))
  returns Dispatch form = wrong
  returns StartIo Void = gone (ended (unused 0)) refl
  returns StartIo form = wrong
  returns Dpc Void = gone (ended (unused 0)) refl
  returns Dpc form = wrong
  returns Propagate Continue = gone (continued (unused 0) None) refl
  returns Propagate Stop = gone (stopped (unused 0) None) refl
  returns Propagate form = wrong
  returns Hold Continue = gone (let_on (unused 0) None) refl
  returns Hold Stop = gone (stopped (unused 0) None) refl
  returns Hold form = wrong
  returns Cancel Void = gone (ended (unused 0)) refl
  returns Cancel form = wrong

  completes : (r : ℕ) (status : Status)
      → Other (instruction_effect set (unused 0) 0 None a (Complete r status))
  completes r status = rw (no_packet (register a r)) wrong

  returns_here : (form : Return) → Other (instruction_effect set (unused 0) 0 None a (Ret form))
  returns_here form = returns (sort_of set a.driver a.routine) form

  module _ (i : Instr) (no_const : (r n : ℕ) → i ≢ Const r n) (no_move : (r q : ℕ) → i ≢ Move r q)
      (no_clear : (r : ℕ) → i ≢ Clear r) (no_add : (r q : ℕ) → i ≢ Add r q)
      (no_subtract : (r q : ℕ) → i ≢ Subtract r q)
      (no_zero : (r label : ℕ) → i ≢ JumpIfZero r label)
      (no_less : (r q label : ℕ) → i ≢ JumpIfLess r q label)
      (no_jump : (label : ℕ) → i ≢ Jump label) (no_loop : (turns : ℕ) → i ≢ Loop turns)
      (no_end : i ≢ End) where
    others : (j : Instr) → i ≡ j → Other (instruction_effect set (unused 0) 0 None a j)
    others (Const r n) is = absurd (no_const r n is)
    others (Move r q) is = absurd (no_move r q is)
    others (Clear r) is = absurd (no_clear r is)
    others (Add r q) is = absurd (no_add r q is)
    others (Subtract r q) is = absurd (no_subtract r q is)
    others (JumpIfZero r label) is = absurd (no_zero r label is)
    others (JumpIfLess r q label) is = absurd (no_less r q label is)
    others (Jump label) is = absurd (no_jump label is)
    others (Loop turns) is = absurd (no_loop turns is)
    others End is = absurd (no_end is)
    others (Load r c) is = wrong
    others (Store c r) is = stores c (number_in (register a r))
    others (LoadPaged r c) is = wrong
    others (StorePaged c r) is = stores_paged c (number_in (register a r))
    others (Get r q field) is = rw (no_packet (register a q)) wrong
    others (Put q r) is = rw (no_packet (register a q)) (puts (number_in (register a r)))
    others (Mark r) is = rw (no_packet (register a r)) wrong
    others (Acquire lock) is = wrong
    others (Release lock) is = wrong
    others AcquireCancel is =
        beside (instruction_effect set (unused 0) 0 None a AcquireCancel) (Acquires SystemCancel)
        refl
    others ReleaseCancel is =
        beside (instruction_effect set (unused 0) 0 None a ReleaseCancel) (Releases SystemCancel)
        refl
    others (Insert r q) is = rw (no_packet (register a r)) wrong
    others (Remove r q label) is = wrong
    others (Unlink r q) is = rw (no_packet (register a r)) wrong
    others (Arm r q) is = rw (no_packet (register a r)) wrong
    others (Disarm r label) is = rw (no_packet (register a r)) wrong
    others (IfCancel r label) is = rw (no_packet (register a r)) wrong
    others (Start r) is = rw (no_packet (register a r)) wrong
    others (Take r label) is = wrong
    others (Begin r) is = rw (no_packet (register a r)) wrong
    others Next is = wrong
    others (Dequeue r) is = rw (no_packet (register a r)) wrong
    others (Pass r) is = rw (no_packet (register a r)) wrong
    others (Call r f) is = rw (no_packet (register a r)) wrong
    others (Complete r status) is = completes r status
    others (IfPending r label) is = rw (no_packet (register a r)) wrong
    others (Ret form) is = returns_here form

    pub other_instruction : MakesAlone set i a b → ⊥
    other_instruction makes = others i refl (makes (unused 0) 0 None)

  -- and an instruction that was tried, and not made
  pub not_made : (i j : Instr) → i ≡ j → (c : Activation) (made : Bool)
      → Makes a (λ s. instruction_effect set s 0 None a j) c made → made ≡ false
      → MakesAlone set i a b → ⊥
  not_made i j is c true makes fails goes = let no : true ≡ false = fails in cc
  not_made i j is c false makes fails goes =
      let made : instruction_effect set (unused 0) 0 None a j ≡ goes_on (unused 0) b [] =
      rw is at (goes (unused 0) 0 None) in wrong (sym (makes.0 (unused 0)) ∙ made)

-- where an activation stands
module _ (until : Option Place) (set : Set) (a : Activation) where
  stays_at : (i : Option Instr) → instruction_at set a.driver a.routine a.position ≡ i
      → ((b : Activation) → routine_effect set (unused 0) 0 None a i ≡ goes_on (unused 0) b [] → ⊥)
      → RoutineGoesNoFurther until set a
  stays_at i here other b alone =
      absurd (other b
      (ap (λ (j : Option Instr). routine_effect set (unused 0) 0 None a j) (sym here)
      ∙ alone.goes (unused 0) 0 None))

  past_end : instruction_at set a.driver a.routine a.position ≡ None
      → RoutineGoesNoFurther until set a
  past_end none = stays_at None none (wrong set a)

  at_other : (i : Instr) → instruction_at set a.driver a.routine a.position ≡ Some i
      → ((b : Activation) → MakesAlone set i a b → ⊥) → RoutineGoesNoFurther until set a
  at_other i here other b alone =
      absurd (other b (λ s t under.
      ap (λ (j : Option Instr). routine_effect set s t under a j) (sym here)
      ∙ alone.goes s t under))

  -- the default routine completes its packet and returns
  in_default : (p : ℕ) → a.position ≡ p → a.routine ≡ default_number
      → RoutineGoesNoFurther until set a
  in_default zero is default =
      stays_at (Some (Complete 0 InvalidDeviceRequest)) (rw (default, is) refl)
      (λ b. completes set a b 0 InvalidDeviceRequest)
  in_default (suc zero) is default =
      stays_at (Some (Ret (WithStatus InvalidDeviceRequest))) (rw (default, is) refl)
      (λ b. returns_here set a b (WithStatus InvalidDeviceRequest))
  in_default (suc (suc p)) is default = past_end (rw (default, is) refl)

  -- where there is no code but the default routine's
  pub without_code : (a.routine ≡ default_number) ⊎ (routine_of set a.driver a.routine ≡ None)
      → RoutineGoesNoFurther until set a
  without_code (inl default) = in_default a.position refl default
  without_code (inr none) = past_end (rw none refl)

-- by its code
module _ (until : Option Place) (set : Set) (a : Activation) (code : List Instr)
    (coded : (p : ℕ) → instruction_at set a.driver a.routine p ≡ slice_get code p)
    (b : Activation) (driver : b.driver ≡ a.driver) (routine : b.routine ≡ a.routine) where
  stands : instruction_at set b.driver b.routine b.position ≡ slice_get code b.position
  stands = rw (driver, routine) (coded b.position)

  pub past_code : nat_lt b.position (length code) ≡ false → RoutineGoesNoFurther until set b
  past_code past =
      elim (leb_tells (suc b.position) (length code)) [
        | inl l ↦ let no : true ≡ false = sym l.0 ∙ past in cc
        | inr l ↦
            let low : length code < suc b.position = l.1 in
            past_end until set b (stands ∙ slice_get_past code b.position (omega arith))
      ]

  pub before_other : (i : Instr) → slice_get code b.position ≡ Some i
      → ((c : Activation) → MakesAlone set i b c → ⊥) → RoutineGoesNoFurther until set b
  before_other i here other = at_other until set b i (stands ∙ here) other

-- a frame of a routine
pub frame_far : (until : Option Place) (set : Set) (a : Activation)
    → RoutineGoesNoFurther until set a → FrameGoesNoFurther until set (Routine a)
frame_far until set a far b is =
    let same : a ≡ b = cc in
    subst (λ (c : Activation). RoutineGoesNoFurther until set c) same far

-- a thread with a frame on top
pub thread_far : (until : Option Place) (set : Set) (x : Thread) (below : List Frame) (f : Frame)
    → x.frames.items ≡ below ++ f ∷ [] → FrameGoesNoFurther until set f
    → ThreadGoesNoFurther until set x
thread_far until set x below f is far under a stack =
    let on_top : Some f ≡ Some (Routine a) =
    sym (last_of below f) ∙ ap top_of (sym is ∙ stack) ∙ last_of under (Routine a) in
    let same : f ≡ Routine a = cc in far a same

-- a world with the thread
pub world_far : (until : Option Place) (set : Set) (w : World) (t : ℕ) (x y : Thread)
    → slice_get w.threads t ≡ Some x → ThreadGoesNoFurther until set y
    → WorldGoesNoFurther until set (with_thread w t w.shared y) t
world_far until set w t x y found far v step =
    let there : Some y ≡ Some step.thread = sym (found_set w.threads t x y found) ∙ step.there in
    let same : y ≡ step.thread = cc in
    far step.below step.before (ap (λ (z : Thread). z.frames.items) same ∙ step.stack) step.now
    step.alone
