-- Words that mean the world of one run mean that of each that they show: in both a register from
-- which something may be taken is of the kind that the verifier gives it.
use Rattle.std.proofs.Common.{◌≡◌, ◌≢◌, ◌+◌, ◌-◌, ℕ, zero, suc, false, List, [], ◌∷◌, Option, None, Some, map, arith, refl, sym, ◌∙◌, ap, subst}
use Rattle.std.specs.Prelude.{⊤, slice_get, slice_index_or}
use Rattle.model.specs.declared.abs.Kind.{Kind}
use Rattle.model.specs.declared.abs.Kind.TheVariants.{Blank as BlankKind, Num as NumKind, Lower, New, Own, Queued, View}
use Rattle.model.specs.declared.event.Event.{Event}
use Rattle.model.specs.declared.status.Status.{Status}
use Rattle.model.specs.declared.world.Activation.{Activation}
use Rattle.model.specs.declared.world.Frame.{Frame}
use Rattle.model.specs.declared.world.Frame.TheVariants.{Routine, Walk, Cancel as CancelFrame}
use Rattle.model.specs.declared.world.Thread.{Thread}
use Rattle.model.specs.declared.world.Value.{Value}
use Rattle.model.specs.declared.world.Value.TheVariants.{Num, Ref, Status as StatusValue}
use Rattle.model.specs.Effect.{operand_of}
use Rattle.model.specs.Kinds.{is_blank}
use Rattle.model.specs.LocalRule.{kind_of}
use Rattle.model.specs.Paths.{Arrives}
use Rattle.model.specs.Run.{frames_on, run}
use Rattle.model.specs.Set.{Set, instruction_at, member}
use Rattle.model.specs.Shown.{MayBeTaken, Reads, ShowsFrame, ShowsFrames, ShowsRoutine, ShowsThreads, blank_register, told_register, whole_frame, whole_register, whole_thread}
use Rattle.model.specs.World.{Shared, World, register}
use Rattle.laws_runs.proofs.Runs.Threads.{frames_there}
use Rattle.laws_runs.specs.KindsAgree.{IsOfKind, NamesLive, RegistersAreOfTheirKinds}
use Rattle.laws_slots.specs.Rep.{meant_frame, meant_thread, meant_value}
use Rattle.laws_slots.specs.Slots.{SlotCancel, SlotFrame, SlotRoutine, SlotThread, SlotWalk}
use Rattle.laws_slots.specs.declared.activation.WordActivation.{WordActivation}
use Rattle.laws_slots.specs.Reads.{Paired, ReadsFrame, ReadsThread, ReadsValue, in_words}
use Rattle.laws_slots.specs.ShownWords.{shown_frame, shown_routine, shown_thread, shown_word}
use Rattle.laws_slots.specs.Words.{WordCancel, WordFrame, WordRoutine, WordThread, WordWalk, coded_status}
use Rattle.laws_slots.proofs.Operands.{coded}

module _ (name : ℕ → ℕ) where
  -- a value that may be read as a number in one run, of which the word is read as one in another
  abbrev Whole : Value → Value → Type 0
  Whole v to = Reads (whole_register (meant_value name v)) to

  num_other : (v : Value) (n : ℕ) → ReadsValue v n → (a b : ℕ) → Whole v (Num a)
      → Reads (shown_word name n) (Num b) → Whole v (Num b)
  num_other (Num m) n is a b h g = ap (λ (i : ℕ). Some i) (sym is) ∙ g
  num_other _ n is a b h g = cc

  ref_other : (v : Value) (n : ℕ) → ReadsValue v n → (a b : ℕ) → Whole v (Ref a)
      → Reads (shown_word name n) (Ref b) → Whole v (Ref b)
  ref_other (Ref k) n is a b h g = ap (λ (i : ℕ). Some (name i)) (sym is) ∙ g
  ref_other _ n is a b h g = cc

  status_other : (v : Value) (n : ℕ) → ReadsValue v n → (a b : Status)
      → Whole v (StatusValue a) → Reads (shown_word name n) (StatusValue b)
      → Whole v (StatusValue b)
  status_other (StatusValue s) n is a b h g = sym (ap coded_status is ∙ coded s) ∙ g
  status_other _ n is a b h g = cc

  module _ (one two : Value) (v : Value) (n : ℕ) (is : ReadsValue v n) (h : Whole v one)
      (g : Reads (shown_word name n) two) where
    lives_other : (r s : Shared) → NamesLive r one → NamesLive s two → Whole v two
    lives_other r s first second =
        subst (Whole v) (sym second.1)
        (ref_other v n is first.0 second.0 (subst (Whole v) first.1 h)
        (subst (Reads (shown_word name n)) second.1 g))

    kinds_other : (r s : Shared) (k : Kind) → is_blank k ≡ false → IsOfKind r k one
        → IsOfKind s k two → Whole v two
    kinds_other r s BlankKind some first second = cc
    kinds_other r s NumKind some first second =
        subst (Whole v) (sym second.1)
        (num_other v n is first.0 second.0 (subst (Whole v) first.1 h)
        (subst (Reads (shown_word name n)) second.1 g))
    kinds_other r s Lower some first second =
        subst (Whole v) (sym second.1)
        (status_other v n is first.0 second.0 (subst (Whole v) first.1 h)
        (subst (Reads (shown_word name n)) second.1 g))
    kinds_other r s New some first second = lives_other r s first second
    kinds_other r s Own some first second = lives_other r s first second
    kinds_other r s (Queued q stage) some first second = lives_other r s first second
    kinds_other r s View some first second = lives_other r s first second

  -- a register that is there or not
  registers_other : (values : List Value) (words : List ℕ) → Paired ReadsValue values words
      → (i : ℕ) (one two : Value) (r s : Shared) (k : Kind) → is_blank k ≡ false
      → IsOfKind r k one → IsOfKind s k two
      → Reads (slice_index_or (map whole_register (map (meant_value name) values)) i blank_register)
      one
      → Reads (slice_index_or (map (shown_word name) words) i blank_register) two
      → Reads (slice_index_or (map whole_register (map (meant_value name) values)) i blank_register)
      two
  registers_other [] [] h i one two r s k some first second reads other = other
  registers_other (v ∷ values) (n ∷ words) h zero one two r s k some first second reads other =
      kinds_other one two v n h.0 reads other r s k some first second
  registers_other (v ∷ values) (n ∷ words) h (suc i) one two r s k some first second reads other =
      registers_other values words h.1 i one two r s k some first second reads other
  registers_other _ _ h i one two r s k some first second reads other = absurd h

  module _ (set : Set) (r s : Shared) where
    -- the registers of a frame under another, and of all frames of a stack, are of their kinds
    abbrev KindsOf : Shared → Option Frame → Frame → Type 0
    KindsOf u above f =
        (a : Activation) (i : ℕ) → f ≡ Routine a → (may : MayBeTaken set above a i)
        → IsOfKind u (kind_of may.state i) (register a i)

    abbrev pub KindsIn : Shared → List Frame → Type 0
    KindsIn u frames =
        (k : ℕ) (a : Activation) (i : ℕ) → slice_get frames k ≡ Some (Routine a)
        → (may : MayBeTaken set (slice_get frames (suc k)) a i)
        → IsOfKind u (kind_of may.state i) (register a i)

    abbrev pub KindsOn : Shared → List Thread → Type 0
    KindsOn u threads =
        (t : ℕ) (x : Thread) → slice_get threads t ≡ Some x → KindsIn u x.frames.items

    -- frames of the same sort
    abbrev SameTop : Option Frame → Option Frame → Type 0
    SameTop None None = ⊤
    SameTop (Some (Routine a)) (Some (Routine c)) = ⊤
    SameTop (Some (Walk m)) (Some (Walk n)) = ⊤
    SameTop (Some (CancelFrame a)) (Some (CancelFrame c)) = ⊤
    SameTop _ _ = ⊥

    module _ (above over : Option Frame) (a c : Activation) (driver : a.driver ≡ c.driver)
        (routine : a.routine ≡ c.routine) (position : a.position ≡ c.position) where
      told_same : SameTop above over → told_register set above a ≡ told_register set over c
      told_same top = told_by above over top
        where
          told_by : (o p : Option Frame) → SameTop o p
              → told_register set o a ≡ told_register set p c
          told_by None None top = refl
          told_by (Some (Routine x)) (Some (Routine y)) top =
              λ i. operand_of (instruction_at set (driver i) (routine i) (position i - 1))
          told_by (Some (Walk m)) (Some (Walk n)) top = refl
          told_by (Some (CancelFrame x)) (Some (CancelFrame y)) top = refl
          told_by _ _ top = absurd top

      -- what may be taken in one run may be taken in the other
      abbrev taken_too : SameTop above over → (i : ℕ) → MayBeTaken set over c i
          → MayBeTaken set above a i
      taken_too top i may =
          record {
            routine = may.routine;
            state = may.state;
            is_of = rw (driver, routine) may.is_of;
            arrives =
                subst (λ (q : ℕ). Arrives (member set a.driver a.routine may.routine) q may.state)
                (sym position)
                (subst (λ (n : ℕ).
                Arrives (member set a.driver n may.routine) c.position may.state) (sym routine)
                (subst (λ (n : ℕ).
                Arrives (member set n c.routine may.routine) c.position may.state) (sym driver)
                may.arrives));
            kind = may.kind;
            untold = subst (λ (q : Option ℕ). q ≢ Some i) (sym (told_same top)) may.untold;
          }

    abbrev WholeFrame : Shared → Option Frame → SlotFrame → Frame → Type 0
    WholeFrame u above f c = ShowsFrame set u above (whole_frame (meant_frame name f)) c

    routine_other : (above over : Option Frame) (b : Activation) (words : List ℕ)
        (a c : Activation) → Paired ReadsValue b.registers words → SameTop above over
        → KindsOf r above (Routine a) → KindsOf s over (Routine c)
        → WholeFrame r above (SlotRoutine b) (Routine a)
        → ShowsRoutine set over (shown_routine name (in_words b words)) c
        → WholeFrame s over (SlotRoutine b) (Routine c)
    routine_other above over b words a c h top first second shows other =
        let driver : a.driver ≡ c.driver = sym shows.driver ∙ other.driver in
        let routine : a.routine ≡ c.routine = sym shows.routine ∙ other.routine in
        let position : a.position ≡ c.position = sym shows.position ∙ other.position in
        record {
          driver = other.driver;
          routine = other.routine;
          device = other.device;
          position = other.position;
          loops = other.loops;
          registers = λ i may.
              registers_other b.registers words h i (register a i) (register c i) r s
              (kind_of may.state i) may.kind
              (first a i refl (taken_too above over a c driver routine position top i may))
              (second c i refl may)
              (shows.registers i (taken_too above over a c driver routine position top i may))
              (other.registers i may);
        }

    frame_other : (above over : Option Frame) (f : SlotFrame) (x : WordFrame) (c d : Frame)
        → ReadsFrame f x → SameTop above over → KindsOf r above c → KindsOf s over d
        → WholeFrame r above f c → ShowsFrame set s over (shown_frame name x) d
        → WholeFrame s over f d
    frame_other above over (SlotRoutine b) (WordRoutine x) (Routine a) (Routine c) h top first
        second shows other =
        routine_other above over b x.registers a c h.registers top first second shows
        (subst (λ (y : WordActivation). ShowsRoutine set over (shown_routine name y) c) h.rest
        other)
    frame_other above over (SlotWalk k) (WordWalk j) (Walk m) (Walk n) h top first second shows
        other =
        λ live. ap name (sym h) ∙ other live
    frame_other above over (SlotCancel k n step) (WordCancel j m again) (CancelFrame c)
        (CancelFrame d) h top first second shows other =
        (λ i. record { packet = sym h.number i; next = sym h.next i }) ∙ other
    frame_other above over (SlotRoutine b) (WordRoutine x) (Routine a) _ h top first second shows
        other =
        absurd other
    frame_other above over (SlotWalk k) (WordWalk j) (Walk m) _ h top first second shows other =
        absurd other
    frame_other above over (SlotCancel k n step) (WordCancel j m again) (CancelFrame c) _ h top
        first second shows other =
        absurd other
    frame_other above over (SlotRoutine b) (WordRoutine x) _ d h top first second shows other =
        absurd shows
    frame_other above over (SlotWalk k) (WordWalk j) _ d h top first second shows other =
        absurd shows
    frame_other above over (SlotCancel k n step) (WordCancel j m again) _ d h top first second
        shows other =
        absurd shows
    frame_other above over _ _ c d h top first second shows other = absurd h

    sort_same : (above over : Option Frame) (f : SlotFrame) (x : WordFrame) (c d : Frame)
        → ReadsFrame f x → WholeFrame r above f c → ShowsFrame set s over (shown_frame name x) d
        → SameTop (Some c) (Some d)
    sort_same above over (SlotRoutine b) (WordRoutine x) (Routine a) (Routine c) h shows other = tt
    sort_same above over (SlotWalk k) (WordWalk j) (Walk m) (Walk n) h shows other = tt
    sort_same above over (SlotCancel k n step) (WordCancel j m again) (CancelFrame c)
        (CancelFrame d) h shows other =
        tt
    sort_same above over (SlotRoutine b) (WordRoutine x) (Routine a) _ h shows other =
        absurd other
    sort_same above over (SlotWalk k) (WordWalk j) (Walk m) _ h shows other = absurd other
    sort_same above over (SlotCancel k n step) (WordCancel j m again) (CancelFrame c) _ h shows
        other =
        absurd other
    sort_same above over (SlotRoutine b) (WordRoutine x) _ d h shows other = absurd shows
    sort_same above over (SlotWalk k) (WordWalk j) _ d h shows other = absurd shows
    sort_same above over (SlotCancel k n step) (WordCancel j m again) _ d h shows other =
        absurd shows
    sort_same above over _ _ c d h shows other = absurd h

    tops_same : (frames : List SlotFrame) (others : List WordFrame) (cs ds : List Frame)
        → Paired ReadsFrame frames others
        → ShowsFrames set r (map whole_frame (map (meant_frame name) frames)) cs
        → ShowsFrames set s (map (shown_frame name) others) ds
        → SameTop (slice_get cs 0) (slice_get ds 0)
    tops_same [] [] [] [] h shows other = tt
    tops_same (f ∷ frames) (x ∷ others) (c ∷ cs) (d ∷ ds) h shows other =
        sort_same (slice_get cs 0) (slice_get ds 0) f x c d h.0 shows.0 other.0
    tops_same [] [] (c ∷ cs) ds h shows other = absurd shows
    tops_same [] [] [] (d ∷ ds) h shows other = absurd other
    tops_same (f ∷ frames) (x ∷ others) [] ds h shows other = absurd shows
    tops_same (f ∷ frames) (x ∷ others) (c ∷ cs) [] h shows other = absurd other
    tops_same _ _ cs ds h shows other = absurd h

    frames_other : (frames : List SlotFrame) (others : List WordFrame) (cs ds : List Frame)
        → Paired ReadsFrame frames others → KindsIn r cs → KindsIn s ds
        → ShowsFrames set r (map whole_frame (map (meant_frame name) frames)) cs
        → ShowsFrames set s (map (shown_frame name) others) ds
        → ShowsFrames set s (map whole_frame (map (meant_frame name) frames)) ds
    frames_other [] [] cs ds h first second shows other = other
    frames_other (f ∷ frames) (x ∷ others) (c ∷ cs) (d ∷ ds) h first second shows other = (
      frame_other (slice_get cs 0) (slice_get ds 0) f x c d h.0
          (tops_same frames others cs ds h.1 shows.1 other.1)
          (λ a i is may. first 0 a i (ap (λ (e : Frame). Some e) is) may)
          (λ a i is may. second 0 a i (ap (λ (e : Frame). Some e) is) may) shows.0 other.0,
      frames_other frames others cs ds h.1 (λ k. first (suc k)) (λ k. second (suc k)) shows.1
          other.1,
    )
    frames_other (f ∷ frames) (x ∷ others) [] ds h first second shows other = absurd shows
    frames_other (f ∷ frames) (x ∷ others) (c ∷ cs) [] h first second shows other = absurd other
    frames_other _ _ cs ds h first second shows other = absurd h

    pub threads_other : (threads : List SlotThread) (others : List WordThread)
        (xs ys : List Thread) → Paired ReadsThread threads others → KindsOn r xs → KindsOn s ys
        → ShowsThreads set r (map whole_thread (map (meant_thread name) threads)) xs
        → ShowsThreads set s (map (shown_thread name) others) ys
        → ShowsThreads set s (map whole_thread (map (meant_thread name) threads)) ys
    threads_other [] [] xs ys h first second shows other = other
    threads_other (b ∷ threads) (w ∷ others) (x ∷ xs) (y ∷ ys) h first second shows other = (
      (
        sym h.0.root ∙ other.0.0,
        frames_other b.frames w.frames x.frames.items y.frames.items h.0.frames (first 0 x refl)
            (second 0 y refl) shows.0.1 other.0.1,
      ),
      threads_other threads others xs ys h.1 (λ t. first (suc t)) (λ t. second (suc t)) shows.1
          other.1,
    )
    threads_other (b ∷ threads) (w ∷ others) [] ys h first second shows other = absurd shows
    threads_other (b ∷ threads) (w ∷ others) (x ∷ xs) [] h first second shows other =
        absurd other
    threads_other _ _ xs ys h first second shows other = absurd h

-- the registers of a run's frames are of their kinds
module _ (set : Set) (threads : ℕ) (events : List Event)
    (law : RegistersAreOfTheirKinds set threads events) where
  abbrev w : World
  w = (run set threads events).world

  kinds_in : (name : ℕ → ℕ) (t : ℕ) → KindsIn name set w.shared w.shared w.shared (frames_on w t)
  kinds_in name t k a i there may =
      let next : k + 1 ≡ suc k = omega arith in
      subst (λ (n : ℕ). (m : MayBeTaken set (slice_get (frames_on w t) n) a i)
      → IsOfKind w.shared (kind_of m.state i) (register a i)) next (law.each t k a i there) may

  pub kinds_on : (name : ℕ → ℕ) → KindsOn name set w.shared w.shared w.shared w.threads
  kinds_on name t x found =
      subst (λ (frames : List Frame). KindsIn name set w.shared w.shared w.shared frames)
      (frames_there w t x found) (kinds_in name t)
