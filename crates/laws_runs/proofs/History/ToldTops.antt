-- The replies of a run tell which packets have topped out: a packet that was issued is live exactly
-- while no reply tells that it topped out.
use Rattle.laws_runs.proofs.Common.{ap, arith, inl, inr, refl, subst, sym, zero, ◌∙◌, cond_both, eqb_tells, Bool, List, None, Option, Some, [], false, if◌then◌else◌, is_none, is_some, nat_lt, slice_get, suc, true, ℕ, ◌&&◌, ◌+◌, ◌<◌, ◌||◌, ◌∷◌, ◌≡◌, ◌≤◌, Outcome, set_by, top_of, Change, can_issue, effect, finished_or, is_idle, issue_on, issued, settled, standing, unchanged, with_new_packet, replies_of, request_started, top_out_of, Answered, Run, begun, refused, run, run_from, step, Set, Shared, World, cancelled, completed, left_location, mark_current, moved_up, new_packet, packet_of, sent_down, shared_with, with_armer, with_info, with_packet, without_packet, Event, Issue, Reply, Idle, Refused, Started, Stepped, Topped, Device, Major, Status, CancelStep, Frame, Packet, Thread, Cancels, Comes, calls_cancel, calls_down, cancels, carries_up, completes_packet, exchanges, finds_empty, finds_none, lends_to, marks_packet, passes_down, resumes_walk, sets_flag, tops_out, walks_to, walks_up, works_on_waiting, writes_info, and_false}
use Rattle.model.specs.declared.event.Reply.TheVariants.{Finished}
use Rattle.model.specs.declared.history.Entry.{Entry}
use Rattle.model.specs.declared.history.TopOut.{TopOut}
use Rattle.model.specs.History.{events_of, or_else, replies_from, started_by, top_out_in}
use Rattle.laws_runs.specs.ToldTops.{TopOutsAreTold}
use Rattle.laws_runs.proofs.Past.LivePackets.{Rises, find, find_place, find_push, find_remove, find_set, rises_push, rises_remove, rises_set}
use Rattle.laws_runs.proofs.Past.Packets.{absent, found, found_lt, lt_false, lt_more, lt_true, numbered}
use Rattle.laws_runs.proofs.Runs.Events.{Answers, Concerns, Happens, Sets, a_thread, begins, concerns, goes_on_with, answers, no_thread, nothing, queues, says_nothing, sets_nothing, set_in, steps, answers_none}
use Rattle.laws_runs.proofs.Runs.Roots.{Root, Beside, issues}

-- what becomes of the live packets, of as many as were issued, where some top out: numbers still
-- rise, none is taken back, and absent are those that were and those that top out
pub record LiveAfter (packets : List Packet) (low : ℕ) (tops : ℕ → Bool) (after : List Packet)
    (high : ℕ) : Type 0 where
  pub rises : Rises 0 after high
  pub more : low ≤ high
  pub gone : (n : ℕ) → absent after high n ≡ (tops n || absent packets low n)

-- which packets a reply tells of that they topped out, and which the replies of a run
abbrev pub tops_in : Reply → ℕ → Bool
tops_in reply n = is_some (top_out_in reply n)

abbrev pub tops_among : List Reply → ℕ → Bool
tops_among replies n = is_some (top_out_of replies n)

-- a reply tells what became of the live packets
abbrev pub TellsTops : Shared → Shared → Reply → Type 0
TellsTops before after reply =
    LiveAfter before.packets before.issued (tops_in reply) after.packets after.issued

-- what the first reply and the rest of them tell is what they tell together
both_tell : (first rest : Option TopOut) (before : Bool)
    → (is_some rest || (is_some first || before)) ≡ (is_some (or_else first rest) || before)
both_tell None rest before = refl
both_tell (Some top) None before = refl
both_tell (Some top) (Some other) before = refl

module _ (s : Shared) (rises : Rises 0 s.packets s.issued) where
  -- nothing becomes of the live packets
  same : LiveAfter s.packets s.issued (λ n. false) s.packets s.issued
  same = record { rises = rises; more = omega arith; gone = λ n. refl }

  -- a packet is written
  live_set : (n : ℕ) (p q : Packet) → packet_of s n ≡ Some p → q.number ≡ p.number
      → TellsTops s (with_packet s n q) Stepped
  live_set n p q there number =
      let here : find s.packets n ≡ Some p = found s n (Some p) there in
      let its : q.number ≡ n = number ∙ numbered s n p there in
      record {
        rises = rises_set 0 s.packets s.issued n p q here its rises;
        more = omega arith;
        gone = λ m. rw (find_set s.packets n p q here its m) (elim (eqb_tells n m) [
          | inl one ↦
              let live : find s.packets m ≡ Some p =
              subst (λ (k : ℕ). find s.packets k ≡ Some p) one.1 here in
              rw (one.0, live) refl
          | inr other ↦ rw other.0 refl
        ]);
      }

  -- a packet tops out
  live_top : (n : ℕ) (p : Packet) (status : Status) (info : ℕ) → packet_of s n ≡ Some p
      → TellsTops s (without_packet s n) (Topped n status info)
  live_top n p status info there =
      let low : n < s.issued = found_lt s n p rises (found s n (Some p) there) in
      record {
        rises = rises_remove 0 s.packets s.issued n rises;
        more = omega arith;
        gone = λ m. rw (find_remove 0 s.packets s.issued n rises m) (elim (eqb_tells n m) [
          | inl one ↦
              let within : nat_lt m s.issued ≡ true =
              subst (λ (k : ℕ). nat_lt k s.issued ≡ true) one.1 (lt_true n s.issued low) in
              rw (one.0, within) refl
          | inr other ↦ rw other.0 refl
        ]);
      }

  -- a packet is issued
  live_issued : (d : ℕ) (device : Device) (major : Major) (argument : ℕ)
      → TellsTops s (with_new_packet s d device major argument) (Started s.issued)
  live_issued d device major argument =
      let p : Packet = new_packet s.issued d major argument device.stack in
      record {
        rises = rises_push 0 s.packets s.issued p rises refl;
        more = omega arith;
        gone = λ m. rw (find_push 0 s.packets s.issued p rises refl m)
            (elim (eqb_tells s.issued m) [
              | inl one ↦
                  let last : nat_lt m s.issued ≡ false =
                  subst (λ (k : ℕ). nat_lt k s.issued ≡ false) one.1
                  (lt_false s.issued s.issued (omega arith)) in
                  rw (one.0, and_false (nat_lt m (s.issued + 1)), last) refl
              | inr other ↦ rw (other.0, lt_more m s.issued other.1) refl
            ]);
      }

-- a step of a thread's top frame
module _ (set : Set) (s : Shared) (t : ℕ) (rises : Rises 0 s.packets s.issued) where
  -- of IoCancelIrp
  cancel_tells : (n : ℕ) (stage : CancelStep) (o : Outcome) → Cancels set s t n stage o
      → TellsTops s o.shared o.reply
  cancel_tells n stage o (sets_flag p there) = live_set s rises n p (cancelled p) there refl
  cancel_tells n stage o (finds_empty p there word) =
      live_set s rises n p (with_armer p None) there refl
  cancel_tells n stage o (finds_none p armer there word named_none) =
      live_set s rises n p (with_armer p None) there refl
  cancel_tells n stage o (calls_cancel p armer routine there word named_it) =
      live_set s rises n p (with_armer p None) there refl
  cancel_tells n stage o _ = same s rises

  -- of any frame
  frame_tells : (under : Option Frame) (f : Frame) (o : Outcome) → Comes set s t under f o
      → TellsTops s o.shared o.reply
  frame_tells under f o (writes_info a q r n p info at reads there number) =
      live_set s rises n p (with_info p info) there refl
  frame_tells under f o (marks_packet a r n p at reads there) =
      live_set s rises n p (mark_current p) there refl
  frame_tells under f o (exchanges a i b jumped r n p armer at work goes is reads there how) =
      live_set s rises n p (with_armer p armer) there refl
  frame_tells under f o (completes_packet a r status n p at reads there) =
      live_set s rises n p (completed p status) there refl
  frame_tells under f o (passes_down a r n p lower at reads there down) =
      live_set s rises n p (shared_with p lower) there refl
  frame_tells under f o (calls_down a r g n p lower at reads there down) =
      live_set s rises n p (sent_down p lower (set_by a g)) there refl
  frame_tells under f o (works_on_waiting a i starts n p armer full at there waits) =
      live_set s rises n p (with_armer p armer) there refl
  frame_tells under f o (resumes_walk a n p at sort there) =
      live_set s rises n p (record p { completing = true }) there refl
  frame_tells under f o (walks_to n p c there with lends) =
      live_set s rises n p (moved_up (left_location p)) there refl
  frame_tells under f o (lends_to n p c there with lends) =
      live_set s rises n p (record (moved_up (left_location p)) { completing = false }) there refl
  frame_tells under f o (walks_up n p there without deep unmarked) =
      live_set s rises n p (moved_up (left_location p)) there refl
  frame_tells under f o (carries_up n p there without deep marked) =
      live_set s rises n p (mark_current (moved_up (left_location p))) there refl
  frame_tells under f o (tops_out n p there without first) =
      live_top s rises n p p.status p.info there
  frame_tells under f o (cancels n stage made moves) = cancel_tells n stage made moves
  frame_tells under f o _ = same s rises

-- that a thread is left without frames says nothing of packets
finished_tops : (frames : List Frame) (reply : Reply) (n : ℕ)
    → tops_in (finished_or frames reply) n ≡ tops_in reply n
finished_tops [] Stepped n = refl
finished_tops [] _ n = refl
finished_tops (f ∷ frames) reply n = refl

-- an event
module _ (set : Set) (w : World) (rises : Rises 0 w.shared.packets w.shared.issued) where
  -- its reply tells what became of the live packets
  abbrev TellsOf : Change → Type 0
  TellsOf c = TellsTops w.shared c.world.shared c.reply

  -- a step of a thread's top frame, over the frames below it
  settled_tells : (t : ℕ) (thread : Thread) (below : List Frame) (o : Outcome)
      → TellsTops w.shared o.shared o.reply → TellsOf (settled set w t thread below o)
  settled_tells t thread below o tells =
      record {
        rises = tells.rises;
        more = tells.more;
        gone = λ n. rw (finished_tops (standing set below o) o.reply n) (tells.gone n);
      }

  -- nothing happens
  nothing_tells : (reply : Reply) → says_nothing reply ≡ true → TellsOf (unchanged w reply)
  nothing_tells Finished right = same w.shared rises
  nothing_tells Idle right = same w.shared rises
  nothing_tells Refused right = same w.shared rises
  nothing_tells _ right = cc

  -- a root begins
  root_tells : (root : Root) → Beside set w.shared root → TellsTops w.shared root.shared root.reply
  root_tells root (issues h) = live_issued w.shared rises h.d h.device h.major h.argument
  root_tells root _ = same w.shared rises

  -- any event
  happens_tells : (t : ℕ) (c : Change) → Happens set w t c → TellsOf c
  happens_tells t c (nothing reply right) = nothing_tells reply right
  happens_tells t c (steps h) =
      settled_tells t h.thread h.below h.outcome
      (frame_tells set w.shared t rises (top_of h.below) h.frame h.outcome h.comes)
  happens_tells t c (begins i root beside) = root_tells root beside

  sets_tells : (c : Change) → Sets set w c → TellsOf c
  sets_tells c (sets_nothing reply right) = nothing_tells reply right
  sets_tells c (queues d) = same w.shared rises

-- the numbers of a run's live packets rise, and are below those of packets to come
abbrev pub RunRises : Run → Type 0
RunRises r = Rises 0 r.world.shared.packets r.world.shared.issued

-- a run's answer
module _ (set : Set) (r : Run) (rises : RunRises r) where
  -- it tells what became of the live packets
  abbrev Answer : Answered → Type 0
  Answer a = TellsTops r.world.shared a.run.world.shared a.reply

  -- to an event on a thread
  answered_tells : (t : ℕ) (c : Change) (a : Answered)
      → TellsTops r.world.shared c.world.shared c.reply → Answers set r t c a → Answer a
  answered_tells t c a tells (goes_on_with on quiet within) = tells
  answered_tells t c a tells _ = same r.world.shared rises

  -- to one about no thread
  set_tells : (c : Change) (stopped : Bool) → TellsTops r.world.shared c.world.shared c.reply
      → Answer (if stopped then refused r else set_in r c)
  set_tells c true tells = same r.world.shared rises
  set_tells c false tells = tells

  -- to any event
  concerned_tells : (e : Event) → Concerns set r.world e → Answer (step set r e)
  concerned_tells e (a_thread t is happens) =
      answered_tells t (effect set r.world e) (step set r e)
      (happens_tells set r.world rises t (effect set r.world e) happens) (answers set r t e is)
  concerned_tells e (no_thread is sets) =
      subst Answer (sym (answers_none set r e is))
      (set_tells (effect set r.world e) r.stopped
      (sets_tells set r.world rises (effect set r.world e) sets))

  pub step_tells : (e : Event) → Answer (step set r e)
  step_tells e = concerned_tells e (concerns set r.world e)

module _ (set : Set) where
  -- the replies of a run from another one on tell what became of its live packets
  pub run_tells : (r : Run) (events : List Event) → RunRises r
      → LiveAfter r.world.shared.packets r.world.shared.issued
      (tops_among (replies_from set r events))
      (run_from set r events).world.shared.packets (run_from set r events).world.shared.issued
  run_tells r [] rises = same r.world.shared rises
  run_tells r (e ∷ events) rises =
      let first : TellsTops r.world.shared (step set r e).run.world.shared (step set r e).reply =
      step_tells set r rises e in
      let next : Run = (step set r e).run in
      let rest : LiveAfter next.world.shared.packets next.world.shared.issued
      (tops_among (replies_from set next events))
      (run_from set next events).world.shared.packets
      (run_from set next events).world.shared.issued =
      run_tells next events first.rises in
      let low : r.world.shared.issued ≤ next.world.shared.issued = first.more in
      let high : next.world.shared.issued ≤ (run_from set next events).world.shared.issued =
      rest.more in
      record {
        rises = rest.rises;
        more = omega arith;
        gone = λ n.
            rest.gone n
            ∙ ap (λ (before : Bool). tops_among (replies_from set next events) n || before)
            (first.gone n)
            ∙ both_tell (top_out_in (step set r e).reply n)
            (top_out_of (replies_from set next events) n)
            (absent r.world.shared.packets r.world.shared.issued n);
      }

  -- a packet that a request starts is issued
  module _ (r : Run) (t d : ℕ) (major : Major) (argument n : ℕ) where
    -- where a reply says that this request started it, it was issued
    abbrev IssuedBy : World → Reply → Type 0
    IssuedBy w reply = started_by (Issue t d major argument) reply ≡ Some n → n < w.shared.issued

    -- by the event
    issue_issued : (o : Option Thread) (device : Option Device)
        → IssuedBy (issue_on set r.world t d major argument o device).world
        (issue_on set r.world t d major argument o device).reply
    issue_issued (Some thread) (Some device) =
        cond_both (is_idle thread && can_issue r.world.shared)
        (issued set r.world t d thread device major argument) (unchanged r.world Refused)
        (λ (c : Change). IssuedBy c.world c.reply)
        (λ may starts. (let one : r.world.shared.issued ≡ n = cc in omega arith))
        (λ may_not starts. cc)
    issue_issued _ _ = λ starts. cc

    -- by what a run answers to it
    answered_issued : (c : Change) (a : Answered) → IssuedBy c.world c.reply
        → Answers set r t c a → IssuedBy a.run.world a.reply
    answered_issued c a by (goes_on_with on quiet within) = by
    answered_issued c a by _ = λ starts. cc

  -- by an event of a run
  event_issued : (r : Run) (e : Event) (n : ℕ) → started_by e (step set r e).reply ≡ Some n
      → n < (step set r e).run.world.shared.issued
  event_issued r (Issue t d major argument) n starts =
      answered_issued r t d major argument n
      (effect set r.world (Issue t d major argument)) (step set r (Issue t d major argument))
      (issue_issued r t d major argument n (slice_get r.world.threads t)
      (slice_get set.devices d))
      (answers set r t (Issue t d major argument) refl) starts
  event_issued r _ n starts = cc

  -- by an entry of a history
  entry_issued : (r : Run) (history : List Entry) (k n : ℕ) (e : Entry) → RunRises r
      → replies_of history ≡ replies_from set r (events_of history)
      → slice_get history k ≡ Some e → request_started e ≡ Some n
      → n < (run_from set r (events_of history)).world.shared.issued
  entry_issued r [] k n e rises legal there starts = cc
  entry_issued r (f ∷ history) zero n e rises legal there starts =
      let one : f ≡ e = cc in
      let replied : f.reply ≡ (step set r f.event).reply = cc in
      let low : n < (step set r f.event).run.world.shared.issued =
      event_issued r f.event n
      (sym (ap (started_by f.event) replied) ∙ ap request_started one ∙ starts) in
      let high : (step set r f.event).run.world.shared.issued
      ≤ (run_from set r (events_of (f ∷ history))).world.shared.issued =
      (run_tells (step set r f.event).run (events_of history)
      (step_tells set r rises f.event).rises).more in
      omega arith
  entry_issued r (f ∷ history) (suc k) n e rises legal there starts =
      let others : replies_of history
      ≡ replies_from set (step set r f.event).run (events_of history) = cc in
      entry_issued (step set r f.event).run history k n e (step_tells set r rises f.event).rises
      others there starts

-- a packet is live where no reply tells that it topped out, if it is absent where one does
live_is : (o : Option Packet) (top : Option TopOut) (low : Bool) → low ≡ false
    → is_none o ≡ (is_some top || (low && true)) → is_some o ≡ is_none top
live_is o top true is h = cc
live_is None None false is h = cc
live_is None (Some top) false is h = refl
live_is (Some p) None false is h = refl
live_is (Some p) (Some top) false is h = cc

-- what the history tells
pub told_tops : TopOutsAreTold
told_tops set threads history k n e legal there starts =
    let after : Run = run set threads (events_of history) in
    let s : Shared = after.world.shared in
    let rises : RunRises (begun set threads) = omega arith in
    let tells : LiveAfter [] 0
    (tops_among (replies_from set (begun set threads) (events_of history))) s.packets s.issued =
    run_tells set (begun set threads) (events_of history) rises in
    let low : n < s.issued =
    entry_issued set (begun set threads) history k n e rises legal there starts in
    rw (find_place s.packets n)
    (live_is (find s.packets n) (top_out_of (replies_of history) n) (nat_lt n 0)
    (lt_false n 0 (omega arith))
    (rw legal (rw (lt_true n s.issued low) at (tells.gone n))))
