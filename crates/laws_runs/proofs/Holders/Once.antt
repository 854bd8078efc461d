-- No packet tops out twice: one that tops out is live, so it hasn't topped out.
use Rattle.laws_runs.proofs.Common.{arith, cond, inl, inr, list_any, nat_eq, refl, subst, ◌∙◌, eqb_tells, Bool, List, [], ◌∷◌, ◌+◌, ◌||◌, entry, true, Option, Some, false, if◌then◌else◌, ℕ, ◌≡◌, ◌≤◌, Outcome, Change, topped, Set, Actor, Entry, recorded, Shared, World, CancelStep, Frame, times_topped, Cancels, Comes, cancels, takes_cancel, tops_out, works_on_queues, queued_touches, if_one}
use Rattle.model.specs.Action.{Action, OnPacket, PacketAct, Touch, TopOut}
use Rattle.model.specs.Effect.{top_of as top_frame}
use Rattle.model.specs.Fault.{is_top_out, packet_acts, with_packet_act}
use Rattle.laws_runs.specs.TopsOnce.{top_of as counted}
use Rattle.laws_runs.proofs.Past.Packets.{Tells, found, untopped}
use Rattle.laws_runs.proofs.Runs.Events.{Happens, nothing, steps, begins}
use Rattle.laws_runs.proofs.Runs.Roots.{root_told}

-- a packet that hasn't topped out has done so no time, and one that has, once
abbrev pub ToppedOnce : List Entry → Type 0
ToppedOnce past = (n : ℕ) → times_topped past n ≡ (if topped past n then 1 else 0)

-- an action by which no packet tops out
abbrev tops_out_by : Action → Bool
tops_out_by (OnPacket n TopOut) = true
tops_out_by _ = false

same_or : (b : Bool) (act : PacketAct) (acts : List PacketAct) → is_top_out act ≡ false
    → list_any is_top_out (cond b (act ∷ acts) acts) ≡ list_any is_top_out acts
same_or true act acts quiet = rw quiet refl
same_or false act acts quiet = refl

untopped_by : (action : Action) (m : ℕ) (acts : List PacketAct) → tops_out_by action ≡ false
    → list_any is_top_out (with_packet_act action m acts) ≡ list_any is_top_out acts
untopped_by (OnPacket n Touch) m acts quiet = refl
untopped_by (OnPacket n TopOut) m acts quiet = cc
untopped_by (OnPacket n act) m acts quiet = same_or (nat_eq n m) act acts refl
untopped_by _ m acts quiet = refl

uncounted : (action : Action) (m count : ℕ) → tops_out_by action ≡ false
    → counted action m + count ≡ count
uncounted (OnPacket n TopOut) m count quiet = cc
uncounted _ m count quiet = omega arith

quiet_once : (actions : List Action) (past : List Entry) (actor : Actor)
    → list_any tops_out_by actions ≡ false → ToppedOnce past
    → ToppedOnce (recorded past actor actions)
quiet_once [] past actor quiet once = once
quiet_once (action ∷ actions) past actor quiet once =
    let none = neither (tops_out_by action) (list_any tops_out_by actions) quiet in
    quiet_once actions (entry past actor action ∷ past) actor none.1
    (λ m. rw (untopped_by action m (packet_acts past m) none.0)
    (uncounted action m (times_topped past m) none.0 ∙ once m))
  where
    neither : (a b : Bool) → (a || b) ≡ false → (a ≡ false) × (b ≡ false)
    neither true b none = cc
    neither false b none = (refl, none)

module _ (set : Set) (past : List Entry) (actor : Actor) (once : ToppedOnce past) where
  once_cancel : (s : Shared) (n : ℕ) (step : CancelStep) (o : Outcome)
      → Cancels set s actor.thread n step o → ToppedOnce (recorded past actor o.actions)
  once_cancel s n step o (takes_cancel free) = quiet_once o.actions past actor refl once
  once_cancel s n step o _ = quiet_once o.actions past actor refl once

  once_step : (s : Shared) (under : Option Frame) (f : Frame) (o : Outcome) → Tells s past
      → Comes set s actor.thread under f o → ToppedOnce (recorded past actor o.actions)
  once_step s under f o tells (tops_out n p there without first) m =
      elim (eqb_tells n m) [
        | inl same ↦
            let free : topped past n ≡ false = untopped s past n p tells (found s n (Some p) there)
            in
            let here : topped past m ≡ false = subst (λ (x : ℕ). topped past x ≡ false) same.1 free
            in
            let zero_times : times_topped past m ≡ 0 = rw here at (once m) in
            rw (same.0, zero_times) refl
        | inr apart ↦
            rw apart.0 (omega (arith, once m))
      ]
  once_step s under f o tells (works_on_queues a i b queues starts actions full at queued) m =
      let before : times_topped past m ≡ (if topped past m then 1 else 0) = once m in
      elim (queued_touches queued)
      [ inl none ↦ rw none (omega arith) | inr one ↦ rw one.1 (omega arith) ]
  once_step s under f o tells (cancels n step made moves) m = once_cancel s n step made moves m
  once_step s under f o tells _ m = quiet_once o.actions past actor refl once m

  pub once_kept : (w : World) (c : Change) → Tells w.shared past → Happens set w actor.thread c
      → ToppedOnce (recorded past actor c.actions)
  once_kept w c tells (nothing reply right) = once
  once_kept w c tells (steps h) =
      once_step w.shared (top_frame h.below) h.frame h.outcome tells h.comes
  once_kept w c tells (begins i root beside) =
      root_told set w.shared (λ actions. ToppedOnce (recorded past actor actions)) once
      (λ n stack m. omega (arith, once m)) root beside

pub tops_at_most_once : (past : List Entry) → ToppedOnce past → (n : ℕ) → times_topped past n ≤ 1
tops_at_most_once past once n =
    omega (arith, once n, if_one (topped past n))
