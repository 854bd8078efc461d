-- Every event does the same to worlds of runs of an accepted set that a machine may not tell apart.
use Rattle.laws_runs.proofs.Common.{ap, arith, inl, inr, refl, subst, sym, ◌∙◌, eqb_tells, Bool, List, None, Option, Some, [], false, if◌then◌else◌, is_some, length, nat_eq, slice_get, suc, true, ℕ, ◌++◌, ◌<◌, ◌∷◌, ◌≡◌, Change, effect, interrupt_on, interrupted, is_idle, unchanged, with_new_packet, with_thread, Set, dpc_of, Entry, Shared, World, is_queued, new_packet, with_dpc, Event, CancelEvent, DpcEvent, Interrupt, Issue, StartIoEvent, Step, Reply, Idle, Refused, Device, Major, Frame, Packet, Thread, States, IsGood}
use Rattle.laws_runs.proofs.Accepted.Keeps.{Keeps}
use Rattle.laws_runs.proofs.Alike.Frames.{AlikeFrames, IsLive}
use Rattle.laws_runs.proofs.Alike.Outcomes.{alike_same}
use Rattle.laws_runs.proofs.Alike.Stacks.{AlikeThread, AlikeThreads, AlikeAt, alike_at}
use Rattle.laws_runs.proofs.Alike.Worlds.{AlikeChange, AlikeWorld, put_alike, step_alike, threads_kept, unchanged_alike}
use Rattle.laws_runs.proofs.Past.LivePackets.{Rises, find, find_place, find_push}
use Rattle.laws_runs.proofs.Runs.Events.{Both, SameIdle, both_begin, both_nothing, cancelled_both, deferred_both, request_both, started_both}
use Rattle.laws_runs.proofs.Runs.Roots.{Root, Beside, issues, with_root}

module _ (set : Set) (states : States) where
  same_lengths : (s : Shared) (above : Option Frame) (xs ys : List Frame)
      → AlikeFrames set states s above xs ys → length xs ≡ length ys
  same_lengths s above [] [] h = refl
  same_lengths s above (x ∷ xs) (y ∷ ys) h = ap suc (same_lengths s above xs ys h.1)
  same_lengths s above _ _ h = absurd h

  same_idle : (s : Shared) (x y : Thread) → AlikeThread set states s x y → is_idle x ≡ is_idle y
  same_idle s x y h =
      ap (λ (n : ℕ). nat_eq n 0) (same_lengths s None x.frames.items y.frames.items h.frames)

-- a packet that was issued before another one is live if it was
issued_lives : (s : Shared) (d : ℕ) (device : Device) (major : Major) (argument : ℕ)
    → Rises 0 s.packets s.issued → (n : ℕ) → n < s.issued
    → IsLive (with_new_packet s d device major argument) n → IsLive s n
issued_lives s d device major argument rises n low live =
    let q : Packet = new_packet s.issued d major argument device.stack in
    let finds : find (s.packets ++ q ∷ []) n ≡ (if nat_eq s.issued n then Some q
    else find s.packets n) = find_push 0 s.packets s.issued q rises refl n in
    let apart : nat_eq s.issued n ≡ false =
    elim (eqb_tells s.issued n) [
      | inl same ↦ let one : s.issued ≡ n = same.1 in absurd (omega arith)
      | inr other ↦ other.0
    ] in
    let old : find (s.packets ++ q ∷ []) n ≡ find s.packets n = rw apart at finds in
    subst (λ (o : Option Packet). is_some o ≡ true)
    (find_place (s.packets ++ q ∷ []) n ∙ old ∙ sym (find_place s.packets n)) live

module _ (set : Set) (states : States) (threads : ℕ) (w : World) (past : List Entry)
    (good : IsGood set states) (keeps : Keeps set states threads w past) (others : List Thread)
    (alike : AlikeThreads set states w.shared others w.threads) where
  abbrev v : World
  v = record { threads = others; shared = w.shared }

  stays : (reply : Reply) → AlikeChange set states (unchanged v reply) (unchanged w reply)
  stays reply = unchanged_alike set states threads w past good keeps others alike reply

  puts : (s : Shared) (t : ℕ) (x y : Thread)
      → ((n : ℕ) → n < w.shared.issued → IsLive s n → IsLive w.shared n)
      → AlikeThread set states s x y
      → AlikeWorld set states (with_thread v t s x) (with_thread w t s y)
  puts s t x y before new =
      put_alike set states threads w past good keeps others alike s t x y before new

  -- what was live is so beside a root that begins
  root_lives : (root : Root) → Beside set w.shared root → (n : ℕ) → n < w.shared.issued
      → IsLive root.shared n → IsLive w.shared n
  root_lives root (issues h) =
      issued_lives w.shared h.d h.device h.major h.argument keeps.stands.tells.rises
  root_lives root _ = λ n low live. live

  both_alike : (t : ℕ) (c e : Change) → Both set w others t c e → AlikeChange set states c e
  both_alike t c e (both_nothing reply right) = stays reply
  both_alike t c e (both_begin x i root beside) =
      record {
        worlds = puts root.shared t (with_root x root) (with_root i.thread root)
            (root_lives root beside)
            (record {
              root = refl;
              frames = alike_same set states root.shared None (root.frame ∷ []);
            });
        reply = refl;
      }

  idle_both : (o p : Option Thread) → AlikeAt set states w.shared o p → SameIdle o p
  idle_both None None h = tt
  idle_both (Some x) (Some y) h = same_idle set states w.shared x y h
  idle_both _ _ h = absurd h

  -- a DPC is queued
  interrupt_if : (d : ℕ) (queued : Bool)
      → AlikeChange set states (if queued then unchanged v Idle else interrupted v d)
      (if queued then unchanged w Idle else interrupted w d)
  interrupt_if d true = stays Idle
  interrupt_if d false =
      record {
        worlds = record {
          shared = refl;
          threads = threads_kept set states threads w past good keeps others alike
              (with_dpc w.shared d true) (λ n low live. live);
        };
        reply = refl;
      }

  interrupt_alike : (d : ℕ) (routine : Option ℕ)
      → AlikeChange set states (interrupt_on v d routine) (interrupt_on w d routine)
  interrupt_alike d None = stays Refused
  interrupt_alike d (Some routine) = interrupt_if d (is_queued w.shared d)

  -- whatever the event
  at : (t : ℕ) → AlikeAt set states w.shared (slice_get others t) (slice_get w.threads t)
  at t = alike_at set states w.shared others w.threads t alike

  idle_at : (t : ℕ) → SameIdle (slice_get others t) (slice_get w.threads t)
  idle_at t = idle_both (slice_get others t) (slice_get w.threads t) (at t)

  pub effects_alike : (e : Event) → AlikeChange set states (effect set v e) (effect set w e)
  effects_alike (Issue t d major argument) =
      both_alike t _ _ (request_both set w others t (idle_at t) d major argument)
  effects_alike (CancelEvent t n level) =
      both_alike t _ _ (cancelled_both set w others t (idle_at t) n level)
  effects_alike (Interrupt d) = interrupt_alike d (dpc_of set d)
  effects_alike (DpcEvent t d) = both_alike t _ _ (deferred_both set w others t (idle_at t) d)
  effects_alike (StartIoEvent t d) = both_alike t _ _ (started_both set w others t (idle_at t) d)
  effects_alike (Step t) = step_alike set states threads w past good keeps others alike t
