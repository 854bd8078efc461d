-- The machine's tests of packets, locks and levels tell what the past tells, where the past tells
-- of the world.
use Rattle.std.proofs.Common.{◌≡◌, ℕ, suc, List, Option, None, Some, Bool, true, false, refl, ap, sym, ◌∙◌, inl, inr, arith, ◌<◌, ◌≤◌, length}
use Rattle.std.specs.Prelude.{◌||◌, ◌&&◌, not, nat_lt, nat_le}
use Rattle.std.proofs.lemmas.Bool.Decides.{leb_tells}
use Rattle.model.specs.declared.event.BugCheck.TheVariants.{MultipleIrpCompleteRequests, CancelStateInCompletedIrp}
use Rattle.model.specs.declared.event.Lock.{Lock}
use Rattle.model.specs.declared.event.Subject.TheVariants.{Packet as PacketSubject}
use Rattle.model.specs.declared.world.Packet.{Packet}
use Rattle.model.specs.Fault.{bug_if, first_or, completion_fault, holds, holds_any, topped, stack_size, depth, at_dispatch, is_dispatch_level}
use Rattle.model.specs.Run.{Run}
use Rattle.model.specs.Trace.{Actor, Entry}
use Rattle.model.specs.World.{Shared, packet_of}
use Rattle.laws_runs.specs.PastTells.{PastTells, TellsOfPacket}
use Rattle.irql_locks.specs.Owns.{owns, owns_any, OwningTells, OwnsSome}
use Rattle.checked_parts.specs.declared.ran.Runner.{Runner}
use Rattle.checked_parts.specs.Left.{is_gone, is_held, is_armed, is_full, is_raised}

-- who runs, of who acts
abbrev pub runs : Actor → Runner
runs actor = record { thread = actor.thread; root = actor.root }

pub record Known (s : Shared) (past : List Entry) : Type 0 where
  pub gone : (n : ℕ) → topped past n ≡ is_gone s n
  pub completes : (n : ℕ) → nat_lt n s.issued ≡ true →
      completion_fault past n ≡ first_or
      (bug_if (is_gone s n || is_held (packet_of s n)) MultipleIrpCompleteRequests
      (PacketSubject n))
      (bug_if (is_armed (packet_of s n)) CancelStateInCompletedIrp (PacketSubject n))
  pub full : (n : ℕ) (p : Packet) → packet_of s n ≡ Some p
      → nat_le (stack_size past n) (depth past n) ≡ is_full (packet_of s n)
  pub locks : (t : ℕ) (l : Lock) → holds past t l ≡ owns s.locks t l
  pub level : (actor : Actor) → at_dispatch past actor ≡ is_raised s (runs actor)

-- a packet is at its last location exactly where it was sent down as often as it has locations
le_not_lt : (a b : ℕ) → nat_le a b ≡ not (nat_lt b a)
le_not_lt a b =
    elim (leb_tells a b) [
      | inl l ↦ elim (leb_tells (suc b) a) [
        | inl m ↦ let low : a ≤ b = l.1 in let high : suc b ≤ a = m.1 in absurd (omega arith)
        | inr m ↦ rw (l.0, m.0) refl
      ]
      | inr l ↦ elim (leb_tells (suc b) a) [
        | inl m ↦ rw (l.0, m.0) refl
        | inr m ↦ let low : b < a = l.1 in let high : a < suc b = m.1 in absurd (omega arith)
      ]
    ]

and_false : (b : Bool) → (b && false) ≡ false
and_false true = refl
and_false false = refl

both_ways : (a b : Bool) → (a ≡ true → b ≡ true) → (b ≡ true → a ≡ true) → a ≡ b
both_ways true b there back = sym (there refl)
both_ways false true there back = back refl
both_ways false false there back = refl

module _ (r : Run) (tells : PastTells r) (owning : OwningTells) where
  abbrev shared : Shared
  shared = r.world.shared

  -- of a packet that was issued
  completed_as : (n : ℕ) (o : Option Packet) → packet_of shared n ≡ o
      → nat_lt n shared.issued ≡ true →
      completion_fault r.past n ≡ first_or
      (bug_if (is_gone shared n || is_held (packet_of shared n)) MultipleIrpCompleteRequests
      (PacketSubject n))
      (bug_if (is_armed (packet_of shared n)) CancelStateInCompletedIrp (PacketSubject n))
  completed_as n None there issued =
      let gone : is_gone shared n ≡ true = rw (issued, there) refl in
      let before : topped r.past n ≡ true = tells.gone n ∙ gone in
      rw (before, gone) refl
  completed_as n (Some p) there issued =
      let here : is_gone shared n ≡ false = rw there (and_false (nat_lt n shared.issued)) in
      let before : topped r.past n ≡ false = tells.gone n ∙ here in
      let its : TellsOfPacket r.past n p = tells.live n p there in
      rw (before, here, there, its.completion, its.armed) refl

  full_as : (n : ℕ) (p : Packet) → packet_of shared n ≡ Some p →
      nat_le (stack_size r.past n) (depth r.past n) ≡ is_full (packet_of shared n)
  full_as n p there =
      let its : TellsOfPacket r.past n p = tells.live n p there in
      rw (its.size, its.place, there) (le_not_lt (length p.locations.items) p.depth)

  owned_as : (t : ℕ) (l : Lock) → holds r.past t l ≡ owns shared.locks t l
  owned_as t l =
      both_ways (holds r.past t l) (owns shared.locks t l)
      (λ held. (owning.lock shared.locks t l).1 (tells.owner t l held))
      (λ own. tells.holder t l ((owning.lock shared.locks t l).0 own))

  any_as : (t : ℕ) → holds_any r.past t ≡ owns_any shared.locks t
  any_as t =
      both_ways (holds_any r.past t) (owns_any shared.locks t)
      (λ high. (owning.any shared.locks t).1 (tells.raised t high))
      (λ own. let some : OwnsSome shared.locks t = (owning.any shared.locks t).0 own
      in tells.raises t some.0 some.1)

  pub known : Known r.world.shared r.past
  known =
      record {
        gone = tells.gone;
        completes = λ n issued. completed_as n (packet_of shared n) refl issued;
        full = full_as;
        locks = owned_as;
        level = λ actor. ap (λ (b : Bool). is_dispatch_level actor.root || b) (any_as actor.thread);
      }
