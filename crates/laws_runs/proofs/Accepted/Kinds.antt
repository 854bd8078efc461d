-- Registers from which something may be taken are of their kinds, in the words of the law.
use Rattle.laws_runs.proofs.Common.{arith, refl, subst, sym, List, None, Option, Some, is_some, slice_get, suc, true, ℕ, ◌+◌, ◌≡◌, is_packet, kind_of, frames_on, Set, member, MayBeTaken, Entry, Shared, World, packet_of, register, Abs, Kind, BlankKind, Lower, NumKind, Activation, Routine, Packet, Value, Ref, States, arrives_alone, IsGood, state_of, Suits}
use Rattle.laws_runs.specs.KindsAgree.{IsOfKind, NamesLive}
use Rattle.laws_runs.proofs.Accepted.Keeps.{Keeps}
use Rattle.laws_runs.proofs.Live.Named.{named_lives}
use Rattle.laws_runs.proofs.States.Inside.{stands_at, suits_under}
use Rattle.laws_runs.proofs.States.Kinds.{IsPacket}

-- a kind's value is of it, if each packet that it names is live
some_there : (o : Option Packet) → (o ≡ None → ⊥) → is_some o ≡ true
some_there None lives = absurd (lives refl)
some_there (Some p) lives = refl

names_live : (s : Shared) (v : Value) → IsPacket s.issued v
    → ((n : ℕ) → v ≡ Ref n → packet_of s n ≡ None → ⊥) → NamesLive s v
names_live s v h lives =
    (h.0, h.1, h.2, some_there (packet_of s h.0) (lives h.0 h.1))

of_kind : (s : Shared) (k : Kind) (v : Value) → Suits s.issued k v
    → (is_packet k ≡ true → (n : ℕ) → v ≡ Ref n → packet_of s n ≡ None → ⊥) → IsOfKind s k v
of_kind s BlankKind v h lives = tt
of_kind s NumKind v h lives = h
of_kind s Lower v h lives = h
of_kind s _ v h lives = names_live s v h (lives refl)

pub kinds_agree : (set : Set) (states : States) (threads : ℕ) (w : World) (past : List Entry)
    (good : IsGood set states) (keeps : Keeps set states threads w past) (t k : ℕ) (a : Activation)
    (r : ℕ) → slice_get (frames_on w t) k ≡ Some (Routine a)
    → (may : MayBeTaken set (slice_get (frames_on w t) (k + 1)) a r)
    → IsOfKind w.shared (kind_of may.state r) (register a r)
kinds_agree set states threads w past good keeps t k a r there may =
    let next : k + 1 ≡ suc k = omega arith in
    let state : may.state ≡ state_of states a =
    arrives_alone (member set a.driver a.routine may.routine) (states a.driver a.routine)
    (good.led.known a.driver a.routine may.routine may.is_of).follows may.arrives.0 a.position
    may.state may.arrives.1 in
    subst (λ (s : Abs). IsOfKind w.shared (kind_of s r) (register a r)) (sym state)
    (of_kind w.shared (kind_of (state_of states a) r) (register a r)
    (suits_under set states w.shared.issued (slice_get (frames_on w t) (suc k)) a
    (stands_at set states w.shared.issued (frames_on w t) k a (keeps.stands.frames t) there) r
    (rw next at may.untold))
    (λ packet n refers. named_lives set states w past good keeps.stands keeps.held keeps.claims
    keeps.sees t k a there r n packet refers))
