-- Threads that go on, and those that wait for locks.
use Rattle.std.proofs.Common.{◌≡◌, ◌≢◌, ◌∙◌, ◌<◌, ◌-◌, ◌⊎◌, ◌++◌, ℕ, zero, suc, Bool, true, false, List, [], ◌∷◌, Option, None, Some, append_assoc, get_or, length, refl, sym, ap, subst, arith, inl, inr, true≢false, if◌then◌else◌}
use Rattle.std.specs.Prelude.{◌&&◌, is_none, nat_eq, option_and_then, option_map, slice_get}
use Rattle.std.proofs.lemmas.Bool.{and_parts}
use Rattle.std.proofs.lemmas.Bool.Decides.{eqb_tells}
use Rattle.laws_runs.specs.Waiting.{other_owner, sought_by, sought_on, waits_for}
use Rattle.model.specs.declared.event.Lock.{Lock}
use Rattle.model.specs.declared.world.Thread.{Thread}
use Rattle.model.specs.Effect.{top_of}
use Rattle.model.specs.Run.{frames_of}
use Rattle.model.specs.Set.{Set}
use Rattle.model.specs.View.{busy_at, has_frames, thread_view}
use Rattle.model.specs.World.{Locks, World, owner_of}
use Rattle.scenario_world.specs.declared.goers.Awaited.{Awaited}
use Rattle.scenario_world.specs.Expected.{is_owned}
use Rattle.scenario_world.specs.Goers.{HasLock, StaysOff, are_owned, awaited_by, going_from}
use Rattle.scenario_world.specs.Going.{goes_on}

-- in a world where a thread has the same frames
module _ (set : Set) (w v : World) (t : ℕ) (same : slice_get v.threads t ≡ slice_get w.threads t)
  where
    busy_same : busy_at v t ≡ busy_at w t
    busy_same = ap (λ (o : Option Thread). has_frames (option_map thread_view o)) same

    sought_same : sought_on set v t ≡ sought_on set w t
    sought_same =
        ap (λ (o : Option Thread). option_and_then (λ frame. sought_by set frame)
        (top_of (frames_of o))) same

    waits_same : (lock : Lock) → sought_on set w t ≡ Some lock
        → owner_of v.shared.locks lock ≡ owner_of w.shared.locks lock
        → waits_for set v t ≡ waits_for set w t
    waits_same lock seeks owners =
        ap (λ (o : Option Lock). option_and_then (λ l. other_owner t (owner_of v.shared.locks l)) o)
        (sought_same ∙ seeks)
        ∙ ap (λ (x : Option (Option ℕ)). other_owner t x) owners
        ∙ sym (ap (λ (o : Option Lock). option_and_then (λ l. other_owner t
        (owner_of w.shared.locks l)) o) seeks)

-- the owners of locks
owned_is : (owner : ℕ) (its : Option (Option ℕ)) → is_owned (Some owner) its ≡ true
    → its ≡ Some (Some owner)
owned_is owner None h = cc
owned_is owner (Some None) h = cc
owned_is owner (Some (Some u)) h =
    elim (eqb_tells u owner) [
      | inl same ↦ ap (λ (n : ℕ). Some (Some n)) same.1
      | inr apart ↦ absurd (true≢false (sym h ∙ apart.0))
    ]

owned_so : (owner : ℕ) (its : Option (Option ℕ)) → its ≡ Some (Some owner)
    → is_owned (Some owner) its ≡ true
owned_so owner its is =
    ap (λ (x : Option (Option ℕ)). is_owned (Some owner) x) is
    ∙ elim (eqb_tells owner owner) [
      | inl same ↦ same.0
      | inr apart ↦ absurd (apart.1 refl)
    ]

same_owner : (locks others : Locks) (awaited : List Awaited) (lock : Lock) → HasLock lock awaited
    → are_owned locks awaited ≡ true → are_owned others awaited ≡ true
    → owner_of others lock ≡ owner_of locks lock
same_owner locks others [] lock has first second = absurd has
same_owner locks others (one ∷ rest) lock (inl is) first second =
    let a = and_parts (is_owned (Some one.owner) (owner_of locks one.lock)) (are_owned locks rest) first in
    let b = and_parts (is_owned (Some one.owner) (owner_of others one.lock)) (are_owned others rest)
    second in
    subst (λ (l : Lock). owner_of others l ≡ owner_of locks l) is
    (owned_is one.owner (owner_of others one.lock) b.0
    ∙ sym (owned_is one.owner (owner_of locks one.lock) a.0))
same_owner locks others (one ∷ rest) lock (inr more) first second =
    let a = and_parts (is_owned (Some one.owner) (owner_of locks one.lock)) (are_owned locks rest) first in
    let b = and_parts (is_owned (Some one.owner) (owner_of others one.lock)) (are_owned others rest)
    second in
    same_owner locks others rest lock more a.1 b.1

-- a thread stays off
module _ (set : Set) (w : World) (awaited : List Awaited) (t : ℕ) where
  idle_off : busy_at w t ≡ false → StaysOff set w awaited t
  idle_off off v same owned =
      ap (λ (b : Bool). b && is_none (waits_for set v t)) (busy_same set w v t same ∙ off)

  waiter_off : (lock : Lock) → sought_on set w t ≡ Some lock → HasLock lock awaited
      → are_owned w.shared.locks awaited ≡ true → goes_on set w t ≡ false → StaysOff set w awaited t
  waiter_off lock seeks has first off v same owned =
      ap (λ (b : Bool). b && is_none (waits_for set v t)) (busy_same set w v t same)
      ∙ ap (λ (o : Option ℕ). busy_at w t && is_none o)
      (waits_same set w v t same lock seeks
      (same_owner w.shared.locks v.shared.locks awaited lock has first owned))
      ∙ off

-- with one lock more
owned_first : (locks : Locks) (awaited : List Awaited) (one : Awaited)
    → are_owned locks (awaited ++ one ∷ []) ≡ true → are_owned locks awaited ≡ true
owned_first locks [] one h = refl
owned_first locks (first ∷ rest) one h =
    let both = and_parts (is_owned (Some first.owner) (owner_of locks first.lock))
    (are_owned locks (rest ++ one ∷ [])) h in
    ap (λ (b : Bool). b && are_owned locks rest) both.0 ∙ owned_first locks rest one both.1

owned_more : (locks : Locks) (awaited : List Awaited) (one : Awaited)
    → are_owned locks awaited ≡ true → owner_of locks one.lock ≡ Some (Some one.owner)
    → are_owned locks (awaited ++ one ∷ []) ≡ true
owned_more locks [] one h is =
    ap (λ (b : Bool). b && true) (owned_so one.owner (owner_of locks one.lock) is)
owned_more locks (first ∷ rest) one h is =
    let both = and_parts (is_owned (Some first.owner) (owner_of locks first.lock))
    (are_owned locks rest) h in
    ap (λ (b : Bool). b && are_owned locks (rest ++ one ∷ [])) both.0
    ∙ owned_more locks rest one both.1 is

pub has_one : (awaited : List Awaited) (place : ℕ) (some : Awaited) (lock : Lock)
    → place < length awaited → (get_or awaited place some).lock ≡ lock → HasLock lock awaited
has_one [] place some lock less is = absurd (omega (arith, less))
has_one (first ∷ rest) zero some lock less is = inl is
has_one (first ∷ rest) (suc place) some lock less is =
    inr (has_one rest place some lock (omega (arith, less)) is)

has_last : (awaited : List Awaited) (one : Awaited) → HasLock one.lock (awaited ++ one ∷ [])
has_last [] one = inl refl
has_last (first ∷ rest) one = inr (has_last rest one)

more_off : (set : Set) (w : World) (awaited : List Awaited) (one : Awaited) (t : ℕ)
    → StaysOff set w awaited t → StaysOff set w (awaited ++ one ∷ []) t
more_off set w awaited one t stays v same owned =
    stays v same (owned_first v.shared.locks awaited one owned)

-- the lock that a thread waits for
abbrev awaited_in : ℕ → Locks → Option Lock → Option Awaited
awaited_in t locks sought =
    option_and_then (λ lock. option_map (λ owner. record { lock = lock; owner = owner })
    (other_owner t (owner_of locks lock))) sought

abbrev waits_in : ℕ → Locks → Option Lock → Option ℕ
waits_in t locks sought =
    option_and_then (λ lock. other_owner t (owner_of locks lock)) sought

abbrev owned_by : Lock → ℕ → Awaited
owned_by lock owner = record { lock = lock; owner = owner }

none_of : (lock : Lock) (owner : Option ℕ) → option_map (owned_by lock) owner ≡ None
    → owner ≡ None
none_of lock None h = refl
none_of lock (Some o) h = cc

none_in : (t : ℕ) (locks : Locks) (sought : Option Lock) → awaited_in t locks sought ≡ None
    → waits_in t locks sought ≡ None
none_in t locks None h = refl
none_in t locks (Some lock) h = none_of lock (other_owner t (owner_of locks lock)) h

other_by : (t owner u : ℕ) (b : Bool) → (if b then None else Some u) ≡ Some owner
    → Some (Some u) ≡ Some (Some owner)
other_by t owner u true h = cc
other_by t owner u false h = ap (λ (x : Option ℕ). Some x) h

other_is : (t owner : ℕ) (its : Option (Option ℕ)) → other_owner t its ≡ Some owner
    → its ≡ Some (Some owner)
other_is t owner None h = cc
other_is t owner (Some None) h = cc
other_is t owner (Some (Some u)) h = other_by t owner u (nat_eq u t) h

record IsAwaited (t : ℕ) (locks : Locks) (sought : Option Lock) (one : Awaited) : Type 0 where
  seeks : sought ≡ Some one.lock
  owned : owner_of locks one.lock ≡ Some (Some one.owner)
  waits : is_none (waits_in t locks sought) ≡ false

some_by : (t : ℕ) (locks : Locks) (lock : Lock) (owner : Option ℕ) (one : Awaited)
    → other_owner t (owner_of locks lock) ≡ owner
    → option_map (owned_by lock) owner ≡ Some one → IsAwaited t locks (Some lock) one
some_by t locks lock None one is h = cc
some_by t locks lock (Some o) one is h =
    let same : record { lock = lock; owner = o } ≡ one = cc in
    subst (λ (y : Awaited). IsAwaited t locks (Some lock) y) same
    (record {
      seeks = refl;
      owned = other_is t o (owner_of locks lock) is;
      waits = ap (λ (x : Option ℕ). is_none x) is;
    })

some_in : (t : ℕ) (locks : Locks) (sought : Option Lock) (one : Awaited)
    → awaited_in t locks sought ≡ Some one → IsAwaited t locks sought one
some_in t locks None one h = cc
some_in t locks (Some lock) one h =
    some_by t locks lock (other_owner t (owner_of locks lock)) one refl h

-- so far: those of so many threads that go on, and locks whose owners keep the others from it
pub record Gathering (set : Set) (w : World) (threads t : ℕ) (going : List ℕ)
    (awaited : List Awaited) : Type 0 where
  pub listed : going ++ going_from (threads - t) t set w ≡ going_from threads 0 set w
  pub owned : are_owned w.shared.locks awaited ≡ true
  pub others : (u : ℕ) → u < t → goes_on set w u ≡ false → StaysOff set w awaited u

pub gathering_none : (set : Set) (w : World) (threads : ℕ) → Gathering set w threads 0 [] []
gathering_none set w threads =
    record {
      listed =
          let all : threads - 0 ≡ threads = omega arith in
          ap (λ (k : ℕ). going_from k 0 set w) all;
      owned = refl;
      others = λ u less. absurd (omega (arith, less));
    }

module _ (set : Set) (w : World) (threads t : ℕ) (less : t < threads) (going : List ℕ)
    (awaited : List Awaited) (so_far : Gathering set w threads t going awaited) where
  left : ℕ
  left = threads - suc t

  abbrev from : Bool → List ℕ
  from b =
      if b then t ∷ going_from (threads - suc t) (suc t) set w
      else going_from (threads - suc t) (suc t) set w

  from_is : (b : Bool) → goes_on set w t ≡ b → from b ≡ going_from (threads - t) t set w
  from_is b is =
      let more : suc (threads - suc t) ≡ threads - t = omega (arith, less) in
      ap (λ (c : Bool). from c) (sym is) ∙ ap (λ (k : ℕ). going_from k t set w) more

  off_listed : goes_on set w t ≡ false
      → going ++ going_from (threads - suc t) (suc t) set w ≡ going_from threads 0 set w
  off_listed off =
      ap (λ (l : List ℕ). going ++ l) (from_is false off) ∙ so_far.listed

  with_last : (others : List Awaited) → StaysOff set w others t
      → ((u : ℕ) → u < t → goes_on set w u ≡ false → StaysOff set w others u)
      → (u : ℕ) → u < suc t → goes_on set w u ≡ false → StaysOff set w others u
  with_last others last before u few off =
      elim (eqb_tells u t) [
        | inl same ↦ subst (λ (x : ℕ). StaysOff set w others x) (sym same.1) last
        | inr apart ↦
            let other : u ≢ t = apart.1 in before u (omega (arith, few, other)) off
      ]

  pub gathered_idle : busy_at w t ≡ false → Gathering set w threads (suc t) going awaited
  gathered_idle idle =
      let off : goes_on set w t ≡ false =
      ap (λ (b : Bool). b && is_none (waits_for set w t)) idle in
      record {
        listed = off_listed off;
        owned = so_far.owned;
        others = with_last awaited (idle_off set w awaited t idle) so_far.others;
      }

  pub gathered_going : busy_at w t ≡ true → awaited_by set w t ≡ None
      → Gathering set w threads (suc t) (going ++ t ∷ []) awaited
  gathered_going busy none =
      let on : goes_on set w t ≡ true =
      ap (λ (b : Bool). b && is_none (waits_for set w t)) busy
      ∙ ap (λ (o : Option ℕ). is_none o) (none_in t w.shared.locks (sought_on set w t) none) in
      record {
        listed =
            append_assoc going (t ∷ []) (going_from (threads - suc t) (suc t) set w)
            ∙ ap (λ (l : List ℕ). going ++ l) (from_is true on)
            ∙ so_far.listed;
        owned = so_far.owned;
        others = λ u few off.
            elim (eqb_tells u t) [
              | inl same ↦
                  absurd (true≢false (sym on ∙ ap (λ (x : ℕ). goes_on set w x) (sym same.1) ∙ off))
              | inr apart ↦
                  let other : u ≢ t = apart.1 in so_far.others u (omega (arith, few, other)) off
            ];
      }

  module _ (one : Awaited) (busy : busy_at w t ≡ true) (is : awaited_by set w t ≡ Some one) where
    waiting : IsAwaited t w.shared.locks (sought_on set w t) one
    waiting = some_in t w.shared.locks (sought_on set w t) one is

    waits_off : goes_on set w t ≡ false
    waits_off = ap (λ (b : Bool). b && is_none (waits_for set w t)) busy ∙ waiting.waits

    kept : HasLock one.lock awaited → Gathering set w threads (suc t) going awaited
    kept has =
        record {
          listed = off_listed waits_off;
          owned = so_far.owned;
          others = with_last awaited
              (waiter_off set w awaited t one.lock waiting.seeks has so_far.owned waits_off)
              so_far.others;
        }

    added : Gathering set w threads (suc t) going (awaited ++ one ∷ [])
    added =
        let all : are_owned w.shared.locks (awaited ++ one ∷ []) ≡ true =
        owned_more w.shared.locks awaited one so_far.owned waiting.owned in
        record {
          listed = off_listed waits_off;
          owned = all;
          others = with_last (awaited ++ one ∷ [])
              (waiter_off set w (awaited ++ one ∷ []) t one.lock waiting.seeks
              (has_last awaited one) all waits_off)
              (λ u few off. more_off set w awaited one u (so_far.others u few off));
        }

    pub gathered_waiting : (now : List Awaited)
        → (HasLock one.lock awaited × (now ≡ awaited)) ⊎ (now ≡ awaited ++ one ∷ [])
        → Gathering set w threads (suc t) going now
    gathered_waiting now (inl old) =
        subst (λ (l : List Awaited). Gathering set w threads (suc t) going l) (sym old.1)
        (kept old.0)
    gathered_waiting now (inr new) =
        subst (λ (l : List Awaited). Gathering set w threads (suc t) going l) (sym new) added
