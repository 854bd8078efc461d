-- What is read the same of the worlds of two runs is the same.
use Rattle.laws_runs.proofs.Prelude.{ap, arith, cases_lt, eq-eqb, eqb_tells, inl, inr, refl, subst, sym, ◌∙◌, Bool, List, None, Option, Some, [], false, length, nat_eq, option_and_then, option_map, slice_get, slice_index_or, suc, true, ℕ, ◌<◌, ◌∷◌, ◌≡◌, run, Set, IsSound, Shared, World, Event, Cells, Packet, SPIN_LOCKS}
use Rattle.laws_runs.proofs.Lists.{each_at}
use Rattle.laws_runs.proofs.Past.LivePackets.{find, Rises, find_above, find_below, find_place}
use Rattle.laws_runs.proofs.Past.Runs.{Telling, telling_begun, telling_happens, telling_queued}
use Rattle.laws_runs.proofs.Runs.Kept.{kept_until}
use Rattle.model.specs.declared.limits.TheConstants.{CELLS}
use Rattle.model.specs.Machine.{Machine, ShowsWhole}
use Rattle.hunt_worlds.specs.Alike.{SameReads}
use Rattle.hunt_worlds.proofs.Shapes.{HasCells, HasLocks, Shaped, runs_are_shaped}

-- lists whose elements are read the same
indexes_same : {A : Type 0} (d : A) (xs ys : List A) → length xs ≡ length ys
    → ((i : ℕ) → i < length xs → slice_index_or xs i d ≡ slice_index_or ys i d) → xs ≡ ys
indexes_same d [] [] long same = refl
indexes_same d [] (y ∷ ys) long same = absurd (omega (arith, long))
indexes_same d (x ∷ xs) [] long same = absurd (omega (arith, long))
indexes_same {A = A} d (x ∷ xs) (y ∷ ys) long same =
    let first : x ≡ y = same 0 (omega arith) in
    let rest : xs ≡ ys =
    indexes_same d xs ys (omega (arith, long)) (λ i low. same (suc i) (omega (arith, low))) in
    rw (first, rest) refl

pub gets_same : {A : Type 0} (xs ys : List A) → length xs ≡ length ys
    → ((i : ℕ) → i < length xs → slice_get xs i ≡ slice_get ys i) → xs ≡ ys
gets_same [] [] long same = refl
gets_same [] (y ∷ ys) long same = absurd (omega (arith, long))
gets_same (x ∷ xs) [] long same = absurd (omega (arith, long))
gets_same {A = A} (x ∷ xs) (y ∷ ys) long same =
    let one : Some x ≡ Some y = same 0 (omega arith) in
    let first : x ≡ y = cc in
    let rest : xs ≡ ys =
    gets_same xs ys (omega (arith, long)) (λ i low. same (suc i) (omega (arith, low))) in
    rw (first, rest) refl

-- what an inner list shows is all that it has
inner_same : {A : Type 0} (n : ℕ) (xs ys : List A) → length xs ≡ n → length ys ≡ n
    → ((i : ℕ) → i < n → slice_get xs i ≡ slice_get ys i) → xs ≡ ys
inner_same n xs ys long other same =
    gets_same xs ys (long ∙ sym other) (λ i low. same i (omega (arith, low, long)))

-- the cells of a device
module _ (c e : Cells) (has : HasCells c) (also : HasCells e)
    (plain : (i : ℕ) → i < CELLS → slice_index_or c.plain i 0 ≡ slice_index_or e.plain i 0)
    (paged : (i : ℕ) → i < CELLS → slice_index_or c.paged i 0 ≡ slice_index_or e.paged i 0) where
  cells_one : c ≡ e
  cells_one =
      let first : c.plain ≡ e.plain =
      indexes_same 0 c.plain e.plain (has.plain ∙ sym also.plain)
      (λ i low. plain i (omega (arith, low, has.plain))) in
      let second : c.paged ≡ e.paged =
      indexes_same 0 c.paged e.paged (has.paged ∙ sym also.paged)
      (λ i low. paged i (omega (arith, low, has.paged))) in
      λ k. record { plain = first k; paged = second k }

some_is : {A : Type 0} (x y : A) → Some x ≡ Some y → x ≡ y
some_is x y h = cc

-- the cells at a place of both lists
cells_at : (o p : Option Cells) → ((c : Cells) → o ≡ Some c → HasCells c)
    → ((c : Cells) → p ≡ Some c → HasCells c)
    → ((i : ℕ) → i < CELLS
    → option_map (λ (c : Cells). slice_index_or c.plain i 0) o
    ≡ option_map (λ (c : Cells). slice_index_or c.plain i 0) p)
    → ((i : ℕ) → i < CELLS
    → option_map (λ (c : Cells). slice_index_or c.paged i 0) o
    ≡ option_map (λ (c : Cells). slice_index_or c.paged i 0) p) → o ≡ p
cells_at None None has also plain paged = refl
cells_at None (Some e) has also plain paged =
    let no : None ≡ Some (slice_index_or e.plain 0 0) = plain 0 (omega arith) in cc
cells_at (Some c) None has also plain paged =
    let no : Some (slice_index_or c.plain 0 0) ≡ None = plain 0 (omega arith) in cc
cells_at (Some c) (Some e) has also plain paged =
    ap (λ (x : Cells). Some x)
    (cells_one c e (has c refl) (also e refl)
    (λ i low. some_is _ _ (plain i low)) (λ i low. some_is _ _ (paged i low)))

no_first : {A : Type 0} (xs : List A) → 0 < length xs → slice_get xs 0 ≡ None → ⊥
no_first [] there none = absurd (omega (arith, there))
no_first (x ∷ xs) there none = cc

-- the owners at a place of both lists
owners_at : (o p : Option (List (Option ℕ))) → ((c : List (Option ℕ)) → o ≡ Some c → HasLocks c)
    → ((c : List (Option ℕ)) → p ≡ Some c → HasLocks c)
    → ((i : ℕ) → i < SPIN_LOCKS
    → option_and_then (λ (c : List (Option ℕ)). slice_get c i) o
    ≡ option_and_then (λ (c : List (Option ℕ)). slice_get c i) p) → o ≡ p
owners_at None None has also same = refl
owners_at None (Some e) has also same =
    let there : 0 < length e = omega (arith, also e refl) in
    let no : None ≡ slice_get e 0 = same 0 (omega arith) in
    absurd (no_first e there (sym no))
owners_at (Some c) None has also same =
    let there : 0 < length c = omega (arith, has c refl) in
    let no : slice_get c 0 ≡ None = same 0 (omega arith) in
    absurd (no_first c there no)
owners_at (Some c) (Some e) has also same =
    ap (λ (x : List (Option ℕ)). Some x)
    (inner_same SPIN_LOCKS c e (has c refl) (also e refl) same)

-- packets whose numbers rise, and which are found the same
module _ (high : ℕ) where
  first_same : (low : ℕ) (p q : Packet) (ps qs : List Packet) → Rises low (p ∷ ps) high
      → Rises low (q ∷ qs) high → ((n : ℕ) → find (p ∷ ps) n ≡ find (q ∷ qs) n) → p ≡ q
  first_same low p q ps qs rises also same =
      let mine : find (p ∷ ps) p.number ≡ find (q ∷ qs) p.number = same p.number in
      let its : find (p ∷ ps) q.number ≡ find (q ∷ qs) q.number = same q.number in
      let here : nat_eq p.number p.number ≡ true = eq-eqb p.number p.number refl in
      let there : nat_eq q.number q.number ≡ true = eq-eqb q.number q.number refl in
      elim (eqb_tells q.number p.number) [
        | inl e ↦ let one : Some p ≡ Some q = rw (here, e.0) at mine in cc
        | inr e ↦
            let first : Some p ≡ find qs p.number = rw (here, e.0) at mine in
            elim (cases_lt p.number (suc q.number)) [
              | inl less ↦
                  let none : find qs p.number ≡ None =
                  find_below (suc q.number) qs high p.number also.1 less in
                  let no : Some p ≡ None = first ∙ none in
                  cc
              | inr more ↦
                  elim (eqb_tells p.number q.number) [
                    | inl f ↦ absurd (e.1 (sym f.1))
                    | inr f ↦
                        let last : find ps q.number ≡ Some q = rw (there, f.0) at its in
                        let none : find ps q.number ≡ None =
                        find_below (suc p.number) ps high q.number rises.1 (omega (arith, more)) in
                        let no : None ≡ Some q = sym none ∙ last in
                        cc
                  ]
            ]
      ]

  tails_same : (low : ℕ) (p q : Packet) (ps qs : List Packet) → p ≡ q → Rises low (p ∷ ps) high
      → Rises low (q ∷ qs) high → ((n : ℕ) → find (p ∷ ps) n ≡ find (q ∷ qs) n) → (n : ℕ)
      → find ps n ≡ find qs n
  tails_same low p q ps qs one rises also same n =
      let number : p.number ≡ q.number = ap (λ (x : Packet). x.number) one in
      let both : find (p ∷ ps) n ≡ find (q ∷ qs) n = same n in
      elim (eqb_tells p.number n) [
        | inl e ↦
            find_below (suc p.number) ps high n rises.1 (omega (arith, e.1))
            ∙ sym (find_below (suc q.number) qs high n also.1 (omega (arith, e.1, number)))
        | inr e ↦
            let other : nat_eq q.number n ≡ false = rw number at e.0 in
            rw (e.0, other) at both
      ]

  packets_same : (low : ℕ) (ps qs : List Packet) → Rises low ps high → Rises low qs high
      → ((n : ℕ) → find ps n ≡ find qs n) → ps ≡ qs
  packets_same low [] [] rises also same = refl
  packets_same low [] (q ∷ qs) rises also same =
      let itself : nat_eq q.number q.number ≡ true = eq-eqb q.number q.number refl in
      let both : find [] q.number ≡ find (q ∷ qs) q.number = same q.number in
      let no : None ≡ Some q = rw itself at both in
      cc
  packets_same low (p ∷ ps) [] rises also same =
      let itself : nat_eq p.number p.number ≡ true = eq-eqb p.number p.number refl in
      let both : find (p ∷ ps) p.number ≡ find [] p.number = same p.number in
      let no : Some p ≡ None = rw itself at both in
      cc
  packets_same low (p ∷ ps) (q ∷ qs) rises also same =
      let one : p ≡ q = first_same low p q ps qs rises also same in
      let number : p.number ≡ q.number = ap (λ (x : Packet). x.number) one in
      let later : Rises (suc p.number) qs high = rw (sym number) at also.1 in
      let rest : ps ≡ qs =
      packets_same (suc p.number) ps qs rises.1 later
      (tails_same low p q ps qs one rises also same) in
      rw (one, rest) refl

-- the numbers of live packets rise in every run that hasn't stopped
running : (set : Set) → IsSound set → (threads : ℕ) (events : List Event)
    → (run set threads events).stopped ≡ false
    → Telling (run set threads events).world (run set threads events).past
running set sound threads events on =
    kept_until Telling set
    (λ w past actor c tells goes.
    telling_happens set sound w past actor c tells goes.happens goes.quiet goes.within)
    (λ w past d tells. telling_queued w past d true tells) threads events
    (telling_begun set threads) on

-- what two runs share
module _ (s r : Shared) (devices : ℕ) (shape : Shaped devices s) (other : Shaped devices r)
    (reads : SameReads s r devices) where
  cells_same : s.cells ≡ r.cells
  cells_same =
      gets_same s.cells r.cells (shape.cell_count ∙ sym other.cell_count)
      (λ i low. let within : i < devices = omega (arith, low, shape.cell_count) in
      cells_at (slice_get s.cells i) (slice_get r.cells i)
      (λ c is. each_at HasCells s.cells i c shape.cell_sizes is)
      (λ c is. each_at HasCells r.cells i c other.cell_sizes is)
      (λ k few. (reads.cells i within k few).0) (λ k few. (reads.cells i within k few).1))

  spin_same : s.locks.spin ≡ r.locks.spin
  spin_same =
      gets_same s.locks.spin r.locks.spin (shape.lock_count ∙ sym other.lock_count)
      (λ i low. let within : i < devices = omega (arith, low, shape.lock_count) in
      owners_at (slice_get s.locks.spin i) (slice_get r.locks.spin i)
      (λ c is. each_at HasLocks s.locks.spin i c shape.lock_sizes is)
      (λ c is. each_at HasLocks r.locks.spin i c other.lock_sizes is)
      (λ k few. reads.spin i within k few))

  dpcs_same : s.dpcs ≡ r.dpcs
  dpcs_same =
      indexes_same false s.dpcs r.dpcs (shape.dpc_count ∙ sym other.dpc_count)
      (λ i low. reads.dpcs i (omega (arith, low, shape.dpc_count)))

  module _ (rises : Rises 0 s.packets s.issued) (also : Rises 0 r.packets r.issued) where
    found_same : (n : ℕ) → find s.packets n ≡ find r.packets n
    found_same n =
        elim (cases_lt n s.issued) [
          | inl low ↦
              sym (find_place s.packets n) ∙ reads.packets n low ∙ find_place r.packets n
          | inr high ↦
              find_above 0 s.packets s.issued n rises high
              ∙ sym (find_above 0 r.packets r.issued n also (omega (arith, high, reads.issued)))
        ]

    live_same : s.packets ≡ r.packets
    live_same =
        let bounded : Rises 0 r.packets s.issued = rw (sym reads.issued) at also in
        packets_same s.issued 0 s.packets r.packets rises bounded found_same

    pub shared_same : s ≡ r
    shared_same =
        λ k.
        record {
          packets = live_same k;
          issued = reads.issued k;
          locks = record { system_cancel = reads.system_cancel k; spin = spin_same k };
          cells = cells_same k;
          queues = reads.queues k;
          starts = reads.starts k;
          dpcs = dpcs_same k;
        }

-- the worlds of two runs
pub worlds_same : (set other : Set) → IsSound set → IsSound other → (threads more : ℕ)
    (events others : List Event) → (run set threads events).stopped ≡ false
    → (run other more others).stopped ≡ false → length set.devices ≡ length other.devices
    → (run set threads events).world.threads ≡ (run other more others).world.threads
    → SameReads (run set threads events).world.shared (run other more others).world.shared
    (length set.devices)
    → (run set threads events).world ≡ (run other more others).world
worlds_same set other sound also threads more events others on on_too devices same reads =
    let v : World = (run set threads events).world in
    let w : World = (run other more others).world in
    let shape : Shaped (length set.devices) w.shared =
    subst (λ (n : ℕ). Shaped n w.shared) (sym devices) (runs_are_shaped other more others) in
    let shared : v.shared ≡ w.shared =
    shared_same v.shared w.shared (length set.devices) (runs_are_shaped set threads events) shape
    reads (running set sound threads events on).packets.rises
    (running other also more others on_too).packets.rises in
    λ k. record { threads = same k; shared = shared k }

-- the worlds of two machines that show runs
pub one_world : (m n : Machine) (devices others : ℕ) (same reads : Bool)
    → devices ≡ length m.set.devices → IsSound m.set → others ≡ length n.set.devices
    → IsSound n.set → others ≡ devices → (same ≡ true → m.world.threads ≡ n.world.threads)
    → same ≡ true → (reads ≡ true → SameReads m.world.shared n.world.shared devices)
    → reads ≡ true → (threads more : ℕ) (events its : List Event) → ShowsWhole m threads events
    → ShowsWhole n more its → m.stopped ≡ false → n.stopped ≡ false → m.world ≡ n.world
one_world m n devices others same reads count sound also_count also counts alike holds shared read
    threads more events its shows too on on_too =
    let v : World = (run m.set threads events).world in
    let w : World = (run n.set more its).world in
    let first : v.threads ≡ w.threads =
    sym (ap (λ (x : World). x.threads) shows.world) ∙ alike holds
    ∙ ap (λ (x : World). x.threads) too.world in
    let rest : SameReads v.shared w.shared (length m.set.devices) =
    subst (λ (x : World). SameReads x.shared w.shared (length m.set.devices)) shows.world
    (subst (λ (x : World). SameReads m.world.shared x.shared (length m.set.devices)) too.world
    (subst (λ (k : ℕ). SameReads m.world.shared n.world.shared k) count (shared read))) in
    shows.world
    ∙ worlds_same m.set n.set sound also threads more events its (sym shows.stopped ∙ on)
    (sym too.stopped ∙ on_too) (sym count ∙ sym counts ∙ also_count) first rest
    ∙ sym too.world
