-- Registers, jumps, loops, cells and locks: an instruction that looks at no packet and at no list
-- does to what slots mean what it does to them.
use Rattle.std.proofs.Common.{◌≡◌, ℕ, Bool, true, false, List, [], ◌∷◌, Option, None, Some, refl, sym, ◌∙◌, ap, subst, nat_lt, inl, inr}
use Rattle.std.specs.Prelude.{slice_index_or, if◌then◌else◌}
use Rattle.std.proofs.lemmas.Bool.Decides.{eqb_tells}
use Rattle.model.specs.declared.event.Lock.{Lock}
use Rattle.model.specs.declared.world.Activation.{Activation}
use Rattle.model.specs.declared.world.Cells.{Cells}
use Rattle.model.specs.declared.world.OpenLoop.{OpenLoop}
use Rattle.model.specs.declared.world.Value.{Value}
use Rattle.model.specs.declared.world.Value.TheVariants.{Num}
use Rattle.model.specs.Action.{Action, Acquires, Releases, TouchesPaged}
use Rattle.model.specs.Effect.{Outcome, acquire_effect, acquire_owned, end_effect, goes_wrong, jump_effect, load_effect, load_paged_effect, loop_effect, number_effect, release_effect, store_effect, store_paged_effect, turned, waits}
use Rattle.model.specs.Effect as effect
use Rattle.model.specs.World.{Locks, Shared, at_label, next, with_cells, with_locks, with_loops, with_owner, with_register}
use Rattle.laws_slots.specs.Rep.{MeansShared, meant_routine, meant_value}
use Rattle.laws_slots.specs.Slots.{SlotShared, with_slot_cells, with_slot_locks}
use Rattle.laws_slots.specs.SlotStep.{SlotOutcome, acquire_step, end_step, goes_on, jump_step, load_paged_step, load_step, release_step, store_paged_step, store_step, value_step}
use Rattle.laws_slots.proofs.Outcomes.{GoesRight, MeansOutcome, kept_slots, on, same_slots}
use Rattle.laws_slots.proofs.Words.{Tells, written_meant}

module _ (name : ℕ → ℕ) (s : SlotShared) (r : Shared) (means : MeansShared name s r)
    (a : Activation) where
  abbrev pub b : Activation
  b = meant_routine name a

  abbrev Means : SlotOutcome → Outcome → Type 0
  Means p o = MeansOutcome name s p o

  -- it goes on, with nothing but itself changed
  pub goes : (c d : Activation) (actions : List Action) → meant_routine name c ≡ d
      → Means (goes_on s c) (effect.goes_on r d actions)
  goes c d actions is = on name s s r c d actions means (same_slots name s) is

  pub sets : (i : ℕ) (v : Value) (u : Value) (actions : List Action) → meant_value name v ≡ u
      → Means (value_step s a i v) (effect.goes_on r (next (with_register b i u)) actions)
  sets i v u actions is =
      goes (next (with_register a i v)) (next (with_register b i u)) actions
      (ap next (written_meant name a i v) ∙ ap (λ (x : Value). next (with_register b i x)) is)

  pub numbers : (i n : ℕ) (o : Option ℕ) → Tells o n → GoesRight (number_effect r b i o)
      → Means (value_step s a i (Num n)) (number_effect r b i o)
  numbers i n None tells right = cc
  numbers i n (Some m) tells right =
      sets i (Num n) (Num m) [] (ap (λ (x : ℕ). Num x) (sym (tells m refl)))

  pub jumps_or_not : (label : ℕ) (jumps : Bool) (actions : List Action)
      → Means (jump_step s a label jumps)
      (effect.goes_on r (if jumps then at_label b label else next b) actions)
  jumps_or_not label true actions = goes (at_label a label) (at_label b label) actions refl
  jumps_or_not label false actions = goes (next a) (next b) actions refl

  pub jumps : (label : ℕ) (jumped : Bool) (o : Option Bool) → Tells o jumped
      → GoesRight (jump_effect r b label o)
      → Means (jump_step s a label jumped) (jump_effect r b label o)
  jumps label jumped None tells right = cc
  jumps label jumped (Some does) tells right =
      subst (λ (x : Bool). Means (jump_step s a label x) (jump_effect r b label (Some does)))
      (tells does refl) (jumps_or_not label does [])

  -- loops
  pub opens_if : (loops : List OpenLoop) (few : Bool)
      → GoesRight (if few then effect.goes_on r (next (with_loops b loops)) [] else goes_wrong r b)
      → Means (goes_on s (next (with_loops a loops)))
      (if few then effect.goes_on r (next (with_loops b loops)) [] else goes_wrong r b)
  opens_if loops true right = goes (next (with_loops a loops)) (next (with_loops b loops)) [] refl
  opens_if loops false right = cc

  turned_meant : (l : OpenLoop) (more : Bool) → nat_lt 1 l.turns ≡ more
      → meant_routine name (turned a l) ≡ turned b l
  turned_meant l true is = rw is refl
  turned_meant l false is = rw is refl

  pub turns : (o : Option OpenLoop) → GoesRight (end_effect r b o)
      → Means (end_step s a o) (end_effect r b o)
  turns None right = cc
  turns (Some l) right =
      goes (turned a l) (turned b l) [] (turned_meant l (nat_lt 1 l.turns) refl)

  -- cells
  pub loads : (i c : ℕ) (o : Option Cells) → GoesRight (load_effect r b i c o)
      → Means (load_step s a i c o) (load_effect r b i c o)
  loads i c None right = cc
  loads i c (Some cells) right =
      sets i (Num (slice_index_or cells.plain c 0)) (Num (slice_index_or cells.plain c 0)) _ refl

  pub loads_paged : (i c : ℕ) (o : Option Cells) → GoesRight (load_paged_effect r b i c o)
      → Means (load_paged_step s a i c o) (load_paged_effect r b i c o)
  loads_paged i c None right = cc
  loads_paged i c (Some cells) right =
      sets i (Num (slice_index_or cells.paged c 0)) (Num (slice_index_or cells.paged c 0)) _ refl

  cells_put : (cells : Cells)
      → MeansShared name (with_slot_cells s a.device cells) (with_cells r a.device cells)
  cells_put cells =
      record {
        packets = means.packets;
        issued = means.issued;
        locks = means.locks;
        cells = rw means.cells refl;
        queues = means.queues;
        starts = means.starts;
        dpcs = means.dpcs;
      }

  cells_written : (cells : Cells) (m n : ℕ) → m ≡ n → (f : Cells → ℕ → ℕ → Cells) (c : ℕ)
      (actions : List Action)
      → Means (goes_on (with_slot_cells s a.device (f cells c n)) (next a))
      (effect.goes_on (with_cells r a.device (f cells c m)) (next b) actions)
  cells_written cells m n is f c actions =
      subst (λ (x : ℕ). Means (goes_on (with_slot_cells s a.device (f cells c x)) (next a))
      (effect.goes_on (with_cells r a.device (f cells c m)) (next b) actions)) is
      (on name s (with_slot_cells s a.device (f cells c m)) (with_cells r a.device (f cells c m))
      (next a) (next b) actions (cells_put (f cells c m))
      (kept_slots name s (with_slot_cells s a.device (f cells c m)) refl refl refl) refl)

  pub stores : (c n : ℕ) (o : Option ℕ) (p : Option Cells) → Tells o n
      → GoesRight (store_effect r b c o p)
      → Means (store_step s a c n p) (store_effect r b c o p)
  stores c n None p tells right = cc
  stores c n (Some m) None tells right = cc
  stores c n (Some m) (Some cells) tells right =
      cells_written cells m n (tells m refl) effect.stored c []

  pub stores_paged : (c n : ℕ) (o : Option ℕ) (p : Option Cells) → Tells o n
      → GoesRight (store_paged_effect r b c o p)
      → Means (store_paged_step s a c n p) (store_paged_effect r b c o p)
  stores_paged c n None p tells right = cc
  stores_paged c n (Some m) None tells right = cc
  stores_paged c n (Some m) (Some cells) tells right =
      cells_written cells m n (tells m refl) effect.stored_paged c
      (TouchesPaged (effect.cell_of b c) ∷ [])

  -- locks
  locks_put : (one other : Locks) → one ≡ other
      → MeansShared name (with_slot_locks s one) (with_locks r other)
  locks_put one other is =
      record {
        packets = means.packets;
        issued = means.issued;
        locks = is;
        cells = means.cells;
        queues = means.queues;
        starts = means.starts;
        dpcs = means.dpcs;
      }

  owned : (lock : Lock) (owner : Option ℕ) (c : Activation) (actions : List Action)
      → Means (goes_on (with_slot_locks s (with_owner s.locks lock owner)) c)
      (effect.goes_on (with_locks r (with_owner r.locks lock owner)) (meant_routine name c) actions)
  owned lock owner c actions =
      let one : Locks = with_owner s.locks lock owner in
      let other : Locks = with_owner r.locks lock owner in
      on name s (with_slot_locks s one) (with_locks r other) c (meant_routine name c) actions
      (locks_put one other (ap (λ (x : Locks). with_owner x lock owner) means.locks))
      (kept_slots name s (with_slot_locks s one) refl refl refl) refl

  -- no thread takes a lock that it owns
  pub takes : (t : ℕ) (lock : Lock) (o : Option (Option ℕ)) → (o ≡ Some (Some t) → ⊥)
      → GoesRight (acquire_effect r t b lock o)
      → Means (acquire_step s t a lock o) (acquire_effect r t b lock o)
  takes t lock None free right = cc
  takes t lock (Some None) free right = owned lock (Some t) (next a) (Acquires lock ∷ [])
  takes t lock (Some (Some owner)) free right =
      elim (eqb_tells owner t) [
        | inl own ↦ absurd (free (ap (λ (x : ℕ). Some (Some x)) own.1))
        | inr other ↦ rw other.0 (record {
          shared = means;
          frames = refl;
          reply = refl;
          taken = refl;
          told = refl;
          same = same_slots name s;
          cancels = (tt, tt);
        })
      ]

  pub frees : (lock : Lock) (o : Option (Option ℕ)) → GoesRight (release_effect r b lock o)
      → Means (release_step s a lock) (release_effect r b lock o)
  frees lock None right = cc
  frees lock (Some owner) right = owned lock None (next a) (Releases lock ∷ [])
