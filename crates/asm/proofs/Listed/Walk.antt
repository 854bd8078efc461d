-- The lines of a listing are read without a fault, part by part.
use Rattle.std.proofs.Common.{◌≡◌, ℕ, suc, ◌+◌, ◌<◌, ◌≤◌, Bool, true, false, List, [], ◌∷◌, ◌++◌, length, Option, Some, None, refl, sym, ◌∙◌, subst, arith, append_assoc, append-nil}
use Rattle.std.specs.Prelude.{if◌then◌else◌}
use Rattle.std.specs.List.{list_any}
use Rattle.model.specs.declared.instr.Instr.{Instr}
use Rattle.model.specs.declared.set.Driver.{Driver}
use Rattle.model.specs.declared.set.Queue.{Queue}
use Rattle.model.specs.declared.set.Routine.{Routine}
use Rattle.model.specs.declared.set.Sort.{Sort}
use Rattle.model.specs.declared.status.Major.TheVariants.{Read, Write, Control}
use Rattle.model.specs.Sound.{WaitingFits}
use Rattle.asm.specs.declared.draft.Place.TheVariants.{InRoutine}
use Rattle.asm.specs.Outline.{Outline}
use Rattle.asm_line.specs.declared.entry.Entry.{Entry}
use Rattle.asm_line.specs.declared.entry.Entry.TheVariants as line
use Rattle.asm_line.specs.Listing.{jumps_to, label_at, listed, naming, queue_lines, routine_lines, starting, step_lines, table_lines}
use Rattle.asm.proofs.Listed.Stage.{inside, no_shape, none_reaches, shape_of, then_reaches, IsAt, Reaches, Shape, Stage}
use Rattle.asm.proofs.Listed.Turns.{control_turn, dpc_turn, end_routine_turn, longer, queue_turn, read_turn, routine_turn, startio_turn, step_turn, write_turn, OwnLabel}

-- the queues of a driver
pub queues_walk : (o : Outline) (n : ℕ) (opened : ℕ) (ds : List Shape) (c : Shape) (k : ℕ)
    (qs all : List Queue) → IsAt (inside opened ds c []) o → k ≡ length c.queues
    → k + length qs ≤ 4 → all ≡ c.queues ++ qs
    → Reaches o n (listed queue_lines k qs) (inside opened ds (record c { queues = all }) [])
queues_walk o n opened ds c k [] all h is few whole =
    let same : all ≡ c.queues = whole ∙ append-nil c.queues in
    none_reaches o n (inside opened ds (record c { queues = all }) [])
    (subst (λ qs. IsAt (inside opened ds (record c { queues = qs }) []) o) (sym same) h)
queues_walk o n opened ds c k (q ∷ qs) all h is few whole =
    let next = record c { queues = c.queues ++ q ∷ [] } in
    let count : length c.queues < 4 = omega (arith, is, few) in
    then_reaches o n (line.Queue k q ∷ []) (listed queue_lines (k + 1) qs)
    (inside opened ds next []) (inside opened ds (record c { queues = all }) [])
    (rw is (queue_turn o n (inside opened ds c []) q h refl count))
    (λ mid m at. queues_walk mid m opened ds next (k + 1) qs all at
    (let long = longer c.queues q in omega (arith, is, long)) (omega (arith, few))
    (whole ∙ sym (append_assoc c.queues (q ∷ []) qs)))

-- a line of the table of a driver, if there is one
entry_walk : (o : Outline) (n : ℕ) (names : ℕ → Entry) (stage : Option ℕ → Stage)
    (number : Option ℕ) → IsAt (stage None) o
    → ((r : ℕ) → Reaches o n (names r ∷ []) (stage (Some r)))
    → Reaches o n (naming names number) (stage number)
entry_walk o n names stage None h one = none_reaches o n (stage None) h
entry_walk o n names stage (Some r) h one = one r

-- the `startio` line; without one nothing waits for a packet's cancel routine
startio_walk : (o : Outline) (n : ℕ) (stage : Option ℕ → Option ℕ → Stage) (rs : List Routine)
    (startio cancel : Option ℕ) → WaitingFits rs startio cancel → IsAt (stage None None) o
    → ((r : ℕ) → Reaches o n (line.StartIo r cancel ∷ []) (stage (Some r) cancel))
    → Reaches o n (naming (starting cancel) startio) (stage startio cancel)
startio_walk o n stage rs None None fits h one = none_reaches o n (stage None None) h
startio_walk o n stage rs None (Some c) fits h one = absurd fits
startio_walk o n stage rs (Some r) cancel fits h one = one r

pub table_walk : (o : Outline) (n : ℕ) (opened : ℕ) (ds : List Shape) (qs : List Queue) (d : Driver)
    → WaitingFits d.routines d.startio d.startio_cancel
    → IsAt (inside opened ds (record no_shape { queues = qs }) []) o
    → Reaches o n (table_lines d)
    (inside opened ds (record (shape_of d) { sorts = []; queues = qs }) [])
table_walk o n opened ds qs d fits h =
    let at : Shape → Stage = λ c. inside opened ds c [] in
    let c0 = record no_shape { queues = qs } in
    let c1 = record c0 { read = d.read } in
    let c2 = record c1 { write = d.write } in
    let c3 = record c2 { control = d.control } in
    let c4 = record c3 { startio = d.startio; startio_cancel = d.startio_cancel } in
    let c5 = record c4 { dpc = d.dpc } in
    let read = naming (line.Handler Read) d.read in
    let write = naming (line.Handler Write) d.write in
    let control = naming (line.Handler Control) d.control in
    let startio = naming (starting d.startio_cancel) d.startio in
    let dpc = naming line.Dpc d.dpc in
    then_reaches o n read (write ++ (control ++ (startio ++ dpc))) (at c1) (at c5)
    (entry_walk o n (line.Handler Read) (λ x. at (record c0 { read = x })) d.read h
    (λ r. read_turn o n (at c0) r h refl refl))
    (λ o1 n1 h1. then_reaches o1 n1 write (control ++ (startio ++ dpc)) (at c2) (at c5)
    (entry_walk o1 n1 (line.Handler Write) (λ x. at (record c1 { write = x })) d.write h1
    (λ r. write_turn o1 n1 (at c1) r h1 refl refl))
    (λ o2 n2 h2. then_reaches o2 n2 control (startio ++ dpc) (at c3) (at c5)
    (entry_walk o2 n2 (line.Handler Control) (λ x. at (record c2 { control = x })) d.control h2
    (λ r. control_turn o2 n2 (at c2) r h2 refl refl))
    (λ o3 n3 h3. then_reaches o3 n3 startio dpc (at c4) (at c5)
    (startio_walk o3 n3 (λ x y. at (record c3 { startio = x; startio_cancel = y })) d.routines
    d.startio d.startio_cancel fits h3
    (λ r. startio_turn o3 n3 (at c3) r d.startio_cancel h3 refl refl))
    (λ o4 n4 h4. entry_walk o4 n4 line.Dpc (λ x. at (record c4 { dpc = x })) d.dpc h4
    (λ r. dpc_turn o4 n4 (at c4) r h4 refl refl)))))

own_label : (b : Bool) (p : ℕ) → OwnLabel (if b then Some p else None) p
own_label true p = refl
own_label false p = tt

-- the instructions of a routine
steps_walk : (o : Outline) (n : ℕ) (s : Stage) (code : List Instr) (p : ℕ) (is : List Instr)
    (end : ℕ) → IsAt s o → s.place ≡ InRoutine → p ≡ s.position → p + length is ≤ 1024
    → end ≡ p + length is
    → Reaches o n (listed (step_lines code) p is) (record s { position = end })
steps_walk o n s code p [] end h at is few whole =
    let same : s.position ≡ end = omega (arith, is, whole) in
    none_reaches o n (record s { position = end })
    (subst (λ x. IsAt (record s { position = x }) o) same h)
steps_walk o n s code p (i ∷ more) end h at is few whole =
    let next = record s { position = suc s.position } in
    let e = line.Step (label_at code p) i in
    let own : OwnLabel (label_at code p) s.position =
    subst (λ x. OwnLabel (label_at code p) x) is (own_label (list_any (jumps_to p) code) p) in
    then_reaches o n (e ∷ []) (listed (step_lines code) (p + 1) more) next
    (record s { position = end })
    (step_turn o n s (label_at code p) i h at (omega (arith, is, few)) own)
    (λ mid m there. steps_walk mid m next code (p + 1) more end there at (omega (arith, is))
    (omega (arith, few)) (omega (arith, whole)))

-- a routine
pub routine_walk : (o : Outline) (n : ℕ) (opened : ℕ) (ds : List Shape) (c : Shape)
    (closed : List Sort)
    (k : ℕ) (r : Routine) → IsAt (inside opened ds c closed) o → k ≡ length c.sorts
    → length c.sorts < 32 → length r.code ≤ 1024
    → Reaches o n (routine_lines k r)
    (inside opened ds (record c { sorts = c.sorts ++ r.sort ∷ [] }) (closed ++ r.sort ∷ []))
routine_walk o n opened ds c closed k r h is few short =
    let s0 = inside opened ds c closed in
    let c1 = record c { sorts = c.sorts ++ r.sort ∷ [] } in
    let s1 = record s0 { place = InRoutine; current = c1; sort = r.sort } in
    let s2 = record s1 { position = length r.code } in
    let steps = listed (step_lines r.code) 0 r.code in
    let last = inside opened ds c1 (closed ++ r.sort ∷ []) in
    then_reaches o n (line.Routine k r.sort ∷ []) (steps ++ line.EndRoutine ∷ []) s1 last
    (rw is (routine_turn o n s0 r.sort h refl few))
    (λ o1 n1 h1. then_reaches o1 n1 steps (line.EndRoutine ∷ []) s2 last
    (steps_walk o1 n1 s1 r.code 0 r.code (length r.code) h1 refl refl (omega (arith, short))
    (omega arith))
    (λ o2 n2 h2. end_routine_turn o2 n2 s2 h2 refl))
