-- Each line of a listing is read without a fault where it stands.
use Rattle.std.proofs.Common.{◌≡◌, ℕ, suc, ◌<◌, ◌≤◌, true, false, List, [], ◌∷◌, ◌++◌, length, map, Option, Some, None, refl, ap, sym, ◌∙◌, arith, append-nil}
use Rattle.std.proofs.lemmas.List.{map-append, length-append}
use Rattle.std.proofs.lemmas.List.Folds.{list_any-append}
use Rattle.std.specs.Prelude.{⊤, bytes_eq, option_to_list, is_some, nat_lt, option_map}
use Rattle.std.proofs.lemmas.Bool.Decides.{nat_tests}
use Rattle.model.specs.declared.set.Queue.{Queue}
use Rattle.model.specs.declared.set.Sort.{Sort}
use Rattle.model.specs.declared.set.Sort.TheVariants.{Dispatch}
use Rattle.model.specs.declared.status.Major.TheVariants.{Read, Write, Control}
use Rattle.asm.specs.declared.draft.Place.TheVariants.{Outside, InDriver, InRoutine}
use Rattle.asm.specs.declared.draft.ClosedRoutine.{ClosedRoutine}
use Rattle.asm.specs.declared.draft.QueueLine.{QueueLine}
use Rattle.asm.specs.declared.draft.StartIoLine.{StartIoLine}
use Rattle.asm.specs.declared.names.Use.{Use}
use Rattle.model.specs.declared.instr.Instr.{Instr}
use Rattle.asm.specs.Outline.{Outline, is_among, is_known_label, label_resolved, startio_named, used_at, waiting_named}
use Rattle.asm_line.specs.declared.entry.Entry.TheVariants as line
use Rattle.asm_line.specs.ListedWords.{label, numbered, routine}
use Rattle.asm_line.proofs.Digits.{IsSmall}
use Rattle.asm.proofs.Added.{with_entries}
use Rattle.asm.proofs.Listed.Names.{differ, fresh, length_names, names_from, names_more}
use Rattle.asm.proofs.Listed.Stage.{guarded, no_misfit, one_reaches, read_queue, set_queue, IsAt, Names, Reaches, Shape, Stage}

-- a name more at the end
more : (names : List (List ℕ)) (letter c : ℕ) → names ≡ names_from letter 0 c
    → names ++ numbered letter c ∷ [] ≡ names_from letter 0 (suc c)
more names letter c h =
    ap (λ ns. ns ++ numbered letter c ∷ []) h ∙ names_more letter 0 c c (omega arith)

-- the next name is new, and there is room for it
pub is_new : (names : List (List ℕ)) (letter c : ℕ) → c < 1024 → names ≡ names_from letter 0 c
    → is_among names (numbered letter c) ≡ false
is_new names letter c few h =
    ap (λ ns. is_among ns (numbered letter c)) h
    ∙ fresh letter 0 c c (omega (arith, few)) (omega arith)

pub has_place : (names : List (List ℕ)) (letter c most : ℕ) → c < most
    → names ≡ names_from letter 0 c
    → nat_lt (length names) most ≡ true
has_place names letter c most few h =
    let long : length names ≡ c = ap (λ ns. length ns) h ∙ length_names letter 0 c in
    grind (arith, nat_tests, long, few)

-- `driver`
pub driver_turn : (o : Outline) (n : ℕ) (s : Stage) → IsAt s o → s.place ≡ Outside → s.opened < 8
    → Reaches o n (line.Driver s.opened ∷ [])
    (record s { place = InDriver; opened = suc s.opened })
driver_turn o n s h out few =
    let e = line.Driver s.opened in
    one_reaches o n e (record s { place = InDriver; opened = suc s.opened })
    (no_misfit o e (rw (h.place, out) refl)
    (is_new o.driver_names 100 s.opened (omega (arith, few)) h.drivers.named) refl
    (has_place o.driver_names 100 s.opened 8 few h.drivers.named))
    (record {
      place = refl;
      drivers = record {
        named = more o.driver_names 100 s.opened h.drivers.named;
        shaped = h.drivers.shaped;
      };
      devices = h.devices;
      routines = h.routines;
      queues = h.queues;
      read = h.read;
      write = h.write;
      control = h.control;
      startio = h.startio;
      waiting = h.waiting;
      dpc = h.dpc;
      sort = λ is. cc;
      steps = h.steps;
    })

pub longer : {A : Type 0} (xs : List A) (x : A) → length (xs ++ x ∷ []) ≡ suc (length xs)
longer xs x = let long = length-append xs (x ∷ []) in omega (arith, long)

-- a name more, of a thing more
pub more_of : {A : Type 0} (names : List (List ℕ)) (letter : ℕ) (xs : List A) (x : A)
    → names ≡ names_from letter 0 (length xs)
    → names ++ numbered letter (length xs) ∷ [] ≡ names_from letter 0 (length (xs ++ x ∷ []))
more_of names letter xs x h =
    more names letter (length xs) h ∙ ap (λ c. names_from letter 0 c) (sym (longer xs x))

used_name : (n : ℕ) (name : Option (List ℕ)) → option_map (λ (u : Use). u.name) (used_at n name)
    ≡ name
used_name n None = refl
used_name n (Some name) = refl

-- `queue`
pub queue_turn : (o : Outline) (n : ℕ) (s : Stage) (q : Queue) → IsAt s o → s.place ≡ InDriver
    → length s.current.queues < 4 → Reaches o n (line.Queue (length s.current.queues) q ∷ [])
    (record s { current = record s.current { queues = s.current.queues ++ q ∷ [] } })
queue_turn o n s q h inside few =
    let k = length s.current.queues in
    let e = line.Queue k q in
    let u = used_at n (option_map routine q.cancel) in
    let l : QueueLine = record { guard = q.guard; cancel = u } in
    let same : map read_queue (o.queues ++ l ∷ []) ≡ map set_queue (s.current.queues ++ q ∷ []) =
    map-append read_queue o.queues (l ∷ [])
    ∙ ap (λ qs. qs ++ read_queue l ∷ []) h.queues.same
    ∙ ap (λ (c : Option (List ℕ)). map set_queue s.current.queues ++ guarded q.guard c ∷ [])
    (used_name n (option_map routine q.cancel))
    ∙ sym (map-append set_queue s.current.queues (q ∷ [])) in
    one_reaches o n e
    (record s { current = record s.current { queues = s.current.queues ++ q ∷ [] } })
    (no_misfit o e (rw (h.place, inside) refl)
    (is_new o.queue_names 113 k (omega (arith, few)) h.queues.named) refl
    (has_place o.queue_names 113 k 4 few h.queues.named))
    (record {
      place = h.place;
      drivers = h.drivers;
      devices = h.devices;
      routines = h.routines;
      queues = record {
        named = more_of o.queue_names 113 s.current.queues q h.queues.named;
        same = same;
      };
      read = h.read;
      write = h.write;
      control = h.control;
      startio = h.startio;
      waiting = h.waiting;
      dpc = h.dpc;
      sort = h.sort;
      steps = h.steps;
    })

-- nothing is named yet
none_named : (u : Option Use) (number : Option ℕ) → Names u number → number ≡ None
    → is_some u ≡ false
none_named None number h none = refl
none_named (Some u) number h none =
    let bad : Some u.name ≡ None = h ∙ ap (λ (k : Option ℕ). option_map routine k) none in cc

none_started : (l : Option StartIoLine) (number : Option ℕ) → Names (startio_named l) number
    → number ≡ None → is_some l ≡ false
none_started None number h none = refl
none_started (Some l) number h none = none_named (Some l.routine) number h none

-- only the table of the open driver changes
entries_at : (s : Stage) (o : Outline) (read write control : Option Use)
    (startio : Option StartIoLine) (dpc : Option Use) (given : Shape) → IsAt s o
    → given.sorts ≡ s.current.sorts → given.queues ≡ s.current.queues → Names read given.read
    → Names write given.write → Names control given.control
    → Names (startio_named startio) given.startio
    → Names (waiting_named startio) given.startio_cancel → Names dpc given.dpc
    → IsAt (record s { current = given }) (with_entries o read write control startio dpc)
entries_at s o read write control startio dpc given h sorts queues first second third fourth fifth
    last =
    record {
      place = h.place;
      drivers = h.drivers;
      devices = h.devices;
      routines = rw sorts h.routines;
      queues = rw queues h.queues;
      read = first;
      write = second;
      control = third;
      startio = fourth;
      waiting = fifth;
      dpc = last;
      sort = h.sort;
      steps = h.steps;
    }

pub read_turn : (o : Outline) (n : ℕ) (s : Stage) (r : ℕ) → IsAt s o → s.place ≡ InDriver
    → s.current.read ≡ None → Reaches o n (line.Handler Read r ∷ [])
    (record s { current = record s.current { read = Some r } })
read_turn o n s r h inside none =
    let e = line.Handler Read r in
    one_reaches o n e (record s { current = record s.current { read = Some r } })
    (no_misfit o e (rw (h.place, inside) refl)
    (none_named o.read s.current.read h.read none) refl refl)
    (entries_at s o _ o.write o.control o.startio o.dpc (record s.current { read = Some r }) h
    refl refl refl h.write h.control h.startio h.waiting h.dpc)

pub write_turn : (o : Outline) (n : ℕ) (s : Stage) (r : ℕ) → IsAt s o → s.place ≡ InDriver
    → s.current.write ≡ None → Reaches o n (line.Handler Write r ∷ [])
    (record s { current = record s.current { write = Some r } })
write_turn o n s r h inside none =
    let e = line.Handler Write r in
    one_reaches o n e (record s { current = record s.current { write = Some r } })
    (no_misfit o e (rw (h.place, inside) refl)
    (none_named o.write s.current.write h.write none) refl refl)
    (entries_at s o o.read _ o.control o.startio o.dpc (record s.current { write = Some r }) h
    refl refl h.read refl h.control h.startio h.waiting h.dpc)

pub control_turn : (o : Outline) (n : ℕ) (s : Stage) (r : ℕ) → IsAt s o → s.place ≡ InDriver
    → s.current.control ≡ None → Reaches o n (line.Handler Control r ∷ [])
    (record s { current = record s.current { control = Some r } })
control_turn o n s r h inside none =
    let e = line.Handler Control r in
    one_reaches o n e (record s { current = record s.current { control = Some r } })
    (no_misfit o e (rw (h.place, inside) refl)
    (none_named o.control s.current.control h.control none) refl refl)
    (entries_at s o o.read o.write _ o.startio o.dpc (record s.current { control = Some r }) h
    refl refl h.read h.write refl h.startio h.waiting h.dpc)

pub startio_turn : (o : Outline) (n : ℕ) (s : Stage) (r : ℕ) (cancel : Option ℕ) → IsAt s o
    → s.place ≡ InDriver → s.current.startio ≡ None → Reaches o n (line.StartIo r cancel ∷ [])
    (record s { current = record s.current { startio = Some r; startio_cancel = cancel } })
startio_turn o n s r cancel h inside none =
    let e = line.StartIo r cancel in
    let given = record s.current { startio = Some r; startio_cancel = cancel } in
    one_reaches o n e (record s { current = given })
    (no_misfit o e (rw (h.place, inside) refl)
    (none_started o.startio s.current.startio h.startio none) refl refl)
    (entries_at s o o.read o.write o.control _ o.dpc given h
    refl refl h.read h.write h.control refl (used_name n (option_map routine cancel)) h.dpc)

pub dpc_turn : (o : Outline) (n : ℕ) (s : Stage) (r : ℕ) → IsAt s o → s.place ≡ InDriver
    → s.current.dpc ≡ None → Reaches o n (line.Dpc r ∷ [])
    (record s { current = record s.current { dpc = Some r } })
dpc_turn o n s r h inside none =
    let e = line.Dpc r in
    one_reaches o n e (record s { current = record s.current { dpc = Some r } })
    (no_misfit o e (rw (h.place, inside) refl)
    (none_named o.dpc s.current.dpc h.dpc none) refl refl)
    (entries_at s o o.read o.write o.control o.startio _ (record s.current { dpc = Some r }) h
    refl refl h.read h.write h.control h.startio h.waiting refl)

-- `routine`
pub routine_turn : (o : Outline) (n : ℕ) (s : Stage) (sort : Sort) → IsAt s o
    → s.place ≡ InDriver → length s.current.sorts < 32
    → Reaches o n (line.Routine (length s.current.sorts) sort ∷ [])
    (record s {
      place = InRoutine;
      current = record s.current { sorts = s.current.sorts ++ sort ∷ [] };
      sort = sort;
    })
routine_turn o n s sort h inside few =
    let k = length s.current.sorts in
    let e = line.Routine k sort in
    one_reaches o n e
    (record s {
      place = InRoutine;
      current = record s.current { sorts = s.current.sorts ++ sort ∷ [] };
      sort = sort;
    })
    (no_misfit o e (rw (h.place, inside) refl)
    (is_new o.routine_names 102 k (omega (arith, few)) h.routines.named) refl
    (has_place o.routine_names 102 k 32 few h.routines.named))
    (record {
      place = refl;
      drivers = h.drivers;
      devices = h.devices;
      routines = record {
        named = more_of o.routine_names 102 s.current.sorts sort h.routines.named;
        same = ap (λ ss. ss ++ sort ∷ []) h.routines.same;
        sorted = h.routines.sorted;
      };
      queues = h.queues;
      read = h.read;
      write = h.write;
      control = h.control;
      startio = h.startio;
      waiting = h.waiting;
      dpc = h.dpc;
      sort = λ is. refl;
      steps = h.steps;
    })

-- a label is of its own position
abbrev pub OwnLabel : Option ℕ → ℕ → Type 0
OwnLabel None position = ⊤
OwnLabel (Some p) position = p ≡ position

label_new : (labels : List (List ℕ)) (at : Option ℕ) (position : ℕ) → OwnLabel at position
    → position < 1024
    → ((p : ℕ) → IsSmall p → position ≤ p → is_among labels (label p) ≡ false)
    → is_known_label labels (option_map label at) ≡ false
label_new labels None position own few new = refl
label_new labels (Some p) position own few new =
    new p (omega (arith, own, few)) (omega (arith, own))

labels_on : (labels : List (List ℕ)) (at : Option ℕ) (position : ℕ) → OwnLabel at position
    → position < 1024
    → ((p : ℕ) → IsSmall p → position ≤ p → is_among labels (label p) ≡ false)
    → (p : ℕ) → IsSmall p → suc position ≤ p
    → is_among (labels ++ option_to_list (option_map label at)) (label p) ≡ false
labels_on labels None position own few new p small past =
    ap (λ ls. is_among ls (label p)) (append-nil labels) ∙ new p small (omega (arith, past))
labels_on labels (Some q) position own few new p small past =
    list_any-append (bytes_eq (label p)) labels (label q ∷ [])
    ∙ rw (
      new p small (omega (arith, past)),
      differ 97 p q small (omega (arith, own, few)) (λ is. absurd (omega (arith, is, own, past))),
    )
    refl

-- an instruction
pub step_turn : (o : Outline) (n : ℕ) (s : Stage) (at : Option ℕ) (i : Instr) → IsAt s o
    → s.place ≡ InRoutine → s.position < 1024 → OwnLabel at s.position
    → Reaches o n (line.Step at i ∷ []) (record s { position = suc s.position })
step_turn o n s at i h inside few own =
    let e = line.Step at i in
    one_reaches o n e (record s { position = suc s.position })
    (no_misfit o e (rw (h.place, inside) refl)
    (label_new o.labels at s.position own few h.steps.new) refl
    (let many = h.steps.many in grind (arith, nat_tests, many, few)))
    (record {
      place = h.place;
      drivers = h.drivers;
      devices = h.devices;
      routines = h.routines;
      queues = h.queues;
      read = h.read;
      write = h.write;
      control = h.control;
      startio = h.startio;
      waiting = h.waiting;
      dpc = h.dpc;
      sort = h.sort;
      steps = record {
        new = labels_on o.labels at s.position own few h.steps.new;
        many = longer o.steps _ ∙ ap (λ n. suc n) h.steps.many;
      };
    })

-- `endr`
pub end_routine_turn : (o : Outline) (n : ℕ) (s : Stage) → IsAt s o → s.place ≡ InRoutine
    → Reaches o n (line.EndRoutine ∷ [])
    (record s { place = InDriver; closed = s.closed ++ s.sort ∷ []; sort = Dispatch; position = 0 })
end_routine_turn o n s h inside =
    let e = line.EndRoutine in
    let r : ClosedRoutine =
    record { sort = o.sort; code = map (label_resolved o.labels o.positions) o.steps } in
    one_reaches o n e
    (record s { place = InDriver; closed = s.closed ++ s.sort ∷ []; sort = Dispatch; position = 0 })
    (no_misfit o e (rw (h.place, inside) refl) refl refl refl)
    (record {
      place = refl;
      drivers = h.drivers;
      devices = h.devices;
      routines = record {
        named = h.routines.named;
        same = h.routines.same;
        sorted =
            map-append (λ (r : ClosedRoutine). r.sort) o.routines (r ∷ [])
            ∙ ap (λ ss. ss ++ o.sort ∷ []) h.routines.sorted
            ∙ ap (λ x. s.closed ++ x ∷ []) (h.sort inside);
      };
      queues = h.queues;
      read = h.read;
      write = h.write;
      control = h.control;
      startio = h.startio;
      waiting = h.waiting;
      dpc = h.dpc;
      sort = λ is. cc;
      steps = record { new = λ p small past. refl; many = refl };
    })
