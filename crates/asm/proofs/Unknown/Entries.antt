-- The lines of table entries and queues, which name routines.
use Rattle.std.proofs.Common.{◌≡◌, ℕ, ◌+◌, ◌<◌, ◌&&◌, Bool, false, List, [], ◌∷◌, Option, Some, None, IfSome, refl, ap, sym, ◌∙◌, append_assoc}
use Rattle.std.specs.Prelude.{is_some, if◌then◌else◌}
use Rattle.model.specs.declared.status.Major.{Major}
use Rattle.model.specs.declared.status.Major.TheVariants.{Read, Write, Control}
use Rattle.model.specs.declared.set.Sort.{Sort}
use Rattle.asm.specs.declared.draft.QueueLine.{QueueLine}
use Rattle.asm.specs.declared.draft.StartIoLine.{StartIoLine}
use Rattle.asm.specs.declared.names.Use.{Use}
use Rattle.asm_line.specs.declared.line.Body.TheVariants.{AddQueue, Handle, HandleStartIo, HandleDpc}
use Rattle.asm_line.specs.declared.line.Line.{Line}
use Rattle.asm.specs.declared.roles.Role.TheVariants.{Handler, StartIo, Dpc, Cancel}
use Rattle.asm.specs.Outline.{Outline, dpc_handled, earliest, handled, handler_of, has_routine, missed_cancels, missed_entry, missed_handler, missed_server, missed_startio, missed_use, queue_added, startio_handled, used_at}
use Rattle.asm.proofs.Scopes.{is_served, unknown_from}
use Rattle.asm.proofs.Unknown.Earliest.{earliest_none, earliest_assoc, earliest_comm, earliest_swap, both_count, use_counts}
use Rattle.asm.proofs.Unknown.Missed.{calling, queueing, pending, jumping, cancels_push, routine_missed}
use Rattle.asm.proofs.Unknown.Turn.{rest_later, Names, names_of, Around, scope_of, left, Turn}
use Rattle.asm.proofs.Added.{with_entries}
use Rattle.asm.proofs.Tidy.{IsIdle}

-- a line among those of the table entries is weighed first as well
third : (a b line rest : Option ℕ)
    → earliest a (earliest b (earliest line rest)) ≡ earliest line (earliest a (earliest b rest))
third a b line rest = ap (earliest a) (earliest_swap b line rest)
    ∙ earliest_swap a line (earliest b rest)

fourth : (a b c line rest : Option ℕ)
    → earliest a (earliest b (earliest c (earliest line rest)))
    ≡ earliest line (earliest a (earliest b (earliest c rest)))
fourth a b c line rest = ap (earliest a) (third b c line rest)
    ∙ earliest_swap a line (earliest b (earliest c rest))

-- the entry that a line gives was none, so its line is weighed beside the others
handler_joins : (names : List (List ℕ)) (sorts : List Sort) (o : Outline) (u : Use) (major : Major)
    → handler_of o major ≡ None
    → missed_handler names sorts (handled o u major)
    ≡ earliest (missed_use names sorts Handler u) (missed_handler names sorts o)
handler_joins names sorts o u Read none = rw none refl
handler_joins names sorts o u Write none =
    let rest = earliest (missed_entry names sorts Handler o.control)
    (earliest (missed_startio names sorts o.startio) (missed_entry names sorts Dpc o.dpc)) in
    rw none (earliest_swap (missed_entry names sorts Handler o.read)
    (missed_use names sorts Handler u) rest)
handler_joins names sorts o u Control none =
    let rest = earliest (missed_startio names sorts o.startio)
    (missed_entry names sorts Dpc o.dpc) in
    rw none (third (missed_entry names sorts Handler o.read)
    (missed_entry names sorts Handler o.write) (missed_use names sorts Handler u) rest)

startio_joins : (names : List (List ℕ)) (sorts : List Sort) (o : Outline) (u : Use)
    (cancel : Option Use) → o.startio ≡ None
    → missed_handler names sorts (startio_handled o u cancel)
    ≡ earliest
    (earliest (missed_use names sorts StartIo u) (missed_entry names sorts Cancel cancel))
    (missed_handler names sorts o)
startio_joins names sorts o u cancel none =
    rw none (fourth (missed_entry names sorts Handler o.read)
    (missed_entry names sorts Handler o.write) (missed_entry names sorts Handler o.control)
    (earliest (missed_use names sorts StartIo u) (missed_entry names sorts Cancel cancel))
    (missed_entry names sorts Dpc o.dpc))

dpc_joins : (names : List (List ℕ)) (sorts : List Sort) (o : Outline) (u : Use) → o.dpc ≡ None
    → missed_handler names sorts (dpc_handled o u)
    ≡ earliest (missed_use names sorts Dpc u) (missed_handler names sorts o)
dpc_joins names sorts o u none =
    let read = missed_entry names sorts Handler o.read in
    let write = missed_entry names sorts Handler o.write in
    let control = missed_entry names sorts Handler o.control in
    let startio = missed_startio names sorts o.startio in
    let line = missed_use names sorts Dpc u in
    rw (none, earliest_none startio)
    (ap (λ (x : Option ℕ). earliest read (earliest write (earliest control x)))
    (earliest_comm startio line) ∙ fourth read write control line startio)

-- so it is found there or among what is left
found_or_left : (unknown queues calls before after rest : Option ℕ) (known : Bool) (n : ℕ)
    → IfSome rest (λ m. n < m) → after ≡ earliest (if known then None else Some n) before
    → earliest unknown (earliest (earliest queues (earliest calls after)) rest)
    ≡ earliest unknown (earliest (earliest queues (earliest calls before))
    (if known then rest else Some n))
found_or_left unknown queues calls before after rest known n later joins =
    let chosen : Option ℕ = if known then rest else Some n in
    let counted : earliest after rest ≡ earliest before chosen =
    ap (λ (x : Option ℕ). earliest x rest) joins ∙ use_counts known n before rest later in
    ap (earliest unknown) (
    earliest_assoc queues (earliest calls after) rest
    ∙ ap (earliest queues) (
    earliest_assoc calls after rest
    ∙ ap (earliest calls) counted
    ∙ sym (earliest_assoc calls before chosen))
    ∙ sym (earliest_assoc queues (earliest calls before) chosen))

entry_left : (o : Outline) (read write control : Option Use) (startio : Option StartIoLine)
    (dpc : Option Use) (known : Bool) (here : Names) (n : ℕ) (ls : List Line) → IsIdle o
    → missed_handler here.routines here.sorts (with_entries o read write control startio dpc)
    ≡ earliest (if known then None else Some n) (missed_handler here.routines here.sorts o)
    → left (with_entries o read write control startio dpc) here (n + 1) ls
    ≡ earliest o.unknown (earliest (pending here.queues here.routines here.sorts o)
    (earliest (jumping here.labels o.steps)
    (if known then unknown_from (scope_of o here) (n + 1) ls else Some n)))
entry_left o read write control startio dpc known here n ls idle joins =
    let next = with_entries o read write control startio dpc in
    let cancels = missed_cancels here.routines here.sorts None o.queues in
    let line : Option ℕ = if known then None else Some n in
    rw idle.steps
    (found_or_left o.unknown (queueing here.queues o.queue_uses)
    (calling here.routines here.sorts o.calls) (missed_server here.routines here.sorts o)
    (missed_server here.routines here.sorts next) (unknown_from (scope_of o here) (n + 1) ls)
    known n (rest_later (scope_of o here) n ls)
    (ap (earliest cancels) joins
    ∙ earliest_swap cancels line (missed_handler here.routines here.sorts o)))

was_none : {A : Type 0} (u : Option A) → is_some u ≡ false → u ≡ None
was_none None h = refl
was_none (Some u) h = cc

pub handled_turn : (o : Outline) (major : Major) (name : List ℕ) (here ahead : Names) (n : ℕ)
    (ls : List Line) → is_some (handler_of o major) ≡ false → IsIdle o
    → Around o.place (names_of o) here ahead
    → Turn o (handled o (record { line = n; name = name }) major) here here ahead n
    (Handle major name) ls
handled_turn o Read name here ahead n ls fresh idle h =
    let u : Use = record { line = n; name = name } in
    let joins = handler_joins here.routines here.sorts o u Read (was_none o.read fresh) in
    record {
      around = h;
      same = entry_left o (Some u) o.write o.control o.startio o.dpc
          (has_routine here.routines here.sorts Handler name) here n ls idle joins;
    }
handled_turn o Write name here ahead n ls fresh idle h =
    let u : Use = record { line = n; name = name } in
    let joins = handler_joins here.routines here.sorts o u Write (was_none o.write fresh) in
    record {
      around = h;
      same = entry_left o o.read (Some u) o.control o.startio o.dpc
          (has_routine here.routines here.sorts Handler name) here n ls idle joins;
    }
handled_turn o Control name here ahead n ls fresh idle h =
    let u : Use = record { line = n; name = name } in
    let joins = handler_joins here.routines here.sorts o u Control (was_none o.control fresh) in
    record {
      around = h;
      same = entry_left o o.read o.write (Some u) o.startio o.dpc
          (has_routine here.routines here.sorts Handler name) here n ls idle joins;
    }

-- the two routines of a `startio` line are weighed at once
startio_weighed : (o : Outline) (name : List ℕ) (cancel : Option (List ℕ)) (here : Names) (n : ℕ)
    → o.startio ≡ None
    → missed_handler here.routines here.sorts
    (startio_handled o (record { line = n; name = name }) (used_at n cancel))
    ≡ earliest (if has_routine here.routines here.sorts StartIo name
    && is_served (scope_of o here) Cancel cancel then None else Some n)
    (missed_handler here.routines here.sorts o)
startio_weighed o name cancel here n none =
    let u : Use = record { line = n; name = name } in
    let there = has_routine here.routines here.sorts StartIo name in
    let served = is_served (scope_of o here) Cancel cancel in
    let others = missed_handler here.routines here.sorts o in
    startio_joins here.routines here.sorts o u (used_at n cancel) none
    ∙ ap (λ (x : Option ℕ). earliest (earliest (if there then None else Some n) x) others)
    (routine_missed (scope_of o here) Cancel cancel n)
    ∙ ap (λ (x : Option ℕ). earliest x others) (both_count there served n)

pub startio_handled_turn : (o : Outline) (name : List ℕ) (cancel : Option (List ℕ))
    (here ahead : Names) (n : ℕ) (ls : List Line) → is_some o.startio ≡ false → IsIdle o
    → Around o.place (names_of o) here ahead
    → Turn o (startio_handled o (record { line = n; name = name }) (used_at n cancel)) here here
    ahead n (HandleStartIo name cancel) ls
startio_handled_turn o name cancel here ahead n ls fresh idle h =
    let u : Use = record { line = n; name = name } in
    let line : StartIoLine = record { routine = u; cancel = used_at n cancel } in
    let known = has_routine here.routines here.sorts StartIo name
    && is_served (scope_of o here) Cancel cancel in
    record {
      around = h;
      same = entry_left o o.read o.write o.control (Some line) o.dpc known here n ls idle
          (startio_weighed o name cancel here n (was_none o.startio fresh));
    }

pub dpc_handled_turn : (o : Outline) (name : List ℕ) (here ahead : Names) (n : ℕ) (ls : List Line)
    → is_some o.dpc ≡ false → IsIdle o → Around o.place (names_of o) here ahead
    → Turn o (dpc_handled o (record { line = n; name = name })) here here ahead n
    (HandleDpc name) ls
dpc_handled_turn o name here ahead n ls fresh idle h =
    let u : Use = record { line = n; name = name } in
    let joins = dpc_joins here.routines here.sorts o u (was_none o.dpc fresh) in
    record {
      around = h;
      same = entry_left o o.read o.write o.control o.startio (Some u)
          (has_routine here.routines here.sorts Dpc name) here n ls idle joins;
    }

-- a queue more: it was ahead, and its line is weighed beside those of the other queues
cancel_joins : (o : Outline) (name : List ℕ) (lock : ℕ) (cancel : Option (List ℕ)) (here : Names)
    (n : ℕ)
    → missed_server here.routines here.sorts (queue_added o name lock (used_at n cancel))
    ≡ earliest (if is_served (scope_of o here) Cancel cancel then None else Some n)
    (missed_server here.routines here.sorts o)
cancel_joins o name lock cancel here n =
    let queue : QueueLine = record { guard = lock; cancel = used_at n cancel } in
    let cancels = missed_cancels here.routines here.sorts None o.queues in
    let handlers = missed_handler here.routines here.sorts o in
    let line : Option ℕ =
    if is_served (scope_of o here) Cancel cancel then None else Some n in
    ap (λ (x : Option ℕ). earliest x handlers)
    (cancels_push here.routines here.sorts None o.queues queue
    ∙ ap (earliest cancels) (routine_missed (scope_of o here) Cancel cancel n)
    ∙ earliest_comm cancels line)
    ∙ earliest_assoc line cancels handlers

pub queue_added_turn : (o : Outline) (name : List ℕ) (guard : Option ℕ) (lock : ℕ)
    (cancel : Option (List ℕ)) (here ahead : Names) (n : ℕ) (ls : List Line) → IsIdle o
    → Around o.place (names_of o) here
    (record {
      routines = ahead.routines;
      sorts = ahead.sorts;
      queues = name ∷ ahead.queues;
      labels = ahead.labels;
    })
    → Turn o (queue_added o name lock (used_at n cancel)) here here ahead n
    (AddQueue name guard cancel) ls
queue_added_turn o name guard lock cancel here ahead n ls idle h =
    let next = queue_added o name lock (used_at n cancel) in
    record {
      around = record {
        inside = h.inside;
        sorted = h.sorted;
        queued = λ opened. h.queued opened
            ∙ sym (append_assoc o.queue_names (name ∷ []) ahead.queues);
        busy = h.busy;
      };
      same = rw idle.steps
          (found_or_left o.unknown (queueing here.queues o.queue_uses)
          (calling here.routines here.sorts o.calls) (missed_server here.routines here.sorts o)
          (missed_server here.routines here.sorts next) (unknown_from (scope_of o here) (n + 1) ls)
          (is_served (scope_of o here) Cancel cancel) n (rest_later (scope_of o here) n ls)
          (cancel_joins o name lock cancel here n));
    }
