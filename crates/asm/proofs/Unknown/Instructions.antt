-- The line of an instruction, which may use a label, a routine and a queue.
use Rattle.std.proofs.Common.{◌≡◌, ℕ, ◌+◌, ◌<◌, Bool, true, List, [], ◌∷◌, ◌++◌, Option, Some, None, IfSome, refl, ap, sym, ◌∙◌, append_assoc}
use Rattle.std.specs.Prelude.{option_to_list, if◌then◌else◌}
use Rattle.asm_line.specs.declared.line.Body.TheVariants.{Step as TakeStep}
use Rattle.asm_line.specs.declared.line.Line.{Line}
use Rattle.asm_line.specs.declared.line.UsedNames.{UsedNames}
use Rattle.model.specs.declared.instr.Instr.{Instr}
use Rattle.asm.specs.declared.roles.Role.TheVariants.{Completion}
use Rattle.asm.specs.Outline.{Outline, earliest, missed, missed_entry, missed_server, stands, stepped, used_at}
use Rattle.asm.proofs.Scopes.{Scope, is_known, is_served, unknown_at, unknown_from}
use Rattle.asm.proofs.Added.{added_step}
use Rattle.asm.proofs.Unknown.Earliest.{three_count, weighed_all}
use Rattle.asm.proofs.Unknown.Missed.{calling, queueing, jumping, missed_push, calls_added, uses_added, name_missed, routine_missed}
use Rattle.asm.proofs.Unknown.Turn.{rest_later, Names, names_of, Around, scope_of, ahead_with, Turn}
use Rattle.asm.proofs.Fitting.{only_in_routine}

-- the names that an instruction uses are weighed now or when its routine and driver are closed
used_count : (s : Scope) (n : ℕ) (instr : Option Instr) (used : UsedNames) (after : Option ℕ)
    → IfSome after (λ m. n < m)
    → earliest (missed s.queues (used_at n used.queue))
    (earliest (missed_entry s.routines s.sorts Completion (used_at n used.routine))
    (earliest (missed s.labels (used_at n used.label)) after))
    ≡ unknown_at s n (TakeStep instr used) after
used_count s n instr used after later =
    let known = is_known s.labels used.label in
    let callable = is_served s Completion used.routine in
    let call = missed_entry s.routines s.sorts Completion (used_at n used.routine) in
    let jump = missed s.labels (used_at n used.label) in
    let line : Bool → Option ℕ = λ b. if b then None else Some n in
    ap (λ (x : Option ℕ). earliest x (earliest call (earliest jump after)))
    (name_missed s.queues used.queue n)
    ∙ ap (λ (x : Option ℕ). earliest (line (is_known s.queues used.queue))
    (earliest x (earliest jump after))) (routine_missed s Completion used.routine n)
    ∙ ap (λ (x : Option ℕ). earliest (line (is_known s.queues used.queue))
    (earliest (line callable) (earliest x after))) (name_missed s.labels used.label n)
    ∙ three_count known callable (is_known s.queues used.queue) n after later

pub step_turn : (o : Outline) (label : Option (List ℕ)) (instr : Instr) (used : UsedNames)
    (here ahead : Names) (n : ℕ) (ls : List Line)
    → stands o.place (TakeStep (Some instr) used) ≡ true
    → Around o.place (names_of o) here (ahead_with label (TakeStep (Some instr) used) ahead)
    → Turn o (stepped o n label instr used) here here ahead n (TakeStep (Some instr) used) ls
step_turn o label instr used here ahead n ls stood h =
    let body = TakeStep (Some instr) used in
    let step = added_step o n instr used in
    let at = only_in_routine o.place body refl refl stood in
    let scope = scope_of o here in
    let rest = unknown_from scope (n + 1) ls in
    let queues = queueing here.queues o.queue_uses in
    let calls = calling here.routines here.sorts o.calls in
    let servers = missed_server here.routines here.sorts o in
    let jumps = jumping here.labels o.steps in
    let queue = missed here.queues (used_at n used.queue) in
    let call = missed_entry here.routines here.sorts Completion (used_at n used.routine) in
    let jump = missed here.labels (used_at n used.label) in
    let more_queues : queueing here.queues
    (o.queue_uses ++ option_to_list (used_at n used.queue)) ≡ earliest queues queue =
    uses_added here.queues o.queue_uses (used_at n used.queue) in
    let more_calls : calling here.routines here.sorts
    (o.calls ++ option_to_list (used_at n used.routine)) ≡ earliest calls call =
    calls_added here.routines here.sorts o.calls (used_at n used.routine) in
    let more_jumps : jumping here.labels (o.steps ++ step ∷ []) ≡ earliest jumps jump =
    missed_push here.labels None o.steps step in
    let counted = used_count scope n (Some instr) used rest (rest_later scope n ls) in
    record {
      around = record {
        inside = h.inside;
        sorted = h.sorted;
        queued = h.queued;
        busy = λ is. h.busy at ∙ sym (append_assoc o.labels (option_to_list label) ahead.labels);
      };
      same = ap (earliest o.unknown) (
          ap (λ (x : Option ℕ). earliest (earliest x (earliest (calling here.routines here.sorts
          (o.calls ++ option_to_list (used_at n used.routine))) servers))
          (earliest (jumping here.labels (o.steps ++ step ∷ [])) rest)) more_queues
          ∙ ap (λ (x : Option ℕ). earliest
          (earliest (earliest queues queue) (earliest x servers))
          (earliest (jumping here.labels (o.steps ++ step ∷ [])) rest)) more_calls
          ∙ ap (λ (x : Option ℕ). earliest
          (earliest (earliest queues queue) (earliest (earliest calls call) servers))
          (earliest x rest)) more_jumps
          ∙ weighed_all queues queue calls call servers jumps jump rest
          ∙ ap (λ (x : Option ℕ). earliest (earliest queues (earliest calls servers))
          (earliest jumps x)) counted);
    }
