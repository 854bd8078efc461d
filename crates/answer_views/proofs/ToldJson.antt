-- How the telling of a run in JSON goes on, and that it is right.
use Rattle.std.proofs.Common.{◌≡◌, ◌∙◌, ℕ, suc, ◌+◌, Bool, ◌||◌, List, [], ◌∷◌, ◌++◌, refl, sym, ap, arith, length, subst, append_assoc, if◌then◌else◌}
use Rattle.std.proofs.Math.Bool.{or-false}
use Rattle.std.proofs.lemmas.List.{append-nil, length-append}
use Rattle.std.proofs.lemmas.List.Folds.{list_any-append}
use Rattle.std.specs.List.{list_any}
use Rattle.model.specs.declared.event.Event.{Event}
use Rattle.model.specs.declared.event.Reply.{Reply}
use Rattle.model.specs.History.{replies}
use Rattle.model.specs.Machine.{AppliesWhole, Machine, ShowsWhole}
use Rattle.model.specs.Run.{begun, run}
use Rattle.model.specs.Set.{Set}
use Rattle.report_json.specs.declared.told.Circumstances.{Circumstances}
use Rattle.report_json.specs.Line.{json_line}
use Rattle.report_json.specs.Told.{told_json}
use Rattle.tell_audit.specs.declared.findings.Findings.{Findings}
use Rattle.tell_audit.specs.Findings.{AreFindings, any_of}
use Rattle.tell_json.specs.Audit.{audit_json}
use Rattle.tell_json.specs.declared.telling.Telling.{Telling}
use Rattle.tell_json.specs.Telling.{LedgerGoesOn, is_refused}
use Rattle.tell_uses.specs.Ledger.{LedgerState, Tells as TellsRun}
use Rattle.drvhost_devices.specs.Answer.{ended}
use Rattle.drvhost_devices.specs.declared.fault.End.{End}
use Rattle.drvhost_devices.specs.declared.fault.End.TheVariants.{Stopped}
use Rattle.drvhost_devices.specs.declared.manner.Strictness.{Strictness}
use Rattle.answer_runs.specs.Watching.{RunsTo}
use Rattle.answer_runs.proofs.Observing.{length_replies, replies_told}
use Rattle.answer_runs.proofs.Repeating.{once}
use Rattle.drvhost_devices.specs.Strict.{fails_strictly}
use Rattle.answer_views.specs.InJson.{AreTold, IsRunToldInJson, IsTelling, audit_line}
use Rattle.answer_views.specs.Told.{run_by, told_end}
use Rattle.answer_views.proofs.ToldAnswers.{end_told, found_in, replies_said}

-- one line more
told_more : (number : ℕ) (some : List Reply) (reply : Reply) (around : Circumstances)
    (text : List ℕ) → AreTold number some text
    → AreTold number (some ++ reply ∷ [])
    (text ++ json_line (told_json (number + length some) reply around))
told_more number [] reply around text none =
    let place : number + 0 ≡ number = omega arith in
    let line : ℕ → List ℕ = λ n. json_line (told_json n reply around) in (
      around,
      (
        [],
        ap (λ x. x ++ line (number + 0)) none ∙ ap line place ∙ sym (append-nil (line number)),
        refl,
      ),
    )
told_more number (first ∷ some) reply around text (its, (later, is, rest)) =
    let place : number + 1 + length some ≡ number + suc (length some) = omega arith in
    let line : ℕ → List ℕ = λ n. json_line (told_json n reply around) in
    let here = json_line (told_json number first its) in (
      its,
      (
        later ++ line (number + suc (length some)),
        ap (λ x. x ++ line (number + suc (length some))) is
            ∙ append_assoc here later (line (number + suc (length some))),
        subst (λ n. AreTold (number + 1) (some ++ reply ∷ []) (later ++ line n)) place
            (told_more (number + 1) some reply around later rest),
      ),
    )

-- an event is told behind those before it
pub telling_on : (m n : Machine) (e : Event) (reply : Reply) (old new : Telling)
    (around : Circumstances) → AppliesWhole m e n reply → LedgerGoesOn m e old.ledger new.ledger
    → new.number ≡ old.number + 1 → new.refused ≡ old.refused || is_refused reply
    → new.lines ≡ old.lines ++ json_line (told_json old.number reply around) → (threads : ℕ)
    (past : List Event) → ShowsWhole m threads past → IsTelling old m.set threads past
    → IsTelling new m.set threads (past ++ e ∷ [])
telling_on m n e reply old new around ran noted number refuses added threads past shows t =
    let before = replies m.set threads past in
    let all : replies m.set threads (past ++ e ∷ []) ≡ before ++ reply ∷ [] =
    replies_told m.set threads e (reply ∷ []) past
    ((once (λ (x : Machine). x.set) ShowsWhole m n e reply ran).are threads past shows) in
    let place : 0 + length before ≡ old.number =
    omega (arith, t.numbered, length_replies m.set (begun m.set threads) past) in
    let whole : AreTold 0 (before ++ reply ∷ []) new.lines =
    subst (λ (x : List ℕ). AreTold 0 (before ++ reply ∷ []) x)
    (ap (λ k. old.lines ++ json_line (told_json k reply around)) place ∙ sym added)
    (told_more 0 before reply around old.lines t.told) in
    record {
      numbered = omega (arith, number, t.numbered, length-append past (e ∷ []));
      told = subst (λ (rs : List Reply). AreTold 0 rs new.lines) (sym all) whole;
      refused = refuses ∙ ap (λ (b : Bool). b || is_refused reply) t.refused
          ∙ ap (λ (b : Bool). list_any is_refused before || b) (sym (or-false (is_refused reply)))
          ∙ sym (list_any-append is_refused before (reply ∷ []))
          ∙ sym (ap (λ (rs : List Reply). list_any is_refused rs) all);
      tells = noted threads past shows t.tells;
    }

-- what was found is told in the line of the audit
found_told : (set : Set) (threads : ℕ) (past : List Event) (l : LedgerState) (found : Findings)
    → AreFindings set (run set threads past).world l found → TellsRun (run set threads past) l
    → json_line (audit_json found.lost.items found.left.items found.ringed.items
    found.missed.items found.disagreeing.items)
    ≡ audit_line set (run set threads past)
found_told set threads past l found are tells =
    rw (are.lost, are.left, are.ringed, are.missed, are.disagreeing set threads past tells) refl

-- the run of a machine by a schedule was told, and its audit
pub run_told : (strictness : Strictness) (set : Set) (threads : ℕ) (events past : List Event)
    (m : Machine) (end : End) (now : Telling) (amiss : Bool) (found : Findings) (lines : List ℕ)
    → RunsTo set threads events past end → (m.set ≡ set) × ShowsWhole m threads past
    → IsTelling now set threads past → AreFindings m.set m.world now.ledger found
    → amiss ≡ any_of found.lost.items found.left.items found.ringed.items found.disagreeing.items
    → lines ≡ now.lines ++ json_line (audit_json found.lost.items found.left.items
    found.ringed.items found.missed.items found.disagreeing.items)
    → IsRunToldInJson strictness set threads events
    (ended (if fails_strictly strictness now.refused || amiss then Stopped else end) lines)
run_told strictness set threads events past m end now amiss found lines runs shown t are any added =
    let all = found_in set threads past m now.ledger found shown are in
    let text : lines ≡ now.lines ++ audit_line set (run_by set threads events) =
    added
    ∙ ap (λ (x : List ℕ). now.lines ++ x)
    (found_told set threads past now.ledger found all t.tells
    ∙ ap (λ (es : List Event). audit_line set (run set threads es)) (sym runs.all)) in
    record {
      lines = now.lines;
      are = subst (λ (rs : List Reply). AreTold 0 rs now.lines)
          (replies_said strictness set threads events past end runs) t.told;
      is = ap (λ (e : End). ended e lines)
          (end_told strictness set threads events past end runs now.refused amiss now.ledger found
          t.refused t.tells all any)
          ∙ ap (λ (x : List ℕ). ended (told_end strictness set threads events) x) text;
    }
