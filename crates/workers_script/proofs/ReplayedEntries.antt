-- A legal history of a set of which no run stops.
use Rattle.std.proofs.Common.{◌≡◌, ℕ, List, [], ◌∷◌, ◌++◌, sym, subst}
use Rattle.std.specs.List.{All}
use Rattle.std.proofs.lemmas.List.Elements.{All-cons, All-nil}
use Rattle.model.specs.declared.event.Event.{Event}
use Rattle.model.specs.declared.event.Reply.{Reply}
use Rattle.model.specs.declared.history.Entry.{Entry}
use Rattle.model.specs.History.{IsLegal, events_of, replies_from, replies_of}
use Rattle.model.specs.Run.{Run, begun, run, step}
use Rattle.model.specs.Set.{Set}
use Rattle.laws_runs.specs.NeverStops.{LetsGoOn, NeverStops}
use Rattle.laws_runs.proofs.History.Waits.{run_more}
use Rattle.workers_script.specs.Replay.{Replays}

-- where no run of the set stops, no reply of a legal history does
replies_go_on : (set : Set) (threads : ℕ) (past : List Event) (rest : List Entry)
    → replies_of rest ≡ replies_from set (run set threads past) (events_of rest)
    → ((events : List Event) → NeverStops set threads events)
    → All (λ (e : Entry). LetsGoOn e.reply) rest
replies_go_on set threads past [] legal never = All-nil (λ (e : Entry). LetsGoOn e.reply)
replies_go_on set threads past (e ∷ rest) legal never =
    let r = run set threads past in
    let first : (step set r e.event).reply ≡ e.reply = (let all = legal in cc) in
    let later : replies_of rest ≡ replies_from set (step set r e.event).run (events_of rest) =
    (let all = legal in cc) in
    let more = run_more set (begun set threads) past e.event in
    let P : Run → Type 0 = λ s. replies_of rest ≡ replies_from set s (events_of rest) in
    let L : Reply → Type 0 = LetsGoOn in
    All-cons (λ (x : Entry). LetsGoOn x.reply) e rest
    (subst L first ((never past).replies e.event))
    (replies_go_on set threads (past ++ e.event ∷ []) rest (subst P (sym more) later) never)

pub legal_replays : (set : Set) (threads : ℕ) (history : List Entry)
    → IsLegal set threads history
    → ((events : List Event) → NeverStops set threads events) → Replays set threads history
legal_replays set threads history legal never =
    record { legal = legal; lasting = replies_go_on set threads [] history legal never }
