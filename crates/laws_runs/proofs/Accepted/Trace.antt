-- Nothing in the trace of a run that goes on goes wrong.
use Rattle.laws_runs.proofs.Common.{ap, arith, sym, zero, ◌∙◌, list_any, All, List, [], false, suc, true, ◌∷◌, ◌≡◌, ◌≢◌, Action, GoesWrong, Actor, Entry, entry, recorded, Each, or_left, or_right}
use Rattle.laws_runs.proofs.States.Fine.{is_wrong}

-- nothing went wrong
abbrev pub NoneWrong : List Entry → Type 0
NoneWrong past = Each (λ (e : Entry). e.action ≢ GoesWrong) past

not_wrong : (action : Action) → is_wrong action ≡ false → action ≢ GoesWrong
not_wrong action h same = let no : true ≡ false = ap is_wrong (sym same) ∙ h in cc

pub recorded_right : (past : List Entry) (actor : Actor) (actions : List Action) → NoneWrong past
    → list_any is_wrong actions ≡ false → NoneWrong (recorded past actor actions)
recorded_right past actor [] h silent = h
recorded_right past actor (action ∷ actions) h silent =
    recorded_right (entry past actor action ∷ past) actor actions
    (not_wrong action (or_left (is_wrong action) _ silent), h) (or_right (is_wrong action) _ silent)

pub all_right : (past : List Entry) → NoneWrong past
    → All (λ (e : Entry). e.action ≢ GoesWrong) past
all_right [] h k d within = absurd (omega arith)
all_right (e ∷ past) h zero d within = h.0
all_right (e ∷ past) h (suc k) d within = all_right past h.1 k d (omega arith)
