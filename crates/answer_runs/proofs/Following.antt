-- How the trace of a run goes on, where the same event happens several times in a row.
use Rattle.std.proofs.Common.{◌≡◌, ◌∙◌, ℕ, zero, suc, ◌+◌, ◌-◌, ◌≤◌, Bool, true, false, ◌||◌, List, [], ◌∷◌, ◌++◌, length, replicate, Some, refl, sym, ap, arith, append_assoc}
use Rattle.std.proofs.lemmas.Bool.{false≢true}
use Rattle.std.proofs.lemmas.List.{length-append, length-replicate, replicate-append-replicate}
use Rattle.std.specs.List.{list_any}
use Rattle.model.specs.declared.event.Event.{Event}
use Rattle.model.specs.declared.event.Reply.{Reply}
use Rattle.model.specs.declared.event.Reply.TheVariants.{Stepped}
use Rattle.model.specs.Run.{Run, run_from, step}
use Rattle.model.specs.Set.{Set}
use Rattle.report.specs.declared.word.Word.{Word}
use Rattle.report.specs.Reply.{reply_line}
use Rattle.report.specs.Word.{word_line, word_lines, word_of}
use Rattle.answer_runs.specs.declared.running.Replies.{Replies}
use Rattle.drvhost_devices.specs.Answer.{is_last, reply_lines}
use Rattle.answer_runs.specs.Repeats.{told_by}
use Rattle.answer_runs.specs.Traced.{lines_by}
use Rattle.report.proofs.Heads.{word_is_reply}

-- the run of one event more
pub run_more : (set : Set) (r : Run) (events : List Event) (e : Event)
    → run_from set r (events ++ e ∷ []) ≡ (step set (run_from set r events) e).run
run_more set r [] e = refl
run_more set r (x ∷ events) e = run_more set (step set r x).run events e

neither : (a b : Bool) → (a || b) ≡ false → (a ≡ false) × (b ≡ false)
neither true b is = absurd (false≢true (sym is))
neither false b is = (refl, is)

-- none of these replies is the last of a run
abbrev pub NoneLast : List Reply → Type 0
NoneLast told = list_any is_last told ≡ false

pub none_last : (count : ℕ) (reply : Reply) → is_last reply ≡ false
    → NoneLast (replicate count reply)
none_last zero reply is = refl
none_last (suc count) reply is = rw is (none_last count reply is)

pub any_on : (told later : List Reply) → NoneLast told
    → list_any is_last (told ++ later) ≡ list_any is_last later
any_on [] later none = refl
any_on (reply ∷ told) later none =
    let each = neither (is_last reply) (list_any is_last told) none in
    rw each.0 (any_on told later each.1)

-- the lines of some replies, and of those after them
pub lines_on : (line : ℕ → Reply → List ℕ) (number : ℕ) (told later : List Reply)
    → lines_by line number (told ++ later)
    ≡ lines_by line number told ++ lines_by line (number + length told) later
lines_on line number [] later = ap (λ n. lines_by line n later) (omega arith)
lines_on line number (reply ∷ told) later =
    ap (λ lines. line number reply ++ lines)
    (lines_on line (number + 1) told later
    ∙ ap (λ n. lines_by line (number + 1) told ++ lines_by line n later) (omega arith))
    ∙ sym (append_assoc (line number reply) (lines_by line (number + 1) told)
    (lines_by line (number + length (reply ∷ told)) later))

-- those of replies that are the same, the first of them apart
pub next_lines : (line : ℕ → Reply → List ℕ) (number next after count told : ℕ) (reply : Reply)
    → told ≤ count → next ≡ number → after ≡ next + told
    → lines_by line number (replicate count reply)
    ≡ lines_by line next (replicate told reply) ++ lines_by line after (replicate (count - told) reply)
next_lines line number next after count told reply few same on =
    let whole : count ≡ told + (count - told) = omega (arith, few) in
    let behind : number + length (replicate told reply) ≡ after =
    omega (arith, same, on, length-replicate told reply) in
    ap (λ n. lines_by line number (replicate n reply)) whole
    ∙ ap (λ all. lines_by line number all)
    (sym (replicate-append-replicate told (count - told) reply))
    ∙ lines_on line number (replicate told reply) (replicate (count - told) reply)
    ∙ ap (λ n. lines_by line number (replicate told reply)
    ++ lines_by line n (replicate (count - told) reply)) behind
    ∙ ap (λ n. lines_by line n (replicate told reply)
    ++ lines_by line after (replicate (count - told) reply)) (sym same)

-- as text: those of replies that are all the same word, and of any replies
pub lines_word : (w : Word) (reply : Reply) → word_of reply ≡ Some w → (number count : ℕ)
    → lines_by reply_line number (replicate count reply) ≡ word_lines w number count
lines_word w reply is number zero = refl
lines_word w reply is number (suc count) =
    ap (λ lines. lines ++ lines_by reply_line (number + 1) (replicate count reply))
    (word_is_reply w reply is number)
    ∙ ap (λ lines. word_line w number ++ lines) (lines_word w reply is (number + 1) count)

pub lines_same : (number : ℕ) (all : List Reply)
    → lines_by reply_line number all ≡ reply_lines number all
lines_same number [] = refl
lines_same number (reply ∷ rest) =
    ap (λ lines. reply_line number reply ++ lines) (lines_same (number + 1) rest)

-- how many events are left
pub counted : (count : ℕ) (e : Event) (rest : List Event)
    → length (replicate count e ++ rest) ≡ count + length rest
counted count e rest =
    length-append (replicate count e) rest ∙ ap (λ n. n + length rest) (length-replicate count e)

-- how many replies are told together
pub length_told : (r : Replies) → length (told_by r) ≡ r.stepped + r.times
length_told r =
    length-append (replicate r.stepped Stepped) (replicate r.times r.last)
    ∙ ap (λ n. n + length (replicate r.times r.last)) (length-replicate r.stepped Stepped)
    ∙ ap (λ n. r.stepped + n) (length-replicate r.times r.last)
