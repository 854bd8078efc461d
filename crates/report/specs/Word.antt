-- Replies of one word, and the lines that events with such a reply give.
use Rattle.std.specs.Prelude.{ℕ, zero, suc, ◌+◌, ◌-◌, List, [], ◌++◌, codes, length, take, Option, None, Some}
use Rattle.std.specs.Fmt.{decimal}
use Rattle.model.specs.declared.event.Reply.{Reply}
use Rattle.model.specs.declared.event.Reply.TheVariants.{Stepped as SteppedReply, Finished as FinishedReply, Waited as WaitedReply, Idle as IdleReply, Refused as RefusedReply}
use Rattle.report.specs.declared.word.Word.{Word}
use Rattle.report.specs.declared.word.Word.TheVariants.{Stepped, Finished, Waited, Idle, Refused}

-- the word that a reply is, where it is one
abbrev pub word_of : Reply → Option Word
word_of SteppedReply = Some Stepped
word_of FinishedReply = Some Finished
word_of WaitedReply = Some Waited
word_of IdleReply = Some Idle
word_of RefusedReply = Some Refused
word_of _ = None

-- what follows the number in the line of such an event
abbrev pub word_text : Word → List ℕ
word_text Stepped = codes " stepped\n"
word_text Finished = codes " finished\n"
word_text Waited = codes " waited\n"
word_text Idle = codes " idle\n"
word_text Refused = codes " refused\n"

-- the line of an event of a number
abbrev pub word_line : Word → ℕ → List ℕ
word_line word number = decimal number ++ word_text word

-- the lines of so many events, the first of which has this number
abbrev pub word_lines : Word → ℕ → ℕ → List ℕ
word_lines word number zero = []
word_lines word number (suc count) = word_line word number ++ word_lines word (number + 1) count

-- the line of an event of a number, without its end
abbrev pub word_head : Word → ℕ → List ℕ
word_head word number = decimal number ++ take (length (word_text word) - 1) (word_text word)
