-- Lines without their ends.
use Rattle.std.proofs.Common.{◌≡◌, ◌∙◌, ◌≤◌, ℕ, suc, ◌+◌, ◌-◌, List, [], ◌∷◌, ◌++◌, Option, None, Some, length, take, arith, ap, sym, length-take-le, take-take}
use Rattle.std.proofs.lemmas.List.{length-append}
use Rattle.std.proofs.Math.Seq.{take-append-add}
use Rattle.std.specs.Fmt.{decimal}
use Rattle.model.specs.declared.event.Reply.{Reply}
use Rattle.model.specs.declared.event.Reply.TheVariants.{Started, Stepped, Finished, Topped, Waited, Idle, Refused, Bug, Wrong}
use Rattle.report.specs.declared.word.Word.{Word}
use Rattle.report.specs.declared.word.Word.TheVariants as word
use Rattle.report.specs.Line.{line_of}
use Rattle.report.specs.Reply.{reply_head, reply_line, reply_words}
use Rattle.report.specs.Word.{word_head, word_line, word_of, word_text}

-- what follows the number isn't empty
pub some_text : (w : Word) → 1 ≤ length (word_text w)
some_text word.Stepped = omega arith
some_text word.Finished = omega arith
some_text word.Waited = omega arith
some_text word.Idle = omega arith
some_text word.Refused = omega arith

-- how many bytes of a buffer a line has
pub bytes_used : (used : ℕ) (buffer line : List ℕ) → used ≤ length buffer
    → take used buffer ≡ line → used ≡ length line
bytes_used used buffer line within is =
    sym (length-take-le used buffer within) ∙ ap length is

-- a text behind others without its last byte
pub without_last : (xs ys : List ℕ) → 1 ≤ length ys
    → take (length (xs ++ ys) - 1) (xs ++ ys) ≡ xs ++ take (length ys - 1) ys
without_last xs ys some =
    let long : length (xs ++ ys) ≡ length xs + length ys = length-append xs ys in
    let less : length (xs ++ ys) - 1 ≡ length xs + (length ys - 1) = omega (arith, long, some) in
    ap (λ n. take n (xs ++ ys)) less ∙ take-append-add xs ys (length ys - 1)

-- the last byte of a line is taken back
pub taken_back : (used : ℕ) (buffer before line : List ℕ) → used ≤ length buffer
    → take used buffer ≡ before ++ line → 1 ≤ length line
    → take (used - 1) buffer ≡ before ++ take (length line - 1) line
taken_back used buffer before line within is some =
    let all : used ≡ length (before ++ line) = bytes_used used buffer (before ++ line) within is in
    sym (take-take (used - 1) used buffer (omega arith)) ∙ ap (take (used - 1)) is
    ∙ ap (λ n. take (n - 1) (before ++ line)) all ∙ without_last before line some

-- a line of a word is longer than its number
pub some_line : (w : Word) (n : ℕ) → 1 ≤ length (word_line w n)
some_line w n =
    let long : length (word_line w n) ≡ length (decimal n) + length (word_text w) =
    length-append (decimal n) (word_text w) in
    let some : 1 ≤ length (word_text w) = some_text w in
    omega (arith, long, some)

-- its head is what stands before its end
pub head_before : (w : Word) (n : ℕ)
    → take (length (word_line w n) - 1) (word_line w n) ≡ word_head w n
head_before w n = without_last (decimal n) (word_text w) (some_text w)

-- every line has an end
pub some_line_of : (words : List (List ℕ)) → 1 ≤ length (line_of words)
some_line_of [] = omega arith
some_line_of (word ∷ []) =
    let long : length (word ++ 10 ∷ []) ≡ length word + 1 = length-append word (10 ∷ []) in
    omega (arith, long)
some_line_of (word ∷ next ∷ words) =
    let long : length (word ++ 32 ∷ line_of (next ∷ words))
    ≡ length word + suc (length (line_of (next ∷ words))) =
    length-append word (32 ∷ line_of (next ∷ words)) in
    omega (arith, long)

-- the bytes of the line of an event alone
pub reply_used : (used : ℕ) (buffer before : List ℕ) (n : ℕ) (reply : Reply) → used ≤ length buffer
    → take used buffer ≡ before ++ reply_line n reply → before ≡ []
    → (1 ≤ used) × (used - 1 ≡ length (reply_head n reply))
reply_used used buffer before n reply within is none =
    let line : List ℕ = reply_line n reply in
    let all : used ≡ length (before ++ line) = bytes_used used buffer (before ++ line) within is in
    let long : length (before ++ line) ≡ length line = ap (λ b. length (b ++ line)) none in
    let some : 1 ≤ length line = some_line_of (decimal n ∷ reply_words reply) in
    let head : length (reply_head n reply) ≡ length line - 1 =
    length-take-le (length line - 1) line (omega arith) in
    (omega (arith, all, long, some), omega (arith, all, long, some, head))

-- the line of what may be a word
abbrev line_as : ℕ → Option Word → List ℕ
line_as number None = []
line_as number (Some w) = word_line w number

-- the line of a reply that is a word
pub word_is_reply : (w : Word) (reply : Reply) → word_of reply ≡ Some w → (number : ℕ)
    → reply_line number reply ≡ word_line w number
word_is_reply w Stepped is number = ap (λ (x : Option Word). line_as number x) is
word_is_reply w Finished is number = ap (λ (x : Option Word). line_as number x) is
word_is_reply w Waited is number = ap (λ (x : Option Word). line_as number x) is
word_is_reply w Idle is number = ap (λ (x : Option Word). line_as number x) is
word_is_reply w Refused is number = ap (λ (x : Option Word). line_as number x) is
word_is_reply w (Started packet) is number = let none : None ≡ Some w = is in cc
word_is_reply w (Topped packet status info) is number = let none : None ≡ Some w = is in cc
word_is_reply w (Bug bug) is number = let none : None ≡ Some w = is in cc
word_is_reply w (Wrong place) is number = let none : None ≡ Some w = is in cc

-- and its head
pub word_heads_reply : (w : Word) (reply : Reply) → word_of reply ≡ Some w → (number : ℕ)
    → reply_head number reply ≡ word_head w number
word_heads_reply w reply is number =
    ap (λ (line : List ℕ). take (length line - 1) line) (word_is_reply w reply is number)
    ∙ head_before w number
