-- Lines of events whose replies are one word, one after another, and where they are written.
use Rattle.std.proofs.Common.{◌≡◌, ◌≤◌, ℕ, zero, suc, ◌+◌, ◌-◌, ◌*◌, ◌/◌, ◌%◌, List, ◌++◌, length, take, arith, ap, sym, ◌∙◌, append_assoc, drop_at, length-take-le, take-add, take-take, take_at}
use Rattle.std.proofs.lemmas.List.{append-nil}
use Rattle.std.proofs.lemmas.Slice.{take-put_mid}
use Rattle.std.specs.Fmt.{decimal}
use borrow.Rule.Slice.PartMut.{put_mid}
use Rattle.report.specs.declared.word.Word.{Word}
use Rattle.report.specs.declared.word.Word.TheVariants.{Stepped, Finished, Waited, Idle, Refused}
use Rattle.report.specs.Word.{word_line, word_lines, word_text}

-- what follows the number is short
pub word_short : (w : Word) → length (word_text w) ≤ 12
word_short Stepped = omega arith
word_short Finished = omega arith
word_short Waited = omega arith
word_short Idle = omega arith
word_short Refused = omega arith

-- the lines of some steps and more
pub words_more : (w : Word) (n j k : ℕ)
    → word_lines w n (j + k) ≡ word_lines w n j ++ word_lines w (n + j) k
words_more w n zero k =
    let none : 0 + k ≡ k = omega arith in
    let same : n ≡ n + 0 = omega arith in
    ap (word_lines w n) none ∙ ap (λ m. word_lines w m k) same
words_more w n (suc j) k =
    let more : suc j + k ≡ suc (j + k) = omega arith in
    let same : n + 1 + j ≡ n + suc j = omega arith in
    ap (word_lines w n) more ∙ ap (λ l. word_line w n ++ l) (words_more w (n + 1) j k)
    ∙ sym (append_assoc (word_line w n) (word_lines w (n + 1) j) (word_lines w (n + 1 + j) k))
    ∙ ap (λ m. word_lines w n (suc j) ++ word_lines w m k) same

-- one step more
pub words_next : (w : Word) (n j : ℕ) → word_lines w n (j + 1) ≡ word_lines w n j ++ word_line w (n + j)
words_next w n j =
    words_more w n j 1 ∙ ap (λ l. word_lines w n j ++ l) (append-nil (word_line w (n + j)))

-- the beginning of a block that was written at a place
pub placed : (at size count : ℕ) (xs ys zs : List ℕ) → at + size ≤ length xs
    → length ys ≡ size → count ≤ size → take count ys ≡ zs
    → take (at + count) (put_mid at size xs ys) ≡ take at xs ++ zs
placed at size count xs ys zs fits long few begins =
    let front : length (take at xs) ≡ at = length-take-le at xs (omega arith) in
    let whole : take (at + size) (put_mid at size xs ys) ≡ take at xs ++ ys =
    take-put_mid at size xs ys (at + size) (omega arith) (omega arith) in
    sym (take-take (at + count) (at + size) (put_mid at size xs ys) (omega arith))
    ∙ ap (take (at + count)) whole ∙ take-add at count (take at xs ++ ys)
    ∙ (λ k. take_at (take at xs) ys at front k ++ take count (drop_at (take at xs) ys at front k))
    ∙ ap (λ l. take at xs ++ l) begins

-- the digits that the line of a step begins with
pub digits_first : (w : Word) (n count : ℕ) (ys : List ℕ) → count ≡ length (decimal n)
    → take (count + length (word_text w)) ys ≡ word_line w n → take count ys ≡ decimal n
digits_first w n count ys long line =
    sym (take-take count (count + length (word_text w)) ys (omega arith)) ∙ ap (take count) line
    ∙ take_at (decimal n) (word_text w) count (sym long)

-- one of the ten lines more
pub ten_next : (w : Word) (n digit : ℕ) (before was now : List ℕ) → n % 10 ≡ 0
    → was ≡ before ++ word_lines w n digit
    → now ≡ was ++ word_line w (n / 10 * 10 + digit)
    → now ≡ before ++ word_lines w n (digit + 1)
ten_next w n digit before was now ten lines line =
    let same : n / 10 * 10 + digit ≡ n + digit = omega arith in
    line ∙ ap (λ l. l ++ word_line w (n / 10 * 10 + digit)) lines
    ∙ append_assoc before (word_lines w n digit) (word_line w (n / 10 * 10 + digit))
    ∙ ap (λ m. before ++ (word_lines w n digit ++ word_line w m)) same
    ∙ ap (λ l. before ++ l) (sym (words_next w n digit))

-- one more of lines whose numbers differ in the last digit alone
pub some_next : (w : Word) (n i first : ℕ) (before was now : List ℕ) → first ≡ n % 10
    → was ≡ before ++ word_lines w n i
    → now ≡ was ++ word_line w (n / 10 * 10 + (first + i))
    → now ≡ before ++ word_lines w n (i + 1)
some_next w n i first before was now digit lines line =
    let same : n / 10 * 10 + (first + i) ≡ n + i = omega arith in
    line ∙ ap (λ l. l ++ word_line w (n / 10 * 10 + (first + i))) lines
    ∙ append_assoc before (word_lines w n i) (word_line w (n / 10 * 10 + (first + i)))
    ∙ ap (λ m. before ++ (word_lines w n i ++ word_line w m)) same
    ∙ ap (λ l. before ++ l) (sym (words_next w n i))

-- some of the lines more
pub told_more : (w : Word) (n j k m : ℕ) (before was now : List ℕ) → m ≡ n + j
    → was ≡ before ++ word_lines w n j → now ≡ was ++ word_lines w m k
    → now ≡ before ++ word_lines w n (j + k)
told_more w n j k m before was now number lines more =
    more ∙ ap (λ l. l ++ word_lines w m k) lines
    ∙ append_assoc before (word_lines w n j) (word_lines w m k)
    ∙ ap (λ i. before ++ (word_lines w n j ++ word_lines w i k)) number
    ∙ ap (λ l. before ++ l) (sym (words_more w n j k))

-- some of the lines, and those behind them
pub words_split : (w : Word) (n count j : ℕ) → j ≤ count
    → word_lines w n count ≡ word_lines w n j ++ word_lines w (n + j) (count - j)
words_split w n count j within =
    let both : count ≡ j + (count - j) = omega arith in
    ap (word_lines w n) both ∙ words_more w n j (count - j)
