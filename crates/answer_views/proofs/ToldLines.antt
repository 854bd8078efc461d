-- Lines of events, as their level tells them: of each one, or none.
use Rattle.std.proofs.Common.{◌≡◌, ◌∙◌, ℕ, zero, suc, ◌+◌, ◌-◌, ◌≤◌, Bool, true, false, List, [], ◌∷◌, ◌++◌, Result, Ok, Err, OnOk, refl, sym, ap, arith, length, replicate, subst, take, append_assoc, if◌then◌else◌}
use Rattle.std.proofs.lemmas.List.{append-nil}
use Rattle.report.specs.Reply.{worded_line}
use Rattle.drvhost_devices.specs.declared.manner.Detail.{Detail}
use Rattle.answer_views.specs.Told.{IsTold, Occurrence, ToldOnce, ToldTimes, headed, is_left_out, told_line}

-- one more of the same
told_again : (detail : Detail) (count number : ℕ) (o : Occurrence) (added words : List ℕ)
    → IsTold detail number (replicate count o) added
    → IsTold detail number (replicate (suc count) o)
    (added ++ told_line detail (number + count) o words)
told_again detail zero number o added words none =
    let line = told_line detail (number + 0) o words in
    let numbers : number + 0 ≡ number = omega arith in
    let whole : added ++ line ≡ told_line detail number o words ++ [] =
    ap (λ x. x ++ line) none ∙ ap (λ k. told_line detail k o words) numbers
    ∙ sym (append-nil (told_line detail number o words)) in
    (words, ([], whole, refl))
told_again detail (suc count) number o added words (first, (later, is, told)) =
    let line = told_line detail number o first in
    let last = told_line detail (number + 1 + count) o words in
    let numbers : number + 1 + count ≡ number + suc count = omega arith in
    let more : IsTold detail (number + 1) (replicate (suc count) o) (later ++ last) =
    told_again detail count (number + 1) o later words told in
    let whole : added ++ last ≡ line ++ (later ++ last) =
    ap (λ x. x ++ last) is ∙ append_assoc line later last in
    let all : IsTold detail number (o ∷ replicate (suc count) o) (added ++ last) =
    (first, (later ++ last, whole, more)) in
    subst (λ (k : ℕ). IsTold detail number (o ∷ replicate (suc count) o)
    (added ++ told_line detail k o words)) numbers all

-- none of them is told yet
pub told_none : (detail : Detail) (number : ℕ) (o : Occurrence) (text : List ℕ)
    → ToldTimes detail number o 0 text text
told_none detail number o text = ([], sym (append-nil text), refl)

-- one is told behind so many
pub told_more : (detail : Detail) (k number at : ℕ) (o : Occurrence) (text before more : List ℕ)
    → ToldTimes detail number o k text before → at ≡ number + k → ToldOnce detail at o before more
    → ToldTimes detail number o (k + 1) text more
told_more detail k number at o text before more (added, is, told) numbered (words, adds) =
    let line : List ℕ = told_line detail at o words in
    let more_by_one : suc k ≡ k + 1 = omega arith in
    let all : IsTold detail number (replicate (suc k) o)
    (added ++ told_line detail (number + k) o words) =
    told_again detail k number o added words told in (
      added ++ line,
      adds ∙ ap (λ (x : List ℕ). x ++ line) is ∙ append_assoc text added line,
      subst (λ (j : ℕ). IsTold detail number (replicate j o) (added ++ line)) more_by_one
          (subst (λ (i : ℕ). IsTold detail number (replicate (suc k) o)
          (added ++ told_line detail i o words)) (sym numbered) all),
    )

-- nothing is told of any that are left out
pub none_left : (detail : Detail) (count number : ℕ) (o : Occurrence)
    → is_left_out detail o.acting o.reply ≡ true → IsTold detail number (replicate count o) []
none_left detail zero number o out = refl
none_left detail (suc count) number o out =
    let nothing : [] ≡ told_line detail number o [] ++ [] =
    ap (λ (b : Bool). (if b then [] else worded_line number o.reply []) ++ []) (sym out) in
    ([], ([], nothing, none_left detail count (number + 1) o out))

-- a line is told of an event
pub line_told : (detail : Detail) (number : ℕ) (o : Occurrence) (text more words : List ℕ)
    → is_left_out detail o.acting o.reply ≡ false → more ≡ text ++ worded_line number o.reply words
    → more ≡ text ++ told_line detail number o words
line_told detail number o text more words told added =
    added
    ∙ ap (λ (b : Bool). text ++ (if b then [] else worded_line number o.reply words)) (sym told)

pub lines_of : {T E : Type 0} (r : Result T E) (detail : Detail) (number : ℕ) (o : Occurrence)
    (text more : List ℕ) → is_left_out detail o.acting o.reply ≡ false
    → OnOk r ((words : List ℕ) × (more ≡ text ++ worded_line number o.reply words))
    → OnOk r ((words : List ℕ) × (more ≡ text ++ told_line detail number o words))
lines_of (Ok x) detail number o text more told (words, added) =
    (words, line_told detail number o text more words told added)
lines_of (Err e) detail number o text more told h = tt

-- an event is told, and then so many times more
pub times_more : (detail again : Detail) (number next : ℕ) (o : Occurrence) (count : ℕ)
    (text mid more : List ℕ) → 1 ≤ count → ToldOnce detail number o text mid → again ≡ detail
    → next ≡ number + 1 → ToldTimes again next o (count - 1) mid more
    → ToldTimes detail number o count text more
times_more detail again number next o count text mid more some (words, first) same place
    (added, is, told) =
    let line = told_line detail number o words in
    let all : suc (count - 1) ≡ count = omega (arith, some) in
    let behind : IsTold detail (number + 1) (replicate (count - 1) o) added =
    subst (λ (d : Detail). IsTold d (number + 1) (replicate (count - 1) o) added) same
    (subst (λ (k : ℕ). IsTold again k (replicate (count - 1) o) added) place told) in (
      line ++ added,
      is ∙ ap (λ (x : List ℕ). x ++ added) first ∙ append_assoc text line added,
      subst (λ (k : ℕ). IsTold detail number (replicate k o) (line ++ added)) all
          (words, (added, refl, behind)),
    )

-- or nothing is
pub nothing_told : (detail : Detail) (number : ℕ) (o : Occurrence) (text : List ℕ)
    → is_left_out detail o.acting o.reply ≡ true
    → (words : List ℕ) × (text ≡ text ++ told_line detail number o words)
nothing_told detail number o text left = (
  [],
  sym (append-nil text)
      ∙ ap (λ (b : Bool). text ++ (if b then [] else worded_line number o.reply []))
      (sym left),
)

-- a line is added by its parts
pub parts_added : (text one two three more line front rest : List ℕ)
    → one ≡ text ++ take (length line - 1) line → two ≡ one ++ front → three ≡ two ++ rest
    → more ≡ three ++ 10 ∷ [] → more ≡ text ++ headed line (front ++ rest)
parts_added text one two three more line front rest a b c d =
    let head : List ℕ = take (length line - 1) line in
    let end : List ℕ = 10 ∷ [] in
    d ∙ ap (λ (x : List ℕ). x ++ end) c ∙ ap (λ (x : List ℕ). (x ++ rest) ++ end) b
    ∙ ap (λ (x : List ℕ). ((x ++ front) ++ rest) ++ end) a
    ∙ ap (λ (x : List ℕ). x ++ end) (append_assoc (text ++ head) front rest)
    ∙ append_assoc (text ++ head) (front ++ rest) end
    ∙ append_assoc text head ((front ++ rest) ++ end)
