-- Lines in their usual form are read as the exact reading says.
use Rattle.std.proofs.Common.{◌≡◌, ℕ, ◌+◌, ◌-◌, ◌<◌, ◌≤◌, ◌^◌, List, [], ◌∷◌, ◌++◌, Option, Some, None, Result, IfSome, refl, ◌∙◌, arith, append_assoc}
use Rattle.std.proofs.lemmas.List.{append-nil}
use Rattle.std.proofs.lemmas.Bool.{le-leb}
use Rattle.model.specs.declared.event.Event.TheVariants.{Issue, Cancel, Interrupt, Dpc, StartIo, Step}
use Rattle.model.specs.declared.status.Major.{Major}
use Rattle.model.specs.declared.status.Major.TheVariants.{Read, Write, Control}
use Rattle.text.specs.Cut.{lines_from, lines_of}
use Rattle.text.specs.Major.{major_of, major_text}
use Rattle.text.specs.Digits.{BeginsWith}
use Rattle.text.specs.Spaced.{spaced, ArePlain, IsPlain}
use Rattle.text.proofs.Digits.{digits_form, digits_number, digits_plain}
use Rattle.text.proofs.Spaced.{lines_on, plain_lexical, plain_tokens, token_clean}
use Rattle.interleave.specs.Line.{cancel_line, dpc_line, event_line, event_of, interrupt_line, issue_line, number_within, startio_line, step_line}
use Rattle.interleave.specs.Usual.{lined, TakesNumber, TakesMajor, TakesUsual, IsCount, Once, Times, Reads}
use Rattle.interleave.specs.declared.schedule.ScheduleKind.{ScheduleKind}
use Rattle.interleave.specs.declared.read.Repeated.{Repeated}

-- a word and words after it are the tokens of the line
read_plain : (word : List ℕ) (words : List (List ℕ)) → IsPlain word → ArePlain words
    → event_line (word ++ spaced words) ≡ event_of (word ∷ words)
read_plain word words is are =
    rw (plain_lexical word words is are, plain_tokens word words is are) refl

-- words up to an LF are in one line
lined_line : (held later : List ℕ) (words : List (List ℕ)) → ArePlain words
    → lines_from held (lined words (10 ∷ later)) ≡ (held ++ spaced words) ∷ lines_of later
lined_line held later [] are = rw (append-nil held) refl
lined_line held later (word ∷ words) (is, are) =
    rw (
      lines_on (held ++ 32 ∷ []) word (lined words (10 ∷ later)) (token_clean word is.inner),
      lined_line ((held ++ 32 ∷ []) ++ word) later words are,
      append_assoc (held ++ 32 ∷ []) word (spaced words),
      append_assoc held (32 ∷ []) (word ++ spaced words),
    ) refl

-- a word, and operands that the exact reading takes
pub line_taken : (word : List ℕ) (reading : List (List ℕ) → Result (Option Repeated) ScheduleKind)
    (text operands later : List ℕ) (o : Option Repeated) → IsPlain word
    → ((words : List (List ℕ)) → event_of (word ∷ words) ≡ reading words)
    → text ≡ word ++ operands → IfSome o (λ r. Reads reading operands r later)
    → IfSome o (λ r. TakesUsual (lines_of text) r (lines_of later))
line_taken word reading text operands later None is begins parts reads = tt
line_taken word reading text operands later (Some r) is begins parts reads = record {
  line = word ++ spaced reads.words;
  parts = rw (
    parts,
    reads.parts,
    lines_on [] word (lined reads.words (10 ∷ later)) (token_clean word is.inner),
    lined_line word later reads.words reads.plain,
  ) refl;
  says = read_plain word reads.words is reads.plain ∙ begins reads.words ∙ reads.says;
}

-- the operands of each kind of line, with numbers in range
number_read : {bytes rest : List ℕ} {n : ℕ} (least most : ℕ) (t : TakesNumber bytes n rest)
    → least ≤ n → n ≤ most → number_within least most t.word ≡ Some n
number_read {bytes} {rest} {n} least most t some few =
    rw (t.writes, le-leb least n some, le-leb n most few) refl

pub interrupt_read : {a e later : List ℕ} {d : ℕ} → TakesNumber a d e → e ≡ 10 ∷ later → d ≤ 255
    → Reads interrupt_line a (record { event = Interrupt d; count = 1 }) later
interrupt_read {a} {e} {later} {d} first done few = record {
  words = first.word ∷ [];
  parts = rw (first.parts, done) refl;
  plain = (first.plain, tt);
  says = rw (number_read 0 255 first (omega arith) few, first.form) refl;
}

pub dpc_read : {a b e later : List ℕ} {t d : ℕ} → TakesNumber a t b → TakesNumber b d e → e ≡ 10 ∷ later
    → t ≤ 255 → d ≤ 255 → Reads dpc_line a (record { event = Dpc t d; count = 1 }) later
dpc_read {a} {b} {e} {later} {t} {d} first second done few less = record {
  words = first.word ∷ second.word ∷ [];
  parts = rw (first.parts, second.parts, done) refl;
  plain = (first.plain, (second.plain, tt));
  says = rw (
    number_read 0 255 first (omega arith) few,
    number_read 0 255 second (omega arith) less,
    first.form,
    second.form,
  ) refl;
}

pub startio_read : {a b e later : List ℕ} {t d : ℕ} → TakesNumber a t b → TakesNumber b d e → e ≡ 10 ∷ later
    → t ≤ 255 → d ≤ 255 → Reads startio_line a (record { event = StartIo t d; count = 1 }) later
startio_read {a} {b} {e} {later} {t} {d} first second done few less = record {
  words = first.word ∷ second.word ∷ [];
  parts = rw (first.parts, second.parts, done) refl;
  plain = (first.plain, (second.plain, tt));
  says = rw (
    number_read 0 255 first (omega arith) few,
    number_read 0 255 second (omega arith) less,
    first.form,
    second.form,
  ) refl;
}

pub cancel_read : {a b c e later : List ℕ} {t n l : ℕ} → TakesNumber a t b → TakesNumber b n c
    → TakesNumber c l e → e ≡ 10 ∷ later → t ≤ 255 → n < 2 ^ 64 → l ≤ 255
    → Reads cancel_line a (record { event = Cancel t n l; count = 1 }) later
cancel_read {a} {b} {c} {e} {later} {t} {n} {l} first second third done few fits less = record {
  words = first.word ∷ second.word ∷ third.word ∷ [];
  parts = rw (first.parts, second.parts, third.parts, done) refl;
  plain = (first.plain, (second.plain, (third.plain, tt)));
  says = rw (
    number_read 0 255 first (omega arith) few,
    number_read 0 (2 ^ 64 - 1) second (omega arith) (omega (arith, fits)),
    number_read 0 255 third (omega arith) less,
    first.form,
    second.form,
    third.form,
  ) refl;
}

pub issue_read : {a b c f e later : List ℕ} {t d n : ℕ} {m : Major} → TakesNumber a t b
    → TakesNumber b d c → TakesMajor c m f → TakesNumber f n e → e ≡ 10 ∷ later → t ≤ 255 → d ≤ 255
    → n < 2 ^ 64
    → Reads issue_line a (record { event = Issue t d m n; count = 1 }) later
issue_read {a} {b} {c} {f} {e} {later} {t} {d} {n} {m} first second third fourth done few less fits = record {
  words = first.word ∷ second.word ∷ third.word ∷ fourth.word ∷ [];
  parts = rw (first.parts, second.parts, third.parts, fourth.parts, done) refl;
  plain = (first.plain, (second.plain, (third.plain, (fourth.plain, tt))));
  says = rw (
    third.names,
    number_read 0 255 first (omega arith) few,
    number_read 0 255 second (omega arith) less,
    number_read 0 (2 ^ 64 - 1) fourth (omega arith) (omega (arith, fits)),
    first.form,
    second.form,
    fourth.form,
  ) refl;
}

pub steps_read : {a b later : List ℕ} {t count : ℕ} → TakesNumber a t b → t ≤ 255
    → IsCount b count later
    → Reads step_line a (record { event = Step t; count = count }) later
steps_read {a} {b} {later} {t} {count} first few (Once none one) = record {
  words = first.word ∷ [];
  parts = rw (first.parts, none) refl;
  plain = (first.plain, tt);
  says = rw (number_read 0 255 first (omega arith) few, first.form, one) refl;
}
steps_read {a} {b} {later} {t} {count} first few (Times second least most) = record {
  words = first.word ∷ second.word ∷ [];
  parts = rw (first.parts, second.parts) refl;
  plain = (first.plain, (second.plain, tt));
  says = rw (
    number_read 0 255 first (omega arith) few,
    number_read 1 1000000 second least most,
    first.form,
    second.form,
  ) refl;
}

-- how often, where it stands at the end
pub counts : {bytes rest later : List ℕ} {count : ℕ} → TakesNumber bytes count rest
    → rest ≡ 10 ∷ later → 1 ≤ count → count ≤ 1000000 → IsCount bytes count later
counts {bytes} {rest} {later} {count} takes done least most = Times (rw done at takes) least most

-- a space and a number
pub takes_number : {most : ℕ} (bytes operand rest : List ℕ) (space n : ℕ)
    → bytes ≡ space ∷ operand → space ≡ 32 → BeginsWith most operand n rest → n < 2 ^ 64 → TakesNumber bytes n rest
takes_number bytes operand rest space n parts blank is small = record {
  word = is.digits;
  parts = rw (parts, blank, is.parts) refl;
  plain = digits_plain is.digits is.some is.all;
  form = digits_form is.digits is.some is.all;
  writes = digits_number is.digits n is.some is.all is.writes small;
}

word_plain : (m : Major) → IsPlain (major_text m) × (major_of (major_text m) ≡ Some m)
word_plain Read = (record { some = refl; inner = refl; token = refl }, refl)
word_plain Write = (record { some = refl; inner = refl; token = refl }, refl)
word_plain Control = (record { some = refl; inner = refl; token = refl }, refl)

-- a space and such a word
pub major_taken : {bytes rest : List ℕ} {m : Major} → bytes ≡ 32 ∷ major_text m ++ rest
    → TakesMajor bytes m rest
major_taken {bytes} {rest} {m} parts = record {
  word = major_text m;
  parts = parts;
  plain = (word_plain m).0;
  names = (word_plain m).1;
}
