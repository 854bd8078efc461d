-- Lines in their usual form are read as the exact reading says.
use Rattle.std.proofs.Common.{◌≡◌, ℕ, ◌-◌, ◌<◌, ◌≤◌, ◌^◌, List, [], ◌∷◌, ◌++◌, Option, Some, None, Result, Ok, IfSome, refl, ◌∙◌, arith}
use Rattle.std.proofs.lemmas.Bool.{le-leb}
use Rattle.model.specs.declared.history.Command.{Command}
use Rattle.model.specs.declared.history.Command.TheVariants.{Request, Cancel, Interrupt}
use Rattle.model.specs.declared.history.Name.{Name}
use Rattle.model.specs.declared.status.Major.{Major}
use Rattle.text.specs.Spaced.{spaced, ArePlain, IsPlain}
use Rattle.text.proofs.Spaced.{plain_lexical, plain_tokens}
use Rattle.interleave.specs.Line.{number_within}
use Rattle.interleave.specs.Usual.{TakesNumber, TakesMajor}
use Rattle.interleave.specs.declared.schedule.ScheduleKind.{ScheduleKind}
use Rattle.interleave_texts.specs.Script.{cancel_line, command_line, command_of, interrupt_line, name_at, request_line}
use Rattle.interleave_texts.specs.Usual.{Gives}

-- a word and words after it are the tokens of the line
read_plain : (commands : List Command) (word : List ℕ) (words : List (List ℕ)) → IsPlain word
    → ArePlain words
    → command_line commands (word ++ spaced words) ≡ command_of commands (word ∷ words)
read_plain commands word words is are =
    rw (plain_lexical word words is are, plain_tokens word words is are) refl

-- a word, and operands that the exact reading takes
pub line_given : (commands : List Command) (word : List ℕ)
    (reading : List (List ℕ) → Result (Option Command) ScheduleKind)
    (line operands : List ℕ) (o : Option Command) → IsPlain word
    → ((words : List (List ℕ)) → command_of commands (word ∷ words) ≡ reading words)
    → line ≡ word ++ operands → IfSome o (λ c. Gives reading operands c)
    → IfSome o (λ c. command_line commands line ≡ Ok (Some c))
line_given commands word reading line operands None is begins parts gives = tt
line_given commands word reading line operands (Some c) is begins parts gives =
    rw (parts, gives.parts)
    (read_plain commands word gives.words is gives.plain ∙ begins gives.words ∙ gives.says)

-- the operands of each kind of line, with numbers in range
number_read : {bytes rest : List ℕ} {n : ℕ} (most : ℕ) (t : TakesNumber bytes n rest) → n ≤ most
    → number_within 0 most t.word ≡ Some n
number_read {bytes} {rest} {n} most t few =
    rw (t.writes, le-leb 0 n (omega arith), le-leb n most few) refl

pub interrupt_read : {a e : List ℕ} {d : ℕ} → TakesNumber a d e → e ≡ [] → d ≤ 255
    → Gives interrupt_line a (Interrupt d)
interrupt_read {a} {e} {d} first done few = record {
  words = first.word ∷ [];
  parts = rw (first.parts, done) refl;
  plain = (first.plain, tt);
  says = rw (number_read 255 first few, first.form) refl;
}

pub cancel_read : (commands : List Command) {a b e : List ℕ} {n l : ℕ} {name : Name}
    → TakesNumber a n b → TakesNumber b l e → e ≡ [] → n < 2 ^ 64 → l ≤ 255
    → name_at commands n ≡ Some name → Gives (cancel_line commands) a (Cancel name l)
cancel_read commands {a} {b} {e} {n} {l} {name} first second done fits few named = record {
  words = first.word ∷ second.word ∷ [];
  parts = rw (first.parts, second.parts, done) refl;
  plain = (first.plain, (second.plain, tt));
  says = rw (
    number_read (2 ^ 64 - 1) first (omega (arith, fits)),
    number_read 255 second few,
    first.form,
    second.form,
    named,
  ) refl;
}

pub request_read : {a b c e : List ℕ} {d n : ℕ} {m : Major} → TakesNumber a d b
    → TakesMajor b m c → TakesNumber c n e → e ≡ [] → d ≤ 255 → n < 2 ^ 64
    → Gives request_line a (Request d m n)
request_read {a} {b} {c} {e} {d} {n} {m} first second third done few fits = record {
  words = first.word ∷ second.word ∷ third.word ∷ [];
  parts = rw (first.parts, second.parts, third.parts, done) refl;
  plain = (first.plain, (second.plain, (third.plain, tt)));
  says = rw (
    second.names,
    number_read 255 first few,
    number_read (2 ^ 64 - 1) third (omega (arith, fits)),
    first.form,
    third.form,
  ) refl;
}
