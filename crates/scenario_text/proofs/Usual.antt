-- Lines in their usual form are read as the exact reading says.
use Rattle.std.proofs.Common.{◌≡◌, ℕ, ◌<◌, ◌≤◌, ◌^◌, ◌-◌, ◌||◌, Bool, nat_eq, true, false, List, [], ◌∷◌, ◌++◌, length, codes, Option, Some, None, Ok, Result, IfSome, refl, ◌∙◌, arith}
use Rattle.std.proofs.lemmas.List.{append-nil}
use Rattle.std.proofs.Math.Bool.{and-false}
use Rattle.std.proofs.lemmas.Bool.{and_parts, le-leb, or_parts}
use Rattle.std.proofs.lemmas.Bool.Decides.{nat_tests}
use Rattle.std.specs.Prelude.{bytes_eq, not}
use Rattle.interleave.specs.Line.{number_within}
use Rattle.interleave.specs.declared.schedule.ScheduleKind.{ScheduleKind}
use Rattle.model.specs.declared.status.Major.{Major}
use Rattle.model.specs.declared.status.Status.{Status}
use Rattle.scenario_names.specs.Names.{Named}
use Rattle.scenario_names.specs.Operands.{device_of, status_named}
use Rattle.scenario_text.specs.Line.{dpc_line, interrupt_line, line_of, request_line, run_line, says}
use Rattle.scenario_text.specs.Listing.{Given, given_after, lengthened}
use Rattle.scenario_text.specs.Repeating.{block_in}
use Rattle.scenario_text.specs.Usual.{Reads, SaysUsually, TakesArgument, TakesDevice, TakesMajor, TakesPacket, TakesStatus, TakesThread, begins_another, exactly, expects, is_issued_name, is_packet_name}
use Rattle.scenario_text.specs.declared.quick.SaidUsually.{SaidUsually}
use Rattle.scenario_text.specs.declared.repeating.Block.TheVariants.{Plain}
use Rattle.scenario_steps.specs.declared.scenario.Action.{Action}
use Rattle.scenario_steps.specs.declared.steps.Usual.{Usual}
use Rattle.scenario_steps.specs.declared.steps.Usual.TheVariants.{Request, Interruption, Deferred, Running, ToppedAs}
use Rattle.text.specs.Class.{is_name, is_word}
use Rattle.text.specs.Digits.{BeginsWith, Digits}
use Rattle.text.specs.Major.{major_of}
use Rattle.text.specs.Number.{number_in}
use Rattle.text.specs.Spaced.{ArePlain, IsPlain, spaced}
use Rattle.text.specs.declared.number.Numeral.TheVariants.{Number}
use Rattle.text.proofs.Digits.{digits_form, digits_number, digits_plain}
use Rattle.text.proofs.Spaced.{formless_clean, formless_tokens, not_true, plain_clean, plain_tokens}
use Rattle.text.proofs.Words.{name_plain, word_plain}

-- tests
neither : {x y : Bool} → (x || y) ≡ false → (x ≡ false) × (y ≡ false)
neither {x} {y} none = or_parts x y none

-- the number of a thread
no_letter : (d : ℕ) → d ≤ 57 → nat_eq d 97 ≡ false
no_letter d high = grind (arith, nat_tests)

not_all : (ds : List ℕ) → 0 < length ds → Digits ds → bytes_eq ds (codes "all") ≡ false
not_all [] some digits = absurd (omega (arith, some))
not_all (d ∷ ds) some (low, high, digits) = rw (no_letter d high) refl

number_read : (n most : ℕ) (word : List ℕ) → number_in word ≡ Number n → n ≤ most
    → number_within 0 most word ≡ Some n
number_read n most word writes few =
    rw (writes, le-leb 0 n (omega arith), le-leb n most few) refl

pub thread_taken : {bytes rest later : List ℕ} {n : ℕ} → bytes ≡ 32 ∷ rest
    → BeginsWith 2 rest n later → n < 100 → TakesThread bytes n later
thread_taken {bytes} {rest} {later} {n} here found few = record {
  word = found.digits;
  parts = rw (here, found.parts) refl;
  plain = digits_plain found.digits found.some found.all;
  one = not_all found.digits found.some found.all;
  small = few;
  says = rw (
    number_read n 255 found.digits
        (digits_number found.digits n found.some found.all found.writes (omega (arith, few)))
        (omega (arith, few)),
    digits_form found.digits found.some found.all,
  ) refl;
}

-- the name of a device
pub device_taken : {devices : List (List ℕ)} {bytes : List ℕ} (word rest : List ℕ) {d : ℕ}
    → bytes ≡ 32 ∷ word ++ rest → is_name word ≡ true → device_of devices word ≡ Ok d
    → TakesDevice devices bytes d rest
device_taken {devices} {bytes} word rest {d} here is read =
    record { word = word; parts = here; plain = name_plain word is; says = read }

-- the word of a major function
pub major_taken : {bytes : List ℕ} (word rest : List ℕ) {m : Major} → bytes ≡ 32 ∷ word ++ rest
    → is_word word ≡ true → major_of word ≡ Some m → TakesMajor bytes m rest
major_taken {bytes} word rest {m} here is read =
    record { word = word; parts = here; plain = word_plain word is; says = rw read refl }

-- an argument
pub argument_taken : {bytes rest later : List ℕ} {most n : ℕ} → bytes ≡ 32 ∷ rest
    → BeginsWith most rest n later → later ≡ [] → n ≤ 4294967295 → TakesArgument bytes n
argument_taken {bytes} {rest} {later} {most} {n} here found done few = record {
  word = found.digits;
  parts = rw (here, found.parts, done, append-nil found.digits) refl;
  plain = digits_plain found.digits found.some found.all;
  says = rw (
    number_read n (2 ^ 64 - 1) found.digits
        (digits_number found.digits n found.some found.all found.writes (omega (arith, few)))
        (omega (arith, few)),
    digits_form found.digits found.some found.all,
  ) refl;
}

-- the operands of each kind of line
pub run_read : (names : Named) {a rest : List ℕ} {t : ℕ} → TakesThread a t rest → rest ≡ []
    → Reads (run_line names) (λ _. None) a (Running t)
run_read names {a} {rest} {t} thread done = record {
  words = thread.word ∷ [];
  parts = rw (thread.parts, done) refl;
  plain = (thread.plain, tt);
  says = rw (thread.one, thread.says) refl;
  names = λ word. refl;
}

pub dpc_read : (names : Named) {a b rest : List ℕ} {t d : ℕ} → TakesThread a t b
    → TakesDevice names.devices b d rest → rest ≡ []
    → Reads (dpc_line names) (λ _. None) a (Deferred t d)
dpc_read names {a} {b} {rest} {t} {d} thread device done = record {
  words = thread.word ∷ device.word ∷ [];
  parts = rw (thread.parts, device.parts, done) refl;
  plain = (thread.plain, (device.plain, tt));
  says = rw (thread.says, device.says) refl;
  names = λ word. refl;
}

pub interrupt_read : (names : Named) {a rest : List ℕ} {d : ℕ}
    → TakesDevice names.devices a d rest → rest ≡ []
    → Reads (interrupt_line names) (λ _. None) a (Interruption d)
interrupt_read names {a} {rest} {d} device done = record {
  words = device.word ∷ [];
  parts = rw (device.parts, done) refl;
  plain = (device.plain, tt);
  says = rw (device.says) refl;
  names = λ word. refl;
}

pub request_read : (names : Named) {a b c e : List ℕ} {t d argument : ℕ} {m : Major}
    → TakesThread a t b → TakesDevice names.devices b d c → TakesMajor c m e
    → TakesArgument e argument
    → Reads (request_line names) (λ word. Some word) a (Request t d m argument)
request_read names {a} {b} {c} {e} {t} {d} {argument} {m} thread device major operand = record {
  words = thread.word ∷ device.word ∷ major.word ∷ operand.word ∷ [];
  parts = rw (thread.parts, device.parts, major.parts, operand.parts, append-nil operand.word) refl;
  plain = (thread.plain, (device.plain, (major.plain, (operand.plain, tt))));
  says = rw (thread.says, device.says, major.says, operand.says) refl;
  names = λ word. refl;
}

-- the word of a status
pub status_taken : {bytes word : List ℕ} {s : Status} → bytes ≡ 32 ∷ word → is_word word ≡ true
    → status_named word ≡ Some s → TakesStatus bytes s
status_taken {bytes} {word} {s} here is says =
    record { word = word; parts = here; form = is; says = says }

-- the name of a packet
pub record OfPacket (word : List ℕ) : Type 0 where
  pub plain : IsPlain word
  pub thread : bytes_eq word (codes "thread") ≡ false
  pub bug : bytes_eq word (codes "bug") ≡ false
  pub refused : bytes_eq word (codes "refused") ≡ false

of_packet : (word : List ℕ) → is_packet_name word ≡ true → OfPacket word
of_packet word is =
    let others : Bool =
    bytes_eq word (codes "thread") || bytes_eq word (codes "bug")
    || bytes_eq word (codes "refused") in
    let parts = and_parts (is_name word) (not others) is in
    let refused = neither (not_true others parts.1) in
    let bug = neither refused.0 in
    record { plain = name_plain word parts.0; thread = bug.0; bug = bug.1; refused = refused.1 }

pub expect_read : (names : Named) {packets : List (List ℕ)} {a b c : List ℕ} {p : ℕ} {s : Status}
    → TakesPacket packets a p b → b ≡ codes " topped" ++ c → TakesStatus c s
    → Reads (expects names packets) (λ _. None) a (ToppedAs p s)
expect_read names {packets} {a} {b} {c} {p} {s} packet topped status =
    let is : OfPacket packet.word = of_packet packet.word packet.named in record {
      words = packet.word ∷ codes "topped" ∷ status.word ∷ [];
      parts = rw (packet.parts, topped, status.parts, append-nil status.word) refl;
      plain = (
        is.plain,
        (record { some = refl; inner = refl; token = refl }, (word_plain status.word status.form, tt)),
      );
      says = rw (
        is.thread,
        is.bug,
        is.refused,
        and-false (bytes_eq packet.word (codes "cancel")),
        and-false (bytes_eq packet.word (codes "start")),
        and-false (bytes_eq packet.word (codes "device")),
        packet.says,
        status.says,
      ) refl;
      names = λ word. refl;
    }

-- a word before operands that the exact reading takes
pub usual_said : (names : Named) (packets : List (List ℕ)) (word line rest : List ℕ)
    (reading : List (List ℕ) → Result Action ScheduleKind) (o : Option Usual) → IsPlain word
    → ((words : List (List ℕ)) → block_in (word ∷ words) ≡ Ok Plain)
    → ((words : List (List ℕ))
    → line_of names packets (word ∷ words) ≡ says false word (reading words))
    → line ≡ word ++ rest → IfSome o (Reads reading (λ _. None) rest)
    → IfSome o (λ usual. SaysUsually names packets line (record { name = None; usual = usual }))
usual_said names packets word line rest reading None is one begins here reads = tt
usual_said names packets word line rest reading (Some usual) is one begins here reads = record {
  tokens = word ∷ reads.words;
  parts = rw (
    here,
    reads.parts,
    plain_clean word reads.words is reads.plain,
    plain_tokens word reads.words is reads.plain,
  ) refl;
  plain = one reads.words;
  says = begins reads.words ∙ rw (reads.says, reads.names word) refl;
}

-- the name of a packet before what issues it
record BeginsNone (word : List ℕ) : Type 0 where
  pub may : bytes_eq word (codes "may") ≡ false
  pub expect : bytes_eq word (codes "expect") ≡ false
  pub together : bytes_eq word (codes "together") ≡ false
  pub run : bytes_eq word (codes "run") ≡ false
  pub step : bytes_eq word (codes "step") ≡ false
  pub cancel : bytes_eq word (codes "cancel") ≡ false
  pub interrupt : bytes_eq word (codes "interrupt") ≡ false
  pub dpc : bytes_eq word (codes "dpc") ≡ false
  pub startio : bytes_eq word (codes "startio") ≡ false
  pub repeat : bytes_eq word (codes "repeat") ≡ false
  pub end : bytes_eq word (codes "end") ≡ false

begins_none : (word : List ℕ) → begins_another word ≡ false → BeginsNone word
begins_none word none =
    let end = neither none in
    let repeat = neither end.0 in
    let may = neither repeat.0 in
    let together = neither may.0 in
    let startio = neither together.0 in
    let cancel = neither startio.0 in
    let step = neither cancel.0 in
    let expect = neither step.0 in
    let interrupt = neither expect.0 in
    let dpc = neither interrupt.0 in
    record {
      may = may.1;
      expect = expect.1;
      together = together.1;
      run = dpc.0;
      step = step.1;
      cancel = cancel.1;
      interrupt = interrupt.1;
      dpc = dpc.1;
      startio = startio.1;
      repeat = repeat.1;
      end = end.1;
    }

pub issue_said : {names : Named} {line : List ℕ} (word rest operands : List ℕ) {usual : Usual}
    → is_issued_name word ≡ true → line ≡ word ++ rest → rest ≡ codes " = issue" ++ operands
    → Reads (request_line names) (λ name. Some name) operands usual → (packets : List (List ℕ))
    → SaysUsually names packets line (record { name = Some word; usual = usual })
issue_said {names} {line} word rest operands {usual} is here behind reads packets =
    let parts = and_parts (is_name word) (not (begins_another word)) is in
    let no = begins_none word (not_true (begins_another word) parts.1) in
    let plain = name_plain word parts.0 in
    let words : List (List ℕ) = codes "issue" ∷ reads.words in
    let are : ArePlain words = (record { some = refl; inner = refl; token = refl }, reads.plain) in
    let whole : line ≡ word ++ (32 ∷ (codes "=" ++ spaced words)) =
    rw (here, behind, reads.parts) refl in
    record {
      tokens = word ∷ codes "=" ∷ words;
      parts = rw (
        whole,
        formless_clean word (codes "=") words plain refl refl are,
        formless_tokens word (codes "=") words plain refl refl are,
      ) refl;
      plain = rw (no.end, no.repeat) refl;
      says = rw (
        no.may,
        no.expect,
        no.together,
        no.run,
        no.step,
        no.cancel,
        no.interrupt,
        no.dpc,
        no.startio,
        parts.0,
        reads.says,
        reads.names word,
      ) refl;
    }

-- what a line gives that is read so
pub usual_given : {names : Named} {line : List ℕ} {said : SaidUsually} (given : Given) (n : ℕ)
    → SaysUsually names given.packets line said
    → given_after names given n line ≡ lengthened given n line (Some (exactly said))
usual_given {names} {line} {said} given n is = rw (is.parts, is.plain, is.says) refl
